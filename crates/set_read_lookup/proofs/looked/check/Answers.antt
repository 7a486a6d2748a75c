use Rattle.std.proofs.Common.{arith, subst}
use Rattle.set_read_lookup.specs.Formed.{formulas_in}
use Rattle.set_read_lookup.specs.Faults.{Leaves, StandsUnknown, StandsTwice}
use Rattle.set_read_lookup.specs.Tests.{declared_entries, IsPresent, Judges}
use Rattle.set_read_lookup.proofs.Searches.{finds_none, finds_none_copied}
use Rattle.set_read_lookup.proofs.Meant.{few_operations}
use Rattle.set_read_lookup.proofs.Uses.{ill_formed, all_valid}
use Rattle.set_read_lookup.proofs.looked.check.Goals as goal

pub unknown_of-requires : goal.unknown_of-requires
unknown_of-requires c = omega (arith, few_operations c.args.text.now (finds_none (Leaves c.args.text.now) c.limit_of.result c.limit_of.ensures c.in_default.not-Some))

pub returns-then-not-branch-clause-err : goal.returns-then-not-branch-clause-err
returns-then-not-branch-clause-err c =
    let t = c.args.text.now in
    ill_formed t c.requires (finds_none (Leaves t) c.limit_of.result c.limit_of.ensures c.in_default.not-Some)
    (finds_none_copied (StandsUnknown t) c.unknown_of.result c.unknown_of.ensures c.in_default-unknown_of.not-Some)
    (subst (Judges (IsPresent (declared_entries t.declarations)) (formulas_in t)) c.if-not-branch.true c.in_ok-all_formed.ensures)

pub returns-clause-ok : goal.returns-clause-ok
returns-clause-ok c =
    let t = c.args.text.now in
    all_valid t (finds_none (Leaves t) c.limit_of.result c.limit_of.ensures c.in_default.not-Some)
    (finds_none_copied (StandsUnknown t) c.unknown_of.result c.unknown_of.ensures c.in_default-unknown_of.not-Some)
    (finds_none (StandsTwice t) c.in_ok-name.field-0 c.in_ok-name.ensures c.in_default-2.not-Some)
    (subst (Judges (IsPresent (declared_entries t.declarations)) (formulas_in t)) c.if-not-branch.false c.in_ok-all_formed.ensures)
