use Rattle.std.proofs.Common.{◌++◌, map, subst}
use Rattle.std.specs.List.{flat_map}
use Rattle.std.specs.Option.{option_to_list}
use Rattle.set_read_lookup.specs.Formed.{formulas_of}
use Rattle.set_read_lookup.specs.Tests.{IsPresent, Judges}
use Rattle.set_read_lookup.proofs.Judged.{judge_both}
use Rattle.set_read_lookup.proofs.formed.text_is.Goals as goal

pub returns : goal.returns
returns c =
    let t = c.args.text.now in
    let P = IsPresent c.args.valuation.now in
    judge_both P (flat_map (λ d. option_to_list d.domain) t.declarations) (map (λ r. r.formula) t.rules ++ (formulas_of t.first ++ flat_map formulas_of t.operations))
    c.in_ok-domains.domains c.both-2.result c.both-3.result c.both-3.ensures
    (subst (λ z. Judges P (flat_map (λ d. option_to_list d.domain) z) c.in_ok-domains.domains) c.as_slice.ensures c.in_ok-domains.ensures)
    (judge_both P (map (λ r. r.formula) t.rules) (formulas_of t.first ++ flat_map formulas_of t.operations) c.in_ok-rules.rules c.both.result c.both-2.result c.both-2.ensures
    (subst (λ z. Judges P (map (λ r. r.formula) z) c.in_ok-rules.rules) c.as_slice-2.ensures c.in_ok-rules.ensures)
    (judge_both P (formulas_of t.first) (flat_map formulas_of t.operations) c.in_ok-first.first c.in_ok-operations.operations c.both.result c.both.ensures c.in_ok-first.ensures
    (subst (λ z. Judges P (flat_map formulas_of z) c.in_ok-operations.operations) c.as_slice-3.ensures c.in_ok-operations.ensures)))
