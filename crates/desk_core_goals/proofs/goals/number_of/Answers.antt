use Rattle.std.proofs.Common.{◌≡◌, true, get_or, sym, ◌∙◌, arith}
use Rattle.set_tree.specs.declared.line.Line.TheVariants.{Base}
use Rattle.desk_core_goals.specs.Asked.{has_name}
use Rattle.desk_core_goals.proofs.Finding.{number_is, number_none}
use Rattle.desk_core_goals.proofs.goals.number_of.Goals as goal

pub returns-then-branch : goal.returns-then-branch
returns-then-branch c =
    let lines = c.args.lines.now in
    let has : has_name c.args.set.now c.args.name.now (get_or lines c.loop-number.number (Base 0)) ≡ true = sym c.in_ok-has_name.ensures ∙ c.if-branch.true in
    number_is (has_name c.args.set.now c.args.name.now) lines c.loop-number.number (Base 0) (omega arith) (λ k h. c.loop-number.invariant k (Base 0) h) has

pub returns : goal.returns
returns c = number_none (has_name c.args.set.now c.args.name.now) c.args.lines.now (Base 0) (λ k h. c.loop-number.invariant k (Base 0) (omega arith))
