use Rattle.std.proofs.Common.{◌≡◌, ℕ, List, ℤ, ◌-ℤ◌, sym, ap, ◌∙◌, arith}
use Rattle.std.proofs.lemmas.Int.{ints}
use Rattle.word_core.specs.Words.{Bits}
use Rattle.word_dag.specs.declared.node.Node.{Node}
use Rattle.word_dag.specs.Nodes.{Naming}
use Rattle.vlog_tree.specs.Value.{integer}
use Rattle.vlog_tree_runs.specs.Places.{write_bits}
use Rattle.elab_step_expr.specs.declared.indexed.Own.{Own}
use Rattle.elab_step_expr.specs.Nodes.{Makes, number_at, wire_word}
use Rattle.elab_step_expr.proofs.Kept.{made_same}
use Rattle.elab_step_blocks.proofs.targets.changed_at.Goals as goal

-- the place that a constant index names
written_at : (old new : List Node) (n size count bits word : ℕ) (x : Own) (w : Bits) (at from : ℤ) → ((e : Naming) → wire_word e old x.wire ≡ w) → Makes new n size (λ e. write_bits size at count (number_at e old bits) (number_at e old word))
    → at ≡ (integer x.signed w.width w.value -ℤ from) → Makes new n size (λ e. write_bits size (integer x.signed x.wire.width (number_at e old x.wire.node) -ℤ from) count (number_at e old bits) (number_at e old word))
written_at old new n size count bits word x w at from is made h =
    made_same new n size _ _ made
    (λ e. ap (λ (i : ℤ). write_bits size i count (number_at e old bits) (number_at e old word)) (h ∙ ap (λ (b : Bits). integer x.signed b.width b.value -ℤ from) (sym (is e))))

pub returns-in_ok-number-in-Some-clause-makes : goal.returns-in_ok-number-in-Some-clause-makes
returns-in_ok-number-in-Some-clause-makes c =
    let i = c.integer.ensures in
    let value = i.value in
    let low = i.low in
    let high = i.high in
    written_at c.args.dag.now c.written.new.dag c.in_ok-number-in-Some.number c.args.write.change.old.width c.args.write.change.bits.width c.args.write.change.bits.node c.args.write.change.old.node c.args.write.index c.in-Some.word _ c.args.from
    c.in-Some.ensures c.in_ok-number-in-Some.ensures.makes (omega (arith, ints, value, low, high))
