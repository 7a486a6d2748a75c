use Rattle.std.proofs.Common.{◌≡◌, ℕ, ◌%◌, ◌^◌, List, ℤ, ap, ◌∙◌, arith}
use Rattle.std.proofs.lemmas.Int.{ints}
use Rattle.vlog_tree.specs.Value.{moved_down}
use Rattle.word_dag.specs.declared.node.Node.{Node}
use Rattle.word_dag.specs.Nodes.{Naming}
use Rattle.elab_step_expr.specs.Nodes.{Makes, number_at}
use Rattle.elab_step_expr.proofs.Kept.{made_same, made_number, keeps_then}
use Rattle.elab_step_expr.proofs.pieces.fixed_bits.Goals as goal

by_distance : (mid new : List Node) (b r w L : ℕ) (far d : ℤ) (n : Naming → ℕ) → Makes mid b w (λ e. moved_down far (n e) % 2 ^ w) → Makes new r L (λ e. number_at e mid b) → far ≡ d → Makes new r L (λ e. moved_down d (n e) % 2 ^ w)
by_distance mid new b r w L far d n m k is = made_same new r L _ _ k (λ e. made_number e mid b w _ m ∙ ap (λ z. moved_down z (n e) % 2 ^ w) is)

pub returns-clause-makes : goal.returns-clause-makes
returns-clause-makes c =
    by_distance c.moved.new.dag c.extended.new.dag c.in_ok-bits.bits c.in_ok-number.number c.args.width c.args.length _ _ (λ e. number_at e c.args.dag.now c.args.vector.wire.node) c.in_ok-bits.ensures.makes c.in_ok-number.ensures.makes (omega (arith, ints, c.from.ensures))

pub returns-in_err-number-clause-keeps : goal.returns-in_err-number-clause-keeps
returns-in_err-number-clause-keeps c = keeps_then c.args.dag.now c.moved.new.dag c.extended.new.dag c.in_ok-bits.ensures.keeps c.extended.ensures.keeps

pub returns-clause-keeps : goal.returns-clause-keeps
returns-clause-keeps c = keeps_then c.args.dag.now c.moved.new.dag c.extended.new.dag c.in_ok-bits.ensures.keeps c.in_ok-number.ensures.keeps
