use Rattle.std.proofs.Common.{◌≡◌, ◌%◌, ◌^◌, Bool, true, false, refl, ap, ◌∙◌, to_z, of_z, arith}
use Rattle.std.proofs.lemmas.Int.{ints}
use mir.Syntax.{w128}
use Rattle.std.specs.Prelude.{nat_eq, if◌then◌else◌}
use Rattle.vlog_tree.specs.Value.{bit, moved_down}
use Rattle.elab_step_expr.specs.Nodes.{number_at}
use Rattle.elab_step_expr.proofs.Kept.{made_same, made_node, made_number, number_kept, keeps_then}
use Rattle.elab_step_expr.proofs.indexed.with_code.Goals as goal

bit_test : (t : Bool) → nat_eq (bit t) 1 ≡ t
bit_test true = refl
bit_test false = refl

pub returns-clause-makes : goal.returns-clause-makes
returns-clause-makes c =
    let d = c.args.dag.now in
    let o = c.args.other in
    let one = c.hit.new.dag in
    let two = c.moved.new.dag in
    let h = c.in_ok-hit.ensures.makes in
    let b = c.in_ok-bits.ensures.makes in
    let k = c.in_ok-hit.ensures.keeps in
    let j = c.in_ok-bits.ensures.keeps in
    let z : to_z w128 (of_z w128 c.args.distance) ≡ c.args.distance = omega (arith, ints) in
    made_same c.choice.new.dag c.in_ok-number.number o.width _ _ c.in_ok-number.ensures.makes
    (λ e.
    let test : nat_eq (number_at e two c.in_ok-hit.hit) 1 ≡ nat_eq (number_at e d c.args.word.node) c.args.code =
    ap (λ n. nat_eq n 1) (number_kept e one two c.in_ok-hit.hit 1 j (made_node one c.in_ok-hit.hit 1 _ h) ∙ made_number e one c.in_ok-hit.hit 1 _ h) ∙ bit_test (nat_eq (number_at e d c.args.word.node) c.args.code) in
    let bits : number_at e two c.in_ok-bits.bits ≡ moved_down c.args.distance (number_at e d c.args.a.node) % 2 ^ o.width =
    made_number e two c.in_ok-bits.bits o.width _ b ∙ (λ r. moved_down (z r) (number_kept e d one c.args.a.node c.args.a.width k c.requires.node r) % 2 ^ o.width) in
    let rest : number_at e two o.node ≡ number_at e d o.node = number_kept e d two o.node o.width (keeps_then d one two k j) c.requires.other in
    λ r. if test r then bits r else rest r)

pub returns-in_err-bits-clause-keeps : goal.returns-in_err-bits-clause-keeps
returns-in_err-bits-clause-keeps c = keeps_then c.args.dag.now c.hit.new.dag c.moved.new.dag c.in_ok-hit.ensures.keeps c.moved.ensures.keeps

pub returns-in_err-number-clause-keeps : goal.returns-in_err-number-clause-keeps
returns-in_err-number-clause-keeps c = keeps_then c.args.dag.now c.moved.new.dag c.choice.new.dag (keeps_then c.args.dag.now c.hit.new.dag c.moved.new.dag c.in_ok-hit.ensures.keeps c.in_ok-bits.ensures.keeps) c.choice.ensures.keeps

pub returns-clause-keeps : goal.returns-clause-keeps
returns-clause-keeps c = keeps_then c.args.dag.now c.moved.new.dag c.choice.new.dag (keeps_then c.args.dag.now c.hit.new.dag c.moved.new.dag c.in_ok-hit.ensures.keeps c.in_ok-bits.ensures.keeps) c.in_ok-number.ensures.keeps
