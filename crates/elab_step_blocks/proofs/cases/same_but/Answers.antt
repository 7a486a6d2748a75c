use Rattle.std.proofs.Common.{◌≡◌, ◌%◌, ◌^◌, ◌<◌, sym, subst, ap, ◌∙◌, arith}
use Rattle.std.specs.Prelude.{nat_eq, bit_or}
use Rattle.vlog_tree.specs.Value.{bit}
use Rattle.elab_step_expr.specs.Nodes.{number_at}
use Rattle.elab_step_expr.proofs.Kept.{made_same, made_node, made_number, number_kept, number_fits, keeps_then}
use Rattle.elab_step_blocks.proofs.Matching.{all_bits, masked}
use Rattle.elab_step_blocks.proofs.cases.same_but.Goals as goal

pub returns-then-bits-eq0-clause-makes : goal.returns-then-bits-eq0-clause-makes
returns-then-bits-eq0-clause-makes c =
    let d = c.args.dag.now in
    let z : c.args.bits ≡ 0 = omega (arith, c.if-bits-eq0.true) in
    made_same c.two.new.dag c.in_ok-number.number 1 _ _ c.in_ok-number.ensures.makes
    (λ e. ap bit (all_bits c.args.bits (number_at e d c.args.a.node) (number_at e d c.args.b.node) z))

pub returns-clause-makes : goal.returns-clause-makes
returns-clause-makes c =
    let d = c.args.dag.now in
    let a = c.args.a in
    let b = c.args.b in
    let one = c.with_bits.new.dag in
    let two = c.with_bits-2.new.dag in
    let l = c.in_ok-left.ensures in
    let r = c.in_ok-right.ensures in
    let fit = c.length_of-length.ensures.fit in
    made_same c.two-2.new.dag c.in_ok-number-2.number 1 _ _ c.in_ok-number-2.ensures.makes
    (λ e.
    let left : number_at e two c.in_ok-left.left ≡ bit_or (number_at e d a.node) (c.args.bits % 2 ^ a.width) =
    number_kept e one two c.in_ok-left.left a.width r.keeps (made_node one c.in_ok-left.left a.width _ l.makes) ∙ made_number e one c.in_ok-left.left a.width _ l.makes in
    let right : number_at e two c.in_ok-right.right ≡ bit_or (number_at e d b.node) (c.args.bits % 2 ^ a.width) =
    made_number e two c.in_ok-right.right b.width _ r.makes ∙ (λ z. bit_or (number_kept e d one b.node b.width l.keeps c.requires.right z) (c.args.bits % 2 ^ sym c.requires.same z)) in
    (λ z. bit (nat_eq (left z) (right z)))
    ∙ ap bit (masked a.width c.args.bits (number_at e d a.node) (number_at e d b.node) (number_fits e d a.node a.width fit c.requires.left)
    (subst (λ n. number_at e d b.node < 2 ^ n) (sym c.requires.same) (number_fits e d b.node b.width fit c.requires.right))))

pub returns-in_err-right-clause-keeps : goal.returns-in_err-right-clause-keeps
returns-in_err-right-clause-keeps c = keeps_then c.args.dag.now c.with_bits.new.dag c.with_bits-2.new.dag c.in_ok-left.ensures.keeps c.with_bits-2.ensures.keeps

pub returns-in_err-number-2-clause-keeps : goal.returns-in_err-number-2-clause-keeps
returns-in_err-number-2-clause-keeps c = keeps_then c.args.dag.now c.with_bits-2.new.dag c.two-2.new.dag (keeps_then c.args.dag.now c.with_bits.new.dag c.with_bits-2.new.dag c.in_ok-left.ensures.keeps c.in_ok-right.ensures.keeps) c.two-2.ensures.keeps

pub returns-clause-keeps : goal.returns-clause-keeps
returns-clause-keeps c = keeps_then c.args.dag.now c.with_bits-2.new.dag c.two-2.new.dag (keeps_then c.args.dag.now c.with_bits.new.dag c.with_bits-2.new.dag c.in_ok-left.ensures.keeps c.in_ok-right.ensures.keeps) c.in_ok-number-2.ensures.keeps
