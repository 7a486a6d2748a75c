use Rattle.std.proofs.Common.{◌≡◌, ap, refl, sym, subst, arith}
use Rattle.std.proofs.lemmas.Result.{IfOk-weaker}
use Rattle.set_tree.specs.declared.set.Property.{Property}
use Rattle.set_tree.specs.Formulas.{meaning_of}
use Rattle.set_tree.specs.Parts.{IsPosition, window_of}
use Rattle.unroll_laws.specs.Tests.{line_test, segment_rows}
use Rattle.twin_tests.specs.Building.{Tests}
use Rattle.twin_tests.specs.Framing.{SpeaksOf}
use Rattle.unroll.specs.declared.design_line.DesignLine.{DesignLine}
use Rattle.unroll.specs.Named.{line_of}
use Rattle.unroll.proofs.Rowing.{segment_at}
use Rattle.unroll.proofs.obs.line_node.Goals as goal

pub returns-in-Base-clause-node : goal.returns-in-Base-clause-node
returns-in-Base-clause-node c =
    IfOk-weaker c.base_node.result _ _ (λ i made d are.
    let set = c.args.set.now in
    let rows = c.args.segments.now.after_reset.items in
    let reach = are.reset_reach in
    let shows = segment_at d set set.cycles 0 0 c.args.dag.now rows c.as_slice.result.now c.rows_before-rows.result.now c.rows_before-rows.ensures c.as_slice.ensures.value refl (omega (arith, reach)) are.after_reset in
    subst (λ (l : DesignLine). Tests c.base_node.new.dag i (line_test d (meaning_of set) set (line_of l))) (sym c.in-Base.is) (made (λ e. segment_rows d set set.cycles e 0) shows)) c.base_node.ensures.node

pub returns-in-Step-clause-node : goal.returns-in-Step-clause-node
returns-in-Step-clause-node c =
    IfOk-weaker c.step_node.result _ _ (λ i made d are.
    let set = c.args.set.now in
    let rows = c.args.segments.now.plain.items in
    let shows = segment_at d set 0 1 1 c.args.dag.now rows c.as_slice-in-Step.result.now c.rows_before-rows-in-Step.result.now c.rows_before-rows-in-Step.ensures c.as_slice-in-Step.ensures.value refl are.step_reach are.plain in
    subst (λ (l : DesignLine). Tests c.step_node.new.dag i (line_test d (meaning_of set) set (line_of l))) (sym c.in-Step.is) (made (λ e. segment_rows d set 0 e 1) shows)) c.step_node.ensures.node

pub returns-in-Reset-clause-node : goal.returns-in-Reset-clause-node
returns-in-Reset-clause-node c =
    IfOk-weaker c.reset_node.result _ _ (λ i made d are.
    let set = c.args.set.now in
    let rows = c.args.segments.now.after_reset.items in
    let end = c.property_of.result.now.window in
    let last : end ≡ window_of set 0 = ap (λ (p : Property). p.window) c.property_of.ensures in
    let shows = segment_at d set set.cycles end (window_of set 0) c.args.dag.now rows c.as_slice-in-Reset.result.now c.rows_before-rows-in-Reset.result.now c.rows_before-rows-in-Reset.ensures c.as_slice-in-Reset.ensures.value last are.reset_reach are.after_reset in
    subst (λ (l : DesignLine). Tests c.reset_node.new.dag i (line_test d (meaning_of set) set (line_of l))) (sym c.in-Reset.is) (made (λ e. segment_rows d set set.cycles e (window_of set 0)) shows)) c.reset_node.ensures.node

pub returns-in-Operation-clause-node : goal.returns-in-Operation-clause-node
returns-in-Operation-clause-node c =
    IfOk-weaker c.operation_node.result _ _ (λ i made d are.
    let set = c.args.set.now in
    let p = c.in-Operation.p in
    let rows = c.args.segments.now.plain.items in
    let end = c.property_of-in-Operation.result.now.window in
    let last : end ≡ window_of set p = ap (λ (q : Property). q.window) c.property_of-in-Operation.ensures in
    let position : IsPosition set p = subst (λ (l : DesignLine). SpeaksOf set (line_of l)) c.in-Operation.is c.requires.line in
    let shows = segment_at d set 0 end (window_of set p) c.args.dag.now rows c.as_slice-in-Operation.result.now c.rows_before-rows-in-Operation.result.now c.rows_before-rows-in-Operation.ensures c.as_slice-in-Operation.ensures.value last (are.plain_reach p position) are.plain in
    subst (λ (l : DesignLine). Tests c.operation_node.new.dag i (line_test d (meaning_of set) set (line_of l))) (sym c.in-Operation.is) (made (λ e. segment_rows d set 0 e (window_of set p)) shows)) c.operation_node.ensures.node
