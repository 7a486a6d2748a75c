use Rattle.std.proofs.Common.{◌≡◌, ℕ, List, ap, sym, subst}
use Rattle.std.proofs.lemmas.Result.{IfOk-weaker}
use Rattle.set_tree.specs.declared.set.Property.{Property}
use Rattle.set_tree.specs.Formulas.{meaning_of}
use Rattle.set_tree.specs.Parts.{IsPosition, largest_window, window_of}
use Rattle.unroll_laws.specs.Tests.{segment_rows}
use Rattle.twin_tests.specs.Building.{Shows, Tests}
use Rattle.meet_lines.specs.declared.line.MeetLine.{MeetLine}
use Rattle.meet_lines.specs.Lines.{SpeaksOf}
use Rattle.meet_lines.specs.Tests.{meet_test}
use Rattle.meet_lines.proofs.Obtaining.{operation_rows, rows_fit, window_taken}
use Rattle.meet_lines.proofs.node.line_node.Goals as goal

pub returns-in-Reset-clause-node : goal.returns-in-Reset-clause-node
returns-in-Reset-clause-node c =
    let set = c.args.set.now in
    IfOk-weaker c.constraints_node.result _ _
    (λ i node d are. let shows = subst (λ (rows : List (List ℕ)). Shows set.names c.args.dag.now rows (λ e. segment_rows d set set.cycles e (largest_window set))) (sym c.as_slice-rows.ensures.value) are.after_reset in
    subst (λ (l : MeetLine). Tests c.constraints_node.new.dag i (meet_test d (meaning_of set) set l)) (sym c.in-Reset.is) (node (λ e. segment_rows d set set.cycles e (largest_window set)) shows)) c.constraints_node.ensures.node

pub rows_before-rows-requires : goal.rows_before-rows-requires
rows_before-rows-requires c =
    let set = c.args.set.now in
    let p = c.in-Operation.p in
    let position : IsPosition set p = subst (λ (l : MeetLine). SpeaksOf set l) c.in-Operation.is c.requires.line in
    let last : c.property_of.result.now.window ≡ window_of set p = ap (λ (q : Property). q.window) c.property_of.ensures in
    rows_fit c.requires.segments.0 set c.args.dag.now p position c.args.segments.now.plain.items c.requires.segments.1.plain c.property_of.result.now.window c.as_slice.result.now c.as_slice.ensures.value last

pub operation_node-requires-clause-follows : goal.operation_node-requires-clause-follows
operation_node-requires-clause-follows c =
    let set = c.args.set.now in
    let p = c.in-Operation.p in
    let position : IsPosition set p = subst (λ (l : MeetLine). SpeaksOf set l) c.in-Operation.is c.requires.line in
    let last : c.property_of.result.now.window ≡ window_of set p = ap (λ (q : Property). q.window) c.property_of.ensures in (
      position,
      window_taken c.requires.segments.0 set c.args.dag.now p position c.args.segments.now.plain.items c.requires.segments.1.plain c.property_of.result.now.window c.as_slice.result.now c.rows_before-rows.result.now c.rows_before-rows.ensures c.as_slice.ensures.value last,
    )

pub returns-in-Operation-clause-node : goal.returns-in-Operation-clause-node
returns-in-Operation-clause-node c =
    let set = c.args.set.now in
    let p = c.in-Operation.p in
    let rows = c.args.segments.now.plain.items in
    let end = c.property_of.result.now.window in
    let last : end ≡ window_of set p = ap (λ (q : Property). q.window) c.property_of.ensures in
    let position : IsPosition set p = subst (λ (l : MeetLine). SpeaksOf set l) c.in-Operation.is c.requires.line in
    IfOk-weaker c.operation_node.result _ _
    (λ i node d are. let shows = operation_rows d set c.args.dag.now p position rows are.plain end c.as_slice.result.now c.rows_before-rows.result.now c.rows_before-rows.ensures c.as_slice.ensures.value last in
    subst (λ (l : MeetLine). Tests c.operation_node.new.dag i (meet_test d (meaning_of set) set l)) (sym c.in-Operation.is) (node (λ e. segment_rows d set 0 e (window_of set p)) shows)) c.operation_node.ensures.node
