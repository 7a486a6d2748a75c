use Rattle.std.proofs.Common.{ap, ◌∙◌, length, sym, subst, List, ℕ}
use Rattle.set_tree.specs.declared.set.Name.{Name}
use Rattle.word_dag.proofs.Valued.{grows_kept}
use Rattle.elab_step_expr.specs.Nodes.{AddsFrees}
use Rattle.elab_step_expr.proofs.Kept.{frees_kept, grows_then}
use Rattle.twin_tests.specs.Framing.{IsWindowWord}
use Rattle.twin_tests_laws.specs.Windows.{rows_from}
use Rattle.twin_tests.specs.Building.{Shows}
use Rattle.twin_tests.proofs.Framed.{window_count, window_shows}
use Rattle.twin_tests.proofs.Standing.{shows_later}
use Rattle.twin_tests.proofs.frame.frame_of.Goals as goal

pub met_nodes-requires-clause-shows : goal.met_nodes-requires-clause-shows
met_nodes-requires-clause-shows c =
    let set = c.args.set.now in
    let d = c.window_nodes.new.dag in
    subst (λ (z : List (List ℕ)). Shows set.names d z (λ e. rows_from set.names e c.args.side 0 (length z))) (sym c.as_slice-2.ensures.value) (window_shows set.names c.as_slice.result.now d c.in_ok-rows.rows.items c.args.side c.args.count c.as_slice.ensures c.in_ok-rows.ensures.rows)

pub returns-clause-grows : goal.returns-clause-grows
returns-clause-grows c = grows_then c.args.dag.now c.window_nodes.new.dag c.met_nodes.new.dag c.in_ok-rows.ensures.grows (grows_kept c.window_nodes.new.dag c.met_nodes.new.dag c.in_ok-met.ensures.keeps)

pub returns-clause-frees : goal.returns-clause-frees
returns-clause-frees c =
    let P : List Name → Type 0 = λ z. AddsFrees (IsWindowWord z c.args.side) c.args.dag.now c.window_nodes.new.dag in
    frees_kept (IsWindowWord c.args.set.now.names c.args.side) c.args.dag.now c.window_nodes.new.dag c.met_nodes.new.dag (subst P c.as_slice.ensures c.in_ok-rows.ensures.frees) c.in_ok-met.ensures.keeps

pub returns-clause-frame : goal.returns-clause-frame
returns-clause-frame c =
    let set = c.args.set.now in
    let d = c.window_nodes.new.dag in
    let rows = c.in_ok-rows.rows.items in
    record {
      rows = shows_later d c.met_nodes.new.dag set.names rows (λ e. rows_from set.names e c.args.side 0 (length rows)) c.in_ok-met.ensures.keeps (window_shows set.names c.as_slice.result.now d rows c.args.side c.args.count c.as_slice.ensures c.in_ok-rows.ensures.rows);
      count = c.in_ok-met.ensures.count ∙ ap (λ (z : List (List ℕ)). length z) c.as_slice-2.ensures.value;
      met = c.in_ok-met.ensures.met;
    }

pub returns-clause-count : goal.returns-clause-count
returns-clause-count c = window_count c.as_slice.result.now c.window_nodes.new.dag c.in_ok-rows.rows.items c.args.side c.args.count c.in_ok-rows.ensures.rows
