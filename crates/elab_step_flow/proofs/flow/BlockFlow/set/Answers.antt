use Rattle.std.proofs.Common.{◌<◌, ◌↔◌, ◌⊎◌, List, ℕ, length, arith, sym, subst}
use Rattle.vlog_tree_runs.specs.Places.{Among}
use Rattle.elab_flat_graphs.specs.Graphs.{graph_of, successors}
use Rattle.elab_step_flow.proofs.Edging.{put_here, put_apart}
use Rattle.elab_step_flow.proofs.Spotting.{row_copied}
use Rattle.elab_step_flow.proofs.flow.BlockFlow.set.Goals as goal

pub returns-clause-row : goal.returns-clause-row
returns-clause-row c = λ j.
    let rows = c.args.self.now.through.items in
    let row = c.add_places.new.all in
    let lines : c.args.place < length rows = omega (arith, c.requires.sized.through, c.requires.within) in
    let was = row_copied rows c.args.place c.index_mut-2.result.now _ lines c.index_mut-2.ensures.value in
    let now = sym (put_here rows c.args.place row lines) in
    subst (λ (z : List ℕ). Among z j ↔ (Among (successors (graph_of rows) c.args.place) j ⊎ Among c.args.sources.now j)) now (subst (λ (z : List ℕ). Among row.items j ↔ (Among z j ⊎ Among c.args.sources.now j)) was (c.in_ok-add_places.ensures j))

pub returns-clause-rows : goal.returns-clause-rows
returns-clause-rows c = λ i n. put_apart c.args.self.now.through.items c.args.place i c.add_places.new.all n
