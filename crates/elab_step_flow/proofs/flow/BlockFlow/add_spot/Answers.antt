use Rattle.std.proofs.Common.{◌<◌, ◌↔◌, ◌⊎◌, ◌∷◌, [], List, ℕ, length, set, arith, sym, subst}
use Rattle.std.specs.Prelude.{bit_or}
use Rattle.vlog_tree_runs.specs.Places.{Among}
use Rattle.elab_flat_graphs.specs.Graphs.{graph_of, successors}
use Rattle.elab_step_flow.specs.Branches.{AddTo}
use Rattle.elab_step_flow.proofs.Spotting.{of_lists, add_one, word_copied, row_copied}
use Rattle.elab_step_flow.proofs.flow.BlockFlow.add_spot.Goals as goal

pub returns-clause-added : goal.returns-clause-added
returns-clause-added c =
    let x = c.args.spot.now in
    let words = c.args.self.now.unset.items in
    let rows = c.args.self.now.through.items in
    let row = c.add_places.new.all in
    let outside = c.args.self.now.outside.items in
    let lines : x.place < length rows = omega (arith, c.requires.sized.through, c.requires.within) in
    let was = row_copied rows x.place c.index_mut-2.result.now _ lines c.index_mut-2.ensures.value in
    let put : (j : ℕ) → Among row.items j ↔ (Among (successors (graph_of rows) x.place) j ⊎ Among x.row.items j) = λ j.
    subst (λ (z : List ℕ). Among row.items j ↔ (Among (successors (graph_of rows) x.place) j ⊎ Among z j)) c.deref.ensures.value
    (subst (λ (z : List ℕ). Among row.items j ↔ (Among z j ⊎ Among c.deref.result.now j)) was (c.in_ok-add_places.ensures j)) in
    subst (λ (m : ℕ). AddTo (x ∷ []) (of_lists words rows outside) (of_lists (set words x.place (bit_or m x.word)) (set rows x.place row) outside)) (sym (word_copied words x.place c.index.result.now _ c.requires.within c.index.ensures))
    (add_one x words rows row outside c.requires.within lines put)
