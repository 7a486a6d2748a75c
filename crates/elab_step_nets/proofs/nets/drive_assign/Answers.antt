use Rattle.std.proofs.Common.{arith, true, ◌≡◌, List, length, ℕ, sym, ap, ◌∙◌, subst}
use Rattle.elab_step_expr.specs.declared.leaves.Leaf.{Leaf}
use Rattle.elab_step_blocks.specs.Saving.{saved_at, places_of, put_back, AreWithin}
use Rattle.vlog_tree_runs.specs.Places.{Cycle}
use Rattle.vlog_tree_runs.specs.Blocks.{run}
use Rattle.vlog_tree_runs.specs.Cycles.{flat_place}
use Rattle.elab_step_nets.specs.Solving.{taking}
use Rattle.elab_step_nets.specs.Boards.{IsBoard, Shows, statements, statement_at, names_of}
use Rattle.elab_step_nets.proofs.Boards.{same_long, last_same, last_board, last_shows}
use Rattle.elab_step_nets.proofs.nets.drive_assign.Goals as goal

pub restore-requires-clause-before : goal.restore-requires-clause-before
restore-requires-clause-before c =
    let n = same_long c.args.state.now c.run_assign.new.state c.in_ok-run_assign.ensures.same in
    let P : List ℕ → Type 0 = λ z. AreWithin c.run_assign.new.state z in
    subst P (sym (ap places_of c.deref.ensures.value)) (λ k u l. let w = c.in_ok-before.ensures.saved.within k u l in omega (arith, n, w))

pub restore-requires-clause-nets : goal.restore-requires-clause-nets
restore-requires-clause-nets c k u l =
    let n = same_long c.args.state.now c.run_assign.new.state c.in_ok-run_assign.ensures.same in
    let w = c.requires.nets k u l in
    omega (arith, n, w)

pub returns-clause-long : goal.returns-clause-long
returns-clause-long c =
    let f = c.args.flat.now in
    let ls = c.args.state.now in
    let ms = c.run_assign.new.state in
    let before = c.in_ok-before.before.items in
    let is = c.args.nets.now in
    let e : c.restore.new.state ≡ put_back (put_back ms before) (saved_at ms is) = c.in_ok-restore.ensures ∙ ap (λ z. put_back (put_back ms z) (saved_at ms is)) c.deref.ensures.value in
    ap length e ∙ same_long ls (put_back (put_back ms before) (saved_at ms is))
    (last_same f.signals ls ms c.args.dag.now c.run_assign.new.dag before is c.requires.board c.in_ok-run_assign.ensures.board c.in_ok-run_assign.ensures.same c.in_ok-run_assign.ensures.keeps c.in_ok-before.ensures.saved c.requires.nets)

pub returns-clause-board : goal.returns-clause-board
returns-clause-board c =
    let f = c.args.flat.now in
    let ls = c.args.state.now in
    let ms = c.run_assign.new.state in
    let before = c.in_ok-before.before.items in
    let is = c.args.nets.now in
    let e : c.restore.new.state ≡ put_back (put_back ms before) (saved_at ms is) = c.in_ok-restore.ensures ∙ ap (λ z. put_back (put_back ms z) (saved_at ms is)) c.deref.ensures.value in
    let P : List Leaf → Type 0 = λ z. IsBoard f.signals z c.run_assign.new.dag in
    subst P (sym e)
    (last_board f.signals ls ms c.args.dag.now c.run_assign.new.dag before is c.requires.board c.in_ok-run_assign.ensures.board c.in_ok-run_assign.ensures.same c.in_ok-run_assign.ensures.keeps c.in_ok-before.ensures.saved c.requires.nets)

pub returns-clause-shows : goal.returns-clause-shows
returns-clause-shows c =
    let f = c.args.flat.now in
    let ls = c.args.state.now in
    let ms = c.run_assign.new.state in
    let before = c.in_ok-before.before.items in
    let is = c.args.nets.now in
    let e : c.restore.new.state ≡ put_back (put_back ms before) (saved_at ms is) = c.in_ok-restore.ensures ∙ ap (λ z. put_back (put_back ms z) (saved_at ms is)) c.deref.ensures.value in
    let k = statement_at (statements f) c.args.place in
    let P : List Leaf → Type 0 = λ z. Shows (λ (d : Cycle). taking (names_of f.signals is) (run true (flat_place f) k d d) d) ls c.args.dag.now z c.run_assign.new.dag in
    subst P (sym e)
    (last_shows f.signals ls ms c.args.dag.now c.run_assign.new.dag before is c.requires.board c.in_ok-run_assign.ensures.board c.in_ok-run_assign.ensures.same c.in_ok-run_assign.ensures.keeps c.in_ok-before.ensures.saved c.requires.nets
    k c.in_ok-before.ensures.covers c.in_ok-run_assign.ensures.shows)
