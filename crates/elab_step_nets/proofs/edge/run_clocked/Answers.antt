use Rattle.std.proofs.Common.{arith, ◌≡◌, ◌+◌, ◌≤◌, ◌<◌, ◌∷◌, List, length, drop, get_or, sym, ap, ◌∙◌, subst}
use Rattle.vlog_tree.specs.declared.valuation.Entry.{Entry}
use Rattle.vlog_tree_runs.specs.declared.flat.Always.{Always}
use Rattle.word_dag.specs.declared.node.Node.{Node}
use Rattle.elab_step_expr.specs.declared.leaves.Leaf.{Leaf}
use Rattle.elab_step_blocks.specs.Ready.{IsReadyStmt}
use Rattle.elab_step_nets.proofs.Boards.{rest_is, item_among}
use Rattle.elab_step_nets.proofs.Edges.{Running, running_next, running_past, running_end, blocks_at, blocks_all}
use Rattle.elab_step_nets.proofs.edge.run_clocked.Goals as goal
use Rattle.elab_step_nets.proofs.edge.run_clocked.Goals.{then-block+in_ok-run, else-block}

pub run-requires-clause-stmt : goal.run-requires-clause-stmt
run-requires-clause-stmt c =
    let f = c.args.flat.now in
    let k = c.block-item.result in
    let i = c.loop-block.block-index in
    let e : k ≡ get_or f.blocks i k = c.block-item.is ∙ ap (λ xs. get_or xs i k) c.as_slice-block-items.ensures in
    let lt : i < length f.blocks = let l = ap length c.as_slice-block-items.ensures in omega (arith, l) in
    let P : List Entry → Type 0 = λ v. IsReadyStmt v k.body in
    subst P (sym (c.loop-block.invariant.same ∙ rest_is f.signals c.args.now.now c.requires.board.leaves)) (c.requires.can.blocks k (item_among f.blocks i k k lt e))

pub loop-block-preserved : goal.loop-block-preserved
loop-block-preserved c =
    let f = c.args.flat.now in
    let k = c.block-item.result in
    let i = c.loop-block.block-index in
    let ls = c.args.now.now in
    let a = c.args.dag.now in
    let rest = drop (i + 1) f.blocks in
    let e : k ≡ get_or f.blocks i k = c.block-item.is ∙ ap (λ xs. get_or xs i k) c.as_slice-block-items.ensures in
    let lt : i < length f.blocks = let l = ap length c.as_slice-block-items.ensures in omega (arith, l) in
    let P : List Always → Type 0 = λ z. Running f z ls a c.loop-block.next c.loop-block.dag in
    let h : Running f (k ∷ rest) ls a c.loop-block.next c.loop-block.dag = subst P (blocks_at f.blocks i k k lt e) c.loop-block.invariant in
    let Q : List Leaf → Type 0 = λ z. Running f rest ls a z c.if-block.dag in
    elim c.if-block.branch [
      | then-block+in_ok-run w ↦
          let R : List Node → Type 0 = λ z. Running f rest ls a w.run.new.state z in
          subst Q (sym w.next-is) (subst R (sym w.dag-is)
          (running_next f k rest ls c.loop-block.next w.run.new.state a c.loop-block.dag w.run.new.dag c.requires.board w.if-block.true h w.in_ok-run.ensures.keeps w.in_ok-run.ensures.same w.in_ok-run.ensures.set w.in_ok-run.ensures.runs))
      | else-block w ↦
          let R : List Node → Type 0 = λ z. Running f rest ls a c.loop-block.next z in
          subst Q (sym w.next-is) (subst R (sym w.dag-is) (running_past f k rest ls c.loop-block.next a c.loop-block.dag w.if-block.false h))
    ]

pub returns-clause-shows : goal.returns-clause-shows
returns-clause-shows c =
    let f = c.args.flat.now in
    let i = c.loop-block.block-index in
    let le : length f.blocks ≤ i = let l = ap length c.as_slice-block-items.ensures in omega (arith, l) in
    let P : List Always → Type 0 = λ z. Running f z c.args.now.now c.args.dag.now c.loop-block.next c.loop-block.dag in
    running_end f c.args.now.now c.loop-block.next c.args.dag.now c.loop-block.dag (subst P (blocks_all f.blocks i le) c.loop-block.invariant)
