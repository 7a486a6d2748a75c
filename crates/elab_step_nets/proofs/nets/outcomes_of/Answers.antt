use Rattle.std.proofs.Common.{arith, ◌≡◌, ◌<◌, ◌++◌, ◌∷◌, [], List, length, get_or, take, sym, ap, ◌∙◌, subst}
use Rattle.vlog_tree.specs.declared.valuation.Entry.{Entry}
use Rattle.word_dag.specs.declared.node.Node.{Node}
use Rattle.elab_step_expr.specs.declared.leaves.Leaf.{Leaf}
use Rattle.elab_step_blocks.specs.Ready.{IsReadyStmt}
use Rattle.elab_step_nets.specs.declared.outcomes.Outcome.{Outcome}
use Rattle.elab_step_nets.specs.Outcomes.{IsOutcome}
use Rattle.elab_step_nets.proofs.Boards.{rest_is, item_among}
use Rattle.elab_step_nets.proofs.Sources.{Passing, passing_next, passing_past, passing_run}
use Rattle.elab_step_nets.proofs.nets.outcomes_of.Goals as goal
use Rattle.elab_step_nets.proofs.nets.outcomes_of.Goals.{then-block, else-block+in_ok-outcome}

pub outcome_of-requires-clause-body : goal.outcome_of-requires-clause-body
outcome_of-requires-clause-body c =
    let f = c.args.flat.now in
    let k = c.block-item.result in
    let i = c.loop-block.block-index in
    let e : k ≡ get_or f.blocks i k = c.block-item.is ∙ ap (λ xs. get_or xs i k) c.as_slice-block-items.ensures in
    let lt : i < length f.blocks = let l = ap length c.as_slice-block-items.ensures in omega (arith, l) in
    let P : List Entry → Type 0 = λ v. IsReadyStmt v k.body in
    subst P (sym (c.loop-block.invariant.same ∙ rest_is f.signals c.args.first.now c.requires.source.board.leaves)) (c.requires.can.blocks k (item_among f.blocks i k k lt e))

pub loop-block-preserved : goal.loop-block-preserved
loop-block-preserved c =
    let f = c.args.flat.now in
    let gs = f.signals in
    let first = c.args.first.now in
    let k = c.block-item.result in
    let i = c.loop-block.block-index in
    let e : k ≡ get_or f.blocks i k = c.block-item.is ∙ ap (λ xs. get_or xs i k) c.as_slice-block-items.ensures in
    let lt : i < length f.blocks = let l = ap length c.as_slice-block-items.ensures in omega (arith, l) in
    let ks = take i f.blocks in
    let os = c.loop-block.all.items in
    let o = c.if-block.outcome in
    let work = c.loop-block.work in
    let ns = c.loop-block.source in
    passing_next gs first c.if-block.work c.if-block.source f.blocks i k k os c.push.new.self.items o lt e c.in_ok-push.ensures.items
    (elim c.if-block.branch [
      | then-block w ↦
          let P : List Leaf → Type 0 = λ z. Passing gs first z c.if-block.source (ks ++ k ∷ []) (os ++ o ∷ []) in
          let Q : List Node → Type 0 = λ z. Passing gs first work z (ks ++ k ∷ []) (os ++ o ∷ []) in
          subst P (sym w.work-is) (subst Q (sym w.source-is) (passing_past gs first work ns ks os k o c.loop-block.invariant w.if-block.true))
      | else-block+in_ok-outcome w ↦
          let next = w.outcome_of.new.leaves in
          let ms = w.outcome_of.new.source in
          let P : List Leaf → Type 0 = λ z. Passing gs first z c.if-block.source (ks ++ k ∷ []) (os ++ o ∷ []) in
          let Q : List Node → Type 0 = λ z. Passing gs first next z (ks ++ k ∷ []) (os ++ o ∷ []) in
          let R : Outcome → Type 0 = λ z. IsOutcome work ms k.body z in
          let h = w.in_ok-outcome.ensures in
          subst P (sym w.work-is) (subst Q (sym w.source-is) (passing_run gs first work ns ks os k o c.loop-block.invariant next ms h.keeps h.same h.set h.back (subst R (sym w.outcome-is) h.outcome)))
    ])
