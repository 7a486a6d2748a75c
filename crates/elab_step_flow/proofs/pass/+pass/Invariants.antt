use Rattle.std.proofs.Common.{◌≡◌, List, drop, take, length}
use Rattle.elab_step_flow.specs.Branches.{AnyAssigned, Gathered, bodies_of}
use Rattle.elab_step_flow.specs.Passes.{EachItemPasses}
use Rattle.elab_step_flow.specs.Sets.{Tables, tables, IsSized, ChangesAt}
use Rattle.elab_step_flow.proofs.Blocks.{Passing}
use Rattle.elab_step_flow.proofs.pass.+pass.Given as goal

abbrev pub invariant-pass_row-loop-stmt : goal.invariant-pass_row-loop-stmt
invariant-pass_row-loop-stmt l = record {
  sized : IsSized (length l.scope) l.flow;
  passes : Passing l.scope l.around l.stmts (drop l.stmt-index l.stmts) (tables l.initial.flow) (tables l.flow);
  changes : ChangesAt (λ i. AnyAssigned l.scope l.stmts i) (tables l.initial.flow) (tables l.flow);
}

abbrev pub invariant-pass_items-loop-item : goal.invariant-pass_items-loop-item
invariant-pass_items-loop-item l = record {
  sized : IsSized (length l.scope) l.flow;
  back : ◌≡◌ {A = Tables} (tables l.flow) (tables l.initial.flow);
  items : (us : List Tables) × EachItemPasses l.scope l.around (take l.item-index l.items) (tables l.initial.flow) us
      × Gathered l.scope (bodies_of (take l.item-index l.items)) (tables l.initial.flow) us l.initial.branches.common.items l.branches;
}
