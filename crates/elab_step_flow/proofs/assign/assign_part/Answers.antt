use Rattle.std.proofs.Common.{List, map, ap, ◌∙◌, subst}
use Rattle.vlog_tree_runs.specs.declared.flat.Signal.{Signal}
use Rattle.elab_flat_scopes.specs.Finding.{place_in}
use Rattle.elab_flat_drivers.specs.Claims.{part_name}
use Rattle.elab_flat_drivers.specs.Parts.{part_meant}
use Rattle.elab_flat_drivers.specs.Spots.{signal_name}
use Rattle.elab_step_flow.specs.Sets.{tables}
use Rattle.elab_step_flow.specs.Words.{IsShapeAt}
use Rattle.elab_step_flow.proofs.Assigning.{part_set}
use Rattle.elab_step_flow.proofs.Edging.{Row}
use Rattle.elab_step_flow.proofs.assign.assign_part.Goals as goal

pub returns-in_ok-set-clause-set : goal.returns-in_ok-set-clause-set
returns-in_ok-set-clause-set c =
    let q = part_meant c.args.part in
    let place = c.in-Some.place in
    let e = c.in_ok-set.ensures in
    part_set c.args.scope.now c.args.sources.now q place c.in_ok-word.word c.shape_at.result (c.in-Some.ensures.place ∙ ap (λ (gs : List Signal). place_in (map signal_name gs) (part_name q)) c.list.ensures)
    (subst (λ (gs : List Signal). IsShapeAt gs place c.shape_at.result) c.list-in-Some.ensures c.shape_at.ensures.shape) c.in_ok-word.ensures (tables c.args.flow.now) (tables c.set.new.self) e.cleared e.kept
    (λ j. e.row j) e.words e.rows (ap (λ (z : Row). z.items) e.outside)
