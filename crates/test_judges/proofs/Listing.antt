-- Parts of left sides in the pieces of a statement.
use Rattle.std.proofs.Common.{◌≡◌, List, [], ◌∷◌, ◌++◌, refl, sym, ap, ◌∙◌}
use Rattle.std.specs.List.{flat_map}
use Rattle.vlog_tree.specs.declared.stmt.Stmt.{Stmt}
use Rattle.elab_flat_laws.proofs.Lists.{flat_append}
use Rattle.elab_flat_faults.specs.Drivers.{parts_of}
use Rattle.elab_flat_drivers.specs.declared.names.Form.TheVariants as m
use Rattle.elab_flat_drivers.specs.Names.{action_lefts}
use Rattle.elab_flat_drivers.specs.Pieces.{Action, actions}
use Rattle.elab_flat_drivers.proofs.Naming.{actions_lefts}
use Rattle.test_judges.specs.Driving.{piece_parts, body_parts}

nested : (ds : List Action) → flat_map piece_parts ds ≡ flat_map parts_of (flat_map (action_lefts m.Any) ds)
nested [] = refl
nested (d ∷ ds) = ap (λ z. piece_parts d ++ z) (nested ds) ∙ sym (flat_append parts_of (action_lefts m.Any d) (flat_map (action_lefts m.Any) ds))

pub pieces_parts : (t : Stmt) → flat_map piece_parts (actions t) ≡ body_parts t
pieces_parts t = nested (actions t) ∙ ap (flat_map parts_of) (actions_lefts m.Any t)
