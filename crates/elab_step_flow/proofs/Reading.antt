-- The places of the names in expressions.
use Rattle.std.proofs.Common.{◌≡◌, ℕ, ◌↔◌, List, [], ◌∷◌, ◌++◌, map, refl, sym, ◌∙◌, subst}
use Rattle.std.specs.List.{flat_map}
use Rattle.std.proofs.lemmas.List.{map-append}
use Rattle.vlog_tree.specs.declared.expr.Expr.{Expr}
use Rattle.vlog_tree.specs.declared.stmt.Lval.{Lval}
use Rattle.vlog_tree_runs.specs.declared.flat.Signal.{Signal}
use Rattle.vlog_tree_runs.specs.Places.{Name, Among}
use Rattle.elab_flat_faults.specs.Texts.{names_in, numbers_in}
use Rattle.elab_flat_drivers.specs.Parts.{reads_of}
use Rattle.elab_flat_drivers.specs.Claims.{part_name}
use Rattle.elab_flat_drivers.specs.Spots.{signal_name}
use Rattle.elab_flat_drivers.specs.Wanting.{left_reads}
use Rattle.elab_step_flow.specs.Edges.{part_places}
use Rattle.elab_step_flow.specs.Passes.{ReadsAt}
use Rattle.elab_step_flow.specs.Shows.{ArePlacesOf, AreDistinct}
use Rattle.elab_step_flow.proofs.Marking.{reads_names}
use Rattle.elab_step_flow.proofs.Placing.{one_name, place_name, place_of_name}
use Rattle.elab_step_flow.proofs.Showing.{at_lt}
use Rattle.elab_step_flow.proofs.Stating.{placed, side_names, swapped}

module _ (gs : List Signal) (d : AreDistinct gs) where
  abbrev names : List Name
  names = map signal_name gs

  -- the places of parts are those of their names
  pub places_of_names : (qs : List Lval) (xs : List Name) → ((x : Name) → Among xs x ↔ Among (map part_name qs) x) → ArePlacesOf gs (part_places names qs) (λ x. Among xs x)
  places_of_names qs xs same = record {
    within = λ i h. let r = (placed names qs i).0 h in at_lt gs i r.0 (place_name gs r.0 i r.2);
    each = λ i x a. (
      λ h. let r = (placed names qs i).0 h in (same x).1 (subst (λ z. Among (map part_name qs) z) (one_name gs i r.0 x (place_name gs r.0 i r.2) a) r.1),
      λ h. (placed names qs i).1 (x, (same x).0 h, place_of_name gs d x i a),
    );
  }

  -- by copies of the names and the parts
  reads_found : (ns : List Name) (rs qs : List Lval) (as' : List Expr) (found : List ℕ) → ns ≡ names → rs ≡ qs → found ≡ part_places ns rs → ((x : Name) → Among (flat_map names_in as') x ↔ Among (map part_name qs) x) → ReadsAt gs as' found
  reads_found ns rs qs as' found e f g same = subst (λ (z : List ℕ). ReadsAt gs as' z) (sym (g ∙ (λ r. part_places (e r) (f r)))) (places_of_names qs (flat_map names_in as') same)

  pub assignment_read : (ns : List Name) (rs : List Lval) (left : Lval) (right : Expr) (found : List ℕ) → ns ≡ names → rs ≡ left_reads left ++ reads_of right → found ≡ part_places ns rs → ReadsAt gs (right ∷ numbers_in left) found
  assignment_read ns rs left right found e f g = reads_found ns rs (left_reads left ++ reads_of right) (right ∷ numbers_in left) found e f g (λ x. (there x, back x))
    where
      there : (x : Name) → Among (names_in right ++ flat_map names_in (numbers_in left)) x → Among (map part_name (left_reads left ++ reads_of right)) x
      there x h = subst (λ z. Among z x) (sym (side_names left right)) (swapped (names_in right) (flat_map names_in (numbers_in left)) x h)

      back : (x : Name) → Among (map part_name (left_reads left ++ reads_of right)) x → Among (names_in right ++ flat_map names_in (numbers_in left)) x
      back x h = swapped (flat_map names_in (numbers_in left)) (names_in right) x (subst (λ z. Among z x) (side_names left right) h)

  all_reads_names : (as' : List Expr) → map part_name (flat_map reads_of as') ≡ flat_map names_in as'
  all_reads_names [] = refl
  all_reads_names (a ∷ as') = map-append part_name (reads_of a) (flat_map reads_of as') ∙ (λ r. sym (reads_names a) r ++ all_reads_names as' r)

  pub exprs_read : (ns : List Name) (rs : List Lval) (as' : List Expr) (found : List ℕ) → ns ≡ names → rs ≡ flat_map reads_of as' → found ≡ part_places ns rs → ReadsAt gs as' found
  exprs_read ns rs as' found e f g = reads_found ns rs (flat_map reads_of as') as' found e f g (λ x. (λ h. subst (λ z. Among z x) (sym (all_reads_names as')) h, λ h. subst (λ z. Among z x) (all_reads_names as') h))
