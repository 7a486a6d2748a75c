-- The parts of signals that a statement names have its names, and stand at the places of these.
use Rattle.std.proofs.Common.{◌≡◌, ℕ, ◌↔◌, inl, inr, List, [], ◌∷◌, ◌++◌, map, Some, None, Option, refl, sym, ap, ◌∙◌, subst}
use Rattle.std.specs.List.{flat_map}
use Rattle.std.specs.Option.{option_to_list}
use Rattle.std.proofs.lemmas.List.{map-append}
use Rattle.vlog_tree.specs.declared.expr.Expr.{Expr}
use Rattle.vlog_tree.specs.declared.stmt.Lval.{Lval, Row_of-Lval, end_of-Lval, more_of-Lval}
use Rattle.vlog_tree.specs.declared.stmt.Lval.TheVariants as l
use Rattle.vlog_tree.specs.declared.stmt.Stmt.{Stmt}
use Rattle.vlog_tree_runs.specs.Places.{Name, Among}
use Rattle.vlog_tree_runs.specs.Blocks.{left_names}
use Rattle.elab_flat_faults.specs.Texts.{names_in, numbers_in, row_numbers_in}
use Rattle.elab_flat_laws.proofs.Lists.{among_append, append_left, append_right, among_map, map_among, among_flat, flat_among, flat_append}
use Rattle.elab_flat_scopes.specs.Finding.{place_in}
use Rattle.elab_flat_faults.specs.Drivers.{parts_of, row_parts_of}
use Rattle.elab_flat_drivers.specs.Parts.{reads_of}
use Rattle.elab_flat_drivers.specs.Pieces.{Action, Tests, Assigns, Schedules, actions}
use Rattle.elab_flat_drivers.specs.Claims.{part_name}
use Rattle.elab_flat_drivers.specs.Wanting.{part_reads, left_reads}
use Rattle.elab_step_flow.specs.Edges.{part_place, part_places}
use Rattle.elab_step_flow.specs.Marks.{IsPlaceOf}
use Rattle.elab_step_flow.specs.Own.{action_names, action_parts, names_of}
use Rattle.elab_step_flow.proofs.Marking.{reads_names, parts_names}

-- ---- names that an assignment assigns and reads

mutual
  left_reads_names : (left : Lval) → map part_name (left_reads left) ≡ flat_map names_in (numbers_in left)
  left_reads_names (l.Name x) = refl
  left_reads_names (l.Select x a) = map-append part_name (reads_of a) [] ∙ ap (λ z. z ++ []) (sym (reads_names a))
  left_reads_names (l.Part x span a c) =
      let k : map part_name (reads_of a ++ reads_of c) ≡ names_in a ++ names_in c = map-append part_name (reads_of a) (reads_of c) ∙ (λ i. sym (reads_names a) i ++ sym (reads_names c) i) in
      map-append part_name (reads_of a ++ reads_of c) [] ∙ (ap (λ z. z ++ []) k ∙ assoc (names_in a) (names_in c))
    where
      assoc : (xs ys : List Name) → (xs ++ ys) ++ [] ≡ xs ++ (ys ++ [])
      assoc [] ys = refl
      assoc (x ∷ xs) ys = ap (λ z. x ∷ z) (assoc xs ys)
  left_reads_names (l.Concat' g row) = row_reads_names row

  row_reads_names : {n : _} (row : Row_of-Lval n) → map part_name (flat_map part_reads (row_parts_of row)) ≡ flat_map names_in (row_numbers_in row)
  row_reads_names end_of-Lval = refl
  row_reads_names (more_of-Lval a rest) =
      ap (map part_name) (flat_append part_reads (parts_of a) (row_parts_of rest)) ∙ (map-append part_name (left_reads a) (flat_map part_reads (row_parts_of rest))
      ∙ ((λ i. left_reads_names a i ++ row_reads_names rest i) ∙ sym (flat_append names_in (numbers_in a) (row_numbers_in rest))))

pub side_names : (left : Lval) (right : Expr) → map part_name (left_reads left ++ reads_of right) ≡ flat_map names_in (numbers_in left) ++ names_in right
side_names left right = map-append part_name (left_reads left) (reads_of right) ∙ (λ i. left_reads_names left i ++ sym (reads_names right) i)

pub swapped : (xs ys : List Name) (z : Name) → Among (xs ++ ys) z → Among (ys ++ xs) z
swapped xs ys z h = elim (among_append xs ys z h) [ inl f ↦ append_right ys xs z f | inr f ↦ append_left ys xs z f ]

module _ (left : Lval) (right : Expr) (x : Name) where
  abbrev numbers : List Name
  numbers = flat_map names_in (numbers_in left)

  abbrev parts : List Lval
  parts = parts_of left ++ (left_reads left ++ reads_of right)

  parts_same : map part_name parts ≡ left_names left ++ (numbers ++ names_in right)
  parts_same = map-append part_name (parts_of left) (left_reads left ++ reads_of right) ∙ (λ i. sym (parts_names left) i ++ side_names left right i)

  sides : Among (left_names left ++ flat_map names_in (right ∷ numbers_in left)) x ↔ Among (map part_name parts) x
  sides = (there, back)
    where
      there : Among (left_names left ++ (names_in right ++ numbers)) x → Among (map part_name parts) x
      there h = subst (λ xs. Among xs x) (sym parts_same) (elim (among_append (left_names left) (names_in right ++ numbers) x h) [
        | inl f ↦ append_left (left_names left) (numbers ++ names_in right) x f
        | inr f ↦ append_right (left_names left) (numbers ++ names_in right) x (swapped (names_in right) numbers x f)
      ])

      back : Among (map part_name parts) x → Among (left_names left ++ (names_in right ++ numbers)) x
      back h = elim (among_append (left_names left) (numbers ++ names_in right) x (subst (λ xs. Among xs x) parts_same h)) [
        | inl f ↦ append_left (left_names left) (names_in right ++ numbers) x f
        | inr f ↦ append_right (left_names left) (names_in right ++ numbers) x (swapped numbers (names_in right) x f)
      ]

-- ---- names of a statement

stated : (c : Action) (x : Name) → Among (action_names c) x ↔ Among (map part_name (action_parts c)) x
stated (Tests a) x = (λ h. subst (λ xs. Among xs x) (reads_names a) h, λ h. subst (λ xs. Among xs x) (sym (reads_names a)) h)
stated (Assigns left right) x = sides left right x
stated (Schedules left right) x = sides left right x

all_stated : (cs : List Action) (x : Name) → Among (flat_map action_names cs) x ↔ Among (map part_name (flat_map action_parts cs)) x
all_stated cs x = (there, back)
  where
    there : Among (flat_map action_names cs) x → Among (map part_name (flat_map action_parts cs)) x
    there h =
        let r = among_flat action_names cs x h in
        let q = among_map part_name (action_parts r.0) x ((stated r.0 x).0 r.2) in
        subst (λ z. Among (map part_name (flat_map action_parts cs)) z) q.2 (map_among part_name (flat_map action_parts cs) q.0 (flat_among action_parts cs r.0 q.0 r.1 q.1))

    back : Among (map part_name (flat_map action_parts cs)) x → Among (flat_map action_names cs) x
    back h =
        let q = among_map part_name (flat_map action_parts cs) x h in
        let r = among_flat action_parts cs q.0 q.1 in
        flat_among action_names cs r.0 x r.1 ((stated r.0 x).1 (subst (λ z. Among (map part_name (action_parts r.0)) z) q.2 (map_among part_name (action_parts r.0) q.0 r.2)))

-- ---- places of parts

pub listed : (o : Option ℕ) (i : ℕ) → Among (option_to_list o) i → o ≡ Some i
listed None i h = absurd h
listed (Some x) i (inl e) = ap Some e
listed (Some x) i (inr e) = absurd e

pub listing : (o : Option ℕ) (i : ℕ) → o ≡ Some i → Among (option_to_list o) i
listing o i e = subst (λ z. Among (option_to_list z) i) (sym e) (inl refl)

pub placed : (names : List Name) (qs : List Lval) (i : ℕ) → Among (part_places names qs) i ↔ IsPlaceOf names (map part_name qs) i
placed names qs i = (there, back)
  where
    there : Among (part_places names qs) i → IsPlaceOf names (map part_name qs) i
    there h = let r = among_flat (part_place names) qs i h in (part_name r.0, map_among part_name qs r.0 r.1, listed (place_in names (part_name r.0)) i r.2)

    back : IsPlaceOf names (map part_name qs) i → Among (part_places names qs) i
    back (x, m, e) = let r = among_map part_name qs x m in flat_among (part_place names) qs r.0 i r.1 (listing (place_in names (part_name r.0)) i (ap (place_in names) r.2 ∙ e))

pub stated_places : (names : List Name) (body : Stmt) (i : ℕ) → Among (part_places names (flat_map action_parts (actions body))) i ↔ IsPlaceOf names (names_of body) i
stated_places names body i = (
  λ h. let r = (placed names (flat_map action_parts (actions body)) i).0 h in (r.0, (all_stated (actions body) r.0).1 r.1, r.2),
  λ h. (placed names (flat_map action_parts (actions body)) i).1 (h.0, (all_stated (actions body) h.0).0 h.1, h.2),
)
