-- A path is its first part and what stands behind the first dot.
use Rattle.std.proofs.Common.{◌≡◌, ℕ, ◌+◌, ◌-◌, ◌<◌, ◌≤◌, Bool, true, false, not, ◌&&◌, List, [], ◌∷◌, length, take, drop, Some, None, cond, refl, sym, ap, ◌∙◌, arith}
use Rattle.std.specs.Prelude.{codes}
use Rattle.std.specs.List.{slice_split, position, position_or_len}
use Rattle.std.proofs.lemmas.Bool.{ltb-true, ltb-false}
use Rattle.std.proofs.lemmas.Option.{cond_some}
use Rattle.std.proofs.lemmas.List.Elements.{All-from_get_or}
use Rattle.std.proofs.lemmas.List.{take_rest, length-drop}
use Rattle.std.proofs.lemmas.List.Sums.{fails_before_first}
use Rattle.std.proofs.lemmas.List.Splits.{slice_split_first, slice_split_none, length-slice_split}
use Rattle.vlog_tree.specs.declared.token.Token.{Token}
use Rattle.signoff_places.specs.Tokens.{stands, begins_with_both}
use Rattle.signoff_places.specs.Paths.{is_dot, spells_parts, spells}

split_some : (path : List ℕ) (dot : ℕ) → Some dot ≡ position is_dot path → slice_split is_dot path ≡ take dot path ∷ slice_split is_dot (drop (dot + 1) path)
split_some path dot e =
    let found = cond_some _ _ _ (sym e) in
    slice_split_first is_dot path 0 (ltb-true _ _ found.0) ∙ ap (λ d. take d path ∷ slice_split is_dot (drop (d + 1) path)) found.1

not_found : (b : Bool) (x : ℕ) → None ≡ cond b (Some x) None → b ≡ false
not_found true x e = cc
not_found false x e = refl

split_none : (path : List ℕ) → None ≡ position is_dot path → slice_split is_dot path ≡ path ∷ []
split_none path e =
    let none : length path ≤ position_or_len is_dot path = ltb-false _ _ (not_found _ _ e) in
    slice_split_none is_dot path (All-from_get_or (λ x. is_dot x ≡ false) path 0 (λ k h. fails_before_first is_dot path k 0 (omega arith)))

parts_on : (part : List ℕ) (parts : List (List ℕ)) (here : List Token) → 0 < length parts → spells_parts (part ∷ parts) here ≡ (begins_with_both part (codes ".") here && spells_parts parts (drop 2 here))
parts_on part [] here some = absurd (omega arith)
parts_on part (next ∷ parts) here some = refl

spells_on : (path : List ℕ) (here : List Token) (dot : ℕ) → Some dot ≡ position is_dot path →
    spells path here ≡ (begins_with_both (take dot path) (codes ".") here && spells (drop (dot + 1) path) (drop 2 here))
spells_on path here dot e =
    let long = length-slice_split is_dot (drop (dot + 1) path) in
    ap (λ parts. spells_parts parts here) (split_some path dot e) ∙ parts_on (take dot path) (slice_split is_dot (drop (dot + 1) path)) here (omega arith)

spells_last : (path : List ℕ) (here : List Token) → None ≡ position is_dot path → spells path here ≡ (stands here 0 path && not (stands here 1 (codes ".")))
spells_last path here e = ap (λ parts. spells_parts parts here) (split_none path e)

-- ---- how a comparison with the path goes on

module _ (path : List ℕ) (here : List Token) (whole : Bool) (so_far : spells path here ≡ whole) where
  pub spells_stops : (dot : ℕ) → Some dot ≡ position is_dot path → begins_with_both (take dot path) (codes ".") here ≡ false → false ≡ whole
  spells_stops dot e h = sym (spells_on path here dot e ∙ ap (λ b. b && spells (drop (dot + 1) path) (drop 2 here)) h) ∙ so_far

  pub spells_later : (dot : ℕ) (next : List Token) → Some dot ≡ position is_dot path → begins_with_both (take dot path) (codes ".") here ≡ true → next ≡ drop 2 here →
      spells (take (length path - (dot + 1)) (drop (dot + 1) path)) next ≡ whole
  spells_later dot next e h is =
      ap (λ p. spells p next) (take_rest path (dot + 1))
      ∙ (ap (spells (drop (dot + 1) path)) is ∙ (sym (spells_on path here dot e ∙ ap (λ b. b && spells (drop (dot + 1) path) (drop 2 here)) h) ∙ so_far))

  pub spells_ends : (b : Bool) → None ≡ position is_dot path → stands here 0 path ≡ true → b ≡ stands here 1 (codes ".") → not b ≡ whole
  spells_ends b e h is = ap not is ∙ (sym (spells_last path here e ∙ ap (λ a. a && not (stands here 1 (codes "."))) h) ∙ so_far)

  pub spells_fails : None ≡ position is_dot path → stands here 0 path ≡ false → false ≡ whole
  spells_fails e h = sym (spells_last path here e ∙ ap (λ a. a && not (stands here 1 (codes "."))) h) ∙ so_far

pub shorter : (path : List ℕ) (n size : ℕ) → length path ≤ size → length (take (length path - n) (drop n path)) ≤ size
shorter path n size le = let left : length (take (length path - n) (drop n path)) ≡ length path - n = ap length (take_rest path n) ∙ length-drop n path in omega arith
