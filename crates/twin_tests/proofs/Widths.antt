-- The free words of windows have one length each.
use Rattle.std.proofs.Common.{◌≡◌, ◌≢◌, ℕ, zero, suc, ◌<◌, List, [], ◌∷◌, length, map, get_or, refl, sym, ap, ◌∙◌, arith, inl, inr}
use Rattle.std.specs.Prelude.{ℤ, ◌⊎◌}
use Rattle.std.specs.List.{AllPairs}
use Rattle.std.proofs.lemmas.List.{length-map}
use Rattle.set_tree.specs.declared.set.Name.{Name}
use Rattle.word_dag.specs.declared.node.Node.{Node}
use Rattle.word_dag.specs.declared.node.Node.TheVariants.{Free}
use Rattle.word_dag.specs.Adding.{IsAt}
use Rattle.word_dag.specs.Nodes.{width_of}
use Rattle.elab_step_expr.specs.Nodes.{AddsFrees}
use Rattle.twin_tests.specs.Framing.{IsWindowWord, IsWordOf}
use Rattle.word_dag.specs.Names.{HasOneWidthEach}

abbrev text_of : Node → List ℕ
text_of (Free x n side t) = x
text_of node = []

abbrev names_in : List Name → List (List ℕ)
names_in names = map (λ (n : Name). n.name) names

Distinct : List Name → Type 0
Distinct names = AllPairs (λ x y. x ≢ y) (names_in names)

-- a word has the name and the length of the name at a place
record IsAtName (names : List Name) (x : List ℕ) (n : ℕ) : Type 0 where
  pub place : ℕ
  pub below : place < length names
  pub name : (d : Name) → x ≡ (get_or names place d).name
  pub width : (d : Name) → n ≡ (get_or names place d).width

name_of_word : (names : List Name) (side cycle : ℕ) (x : List ℕ) (n s : ℕ) (t : ℤ) → IsWordOf names side cycle (Free x n s t) → IsAtName names x n
name_of_word [] side cycle x n s t h = absurd h
name_of_word (y ∷ names) side cycle x n s t (inl e) = record { place = 0; below = omega arith; name = λ d. ap text_of e; width = λ d. ap width_of e }
name_of_word (y ∷ names) side cycle x n s t (inr h) =
    let p = name_of_word names side cycle x n s t h in
    record { place = suc p.place; below = omega (arith, p.below); name = p.name; width = p.width }

named_at : (names : List Name) (i : ℕ) (d : Name) → i < length names → get_or (names_in names) i [] ≡ (get_or names i d).name
named_at [] i d lt = absurd (omega (arith, lt))
named_at (y ∷ names) zero d lt = refl
named_at (y ∷ names) (suc i) d lt = named_at names i d (omega (arith, lt))

order : (i j : ℕ) → (i < j) ⊎ ((i ≡ j) ⊎ (j < i))
order zero zero = inr (inl refl)
order zero (suc j) = inl (omega arith)
order (suc i) zero = inr (inr (omega arith))
order (suc i) (suc j) = elim (order i j) [ inl lt ↦ inl (omega arith) | inr (inl e) ↦ inr (inl (ap suc e)) | inr (inr lt) ↦ inr (inr (omega arith)) ]

differ : (names : List Name) (i j : ℕ) (d : Name) → AllPairs (λ x y. x ≢ y) (names_in names) → i < j → j < length names → (get_or names i d).name ≢ (get_or names j d).name
differ names i j d distinct before lt same =
    let size = length-map names (λ (n : Name). n.name) in
    distinct i j [] before (omega (arith, lt, size)) (named_at names i d (omega arith) ∙ same ∙ sym (named_at names j d lt))

one_width : (names : List Name) (x : List ℕ) (n m : ℕ) → AllPairs (λ x y. x ≢ y) (names_in names) → (d : Name) → IsAtName names x n → IsAtName names x m → n ≡ m
one_width names x n m distinct d p q =
    let same : (get_or names p.place d).name ≡ (get_or names q.place d).name = sym (p.name d) ∙ q.name d in
    elim (order p.place q.place) [
      | inl lt ↦ absurd (differ names p.place q.place d distinct lt q.below same)
      | inr (inl e) ↦ p.width d ∙ ap (λ k. (get_or names k d).width) e ∙ sym (q.width d)
      | inr (inr lt) ↦ absurd (differ names q.place p.place d distinct lt p.below (sym same))
    ]

word_named : (names : List Name) (start nodes : List Node) (x : List ℕ) (n s i : ℕ) (t : ℤ) → start ≡ [] → AddsFrees (λ z. IsWindowWord names 0 z ⊎ IsWindowWord names 1 z) start nodes
    → IsAt nodes i (Free x n s t) → IsAtName names x n
word_named names start nodes x n s i t empty frees at =
    elim (frees (Free x n s t) i refl at) [
      | inl old ↦ absurd (let none : length start ≡ 0 = ap length empty in omega (arith, old.0, none))
      | inr (inl w) ↦ name_of_word names 0 w.0 x n s t w.1
      | inr (inr w) ↦ name_of_word names 1 w.0 x n s t w.1
    ]

some_name : (names : List Name) (i : ℕ) → i < length names → Name
some_name [] i lt = absurd (omega (arith, lt))
some_name (y ∷ names) i lt = y

pub window_widths : (names : List Name) → AllPairs (λ x y. x ≢ y) (map (λ (n : Name). n.name) names) → (start nodes : List Node) → start ≡ []
    → AddsFrees (λ z. IsWindowWord names 0 z ⊎ IsWindowWord names 1 z) start nodes → HasOneWidthEach nodes
window_widths names distinct start nodes empty frees = λ x n m s i j t at there.
    let p = word_named names start nodes x n s i t empty frees at in
    let q = word_named names start nodes x m s j t empty frees there in
    one_width names x n m distinct (some_name names p.place p.below) p q
