-- Rows that values name, one after another.
use Rattle.std.proofs.Common.{◌≡◌, ℕ, zero, suc, ◌+◌, ◌<◌, List, [], ◌∷◌, ◌++◌, length, take, drop, get_or, map, drop-cons, add-one, refl, sym, ap, ◌∙◌, subst, arith, zero-add}
use Rattle.std.specs.Prelude.{max}
use Rattle.std.specs.List.{All}
use Rattle.set_tree.specs.declared.set.Name.{Name}
use Rattle.set_tree.specs.declared.set.Set.{Set}
use Rattle.set_tree.specs.Lines.{last_row}
use Rattle.set_tree.specs.declared.set.Property.{Property}
use Rattle.set_tree.specs.Parts.{IsPosition, property_at, window_of}
use Rattle.set_tree_structure.specs.Condition.{IsWellFormed}
use Rattle.set_tree.specs.Meaning.{Row}
use Rattle.word_dag.specs.Nodes.{Naming}
use Rattle.twin_tests_laws.specs.Windows.{named_value, rows_from}

-- the elements up to one more
pub take_more : {X : Type 0} (xs : List X) (i : ℕ) (x : X) → i < length xs → x ≡ get_or xs i x → take (suc i) xs ≡ take i xs ++ x ∷ []
take_more [] i x lt is = absurd (omega arith)
take_more (y ∷ ys) zero x lt is = ap (λ z. z ∷ []) (sym is)
take_more (y ∷ ys) (suc i) x lt is = ap (λ zs. y ∷ zs) (take_more ys i x (omega arith) is)

map_more : {X Y : Type 0} (f : X → Y) (xs : List X) (x : X) → map f (xs ++ x ∷ []) ≡ map f xs ++ f x ∷ []
map_more f [] x = refl
map_more f (y ∷ ys) x = ap (λ zs. f y ∷ zs) (map_more f ys x)

-- one more of the elements that are mapped
pub map_next : {X Y : Type 0} (f : X → Y) (xs : List X) (i : ℕ) (x : X) (old new : List Y) (y : Y) → i < length xs → x ≡ get_or xs i x → old ≡ map f (take i xs) → new ≡ old ++ y ∷ [] → y ≡ f x → new ≡ map f (take (i + 1) xs)
map_next f xs i x old new y lt is so pushed made =
    pushed ∙ (ap (λ zs. zs ++ y ∷ []) so ∙ (ap (λ z. map f (take i xs) ++ z ∷ []) made ∙ (sym (map_more f (take i xs) x) ∙ ap (map f) (sym (take_more xs i x lt is) ∙ ap (λ k. take k xs) (sym (add-one i))))))

rows_more : (names : List Name) (e : Naming) (side t k : ℕ) → rows_from names e side t (suc k) ≡ rows_from names e side t k ++ map (named_value e side (t + k)) names ∷ []
rows_more names e side t zero = ap (λ c. map (named_value e side c) names ∷ []) (let is : t ≡ t + 0 = omega arith in is)
rows_more names e side t (suc k) =
    let is : suc t + k ≡ t + suc k = omega arith in
    ap (λ (rows : List Row). map (named_value e side t) names ∷ rows) (rows_more names e side (suc t) k ∙ ap (λ (c : ℕ). rows_from names e side (suc t) k ++ map (named_value e side c) names ∷ []) is)

-- one more row
pub rows_next : (names : List Name) (e : Naming) (side k : ℕ) (old new : List Row) (row : Row) → old ≡ rows_from names e side 0 k → new ≡ old ++ row ∷ [] → row ≡ map (named_value e side k) names → new ≡ rows_from names e side 0 (k + 1)
rows_next names e side k old new row so pushed made =
    let here : row ≡ map (named_value e side (0 + k)) names = made ∙ ap (λ c. map (named_value e side c) names) (sym (zero-add k)) in
    rw add-one (pushed ∙ (ap (λ zs. zs ++ row ∷ []) so ∙ (ap (λ (r : Row). rows_from names e side 0 k ++ r ∷ []) here ∙ sym (rows_more names e side 0 k))))

-- the rest of a list from a place on
cut : {X : Type 0} (xs : List X) (i : ℕ) (x : X) → i < length xs → x ≡ get_or xs i x → drop i xs ≡ x ∷ drop (i + 1) xs
cut xs i x lt is = rw add-one (drop-cons xs i x lt ∙ ap (λ z. z ∷ drop (suc i) xs) (sym is))

last_more : (set : Set) (w x n : ℕ) (qs : List ℕ) → last_row set (max w x) n qs ≡ max x (last_row set w n qs)
last_more set w x n [] = omega arith
last_more set w x n (q ∷ qs) = let rest = last_more set w x n qs in omega (arith, rest)

-- an element doesn't depend on what stands for a missing one
get_same : (xs : List ℕ) (i d e : ℕ) → i < length xs → get_or xs i d ≡ get_or xs i e
get_same [] i d e lt = absurd (omega arith)
get_same (x ∷ xs) zero d e lt = refl
get_same (x ∷ xs) (suc i) d e lt = get_same xs i d e (omega arith)

-- a successor more is looked at
pub last_next : (set : Set) (w n i d new far : ℕ) (qs : List ℕ) → i < length qs → far ≡ window_of set (get_or qs i d) → new ≡ max w (n + far) → last_row set new n (drop (i + 1) qs) ≡ last_row set w n (drop i qs)
last_next set w n i d new far qs lt is made =
    rw (cut qs i (get_or qs i d) lt (get_same qs i d (get_or qs i d) lt), made, is) (last_more set w (n + window_of set (get_or qs i d)) n (drop (i + 1) qs))

-- the successors of a property, as they were handed out, are positions
pub next_positions : (set own : Set) (property : Property) (at : ℕ) (next : List ℕ) → IsWellFormed set → own ≡ set → IsPosition set at → property ≡ property_at own at → next ≡ property.next → All (IsPosition set) next
next_positions set own property at next formed same position is listed =
    let there : next ≡ (property_at set at).next = listed ∙ (ap (λ (p : Property). p.next) is ∙ ap (λ (s : Set). (property_at s at).next) same) in
    subst (λ (qs : List ℕ). All (IsPosition set) qs) (sym there)
    (λ k d lt. formed.successors at (get_or (property_at set at).next k d) position (k, lt, get_same (property_at set at).next k (get_or (property_at set at).next k d) d lt))
