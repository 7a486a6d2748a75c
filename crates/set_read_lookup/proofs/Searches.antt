-- Searches through lists: what they find stands there, and they miss nothing.
use Rattle.std.proofs.Common.{◌≡◌, ℕ, suc, ◌+◌, ◌-◌, ◌<◌, inl, inr, List, [], ◌∷◌, ◌++◌, length, take, drop, get_or, drop-cons, add-one, Option, Some, None, Result, Ok, Err, Bool, true, false, not, Bor, refl, sym, ap, subst, ◌∙◌}
use Rattle.std.specs.Prelude.{IfOk}
use Rattle.std.specs.List.{find, flat_map, list_any}
use Rattle.std.specs.Option.{option_copied, option_or}
use Rattle.std.specs.Str.{bytes_eq}
use Rattle.std.proofs.lemmas.List.Folds.{find-append}
use Rattle.std.proofs.lemmas.Slice.Eq.{bytes_eq-Decides}
use Rattle.std.proofs.lemmas.Bool.{not-true}
use Rattle.std.proofs.lemmas.List.{take_rest}
use Rattle.vlog_tree.specs.declared.expr.Name.{Name}
use Rattle.set_tree.specs.declared.text.Declaration.{Declaration}
use Rattle.set_tree.specs.declared.text.PropertyText.{PropertyText}
use Rattle.set_tree.specs.declared.text.SetText.{SetText}
use Rattle.set_read_lookup.specs.declared.names.Wanted.TheVariants as w
use Rattle.set_read_lookup.specs.declared.quantity.Quantity.{Quantity}
use Rattle.set_read_lookup.specs.declared.quantity.Quantity.TheVariants as q
use Rattle.set_read_lookup.specs.Faults.{Has, HasTwice, LeadsTwice, Finds, first_twice, first_next_twice, is_declared, is_wanted, is_no_output, is_no_property, names_used, outputs_used, successors_used, properties_in, signal_names, property_names, StandsUnknown, StandsTwice, Leaves, leaves}

pub by_test : (b : Bool) {P : Type 0} → (b ≡ true → P) → (b ≡ false → P) → P
by_test true y n = y refl
by_test false y n = n refl

module _ {A : Type 0} (p : A → Bool) where
  pub find_has : (xs : List A) (x : A) → find p xs ≡ Some x → Has xs x × (p x ≡ true)
  find_has [] x h = absurd (cc)
  find_has (y ∷ ys) x h = by_test (p y)
      (λ (t : p y ≡ true). let g : Some y ≡ Some x = rw t at h in let same : y ≡ x = cc in (inl same, subst (λ z. p z ≡ true) same t))
      (λ (t : p y ≡ false). let g : find p ys ≡ Some x = rw t at h in let r = find_has ys x g in (inr r.0, r.1))

  pub find_misses : (xs : List A) → find p xs ≡ None → (x : A) → Has xs x → p x ≡ true → ⊥
  find_misses [] h x q t = q
  find_misses (y ∷ ys) h x (inl e) t =
      let g : p y ≡ true = subst (λ z. p z ≡ true) (sym e) t in let k : Some y ≡ None = rw g at h in absurd (cc)
  find_misses (y ∷ ys) h x (inr q) t = by_test (p y)
      (λ (g : p y ≡ true). let k : Some y ≡ None = rw g at h in absurd (cc))
      (λ (g : p y ≡ false). let k : find p ys ≡ None = rw g at h in find_misses ys k x q t)

-- a search through lists, one after another
module _ {A B : Type 0} (h : A → List B) (p : B → Bool) where
  cut : (xs : List A) (i : ℕ) (x : A) → i < length xs → x ≡ get_or xs i x → drop i xs ≡ x ∷ drop (i + 1) xs
  cut xs i x lt is = rw add-one (drop-cons xs i x lt ∙ ap (λ z. z ∷ drop (suc i) xs) (sym is))

  pub passes_at : (xs : List A) (i : ℕ) (x : A) → i < length xs → x ≡ get_or xs i x → (R : Option B) (a : Option (Bor B))
      → find p (flat_map h (drop i xs)) ≡ R → option_copied a ≡ find p (h x) → ((b : Bor B) → a ≡ Some b → ⊥) → find p (flat_map h (drop (i + 1) xs)) ≡ R
  passes_at xs i x lt is R None inv g n =
      (ap (λ z. option_or z (find p (flat_map h (drop (i + 1) xs)))) g ∙ sym (find-append p (h x) (flat_map h (drop (i + 1) xs))))
      ∙ (ap (λ z. find p (flat_map h z)) (sym (cut xs i x lt is)) ∙ inv)
  passes_at xs i x lt is R (Some b) inv g n = absurd (n b refl)

  pub stops_at : (xs : List A) (i : ℕ) (x : A) → i < length xs → x ≡ get_or xs i x → (R : Option B) (b : B)
      → find p (flat_map h (drop i xs)) ≡ R → Some b ≡ find p (h x) → Some b ≡ R
  stops_at xs i x lt is R b inv g =
      (ap (λ z. option_or z (find p (flat_map h (drop (i + 1) xs)))) g ∙ sym (find-append p (h x) (flat_map h (drop (i + 1) xs))))
      ∙ (ap (λ z. find p (flat_map h z)) (sym (cut xs i x lt is)) ∙ inv)

-- parts of a search, side by side
module _ {B : Type 0} (p : B → Bool) where
  pub or_finds : (xs ys : List B) (a b o : Option (Bor B)) → option_copied a ≡ find p xs → option_copied b ≡ find p ys → o ≡ option_or a b → option_copied o ≡ find p (xs ++ ys)
  or_finds xs ys None b o f g h = ap option_copied h ∙ (g ∙ (ap (λ z. option_or z (find p ys)) f ∙ sym (find-append p xs ys)))
  or_finds xs ys (Some x) b o f g h = ap option_copied h ∙ (ap (λ z. option_or z (find p ys)) f ∙ sym (find-append p xs ys))

-- what a search that finds nothing says
pub none_copied : {B : Type 0} (a : Option (Bor B)) (R : Option B) → option_copied a ≡ R → ((b : Bor B) → a ≡ Some b → ⊥) → None ≡ R
none_copied None R e n = e
none_copied (Some b) R e n = absurd (n b refl)

pub none_is : {B : Type 0} (a R : Option B) → a ≡ R → ((b : B) → a ≡ Some b → ⊥) → None ≡ R
none_is None R e n = e
none_is (Some b) R e n = absurd (n b refl)

pub finds_none : {B : Type 0} (P : B → Type 0) (a : Option B) → Finds P a → ((b : B) → a ≡ Some b → ⊥) → (b : B) → P b → ⊥
finds_none P None f n = f
finds_none P (Some b) f n = absurd (n b refl)

pub finds_none_copied : {B : Type 0} (P : B → Type 0) (a : Option (Bor B)) → Finds P (option_copied a) → ((b : Bor B) → a ≡ Some b → ⊥) → (b : B) → P b → ⊥
finds_none_copied P None f n = f
finds_none_copied P (Some b) f n = absurd (n b refl)

-- ---- names that stand twice

any_has : (ns : List (List ℕ)) (n : List ℕ) → list_any (λ m. bytes_eq m n) ns ≡ true → Has ns n
any_has [] n h = absurd (cc)
any_has (m ∷ ms) n h = by_test (bytes_eq m n)
    (λ (t : bytes_eq m n ≡ true). inl ((bytes_eq-Decides m n).0 t))
    (λ (t : bytes_eq m n ≡ false). inr (any_has ms n (rw t at h)))

has_any : (ns : List (List ℕ)) (n : List ℕ) → Has ns n → list_any (λ m. bytes_eq m n) ns ≡ true
has_any [] n h = absurd h
has_any (m ∷ ms) n (inl e) = let t : bytes_eq m n ≡ true = (bytes_eq-Decides m n).1 e in rw t refl
has_any (m ∷ ms) n (inr r) = by_test (bytes_eq m n)
    (λ (t : bytes_eq m n ≡ true). rw t refl)
    (λ (t : bytes_eq m n ≡ false). rw t (has_any ms n r))

-- a search for a name that stands again
again_at : (ns : List (List ℕ)) (i : ℕ) (n : List ℕ) → i < length ns → n ≡ get_or ns i n → (R : Option (List ℕ)) → first_twice (drop i ns) ≡ R
    → list_any (λ m. bytes_eq m n) (drop (i + 1) ns) ≡ true → Some n ≡ R
again_at ns i n lt is R inv t =
    let c : drop i ns ≡ n ∷ drop (i + 1) ns = rw add-one (drop-cons ns i n lt ∙ ap (λ z. z ∷ drop (suc i) ns) (sym is)) in
    let k : first_twice (n ∷ drop (i + 1) ns) ≡ Some n = rw t refl in
    sym k ∙ (ap first_twice (sym c) ∙ inv)

once_at : (ns : List (List ℕ)) (i : ℕ) (n : List ℕ) → i < length ns → n ≡ get_or ns i n → (R : Option (List ℕ)) → first_twice (drop i ns) ≡ R
    → list_any (λ m. bytes_eq m n) (drop (i + 1) ns) ≡ false → first_twice (drop (i + 1) ns) ≡ R
once_at ns i n lt is R inv t =
    let c : drop i ns ≡ n ∷ drop (i + 1) ns = rw add-one (drop-cons ns i n lt ∙ ap (λ z. z ∷ drop (suc i) ns) (sym is)) in
    let k : first_twice (n ∷ drop (i + 1) ns) ≡ first_twice (drop (i + 1) ns) = rw t refl in
    sym k ∙ (ap first_twice (sym c) ∙ inv)

module _ (ns : List (List ℕ)) (i : ℕ) (n b : List ℕ) (r : Bool) (lt : i < length ns) (is : n ≡ get_or ns i n) (R : Option (List ℕ)) (inv : first_twice (drop i ns) ≡ R) (same : b ≡ n)
    (h : r ≡ list_any (λ m. bytes_eq m b) (take (length ns - (i + 1)) (drop (i + 1) ns))) where
  later : list_any (λ m. bytes_eq m n) (drop (i + 1) ns) ≡ r
  later = (λ z. list_any (λ m. bytes_eq m (sym same z)) (sym (take_rest ns (i + 1)) z)) ∙ sym h

  pub stands_again : r ≡ true → Some n ≡ R
  stands_again t = again_at ns i n lt is R inv (later ∙ t)

  pub stands_once : r ≡ false → first_twice (drop (i + 1) ns) ≡ R
  stands_once t = once_at ns i n lt is R inv (later ∙ t)

twice_later : (n : List ℕ) (ns : List (List ℕ)) → ((x : List ℕ) → n ≡ x → Has ns x → ⊥) → (o : Option (List ℕ)) → Finds (HasTwice ns) o → Finds (HasTwice (n ∷ ns)) o
twice_later n ns last None f = λ x r. elim r [ inl s ↦ last x s.0 s.1 | inr s ↦ f x s ]
twice_later n ns last (Some y) f = inr f

pub twice_finds : (ns : List (List ℕ)) → Finds (HasTwice ns) (first_twice ns)
twice_finds [] = λ x r. r
twice_finds (n ∷ ns) = by_test (list_any (λ m. bytes_eq m n) ns)
    (λ (t : list_any (λ m. bytes_eq m n) ns ≡ true). rw t (inl (refl, any_has ns n t)))
    (λ (t : list_any (λ m. bytes_eq m n) ns ≡ false). rw t (twice_later n ns (λ x s h. let u : list_any (λ m. bytes_eq m n) ns ≡ true = has_any ns n (subst (Has ns) (sym s) h) in absurd (cc)) (first_twice ns) (twice_finds ns)))

next_later : (p : PropertyText) (ps : List PropertyText) (a b : Option (List ℕ)) → Finds (HasTwice p.next) a → Finds (LeadsTwice ps) b → Finds (LeadsTwice (p ∷ ps)) (option_or a b)
next_later p ps None None f g = λ x r. elim r [ inl s ↦ f x s | inr s ↦ g x s ]
next_later p ps None (Some y) f g = inr g
next_later p ps (Some x) b f g = inl f

pub next_finds : (ps : List PropertyText) → Finds (LeadsTwice ps) (first_next_twice ps)
next_finds [] = λ x r. r
next_finds (p ∷ ps) = next_later p ps (first_twice p.next) (first_next_twice ps) (twice_finds p.next) (next_finds ps)

-- what the three searches find
module _ (t : SetText) where
  pub signal_stands : (n : List ℕ) → Some n ≡ first_twice (signal_names t) → StandsTwice t n
  signal_stands n h = inl (subst (Finds (HasTwice (signal_names t))) (sym h) (twice_finds (signal_names t)))

  pub property_stands : (n : List ℕ) → Some n ≡ first_twice (property_names t) → StandsTwice t n
  property_stands n h = inr (inl (subst (Finds (HasTwice (property_names t))) (sym h) (twice_finds (property_names t))))

  pub twice_all : None ≡ first_twice (signal_names t) → None ≡ first_twice (property_names t) → (o : Option (List ℕ)) → o ≡ first_next_twice (properties_in t) → Finds (StandsTwice t) o
  twice_all a b None c = λ n r. elim r [
    | inl s ↦ subst (Finds (HasTwice (signal_names t))) (sym a) (twice_finds (signal_names t)) n s
    | inr r' ↦ elim r' [
      | inl s ↦ subst (Finds (HasTwice (property_names t))) (sym b) (twice_finds (property_names t)) n s
      | inr s ↦ subst (Finds (LeadsTwice (properties_in t))) (sym c) (next_finds (properties_in t)) n s
    ]
  ]
  twice_all a b (Some n) c = inr (inr (subst (Finds (LeadsTwice (properties_in t))) (sym c) (next_finds (properties_in t))))

  pub twice_ok : {E : Type 0} → None ≡ first_twice (signal_names t) → None ≡ first_twice (property_names t) → (r : Result (Option (List ℕ)) E)
      → IfOk r (λ o. o ≡ first_next_twice (properties_in t)) → IfOk r (Finds (StandsTwice t))
  twice_ok a b (Ok o) c = twice_all a b o c
  twice_ok a b (Err e) c = c

  -- ---- names that aren't declared

  pub undeclared_stands : (ds : Bor (List Declaration)) (x : Name) → ds.now ≡ t.declarations → Some x ≡ find (is_wanted (w.Undeclared ds)) (names_used t) → StandsUnknown t x.text
  undeclared_stands ds x e h =
      let r : Has (names_used t) x × (is_wanted (w.Undeclared ds) x ≡ true) = find_has (is_wanted (w.Undeclared ds)) (names_used t) x (sym h) in
      inl (x, r.0, refl, ap (λ z. is_declared z x.text) (sym e) ∙ not-true (is_declared ds.now x.text) r.1)

  pub uncovered_stands : (n : List ℕ) → Some n ≡ find (is_no_output t.declarations) (outputs_used t) → StandsUnknown t n
  uncovered_stands n h = inr (inl (find_has (is_no_output t.declarations) (outputs_used t) n (sym h)))

  pub unknown_all : (ds : Bor (List Declaration)) → ds.now ≡ t.declarations → None ≡ find (is_wanted (w.Undeclared ds)) (names_used t) → None ≡ find (is_no_output t.declarations) (outputs_used t)
      → (o : Option (List ℕ)) → o ≡ find (is_no_property t.operations) (successors_used t) → Finds (StandsUnknown t) o
  unknown_all ds e a b None c = λ n r. elim r [
    | inl s ↦ find_misses (is_wanted (w.Undeclared ds)) (names_used t) (sym a) s.0 s.1
        (ap not (ap (λ z. is_declared z s.0.text) e ∙ (ap (is_declared t.declarations) s.2 ∙ s.3)))
    | inr r' ↦ elim r' [
      | inl s ↦ find_misses (is_no_output t.declarations) (outputs_used t) (sym b) n s.0 s.1
      | inr s ↦ find_misses (is_no_property t.operations) (successors_used t) (sym c) n s.0 s.1
    ]
  ]
  unknown_all ds e a b (Some n) c = inr (inr (find_has (is_no_property t.operations) (successors_used t) n (sym c)))

  -- ---- quantities
  pub none_left : leaves t q.Names ≡ false → leaves t q.Operations ≡ false → leaves t q.Constraints ≡ false → leaves t q.Invariants ≡ false → leaves t q.Cycles ≡ false
      → leaves t q.Width ≡ false → leaves t q.Length ≡ false → leaves t q.Window ≡ false → leaves t q.Hands ≡ false → (quantity : Quantity) → Leaves t quantity → ⊥
  none_left a b c d e f g h i = λ quantity s. both (leaves t quantity) s (each quantity)
    where
      each : (quantity : Quantity) → leaves t quantity ≡ false
      each q.Width = f
      each q.Cycles = e
      each q.Length = g
      each q.Window = h
      each q.Operations = b
      each q.Invariants = d
      each q.Constraints = c
      each q.Names = a
      each q.Hands = i

      both : (b : Bool) → b ≡ true → b ≡ false → ⊥
      both b s n = absurd (cc)
