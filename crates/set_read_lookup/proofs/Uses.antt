-- The names in the formulas of a set are those that the set uses, so that a formula which isn't well formed is a fault.
use Rattle.std.proofs.Common.{◌≡◌, ◌⊎◌, inl, inr, List, [], ◌∷◌, ◌++◌, map, true, false, refl, sym, subst, ℕ, ap, ◌∙◌}
use Rattle.std.specs.List.{flat_map}
use Rattle.std.specs.Option.{option_to_list, option_map}
use Rattle.vlog_tree.specs.declared.expr.Expr.{Expr}
use Rattle.vlog_tree.specs.declared.expr.Name.{Name}
use Rattle.set_tree.specs.declared.text.PropertyText.{PropertyText}
use Rattle.set_tree.specs.declared.text.SetText.{SetText}
use Rattle.set_read_lookup.specs.declared.quantity.Quantity.{Quantity}
use Rattle.set_read_lookup.specs.declared.quantity.Quantity.TheVariants as q
use Rattle.set_read_lookup.specs.Formed.{formulas_of, formulas_in}
use Rattle.set_read_lookup.specs.Faults.{Has, names_in, names_of, names_used, properties_in, is_declared, leaves, Leaves, StandsLimit, StandsUnknown, StandsTwice, IsValid, HasSmallNumbers}
use Rattle.set_read_lookup.specs.Tests.{declared_entries, IsPresent, Judges}
use Rattle.set_read_lookup.proofs.Meant.{has_left, has_right, names_are, no_is_false}
use Rattle.set_read_lookup.proofs.Searches.{by_test}
use Rattle.set_read_lookup.proofs.Zeros.{is_over, over_is}

pub has_part : {A : Type 0} (xs ys : List A) (x : A) → Has (xs ++ ys) x → Has xs x ⊎ Has ys x
has_part [] ys x h = inr h
has_part (z ∷ zs) ys x (inl e) = inl (inl e)
has_part (z ∷ zs) ys x (inr h) = elim (has_part zs ys x h) [ inl l ↦ inl (inr l) | inr r ↦ inr r ]

pub in_flat : {A B : Type 0} (h : A → List B) (xs : List A) (y : B) → Has (flat_map h xs) y → (x : A) × Has xs x × Has (h x) y
in_flat h [] y k = absurd k
in_flat h (x ∷ xs) y k = elim (has_part (h x) (flat_map h xs) y k) [ inl l ↦ (x, inl refl, l) | inr r ↦ let s = in_flat h xs y r in (s.0, inr s.1, s.2) ]

pub of_flat : {A B : Type 0} (h : A → List B) (xs : List A) (x : A) (y : B) → Has xs x → Has (h x) y → Has (flat_map h xs) y
of_flat h [] x y k l = absurd k
of_flat h (z ∷ zs) x y (inl e) l = has_left (h z) (flat_map h zs) y (subst (λ w. Has (h w) y) (sym e) l)
of_flat h (z ∷ zs) x y (inr k) l = has_right (h z) (flat_map h zs) y (of_flat h zs x y k l)

pub in_map : {A B : Type 0} (h : A → B) (xs : List A) (y : B) → Has (map h xs) y → (x : A) × Has xs x × (h x ≡ y)
in_map h [] y k = absurd k
in_map h (x ∷ xs) y (inl e) = (x, inl refl, e)
in_map h (x ∷ xs) y (inr k) = let s = in_map h xs y k in (s.0, inr s.1, s.2)

pub of_map : {A B : Type 0} (h : A → B) (xs : List A) (x : A) (y : B) → Has xs x → h x ≡ y → Has (map h xs) y
of_map h [] x y k e = absurd k
of_map h (z ∷ zs) x y (inl a) e = inl (ap h a ∙ e)
of_map h (z ∷ zs) x y (inr k) e = inr (of_map h zs x y k e)

used_of : (p : PropertyText) (f : Expr) (x : Name) → Has (formulas_of p) f → Has (names_in f) x → Has (names_of p) x
used_of p f x h k =
    let until = option_to_list (option_map (λ u. u.condition) p.length.until) in
    elim (has_part until (p.assume ++ (p.commit ++ p.hand)) f h) [
      | inl a ↦ has_left (flat_map names_in until) (flat_map names_in p.assume ++ (flat_map names_in p.commit ++ flat_map names_in p.hand)) x (of_flat names_in until f x a k)
      | inr r ↦ has_right (flat_map names_in until) (flat_map names_in p.assume ++ (flat_map names_in p.commit ++ flat_map names_in p.hand)) x (rest r)
    ]
  where
    last : Has (p.commit ++ p.hand) f → Has (flat_map names_in p.commit ++ flat_map names_in p.hand) x
    last r = elim (has_part p.commit p.hand f r) [
      | inl a ↦ has_left (flat_map names_in p.commit) (flat_map names_in p.hand) x (of_flat names_in p.commit f x a k)
      | inr b ↦ has_right (flat_map names_in p.commit) (flat_map names_in p.hand) x (of_flat names_in p.hand f x b k)
    ]

    rest : Has (p.assume ++ (p.commit ++ p.hand)) f → Has (flat_map names_in p.assume ++ (flat_map names_in p.commit ++ flat_map names_in p.hand)) x
    rest r = elim (has_part p.assume (p.commit ++ p.hand) f r) [
      | inl a ↦ has_left (flat_map names_in p.assume) (flat_map names_in p.commit ++ flat_map names_in p.hand) x (of_flat names_in p.assume f x a k)
      | inr b ↦ has_right (flat_map names_in p.assume) (flat_map names_in p.commit ++ flat_map names_in p.hand) x (last b)
    ]

module _ (t : SetText) where
  used : (f : Expr) (x : Name) → Has (formulas_in t) f → Has (names_in f) x → Has (names_used t) x
  used f x h k =
      elim (has_part (flat_map (λ d. option_to_list d.domain) t.declarations) (map (λ r. r.formula) t.rules ++ flat_map formulas_of (properties_in t)) f h) [
        | inl a ↦ has_left domains others x (let s = in_flat (λ d. option_to_list d.domain) t.declarations f a in
            of_flat (λ d. flat_map names_in (option_to_list d.domain)) t.declarations s.0 x s.1 (of_flat names_in (option_to_list s.0.domain) f x s.2 k))
        | inr r ↦ has_right domains others x (other r)
      ]
    where
      domains : List Name
      domains = flat_map (λ d. flat_map names_in (option_to_list d.domain)) t.declarations

      others : List Name
      others = flat_map (λ r. names_in r.formula) t.rules ++ flat_map names_of (properties_in t)

      other : Has (map (λ r. r.formula) t.rules ++ flat_map formulas_of (properties_in t)) f → Has others x
      other r = elim (has_part (map (λ r. r.formula) t.rules) (flat_map formulas_of (properties_in t)) f r) [
        | inl a ↦ has_left (flat_map (λ r. names_in r.formula) t.rules) (flat_map names_of (properties_in t)) x (let s = in_map (λ r. r.formula) t.rules f a in
            of_flat (λ r. names_in r.formula) t.rules s.0 x s.1 (subst (λ z. Has (names_in z) x) (sym s.2) k))
        | inr b ↦ has_right (flat_map (λ r. names_in r.formula) t.rules) (flat_map names_of (properties_in t)) x (let s = in_flat formulas_of (properties_in t) f b in
            of_flat names_of (properties_in t) s.0 x s.1 (used_of s.0 f x s.2 k))
      ]

  -- a formula that isn't well formed stands against a text without other faults
  pub ill_formed : HasSmallNumbers t → ((quantity : Quantity) → Leaves t quantity → ⊥) → ((n : List ℕ) → StandsUnknown t n → ⊥) → Judges (IsPresent (declared_entries t.declarations)) (formulas_in t) false → StandsLimit t q.Width
  ill_formed small kept known h =
      let n = names_are t.declarations (no_is_false (leaves t q.Width) (kept q.Width)) small.names in
      inr (
        h.0,
        h.1,
        record {
          names = n.0;
          lengths = n.1;
          declared = λ x k. by_test (is_declared t.declarations x.text) (λ e. e) (λ e. absurd (known x.text (inl (x, used h.0 x h.1 k, refl, e))));
          faulty = λ p. h.2 (over_is t.declarations n.0 h.0 n.1 p);
        },
      )

  -- without any
  pub all_valid : ((quantity : Quantity) → Leaves t quantity → ⊥) → ((n : List ℕ) → StandsUnknown t n → ⊥) → ((n : List ℕ) → StandsTwice t n → ⊥) → Judges (IsPresent (declared_entries t.declarations)) (formulas_in t) true → IsValid t
  all_valid kept known once h = record {
    known = known;
    once = once;
    kept = within;
    formed = λ names l f k. is_over t.declarations names f l (h f k);
  }
    where
      within : (quantity : Quantity) → StandsLimit t quantity → ⊥
      within q.Width (inl s) = kept q.Width s
      within q.Width (inr i) = i.2.faulty (is_over t.declarations i.2.names i.0 i.2.lengths (h i.0 i.1))
      within q.Cycles s = kept q.Cycles s
      within q.Length s = kept q.Length s
      within q.Window s = kept q.Window s
      within q.Operations s = kept q.Operations s
      within q.Invariants s = kept q.Invariants s
      within q.Constraints s = kept q.Constraints s
      within q.Names s = kept q.Names s
      within q.Hands s = kept q.Hands s
