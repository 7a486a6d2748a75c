-- Both examples.
use Rattle.std.proofs.Common.{◌≡◌, ℕ, Bool, true, false, List, [], ◌∷◌, All, Contains, ◌⊎◌, ⊎_elim, inl, inr, refl, sym, ap, subst, ◌∙◌, arith}
use Prim.Native.Nat.{zero, suc}
use Rattle.clause_check.specs.declared.literal.Lit.{Lit}
use Rattle.clause_check.specs.Clauses.{negated}
use Rattle.clause_check.specs.Derivations.{AllFalse, Forces}
use Rattle.cdcl.specs.Closed.{Avoids, IsMet, IsNew, LeavesTwo}
use Rattle.cdcl.specs.Examples.{ExampleSteps, HasAll, in_a_row, minus, on_both_sides, plus}

-- ---- elements of short lists

here : (a : Lit) (xs : List Lit) → Contains (a ∷ xs) a
here a xs = (0, omega arith, refl)

second : (a b : Lit) (xs : List Lit) → Contains (a ∷ b ∷ xs) b
second a b xs = (1, omega arith, refl)

in_none : (x : Lit) → Contains [] x → ⊥
in_none x h = omega (arith, h.1)

in_one : (a x : Lit) → Contains (a ∷ []) x → x ≡ a
in_one a x (zero, lt, is) = sym is
in_one a x (suc k, lt, is) = absurd (omega (arith, lt))

in_two : (a b x : Lit) → Contains (a ∷ b ∷ []) x → (x ≡ a) ⊎ (x ≡ b)
in_two a b x (zero, lt, is) = inl (sym is)
in_two a b x (suc zero, lt, is) = inr (sym is)
in_two a b x (suc (suc k), lt, is) = absurd (omega (arith, lt))

abbrev Plus : Bool → Type 0
Plus true = ⊥
Plus false = Unit {0}

no_sign : false ≡ true → ⊥
no_sign h = subst Plus h tt

-- a literal isn't its negation
other_sign : (n : ℕ) → plus n ≡ minus n → ⊥
other_sign n h = no_sign (ap (λ (l : Lit). l.negative) h)

same_var : (l m : Lit) (P : Type 0) → (l.var ≡ m.var → ⊥) → l ≡ m → P
same_var l m P apart h = absurd (apart (ap (λ (x : Lit). x.var) h))

-- ---- the first

first_forced : Forces (minus 1 ∷ []) (plus 1 ∷ plus 2 ∷ []) (plus 2)
first_forced = record {
  among = second (plus 1) (plus 2) [];
  not_true = λ h. same_var (plus 2) (minus 1) ⊥ (λ no. omega (arith, no)) (in_one (minus 1) (plus 2) h);
  not_false = λ h. same_var (minus 2) (minus 1) ⊥ (λ no. omega (arith, no)) (in_one (minus 1) (minus 2) h);
  others = λ m h apart. ⊎_elim
      (λ (is : m ≡ plus 1). subst (λ (x : Lit). Contains (minus 1 ∷ []) (negated x)) (sym is) (here (minus 1) []))
      (λ (is : m ≡ plus 2). absurd (apart is)) (in_two (plus 1) (plus 2) m h);
}

last_false : AllFalse (plus 2 ∷ minus 1 ∷ []) (plus 1 ∷ minus 2 ∷ [])
last_false m h = ⊎_elim
    (λ (is : m ≡ plus 1). subst (λ (x : Lit). Contains (plus 2 ∷ minus 1 ∷ []) (negated x)) (sym is) (second (plus 2) (minus 1) []))
    (λ (is : m ≡ minus 2). subst (λ (x : Lit). Contains (plus 2 ∷ minus 1 ∷ []) (negated x)) (sym is) (here (plus 2) (minus 1 ∷ []))) (in_two (plus 1) (minus 2) m h)

avoided : (l : Lit) → Avoids [] l
avoided l = record { itself = in_none l; negation = in_none (negated l) }

-- two literals of a clause, where nothing is known
two_open : (l m : Lit) → (l.var ≡ m.var → ⊥) → IsMet [] (l ∷ m ∷ [])
two_open l m apart = inr (l, m, record { first = here l (m ∷ []); second = second l m []; apart = apart; first_avoided = avoided l; second_avoided = avoided m })

-- each of two
each_of : (P : List Lit → Type 0) (a b : List Lit) → P a → P b → All P (a ∷ b ∷ [])
each_of P a b p q zero d lt = p
each_of P a b p q (suc zero) d lt = q
each_of P a b p q (suc (suc k)) d lt = absurd (omega (arith, lt))

new : IsNew on_both_sides (plus 1 ∷ [])
new = (
  plus 1,
  [],
  record {
    among = here (plus 1) [];
    closed = record {
      consistent = λ l h g. in_none l h;
      each = each_of (IsMet []) (plus 1 ∷ plus 2 ∷ []) (plus 1 ∷ minus 2 ∷ []) (two_open (plus 1) (plus 2) (λ no. omega (arith, no))) (two_open (plus 1) (minus 2) (λ no. omega (arith, no)));
    };
    others = λ m h other. absurd (other (in_one (plus 1) m h));
    avoided = avoided (plus 1);
  },
)

-- ---- the other

row_forced : Forces (plus 1 ∷ minus 3 ∷ []) (minus 1 ∷ plus 2 ∷ []) (plus 2)
row_forced = record {
  among = second (minus 1) (plus 2) [];
  not_true = λ h. ⊎_elim (same_var (plus 2) (plus 1) ⊥ (λ no. omega (arith, no))) (same_var (plus 2) (minus 3) ⊥ (λ no. omega (arith, no))) (in_two (plus 1) (minus 3) (plus 2) h);
  not_false = λ h. ⊎_elim (same_var (minus 2) (plus 1) ⊥ (λ no. omega (arith, no))) (same_var (minus 2) (minus 3) ⊥ (λ no. omega (arith, no))) (in_two (plus 1) (minus 3) (minus 2) h);
  others = λ m h apart. ⊎_elim
      (λ (is : m ≡ minus 1). subst (λ (x : Lit). Contains (plus 1 ∷ minus 3 ∷ []) (negated x)) (sym is) (here (plus 1) (minus 3 ∷ [])))
      (λ (is : m ≡ plus 2). absurd (apart is)) (in_two (minus 1) (plus 2) m h);
}

row_false : AllFalse (plus 2 ∷ plus 1 ∷ minus 3 ∷ []) (minus 2 ∷ plus 3 ∷ [])
row_false m h = ⊎_elim
    (λ (is : m ≡ minus 2). subst (λ (x : Lit). Contains (plus 2 ∷ plus 1 ∷ minus 3 ∷ []) (negated x)) (sym is) (here (plus 2) (plus 1 ∷ minus 3 ∷ [])))
    (λ (is : m ≡ plus 3). subst (λ (x : Lit). Contains (plus 2 ∷ plus 1 ∷ minus 3 ∷ []) (negated x)) (sym is) (2, omega arith, refl)) (in_two (minus 2) (plus 3) m h)

-- each has a literal with the variable 2
lacks : (l : Lit) → (l.var ≡ 2) → Contains (minus 1 ∷ plus 3 ∷ []) l → ⊥
lacks l is h = ⊎_elim
    (λ (e : l ≡ minus 1). let no : l.var ≡ 1 = ap (λ (x : Lit). x.var) e in omega (arith, no, is))
    (λ (e : l ≡ plus 3). let no : l.var ≡ 3 = ap (λ (x : Lit). x.var) e in omega (arith, no, is)) (in_two (minus 1) (plus 3) l h)

has_none : All (λ part. HasAll (minus 1 ∷ plus 3 ∷ []) part → ⊥) in_a_row
has_none = each_of (λ part. HasAll (minus 1 ∷ plus 3 ∷ []) part → ⊥) (minus 1 ∷ plus 2 ∷ []) (minus 2 ∷ plus 3 ∷ [])
    (λ h. lacks (plus 2) refl (h (plus 2) (second (minus 1) (plus 2) []))) (λ h. lacks (minus 2) refl (h (minus 2) (here (minus 2) (plus 3 ∷ []))))

-- a clause of two literals that a closed set meets, one of which is denied: the other one is in the set
other_in : (set : List Lit) (l m : Lit) → IsMet set (l ∷ m ∷ []) → ((x : Lit) → Contains set x → Contains set (negated x) → ⊥) → Contains set (negated l) → Contains set m
other_in set l m met consistent denied = ⊎_elim
    (λ (t : (x : Lit) × Contains (l ∷ m ∷ []) x × Contains set x). ⊎_elim
    (λ (is : t.0 ≡ l). absurd (consistent l (subst (λ (x : Lit). Contains set x) is t.2) denied))
    (λ (is : t.0 ≡ m). subst (λ (x : Lit). Contains set x) is t.2) (in_two l m t.0 t.1))
    (λ (t : (x : Lit) × (y : Lit) × LeavesTwo set (l ∷ m ∷ []) x y). absurd (two t.0 t.1 t.2 (in_two l m t.0 t.2.first) (in_two l m t.1 t.2.second))) met
  where
    two : (x y : Lit) → LeavesTwo set (l ∷ m ∷ []) x y → (x ≡ l) ⊎ (x ≡ m) → (y ≡ l) ⊎ (y ≡ m) → ⊥
    two x y h (inl is) q = h.first_avoided.negation (subst (λ (z : Lit). Contains set (negated z)) (sym is) denied)
    two x y h p (inl is) = h.second_avoided.negation (subst (λ (z : Lit). Contains set (negated z)) (sym is) denied)
    two x y h (inr is) (inr other) = h.apart (ap (λ (z : Lit). z.var) (is ∙ sym other))

not_new : IsNew in_a_row (minus 1 ∷ plus 3 ∷ []) → ⊥
not_new (l, set, h) = ⊎_elim
    (λ (is : l ≡ minus 1).
    let denied : Contains set (minus 3) = h.others (plus 3) (second (minus 1) (plus 3) []) (λ e. same_var (plus 3) (minus 1) ⊥ (λ no. omega (arith, no)) (e ∙ is)) in
    let two : Contains set (minus 2) = other_in set (plus 3) (minus 2) (turned (h.closed.each 1 [] (omega arith))) h.closed.consistent denied in
    h.avoided.itself (subst (λ (x : Lit). Contains set x) (sym is) (other_in set (plus 2) (minus 1) (turned (h.closed.each 0 [] (omega arith))) h.closed.consistent two)))
    (λ (is : l ≡ plus 3).
    let denied : Contains set (plus 1) = h.others (minus 1) (here (minus 1) (plus 3 ∷ [])) (λ e. same_var (minus 1) (plus 3) ⊥ (λ no. omega (arith, no)) (e ∙ is)) in
    let two : Contains set (plus 2) = other_in set (minus 1) (plus 2) (h.closed.each 0 [] (omega arith)) h.closed.consistent denied in
    h.avoided.itself (subst (λ (x : Lit). Contains set x) (sym is) (other_in set (minus 2) (plus 3) (h.closed.each 1 [] (omega arith)) h.closed.consistent two)))
    (in_two (minus 1) (plus 3) l h.among)
  where
    swapped : (a b x : Lit) → Contains (a ∷ b ∷ []) x → Contains (b ∷ a ∷ []) x
    swapped a b x c = ⊎_elim (λ (is : x ≡ a). subst (λ (y : Lit). Contains (b ∷ a ∷ []) y) (sym is) (second b a []))
        (λ (is : x ≡ b). subst (λ (y : Lit). Contains (b ∷ a ∷ []) y) (sym is) (here b (a ∷ []))) (in_two a b x c)

    turned : {set : List Lit} {a b : Lit} → IsMet set (a ∷ b ∷ []) → IsMet set (b ∷ a ∷ [])
    turned {set} {a} {b} (inl (x, among, is)) = inl (x, swapped a b x among, is)
    turned {set} {a} {b} (inr (x, y, two)) =
        inr (x, y, record { first = swapped a b x two.first; second = swapped a b y two.second; apart = two.apart; first_avoided = two.first_avoided; second_avoided = two.second_avoided })

pub examples : ExampleSteps
examples = record {
  one_follows = (omega arith, (plus 2, first_forced, (omega arith, last_false)));
  one_is_new = new;
  other_follows = (omega arith, (plus 2, row_forced, (omega arith, row_false)));
  other_has_none = has_none;
  other_is_not_new = not_new;
}
