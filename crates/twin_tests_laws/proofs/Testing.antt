-- Each line's test holds exactly where the line is violated.
use Rattle.std.proofs.Common.{◌≡◌, ◌≢◌, ℕ, zero, suc, ◌+◌, ◌-◌, ◌<◌, ◌≤◌, Bool, true, false, not, List, [], ◌∷◌, length, drop, get_or, refl, sym, ◌∙◌, ap, subst, arith, Option, Some, None, inl, inr}
use Rattle.std.specs.Prelude.{◌&&◌, ◌||◌, ◌==◌}
use Rattle.std.specs.List.{Contains, list_all, list_any}
use Rattle.std.proofs.lemmas.Bool.{cases_Bool, cases_lt, eqb-true, eq-eqb}
use Rattle.set_tree.specs.declared.set.Set.{Set}
use Rattle.vlog_tree.specs.declared.expr.Expr.{Expr}
use Rattle.set_tree.specs.declared.set.Rule.{Rule}
use Rattle.set_tree.specs.declared.set.Cover.{Cover}
use Rattle.set_tree.specs.declared.set.Length.{Length}
use Rattle.set_tree.specs.declared.line.Line.{Line}
use Rattle.set_tree.specs.declared.line.Line.TheVariants.{Base, Step, Reset, Operation, End, Split, SameEnd, Choose, Hand, Determine}
use Rattle.set_tree.specs.Meaning.{Row, Meaning, holds}
use Rattle.set_tree.specs.Parts.{property_at, window_of, assumed, committed, end_of, end_until, first_offset, cover_end, in_domain, value_of}
use Rattle.set_tree.specs.Traces.{IsTrace, IsDetermined}
use Rattle.set_tree.specs.Lines.{IsWindow, Starts, SameHands, IsPair, IsPairTo}
use Rattle.word_dag.specs.Nodes.{Naming}
use Rattle.twin_tests_laws.specs.Windows.{named_rows}
use Rattle.twin_tests_laws.specs.Lines.{split_end, edge_end}
use Rattle.twin_tests_laws.specs.Tests.{all_below, any_from, meets_constraints, starts, same_hands, is_number, ends_at, opens, pairs, pairs_to, violates_choose, violates_hand, violates_split, same, any_end, determined, violates_determine}
use Rattle.twin_tests_laws.specs.Laws.{TestIsExact}
use Rattle.twin_tests_laws.proofs.Naming.{are_named_rows}

-- members of lists
Contains-first : {X : Type 0} (x : X) (xs : List X) → Contains (x ∷ xs) x
Contains-first x xs = (0, omega arith, refl)

Contains-later : {X : Type 0} (x y : X) (xs : List X) → Contains xs y → Contains (x ∷ xs) y
Contains-later x y xs c = (suc c.0, omega (arith, c.1), c.2)

-- truth tables
pub both_of : (a b : Bool) → (a && b) ≡ true → (a ≡ true) × (b ≡ true)
both_of true true h = (refl, refl)
both_of true false h = (refl, h)
both_of false b h = absurd cc

pub of_both : (a b : Bool) → a ≡ true → b ≡ true → (a && b) ≡ true
of_both a b h k = cc

pub turned : (a : Bool) → not a ≡ true → a ≡ false
turned true h = cc
turned false h = refl

untrue : (a : Bool) → ¬ (a ≡ true) → a ≡ false
untrue true h = absurd (h refl)
untrue false h = refl

pub of_turned : (a : Bool) → a ≡ false → not a ≡ true
of_turned a h = rw h refl

pub same_true : (a b : Bool) → same a b ≡ true → a ≡ b
same_true true b h = sym h
same_true false true h = cc
same_true false false h = refl

pub same_refl : (a : Bool) → same a a ≡ true
same_refl true = refl
same_refl false = refl

-- tests of lists and of numbers
pub all_in : {X : Type 0} (p : X → Bool) (xs : List X) (x : X) → list_all p xs ≡ true → Contains xs x → p x ≡ true
all_in p xs x h c = at xs c.0 h c.1 c.2
  where
    at : (xs : List _) (k : ℕ) → list_all p xs ≡ true → k < length xs → get_or xs k x ≡ x → p x ≡ true
    at [] k h lt is = absurd (omega arith)
    at (y ∷ ys) zero h lt is = ap p (sym is) ∙ (both_of (p y) (list_all p ys) h).0
    at (y ∷ ys) (suc k) h lt is = at ys k (both_of (p y) (list_all p ys) h).1 (omega arith) is

pub all_made : {X : Type 0} (p : X → Bool) (xs : List X) → ((x : X) → Contains xs x → p x ≡ true) → list_all p xs ≡ true
all_made p [] h = refl
all_made p (x ∷ xs) h = of_both _ _ (h x (Contains-first x xs)) (all_made p xs (λ y c. h y (Contains-later x y xs c)))

pub any_in : {X : Type 0} (p : X → Bool) (xs : List X) → list_any p xs ≡ true → (x : X) × Contains xs x × (p x ≡ true)
any_in p [] h = absurd cc
any_in p (x ∷ xs) h = elim (cases_Bool (p x)) [
  | inl hit ↦ (x, Contains-first x xs, hit)
  | inr miss ↦
      let rest : list_any p xs ≡ true = rw miss at h in
      let there = any_in p xs rest in
      (there.0, Contains-later x there.0 xs there.1, there.2)
]

pub any_made : {X : Type 0} (p : X → Bool) (xs : List X) (x : X) → Contains xs x → p x ≡ true → list_any p xs ≡ true
any_made p xs x c h = at xs c.0 c.1 c.2
  where
    at : (xs : List _) (k : ℕ) → k < length xs → get_or xs k x ≡ x → list_any p xs ≡ true
    at [] k lt is = absurd (omega arith)
    at (y ∷ ys) zero lt is = let here : p y ≡ true = ap p is ∙ h in rw here refl
    at (y ∷ ys) (suc k) lt is = elim (cases_Bool (p y)) [ inl hit ↦ rw hit refl | inr miss ↦ rw miss (at ys k (omega arith) is) ]

pub below_in : (k : ℕ) (p : ℕ → Bool) (t : ℕ) → all_below k p ≡ true → t < k → p t ≡ true
below_in zero p t h lt = absurd (omega arith)
below_in (suc k) p t h lt =
    let parts = both_of (all_below k p) (p k) h in
    elim (cases_lt t k) [
      | inl less ↦ below_in k p t parts.0 less
      | inr more ↦ let is : k ≡ t = omega arith in ap p (sym is) ∙ parts.1
    ]

pub below_made : (k : ℕ) (p : ℕ → Bool) → ((t : ℕ) → t < k → p t ≡ true) → all_below k p ≡ true
below_made zero p h = refl
below_made (suc k) p h = of_both _ _ (below_made k p (λ t lt. h t (omega arith))) (h k (omega arith))

pub from_in : (n k : ℕ) (p : ℕ → Bool) → any_from n k p ≡ true → (t : ℕ) × (n ≤ t) × (t < n + k) × (p t ≡ true)
from_in n zero p h = absurd cc
from_in n (suc k) p h = elim (cases_Bool (p n)) [
  | inl hit ↦ (n, omega arith, omega arith, hit)
  | inr miss ↦
      let rest : any_from (suc n) k p ≡ true = rw miss at h in
      let there = from_in (suc n) k p rest in
      (there.0, omega (arith, there.1), omega (arith, there.2), there.3)
]

pub from_made : (n k : ℕ) (p : ℕ → Bool) (t : ℕ) → n ≤ t → t < n + k → p t ≡ true → any_from n k p ≡ true
from_made n zero p t low high h = absurd (omega arith)
from_made n (suc k) p t low high h = elim (cases_Bool (p n)) [
  | inl hit ↦ rw hit refl
  | inr miss ↦ rw miss (elim (cases_lt n t) [
    | inl more ↦ from_made (suc n) k p t more (omega arith) h
    | inr less ↦ let is : t ≡ n = omega arith in absurd (let clash : p n ≡ true = ap p (sym is) ∙ h in cc)
  ])
]

pub number_is : (o : Option ℕ) (n : ℕ) → is_number o n ≡ true → o ≡ Some n
number_is None n h = absurd cc
number_is (Some k) n h = ap Some (eqb-true k n h)

pub is_the_number : (o : Option ℕ) (n : ℕ) → o ≡ Some n → is_number o n ≡ true
is_the_number o n h = rw h (eq-eqb n n refl)

module _ (m : Meaning) (set : Set) where
  -- constraints
  pub met_in : (rows : List Row) → meets_constraints m set rows ≡ true → (rule : Rule) (t : ℕ) → Contains set.constraints rule → t + m.largest rule.formula < length rows → holds m rule.formula (drop t rows) ≡ true
  met_in rows h rule t member fits =
      below_in (length rows - m.largest rule.formula) (λ t. holds m rule.formula (drop t rows)) t (all_in (λ (rule : Rule). all_below (length rows - m.largest rule.formula) (λ t. holds m rule.formula (drop t rows))) set.constraints rule h member) (omega (arith, fits))

  pub met_made : (rows : List Row) → ((rule : Rule) (t : ℕ) → Contains set.constraints rule → t + m.largest rule.formula < length rows → holds m rule.formula (drop t rows) ≡ true) → meets_constraints m set rows ≡ true
  met_made rows h = all_made _ set.constraints (λ rule member. below_made (length rows - m.largest rule.formula) (λ t. holds m rule.formula (drop t rows)) (λ t lt. h rule t member (omega (arith, lt))))

  pub starts_in : (p : ℕ) (rows : List Row) → starts m set p rows ≡ true → Starts m set p rows
  starts_in p rows h = let parts = both_of (assumed m set p rows) (committed m set p rows) h in record { assumes = parts.0; commits = parts.1 }

  pub starts_made : (p : ℕ) (rows : List Row) → Starts m set p rows → starts m set p rows ≡ true
  starts_made p rows s = of_both _ _ s.assumes s.commits

  pub hands_in : (p : ℕ) (xs ys : List Row) → same_hands m set p xs ys ≡ true → SameHands m set p xs ys
  hands_in p xs ys h = λ k d lt. eqb-true _ _ (all_in (λ (e : Expr). m.value e xs == m.value e ys) (property_at set p).hand _ h (k, lt, same_at _ k d lt))
    where
      same_at : (es : List Expr) (k : ℕ) (d : Expr) → k < length es → get_or es k (get_or es k d) ≡ get_or es k d
      same_at [] k d lt = absurd (omega arith)
      same_at (e ∷ es) zero d lt = refl
      same_at (e ∷ es) (suc k) d lt = same_at es k d (omega arith)

  pub hands_made : (p : ℕ) (xs ys : List Row) → SameHands m set p xs ys → same_hands m set p xs ys ≡ true
  hands_made p xs ys s = all_made _ (property_at set p).hand (λ e c. eq-eqb _ _ (subst (λ (f : Expr). m.value f xs ≡ m.value f ys) c.2 (s c.0 e c.1)))

  pub opens_in : (p end : ℕ) (rows : List Row) → length rows ≡ end + 1 → IsTrace set rows → opens m set p rows ≡ true → IsWindow m set end rows × Starts m set p rows
  opens_in p end rows size trace h =
      let parts = both_of (meets_constraints m set rows) (starts m set p rows) h in
      (record { size = size; constrained = record { trace = trace; met = met_in rows parts.0 } }, starts_in p rows parts.1)

  pub opens_made : (p end : ℕ) (rows : List Row) → IsWindow m set end rows → Starts m set p rows → opens m set p rows ≡ true
  opens_made p end rows w s = of_both _ _ (met_made rows w.constrained.met) (starts_made p rows s)

  module _ (e : Naming) where
    pair_in : (p end : ℕ) → pairs m set p (named_rows set e 0 end) (named_rows set e 1 end) ≡ true → IsPair m set p end (named_rows set e 0 end) (named_rows set e 1 end)
    pair_in p end h =
        let rows = are_named_rows set e end in
        let xs = named_rows set e 0 end in
        let ys = named_rows set e 1 end in
        let front = both_of (opens m set p xs && opens m set p ys) (same_hands m set p xs ys) h in
        let each = both_of (opens m set p xs) (opens m set p ys) front.0 in
        let one = opens_in p end xs rows.size rows.first each.0 in
        let two = opens_in p end ys rows.other_size rows.second each.1 in
        record { first = one.0; second = two.0; inputs = rows.inputs; first_starts = one.1; second_starts = two.1; hands = hands_in p xs ys front.1 }

    pair_made : (p end : ℕ) (xs ys : List Row) → IsPair m set p end xs ys → pairs m set p xs ys ≡ true
    pair_made p end xs ys pair = of_both _ _ (of_both _ _ (opens_made p end xs pair.first pair.first_starts) (opens_made p end ys pair.second pair.second_starts)) (hands_made p xs ys pair.hands)

    pair_to_in : (p n end : ℕ) → pairs_to m set p n (named_rows set e 0 end) (named_rows set e 1 end) ≡ true → IsPairTo m set p n end (named_rows set e 0 end) (named_rows set e 1 end)
    pair_to_in p n end h =
        let xs = named_rows set e 0 end in
        let ys = named_rows set e 1 end in
        let last = both_of (pairs m set p xs ys && ends_at m set p n xs) (ends_at m set p n ys) h in
        let front = both_of (pairs m set p xs ys) (ends_at m set p n xs) last.0 in
        record { pair = pair_in p end front.0; first_ends = number_is _ n front.1; second_ends = number_is _ n last.1 }

    pair_to_made : (p n end : ℕ) (xs ys : List Row) → IsPairTo m set p n end xs ys → pairs_to m set p n xs ys ≡ true
    pair_to_made p n end xs ys to = of_both _ _ (of_both _ _ (pair_made p end xs ys to.pair) (is_the_number _ n to.first_ends)) (is_the_number _ n to.second_ends)

  -- an offset that is found is one of those that were looked at
  pub offset_within : (e : Expr) (rows : List Row) (n k j : ℕ) → first_offset m e rows n k ≡ Some j → (n ≤ j) × (j < n + k)
  offset_within e rows n zero j is = absurd cc
  offset_within e rows n (suc k) j is = elim (cases_Bool (holds m e (drop n rows))) [
    | inl hit ↦
        let here : Some n ≡ Some j = rw hit at is in
        let same : n ≡ j = cc in
        (omega arith, omega arith)
    | inr miss ↦
        let rest : first_offset m e rows (suc n) k ≡ Some j = rw miss at is in
        let there = offset_within e rows (suc n) k j rest in
        (omega (arith, there.0), omega (arith, there.1))
  ]

  -- an end is one of those that the length allows
  pub end_within : (span : Length) (until : Option Expr) (rows : List Row) (n : ℕ) → span.low ≤ span.high → end_until m span until rows ≡ Some n → (span.low ≤ n) × (n < span.low + (suc span.high - span.low))
  end_within span None rows n order h = let is : span.low ≡ n = cc in (omega arith, omega arith)
  end_within span (Some e) rows n order h = offset_within e rows span.low (suc span.high - span.low) n h

  an_end : (p n : ℕ) (rows : List Row) (test : ℕ → Bool) → (let span = (property_at set p).length in span.low ≤ span.high) → end_of m set p rows ≡ Some n → test n ≡ true → any_end set p test ≡ true
  an_end p n rows test order ends h =
      let within = end_within (property_at set p).length (property_at set p).length.until rows n order ends in
      from_made _ _ test n within.0 within.1 h

  end_in : (p : ℕ) (test : ℕ → Bool) → any_end set p test ≡ true → (n : ℕ) × (test n ≡ true)
  end_in p test h = let there = from_in (property_at set p).length.low (suc (property_at set p).length.high - (property_at set p).length.low) test h in (there.0, there.3)

  pub determined_in : (o : ℕ) (xs ys : List Row) → determined m set o xs ys ≡ true → IsDetermined m set o xs ys
  determined_in o xs ys h =
      let parts = both_of (same (in_domain m set o xs) (in_domain m set o ys)) (not (in_domain m set o xs) || value_of o xs == value_of o ys) h in
      record {
        domains = same_true _ _ parts.0;
        values = λ inside. let equal : (value_of o xs == value_of o ys) ≡ true = rw inside at parts.1 in eqb-true _ _ equal;
      }

  pub determined_made : (o : ℕ) (xs ys : List Row) → IsDetermined m set o xs ys → determined m set o xs ys ≡ true
  determined_made o xs ys d =
      of_both (same (in_domain m set o xs) (in_domain m set o ys)) (not (in_domain m set o xs) || value_of o xs == value_of o ys) (rw d.domains (same_refl (in_domain m set o ys))) (elim (cases_Bool (in_domain m set o xs)) [
        | inl inside ↦ rw inside (eq-eqb _ _ (d.values inside))
        | inr outside ↦ rw outside refl
      ])

  choose_made : (p q n end : ℕ) (xs ys : List Row) (e : Naming) → IsPairTo m set p n end xs ys → assumed m set q (drop n xs) ≡ true → assumed m set q (drop n ys) ≡ false → violates_choose m set p q n xs ys ≡ true
  choose_made p q n end xs ys e pair chosen refused = of_both _ _ (of_both _ _ (pair_to_made e p n end xs ys pair) chosen) (of_turned _ refused)

  choose_exact : (p q : ℕ) → TestIsExact m set (Choose p q)
  choose_exact p q order e = (
    λ h.
        let there = end_in p (λ n. violates_choose m set p q n (named_rows set e 0 (edge_end set p q n)) (named_rows set e 1 (edge_end set p q n))) h in
        let n = there.0 in
        let end = edge_end set p q n in
        let xs = named_rows set e 0 end in
        let ys = named_rows set e 1 end in
        let last = both_of (pairs_to m set p n xs ys && assumed m set q (drop n xs)) (not (assumed m set q (drop n ys))) there.1 in
        let front = both_of (pairs_to m set p n xs ys) (assumed m set q (drop n xs)) last.0 in
        (n, record { pair = pair_to_in e p n end front.0; chosen = front.1; refused = turned _ last.1 }),
    λ v.
        let end = edge_end set p q v.0 in
        an_end p v.0 (named_rows set e 0 end) _ order v.1.pair.first_ends (choose_made p q v.0 end _ _ e v.1.pair v.1.chosen v.1.refused),
  )

  hand_exact : (p q : ℕ) → TestIsExact m set (Hand p q)
  hand_exact p q order e = (
    λ h.
        let there = end_in p (λ n. violates_hand m set p q n (named_rows set e 0 (edge_end set p q n)) (named_rows set e 1 (edge_end set p q n))) h in
        let n = there.0 in
        let end = edge_end set p q n in
        let xs = named_rows set e 0 end in
        let ys = named_rows set e 1 end in
        let last = both_of (pairs_to m set p n xs ys && starts m set q (drop n xs) && starts m set q (drop n ys)) (not (same_hands m set q (drop n xs) (drop n ys))) there.1 in
        let middle = both_of (pairs_to m set p n xs ys && starts m set q (drop n xs)) (starts m set q (drop n ys)) last.0 in
        let front = both_of (pairs_to m set p n xs ys) (starts m set q (drop n xs)) middle.0 in
        let apart : same_hands m set q (drop n xs) (drop n ys) ≡ false = turned _ last.1 in (
          n,
          record {
            pair = pair_to_in e p n end front.0;
            first_goes_on = starts_in q _ front.1;
            second_goes_on = starts_in q _ middle.1;
            differ = λ s. let contrary : true ≡ false = sym (hands_made q (drop n xs) (drop n ys) s) ∙ apart in cc;
          },
        ),
    λ v.
        let end = edge_end set p q v.0 in
        let xs = named_rows set e 0 end in
        let ys = named_rows set e 1 end in
        let apart = untrue (same_hands m set q (drop v.0 xs) (drop v.0 ys)) (λ h. v.1.differ (hands_in q _ _ h)) in
        an_end p v.0 xs _ order v.1.pair.first_ends (of_both _ _ (of_both _ _ (of_both _ _ (pair_to_made e p v.0 end xs ys v.1.pair) (starts_made q _ v.1.first_goes_on)) (starts_made q _ v.1.second_goes_on)) (of_turned _ apart)),
  )

  split_exact : (p : ℕ) → TestIsExact m set (Split p)
  split_exact p order e = (
    λ h.
        let there = end_in p (λ n. violates_split m set p n (named_rows set e 0 (split_end set p n))) h in
        let n = there.0 in
        let end = split_end set p n in
        let xs = named_rows set e 0 end in
        let rows = are_named_rows set e end in
        let last = both_of (opens m set p xs && ends_at m set p n xs) (not (list_any (λ q. assumed m set q (drop n xs)) (property_at set p).next)) there.1 in
        let front = both_of (opens m set p xs) (ends_at m set p n xs) last.0 in
        let window = opens_in p end xs rows.size rows.first front.0 in
        (n, record { window = window.0; starts = window.1; ends = number_is _ n front.1; none_follows = turned _ last.1 }),
    λ v.
        let end = split_end set p v.0 in
        let xs = named_rows set e 0 end in
        an_end p v.0 xs _ order v.1.ends (of_both _ _ (of_both _ _ (opens_made p end xs v.1.window v.1.starts) (is_the_number _ v.0 v.1.ends)) (of_turned _ v.1.none_follows)),
  )

  no_end : (p : ℕ) (rows : List Row) (o : Option ℕ) → (let span = (property_at set p).length in span.low ≤ span.high) → any_end set p (λ n. ends_at m set p n rows) ≡ false → end_of m set p rows ≡ o → o ≡ None
  no_end p rows None order none is = refl
  no_end p rows (Some n) order none is =
      let some = an_end p n rows (λ n. ends_at m set p n rows) order is (is_the_number _ n is) in
      absurd (let clash : true ≡ false = sym some ∙ none in cc)

  end_exact : (p : ℕ) → TestIsExact m set (End p)
  end_exact p order e = (
    λ h.
        let end = window_of set p in
        let xs = named_rows set e 0 end in
        let rows = are_named_rows set e end in
        let parts = both_of (opens m set p xs) (not (any_end set p (λ n. ends_at m set p n xs))) h in
        let window = opens_in p end xs rows.size rows.first parts.0 in
        record { window = window.0; starts = window.1; endless = no_end p xs _ order (turned _ parts.1) refl },
    λ v.
        let xs = named_rows set e 0 (window_of set p) in
        of_both _ _ (opens_made p (window_of set p) xs v.window v.starts) (of_turned _ (untrue _ (λ h.
        let there = end_in p (λ n. ends_at m set p n xs) h in
        let some = number_is (end_of m set p xs) there.0 there.1 in
        let none = v.endless in
        let clash : None ≡ Some there.0 = sym none ∙ some in
        cc))),
  )

  ends_differ : (p : ℕ) (xs ys : List Row) (o : Option ℕ) → (let span = (property_at set p).length in span.low ≤ span.high) → end_of m set p xs ≡ o → end_of m set p xs ≢ end_of m set p ys → any_end set p (λ n. not (same (ends_at m set p n xs) (ends_at m set p n ys))) ≡ true
  ends_differ p xs ys (Some k) order is differ =
      let here : ends_at m set p k xs ≡ true = is_the_number _ k is in
      let there = untrue (ends_at m set p k ys) (λ h. differ (is ∙ sym (number_is _ k h))) in
      an_end p k xs _ order is (rw (here, there) refl)
  ends_differ p xs ys None order is differ = other (end_of m set p ys) refl
    where
      other : (u : Option ℕ) → end_of m set p ys ≡ u → any_end set p (λ n. not (same (ends_at m set p n xs) (ends_at m set p n ys))) ≡ true
      other None none = absurd (differ (is ∙ sym none))
      other (Some k) some =
          let here : ends_at m set p k xs ≡ false = ap (λ (o : Option ℕ). is_number o k) is in
          let there : ends_at m set p k ys ≡ true = is_the_number _ k some in
          an_end p k ys _ order some (rw (here, there) refl)

  same_end_exact : (p : ℕ) → TestIsExact m set (SameEnd p)
  same_end_exact p order e = (
    λ h.
        let end = window_of set p in
        let xs = named_rows set e 0 end in
        let ys = named_rows set e 1 end in
        let parts = both_of (pairs m set p xs ys) (any_end set p (λ n. not (same (ends_at m set p n xs) (ends_at m set p n ys)))) h in
        let there = end_in p (λ n. not (same (ends_at m set p n xs) (ends_at m set p n ys))) parts.1 in
        record {
          pair = pair_in e p end parts.0;
          differ = λ agree.
              let apart : same (ends_at m set p there.0 xs) (ends_at m set p there.0 ys) ≡ false = turned _ there.1 in
              let equal : ends_at m set p there.0 xs ≡ ends_at m set p there.0 ys = ap (λ (o : Option ℕ). is_number o there.0) agree in
              let clash : same (ends_at m set p there.0 xs) (ends_at m set p there.0 ys) ≡ true = rw equal (same_refl (ends_at m set p there.0 ys)) in
              let contrary : true ≡ false = sym clash ∙ apart in
              cc;
        },
    λ v.
        let end = window_of set p in
        of_both _ _ (pair_made e p end _ _ v.pair) (ends_differ p (named_rows set e 0 end) (named_rows set e 1 end) _ order refl v.differ),
  )

  determine_exact : (p : ℕ) → TestIsExact m set (Determine p)
  determine_exact p order e = (
    λ h.
        let there = end_in p (λ n. violates_determine m set p n xs ys) h in
        let n = there.0 in
        let parts = both_of (pairs_to m set p n xs ys) (list_any (some_at n) (property_at set p).covers) there.1 in
        let some = any_in (some_at n) (property_at set p).covers parts.1 in
        let cover = some.0 in
        let at = from_in cover.from (cover_end cover.to n - cover.from) (λ at. not (determined m set cover.output (drop at xs) (drop at ys))) some.2 in (
          n,
          cover,
          at.0,
          record {
            pair = pair_to_in e p n (window_of set p) parts.0;
            covers = some.1;
            begun = at.1;
            not_ended = omega (arith, at.1, at.2);
            differ = λ d. let contrary : true ≡ false = sym (determined_made cover.output (drop at.0 xs) (drop at.0 ys) d) ∙ turned _ at.3 in cc;
          },
        ),
    λ v.
        let n = v.0 in
        let cover = v.1 in
        let at = v.2 in
        let apart = untrue (determined m set cover.output (drop at xs) (drop at ys)) (λ h. v.3.differ (determined_in cover.output _ _ h)) in
        an_end p n xs _ order v.3.pair.first_ends (of_both _ _ (pair_to_made e p n (window_of set p) xs ys v.3.pair) (any_made (some_at n) (property_at set p).covers cover v.3.covers (from_made cover.from (cover_end cover.to n - cover.from) (λ at. not (determined m set cover.output (drop at xs) (drop at ys))) at v.3.begun (omega (arith, v.3.begun, v.3.not_ended)) (of_turned _ apart)))),
  )
    where
      xs : List Row
      xs = named_rows set e 0 (window_of set p)

      ys : List Row
      ys = named_rows set e 1 (window_of set p)

      some_at : ℕ → Cover → Bool
      some_at n cover = any_from cover.from (cover_end cover.to n - cover.from) (λ at. not (determined m set cover.output (drop at xs) (drop at ys)))

  pub test_is_exact : (line : Line) → TestIsExact m set line
  test_is_exact (Base i) = λ order e. (λ h. let clash : false ≡ true = h in cc, λ v. absurd v)
  test_is_exact (Step i) = λ order e. (λ h. let clash : false ≡ true = h in cc, λ v. absurd v)
  test_is_exact Reset = λ order e. (λ h. let clash : false ≡ true = h in cc, λ v. absurd v)
  test_is_exact (Operation p) = λ order e. (λ h. let clash : false ≡ true = h in cc, λ v. absurd v)
  test_is_exact (End p) = end_exact p
  test_is_exact (Split p) = split_exact p
  test_is_exact (SameEnd p) = same_end_exact p
  test_is_exact (Choose p q) = choose_exact p q
  test_is_exact (Hand p q) = hand_exact p q
  test_is_exact (Determine p) = determine_exact p
