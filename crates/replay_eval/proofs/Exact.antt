-- Tests and what they test.
use Rattle.std.proofs.Common.{◌≡◌, ℕ, ◌+◌, ◌-◌, ◌<◌, ◌^◌, Bool, true, false, not, List, [], ◌∷◌, drop, map, refl, sym, ap, ◌∙◌, arith, Option, Some, None, inl, inr, IsTrue}
use Rattle.std.specs.Prelude.{◌&&◌, ◌↔◌, nat_eq, nat_lt, max}
use Rattle.std.specs.List.{All, list_all, list_any}
use Rattle.std.proofs.lemmas.Bool.{cases_Bool, ltb-true, lt-ltb, eqb-true, eq-eqb}
use Rattle.std.proofs.lemmas.List.Elements.{All-head, All-tail, All-cons, All-nil}
use Rattle.set_tree.specs.declared.set.Cover.{Cover}
use Rattle.set_tree.specs.declared.set.Name.{Name}
use Rattle.set_tree.specs.declared.set.Set.{Set}
use Rattle.set_tree.specs.Formulas.{meaning_of}
use Rattle.set_tree.specs.Lines.{IsWindow, IsPair, IsPairTo, ViolatesEnd, ViolatesSplit, ViolatesSameEnd, ViolatesChoose, ViolatesHand, ViolatesDetermine, last_row}
use Rattle.set_tree.specs.Meaning.{Row, Meaning}
use Rattle.set_tree.specs.Parts.{property_at, window_of, assumed, end_of, is_input, input_values, cover_end, IsPosition}
use Rattle.set_tree.specs.Structure.{IsSound}
use Rattle.set_tree.specs.Traces.{IsRow, IsTrace, IsConstrained}
use Rattle.twin_tests_laws.specs.Tests.{any_from, determined, violates_determine, starts, same_hands, ends_at, opens, pairs, pairs_to, violates_choose, violates_hand, violates_split, meets_constraints}
use Rattle.twin_tests_laws.proofs.Testing.{any_in, any_made, from_in, from_made, determined_in, determined_made, end_within, both_of, of_both, turned, of_turned, met_in, met_made, starts_in, starts_made, hands_in, hands_made, opens_in, opens_made, number_is, is_the_number}
use Rattle.replay_eval.specs.Traces.{fits_names, agrees, all_agree}
use Rattle.replay_eval.specs.Judging.{is_same, endless, ends_apart, IsSized, AreSized}

-- ---- traces

row_exact : (names : List Name) (row : Row) → IsTrue (fits_names names row) ↔ IsRow names row
row_exact [] [] = (λ h. tt, λ h. refl)
row_exact [] (v ∷ row) = (λ h. cc, λ h. absurd h)
row_exact (n ∷ names) [] = (λ h. cc, λ h. absurd h)
row_exact (n ∷ names) (v ∷ row) =
    let rest = row_exact names row in (
      λ h. let parts = both_of (nat_lt v (2 ^ n.width)) (fits_names names row) h in (ltb-true v (2 ^ n.width) parts.0, rest.0 parts.1),
      λ h. of_both (nat_lt v (2 ^ n.width)) (fits_names names row) (lt-ltb v (2 ^ n.width) h.0) (rest.1 h.1),
    )

pub trace_exact : (names : List Name) (rows : List Row) → IsTrue (list_all (fits_names names) rows) ↔ All (IsRow names) rows
trace_exact names [] = (λ h. All-nil (IsRow names), λ h. refl)
trace_exact names (row ∷ rows) =
    let here = row_exact names row in
    let rest = trace_exact names rows in (
      λ h. let parts = both_of (fits_names names row) (list_all (fits_names names) rows) h in All-cons (IsRow names) row rows (here.0 parts.0) (rest.0 parts.1),
      λ h. of_both (fits_names names row) (list_all (fits_names names) rows) (here.1 (All-head (IsRow names) row rows h)) (rest.1 (All-tail (IsRow names) row rows h)),
    )

-- the names, as they were handed out
pub trace_answer : (set own : Set) (names : List Name) (rows : List Row) (answer : Bool) → own ≡ set → names ≡ own.names → answer ≡ list_all (fits_names names) rows → IsTrue answer ↔ IsTrace set rows
trace_answer set own names rows answer same listed is =
    let these : names ≡ set.names = listed ∙ ap (λ (s : Set). s.names) same in
    let exact = trace_exact set.names rows in
    let said : answer ≡ list_all (fits_names set.names) rows = is ∙ ap (λ (ns : List Name). list_all (fits_names ns) rows) these in
    (λ t. exact.0 (sym said ∙ t), λ t. said ∙ exact.1 t)

-- ---- inputs

agree_exact : (names : List Name) (xs ys : Row) → IsRow names xs → IsRow names ys → IsTrue (agrees names xs ys) ↔ (input_values names xs ≡ input_values names ys)
agree_exact [] [] [] h k = (λ t. refl, λ t. refl)
agree_exact [] (x ∷ xs) ys h k = absurd h
agree_exact [] [] (y ∷ ys) h k = absurd k
agree_exact (n ∷ names) [] ys h k = absurd h
agree_exact (n ∷ names) (x ∷ xs) [] h k = absurd k
agree_exact (n ∷ names) (x ∷ xs) (y ∷ ys) h k =
    let rest = agree_exact names xs ys h.1 k.1 in
    elim (cases_Bool (is_input n.role)) [
      | inl input ↦ rw input (
        (λ t. let parts = both_of (nat_eq x y) (agrees names xs ys) t in λ r. eqb-true x y parts.0 r ∷ rest.0 parts.1 r),
        λ t. of_both (nat_eq x y) (agrees names xs ys) (eq-eqb x y (first_same x y (input_values names xs) (input_values names ys) t)) (rest.1 (rest_same x y (input_values names xs) (input_values names ys) t)),
      )
      | inr other ↦ rw other (λ t. rest.0 t, λ t. rest.1 t)
    ]
  where
    first_same : (x y : ℕ) (xs ys : List ℕ) → (x ∷ xs) ≡ (y ∷ ys) → x ≡ y
    first_same x y xs ys h = cc

    rest_same : (x y : ℕ) (xs ys : List ℕ) → (x ∷ xs) ≡ (y ∷ ys) → xs ≡ ys
    rest_same x y xs ys h = cc

pub inputs_exact : (names : List Name) (xs ys : List Row) → All (IsRow names) xs → All (IsRow names) ys → IsTrue (all_agree names xs ys) ↔ (map (input_values names) xs ≡ map (input_values names) ys)
inputs_exact names [] [] h k = (λ t. refl, λ t. refl)
inputs_exact names [] (y ∷ ys) h k = (λ t. cc, λ t. cc)
inputs_exact names (x ∷ xs) [] h k = (λ t. cc, λ t. cc)
inputs_exact names (x ∷ xs) (y ∷ ys) h k =
    let here = agree_exact names x y (All-head (IsRow names) x xs h) (All-head (IsRow names) y ys k) in
    let rest = inputs_exact names xs ys (All-tail (IsRow names) x xs h) (All-tail (IsRow names) y ys k) in (
      λ t. let parts = both_of (agrees names x y) (all_agree names xs ys) t in λ r. here.0 parts.0 r ∷ rest.0 parts.1 r,
      λ t. of_both (agrees names x y) (all_agree names xs ys) (here.1 (first_row t)) (rest.1 (rest_rows t)),
    )
  where
    first_row : (input_values names x ∷ map (input_values names) xs) ≡ (input_values names y ∷ map (input_values names) ys) → input_values names x ≡ input_values names y
    first_row t = cc

    rest_rows : (input_values names x ∷ map (input_values names) xs) ≡ (input_values names y ∷ map (input_values names) ys) → map (input_values names) xs ≡ map (input_values names) ys
    rest_rows t = cc

pub sized_answer : (set own : Set) (names : List Name) (end : ℕ) (xs ys : List Row) (answer : Bool) → own ≡ set → names ≡ own.names → answer ≡ all_agree names xs ys → IsSized set end xs → IsSized set end ys → IsTrue answer ↔ AreSized set end xs ys
sized_answer set own names end xs ys answer same listed is first second =
    let these : names ≡ set.names = listed ∙ ap (λ (s : Set). s.names) same in
    let exact = inputs_exact set.names xs ys first.trace second.trace in
    let said : answer ≡ all_agree set.names xs ys = is ∙ ap (λ (ns : List Name). all_agree ns xs ys) these in
    (λ t. record { first = first; second = second; inputs = exact.0 (sym said ∙ t) }, λ s. said ∙ exact.1 s.inputs)

-- an answer that is a test
pub answered : (answer b : Bool) (V : Type 0) → answer ≡ b → IsTrue b ↔ V → IsTrue answer ↔ V
answered answer b V is exact = (λ t. exact.0 (sym is ∙ t), λ v. is ∙ exact.1 v)

pub refused : (answer : Bool) (S V : Type 0) → IsTrue answer ↔ S → answer ≡ false → (V → S) → IsTrue false ↔ V
refused answer S V exact missed sized = (λ t. cc, λ v. let t : answer ≡ true = exact.1 (sized v) in let clash : true ≡ false = sym t ∙ missed in cc)

-- ---- ends

same_ends : (a b : Option ℕ) → is_same a b ≡ true → a ≡ b
same_ends None None h = refl
same_ends None (Some n) h = absurd cc
same_ends (Some k) None h = absurd cc
same_ends (Some k) (Some n) h = ap Some (eqb-true k n h)

same_itself : (a : Option ℕ) → is_same a a ≡ true
same_itself None = refl
same_itself (Some n) = eq-eqb n n refl

ends_same : (a b : Option ℕ) → a ≡ b → is_same a b ≡ true
ends_same a b h = rw h (same_itself b)

untrue : (b : Bool) → (b ≡ true → ⊥) → b ≡ false
untrue true h = absurd (h refl)
untrue false h = refl

-- ---- lines

module _ (set : Set) where
  abbrev m : Meaning
  m = meaning_of set

  pub constrained_exact : (rows : List Row) → IsTrace set rows → IsTrue (meets_constraints m set rows) ↔ IsConstrained m set rows
  constrained_exact rows trace = (λ t. record { trace = trace; met = met_in m set rows t }, λ c. met_made m set rows c.met)

  pub constrained_answer : (rows : List Row) (answer : Bool) → IsTrace set rows → answer ≡ meets_constraints m set rows → IsTrue answer ↔ IsConstrained m set rows
  constrained_answer rows answer trace is = let exact = constrained_exact rows trace in (λ t. exact.0 (sym is ∙ t), λ c. is ∙ exact.1 c)

  sized_window : (end : ℕ) (rows : List Row) → IsWindow m set end rows → IsSized set end rows
  sized_window end rows w = record { size = w.size; trace = w.constrained.trace }

  pair_sizes : (p end : ℕ) (xs ys : List Row) → IsPair m set p end xs ys → AreSized set end xs ys
  pair_sizes p end xs ys pair = record { first = sized_window end xs pair.first; second = sized_window end ys pair.second; inputs = pair.inputs }

  pair_in : (p end : ℕ) (xs ys : List Row) → AreSized set end xs ys → pairs m set p xs ys ≡ true → IsPair m set p end xs ys
  pair_in p end xs ys s h =
      let front = both_of (opens m set p xs && opens m set p ys) (same_hands m set p xs ys) h in
      let each = both_of (opens m set p xs) (opens m set p ys) front.0 in
      let one = opens_in m set p end xs s.first.size s.first.trace each.0 in
      let two = opens_in m set p end ys s.second.size s.second.trace each.1 in
      record { first = one.0; second = two.0; inputs = s.inputs; first_starts = one.1; second_starts = two.1; hands = hands_in m set p xs ys front.1 }

  pair_made : (p end : ℕ) (xs ys : List Row) → IsPair m set p end xs ys → pairs m set p xs ys ≡ true
  pair_made p end xs ys pair = of_both _ _ (of_both _ _ (opens_made m set p end xs pair.first pair.first_starts) (opens_made m set p end ys pair.second pair.second_starts)) (hands_made m set p xs ys pair.hands)

  pair_to_in : (p n end : ℕ) (xs ys : List Row) → AreSized set end xs ys → pairs_to m set p n xs ys ≡ true → IsPairTo m set p n end xs ys
  pair_to_in p n end xs ys s h =
      let last = both_of (pairs m set p xs ys && ends_at m set p n xs) (ends_at m set p n ys) h in
      let front = both_of (pairs m set p xs ys) (ends_at m set p n xs) last.0 in
      record { pair = pair_in p end xs ys s front.0; first_ends = number_is _ n front.1; second_ends = number_is _ n last.1 }

  pair_to_made : (p n end : ℕ) (xs ys : List Row) → IsPairTo m set p n end xs ys → pairs_to m set p n xs ys ≡ true
  pair_to_made p n end xs ys to = of_both _ _ (of_both _ _ (pair_made p end xs ys to.pair) (is_the_number _ n to.first_ends)) (is_the_number _ n to.second_ends)

  pub end_sized : (p : ℕ) (rows : List Row) → ViolatesEnd m set p rows → IsSized set (window_of set p) rows
  end_sized p rows v = sized_window (window_of set p) rows v.window

  pub end_exact : (p : ℕ) (rows : List Row) → IsSized set (window_of set p) rows → IsTrue (endless m set p rows) ↔ ViolatesEnd m set p rows
  end_exact p rows s = (
    λ h. let parts = both_of (opens m set p rows) (is_same (end_of m set p rows) None) h in
        let w = opens_in m set p (window_of set p) rows s.size s.trace parts.0 in
        record { window = w.0; starts = w.1; endless = same_ends (end_of m set p rows) None parts.1 },
    λ v. of_both _ _ (opens_made m set p (window_of set p) rows v.window v.starts) (ends_same (end_of m set p rows) None v.endless),
  )

  pub same_end_sized : (p : ℕ) (xs ys : List Row) → ViolatesSameEnd m set p xs ys → AreSized set (window_of set p) xs ys
  same_end_sized p xs ys v = pair_sizes p (window_of set p) xs ys v.pair

  pub same_end_exact : (p : ℕ) (xs ys : List Row) → AreSized set (window_of set p) xs ys → IsTrue (ends_apart m set p xs ys) ↔ ViolatesSameEnd m set p xs ys
  same_end_exact p xs ys s = (
    λ h. let parts = both_of (pairs m set p xs ys) (not (is_same (end_of m set p xs) (end_of m set p ys))) h in
        let apart = turned (is_same (end_of m set p xs) (end_of m set p ys)) parts.1 in
        record {
          pair = pair_in p (window_of set p) xs ys s parts.0;
          differ = λ same. let clash : false ≡ true = sym apart ∙ ends_same (end_of m set p xs) (end_of m set p ys) same in cc;
        },
    λ v. of_both _ _ (pair_made p (window_of set p) xs ys v.pair) (of_turned _ (untrue (is_same (end_of m set p xs) (end_of m set p ys)) (λ t. v.differ (same_ends _ _ t)))),
  )

  pub choose_sized : (p q n : ℕ) (xs ys : List Row) → ViolatesChoose m set p q n xs ys → AreSized set (max (window_of set p) (n + window_of set q)) xs ys
  choose_sized p q n xs ys v = pair_sizes p (max (window_of set p) (n + window_of set q)) xs ys v.pair.pair

  pub choose_exact : (p q n : ℕ) (xs ys : List Row) → AreSized set (max (window_of set p) (n + window_of set q)) xs ys → IsTrue (violates_choose m set p q n xs ys) ↔ ViolatesChoose m set p q n xs ys
  choose_exact p q n xs ys s = (
    λ h. let last = both_of (pairs_to m set p n xs ys && assumed m set q (drop n xs)) (not (assumed m set q (drop n ys))) h in
        let front = both_of (pairs_to m set p n xs ys) (assumed m set q (drop n xs)) last.0 in
        record { pair = pair_to_in p n (max (window_of set p) (n + window_of set q)) xs ys s front.0; chosen = front.1; refused = turned _ last.1 },
    λ v. of_both _ _ (of_both _ _ (pair_to_made p n (max (window_of set p) (n + window_of set q)) xs ys v.pair) v.chosen) (of_turned _ v.refused),
  )

  pub hand_sized : (p q n : ℕ) (xs ys : List Row) → ViolatesHand m set p q n xs ys → AreSized set (max (window_of set p) (n + window_of set q)) xs ys
  hand_sized p q n xs ys v = pair_sizes p (max (window_of set p) (n + window_of set q)) xs ys v.pair.pair

  pub hand_exact : (p q n : ℕ) (xs ys : List Row) → AreSized set (max (window_of set p) (n + window_of set q)) xs ys → IsTrue (violates_hand m set p q n xs ys) ↔ ViolatesHand m set p q n xs ys
  hand_exact p q n xs ys s = (
    λ h. let last = both_of (pairs_to m set p n xs ys && starts m set q (drop n xs) && starts m set q (drop n ys)) (not (same_hands m set q (drop n xs) (drop n ys))) h in
        let mid = both_of (pairs_to m set p n xs ys && starts m set q (drop n xs)) (starts m set q (drop n ys)) last.0 in
        let front = both_of (pairs_to m set p n xs ys) (starts m set q (drop n xs)) mid.0 in
        let apart = turned (same_hands m set q (drop n xs) (drop n ys)) last.1 in
        record {
          pair = pair_to_in p n (max (window_of set p) (n + window_of set q)) xs ys s front.0;
          first_goes_on = starts_in m set q (drop n xs) front.1;
          second_goes_on = starts_in m set q (drop n ys) mid.1;
          differ = λ same. let clash : false ≡ true = sym apart ∙ hands_made m set q (drop n xs) (drop n ys) same in cc;
        },
    λ v. of_both _ _
        (of_both _ _ (of_both _ _ (pair_to_made p n (max (window_of set p) (n + window_of set q)) xs ys v.pair) (starts_made m set q (drop n xs) v.first_goes_on)) (starts_made m set q (drop n ys) v.second_goes_on))
        (of_turned _ (untrue (same_hands m set q (drop n xs) (drop n ys)) (λ t. v.differ (hands_in m set q (drop n xs) (drop n ys) t)))),
  )

  pub split_sized : (p n : ℕ) (rows : List Row) → ViolatesSplit m set p n rows → IsSized set (last_row set (window_of set p) n (property_at set p).next) rows
  split_sized p n rows v = sized_window (last_row set (window_of set p) n (property_at set p).next) rows v.window

  pub split_exact : (p n : ℕ) (rows : List Row) → IsSized set (last_row set (window_of set p) n (property_at set p).next) rows → IsTrue (violates_split m set p n rows) ↔ ViolatesSplit m set p n rows
  split_exact p n rows s = (
    λ h. let last = both_of (opens m set p rows && ends_at m set p n rows) (not (list_any (λ q. assumed m set q (drop n rows)) (property_at set p).next)) h in
        let front = both_of (opens m set p rows) (ends_at m set p n rows) last.0 in
        let w = opens_in m set p (last_row set (window_of set p) n (property_at set p).next) rows s.size s.trace front.0 in
        record { window = w.0; starts = w.1; ends = number_is _ n front.1; none_follows = turned _ last.1 },
    λ v. of_both _ _ (of_both _ _ (opens_made m set p (last_row set (window_of set p) n (property_at set p).next) rows v.window v.starts) (is_the_number _ n v.ends)) (of_turned _ v.none_follows),
  )

  pub split_late : (p n : ℕ) (rows : List Row) → IsSound m set → IsPosition set p → (property_at set p).length.high < n → ViolatesSplit m set p n rows → ⊥
  split_late p n rows sound position lt v =
      let span = sound.lengths p position in
      let within = end_within m set (property_at set p).length (property_at set p).length.until rows n span.order v.ends in
      omega (arith, within.1, span.order)

  -- an output that some cover claims isn't determined
  pub determine_sized : (p n : ℕ) (xs ys : List Row) → ((cover : Cover) × (at : ℕ) × ViolatesDetermine m set p n cover at xs ys) → AreSized set (window_of set p) xs ys
  determine_sized p n xs ys v = pair_sizes p (window_of set p) xs ys v.2.pair.pair

  pub determine_exact : (p n : ℕ) (xs ys : List Row) → AreSized set (window_of set p) xs ys → IsTrue (violates_determine m set p n xs ys) ↔ ((cover : Cover) × (at : ℕ) × ViolatesDetermine m set p n cover at xs ys)
  determine_exact p n xs ys s = (found, shown)
    where
      apart : Cover → ℕ → Bool
      apart cover at = not (determined m set cover.output (drop at xs) (drop at ys))

      some_at : Cover → Bool
      some_at cover = any_from cover.from (cover_end cover.to n - cover.from) (apart cover)

      found : violates_determine m set p n xs ys ≡ true → (cover : Cover) × (at : ℕ) × ViolatesDetermine m set p n cover at xs ys
      found h =
          let parts = both_of (pairs_to m set p n xs ys) (list_any some_at (property_at set p).covers) h in
          let cover = any_in some_at (property_at set p).covers parts.1 in
          let there = from_in cover.0.from (cover_end cover.0.to n - cover.0.from) (apart cover.0) cover.2 in
          let no = turned (determined m set cover.0.output (drop there.0 xs) (drop there.0 ys)) there.3 in (
            cover.0,
            there.0,
            record {
              pair = pair_to_in p n (window_of set p) xs ys s parts.0;
              covers = cover.1;
              begun = there.1;
              not_ended = omega (arith, there.1, there.2);
              differ = λ d. let clash : false ≡ true = sym no ∙ determined_made m set cover.0.output (drop there.0 xs) (drop there.0 ys) d in cc;
            },
          )

      shown : ((cover : Cover) × (at : ℕ) × ViolatesDetermine m set p n cover at xs ys) → violates_determine m set p n xs ys ≡ true
      shown v =
          let w = v.2 in
          let not_same = untrue (determined m set v.0.output (drop v.1 xs) (drop v.1 ys)) (λ t. w.differ (determined_in m set v.0.output (drop v.1 xs) (drop v.1 ys) t)) in
          of_both _ _ (pair_to_made p n (window_of set p) xs ys w.pair)
          (any_made some_at (property_at set p).covers v.0 w.covers (from_made v.0.from (cover_end v.0.to n - v.0.from) (apart v.0) v.1 w.begun (omega (arith, w.begun, w.not_ended)) (of_turned _ not_same)))

  pub determine_late : (p n : ℕ) (xs ys : List Row) → IsSound m set → IsPosition set p → (property_at set p).length.high < n → ((cover : Cover) × (at : ℕ) × ViolatesDetermine m set p n cover at xs ys) → ⊥
  determine_late p n xs ys sound position lt v =
      let span = sound.lengths p position in
      let within = end_within m set (property_at set p).length (property_at set p).length.until ys n span.order v.2.pair.second_ends in
      omega (arith, within.1, span.order)
