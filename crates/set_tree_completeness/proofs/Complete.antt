use Rattle.std.proofs.Common.{◌≡◌, ℕ, zero, suc, ◌+◌, ◌-◌, ◌<◌, ◌≤◌, Bool, nat_eq, List, [], ◌∷◌, take, drop, length, refl, sym, ◌∙◌, ap, subst, arith, length-drop, Option, Some, None, inl, inr, slice_get}
use Rattle.std.proofs.lemmas.List.{drop-drop}
use Rattle.std.proofs.lemmas.List.Elements.{All-nil}
use Rattle.std.proofs.lemmas.List.Sums.{length-filter}
use Rattle.std.proofs.lemmas.Bool.{cases_lt, eqb-true}
use Rattle.std.specs.List.{All, Contains, list_any}
use Rattle.set_tree.specs.declared.set.Set.{Set}
use Rattle.set_tree.specs.declared.set.Name.{Name}
use Rattle.vlog_tree.specs.declared.expr.Expr.{Expr}
use Rattle.set_tree.specs.declared.set.Cover.{Cover}
use Rattle.set_tree.specs.declared.set.To.{To}
use Rattle.set_tree.specs.declared.set.To.TheVariants.{At, AfterEnd}
use Rattle.set_tree.specs.Meaning.{Row, Meaning, ReadsWithin}
use Rattle.set_tree.specs.Parts.{property_at, IsPosition, IsOperation, IsOutput, window_of, largest_window, assumed, cover_end, in_domain, domain_of, domain_holds, value_of}
use Rattle.set_tree.specs.Traces.{IsConstrained, Satisfies, SameInputs, IsDetermined, IsComplete}
use Rattle.set_tree.specs.Lines.{IsWindow, last_row, AreValid}
use Rattle.set_tree.specs.Structure.{IsSound}
use Rattle.set_tree_completeness.proofs.Windows.{take_drop_take, holds_seen, inputs-length}
use Rattle.set_tree_completeness.proofs.Chain.{nat_stable, bool_stable, kept_member, Contains-first, window-le, value_of_first, Together, EndsAt, ends, pair_to, goes_on}

-- a cover that ends by a later end doesn't end earlier
cover_end-mono : (to : To) (n k : ℕ) → n ≤ k → cover_end to n ≤ cover_end to k
cover_end-mono (At r) n k h = omega arith
cover_end-mono (AfterEnd d) n k h = omega arith

-- a cover of the property for the output
pub record Covers (set : Set) (p o : ℕ) (cover : Cover) : Type 0 where
  pub member : Contains (property_at set p).covers cover
  pub output : cover.output ≡ o

module _ (m : Meaning) (reads : ReadsWithin m) (set : Set) (sound : IsSound m set) where
  pub domain_seen : (o j end : ℕ) (xs : List Row) → j ≤ end → in_domain m set o (drop j (take (end + 1) xs)) ≡ in_domain m set o (drop j xs)
  domain_seen o j end xs h = go (slice_get set.names o) refl
    where
      named : (name : Name) → slice_get set.names o ≡ Some name → (d : Option Expr) → name.domain ≡ d → domain_holds m d (drop j (take (end + 1) xs)) ≡ domain_holds m d (drop j xs)
      named name at None is = refl
      named name at (Some e) is = let own = sound.offsets.domains o name e at is in holds_seen m reads e j end xs (omega arith)

      go : (r : Option Name) → slice_get set.names o ≡ r → domain_holds m (domain_of r) (drop j (take (end + 1) xs)) ≡ domain_holds m (domain_of r) (drop j xs)
      go None at = refl
      go (Some name) at = named name at name.domain refl

  pub value_of_seen : (o j end : ℕ) (xs : List Row) → j ≤ end → value_of o (drop j (take (end + 1) xs)) ≡ value_of o (drop j xs)
  value_of_seen o j end xs h =
      value_of_first o (drop j (take (end + 1) xs)) ∙ (ap (value_of o) (take_drop_take 1 j (end + 1) xs (omega arith)) ∙ sym (value_of_first o (drop j xs)))

  determined_shown : (o j end : ℕ) (xs ys : List Row) → j ≤ end → IsDetermined m set o (drop j (take (end + 1) xs)) (drop j (take (end + 1) ys)) → IsDetermined m set o (drop j xs) (drop j ys)
  determined_shown o j end xs ys h d = record {
    domains = sym (domain_seen o j end xs h) ∙ (d.domains ∙ domain_seen o j end ys h);
    values = λ within. sym (value_of_seen o j end xs h) ∙ (d.values (domain_seen o j end xs h ∙ within) ∙ value_of_seen o j end ys h);
  }

  determined_stable : (o : ℕ) (xs ys : List Row) → ¬ ¬ IsDetermined m set o xs ys → IsDetermined m set o xs ys
  determined_stable o xs ys h = record {
    domains = bool_stable _ _ (λ apart. h (λ d. apart d.domains));
    values = λ within. nat_stable _ _ (λ apart. h (λ d. apart (d.values within)));
  }

  cover_of : (p o : ℕ) → IsPosition set p → IsOutput set o → (cover : Cover) × Covers set p o cover
  cover_of p o at output =
      let covers = (property_at set p).covers in
      let test : Cover → Bool = λ c. nat_eq c.output o in
      let one = sound.covered p o at output in
      let there = kept_member test covers (omega (arith, length-filter test covers, one)) in
      (there.0, record { member = there.1; output = eqb-true _ o there.2 })

-- either the output is determined at t, or a successor that starts before t has a cover that begins before t
data Advance (m : Meaning) (set : Set) (p o t : ℕ) (xs ys : List Row) : Type 0 where
  here : IsDetermined m set o (drop t xs) (drop t ys) → Advance m set p o t xs ys
  later : (n q : ℕ) (next : Cover) → (property_at set p).length.low ≤ n → IsOperation set q → Together m set q (drop n xs) (drop n ys) → Covers set q o next → n + next.from ≤ t → Advance m set p o t xs ys

module _ (m : Meaning) (reads : ReadsWithin m) (set : Set) (sound : IsSound m set) (valid : AreValid m set) where
  -- by `determine`
  determined_within : (p n j : ℕ) (cover : Cover) (xs ys : List Row) → Together m set p xs ys → EndsAt m set p n xs → Contains (property_at set p).covers cover → cover.from ≤ j → j < cover_end cover.to n → IsDetermined m set cover.output (drop j xs) (drop j ys)
  determined_within p n j cover xs ys t e member begun before =
      let w = window_of set p in
      let small = window-le set p t.at in
      let last = cover_end-mono cover.to n (property_at set p).length.high e.high in
      let shape = sound.covers p cover t.at member in
      let seen : j ≤ w = omega (arith, shape.fits, last, before) in
      let fits : w < length xs = omega (arith, t.fits) in
      determined_stable m reads set sound cover.output _ _ (λ open_case. valid.determine p n cover j (take (w + 1) xs) (take (w + 1) ys) t.at (record {
        pair = pair_to m reads set sound valid p n w xs ys t e (omega arith) fits;
        covers = member;
        begun = begun;
        not_ended = before;
        differ = λ d. open_case (determined_shown m reads set sound cover.output j w xs ys seen d);
      }))

  -- a cover doesn't end before its property: a successor's cover begins where it ends, and by `split` there is a successor
  end-le-cover_end : (p o n : ℕ) (cover : Cover) (xs ys : List Row) → Together m set p xs ys → EndsAt m set p n xs → IsOutput set o → Covers set p o cover → n ≤ cover_end cover.to n
  end-le-cover_end p o n cover xs ys t e output covers = go (property_at set p).next refl
    where
      go : (qs : List ℕ) → (property_at set p).next ≡ qs → n ≤ cover_end cover.to n
      go [] none =
          let w = window_of set p in
          let fits : w < length xs = omega (arith, window-le set p t.at, t.fits) in
          let pair = pair_to m reads set sound valid p n w xs ys t e (omega arith) fits in
          absurd (valid.split p n (take (w + 1) xs) t.at (record {
            window = subst (λ (qs : List ℕ). IsWindow m set (last_row set w n qs) (take (w + 1) xs)) (sym none) pair.pair.first;
            starts = pair.pair.first_starts;
            ends = pair.first_ends;
            none_follows = ap (list_any (λ q. assumed m set q (drop n (take (w + 1) xs)))) none;
          }))
      go (q ∷ qs) some =
          let edge : Contains (property_at set p).next q = subst (λ (rs : List ℕ). Contains rs q) (sym some) (Contains-first q qs) in
          let c = cover_of m reads set sound q o (sound.edges p q t.at edge).1 output in
          let tile = sound.tiled p q n cover c.0 t.at edge covers.member c.1.member (covers.output ∙ sym c.1.output) e.low e.high in
          omega arith

  advance : (p o t : ℕ) (cover : Cover) (xs ys : List Row) → Together m set p xs ys → IsOutput set o → Covers set p o cover → cover.from ≤ t → t + largest_window set < length xs → Advance m set p o t xs ys
  advance p o t cover xs ys pair output covers begun room =
      let e = ends m reads set sound valid p xs ys pair in
      elim (cases_lt t (cover_end cover.to e.0)) [
        | inl before ↦ here (subst (λ (i : ℕ). IsDetermined m set i (drop t xs) (drop t ys)) covers.output (determined_within p e.0 t cover xs ys pair e.1 covers.member begun before))
        | inr past ↦
            let reached : e.0 ≤ t = omega (arith, end-le-cover_end p o e.0 cover xs ys pair e.1 output covers, past) in
            let g = goes_on m reads set sound valid p e.0 xs ys pair e.1 (omega arith) in
            let c = cover_of m reads set sound g.next o g.operation.1 output in
            let tile = sound.tiled p g.next e.0 cover c.0 pair.at g.edge covers.member c.1.member (covers.output ∙ sym c.1.output) e.1.low e.1.high in
            later e.0 g.next c.0 e.1.low g.operation g.together c.1 (omega arith)
      ]

  -- what the rest of the chain determines, seen from the first row
  resolve : (p o t : ℕ) (xs ys : List Row) → ((n q : ℕ) (next : Cover) → (property_at set p).length.low ≤ n → n + next.from ≤ t → IsOperation set q → Together m set q (drop n xs) (drop n ys) → Covers set q o next → IsDetermined m set o (drop (t - n) (drop n xs)) (drop (t - n) (drop n ys))) → Advance m set p o t xs ys → IsDetermined m set o (drop t xs) (drop t ys)
  resolve p o t xs ys rest (here d) = d
  resolve p o t xs ys rest (later n q next low operation both covers begun) =
      let back : n + (t - n) ≡ t = omega arith in
      let there : (zs : List Row) → drop (t - n) (drop n zs) ≡ drop t zs = λ zs. drop-drop (t - n) n zs ∙ ap (λ (i : ℕ). drop i zs) back in
      subst (λ (zs : List Row). IsDetermined m set o zs (drop t ys)) (there xs)
      (subst (λ (zs : List Row). IsDetermined m set o (drop (t - n) (drop n xs)) zs) (there ys)
      (rest n q next low begun operation both covers))

  -- along the chain of operations that begins in the first row, for at most `steps` of them
  determined_from : (steps t p o : ℕ) (cover : Cover) (xs ys : List Row) → t ≤ steps → Together m set p xs ys → IsOperation set p → IsOutput set o → Covers set p o cover → cover.from ≤ t → t + largest_window set < length xs → IsDetermined m set o (drop t xs) (drop t ys)
  determined_from zero t p o cover xs ys few pair operation output covers begun room =
      let one = sound.advances p operation in
      resolve p o t xs ys (λ n q next low later op both c. absurd (omega arith)) (advance p o t cover xs ys pair output covers begun room)
  determined_from (suc k) t p o cover xs ys few pair operation output covers begun room =
      let one = sound.advances p operation in
      resolve p o t xs ys (λ n q next low later op both c. determined_from k (t - n) q o next (drop n xs) (drop n ys) (omega arith) both op output c (omega arith) (omega (arith, length-drop n xs))) (advance p o t cover xs ys pair output covers begun room)

  -- the reset property starts in the first row of both traces
  pub together_at_reset : (xs ys : List Row) → IsConstrained m set xs → IsConstrained m set ys → Satisfies m set xs → Satisfies m set ys → SameInputs set xs ys → largest_window set < length xs → Together m set 0 xs ys
  together_at_reset xs ys first second first_satisfies second_satisfies inputs fits =
      let small = window-le set 0 (omega arith) in
      record {
        at = omega arith;
        first = first;
        second = second;
        first_kept = first_satisfies.operations;
        second_kept = second_satisfies.operations;
        inputs = inputs;
        fits = fits;
        first_starts = record { assumes = refl; commits = first_satisfies.reset (omega arith) };
        second_starts = record { assumes = refl; commits = second_satisfies.reset (omega (arith, inputs-length set xs ys inputs)) };
        hands = subst (λ (es : List Expr). All (λ e. m.value e xs ≡ m.value e ys) es) (sym sound.reset_hands_nothing) (All-nil (λ e. m.value e xs ≡ m.value e ys));
      }

  -- a sound set whose lines are all valid is complete
  pub complete : IsComplete m set
  complete xs ys first second first_satisfies second_satisfies inputs o t output room =
      let pair = together_at_reset xs ys first second first_satisfies second_satisfies inputs (omega arith) in
      let c = cover_of m reads set sound 0 o (omega arith) output in
      let start = sound.from_the_start c.0 c.1.member in
      resolve 0 o t xs ys (λ n q next low later op both covers. determined_from t (t - n) q o next (drop n xs) (drop n ys) (omega arith) both op output covers (omega arith) (omega (arith, length-drop n xs))) (advance 0 o t c.0 xs ys pair output c.1 (omega arith) room)
