use Rattle.std.proofs.Common.{◌≡◌, ℕ, zero, suc, ◌+◌, ◌-◌, ◌<◌, ◌≤◌, Bool, not, nat_eq, List, [], ◌∷◌, take, drop, length, refl, sym, ◌∙◌, ap, subst, arith, length-take, length-drop, Option, Some, None}
use Rattle.std.proofs.lemmas.List.{take-take, drop-take, drop-drop, take-map, drop-map, length-map}
use Rattle.std.proofs.lemmas.List.Elements.{All-head, All-tail, All-take, All-drop}
use Rattle.std.specs.List.{All, list_all}
use Rattle.set_tree.specs.declared.set.Set.{Set}
use Rattle.vlog_tree.specs.declared.expr.Expr.{Expr}
use Rattle.set_tree.specs.declared.set.Length.{Length}
use Rattle.set_tree.specs.Meaning.{Row, Meaning, ReadsWithin, holds, all_hold}
use Rattle.set_tree.specs.Parts.{property_at, IsPosition, window_of, assumed, committed, first_offset, end_until, end_of, input_values}
use Rattle.set_tree.specs.Traces.{IsRow, IsConstrained, SameInputs}
use Rattle.set_tree.specs.Lines.{IsWindow, SameHands}
use Rattle.set_tree.specs.Structure.{IsLength, StaysWithin, KeepsOffsets}

-- the first n rows show k rows from s on
pub take_drop_take : {X : Type 0} (k s n : ℕ) (xs : List X) → s + k ≤ n → take k (drop s (take n xs)) ≡ take k (drop s xs)
take_drop_take k s n xs h =
    let e : s + (n - s) ≡ n = omega arith in
    let f = subst (λ (i : ℕ). drop s (take i xs) ≡ take (n - s) (drop s xs)) e (drop-take s (n - s) xs) in
    let small : k ≤ n - s = omega arith in
    ap (take k) f ∙ take-take k (n - s) (drop s xs) small

pub value_seen : (m : Meaning) (reads : ReadsWithin m) (e : Expr) (s end : ℕ) (xs : List Row) → s + m.largest e ≤ end → m.value e (drop s (take (end + 1) xs)) ≡ m.value e (drop s xs)
value_seen m reads e s end xs h = reads e _ _ (take_drop_take (m.largest e + 1) s (end + 1) xs (omega arith))

pub holds_seen : (m : Meaning) (reads : ReadsWithin m) (e : Expr) (s end : ℕ) (xs : List Row) → s + m.largest e ≤ end → holds m e (drop s (take (end + 1) xs)) ≡ holds m e (drop s xs)
holds_seen m reads e s end xs h = ap (λ v. not (nat_eq v 0)) (value_seen m reads e s end xs h)

-- two tests that agree at each element
pub list_all_agree : {X : Type 0} (p q : X → Bool) (xs : List X) → All (λ x. p x ≡ q x) xs → list_all p xs ≡ list_all q xs
list_all_agree p q [] h = refl
list_all_agree p q (x ∷ xs) h =
    let head = All-head (λ x. p x ≡ q x) x xs h in
    let tail = list_all_agree p q xs (All-tail (λ x. p x ≡ q x) x xs h) in
    cc

pub all_hold_seen : (m : Meaning) (reads : ReadsWithin m) (es : List Expr) (w s end : ℕ) (xs : List Row) → All (StaysWithin m w) es → s + w ≤ end → all_hold m es (drop s (take (end + 1) xs)) ≡ all_hold m es (drop s xs)
all_hold_seen m reads es w s end xs within h =
    list_all_agree _ _ es (λ k d lt. let small = within k d lt in holds_seen m reads _ s end xs (omega arith))

pub constrained-drop : (m : Meaning) (set : Set) (t : ℕ) (xs : List Row) → IsConstrained m set xs → IsConstrained m set (drop t xs)
constrained-drop m set t xs c = record {
  trace = All-drop (IsRow set.names) t xs c.trace;
  met = λ rule s member fits.
      rw (drop-drop s t xs) (c.met rule (t + s) member (omega (arith, length-drop t xs)));
}

-- the first rows of a constrained trace are a window
pub window_front : (m : Meaning) (reads : ReadsWithin m) (set : Set) (end : ℕ) (xs : List Row) → IsConstrained m set xs → end < length xs → IsWindow m set end (take (end + 1) xs)
window_front m reads set end xs c fits =
    let size : length (take (end + 1) xs) ≡ end + 1 = omega (arith, length-take (end + 1) xs) in
    record {
      size = size;
      constrained = record {
        trace = All-take (IsRow set.names) (end + 1) xs c.trace;
        met = λ rule s member within.
            let seen : s + m.largest rule.formula ≤ end = omega arith in
            let fits' : s + m.largest rule.formula < length xs = omega arith in
            holds_seen m reads rule.formula s end xs seen ∙ c.met rule s member fits';
      };
    }

pub inputs-drop : (set : Set) (t : ℕ) (xs ys : List Row) → SameInputs set xs ys → SameInputs set (drop t xs) (drop t ys)
inputs-drop set t xs ys same = sym (drop-map (input_values set.names) t xs) ∙ (ap (drop t) same ∙ drop-map (input_values set.names) t ys)

pub inputs-take : (set : Set) (n : ℕ) (xs ys : List Row) → SameInputs set xs ys → SameInputs set (take n xs) (take n ys)
inputs-take set n xs ys same = sym (take-map (input_values set.names) n xs) ∙ (ap (take n) same ∙ take-map (input_values set.names) n ys)

pub inputs-length : (set : Set) (xs ys : List Row) → SameInputs set xs ys → length xs ≡ length ys
inputs-length set xs ys same = sym (length-map xs (input_values set.names)) ∙ (ap length same ∙ length-map ys (input_values set.names))

-- what a window shows of its trace
module _ (m : Meaning) (reads : ReadsWithin m) (set : Set) (offsets : KeepsOffsets m set) where
  pub assumed_seen : (p s end : ℕ) (xs : List Row) → IsPosition set p → s + window_of set p ≤ end → assumed m set p (drop s (take (end + 1) xs)) ≡ assumed m set p (drop s xs)
  assumed_seen zero s end xs at h = refl
  assumed_seen (suc i) s end xs at h = all_hold_seen m reads _ (window_of set (suc i)) s end xs (offsets.assumptions (suc i) at) h

  pub committed_seen : (p s end : ℕ) (xs : List Row) → IsPosition set p → s + window_of set p ≤ end → committed m set p (drop s (take (end + 1) xs)) ≡ committed m set p (drop s xs)
  committed_seen p s end xs at h = all_hold_seen m reads _ (window_of set p) s end xs (offsets.commitments p at) h

  pub first_offset_seen : (e : Expr) (n k end : ℕ) (xs : List Row) → m.largest e ≡ 0 → n + k ≤ end + 1 → first_offset m e (take (end + 1) xs) n k ≡ first_offset m e xs n k
  first_offset_seen e n zero end xs own h = refl
  first_offset_seen e n (suc k) end xs own h =
      let rest = first_offset_seen e (suc n) k end xs own (omega arith) in
      let here = holds_seen m reads e n end xs (omega arith) in
      cc

  pub end_until_seen : (span : Length) (until : Option Expr) (end : ℕ) (xs : List Row) → ((e : Expr) → until ≡ Some e → m.largest e ≡ 0) → span.low ≤ span.high → span.high ≤ end → end_until m span until (take (end + 1) xs) ≡ end_until m span until xs
  end_until_seen span None end xs own order fits = refl
  end_until_seen span (Some e) end xs own order fits = first_offset_seen e span.low (suc span.high - span.low) end xs (own e refl) (omega arith)

  pub end_seen : (p end : ℕ) (xs : List Row) → IsLength (property_at set p).length (window_of set p) → IsPosition set p → window_of set p ≤ end → end_of m set p (take (end + 1) xs) ≡ end_of m set p xs
  end_seen p end xs span at h =
      end_until_seen (property_at set p).length (property_at set p).length.until end xs (λ e is. offsets.untils p e at is) span.order (omega arith)

  pub hands_seen : (p s end : ℕ) (xs ys : List Row) → IsPosition set p → s + window_of set p ≤ end → SameHands m set p (drop s xs) (drop s ys) → SameHands m set p (drop s (take (end + 1) xs)) (drop s (take (end + 1) ys))
  hands_seen p s end xs ys at h same = λ k d lt.
      let small = offsets.hands p at k d lt in
      value_seen m reads _ s end xs (omega arith) ∙ (same k d lt ∙ sym (value_seen m reads _ s end ys (omega arith)))

  pub hands_shown : (p s end : ℕ) (xs ys : List Row) → IsPosition set p → s + window_of set p ≤ end → SameHands m set p (drop s (take (end + 1) xs)) (drop s (take (end + 1) ys)) → SameHands m set p (drop s xs) (drop s ys)
  hands_shown p s end xs ys at h same = λ k d lt.
      let small = offsets.hands p at k d lt in
      sym (value_seen m reads _ s end xs (omega arith)) ∙ (same k d lt ∙ value_seen m reads _ s end ys (omega arith))
