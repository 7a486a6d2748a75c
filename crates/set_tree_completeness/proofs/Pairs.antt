-- Sets of a reset property and one operation that follows it and itself.
use Rattle.std.proofs.Common.{◌≡◌, ℕ, zero, suc, ◌+◌, ◌<◌, ◌≤◌, true, false, nat_eq, IsSome, List, [], ◌∷◌, drop, refl, sym, ◌∙◌, ap, subst, arith, Option, None, Some, slice_get, slice_index_or, codes}
use Rattle.std.proofs.lemmas.List.Elements.{All-nil}
use Rattle.std.specs.List.{All, Contains, count_by, list_any}
use Rattle.std.specs.Option.{option_map}
use Rattle.vlog_tree.specs.declared.expr.Expr.{Expr}
use Rattle.set_tree.specs.declared.set.Cover.{Cover}
use Rattle.set_tree.specs.declared.set.Name.{Name}
use Rattle.set_tree.specs.declared.set.Property.{Property}
use Rattle.set_tree.specs.declared.set.Role.TheVariants.{Output, State}
use Rattle.set_tree.specs.declared.set.Set.{Set}
use Rattle.set_tree.specs.Formulas.{meaning_of}
use Rattle.set_tree.specs.Meaning.{Row, Meaning}
use Rattle.set_tree.specs.Parts.{property_at, IsPosition, IsOperation, HasUntil, IsOutput, assumed, cover_end, domain_of, window_of}
use Rattle.set_tree.specs.Structure.{IsCover, IsLength, IsSound, KeepsOffsets, StaysWithin}
use Rattle.set_tree.specs.Traces.{IsDetermined}
use Rattle.set_tree.specs.Lines.{IsPairTo, ViolatesChoose, ViolatesDetermine, ViolatesHand, ViolatesSplit}
use Rattle.set_tree_completeness.specs.Needed.{bits, low_reset, set_of}
use Rattle.set_tree_completeness.specs.Terms.{cover_to, declared}
use Rattle.set_tree_completeness.proofs.Bits.{equal_is, on_one, single}

-- what holds at 0 and at 1 holds at each position
pub by_position : (F : ℕ → Type 0) → F 0 → F 1 → (p : ℕ) → p ≤ 1 → F p
by_position F first second zero at = first
by_position F first second (suc zero) at = second
by_position F first second (suc (suc p)) at = absurd (omega arith)

from_one : {X : Type 0} (x y : X) (k : ℕ) → k < 1 → slice_index_or (x ∷ []) k y ≡ y → x ≡ y
from_one x y zero lt is = is
from_one x y (suc k) lt is = absurd (omega arith)

pub only : {X : Type 0} (x y : X) → Contains (x ∷ []) y → x ≡ y
only x y c = from_one x y c.0 c.1 c.2

no_domains : (i : ℕ) (name : Name) (e : Expr) → slice_get bits i ≡ Some name → name.domain ≡ Some e → ⊥
no_domains zero name e there is = let none : None ≡ name.domain = ap domain_of there in cc
no_domains (suc zero) name e there is = let none : None ≡ name.domain = ap domain_of there in cc
no_domains (suc (suc i)) name e there is = cc

-- o is the only output
one_output : (i : ℕ) → ((name : Name) × (slice_get bits i ≡ Some name) × (name.role ≡ Output)) → i ≡ 0
one_output zero out = refl
one_output (suc zero) out = absurd (let state : Some State ≡ Some out.0.role = ap (option_map (λ (x : Name). x.role)) out.1 in let output = out.2 in cc)
one_output (suc (suc i)) out = let none = out.1 in absurd cc

pub o_is_output : (name : Name) × (slice_get bits 0 ≡ Some name) × (name.role ≡ Output)
o_is_output = (declared (codes "o") Output 1, refl, refl)

-- a property's one cover at an offset where something violates its line
pub determined_by : (m : Meaning) (set : Set) (p n : ℕ) (one cover : Cover) (at : ℕ) (xs ys : List Row) → (property_at set p).covers ≡ one ∷ [] → ViolatesDetermine m set p n cover at xs ys → (one.from ≤ at → at < cover_end one.to n → IsDetermined m set one.output (drop at xs) (drop at ys)) → ⊥
determined_by m set p n one cover at xs ys covers v determined =
    let is : one ≡ cover = only one cover (subst (λ (cs : List Cover). Contains cs cover) covers v.covers) in
    let begun : one.from ≤ at = subst (λ (c : Cover). c.from ≤ at) (sym is) v.begun in
    let before : at < cover_end one.to n = subst (λ (c : Cover). at < cover_end c.to n) (sym is) v.not_ended in
    v.differ (subst (λ (c : Cover). IsDetermined m set c.output (drop at xs) (drop at ys)) is (determined begun before))

module _ (first go : Property) (v0 v1 : Cover) where
  -- `go` follows both, and each has one cover
  pub record IsPair : Type 0 where
    pub first_next : first.next ≡ 1 ∷ []
    pub second_next : go.next ≡ 1 ∷ []
    pub first_covers : first.covers ≡ v0 ∷ []
    pub second_covers : go.covers ≡ v1 ∷ []

  -- the properties' numbers are in order
  pub record IsOrdered : Type 0 where
    pub first_length : IsLength first.length first.window
    pub second_length : IsLength go.length go.window
    pub advances : 1 ≤ go.length.low
    pub first_output : v0.output ≡ 0
    pub second_output : v1.output ≡ 0
    pub first_cover : IsCover first v0
    pub second_cover : IsCover go v1
    pub from_the_start : v0.from ≡ 0

  -- no offset is too large
  pub record IsWithin (m : Meaning) : Type 0 where
    pub first_assumes : All (StaysWithin m first.window) first.assume
    pub second_assumes : All (StaysWithin m go.window) go.assume
    pub first_commits : All (StaysWithin m first.window) first.commit
    pub second_commits : All (StaysWithin m go.window) go.commit
    pub first_hands : All (StaysWithin m first.window) first.hand
    pub second_hands : All (StaysWithin m go.window) go.hand
    pub first_until : (e : Expr) → first.length.until ≡ Some e → m.largest e ≡ 0
    pub second_until : (e : Expr) → go.length.until ≡ Some e → m.largest e ≡ 0

  -- where both covers end where that of `go` begins
  pub record IsTiled : Type 0 where
    pub first_ends : (n : ℕ) → first.length.low ≤ n → n ≤ first.length.high → cover_end v0.to n ≡ n + v1.from
    pub second_ends : (n : ℕ) → go.length.low ≤ n → n ≤ go.length.high → cover_end v1.to n ≡ n + v1.from

  abbrev the_set : Set
  the_set = set_of first go

  -- where no property ends by a condition, none has one
  pub no_until : first.length.until ≡ None → go.length.until ≡ None → (p : ℕ) → HasUntil the_set p → ⊥
  no_until none_first none_second p has =
      by_position (λ p. IsSome (property_at the_set p).length.until → ⊥)
      (λ some. let e : false ≡ true = subst (λ (u : Option Expr). IsSome u) none_first some in cc)
      (λ some. let e : false ≡ true = subst (λ (u : Option Expr). IsSome u) none_second some in cc)
      p has.0.1 has.1

  module _ (pair : IsPair) where
    pub next_is : (p : ℕ) → p ≤ 1 → (property_at the_set p).next ≡ 1 ∷ []
    next_is = by_position (λ p. (property_at the_set p).next ≡ 1 ∷ []) pair.first_next pair.second_next

    pub successor : (p q : ℕ) → p ≤ 1 → Contains (property_at the_set p).next q → 1 ≡ q
    successor p q at edge = only 1 q (subst (λ (qs : List ℕ). Contains qs q) (next_is p at) edge)

    first_only : (cover : Cover) → Contains first.covers cover → v0 ≡ cover
    first_only cover member = only v0 cover (subst (λ (cs : List Cover). Contains cs cover) pair.first_covers member)

    second_only : (cover : Cover) → Contains go.covers cover → v1 ≡ cover
    second_only cover member = only v1 cover (subst (λ (cs : List Cover). Contains cs cover) pair.second_covers member)

    pub offsets : (m : Meaning) → IsWithin m → KeepsOffsets m the_set
    offsets m within = record {
      assumptions = by_position (λ p. All (StaysWithin m (window_of the_set p)) (property_at the_set p).assume) within.first_assumes within.second_assumes;
      commitments = by_position (λ p. All (StaysWithin m (window_of the_set p)) (property_at the_set p).commit) within.first_commits within.second_commits;
      hands = by_position (λ p. All (StaysWithin m (window_of the_set p)) (property_at the_set p).hand) within.first_hands within.second_hands;
      untils = λ p e at. by_position (λ p. (property_at the_set p).length.until ≡ Some e → m.largest e ≡ 0) (within.first_until e) (within.second_until e) p at;
      domains = λ i name e there is. absurd (no_domains i name e there is);
      invariants = λ rule member. absurd (omega (arith, member.1));
    }

    module _ (ordered : IsOrdered) where
      pub lengths : (p : ℕ) → p ≤ 1 → IsLength (property_at the_set p).length (property_at the_set p).window
      lengths = by_position (λ p. IsLength (property_at the_set p).length (property_at the_set p).window) ordered.first_length ordered.second_length

      pub advances : (p : ℕ) → IsOperation the_set p → 1 ≤ (property_at the_set p).length.low
      advances p op = by_position (λ p. 0 < p → 1 ≤ (property_at the_set p).length.low) (λ (never : 0 < 0). absurd (omega arith)) (λ (some : 0 < 1). ordered.advances) p op.1 op.0

      one_cover : (cs : List Cover) (v : Cover) → cs ≡ v ∷ [] → v.output ≡ 0 → count_by (λ c. nat_eq c.output 0) cs ≡ 1
      one_cover cs v are is = rw are (rw is refl)

      pub covered : (p i : ℕ) → IsPosition the_set p → IsOutput the_set i → count_by (λ c. nat_eq c.output i) (property_at the_set p).covers ≡ 1
      covered p i at out =
          subst (λ (j : ℕ). count_by (λ c. nat_eq c.output j) (property_at the_set p).covers ≡ 1) (sym (one_output i out))
          (by_position (λ p. count_by (λ c. nat_eq c.output 0) (property_at the_set p).covers ≡ 1) (one_cover first.covers v0 pair.first_covers ordered.first_output) (one_cover go.covers v1 pair.second_covers ordered.second_output) p at)

      pub covers : (p : ℕ) (cover : Cover) → IsPosition the_set p → Contains (property_at the_set p).covers cover → IsCover (property_at the_set p) cover
      covers p cover at =
          by_position (λ p. Contains (property_at the_set p).covers cover → IsCover (property_at the_set p) cover)
          (λ (member : Contains first.covers cover). subst (IsCover first) (first_only cover member) ordered.first_cover)
          (λ (member : Contains go.covers cover). subst (IsCover go) (second_only cover member) ordered.second_cover)
          p at

      pub from_the_start : (cover : Cover) → Contains first.covers cover → cover.from ≡ 0
      from_the_start cover member = subst (λ (c : Cover). c.from ≡ 0) (first_only cover member) ordered.from_the_start

      pub edges : (p q : ℕ) → IsPosition the_set p → Contains (property_at the_set p).next q → IsOperation the_set q
      edges p q at edge = let is = successor p q at edge in (omega arith, omega arith)

      pub tiled : IsTiled → (p q n : ℕ) (cover next : Cover) → IsPosition the_set p → Contains (property_at the_set p).next q → Contains (property_at the_set p).covers cover → Contains (property_at the_set q).covers next → cover.output ≡ next.output → (property_at the_set p).length.low ≤ n → n ≤ (property_at the_set p).length.high → cover_end cover.to n ≡ n + next.from
      tiled tile p q n cover next at edge member after same low high =
          let after' : Contains go.covers next = subst (λ (i : ℕ). Contains (property_at the_set i).covers next) (sym (successor p q at edge)) after in
          subst (λ (c : Cover). cover_end cover.to n ≡ n + c.from) (second_only next after')
          (by_position (λ p. Contains (property_at the_set p).covers cover → (property_at the_set p).length.low ≤ n → n ≤ (property_at the_set p).length.high → cover_end cover.to n ≡ n + v1.from)
          (λ (member : Contains first.covers cover) (low : first.length.low ≤ n) (high : n ≤ first.length.high). subst (λ (c : Cover). cover_end c.to n ≡ n + v1.from) (first_only cover member) (tile.first_ends n low high))
          (λ (member : Contains go.covers cover) (low : go.length.low ≤ n) (high : n ≤ go.length.high). subst (λ (c : Cover). cover_end c.to n ≡ n + v1.from) (second_only cover member) (tile.second_ends n low high))
          p at member low high)

      pub is_sound : (m : Meaning) → IsWithin m → IsTiled → first.length.until ≡ None → first.hand ≡ [] → IsSound m the_set
      is_sound m within tile fixed none = record {
        lengths = lengths;
        reset_fixed = fixed;
        advances = advances;
        covered = covered;
        covers = covers;
        from_the_start = from_the_start;
        edges = edges;
        tiled = tiled tile;
        reset_hands_nothing = none;
        offsets = offsets m within;
      }

-- where the operation is assumed at an offset, it follows there

pub some_follows : (m : Meaning) (set : Set) (p n : ℕ) (rows : List Row) → (property_at set p).next ≡ 1 ∷ [] → assumed m set 1 (drop n rows) ≡ true → ¬ ViolatesSplit m set p n rows
some_follows m set p n rows next follows v =
    let none : list_any (λ q. assumed m set q (drop n rows)) (1 ∷ []) ≡ false = subst (λ (qs : List ℕ). list_any (λ q. assumed m set q (drop n rows)) qs ≡ false) next v.none_follows in
    let some : list_any (λ q. assumed m set q (drop n rows)) (1 ∷ []) ≡ true = rw follows refl in
    cc

pub none_refused : (m : Meaning) (set : Set) (p q n : ℕ) (xs ys : List Row) → 1 ≡ q → assumed m set 1 (drop n ys) ≡ true → ¬ ViolatesChoose m set p q n xs ys
none_refused m set p q n xs ys is follows v =
    let refused : assumed m set 1 (drop n ys) ≡ false = subst (λ (i : ℕ). assumed m set i (drop n ys) ≡ false) (sym is) v.refused in
    cc

-- nothing is handed over
pub nothing_differs : (m : Meaning) (set : Set) (p q n : ℕ) (xs ys : List Row) → 1 ≡ q → (property_at set 1).hand ≡ [] → ¬ ViolatesHand m set p q n xs ys
nothing_differs m set p q n xs ys is none v =
    let nothing : [] ≡ (property_at set q).hand = subst (λ (i : ℕ). [] ≡ (property_at set i).hand) is (sym none) in
    v.differ (subst (λ (es : List Expr). All (λ e. m.value e (drop n xs) ≡ m.value e (drop n ys)) es) nothing (All-nil (λ e. m.value e (drop n xs) ≡ m.value e (drop n ys))))

-- after the reset property whose commitment is `!o@0`, o is 0

low_at_reset : (go : Property) (n : ℕ) (xs ys : List Row) → IsPairTo (meaning_of (set_of low_reset go)) (set_of low_reset go) 0 n 0 xs ys → IsDetermined (meaning_of (set_of low_reset go)) (set_of low_reset go) 0 xs ys
low_at_reset go n xs ys pair =
    on_one (λ xs ys. IsPairTo (meaning_of (set_of low_reset go)) (set_of low_reset go) 0 n 0 xs ys → IsDetermined (meaning_of (set_of low_reset go)) (set_of low_reset go) 0 xs ys)
    (λ (a b a' b' : ℕ) (pair : IsPairTo (meaning_of (set_of low_reset go)) (set_of low_reset go) 0 n 0 ((a ∷ b ∷ []) ∷ []) ((a' ∷ b' ∷ []) ∷ [])).
    let first : a ≡ 0 = equal_is a 0 (single _ pair.pair.first_starts.commits) in
    let second : a' ≡ 0 = equal_is a' 0 (single _ pair.pair.second_starts.commits) in
    record { domains = refl; values = λ within. first ∙ sym second })
    xs ys pair.pair.first.constrained.trace pair.pair.first.size pair.pair.second.constrained.trace pair.pair.second.size pair

pub reset_determined : (go : Property) (n : ℕ) (cover : Cover) (at : ℕ) (xs ys : List Row) → ViolatesDetermine (meaning_of (set_of low_reset go)) (set_of low_reset go) 0 n cover at xs ys → ⊥
reset_determined go n cover at xs ys v =
    determined_by (meaning_of (set_of low_reset go)) (set_of low_reset go) 0 n (cover_to 0 0 1) cover at xs ys refl v
    (λ (begun : 0 ≤ at) (before : at < 1).
    let here : 0 ≡ at = omega arith in
    subst (λ (i : ℕ). IsDetermined (meaning_of (set_of low_reset go)) (set_of low_reset go) 0 (drop i xs) (drop i ys)) here (low_at_reset go n xs ys v.pair))
