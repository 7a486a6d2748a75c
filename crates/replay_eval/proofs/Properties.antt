-- The parts of properties in rows.
use Rattle.std.proofs.Common.{◌≡◌, ℕ, zero, suc, ◌+◌, ◌-◌, ◌<◌, ◌≤◌, Bool, true, false, List, [], ◌∷◌, length, drop, get_or, add-one, refl, sym, ap, ◌∙◌, subst, arith, inl, inr, Some}
use Rattle.std.specs.Prelude.{◌&&◌, max, not, slice_get}
use Rattle.std.specs.List.{All, Contains}
use Rattle.std.proofs.lemmas.Bool.{cases_lt}
use Rattle.vlog_tree.specs.declared.expr.Expr.{Expr}
use Rattle.set_tree.specs.declared.set.Cover.{Cover}
use Rattle.set_tree.specs.declared.set.Name.{Name}
use Rattle.set_tree.specs.declared.set.Property.{Property}
use Rattle.set_tree.specs.declared.set.Rule.{Rule}
use Rattle.set_tree.specs.declared.set.Set.{Set}
use Rattle.set_tree.specs.declared.set.To.{To}
use Rattle.set_tree.specs.declared.set.To.TheVariants.{At, AfterEnd}
use Rattle.set_tree.specs.Formulas.{meaning_of}
use Rattle.set_tree.specs.Meaning.{Row, Meaning, holds}
use Rattle.set_tree.specs.Parts.{property_at, IsPosition, first_offset, window_of, cover_end}
use Rattle.set_tree.specs.Lines.{last_row}
use Rattle.replay_eval.proofs.Tracing.{cut, get_same}
use Rattle.set_tree.specs.Structure.{IsLength, IsSound}
use Rattle.set_tree_structure.specs.Condition.{IsFormula, IsWellFormed}
use Rattle.twin_tests_laws.specs.Tests.{all_below, any_from, determined}
use Rattle.twin_tests.specs.Building.{IsReadable}
use Rattle.twin_tests.specs.Reading.{FollowsWithin, HasStructure, ReadsWindow}
use Rattle.twin_tests.proofs.Readings.{reads_window, property_later, constraints_formed, domain_readable, readable_more}
use Rattle.twin_tests.proofs.Loops.{below_more, member_is}

-- what is known of a property of a set with a sound structure
pub record IsKnown (set : Set) (property : Property) : Type 0 where
  pub reads : ReadsWindow set property
  pub span : IsLength property.length property.window
  pub small : property.window ≤ 64

pub known : (set : Set) (at : ℕ) → IsSound (meaning_of set) set → IsWellFormed set → IsPosition set at → IsKnown set (property_at set at)
known set at sound formed position =
    let s : HasStructure set = record { sound = sound; formed = formed } in
    record { reads = reads_window set at s position; span = sound.lengths at position; small = formed.bounds.windows at position }

-- the set, as it was handed out
pub known_first : (set own : Set) → own ≡ set → IsSound (meaning_of set) set → IsWellFormed set → IsKnown set own.first
known_first set own same sound formed = rw same (known set 0 sound formed (omega arith))

pub known_later : (set own : Set) (xs : List Property) (at : ℕ) (x : Property) → own ≡ set → xs ≡ own.operations → IsSound (meaning_of set) set → IsWellFormed set → IsPosition set at → 0 < at → x ≡ get_or xs (at - 1) x → IsKnown set x
known_later set own xs at x same all sound formed position lt is =
    let there : x ≡ get_or set.operations (at - 1) x = is ∙ ap (λ (ys : List Property). get_or ys (at - 1) x) (all ∙ ap (λ (s : Set). s.operations) same) in
    subst (IsKnown set) (property_later set at x lt position there) (known set at sound formed position)

pub rule_formed : (set own : Set) (xs : List Rule) (k : ℕ) (x : Rule) → own ≡ set → xs ≡ own.constraints → IsSound (meaning_of set) set → IsWellFormed set → x ≡ get_or xs k x → k < length xs → IsFormula set x.formula
rule_formed set own xs k x same all sound formed is lt =
    let these : xs ≡ set.constraints = all ∙ ap (λ (s : Set). s.constraints) same in
    member_is (λ (r : Rule). IsFormula set r.formula) xs k x is lt (subst (λ (ys : List Rule). All (λ (r : Rule). IsFormula set r.formula) ys) (sym these) (constraints_formed set (record { sound = sound; formed = formed })))

-- the successors of a property, as they were handed out
pub follow_listed : (set : Set) (property : Property) (at k : ℕ) (next : List ℕ) → property ≡ property_at set at → next ≡ property.next → All (FollowsWithin set k) (property_at set at).next → All (FollowsWithin set k) next
follow_listed set property at k next same listed all = subst (λ (qs : List ℕ). All (FollowsWithin set k) qs) (sym (listed ∙ ap (λ (p : Property). p.next) same)) all

pub next_positions : (set : Set) (property : Property) (at : ℕ) (next : List ℕ) → HasStructure set → IsPosition set at → property ≡ property_at set at → next ≡ property.next → All (IsPosition set) next
next_positions set property at next s position same listed =
    let there : next ≡ (property_at set at).next = listed ∙ ap (λ (p : Property). p.next) same in
    subst (λ (qs : List ℕ). All (IsPosition set) qs) (sym there)
    (λ k d lt. s.formed.successors at (get_or (property_at set at).next k d) position (k, lt, get_same (property_at set at).next k (get_or (property_at set at).next k d) d lt))

-- one successor more
pub last_more : (set : Set) (w x n : ℕ) (qs : List ℕ) → last_row set (max w x) n qs ≡ max x (last_row set w n qs)
last_more set w x n [] = omega arith
last_more set w x n (q ∷ qs) = let rest = last_more set w x n qs in omega (arith, rest)

pub last_next : (set : Set) (w n i d new far : ℕ) (qs : List ℕ) → i < length qs → far ≡ window_of set (get_or qs i d) → new ≡ max w (n + far) → last_row set new n (drop (i + 1) qs) ≡ last_row set w n (drop i qs)
last_next set w n i d new far qs lt is made =
    rw (cut qs i (get_or qs i d) lt (get_same qs i d (get_or qs i d) lt), made, is) (last_more set w (n + window_of set (get_or qs i d)) n (drop (i + 1) qs))

pub last_listed : (set : Set) (property : Property) (at n r : ℕ) (next : List ℕ) → property ≡ property_at set at → next ≡ property.next → r ≡ last_row set property.window n next → r ≡ last_row set (window_of set at) n (property_at set at).next
last_listed set property at n r next same listed is =
    let there : next ≡ (property_at set at).next = listed ∙ ap (λ (p : Property). p.next) same in
    is ∙ λ i. last_row set (same i).window n (there i)

-- a domain, as it was handed out
pub domain_known : (set own : Set) (o k : ℕ) (name : Name) (e : Expr) → own ≡ set → slice_get own.names o ≡ Some name → name.domain ≡ Some e → IsSound (meaning_of set) set → IsWellFormed set → 0 < k → IsReadable set k e
domain_known set own o k name e same at is sound formed lt =
    let there : slice_get set.names o ≡ Some name = subst (λ (s : Set). slice_get s.names o ≡ Some name) same at in
    readable_more set 1 k e (omega arith) (domain_readable set o name e (record { sound = sound; formed = formed }) there is)

-- a cover's end is within the window
pub cover_fits : (set : Set) (property : Property) (at n k i far : ℕ) (covers : List Cover) (d : Cover) → HasStructure set → IsPosition set at → property ≡ property_at set at → covers ≡ property.covers → i < length covers →
    n ≤ (property_at set at).length.high → window_of set at < k → far ≡ cover_end (get_or covers i d).to n → far ≤ k
cover_fits set property at n k i far covers d s position same listed lt le fits end =
    let x = get_or covers i d in
    let there : covers ≡ (property_at set at).covers = listed ∙ ap (λ (p : Property). p.covers) same in
    let member : Contains (property_at set at).covers x = subst (λ (cs : List Cover). Contains cs x) there (i, lt, get_same covers i x d lt) in
    let bound = (s.sound.covers at x position member).fits in
    let less = no_later x.to n (property_at set at).length.high le in
    omega (arith, bound, less, fits, end)
  where
    no_later : (to : To) (n high : ℕ) → n ≤ high → cover_end to n ≤ cover_end to high
    no_later (At r) n high le = omega arith
    no_later (AfterEnd d) n high le = omega arith

false_right : (b x : Bool) → x ≡ false → false ≡ (b && x)
false_right true x h = sym h
false_right false x h = refl

false_left : (b x : Bool) → false ≡ b → false ≡ (b && x)
false_left true x h = absurd cc
false_left false x h = refl

pub below_breaks : (k : ℕ) (p : ℕ → Bool) (t : ℕ) → t < k → p t ≡ false → false ≡ all_below k p
below_breaks zero p t lt h = absurd (omega arith)
below_breaks (suc k) p t lt h = elim (cases_lt t k) [
  | inl less ↦ false_left (all_below k p) (p k) (below_breaks k p t less h)
  | inr more ↦ let is : k ≡ t = omega arith in false_right (all_below k p) (p k) (ap p is ∙ h)
]

pub below_next : (k : ℕ) (p : ℕ → Bool) → all_below k p ≡ true → p k ≡ true → all_below (k + 1) p ≡ true
below_next k p all here = sym (below_more k p) ∙ (ap (λ b. b && p k) all ∙ here)

-- one of the numbers from n on
pub any_here : (n to : ℕ) (p : ℕ → Bool) → n < to → p n ≡ true → any_from n (to - n) p ≡ true
any_here n to p lt h = let k : to - n ≡ suc (to - (n + 1)) = omega arith in rw k (rw h refl)

pub any_later : (n to : ℕ) (p : ℕ → Bool) → n < to → p n ≡ false → any_from n (to - n) p ≡ any_from (n + 1) (to - (n + 1)) p
any_later n to p lt h = let k : to - n ≡ suc (to - (n + 1)) = omega arith in rw k (rw h (rw add-one refl))

-- whether an output is determined from a row on, as it was answered
pub apart_is : (m : Meaning) (set : Set) (o at : ℕ) (xs ys one other : List Row) (answer b : Bool) → one ≡ drop at xs → other ≡ drop at ys → answer ≡ determined m set o one other → answer ≡ b → not (determined m set o (drop at xs) (drop at ys)) ≡ not b
apart_is m set o at xs ys one other answer b first second said is = ap not ((λ i. determined m set o (sym first i) (sym second i)) ∙ (sym said ∙ is))

-- a test of the rows from one on, as it was answered
pub held_later : (m : Meaning) (e : Expr) (t : ℕ) (rows later : List Row) (answer b : Bool) → later ≡ drop t rows → answer ≡ holds m e later → answer ≡ b → holds m e (drop t rows) ≡ b
held_later m e t rows later answer b is held answered = ap (λ (r : List Row). holds m e r) (sym is) ∙ (sym held ∙ answered)

module _ (m : Meaning) (e : Expr) (rows : List Row) (n high : ℕ) (le : n ≤ high) where
  pub first_here : holds m e (drop n rows) ≡ true → first_offset m e rows n (suc high - n) ≡ Some n
  first_here h = let k : suc high - n ≡ suc (high - n) = omega arith in rw k (rw h refl)

  pub first_later : holds m e (drop n rows) ≡ false → first_offset m e rows n (suc high - n) ≡ first_offset m e rows (n + 1) (suc high - (n + 1))
  first_later h =
      let j : suc high - (n + 1) ≡ high - n = omega arith in
      let k : suc high - n ≡ suc (high - n) = omega arith in
      rw j (rw k (rw h (rw add-one refl)))
