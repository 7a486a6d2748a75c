-- The formulas of a set with a sound structure.
use Rattle.std.proofs.Common.{◌≡◌, ℕ, zero, suc, ◌+◌, ◌-◌, ◌<◌, ◌≤◌, List, [], ◌∷◌, ◌++◌, length, map, drop, get_or, refl, sym, ap, ◌∙◌, subst, arith, Option, Some, None}
use Rattle.std.specs.Prelude.{slice_get}
use Rattle.std.specs.List.{All, Contains, flat_map}
use Rattle.std.specs.Option.{option_to_list}
use Rattle.std.proofs.lemmas.List.{length-drop}
use Rattle.std.proofs.lemmas.List.Concat.{flat_map-cons}
use Rattle.std.proofs.lemmas.List.Elements.{All-head, All-tail, All-cons, All-nil}
use Rattle.vlog_tree.specs.declared.expr.Expr.{Expr}
use Rattle.set_tree.specs.declared.set.Name.{Name}
use Rattle.set_tree.specs.declared.set.Property.{Property}
use Rattle.set_tree.specs.declared.set.Rule.{Rule}
use Rattle.set_tree.specs.declared.set.Set.{Set}
use Rattle.set_tree.specs.Formulas.{largest_offset}
use Rattle.set_tree.specs.Parts.{property_at, IsPosition, window_of}
use Rattle.set_tree_structure.specs.Condition.{IsFormula, property_formulas}
use Rattle.twin_tests.specs.Building.{IsReadable}
use Rattle.set_tree.specs.Lines.{last_row}
use Rattle.twin_tests_laws.specs.Lines.{split_end}
use Rattle.twin_tests.specs.Reading.{HasStructure, FollowsWithin, ReadsWindow}

all_left : {X : Type 0} (P : X → Type 0) (xs ys : List X) → All P (xs ++ ys) → All P xs
all_left P [] ys h = All-nil P
all_left P (x ∷ xs) ys h = All-cons P x xs (All-head P x (xs ++ ys) h) (all_left P xs ys (All-tail P x (xs ++ ys) h))

all_right : {X : Type 0} (P : X → Type 0) (xs ys : List X) → All P (xs ++ ys) → All P ys
all_right P [] ys h = h
all_right P (x ∷ xs) ys h = all_right P xs ys (All-tail P x (xs ++ ys) h)

all_flat : {X A : Type 0} (P : A → Type 0) (f : X → List A) (xs : List X) (i : ℕ) (d : X) → i < length xs → All P (flat_map f xs) → All P (f (get_or xs i d))
all_flat P f [] i d lt h = absurd (omega arith)
all_flat P f (x ∷ xs) zero d lt h = all_left P (f x) (flat_map f xs) (subst (λ (ys : List _). All P ys) (flat_map-cons f x xs) h)
all_flat P f (x ∷ xs) (suc i) d lt h = all_flat P f xs i d (omega arith) (all_right P (f x) (flat_map f xs) (subst (λ (ys : List _). All P ys) (flat_map-cons f x xs) h))

all_mapped : {X A : Type 0} (P : A → Type 0) (f : X → A) (xs : List X) → All P (map f xs) → All (λ x. P (f x)) xs
all_mapped P f [] h = All-nil (λ x. P (f x))
all_mapped P f (x ∷ xs) h = All-cons (λ x. P (f x)) x xs (All-head P (f x) (map f xs) h) (all_mapped P f xs (All-tail P (f x) (map f xs) h))

pub constraints_formed : (set : Set) → HasStructure set → All (λ (r : Rule). IsFormula set r.formula) set.constraints
constraints_formed set s =
    let all = s.formed.formulas in
    all_mapped (IsFormula set) (λ (r : Rule). r.formula) set.constraints (all_left (IsFormula set) _ _ (all_left (IsFormula set) _ _ (all_left (IsFormula set) _ _ (all_left (IsFormula set) _ _ all))))

domains_formed : (set : Set) → HasStructure set → All (IsFormula set) (flat_map (λ (n : Name). option_to_list n.domain) set.names)
domains_formed set s =
    all_right (IsFormula set) (map (λ (r : Rule). r.formula) set.constraints ++ map (λ (r : Rule). r.formula) set.invariants) _ (all_left (IsFormula set) _ _ (all_left (IsFormula set) _ _ s.formed.formulas))

formulas_formed : (set : Set) → HasStructure set → (p : ℕ) → IsPosition set p → All (IsFormula set) (property_formulas (property_at set p))
formulas_formed set s zero position = all_right (IsFormula set) ((map (λ (r : Rule). r.formula) set.constraints ++ map (λ (r : Rule). r.formula) set.invariants) ++ flat_map (λ (n : Name). option_to_list n.domain) set.names) _ (all_left (IsFormula set) _ _ s.formed.formulas)
formulas_formed set s (suc i) position = all_flat (IsFormula set) property_formulas set.operations i set.first (omega (arith, position)) (all_right (IsFormula set) (((map (λ (r : Rule). r.formula) set.constraints ++ map (λ (r : Rule). r.formula) set.invariants) ++ flat_map (λ (n : Name). option_to_list n.domain) set.names) ++ property_formulas set.first) _ s.formed.formulas)

readable : (set : Set) (w : ℕ) (es : List Expr) → All (IsFormula set) es → All (λ e. largest_offset e ≤ w) es → All (IsReadable set (w + 1)) es
readable set w es formed within = λ k d lt. record { formed = formed k d lt; fits = let le = within k d lt in omega (arith, le) }

untils : (set : Set) (e : Expr) (o : Option Expr) → o ≡ Some e → All (IsFormula set) (option_to_list o) → IsFormula set e
untils set e None is all = absurd cc
untils set e (Some x) is all = let same : x ≡ e = cc in subst (IsFormula set) same (All-head (IsFormula set) x [] all)

pub reads_window : (set : Set) (p : ℕ) → HasStructure set → IsPosition set p → ReadsWindow set (property_at set p)
reads_window set p s position =
    let all = formulas_formed set s p position in
    let property = property_at set p in
    let front = all_left (IsFormula set) (property.assume ++ property.commit ++ property.hand) (option_to_list property.length.until) all in
    let two = all_left (IsFormula set) (property.assume ++ property.commit) property.hand front in
    let offsets = s.sound.offsets in
    record {
      assumptions = readable set property.window property.assume (all_left (IsFormula set) property.assume property.commit two) (offsets.assumptions p position);
      commitments = readable set property.window property.commit (all_right (IsFormula set) property.assume property.commit two) (offsets.commitments p position);
      hands = readable set property.window property.hand (all_right (IsFormula set) (property.assume ++ property.commit) property.hand front) (offsets.hands p position);
      until = λ e is. record {
        formed = untils set e property.length.until is (all_right (IsFormula set) (property.assume ++ property.commit ++ property.hand) (option_to_list property.length.until) all);
        fits = let least = offsets.untils p e position is in omega (arith, least);
      };
    }

-- the condition under which an output is claimed reads the first row alone
pub domain_readable : (set : Set) (o : ℕ) (name : Name) (e : Expr) → HasStructure set → slice_get set.names o ≡ Some name → name.domain ≡ Some e → IsReadable set 1 e
domain_readable set o name e s at is = record {
  formed = untils set e name.domain is (one set.names o at (domains_formed set s));
  fits = let least = s.sound.offsets.domains o name e at is in omega (arith, least);
}
  where
    one : (names : List Name) (o : ℕ) → slice_get names o ≡ Some name → All (IsFormula set) (flat_map (λ (n : Name). option_to_list n.domain) names) → All (IsFormula set) (option_to_list name.domain)
    one [] o at all = absurd cc
    one (n ∷ names) zero at all =
        let same : n ≡ name = cc in
        subst (λ (m : Name). All (IsFormula set) (option_to_list m.domain)) same (all_left (IsFormula set) (option_to_list n.domain) (flat_map (λ (m : Name). option_to_list m.domain) names) (subst (λ (ys : List _). All (IsFormula set) ys) (flat_map-cons (λ (m : Name). option_to_list m.domain) n names) all))
    one (n ∷ names) (suc o) at all =
        one names o at (all_right (IsFormula set) (option_to_list n.domain) (flat_map (λ (m : Name). option_to_list m.domain) names) (subst (λ (ys : List _). All (IsFormula set) ys) (flat_map-cons (λ (m : Name). option_to_list m.domain) n names) all))

-- formulas that read no more than the window of rows that are there
pub more_readable : (set : Set) (j k : ℕ) (es : List Expr) → j ≤ k → All (IsReadable set j) es → All (IsReadable set k) es
more_readable set j k es le all = λ i d lt. let e = all i d lt in record { formed = e.formed; fits = omega (arith, e.fits, le) }

pub readable_more : (set : Set) (j k : ℕ) (e : Expr) → j ≤ k → IsReadable set j e → IsReadable set k e
readable_more set j k e le r = record { formed = r.formed; fits = omega (arith, r.fits, le) }

-- the property at a position past the first one
pub same_at : (xs : List Property) (i : ℕ) (d x : Property) → i < length xs → get_or xs i d ≡ get_or xs i x
same_at [] i d x lt = absurd (omega arith)
same_at (y ∷ ys) zero d x lt = refl
same_at (y ∷ ys) (suc i) d x lt = same_at ys i d x (omega arith)

pub property_later : (set : Set) (at : ℕ) (x : Property) → 0 < at → at ≤ length set.operations → x ≡ get_or set.operations (at - 1) x → property_at set at ≡ x
property_later set zero x lt le is = absurd (omega arith)
property_later set (suc i) x lt le is =
    let before : suc i - 1 ≡ i = omega arith in
    same_at set.operations i set.first x (omega (arith, le)) ∙ (ap (λ (j : ℕ). get_or set.operations j x) (sym before) ∙ sym is)

pub rule_readable : (set : Set) (rule : Rule) → IsFormula set rule.formula → IsReadable set (largest_offset rule.formula + 1) rule.formula
rule_readable set rule formed = record { formed = formed; fits = omega arith }

pub ruleset readings = (constraints_formed)

-- the rows of `split P`
last_window : (set : Set) (w n : ℕ) (qs : List ℕ) → w ≤ last_row set w n qs
last_window set w n [] = omega arith
last_window set w n (q ∷ qs) = let rest = last_window set w n qs in omega arith

last_each : (set : Set) (w n : ℕ) (qs : List ℕ) → All (λ q. n + window_of set q ≤ last_row set w n qs) qs
last_each set w n [] = All-nil (λ q. n + window_of set q ≤ w)
last_each set w n (q ∷ qs) =
    All-cons (λ r. n + window_of set r ≤ last_row set w n (q ∷ qs)) q qs (omega arith) (λ k d lt. let rest = last_each set w n qs k d lt in omega (arith, rest))

pub split_window : (set : Set) (p n : ℕ) → window_of set p ≤ split_end set p n
split_window set p n = last_window set (window_of set p) n (property_at set p).next

contains_at : (xs : List ℕ) (k : ℕ) (d : ℕ) → k < length xs → Contains xs (get_or xs k d)
contains_at xs k d lt = (k, lt, again xs k d lt)
  where
    again : (xs : List ℕ) (k d : ℕ) → k < length xs → get_or xs k (get_or xs k d) ≡ get_or xs k d
    again [] k d lt = absurd (omega arith)
    again (x ∷ xs) zero d lt = refl
    again (x ∷ xs) (suc k) d lt = again xs k d (omega arith)

pub split_follow : (set : Set) (p n : ℕ) (rows later : List (List ℕ)) → HasStructure set → IsPosition set p → later ≡ drop n rows → split_end set p n < length rows → All (FollowsWithin set (length later)) (property_at set p).next
split_follow set p n rows later s position is fits = λ k d lt.
    let bound = last_each set (window_of set p) n (property_at set p).next k d lt in
    let edge = s.sound.edges p (get_or (property_at set p).next k d) position (contains_at (property_at set p).next k d lt) in
    let long = length-drop n rows in
    (edge.1, rw is (omega (arith, long, bound, fits)))

-- the formulas of a property whose window fits into the rows
pub assumptions_read : (set : Set) (p k : ℕ) (x : Property) (es : List Expr) → HasStructure set → FollowsWithin set k p → es ≡ x.assume → x ≡ property_at set p → All (IsReadable set k) es
assumptions_read set p k x es s follows is at =
    let same : es ≡ (property_at set p).assume = is ∙ ap (λ (y : Property). y.assume) at in
    subst (All (IsReadable set k)) (sym same) (more_readable set (window_of set p + 1) k (property_at set p).assume (omega (arith, follows.1)) (reads_window set p s follows.0).assumptions)

pub commitments_read : (set : Set) (p k : ℕ) (x : Property) (es : List Expr) → HasStructure set → FollowsWithin set k p → es ≡ x.commit → x ≡ property_at set p → All (IsReadable set k) es
commitments_read set p k x es s follows is at =
    let same : es ≡ (property_at set p).commit = is ∙ ap (λ (y : Property). y.commit) at in
    subst (All (IsReadable set k)) (sym same) (more_readable set (window_of set p + 1) k (property_at set p).commit (omega (arith, follows.1)) (reads_window set p s follows.0).commitments)

pub hands_read : (set : Set) (p k : ℕ) (x : Property) (es : List Expr) → HasStructure set → FollowsWithin set k p → es ≡ x.hand → x ≡ property_at set p → All (IsReadable set k) es
hands_read set p k x es s follows is at =
    let same : es ≡ (property_at set p).hand = is ∙ ap (λ (y : Property). y.hand) at in
    subst (All (IsReadable set k)) (sym same) (more_readable set (window_of set p + 1) k (property_at set p).hand (omega (arith, follows.1)) (reads_window set p s follows.0).hands)
