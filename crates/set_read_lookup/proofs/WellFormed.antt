-- The set that a text without faults means is well formed.
use Rattle.std.proofs.Common.{◌≡◌, ◌≢◌, ℕ, zero, suc, ◌+◌, ◌^◌, ◌<◌, ◌≤◌, inl, inr, List, [], ◌∷◌, ◌++◌, length, map, get_or, Option, Some, None, Bool, true, false, refl, sym, ap, subst, ◌∙◌, arith}
use Rattle.std.specs.Prelude.{codes, nat_lt, is_some, ◌&&◌}
use Rattle.std.specs.List.{AllPairs, Contains, list_any, find, flat_map}
use Rattle.std.specs.Option.{option_map, option_to_list}
use Rattle.std.specs.Str.{bytes_eq}
use Rattle.std.proofs.lemmas.Bool.{ltb-false, or_parts}
use Rattle.std.proofs.lemmas.Slice.Eq.{bytes_eq-Decides}
use Rattle.std.proofs.lemmas.List.Elements.{Contains-get_or}
use Rattle.std.proofs.lemmas.Option.{slice_get-get_or}
use Rattle.vlog_tree.specs.declared.expr.Expr.{Expr}
use Rattle.vlog_tree.specs.declared.expr.Name.{Name as Read}
use Rattle.vlog_tree.specs.Valuation.{IsLength as IsWidth}
use Rattle.set_tree.specs.declared.set.Cover.{Cover}
use Rattle.set_tree.specs.declared.set.Name.{Name}
use Rattle.set_tree.specs.declared.set.Property.{Property}
use Rattle.set_tree.specs.declared.set.Role.{Role}
use Rattle.set_tree.specs.declared.set.Role.TheVariants as role
use Rattle.set_tree.specs.declared.set.Rule.{Rule}
use Rattle.set_tree.specs.declared.set.Set.{Set}
use Rattle.set_tree.specs.declared.set.To.{To}
use Rattle.set_tree.specs.declared.text.Declaration.{Declaration}
use Rattle.set_tree.specs.declared.text.PropertyText.{PropertyText}
use Rattle.set_tree.specs.declared.text.RuleText.{RuleText}
use Rattle.set_tree.specs.declared.text.SetText.{SetText}
use Rattle.set_tree.specs.declared.text.Until.{Until}
use Rattle.set_tree.specs.Formulas.{largest_offset}
use Rattle.set_tree.specs.Parts.{property_at, IsPosition, IsOperation, IsOutput}
use Rattle.set_tree.specs.Structure.{IsLength}
use Rattle.set_tree_structure.specs.Condition.{HasNoDivision, IsFormula, IsBounded, IsWellFormed, property_formulas, formulas_of as all_formulas, rule_names}
use Rattle.set_read_lookup.specs.declared.looked.Looked.{Looked}
use Rattle.set_read_lookup.specs.declared.looked.Sizes.{Sizes}
use Rattle.set_read_lookup.specs.declared.quantity.Quantity.TheVariants as q
use Rattle.set_read_lookup.specs.Meaning.{each, within, width_of, low_of, name_of, rule_of, is_constraint, constraints_of, invariants_of, is_output, output_from, end_of, cover_with, cover_of, operation_from, successor_of, high_from, window_from, sizes_with, sizes_of, looked_with, looked_of, property_of, properties_of, IsProperty, Means}
use Rattle.set_read_lookup.specs.Formed.{formulas_of, formulas_in}
use Rattle.set_read_lookup.specs.Faults.{Has, HasTwice, LeadsTwice, names_in, properties_in, property_names, signal_names, is_outside, leaves, leaves_length, leaves_window, leaves_offset, leaves_hands, IsValid}
use Rattle.set_read_lookup.proofs.Searches.{by_test, find_misses}
use Rattle.set_read_lookup.proofs.Meant.{has_left, has_right, keeps, no_is_false, none_leaves}
use Rattle.set_read_lookup.proofs.Zeros.{IsDeclared, declared_by, within_gives, split, width_fits}
use Rattle.set_read_lookup.proofs.Uses.{has_part, in_flat, of_flat, in_map, of_map}
use Rattle.set_read_lookup.proofs.Elements.{all_of, contains_has, none_any, distinct, each_has, each_length, each_twice, times, times_app, twice_times, times_twice, one_if}
use Rattle.set_read_lookup.proofs.Rows.{formed_over}
use Rattle.set_read_lookup.proofs.Sized.{keeps_largest}

-- what a text's grammar says: reset is named so, has a fixed length and assumes nothing, and nothing is divided
pub record IsSpelt (t : SetText) : Type 0 where
  pub reset : t.first.name ≡ codes "reset"
  pub fixed : t.first.length.until ≡ None
  pub free : t.first.assume ≡ []
  pub undivided : (f : Expr) → Has (formulas_in t) f → HasNoDivision f

-- ---- what was looked up

looked_parts : (s : Option Sizes) (c : Option (List Cover)) (n : Option (List ℕ)) (l : Looked) → looked_with s c n ≡ Some l → (s ≡ Some l.sizes) × (c ≡ Some l.covers) × (n ≡ Some l.next)
looked_parts (Some s) (Some c) (Some n) l h =
    let g : record { sizes = s; covers = c; next = n } ≡ l = cc in (ap (λ (z : Looked). Some z.sizes) g, ap (λ (z : Looked). Some z.covers) g, ap (λ (z : Looked). Some z.next) g)
looked_parts (Some s) (Some c) None l h = absurd (cc)
looked_parts (Some s) None n l h = absurd (cc)
looked_parts None c n l h = absurd (cc)

size_parts : (a b c : Option ℕ) (s : Sizes) → sizes_with a b c ≡ Some s → (a ≡ Some s.low) × (b ≡ Some s.high) × (c ≡ Some s.window)
size_parts (Some a) (Some b) (Some c) s h =
    let g : record { low = a; high = b; window = c } ≡ s = cc in (ap (λ (z : Sizes). Some z.low) g, ap (λ (z : Sizes). Some z.high) g, ap (λ (z : Sizes). Some z.window) g)
size_parts (Some a) (Some b) None s h = absurd (cc)
size_parts (Some a) None c s h = absurd (cc)
size_parts None b c s h = absurd (cc)

cover_parts : (o f : Option ℕ) (t : Option To) (c : Cover) → cover_with o f t ≡ Some c → o ≡ Some c.output
cover_parts (Some o) (Some f) (Some t) c h = let g : record { output = o; from = f; to = t } ≡ c = cc in ap (λ (z : Cover). Some z.output) g
cover_parts (Some o) (Some f) None c h = absurd (cc)
cover_parts (Some o) None t c h = absurd (cc)
cover_parts None f t c h = absurd (cc)

-- a property and its text
pub record IsOf (ds : List Declaration) (ps : List PropertyText) (p : PropertyText) (x : Property) : Type 0 where
  pub name : x.name ≡ p.name
  pub low : p.length.low ≡ x.length.low
  pub high : high_from p.length.low p.length.until ≡ x.length.high
  pub window : window_from (high_from p.length.low p.length.until) p.window ≡ x.window
  pub until : x.length.until ≡ option_map (λ u. u.condition) p.length.until
  pub assume : x.assume ≡ p.assume
  pub commit : x.commit ≡ p.commit
  pub hand : x.hand ≡ p.hand
  pub covers : each (cover_of ds) p.covers ≡ Some x.covers
  pub next : each (successor_of ps) p.next ≡ Some x.next

is_of : (ds : List Declaration) (ps : List PropertyText) (p : PropertyText) (x : Property) → IsProperty ds ps p x → IsOf ds ps p x
is_of ds ps p x h =
    let l = h.0 in
    let k = looked_parts (sizes_of p) (each (cover_of ds) p.covers) (each (successor_of ps) p.next) l h.1 in
    let high : ℕ = high_from p.length.low p.length.until in
    let z = size_parts (within 256 p.length.low) (within 256 high) (within 256 (window_from high p.window)) l.sizes k.0 in
    subst (IsOf ds ps p) (sym h.2) (record {
      name = refl;
      low = within_gives 256 p.length.low l.sizes.low z.0;
      high = within_gives 256 high l.sizes.high z.1;
      window = within_gives 256 (window_from high p.window) l.sizes.window z.2;
      until = refl;
      assume = refl;
      commit = refl;
      hand = refl;
      covers = k.1;
      next = k.2;
    })

module _ (ds : List Declaration) (ps : List PropertyText) where
  here_or_there : (p : PropertyText) (qs : List PropertyText) (x : Property) (l : Looked) (rest : List Looked) → looked_of ds ps p ≡ Some l → (Has (properties_of rest qs) x → (r : PropertyText) × Has qs r × IsOf ds ps r x)
      → Has (property_of p l ∷ properties_of rest qs) x → (r : PropertyText) × Has (p ∷ qs) r × IsOf ds ps r x
  here_or_there p qs x l rest a more (inl e) = (p, inl refl, is_of ds ps p x (l, a, sym e))
  here_or_there p qs x l rest a more (inr r) = let w = more r in (w.0, inr w.1, w.2)

  pub property_has : (ls : List Looked) (qs : List PropertyText) → each (looked_of ds ps) qs ≡ Some ls → (x : Property) → Has (properties_of ls qs) x → (p : PropertyText) × Has qs p × IsOf ds ps p x
  property_has ls [] h x k = let g : [] ≡ ls = cc in absurd (subst (λ zs. Has (properties_of zs []) x) (sym g) k)
  property_has ls (p ∷ qs) h x k =
      let s = split (looked_of ds ps p) (each (looked_of ds ps) qs) ls h in
      here_or_there p qs x s.0 s.1 s.2 (λ r. property_has s.1 qs s.3 x r) (subst (λ zs. Has (properties_of zs (p ∷ qs)) x) s.4 k)

  pub property_count : (ls : List Looked) (qs : List PropertyText) → each (looked_of ds ps) qs ≡ Some ls → (length (properties_of ls qs) ≡ length qs) × (map (λ x. x.name) (properties_of ls qs) ≡ map (λ p. p.name) qs)
  property_count ls [] h = let g : [] ≡ ls = cc in (sym (ap (λ zs. length (properties_of zs [])) g), sym (ap (λ zs. map (λ x. x.name) (properties_of zs [])) g))
  property_count ls (p ∷ qs) h =
      let s = split (looked_of ds ps p) (each (looked_of ds ps) qs) ls h in
      let r = property_count s.1 qs s.3 in
      (ap (λ zs. length (properties_of zs (p ∷ qs))) s.4 ∙ ap suc r.0, ap (λ zs. map (λ x. x.name) (properties_of zs (p ∷ qs))) s.4 ∙ ap (λ zs. p.name ∷ zs) r.1)

-- ---- names and outputs

name_is_declared : (d : Declaration) (n : Name) → name_of d ≡ Some n → IsDeclared d n
name_is_declared d n h = declared_by d n (width_of d.bits) (within (2 ^ 32) (low_of d.bits)) h refl refl

names_of_signals : (ds : List Declaration) (names : List Name) → each name_of ds ≡ Some names → map (λ n. n.name) names ≡ map (λ d. d.name) ds
names_of_signals [] names h = let g : [] ≡ names = cc in sym (ap (map (λ n. n.name)) g)
names_of_signals (d ∷ ds) names h =
    let s = split (name_of d) (each name_of ds) names h in
    ap (map (λ n. n.name)) s.4 ∙ (λ r. (name_is_declared d s.0 s.2).name r ∷ names_of_signals ds s.1 s.3 r)

output_role : (r : Role) → is_output r ≡ true → r ≡ role.Output
output_role role.Output h = refl
output_role role.Input h = absurd (cc)
output_role role.State h = absurd (cc)

both_hold : (a b : Bool) → (a && b) ≡ true → (a ≡ true) × (b ≡ true)
both_hold true b h = (refl, h)
both_hold false b h = absurd (cc)

-- an output that a cover names stands among the names
record Found (names : List Name) (i o : ℕ) : Type 0 where
  pub at : ℕ
  pub place : o ≡ i + at
  pub inside : at < length names
  pub role : (d : Name) → (get_or names at d).role ≡ role.Output

output_found : (ds : List Declaration) (names : List Name) (x : List ℕ) (i o : ℕ) → each name_of ds ≡ Some names → output_from ds x i ≡ Some o → Found names i o
output_found [] names x i o h k = absurd (cc)
output_found (d ∷ ds) names x i o h k =
    let s = split (name_of d) (each name_of ds) names h in
    subst (λ ns. Found ns i o) (sym s.4) (by_test (is_output d.role && bytes_eq d.name x)
    (λ (t : (is_output d.role && bytes_eq d.name x) ≡ true).
    let g : Some i ≡ Some o = rw t at k in
    let same : i ≡ o = cc in
    record { at = 0; place = omega (arith, same); inside = omega arith; role = λ z. (name_is_declared d s.0 s.2).role ∙ output_role d.role (both_hold (is_output d.role) (bytes_eq d.name x) t).0 })
    (λ (t : (is_output d.role && bytes_eq d.name x) ≡ false).
    let g : output_from ds x (i + 1) ≡ Some o = rw t at k in
    let f = output_found ds s.1 x (i + 1) o s.3 g in
    record { at = suc f.at; place = let p = f.place in omega (arith, p); inside = let p = f.inside in omega (arith, p); role = f.role }))

-- ---- successors

operation_above : (ps : List PropertyText) (x : List ℕ) (i k : ℕ) → operation_from ps x i ≡ Some k → (i ≤ k) × (k < i + length ps)
operation_above [] x i k h = absurd (cc)
operation_above (p ∷ ps) x i k h = by_test (bytes_eq p.name x)
    (λ (t : bytes_eq p.name x ≡ true). let g : Some i ≡ Some k = rw t at h in let s : i ≡ k = cc in (omega (arith, s), omega (arith, s)))
    (λ (t : bytes_eq p.name x ≡ false). let g : operation_from ps x (i + 1) ≡ Some k = rw t at h in let r = operation_above ps x (i + 1) k g in (omega (arith, r.0), omega (arith, r.1)))

operation_one : (ps : List PropertyText) (x y : List ℕ) (i k : ℕ) → operation_from ps x i ≡ Some k → operation_from ps y i ≡ Some k → x ≡ y
operation_one [] x y i k h g = absurd (cc)
operation_one (p ∷ ps) x y i k h g = by_test (bytes_eq p.name x)
    (λ (t : bytes_eq p.name x ≡ true). by_test (bytes_eq p.name y)
    (λ (u : bytes_eq p.name y ≡ true). sym ((bytes_eq-Decides p.name x).0 t) ∙ (bytes_eq-Decides p.name y).0 u)
    (λ (u : bytes_eq p.name y ≡ false).
    let a : Some i ≡ Some k = rw t at h in
    let s : i ≡ k = cc in
    let b : operation_from ps y (i + 1) ≡ Some k = rw u at g in
    let r = operation_above ps y (i + 1) k b in absurd (omega (arith, s, r.0))))
    (λ (t : bytes_eq p.name x ≡ false).
    let a : operation_from ps x (i + 1) ≡ Some k = rw t at h in
    by_test (bytes_eq p.name y)
    (λ (u : bytes_eq p.name y ≡ true).
    let b : Some i ≡ Some k = rw u at g in
    let s : i ≡ k = cc in
    let r = operation_above ps x (i + 1) k a in absurd (omega (arith, s, r.0)))
    (λ (u : bytes_eq p.name y ≡ false). let b : operation_from ps y (i + 1) ≡ Some k = rw u at g in operation_one ps x y (i + 1) k a b))

successor_small : (ps : List PropertyText) (x : List ℕ) (k : ℕ) → successor_of ps x ≡ Some k → k ≤ length ps
successor_small ps x k h = by_test (bytes_eq x (codes "reset"))
    (λ (t : bytes_eq x (codes "reset") ≡ true). let g : Some 0 ≡ Some k = rw t at h in let s : 0 ≡ k = cc in omega (arith, s))
    (λ (t : bytes_eq x (codes "reset") ≡ false). let g : operation_from ps x 1 ≡ Some k = rw t at h in let r = operation_above ps x 1 k g in omega (arith, r.1))

successor_one : (ps : List PropertyText) (x y : List ℕ) (k : ℕ) → successor_of ps x ≡ Some k → successor_of ps y ≡ Some k → x ≡ y
successor_one ps x y k h g = by_test (bytes_eq x (codes "reset"))
    (λ (t : bytes_eq x (codes "reset") ≡ true).
    let a : Some 0 ≡ Some k = rw t at h in
    let s : 0 ≡ k = cc in
    by_test (bytes_eq y (codes "reset"))
    (λ (u : bytes_eq y (codes "reset") ≡ true). (bytes_eq-Decides x (codes "reset")).0 t ∙ sym ((bytes_eq-Decides y (codes "reset")).0 u))
    (λ (u : bytes_eq y (codes "reset") ≡ false). let b : operation_from ps y 1 ≡ Some k = rw u at g in let r = operation_above ps y 1 k b in absurd (omega (arith, s, r.0))))
    (λ (t : bytes_eq x (codes "reset") ≡ false).
    let a : operation_from ps x 1 ≡ Some k = rw t at h in
    let r = operation_above ps x 1 k a in
    by_test (bytes_eq y (codes "reset"))
    (λ (u : bytes_eq y (codes "reset") ≡ true). let b : Some 0 ≡ Some k = rw u at g in let s : 0 ≡ k = cc in absurd (omega (arith, s, r.0)))
    (λ (u : bytes_eq y (codes "reset") ≡ false). let b : operation_from ps y 1 ≡ Some k = rw u at g in operation_one ps x y 1 k a b))

-- ---- rules

-- a rule of a kind, and its text
abbrev IsConstraint : RuleText → Rule → Type 0
IsConstraint x r = (rule_of x ≡ r) × (is_constraint x.kind ≡ true)

rule_here_or_there : (P : RuleText → Type 0) (x : RuleText) (rs : List RuleText) (r : Rule) (more : List Rule) → (rule_of x ≡ r → P x) → (Has more r → (y : RuleText) × Has rs y × P y) → Has (rule_of x ∷ more) r → (y : RuleText) × Has (x ∷ rs) y × P y
rule_here_or_there P x rs r more f g (inl e) = (x, inl refl, f e)
rule_here_or_there P x rs r more f g (inr k) = let w = g k in (w.0, inr w.1, w.2)

constraint_has : (rs : List RuleText) (r : Rule) → Has (constraints_of rs) r → (x : RuleText) × Has rs x × IsConstraint x r
constraint_has [] r h = absurd h
constraint_has (x ∷ rs) r h = by_test (is_constraint x.kind)
    (λ (t : is_constraint x.kind ≡ true). let g : Has (rule_of x ∷ constraints_of rs) r = rw t at h in
    rule_here_or_there (λ y. IsConstraint y r) x rs r (constraints_of rs) (λ e. (e, t)) (λ k. constraint_has rs r k) g)
    (λ (t : is_constraint x.kind ≡ false). let g : Has (constraints_of rs) r = rw t at h in let w = constraint_has rs r g in (w.0, inr w.1, w.2))

invariant_has : (rs : List RuleText) (r : Rule) → Has (invariants_of rs) r → (x : RuleText) × Has rs x × (rule_of x ≡ r)
invariant_has [] r h = absurd h
invariant_has (x ∷ rs) r h = by_test (is_constraint x.kind)
    (λ (t : is_constraint x.kind ≡ true). let g : Has (invariants_of rs) r = rw t at h in let w = invariant_has rs r g in (w.0, inr w.1, w.2))
    (λ (t : is_constraint x.kind ≡ false). let g : Has (rule_of x ∷ invariants_of rs) r = rw t at h in
    rule_here_or_there (λ y. rule_of y ≡ r) x rs r (invariants_of rs) (λ e. e) (λ k. invariant_has rs r k) g)

times_rules : (n : List ℕ) (rs : List RuleText) → times n (map (λ r. r.name) rs) ≡ times n (map (λ r. r.name) (constraints_of rs)) + times n (map (λ r. r.name) (invariants_of rs))
times_rules n [] = refl
times_rules n (x ∷ rs) = by_test (is_constraint x.kind)
    (λ (t : is_constraint x.kind ≡ true). let g = times_rules n rs in rw t (omega (arith, g)))
    (λ (t : is_constraint x.kind ≡ false). let g = times_rules n rs in rw t (omega (arith, g)))

find_none : (x : Read) (xs : List Read) → is_some (find (λ y. nat_lt 64 y.offset) xs) ≡ false → Has xs x → x.offset ≤ 64
find_none x xs h k = by_test (nat_lt 64 x.offset)
    (λ (t : nat_lt 64 x.offset ≡ true). absurd (find_misses (λ y. nat_lt 64 y.offset) xs (empty (find (λ y. nat_lt 64 y.offset) xs) h) x k t))
    (λ (t : nat_lt 64 x.offset ≡ false). ltb-false 64 x.offset t)
  where
    empty : (o : Option Read) → is_some o ≡ false → o ≡ None
    empty None g = refl
    empty (Some y) g = absurd (cc)

and_false : (a b : Bool) → a ≡ true → (a && b) ≡ false → b ≡ false
and_false true b t h = h
and_false false b t h = absurd (cc)

no_until : (o : Option Until) → option_map (λ u. u.condition) o ≡ None → o ≡ None
no_until None h = refl
no_until (Some u) h = absurd (cc)

leads_once : (ps : List PropertyText) → ((n : List ℕ) → LeadsTwice ps n → ⊥) → (p : PropertyText) → Has ps p → (n : List ℕ) → HasTwice p.next n → ⊥
leads_once [] f p h n k = h
leads_once (x ∷ ps) f p (inl e) n k = f n (inl (subst (λ (z : PropertyText). HasTwice z.next n) (sym e) k))
leads_once (x ∷ ps) f p (inr h) n k = leads_once ps (λ m g. f m (inr g)) p h n k

-- the property at a position
by_position : (set : Set) (P : Property → Type 0) → P set.first → ((x : Property) → Has set.operations x → P x) → (p : ℕ) → IsPosition set p → P (property_at set p)
by_position set P first rest zero w = first
by_position set P first rest (suc i) w = rest (get_or set.operations i set.first) (contains_has set.operations (get_or set.operations i set.first) (Contains-get_or set.operations i set.first (omega (arith, w))))

by_operation : (set : Set) (P : Property → Type 0) → ((x : Property) → Has set.operations x → P x) → (p : ℕ) → IsOperation set p → P (property_at set p)
by_operation set P rest zero w = absurd (omega (arith, w.0))
by_operation set P rest (suc i) w = let k = w.1 in rest (get_or set.operations i set.first) (contains_has set.operations (get_or set.operations i set.first) (Contains-get_or set.operations i set.first (omega (arith, k))))

-- ---- the set

module _ (t : SetText) (s : Set) (spelt : IsSpelt t) (v : IsValid t) (m : Means t s) where
  of_first : IsOf t.declarations t.operations t.first s.first
  of_first = is_of t.declarations t.operations t.first s.first m.first

  of_rest : (x : Property) → Has s.operations x → (p : PropertyText) × Has t.operations p × IsOf t.declarations t.operations p x
  of_rest x h = property_has t.declarations t.operations m.operations.0 t.operations m.operations.1 x (subst (λ zs. Has zs x) m.operations.2 h)

  counted : (length s.operations ≡ length t.operations) × (map (λ x. x.name) s.operations ≡ map (λ p. p.name) t.operations)
  counted =
      let c = property_count t.declarations t.operations m.operations.0 t.operations m.operations.1 in
      (ap length m.operations.2 ∙ c.0, ap (map (λ x. x.name)) m.operations.2 ∙ c.1)

  lasting : (x : Property) → Has s.operations x → (1 ≤ x.length.low) × (x.length.low ≤ x.length.high)
  lasting x h =
      let w = of_rest x h in
      let long = or_parts (nat_lt 64 t.first.length.low) (list_any leaves_length t.operations) (no_is_false (leaves t q.Length) (none_leaves t v q.Length)) in
      let here = or_parts (is_outside 1 64 w.0.length.low) (is_outside w.0.length.low 64 (high_from w.0.length.low w.0.length.until)) (none_any leaves_length t.operations w.0 long.1 w.1) in
      let a = keeps 1 64 w.0.length.low here.0 in
      let b = keeps w.0.length.low 64 (high_from w.0.length.low w.0.length.until) here.1 in
      let l = w.2.low in
      let k = w.2.high in
      (omega (arith, a.0, l), omega (arith, b.0, l, k))

  windowed : (p : PropertyText) (x : Property) → Has (properties_in t) p → IsOf t.declarations t.operations p x → (x.length.high ≤ x.window) × (x.window ≤ 64)
  windowed p x h o =
      let win = or_parts (list_any leaves_window (properties_in t)) (list_any leaves_offset t.rules) (no_is_false (leaves t q.Window) (none_leaves t v q.Window)) in
      let high : ℕ = high_from p.length.low p.length.until in
      let k = keeps high 64 (window_from high p.window) (none_any leaves_window (properties_in t) p win.0 h) in
      let a = o.high in
      let b = o.window in
      (omega (arith, k.0, a, b), omega (arith, k.1, b))

  fixed_by : (p : PropertyText) (x : Property) → IsOf t.declarations t.operations p x → x.length.until ≡ None → x.length.low ≡ x.length.high
  fixed_by p x o u =
      let n = no_until p.length.until (sym o.until ∙ u) in
      sym o.low ∙ (ap (high_from p.length.low) (sym n) ∙ o.high)

  first_fixed : s.first.length.until ≡ None
  first_fixed = of_first.until ∙ ap (option_map (λ u. u.condition)) spelt.fixed

  length_of : (x : Property) → Has s.operations x → IsLength x.length x.window
  length_of x h = let w = of_rest x h in record { order = (lasting x h).1; fits = (windowed w.0 x (inr w.1) w.2).0; fixed = fixed_by w.0 x w.2 }

  length_first : IsLength s.first.length s.first.window
  length_first =
      let e = fixed_by t.first s.first of_first first_fixed in
      record { order = omega (arith, e); fits = (windowed t.first s.first (inl refl) of_first).0; fixed = λ u. e }

  constraint_kept : (r : Rule) → Has s.constraints r → largest_offset r.formula ≤ 64
  constraint_kept r h =
      let w = constraint_has t.rules r (subst (λ zs. Has zs r) m.constraints h) in
      let win = or_parts (list_any leaves_window (properties_in t)) (list_any leaves_offset t.rules) (no_is_false (leaves t q.Window) (none_leaves t v q.Window)) in
      let f = and_false (is_constraint w.0.kind) (is_some (find (λ x. nat_lt 64 x.offset) (names_in w.0.formula))) w.2.1 (none_any leaves_offset t.rules w.0 win.1 w.1) in
      subst (λ (z : Rule). largest_offset z.formula ≤ 64) w.2.0 (keeps_largest 64 w.0.formula (λ x k. find_none x (names_in w.0.formula) f k))

  bounded : IsBounded s
  bounded =
      let c = counted.0 in
      let n = each_length name_of t.declarations s.names m.names in
      let cy = keeps 1 16 t.cycles (no_is_false (leaves t q.Cycles) (none_leaves t v q.Cycles)) in
      let mc = m.cycles in
      let nm = keeps 1 256 (length t.declarations) (no_is_false (leaves t q.Names) (none_leaves t v q.Names)) in
      let op = keeps 1 64 (length t.operations) (no_is_false (leaves t q.Operations) (none_leaves t v q.Operations)) in
      let co = ltb-false 64 (length (constraints_of t.rules)) (no_is_false (leaves t q.Constraints) (none_leaves t v q.Constraints)) in
      let iv = ltb-false 64 (length (invariants_of t.rules)) (no_is_false (leaves t q.Invariants) (none_leaves t v q.Invariants)) in
      let ha = no_is_false (leaves t q.Hands) (none_leaves t v q.Hands) in
      record {
        cycles = (omega (arith, cy.0, mc), omega (arith, cy.1, mc));
        names = (omega (arith, nm.0, n), omega (arith, nm.1, n));
        widths = all_of (λ (z : Name). IsWidth z.width) s.names (λ z h. let d = each_has name_of t.declarations s.names m.names z h in width_fits d.0.bits z.width (sym (name_is_declared d.0 z d.2).width));
        constraints = subst (λ zs. length zs ≤ 64) (sym m.constraints) co;
        invariants = subst (λ zs. length zs ≤ 64) (sym m.invariants) iv;
        operations = (omega (arith, op.0, c), omega (arith, op.1, c));
        hands = all_of (λ (x : Property). length x.hand ≤ 64) s.operations (λ x h. let w = of_rest x h in
            subst (λ zs. length zs ≤ 64) (sym w.2.hand) (ltb-false 64 (length w.0.hand) (none_any leaves_hands t.operations w.0 ha w.1)));
        lengths = by_position s (λ (x : Property). IsLength x.length x.window) length_first length_of;
        advances = by_operation s (λ (x : Property). 1 ≤ x.length.low) (λ x h. (lasting x h).0);
        windows = by_position s (λ (x : Property). x.window ≤ 64) (windowed t.first s.first (inl refl) of_first).1 (λ x h. let w = of_rest x h in (windowed w.0 x (inr w.1) w.2).1);
        constraint_windows = all_of (λ (r : Rule). largest_offset r.formula ≤ 64) s.constraints constraint_kept;
      }

  -- ---- names

  signals : AllPairs (λ x y. x ≢ y) (map (λ n. n.name) s.names)
  signals = subst (AllPairs (λ x y. x ≢ y)) (sym (names_of_signals t.declarations s.names m.names)) (distinct (signal_names t) (λ n h. v.once n (inl h)))

  rules_once : (n : List ℕ) → HasTwice (rule_names s) n → ⊥
  rules_once n h =
      let C = map (λ r. r.name) s.constraints in
      let I = map (λ r. r.name) s.invariants in
      let O = map (λ p. p.name) s.operations in
      let a = twice_times n (rule_names s) h in
      let b : times n (rule_names s) ≡ one_if (bytes_eq (codes "reset") n) + times n ((C ++ I) ++ O) = refl in
      let c = times_app n (C ++ I) O in
      let d = times_app n C I in
      let e = times_rules n t.rules in
      let f : times n C ≡ times n (map (λ r. r.name) (constraints_of t.rules)) = ap (λ zs. times n (map (λ r. r.name) zs)) m.constraints in
      let g : times n I ≡ times n (map (λ r. r.name) (invariants_of t.rules)) = ap (λ zs. times n (map (λ r. r.name) zs)) m.invariants in
      let k : times n O ≡ times n (map (λ p. p.name) t.operations) = ap (times n) counted.1 in
      let i = times_app n (map (λ p. p.name) t.operations) (map (λ r. r.name) t.rules) in
      let j : one_if (bytes_eq t.first.name n) ≡ one_if (bytes_eq (codes "reset") n) = ap (λ z. one_if (bytes_eq z n)) spelt.reset in
      v.once n (inr (inl (times_twice n (property_names t) (omega (arith, a, b, c, d, e, f, g, k, i, j)))))

  -- ---- formulas

  one_formula : (f : Expr) → Has (formulas_in t) f → IsFormula s f
  one_formula f h =
      let p = v.formed s.names m.names f h in
      record {
        formed = λ rows fit size. formed_over s.names rows f fit (size ∙ omega arith) p;
        constant = p.constant;
        undivided = spelt.undivided f h;
      }

  in_domains : (f : Expr) → Has (flat_map (λ (n : Name). option_to_list n.domain) s.names) f → Has (formulas_in t) f
  in_domains f h =
      let w = in_flat (λ (n : Name). option_to_list n.domain) s.names f h in
      let d = each_has name_of t.declarations s.names m.names w.0 w.1 in
      has_left (flat_map (λ d. option_to_list d.domain) t.declarations) (map (λ r. r.formula) t.rules ++ flat_map formulas_of (properties_in t)) f
      (of_flat (λ d. option_to_list d.domain) t.declarations d.0 f d.1 (subst (λ z. Has (option_to_list z) f) (name_is_declared d.0 w.0 d.2).domain w.2))

  in_rules : (f : Expr) → Has (map (λ r. r.formula) t.rules) f → Has (formulas_in t) f
  in_rules f h =
      has_right (flat_map (λ d. option_to_list d.domain) t.declarations) (map (λ r. r.formula) t.rules ++ flat_map formulas_of (properties_in t)) f
      (has_left (map (λ r. r.formula) t.rules) (flat_map formulas_of (properties_in t)) f h)

  in_properties : (p : PropertyText) (f : Expr) → Has (properties_in t) p → Has (formulas_of p) f → Has (formulas_in t) f
  in_properties p f h k =
      has_right (flat_map (λ d. option_to_list d.domain) t.declarations) (map (λ r. r.formula) t.rules ++ flat_map formulas_of (properties_in t)) f
      (has_right (map (λ r. r.formula) t.rules) (flat_map formulas_of (properties_in t)) f (of_flat formulas_of (properties_in t) p f h k))

  in_property : (p : PropertyText) (x : Property) (f : Expr) → IsOf t.declarations t.operations p x → Has (property_formulas x) f → Has (formulas_of p) f
  in_property p x f o h =
      let until = option_to_list (option_map (λ u. u.condition) p.length.until) in
      let g : Has (((p.assume ++ p.commit) ++ p.hand) ++ until) f = subst (λ zs. Has zs f) (λ r. ((o.assume r ++ o.commit r) ++ o.hand r) ++ option_to_list (o.until r)) h in
      elim (has_part ((p.assume ++ p.commit) ++ p.hand) until f g) [
        | inl a ↦ elim (has_part (p.assume ++ p.commit) p.hand f a) [
          | inl b ↦ elim (has_part p.assume p.commit f b) [
            | inl c ↦ has_right until (p.assume ++ (p.commit ++ p.hand)) f (has_left p.assume (p.commit ++ p.hand) f c)
            | inr d ↦ has_right until (p.assume ++ (p.commit ++ p.hand)) f (has_right p.assume (p.commit ++ p.hand) f (has_left p.commit p.hand f d))
          ]
          | inr e ↦ has_right until (p.assume ++ (p.commit ++ p.hand)) f (has_right p.assume (p.commit ++ p.hand) f (has_right p.commit p.hand f e))
        ]
        | inr u ↦ has_left until (p.assume ++ (p.commit ++ p.hand)) f u
      ]

  in_constraints : (f : Expr) → Has (map (λ r. r.formula) s.constraints) f → Has (formulas_in t) f
  in_constraints f a =
      let w = in_map (λ r. r.formula) s.constraints f a in
      let c = constraint_has t.rules w.0 (subst (λ zs. Has zs w.0) m.constraints w.1) in
      in_rules f (of_map (λ r. r.formula) t.rules c.0 f c.1 (ap (λ (z : Rule). z.formula) c.2.0 ∙ w.2))

  in_invariants : (f : Expr) → Has (map (λ r. r.formula) s.invariants) f → Has (formulas_in t) f
  in_invariants f a =
      let w = in_map (λ r. r.formula) s.invariants f a in
      let c = invariant_has t.rules w.0 (subst (λ zs. Has zs w.0) m.invariants w.1) in
      in_rules f (of_map (λ r. r.formula) t.rules c.0 f c.1 (ap (λ (z : Rule). z.formula) c.2 ∙ w.2))

  in_operations : (f : Expr) → Has (flat_map property_formulas s.operations) f → Has (formulas_in t) f
  in_operations f r =
      let w = in_flat property_formulas s.operations f r in
      let o = of_rest w.0 w.1 in
      in_properties o.0 f (inr o.1) (in_property o.0 w.0 f o.2 w.2)

  in_text : (f : Expr) → Has (all_formulas s) f → Has (formulas_in t) f
  in_text f h =
      let C = map (λ (r : Rule). r.formula) s.constraints in
      let I = map (λ (r : Rule). r.formula) s.invariants in
      let D = flat_map (λ (n : Name). option_to_list n.domain) s.names in
      let F = property_formulas s.first in
      elim (has_part (((C ++ I) ++ D) ++ F) (flat_map property_formulas s.operations) f h) [
        | inr r ↦ in_operations f r
        | inl a ↦ elim (has_part ((C ++ I) ++ D) F f a) [
          | inr b ↦ in_properties t.first f (inl refl) (in_property t.first s.first f of_first b)
          | inl c ↦ elim (has_part (C ++ I) D f c) [
            | inr d ↦ in_domains f d
            | inl e ↦ elim (has_part C I f e) [ inl k ↦ in_constraints f k | inr k ↦ in_invariants f k ]
          ]
        ]
      ]

  -- ---- successors and covers

  next_small : (p : PropertyText) (x : Property) → IsOf t.declarations t.operations p x → (k : ℕ) → Contains x.next k → IsPosition s k
  next_small p x o k h =
      let w = each_has (successor_of t.operations) p.next x.next o.next k (contains_has x.next k h) in
      let a = successor_small t.operations w.0 k w.2 in
      let c = counted.0 in
      omega (arith, a, c)

  next_once : (p : PropertyText) (x : Property) → Has (properties_in t) p → IsOf t.declarations t.operations p x → AllPairs (λ a b. a ≢ b) x.next
  next_once p x h o =
      distinct x.next (λ k g. let w = each_twice (successor_of t.operations) (λ a b y. successor_one t.operations a b y) p.next x.next o.next k g in
      leads_once (properties_in t) (λ n l. v.once n (inr (inr l))) p h w.0 w.1)

  cover_known : (p : PropertyText) (x : Property) → IsOf t.declarations t.operations p x → (c : Cover) → Contains x.covers c → IsOutput s c.output
  cover_known p x o c h =
      let w = each_has (cover_of t.declarations) p.covers x.covers o.covers c (contains_has x.covers c h) in
      let f = output_found t.declarations s.names w.0.output 0 c.output m.names (cover_parts (output_from t.declarations w.0.output 0) (within (2 ^ 32) w.0.from) (end_of w.0.to) c w.2) in
      let place = f.place in
      let at : f.at ≡ c.output = omega (arith, place) in
      subst (IsOutput s) at (named f.at f.inside f.role)
    where
      named : (k : ℕ) → k < length s.names → ((d : Name) → (get_or s.names k d).role ≡ role.Output) → IsOutput s k
      named k lt r = let d : Name = record { name = []; role = role.Output; width = 0; low = 0; signed = false; domain = None } in (get_or s.names k d, slice_get-get_or s.names k d lt, r d)

  pub well_formed : IsWellFormed s
  well_formed = record {
    bounds = bounded;
    reset_fixed = first_fixed;
    reset_free = of_first.assume ∙ spelt.free;
    distinct_names = signals;
    distinct_rules = distinct (rule_names s) rules_once;
    formulas = all_of (IsFormula s) (all_formulas s) (λ f h. one_formula f (in_text f h));
    successors = λ p k w h. by_position s (λ (x : Property). (j : ℕ) → Contains x.next j → IsPosition s j) (next_small t.first s.first of_first) (λ x g. let o = of_rest x g in next_small o.0 x o.2) p w k h;
    distinct_successors = by_position s (λ (x : Property). AllPairs (λ a b. a ≢ b) x.next) (next_once t.first s.first (inl refl) of_first) (λ x g. let o = of_rest x g in next_once o.0 x (inr o.1) o.2);
    outputs = λ p c w h. by_position s (λ (x : Property). (d : Cover) → Contains x.covers d → IsOutput s d.output) (cover_known t.first s.first of_first) (λ x g. let o = of_rest x g in cover_known o.0 x o.2) p w c h;
  }
