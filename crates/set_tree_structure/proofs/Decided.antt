-- What the tests of offsets, covers and edges decide.
use Rattle.std.proofs.Common.{◌≡◌, ℕ, ◌+◌, ◌≤◌, ◌||◌, not, Bool, true, false, List, get_or, Option, Some, None, arith, refl, sym, ap, ◌∙◌, subst}
use Rattle.std.specs.Prelude.{nat_eq, nat_le, slice_get}
use Rattle.std.specs.Bool.{Decides}
use Rattle.std.specs.List.{All, Contains, list_all}
use Rattle.std.proofs.lemmas.Bool.{leb-true, le-leb, eqb-true, eq-eqb}
use Rattle.std.proofs.lemmas.Bool.Decides.{Decides-eqb, Decides-like, Decides-and, Decides-by_and}
use Rattle.std.proofs.lemmas.List.Elements.{All-contains, Contains-get_or}
use Rattle.std.proofs.lemmas.List.Folds.{Any-from_list_any, list_any-from_Any}
use Rattle.vlog_tree.specs.declared.expr.Expr.{Expr}
use Rattle.set_tree.specs.declared.set.Cover.{Cover}
use Rattle.set_tree.specs.declared.set.Length.{Length}
use Rattle.set_tree.specs.declared.set.Name.{Name}
use Rattle.set_tree.specs.declared.set.Property.{Property}
use Rattle.set_tree.specs.declared.set.Role.{Role}
use Rattle.set_tree.specs.declared.set.Role.TheVariants as role
use Rattle.set_tree.specs.declared.set.Set.{Set}
use Rattle.set_tree.specs.declared.set.To.{To}
use Rattle.set_tree.specs.declared.set.To.TheVariants as to
use Rattle.set_tree.specs.Formulas.{largest_offset}
use Rattle.set_tree.specs.Parts.{property_at, cover_end, IsOutput}
use Rattle.set_tree.specs.Structure.{IsCover}
use Rattle.set_tree_structure.specs.Faults.{KeepsWindow, HasCover, Meets}
use Rattle.set_tree_structure.specs.Tests.{passes, reads_within, all_read_within, reads_ahead, keeps_window, is_output, is_output_at, is_number, fits_cover, is_cover_of, has_cover, leads_to, ends_at, meets_all, meets}

Decides-le : (a b : ℕ) → Decides (nat_le a b) (a ≤ b)
Decides-le a b = (leb-true a b, le-leb a b)

-- an implication
Decides-if : {P Q : Type 0} (x y : Bool) → Decides x P → Decides y Q → Decides (not x || y) (P → Q)
Decides-if true y d e = (λ h p. e.0 h, λ f. e.1 (f (d.0 refl)))
Decides-if false y d e = (λ h p. let t : false ≡ true = d.1 p in cc, λ f. refl)

-- what holds of each element
Decides-each : {X : Type 0} (test : X → Bool) (P : X → Type 0) → ((x : X) → Decides (test x) (P x)) → (xs : List X) → Decides (list_all test xs) ((x : X) → Contains xs x → P x)
Decides-each {X} test P each xs =
    Decides-like (list_all test xs) (λ (all : All P xs) x at. All-contains P xs x all at) (λ f k d lt. f (get_or xs k d) (Contains-get_or xs k d lt))
    (Decides-by_and test P (list_all test) each refl (λ _ _. refl) xs)

-- ---- offsets

Decides-reads : (window : ℕ) (es : List Expr) → Decides (all_read_within window es) (All (λ e. largest_offset e ≤ window) es)
Decides-reads window es = Decides-by_and (reads_within window) (λ e. largest_offset e ≤ window) (all_read_within window) (λ e. Decides-le (largest_offset e) window) refl (λ _ _. refl) es

-- a condition that reads the present row alone
pub Decides-present : (o : Option Expr) → Decides (not (reads_ahead o)) ((e : Expr) → o ≡ Some e → largest_offset e ≡ 0)
Decides-present None = (λ h e is. cc, λ f. refl)
Decides-present (Some x) = (present x, λ f. let z = f x refl in let t = le-leb (largest_offset x) 0 (omega (arith, z)) in rw t refl)
  where
    present : (x : Expr) → not (not (nat_le (largest_offset x) 0)) ≡ true → (e : Expr) → Some x ≡ Some e → largest_offset e ≡ 0
    present x h e is =
        let same : x ≡ e = cc in
        let le = leb-true (largest_offset x) 0 (twice (nat_le (largest_offset x) 0) h) in
        rw (sym same) (omega (arith, le))
      where
        twice : (b : Bool) → not (not b) ≡ true → b ≡ true
        twice true h = refl
        twice false h = h

pub Decides-window : (set : Set) (p : ℕ) → Decides (keeps_window (property_at set p)) (KeepsWindow set p)
Decides-window set p =
    let x = property_at set p in
    Decides-like (keeps_window x)
    (λ four. record { assumptions = four.0; commitments = four.1.0; hands = four.1.1.0; until = four.1.1.1 })
    (λ (k : KeepsWindow set p). (k.assumptions, (k.commitments, (k.hands, k.until))))
    (Decides-and _ _ (Decides-reads x.window x.assume) (Decides-and _ _ (Decides-reads x.window x.commit) (Decides-and _ _ (Decides-reads x.window x.hand) (Decides-present x.length.until))))

-- ---- covers

Decides-output : (r : Role) → Decides (is_output r) (r ≡ role.Output)
Decides-output role.Output = (λ h. refl, λ h. refl)
Decides-output role.Input = (λ h. cc, λ h. cc)
Decides-output role.State = (λ h. cc, λ h. cc)

pub Decides-output_at : (set : Set) (o : ℕ) → Decides (is_output_at set o) (IsOutput set o)
Decides-output_at set o = of_name (slice_get set.names o)
  where
    of_name : (n : Option Name) → Decides (passes (λ n. is_output n.role) n) ((name : Name) × (n ≡ Some name) × (name.role ≡ role.Output))
    of_name None = (λ h. cc, λ h. let e = h.1 in cc)
    of_name (Some n) = (λ h. (n, refl, (Decides-output n.role).0 h), λ h. let same : n ≡ h.0 = cc in (Decides-output n.role).1 (ap (λ (m : Name). m.role) same ∙ h.2))

-- a cover ends by a number only where its property has no condition
Decides-by_end : (o : Option Expr) (t : To) → Decides (not (passes (λ e. is_number t) o)) ((e : Expr) (r : ℕ) → o ≡ Some e → t ≡ to.At r → ⊥)
Decides-by_end None t = (λ h e r is at. cc, λ f. refl)
Decides-by_end (Some x) (to.At r) = (λ h e s is at. cc, λ f. absurd (f x r refl refl))
Decides-by_end (Some x) (to.AfterEnd d) = (λ h e s is at. cc, λ f. refl)

Decides-fits : (p : Property) (c : Cover) → Decides (fits_cover p c) (IsCover p c)
Decides-fits p c =
    Decides-like (fits_cover p c)
    (λ three. record { begins = three.0.0; fits = three.0.1; by_end = three.1 })
    (λ (k : IsCover p c). ((k.begins, k.fits), k.by_end))
    (Decides-and _ _ (Decides-and _ _ (Decides-le c.from (cover_end c.to p.length.low)) (Decides-le (cover_end c.to p.length.high) (p.window + 1))) (Decides-by_end p.length.until c.to))

pub Decides-cover : (set : Set) (p o : ℕ) → Decides (has_cover p (property_at set p) o) (HasCover set p o)
Decides-cover set p o =
    let x = property_at set p in
    Decides-like (has_cover p x o)
    (λ two. record { one = two.0; bounds = λ c at same. (two.1 c at same).0; start = λ c reset at same. (two.1 c at same).1 reset })
    (λ (k : HasCover set p o). (k.one, λ c at same. (k.bounds c at same, λ reset. k.start c reset at same)))
    (Decides-and _ _ (Decides-eqb _ 1)
    (Decides-each (λ c. not (nat_eq c.output o) || is_cover_of p x c) (λ c. c.output ≡ o → IsCover x c × (p ≡ 0 → c.from ≡ 0))
    (λ c. Decides-if _ _ (Decides-eqb c.output o) (Decides-and _ _ (Decides-fits x c) (Decides-if _ _ (Decides-eqb p 0) (Decides-eqb c.from 0)))) x.covers))

-- ---- edges

pub Decides-leads : (q : ℕ) (x : Property) → Decides (leads_to q x) (Contains x.next q)
Decides-leads q x = (found, reached)
  where
    found : leads_to q x ≡ true → Contains x.next q
    found h =
        let a = Any-from_list_any (λ y. nat_eq y q) x.next h in
        let same = eqb-true a.1 q a.4 in
        (a.0, a.2, subst (λ (z : ℕ). get_or x.next a.0 z ≡ z) same a.3)

    reached : Contains x.next q → leads_to q x ≡ true
    reached c = list_any-from_Any (λ y. nat_eq y q) x.next (c.0, q, c.1, c.2, eq-eqb q q refl)

abbrev EndsAt : Length → To → ℕ → Type 0
EndsAt span t from = (cover_end t span.low ≡ span.low + from) × (cover_end t span.high ≡ span.high + from)

Decides-ends : (span : Length) (t : To) (from : ℕ) → Decides (ends_at span t from) (EndsAt span t from)
Decides-ends span t from = Decides-and _ _ (Decides-eqb (cover_end t span.low) (span.low + from)) (Decides-eqb (cover_end t span.high) (span.high + from))

-- where both ends of the range meet, so does each offset between
between : (span : Length) (t : To) (from n : ℕ) → EndsAt span t from → span.low ≤ n → n ≤ span.high → cover_end t n ≡ n + from
between span (to.At r) from n ends low high = omega (arith, ends.0, ends.1)
between span (to.AfterEnd d) from n ends low high = omega (arith, ends.0)

pub Decides-meets : (set : Set) (p q o : ℕ) → (property_at set p).length.low ≤ (property_at set p).length.high → Decides (meets (property_at set p) (property_at set q) o) (Meets set p q o)
Decides-meets set p q o order =
    let x = property_at set p in
    let y = property_at set q in
    Decides-like (meets x y o)
    (λ all c d n at after same next low high. between x.length c.to d.from n (all c at same d after (next ∙ sym same)) low high)
    (λ (m : Meets set p q o) c at same d after next. (m c d x.length.low at after same (next ∙ same) (omega arith) order, m c d x.length.high at after same (next ∙ same) order (omega arith)))
    (Decides-each (λ c. not (nat_eq c.output o) || meets_all x.length c y.covers) (λ c. c.output ≡ o → (d : Cover) → Contains y.covers d → d.output ≡ c.output → EndsAt x.length c.to d.from)
    (λ c. Decides-if _ _ (Decides-eqb c.output o)
    (Decides-each (λ d. not (nat_eq d.output c.output) || ends_at x.length c.to d.from) (λ d. d.output ≡ c.output → EndsAt x.length c.to d.from)
    (λ d. Decides-if _ _ (Decides-eqb d.output c.output) (Decides-ends x.length c.to d.from)) y.covers)) x.covers)
