-- A text whose names are declared and whose quantities keep their bounds means a set.
use Rattle.std.proofs.Common.{◌≡◌, ℕ, ◌<◌, ◌≤◌, ◌^◌, inl, inr, List, [], ◌∷◌, ◌++◌, length, map, Option, Some, None, Bool, true, false, not, refl, ap, arith}
use Rattle.std.specs.Prelude.{nat_lt, is_some}
use Rattle.std.specs.List.{list_any, list_all, flat_map}
use Rattle.std.specs.Option.{option_map}
use Rattle.std.proofs.lemmas.Bool.{ltb-true, ltb-false, lt-ltb, and_parts, or_parts, not-false}
use Rattle.set_tree.specs.declared.set.To.TheVariants as to
use Rattle.set_tree.specs.declared.text.CoverText.{CoverText}
use Rattle.set_tree.specs.declared.text.Declaration.{Declaration}
use Rattle.set_tree.specs.declared.text.EndText.{EndText}
use Rattle.set_tree.specs.declared.text.EndText.TheVariants as end
use Rattle.set_tree.specs.declared.text.PropertyText.{PropertyText}
use Rattle.set_tree.specs.declared.text.SetText.{SetText}
use Rattle.set_read_lookup.specs.declared.quantity.Quantity.{Quantity}
use Rattle.set_read_lookup.specs.declared.quantity.Quantity.TheVariants as q
use Rattle.set_read_lookup.specs.Meaning.{within, width_of, low_of, name_with, name_of, each, joined, output_from, end_of, cover_with, cover_of, successor_of, high_from, window_from, sizes_with, sizes_of, looked_with, looked_of, property_of, properties_of, constraints_of, invariants_of, MeansNothing}
use Rattle.set_read_lookup.specs.Faults.{Has, is_outside, leaves_width, leaves_length, leaves_window, leaves, is_no_output, is_no_property, outputs_of, properties_in, is_small_end, is_small_cover, HasSmallNumbers, IsValid, Leaves, StandsLimit}

-- a value that is there
abbrev pub Is : {A : Type 0} → Option A → Type 0
Is {A} o = (a : A) × (o ≡ Some a)

pub is_by : {A : Type 0} (o : Option A) → (is_some o ≡ false → ⊥) → Is o
is_by None h = absurd (h refl)
is_by (Some a) h = (a, refl)

pub no_is_false : (b : Bool) → (b ≡ true → ⊥) → b ≡ false
no_is_false true h = absurd (h refl)
no_is_false false h = refl

pub keeps : (low high n : ℕ) → is_outside low high n ≡ false → (low ≤ n) × (n ≤ high)
keeps low high n h = let p = or_parts (nat_lt n low) (nat_lt high n) h in (ltb-false n low p.0, ltb-false high n p.1)

pub within_is : (bound n : ℕ) → n < bound → Is (within bound n)
within_is bound n h = let t : nat_lt n bound ≡ true = lt-ltb n bound h in (n, rw t refl)

-- ---- the declared names
pub name_is : (d : Declaration) → leaves_width d ≡ false → nat_lt (low_of d.bits) (2 ^ 32) ≡ true → Is (name_of d)
name_is d a b =
    let x : Is (width_of d.bits) = is_by (width_of d.bits) (λ h. let k : is_some (width_of d.bits) ≡ true = not-false (is_some (width_of d.bits)) a in absurd (cc)) in
    let y : Is (within (2 ^ 32) (low_of d.bits)) = within_is (2 ^ 32) (low_of d.bits) (ltb-true (low_of d.bits) (2 ^ 32) b) in
    (_, λ r. name_with d (x.1 r) (y.1 r))

pub names_are : (ds : List Declaration) → list_any leaves_width ds ≡ false → list_all (λ d. nat_lt (low_of d.bits) (2 ^ 32)) ds ≡ true → Is (each name_of ds)
names_are [] a b = ([], refl)
names_are (d ∷ ds) a b =
    let p = or_parts (leaves_width d) (list_any leaves_width ds) a in
    let s = and_parts (nat_lt (low_of d.bits) (2 ^ 32)) (list_all (λ d. nat_lt (low_of d.bits) (2 ^ 32)) ds) b in
    let x = name_is d p.0 s.0 in let y = names_are ds p.1 s.1 in
    (_, λ r. joined (x.1 r) (y.1 r))

-- ---- the covers and the successors
pub end_is : (to : EndText) → is_small_end to ≡ true → Is (end_of to)
end_is (end.At r) h = let x = within_is (2 ^ 32) r (ltb-true r (2 ^ 32) h) in (_, ap (λ o. option_map to.At o) x.1)
end_is (end.AfterEnd d) h = let x = within_is (2 ^ 32) d (ltb-true d (2 ^ 32) h) in (_, ap (λ o. option_map to.AfterEnd o) x.1)

pub cover_is : (ds : List Declaration) (c : CoverText) → (is_no_output ds c.output ≡ true → ⊥) → is_small_cover c ≡ true → Is (cover_of ds c)
cover_is ds c known small =
    let s = and_parts (nat_lt c.from (2 ^ 32)) (is_small_end c.to) small in
    let o : Is (output_from ds c.output 0) = is_by (output_from ds c.output 0) (λ h. known (ap not h)) in
    let f : Is (within (2 ^ 32) c.from) = within_is (2 ^ 32) c.from (ltb-true c.from (2 ^ 32) s.0) in
    let e : Is (end_of c.to) = end_is c.to s.1 in
    (_, λ r. cover_with (o.1 r) (f.1 r) (e.1 r))

pub covers_are : (ds : List Declaration) (cs : List CoverText) → ((n : List ℕ) → Has (map (λ c. c.output) cs) n → is_no_output ds n ≡ true → ⊥) → list_all is_small_cover cs ≡ true → Is (each (cover_of ds) cs)
covers_are ds [] known small = ([], refl)
covers_are ds (c ∷ cs) known small =
    let s = and_parts (is_small_cover c) (list_all is_small_cover cs) small in
    let x = cover_is ds c (known c.output (inl refl)) s.0 in
    let y = covers_are ds cs (λ n h. known n (inr h)) s.1 in
    (_, λ r. joined (x.1 r) (y.1 r))

pub next_is : (ps : List PropertyText) (ns : List (List ℕ)) → ((n : List ℕ) → Has ns n → is_no_property ps n ≡ true → ⊥) → Is (each (successor_of ps) ns)
next_is ps [] known = ([], refl)
next_is ps (n ∷ ns) known =
    let x : Is (successor_of ps n) = is_by (successor_of ps n) (λ h. known n (inl refl) (ap not h)) in
    let y = next_is ps ns (λ m h. known m (inr h)) in
    (_, λ r. joined (x.1 r) (y.1 r))

-- ---- the properties
pub sizes_are : (p : PropertyText) → p.length.low ≤ 64 → leaves_window p ≡ false → Is (sizes_of p)
sizes_are p low window =
    let high : ℕ = high_from p.length.low p.length.until in
    let k : (high ≤ window_from high p.window) × (window_from high p.window ≤ 64) = keeps high 64 (window_from high p.window) window in
    let a = within_is 256 p.length.low (omega (arith, low)) in
    let b = within_is 256 high (omega (arith, k.0, k.1)) in
    let c = within_is 256 (window_from high p.window) (omega (arith, k.1)) in
    (_, λ r. sizes_with (a.1 r) (b.1 r) (c.1 r))

-- what a property needs to be looked up
pub record Known (ds : List Declaration) (ps : List PropertyText) (p : PropertyText) : Type 0 where
  pub low : p.length.low ≤ 64
  pub window : leaves_window p ≡ false
  pub covers : (n : List ℕ) → Has (map (λ c. c.output) p.covers) n → is_no_output ds n ≡ true → ⊥
  pub small : list_all is_small_cover p.covers ≡ true
  pub next : (n : List ℕ) → Has p.next n → is_no_property ps n ≡ true → ⊥

pub looked_is : (ds : List Declaration) (ps : List PropertyText) (p : PropertyText) → Known ds ps p → Is (looked_of ds ps p)
looked_is ds ps p k =
    let a = sizes_are p k.low k.window in
    let b = covers_are ds p.covers k.covers k.small in
    let c = next_is ps p.next k.next in
    (_, λ r. looked_with (a.1 r) (b.1 r) (c.1 r))

pub has_left : {A : Type 0} (xs ys : List A) (x : A) → Has xs x → Has (xs ++ ys) x
has_left [] ys x h = absurd h
has_left (z ∷ zs) ys x (inl e) = inl e
has_left (z ∷ zs) ys x (inr h) = inr (has_left zs ys x h)

pub has_right : {A : Type 0} (xs ys : List A) (x : A) → Has ys x → Has (xs ++ ys) x
has_right [] ys x h = h
has_right (z ∷ zs) ys x h = inr (has_right zs ys x h)

pub all_looked : (ds : List Declaration) (ps qs : List PropertyText) → list_any leaves_length qs ≡ false → list_any leaves_window qs ≡ false
    → ((n : List ℕ) → Has (flat_map outputs_of qs) n → is_no_output ds n ≡ true → ⊥) → list_all (λ p. list_all is_small_cover p.covers) qs ≡ true
    → ((n : List ℕ) → Has (flat_map (λ p. p.next) qs) n → is_no_property ps n ≡ true → ⊥) → Is (each (looked_of ds ps) qs)
all_looked ds ps [] len win cov small next = ([], refl)
all_looked ds ps (p ∷ qs) len win cov small next =
    let l = or_parts (leaves_length p) (list_any leaves_length qs) len in
    let w = or_parts (leaves_window p) (list_any leaves_window qs) win in
    let s = and_parts (list_all is_small_cover p.covers) (list_all (λ p. list_all is_small_cover p.covers) qs) small in
    let m = or_parts (is_outside 1 64 p.length.low) (is_outside p.length.low 64 (high_from p.length.low p.length.until)) l.0 in
    let x = looked_is ds ps p (record {
      low = (keeps 1 64 p.length.low m.0).1;
      window = w.0;
      covers = λ n h. cov n (has_left (outputs_of p) (flat_map outputs_of qs) n h);
      small = s.0;
      next = λ n h. next n (has_left p.next (flat_map (λ p. p.next) qs) n h);
    }) in
    let y = all_looked ds ps qs l.1 w.1 (λ n h. cov n (has_right (outputs_of p) (flat_map outputs_of qs) n h)) s.1 (λ n h. next n (has_right p.next (flat_map (λ p. p.next) qs) n h)) in
    (_, λ r. joined (x.1 r) (y.1 r))

-- ---- the set
module _ (t : SetText) where
  pub limit_stands : (quantity : Quantity) → Leaves t quantity → StandsLimit t quantity
  limit_stands q.Width s = inl s
  limit_stands q.Cycles s = s
  limit_stands q.Length s = s
  limit_stands q.Window s = s
  limit_stands q.Operations s = s
  limit_stands q.Invariants s = s
  limit_stands q.Constraints s = s
  limit_stands q.Names s = s
  limit_stands q.Hands s = s

  pub none_leaves : IsValid t → (quantity : Quantity) → Leaves t quantity → ⊥
  none_leaves v quantity s = v.kept quantity (limit_stands quantity s)

  pub few_operations : ((quantity : _) → Leaves t quantity → ⊥) → length t.operations ≤ 64
  few_operations h = (keeps 1 64 (length t.operations) (no_is_false (leaves t q.Operations) (h q.Operations))).1

  pub few_names : ((quantity : _) → Leaves t quantity → ⊥) → length t.declarations ≤ 256
  few_names h = (keeps 1 256 (length t.declarations) (no_is_false (leaves t q.Names) (h q.Names))).1

  pub few_cycles : ((quantity : _) → Leaves t quantity → ⊥) → t.cycles ≤ 16
  few_cycles h = (keeps 1 16 t.cycles (no_is_false (leaves t q.Cycles) (h q.Cycles))).1

  pub meant : IsValid t → HasSmallNumbers t → MeansNothing t → ⊥
  meant v small none =
      let len = or_parts (nat_lt 64 t.first.length.low) (list_any leaves_length t.operations) (no_is_false (leaves t q.Length) (none_leaves v q.Length)) in
      let win = or_parts (list_any leaves_window (properties_in t)) _ (no_is_false (leaves t q.Window) (none_leaves v q.Window)) in
      let w = or_parts (leaves_window t.first) (list_any leaves_window t.operations) win.0 in
      let s = and_parts (list_all is_small_cover t.first.covers) (list_all (λ p. list_all is_small_cover p.covers) t.operations) small.covers in
      let n = names_are t.declarations (no_is_false (leaves t q.Width) (none_leaves v q.Width)) small.names in
      let f = looked_is t.declarations t.operations t.first (record {
        low = ltb-false 64 t.first.length.low len.0;
        window = w.0;
        covers = λ m h e. v.known m (inr (inl (has_left (outputs_of t.first) (flat_map outputs_of t.operations) m h, e)));
        small = s.0;
        next = λ m h e. v.known m (inr (inr (has_left t.first.next (flat_map (λ p. p.next) t.operations) m h, e)));
      }) in
      let o = all_looked t.declarations t.operations t.operations len.1 w.1
      (λ m h e. v.known m (inr (inl (has_right (outputs_of t.first) (flat_map outputs_of t.operations) m h, e)))) s.1
      (λ m h e. v.known m (inr (inr (has_right t.first.next (flat_map (λ p. p.next) t.operations) m h, e)))) in
      none
      (record {
        block = t.block;
        clock = t.clock;
        reset = t.reset;
        high = t.high;
        cycles = t.cycles;
        names = n.0;
        constraints = constraints_of t.rules;
        invariants = invariants_of t.rules;
        first = property_of t.first f.0;
        operations = properties_of o.0 t.operations;
      })
      (record {
        block = refl;
        clock = refl;
        reset = refl;
        high = refl;
        cycles = refl;
        names = n.1;
        constraints = refl;
        invariants = refl;
        first = (f.0, f.1, refl);
        operations = (o.0, o.1, refl);
      })

  -- a part that can't be looked up
  pub no_first : looked_of t.declarations t.operations t.first ≡ None → MeansNothing t
  no_first h = λ s m. let p = m.first.1 in absurd (cc)

  pub no_operations : each (looked_of t.declarations t.operations) t.operations ≡ None → MeansNothing t
  no_operations h = λ s m. let p = m.operations.1 in absurd (cc)

  pub no_names : each name_of t.declarations ≡ None → MeansNothing t
  no_names h = λ s m. let p = m.names in absurd (cc)
