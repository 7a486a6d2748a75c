-- Where no range breaks a rule, the bits of a signal have numbers below 2 ^ 64.
use Rattle.std.proofs.Common.{◌≡◌, ℕ, ◌+◌, ◌-◌, ◌<◌, ◌≤◌, ◌^◌, Bool, true, false, List, [], ◌∷◌, Option, Some, None, refl, subst, inl, inr, ⊎_elim, nat_lt, arith}
use Rattle.std.specs.Prelude.{if◌then◌else◌, unwrap_or, nat_eq, ◌&&◌, ℤ, pos, negsuc, ◌+ℤ◌, ◌-ℤ◌, ◌≤ℤ◌}
use Rattle.std.specs.Option.{option_map}
use Rattle.std.specs.Str.{bytes_eq}
use Rattle.std.proofs.lemmas.Bool.{cases_Bool, ltb-true, ltb-false}
use Rattle.std.proofs.lemmas.Int.{ints}
use Rattle.vlog_tree.specs.declared.expr.Expr.{Expr}
use Rattle.vlog_tree.specs.declared.expr.Name.{Name as Read}
use Rattle.vlog_tree.specs.declared.item.Range.{Range}
use Rattle.vlog_tree.specs.declared.item.Shape.{Shape}
use Rattle.vlog_tree.specs.declared.module.Module.{Module}
use Rattle.vlog_tree.specs.declared.valuation.Entry.{Entry}
use Rattle.vlog_tree.specs.Valuation.{entry_at, meant, named}
use Rattle.vlog_tree.specs.Value.{is_negative, natural, own_integer, operand_of, own_value, width_of, sign_of, IsFormed}
use Rattle.vlog_tree_runs.specs.declared.flat.Flat.{Flat}
use Rattle.vlog_tree_runs.specs.declared.flat.Signal.{Signal}
use Rattle.vlog_tree_runs.specs.Places.{Name, Among}
use Rattle.vlog_tree_runs.specs.Blocks.{is_parameter}
use Rattle.vlog_tree_runs.specs.Contents.{Decl, signals_in}
use Rattle.vlog_tree_runs.specs.Scopes.{Scope, place_of, signal_of, range_width, width_in, lowest_in}
use Rattle.elab_flat_laws.specs.Moved.{moved_signal}
use Rattle.elab_flat_laws.specs.Uses.{AreConstants}
use Rattle.elab_flat_laws.specs.Flattened.{flat_signals}
use Rattle.elab_flat_laws.proofs.Lists.{bool_cases, among_map, among_flat}
use Rattle.elab_flat_faults.specs.declared.flattening.FlatFault.TheVariants as f
use Rattle.elab_flat_faults.specs.Constants.{alone, IsOrdered, bounds_of, BreaksBounds, BreaksRange, InRange}
use Rattle.elab_flat_faults.specs.FlatStands.{full, Stands}
use Rattle.elab_flat_faults.specs.Handed.{IsFlattened, AreNumbered}
use Rattle.vlog_tree_values.proofs.Lengths.{formed_length}
use Rattle.desk_core_stage_laws.proofs.NumberedSignals.{signal_shaped}
use Rattle.desk_core_stage_laws.proofs.Values.{own_value_fits, wider}

-- ---- ends of ranges

-- what can't be above a bound is at most it
not_above : (n m : ℕ) → ((n ≤ m → ⊥) → ⊥) → n ≤ m
not_above n m h =
    ⊎_elim (λ (t : nat_lt m n ≡ true). let more : m < n = ltb-true m n t in absurd (h (λ k. omega (arith, more, k))))
    (λ (t : nat_lt m n ≡ false). ltb-false m n t) (bool_cases (nat_lt m n))

at_most : (i : ℤ) (n : ℕ) → i ≤ℤ pos n → natural i ≤ n
at_most (pos x) n h = omega (arith, ints, h)
at_most (negsuc x) n h = omega arith

span_below : (x l bound : ℕ) → x < bound → l ≤ x → l + natural ((pos x -ℤ pos l) +ℤ pos 1) ≤ bound
span_below x l bound lt le =
    let n : natural ((pos x -ℤ pos l) +ℤ pos 1) ≤ x - l + 1 = at_most ((pos x -ℤ pos l) +ℤ pos 1) (x - l + 1) (omega (arith, ints, le)) in
    omega (arith, n, lt, le)

-- the bits from a lowest to a highest one, the highest a number below a bound by its sign
ends_below : (negative : Bool) (x y bound : ℕ) (low : ℤ) → x < bound → pos 0 ≤ℤ low → low ≤ℤ (if negative then negsuc y else pos x) →
    natural low + natural (((if negative then negsuc y else pos x) -ℤ low) +ℤ pos 1) ≤ bound
ends_below true x y bound low lt least most = absurd (omega (arith, ints, least, most))
ends_below false x y bound (pos l) lt least most = span_below x l bound lt (omega (arith, ints, most))
ends_below false x y bound (negsuc l) lt least most = absurd (omega (arith, ints, least))

-- ---- parameters

of_entry : (o : Option Entry) → ((z : Entry) → o ≡ Some z → z.value < 2 ^ z.width) →
    (unwrap_or (option_map meant o) (record { width = 1; low = 0; signed = false; value = 0 })).value < 2 ^ (unwrap_or (option_map meant o) (record { width = 1; low = 0; signed = false; value = 0 })).width
of_entry None h = omega arith
of_entry (Some z) h = h z refl

entry_fits : (v : List Entry) → AreConstants v → (x : Name) (j : ℕ) (z : Entry) → entry_at v x j ≡ Some z → z.value < 2 ^ z.width
entry_fits [] h x j z is = cc
entry_fits (y ∷ ys) h x j z is = elim (cases_Bool (nat_eq y.offset j && bytes_eq y.name x)) [
  | inl t ↦ (let here : Some y ≡ Some z = rw t at is in let same : y ≡ z = cc in subst (λ (e : Entry). e.value < 2 ^ e.width) same h.1)
  | inr n ↦ entry_fits ys h.2 x j z (rw n at is)
]

names_fit : (v : List Entry) → AreConstants v → (x : Read) → (named v x).value < 2 ^ (named v x).width
names_fit v h x = of_entry (entry_at v x.text x.offset) (entry_fits v h x.text x.offset)

-- ---- ranges

module _ (v : List Entry) (constants : AreConstants v) where
  value_below : (a : Expr) → IsFormed v a → own_value v a < 2 ^ 64
  value_below a formed = wider (own_value v a) (width_of v a) 64 (formed_length v a formed).1 (own_value_fits v (names_fit v constants) a)

  ordered_below : (r : Range) → IsFormed v r.high → IsOrdered v r → natural (own_integer (operand_of v r.low)) + range_width v r ≤ 2 ^ 64
  ordered_below r formed ordered =
      let n = width_of v r.high in
      let x = own_value v r.high in
      ends_below (is_negative (sign_of v r.high) n x) x (2 ^ n - 1 - x) (2 ^ 64) (own_integer (operand_of v r.low)) (value_below r.high formed) ordered.0 ordered.1

  module _ (test : Name → Bool) where
    module _ (r : Range) (bound : BreaksBounds IsOrdered test v r → ⊥) (sized : BreaksRange test v r → ⊥) where
      -- a bound can't be other than well formed
      well_formed : (a : Expr) → Among (bounds_of v r) (alone v a) → (IsFormed v a → ⊥) → ⊥
      well_formed a is none =
          bound (inl (alone v a, is, inl (λ names. bound (inl (alone v a, is, inr (names, λ divisors. sized (inl (alone v a, is, (names, divisors.0, none)))))))))

      range_below : natural (own_integer (operand_of v r.low)) + range_width v r ≤ 2 ^ 64
      range_below = not_above (natural (own_integer (operand_of v r.low)) + range_width v r) (2 ^ 64)
          (λ more. well_formed r.high (inl refl) (λ high. well_formed r.low (inr (inl refl)) (λ low. bound (inr ((high, low), λ ordered. more (ordered_below r high ordered))))))

    bits_below : (o : Option Range) → (InRange (BreaksBounds IsOrdered test v) o → ⊥) → (InRange (BreaksRange test v) o → ⊥) → lowest_in o v + width_in o 1 v ≤ 2 ^ 64
    bits_below None bound sized = omega arith
    bits_below (Some r) bound sized = range_below r bound sized

-- ---- signals

pub are_numbered : (ms : List Module) (top : Name) (flat : Flat) → IsFlattened ms top flat → ((n : Name) → Stands ms top (f.Constant n) → ⊥) → ((n : Name) → Stands ms top (f.Width n) → ⊥) → AreNumbered flat
are_numbered ms top flat is constant sized g among =
    let in_scope = among_flat flat_signals is.scopes g (subst (λ gs. Among gs g) is.texts.signals among) in
    let s : Scope = in_scope.0 in
    let moved = among_map (moved_signal s.prefix) (place_of s).signals g in_scope.2 in
    let declared = among_map (signal_of s.params) (signals_in s.module') moved.0 moved.1 in
    let d : Decl = declared.0 in
    let shaped = signal_shaped s.module' d declared.1 in
    let at = is.all.only s in_scope.1 in
    let name : Name = full s shaped.from.name in
    let below : lowest_in shaped.from.shape.range s.params + width_in shaped.from.shape.range 1 s.params ≤ 2 ^ 64 =
    bits_below s.params (is.usable.usable s in_scope.1).constants (is_parameter (place_of s)) shaped.from.shape.range
    (λ h. constant name (at.0, s, at.1, inl (shaped.from, shaped.among, refl, inl h))) (λ h. sized name (at.0, s, at.1, inl (shaped.from, shaped.among, refl, inl h))) in
    subst (λ (z : Signal). z.low + z.width ≤ 2 ^ 64) moved.2
    (subst (λ (z : Signal). z.low + z.width ≤ 2 ^ 64) declared.2 (subst (λ (z : Shape). lowest_in z.range s.params + width_in z.range 1 s.params ≤ 2 ^ 64) shaped.shape below))
