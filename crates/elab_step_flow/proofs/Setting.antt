-- The bits of words are those that parts surely set.
use Rattle.std.proofs.Common.{◌≡◌, ℕ, zero, suc, map, length, get_or, take, ◌++◌, ◌<◌, ◌⊎◌, ◌↔◌, min, inl, inr, List, [], ◌∷◌, Some, None, arith, refl, sym, ap, ◌∙◌, subst}
use Rattle.std.specs.Prelude.{ℤ, pos, ◌≤ℤ◌, ◌<ℤ◌, ◌-ℤ◌, ◌+ℤ◌}
use Rattle.std.specs.Int.{bit_at}
use Rattle.std.proofs.Math.Seq.{take-append_seam}
use Rattle.std.proofs.lemmas.Int.{ints}
use Rattle.vlog_tree.specs.declared.expr.Expr.{Expr}
use Rattle.vlog_tree.specs.declared.stmt.Lval.{Lval}
use Rattle.vlog_tree.specs.declared.stmt.Lval.TheVariants as l
use Rattle.vlog_tree.specs.Value.{operand_of, own_integer, natural, part_low, part_width, NamesOnly}
use Rattle.vlog_tree_runs.specs.declared.flat.Signal.{Signal}
use Rattle.vlog_tree_runs.specs.Places.{Place, Among}
use Rattle.vlog_tree_runs.specs.Blocks.{IsWithin, low_in}
use Rattle.elab_flat_faults.specs.Paths.{Sets}
use Rattle.elab_step_laws.specs.Laws.{place_over}
use Rattle.elab_flat_drivers.specs.declared.parts.Part.{Part}
use Rattle.elab_flat_drivers.specs.Parts.{reads_of, part_meant}
use Rattle.elab_flat_drivers.specs.Claims.{nothing, known, known_if, part_name}
use Rattle.elab_flat_drivers.proofs.Bits.{ones_set, set_ones, run_set, set_run}
use Rattle.elab_flat_drivers.proofs.Constants.{no_names, no_reads}
use Rattle.elab_flat_drivers.proofs.Parting.{IsPiece}
use Rattle.elab_step_flow.specs.Words.{run_word, index_word, span_word, set_word, IsSignalAt}
use Rattle.elab_flat_drivers.specs.Spots.{signal_name}
use Rattle.elab_step_flow.proofs.Bits.{none_set}

abbrev number : Expr → ℤ
number a = own_integer (operand_of [] a)

-- an expression has no names and a number, or it has names
abbrev Decided : Expr → Type 0
Decided a = ((known a ≡ Some (number a)) × NamesOnly nothing a) ⊎ ((known a ≡ None) × (NamesOnly nothing a → ⊥))

known_cases : (a : Expr) → Decided a
known_cases a = by_reads (reads_of a) refl
  where
    by_reads : (qs : List Lval) → reads_of a ≡ qs → Decided a
    by_reads [] e = inl (ap (λ z. known_if z (number a)) e, no_names a e)
    by_reads (q ∷ qs) e = inr (ap (λ z. known_if z (number a)) e, λ h. let z : q ∷ qs ≡ [] = sym e ∙ no_reads a h in cc)

-- the bits of a run
run_is : (w low b : ℕ) (i j : ℤ) → b < w → (bit_at (run_word w low i j) b ≡ 1) ↔ (((i -ℤ pos low) ≤ℤ pos b) × (pos b <ℤ (j -ℤ pos low)))
run_is w low b i j lt = (
  λ h. let r = run_set w b (i -ℤ pos low) (j -ℤ pos low) (ones_set (min w (natural (i -ℤ pos low))) (min w (natural (j -ℤ pos low))) b h) in (r.0, r.1),
  λ h. set_ones (min w (natural (i -ℤ pos low))) (min w (natural (j -ℤ pos low))) b (set_run w b (i -ℤ pos low) (j -ℤ pos low) lt h.0 h.1),
)

module _ (gs : List Signal) (w low b : ℕ) (lt : b < w) where
  abbrev p : Place
  p = place_over gs

  -- the bits of a part's word are those that it sets
  pub word_sets : (q : Lval) → IsPiece q → low_in p (part_name q) ≡ low → (bit_at (set_word w low q) b ≡ 1) ↔ Sets p q (part_name q) b
  word_sets (l.Name x) t e = (λ h. refl, λ h. set_ones 0 w b (record { low = omega arith; high = lt }))
  word_sets (l.Select x a) t e = by_index (known_cases a)
    where
      at_bit : (i : ℤ) (low : ℕ) → (i -ℤ pos low) ≤ℤ pos b → pos b <ℤ ((i +ℤ pos 1) -ℤ pos low) → i -ℤ pos low ≡ pos b
      at_bit i low f g = omega (arith, ints)

      below : (i : ℤ) (low : ℕ) → i -ℤ pos low ≡ pos b → (i -ℤ pos low) ≤ℤ pos b
      below i low f = omega (arith, ints)

      above : (i : ℤ) (low : ℕ) → i -ℤ pos low ≡ pos b → pos b <ℤ ((i +ℤ pos 1) -ℤ pos low)
      above i low f = omega (arith, ints)

      by_index : Decided a → (bit_at (index_word w low (known a)) b ≡ 1) ↔ Sets p (l.Select x a) x b
      by_index (inl k) =
          let r = run_is w low b (number a) (number a +ℤ pos 1) lt in (
            λ h. let f = r.0 (subst (λ o. bit_at (index_word w low o) b ≡ 1) k.0 h) in (refl, k.1, ap (λ m. number a -ℤ pos m) e ∙ at_bit (number a) low f.0 f.1),
            λ h. let f = ap (λ m. number a -ℤ pos m) (sym e) ∙ h.2 in subst (λ o. bit_at (index_word w low o) b ≡ 1) (sym k.0) (r.1 (below (number a) low f, above (number a) low f)),
          )
      by_index (inr k) = (λ h. absurd (none_set b (subst (λ o. bit_at (index_word w low o) b ≡ 1) k.0 h)), λ h. absurd (k.1 h.1))
  word_sets (l.Part x span a c) t e = by_numbers (known_cases a) (known_cases c)
    where
      within : (i : ℤ) (count z : ℕ) → pos b <ℤ ((i +ℤ pos count) -ℤ pos z) → pos b <ℤ ((i -ℤ pos z) +ℤ pos count)
      within i count z f = omega (arith, ints)

      beyond : (i : ℤ) (count z : ℕ) → pos b <ℤ ((i -ℤ pos z) +ℤ pos count) → pos b <ℤ ((i +ℤ pos count) -ℤ pos z)
      beyond i count z f = omega (arith, ints)

      by_numbers : Decided a → Decided c → (bit_at (span_word w low span (known a) (known c)) b ≡ 1) ↔ Sets p (l.Part x span a c) x b
      by_numbers (inl k) (inl m) =
          let i = part_low span (number a) (number c) in
          let count = part_width span (number a) (number c) in
          let r = run_is w low b i (i +ℤ pos count) lt in (
            λ h. let f = r.0 (subst (λ o. bit_at (span_word w low span (Some (number a)) o) b ≡ 1) m.0 (subst (λ o. bit_at (span_word w low span o (known c)) b ≡ 1) k.0 h)) in
                (refl, k.1, m.1, subst (λ z. IsWithin (i -ℤ pos z) count b) (sym e) (f.0, within i count low f.1)),
            λ h. let f : IsWithin (i -ℤ pos low) count b = subst (λ z. IsWithin (i -ℤ pos z) count b) e h.3 in
                subst (λ o. bit_at (span_word w low span o (known c)) b ≡ 1) (sym k.0) (subst (λ o. bit_at (span_word w low span (Some (number a)) o) b ≡ 1) (sym m.0) (r.1 (f.0, beyond i count low f.1))),
          )
      by_numbers (inr k) m = (λ h. absurd (none_set b (subst (λ o. bit_at (span_word w low span o (known c)) b ≡ 1) k.0 h)), λ h. absurd (k.1 h.1))
      by_numbers (inl k) (inr m) = (
        λ h. absurd (none_set b (subst (λ o. bit_at (span_word w low span (Some (number a)) o) b ≡ 1) m.0 (subst (λ o. bit_at (span_word w low span o (known c)) b ≡ 1) k.0 h))),
        λ h. absurd (m.1 h.2),
      )
  word_sets (l.Concat' g row) t e = absurd t

-- ---- words at places

pub signal_at_place : (gs : List Signal) (i : ℕ) (g : Signal) → i < length gs → g ≡ get_or gs i g → IsSignalAt gs i g
signal_at_place [] i g lt e = absurd (omega arith)
signal_at_place (h ∷ gs) zero g lt e = sym e
signal_at_place (h ∷ gs) (suc i) g lt e = signal_at_place gs i g (omega arith) e

pub among_signals : (gs : List Signal) (i : ℕ) (g : Signal) → IsSignalAt gs i g → Among gs g
among_signals [] i g h = absurd h
among_signals (k ∷ gs) zero g h = inl h
among_signals (k ∷ gs) (suc i) g h = inr (among_signals gs i g h)

pub one_signal : (gs : List Signal) (i : ℕ) (g h : Signal) → IsSignalAt gs i g → IsSignalAt gs i h → g ≡ h
one_signal [] i g h a b = absurd a
one_signal (k ∷ gs) zero g h a b = sym a ∙ b
one_signal (k ∷ gs) (suc i) g h a b = one_signal gs i g h a b

pub names_length : (gs : List Signal) → length (map signal_name gs) ≡ length gs
names_length [] = refl
names_length (g ∷ gs) = ap suc (names_length gs)

pub among_map : (parts : List Part) (i : ℕ) (part : Part) → i < length parts → part ≡ get_or parts i part → Among (map part_meant parts) (part_meant part)
among_map [] i part lt e = absurd (omega arith)
among_map (q ∷ parts) zero part lt e = inl (ap part_meant (sym e))
among_map (q ∷ parts) (suc i) part lt e = inr (among_map parts i part (omega arith) e)

-- what a call leaves of a whole list
pub written_back : {A : Type 0} (n : ℕ) (new items : List A) → n ≡ length new → take n (new ++ items) ≡ new
written_back n new items e = ap (λ m. take m (new ++ items)) e ∙ take-append_seam new items
