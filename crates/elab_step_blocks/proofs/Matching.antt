-- Labels that are compared but for some bits.
use Rattle.std.proofs.Common.{arith, ◌≡◌, ℕ, zero, suc, ◌+◌, ◌%◌, ◌^◌, ◌<◌, ◌≤◌, max, Bool, true, false, List, [], ◌∷◌, length, get_or, take, refl, sym, ap, ◌∙◌, ⊎_elim}
use Rattle.std.specs.Prelude.{nat_eq, bit_or, ◌||◌}
use Rattle.std.specs.List.{list_any}
use Rattle.std.specs.Int.{bit_at}
use Rattle.std.proofs.lemmas.Nat.Bits.{bit_at_or, same_from_bits, bit_at-zero}
use Rattle.std.proofs.lemmas.Nat.{or_mod}
use Rattle.std.proofs.lemmas.List.Folds.{list_any_more}
use Rattle.std.proofs.lemmas.Bool.Decides.{nat_tests}
use Rattle.std.proofs.Math.Nat.{mod-eq_of_lt}
use Rattle.word_core.proofs.Numbers.{shr_whole}
use Rattle.vlog_tree.specs.declared.expr.Expr.{Expr}
use Rattle.vlog_tree.specs.declared.valuation.Entry.{Entry}
use Rattle.vlog_tree.specs.Value.{bit}
use Rattle.elab_step_blocks.specs.Cases.{is_same_but}
use Rattle.elab_step_blocks.specs.Ready.{IsPlaced, ArePlaced}
use Rattle.elab_step_blocks.proofs.Writing.{low_bit, less_or}
use Rattle.elab_step_blocks.proofs.Trying.{iff}

or_none : (x : ℕ) → bit_or x 0 ≡ x
or_none x = same_from_bits (bit_or x 0) x (λ j. bit_at_or x 0 j ∙ ap (λ k. max (bit_at x j) k) (bit_at-zero j) ∙ nothing (bit_at x j))
  where
    nothing : (k : ℕ) → max k 0 ≡ k
    nothing k = omega arith

eq_is : (a b : ℕ) → nat_eq a b ≡ true → a ≡ b
eq_is a b h = grind (arith, nat_tests)

is_eq : (a b : ℕ) → a ≡ b → nat_eq a b ≡ true
is_eq a b h = grind (arith, nat_tests)

pub all_bits : (bits x y : ℕ) → bits ≡ 0 → nat_eq x y ≡ is_same_but bits x y
all_bits bits x y is = (λ r. nat_eq (sym (or_none x) r) (sym (or_none y) r)) ∙ ap (λ k. is_same_but k x y) (sym is)

high_bit : (n x j : ℕ) → x < 2 ^ n → n ≤ j → bit_at x j ≡ 0
high_bit n x j lt le = ap (λ k. k % 2) (sym (shr_whole x j n lt le))

same_bit : (n bits x y j : ℕ) → x < 2 ^ n → y < 2 ^ n → bit_or x (bits % 2 ^ n) ≡ bit_or y (bits % 2 ^ n) → bit_at (bit_or x bits) j ≡ bit_at (bit_or y bits) j
same_bit n bits x y j lx ly h =
    ⊎_elim
    (λ (l : j < n). bit_at_or x bits j ∙ ap (λ k. max (bit_at x j) k) (sym (low_bit bits n j l)) ∙ sym (bit_at_or x (bits % 2 ^ n) j) ∙ ap (λ k. bit_at k j) h
    ∙ bit_at_or y (bits % 2 ^ n) j ∙ ap (λ k. max (bit_at y j) k) (low_bit bits n j l) ∙ sym (bit_at_or y bits j))
    (λ (l : n ≤ j). bit_at_or x bits j ∙ ap (λ k. max k (bit_at bits j)) (high_bit n x j lx l ∙ sym (high_bit n y j ly l)) ∙ sym (bit_at_or y bits j))
    (less_or j n)

low_or : (n bits x : ℕ) → x < 2 ^ n → bit_or x bits % 2 ^ n ≡ bit_or x (bits % 2 ^ n)
low_or n bits x lx = or_mod x bits n ∙ ap (λ k. bit_or k (bits % 2 ^ n)) (mod-eq_of_lt lx)

pub masked : (n bits x y : ℕ) → x < 2 ^ n → y < 2 ^ n → nat_eq (bit_or x (bits % 2 ^ n)) (bit_or y (bits % 2 ^ n)) ≡ is_same_but bits x y
masked n bits x y lx ly =
    iff (nat_eq (bit_or x (bits % 2 ^ n)) (bit_or y (bits % 2 ^ n))) (is_same_but bits x y)
    (λ h. is_eq (bit_or x bits) (bit_or y bits) (same_from_bits (bit_or x bits) (bit_or y bits) (λ j. same_bit n bits x y j lx ly (eq_is (bit_or x (bits % 2 ^ n)) (bit_or y (bits % 2 ^ n)) h))))
    (λ h. is_eq (bit_or x (bits % 2 ^ n)) (bit_or y (bits % 2 ^ n)) (sym (low_or n bits x lx) ∙ ap (λ k. k % 2 ^ n) (eq_is (bit_or x bits) (bit_or y bits) h) ∙ low_or n bits y ly))

-- ---- one of some labels

either_bit : (p q : Bool) → bit_or (bit p) (bit q) ≡ bit (p || q)
either_bit true true = refl
either_bit true false = refl
either_bit false true = refl
either_bit false false = refl

pub any_next : (p : Expr → Bool) (xs : List Expr) (i : ℕ) (d : Expr) (m n : ℕ) → i < length xs → m ≡ bit (list_any p (take i xs)) → n ≡ bit (p (get_or xs i d)) → bit_or m n ≡ bit (list_any p (take (i + 1) xs))
any_next p xs i d m n lt h k = (λ r. bit_or (h r) (k r)) ∙ either_bit (list_any p (take i xs)) (p (get_or xs i d)) ∙ ap bit (sym (list_any_more p xs i d lt))

pub placed_at : (v : List Entry) (xs : List Expr) (n : ℕ) (s : Bool) (i : ℕ) (d : Expr) → ArePlaced v xs n s → i < length xs → IsPlaced v (get_or xs i d) n s
placed_at v [] n s i d h lt = absurd (omega arith)
placed_at v (x ∷ xs) n s zero d h lt = h.0
placed_at v (x ∷ xs) n s (suc i) d h lt = placed_at v xs n s i d h.1 (omega arith)
