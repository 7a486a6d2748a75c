-- Loops over the bits of one word.
use Rattle.std.proofs.Common.{◌≡◌, ℕ, suc, ◌+◌, ◌-◌, ◌/◌, ◌%◌, ◌<◌, ◌≤◌, List, [], ◌∷◌, ◌++◌, length, refl, sym, ap, ◌∙◌, arith, append_assoc, length-append}
use Rattle.std.specs.Prelude.{replicate, ◌==◌, if◌then◌else◌}
use Rattle.clause_check.specs.declared.literal.Lit.{Lit}
use Rattle.cnf_build.specs.Literals.{plus}
use Rattle.cnf_build.specs.declared.gates.Gate.{Gate}
use Rattle.cnf_build.specs.declared.gates.Gate.TheVariants as Gates
use Rattle.cnf_build.specs.Circuits.{row, row_lits, const_lits, true_lit, false_lit}
use Rattle.cnf_build.specs.Building.{Makes}

append_nil : {A : Type 0} (xs : List A) → xs ++ [] ≡ xs
append_nil [] = refl
append_nil (x ∷ xs) = ap (λ r. x ∷ r) (append_nil xs)

-- a row of free variables, of which k are left
pub record FreeLoop (start gates : List Gate) (lits : List Lit) (width i : ℕ) : Type 0 where
  pub gates_so_far : gates ++ replicate (width - i) Gates.Free ≡ start ++ replicate width Gates.Free
  pub lits_so_far : lits ++ row_lits (length gates) (replicate (width - i) Gates.Free) ≡ row_lits (length start) (replicate width Gates.Free)

pub free_step : (start gates more : List Gate) (lits : List Lit) (l : Lit) (width i : ℕ) → i < width → more ≡ gates ++ Gates.Free ∷ [] → l ≡ plus (length gates) → FreeLoop start gates lits width i → FreeLoop start more (lits ++ l ∷ []) width (i + 1)
free_step start gates more lits l width i lt em el r =
    let k = width - (i + 1) in
    let e : width - i ≡ suc k = omega arith in
    let long : length more ≡ suc (length gates) = omega (arith, ap length em, length-append gates (Gates.Free ∷ [])) in
    let here : replicate (width - i) Gates.Free ≡ Gates.Free ∷ replicate k Gates.Free = ap (λ j. replicate j Gates.Free) e in
    record {
      gates_so_far = ap (λ g. g ++ replicate k Gates.Free) em ∙ append_assoc gates (Gates.Free ∷ []) (replicate k Gates.Free) ∙ sym (ap (λ g. gates ++ g) here) ∙ r.gates_so_far;
      lits_so_far = ap (λ g. (lits ++ g ∷ []) ++ row_lits (length more) (replicate k Gates.Free)) el ∙ ap (λ g. (lits ++ plus (length gates) ∷ []) ++ row_lits g (replicate k Gates.Free)) long ∙ append_assoc lits (plus (length gates) ∷ []) (row_lits (suc (length gates)) (replicate k Gates.Free)) ∙ sym (ap (λ g. lits ++ row_lits (length gates) g) here) ∙ r.lits_so_far;
    }

pub free_end : (start gates : List Gate) (lits : List Lit) (width i : ℕ) → width ≤ i → FreeLoop start gates lits width i → Makes start gates lits (row (length start) (replicate width Gates.Free))
free_end start gates lits width i le r =
    let e : width - i ≡ 0 = omega arith in
    let none : replicate (width - i) Gates.Free ≡ [] = ap (λ j. replicate j Gates.Free) e in
    record {
      gates = sym (append_nil gates) ∙ sym (ap (λ g. gates ++ g) none) ∙ r.gates_so_far;
      lits_are = sym (append_nil lits) ∙ sym (ap (λ g. lits ++ row_lits (length gates) g) none) ∙ r.lits_so_far;
    }

-- a constant, of whose bits those of rest are left
pub record ConstLoop (lits : List Lit) (rest width value i : ℕ) : Type 0 where
  pub so_far : lits ++ const_lits (width - i) rest ≡ const_lits width value

pub const_step : (lits more : List Lit) (rest width value i : ℕ) → i < width → more ≡ lits ++ (if rest % 2 == 1 then true_lit else false_lit) ∷ [] → ConstLoop lits rest width value i → ConstLoop more (rest / 2) width value (i + 1)
const_step lits more rest width value i lt em r =
    let k = width - (i + 1) in
    let e : width - i ≡ suc k = omega arith in
    let l = if rest % 2 == 1 then true_lit else false_lit in
    record { so_far = ap (λ g. g ++ const_lits k (rest / 2)) em ∙ append_assoc lits (l ∷ []) (const_lits k (rest / 2)) ∙ sym (ap (λ j. lits ++ const_lits j rest) e) ∙ r.so_far }

pub const_end : (lits : List Lit) (rest width value i : ℕ) → width ≤ i → ConstLoop lits rest width value i → lits ≡ const_lits width value
const_end lits rest width value i le r =
    let e : width - i ≡ 0 = omega arith in
    sym (append_nil lits) ∙ sym (ap (λ j. lits ++ const_lits j rest) e) ∙ r.so_far
