-- The loop over gates.
use Rattle.std.proofs.Common.{◌≡◌, ℕ, zero, suc, ◌+◌, ◌<◌, ◌≤◌, List, [], ◌∷◌, ◌++◌, length, drop, get_or, refl, sym, ap, ◌∙◌, arith, add-one, append_assoc}
use Rattle.std.proofs.Math.Seq.{drop-cons}
use Rattle.clause_check.specs.declared.literal.Lit.{Lit}
use Rattle.cnf_build.specs.Literals.{tidied}
use Rattle.cnf_build.specs.declared.gates.Gate.{Gate}
use Rattle.cnf_build.specs.Gates.{raw_clauses, clauses_from}
use Rattle.cnf_build.proofs.Joined.{append_nil}

pub record ClauseLoop (clauses : List (List Lit)) (gates : List Gate) (i : ℕ) : Type 0 where
  pub so_far : clauses ++ clauses_from i (drop i gates) ≡ clauses_from 0 gates

pub clause_step : (clauses more : List (List Lit)) (gates : List Gate) (i : ℕ) (g : Gate) → i < length gates → g ≡ get_or gates i g → more ≡ clauses ++ tidied (raw_clauses i g) → ClauseLoop clauses gates i → ClauseLoop more gates (i + 1)
clause_step clauses more gates i g lt e em r =
    let at : drop i gates ≡ g ∷ drop (suc i) gates = drop-cons gates i g lt ∙ ap (λ k. k ∷ drop (suc i) gates) (sym e) in
    let here = tidied (raw_clauses i g) in
    let rest = clauses_from (suc i) (drop (suc i) gates) in
    record { so_far = rw add-one (ap (λ k. k ++ rest) em ∙ append_assoc clauses here rest ∙ sym (ap (λ k. clauses ++ clauses_from i k) at) ∙ r.so_far) }

drop_all : (xs : List Gate) (i : ℕ) → length xs ≤ i → drop i xs ≡ []
drop_all [] zero le = refl
drop_all [] (suc i) le = refl
drop_all (x ∷ xs) zero le = absurd (omega arith)
drop_all (x ∷ xs) (suc i) le = drop_all xs i (omega arith)

pub clause_end : (clauses : List (List Lit)) (gates : List Gate) (i : ℕ) → length gates ≤ i → ClauseLoop clauses gates i → clauses ≡ clauses_from 0 gates
clause_end clauses gates i le r =
    sym (append_nil clauses) ∙ sym (ap (λ k. clauses ++ clauses_from i k) (drop_all gates i le)) ∙ r.so_far
