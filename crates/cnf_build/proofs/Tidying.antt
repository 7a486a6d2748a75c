-- Loops over literals.
use Rattle.std.proofs.Common.{◌≡◌, ℕ, zero, suc, ◌+◌, ◌<◌, ◌≤◌, Bool, true, false, List, [], ◌∷◌, ◌++◌, length, drop, get_or, Some, None, refl, sym, ap, ◌∙◌, subst, arith, add-one}
use Rattle.std.specs.Prelude.{not, ◌||◌, ◌&&◌, ◌==◌, ◌≢◌, if◌then◌else◌}
use Rattle.std.proofs.Math.Seq.{drop-cons}
use Rattle.clause_check.specs.declared.literal.Lit.{Lit}
use Rattle.clause_check.specs.Clauses.{negated, IsClause}
use Rattle.cnf_build.specs.Literals.{same_lit, has_lit, tidy, tidy_from}
use Rattle.std.proofs.lemmas.List.Quantifiers.{all_pairs_push}
use Rattle.std.proofs.lemmas.Bool.Decides.{nat_tests}

drop_all : (xs : List Lit) (i : ℕ) → length xs ≤ i → drop i xs ≡ []
drop_all [] zero le = refl
drop_all [] (suc i) le = refl
drop_all (x ∷ xs) zero le = absurd (omega arith)
drop_all (x ∷ xs) (suc i) le = drop_all xs i (omega arith)

drop_at : (xs : List Lit) (i : ℕ) (d : Lit) → i < length xs → drop i xs ≡ get_or xs i d ∷ drop (i + 1) xs
drop_at xs i d lt = rw add-one (drop-cons xs i d lt)

-- the literal was not among those before i
pub record HasLoop (lits : List Lit) (lit : Lit) (i : ℕ) : Type 0 where
  pub so_far : has_lit (drop i lits) lit ≡ has_lit lits lit

pub has_found : (lits : List Lit) (lit : Lit) (i : ℕ) (d : Lit) → i < length lits → same_lit (get_or lits i d) lit ≡ true → HasLoop lits lit i → true ≡ has_lit lits lit
has_found lits lit i d lt e r =
    sym (ap (λ k. has_lit k lit) (drop_at lits i d lt) ∙ ap (λ b. b || has_lit (drop (i + 1) lits) lit) e) ∙ r.so_far

pub has_step : (lits : List Lit) (lit : Lit) (i : ℕ) (d : Lit) → i < length lits → same_lit (get_or lits i d) lit ≡ false → HasLoop lits lit i → HasLoop lits lit (i + 1)
has_step lits lit i d lt e r =
    record { so_far = sym (ap (λ k. has_lit k lit) (drop_at lits i d lt) ∙ ap (λ b. b || has_lit (drop (i + 1) lits) lit) e) ∙ r.so_far }

pub has_end : (lits : List Lit) (lit : Lit) (i : ℕ) → length lits ≤ i → HasLoop lits lit i → false ≡ has_lit lits lit
has_end lits lit i le r = sym (ap (λ k. has_lit k lit) (drop_all lits i le)) ∙ r.so_far

both_false : (a b : Bool) → (a || b) ≡ false → (a ≡ false) × (b ≡ false)
both_false true b e = cc
both_false false b e = (refl, e)

-- a literal and its negation are the literals of its variable
clash : (m l : Lit) → m.var ≡ l.var → same_lit m (negated l) ≡ false → same_lit m l ≡ false → ⊥
clash m l e = by_signs (m.var == l.var) m.negative l.negative (grind (arith, nat_tests))
  where
    by_signs : (t a b : Bool) → t ≡ true → (t && (if a then not b else not (not b))) ≡ false → (t && (if a then b else not b)) ≡ false → ⊥
    by_signs false a b h p q = cc
    by_signs true true true h p q = cc
    by_signs true true false h p q = cc
    by_signs true false true h p q = cc
    by_signs true false false h p q = cc

-- no literal that is kept is of the variable of one that is not kept, nor its negation
apart : (kept : List Lit) (l : Lit) → has_lit kept (negated l) ≡ false → has_lit kept l ≡ false → (k : ℕ) (d : Lit) → k < length kept → (get_or kept k d).var ≢ l.var
apart [] l p q k d lt e = absurd (omega arith)
apart (m ∷ ms) l p q zero d lt e =
    clash m l e (both_false (same_lit m (negated l)) (has_lit ms (negated l)) p).0 (both_false (same_lit m l) (has_lit ms l) q).0
apart (m ∷ ms) l p q (suc k) d lt e =
    apart ms l (both_false (same_lit m (negated l)) (has_lit ms (negated l)) p).1 (both_false (same_lit m l) (has_lit ms l) q).1 k d (omega arith) e

-- the clause of what is kept and of the literals from i on
pub record TidyLoop (kept lits : List Lit) (i : ℕ) : Type 0 where
  pub so_far : tidy_from kept (drop i lits) ≡ tidy lits
  pub distinct : IsClause kept

tidy_at : (kept lits : List Lit) (i : ℕ) (d : Lit) → i < length lits → TidyLoop kept lits i → (if has_lit kept (negated (get_or lits i d)) then None else (if has_lit kept (get_or lits i d) then tidy_from kept (drop (i + 1) lits) else tidy_from (kept ++ get_or lits i d ∷ []) (drop (i + 1) lits))) ≡ tidy lits
tidy_at kept lits i d lt r = sym (ap (tidy_from kept) (drop_at lits i d lt)) ∙ r.so_far

pub tidy_clash : (kept lits : List Lit) (i : ℕ) (d : Lit) → i < length lits → has_lit kept (negated (get_or lits i d)) ≡ true → TidyLoop kept lits i → None ≡ tidy lits
tidy_clash kept lits i d lt e r =
    sym (ap (λ b. if b then None else (if has_lit kept (get_or lits i d) then tidy_from kept (drop (i + 1) lits) else tidy_from (kept ++ get_or lits i d ∷ []) (drop (i + 1) lits))) e) ∙ tidy_at kept lits i d lt r

pub tidy_again : (kept lits : List Lit) (i : ℕ) (d : Lit) → i < length lits → has_lit kept (negated (get_or lits i d)) ≡ false → has_lit kept (get_or lits i d) ≡ true → TidyLoop kept lits i → TidyLoop kept lits (i + 1)
tidy_again kept lits i d lt e f r = record {
  so_far = sym (ap (λ b. if b then None else (if has_lit kept (get_or lits i d) then tidy_from kept (drop (i + 1) lits) else tidy_from (kept ++ get_or lits i d ∷ []) (drop (i + 1) lits))) e ∙ ap (λ b. if b then tidy_from kept (drop (i + 1) lits) else tidy_from (kept ++ get_or lits i d ∷ []) (drop (i + 1) lits)) f) ∙ tidy_at kept lits i d lt r;
  distinct = r.distinct;
}

pub tidy_new : (kept lits more : List Lit) (i : ℕ) (d : Lit) → i < length lits → has_lit kept (negated (get_or lits i d)) ≡ false → has_lit kept (get_or lits i d) ≡ false → more ≡ kept ++ get_or lits i d ∷ [] → TidyLoop kept lits i → TidyLoop more lits (i + 1)
tidy_new kept lits more i d lt e f em r = record {
  so_far = ap (λ k. tidy_from k (drop (i + 1) lits)) em ∙ sym (ap (λ b. if b then None else (if has_lit kept (get_or lits i d) then tidy_from kept (drop (i + 1) lits) else tidy_from (kept ++ get_or lits i d ∷ []) (drop (i + 1) lits))) e ∙ ap (λ b. if b then tidy_from kept (drop (i + 1) lits) else tidy_from (kept ++ get_or lits i d ∷ []) (drop (i + 1) lits)) f) ∙ tidy_at kept lits i d lt r;
  distinct = subst IsClause (sym em) (all_pairs_push (λ (l m : Lit). l.var ≢ m.var) kept (get_or lits i d) r.distinct (λ k x k_lt. apart kept (get_or lits i d) e f k x k_lt));
}

pub tidy_end : (kept lits : List Lit) (i : ℕ) → length lits ≤ i → TidyLoop kept lits i → Some kept ≡ tidy lits
tidy_end kept lits i le r = sym (ap (tidy_from kept) (drop_all lits i le)) ∙ r.so_far
