use Rattle.std.proofs.Common.{◌≡◌, ◌<◌, ◌≤◌, ◌+◌, ◌-◌, ℕ, List, [], ◌∷◌, ◌++◌, take, drop, get_or, length, arith, sym, ◌∙◌, ap, subst, inl, inr}
use Rattle.std.proofs.Math.Seq.{drop-append_seam}
use Rattle.std.proofs.lemmas.Bool.{cases_eq}
use Rattle.std.proofs.lemmas.List.{get_or_push, get_or_append_left, length_push, length-append, length-drop, drop-append-le, take-append-le, take_all}
use Rattle.clause_check.specs.declared.literal.Lit.{Lit}
use Rattle.clause_check.specs.Derivations.{IsClauseAt, clause_at}
use Rattle.cdcl.specs.Copying.{part_at, IsCopyOf, IsCopied}

slice_longer : (xs ys : List Lit) (a b : ℕ) → a ≤ b → b ≤ length xs → take (b - a) (drop a (xs ++ ys)) ≡ take (b - a) (drop a xs)
slice_longer xs ys a b le within =
    ap (take (b - a)) (drop-append-le a xs ys (omega arith))
    ∙ take-append-le (b - a) (drop a xs) ys (omega (arith, length-drop a xs))

slice_last : (xs ys : List Lit) → take (length (xs ++ ys) - length xs) (drop (length xs) (xs ++ ys)) ≡ ys
slice_last xs ys = ap (take (length (xs ++ ys) - length xs)) (drop-append_seam xs ys) ∙ take_all (length (xs ++ ys) - length xs) ys (omega (arith, length-append xs ys))

part_between : (lits : List Lit) (bounds : List ℕ) (k a b : ℕ) (x : List Lit) → get_or bounds k 0 ≡ a → get_or bounds (k + 1) 0 ≡ b → take (b - a) (drop a lits) ≡ x → part_at lits bounds k ≡ x
part_between lits bounds k a b x ha hb h = ap (λ n. take (get_or bounds (k + 1) 0 - n) (drop n lits)) ha ∙ (ap (λ n. take (n - a) (drop a lits)) hb ∙ h)

-- one clause stands as before where more are put after it
copy_longer : (vars : ℕ) (clauses : List (List Lit)) (lits : List Lit) (bounds : List ℕ) (more : List Lit) (end k : ℕ) → IsCopyOf vars clauses lits bounds k → IsCopyOf vars clauses (lits ++ more) (bounds ++ end ∷ []) k
copy_longer vars clauses lits bounds more end k c =
    let low : get_or (bounds ++ end ∷ []) k 0 ≡ get_or bounds k 0 = get_or_append_left bounds (end ∷ []) 0 k (omega (arith, c.known)) in
    let high : get_or (bounds ++ end ∷ []) (k + 1) 0 ≡ get_or bounds (k + 1) 0 = get_or_append_left bounds (end ∷ []) 0 (k + 1) c.known in
    record {
      known = omega (arith, c.known, length_push bounds end);
      ordered = omega (arith, c.ordered, low, high);
      within = omega (arith, c.within, high, length-append lits more);
      clause =
          subst (IsClauseAt vars clauses k)
          (sym (part_between (lits ++ more) (bounds ++ end ∷ []) k (get_or bounds k 0) (get_or bounds (k + 1) 0) (part_at lits bounds k) low high (slice_longer lits more (get_or bounds k 0) (get_or bounds (k + 1) 0) c.ordered c.within)))
          c.clause;
    }

-- the next clause is put after the others
pub copied_push : (vars : ℕ) (clauses : List (List Lit)) (count : ℕ) (lits : List Lit) (bounds : List ℕ) (clause : List Lit) → IsCopied vars clauses count lits bounds → IsClauseAt vars clauses count clause → IsCopied vars clauses (count + 1) (lits ++ clause) (bounds ++ length (lits ++ clause) ∷ [])
copied_push vars clauses count lits bounds clause c at =
    let end = length (lits ++ clause) in
    let low : get_or (bounds ++ end ∷ []) count 0 ≡ length lits = get_or_append_left bounds (end ∷ []) 0 count (omega (arith, c.len)) ∙ c.last in
    let high : get_or (bounds ++ end ∷ []) (count + 1) 0 ≡ end = get_or_push bounds end 0 (count + 1) c.len in
    record {
      len = omega (arith, length_push bounds end, c.len);
      last = high;
      each = λ k lt. elim (cases_eq k count) [
        | inl e ↦
            subst (IsCopyOf vars clauses (lits ++ clause) (bounds ++ end ∷ [])) (sym e)
            (record {
              known = omega (arith, length_push bounds end, c.len);
              ordered = omega (arith, low, high, length-append lits clause);
              within = omega (arith, high);
              clause = subst (IsClauseAt vars clauses count) (sym (part_between (lits ++ clause) (bounds ++ end ∷ []) count (length lits) end clause low high (slice_last lits clause))) at;
            })
        | inr ne ↦ copy_longer vars clauses lits bounds clause end k (c.each k (omega arith))
      ];
    }

-- the same clauses, and perhaps more of them
pub copied_among : (vars : ℕ) (clauses others : List (List Lit)) (count : ℕ) (lits : List Lit) (bounds : List ℕ) → length clauses ≤ length others → ((k : ℕ) → k < count → clause_at others k ≡ clause_at clauses k) → IsCopied vars clauses count lits bounds → IsCopied vars others count lits bounds
copied_among vars clauses others count lits bounds more same c =
    record {
      len = c.len;
      last = c.last;
      each = λ k lt.
          let x = c.each k lt in
          record {
            known = x.known;
            ordered = x.ordered;
            within = x.within;
            clause = record {
              known = omega (arith, x.clause.known, more);
              is = x.clause.is ∙ sym (same k lt);
              distinct = x.clause.distinct;
              in_range = x.clause.in_range;
            };
          };
    }

-- no clause
pub copied_none : (vars : ℕ) (clauses : List (List Lit)) (lits : List Lit) (bounds : List ℕ) → lits ≡ [] → bounds ≡ 0 ∷ [] → IsCopied vars clauses 0 lits bounds
copied_none vars clauses lits bounds hl hb =
    record {
      len = ap length hb;
      last = ap (λ (ns : List ℕ). get_or ns 0 0) hb ∙ sym (ap length hl);
      each = λ k lt. absurd (omega arith);
    }
