-- Literals in which no variable stands twice are a clause as they stand.
use Rattle.std.proofs.Common.{◌≡◌, zero, suc, ◌<◌, Bool, true, false, List, [], ◌∷◌, ◌++◌, length, get_or, Some, None, refl, sym, ap, ◌∙◌, subst, arith, append_assoc, take, drop, ◌-◌}
use Rattle.std.specs.Prelude.{not, ◌||◌, ◌&&◌, ◌==◌, ◌≢◌, if◌then◌else◌, All}
use Rattle.std.proofs.lemmas.Bool.Decides.{nat_tests}
use Rattle.std.proofs.lemmas.List.Kept.{AllPairs-cons}
use Rattle.clause_check.specs.declared.literal.Lit.{Lit}
use Rattle.clause_check.specs.Clauses.{negated, IsClause}
use Rattle.cnf_build.specs.Literals.{same_lit, has_lit, tidy, tidy_from}

append_nil : (ls : List Lit) → ls ++ [] ≡ ls
append_nil [] = refl
append_nil (l ∷ ls) = ap (λ k. l ∷ k) (append_nil ls)

at_end : (ms ls : List Lit) (l d : Lit) → get_or (ms ++ l ∷ ls) (length ms) d ≡ l
at_end [] ls l d = refl
at_end (m ∷ ms) ls l d = at_end ms ls l d

longer : (ms ls : List Lit) (l : Lit) → length ms < length (ms ++ l ∷ ls)
longer [] ls l = omega arith
longer (m ∷ ms) ls l = let rest = longer ms ls l in omega (arith, rest)

pub clause_tail : (l : Lit) (ls : List Lit) → IsClause (l ∷ ls) → IsClause ls
clause_tail l ls c i j d lt within = c (suc i) (suc j) d (omega arith) (omega arith)

pub clause_head : (l : Lit) (ls : List Lit) → IsClause (l ∷ ls) → All (λ (m : Lit). l.var ≢ m.var) ls
clause_head l ls c j d within = c zero (suc j) d (omega arith) (omega arith)

pub clause_cons : (l : Lit) (ls : List Lit) → All (λ (m : Lit). l.var ≢ m.var) ls → IsClause ls → IsClause (l ∷ ls)
clause_cons l ls head tail = AllPairs-cons (λ (l m : Lit). l.var ≢ m.var) l ls head tail

-- literals of two variables differ
other : (m n : Lit) → m.var ≢ n.var → same_lit m n ≡ false
other m n e = by_test (m.var == n.var) refl
  where
    by_test : (t : Bool) → t ≡ (m.var == n.var) → (t && (if m.negative then n.negative else not n.negative)) ≡ false
    by_test true h = absurd (e (grind (arith, nat_tests)))
    by_test false h = refl

-- a literal of the next one's variable isn't among those before it
has_none : (kept : List Lit) (l : Lit) (ls : List Lit) (n : Lit) → n.var ≡ l.var → IsClause (kept ++ l ∷ ls) → has_lit kept n ≡ false
has_none [] l ls n e c = refl
has_none (m ∷ ms) l ls n e c =
    let far : m.var ≢ (get_or (ms ++ l ∷ ls) (length ms) l).var = clause_head m (ms ++ l ∷ ls) c (length ms) l (longer ms ls l) in
    let apart : m.var ≢ n.var = λ same. far (same ∙ e ∙ sym (ap (λ (k : Lit). k.var) (at_end ms ls l l))) in
    ap (λ b. b || has_lit ms n) (other m n apart) ∙ has_none ms l ls n e (clause_tail m (ms ++ l ∷ ls) c)

kept_whole : (kept ls : List Lit) → IsClause (kept ++ ls) → tidy_from kept ls ≡ Some (kept ++ ls)
kept_whole kept [] c = ap Some (sym (append_nil kept))
kept_whole kept (l ∷ ls) c =
    let moved : (kept ++ l ∷ []) ++ ls ≡ kept ++ l ∷ ls = append_assoc kept (l ∷ []) ls in
    ap (λ b. if b then None else (if has_lit kept l then tidy_from kept ls else tidy_from (kept ++ l ∷ []) ls)) (has_none kept l ls (negated l) refl c)
    ∙ ap (λ b. if b then tidy_from kept ls else tidy_from (kept ++ l ∷ []) ls) (has_none kept l ls l refl c)
    ∙ kept_whole (kept ++ l ∷ []) ls (subst IsClause (sym moved) c)
    ∙ ap Some moved

pub tidy_whole : (ls : List Lit) → IsClause ls → tidy ls ≡ Some ls
tidy_whole ls c = kept_whole [] ls c

take_all : (ls : List Lit) → take (length ls) ls ≡ ls
take_all [] = refl
take_all (l ∷ ls) = ap (λ k. l ∷ k) (take_all ls)

behind_first : (ls : List Lit) → take (suc (length ls) - 1) ls ≡ ls
behind_first ls = let all : suc (length ls) - 1 ≡ length ls = omega arith in ap (λ n. take n ls) all ∙ take_all ls

-- the literals behind the first
abbrev pub behind : List Lit → List Lit
behind ls = take (length ls - 1) (drop 1 ls)

-- the first one's variable is none of these
abbrev pub Apart : List Lit → Lit → Type 0
Apart ls d = All (λ (m : Lit). (get_or ls 0 d).var ≢ m.var) (behind ls)

pub clause_of : (ls : List Lit) (d : Lit) → 0 < length ls → Apart ls d → IsClause (behind ls) → IsClause ls
clause_of [] d lt apart rest = absurd (omega arith)
clause_of (l ∷ ls) d lt apart rest =
    clause_cons l ls (subst (λ k. All (λ (m : Lit). l.var ≢ m.var) k) (behind_first ls) apart) (subst IsClause (behind_first ls) rest)

pub parts_of : (ls : List Lit) (d : Lit) → 0 < length ls → IsClause ls → Apart ls d × IsClause (behind ls)
parts_of [] d lt c = absurd (omega arith)
parts_of (l ∷ ls) d lt c = (
  subst (λ k. All (λ (m : Lit). l.var ≢ m.var) k) (sym (behind_first ls)) (clause_head l ls c),
  subst IsClause (sym (behind_first ls)) (clause_tail l ls c),
)
