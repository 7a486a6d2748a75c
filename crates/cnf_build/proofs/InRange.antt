-- The clauses of a netlist speak of its variables alone.
use Rattle.std.proofs.Common.{◌≡◌, ℕ, zero, suc, ◌+◌, ◌<◌, ◌≤◌, Bool, true, false, List, [], ◌∷◌, ◌++◌, length, None, subst, arith}
use Rattle.std.specs.Prelude.{if◌then◌else◌}
use Rattle.std.specs.List.{All}
use Rattle.std.specs.Option.{option_to_list}
use Rattle.clause_check.specs.declared.literal.Lit.{Lit}
use Rattle.clause_check.specs.Clauses.{negated}
use Rattle.cnf_build.specs.Literals.{has_lit, tidy, tidy_from, tidied}
use Rattle.clause_check.specs.Clauses.{IsInRange}
use Rattle.cnf_build.specs.declared.gates.Gate.{Gate}
use Rattle.cnf_build.specs.declared.gates.Gate.TheVariants.{True, Free, And, Xor, Mux}
use Rattle.cnf_build.specs.Gates.{IsAfter, IsNet, Below, raw_clauses, clauses_from}
use Rattle.cnf_build.proofs.Nets.{Below-more, Below-append}

-- each of the clauses is below k
abbrev pub AllBelow : ℕ → List (List Lit) → Type 0
AllBelow k [] = Unit {0}
AllBelow k (c ∷ cs) = Below k c × AllBelow k cs

pub AllBelow-append : (k : ℕ) (cs ds : List (List Lit)) → AllBelow k cs → AllBelow k ds → AllBelow k (cs ++ ds)
AllBelow-append k [] ds a b = b
AllBelow-append k (c ∷ cs) ds a b = (a.0, AllBelow-append k cs ds a.1 b)

AllBelow-more : (k m : ℕ) (cs : List (List Lit)) → k ≤ m → AllBelow k cs → AllBelow m cs
AllBelow-more k m [] le a = tt
AllBelow-more k m (c ∷ cs) le a = (Below-more k m c le a.0, AllBelow-more k m cs le a.1)

-- a clause that is tidied has no other literals

tidy_below : (k : ℕ) (kept ls : List Lit) → Below k kept → Below k ls → AllBelow k (option_to_list (tidy_from kept ls))
tidy_below k kept [] a b = (a, tt)
tidy_below k kept (l ∷ ls) a b =
    by_tests (has_lit kept (negated l)) (has_lit kept l) (tidy_below k kept ls a b.1) (tidy_below k (kept ++ l ∷ []) ls (Below-append k kept (l ∷ []) a (b.0, tt)) b.1)
  where
    by_tests : (s t : Bool) → AllBelow k (option_to_list (tidy_from kept ls)) → AllBelow k (option_to_list (tidy_from (kept ++ l ∷ []) ls)) → AllBelow k (option_to_list (if s then None else (if t then tidy_from kept ls else tidy_from (kept ++ l ∷ []) ls)))
    by_tests true t p q = tt
    by_tests false true p q = p
    by_tests false false p q = q

tidied_below : (k : ℕ) (cs : List (List Lit)) → AllBelow k cs → AllBelow k (tidied cs)
tidied_below k [] a = tt
tidied_below k (c ∷ cs) a =
    AllBelow-append k (option_to_list (tidy c)) (tidied cs) (tidy_below k [] c tt a.0) (tidied_below k cs a.1)

raw_below : (k : ℕ) (g : Gate) → IsAfter k g → AllBelow (suc k) (raw_clauses k g)
raw_below k True a = ((omega arith, tt), tt)
raw_below k Free a = tt
raw_below k (And x y) a =
    let p : x.var < suc k = omega (arith, a.0) in
    let q : y.var < suc k = omega (arith, a.1) in
    let n : k < suc k = omega arith in
    ((n, (p, tt)), ((n, (q, tt)), ((n, (p, (q, tt))), tt)))
raw_below k (Xor x y) a =
    let p : x.var < suc k = omega (arith, a.0) in
    let q : y.var < suc k = omega (arith, a.1) in
    let n : k < suc k = omega arith in
    ((n, (p, (q, tt))), ((n, (p, (q, tt))), ((n, (p, (q, tt))), ((n, (p, (q, tt))), tt))))
raw_below k (Mux c x y) a =
    let r : c.var < suc k = omega (arith, a.0) in
    let p : x.var < suc k = omega (arith, a.1) in
    let q : y.var < suc k = omega (arith, a.2) in
    let n : k < suc k = omega arith in
    ((r, (n, (p, tt))), ((r, (n, (p, tt))), ((r, (n, (q, tt))), ((r, (n, (q, tt))), tt))))

pub clauses_below : (k : ℕ) (gs : List Gate) → IsNet k gs → AllBelow (k + length gs) (clauses_from k gs)
clauses_below k [] a = tt
clauses_below k (g ∷ gs) a =
    let e : suc k + length gs ≡ k + suc (length gs) = omega arith in
    let here = AllBelow-more (suc k) (k + suc (length gs)) (tidied (raw_clauses k g)) (omega arith) (tidied_below (suc k) (raw_clauses k g) (raw_below k g a.0)) in
    AllBelow-append (k + suc (length gs)) (tidied (raw_clauses k g)) (clauses_from (suc k) gs) here (subst (λ m. AllBelow m (clauses_from (suc k) gs)) e (clauses_below (suc k) gs a.1))

Below-all : (k : ℕ) (ls : List Lit) → Below k ls → IsInRange k ls
Below-all k [] b i d lt = absurd (omega arith)
Below-all k (l ∷ ls) b zero d lt = b.0
Below-all k (l ∷ ls) b (suc i) d lt = Below-all k ls b.1 i d (omega arith)

-- the same by index
pub in_range : (k : ℕ) (cs : List (List Lit)) → AllBelow k cs → All (IsInRange k) cs
in_range k [] a i d lt = absurd (omega arith)
in_range k (c ∷ cs) a zero d lt = Below-all k c a.0
in_range k (c ∷ cs) a (suc i) d lt = in_range k cs a.1 i d (omega arith)
