-- An assignment as a list of values, and as a function of variables.
use Rattle.std.proofs.Common.{◌≡◌, ℕ, zero, suc, ◌+◌, ◌*◌, ◌<◌, Bool, true, false, List, [], ◌∷◌, length, get_or, Some, refl, sym, ap, ◌∙◌, subst, arith}
use Rattle.std.specs.Prelude.{not, ◌||◌, ◌&&◌, if◌then◌else◌, slice_get}
use Rattle.std.specs.List.{All}
use Rattle.std.proofs.lemmas.Option.{get_or_from_slice_get}
use Rattle.clause_check.specs.declared.literal.Lit.{Lit}
use Rattle.clause_check.specs.Clauses.{IsInRange}
use Rattle.clause_check.specs.Derivations.{Satisfies}
use Rattle.cnf_build.specs.Literals.{holds, some_holds, all_hold}
use Rattle.cnf_build.specs.Circuits.{bit}
use Rattle.cnf_build.specs.Meaning.{read_word, read_words}
use Rattle.cnf_build.specs.Built.{IsBits, at}

or_right : (a b : Bool) → b ≡ true → (a || b) ≡ true
or_right true b e = refl
or_right false b e = e

and_both : (a b : Bool) → a ≡ true → b ≡ true → (a && b) ≡ true
and_both true b e f = f
and_both false b e f = e

and_parts : (a b : Bool) → (a && b) ≡ true → (a ≡ true) × (b ≡ true)
and_parts true b e = (refl, e)
and_parts false b e = cc

lit_holds : (a : List Bool) (l : Lit) → slice_get a l.var ≡ Some (not l.negative) → holds (at a) l ≡ true
lit_holds a l e = by_sign l.negative (at a l.var) (get_or_from_slice_get a l.var (not l.negative) false e)
  where
    by_sign : (n v : Bool) → v ≡ not n → (if n then not v else v) ≡ true
    by_sign true v e = ap not e
    by_sign false v e = e

some_from : (a : List Bool) (c : List Lit) (k : ℕ) (x : Lit) → k < length c → get_or c k x ≡ x → slice_get a x.var ≡ Some (not x.negative) → some_holds (at a) c ≡ true
some_from a [] k x lt e h = absurd (omega arith)
some_from a (l ∷ ls) zero x lt e h =
    ap (λ b. b || some_holds (at a) ls) (subst (λ m. holds (at a) m ≡ true) (sym e) (lit_holds a x h))
some_from a (l ∷ ls) (suc k) x lt e h =
    or_right (holds (at a) l) (some_holds (at a) ls) (some_from a ls k x (omega arith) e h)

-- each clause has a true literal
pub all_true : (a : List Bool) (cs : List (List Lit)) → All (Satisfies a) cs → all_hold (at a) cs ≡ true
all_true a [] h = refl
all_true a (c ∷ cs) h =
    let x : Satisfies a c = h 0 [] (omega arith) in
    and_both (some_holds (at a) c) (all_hold (at a) cs) (some_from a c x.0 x.1 x.2 x.3 x.4) (all_true a cs (λ k d lt. h (suc k) d (omega arith)))

lit_shown : (a : List Bool) (s : ℕ → Bool) (l : Lit) → slice_get a l.var ≡ Some (s l.var) → holds s l ≡ true → slice_get a l.var ≡ Some (not l.negative)
lit_shown a s l e h = e ∙ ap Some (by_sign l.negative (s l.var) h)
  where
    by_sign : (n v : Bool) → (if n then not v else v) ≡ true → v ≡ not n
    by_sign true true h = cc
    by_sign true false h = refl
    by_sign false v h = h

-- the list has the function's values
module _ (a : List Bool) (s : ℕ → Bool) (vars : ℕ) (is : (v : ℕ) → v < vars → slice_get a v ≡ Some (s v)) where
  some_shown : (c : List Lit) → IsInRange vars c → some_holds s c ≡ true → Satisfies a c
  some_shown [] r h = cc
  some_shown (l ∷ ls) r h = by_first (holds s l) refl h (some_shown ls (λ k d lt. r (suc k) d (omega arith)))
    where
      by_first : (b : Bool) → holds s l ≡ b → (b || some_holds s ls) ≡ true → (some_holds s ls ≡ true → Satisfies a ls) → Satisfies a (l ∷ ls)
      by_first true e h rest = (0, l, omega arith, refl, lit_shown a s l (is l.var (r 0 l (omega arith))) e)
      by_first false e h rest = let x = rest h in (suc x.0, x.1, omega (arith, x.2), x.3, x.4)

  pub all_shown : (cs : List (List Lit)) → All (IsInRange vars) cs → all_hold s cs ≡ true → All (Satisfies a) cs
  all_shown [] r h k d lt = absurd (omega arith)
  all_shown (c ∷ cs) r h zero d lt =
      some_shown c (r 0 [] (omega arith)) (and_parts (some_holds s c) (all_hold s cs) h).0
  all_shown (c ∷ cs) r h (suc k) d lt =
      all_shown cs (λ j e j_lt. r (suc j) e (omega arith)) (and_parts (some_holds s c) (all_hold s cs) h).1 k d (omega arith)

  word_read : (vs : List ℕ) → All (λ v. v < vars) vs → read_word (at a) vs ≡ read_word s vs
  word_read [] r = refl
  word_read (v ∷ vs) r =
      let here : at a v ≡ s v = get_or_from_slice_get a v (s v) false (is v (r 0 v (omega arith))) in
      let rest = word_read vs (λ k d lt. r (suc k) d (omega arith)) in
      ap (λ b. bit b + 2 * read_word (at a) vs) here ∙ ap (λ k. bit (s v) + 2 * k) rest

  pub words_read : (fs : List (List ℕ)) → All (IsBits vars) fs → read_words (at a) fs ≡ read_words s fs
  words_read [] r = refl
  words_read (vs ∷ fs) r =
      let here : IsBits vars vs = r 0 [] (omega arith) in
      ap (λ k. k ∷ read_words (at a) fs) (word_read vs here.2) ∙ ap (λ k. read_word s vs ∷ k) (words_read fs (λ k d lt. r (suc k) d (omega arith)))

-- the values of w variables from n on
abbrev pub values_from : (ℕ → Bool) → ℕ → ℕ → List Bool
values_from s n zero = []
values_from s n (suc w) = s n ∷ values_from s (suc n) w

pub length-values_from : (s : ℕ → Bool) (n w : ℕ) → length (values_from s n w) ≡ w
length-values_from s n zero = refl
length-values_from s n (suc w) = ap suc (length-values_from s (suc n) w)

pub values_from_at : (s : ℕ → Bool) (n w j : ℕ) → j < w → slice_get (values_from s n w) j ≡ Some (s (n + j))
values_from_at s n zero j lt = absurd (omega arith)
values_from_at s n (suc w) zero lt = let e : n ≡ n + 0 = omega arith in ap (λ k. Some (s k)) e
values_from_at s n (suc w) (suc j) lt =
    let e : suc n + j ≡ n + suc j = omega arith in
    values_from_at s (suc n) w j (omega arith) ∙ ap (λ k. Some (s k)) e
