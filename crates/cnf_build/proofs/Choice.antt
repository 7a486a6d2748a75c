-- The free variables' values that given words ask for.
use Rattle.std.proofs.Common.{◌≡◌, ℕ, zero, suc, ◌+◌, ◌*◌, ◌/◌, ◌%◌, ◌^◌, ◌<◌, ◌≤◌, Bool, true, false, List, [], ◌∷◌, ◌++◌, length, drop, refl, sym, ap, ◌∙◌, subst, arith}
use Rattle.std.specs.Prelude.{replicate, slice_index, if◌then◌else◌, ◌==◌}
use Rattle.std.proofs.Math.Nat.{pow-zero}
use Rattle.std.proofs.lemmas.Nat.{pow_pos, shr-shr}
use Rattle.std.proofs.lemmas.Bool.Decides.{nat_tests}
use Rattle.std.proofs.lemmas.List.{length-replicate}
use Rattle.clause_check.specs.declared.literal.Lit.{Lit}
use Rattle.cnf_build.specs.declared.gates.Gate.{Gate}
use Rattle.cnf_build.specs.declared.gates.Gate.TheVariants as Gates
use Rattle.cnf_build.specs.Gates.{Follows}
use Rattle.cnf_build.specs.Circuits.{bit}
use Rattle.cnf_build.proofs.Numbers.{twice}
use Rattle.cnf_build.proofs.Comparisons.{double_mod}
use Rattle.word_dag.specs.declared.node.Node.{Node}
use Rattle.word_dag.specs.declared.node.Node.TheVariants.{Free, Const, Two, Not, Slice, Zext, Sext, Mux}
use Rattle.cnf_build.specs.Lower.{node_made, lower, vars}
use Rattle.cnf_build.specs.Meaning.{read_word}
use Rattle.cnf_build.proofs.Nodes.{Agree, length-vars}

abbrev odd : ℕ → Bool
odd u = u % 2 == 1

bit_odd : (u : ℕ) → bit (odd u) ≡ u % 2
bit_odd u = by_test (odd u) (u % 2) refl (omega arith)
  where
    by_test : (t : Bool) (m : ℕ) → t ≡ (m == 1) → m < 2 → bit t ≡ m
    by_test true m e lt = let one : m ≡ 1 = grind (arith, nat_tests) in sym one
    by_test false m e lt = let none : m ≡ 0 = grind (arith, nat_tests) in sym none

-- the bit of u that the variable v has among these variables, or d
abbrev chosen_in : List ℕ → ℕ → ℕ → Bool → Bool
chosen_in [] u v d = d
chosen_in (x ∷ xs) u v d = if x == v then odd u else chosen_in xs (u / 2) v d

abbrev pub chosen_of : List (List ℕ) → List ℕ → ℕ → Bool
chosen_of [] us v = false
chosen_of (vs ∷ fs) us v = chosen_in vs (slice_index us 0) v (chosen_of fs (drop 1 us) v)

chosen_at : (n w u j : ℕ) (d : Bool) → j < w → chosen_in (vars n w) u (n + j) d ≡ odd (u / 2 ^ j)
chosen_at n zero u j d lt = absurd (omega arith)
chosen_at n (suc w) u zero d lt =
    let hit : (n == n + 0) ≡ true = grind (arith, nat_tests) in
    let whole : u ≡ u / 2 ^ 0 = omega (arith, pow-zero 2) in
    ap (λ t. if t then odd u else chosen_in (vars (suc n) w) (u / 2) (n + 0) d) hit ∙ ap odd whole
chosen_at n (suc w) u (suc j) d lt =
    let miss : (n == n + suc j) ≡ false = grind (arith, nat_tests) in
    let e : n + suc j ≡ suc n + j = omega arith in
    let half : u / 2 / 2 ^ j ≡ u / 2 ^ suc j = shr-shr u 1 j ∙ ap (λ k. u / 2 ^ k) (omega arith) in
    ap (λ t. if t then odd u else chosen_in (vars (suc n) w) (u / 2) (n + suc j) d) miss ∙ ap (λ v. chosen_in (vars (suc n) w) (u / 2) v d) e ∙ chosen_at (suc n) w (u / 2) j d (omega arith) ∙ ap odd half

chosen_past : (n w u v : ℕ) (d : Bool) → n + w ≤ v → chosen_in (vars n w) u v d ≡ d
chosen_past n zero u v d le = refl
chosen_past n (suc w) u v d le =
    let miss : (n == v) ≡ false = grind (arith, nat_tests) in
    ap (λ t. if t then odd u else chosen_in (vars (suc n) w) (u / 2) v d) miss ∙ chosen_past (suc n) w (u / 2) v d (omega arith)

Follows-front : (s c : ℕ → Bool) (k : ℕ) (xs ys : List Gate) → Follows s c k (xs ++ ys) → Follows s c k xs
Follows-front s c k [] ys f = tt
Follows-front s c k (x ∷ xs) ys f = (f.0, Follows-front s c (suc k) xs ys f.1)

Follows-back : (s c : ℕ → Bool) (k : ℕ) (xs ys : List Gate) → Follows s c k (xs ++ ys) → Follows s c (k + length xs) ys
Follows-back s c k [] ys f = let e : k ≡ k + 0 = omega arith in subst (λ n. Follows s c n ys) e f
Follows-back s c k (x ∷ xs) ys f =
    let e : suc k + length xs ≡ k + suc (length xs) = omega arith in
    subst (λ n. Follows s c n ys) e (Follows-back s c (suc k) xs ys f.1)

-- free variables that follow the bits of u read as u
follows_read : (s c : ℕ → Bool) (n w u : ℕ) → Follows s c n (replicate w Gates.Free) → ((j : ℕ) → j < w → c (n + j) ≡ odd (u / 2 ^ j)) → read_word s (vars n w) ≡ u % 2 ^ w
follows_read s c n zero u f h = omega (arith, pow-zero 2)
follows_read s c n (suc w) u f h =
    let here : c n ≡ odd u = ap c (omega arith) ∙ h 0 (omega arith) ∙ ap odd (omega (arith, pow-zero 2)) in
    let low : bit (s n) ≡ u % 2 = ap bit (f.0 tt ∙ here) ∙ bit_odd u in
    let later : (j : ℕ) → j < w → c (suc n + j) ≡ odd (u / 2 / 2 ^ j) = λ j lt. ap c (omega arith) ∙ h (suc j) (omega arith) ∙ ap odd (sym (shr-shr u 1 j ∙ ap (λ k. u / 2 ^ k) (omega arith))) in
    let rest = follows_read s c (suc n) w (u / 2) f.1 later in
    let whole : u % 2 + 2 * (u / 2) ≡ u = omega arith in
    let double = double_mod (u % 2) (u / 2) (2 ^ w) (omega arith) (pow_pos w) in
    let ends : (u % 2 + 2 * (u / 2)) % (2 * 2 ^ w) ≡ u % 2 ^ suc w = ap (λ k. k % (2 * 2 ^ w)) whole ∙ ap (λ k. u % k) (sym (twice w)) in
    omega (arith, low, rest, double, ends)

pub follows_agree : (s c : ℕ → Bool) (n : ℕ) (t : List (List Lit)) (us : List ℕ) (nodes : List Node) → ((v : ℕ) → n ≤ v → c v ≡ chosen_of (lower n t nodes).frees us v) → Follows s c n (lower n t nodes).gates → Agree s (lower n t nodes).frees us
follows_agree s c n t us [] h f = tt
follows_agree s c n t us (Free name w side cycle ∷ nodes) h f =
    let gs = replicate w Gates.Free in
    let m = node_made n t (Free name w side cycle) in
    let rest = lower (n + length gs) (t ++ m.lits ∷ []) nodes in
    let u = slice_index us 0 in
    let long : length gs ≡ w = length-replicate w Gates.Free in
    let others = λ (v : ℕ). chosen_of rest.frees (drop 1 us) v in
    let here : (j : ℕ) → j < w → c (n + j) ≡ odd (u / 2 ^ j) = λ j lt. h (n + j) (omega arith) ∙ chosen_at n w u j (others (n + j)) lt in
    let later : (v : ℕ) → n + length gs ≤ v → c v ≡ others v = λ v le. h v (omega arith) ∙ chosen_past n w u v (others v) (omega (arith, long)) in
    (follows_read s c n w u (Follows-front s c n gs rest.gates f) here ∙ ap (λ k. u % 2 ^ k) (sym (length-vars n w)), follows_agree s c (n + length gs) (t ++ m.lits ∷ []) (drop 1 us) nodes later (Follows-back s c n gs rest.gates f))
follows_agree s c n t us (Const w ∷ nodes) h f =
    let m = node_made n t (Const w) in
    let rest = lower (n + length m.gates) (t ++ m.lits ∷ []) nodes in
    follows_agree s c (n + length m.gates) (t ++ m.lits ∷ []) us nodes (λ v le. h v (omega arith)) (Follows-back s c n m.gates rest.gates f)
follows_agree s c n t us (Two op w a b ∷ nodes) h f =
    let m = node_made n t (Two op w a b) in
    let rest = lower (n + length m.gates) (t ++ m.lits ∷ []) nodes in
    follows_agree s c (n + length m.gates) (t ++ m.lits ∷ []) us nodes (λ v le. h v (omega arith)) (Follows-back s c n m.gates rest.gates f)
follows_agree s c n t us (Not w a ∷ nodes) h f =
    let m = node_made n t (Not w a) in
    let rest = lower (n + length m.gates) (t ++ m.lits ∷ []) nodes in
    follows_agree s c (n + length m.gates) (t ++ m.lits ∷ []) us nodes (λ v le. h v (omega arith)) (Follows-back s c n m.gates rest.gates f)
follows_agree s c n t us (Slice w a lo ∷ nodes) h f =
    let m = node_made n t (Slice w a lo) in
    let rest = lower (n + length m.gates) (t ++ m.lits ∷ []) nodes in
    follows_agree s c (n + length m.gates) (t ++ m.lits ∷ []) us nodes (λ v le. h v (omega arith)) (Follows-back s c n m.gates rest.gates f)
follows_agree s c n t us (Zext w a ∷ nodes) h f =
    let m = node_made n t (Zext w a) in
    let rest = lower (n + length m.gates) (t ++ m.lits ∷ []) nodes in
    follows_agree s c (n + length m.gates) (t ++ m.lits ∷ []) us nodes (λ v le. h v (omega arith)) (Follows-back s c n m.gates rest.gates f)
follows_agree s c n t us (Sext w a ∷ nodes) h f =
    let m = node_made n t (Sext w a) in
    let rest = lower (n + length m.gates) (t ++ m.lits ∷ []) nodes in
    follows_agree s c (n + length m.gates) (t ++ m.lits ∷ []) us nodes (λ v le. h v (omega arith)) (Follows-back s c n m.gates rest.gates f)
follows_agree s c n t us (Mux w x a b ∷ nodes) h f =
    let m = node_made n t (Mux w x a b) in
    let rest = lower (n + length m.gates) (t ++ m.lits ∷ []) nodes in
    follows_agree s c (n + length m.gates) (t ++ m.lits ∷ []) us nodes (λ v le. h v (omega arith)) (Follows-back s c n m.gates rest.gates f)
