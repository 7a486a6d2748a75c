-- A netlist has a run for each choice of its free variables.
use Rattle.std.proofs.Common.{◌≡◌, ℕ, zero, suc, ◌<◌, ◌≤◌, Bool, List, [], ◌∷◌, ◌++◌, length, get_or, refl, sym, ap, ◌∙◌, subst, arith, length-append}
use Rattle.std.specs.Prelude.{not, if◌then◌else◌}
use Rattle.clause_check.specs.declared.literal.Lit.{Lit}
use Rattle.cnf_build.specs.Literals.{holds}
use Rattle.cnf_build.specs.declared.gates.Gate.{Gate}
use Rattle.cnf_build.specs.declared.gates.Gate.TheVariants.{True, Free, And, Xor, Mux}
use Rattle.cnf_build.specs.Gates.{Runs, Follows, gate_value, IsAfter, IsNet, IsFree}

-- the values so far, and the chosen ones after them
abbrev so_far : (ℕ → Bool) → List Bool → ℕ → Bool
so_far chosen vs v = get_or vs v (chosen v)

-- the values of the further gates
abbrev values_of : (ℕ → Bool) → List Bool → List Gate → List Bool
values_of chosen vs [] = vs
values_of chosen vs (g ∷ gs) = values_of chosen (vs ++ gate_value (so_far chosen vs) (length vs) g ∷ []) gs

get_or-front : (xs ys : List Bool) (i : ℕ) (d : Bool) → i < length xs → get_or (xs ++ ys) i d ≡ get_or xs i d
get_or-front [] ys i d lt = absurd (omega arith)
get_or-front (x ∷ xs) ys zero d lt = refl
get_or-front (x ∷ xs) ys (suc i) d lt = get_or-front xs ys i d (omega arith)

get_or-last : (xs : List Bool) (y d : Bool) → get_or (xs ++ y ∷ []) (length xs) d ≡ y
get_or-last [] y d = refl
get_or-last (x ∷ xs) y d = get_or-last xs y d

get_or-past : (xs : List Bool) (i : ℕ) (d : Bool) → length xs ≤ i → get_or xs i d ≡ d
get_or-past [] i d le = refl
get_or-past (x ∷ xs) zero d le = absurd (omega arith)
get_or-past (x ∷ xs) (suc i) d le = get_or-past xs i d (omega arith)

length-push : (xs : List Bool) (y : Bool) → length (xs ++ y ∷ []) ≡ suc (length xs)
length-push xs y = omega (arith, length-append xs (y ∷ []))

-- earlier values stay
stays : (chosen : ℕ → Bool) (vs : List Bool) (gs : List Gate) (i : ℕ) (d : Bool) → i < length vs → get_or (values_of chosen vs gs) i d ≡ get_or vs i d
stays chosen vs [] i d lt = refl
stays chosen vs (g ∷ gs) i d lt =
    let v = gate_value (so_far chosen vs) (length vs) g in
    stays chosen (vs ++ v ∷ []) gs i d (omega (arith, length-push vs v)) ∙ get_or-front vs (v ∷ []) i d lt

lit_same : (s t : ℕ → Bool) (k : ℕ) → ((i : ℕ) → i < k → s i ≡ t i) → (l : Lit) → l.var < k → holds s l ≡ holds t l
lit_same s t k h l p = ap (λ v. if l.negative then not v else v) (h l.var p)

-- a gate's value hangs on earlier variables alone
own_value : (s t : ℕ → Bool) (k : ℕ) (g : Gate) → IsAfter k g → ((i : ℕ) → i < k → s i ≡ t i) → t k ≡ gate_value s k g → t k ≡ gate_value t k g
own_value s t k True a h e = e
own_value s t k Free a h e = refl
own_value s t k (And a b) r h e = e ∙ rw (lit_same s t k h a r.0, lit_same s t k h b r.1) refl
own_value s t k (Xor a b) r h e = e ∙ rw (lit_same s t k h a r.0, lit_same s t k h b r.1) refl
own_value s t k (Mux c a b) r h e =
    e ∙ rw (lit_same s t k h c r.0, lit_same s t k h a r.1, lit_same s t k h b r.2) refl

free_value : (s : ℕ → Bool) (k : ℕ) (g : Gate) → IsFree g → gate_value s k g ≡ s k
free_value s k True f = absurd f
free_value s k Free f = refl
free_value s k (And a b) f = absurd f
free_value s k (Xor a b) f = absurd f
free_value s k (Mux c a b) f = absurd f

module _ (chosen : ℕ → Bool) where
  runs_from : (vs : List Bool) (gs : List Gate) → IsNet (length vs) gs → Runs (so_far chosen (values_of chosen vs gs)) (length vs) gs × Follows (so_far chosen (values_of chosen vs gs)) chosen (length vs) gs
  runs_from vs [] net = (tt, tt)
  runs_from vs (g ∷ gs) net =
      let k = length vs in
      let v = gate_value (so_far chosen vs) k g in
      let vs' = vs ++ v ∷ [] in
      let s = so_far chosen (values_of chosen vs' gs) in
      let long : length vs' ≡ suc k = length-push vs v in
      let at : s k ≡ v = stays chosen vs' gs k (chosen k) (omega arith) ∙ get_or-last vs v (chosen k) in
      let before : (i : ℕ) → i < k → so_far chosen vs i ≡ s i = λ i lt. sym (stays chosen vs' gs i (chosen i) (omega arith) ∙ get_or-front vs (v ∷ []) i (chosen i) lt) in
      let next : so_far chosen vs k ≡ chosen k = get_or-past vs k (chosen k) (omega arith) in
      let rest = runs_from vs' gs (subst (λ n. IsNet n gs) (sym long) net.1) in
      ((own_value (so_far chosen vs) s k g net.0 before at, subst (λ n. Runs s n gs) long rest.0), (λ f. at ∙ free_value (so_far chosen vs) k g f ∙ next, subst (λ n. Follows s chosen n gs) long rest.1))

  pub run_exists : (gs : List Gate) → IsNet 0 gs → (s : ℕ → Bool) × (Runs s 0 gs × Follows s chosen 0 gs)
  run_exists gs net = (so_far chosen (values_of chosen [] gs), runs_from [] gs net)
