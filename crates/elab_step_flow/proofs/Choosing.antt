-- The signals of a list at some places.
use Rattle.std.proofs.Common.{◌≡◌, ℕ, zero, suc, ◌+◌, ◌<◌, ◌≤◌, inl, inr, List, [], ◌∷◌, ◌++◌, length, get_or, drop, append_assoc, Some, arith, refl, sym, ap, ◌∙◌, subst}
use Rattle.std.specs.List.{slice_get}
use Rattle.std.proofs.lemmas.List.{append-nil}
use Rattle.vlog_tree_runs.specs.declared.flat.Signal.{Signal}
use Rattle.vlog_tree_runs.specs.Places.{Name, Among}
use Rattle.elab_step_flow.specs.Own.{AreSignalsAt}
use Rattle.elab_step_flow.specs.Shows.{IsAt}
use Rattle.elab_step_flow.specs.Words.{IsSignalAt}
use Rattle.elab_step_flow.proofs.Marking.{cut, drop_past}
use Rattle.elab_step_flow.proofs.Setting.{among_signals, one_signal}

pub some_is : {A : Type 0} (x y : A) → Some x ≡ Some y → x ≡ y
some_is x y e = cc

-- ---- what stands at a place

pub got : (xs : List ℕ) (j m d : ℕ) → slice_get xs j ≡ Some m → get_or xs j d ≡ m
got [] j m d e = cc
got (x ∷ xs) zero m d e = some_is x m e
got (x ∷ xs) (suc j) m d e = got xs j m d e

pub got_lt : (xs : List ℕ) (j m : ℕ) → slice_get xs j ≡ Some m → j < length xs
got_lt [] j m e = cc
got_lt (x ∷ xs) zero m e = omega arith
got_lt (x ∷ xs) (suc j) m e = let h : j < length xs = got_lt xs j m e in omega arith

-- ---- signals of a list

pub signal_place : (gs : List Signal) (g : Signal) → Among gs g → (i : ℕ) × IsSignalAt gs i g
signal_place [] g m = absurd m
signal_place (k ∷ gs) g (inl e) = (0, e)
signal_place (k ∷ gs) g (inr m) = let r = signal_place gs g m in (suc r.0, r.1)

pub name_there : (gs : List Signal) (i : ℕ) (g : Signal) (x : Name) → IsSignalAt gs i g → g.name ≡ x → IsAt gs i x
name_there [] i g x a e = absurd a
name_there (k ∷ gs) zero g x a e = ap (λ (z : Signal). z.name) a ∙ e
name_there (k ∷ gs) (suc i) g x a e = name_there gs i g x a e

-- ---- signals at places

pub any_default : (xs : List ℕ) (i d e : ℕ) → i < length xs → get_or xs i d ≡ get_or xs i e
any_default [] i d e lt = absurd (omega arith)
any_default (x ∷ xs) zero d e lt = refl
any_default (x ∷ xs) (suc i) d e lt = any_default xs i d e (omega arith)

-- a copy of a signal
pub copied : (gs : List Signal) (place : ℕ) (g : Signal) (name : Name) → IsSignalAt gs place g → name ≡ g.name → IsSignalAt gs place (record g { name = name })
copied gs place g name a e = subst (λ z. IsSignalAt gs place z) (λ r. record g { name = sym e r }) a

module _ (gs : List Signal) where
  pub whole_place : (places : List ℕ) (hs : List Signal) → AreSignalsAt gs places hs → (j : ℕ) (x : Name) → IsAt hs j x → (m : ℕ) × (slice_get places j ≡ Some m) × IsAt gs m x
  whole_place [] [] t j x a = absurd a
  whole_place [] (h ∷ hs) t j x a = absurd t
  whole_place (i ∷ is) [] t j x a = absurd a
  whole_place (i ∷ is) (h ∷ hs) t zero x a = (i, refl, name_there gs i h x t.0 a)
  whole_place (i ∷ is) (h ∷ hs) t (suc j) x a = whole_place is hs t.1 j x a

  pub own_place : (places : List ℕ) (hs : List Signal) → AreSignalsAt gs places hs → (m : ℕ) (g : Signal) → Among places m → IsSignalAt gs m g → (j : ℕ) × IsSignalAt hs j g
  own_place [] hs t m g n a = absurd n
  own_place (i ∷ is) [] t m g n a = absurd t
  own_place (i ∷ is) (h ∷ hs) t m g (inl e) a = (0, one_signal gs m h g (subst (λ k. IsSignalAt gs k h) e t.0) a)
  own_place (i ∷ is) (h ∷ hs) t m g (inr n) a = let r = own_place is hs t.1 m g n a in (suc r.0, r.1)

  pub whole_signal : (places : List ℕ) (hs : List Signal) → AreSignalsAt gs places hs → (g : Signal) → Among hs g → Among gs g
  whole_signal places [] t g m = absurd m
  whole_signal [] (h ∷ hs) t g m = absurd t
  whole_signal (i ∷ is) (h ∷ hs) t g (inl e) = among_signals gs i g (subst (λ k. IsSignalAt gs i k) e t.0)
  whole_signal (i ∷ is) (h ∷ hs) t g (inr m) = whole_signal is hs t.1 g m

  -- with copies of the signals at the places that are left, they are those at all places
  abbrev pub Copied : List ℕ → List ℕ → List Signal → Type 0
  Copied places rest copies = (hs : List Signal) → AreSignalsAt gs rest hs → AreSignalsAt gs places (copies ++ hs)

  pub copied_next : (places : List ℕ) (i : ℕ) (g : Signal) (copies next : List Signal) → i < length places → IsSignalAt gs (get_or places i 0) g → next ≡ copies ++ g ∷ [] → Copied places (drop i places) copies
      → Copied places (drop (i + 1) places) next
  copied_next places i g copies next lt a put h hs t =
      let cut_here = cut places i (get_or places i 0) lt (any_default places i 0 (get_or places i 0) lt) in
      subst (λ z. AreSignalsAt gs places z) (sym (ap (λ xs. xs ++ hs) put ∙ append_assoc copies (g ∷ []) hs)) (h (g ∷ hs) (subst (λ z. AreSignalsAt gs z (g ∷ hs)) (sym cut_here) (a, t)))

  pub copied_end : (places : List ℕ) (i : ℕ) (copies : List Signal) → length places ≤ i → Copied places (drop i places) copies → AreSignalsAt gs places copies
  copied_end places i copies le h = subst (λ z. AreSignalsAt gs places z) (append-nil copies) (h [] (subst (λ z. AreSignalsAt gs z []) (sym (drop_past places i le)) tt))
