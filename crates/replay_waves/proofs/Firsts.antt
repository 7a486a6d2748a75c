-- Registers with their first values, one after another.
use Rattle.std.proofs.Common.{◌≡◌, ◌<◌, ◌≤◌, ℕ, zero, suc, ◌+◌, List, [], ◌∷◌, ◌++◌, length, take, get_or, refl, sym, ap, ap₂, ◌∙◌, ◌⊎◌, ⊎_elim, arith}
use Rattle.elab_step_design.specs.declared.design.Register.{Register}
use Rattle.replay.specs.declared.shown.Start.{Start}
use Rattle.replay_waves.specs.declared.wave.First.{First}
use Rattle.replay_waves.specs.Lines.{firsts_of}

abbrev one : Register → Start → First
one r s = record { name = s.name; width = r.width; value = s.value }

-- one more
pub firsts_more : (rs : List Register) (ss : List Start) (i : ℕ) (r : Register) (s : Start) → i < length rs → i < length ss → r ≡ get_or rs i r → s ≡ get_or ss i s
    → firsts_of (take (suc i) rs) (take (suc i) ss) ≡ firsts_of (take i rs) (take i ss) ++ one r s ∷ []
firsts_more [] ss i r s there here at_r at_s = absurd (omega arith)
firsts_more (x ∷ rs) [] i r s there here at_r at_s = absurd (omega arith)
firsts_more (x ∷ rs) (y ∷ ss) zero r s there here at_r at_s = ap₂ (λ (a : Register) (b : Start). one a b ∷ []) (sym at_r) (sym at_s)
firsts_more (x ∷ rs) (y ∷ ss) (suc i) r s there here at_r at_s = ap (λ (fs : List First). one x y ∷ fs) (firsts_more rs ss i r s (omega (arith, there)) (omega (arith, here)) at_r at_s)

-- all of them
pub firsts_all : (rs : List Register) (ss : List Start) (i : ℕ) → length rs ≤ i → firsts_of (take i rs) (take i ss) ≡ firsts_of rs ss
firsts_all [] ss zero most = refl
firsts_all [] ss (suc i) most = refl
firsts_all (r ∷ rs) ss zero most = absurd (omega arith)
firsts_all (r ∷ rs) [] (suc i) most = refl
firsts_all (r ∷ rs) (s ∷ ss) (suc i) most = ap (λ (fs : List First). one r s ∷ fs) (firsts_all rs ss i (omega (arith, most)))

pub firsts_short : (rs : List Register) (ss : List Start) (i : ℕ) → length ss ≤ i → firsts_of (take i rs) (take i ss) ≡ firsts_of rs ss
firsts_short [] ss zero most = refl
firsts_short [] ss (suc i) most = refl
firsts_short (r ∷ rs) [] zero most = refl
firsts_short (r ∷ rs) (s ∷ ss) zero most = absurd (omega arith)
firsts_short (r ∷ rs) [] (suc i) most = refl
firsts_short (r ∷ rs) (s ∷ ss) (suc i) most = ap (λ (fs : List First). one r s ∷ fs) (firsts_short rs ss i (omega (arith, most)))

-- one more, as it is pushed
pub firsts_push : (rs : List Register) (ss : List Start) (i next : ℕ) (before after : List First) (r : Register) (s : Start) (first : First) → next ≡ i + 1 → i < length rs → i < length ss
    → r ≡ get_or rs i r → s ≡ get_or ss i s → before ≡ firsts_of (take i rs) (take i ss) → first ≡ one r s → after ≡ before ++ first ∷ [] → after ≡ firsts_of (take next rs) (take next ss)
firsts_push rs ss i next before after r s first is there here at_r at_s so_far is_one pushed =
    let up : next ≡ suc i = omega (arith, is) in
    pushed ∙ (ap₂ (λ (fs : List First) (f : First). fs ++ f ∷ []) so_far is_one ∙ (sym (firsts_more rs ss i r s there here at_r at_s) ∙ ap (λ (n : ℕ). firsts_of (take n rs) (take n ss)) (sym up)))

-- the shorter list is done
pub firsts_done : (rs : List Register) (ss : List Start) (i : ℕ) → (length rs ≤ i) ⊎ (length ss ≤ i) → firsts_of (take i rs) (take i ss) ≡ firsts_of rs ss
firsts_done rs ss i done = ⊎_elim (λ (h : length rs ≤ i). firsts_all rs ss i h) (λ (h : length ss ≤ i). firsts_short rs ss i h) done
