use Rattle.std.proofs.Common.{◌≡◌, ℕ, zero, suc, ◌+◌, ◌<◌, List, [], ◌∷◌, take, drop, length, refl, sym, ◌∙◌, ap, subst, arith}
use Rattle.set_tree.specs.declared.set.Set.{Set}
use Rattle.set_tree.specs.Meaning.{Row, Meaning, ReadsWithin}
use Rattle.set_tree.specs.Parts.{largest_window, input_values}
use Rattle.set_tree.specs.Traces.{IsDetermined, IsComplete, IsCompleteForever, prefix, SameInputs}
use Rattle.set_tree.specs.Structure.{IsSound}
use Rattle.set_tree_completeness.proofs.Complete.{domain_seen, value_of_seen}

length-prefix : (f : ℕ → Row) (n : ℕ) → length (prefix f n) ≡ n
length-prefix f zero = refl
length-prefix f (suc n) = ap suc (length-prefix (λ i. f (suc i)) n)

prefix_inputs : (set : Set) (f g : ℕ → Row) (n : ℕ) → ((t : ℕ) → input_values set.names (f t) ≡ input_values set.names (g t)) → SameInputs set (prefix f n) (prefix g n)
prefix_inputs set f g zero same = refl
prefix_inputs set f g (suc n) same =
    let here = same 0 in
    let rest = prefix_inputs set (λ i. f (suc i)) (λ i. g (suc i)) n (λ t. same (suc t)) in
    cc

take-prefix : (f : ℕ → Row) (t n : ℕ) → t < n → take 1 (drop t (prefix f n)) ≡ f t ∷ []
take-prefix f t zero h = absurd (omega arith)
take-prefix f zero (suc n) h = refl
take-prefix f (suc t) (suc n) h = take-prefix (λ i. f (suc i)) t n (omega arith)

pub complete_forever : (m : Meaning) (reads : ReadsWithin m) (set : Set) → IsSound m set → IsComplete m set → IsCompleteForever m set
complete_forever m reads set sound complete f g first second first_satisfies second_satisfies inputs o t output =
    let n : ℕ = suc (t + largest_window set) in
    let room : t + largest_window set < length (prefix f n) = omega (arith, length-prefix f n) in
    let d = complete (prefix f n) (prefix g n) (first n) (second n) (first_satisfies n) (second_satisfies n) (prefix_inputs set f g n inputs) o t output room in
    let one : IsDetermined m set o (take 1 (drop t (prefix f n))) (take 1 (drop t (prefix g n))) = record {
      domains = domain_seen m reads set sound o 0 0 (drop t (prefix f n)) (omega arith) ∙ (d.domains ∙ sym (domain_seen m reads set sound o 0 0 (drop t (prefix g n)) (omega arith)));
      values = λ within. value_of_seen m reads set sound o 0 0 (drop t (prefix f n)) (omega arith) ∙ (d.values (sym (domain_seen m reads set sound o 0 0 (drop t (prefix f n)) (omega arith)) ∙ within) ∙ sym (value_of_seen m reads set sound o 0 0 (drop t (prefix g n)) (omega arith)));
    } in
    subst (IsDetermined m set o (f t ∷ [])) (take-prefix g t n (omega arith)) (subst (λ (zs : List Row). IsDetermined m set o zs (take 1 (drop t (prefix g n)))) (take-prefix f t n (omega arith)) one)
