-- The clause that goes on, one token on and at the end.
use Rattle.std.proofs.Common.{◌≡◌, ℕ, ◌+◌, ◌<◌, ◌≤◌, List, [], length, take, get_or, sym, ap, ◌∙◌}
use Rattle.std.specs.List.{fold}
use Rattle.std.proofs.lemmas.List.{take_all}
use Rattle.std.proofs.lemmas.List.Sums.{fold_more}
use Rattle.vlog_tree.specs.declared.token.Token.{Token}
use Rattle.signoff_places.specs.Sets.{clause_behind}

pub clause_next : (ts : List Token) (i : ℕ) (clause next : List ℕ) (t : Token) → i < length ts → clause ≡ fold clause_behind [] (take i ts) → t ≡ get_or ts i t → next ≡ clause_behind clause t →
    next ≡ fold clause_behind [] (take (i + 1) ts)
clause_next ts i clause next t lt so_far is next_is =
    next_is ∙ (ap (λ w. clause_behind w t) so_far ∙ (ap (clause_behind (fold clause_behind [] (take i ts))) is ∙ sym (fold_more clause_behind [] ts i t lt)))

pub clause_end : (ts : List Token) (i : ℕ) (clause : List ℕ) → length ts ≤ i → clause ≡ fold clause_behind [] (take i ts) → clause ≡ fold clause_behind [] ts
clause_end ts i clause le so_far = so_far ∙ ap (fold clause_behind []) (take_all i ts le)
