-- What words say, word by word.
use Rattle.std.proofs.Common.{◌≡◌, ℕ, ◌+◌, ◌<◌, List, length, get_or, drop, map, sym, ap, ◌∙◌}
use Rattle.std.specs.Prelude.{option_and_then}
use Rattle.std.proofs.lemmas.List.{at_drop_more}
use Rattle.signoff_words.specs.Options.{Read, read, with_word}

-- the word at an index is the first of what is left there
pub read_step : {X : Type 0} (f : X → List ℕ) (words : List X) (i : ℕ) (w : X) (r : Read) → i < length words → w ≡ get_or words i w →
    read (map f (drop i words)) r ≡ option_and_then (read (map f (drop (i + 1) words))) (with_word (f w) r)
read_step f words i w r lt is =
    at_drop_more (λ xs. read (map f xs) r) words i w lt
    ∙ ap (λ x. option_and_then (read (map f (drop (i + 1) words))) (with_word (f x) r)) (sym is)
