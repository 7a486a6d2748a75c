use Rattle.std.proofs.Common.{◌≢◌, ◌<◌, List, ℕ, ◌∷◌, arith, ap, ◌∙◌, take, length, subst}
use Rattle.std.specs.List.{All}
use Rattle.std.proofs.lemmas.List.{take_all}
use Rattle.path_machine.specs.Rows.{split_words}
use Rattle.path_machine.proofs.Spelling.{rest_left, split_at, split_none}
use Rattle.path_machine.proofs.words.first_word.Goals as goal

pub returns-then-end-bytes : goal.returns-then-end-bytes
returns-then-end-bytes c =
    let text = c.args.bytes.now in
    let n = c.count_before-end.result in
    split_none text (subst (λ (cs : List ℕ). All (λ b. b ≢ 32) cs) (take_all n text (omega (arith, c.if-end-bytes.true))) c.count_before-end.ensures.none)

pub returns : goal.returns
returns c =
    let text = c.args.bytes.now in
    let n = c.count_before-end.result in
    let lt : n < length text = omega (arith, c.if-end-bytes.false, c.count_before-end.ensures.most) in
    split_at text n lt c.count_before-end.ensures.none (c.count_before-end.ensures.found lt) ∙ ap (λ (cs : List ℕ). take n text ∷ split_words cs) (rest_left text n)
