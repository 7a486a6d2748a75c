use Rattle.std.proofs.Common.{◌≡◌, None, sym, ap, ◌∙◌, length, replicate, rules}
use Rattle.elab_step_copies.proofs.Becoming.{nothing_made}
use Rattle.elab_step_copies.proofs.copier.Copier.new.Goals as goal

pub returns-clause-copies : goal.returns-clause-copies
returns-clause-copies c ls ns leaves words =
    let copies : c.in_ok-copies.copies.items ≡ replicate (length c.nodes-count.result.now) None = search rules in
    let count = ap length c.nodes-count.ensures.nodes in
    nothing_made _ ls ns c.nodes-count.ensures.fit (copies ∙ ap (λ n. replicate n None) count) (c.in_ok-readers.ensures.long ∙ count) c.in_ok-readers.ensures.empty (c.in_ok-words.ensures.long ∙ sym leaves) c.in_ok-words.ensures.empty words
