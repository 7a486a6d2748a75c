use Rattle.std.proofs.Common.{◌≡◌, ◌++◌, codes, ap, ◌∙◌}
use Rattle.std.specs.Prelude.{decimal}
use Rattle.vlog_tree.specs.declared.stmt.Lval.TheVariants as l
use Rattle.vlog_tree.specs.declared.stmt.Stmt.TheVariants as s
use Rattle.elab_flat_move.proofs.Pairs.{made}
use Rattle.mem_flat.proofs.spreader.Spreader.assigned_word.Goals as goal

pub returns : goal.returns
returns c =
    let n : c.in_ok-name.name ≡ c.args.name.now ++ codes "$" ++ decimal c.args.word =
    made _ _ _ c.in_ok-name.ensures.first c.word_text-name.ensures ∙ ap (λ t. t ++ codes "$" ++ decimal c.args.word) c.bytes.ensures in
    λ z. s.Nonblocking (l.Name (n z)) (made _ _ _ c.in_ok-name.ensures.second c.copied.ensures z)
