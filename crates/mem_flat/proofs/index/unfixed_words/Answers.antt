use Rattle.std.proofs.Common.{sym, ◌∙◌}
use Rattle.std.proofs.lemmas.Result.{IfOk-weaker}
use Rattle.mem_flat.proofs.Indices.{none_named, all_named}
use Rattle.mem_flat.proofs.index.unfixed_words.Goals as goal

pub returns-then-is_constant : goal.returns-then-is_constant
returns-then-is_constant c = none_named c.args.depth c.args.index.now _ c.requires (sym c.is_constant.ensures ∙ c.if-is_constant.true) c.new.ensures

pub returns-else-is_constant : goal.returns-else-is_constant
returns-else-is_constant c =
    IfOk-weaker c.all_words.result _ _ (λ r h. all_named c.args.depth c.args.index.now r c.requires (sym c.is_constant.ensures ∙ c.if-is_constant.false) h) c.all_words.ensures
