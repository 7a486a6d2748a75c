use Rattle.std.proofs.Common.{length, sym, ◌∙◌, ap, arith, decimal}
use Rattle.std.specs.Str.{bytes_eq}
use Rattle.vlog_tree_values.proofs.WordNames.{all_after, other_name, other_sign, word_digits}
use Rattle.vlog_tree_values.proofs.names.is_word_name.Goals as goal

pub returns-then-not-is_same : goal.returns-then-not-is_same
returns-then-not-is_same c = other_name c.args.bytes.now c.args.name.now (decimal c.args.index) (sym c.is_same.ensures ∙ c.if-not-is_same.true)

pub returns-then-bytes-split-ne36 : goal.returns-then-bytes-split-ne36
returns-then-bytes-split-ne36 c = other_sign c.args.bytes.now c.args.name.now (decimal c.args.index) (omega arith) c.if-bytes-split-ne36.true

pub returns : goal.returns
returns c =
    c.is_decimal.ensures ∙ ap (λ l. bytes_eq l (decimal c.args.index)) (all_after c.args.bytes.now (length c.args.name.now)) ∙ word_digits c.args.bytes.now c.args.name.now (decimal c.args.index) (omega arith) (sym c.is_same.ensures ∙ c.if-not-is_same.false) c.if-bytes-split-ne36.false
