use Rattle.std.proofs.Common.{◌-◌, length, sym, ◌∙◌, arith}
use Rattle.vlog_tree_values.proofs.WordNames.{no_digits, other_digit, one_digit, more_digits}
use Rattle.vlog_tree_values.proofs.names.+is_decimal.Goals as goal

pub returns-then-length-eq0 : goal.returns-then-length-eq0
returns-then-length-eq0 t c = no_digits _ _ c.ranges.number.fits (omega arith)

pub returns-then-from-number : goal.returns-then-from-number
returns-then-from-number t c =
    other_digit _ _ (length c.args.bytes.now - 1) c.ranges.number.fits (omega arith) (λ h. c.if-from-number.true (c.from.ensures ∙ h))

pub returns-then-number-lt10 : goal.returns-then-number-lt10
returns-then-number-lt10 t c =
    one_digit _ _ (length c.args.bytes.now - 1) (omega arith) (omega arith) (sym c.from.ensures ∙ c.if-from-number.false)

pub returns : goal.returns
returns t c =
    c.is_decimal.ensures ∙ more_digits _ _ (length c.args.bytes.now - 1) (omega arith) c.ranges.number.fits (omega arith) (sym c.from.ensures ∙ c.if-from-number.false)
