use Rattle.std.proofs.Common.{Some, drop, sym, ap, ◌∙◌, arith}
use Rattle.std.specs.Option.{option_map}
use Rattle.signoff_places.specs.Tokens.{begins_with_both}
use Rattle.signoff_places.proofs.Firsts.{first_found, first_later, first_none}
use Rattle.signoff_places.proofs.tokens.behind_word.Goals as goal

pub returns-then-stand_both : goal.returns-then-stand_both
returns-then-stand_both c =
    ap Some c.behind.ensures
    ∙ ap (option_map (drop 1)) (first_found (begins_with_both c.args.before.now c.args.word.now) c.args.tokens.now c.loop-at.at _ c.loop-at.invariant (omega arith) (sym c.stand_both.ensures ∙ c.if-stand_both.true))

pub loop-at-preserved : goal.loop-at-preserved
loop-at-preserved c = first_later (begins_with_both c.args.before.now c.args.word.now) c.args.tokens.now c.loop-at.at _ c.loop-at.invariant (sym c.stand_both.ensures ∙ c.if-stand_both.false)

pub returns : goal.returns
returns c = ap (option_map (drop 1)) (first_none (begins_with_both c.args.before.now c.args.word.now) c.args.tokens.now c.loop-at.at _ c.loop-at.invariant (omega arith))
