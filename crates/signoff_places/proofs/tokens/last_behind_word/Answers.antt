use Rattle.std.proofs.Common.{Some, drop, sym, ap, ◌∙◌, ◌+◌, arith}
use Rattle.std.specs.Option.{option_or, option_map, option_copied}
use Rattle.signoff_places.specs.Tokens.{last_where, begins_with_both}
use Rattle.signoff_places.proofs.Firsts.{last_found, last_later}
use Rattle.signoff_places.proofs.tokens.last_behind_word.Goals.{then-stand_both, else-stand_both}
use Rattle.signoff_places.proofs.tokens.last_behind_word.Goals as goal

pub loop-at-preserved : goal.loop-at-preserved
loop-at-preserved c =
    let holds = begins_with_both c.args.before.now c.args.word.now in
    let ts = c.args.tokens.now in
    let at = c.loop-at.at in
    elim c.if-stand_both.branch [
      | then-stand_both w ↦ rw w.last-is (
          ap (λ here. option_or (option_map (drop 1) (last_where holds (drop (at + 1) ts))) (Some here)) w.behind.ensures
          ∙ last_found holds ts at (drop 1) (option_copied c.loop-at.last) _ c.loop-at.invariant (omega arith) (sym c.stand_both.ensures ∙ w.if-stand_both.true))
      | else-stand_both w ↦ rw w.last-is (last_later holds ts at (drop 1) (option_copied c.loop-at.last) _ c.loop-at.invariant (omega arith) (sym c.stand_both.ensures ∙ w.if-stand_both.false))
    ]
