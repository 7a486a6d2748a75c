use Rattle.std.proofs.Common.{◌≡◌, drop}
use Rattle.std.specs.Option.{option_or, option_map, option_copied}
use Rattle.signoff_places.specs.Tokens.{last_where, begins_with_both}
use Rattle.signoff_places.proofs.tokens.last_behind_word.Given as goal

abbrev pub invariant-loop-at : goal.invariant-loop-at
invariant-loop-at l =
    option_or (option_map (drop 1) (last_where (begins_with_both l.before l.word) (drop l.at l.tokens))) (option_copied l.last)
    ≡ option_map (drop 1) (last_where (begins_with_both l.before l.word) l.tokens)
