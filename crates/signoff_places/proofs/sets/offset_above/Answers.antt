use Rattle.std.proofs.Common.{sym, ap, ◌∙◌, arith}
use Rattle.std.specs.Prelude.{slice_get}
use Rattle.std.specs.Option.{option_map, option_and_then}
use Rattle.signoff_places.specs.Tokens.{byte_of}
use Rattle.signoff_places.specs.Sets.{begins_above}
use Rattle.signoff_places.proofs.Firsts.{first_found, first_later, first_none}
use Rattle.signoff_places.proofs.sets.offset_above.Goals as goal

pub returns-then-begins_above : goal.returns-then-begins_above
returns-then-begins_above c =
    c.byte_at.ensures
    ∙ ap (option_and_then (λ here. option_map byte_of (slice_get here 0)))
    (first_found (begins_above c.args.bound) c.args.tokens.now c.loop-at.at _ c.loop-at.invariant (omega arith) (sym c.begins_above.ensures ∙ c.if-begins_above.true))

pub loop-at-preserved : goal.loop-at-preserved
loop-at-preserved c = first_later (begins_above c.args.bound) c.args.tokens.now c.loop-at.at _ c.loop-at.invariant (sym c.begins_above.ensures ∙ c.if-begins_above.false)

pub returns : goal.returns
returns c = ap (option_and_then (λ here. option_map byte_of (slice_get here 0))) (first_none (begins_above c.args.bound) c.args.tokens.now c.loop-at.at _ c.loop-at.invariant (omega arith))
