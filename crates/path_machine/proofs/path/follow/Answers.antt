use Rattle.std.proofs.Common.{◌∙◌, ap, arith, drop}
use Rattle.set_tree.specs.Formulas.{meaning_of}
use Rattle.path_machine.proofs.Walking.{ends_there, stuck_endless, stuck_unsplit, window_fits}
use Rattle.path_machine.proofs.path.follow.Goals as goal

pub end_of-requires-clause-window : goal.end_of-requires-clause-window
end_of-requires-clause-window c = window_fits c.args.set.now c.args.rows.now c.rows_from-here.result.now c.args.at.property c.args.at.start c.rows_from-here.ensures c.args.window c.requires.window c.requires.position c.requires.fits

pub returns-in_default : goal.returns-in_default
returns-in_default c = stuck_endless c.args.set.now c.args.rows.now c.rows_from-here.result.now c.args.at.property c.args.at.start c.rows_from-here.ensures (meaning_of c.args.set.now) c.in_ok-end.field-0 c.in_ok-end.ensures c.in_default.is

pub returns-then-end-room : goal.returns-then-end-room
returns-then-end-room c =
    ends_there c.args.set.now c.args.rows.now c.rows_from-here.result.now c.args.at.property c.args.at.start c.rows_from-here.ensures (meaning_of c.args.set.now) c.in_ok-end.field-0 c.in_ok-end.ensures c.in-Some.end c.args.window c.in-Some.is c.requires.window c.requires.fits
    (let past = c.if-end-room.true in let same = c.from-end.ensures in omega (arith, past, same))

pub returns-in-None : goal.returns-in-None
returns-in-None c =
    stuck_unsplit c.args.set.now c.args.rows.now c.rows_from-here.result.now c.args.at.property c.args.at.start c.rows_from-here.ensures (meaning_of c.args.set.now) c.in_ok-end.field-0 c.in_ok-end.ensures c.in-Some.end c.args.window c.in-Some.is c.requires.window c.requires.fits
    c.rows_from.result.now c.in_ok-next.next (let room = c.if-end-room.false in let same = c.from-end.ensures in omega (arith, room, same)) (c.rows_from.ensures ∙ ap (λ k. drop k c.rows_from-here.result.now) c.from-end.ensures) c.in_ok-next.ensures c.in-None.is
