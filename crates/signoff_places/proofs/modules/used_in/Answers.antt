use Rattle.std.proofs.Common.{sym, ◌∙◌, arith}
use Rattle.signoff_places.specs.Modules.{is_use}
use Rattle.signoff_places.proofs.PreviousWords.{behind_found, behind_later, behind_none}
use Rattle.signoff_places.proofs.modules.used_in.Goals as goal

pub returns-then-is_use : goal.returns-then-is_use
returns-then-is_use c = behind_found (is_use c.args.name.now) c.args.body.now c.loop-at.at _ _ c.loop-at.invariant (omega arith) (sym c.is_use.ensures ∙ c.if-is_use.true)

pub loop-at-preserved : goal.loop-at-preserved
loop-at-preserved c = behind_later (is_use c.args.name.now) c.args.body.now c.loop-at.at _ _ c.loop-at.invariant _ c.word_at-previous.ensures (sym c.is_use.ensures ∙ c.if-is_use.false)

pub returns : goal.returns
returns c = behind_none (is_use c.args.name.now) c.args.body.now c.loop-at.at _ _ c.loop-at.invariant (omega arith)
