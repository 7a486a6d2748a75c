use Rattle.std.proofs.Common.{Global, Some, ap, refl, sym, map, ◌∙◌}
use Rattle.std.specs.Prelude.{string_bytes}
use Rattle.signoff_words.specs.declared.command.Command.{Command}
use Rattle.signoff_words.specs.Commands.{command_of}
use Rattle.desk_http.specs.Serving.{line, state, state_of}
use Rattle.signoff_call.specs.Run.{around}
use Rattle.signoff_call.proofs.Answering.{demo_ran, job_port, job_ran, leaves_all, leaves_job, move_port, move_ran}
use Rattle.signoff_call.proofs.run.answered.Goals as goal

-- where memory runs out early, all is as before
pub returns-in_err-command_in-clause-left : goal.returns-in_err-command_in-clause-left
returns-in_err-command_in-clause-left g c = leaves_all (g.F.Shelf.files c.args.shelf.now) (command_of (map (string_bytes {Z = Global}) c.args.words.now))
    (around (state_of g.K.Keeper.tables g.K.Keeper.faults g.H.Helper.asked c.args.checker.now) (line (g.P.Port.wire c.args.port.now) (g.P.Port.faults c.args.port.now)))

pub returns-in_err-read-in-Some-Texts-clause-left : goal.returns-in_err-read-in-Some-Texts-clause-left
returns-in_err-read-in-Some-Texts-clause-left g c = leaves_all (g.F.Shelf.files c.args.shelf.now) (command_of (map (string_bytes {Z = Global}) c.args.words.now))
    (around (state_of g.K.Keeper.tables g.K.Keeper.faults g.H.Helper.asked c.args.checker.now) (line (g.P.Port.wire c.args.port.now) (g.P.Port.faults c.args.port.now)))

pub returns-clause-answer : goal.returns-clause-answer
returns-clause-answer g c =
    let known = sym c.in_ok-command_in.ensures.is ∙ (c.in-Some-Migrate.is ∙ ap (λ (z : Command). Some z) c.in-Some-Migrate.field-0-is) in
    move_ran (g.F.Shelf.files c.args.shelf.now) (g.F.Shelf.faults c.args.shelf.now) (g.F.Shelf.faults c.args.shelf.now) (command_of (map (string_bytes {Z = Global}) c.args.words.now))
    (around (state_of g.K.Keeper.tables g.K.Keeper.faults g.H.Helper.asked c.args.checker.now) (line (g.P.Port.wire c.args.port.now) (g.P.Port.faults c.args.port.now)))
    (around (state (g.K.Keeper.tables c.moved.new.keeper) (g.K.Keeper.faults c.moved.new.keeper) (map g.H.Helper.asked c.args.checker.now.prover.helpers.now.items) c.args.checker.now.book.now) (line (g.P.Port.wire c.args.port.now) (g.P.Port.faults c.args.port.now)))
    c.moved.result c.in-Some-Migrate.field-0-0 known refl refl c.moved.ensures.answer

pub returns-clause-port : goal.returns-clause-port
returns-clause-port g c = move_port c.moved.result c.args.checker.now.book.now (g.K.Keeper.tables c.args.checker.now.prover.keeper.now) (g.K.Keeper.tables c.moved.new.keeper) _ c.moved.ensures.answer

pub returns-in-Some-Texts-clause-answer : goal.returns-in-Some-Texts-clause-answer
returns-in-Some-Texts-clause-answer g c =
    let known = sym c.in_ok-command_in.ensures.is ∙ (c.in-Some-Texts.is ∙ ap (λ (z : Command). Some z) c.in-Some-Texts.field-0-is) in
    job_ran (g.F.Shelf.files c.args.shelf.now) (g.F.Shelf.faults c.args.shelf.now) (g.F.Shelf.faults c.read_all.new.shelf) (command_of (map (string_bytes {Z = Global}) c.args.words.now))
    (around (state_of g.K.Keeper.tables g.K.Keeper.faults g.H.Helper.asked c.args.checker.now) (line (g.P.Port.wire c.args.port.now) (g.P.Port.faults c.args.port.now)))
    (around (state_of g.K.Keeper.tables g.K.Keeper.faults g.H.Helper.asked c.job_answer.new.checker) (line (g.P.Port.wire c.args.port.now) (g.P.Port.faults c.args.port.now)))
    c.job_answer.result c.in-Some-Texts.job c.in_ok-read-in-Some-Texts.read known c.in_ok-read-in-Some-Texts.ensures refl c.job_answer.ensures.answer

pub returns-in-Some-Demo-clause-answer : goal.returns-in-Some-Demo-clause-answer
returns-in-Some-Demo-clause-answer g c =
    let known = sym c.in_ok-command_in.ensures.is ∙ (c.in-Some-Demo.is ∙ ap (λ (z : Command). Some z) c.in-Some-Demo.field-0-is) in
    demo_ran (g.F.Shelf.files c.args.shelf.now) (g.F.Shelf.faults c.args.shelf.now) (g.F.Shelf.faults c.args.shelf.now) (command_of (map (string_bytes {Z = Global}) c.args.words.now))
    (around (state_of g.K.Keeper.tables g.K.Keeper.faults g.H.Helper.asked c.args.checker.now) (line (g.P.Port.wire c.args.port.now) (g.P.Port.faults c.args.port.now)))
    (around (state_of g.K.Keeper.tables g.K.Keeper.faults g.H.Helper.asked c.demonstrated.new.checker) (line (g.P.Port.wire c.args.port.now) (g.P.Port.faults c.args.port.now)))
    c.demonstrated.result c.in-Some-Demo.stages known refl refl c.demonstrated.ensures.answer

pub returns-in-Some-Texts-clause-left : goal.returns-in-Some-Texts-clause-left
returns-in-Some-Texts-clause-left g c =
    let known = sym c.in_ok-command_in.ensures.is ∙ (c.in-Some-Texts.is ∙ ap (λ (z : Command). Some z) c.in-Some-Texts.field-0-is) in
    leaves_job (g.F.Shelf.files c.args.shelf.now) (g.F.Shelf.faults c.args.shelf.now) (g.F.Shelf.faults c.read_all.new.shelf) (command_of (map (string_bytes {Z = Global}) c.args.words.now))
    c.in-Some-Texts.job c.in_ok-read-in-Some-Texts.read
    (around (state_of g.K.Keeper.tables g.K.Keeper.faults g.H.Helper.asked c.args.checker.now) (line (g.P.Port.wire c.args.port.now) (g.P.Port.faults c.args.port.now)))
    (around (state_of g.K.Keeper.tables g.K.Keeper.faults g.H.Helper.asked c.job_answer.new.checker) (line (g.P.Port.wire c.args.port.now) (g.P.Port.faults c.args.port.now)))
    known c.in_ok-read-in-Some-Texts.ensures c.job_answer.ensures.left

pub returns-in-Some-Texts-clause-port : goal.returns-in-Some-Texts-clause-port
returns-in-Some-Texts-clause-port g c = job_port c.job_answer.result c.in-Some-Texts.job c.in_ok-read-in-Some-Texts.read _ _ _ c.job_answer.ensures.answer
