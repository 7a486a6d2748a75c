use Rattle.std.proofs.Common.{◌≡◌, Global, map, arith}
use Rattle.std.specs.Prelude.{string_bytes}
use Rattle.signoff_words.specs.Commands.{command_of}
use Rattle.signoff_call.proofs.Answering.{delivered, delivered_7, is_read, no_7}
use Rattle.signoff_call.proofs.run.signoff.Goals as goal

pub returns-in-Ok-clause-read_fault : goal.returns-in-Ok-clause-read_fault
returns-in-Ok-clause-read_fault g c = λ is.
    let t = c.in-Ok.ensures.answer in
    is_read (g.F.Shelf.files c.args.shelf.now) (g.F.Shelf.faults c.args.shelf.now) (g.F.Shelf.faults c.answered.new.shelf) (command_of (map (string_bytes {Z = Global}) c.args.words.now)) t.0 _ _ c.in-Ok.answer t.1 t.2
    (delivered c.in-Ok.answer c.deliver.result (g.S.Sink.faults c.args.out.now) (g.S.Sink.faults c.deliver.new.out) (g.S.Sink.written c.args.out.now) (g.S.Sink.written c.deliver.new.out) 6
    (λ (no : 7 ≡ 6). omega (arith, no)) (λ (no : 70 ≡ 6). omega (arith, no)) c.deliver.ensures is)

pub returns-in-Ok-clause-sink_fault : goal.returns-in-Ok-clause-sink_fault
returns-in-Ok-clause-sink_fault g c = λ is.
    let t = c.in-Ok.ensures.answer in
    delivered_7 c.in-Ok.answer c.deliver.result (g.S.Sink.faults c.args.out.now) (g.S.Sink.faults c.deliver.new.out) (g.S.Sink.written c.args.out.now) (g.S.Sink.written c.deliver.new.out)
    (no_7 (command_of (map (string_bytes {Z = Global}) c.args.words.now)) t.0 _ _ c.in-Ok.answer t.2) c.deliver.ensures is
