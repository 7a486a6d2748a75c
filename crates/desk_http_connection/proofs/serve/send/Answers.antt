use Rattle.std.proofs.Common.{◌≡◌, length, take, arith, ◌∙◌}
use Rattle.std.proofs.lemmas.List.{take_all}
use Rattle.desk_http_connection.proofs.serve.send.Goals as goal

pub returns-in-Err-finish-clause-sends : goal.returns-in-Err-finish-clause-sends
returns-in-Err-finish-clause-sends g c =
    let whole : take (length c.args.bytes.now) c.args.bytes.now ≡ c.args.bytes.now = take_all _ _ (omega arith) in (
      grind (arith, c.in-Err-finish.ensures.failed, c.in-Ok.ensures.calm),
      (length c.args.bytes.now, rw whole (c.finish.ensures.same ∙ c.in-Ok.ensures.ok)),
    )
