use Rattle.std.proofs.Common.{◌∙◌}
use Rattle.desk_http_request.proofs.FewFields.{none_here}
use Rattle.desk_http_request.proofs.Judged.{judged_open}
use Rattle.desk_http_request.proofs.judge.judge.Goals as goal

pub returns-in-Err-TooManyHeaders-clause-judged : goal.returns-in-Err-TooManyHeaders-clause-judged
returns-in-Err-TooManyHeaders-clause-judged c =
    let over = rw c.requires at c.in-Err-TooManyHeaders.ensures.no_room in
    judged_open c.args.bytes.now c.parse_request.new.headers c.front_len-len.result.1 _ c.front_len-len.ensures.full c.unfinished-in-Err-TooManyHeaders.ensures
    (none_here c.args.bytes.now c.split_at.result.0.now (c.split_at.ensures.front ∙ c.front_len-len.ensures.front) over)
