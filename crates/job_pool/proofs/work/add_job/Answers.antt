use Rattle.std.proofs.Common.{rules}
use Rattle.std.proofs.lemmas.Option.{slice_get_read}
use Rattle.job_pool.proofs.work.add_job.Goals as goal

pub returns : goal.returns
returns g c =
    let at = slice_get_read c.args.shift.now.elements.now _ c.args.number c.index-shift-number.result (search rules) c.requires.number c.index-shift-number.is in
    record {
      done = record { number = c.args.number; end = c.in_ok-end.end };
      its = search rules;
      goes = rw at (search rules);
      after_is = c.in_ok-push.ensures.items;
    }
