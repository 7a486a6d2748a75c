use Rattle.std.proofs.Common.{length}
use Rattle.std.proofs.lemmas.Result.{err_from_is_err_and}
use Rattle.vlog_read.proofs.TextSteps.{token_faults, module_faults}
use Rattle.vlog_read.proofs.read.read_modules.Goals as goal

pub returns : goal.returns
returns c = record { ok = (_, c.in_ok-tokens.ensures.ok, rw c.as_slice.ensures.value at c.in_ok-list.ensures.ok); low = c.in_ok-list.ensures.low; err = tt; within = tt }

pub returns-in_err-tokens : goal.returns-in_err-tokens
returns-in_err-tokens c =
    let p = err_from_is_err_and c.from_residual.result c.from_residual.ensures.1 in
    rw (p.1, p.2) (record { ok = tt; low = tt; err = token_faults _ _ c.in_err-tokens.ensures.err; within = c.in_err-tokens.ensures.within })

pub returns-in_err-list : goal.returns-in_err-list
returns-in_err-list c =
    let p = err_from_is_err_and c.from_residual-in_err-list.result c.from_residual-in_err-list.ensures.1 in
    rw (p.1, p.2) (record {
      ok = tt;
      low = tt;
      err = module_faults _ _ c.in_ok-tokens.ensures.ok _ (rw c.as_slice.ensures.value at c.in_err-list.ensures.err);
      within = (rw c.as_slice.ensures.value at c.in_err-list.ensures.within) (length c.args.bytes.now) c.in_ok-tokens.ensures.placed;
    })
