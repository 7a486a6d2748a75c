use Rattle.proof_store.specs.Goals.{ended}
use Rattle.desk_core_goals.proofs.Accepted.{alone_decided, put_adds}
use Rattle.desk_core_goals.proofs.Reading.{keeper_refused, too_large, unput}
use Rattle.desk_core_goals.proofs.keeping.keep_proof.Goals as goal

pub returns-in_err-keep-clause-err : goal.returns-in_err-keep-clause-err
returns-in_err-keep-clause-err g c =
    keeper_refused c.from_residual-in_err-keep.result c.args.bound.now c.args.name.now c.args.proof.now c.in_ok-proved.proved c.in_err-keep.field-0.0 c.in_ok-proved.ensures.ok c.from_residual-in_err-keep.ensures.1

pub book_of-requires : goal.book_of-requires
book_of-requires g c = (0, c.in_ok-proved.ensures.decided 0)

pub returns-in_err-book_of-clause-left : goal.returns-in_err-book_of-clause-left
returns-in_err-book_of-clause-left g c = put_adds c.args.bound.now c.args.name.now c.args.proof.now c.in_ok-proved.proved _ _ c.in_ok-proved.ensures.ok c.in_ok-keep.ensures.ok

pub returns-in_ok-book_of-clause-ok : goal.returns-in_ok-book_of-clause-ok
returns-in_ok-book_of-clause-ok g c = record {
  proved = c.in_ok-proved.proved;
  is_proved = c.in_ok-proved.ensures.ok;
  may = c.in_ok-keep.ensures.kept.0 c.if-branch.true;
  put = c.in_ok-keep.ensures.ok;
  told = c.in_ok-book_of.ensures;
}

pub returns-in_ok-book_of-clause-lines : goal.returns-in_ok-book_of-clause-lines
returns-in_ok-book_of-clause-lines g c = λ budget.
    alone_decided budget c.args.bound.now c.args.name.now c.in_ok-proved.proved c.in_ok-book_of.field-0 c.in_ok-proved.ensures.ok.is_goal (c.in_ok-proved.ensures.decided budget) c.in_ok-book_of.ensures

pub returns-in_ok-book_of-clause-left : goal.returns-in_ok-book_of-clause-left
returns-in_ok-book_of-clause-left g c = put_adds c.args.bound.now c.args.name.now c.args.proof.now c.in_ok-proved.proved _ _ c.in_ok-proved.ensures.ok c.in_ok-keep.ensures.ok

pub returns-else-branch-clause-err : goal.returns-else-branch-clause-err
returns-else-branch-clause-err g c = (c.in_ok-proved.proved, c.in_ok-proved.ensures.ok, too_large (ended c.in_ok-proved.proved) c.in_ok-keep.field-0 c.in_ok-keep.ensures.kept c.if-branch.false)

pub returns-else-branch-clause-same : goal.returns-else-branch-clause-same
returns-else-branch-clause-same g c = λ other.
    unput (ended c.in_ok-proved.proved) (g.K.Keeper.tables c.args.keeper.now) (g.K.Keeper.tables c.keep.new.keeper)
    (too_large (ended c.in_ok-proved.proved) c.in_ok-keep.field-0 c.in_ok-keep.ensures.kept c.if-branch.false) c.in_ok-keep.ensures.ok

pub returns-else-branch-clause-left : goal.returns-else-branch-clause-left
returns-else-branch-clause-left g c = put_adds c.args.bound.now c.args.name.now c.args.proof.now c.in_ok-proved.proved _ _ c.in_ok-proved.ensures.ok c.in_ok-keep.ensures.ok
