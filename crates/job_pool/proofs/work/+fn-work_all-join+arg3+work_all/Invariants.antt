use Rattle.job_pool.proofs.work.+fn-work_all-join+arg3+work_all.Given as goal

abbrev pub decreases-join+arg3 : goal.decreases-join+arg3
decreases-join+arg3 g l = l.rest

abbrev pub decreases-work_all : goal.decreases-work_all
decreases-work_all g l = l.workers
