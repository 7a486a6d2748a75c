use Rattle.std.proofs.Common.{ℕ, get_or, map, ◌<◌, ◌-◌, length, subst, sym}
use Rattle.std.proofs.lemmas.Result.{on_ok_weaker}
use Rattle.clause_check.specs.Derivations.{clause_at, clauses_of}
use Rattle.clause_check.specs.Clauses.{negated}
use Rattle.cdcl.proofs.SearchLemmas.{hints_known}
use Rattle.cdcl.specs.Turns.{IsPart}
use Rattle.cdcl.specs.Watching.{IsKept}
use Rattle.cdcl.proofs.BeginLemmas.{part_jump, learnt_is, learnt_second, learnt_kept, learns_from}
use Rattle.cdcl.proofs.solver.Solver.learn.Goals as goal

pub bump_clauses-requires-clause-known : goal.bump_clauses-requires-clause-known
bump_clauses-requires-clause-known c =
    let s = c.args.self.now.search in let l = c.in_ok-learnt.learnt in
    let implied = ((c.in_ok-learnt.ensures).2).honest.implied.implied in
    subst (λ hs. (k : ℕ) (d : ℕ) → k < length hs → get_or hs k d < length (clauses_of c.args.cnf.now.clauses c.as_slice.result.now)) (sym c.as_slice-2.ensures.value)
    (subst (λ ss. (k : ℕ) (d : ℕ) → k < length l.step.hints.items → get_or l.step.hints.items k d < length (clauses_of c.args.cnf.now.clauses ss)) (sym c.as_slice.ensures.value)
    (hints_known (clauses_of c.args.cnf.now.clauses s.steps.items) (map negated l.step.clause) l.step.hints.items implied))

pub watch-requires-clause-part : goal.watch-requires-clause-part
watch-requires-clause-part c =
    subst (λ n. IsPart c.args.cnf.now (record { search = c.backjump.new.self; watches = c.args.self.now.watches; next = n - 1 })) (sym c.len.ensures.len)
    (part_jump c.args.cnf.now c.args.self.now c.requires.is c.in_ok-learnt.learnt c.in_ok-learnt.ensures c.backjump.new.self c.in_ok-backjump.ensures c.learnt_watch-watch.result c.learnt_watch-watch.ensures)

pub watch-requires-clause-is : goal.watch-requires-clause-is
watch-requires-clause-is c = learnt_is c.args.cnf.now c.args.self.now c.requires.is c.in_ok-learnt.learnt c.in_ok-learnt.ensures c.backjump.new.self c.in_ok-backjump.ensures c.learnt_watch-watch.result c.learnt_watch-watch.ensures

pub watch-requires-clause-second : goal.watch-requires-clause-second
watch-requires-clause-second c = learnt_second c.args.cnf.now c.args.self.now c.requires.is c.in_ok-learnt.learnt c.in_ok-learnt.ensures c.backjump.new.self c.in_ok-backjump.ensures c.learnt_watch-watch.result c.learnt_watch-watch.ensures

pub watch-requires-clause-kept : goal.watch-requires-clause-kept
watch-requires-clause-kept c =
    subst (λ n. IsKept (clause_at (clauses_of c.args.cnf.now.clauses c.backjump.new.self.steps.items) (length c.args.self.now.watches.watched.items)) c.backjump.new.self.trail.entries c.backjump.new.self.starts.items (n - 1) c.learnt_watch-watch.result) (sym c.len.ensures.len)
    (learnt_kept c.args.cnf.now c.args.self.now c.requires.is c.in_ok-learnt.learnt c.in_ok-learnt.ensures c.backjump.new.self c.in_ok-backjump.ensures c.learnt_watch-watch.result c.learnt_watch-watch.ensures)

pub returns-clause-learns : goal.returns-clause-learns
returns-clause-learns c =
    on_ok_weaker c.watch.result
    (λ h. learns_from c.args.cnf.now c.args.self.now c.requires.is c.in_ok-learnt.learnt c.in_ok-learnt.ensures c.backjump.new.self c.in_ok-backjump.ensures c.learnt_watch-watch.result c.learnt_watch-watch.ensures (c.len.result - 1) c.watch.new.self h) c.watch.ensures
