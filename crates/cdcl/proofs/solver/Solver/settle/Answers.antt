use Rattle.std.proofs.Common.{◌≡◌}
use Rattle.clause_check.proofs.RefuteLemmas.{false_known, true_known}
use Rattle.cdcl.specs.Trails.{lits_of}
use Rattle.cdcl.proofs.TrailLemmas.{avoids_from_free}
use Rattle.cdcl.proofs.VisitLemmas.{false_otherwise}
use Rattle.cdcl.proofs.VisitSteps.{forced_there}
use Rattle.cdcl.proofs.BeginLemmas.{forced_unit, lost_unit, begins_force}
use Rattle.cdcl.proofs.solver.Solver.settle.Goals as goal

pub returns-then-is_true : goal.returns-then-is_true
returns-then-is_true c =
    (c.requires.begins, true_known c.values-values.result.now (lits_of c.args.self.now.search.trail.entries) c.values-values.ensures.shows c.args.lit (c.is_true.ensures.0 c.if-is_true.true))

pub force-requires-clause-free : goal.force-requires-clause-free
force-requires-clause-free c =
    avoids_from_free c.values-values.result.now (lits_of c.args.self.now.search.trail.entries) c.args.lit c.values-values.ensures.shows (c.is_free.ensures.0 c.if-is_free.true)

pub force-requires-clause-forced : goal.force-requires-clause-forced
force-requires-clause-forced c = forced_unit c.args.cnf.now c.args.number c.args.self.now c.requires.begins c.requires.known c.args.lit c.requires.among c.requires.alone

pub returns-then-is_free : goal.returns-then-is_free
returns-then-is_free c = (
  begins_force c.args.cnf.now c.args.number c.args.self.now c.requires.begins c.requires.known c.args.lit c.force.new.self c.in_ok-force.ensures,
  forced_there c.args.cnf.now c.args.self.now c.args.lit c.args.number c.force.new.self c.in_ok-force.ensures,
)

pub returns : goal.returns
returns c =
    let values = c.values-values.result.now in
    lost_unit c.args.cnf.now c.args.number c.args.self.now c.requires.begins c.requires.known c.args.lit c.requires.among c.requires.alone
    (false_known values (lits_of c.args.self.now.search.trail.entries) c.values-values.ensures.shows c.args.lit (false_otherwise values c.args.lit (λ t. let f : c.is_true.result ≡ _ = c.is_true.ensures.1 t in let g = c.if-is_true.false in cc) (λ t. let f : c.is_free.result ≡ _ = c.is_free.ensures.1 t in let g = c.if-is_free.false in cc)))
