use Rattle.std.proofs.Common.{Contains}
use Rattle.std.proofs.lemmas.Bool.{MatchBool-at_true}
use Rattle.cdcl.specs.Trails.{lits_of}
use Rattle.cdcl.specs.Turns.{Begins, IsLost}
use Rattle.cdcl.proofs.BeginLemmas.{unit_watch_of, unit_kept, begins_more}
use Rattle.cdcl.proofs.solver.Solver.watch_unit.Goals as goal

settled : (c : goal.After-watch-arg-1) → Begins c.args.cnf.now c.args.number c.settle.new.self × Contains (lits_of c.settle.new.self.search.trail.entries) c.args.lit
settled c = MatchBool-at_true (Begins c.args.cnf.now c.args.number c.settle.new.self × Contains (lits_of c.settle.new.self.search.trail.entries) c.args.lit) (IsLost c.args.cnf.now c.settle.new.self.search c.args.number) c.if-not-branch.false c.in_ok-settle.ensures

pub watch-requires-clause-is : goal.watch-requires-clause-is
watch-requires-clause-is c = unit_watch_of c.args.cnf.now c.args.number c.settle.new.self (settled c).0 c.requires.known c.args.lit c.requires.among c.requires.alone

pub watch-requires-clause-kept : goal.watch-requires-clause-kept
watch-requires-clause-kept c = unit_kept c.args.cnf.now c.args.number c.settle.new.self (settled c).0 c.requires.known c.args.lit c.requires.among c.requires.alone (settled c).1

pub returns : goal.returns
returns c =
    let both = MatchBool-at_true (Begins c.args.cnf.now c.args.number c.settle.new.self × Contains (lits_of c.settle.new.self.search.trail.entries) c.args.lit) (IsLost c.args.cnf.now c.settle.new.self.search c.args.number) c.if-not-branch.false c.in_ok-settle.ensures in
    begins_more c.args.cnf.now c.args.number c.settle.new.self both.0 c.requires.known c.watch.new.self c.in_ok-watch.ensures
