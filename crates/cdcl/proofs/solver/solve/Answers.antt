use Rattle.cdcl.proofs.StopLemmas.{lost_search, whole_search, spent_search, not_spent}
use Rattle.cdcl.proofs.solver.solve.Goals as goal

pub refutation-requires-clause-stands : goal.refutation-requires-clause-stands
refutation-requires-clause-stands c = (lost_search c.args.cnf.now c.args.budget c.run.new.self.search c.into_search-search.result c.in_ok-stop.stop c.in_ok-stop.ensures c.into_search-search.ensures c.in-Lost.number c.in-Lost.is).stands

pub refutation-requires-clause-conflict : goal.refutation-requires-clause-conflict
refutation-requires-clause-conflict c = (lost_search c.args.cnf.now c.args.budget c.run.new.self.search c.into_search-search.result c.in_ok-stop.stop c.in_ok-stop.ensures c.into_search-search.ensures c.in-Lost.number c.in-Lost.is).conflict

pub refutation-requires-clause-level : goal.refutation-requires-clause-level
refutation-requires-clause-level c = (lost_search c.args.cnf.now c.args.budget c.run.new.self.search c.into_search-search.result c.in_ok-stop.stop c.in_ok-stop.ensures c.into_search-search.ensures c.in-Lost.number c.in-Lost.is).starts

pub into_assignment-requires-clause-stands : goal.into_assignment-requires-clause-stands
into_assignment-requires-clause-stands c = (whole_search c.args.cnf.now c.args.budget c.run.new.self.search c.into_search-search.result c.in_ok-stop.stop c.in_ok-stop.ensures c.into_search-search.ensures c.in-Whole.is).stands

pub into_assignment-requires-clause-complete : goal.into_assignment-requires-clause-complete
into_assignment-requires-clause-complete c = (whole_search c.args.cnf.now c.args.budget c.run.new.self.search c.into_search-search.result c.in_ok-stop.stop c.in_ok-stop.ensures c.into_search-search.ensures c.in-Whole.is).complete

pub into_assignment-requires-clause-whole : goal.into_assignment-requires-clause-whole
into_assignment-requires-clause-whole c = (whole_search c.args.cnf.now c.args.budget c.run.new.self.search c.into_search-search.result c.in_ok-stop.stop c.in_ok-stop.ensures c.into_search-search.ensures c.in-Whole.is).whole

-- an honest chain isn't that long
pub returns-in-Spent-clause-decided : goal.returns-in-Spent-clause-decided
returns-in-Spent-clause-decided c le =
    not_spent c.args.cnf.now c.args.budget c.into_search-search.result
    (spent_search c.args.cnf.now c.args.budget c.run.new.self.search c.into_search-search.result c.in_ok-stop.stop c.in_ok-stop.ensures c.into_search-search.ensures c.in-Spent.is) le
