use Rattle.std.proofs.Common.{◌<◌, None, length, subst, sym, ap, ◌∙◌}
use Rattle.std.proofs.lemmas.List.{length_push}
use Rattle.cdcl.specs.Trails.{lits_of}
use Rattle.cdcl.proofs.TrailLemmas.{avoids_from_free}
use Rattle.cdcl.proofs.EndLemmas.{assigned_from_value}
use Rattle.cdcl.proofs.BeginLemmas.{complete_from, part_decide}
use Rattle.cdcl.proofs.solver.Solver.decide.Goals as goal

pub decide-requires-clause-complete : goal.decide-requires-clause-complete
decide-requires-clause-complete c = complete_from c.args.cnf.now c.args.self.now c.values.result.now c.values.ensures.shows c.requires.is c.requires.done

pub decide-requires-clause-free : goal.decide-requires-clause-free
decide-requires-clause-free c =
    avoids_from_free c.values.result.now (lits_of c.args.self.now.search.trail.entries) c.in-Some.lit c.values.ensures.shows (c.in-Some.ensures).choice.1

pub returns-in_ok-decide-in-Some-clause-choice : goal.returns-in_ok-decide-in-Some-clause-choice
returns-in_ok-decide-in-Some-clause-choice c =
    let h = c.in_ok-decide-in-Some.ensures in
    record {
      is = part_decide c.args.cnf.now c.args.self.now c.decide.new.self c.requires.is c.requires.done h;
      steps = h.steps;
      longer = ap length h.entries ∙ length_push c.args.self.now.search.trail.entries (record { lit = h.lit; reason = None });
    }

pub returns-in-None-clause-choice : goal.returns-in-None-clause-choice
returns-in-None-clause-choice c =
    record {
      stands = c.requires.is.part.search;
      complete = complete_from c.args.cnf.now c.args.self.now c.values.result.now c.values.ensures.shows c.requires.is c.requires.done;
      whole = λ v lt. assigned_from_value c.values.result.now c.args.self.now.search.trail.entries c.values.ensures.shows v ((c.in-None.ensures).choice v (subst (λ n. v < n) (sym c.values.ensures.len) lt));
    }
