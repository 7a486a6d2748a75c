use Rattle.desk_core_goals.proofs.clauses.clauses_text.Goals as goal

pub returns-clause-ok : goal.returns-clause-ok
returns-clause-ok c = (
  c.in_ok-built.built.cnf,
  record {
    goal = c.in_ok-goal.goal;
    is_goal = c.in_ok-goal.ensures.ok;
    has = record { vars = c.in_ok-built.ensures.vars; clauses = c.in_ok-built.ensures.clauses };
  },
  c.in_ok-dimacs.ensures,
)
