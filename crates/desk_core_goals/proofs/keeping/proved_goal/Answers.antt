use Rattle.std.proofs.Common.{List, ℕ, refl, subst}
use Rattle.clause_check_texts.specs.Faults.{IsReadOf, Stands}
use Rattle.desk_core_goals.proofs.Accepted.{derivation_shown}
use Rattle.desk_core_goals.proofs.Reading.{text_refused}
use Rattle.desk_core_goals.proofs.keeping.proved_goal.Goals as goal

pub returns-clause-ok : goal.returns-clause-ok
returns-clause-ok c = record {
  is_goal = c.in_ok-goal.ensures.ok;
  steps = c.in_ok-steps.steps;
  has = refl;
  reads = record {
    formula = c.in_ok-built.built.cnf;
    has = record { vars = c.in_ok-built.ensures.vars; clauses = c.in_ok-built.ensures.clauses };
    read = subst (λ (z : List ℕ). IsReadOf c.in_ok-built.built.cnf z c.in_ok-steps.steps.items) c.bytes.ensures c.in_ok-steps.ensures.read;
    refutes = c.in_ok-steps.ensures.ok;
  };
}

pub returns-in_err-steps-clause-err : goal.returns-in_err-steps-clause-err
returns-in_err-steps-clause-err c =
    text_refused c.from_residual-in_err-steps.result c.args.bound.now c.args.name.now c.args.proof.now c.in_ok-built.built.cnf c.in_err-steps.field-0.0
    (record { goal = c.in_ok-goal.goal; is_goal = c.in_ok-goal.ensures.ok; has = record { vars = c.in_ok-built.ensures.vars; clauses = c.in_ok-built.ensures.clauses } })
    (subst (λ (z : List ℕ). Stands c.in_ok-built.built.cnf z c.in_err-steps.field-0.0) c.bytes.ensures c.in_err-steps.ensures.err) c.from_residual-in_err-steps.ensures.1

pub returns-clause-decided : goal.returns-clause-decided
returns-clause-decided c = λ budget. record {
  of_line = c.in_ok-goal.ensures.ok.of_line;
  shown = derivation_shown budget c.in_ok-goal.goal.ob c.in_ok-built.built.cnf c.in_ok-built.built.bits.items c.in_ok-steps.steps
      (record { vars = c.in_ok-built.ensures.vars; clauses = c.in_ok-built.ensures.clauses }) c.in_ok-built.ensures.carries c.in_ok-steps.ensures.ok;
}
