use Rattle.std.proofs.Common.{◌≡◌, ◌≢◌, ◌<◌, ℕ, List, false, Contains, get_or, length, arith, subst}
use Rattle.std.proofs.lemmas.List.{get_or_default}
use Rattle.clause_check.specs.declared.literal.Lit.{Lit}
use Rattle.clause_check.specs.Derivations.{clause_at}
use Rattle.cdcl.proofs.BeginLemmas.{pair_watch_of, pair_kept}
use Rattle.cdcl.proofs.solver.Solver.watch_input.Goals as goal

lits_are : (c : goal.After-watch-arg-1) → c.clause-lits.result.now ≡ clause_at c.args.cnf.now.clauses c.args.number
lits_are c = c.clause-lits.ensures.lits

module _ (c : goal.After-watch-arg-1) (more : 1 < length c.clause-lits.result.now) where
  abbrev z : Lit
  z = record { var = 0; negative = false }

  abbrev lits : List Lit
  lits = c.clause-lits.result.now

  at : (k : ℕ) → k < length lits → Contains (clause_at c.args.cnf.now.clauses c.args.number) (get_or lits k z)
  at k lt = subst (λ x. Contains x (get_or lits k z)) (lits_are c) (k, lt, get_or_default lits k (get_or lits k z) z lt)

  apart : (get_or lits 0 z).var ≢ (get_or lits 1 z).var
  apart = c.clause-lits.ensures.distinct 0 1 z (omega arith) more

pub watch-requires-clause-is : goal.watch-requires-clause-is
watch-requires-clause-is c =
    let more : 1 < length c.clause-lits.result.now = (let zero = c.if-len-eq0.false in let one = c.if-len-eq1.false in omega arith) in
    pair_watch_of c.args.cnf.now c.args.number c.args.self.now c.requires.begins c.requires.known (get_or (lits c more) 0 (z c more)) (get_or (lits c more) 1 (z c more)) (at c more 0 (omega arith)) (at c more 1 more) (apart c more)

pub watch-requires-clause-kept : goal.watch-requires-clause-kept
watch-requires-clause-kept c =
    let more : 1 < length c.clause-lits.result.now = (let zero = c.if-len-eq0.false in let one = c.if-len-eq1.false in omega arith) in
    pair_kept c.args.cnf.now c.args.number c.args.self.now c.requires.begins c.requires.known (get_or (lits c more) 0 (z c more)) (get_or (lits c more) 1 (z c more)) (at c more 0 (omega arith)) (at c more 1 more) (apart c more)
