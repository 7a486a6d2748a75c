use Rattle.std.proofs.Common.{◌<◌, List, length, arith, sym, subst}
use Rattle.clause_check.specs.Clauses.{negated}
use Rattle.cdcl.specs.declared.trail.Entry.{Entry}
use Rattle.cdcl.specs.Watching.{IsTrueAt}
use Rattle.cdcl.proofs.VisitSteps.{visits_start, visits_keep, visits_move, visits_force, visits_end, watch_of, copy_of, denied_same, fewer, denied_here, denied_bound}
use Rattle.cdcl.proofs.solver.Solver.visit.Goals as goal

pub loop-i-init : goal.loop-i-init
loop-i-init c =
    let s = c.args.self.now in let st = c.requires.is.part.search in
    let lt = c.requires.more in
    let at = subst (λ es. IsTrueAt es (negated c.negated-denied.result) s.next) c.entries.ensures.entries
    (denied_here c.entries.result.now s.next _ c.negated-denied.result (subst (λ (es : List Entry). s.next < length es) (sym c.entries.ensures.entries) lt) c.negated-denied.ensures) in
    visits_start c.args.cnf.now s c.negated-denied.result c.requires.is lt at (denied_bound c.args.cnf.now.vars s.search.trail.vars s.search.trail.entries s.next c.negated-denied.result st.trail st.vars_are at)

pub look_for-requires-clause-watch : goal.look_for-requires-clause-watch
look_for-requires-clause-watch c =
    watch_of c.args.cnf.now c.args.self.now c.negated-denied.result c.loop-i.i c.loop-i.self c.loop-i.invariant c.clause-clause.result.number (omega (arith, c.loop-i-test.true, c.len.ensures)) c.clause-clause.ensures.number c.clause-clause.result.watch c.clause-clause.ensures.watch

pub look_for-requires-clause-copied : goal.look_for-requires-clause-copied
look_for-requires-clause-copied c =
    copy_of c.args.cnf.now c.args.self.now c.negated-denied.result c.loop-i.i c.loop-i.self c.loop-i.invariant c.clause-clause.result.number (omega (arith, c.loop-i-test.true, c.len.ensures)) c.clause-clause.ensures.number c.clause-clause.result.watch c.clause-clause.ensures.watch

pub loop-i-preserved-in-Keep : goal.loop-i-preserved-in-Keep
loop-i-preserved-in-Keep c =
    visits_keep c.args.cnf.now c.args.self.now c.negated-denied.result c.loop-i.i c.loop-i.self c.loop-i.invariant c.clause-clause.result.number (omega (arith, c.loop-i-test.true, c.len.ensures)) c.clause-clause.ensures.number c.clause-clause.result.watch c.clause-clause.ensures.watch c.in-Keep.ensures

pub replace-requires-clause-other : goal.replace-requires-clause-other
replace-requires-clause-other c =
    denied_same c.args.cnf.now c.args.self.now c.negated-denied.result c.loop-i.i c.loop-i.self c.loop-i.invariant c.clause-clause.result.number (omega (arith, c.loop-i-test.true, c.len.ensures)) c.clause-clause.ensures.number c.clause-clause.result.watch c.clause-clause.ensures.watch c.in-Move.watch c.in-Move.ensures

pub loop-i-smaller-in-Continue-1 : goal.loop-i-smaller-in-Continue-1
loop-i-smaller-in-Continue-1 c =
    let f = fewer c.args.cnf.now c.args.self.now c.negated-denied.result c.loop-i.i c.loop-i.self c.loop-i.invariant c.clause-clause.result.number (omega (arith, c.loop-i-test.true, c.len.ensures)) c.clause-clause.ensures.number c.clause-clause.result.watch c.clause-clause.ensures.watch c.in-Move.watch c.in-Move.ensures c.replace.new.self (c.in_ok-replace-in-Move.ensures).watched (c.in_ok-replace-in-Move.ensures).lists c.replace.ensures.copies in
    omega (arith, f, c.loop-i-test.true, c.len.ensures)

pub loop-i-preserved-in-Continue-1 : goal.loop-i-preserved-in-Continue-1
loop-i-preserved-in-Continue-1 c =
    visits_move c.args.cnf.now c.args.self.now c.negated-denied.result c.loop-i.i c.loop-i.self c.loop-i.invariant c.clause-clause.result.number (omega (arith, c.loop-i-test.true, c.len.ensures)) c.clause-clause.ensures.number c.clause-clause.result.watch c.clause-clause.ensures.watch c.in-Move.watch c.in-Move.ensures c.replace.new.self (c.in_ok-replace-in-Move.ensures).watched (c.in_ok-replace-in-Move.ensures).lists c.replace.ensures.copies

pub loop-i-preserved : goal.loop-i-preserved
loop-i-preserved c =
    visits_force c.args.cnf.now c.loop-i.self c.in-Force.lit c.clause-clause.result.number c.force.new.self c.in_ok-force-in-Force.ensures c.args.self.now c.negated-denied.result c.loop-i.i c.loop-i.invariant (omega (arith, c.loop-i-test.true, c.len.ensures)) c.clause-clause.ensures.number c.clause-clause.result.watch c.clause-clause.ensures.watch (c.in-Force.ensures).leaves

pub returns-clause-advances : goal.returns-clause-advances
returns-clause-advances c = visits_end c.args.cnf.now c.args.self.now c.negated-denied.result c.loop-i.i c.loop-i.self c.loop-i.invariant (omega (arith, c.loop-i-test.false, c.len.ensures))
