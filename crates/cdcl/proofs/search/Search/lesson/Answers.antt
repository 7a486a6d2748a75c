use Rattle.std.proofs.Common.{◌≡◌, ◌-◌, ◌<◌, length, get_or, take, All, subst, sym, arith}
use Rattle.std.proofs.lemmas.List.{get_or_read}
use Rattle.clause_check.specs.Derivations.{clauses_of}
use Rattle.cdcl.specs.Closed.{IsMet}
use Rattle.cdcl.specs.Trails.{lits_of}
use Rattle.cdcl.proofs.search.Search.lesson.Goals as goal

pub analyze-requires-clause-closed : goal.analyze-requires-clause-closed
analyze-requires-clause-closed c =
    let s = c.args.self.now in
    let i = c.len.result - 1 in
    let len : c.len.result ≡ length s.starts.items = omega (arith, s.starts.ok.0) in
    let inside : i < length s.starts.items = omega (arith, c.requires.level) in
    let at : c.index-start.result.now ≡ get_or s.starts.items i 0 = get_or_read s.starts.items i c.index-start.result.now inside c.index-start.ensures 0 in
    subst (λ b. All (IsMet (lits_of (take c.index-start.result.now s.trail.entries))) (clauses_of c.args.cnf.now.clauses b)) (sym c.as_slice.ensures.value)
    (subst (λ n. All (IsMet (lits_of (take n s.trail.entries))) (clauses_of c.args.cnf.now.clauses s.steps.items)) (sym at) (c.requires.stands.closed i inside))
