use Rattle.std.proofs.Common.{◌<◌, length, subst, sym, rules}
use Rattle.cdcl.specs.Turns.{Returns}
use Rattle.cdcl.proofs.RestartLemmas.{returns_from}
use Rattle.cdcl.proofs.solver.Solver.restart.Goals as goal

pub returns-clause-returns : goal.returns-clause-returns
returns-clause-returns c =
    let s = c.args.self.now in
    let some : 0 < length s.search.starts.items = search rules in
    subst (λ n. Returns c.args.cnf.now s (record { search = c.restart.new.self; watches = s.watches; next = n })) (sym c.len-self.ensures.len)
    (returns_from c.args.cnf.now s c.requires.is some c.restart.new.self c.restart.ensures)
