use Rattle.std.proofs.Common.{◌++◌, ◌∷◌, [], Some, List, subst, refl}
use Rattle.cdcl.specs.declared.trail.Entry.{Entry}
use Rattle.cdcl.specs.Trails.{IsTrail}
use Rattle.cdcl.proofs.SearchLemmas.{search_assigned, search_at, both_ok}
use Rattle.cdcl.proofs.search.Search.force.Goals as goal

pub returns : goal.returns
returns c =
    let s = c.args.self.now in
    let lit = c.args.lit in
    let after : List Entry = s.trail.entries ++ record { lit = lit; reason = Some c.args.number } ∷ [] in
    both_ok c.assign.result c.assign.ensures.entries c.assign.ensures.trail (λ entries t.
    let trail : IsTrail s.trail.vars after = subst (λ es. IsTrail s.trail.vars es) entries (subst (λ n. IsTrail n c.assign.new.self.entries) c.assign.ensures.vars t) in
    record {
      stands =
          search_at c.args.cnf.now s.trail.vars c.assign.new.self.vars after c.assign.new.self.entries s.starts.items s.starts.items s.steps.items s.steps.items c.assign.ensures.vars entries refl refl
          (search_assigned c.args.cnf.now s.trail.vars s.trail.entries s.starts.items s.steps.items lit c.args.number c.requires.stands c.requires.forced trail);
      starts = refl;
      steps = refl;
      entries = entries;
    })
