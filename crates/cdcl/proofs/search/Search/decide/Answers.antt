use Rattle.std.proofs.Common.{◌≡◌, ◌++◌, ◌∷◌, [], None, List, length, subst, ap, ◌∙◌, refl}
use Rattle.cdcl.specs.declared.trail.Entry.{Entry}
use Rattle.cdcl.specs.Trails.{IsTrail}
use Rattle.cdcl.proofs.SearchLemmas.{search_decided, search_at, both_ok}
use Rattle.cdcl.proofs.search.Search.decide.Goals as goal

pub returns : goal.returns
returns c =
    let s = c.args.self.now in
    let lit = c.args.lit in
    let starts : c.push.new.self.items ≡ s.starts.items ++ length s.trail.entries ∷ [] = (c.in_ok-push.ensures).items ∙ ap (λ n. s.starts.items ++ n ∷ []) c.len.ensures.len in
    let after : List Entry = s.trail.entries ++ record { lit = lit; reason = None } ∷ [] in
    both_ok c.assign.result c.assign.ensures.entries c.assign.ensures.trail (λ entries t.
    let trail : IsTrail s.trail.vars after = subst (λ es. IsTrail s.trail.vars es) entries (subst (λ n. IsTrail n c.assign.new.self.entries) c.assign.ensures.vars t) in
    record {
      stands =
          search_at c.args.cnf.now s.trail.vars c.assign.new.self.vars after c.assign.new.self.entries (s.starts.items ++ length s.trail.entries ∷ []) c.push.new.self.items s.steps.items s.steps.items c.assign.ensures.vars entries starts refl
          (search_decided c.args.cnf.now s.trail.vars s.trail.entries s.starts.items s.steps.items lit c.requires.stands c.requires.complete trail);
      steps = refl;
      starts = starts;
      lit = lit;
      entries = entries;
    })
