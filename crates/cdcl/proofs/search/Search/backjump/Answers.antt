use Rattle.std.proofs.Common.{◌≡◌, ◌++◌, ◌∷◌, [], List, Some, length, take, get_or, subst, sym, ap, ◌∙◌, arith}
use Rattle.std.proofs.lemmas.List.{get_or_read}
use Rattle.clause_check.specs.Derivations.{clauses_of}
use Rattle.clause_check.proofs.RefuteLemmas.{length-clauses_of}
use Rattle.cdcl.specs.declared.trail.Entry.{Entry}
use Rattle.cdcl.specs.Closed.{Avoids}
use Rattle.cdcl.specs.Marking.{Splits}
use Rattle.cdcl.specs.Trails.{lits_of, IsTrail}
use Rattle.cdcl.proofs.SearchLemmas.{search_cut, kept_few, free_there, forced_there, search_assigned, search_at, both_ok}
use Rattle.cdcl.proofs.search.Search.backjump.Goals as goal

-- the place that the trail is cut at
place_is : (c : goal.After-assign-arg-1) → c.index-place.result.now ≡ get_or c.args.self.now.starts.items c.levels_below-keep.result 0
place_is c =
    let s = c.args.self.now in
    let splits = subst (λ ss. Splits ss c.args.learnt.bound c.levels_below-keep.result) c.as_slice.ensures.value c.levels_below-keep.ensures in
    let few = kept_few c.args.cnf.now s.trail.vars s.trail.entries s.starts.items s.steps.items c.requires.stands c.args.learnt c.requires.lesson c.levels_below-keep.result splits in
    get_or_read s.starts.items c.levels_below-keep.result c.index-place.result.now few c.index-place.ensures 0

pub assign-requires-clause-free : goal.assign-requires-clause-free
assign-requires-clause-free c =
    let s = c.args.self.now in
    let splits = subst (λ ss. Splits ss c.args.learnt.bound c.levels_below-keep.result) c.as_slice.ensures.value c.levels_below-keep.ensures in
    let cut = c.truncate-2.ensures.entries ∙ ap (λ n. take n s.trail.entries) (place_is c) in
    subst (λ (es : List Entry). Avoids (lits_of es) c.args.learnt.lit) (sym cut)
    (free_there c.args.cnf.now s.trail.vars s.trail.entries s.starts.items s.steps.items c.requires.stands c.args.learnt c.requires.lesson c.levels_below-keep.result splits)

pub returns : goal.returns
returns c =
    let s = c.args.self.now in let l = c.args.learnt in let keep = c.levels_below-keep.result in
    let splits = subst (λ ss. Splits ss l.bound keep) c.as_slice.ensures.value c.levels_below-keep.ensures in
    let few = kept_few c.args.cnf.now s.trail.vars s.trail.entries s.starts.items s.steps.items c.requires.stands l c.requires.lesson keep splits in
    let place : c.index-place.result.now ≡ get_or s.starts.items keep 0 = get_or_read s.starts.items keep c.index-place.result.now few c.index-place.ensures 0 in
    let front : List Entry = take (get_or s.starts.items keep 0) s.trail.entries in
    let cut : c.truncate-2.new.self.entries ≡ front = c.truncate-2.ensures.entries ∙ ap (λ n. take n s.trail.entries) place in
    let clauses = clauses_of c.args.cnf.now.clauses s.steps.items in
    let number : c.in_ok-reason.reason ≡ length clauses = omega (arith, c.in_ok-reason.ensures.ok, length-clauses_of c.args.cnf.now.clauses s.steps.items, c.len.ensures.len, s.steps.ok.0) in
    let steps : c.push.new.self.items ≡ s.steps.items ++ l.step ∷ [] = (c.in_ok-push.ensures).items in
    let after : List Entry = front ++ record { lit = l.lit; reason = Some (length clauses) } ∷ [] in
    let front_trail : IsTrail s.trail.vars front = subst (λ es. IsTrail s.trail.vars es) cut (subst (λ n. IsTrail n c.truncate-2.new.self.entries) c.truncate-2.ensures.vars c.truncate-2.ensures.trail) in
    let vars : c.assign.new.self.vars ≡ s.trail.vars = c.assign.ensures.vars ∙ c.truncate-2.ensures.vars in
    both_ok c.assign.result c.assign.ensures.entries c.assign.ensures.trail (λ e t.
    let entries : c.assign.new.self.entries ≡ after = e ∙ (ap (λ es. es ++ record { lit = l.lit; reason = Some c.in_ok-reason.reason } ∷ []) cut ∙ ap (λ n. front ++ record { lit = l.lit; reason = Some n } ∷ []) number) in
    let trail : IsTrail s.trail.vars after = subst (λ es. IsTrail s.trail.vars es) entries (subst (λ n. IsTrail n c.assign.new.self.entries) vars t) in
    record {
      stands =
          search_at c.args.cnf.now s.trail.vars c.assign.new.self.vars after c.assign.new.self.entries (take keep s.starts.items) c.truncate.new.self.items (s.steps.items ++ l.step ∷ []) c.push.new.self.items vars entries c.truncate.ensures.items steps
          (search_assigned c.args.cnf.now s.trail.vars front (take keep s.starts.items) (s.steps.items ++ l.step ∷ []) l.lit (length clauses)
          (search_cut c.args.cnf.now s.trail.vars s.trail.entries s.starts.items s.steps.items c.requires.stands l c.requires.lesson keep splits front_trail)
          (forced_there c.args.cnf.now s.trail.vars s.trail.entries s.starts.items s.steps.items c.requires.stands l c.requires.lesson keep splits) trail);
      steps = steps;
      keep = keep;
      few = few;
      splits = splits;
      starts = c.truncate.ensures.items;
      number = length clauses;
      entries = entries;
    })
