use Rattle.std.proofs.Common.{ℕ, List, Option, refl, subst}
use Rattle.set_tree.specs.declared.set.Set.{Set}
use Rattle.set_tree.specs.Formulas.{meaning_of}
use Rattle.path_machine.specs.Rows.{IsRead}
use Rattle.path_machine.specs.Unmet.{IsUnmet}
use Rattle.signoff_call.proofs.Walking.{path_walks, unmet_walks}
use Rattle.signoff_call.proofs.paths.walk_shown.Goals as goal

pub returns-in-Some-clause-answer : goal.returns-in-Some-clause-answer
returns-in-Some-clause-answer g c =
    let set = c.args.bound.now.set in
    let trace = c.in_ok-trace.trace.rows in
    let read = subst (λ (z : List ℕ). IsRead set z c.in-Ok.rows) c.bytes.ensures c.in-Ok.ensures.ok in
    let found = subst (λ (z : Set). IsUnmet (meaning_of z) z trace c.in_ok-cycle.field-0) c.set.ensures c.in_ok-cycle.ensures in
    let unmet = subst (λ (z : Option ℕ). IsUnmet (meaning_of set) set trace z) c.in-Some.is found in
    unmet_walks c.args.bound.now _ _ _ _ c.args.text.now trace (record { rows = c.in-Ok.rows; read = read; run = c.in_ok-trace.ensures.run }) c.unmet_at.result c.in-Some.cycle unmet c.requires.empty refl c.unmet_at.ensures

pub returns-clause-answer : goal.returns-clause-answer
returns-clause-answer g c =
    let set = c.args.bound.now.set in
    let trace = c.in_ok-trace.trace.rows in
    let read = subst (λ (z : List ℕ). IsRead set z c.in-Ok.rows) c.bytes.ensures c.in-Ok.ensures.ok in
    let found = subst (λ (z : Set). IsUnmet (meaning_of z) z trace c.in_ok-cycle.field-0) c.set.ensures c.in_ok-cycle.ensures in
    let met = subst (λ (z : Option ℕ). IsUnmet (meaning_of set) set trace z) c.in-None.is found in
    path_walks c.args.bound.now _ _ _ _ c.args.text.now trace (record { rows = c.in-Ok.rows; read = read; run = c.in_ok-trace.ensures.run }) c.path_shown.result met c.path_shown.ensures.answer
