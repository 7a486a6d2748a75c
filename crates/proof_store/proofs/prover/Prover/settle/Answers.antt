use Rattle.std.proofs.Common.{◌∙◌, ℕ, map, ap, sym, subst, arith, length, rules}
use Rattle.std.specs.List.{AllZip}
use Rattle.std.specs.Prelude.{IfSome}
use Rattle.job_pool.specs.Shown.{IsShown}
use Rattle.proof_store.specs.Counts.{draws_of}
use Rattle.proof_store.specs.Goals.{IsDecided, ob_of}
use Rattle.proof_store.specs.Kept.{CountsKept}
use Rattle.proof_store.specs.declared.settings.Settings.{Settings}
use Rattle.proof_store.proofs.Faults.{rises_on}
use Rattle.proof_store.proofs.Placed.{same_length}
use Rattle.proof_store.proofs.Wholes.{adds, asked_are, ends_long, facts, first_rose, flags_now, rest_few, rest_long}
use Rattle.proof_store.proofs.prover.Prover.settle.Goals as goal

pub decide_open-requires-after_bounds : goal.decide_open-requires-after_bounds
decide_open-requires-after_bounds g c κs within = rest_few (g.K.Keeper.tables c.args.self.now.keeper.now) c.args.goals.items c.in_ok-placed.placed.places.items c.in_ok-placed.placed.rest.items c.as_slice.result.now c.in_ok-placed.ensures.placed c.in_ok-placed.ensures.rest c.as_slice.ensures.value c.requires.jobs

pub filled-requires-clause-rest : goal.filled-requires-clause-rest
filled-requires-clause-rest g c = rest_long (g.K.Keeper.tables c.args.self.now.keeper.now) c.args.goals.items c.in_ok-placed.placed.places.items c.in_ok-placed.placed.rest.items c.as_slice.result.now c.in_ok-placed.ensures.placed c.in_ok-placed.ensures.rest c.as_slice.ensures.value

pub filled-requires-clause-ends : goal.filled-requires-clause-ends
filled-requires-clause-ends g c =
    let shown : AllZip (IsShown c.args.self.now.settings.budget) c.as_slice.result.now c.in_ok-ends.field-0.ends.items = (subst (λ (s : Settings). AllZip (IsShown s.budget) c.as_slice.result.now c.in_ok-ends.field-0.ends.items) c.in_ok-placed.ensures.same.2 c.in_ok-ends.ensures.ends) in
    ends_long (g.K.Keeper.tables c.args.self.now.keeper.now) c.args.goals.items c.in_ok-placed.placed.places.items c.in_ok-placed.placed.rest.items c.as_slice.result.now c.in_ok-placed.ensures.placed c.in_ok-placed.ensures.rest c.as_slice.ensures.value c.args.self.now.settings.budget c.in_ok-ends.field-0.ends.items shown

pub put_new-requires-clause-jobs : goal.put_new-requires-clause-jobs
put_new-requires-clause-jobs g c κs within =
    let f = facts (g.K.Keeper.tables c.args.self.now.keeper.now) c.args.goals.items c.in_ok-placed.placed.places.items c.in_ok-placed.placed.rest.items c.as_slice.result.now c.in_ok-placed.ensures.placed c.in_ok-placed.ensures.rest c.as_slice.ensures.value c.args.self.now.settings.budget c.in_ok-ends.field-0.ends.items (subst (λ (s : Settings). AllZip (IsShown s.budget) c.as_slice.result.now c.in_ok-ends.field-0.ends.items) c.in_ok-placed.ensures.same.2 c.in_ok-ends.ensures.ends) c.in_ok-decided.decided.items c.as_slice-all.result.now c.in_ok-decided.ensures c.as_slice-all.ensures.value in
    let long = same_length (IsDecided c.args.self.now.settings.budget) c.args.goals.items c.in_ok-decided.decided.items f.decided in
    omega (arith, c.requires.jobs, long, ap length c.as_slice-all.ensures.value)

pub put_new-requires-clause-kept : goal.put_new-requires-clause-kept
put_new-requires-clause-kept g c κs within =
    let f = facts (g.K.Keeper.tables c.args.self.now.keeper.now) c.args.goals.items c.in_ok-placed.placed.places.items c.in_ok-placed.placed.rest.items c.as_slice.result.now c.in_ok-placed.ensures.placed c.in_ok-placed.ensures.rest c.as_slice.ensures.value c.args.self.now.settings.budget c.in_ok-ends.field-0.ends.items (subst (λ (s : Settings). AllZip (IsShown s.budget) c.as_slice.result.now c.in_ok-ends.field-0.ends.items) c.in_ok-placed.ensures.same.2 c.in_ok-ends.ensures.ends) c.in_ok-decided.decided.items c.as_slice-all.result.now c.in_ok-decided.ensures c.as_slice-all.ensures.value in
    flags_now (g.K.Keeper.tables c.args.self.now.keeper.now) (g.K.Keeper.tables c.place_all.new.self.keeper.now) c.as_slice-all.result.now c.in_ok-placed.ensures.tables f.flags

pub put_new-requires-clause-proofs : goal.put_new-requires-clause-proofs
put_new-requires-clause-proofs g c κs within =
    let f = facts (g.K.Keeper.tables c.args.self.now.keeper.now) c.args.goals.items c.in_ok-placed.placed.places.items c.in_ok-placed.placed.rest.items c.as_slice.result.now c.in_ok-placed.ensures.placed c.in_ok-placed.ensures.rest c.as_slice.ensures.value c.args.self.now.settings.budget c.in_ok-ends.field-0.ends.items (subst (λ (s : Settings). AllZip (IsShown s.budget) c.as_slice.result.now c.in_ok-ends.field-0.ends.items) c.in_ok-placed.ensures.same.2 c.in_ok-ends.ensures.ends) c.in_ok-decided.decided.items c.as_slice-all.result.now c.in_ok-decided.ensures c.as_slice-all.ensures.value in
    f.proofs

pub returns-in_err-put_new-clause-left : goal.returns-in_err-put_new-clause-left
returns-in_err-put_new-clause-left g c =
    let f = facts (g.K.Keeper.tables c.args.self.now.keeper.now) c.args.goals.items c.in_ok-placed.placed.places.items c.in_ok-placed.placed.rest.items c.as_slice.result.now c.in_ok-placed.ensures.placed c.in_ok-placed.ensures.rest c.as_slice.ensures.value c.args.self.now.settings.budget c.in_ok-ends.field-0.ends.items (subst (λ (s : Settings). AllZip (IsShown s.budget) c.as_slice.result.now c.in_ok-ends.field-0.ends.items) c.in_ok-placed.ensures.same.2 c.in_ok-ends.ensures.ends) c.in_ok-decided.decided.items c.as_slice-all.result.now c.in_ok-decided.ensures c.as_slice-all.ensures.value in
    adds (g.K.Keeper.tables c.args.self.now.keeper.now) (g.K.Keeper.tables c.place_all.new.self.keeper.now) (g.K.Keeper.tables c.put_new.new.keeper) c.args.goals.items c.as_slice-all.result.now f.obs c.in_ok-placed.ensures.tables c.in_err-put_new.ensures.left

pub returns-clause-left : goal.returns-clause-left
returns-clause-left g c =
    let f = facts (g.K.Keeper.tables c.args.self.now.keeper.now) c.args.goals.items c.in_ok-placed.placed.places.items c.in_ok-placed.placed.rest.items c.as_slice.result.now c.in_ok-placed.ensures.placed c.in_ok-placed.ensures.rest c.as_slice.ensures.value c.args.self.now.settings.budget c.in_ok-ends.field-0.ends.items (subst (λ (s : Settings). AllZip (IsShown s.budget) c.as_slice.result.now c.in_ok-ends.field-0.ends.items) c.in_ok-placed.ensures.same.2 c.in_ok-ends.ensures.ends) c.in_ok-decided.decided.items c.as_slice-all.result.now c.in_ok-decided.ensures c.as_slice-all.ensures.value in
    adds (g.K.Keeper.tables c.args.self.now.keeper.now) (g.K.Keeper.tables c.place_all.new.self.keeper.now) (g.K.Keeper.tables c.put_new.new.keeper) c.args.goals.items c.as_slice-all.result.now f.obs c.in_ok-placed.ensures.tables c.in_ok-put_new.ensures.left

pub returns-clause-decided : goal.returns-clause-decided
returns-clause-decided g c =
    let f = facts (g.K.Keeper.tables c.args.self.now.keeper.now) c.args.goals.items c.in_ok-placed.placed.places.items c.in_ok-placed.placed.rest.items c.as_slice.result.now c.in_ok-placed.ensures.placed c.in_ok-placed.ensures.rest c.as_slice.ensures.value c.args.self.now.settings.budget c.in_ok-ends.field-0.ends.items (subst (λ (s : Settings). AllZip (IsShown s.budget) c.as_slice.result.now c.in_ok-ends.field-0.ends.items) c.in_ok-placed.ensures.same.2 c.in_ok-ends.ensures.ends) c.in_ok-decided.decided.items c.as_slice-all.result.now c.in_ok-decided.ensures c.as_slice-all.ensures.value in
    f.decided

pub returns-clause-ample : goal.returns-clause-ample
returns-clause-ample g c =
    let f = facts (g.K.Keeper.tables c.args.self.now.keeper.now) c.args.goals.items c.in_ok-placed.placed.places.items c.in_ok-placed.placed.rest.items c.as_slice.result.now c.in_ok-placed.ensures.placed c.in_ok-placed.ensures.rest c.as_slice.ensures.value c.args.self.now.settings.budget c.in_ok-ends.field-0.ends.items (subst (λ (s : Settings). AllZip (IsShown s.budget) c.as_slice.result.now c.in_ok-ends.field-0.ends.items) c.in_ok-placed.ensures.same.2 c.in_ok-ends.ensures.ends) c.in_ok-decided.decided.items c.as_slice-all.result.now c.in_ok-decided.ensures c.as_slice-all.ensures.value in
    f.ample

pub returns-clause-kept_decides : goal.returns-clause-kept_decides
returns-clause-kept_decides g c =
    let f = facts (g.K.Keeper.tables c.args.self.now.keeper.now) c.args.goals.items c.in_ok-placed.placed.places.items c.in_ok-placed.placed.rest.items c.as_slice.result.now c.in_ok-placed.ensures.placed c.in_ok-placed.ensures.rest c.as_slice.ensures.value c.args.self.now.settings.budget c.in_ok-ends.field-0.ends.items (subst (λ (s : Settings). AllZip (IsShown s.budget) c.as_slice.result.now c.in_ok-ends.field-0.ends.items) c.in_ok-placed.ensures.same.2 c.in_ok-ends.ensures.ends) c.in_ok-decided.decided.items c.as_slice-all.result.now c.in_ok-decided.ensures c.as_slice-all.ensures.value in
    f.kept_decides

pub returns-clause-counts : goal.returns-clause-counts
returns-clause-counts g c =
    let f = facts (g.K.Keeper.tables c.args.self.now.keeper.now) c.args.goals.items c.in_ok-placed.placed.places.items c.in_ok-placed.placed.rest.items c.as_slice.result.now c.in_ok-placed.ensures.placed c.in_ok-placed.ensures.rest c.as_slice.ensures.value c.args.self.now.settings.budget c.in_ok-ends.field-0.ends.items (subst (λ (s : Settings). AllZip (IsShown s.budget) c.as_slice.result.now c.in_ok-ends.field-0.ends.items) c.in_ok-placed.ensures.same.2 c.in_ok-ends.ensures.ends) c.in_ok-decided.decided.items c.as_slice-all.result.now c.in_ok-decided.ensures c.as_slice-all.ensures.value in
    let counts = f.counts in omega (arith, counts, c.count_kept-kept.ensures, c.count_helped-helped.ensures, c.count_solved-solved.ensures)

pub returns-clause-kept : goal.returns-clause-kept
returns-clause-kept g c =
    let f = facts (g.K.Keeper.tables c.args.self.now.keeper.now) c.args.goals.items c.in_ok-placed.placed.places.items c.in_ok-placed.placed.rest.items c.as_slice.result.now c.in_ok-placed.ensures.placed c.in_ok-placed.ensures.rest c.as_slice.ensures.value c.args.self.now.settings.budget c.in_ok-ends.field-0.ends.items (subst (λ (s : Settings). AllZip (IsShown s.budget) c.as_slice.result.now c.in_ok-ends.field-0.ends.items) c.in_ok-placed.ensures.same.2 c.in_ok-ends.ensures.ends) c.in_ok-decided.decided.items c.as_slice-all.result.now c.in_ok-decided.ensures c.as_slice-all.ensures.value in
    subst (λ (n : ℕ). IfSome (g.K.Keeper.tables c.args.self.now.keeper.now) (λ t. CountsKept t (map ob_of c.args.goals.items) n)) (sym c.count_kept-kept.ensures) f.kept

pub returns-clause-draws : goal.returns-clause-draws
returns-clause-draws g c =
    let f = facts (g.K.Keeper.tables c.args.self.now.keeper.now) c.args.goals.items c.in_ok-placed.placed.places.items c.in_ok-placed.placed.rest.items c.as_slice.result.now c.in_ok-placed.ensures.placed c.in_ok-placed.ensures.rest c.as_slice.ensures.value c.args.self.now.settings.budget c.in_ok-ends.field-0.ends.items (subst (λ (s : Settings). AllZip (IsShown s.budget) c.as_slice.result.now c.in_ok-ends.field-0.ends.items) c.in_ok-placed.ensures.same.2 c.in_ok-ends.ensures.ends) c.in_ok-decided.decided.items c.as_slice-all.result.now c.in_ok-decided.ensures c.as_slice-all.ensures.value in
    c.in_ok-ends.ensures.draws ∙ (ap (λ (s : Settings). draws_of (length c.as_slice.result.now) s.workers) c.in_ok-placed.ensures.same.2 ∙ ap (λ (n : ℕ). draws_of n c.args.self.now.settings.workers) (sym (c.count_solved-solved.ensures ∙ f.worked)))

pub returns-clause-first : goal.returns-clause-first
returns-clause-first g c =
    let f = facts (g.K.Keeper.tables c.args.self.now.keeper.now) c.args.goals.items c.in_ok-placed.placed.places.items c.in_ok-placed.placed.rest.items c.as_slice.result.now c.in_ok-placed.ensures.placed c.in_ok-placed.ensures.rest c.as_slice.ensures.value c.args.self.now.settings.budget c.in_ok-ends.field-0.ends.items (subst (λ (s : Settings). AllZip (IsShown s.budget) c.as_slice.result.now c.in_ok-ends.field-0.ends.items) c.in_ok-placed.ensures.same.2 c.in_ok-ends.ensures.ends) c.in_ok-decided.decided.items c.as_slice-all.result.now c.in_ok-decided.ensures c.as_slice-all.ensures.value in
    first_rose _ _ _ _ (asked_are _ _ _ _ _ f.asked c.count_helped-helped.ensures c.count_solved-solved.ensures) c.in_ok-placed.ensures.first

pub returns-in_err-put_new-clause-proceeds : goal.returns-in_err-put_new-clause-proceeds
returns-in_err-put_new-clause-proceeds g c =
    let first = c.in_ok-placed.ensures.proceeds in
    record { keeper = rises_on _ _ _ _ _ first.keeper (record { later = c.in_err-put_new.ensures.faults.later; rose = λ f. c.in_err-put_new.ensures.faults.rose (search (rules, f)) }); helpers = first.helpers }

pub returns-clause-proceeds : goal.returns-clause-proceeds
returns-clause-proceeds g c =
    let first = c.in_ok-placed.ensures.proceeds in
    record { keeper = record { later = omega (arith, first.keeper.later, c.in_ok-put_new.ensures.faults.later); rose = λ f. absurd (search (rules, f)) }; helpers = first.helpers }
