use Rattle.std.proofs.Common.{List, inl, map, sym, subst, ◌∙◌}
use Rattle.std.specs.Prelude.{IfOk, IfErr}
use Rattle.vlog_tree.specs.declared.module.Module.{Module}
use Rattle.elab_flat_faults.specs.declared.flattening.FlatFault.{FlatFault}
use Rattle.elab_flat_faults.specs.Declaring.{Repeats}
use Rattle.elab_flat_faults.specs.FlatStands.{Stands, Refuses}
use Rattle.elab_flat_laws.specs.Flattened.{KeepsRuns}
use Rattle.elab_flat_scopes.specs.Finding.{module_name}
use Rattle.elab_flat_instances.specs.Unfolding.{IsOfWhole}
use Rattle.elab_flat_names.proofs.Searches.{if_ok, one_found}
use Rattle.elab_flat_faults.specs.Handed.{IsFlattened}
use Rattle.elab_flat.proofs.Whole.{flattened_runs}
use Rattle.elab_flat.proofs.hierarchy.flatten.Goals as goal

pub returns-in-Some-clause-err : goal.returns-in-Some-clause-err
returns-in-Some-clause-err c =
    let ms = c.args.modules.now in
    let found = one_found (Repeats (map module_name ms)) c.in_ok-name.field-0 c.in-Some.name c.in_ok-name.ensures c.in-Some.is in
    inl (subst (Repeats (map module_name ms)) (sym (c.in_ok-copy.ensures ∙ c.bytes.ensures)) found)

pub flat_of-requires-clause-whole : goal.flat_of-requires-clause-whole
flat_of-requires-clause-whole c =
    subst (λ (xs : List Module). (fault : FlatFault) → IsOfWhole fault → Stands xs c.args.top.now fault → ⊥) (sym c.in_ok-all.ensures) c.in-Ok.ensures.none

pub returns-clause-runs : goal.returns-clause-runs
returns-clause-runs c =
    let ms = c.args.modules.now in
    let top = c.args.top.now in
    let texts = subst (λ (xs : List Module). IfOk c.flat_of.result (λ f. IsFlattened xs top f)) c.in_ok-all.ensures c.flat_of.ensures.texts in
    if_ok c.flat_of.result (λ f. IsFlattened ms top f) (λ f. KeepsRuns ms top f) (λ f h. flattened_runs ms top f h) texts

pub returns-clause-none : goal.returns-clause-none
returns-clause-none c =
    subst (λ (xs : List Module). IfOk c.flat_of.result (λ f. (fault : FlatFault) → Stands xs c.args.top.now fault → ⊥)) c.in_ok-all.ensures c.flat_of.ensures.none

pub returns-clause-err : goal.returns-clause-err
returns-clause-err c = subst (λ (xs : List Module). IfErr c.flat_of.result (Refuses (Stands xs c.args.top.now))) c.in_ok-all.ensures c.flat_of.ensures.err
