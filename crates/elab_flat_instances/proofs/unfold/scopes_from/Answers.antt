use Rattle.std.proofs.Common.{◌≡◌, List, Some, sym, ap, subst, ◌∙◌}
use Rattle.std.specs.Prelude.{IfOk, IfErr}
use Rattle.std.specs.Option.{option_copied}
use Rattle.vlog_tree.specs.declared.module.Module.{Module}
use Rattle.vlog_tree_runs.specs.Places.{Name}
use Rattle.vlog_tree_runs.specs.Scopes.{module_at}
use Rattle.elab_flat_faults.specs.FlatStands.{Stands, IsRecursive, HasMore, Refuses}
use Rattle.elab_flat_instances.specs.Unfolding.{StandsAtTop}
use Rattle.elab_flat_instances.proofs.Children.{refuses_map}
use Rattle.elab_flat_instances.proofs.Tops.{top_stands, plain_of, whole}
use Rattle.elab_flat_instances.proofs.unfold.scopes_from.Goals as goal

pub top_recursion-requires : goal.top_recursion-requires
top_recursion-requires c =
    let top = c.args.top.now in
    (c.in-Some.text.now, ap (λ (ms : List Module). module_at ms top) (sym c.requires) ∙ (sym c.at.ensures ∙ ap option_copied c.in-Some.is))

pub returns-in-Err-clause-err : goal.returns-in-Err-clause-err
returns-in-Err-clause-err c =
    let ms = c.args.modules.now in
    let top = c.args.top.now in
    let m = c.in-Some.text.now in
    let there : module_at ms top ≡ Some m = ap (λ (ms : List Module). module_at ms top) (sym c.requires) ∙ (sym c.at.ensures ∙ ap option_copied c.in-Some.is) in
    refuses_map (StandsAtTop m) (Stands ms top) (top_stands ms top m there) c.in-Err.fault c.in-Err.ensures.err

pub unfold-requires-clause-plain : goal.unfold-requires-clause-plain
unfold-requires-clause-plain c =
    let top = c.args.top.now in
    subst (λ (ms : List Module). (path : List Name) → IsRecursive ms top path → ⊥) (sym c.requires)
    (plain_of c.args.modules.now top c.in_ok-name.field-0 c.in_ok-name.ensures c.in_default.not-Some)

pub returns-clause-none : goal.returns-clause-none
returns-clause-none c =
    let ms = c.args.modules.now in
    let top = c.args.top.now in
    let m = c.in-Some.text.now in
    let there : module_at ms top ≡ Some m = ap (λ (ms : List Module). module_at ms top) (sym c.requires) ∙ (sym c.at.ensures ∙ ap option_copied c.in-Some.is) in
    let few = subst (λ (xs : List Module). IfOk c.unfold.result (λ r. HasMore xs top 4096 → ⊥)) c.requires c.unfold.ensures.few in
    whole ms top m there (plain_of ms top c.in_ok-name.field-0 c.in_ok-name.ensures c.in_default.not-Some) c.unfold.result few

pub returns-clause-err : goal.returns-clause-err
returns-clause-err c =
    subst (λ (xs : List Module). IfErr c.unfold.result (Refuses (Stands xs c.args.top.now))) c.requires c.unfold.ensures.err
