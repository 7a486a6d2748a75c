use Rattle.std.proofs.Common.{map, sym, ap, subst, ◌∙◌}
use Rattle.std.specs.Prelude.{OnOk, IfErr, List}
use Rattle.std.specs.List.{flat_map}
use Rattle.vlog_tree.specs.declared.item.Assign.{Assign}
use Rattle.vlog_tree.specs.declared.valuation.Entry.{Entry}
use Rattle.vlog_tree_runs.specs.Scopes.{place_of}
use Rattle.elab_flat_faults.specs.Constants.{alone, compared}
use Rattle.elab_flat_faults.specs.Texts.{Compared}
use Rattle.elab_flat_params.specs.Constants.{is_known}
use Rattle.elab_flat_instances.specs.Unfolding.{scope_meant}
use Rattle.elab_flat_drivers.specs.Parts.{part_meant}
use Rattle.elab_flat_drivers.proofs.Growing.{ok_then}
use Rattle.elab_flat_widths.specs.declared.side.Side.TheVariants as d
use Rattle.elab_flat_widths.specs.declared.site.Site.{Site}
use Rattle.elab_flat_widths.specs.Taken.{AllSound, Breaks, SomeBreaks, Fails}
use Rattle.elab_flat_widths.specs.Stores.{IsSoundTo, BreaksTo, IsSoundStore, BreaksStore}
use Rattle.elab_flat_widths.specs.Usages.{item_labels, UsesSignals, IsSoundUsage, BreaksUsage}
use Rattle.elab_flat_widths.specs.Sites.{site_meant}
use Rattle.elab_flat_widths.proofs.Takes.{if_err, fails_map}
use Rattle.elab_flat_widths.proofs.Stores.{store_sound, store_breaks}
use Rattle.elab_flat_widths.proofs.block.check_site.Goals as goal

pub returns-in-Test-clause-err : goal.returns-in-Test-clause-err
returns-in-Test-clause-err c =
    let p = place_of (scope_meant c.args.scope.now) in
    let test = is_known c.args.scope.now.params in
    let r = c.check_alone.result in
    let a = c.in-Test.expr.now in
    subst (λ (z : Site). IfErr r (Fails (BreaksUsage p (site_meant z)))) (sym c.in-Test.is) (subst (λ (v : List Entry). IfErr r (Fails (Breaks test v (alone v a)))) c.requires.rest c.check_alone.ensures.err)

pub returns-in-Cases-clause-ok : goal.returns-in-Cases-clause-ok
returns-in-Cases-clause-ok c =
    let p = place_of (scope_meant c.args.scope.now) in
    let test = is_known c.args.scope.now.params in
    let r = c.check_cases.result in
    let k : Compared = record { value = c.in-Cases.subject.now; labels = flat_map item_labels c.in-Cases.items.now } in
    subst (λ (z : Site). OnOk r (IsSoundUsage p (site_meant z))) (sym c.in-Cases.is) (subst (λ (v : List Entry). OnOk r (AllSound test v (compared v k))) c.requires.rest c.check_cases.ensures.ok)

pub returns-in-Cases-clause-err : goal.returns-in-Cases-clause-err
returns-in-Cases-clause-err c =
    let p = place_of (scope_meant c.args.scope.now) in
    let test = is_known c.args.scope.now.params in
    let r = c.check_cases.result in
    let k : Compared = record { value = c.in-Cases.subject.now; labels = flat_map item_labels c.in-Cases.items.now } in
    subst (λ (z : Site). IfErr r (Fails (BreaksUsage p (site_meant z)))) (sym c.in-Cases.is) (subst (λ (v : List Entry). IfErr r (Fails (SomeBreaks test v (compared v k)))) c.requires.rest c.check_cases.ensures.err)

pub returns-in_ok-parts-in-Store-clause-ok : goal.returns-in_ok-parts-in-Store-clause-ok
returns-in_ok-parts-in-Store-clause-ok c =
    let p = place_of (scope_meant c.args.scope.now) in
    let test = is_known c.args.scope.now.params in
    let r = c.check.result in
    let a : Assign = record { left = c.in-Store.left.now; right = c.in-Store.right.now } in
    let qs = map part_meant c.deref.result.now in
    subst (λ (z : Site). OnOk r (IsSoundUsage p (site_meant z))) (sym c.in-Store.is)
    (ok_then r (IsSoundTo d.Procedural test c.args.rest.now qs a.right) (IsSoundStore d.Procedural p a) c.check.ensures.ok
    (store_sound d.Procedural p a qs c.args.rest.now (ap (map part_meant) c.deref.ensures.value ∙ c.in_ok-parts-in-Store.ensures) c.requires.rest))

pub returns-in_ok-parts-in-Store-clause-err : goal.returns-in_ok-parts-in-Store-clause-err
returns-in_ok-parts-in-Store-clause-err c =
    let p = place_of (scope_meant c.args.scope.now) in
    let test = is_known c.args.scope.now.params in
    let r = c.check.result in
    let a : Assign = record { left = c.in-Store.left.now; right = c.in-Store.right.now } in
    let qs = map part_meant c.deref.result.now in
    let names = subst (λ (z : Site). UsesSignals p (site_meant z)) c.in-Store.is c.requires.signals in
    subst (λ (z : Site). IfErr r (Fails (BreaksUsage p (site_meant z)))) (sym c.in-Store.is)
    (if_err r (Fails (BreaksTo d.Procedural test c.args.rest.now qs a.right)) (Fails (BreaksStore d.Procedural p a))
    (fails_map (BreaksTo d.Procedural test c.args.rest.now qs a.right) (BreaksStore d.Procedural p a)
    (store_breaks d.Procedural p a qs c.args.rest.now (ap (map part_meant) c.deref.ensures.value ∙ c.in_ok-parts-in-Store.ensures) c.requires.rest names)) c.check.ensures.err)
