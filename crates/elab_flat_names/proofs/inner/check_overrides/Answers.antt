use Rattle.std.proofs.Common.{◌≡◌, ◌++◌, inl, inr, map, length, vec_len, rules, true, false, sym, ap, ◌∙◌}
use Rattle.std.proofs.lemmas.List.{length-map}
use Rattle.vlog_tree_runs.specs.Places.{Name}
use Rattle.elab_flat_faults.specs.Declaring.{open_params}
use Rattle.elab_flat_faults.specs.FlatStands.{inside, full}
use Rattle.elab_flat_faults.specs.Texts.{arg_names}
use Rattle.elab_flat_scopes.specs.Borrowed.{name_meant, inner_meant}
use Rattle.elab_flat_instances.specs.Unfolding.{scope_meant}
use Rattle.elab_flat_names.proofs.Searches.{lacks_none, repeats_none, one_lacks}
use Rattle.elab_flat_names.proofs.inner.check_overrides.Goals as goal

pub returns-then-overshoots-clause-err : goal.returns-then-overshoots-clause-err
returns-then-overshoots-clause-err c = λ ms there path.
    let s = scope_meant c.args.scope.now in
    let i = inner_meant c.args.inner.now in
    let m = c.args.text.now in
    let items = c.in_ok-open.open.items in
    let long : vec_len c.in_ok-open.open ≡ length items = search rules in
    let count : length (open_params m) ≡ c.len.result = ap length (sym c.in_ok-open.ensures) ∙ (length-map items name_meant ∙ (sym long ∙ sym c.len.ensures)) in
    let is : c.in_ok-name.name ≡ full s i.name =
    c.in_ok-name.ensures ∙ (ap (λ (p : Name). p ++ c.bytes-then-overshoots.result.now) c.bytes.ensures ∙ ap (λ (x : Name). s.prefix ++ x) c.bytes-then-overshoots.ensures) in
    inr (i, c.requires, m, there, inr (inr ((c.overshoots.ensures (open_params m) count).0 c.if-overshoots.true, is)))

pub returns-in-Some-absent-clause-err : goal.returns-in-Some-absent-clause-err
returns-in-Some-absent-clause-err c = λ ms there path.
    let s = scope_meant c.args.scope.now in
    let i = inner_meant c.args.inner.now in
    let m = c.args.text.now in
    let h = one_lacks _ (arg_names i.overrides) _ (open_params m) (ap (map name_meant) c.deref-2.ensures.value ∙ c.in_ok-names.ensures) (c.in_ok-open-2.ensures ∙ c.in_ok-open.ensures) c.absent.result c.in-Some-absent.name c.absent.ensures c.in-Some-absent.is in
    let is : c.in_ok-name-4.name ≡ inside s i c.in-Some-absent.name.now = c.in_ok-name-4.ensures ∙ ap (inside s i) c.bytes-in-Some-absent.ensures in
    inr (i, c.requires, m, there, inr (inl (c.in-Some-absent.name.now, h.0, h.1, is)))

pub returns-clause-ok : goal.returns-clause-ok
returns-clause-ok c =
    let i = inner_meant c.args.inner.now in
    let m = c.args.text.now in
    let items = c.in_ok-open.open.items in
    let long : vec_len c.in_ok-open.open ≡ length items = search rules in
    let count : length (open_params m) ≡ c.len.result = ap length (sym c.in_ok-open.ensures) ∙ (length-map items name_meant ∙ (sym long ∙ sym c.len.ensures)) in
    record {
      named = lacks_none _ (arg_names i.overrides) _ (open_params m) (ap (map name_meant) c.deref-2.ensures.value ∙ c.in_ok-names.ensures) (c.in_ok-open-2.ensures ∙ c.in_ok-open.ensures) c.absent.result c.absent.ensures c.in_default-absent.not-Some;
      few = λ h. let z : true ≡ false = sym ((c.overshoots.ensures (open_params m) count).1 h) ∙ c.if-overshoots.false in cc;
      once = repeats_none _ (arg_names i.overrides) (ap (map name_meant) c.deref.ensures.value ∙ c.in_ok-names.ensures) c.in_ok-name-2.field-0 c.in_ok-name-2.ensures c.in_default.not-Some;
    }
