use Rattle.std.proofs.Common.{◌≡◌, map, length, vec_len, rules, true, false, sym, ap, ◌∙◌}
use Rattle.std.proofs.lemmas.List.{length-map}
use Rattle.vlog_tree_runs.specs.Contents.{port_names}
use Rattle.elab_flat_faults.specs.Texts.{arg_names}
use Rattle.elab_flat_scopes.specs.Borrowed.{name_meant, inner_meant}
use Rattle.elab_flat_names.proofs.Searches.{lacks_none, repeats_none}
use Rattle.elab_flat_names.proofs.inner.check_named.Goals as goal

pub returns-clause-ok : goal.returns-clause-ok
returns-clause-ok c =
    let i = inner_meant c.args.inner.now in
    let m = c.args.text.now in
    let items = c.in_ok-ports.ports.items in
    let long : vec_len c.in_ok-ports.ports ≡ length items = search rules in
    let count : length (port_names m) ≡ c.len.result = ap length (sym c.in_ok-ports.ensures) ∙ (length-map items name_meant ∙ (sym long ∙ sym c.len.ensures)) in
    record {
      named = lacks_none _ (arg_names i.args) _ (port_names m) (ap (map name_meant) c.deref-2.ensures.value ∙ c.in_ok-names.ensures) (c.in_ok-ports-2.ensures ∙ c.in_ok-ports.ensures) c.absent.result c.absent.ensures c.in_default-absent.not-Some;
      all_ports = λ h. let z : true ≡ false = sym ((c.misses.ensures (port_names m) count).1 h) ∙ c.if-misses.false in cc;
      once = repeats_none _ (arg_names i.args) (ap (map name_meant) c.deref.ensures.value ∙ c.in_ok-names.ensures) c.in_ok-name-2.field-0 c.in_ok-name-2.ensures c.in_default.not-Some;
    }
