use Rattle.std.proofs.Common.{◌≡◌, List, Bor, map, filter, refl, ap, ◌∙◌}
use Rattle.vlog_tree_runs.specs.Places.{Name}
use Rattle.vlog_tree_runs.specs.Contents.{Decl, decls_in, is_among}
use Rattle.elab_flat_scopes.specs.Borrowed.{name_meant, decl_meant}
use Rattle.elab_flat_scopes.specs.Finding.{decl_name}
use Rattle.elab_flat_faults.specs.Handed.{top_port}
use Rattle.elab_flat.proofs.Making.{next_made}
use Rattle.elab_flat.proofs.Ports.{port_is}
use Rattle.elab_flat.proofs.port.ports_of.Goals as goal

pub loop-name-preserved : goal.loop-name-preserved
loop-name-preserved c =
    let ds = decls_in c.args.text.now in
    let x = c.name-item.result in
    let outs = c.in_ok-outputs.outputs in
    let outputs : outs ≡ map decl_name (filter (λ (d : Decl). d.output) ds) =
    c.in_ok-outputs.ensures
    ∙ (c.in_ok-output_names.ensures ∙ ap (λ (zs : List Decl). map decl_name (filter (λ (d : Decl). d.output) zs)) (ap (map decl_meant) c.deref.ensures.value ∙ c.in_ok-decls.ensures)) in
    let named : c.in_ok-copy.field-0 ≡ x.now = c.in_ok-copy.ensures ∙ c.bytes.ensures in
    let is : c.has.result ≡ is_among outs x.now = c.has.ensures ∙ ap (is_among outs) c.bytes-in-loop-name.ensures in
    next_made (λ (xs : List (Bor Name)). map (top_port ds) (map name_meant xs)) (λ (v : Bor Name). top_port ds v.now) (λ v xs. refl) c.deref-name-items.result.now c.loop-name.name-index x
    c.loop-name-test.true c.name-item.is c.loop-name.ports _ c.push.new.self _ c.loop-name.invariant (port_is ds x.now c.in_ok-copy.field-0 outs c.has.result named outputs is) c.in_ok-push.ensures.ok
