use Rattle.std.proofs.Common.{◌≡◌, ◌++◌, ◌<◌, Some, length, ap, sym, ◌∙◌, arith}
use Rattle.elab_flat_scopes.specs.Finding.{place_in}
use Rattle.elab_step.proofs.Making.{place_below, input_made}
use Rattle.elab_step.proofs.parts.add_input.Goals as goal

pub leaf-leaf-requires : goal.leaf-leaf-requires
leaf-leaf-requires c =
    let e : place_in c.args.names.now c.bytes.result.now ≡ Some c.in-Some.place = sym c.place.ensures ∙ c.in-Some.is in
    let r = place_below c.args.names.now c.bytes.result.now 0 c.in-Some.place e in
    omega (arith, r, c.requires)

pub returns-in_ok-push : goal.returns-in_ok-push
returns-in_ok-push c =
    let names = c.args.names.now in
    let ls = c.args.begun.now in
    let p = c.args.port.now in
    let e : place_in names c.bytes.result.now ≡ Some c.in-Some.place = sym c.place.ensures ∙ c.in-Some.is in
    let r = place_below names c.bytes.result.now 0 c.in-Some.place e in
    let lt : c.in-Some.place < length ls = omega (arith, r, c.requires) in
    c.in_ok-push.ensures.items
    ∙ ap (λ z. c.args.all.now.items ++ z)
    (input_made names ls p c.in-Some.place c.leaf-leaf.result.now c.in_ok-net.field-0 c.if-port.false (ap (λ z. place_in names z) (sym c.bytes.ensures) ∙ e) lt c.leaf-leaf.ensures c.in_ok-net.ensures)
