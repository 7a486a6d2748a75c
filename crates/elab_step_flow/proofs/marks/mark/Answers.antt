use Rattle.std.proofs.Common.{◌≡◌, ◌+◌, ◌<◌, length, sym, ap, ◌∙◌, arith}
use Rattle.elab_flat_scopes.specs.Finding.{place_in}
use Rattle.elab_step_flow.proofs.Marking.{place_below, adds_found}
use Rattle.elab_step_flow.proofs.marks.mark.Goals as goal

pub bounds-set-place : goal.bounds-set-place
bounds-set-place c =
    let found = ap (place_in c.args.names.now) (sym c.bytes.ensures) ∙ sym c.in-Some.ensures in
    let below : c.in-Some.place < 0 + length c.args.names.now = place_below 0 c.args.names.now c.args.name.now c.in-Some.place found in
    let same : length c.args.set.now ≡ length c.args.names.now = c.requires in
    omega arith

pub returns-in-Some : goal.returns-in-Some
returns-in-Some c =
    let found = ap (place_in c.args.names.now) (sym c.bytes.ensures) ∙ sym c.in-Some.ensures in
    adds_found c.args.names.now c.args.name.now c.args.set.now c.in-Some.place c.requires found
