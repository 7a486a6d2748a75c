use Rattle.std.proofs.Common.{◌<◌, length, get_or, sym, ap, ◌∙◌, arith}
use Rattle.elab_step_flow.specs.Sets.{tables, is_open}
use Rattle.elab_step_flow.proofs.Counting.{counted_open, counted_set}
use Rattle.elab_step_flow.proofs.Spotting.{row_copied}
use Rattle.elab_step_flow.proofs.flow.add_count.Goals as goal

pub returns-in_ok-push : goal.returns-in_ok-push
returns-in_ok-push c =
    let place = c.args.place in
    let rows = c.args.flow.now.through.items in
    let lines : place < length rows = omega (arith, c.requires.sized.through, c.requires.within) in
    let row = c.deref.ensures.value ∙ row_copied rows place c.index.result.now _ lines c.index.ensures in
    let open' = sym (c.is_open.ensures ∙ ap (λ z. is_open (get_or z place 0)) c.deref-2.ensures.value) ∙ c.if-is_open.true in
    counted_open (tables c.args.flow.now) place c.args.all.now.items c.extend_from_slice.new.self.items c.deref.result.now row c.in_ok-extend_from_slice.ensures.items c.push.new.self.items open' c.in_ok-push.ensures.items

pub returns-else-is_open : goal.returns-else-is_open
returns-else-is_open c =
    let place = c.args.place in
    let rows = c.args.flow.now.through.items in
    let lines : place < length rows = omega (arith, c.requires.sized.through, c.requires.within) in
    let row = c.deref.ensures.value ∙ row_copied rows place c.index.result.now _ lines c.index.ensures in
    let all_set = sym (c.is_open.ensures ∙ ap (λ z. is_open (get_or z place 0)) c.deref-2.ensures.value) ∙ c.if-is_open.false in
    counted_set (tables c.args.flow.now) place c.args.all.now.items c.extend_from_slice.new.self.items c.deref.result.now row c.in_ok-extend_from_slice.ensures.items all_set
