use Rattle.std.proofs.Common.{arith, refl}
use Rattle.elab_step_copies.proofs.Forgetting.{forgetting_less, forgetting_next, forgetting_start, top_stacked}
use Rattle.elab_step_copies.proofs.copier.Copier.forget.Goals as goal

pub loop-top-init : goal.loop-top-init
loop-top-init c = forgetting_start c.args.self.now c.args.numbers.items c.requires.network c.requires.numbers

pub index_mut-requires : goal.index_mut-requires
index_mut-requires c =
    let h = c.loop-top.invariant in
    let lt = h.stacked c.in-Some.top (top_stacked c.loop-top.stack.items c.pop.new.self.items c.in-Some.top c.in-Some.ensures.items) in
    let long = h.long in
    omega (arith, lt, long, c.loop-top.self.copies.ok)

pub take_list-requires : goal.take_list-requires
take_list-requires c =
    let h = c.loop-top.invariant in
    let lt = h.stacked c.in-Some.top (top_stacked c.loop-top.stack.items c.pop.new.self.items c.in-Some.top c.in-Some.ensures.items) in
    let long = h.readers_long in
    omega (arith, lt, long)

pub loop-top-smaller : goal.loop-top-smaller
loop-top-smaller c =
    let h = c.loop-top.invariant in
    let lt = h.stacked c.in-Some.top (top_stacked c.loop-top.stack.items c.pop.new.self.items c.in-Some.top c.in-Some.ensures.items) in
    let long = h.readers_long in
    forgetting_less c.loop-top.self.readers.items c.take_list.new.lists.items c.loop-top.stack.items c.pop.new.self.items c.take_list.new.all.items c.in-Some.top (omega (arith, lt, long)) c.in-Some.ensures.items
    c.in_ok-take_list.ensures.lists c.in_ok-take_list.ensures.all

pub loop-top-preserved : goal.loop-top-preserved
loop-top-preserved c =
    forgetting_next c.args.self.now c.loop-top.self _ c.args.numbers.items c.loop-top.stack.items c.pop.new.self.items c.take_list.new.all.items c.in-Some.top c.loop-top.invariant c.in-Some.ensures.items refl refl refl
    c.in_ok-take_list.ensures.lists c.in_ok-take_list.ensures.all
