use Rattle.std.proofs.Common.{arith, ◌+◌, ◌≤◌, ◌<◌, List, length, drop, get_or, refl, sym, subst}
use Rattle.elab_step_expr.specs.declared.leaves.Leaf.{Leaf}
use Rattle.elab_step_expr.proofs.Kept.{keeps_then, made_node, made_number}
use Rattle.vlog_tree_runs.specs.declared.flat.Flat.{Flat}
use Rattle.vlog_tree.specs.declared.stmt.Stmt.{Stmt}
use Rattle.vlog_tree_runs.specs.Places.{Name}
use Rattle.elab_step_nets.specs.Boards.{IsProcess, statements, picked, names_of}
use Rattle.elab_step_copies.proofs.Forgetting.{number_among}
use Rattle.elab_step_nets.proofs.Boards.{leaf_wide, each_within, picked_at, picked_all, names_at, names_all, Clearing, clearing_start, clearing_next}
use Rattle.elab_step_nets.proofs.Driving.{Settles, cleared_moved, settles_can, settles_end, settles_next, settles_start, sound_moved, within_moved}
use Rattle.elab_step_nets.proofs.nets.settle.Goals as goal

pub leaf-requires : goal.leaf-requires
leaf-requires c =
    let is = c.args.nets.now in
    let w = each_within c.args.state.now is c.requires.ready.within (get_or is c.loop-net.net-index 0) (number_among is c.loop-net.net-index 0 (omega arith)) in
    let n = c.loop-net.invariant.long in
    omega (arith, w, n)

pub zero-requires-clause-some : goal.zero-requires-clause-some
zero-requires-clause-some c =
    let is = c.args.nets.now in
    let w = each_within c.args.state.now is c.requires.ready.within (get_or is c.loop-net.net-index 0) (number_among is c.loop-net.net-index 0 (omega arith)) in
    let n = c.loop-net.invariant.long in
    (leaf_wide c.loop-net.state c.loop-net.dag (get_or is c.loop-net.net-index 0) c.leaf.result.now c.loop-net.invariant.board.ready (omega (arith, w, n)) c.leaf.ensures).0

pub zero-requires-clause-most : goal.zero-requires-clause-most
zero-requires-clause-most c =
    let is = c.args.nets.now in
    let w = each_within c.args.state.now is c.requires.ready.within (get_or is c.loop-net.net-index 0) (number_among is c.loop-net.net-index 0 (omega arith)) in
    let n = c.loop-net.invariant.long in
    (leaf_wide c.loop-net.state c.loop-net.dag (get_or is c.loop-net.net-index 0) c.leaf.result.now c.loop-net.invariant.board.ready (omega (arith, w, n)) c.leaf.ensures).1

pub set_node-requires : goal.set_node-requires
set_node-requires c =
    let is = c.args.nets.now in
    let w = each_within c.args.state.now is c.requires.ready.within (get_or is c.loop-net.net-index 0) (number_among is c.loop-net.net-index 0 (omega arith)) in
    let n = c.loop-net.invariant.long in
    omega (arith, w, n)

pub returns-in_err-node-clause-keeps : goal.returns-in_err-node-clause-keeps
returns-in_err-node-clause-keeps c = keeps_then c.args.dag.now c.loop-net.dag c.zero.new.dag c.loop-net.invariant.keeps c.zero.ensures.keeps

pub loop-net-init : goal.loop-net-init
loop-net-init c =
    let f = c.args.text.now.flat.now in
    clearing_start f (names_of f.signals c.args.nets.now) c.args.state.now c.args.dag.now c.requires.ready.board

pub loop-net-preserved : goal.loop-net-preserved
loop-net-preserved c =
    let f = c.args.text.now.flat.now in
    let gs = f.signals in
    let is = c.args.nets.now in
    let k = c.loop-net.net-index in
    let i = get_or is k 0 in
    let all = names_of gs is in
    let rest = names_of gs (drop (k + 1) is) in
    let ls = c.args.state.now in
    let a = c.args.dag.now in
    let ms = c.loop-net.state in
    let l = c.leaf.result.now in
    let lt : k < length is = omega arith in
    let m = number_among is k 0 lt in
    let w = each_within ls is c.requires.ready.within i m in
    let n = c.loop-net.invariant.long in
    let P : List Name → Type 0 = λ z. Clearing f all z ls a ms c.loop-net.dag in
    let Q : List Leaf → Type 0 = λ z. Clearing f all rest ls a z c.zero.new.dag in
    subst Q (sym c.set_node.ensures)
    (clearing_next f all rest i c.in_ok-node.node l ls ms a c.loop-net.dag c.zero.new.dag (subst P (names_at gs is k i 0 lt refl) c.loop-net.invariant) c.in_ok-node.ensures.keeps (omega (arith, w, n)) c.leaf.ensures
    (made_node c.zero.new.dag c.in_ok-node.node l.width (λ e. 0) c.in_ok-node.ensures.makes) (λ e. made_number e c.zero.new.dag c.in_ok-node.node l.width (λ k. 0) c.in_ok-node.ensures.makes))

pub renew-requires-clause-sound : goal.renew-requires-clause-sound
renew-requires-clause-sound c = sound_moved c.args.text.now c.args.state.now c.loop-net.state c.args.dag.now c.requires.ready.processes c.loop-net.invariant.long

pub renew-requires-clause-nets : goal.renew-requires-clause-nets
renew-requires-clause-nets c = within_moved c.args.state.now c.loop-net.state c.args.nets.now c.loop-net.invariant.long c.requires.ready.within

pub loop-place-init : goal.loop-place-init
loop-place-init c =
    let p = c.args.text.now in
    let f = p.flat.now in
    let is = c.args.nets.now in
    let ls = c.args.state.now in
    let a = c.args.dag.now in
    let ms = c.loop-net.state in
    let b = c.loop-net.dag in
    let le : length is ≤ c.loop-net.net-index = omega arith in
    let P : List Name → Type 0 = λ z. Clearing f (names_of f.signals is) z ls a ms b in
    let clear = subst P (names_all f.signals is c.loop-net.net-index le) c.loop-net.invariant in
    let moved = cleared_moved f is ls ms a b c.requires.ready.board c.requires.ready.within clear in
    settles_start p c.renew.new.self (picked (statements f) c.args.places.now) (names_of f.signals is) ls ms a b clear c.in_ok-renew.ensures.same (c.in_ok-renew.ensures.processes ls a b c.requires.ready.processes moved)

pub drive-requires-clause-ready : goal.drive-requires-clause-ready
drive-requires-clause-ready c =
    let p = c.args.text.now in
    let f = p.flat.now in
    let is = c.args.nets.now in
    let ks = statements f in
    settles_can p c.loop-place.text is (picked ks c.args.places.now) (picked ks (drop c.loop-place.place-index c.args.places.now)) (names_of f.signals is) c.args.state.now c.loop-place.state c.args.dag.now c.loop-place.dag c.requires.ready c.loop-place.invariant

pub drive-requires-clause-process : goal.drive-requires-clause-process
drive-requires-clause-process c =
    let is = c.args.places.now in
    let i = get_or is c.loop-place.place-index 0 in
    let P : Flat → Type 0 = λ z. IsProcess z i in
    subst P (sym c.loop-place.invariant.same.flat) (c.requires.places i (number_among is c.loop-place.place-index 0 (omega arith)))

pub returns-in_err-renew-clause-keeps : goal.returns-in_err-renew-clause-keeps
returns-in_err-renew-clause-keeps c = c.loop-net.invariant.keeps

pub returns-in_err-drive-clause-keeps : goal.returns-in_err-drive-clause-keeps
returns-in_err-drive-clause-keeps c = keeps_then c.args.dag.now c.loop-place.dag c.drive.new.dag c.loop-place.invariant.settling.keeps c.drive.ensures.keeps

pub loop-place-preserved : goal.loop-place-preserved
loop-place-preserved c =
    let p = c.args.text.now in
    let q = c.loop-place.text in
    let r = c.drive.new.text in
    let ks = statements p.flat.now in
    let is = c.args.places.now in
    let all = picked ks is in
    let xs = names_of p.flat.now.signals c.args.nets.now in
    let i = c.loop-place.place-index in
    let lt : i < length is = omega arith in
    let P : List Stmt → Type 0 = λ z. Settles p q all xs z c.args.state.now c.args.dag.now c.loop-place.state c.loop-place.dag in
    settles_next p q r all (picked ks (drop (i + 1) is)) c.args.nets.now (get_or is i 0) c.args.state.now c.loop-place.state c.drive.new.state c.args.dag.now c.loop-place.dag c.drive.new.dag
    (subst P (picked_at ks is i (get_or is i 0) 0 lt refl) c.loop-place.invariant) c.in_ok-drive.ensures.keeps c.in_ok-drive.ensures.driven

pub returns-clause-driven : goal.returns-clause-driven
returns-clause-driven c =
    let p = c.args.text.now in
    let f = p.flat.now in
    let ks = statements f in
    let is = c.args.places.now in
    let all = picked ks is in
    let xs = names_of f.signals c.args.nets.now in
    let le : length is ≤ c.loop-place.place-index = omega arith in
    let P : List Stmt → Type 0 = λ z. Settles p c.loop-place.text all xs z c.args.state.now c.args.dag.now c.loop-place.state c.loop-place.dag in
    settles_end p c.loop-place.text all xs c.args.state.now c.loop-place.state c.args.dag.now c.loop-place.dag (subst P (picked_all ks is c.loop-place.place-index le) c.loop-place.invariant)
