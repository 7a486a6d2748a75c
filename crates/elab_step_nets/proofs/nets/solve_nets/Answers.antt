use Rattle.std.proofs.Common.{arith, ◌≡◌, ◌+◌, ◌<◌, ◌≤◌, ℕ, List, length, drop, ap, sym, ◌∙◌, subst, ◌∷◌}
use Rattle.vlog_tree_runs.specs.declared.flat.Flat.{Flat}
use Rattle.vlog_tree_runs.specs.Places.{Name, Among}
use Rattle.elab_step_blocks.specs.Saving.{AreWithin}
use Rattle.elab_step_nets.specs.Boards.{IsProcess, statements, picked, names_of, groups_of, list_in}
use Rattle.elab_step_nets.specs.Solving.{processes, drivers_in}
use Rattle.elab_step_expr.proofs.Kept.{keeps_then}
use Rattle.elab_step_nets.proofs.Boards.{Solving, all_within, group_at, groups_at, groups_all, places_in, places_long, leaves_long, solving_end}
use Rattle.elab_step_nets.proofs.Driving.{rounds_can, rounds_next, rounds_start}
use Rattle.elab_step_nets.proofs.nets.solve_nets.Goals as goal

pub loop-i-init : goal.loop-i-init
loop-i-init c =
    let ls = c.args.state.now in
    let a = c.args.dag.now in
    let made = c.in_ok-text.ensures in
    rounds_start c.args.flat.now c.in_ok-text.text c.args.groups.now ls a made.flat (made.ready ls a c.requires.board) c.requires.board

pub list_of-requires : goal.list_of-requires
list_of-requires c i m =
    let vs = c.args.groups.now in
    let v = c.index-groups-i.result in
    let lt : c.loop-i.i < length vs = omega arith in
    c.requires.groups v i (group_at vs c.loop-i.i v _ lt c.index-groups-i.is) (subst (λ z. Among z i) c.as_slice-nets.ensures.value m)

pub settle-requires-clause-places : goal.settle-requires-clause-places
settle-requires-clause-places c i m =
    let f = c.args.flat.now in
    let vs = c.args.groups.now in
    let v = c.index-groups-i.result in
    let lt : c.loop-i.i < length vs = omega arith in
    let is : c.list_of.result.now ≡ list_in c.args.places.now v.items = c.list_of.ensures ∙ ap (list_in c.args.places.now) c.as_slice-nets.ensures.value in
    let own : IsProcess f i = (places_in f f.signals c.args.places.now v.items c.requires.places (λ k n. c.requires.groups v k (group_at vs c.loop-i.i v _ lt c.index-groups-i.is) n)).0 i (subst (λ z. Among z i) is m) in
    subst (λ (z : Flat). IsProcess z i) (sym c.loop-i.invariant.flat) own

pub settle-requires-clause-ready : goal.settle-requires-clause-ready
settle-requires-clause-ready c =
    let f = c.args.flat.now in
    let vs = c.args.groups.now in
    let v = c.index-groups-i.result in
    let ls = c.loop-i.state in
    let lt : c.loop-i.i < length vs = omega arith in
    let p = places_long f f.signals c.args.places.now c.requires.places in
    let n = leaves_long f.signals ls c.loop-i.invariant.solving.board.leaves in
    let P : List ℕ → Type 0 = λ z. AreWithin ls z in
    let within = subst P (sym c.as_slice-nets.ensures.value) (all_within ls v.items (λ i m. let r = c.requires.groups v i (group_at vs c.loop-i.i v _ lt c.index-groups-i.is) m in omega (arith, r, p, n))) in
    rounds_can f c.loop-i.text vs c.loop-i.i c.as_slice-nets.result.now c.args.state.now ls c.args.dag.now c.loop-i.dag c.requires.can within c.loop-i.invariant

pub returns-in_err-settle-clause-keeps : goal.returns-in_err-settle-clause-keeps
returns-in_err-settle-clause-keeps c = keeps_then c.args.dag.now c.loop-i.dag c.settle.new.dag c.loop-i.invariant.solving.keeps c.settle.ensures.keeps

pub loop-i-preserved : goal.loop-i-preserved
loop-i-preserved c =
    let f = c.args.flat.now in
    let gs = f.signals in
    let vs = c.args.groups.now in
    let i = c.loop-i.i in
    let v = c.index-groups-i.result in
    let lt : i < length vs = omega arith in
    let nets : c.as_slice-nets.result.now ≡ v.items = c.as_slice-nets.ensures.value in
    let is : c.list_of.result.now ≡ list_in c.args.places.now v.items = c.list_of.ensures ∙ ap (list_in c.args.places.now) nets in
    let r = places_in f gs c.args.places.now v.items c.requires.places (λ k n. c.requires.groups v k (group_at vs i v _ lt c.index-groups-i.is) n) in
    let rest = groups_of gs (drop (i + 1) vs) in
    let e : picked (statements f) c.list_of.result.now ≡ drivers_in (processes f) (names_of gs c.as_slice-nets.result.now) = ap (picked (statements f)) is ∙ r.1 ∙ ap (λ z. drivers_in (processes f) (names_of gs z)) (sym nets) in
    let cut : groups_of gs (drop i vs) ≡ names_of gs c.as_slice-nets.result.now ∷ rest = groups_at gs vs i v _ lt c.index-groups-i.is ∙ ap (λ z. names_of gs z ∷ rest) (sym nets) in
    let now = c.in_ok-settle.ensures in
    rounds_next f c.loop-i.text c.settle.new.text vs i c.as_slice-nets.result.now c.list_of.result.now c.args.state.now c.loop-i.state c.settle.new.state c.args.dag.now c.loop-i.dag c.settle.new.dag c.loop-i.invariant cut e now.keeps now.driven

pub returns-clause-shows : goal.returns-clause-shows
returns-clause-shows c =
    let f = c.args.flat.now in
    let vs = c.args.groups.now in
    let i = c.loop-i.i in
    let le : length vs ≤ i = omega arith in
    let P : List (List Name) → Type 0 = λ z. Solving f (groups_of f.signals vs) z c.args.state.now c.args.dag.now c.loop-i.state c.loop-i.dag in
    solving_end f (groups_of f.signals vs) c.args.state.now c.loop-i.state c.args.dag.now c.loop-i.dag (subst P (groups_all f.signals vs i le) c.loop-i.invariant.solving)
