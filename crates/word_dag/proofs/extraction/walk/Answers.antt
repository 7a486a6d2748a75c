use Rattle.std.proofs.Common.{suc, length-append, ◌<◌, rules, refl, ◌≡◌, ◌∙◌, ap, sym, subst, length, [], arith, ◌++◌, ◌∷◌, ◌≤◌, ◌-◌, take}
use Rattle.std.specs.Prelude.{slice_index}
use Rattle.word_dag.proofs.Walking.{Small, small_push, is_top, ops_below, push_walk, push_less, emit_walk, emit_less, walk_end, found_open}
use Rattle.word_dag.proofs.Tracing.{push_order, emit_order, order_end, both_start}
use Rattle.word_dag.specs.Nodes.{Parts}
use Rattle.word_dag.proofs.Namings.{roots_agree}
use Rattle.word_dag.specs.Given.{RootsAgree}
use Rattle.word_dag.specs.Adding.{HasDistinctFrees}
use Rattle.word_dag.proofs.Sources.{sourced_start, sourced_emit, distinct_frees}
use Rattle.word_dag.specs.Walks.{MeansSame, renumbered, place_of}
use Rattle.word_dag.proofs.extraction.walk.Goals as goal

pub open_operand-requires : goal.open_operand-requires
open_operand-requires c =
    let t = is_top c.loop-top.stack.items c.deref.result.now c.in-Some.field-0.now c.deref.ensures.value c.in-Some.ensures.item.3.0 c.in-Some.ensures.item.3.1 in
    ops_below c.args.dag.now c.loop-top.nodes.items c.loop-top.places.items c.loop-top.stack.items c.args.root c.in-Some.field-0.now c.index-dag-top.result c.loop-top.invariant.0 t.0 t.1 c.requires.nodes c.index-dag-top.is c.deref-in-Some.result.now c.deref-in-Some.ensures.value

pub loop-top-smaller-in_ok-push-in-Some-open_operand : goal.loop-top-smaller-in_ok-push-in-Some-open_operand
loop-top-smaller-in_ok-push-in-Some-open_operand c =
    let t = is_top c.loop-top.stack.items c.deref.result.now c.in-Some.field-0.now c.deref.ensures.value c.in-Some.ensures.item.3.0 c.in-Some.ensures.item.3.1 in
    push_less c.args.dag.now c.loop-top.nodes.items c.loop-top.places.items c.loop-top.stack.items c.args.root c.in-Some.field-0.now c.index-dag-top.result c.loop-top.invariant.0 t.0 t.1 c.requires.nodes c.index-dag-top.is c.in-Some-open_operand.operand c.push-in-Some-open_operand.new.self.items c.deref-in-Some.result.now c.deref-in-Some.ensures.value c.in_ok-push-in-Some-open_operand.ensures.items c.in-Some-open_operand.ensures

pub loop-top-preserved-in_ok-push-in-Some-open_operand : goal.loop-top-preserved-in_ok-push-in-Some-open_operand
loop-top-preserved-in_ok-push-in-Some-open_operand c =
    let t = is_top c.loop-top.stack.items c.deref.result.now c.in-Some.field-0.now c.deref.ensures.value c.in-Some.ensures.item.3.0 c.in-Some.ensures.item.3.1 in
    let T = c.in-Some.field-0.now in
    let x = c.in-Some-open_operand.operand in
    let f = found_open c.args.dag.now c.loop-top.nodes.items c.loop-top.places.items c.loop-top.stack.items c.args.root T c.index-dag-top.result c.loop-top.invariant.0 t.0 t.1 c.requires.nodes c.index-dag-top.is x c.deref-in-Some.result.now c.deref-in-Some.ensures.value c.in-Some-open_operand.ensures in (
      push_walk c.args.dag.now c.loop-top.nodes.items c.loop-top.places.items c.loop-top.stack.items c.args.root c.in-Some.field-0.now c.index-dag-top.result c.loop-top.invariant.0 t.0 t.1 c.requires.nodes c.index-dag-top.is c.in-Some-open_operand.operand c.push-in-Some-open_operand.new.self.items c.deref-in-Some.result.now c.deref-in-Some.ensures.value c.in_ok-push-in-Some-open_operand.ensures.items c.in-Some-open_operand.ensures,
      push_order c.args.dag.now c.loop-top.nodes.items c.loop-top.places.items c.loop-top.stack.items c.args.root T c.index-dag-top.result c.loop-top.invariant.0 c.loop-top.invariant.1 t.0 t.1 c.requires.nodes c.index-dag-top.is x c.push-in-Some-open_operand.new.self.items c.deref-in-Some.result.now c.deref-in-Some.ensures.value c.in_ok-push-in-Some-open_operand.ensures.items c.in-Some-open_operand.ensures f.0 f.1,
      c.loop-top.invariant.2,
      c.loop-top.invariant.3,
    )

pub placed-requires-clause-within : goal.placed-requires-clause-within
placed-requires-clause-within c =
    let t = is_top c.loop-top.stack.items c.deref.result.now c.in-Some.field-0.now c.deref.ensures.value c.in-Some.ensures.item.3.0 c.in-Some.ensures.item.3.1 in
    ops_below c.args.dag.now c.loop-top.nodes.items c.loop-top.places.items c.loop-top.stack.items c.args.root c.in-Some.field-0.now c.index-dag-top.result c.loop-top.invariant.0 t.0 t.1 c.requires.nodes c.index-dag-top.is c.deref-in-None.result.now c.deref-in-None.ensures.value

pub loop-top-smaller : goal.loop-top-smaller
loop-top-smaller c =
    let t = is_top c.loop-top.stack.items c.deref.result.now c.in-Some.field-0.now c.deref.ensures.value c.in-Some.ensures.item.3.0 c.in-Some.ensures.item.3.1 in
    let more = c.in_ok-push-in-None.ensures.items ∙ ap (λ v. c.loop-top.nodes.items ++ v ∷ []) c.in_ok-placed-in-None.ensures.node in
    let long : c.len.result ≡ length c.push-in-None.new.self.items = omega (arith, c.len.ensures, c.push-in-None.new.self.ok) in
    let count : c.loop-top.stack.len - 1 ≡ length c.loop-top.stack.items - 1 = omega (arith, c.loop-top.stack.ok) in
    let rest = c.pop.ensures.rest ∙ ap (λ k. take k c.loop-top.stack.items) count in
    emit_less c.args.dag.now c.loop-top.nodes.items c.loop-top.places.items c.loop-top.stack.items c.args.root c.in-Some.field-0.now c.index-dag-top.result c.loop-top.invariant.0 t.0 t.1 c.requires.nodes c.index-dag-top.is c.deref-in-Some.result.now c.deref-in-None.result.now c.push-in-None.new.self.items c.pop.new.self.items c.len.result c.deref-in-Some.ensures.value c.deref-in-None.ensures.value c.in-None.ensures more long rest

pub loop-top-preserved : goal.loop-top-preserved
loop-top-preserved c =
    let t = is_top c.loop-top.stack.items c.deref.result.now c.in-Some.field-0.now c.deref.ensures.value c.in-Some.ensures.item.3.0 c.in-Some.ensures.item.3.1 in
    let more = c.in_ok-push-in-None.ensures.items ∙ ap (λ v. c.loop-top.nodes.items ++ v ∷ []) c.in_ok-placed-in-None.ensures.node in
    let long : c.len.result ≡ length c.push-in-None.new.self.items = omega (arith, c.len.ensures, c.push-in-None.new.self.ok) in
    let count : c.loop-top.stack.len - 1 ≡ length c.loop-top.stack.items - 1 = omega (arith, c.loop-top.stack.ok) in
    let rest = c.pop.ensures.rest ∙ ap (λ k. take k c.loop-top.stack.items) count in
    let walk = c.loop-top.invariant.0 in
    let T = c.in-Some.field-0.now in
    let at_top = walk.within (length c.loop-top.stack.items - 1) (omega (arith, t.0)) in
    let open_there = ap (slice_index c.loop-top.places.items) t.1 ∙ walk.are_open (length c.loop-top.stack.items - 1) (omega (arith, t.0)) in
    let count_is : c.len.result ≡ suc (length c.loop-top.nodes.items) = omega (arith, long, ap length more, length-append c.loop-top.nodes.items (renumbered (place_of c.deref-in-None.result.now) c.index-dag-top.result ∷ [])) in
    let in_dag : T < length c.args.dag.now = omega (arith, t.1, at_top) in
    let in_places : T < length c.loop-top.places.items = omega (arith, in_dag, walk.long) in
    let sourced = sourced_emit c.args.dag.now c.loop-top.nodes.items c.push-in-None.new.self.items c.loop-top.places.items T c.len.result c.index-dag-top.result (place_of c.deref-in-None.result.now) in_dag in_places open_there c.index-dag-top.is more count_is c.loop-top.invariant.3 in (
      emit_walk c.args.dag.now c.loop-top.nodes.items c.loop-top.places.items c.loop-top.stack.items c.args.root c.in-Some.field-0.now c.index-dag-top.result c.loop-top.invariant.0 t.0 t.1 c.requires.nodes c.index-dag-top.is c.deref-in-Some.result.now c.deref-in-None.result.now c.push-in-None.new.self.items c.pop.new.self.items c.len.result c.deref-in-Some.ensures.value c.deref-in-None.ensures.value c.in-None.ensures more long rest,
      emit_order c.args.dag.now c.loop-top.nodes.items c.loop-top.places.items c.loop-top.stack.items c.args.root c.in-Some.field-0.now c.index-dag-top.result c.loop-top.invariant.0 c.loop-top.invariant.1 t.0 t.1 c.requires.nodes c.index-dag-top.is c.deref-in-Some.result.now c.deref-in-None.result.now c.push-in-None.new.self.items c.pop.new.self.items c.len.result c.deref-in-Some.ensures.value c.deref-in-None.ensures.value c.in-None.ensures more long rest,
      small_push c.loop-top.nodes.items c.push-in-None.new.self.items c.in_ok-placed-in-None.field-0 c.len.result c.loop-top.invariant.2 c.in_ok-placed-in-None.ensures.small c.in_ok-push-in-None.ensures.items long (omega arith),
      sourced,
    )

pub new-requires : goal.new-requires
new-requires c =
    let empty : length c.loop-top.stack.items ≤ 0 = omega (arith, c.in_default.ensures.item.3, ap length c.deref.ensures.value) in
    (walk_end c.args.dag.now c.loop-top.nodes.items c.loop-top.places.items c.loop-top.stack.items c.deref-2.result.now c.args.root c.place-root.result c.requires.one_bit empty c.deref-2.ensures.value c.place-root.ensures c.loop-top.invariant.0 c.loop-top.invariant.2).0

pub returns-clause-exact : goal.returns-clause-exact
returns-clause-exact c =
    let empty : length c.loop-top.stack.items ≤ 0 = omega (arith, c.in_default.ensures.item.3, ap length c.deref.ensures.value) in
    c.new.ensures ∙ order_end c.args.dag.now c.loop-top.nodes.items c.loop-top.places.items c.loop-top.stack.items c.deref-2.result.now c.args.root c.place-root.result empty c.deref-2.ensures.value c.place-root.ensures c.loop-top.invariant.0 c.loop-top.invariant.1

pub returns-clause-value : goal.returns-clause-value
returns-clause-value c =
    let empty : length c.loop-top.stack.items ≤ 0 = omega (arith, c.in_default.ensures.item.3, ap length c.deref.ensures.value) in
    let means = (walk_end c.args.dag.now c.loop-top.nodes.items c.loop-top.places.items c.loop-top.stack.items c.deref-2.result.now c.args.root c.place-root.result c.requires.one_bit empty c.deref-2.ensures.value c.place-root.ensures c.loop-top.invariant.0 c.loop-top.invariant.2).1 in
    subst (λ (k : Parts). MeansSame c.args.dag.now c.args.root k.nodes k.root) (sym c.new.ensures) means

pub returns-clause-at_values : goal.returns-clause-at_values
returns-clause-at_values c =
    let empty : length c.loop-top.stack.items ≤ 0 = omega (arith, c.in_default.ensures.item.3, ap length c.deref.ensures.value) in
    let means = (walk_end c.args.dag.now c.loop-top.nodes.items c.loop-top.places.items c.loop-top.stack.items c.deref-2.result.now c.args.root c.place-root.result c.requires.one_bit empty c.deref-2.ensures.value c.place-root.ensures c.loop-top.invariant.0 c.loop-top.invariant.2).1 in
    subst (λ (k : Parts). RootsAgree c.args.dag.now c.args.root k.nodes k.root) (sym c.new.ensures) (roots_agree c.args.dag.now c.loop-top.nodes.items c.args.root c.place-root.result means)

pub returns-clause-distinct : goal.returns-clause-distinct
returns-clause-distinct c =
    subst (λ (k : Parts). HasDistinctFrees k.nodes) (sym c.new.ensures) (distinct_frees c.args.dag.now c.loop-top.nodes.items c.loop-top.places.items c.requires.distinct c.loop-top.invariant.3)

pub loop-top-init : goal.loop-top-init
loop-top-init c =
    let stack : c.push.new.self.items ≡ c.args.root ∷ [] = c.in_ok-push.ensures.items ∙ ap (λ k. k ++ c.args.root ∷ []) c.new-stack.ensures.items in
    let b = both_start c.args.dag.now c.new-nodes.result.items c.in_ok-places.places.items c.push.new.self.items c.args.root (length c.args.dag.now) c.new-nodes.ensures.items stack refl (search rules) c.requires.nodes c.requires.root_in in
    let small : Small c.new-nodes.result.items = subst Small (sym c.new-nodes.ensures.items) (record { each = tt; count = omega arith }) in
    (b.0, b.1, small, sourced_start c.args.dag.now c.new-nodes.result.items c.in_ok-places.places.items c.new-nodes.ensures.items)
