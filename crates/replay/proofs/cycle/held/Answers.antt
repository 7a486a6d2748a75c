use Rattle.std.proofs.Common.{◌≡◌, ◌<◌, false, Some, sym, ap, ◌∙◌, arith}
use Rattle.std.specs.Option.{option_map}
use Rattle.std.specs.Str.{bytes_eq}
use Rattle.set_tree.specs.declared.set.Set.{Set}
use Rattle.elab_step_design.specs.Designs.{Parts}
use Rattle.unroll_laws.specs.Tests.{register_at}
use Rattle.replay.specs.Segments.{register_next}
use Rattle.replay.proofs.Cycling.{at_free, at_register, no_register}
use Rattle.replay.proofs.cycle.held.Goals as goal

pub returns-in-Some : goal.returns-in-Some
returns-in-Some g c = λ e of.
    let b = c.args.bound.now in
    let x = c.args.name.now in
    let reset : c.bytes.result.now ≡ b.set.reset = c.bytes.ensures ∙ ap (λ (z : Set). z.reset) (c.set-set.ensures.value ∙ c.set.ensures) in
    let miss : bytes_eq x b.set.reset ≡ false = ap (bytes_eq x) (sym reset) ∙ (sym c.eq.ensures ∙ c.if-eq.false) in
    let some : option_map register_next (register_at b.design.registers x) ≡ Some c.in-Some.next = ap (λ (d : Parts). option_map register_next (register_at d.registers x)) (sym c.design.ensures.value) ∙ (sym c.next_of.ensures ∙ c.in-Some.is) in
    let past : 0 < c.args.position.at = let not = c.if-position-eq0.false in omega (arith, not) in
    c.value_in.ensures ∙ at_register b.design b.set c.args.position.resets (g.S.Source.gives c.args.source.now) c.args.before.now c.args.position.at c.in-Some.next e x past c.requires.before of miss some

pub returns-in-None : goal.returns-in-None
returns-in-None g c = λ e of.
    let b = c.args.bound.now in
    let x = c.args.name.now in
    let reset : c.bytes.result.now ≡ b.set.reset = c.bytes.ensures ∙ ap (λ (z : Set). z.reset) (c.set-set.ensures.value ∙ c.set.ensures) in
    let miss : bytes_eq x b.set.reset ≡ false = ap (bytes_eq x) (sym reset) ∙ (sym c.eq.ensures ∙ c.if-eq.false) in
    let none = no_register b.design x (ap (λ (d : Parts). option_map register_next (register_at d.registers x)) (sym c.design.ensures.value) ∙ (sym c.next_of.ensures ∙ c.in-None.is)) in
    c.value-free.ensures e of ∙ sym (at_free b.design b.set c.args.position.resets e x c.args.position.at miss none)
