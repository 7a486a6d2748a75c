use Rattle.std.proofs.Common.{map, sym, ap, subst, ◌∙◌}
use Rattle.vlog_tree_runs.specs.Places.{Among}
use Rattle.vlog_tree_runs.specs.Scopes.{place_of, left_of}
use Rattle.elab_flat_params.specs.Constants.{is_known}
use Rattle.elab_flat_params.proofs.Divisors.{decided_true, decided_false}
use Rattle.elab_flat_instances.specs.Unfolding.{scope_meant}
use Rattle.elab_flat_drivers.specs.Parts.{part_meant}
use Rattle.elab_flat_widths.specs.declared.side.Side.TheVariants as d
use Rattle.elab_flat_widths.specs.Outputs.{AreOf}
use Rattle.elab_flat_widths.specs.Stores.{SomeBreaksNumbers, BreaksLeft}
use Rattle.elab_flat_widths.proofs.Takes.{fails_map}
use Rattle.elab_flat_widths.proofs.Stores.{fine}
use Rattle.elab_flat_widths.proofs.Ends.{output_numbers, output_breaks, unnamed, sized, missized, named_parts}
use Rattle.elab_flat_widths.proofs.output.check_output.Goals as goal

pub returns-in-Err-clause-err : goal.returns-in-Err-clause-err
returns-in-Err-clause-err c =
    let s = scope_meant c.args.scope.now in
    let a = c.args.value.now in
    let qs = map part_meant c.deref.result.now in
    fails_map (SomeBreaksNumbers d.Continuous (is_known c.args.scope.now.params) c.args.rest.now qs) (BreaksLeft d.Continuous (place_of s) (left_of a))
    (output_breaks s a c.args.rest.now c.requires.rest c.args.signals.now c.requires.signals qs (ap (map part_meant) c.deref.ensures.value ∙ c.in_ok-parts.ensures)) c.in-Err.violation c.in-Err.ensures.err

pub returns-then-not-are_of-clause-ok : goal.returns-then-not-are_of-clause-ok
returns-then-not-are_of-clause-ok c =
    let s = scope_meant c.args.scope.now in
    let a = c.args.value.now in
    let v = c.args.rest.now in
    let ns = c.args.signals.now in
    let qs = map part_meant c.deref-2.result.now in
    unnamed s a v c.requires.rest ns c.requires.signals qs (ap (map part_meant) c.deref-2.ensures.value ∙ c.in_ok-parts.ensures)
    (output_numbers s a v c.requires.rest ns c.requires.signals (map part_meant c.deref.result.now) (ap (map part_meant) c.deref.ensures.value ∙ c.in_ok-parts.ensures) c.in-Ok.ensures.ok)
    (decided_false (AreOf ns qs) c.are_of.result c.are_of.ensures c.if-not-are_of.true)

pub total_bits-requires : goal.total_bits-requires
total_bits-requires c = λ q k.
    let s = scope_meant c.args.scope.now in
    let ps = c.deref.result.now in
    let same = c.deref-3.ensures.value ∙ sym c.deref.ensures.value in
    fine (is_known c.args.scope.now.params) c.args.rest.now q (c.in-Ok.ensures.ok q (subst (λ xs. Among (map part_meant xs) q) same k)).numbers

pub returns-in-Some-clause-ok : goal.returns-in-Some-clause-ok
returns-in-Some-clause-ok c =
    let s = scope_meant c.args.scope.now in
    let a = c.args.value.now in
    let v = c.args.rest.now in
    let ns = c.args.signals.now in
    sized s a v c.requires.rest ns c.requires.signals (map part_meant c.deref-3.result.now) (ap (map part_meant) c.deref-3.ensures.value ∙ c.in_ok-parts.ensures)
    (output_numbers s a v c.requires.rest ns c.requires.signals (map part_meant c.deref.result.now) (ap (map part_meant) c.deref.ensures.value ∙ c.in_ok-parts.ensures) c.in-Ok.ensures.ok)
    c.in-Some.field-0 (rw c.in-Some.is at c.in_ok-bits.ensures.some)

pub returns-clause-err : goal.returns-clause-err
returns-clause-err c =
    let s = scope_meant c.args.scope.now in
    let a = c.args.value.now in
    let v = c.args.rest.now in
    let ns = c.args.signals.now in
    let qs = map part_meant c.deref-2.result.now in
    missized s a v c.requires.rest ns c.requires.signals (map part_meant c.deref-3.result.now) (ap (map part_meant) c.deref-3.ensures.value ∙ c.in_ok-parts.ensures)
    (named_parts s a v c.requires.rest ns c.requires.signals qs (ap (map part_meant) c.deref-2.ensures.value ∙ c.in_ok-parts.ensures) (decided_true (AreOf ns qs) c.are_of.result c.are_of.ensures c.if-not-are_of.false))
    (output_numbers s a v c.requires.rest ns c.requires.signals (map part_meant c.deref.result.now) (ap (map part_meant) c.deref.ensures.value ∙ c.in_ok-parts.ensures) c.in-Ok.ensures.ok)
    (rw c.in-None.is at c.in_ok-bits.ensures.none)
