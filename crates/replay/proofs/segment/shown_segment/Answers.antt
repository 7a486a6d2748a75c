use Rattle.std.proofs.Common.{◌≡◌, ◌∙◌, List, ap, map, refl, subst}
use Rattle.unroll_laws.specs.Tests.{rows_from}
use Rattle.replay.specs.Segments.{named_start}
use Rattle.replay.specs.Windows.{declared_names}
use Rattle.elab_step_design.specs.Designs.{IsDesign, Parts}
use Rattle.word_dag.specs.declared.node.Node.{Node}
use Rattle.word_dag.specs.Names.{naming_from}
use Rattle.replay.specs.Values.{AreOf}
use Rattle.replay.proofs.Showing.{registers_wide}
use Rattle.replay.proofs.segment.shown_segment.Goals as goal

pub starts_of-requires : goal.starts_of-requires
starts_of-requires c =
    let b = c.args.bound.now in
    let design = subst IsDesign c.design-design.ensures.value c.dag-fit.ensures.design in
    registers_wide b.design design c.registers.result.now (c.registers.ensures ∙ ap (λ (d : Parts). d.registers) c.design-design.ensures.value)

pub returns : goal.returns
returns c =
    let b = c.args.bound.now in
    let e = naming_from c.args.ob.now.nodes c.args.values.now in
    let of : AreOf e c.in_ok-values.values = subst (λ (ns : List Node). AreOf (naming_from ns c.args.values.now) c.in_ok-values.values) c.nodes.ensures.nodes c.in_ok-values.ensures in
    let read : c.set.result.now ≡ b.set = c.set.ensures.value ∙ c.set-set.ensures in
    let registers : c.registers.result.now ≡ b.design.registers = c.registers.ensures ∙ ap (λ (d : Parts). d.registers) c.design-design.ensures.value in
    record {
      start = c.in_ok-starts_of.ensures e of ∙ ap (map (named_start e c.args.reach.resets)) registers;
      before = c.from-2.ensures;
      names = c.in_ok-trace_of.ensures.names ∙ ap declared_names read;
      rows = c.in_ok-trace_of.ensures.rows ∙ (c.in_ok-rows.ensures e of ∙ ap (rows_from b.design b.set c.args.reach.resets e 0) c.from.ensures);
      second = refl;
    }
