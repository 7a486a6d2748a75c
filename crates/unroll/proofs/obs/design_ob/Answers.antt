use Rattle.std.proofs.Common.{◌≡◌, ◌<◌, ◌∙◌, List, ap, length, map, refl, sym, subst, take}
use Rattle.std.proofs.lemmas.Result.{IfOk-weaker}
use Rattle.set_tree.specs.declared.line.Line.{Line}
use Rattle.set_tree.specs.declared.line.Line.TheVariants as l
use Rattle.set_tree.specs.declared.set.Set.{Set}
use Rattle.set_tree.specs.Report.{design_lines}
use Rattle.unroll_binding.specs.Binding.{Fits}
use Rattle.word_dag.proofs.Taken.{widths_are_kept}
use Rattle.twin_tests.specs.Framing.{SpeaksOf}
use Rattle.twin_tests.proofs.Listed.{counted, first_are, line_is}
use Rattle.unroll.specs.declared.design_line.DesignLine.{DesignLine}
use Rattle.unroll.specs.Named.{IsNamedOf, design_line, line_of}
use Rattle.unroll.specs.Unrolled.{AreSegments}
use Rattle.unroll.proofs.Obtaining.{line_speaks, lines_speak}
use Rattle.unroll.proofs.Rowing.{design_is, segments_later}
use Rattle.unroll.proofs.Sourcing.{source_widths}
use Rattle.unroll.proofs.obs.design_ob.Goals as goal

pub add_lines-requires-clause-lines : goal.add_lines-requires-clause-lines
add_lines-requires-clause-lines c =
    let all = c.deref.result.now in
    let set = c.set-set.result.now in
    first_are line_of (SpeaksOf set) all (take c.args.number all) (design_lines set) c.args.number (ap (λ (ls : List DesignLine). map line_of ls) c.deref.ensures.value ∙ c.in_ok-lines.ensures) refl (lines_speak set)

pub named_ob-requires-clause-line : goal.named_ob-requires-clause-line
named_ob-requires-clause-line c =
    let set = c.set-set.result.now in
    let number = c.args.number in
    let lt : number < length (design_lines set) = subst (λ (z : Set). number < length (design_lines z)) (sym (c.set-set.ensures.value ∙ c.set.ensures)) c.requires in
    let items = c.in_ok-lines.lines.items in
    let is : line_of c.index.result.now ≡ design_line set number = line_is line_of items (design_lines set) number c.index.result.now l.Reset c.in_ok-lines.ensures (counted line_of items (design_lines set) number c.in_ok-lines.ensures lt) c.index.ensures in
    subst (λ (l : Line). SpeaksOf set l) (sym is) (line_speaks set number lt)

pub named_ob-requires-clause-segments : goal.named_ob-requires-clause-segments
named_ob-requires-clause-segments c =
    let b = c.args.bound.now in
    let set = c.set-set.result.now in
    let segments = c.in_ok-segments.segments in
    let are = subst (λ (z : Set). AreSegments b.design z c.segments_of.new.dag segments) (sym (c.set-set.ensures.value ∙ c.set.ensures)) c.in_ok-segments.ensures.segments in
    (b.design, segments_later b.design set c.segments_of.new.dag c.add_lines.new.dag segments c.in_ok-add_lines.ensures are)

pub named_ob-requires-clause-words : goal.named_ob-requires-clause-words
named_ob-requires-clause-words c =
    let b = c.args.bound.now in
    let design = design_is b.design c.design.result.now c.design.ensures.value c.dag-fit.ensures.design in
    widths_are_kept c.segments_of.new.dag c.add_lines.new.dag c.in_ok-add_lines.ensures (source_widths b.design design _ c.segments_of.new.dag c.new-dag.ensures c.in_ok-segments.ensures.frees)

pub returns : goal.returns
returns c =
    let b = c.args.bound.now in
    let set = c.set-set.result.now in
    let same = c.set-set.ensures.value ∙ c.set.ensures in
    let segments = c.in_ok-segments.segments in
    let design = design_is b.design c.design.result.now c.design.ensures.value c.dag-fit.ensures.design in
    let fits = subst (λ (z : Set). Fits b.design z) (sym same) c.design.ensures.fits in
    let are = subst (λ (z : Set). AreSegments b.design z c.segments_of.new.dag segments) (sym same) c.in_ok-segments.ensures.segments in
    let later = segments_later b.design set c.segments_of.new.dag c.add_lines.new.dag segments c.in_ok-add_lines.ensures are in
    let number = c.args.number in
    let items = c.in_ok-lines.lines.items in
    let listed : map line_of items ≡ design_lines b.set = c.in_ok-lines.ensures ∙ ap (λ (z : Set). design_lines z) same in
    let is : line_of c.index.result.now ≡ design_line b.set number = line_is line_of items (design_lines b.set) number c.index.result.now l.Reset listed (counted line_of items (design_lines b.set) number listed c.requires) c.index.ensures in
    IfOk-weaker c.named_ob.result _ _ (λ named made.
    subst (λ (l : Line). IsNamedOf b.design b.set l named) is (subst (λ (z : Set). IsNamedOf b.design z (line_of c.index.result.now) named) same (made b.design design fits later))) c.named_ob.ensures.named
