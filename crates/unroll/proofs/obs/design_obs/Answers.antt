use Rattle.std.proofs.Common.{◌≡◌, ◌<◌, ◌≤◌, List, get_or, length, map, sym, ap, ◌∙◌, subst, arith}
use Rattle.std.specs.List.{AllZip}
use Rattle.std.proofs.Math.ListN.{get_or-map}
use Rattle.std.proofs.lemmas.List.{length-map, take_all}
use Rattle.set_tree.specs.declared.line.Line.{Line}
use Rattle.set_tree.specs.declared.set.Set.{Set}
use Rattle.set_tree.specs.Report.{design_lines}
use Rattle.unroll_binding.specs.Binding.{Fits}
use Rattle.twin_tests.specs.Framing.{SpeaksOf}
use Rattle.twin_tests.proofs.Handing.{get_again}
use Rattle.twin_tests.proofs.Listed.{each_is}
use Rattle.unroll.specs.declared.design_line.DesignLine.{DesignLine}
use Rattle.unroll.specs.declared.design_line.DesignLine.TheVariants.{Base}
use Rattle.unroll.specs.Named.{IsNamedOf, line_of}
use Rattle.unroll.specs.Unrolled.{AreSegments}
use Rattle.unroll.proofs.Obtaining.{lines_speak, obs_begin, obs_step}
use Rattle.unroll.proofs.Rowing.{design_is}
use Rattle.unroll.proofs.obs.design_obs.Goals as goal

pub named_ob-requires-clause-line : goal.named_ob-requires-clause-line
named_ob-requires-clause-line c =
    let set = c.set-set.result.now in
    let items = c.deref-line-items.result.now in
    let lt : c.loop-line.line-index < length items = omega arith in
    let listed : map line_of items ≡ design_lines set = ap (λ (ls : List DesignLine). map line_of ls) c.deref-line-items.ensures.value ∙ c.in_ok-lines.ensures in
    each_is line_of (SpeaksOf set) items (design_lines set) listed (lines_speak set) c.loop-line.line-index (Base 0) lt

pub loop-line-init : goal.loop-line-init
loop-line-init c =
    let b = c.args.bound.now in
    let design = design_is b.design c.design.result.now c.design.ensures.value c.dag-fit.ensures.design in
    obs_begin b.design b.set _ c.segments_of.new.dag c.in_ok-segments.segments _ design c.new-dag.ensures c.in_ok-segments.ensures.frees c.in_ok-segments.ensures.segments c.in_ok-obs.ensures.items

pub loop-line-preserved : goal.loop-line-preserved
loop-line-preserved c =
    let b = c.args.bound.now in
    let same = c.set-set.ensures.value ∙ c.set.ensures in
    let items = c.deref-line-items.result.now in
    let i = c.loop-line.line-index in
    let lt : i < length items = omega arith in
    let line = get_or items i (Base 0) in
    let design = design_is b.design c.design.result.now c.design.ensures.value c.dag-fit.ensures.design in
    let segments = c.in_ok-segments.segments in
    let fits = subst (λ (z : Set). Fits b.design z) (sym same) c.design.ensures.fits in
    let are = subst (λ (z : Set). AreSegments b.design z c.loop-line.dag segments) (sym same) c.loop-line.invariant.held in
    let here = subst (λ (z : Set). IsNamedOf b.design z (line_of line) c.in_ok-named.named) same (c.in_ok-named.ensures.named b.design design fits are) in
    let long = length-map items line_of in
    let lt' : i < length (map line_of items) = omega (arith, long, lt) in
    let at : line_of line ≡ get_or (map line_of items) i (line_of line) = ap line_of (get_again items i (Base 0) lt) ∙ sym (get_or-map line_of items i line) in
    obs_step b.design b.set c.loop-line.dag c.named_ob.new.dag segments (map line_of items) c.loop-line.obs.items c.push.new.self.items i (line_of line) c.in_ok-named.named c.in_ok-named.ensures.keeps lt' at c.in_ok-push.ensures.items here c.loop-line.invariant

pub returns : goal.returns
returns c =
    let b = c.args.bound.now in
    let items = c.deref-line-items.result.now in
    let long = length-map items line_of in
    let le : length (map line_of items) ≤ c.loop-line.line-index = omega (arith, long) in
    let same = c.set-set.ensures.value ∙ c.set.ensures in
    let listed : map line_of items ≡ design_lines b.set = ap (λ (ls : List DesignLine). map line_of ls) c.deref-line-items.ensures.value ∙ (c.in_ok-lines.ensures ∙ ap (λ (z : Set). design_lines z) same) in
    subst (λ (ls : List Line). AllZip (IsNamedOf b.design b.set) ls c.loop-line.obs.items) (take_all c.loop-line.line-index (map line_of items) le ∙ listed) c.loop-line.invariant.each
