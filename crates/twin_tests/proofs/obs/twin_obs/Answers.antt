use Rattle.std.proofs.Common.{◌≡◌, ◌<◌, ◌≤◌, List, get_or, length, map, refl, sym, ap, ◌∙◌, subst, arith}
use Rattle.std.specs.List.{AllZip}
use Rattle.std.proofs.Math.ListN.{get_or-map}
use Rattle.std.proofs.lemmas.List.{length-map, take_all}
use Rattle.set_tree.specs.declared.line.Line.{Line}
use Rattle.set_tree.specs.declared.set.Set.{Set}
use Rattle.set_tree.specs.Report.{set_lines}
use Rattle.twin_tests.specs.declared.set_line.SetLine.{SetLine}
use Rattle.twin_tests.specs.declared.set_line.SetLine.TheVariants.{End}
use Rattle.twin_tests.specs.Framing.{SpeaksOf}
use Rattle.twin_tests.specs.Named.{IsNamedOf}
use Rattle.twin_tests.specs.Ordering.{line_of}
use Rattle.twin_tests.specs.Reading.{HasStructure}
use Rattle.twin_tests.specs.Sharing.{AreMade}
use Rattle.twin_tests.proofs.Handing.{get_again}
use Rattle.twin_tests.proofs.Listed.{each_is}
use Rattle.twin_tests.proofs.Spoken.{lines_speak, obs_begin, obs_step}
use Rattle.twin_tests.proofs.obs.twin_obs.Goals as goal

pub named_ob-requires-clause-line : goal.named_ob-requires-clause-line
named_ob-requires-clause-line c =
    let set = c.set-set.result.now in
    let items = c.deref-line-items.result.now in
    let structure : HasStructure set = subst (λ (z : Set). HasStructure z) (sym c.set-set.ensures.value) (record { sound = c.set-set.ensures.sound; formed = c.set-set.ensures.formed }) in
    let lt : c.loop-line.line-index < length items = omega arith in
    let listed : map line_of items ≡ set_lines set = ap (λ (ls : List SetLine). map line_of ls) c.deref-line-items.ensures.value ∙ c.in_ok-lines.ensures in
    each_is line_of (SpeaksOf set) items (set_lines set) listed (lines_speak set structure) c.loop-line.line-index (End 0) lt

pub named_ob-requires-clause-made : goal.named_ob-requires-clause-made
named_ob-requires-clause-made c = subst (λ (z : Set). AreMade z c.loop-line.nodes.dag c.loop-line.nodes.made.items) (sym c.set-set.ensures.value) c.loop-line.invariant.atoms

pub loop-line-init : goal.loop-line-init
loop-line-init c =
    let set = c.set-set.result.now in
    let structure : HasStructure set = subst (λ (z : Set). HasStructure z) (sym c.set-set.ensures.value) (record { sound = c.set-set.ensures.sound; formed = c.set-set.ensures.formed }) in
    let nodes = c.in_ok-nodes.nodes in
    let keep = c.in_ok-nodes.ensures.dag in
    obs_begin c.args.sound.now set _ nodes.dag nodes.made.items c.in_ok-frames.frames _ _ c.set-set.ensures.value structure c.new-dag.ensures (rw keep c.in_ok-frames.ensures.frames) (rw keep c.in_ok-frames.ensures.frees) (c.in_ok-nodes.ensures.made set) refl c.in_ok-obs.ensures.items

pub loop-line-preserved : goal.loop-line-preserved
loop-line-preserved c =
    let items = c.deref-line-items.result.now in
    let i = c.loop-line.line-index in
    let lt : i < length items = omega arith in
    let line = get_or items i (End 0) in
    let long = length-map items line_of in
    let lt' : i < length (map line_of items) = omega (arith, long, lt) in
    let at : line_of line ≡ get_or (map line_of items) i (line_of line) = ap line_of (get_again items i (End 0) lt) ∙ sym (get_or-map line_of items i line) in
    let here = subst (λ (z : Set). IsNamedOf z (line_of line) c.in_ok-named.named) c.set-set.ensures.value c.in_ok-named.ensures.named in
    let atoms = subst (λ (z : Set). AreMade z c.named_ob.new.nodes.dag c.named_ob.new.nodes.made.items) c.set-set.ensures.value c.in_ok-named.ensures.made in
    obs_step c.args.sound.now c.loop-line.nodes.dag c.named_ob.new.nodes.dag c.loop-line.nodes.made.items c.named_ob.new.nodes.made.items c.in_ok-frames.frames (map line_of items) c.loop-line.obs.items c.push.new.self.items i (line_of line) c.in_ok-named.named c.in_ok-named.ensures.keeps lt' at c.in_ok-push.ensures.items here atoms c.loop-line.invariant

pub returns : goal.returns
returns c =
    let items = c.deref-line-items.result.now in
    let long = length-map items line_of in
    let le : length (map line_of items) ≤ c.loop-line.line-index = omega (arith, long) in
    let listed : map line_of items ≡ set_lines c.args.sound.now = ap (λ (ls : List SetLine). map line_of ls) c.deref-line-items.ensures.value ∙ (c.in_ok-lines.ensures ∙ ap (λ (z : Set). set_lines z) c.set-set.ensures.value) in
    subst (λ (ls : List Line). AllZip (IsNamedOf c.args.sound.now) ls c.loop-line.obs.items) (take_all c.loop-line.line-index (map line_of items) le ∙ listed) c.loop-line.invariant.each
