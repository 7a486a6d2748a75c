use Rattle.std.proofs.Common.{◌≡◌, ◌<◌, ◌∙◌, List, ap, length, map, refl, sym, subst, take}
use Rattle.std.proofs.lemmas.Result.{IfOk-weaker}
use Rattle.set_tree.specs.declared.line.Line.{Line}
use Rattle.set_tree.specs.declared.line.Line.TheVariants.{Reset}
use Rattle.set_tree.specs.declared.set.Set.{Set}
use Rattle.set_tree.specs.Report.{set_lines}
use Rattle.word_dag.proofs.Taken.{widths_are_kept}
use Rattle.twin_tests.specs.Framing.{SpeaksOf}
use Rattle.twin_tests.specs.declared.set_line.SetLine.{SetLine}
use Rattle.twin_tests.specs.Named.{IsNamedOf, set_line}
use Rattle.twin_tests.specs.Ordering.{line_of}
use Rattle.twin_tests.specs.Reading.{HasStructure}
use Rattle.twin_tests.proofs.Framed.{frames_later}
use Rattle.twin_tests.proofs.Listed.{counted, first_are, line_is}
use Rattle.twin_tests.proofs.Spoken.{line_speaks, lines_speak}
use Rattle.twin_tests.proofs.Widths.{window_widths}
use Rattle.twin_tests.proofs.obs.twin_ob.Goals as goal

pub add_lines-requires-clause-lines : goal.add_lines-requires-clause-lines
add_lines-requires-clause-lines c =
    let set = c.set-set.result.now in
    let structure : HasStructure set = subst (λ (z : Set). HasStructure z) (sym c.set-set.ensures.value) (record { sound = c.set-set.ensures.sound; formed = c.set-set.ensures.formed }) in
    let all = c.deref.result.now in
    first_are line_of (SpeaksOf set) all (take c.args.number all) (set_lines set) c.args.number (ap (λ (ls : List SetLine). map line_of ls) c.deref.ensures.value ∙ c.in_ok-lines.ensures) refl (lines_speak set structure)

pub named_ob-requires-clause-line : goal.named_ob-requires-clause-line
named_ob-requires-clause-line c =
    let set = c.set-set.result.now in
    let structure : HasStructure set = subst (λ (z : Set). HasStructure z) (sym c.set-set.ensures.value) (record { sound = c.set-set.ensures.sound; formed = c.set-set.ensures.formed }) in
    let number = c.args.number in
    let lt : number < length (set_lines set) = subst (λ (z : Set). number < length (set_lines z)) (sym c.set-set.ensures.value) c.requires in
    let items = c.in_ok-lines.lines.items in
    let is : line_of c.index.result.now ≡ set_line set number = line_is line_of items (set_lines set) number c.index.result.now Reset c.in_ok-lines.ensures (counted line_of items (set_lines set) number c.in_ok-lines.ensures lt) c.index.ensures in
    subst (λ (l : Line). SpeaksOf set l) (sym is) (line_speaks set number structure lt)

pub add_lines-requires-clause-frames : goal.add_lines-requires-clause-frames
add_lines-requires-clause-frames c = rw c.in_ok-nodes.ensures.dag c.in_ok-frames.ensures.frames

pub add_lines-requires-clause-made : goal.add_lines-requires-clause-made
add_lines-requires-clause-made c = c.in_ok-nodes.ensures.made c.set-set.result.now

pub named_ob-requires-clause-made : goal.named_ob-requires-clause-made
named_ob-requires-clause-made c = c.in_ok-add_lines.ensures.made

pub named_ob-requires-clause-frames : goal.named_ob-requires-clause-frames
named_ob-requires-clause-frames c = frames_later c.in_ok-nodes.nodes.dag c.add_lines.new.nodes.dag c.set-set.result.now c.in_ok-frames.frames c.in_ok-add_lines.ensures.keeps (rw c.in_ok-nodes.ensures.dag c.in_ok-frames.ensures.frames)

pub named_ob-requires-clause-words : goal.named_ob-requires-clause-words
named_ob-requires-clause-words c =
    let set = c.set-set.result.now in
    let structure : HasStructure set = subst (λ (z : Set). HasStructure z) (sym c.set-set.ensures.value) (record { sound = c.set-set.ensures.sound; formed = c.set-set.ensures.formed }) in
    let begun = window_widths set.names structure.formed.distinct_names _ c.frames_of.new.dag c.new-dag.ensures c.in_ok-frames.ensures.frees in
    widths_are_kept c.in_ok-nodes.nodes.dag c.add_lines.new.nodes.dag c.in_ok-add_lines.ensures.keeps (rw c.in_ok-nodes.ensures.dag begun)

pub returns : goal.returns
returns c =
    let set = c.args.sound.now in
    let number = c.args.number in
    let items = c.in_ok-lines.lines.items in
    let listed : map line_of items ≡ set_lines set = c.in_ok-lines.ensures ∙ ap (λ (z : Set). set_lines z) c.set-set.ensures.value in
    let is : line_of c.index.result.now ≡ set_line set number = line_is line_of items (set_lines set) number c.index.result.now Reset listed (counted line_of items (set_lines set) number listed c.requires) c.index.ensures in
    IfOk-weaker c.named_ob.result _ _ (λ named h. subst (λ (l : Line). IsNamedOf set l named) is (subst (λ (z : Set). IsNamedOf z (line_of c.index.result.now) named) c.set-set.ensures.value h)) c.named_ob.ensures.named
