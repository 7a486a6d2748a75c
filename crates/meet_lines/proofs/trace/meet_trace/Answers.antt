use Rattle.std.proofs.Common.{◌≡◌, ◌∙◌, ap, subst}
use Rattle.std.proofs.lemmas.Result.{IfOk-weaker}
use Rattle.set_tree.specs.declared.set.Set.{Set}
use Rattle.set_tree.specs.Formulas.{meaning_of}
use Rattle.elab_step_design.specs.Designs.{IsDesign}
use Rattle.word_dag.specs.Names.{naming_from}
use Rattle.replay.specs.Segments.{ShowsNamed}
use Rattle.meet_lines.specs.Shown.{last_cycle, resets_of}
use Rattle.meet_lines.proofs.Showing.{shows_meeting, values_meet}
use Rattle.meet_lines.proofs.trace.meet_trace.Goals as goal

pub returns : goal.returns
returns c =
    let b = c.args.bound.now in
    let design = subst IsDesign c.design-design.ensures.value c.dag-fit.ensures.design in
    let line = c.args.line in
    let e = naming_from c.args.ob.now.nodes c.args.values.now in
    let reach = c.reach_of-reach.result in
    let meets = values_meet b.design (meaning_of b.set) b.set line c.args.ob.now.nodes c.args.ob.now.root c.args.values.now c.requires.of_line c.requires.words c.requires.root in
    let resets : reach.resets ≡ resets_of b.set line = c.reach_of-reach.ensures.resets ∙ ap (λ (z : Set). resets_of z line) c.set.ensures in
    let last : reach.last ≡ last_cycle b.set line = c.reach_of-reach.ensures.last ∙ ap (λ (z : Set). last_cycle z line) c.set.ensures in
    IfOk-weaker c.shown_segment.result _ _
    (λ shown named. shows_meeting b.design design b.set c.design-design.ensures.fits e (meaning_of b.set) shown line meets
    (subst (λ k. ShowsNamed b.design b.set e k (last_cycle b.set line) shown) resets (subst (λ n. ShowsNamed b.design b.set e reach.resets n shown) last named))) c.shown_segment.ensures
