use Rattle.std.proofs.Common.{◌≡◌, ◌∙◌, ap, subst}
use Rattle.set_tree.specs.declared.set.Set.{Set}
use Rattle.replay.specs.Segments.{ShowsNamed, last_cycle, resets_of}
use Rattle.set_tree.specs.Formulas.{meaning_of}
use Rattle.elab_step_design.specs.Designs.{IsDesign}
use Rattle.word_dag.specs.Names.{naming_from}
use Rattle.unroll.specs.Named.{line_of}
use Rattle.replay.proofs.Showing.{shows_segment, values_violate}
use Rattle.replay.proofs.segment.replay.Goals as goal

pub returns : goal.returns
returns c =
    let b = c.args.bound.now in
    let design = subst IsDesign c.design-design.ensures.value c.dag-fit.ensures.design in
    let line = line_of c.args.line in
    let e = naming_from c.args.ob.now.nodes c.args.values.now in
    let shown = c.in_ok-shown.shown in
    let violates = values_violate b.design (meaning_of b.set) b.set line c.args.ob.now.nodes c.args.ob.now.root c.args.values.now c.requires.of_line c.requires.words c.requires.root in
    let resets : c.resets_of-resets.result ≡ resets_of b.set line = c.resets_of-resets.ensures.resets ∙ ap (λ (z : Set). resets_of z line) c.set-set.ensures in
    let last : c.last_cycle-last.result ≡ last_cycle b.set line = c.last_cycle-last.ensures.last ∙ ap (λ (z : Set). last_cycle z line) c.set-set.ensures in
    let told : ShowsNamed b.design b.set e (resets_of b.set line) (last_cycle b.set line) shown =
    subst (λ k. ShowsNamed b.design b.set e k (last_cycle b.set line) shown) resets (subst (λ n. ShowsNamed b.design b.set e c.resets_of-resets.result n shown) last c.in_ok-shown.ensures) in
    shows_segment b.design design b.set c.design-design.ensures.fits e (meaning_of b.set) shown line violates told
