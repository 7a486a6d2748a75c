use Rattle.std.proofs.Common.{◌≡◌, ◌+◌, ◌-◌, List, ap, sym, ◌∙◌, subst, arith, length, map}
use Rattle.set_tree.specs.declared.set.Set.{Set}
use Rattle.set_tree.specs.Meaning.{Row}
use Rattle.set_tree.specs.Traces.{IsTrace}
use Rattle.elab_step_design.specs.Designs.{IsDesign}
use Rattle.elab_step_design.specs.Laws.{word_design}
use Rattle.replay.specs.declared.shown.Trace.{Trace}
use Rattle.unroll_laws.specs.Tests.{rows_from}
use Rattle.unroll_laws.proofs.Running.{rows_fit}
use Rattle.path_machine.specs.Rows.{inputs_of}
use Rattle.path_machine.specs.Runs.{IsRunTrace}
use Rattle.path_machine.specs.Stimuli.{IsGivenBy, name_of, stimulus}
use Rattle.path_machine.proofs.Driving.{all_long, given_same, if_ok_map, later_is, run_is}
use Rattle.path_machine.proofs.run.run_trace.Goals as goal

pub rows_after-requires : goal.rows_after-requires
rows_after-requires c =
    let b = c.args.bound.now in
    let rows = c.args.rows.now in
    let e = stimulus (map name_of (inputs_of b.set)) b.set.cycles rows in
    let read : c.set-set.result.now ≡ b.set = c.set-set.ensures.value ∙ c.set.ensures in
    let has : IsGivenBy c.in_ok-input_names.field-0 c.set-set.result.now.cycles c.as_slice.result.now e =
    given_same (map name_of (inputs_of b.set)) c.in_ok-input_names.field-0 b.set.cycles c.set-set.result.now.cycles rows c.as_slice.result.now (c.in_ok-input_names.ensures ∙ ap (λ (z : Set). map name_of (inputs_of z)) read) (ap (λ (z : Set). z.cycles) read) c.as_slice.ensures in
    all_long b.design b.set rows e c.set-set.result.now.cycles (length c.as_slice.result.now) c.from.result c.in_ok-all.all (c.in_ok-all.ensures e has) (ap (λ (rs : List Row). length rs) c.as_slice.ensures) (c.from.ensures ∙ ap (λ (z : Set). z.cycles) read) c.requires.enough

pub returns-clause-run : goal.returns-clause-run
returns-clause-run c =
    let b = c.args.bound.now in
    let rows = c.args.rows.now in
    let design = subst IsDesign c.design.ensures.value c.dag-fit.ensures.design in
    let e = stimulus (map name_of (inputs_of b.set)) b.set.cycles rows in
    let read : c.set-set.result.now ≡ b.set = c.set-set.ensures.value ∙ c.set.ensures in
    let has : IsGivenBy c.in_ok-input_names.field-0 c.set-set.result.now.cycles c.as_slice.result.now e =
    given_same (map name_of (inputs_of b.set)) c.in_ok-input_names.field-0 b.set.cycles c.set-set.result.now.cycles rows c.as_slice.result.now (c.in_ok-input_names.ensures ∙ ap (λ (z : Set). map name_of (inputs_of z)) read) (ap (λ (z : Set). z.cycles) read) c.as_slice.ensures in
    let later : c.in_ok-later.later ≡ rows_from b.design b.set b.set.cycles e b.set.cycles (length rows - b.set.cycles) =
    later_is b.design b.set rows e c.set-set.result.now.cycles (length c.as_slice.result.now) c.from.result c.in_ok-all.all c.in_ok-later.later (c.in_ok-all.ensures e has) (ap (λ (z : Set). z.cycles) read) (ap (λ (rs : List Row). length rs) c.as_slice.ensures) (c.from.ensures ∙ ap (λ (z : Set). z.cycles) read) c.requires.enough c.in_ok-later.ensures in
    let long : length rows ≡ b.set.cycles + (length rows - b.set.cycles) = omega (arith, c.requires.enough) in
    if_ok_map c.trace_of.result (λ (t : Trace). t.rows ≡ c.in_ok-later.later) (λ (t : Trace). IsRunTrace (word_design b.design b.set) b.design b.set rows t.rows)
    (λ t is. run_is b.design design b.set c.design.ensures.fits rows c.requires.fit (length rows - b.set.cycles) t.rows long (is ∙ later)) c.trace_of.ensures.rows

pub returns-clause-trace : goal.returns-clause-trace
returns-clause-trace c =
    let b = c.args.bound.now in
    let rows = c.args.rows.now in
    let design = subst IsDesign c.design.ensures.value c.dag-fit.ensures.design in
    let e = stimulus (map name_of (inputs_of b.set)) b.set.cycles rows in
    let read : c.set-set.result.now ≡ b.set = c.set-set.ensures.value ∙ c.set.ensures in
    let has : IsGivenBy c.in_ok-input_names.field-0 c.set-set.result.now.cycles c.as_slice.result.now e =
    given_same (map name_of (inputs_of b.set)) c.in_ok-input_names.field-0 b.set.cycles c.set-set.result.now.cycles rows c.as_slice.result.now (c.in_ok-input_names.ensures ∙ ap (λ (z : Set). map name_of (inputs_of z)) read) (ap (λ (z : Set). z.cycles) read) c.as_slice.ensures in
    let later : c.in_ok-later.later ≡ rows_from b.design b.set b.set.cycles e b.set.cycles (length rows - b.set.cycles) =
    later_is b.design b.set rows e c.set-set.result.now.cycles (length c.as_slice.result.now) c.from.result c.in_ok-all.all c.in_ok-later.later (c.in_ok-all.ensures e has) (ap (λ (z : Set). z.cycles) read) (ap (λ (rs : List Row). length rs) c.as_slice.ensures) (c.from.ensures ∙ ap (λ (z : Set). z.cycles) read) c.requires.enough c.in_ok-later.ensures in
    if_ok_map c.trace_of.result (λ (t : Trace). t.rows ≡ c.in_ok-later.later) (λ (t : Trace). IsTrace b.set t.rows)
    (λ t is. subst (IsTrace b.set) (sym (is ∙ later)) (rows_fit b.design design b.set c.design.ensures.fits b.set.cycles e b.set.cycles (length rows - b.set.cycles))) c.trace_of.ensures.rows
