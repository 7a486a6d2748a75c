use Rattle.std.proofs.Common.{sym, subst}
use Rattle.std.proofs.lemmas.Result.{IfOk-weaker}
use Rattle.set_tree.specs.declared.line.Line.{Line}
use Rattle.set_tree.specs.declared.set.Set.{Set}
use Rattle.set_tree.specs.Formulas.{meaning_of}
use Rattle.word_dag.specs.Nodes.{Parts}
use Rattle.word_dag.specs.Names.{naming_from}
use Rattle.twin_tests_laws.specs.Lines.{IsOf as IsOfSet}
use Rattle.unroll_laws.specs.Lines.{IsOf as IsOfDesign}
use Rattle.twin_tests.specs.Framing.{SpeaksOf}
use Rattle.twin_tests.specs.Ordering.{line_of as set_line_of}
use Rattle.twin_tests.proofs.Told.{ok_two}
use Rattle.unroll.specs.Named.{line_of as design_line_of}
use Rattle.replay.specs.Windows.{ShowsNamedWindows, ShowsWindows}
use Rattle.desk_core_goals.specs.Obligations.{IsExact}
use Rattle.desk_core_goals.specs.Traces.{ShowsLine}
use Rattle.desk_core_goals.proofs.Showing.{of_design, of_set, shows_design, shows_set}
use Rattle.desk_core_goals.proofs.trace.shown_of.Goals as goal

pub replay-requires-clause-of_line : goal.replay-requires-clause-of_line
replay-requires-clause-of_line c =
    let b = c.args.bound.now in
    let line = c.in-Design.line in
    let named = c.requires.ob.0 in
    let exact = subst (λ (l : Line). IsExact b l named) (sym c.in-Design.ensures) c.requires.ob.1.exact in
    subst (λ (o : Parts). IsOfDesign b.design (meaning_of b.set) b.set (design_line_of line) o.nodes o.root) c.requires.ob.2 (of_design b line named exact)

pub replay-requires-clause-speaks : goal.replay-requires-clause-speaks
replay-requires-clause-speaks c = subst (λ (l : Line). SpeaksOf c.args.bound.now.set l) (sym c.in-Design.ensures) c.requires.ob.1.speaks

pub returns-in-Design : goal.returns-in-Design
returns-in-Design c =
    let b = c.args.bound.now in
    let e = naming_from c.args.ob.now.nodes c.args.values.now in
    IfOk-weaker c.replay.result _ _ (λ shown h. subst (λ (l : Line). ShowsLine b l e shown) c.in-Design.ensures (shows_design b c.in-Design.line e shown h)) c.replay.ensures

pub twin_trace-requires-clause-of_line : goal.twin_trace-requires-clause-of_line
twin_trace-requires-clause-of_line c =
    let b = c.args.bound.now in
    let line = c.in-Set.line in
    let named = c.requires.ob.0 in
    let exact = subst (λ (l : Line). IsExact b l named) (sym c.in-Set.ensures) c.requires.ob.1.exact in
    let here = subst (λ (o : Parts). IsOfSet (meaning_of b.set) b.set (set_line_of line) o.nodes o.root) c.requires.ob.2 (of_set b line named exact) in
    subst (λ (z : Set). IsOfSet (meaning_of z) z (set_line_of line) c.args.ob.now.nodes c.args.ob.now.root) (sym c.set.ensures) here

pub twin_trace-requires-clause-speaks : goal.twin_trace-requires-clause-speaks
twin_trace-requires-clause-speaks c = subst (λ (z : Set). SpeaksOf z (set_line_of c.in-Set.line)) (sym c.set.ensures) (subst (λ (l : Line). SpeaksOf c.args.bound.now.set l) (sym c.in-Set.ensures) c.requires.ob.1.speaks)

pub returns-in-Set : goal.returns-in-Set
returns-in-Set c =
    let b = c.args.bound.now in
    let e = naming_from c.args.ob.now.nodes c.args.values.now in
    let line = set_line_of c.in-Set.line in
    ok_two c.twin_trace.result _ _ _
    (λ shown h k. subst (λ (l : Line). ShowsLine b l e shown) c.in-Set.ensures (shows_set b c.in-Set.line e shown (subst (λ (z : Set). ShowsWindows z line shown) c.set.ensures h) (subst (λ (z : Set). ShowsNamedWindows z line e shown) c.set.ensures k))) c.twin_trace.ensures.shows c.twin_trace.ensures.named
