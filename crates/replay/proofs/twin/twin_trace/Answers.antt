use Rattle.std.proofs.Common.{◌≡◌, List, ◌<◌, ap, ◌∙◌, subst, arith}
use Rattle.set_tree.specs.declared.set.Property.{Property}
use Rattle.set_tree.specs.declared.set.Set.{Set}
use Rattle.set_tree.specs.Parts.{property_at}
use Rattle.word_dag.specs.declared.node.Node.{Node}
use Rattle.twin_tests_laws.specs.Laws.{property_of}
use Rattle.word_dag.specs.Names.{naming_from}
use Rattle.twin_tests.specs.Ordering.{line_of}
use Rattle.replay.specs.Values.{AreOf}
use Rattle.replay.specs.Windows.{AreNamedWindows, ViolatesAt}
use Rattle.replay.proofs.Searching.{none_more, none_of, refuted_at, some_of}
use Rattle.replay.proofs.twin.twin_trace.Goals as goal

pub loop-n-preserved : goal.loop-n-preserved
loop-n-preserved c =
    let e = naming_from c.args.ob.now.nodes c.args.values.now in
    let named : AreOf e c.in_ok-words.words = subst (λ (ns : List Node). AreOf (naming_from ns c.args.values.now) c.in_ok-words.words) c.nodes.ensures.nodes c.in_ok-words.ensures in
    none_more (ViolatesAt c.args.sound.now (line_of c.args.line) e) (property_at c.args.sound.now (property_of (line_of c.args.line))).length.low c.loop-n.n c.loop-n.invariant (c.in_ok-shown.ensures.none e named (none_of c.in_ok-shown.field-0 c.in_default.not-Some))

pub returns-in-Some-clause-named : goal.returns-in-Some-clause-named
returns-in-Some-clause-named c =
    let e = naming_from c.args.ob.now.nodes c.args.values.now in
    let named : AreOf e c.in_ok-words.words = subst (λ (ns : List Node). AreOf (naming_from ns c.args.values.now) c.in_ok-words.words) c.nodes.ensures.nodes c.in_ok-words.ensures in
    let same : c.property_of.result.now ≡ property_at c.args.sound.now (property_of (line_of c.args.line)) =
    c.property_of.ensures ∙ (ap (property_at c.set.result.now) c.property.ensures ∙ ap (λ (s : Set). property_at s (property_of (line_of c.args.line))) c.set.ensures.value) in
    record {
      n = c.loop-n.n;
      least = omega (arith, ap (λ (p : Property). p.length.low) same);
      most = omega (arith, ap (λ (p : Property). p.length.high) same, c.loop-n-test.true);
      windows = some_of (AreNamedWindows c.args.sound.now (line_of c.args.line) e c.loop-n.n) c.in_ok-shown.field-0 c.in-Some.shown c.in-Some.is (c.in_ok-shown.ensures.named e named);
      none_before = c.loop-n.invariant;
    }

pub unreachable-requires : goal.unreachable-requires
unreachable-requires c =
    let at = refuted_at c.args.sound.now (line_of c.args.line) c.args.ob.now.nodes c.args.ob.now.root c.args.values.now c.set.ensures.sound c.requires.of_line c.requires.speaks c.requires.words c.requires.root in
    let same : c.property_of.result.now ≡ property_at c.args.sound.now (property_of (line_of c.args.line)) =
    c.property_of.ensures ∙ (ap (property_at c.set.result.now) c.property.ensures ∙ ap (λ (s : Set). property_at s (property_of (line_of c.args.line))) c.set.ensures.value) in
    let late : at.n < c.loop-n.n = omega (arith, ap (λ (p : Property). p.length.high) same, at.most, c.loop-n-test.false) in
    c.loop-n.invariant at.n at.least late at.violating
