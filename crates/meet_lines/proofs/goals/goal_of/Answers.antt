use Rattle.std.proofs.Common.{◌∙◌, refl}
use Rattle.set_tree.specs.Formulas.{meaning_of}
use Rattle.word_dag.proofs.Taken.{obligations_have_one_word_each, widths_are_kept}
use Rattle.meet_lines.specs.Lines.{IsOf}
use Rattle.meet_lines.proofs.Testing.{obligations_decide, tests_are_of_lines}
use Rattle.meet_lines.proofs.goals.goal_of.Goals as goal

pub returns-clause-goal : goal.returns-clause-goal
returns-clause-goal c = λ d h fits are.
    let set = c.args.set.now in
    let m = meaning_of set in
    let line = c.args.line in
    let ob = c.in_ok-ob.ob in
    let of_line : IsOf d m set line ob.nodes ob.root = tests_are_of_lines d m set h fits line ob.nodes ob.root (λ e. c.in_ok-ob.ensures.value e ∙ (c.in_ok-root.ensures.node d are).means e) in
    record {
      line_is = refl;
      speaks = c.requires.line;
      of_line = of_line;
      words = obligations_have_one_word_each c.line_node.new.dag c.in_ok-root.root ob c.in_ok-ob.ensures.exact c.in_ok-ob.ensures.distinct (widths_are_kept c.args.dag.now c.line_node.new.dag c.in_ok-root.ensures.keeps c.requires.words);
      decides = obligations_decide d m set h line ob.nodes ob.root of_line;
    }
