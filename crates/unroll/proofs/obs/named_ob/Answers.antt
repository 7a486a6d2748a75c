use Rattle.std.proofs.Common.{ap, ◌∙◌}
use Rattle.set_tree.specs.Formulas.{meaning_of}
use Rattle.twin_tests_laws.specs.Names.{line_name}
use Rattle.unroll_laws.proofs.Testing.{tests_are_of_lines}
use Rattle.word_dag.proofs.Taken.{obligations_have_one_word_each, widths_are_kept}
use Rattle.unroll.specs.Named.{line_of}
use Rattle.unroll.proofs.obs.named_ob.Goals as goal

pub returns-clause-named : goal.returns-clause-named
returns-clause-named c = λ d h fits are.
    let set = c.args.set.now in
    record {
      name = c.in_ok-name.ensures ∙ ap (line_name set) c.line.ensures;
      of_line = tests_are_of_lines d (meaning_of set) set h fits (line_of c.args.line) c.in_ok-ob.ob.nodes c.in_ok-ob.ob.root (λ e. c.in_ok-ob.ensures.value e ∙ (c.in_ok-root.ensures.node d are).means e);
      words = obligations_have_one_word_each c.line_node.new.dag c.in_ok-root.root c.in_ok-ob.ob c.in_ok-ob.ensures.exact c.in_ok-ob.ensures.distinct (widths_are_kept c.args.dag.now c.line_node.new.dag c.in_ok-root.ensures.keeps c.requires.words);
    }
