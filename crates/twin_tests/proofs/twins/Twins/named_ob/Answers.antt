use Rattle.std.proofs.Common.{ap, ◌∙◌}
use Rattle.set_tree.specs.Formulas.{meaning_of}
use Rattle.twin_tests_laws.specs.Names.{line_name}
use Rattle.word_dag.proofs.Taken.{widths_are_kept}
use Rattle.twin_tests.specs.Ordering.{line_of}
use Rattle.twin_tests.proofs.Spoken.{line_length}
use Rattle.twin_tests.proofs.twins.Twins.named_ob.Goals as goal

pub returns-clause-named : goal.returns-clause-named
returns-clause-named c =
    let set = c.args.self.now.set.now in
    record {
      name = c.in_ok-name.ensures ∙ ap (line_name set) c.line.ensures;
      of_line = c.in_ok-ob.ensures.of_line (meaning_of set) set (line_of c.args.line) (line_length set (line_of c.args.line) c.requires.structure c.requires.line) c.in_ok-root.ensures.node.means;
      words = c.in_ok-ob.ensures.words (widths_are_kept c.args.nodes.now.dag c.line_node.new.nodes.dag c.in_ok-root.ensures.keeps c.requires.words);
    }
