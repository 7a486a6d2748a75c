use Rattle.std.proofs.Common.{◌≡◌, List, length, sym, ◌∙◌, subst}
use Rattle.word_dag.specs.declared.node.Node.{Node}
use Rattle.elab_step_nets.specs.Outcomes.{IsSource, AreOutcomes}
use Rattle.elab_step_nets.proofs.Boards.{leaves_long}
use Rattle.elab_step_nets.proofs.Sources.{source_leaves}
use Rattle.elab_step_nets.proofs.nets.processes_of.Goals as goal

pub returns-clause-ready : goal.returns-clause-ready
returns-clause-ready c = λ ls ns board.
    let f = c.args.flat.now in
    let first = c.in_ok-first.first in
    let source = c.outcomes_of.new.source in
    let ran = c.in_ok-outcomes.ensures in
    let made = c.in_ok-copier.ensures in
    let is : source ≡ c.in_ok-copier.copier.source = sym made.source in
    let long : length ls ≡ c.len-count.result = leaves_long f.signals ls board.leaves ∙ sym c.len-count.ensures in
    let P : List Node → Type 0 = λ z. IsSource f.signals first z in
    let Q : List Node → Type 0 = λ z. AreOutcomes first z f.blocks c.in_ok-outcomes.outcomes.items in
    record {
      source = subst P is ran.source;
      outcomes = subst Q is ran.outcomes;
      copies = made.copies ls ns long (source_leaves f.signals first ls source ran.source board.leaves board.apart);
    }
