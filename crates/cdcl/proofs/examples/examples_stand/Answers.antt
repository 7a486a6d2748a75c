use Rattle.cdcl.proofs.ExampleSteps.{examples}
use Rattle.cdcl.proofs.examples.examples_stand.Goals as goal

pub returns : goal.returns
returns c = examples
