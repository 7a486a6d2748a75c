use Rattle.std.proofs.Common.{ap, ◌∙◌}
use Rattle.std.specs.List.{flat_map}
use Rattle.std.proofs.lemmas.Result.{IfOk-weaker}
use Rattle.mem_faults.specs.Held.{resting}
use Rattle.mem_faults.proofs.Keeping.{at_rest_is}
use Rattle.mem_faults.proofs.rest.at_rest.Goals as goal

pub returns : goal.returns
returns c =
    IfOk-weaker c.all_at_rest.result _ _ (λ r h. h ∙ (ap (flat_map resting) c.as_slice.ensures ∙ at_rest_is c.args.flat.now)) c.all_at_rest.ensures
