use Rattle.std.proofs.Common.{◌≡◌, Some, ap, ◌∙◌}
use Rattle.std.specs.List.{slice_get}
use Rattle.std.specs.Option.{option_map}
use Rattle.std.proofs.lemmas.Result.{IfOk-weaker}
use Rattle.vlog_tree_runs.specs.Places.{Name}
use Rattle.vlog_tree_runs.specs.Contents.{instances_in}
use Rattle.vlog_tree_runs.specs.Scopes.{inner_prefix}
use Rattle.elab_flat_instances.specs.Graph.{inner_name}
use Rattle.elab_flat_instances.proofs.recursion.prefix_at.Goals as goal

pub returns : goal.returns
returns c =
    IfOk-weaker c.inner_prefix.result (λ (r : Name). r ≡ inner_prefix c.args.prefix.now c.bytes.result.now)
    (λ (r : Name). (name : Name) × (option_map inner_name (slice_get (instances_in c.args.text.now) c.args.at) ≡ Some name) × (r ≡ inner_prefix c.args.prefix.now name))
    (λ r e. (c.in_ok-name.name, c.in_ok-name.ensures, e ∙ ap (inner_prefix c.args.prefix.now) c.bytes.ensures)) c.inner_prefix.ensures
