use Rattle.std.proofs.Common.{◌⊎◌, drop, map}
use Rattle.vlog_tree_runs.specs.Places.{Among}
use Rattle.vlog_tree_runs.specs.Scopes.{place_of}
use Rattle.elab_flat_instances.specs.Unfolding.{scope_meant}
use Rattle.elab_flat_widths.specs.Usages.{Usage, IsSoundUsage}
use Rattle.elab_flat_widths.specs.Sites.{site_meant}
use Rattle.elab_flat_widths.proofs.block.check_body.Given as goal

abbrev pub invariant-loop-site : goal.invariant-loop-site
invariant-loop-site l =
    (u : Usage) → Among (map site_meant l.site-items) u → (IsSoundUsage (place_of (scope_meant l.scope)) u) ⊎ Among (map site_meant (drop l.site-index l.site-items)) u
