use Rattle.vlog_tree_runs.specs.Scopes.{place_of}
use Rattle.elab_flat_instances.specs.Unfolding.{scope_meant}
use Rattle.elab_flat_drivers.proofs.Naming.{meant_at}
use Rattle.elab_flat_widths.specs.Usages.{usages, BreaksUsage, BreaksBody}
use Rattle.elab_flat_widths.specs.Sites.{site_meant}
use Rattle.elab_flat_widths.proofs.Takes.{fails_map}
use Rattle.elab_flat_widths.proofs.block.check_body.Goals as goal

pub check_site-requires-clause-signals : goal.check_site-requires-clause-signals
check_site-requires-clause-signals c =
    c.requires.signals (site_meant c.site-item.result)
    (meant_at site_meant c.deref-site-items.result.now c.in_ok-sites.sites.items (usages c.args.body.now) c.loop-site.site-index c.site-item.result c.loop-site-test.true c.site-item.is c.deref-site-items.ensures.value c.in_ok-sites.ensures)

pub returns-in-Err-clause-err : goal.returns-in-Err-clause-err
returns-in-Err-clause-err c =
    let p = place_of (scope_meant c.args.scope.now) in
    let u = site_meant c.site-item.result in
    fails_map (BreaksUsage p u) (BreaksBody p c.args.body.now)
    (λ w h. (u, meant_at site_meant c.deref-site-items.result.now c.in_ok-sites.sites.items (usages c.args.body.now) c.loop-site.site-index c.site-item.result c.loop-site-test.true c.site-item.is c.deref-site-items.ensures.value c.in_ok-sites.ensures, h))
    c.in-Err.violation c.in-Err.ensures.err
