use Rattle.std.proofs.Common.{map}
use Rattle.elab_flat_scopes.specs.Borrowed.{name_meant}
use Rattle.elab_flat_names.proofs.Seconds.{headed_by}
use Rattle.elab_flat_names.proofs.again.headed_names.Goals as goal

pub returns-in_ok-names-in-Groups : goal.returns-in_ok-names-in-Groups
returns-in_ok-names-in-Groups c =
    headed_by c.args.text.now _ _ c.in-Some.is c.in-Groups.is (map name_meant c.in_ok-names-in-Groups.names.items) c.in_ok-names-in-Groups.ensures
