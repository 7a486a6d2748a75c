use Rattle.elab_flat_scopes.proofs.Finding.{got}
use Rattle.elab_flat_drivers.proofs.Spots.{spot_some, spot_lost, spot_none}
use Rattle.elab_flat_drivers.proofs.declared.Declared.spot.Goals as goal

pub returns-in-Some-get : goal.returns-in-Some-get
returns-in-Some-get c =
    spot_some c.self.inside.list.now c.args.self.now c.self.inside.names c.args.name.now c.place.result c.self.invariant c.self.view_is c.place.ensures c.in-Some.place c.get.result c.in-Some-get.signal
    c.in-Some.is (got c.self.inside.list.now c.in-Some.place c.get.result c.get.ensures.lookup) c.in-Some-get.is

pub returns-in-None-get : goal.returns-in-None-get
returns-in-None-get c =
    absurd (spot_lost c.self.inside.list.now c.args.self.now c.self.inside.names c.args.name.now c.place.result c.self.invariant c.self.view_is c.place.ensures c.in-Some.place c.get.result
    c.in-Some.is (got c.self.inside.list.now c.in-Some.place c.get.result c.get.ensures.lookup) c.in-None-get.is)

pub returns-in-None : goal.returns-in-None
returns-in-None c = spot_none c.self.inside.list.now c.args.self.now c.self.inside.names c.args.name.now c.place.result c.self.invariant c.self.view_is c.place.ensures c.in-None.is
