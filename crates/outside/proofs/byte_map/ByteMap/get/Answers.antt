use Rattle.std.proofs.Common.{◌∙◌, ap}
use Rattle.std.specs.FinMap.{get}
use Rattle.outside.proofs.ByteMaps.{get-rows}
use Rattle.outside.proofs.byte_map.ByteMap.get.Goals as goal

pub returns : goal.returns
returns g c =
    c.get.ensures.value ∙ get-rows c.args.key.now c.self.inside.rows.entries c.self.invariant
    ∙ ap (λ m. get m c.args.key.now) c.self.view_is
