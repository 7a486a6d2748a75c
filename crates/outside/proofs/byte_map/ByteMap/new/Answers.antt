use Rattle.std.proofs.Common.{◌∙◌, ap}
use Rattle.std.specs.FinMap.{from_sorted}
use Rattle.outside.specs.Keys.{rows_of}
use Rattle.outside.proofs.ByteMaps.{no-rows}
use Rattle.outside.proofs.byte_map.ByteMap.new.Goals as goal

pub returns : goal.returns
returns g c = ap (λ es. from_sorted (rows_of es)) c.new.ensures.empty ∙ no-rows
