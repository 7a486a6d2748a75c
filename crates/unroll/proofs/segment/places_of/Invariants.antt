use Rattle.std.proofs.Common.{take}
use Rattle.std.specs.List.{AllZip}
use Rattle.unroll.specs.Copies.{IsPlaceOf}
use Rattle.unroll.proofs.segment.places_of.Given as goal

-- the places so far
abbrev pub invariant-loop-name : goal.invariant-loop-name
invariant-loop-name l = AllZip (IsPlaceOf l.bound.design) (take l.name-index l.name-items) l.places.items
