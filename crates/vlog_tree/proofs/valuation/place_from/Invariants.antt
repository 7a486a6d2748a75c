use Rattle.std.proofs.Common.{◌≡◌, drop}
use Rattle.std.specs.List.{position_from}
use Rattle.vlog_tree.specs.Valuation.{is_named}
use Rattle.vlog_tree.proofs.valuation.place_from.Given as goal

-- what was passed has another name or offset
abbrev pub invariant-loop-place : goal.invariant-loop-place
invariant-loop-place l = position_from (is_named l.name l.offset) l.place (drop l.place l.entries) ≡ position_from (is_named l.name l.offset) l.start (drop l.start l.entries)
