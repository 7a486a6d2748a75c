-- Which fault of memories is told: the first that stands.
use Rattle.std.specs.Prelude.{ℕ, ◌<◌}
use Rattle.vlog_tree_runs.specs.declared.flat.Flat.{Flat}
use Rattle.mem_laws.specs.declared.fault.MemFault.{MemFault}
use Rattle.mem_laws.specs.declared.fault.MemFault.TheVariants as m
use Rattle.mem_laws.specs.Stands.{Stands}

-- the order in which faults are told
abbrev pub rank : MemFault → ℕ
rank (m.Twice x) = 1
rank (m.Whole x) = 2
rank (m.Nested x) = 3
rank (m.Kind x) = 4
rank m.Uses = 5
rank m.Memory = 6

-- it stands, and none of an earlier kind does
pub record IsFirstFault (f : Flat) (fault : MemFault) : Type 0 where
  pub stands : Stands f fault
  pub first : (other : MemFault) → rank other < rank fault → Stands f other → ⊥
