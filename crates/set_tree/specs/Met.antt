-- What can be met: which properties some run of the design starts.
use Rattle.std.specs.Prelude.{◌≡◌, ℕ, true, List}
use Rattle.set_tree.specs.declared.set.Set.{Set}
use Rattle.set_tree.specs.Meaning.{Meaning}
use Rattle.set_tree.specs.Parts.{window_of, largest_window, assumed}
use Rattle.set_tree.specs.Runs.{Design, IsResetSegment, IsSegment, trace_of}

-- some reset segment goes on for the largest window
abbrev pub ResetIsMet : {Cycle : Type 0} → Design Cycle → Meaning → Set → Type 0
ResetIsMet {Cycle} d m set = (resets : List Cycle) × (cycles : List Cycle) × IsResetSegment d m set (largest_window set) resets cycles

-- some segment of P's window begins where P is assumed
abbrev pub OperationIsMet : {Cycle : Type 0} → Design Cycle → Meaning → Set → ℕ → Type 0
OperationIsMet {Cycle} d m set p =
    (cycles : List Cycle) × IsSegment d m set (window_of set p) cycles × (assumed m set p (trace_of d cycles) ≡ true)
