-- Declarations that keep the rules or break one, and the faults of what breaks one (IEEE 1364-2005, sections 4.3 and 4.9).
use Rattle.std.specs.Prelude.{◌⊎◌, List, ◌∷◌, map}
use Rattle.vlog_tree.specs.declared.module.Module.{Module}
use Rattle.vlog_tree.specs.declared.valuation.Entry.{Entry}
use Rattle.vlog_tree_runs.specs.declared.flat.Signal.{Signal}
use Rattle.vlog_tree_runs.specs.Places.{Name, Among, entry_of, words_from}
use Rattle.vlog_tree_runs.specs.Contents.{Decl, decls_in}
use Rattle.vlog_tree_runs.specs.Scopes.{Scope}
use Rattle.elab_flat_faults.specs.declared.flattening.FlatFault.{FlatFault}
use Rattle.elab_flat_faults.specs.declared.flattening.FlatFault.TheVariants as f
use Rattle.elab_flat_faults.specs.Constants.{IsOrdered, IsFromZero, BreaksBounds, BreaksRange, BreaksWords, InRange}
use Rattle.elab_flat_params.specs.declared.unfit.BadRange.{BadRange}
use Rattle.elab_flat_params.specs.declared.unfit.BadRange.TheVariants as r
use Rattle.elab_flat_params.specs.declared.unfit.BadSignal.{BadSignal}
use Rattle.elab_flat_params.specs.declared.unfit.BadSignal.TheVariants as g
use Rattle.elab_flat_params.specs.declared.unfit.BadWords.{BadWords}
use Rattle.elab_flat_params.specs.declared.unfit.BadWords.TheVariants as w
use Rattle.elab_flat_params.specs.declared.unfit.Unfit.{Unfit}
use Rattle.elab_flat_params.specs.declared.unfit.Unfit.TheVariants as u
use Rattle.elab_flat_params.specs.Constants.{is_known}
use Rattle.elab_flat_params.specs.Signals.{IsDeclared}
use Rattle.elab_flat_instances.specs.Unfolding.{StandsIn}
use Rattle.elab_flat_widths.specs.declared.violation.Violation.{Violation}
use Rattle.elab_flat_widths.specs.declared.violation.Violation.TheVariants as b

-- which rule a declaration breaks, by why it declares nothing
abbrev pub unfit_violation : Unfit → Violation
unfit_violation u.Name = b.Constant
unfit_violation u.Length = b.Length
unfit_violation u.Divisor = b.Constant

abbrev pub range_violation : BadRange → Violation
range_violation (r.High cause) = unfit_violation cause
range_violation (r.Low cause) = unfit_violation cause
range_violation r.Order = b.Constant
range_violation r.Long = b.Length

abbrev pub words_violation : BadWords → Violation
words_violation (w.First cause) = unfit_violation cause
words_violation (w.Last cause) = unfit_violation cause
words_violation w.Order = b.Constant
words_violation w.Many = b.Length

abbrev pub signal_violation : BadSignal → Violation
signal_violation (g.Bits cause) = range_violation cause
signal_violation (g.Words cause) = words_violation cause
signal_violation g.Memory = b.Memory

-- a declaration's ranges break a rule
abbrev pub BreaksDecl : List Entry → Decl → Violation → Type 0
BreaksDecl v d b.Constant = InRange (BreaksBounds IsOrdered (is_known v) v) d.shape.range ⊎ InRange (BreaksBounds IsFromZero (is_known v) v) d.words
BreaksDecl v d b.Length = InRange (BreaksRange (is_known v) v) d.shape.range ⊎ InRange (BreaksWords (is_known v) v) d.words
BreaksDecl v d b.Memory = ⊥

-- all declarations of a scope declare bits and words
abbrev pub AreDeclared : Scope → Type 0
AreDeclared s = (d : Decl) → Among (decls_in s.module') d → IsDeclared s.params d

-- the fault of what breaks a rule
abbrev pub fault_of : Name → Violation → FlatFault
fault_of n b.Constant = f.Constant n
fault_of n b.Length = f.Width n
fault_of n b.Memory = f.Memory

-- a fault stands at a scope, whatever the modules and its name
abbrev pub StandsAlone : Scope → FlatFault → Type 0
StandsAlone s fault = (ms : List Module) → StandsIn ms s fault

-- what a signal and its words stand for, the numbers being 0
abbrev pub resting_word : Signal → Entry
resting_word g = entry_of g 0

abbrev pub resting : Signal → List Entry
resting g = entry_of g 0 ∷ map resting_word (words_from g 0 g.depth)
