-- The law.
use Rattle.std.specs.Prelude.{ℕ, List}
use Rattle.vlog_tree.specs.declared.module.Module.{Module}
use Rattle.vlog_read.specs.Texts.{SpellsModules}
use Rattle.elab_flat_faults.specs.Plain.{ArePlainTexts}

-- the modules that a text spells are plain
abbrev pub ReadTextsArePlain : Type 0
ReadTextsArePlain = (text : List ℕ) (ms : List Module) → SpellsModules text ms → ArePlainTexts ms
