-- What stands before a module's items.
use Rattle.std.specs.Prelude.{ℕ, ◌+◌, ◌≡◌, ◌<◌, max, List, Result, Ok, Err, false, codes}
use Rattle.vlog_tree.specs.declared.token.Token.{Token}
use Rattle.vlog_tree.specs.Signs.{IsSign, IsWord}
use Rattle.vlog_tree.specs.Lists.{Maybe, AfterHash, highest, highest_of}
use Rattle.vlog_tree.specs.Spelling.{IsIdentifier}
use Rattle.vlog_tree.specs.Modules.{SpellsParameters, SpellsHeader, header_parameter_height, ports_height}
use Rattle.vlog_read_lex.specs.declared.error.ReadFault.{ReadFault}
use Rattle.vlog_read_expr.specs.Answers.{Refusal}
use Rattle.vlog_read.specs.Answers.{IsFound}
use Rattle.vlog_read.specs.declared.part.Found.{Found}
use Rattle.vlog_read.specs.declared.module.Head.{Head}

abbrev pub head_height : Head → ℕ
head_height x = max (highest_of (highest header_parameter_height) x.parameters) (highest_of ports_height x.ports)

abbrev pub SpellsHead : List Token → ℕ → Head → ℕ → Type 0
SpellsHead ts i x j =
    (a b : ℕ) × IsWord ts i (codes "module") × IsIdentifier false ts (i + 1) x.name × Maybe (AfterHash ts (SpellsParameters ts)) (i + 2) x.parameters a
    × SpellsHeader ts a x.ports b × IsSign ts b (codes ";") × (j ≡ b + 1)

-- a head, or why there is none: its first word is no part of a tree, so one more token stands there than the depth needs
abbrev pub FindsHead : List Token → ℕ → ℕ → Result (Found Head) ReadFault → Type 0
FindsHead ts i depth (Ok p) = IsFound ts head_height (SpellsHead ts) (SpellsHead ts) i depth p × (i < p.end)
FindsHead ts i depth (Err fault) = Refusal head_height (SpellsHead ts i) ts (i + 1) depth fault
