-- What holds of every list of tokens.
use Rattle.std.specs.Prelude.{◌≡◌, List, Bool, length}
use Rattle.vlog_tree.specs.declared.token.Token.{Token}
use Rattle.vlog_tree.specs.declared.expr.Expr.{Expr}
use Rattle.vlog_tree.specs.Spelling.{Spells}
use Rattle.vlog_tree.specs.Modules.{SpellsFile}
use Rattle.vlog_tree.specs.declared.module.Module.{Module}

-- a list of tokens spells at most one expression
abbrev pub SpellsOneTree : Type 0
SpellsOneTree = (set : Bool) (ts : List Token) (a b : Expr) → Spells set ts 0 a (length ts) → Spells set ts 0 b (length ts) → a ≡ b

-- a list of tokens spells at most one list of modules
abbrev pub SpellsOneList : Type 0
SpellsOneList = (ts : List Token) (xs ys : List Module) → SpellsFile ts xs → SpellsFile ts ys → xs ≡ ys
