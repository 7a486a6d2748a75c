-- What a declaration says after its word: a sign and a range, and a list up to its semicolon.
use Rattle.std.specs.Prelude.{ℕ, max}
use Rattle.std.specs.Prelude.{List}
use Rattle.vlog_tree.specs.declared.token.Token.{Token}
use Rattle.vlog_tree.specs.Lists.{UpToEnd, highest}
use Rattle.vlog_tree.specs.Modules.{SpellsShape, shape_height}
use Rattle.vlog_read.specs.declared.declaration.Declared.{Declared}
use Rattle.vlog_read.specs.Answers.{Plain}

abbrev pub declared_height : {A : Type 0} → (A → ℕ) → Declared A → ℕ
declared_height h x = max (shape_height x.shape) (highest h x.items)

abbrev pub SpellsDeclared : {A : Type 0} → List Token → (ℕ → A → ℕ → Type 0) → ℕ → Declared A → ℕ → Type 0
SpellsDeclared ts P i x j = (m : ℕ) × SpellsShape ts i x.shape m × UpToEnd ts P m x.items j

-- the list begins with neither `signed` nor a range
abbrev pub ReadsDeclared : {A : Type 0} → List Token → (ℕ → A → ℕ → Type 0) → ℕ → Declared A → ℕ → Type 0
ReadsDeclared ts P i x j = (m : ℕ) × SpellsShape ts i x.shape m × UpToEnd ts P m x.items j × Plain ts m
