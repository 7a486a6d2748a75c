-- What the readers of names answer.
use Rattle.std.specs.Prelude.{ℕ, ◌≡◌, List, Bool, Result, Ok, Err}
use Rattle.vlog_tree.specs.declared.token.Token.{Token}
use Rattle.vlog_tree.specs.declared.expr.Name.{Name}
use Rattle.vlog_tree.specs.Spelling.{IsIdentifier, IsPath, IsOffset, IsName, Dot}
use Rattle.vlog_read_spelling.specs.Growing.{NoPath}
use Rattle.vlog_read_lex.specs.declared.error.ReadFault.{ReadFault}
use Rattle.vlog_read_lex.specs.declared.error.ReadFault.TheVariants as f
use Rattle.vlog_read_expr.specs.declared.name.Named.{Named}
use Rattle.vlog_read_expr.specs.declared.name.Path.{Path}
use Rattle.vlog_read_expr.specs.declared.name.Offset.{Offset}

-- Syntax only where nothing reads as P; no other fault but want of memory
abbrev pub Lacks : {A : Type 0} → (A → ℕ → Type 0) → ReadFault → Type 0
Lacks {A} P (f.Syntax at) = (a : A) (j : ℕ) → P a j → ⊥
Lacks P f.Memory = Unit {0}
Lacks P f.Deep = ⊥
Lacks P (f.Bytes at) = ⊥
Lacks P (f.Number at) = ⊥
Lacks P (f.Outside at) = ⊥

abbrev pub RefusesIdentifier : Bool → List Token → ℕ → ReadFault → Type 0
RefusesIdentifier set ts i = Lacks (λ w j. IsIdentifier set ts i w)

-- a path that no dot follows
abbrev pub ReadsPath : List Token → ℕ → List ℕ → ℕ → Type 0
ReadsPath ts i text j = IsPath ts i text j × (Dot ts j → ⊥)

abbrev pub PathAnswers : List Token → ℕ → Result Path ReadFault → Type 0
PathAnswers ts i (Ok p) = ReadsPath ts i p.text p.end
PathAnswers ts i (Err fault) = Lacks (ReadsPath ts i) fault

-- an offset that no dot and no `@` follows
abbrev pub ReadsOffset : List Token → ℕ → ℕ → ℕ → Type 0
ReadsOffset ts i offset j = IsOffset ts i offset j × NoPath ts j

abbrev pub OffsetAnswers : List Token → ℕ → Result Offset ReadFault → Type 0
OffsetAnswers ts i (Ok p) = IsOffset ts i p.cycles p.end × ((o j : ℕ) → ReadsOffset ts i o j → j ≡ p.end)
OffsetAnswers ts i (Err fault) = Lacks (ReadsOffset ts i) fault

-- a name that no dot and no `@` follows
abbrev pub ReadsName : Bool → List Token → ℕ → Name → ℕ → Type 0
ReadsName set ts i n j = IsName set ts i n j × NoPath ts j

abbrev pub NameAnswers : Bool → List Token → ℕ → Result Named ReadFault → Type 0
NameAnswers set ts i (Ok p) = ReadsName set ts i p.name p.end
NameAnswers set ts i (Err fault) = Lacks (ReadsName set ts i) fault
