-- Where what is read ends.
use Rattle.std.proofs.Common.{ℕ, ◌+◌, ◌≡◌, ◌<◌, ◌≤◌, inl, inr, List, [], ◌∷◌, length, Bool, true, false, refl, arith}
use Rattle.std.specs.Prelude.{codes}
use Rattle.vlog_tree.specs.declared.token.Token.{Token}
use Rattle.vlog_tree.specs.declared.item.PortKind.{PortKind}
use Rattle.vlog_tree.specs.declared.item.PortKind.TheVariants as p
use Rattle.vlog_tree.specs.Lists.{Flag, highest}
use Rattle.vlog_tree.specs.Modules.{SpellsKind}
use Rattle.vlog_tree.specs.declared.token.Kind.TheVariants as k
use Rattle.vlog_tree.specs.Spelling.{IsIdentifier}
use Rattle.vlog_tree.specs.Statements.{OrComma}
use Rattle.vlog_read_spelling.proofs.Tokens.{kind_within}
use Rattle.vlog_read_spelling.proofs.Forms.{height_pos, length_of, within}
use Rattle.vlog_read_expr.specs.declared.expr.Parsed.{Parsed}
use Rattle.vlog_read_expr.specs.Answers.{IsRead}
use Rattle.vlog_read_stmt.specs.declared.lval.ParsedLval.{ParsedLval}
use Rattle.vlog_read_stmt.specs.declared.stmt.ParsedStmt.{ParsedStmt}
use Rattle.vlog_read_stmt.specs.Answers.{IsLval, IsStmt}
use Rattle.vlog_read_stmt.proofs.LvalSteps.{lval_span}
use Rattle.vlog_read_stmt.proofs.StmtSteps.{span}

pub tree_bounds : (ts : List Token) (i depth : ℕ) (p : Parsed) → IsRead false ts 1 i depth p → (i < p.end) × (p.end ≤ length ts)
tree_bounds ts i depth p r = (omega (arith, length_of false ts i p.tree p.end r.reads.spelt, height_pos p.tree), within false ts i p.tree p.end r.reads.spelt)

pub lval_bounds : (ts : List Token) (i depth : ℕ) (p : ParsedLval) → IsLval ts i depth p → (i < p.end) × (p.end ≤ length ts)
lval_bounds ts i depth p r = lval_span ts i p.tree p.end r.reads.spelt

pub stmt_bounds : (ts : List Token) (i depth : ℕ) (p : ParsedStmt) → IsStmt ts i depth p → (i < p.end) × (p.end ≤ length ts)
stmt_bounds ts i depth p r = span ts i p.tree p.end r.reads.spelt

pub name_bound : (ts : List Token) (i : ℕ) (w : List ℕ) → IsIdentifier false ts i w → i < length ts
name_bound ts i w p = kind_within ts i (k.Word w) p.stands

pub or_within : (ts : List Token) (i : ℕ) → OrComma ts i → i < length ts
or_within ts i (inl p) = kind_within ts i _ p
or_within ts i (inr p) = kind_within ts i _ p

flag_forward : (ts : List Token) (i : ℕ) (w : Bool) (j : ℕ) → Flag ts (codes "wire") (i + 1) w j → i < j
flag_forward ts i true j a = omega (arith, a.1)
flag_forward ts i false j a = omega (arith, a)

pub kind_forward : (ts : List Token) (i : ℕ) (kind : PortKind) (j : ℕ) → SpellsKind ts i kind j → i < j
kind_forward ts i p.Input j a = flag_forward ts i a.0 j a.2
kind_forward ts i p.Output j a = flag_forward ts i a.0 j a.2
kind_forward ts i p.OutputReg j a = omega (arith, a.2)

pub no_heights : (xs : List (List ℕ)) → highest (λ (n : List ℕ). 0) xs ≡ 0
no_heights [] = refl
no_heights (x ∷ xs) = omega (arith, no_heights xs)
