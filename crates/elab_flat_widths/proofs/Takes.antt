-- An expression that keeps the rules breaks none.
use Rattle.std.proofs.Common.{◌≡◌, ℕ, max, Bool, true, false, ◌&&◌, List, Result, Ok, Err, inl, inr, refl, ap, ◌∙◌}
use Rattle.std.specs.Prelude.{IsTrue, IfErr}
use Rattle.vlog_tree.specs.declared.expr.Constant.{Constant}
use Rattle.vlog_tree.specs.declared.expr.Expr.{Expr, Row_of-Expr, end_of-Expr, more_of-Expr}
use Rattle.vlog_tree.specs.declared.expr.Expr.TheVariants as e
use Rattle.vlog_tree.specs.declared.expr.Span.{Span}
use Rattle.vlog_tree.specs.declared.expr.Span.TheVariants as w
use Rattle.vlog_tree.specs.declared.valuation.Entry.{Entry}
use Rattle.vlog_tree.specs.Valuation.{named}
use Rattle.vlog_tree.specs.Value.{operand_of, own_defined, width_of, sign_of, IsFormed, AllFormed, IsPart}
use Rattle.vlog_tree_runs.specs.Places.{Name}
use Rattle.elab_flat_faults.specs.Constants.{Taken, stored, IsBoundDefined, BoundsDefined, AllBoundsDefined}
use Rattle.elab_flat_widths.specs.declared.violation.Violation.{Violation}
use Rattle.elab_flat_widths.specs.declared.violation.Violation.TheVariants as b
use Rattle.elab_flat_widths.specs.Taken.{IsSound, AllSound, Breaks, SomeBreaks, Fails, taken_at}

and_true : (a b : Bool) → IsTrue (a && b) → IsTrue a × IsTrue b
and_true true b h = (refl, h)
and_true false b h = let z : false ≡ true = h in cc

module _ (v : List Entry) where
  bound_of : (k : Constant) (span : Span) (a b : Expr) → IsPart k span (operand_of v a) (operand_of v b) → IsBoundDefined v span a b
  bound_of k w.Fixed a b h = let r = and_true (own_defined (operand_of v a)) (own_defined (operand_of v b)) h.0 in (λ _. r.0, λ _. r.1)
  bound_of k w.Up a b h = λ _. h
  bound_of k w.Down a b h = λ _. h

  mutual
    pub formed_bounds : (a : Expr) → IsFormed v a → BoundsDefined v a
    formed_bounds (e.Number n) h = tt
    formed_bounds (e.Name x) h = tt
    formed_bounds (e.Select' x g (more_of-Expr a end_of-Expr)) h = formed_bounds a h.1
    formed_bounds (e.Part' x span g (more_of-Expr a end_of-Expr) i (more_of-Expr c end_of-Expr)) h = (formed_bounds a h.1, formed_bounds c h.2, bound_of (named v x) span a c h.3)
    formed_bounds (e.ConstantSelect' k g (more_of-Expr a end_of-Expr)) h = formed_bounds a h.1
    formed_bounds (e.ConstantPart' k span g (more_of-Expr a end_of-Expr) i (more_of-Expr c end_of-Expr)) h = (formed_bounds a h.1, formed_bounds c h.2, bound_of k span a c h.3)
    formed_bounds (e.Cast' cast g (more_of-Expr a end_of-Expr)) h = formed_bounds a h
    formed_bounds (e.Paren' g (more_of-Expr a end_of-Expr)) h = formed_bounds a h
    formed_bounds (e.Concat' g row) h = row_bounds row h.0
    formed_bounds (e.Repeat' g (more_of-Expr a end_of-Expr) i row) h = (formed_bounds a h.0, λ _. h.1, row_bounds row h.2)
    formed_bounds (e.Unary' op g (more_of-Expr a end_of-Expr)) h = formed_bounds a h
    formed_bounds (e.Binary' op g (more_of-Expr a end_of-Expr) i (more_of-Expr c end_of-Expr)) h = (formed_bounds a h.0, formed_bounds c h.1)
    formed_bounds (e.Choice' g (more_of-Expr d end_of-Expr) i (more_of-Expr a end_of-Expr) j (more_of-Expr c end_of-Expr)) h = (formed_bounds d h.0, formed_bounds a h.1, formed_bounds c h.2)

    row_bounds : {m : _} (row : Row_of-Expr m) → AllFormed v row → AllBoundsDefined v row
    row_bounds end_of-Expr h = tt
    row_bounds (more_of-Expr a rest) h = (formed_bounds a h.0, row_bounds rest h.1)

-- no rule is broken
pub keeps : (test : Name → Bool) (v : List Entry) (t : Taken) → IsSound test v t → (w : Violation) → Breaks test v t w → ⊥
keeps test v t s b.Constant (inl h) = h s.parts
keeps test v t s b.Constant (inr h) = h.1 (formed_bounds v t.value s.formed, λ _. s.defined)
keeps test v t s b.Length h = h.2 s.formed
keeps test v t s b.Memory h = h

pub all_keep : (test : Name → Bool) (v : List Entry) (ts : List Taken) → AllSound test v ts → (w : Violation) → SomeBreaks test v ts w → ⊥
all_keep test v ts all w h = keeps test v h.0 (all h.0 h.1) w h.2

pub stored_is : (v : List Entry) (a : Expr) (least n m : ℕ) (s : Bool) → n ≡ width_of v a → s ≡ sign_of v a → m ≡ max n least → taken_at a m s ≡ stored v least a
stored_is v a least n m s e f g = λ i. record { value = a; width = (g ∙ ap (λ k. max k least) e) i; signed = f i }

-- a refusal that isn't want of memory, and what follows from one
pub fails : (P : Violation → Type 0) (w : Violation) → P w → Fails P w
fails P b.Constant h = h
fails P b.Length h = h
fails P b.Memory h = tt

pub fails_map : (P Q : Violation → Type 0) → ((w : Violation) → P w → Q w) → (w : Violation) → Fails P w → Fails Q w
fails_map P Q g b.Constant h = g b.Constant h
fails_map P Q g b.Length h = g b.Length h
fails_map P Q g b.Memory h = tt

pub if_err : {T E : Type 0} (r : Result T E) (P Q : E → Type 0) → ((e : E) → P e → Q e) → IfErr r P → IfErr r Q
if_err (Ok x) P Q f h = tt
if_err (Err e) P Q f h = f e h
