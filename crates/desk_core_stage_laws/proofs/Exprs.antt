-- Each name of an expression that a text spells is read in the present cycle.
use Rattle.std.proofs.Common.{ℕ, ◌+◌, List, [], ◌∷◌, false, subst, sym, inl, inr}
use Rattle.vlog_tree.specs.declared.token.Token.{Token}
use Rattle.vlog_tree.specs.declared.expr.Expr.{Expr, Row_of-Expr, end_of-Expr, more_of-Expr}
use Rattle.vlog_tree.specs.declared.expr.Expr.TheVariants as e
use Rattle.vlog_tree.specs.declared.stmt.CaseKind.{CaseKind}
use Rattle.vlog_tree.specs.declared.stmt.Lval.{Lval, Row_of-Lval, end_of-Lval, more_of-Lval}
use Rattle.vlog_tree.specs.declared.stmt.Lval.TheVariants as l
use Rattle.vlog_tree.specs.Spelling.{Spells, SpellsList, SpellsMore}
use Rattle.vlog_tree.specs.Statements.{SpellsLval, SpellsLvals, SpellsMoreLvals, SpellsLabel}
use Rattle.elab_flat_laws.specs.Uses.{IsPresent, AllPresent}
use Rattle.elab_flat_faults.specs.Texts.{numbers_in, row_numbers_in}
use Rattle.desk_core_stage_laws.proofs.Elements.{Each, each_none, each_more, each_one, each_append}

module _ (ts : List Token) where
  mutual
    pub present : (i : ℕ) (a : Expr) (j : ℕ) → Spells false ts i a j → IsPresent a
    present i (e.Number n) j p = tt
    present i (e.Name n) j p = p.1
    present i (e.Select' n s (more_of-Expr a end_of-Expr)) j p = (p.2.1, present (p.0 + 1) a p.1 p.4)
    present i (e.Part' n w s (more_of-Expr a end_of-Expr) t (more_of-Expr b end_of-Expr)) j p =
        (p.3.1, present (p.0 + 1) a p.1 p.5, present (p.1 + 1) b p.2 p.7)
    present i (e.ConstantSelect' n s a) j p = absurd p
    present i (e.ConstantPart' n w s a t b) j p = absurd p
    present i (e.Cast' c s (more_of-Expr a end_of-Expr)) j p = present (i + 2) a p.0 p.3
    present i (e.Paren' s (more_of-Expr a end_of-Expr)) j p = present (i + 1) a p.0 p.2
    present i (e.Concat' s row) j p = all_present (i + 1) row p.0 p.2
    present i (e.Repeat' s (more_of-Expr a end_of-Expr) t row) j p = (present (i + 1) a p.0 p.3, all_present (p.0 + 1) row p.1 p.5)
    present i (e.Unary' op s (more_of-Expr a end_of-Expr)) j p = present (i + 1) a j p.1
    present i (e.Binary' op s (more_of-Expr a end_of-Expr) t (more_of-Expr b end_of-Expr)) j p = (present i a p.0 p.1, present (p.0 + 1) b j p.3)
    present i (e.Choice' s (more_of-Expr a end_of-Expr) t (more_of-Expr b end_of-Expr) u (more_of-Expr c end_of-Expr)) j p =
        (present i a p.0 p.2, present (p.0 + 1) b p.1 p.4, present (p.1 + 1) c j p.6)

    all_present : {m : _} (i : ℕ) (row : Row_of-Expr m) (j : ℕ) → SpellsList false ts i row j → AllPresent row
    all_present i end_of-Expr j p = tt
    all_present i (more_of-Expr a rest) j p = (present i a p.0 p.1, more_present p.0 rest j p.2)

    more_present : {m : _} (i : ℕ) (row : Row_of-Expr m) (j : ℕ) → SpellsMore false ts i row j → AllPresent row
    more_present i end_of-Expr j p = tt
    more_present i (more_of-Expr a rest) j p = (present (i + 1) a p.0 p.2, more_present p.0 rest j p.3)

  -- a label is an expression, or a number
  pub label_present : (kind : CaseKind) (i : ℕ) (a : Expr) (j : ℕ) → SpellsLabel kind ts i a j → IsPresent a
  label_present kind i a j (inl p) = present i a j p
  label_present kind i a j (inr p) = subst IsPresent (sym p.2) tt

  -- the numbers of a left side
  mutual
    pub numbers_present : (i : ℕ) (a : Lval) (j : ℕ) → SpellsLval ts i a j → Each IsPresent (numbers_in a)
    numbers_present i (l.Name n) j p = each_none IsPresent
    numbers_present i (l.Select n a) j p = each_one IsPresent a (present (i + 2) a p.0 p.3)
    numbers_present i (l.Part n w a b) j p =
        each_more IsPresent a (b ∷ []) (present (i + 2) a p.0 p.4) (each_one IsPresent b (present (p.0 + 1) b p.1 p.6))
    numbers_present i (l.Concat' q row) j p = row_present (i + 1) row p.0 p.2

    row_present : {m : _} (i : ℕ) (row : Row_of-Lval m) (j : ℕ) → SpellsLvals ts i row j → Each IsPresent (row_numbers_in row)
    row_present i end_of-Lval j p = absurd p
    row_present i (more_of-Lval a rest) j p =
        each_append IsPresent (numbers_in a) (row_numbers_in rest) (numbers_present i a p.0 p.1) (further_present p.0 rest j p.2)

    further_present : {m : _} (i : ℕ) (row : Row_of-Lval m) (j : ℕ) → SpellsMoreLvals ts i row j → Each IsPresent (row_numbers_in row)
    further_present i end_of-Lval j p = each_none IsPresent
    further_present i (more_of-Lval a rest) j p =
        each_append IsPresent (numbers_in a) (row_numbers_in rest) (numbers_present (i + 1) a p.0 p.2) (further_present p.0 rest j p.3)
