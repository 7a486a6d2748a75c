-- The expressions of a statement that a text spells.
use Rattle.std.proofs.Common.{ℕ, ◌+◌, List, [], ◌∷◌, ◌++◌, map}
use Rattle.std.specs.Prelude.{codes}
use Rattle.std.specs.List.{flat_map}
use Rattle.vlog_tree.specs.declared.token.Token.{Token}
use Rattle.vlog_tree.specs.declared.expr.Expr.{Expr}
use Rattle.vlog_tree.specs.declared.item.Assign.{Assign}
use Rattle.vlog_tree.specs.declared.stmt.CaseKind.{CaseKind}
use Rattle.vlog_tree.specs.declared.stmt.Labels.{Labels}
use Rattle.vlog_tree.specs.declared.stmt.Labels.TheVariants as b
use Rattle.vlog_tree.specs.declared.stmt.Lval.{Lval}
use Rattle.vlog_tree.specs.declared.stmt.Stmt.{Stmt, Row_of-Stmt, end_of-Stmt, more_of-Stmt, Row_of-CaseItem, end_of-CaseItem, more_of-CaseItem}
use Rattle.vlog_tree.specs.declared.stmt.Stmt.TheVariants as s
use Rattle.vlog_tree.specs.Lists.{Comma}
use Rattle.vlog_tree.specs.Statements.{SpellsLabel, SpellsLabels, SpellsAssigned, SpellsStmt, SpellsSeq, SpellsCases}
use Rattle.vlog_tree_runs.specs.Blocks.{exprs_in}
use Rattle.vlog_tree_runs.specs.Contents.{Block}
use Rattle.elab_flat_laws.specs.Uses.{IsPresent}
use Rattle.elab_flat_faults.specs.Texts.{numbers_in, alone_in, row_alone_in, case_alone_in, Compared, compared_in, row_compared_in, case_compared_in, all_labels_in, stores_in, row_stores_in, case_stores_in, compared_exprs, block_exprs}
use Rattle.desk_core_stage_laws.proofs.Elements.{Each, each_none, each_more, each_one, each_append, each_map, each_flat, each_of_list}
use Rattle.desk_core_stage_laws.proofs.Exprs.{present, label_present, numbers_present}

abbrev IsPresentCase : Compared → Type 0
IsPresentCase c = Each IsPresent (compared_exprs c)

abbrev IsPresentStore : Assign → Type 0
IsPresentStore a = IsPresent a.right

-- the expressions that stand by themselves, the case expressions with their labels, and the right sides
pub record ArePresent (singles : List Expr) (cases : List Compared) (stores : List Assign) : Type 0 where
  pub single : Each IsPresent singles
  pub matched : Each IsPresentCase cases
  pub stored : Each IsPresentStore stores

nothing_read : ArePresent [] [] []
nothing_read = record { single = each_none IsPresent; matched = each_none IsPresentCase; stored = each_none IsPresentStore }

joined : (as' bs : List Expr) (cs ds : List Compared) (es fs : List Assign) → ArePresent as' cs es → ArePresent bs ds fs → ArePresent (as' ++ bs) (cs ++ ds) (es ++ fs)
joined as' bs cs ds es fs p q = record {
  single = each_append IsPresent as' bs p.single q.single;
  matched = each_append IsPresentCase cs ds p.matched q.matched;
  stored = each_append IsPresentStore es fs p.stored q.stored;
}

with_condition : (a : Expr) (as' : List Expr) (cs : List Compared) (es : List Assign) → IsPresent a → ArePresent as' cs es → ArePresent (a ∷ as') cs es
with_condition a as' cs es h p = record { single = each_more IsPresent a as' h p.single; matched = p.matched; stored = p.stored }

with_case : (c : Compared) (as' : List Expr) (cs : List Compared) (es : List Assign) → IsPresentCase c → ArePresent as' cs es → ArePresent as' (c ∷ cs) es
with_case c as' cs es h p = record { single = p.single; matched = each_more IsPresentCase c cs h p.matched; stored = p.stored }

module _ (ts : List Token) where
  store_read : (sign : List ℕ) (i : ℕ) (left : Lval) (right : Expr) (j : ℕ) → SpellsAssigned sign ts i left right j →
      ArePresent (numbers_in left) [] (record { left = left; right = right } ∷ [])
  store_read sign i left right j p = record {
    single = numbers_present ts i left p.0 p.2;
    matched = each_none IsPresentCase;
    stored = each_one IsPresentStore (record { left = left; right = right }) (present ts (p.0 + 1) right p.1 p.4);
  }

  labels_read : (kind : CaseKind) (i : ℕ) (labels : Labels) (j : ℕ) → SpellsLabels kind ts i labels j → Each IsPresent (exprs_in labels)
  labels_read kind i (b.Exprs xs) j p = each_of_list (SpellsLabel kind ts) IsPresent (label_present ts kind) (Comma ts) i xs p.0 p.1
  labels_read kind i b.Default j p = each_none IsPresent

  all_labels_read : {m : _} (kind : CaseKind) (i : ℕ) (row : Row_of-CaseItem m) (j : ℕ) → SpellsCases kind ts i row j → Each IsPresent (all_labels_in row)
  all_labels_read kind i end_of-CaseItem j p = each_none IsPresent
  all_labels_read kind i (more_of-CaseItem labels body rest) j p =
      each_append IsPresent (exprs_in labels) (all_labels_in rest) (labels_read kind i labels p.0 p.2) (all_labels_read kind p.1 rest j p.4)

  mutual
    stmt_read : (i : ℕ) (body : Stmt) (j : ℕ) → SpellsStmt ts i body j → ArePresent (alone_in body) (compared_in body) (stores_in body)
    stmt_read i s.Empty j p = nothing_read
    stmt_read i (s.Block' n q row) j p = row_read p.0 row p.1 p.4
    stmt_read i (s.If' c q (more_of-Stmt a end_of-Stmt)) j p =
        with_condition c (alone_in a) (compared_in a) (stores_in a) (present ts (i + 2) c p.0 p.3) (stmt_read (p.0 + 1) a j p.5)
    stmt_read i (s.IfElse' c q (more_of-Stmt a end_of-Stmt) r (more_of-Stmt d end_of-Stmt)) j p =
        with_condition c (alone_in a ++ alone_in d) (compared_in a ++ compared_in d) (stores_in a ++ stores_in d) (present ts (i + 2) c p.0 p.4)
        (joined (alone_in a) (alone_in d) (compared_in a) (compared_in d) (stores_in a) (stores_in d) (stmt_read (p.0 + 1) a p.1 p.6) (stmt_read (p.1 + 1) d j p.9))
    stmt_read i (s.Case' kind a q row) j p =
        with_case (record { value = a; labels = all_labels_in row }) (case_alone_in row) (case_compared_in row) (case_stores_in row)
        (each_more IsPresent a (all_labels_in row) (present ts (i + 2) a p.0 p.4) (all_labels_read kind (p.0 + 1) row p.1 p.6)) (cases_read kind (p.0 + 1) row p.1 p.6)
    stmt_read i (s.Blocking left right) j p = store_read (codes "=") i left right j p
    stmt_read i (s.Nonblocking left right) j p = store_read (codes "<=") i left right j p

    row_read : {m : _} (i : ℕ) (row : Row_of-Stmt m) (j : ℕ) → SpellsSeq ts i row j → ArePresent (row_alone_in row) (row_compared_in row) (row_stores_in row)
    row_read i end_of-Stmt j p = nothing_read
    row_read i (more_of-Stmt a rest) j p =
        joined (alone_in a) (row_alone_in rest) (compared_in a) (row_compared_in rest) (stores_in a) (row_stores_in rest) (stmt_read i a p.0 p.1) (row_read p.0 rest j p.2)

    cases_read : {m : _} (kind : CaseKind) (i : ℕ) (row : Row_of-CaseItem m) (j : ℕ) → SpellsCases kind ts i row j → ArePresent (case_alone_in row) (case_compared_in row) (case_stores_in row)
    cases_read kind i end_of-CaseItem j p = nothing_read
    cases_read kind i (more_of-CaseItem labels body rest) j p =
        joined (alone_in body) (case_alone_in rest) (compared_in body) (case_compared_in rest) (stores_in body) (case_stores_in rest) (stmt_read p.0 body p.1 p.3) (cases_read kind p.1 rest j p.4)

  pub block_read : (k : Block) (i j : ℕ) → SpellsStmt ts i k.body j → Each IsPresent (block_exprs k)
  block_read k i j p =
      let r = stmt_read i k.body j p in
      each_append IsPresent (alone_in k.body ++ flat_map compared_exprs (compared_in k.body)) (map (λ (a : Assign). a.right) (stores_in k.body))
      (each_append IsPresent (alone_in k.body) (flat_map compared_exprs (compared_in k.body)) r.single (each_flat IsPresent compared_exprs (compared_in k.body) r.matched))
      (each_map IsPresent (λ (a : Assign). a.right) (stores_in k.body) r.stored)
