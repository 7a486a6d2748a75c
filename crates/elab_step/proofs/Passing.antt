-- The combinational blocks of a module that can be made a design can be passed through.
use Rattle.std.proofs.Common.{◌≡◌, ℕ, zero, suc, true, false, ◌&&◌, List, [], ◌∷◌, ◌++◌, Option, Some, None, refl, sym, ap, ◌∙◌, subst, inl, inr, ⊎_elim}
use Rattle.std.specs.Prelude.{IsSomeAnd, nat_eq}
use Rattle.std.specs.Option.{option_map}
use Rattle.std.specs.Str.{bytes_eq}
use Rattle.std.proofs.lemmas.Slice.Eq.{bytes_eq-Decides}
use Rattle.vlog_tree.specs.declared.expr.Expr.{Expr, Row_of-Expr, end_of-Expr, more_of-Expr}
use Rattle.vlog_tree.specs.declared.expr.Expr.TheVariants as e
use Rattle.vlog_tree.specs.declared.expr.Name.{Name as Read}
use Rattle.vlog_tree.specs.declared.stmt.Lval.{Lval, Row_of-Lval, end_of-Lval, more_of-Lval}
use Rattle.vlog_tree.specs.declared.stmt.Lval.TheVariants as l
use Rattle.vlog_tree.specs.declared.stmt.Stmt.{Stmt, Row_of-Stmt, end_of-Stmt, more_of-Stmt, Row_of-CaseItem, end_of-CaseItem, more_of-CaseItem}
use Rattle.vlog_tree.specs.declared.stmt.Stmt.TheVariants as s
use Rattle.vlog_tree.specs.declared.valuation.Entry.{Entry}
use Rattle.vlog_tree.specs.Valuation.{IsLength, entry_at, meant}
use Rattle.vlog_tree.specs.Value.{IsFormed, AllFormed, Stands}
use Rattle.vlog_tree_runs.specs.declared.flat.Flat.{Flat}
use Rattle.vlog_tree_runs.specs.declared.flat.Signal.{Signal}
use Rattle.vlog_tree_runs.specs.Places.{Name, Among, held_entry}
use Rattle.vlog_tree_runs.specs.Blocks.{labels_in, case_width, case_sign}
use Rattle.vlog_tree_values.proofs.Facts.{both_true}
use Rattle.elab_flat_laws.proofs.Lists.{among_append, among_flat}
use Rattle.elab_flat_faults.specs.Texts.{names_in, row_names_in, numbers_in, row_numbers_in}
use Rattle.elab_step_blocks.specs.Ready.{IsPlaced, IsReadyLeft, AreReadyLefts, IsReadyStore, ArePlaced, IsReadyStmt, AreReadyStmts, AreReadyItems}
use Rattle.elab_step_flow.specs.Asked.{CanPass}
use Rattle.elab_step_flow.specs.Cases.{at_rest, IsComparable}
use Rattle.elab_step_flow.specs.Ready.{IsReady, AreReady, AreItemsReady}
use Rattle.elab_step_flow.specs.Shows.{IsAt, AreDeclared, AreAllDeclared, RowDeclared, ItemsDeclared, AreDistinct as ArePlacesApart}
use Rattle.elab_step_nets.specs.Asked.{CanElaborate}
use Rattle.elab_step_nets.specs.Solving.{ArePlain, AreDistinct}
use Rattle.elab_step_nets.proofs.Solving.{bool_cases}
use Rattle.elab_step_nets.proofs.Fitting.{one_entry}
use Rattle.elab_flat_faults.specs.Handed.{AreNumbered}
use Rattle.elab_step.specs.Sources.{signal_names}
use Rattle.elab_step.proofs.Telling.{left_ready, each_placed, narrow_signals}

-- ---- places of names

at_among : (gs : List Signal) (i : ℕ) (x : Name) → IsAt gs i x → Among (signal_names gs) x
at_among [] i x h = absurd h
at_among (g ∷ gs) zero x h = inl h
at_among (g ∷ gs) (suc i) x h = inr (at_among gs i x h)

apart : (gs : List Signal) → AreDistinct (signal_names gs) → ArePlacesApart gs
apart [] d i j x h k = absurd h
apart (g ∷ gs) d zero zero x h k = refl
apart (g ∷ gs) d zero (suc j) x h k = absurd (d.0 (subst (λ z. Among (signal_names gs) z) (sym h) (at_among gs j x k)))
apart (g ∷ gs) d (suc i) zero x h k = absurd (d.0 (subst (λ z. Among (signal_names gs) z) (sym k) (at_among gs i x h)))
apart (g ∷ gs) d (suc i) (suc j) x h k = ap suc (apart gs d.1 i j x h k)

pub place_of : (gs : List Signal) (g : Signal) (x : Name) → Among gs g → g.name ≡ x → (i : ℕ) × IsAt gs i x
place_of [] g x n is = absurd n
place_of (h ∷ gs) g x (inl i) is = (0, ap (λ (z : Signal). z.name) i ∙ is)
place_of (h ∷ gs) g x (inr n) is = let r = place_of gs g x n is in (suc r.0, r.1)

-- ---- a name that stands for something is that of a signal

found_place : (gs : List Signal) (x : Name) (j : ℕ) (u : Entry) → ArePlain gs → entry_at (at_rest gs) x j ≡ Some u → (i : ℕ) × IsAt gs i x
found_place [] x j u z h = cc
found_place (g ∷ gs) x j u z h =
    ⊎_elim (λ (t : (nat_eq 0 j && bytes_eq g.name x) ≡ true). (0, (bytes_eq-Decides g.name x).0 (both_true (nat_eq 0 j) (bytes_eq g.name x) t).1))
    (λ (t : (nat_eq 0 j && bytes_eq g.name x) ≡ false).
    let k : entry_at ((held_entry [] (λ y. 0) g ∷ []) ++ at_rest gs) x j ≡ Some u = ap (λ es. entry_at (es ++ at_rest gs) x j) (sym (one_entry g (λ y. 0) z.0)) ∙ h in
    let r = found_place gs x j u z.1 (rw t at k) in (suc r.0, r.1))
    (bool_cases (nat_eq 0 j && bytes_eq g.name x))

stands_place : (gs : List Signal) (n : Read) → ArePlain gs → Stands (at_rest gs) n → (i : ℕ) × IsAt gs i n.text
stands_place gs n z h = by (entry_at (at_rest gs) n.text n.offset) refl h
  where
    by : (o : Option Entry) → entry_at (at_rest gs) n.text n.offset ≡ o → IsSomeAnd (option_map meant o) (λ k. IsLength k.width) → (i : ℕ) × IsAt gs i n.text
    by None q k = absurd k
    by (Some u) q k = found_place gs n.text n.offset u z q

-- ---- names in expressions

module _ (gs : List Signal) (plain : ArePlain gs) where
  abbrev v : List Entry
  v = at_rest gs

  abbrev IsDeclared : Name → Type 0
  IsDeclared x = (i : ℕ) × IsAt gs i x

  head : (n : Read) (x : Name) → Stands v n → n.text ≡ x → IsDeclared x
  head n x h i = let r = stands_place gs n plain h in (r.0, subst (λ z. IsAt gs r.0 z) i r.1)

  mutual
    expr_declared : (a : Expr) (x : Name) → IsFormed v a → Among (names_in a) x → IsDeclared x
    expr_declared (e.Number n) x f m = absurd m
    expr_declared (e.Name n) x f m = ⊎_elim (λ i. head n x f i) (λ u. absurd u) m
    expr_declared (e.Select' n h (more_of-Expr a end_of-Expr)) x f m = ⊎_elim (λ i. head n x f.0 i) (λ u. expr_declared a x f.1 u) m
    expr_declared (e.Part' n span h (more_of-Expr a end_of-Expr) g (more_of-Expr b end_of-Expr)) x f m =
        ⊎_elim (λ i. head n x f.0 i) (λ u. ⊎_elim (λ r. expr_declared a x f.1 r) (λ r. expr_declared b x f.2 r) (among_append (names_in a) (names_in b) x u)) m
    expr_declared (e.ConstantSelect' k h (more_of-Expr a end_of-Expr)) x f m = expr_declared a x f.1 m
    expr_declared (e.ConstantPart' k span h (more_of-Expr a end_of-Expr) g (more_of-Expr b end_of-Expr)) x f m =
        ⊎_elim (λ r. expr_declared a x f.1 r) (λ r. expr_declared b x f.2 r) (among_append (names_in a) (names_in b) x m)
    expr_declared (e.Cast' cast h (more_of-Expr a end_of-Expr)) x f m = expr_declared a x f m
    expr_declared (e.Paren' h (more_of-Expr a end_of-Expr)) x f m = expr_declared a x f m
    expr_declared (e.Concat' h row) x f m = parts_declared row x f.0 m
    expr_declared (e.Repeat' h (more_of-Expr a end_of-Expr) g row) x f m =
        ⊎_elim (λ r. expr_declared a x f.0 r) (λ r. parts_declared row x f.2 r) (among_append (names_in a) (row_names_in row) x m)
    expr_declared (e.Unary' op h (more_of-Expr a end_of-Expr)) x f m = expr_declared a x f m
    expr_declared (e.Binary' op h (more_of-Expr a end_of-Expr) g (more_of-Expr b end_of-Expr)) x f m =
        ⊎_elim (λ r. expr_declared a x f.0 r) (λ r. expr_declared b x f.1 r) (among_append (names_in a) (names_in b) x m)
    expr_declared (e.Choice' h (more_of-Expr c end_of-Expr) g (more_of-Expr a end_of-Expr) i (more_of-Expr b end_of-Expr)) x f m =
        ⊎_elim (λ u. ⊎_elim (λ r. expr_declared c x f.0 r) (λ r. expr_declared a x f.1 r) (among_append (names_in c) (names_in a) x u)) (λ r. expr_declared b x f.2 r)
        (among_append (names_in c ++ names_in a) (names_in b) x m)

    parts_declared : {n : _} (row : Row_of-Expr n) (x : Name) → AllFormed v row → Among (row_names_in row) x → IsDeclared x
    parts_declared end_of-Expr x f m = absurd m
    parts_declared (more_of-Expr a rest) x f m = ⊎_elim (λ r. expr_declared a x f.0 r) (λ r. parts_declared rest x f.1 r) (among_append (names_in a) (row_names_in rest) x m)

  exprs_declared : (as' : List Expr) → ((a : Expr) → Among as' a → IsFormed v a) → AreDeclared gs as'
  exprs_declared as' h x m = let a = among_flat names_in as' x m in expr_declared a.0 x (h a.0 a.1) a.2

  one_declared : (a : Expr) → IsFormed v a → AreDeclared gs (a ∷ [])
  one_declared a f = exprs_declared (a ∷ []) (λ b m. ⊎_elim (λ (i : a ≡ b). subst (λ z. IsFormed v z) i f) (λ u. absurd u) m)

  -- ---- statements

  mutual
    number_formed : (left : Lval) (n : Expr) → IsReadyLeft v left → Among (numbers_in left) n → IsFormed v n
    number_formed (l.Name x) n h m = absurd m
    number_formed (l.Select x a) n h (inl i) = subst (λ z. IsFormed v z) i h.1.formed
    number_formed (l.Select x a) n h (inr u) = absurd u
    number_formed (l.Part x span a b) n h (inl i) = subst (λ z. IsFormed v z) i h.1.formed
    number_formed (l.Part x span a b) n h (inr (inl i)) = subst (λ z. IsFormed v z) i h.2.formed
    number_formed (l.Part x span a b) n h (inr (inr u)) = absurd u
    number_formed (l.Concat' g row) n h m = row_formed row n h m

    row_formed : {k : _} (row : Row_of-Lval k) (n : Expr) → AreReadyLefts v row → Among (row_numbers_in row) n → IsFormed v n
    row_formed end_of-Lval n h m = absurd m
    row_formed (more_of-Lval a rest) n h m = ⊎_elim (λ u. number_formed a n h.0 u) (λ u. row_formed rest n h.1 u) (among_append (numbers_in a) (row_numbers_in rest) n m)

  store_declared : (left : Lval) (right : Expr) → IsReadyStore v left right → AreDeclared gs (right ∷ numbers_in left)
  store_declared left right h =
      exprs_declared (right ∷ numbers_in left) (λ a m. ⊎_elim (λ (i : right ≡ a). subst (λ z. IsFormed v z) i h.right_side.ready.formed) (λ u. number_formed left a h.left_side u) m)

  comparable : (a : Expr) (labels : List Expr) → ArePlaced v (a ∷ labels) (case_width v a labels) (case_sign v a labels) → IsComparable v a labels
  comparable a labels h = record {
    subject = h.0.ready.formed;
    formed = λ b m. (placed b m).ready.formed;
    defined = λ b m. (placed b m).defined;
  }
    where
      placed : (b : Expr) → Among labels b → IsPlaced v b (case_width v a labels) (case_sign v a labels)
      placed b m = each_placed v labels (case_width v a labels) (case_sign v a labels) b h.1 m

  case_declared : (a : Expr) (labels : List Expr) → ArePlaced v (a ∷ labels) (case_width v a labels) (case_sign v a labels) → AreDeclared gs (a ∷ labels)
  case_declared a labels h =
      exprs_declared (a ∷ labels) (λ b m. (each_placed v (a ∷ labels) (case_width v a labels) (case_sign v a labels) b h m).ready.formed)

  mutual
    body_ready : (body : Stmt) → IsReadyStmt v body → IsReady gs body
    body_ready s.Empty h = tt
    body_ready (s.Block' n k row) h = rows_ready row h
    body_ready (s.If' a k (more_of-Stmt x end_of-Stmt)) h = body_ready x h.1
    body_ready (s.IfElse' a k (more_of-Stmt x end_of-Stmt) g (more_of-Stmt y end_of-Stmt)) h = (body_ready x h.1, body_ready y h.2)
    body_ready (s.Case' kind a k row) h = (comparable a (labels_in row) h.0, items_ready row h.1)
    body_ready (s.Blocking left right) h = λ q m. left_ready v left q h.left_side m
    body_ready (s.Nonblocking left right) h = λ q m. left_ready v left q h.left_side m

    rows_ready : {n : _} (row : Row_of-Stmt n) → AreReadyStmts v row → AreReady gs row
    rows_ready end_of-Stmt h = tt
    rows_ready (more_of-Stmt a rest) h = (body_ready a h.0, rows_ready rest h.1)

    items_ready : {n : _} (row : Row_of-CaseItem n) → AreReadyItems v row → AreItemsReady gs row
    items_ready end_of-CaseItem h = tt
    items_ready (more_of-CaseItem labels body rest) h = (body_ready body h.0, items_ready rest h.1)

  mutual
    body_declared : (body : Stmt) → IsReadyStmt v body → AreAllDeclared gs body
    body_declared s.Empty h = tt
    body_declared (s.Block' n k row) h = rows_declared row h
    body_declared (s.If' a k (more_of-Stmt x end_of-Stmt)) h = (one_declared a h.0.formed, body_declared x h.1)
    body_declared (s.IfElse' a k (more_of-Stmt x end_of-Stmt) g (more_of-Stmt y end_of-Stmt)) h = (one_declared a h.0.formed, body_declared x h.1, body_declared y h.2)
    body_declared (s.Case' kind a k row) h = (case_declared a (labels_in row) h.0, items_declared row h.1)
    body_declared (s.Blocking left right) h = store_declared left right h
    body_declared (s.Nonblocking left right) h = store_declared left right h

    rows_declared : {n : _} (row : Row_of-Stmt n) → AreReadyStmts v row → RowDeclared gs row
    rows_declared end_of-Stmt h = tt
    rows_declared (more_of-Stmt a rest) h = (body_declared a h.0, rows_declared rest h.1)

    items_declared : {n : _} (row : Row_of-CaseItem n) → AreReadyItems v row → ItemsDeclared gs row
    items_declared end_of-CaseItem h = tt
    items_declared (more_of-CaseItem labels body rest) h = (body_declared body h.0, items_declared rest h.1)

pub can_pass : (f : Flat) → CanElaborate f → AreNumbered f → CanPass f
can_pass f can numbers = record {
  signals = record { distinct = apart f.signals can.distinct; narrow = narrow_signals f can numbers; wide = can.wide };
  blocks = λ k m t. record { ready = body_ready f.signals can.plain k.body (can.blocks k m); declared = body_declared f.signals can.plain k.body (can.blocks k m) };
}
