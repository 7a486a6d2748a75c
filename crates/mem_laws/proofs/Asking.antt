-- A statement of a module without faults of memories can be spread.
use Rattle.std.proofs.Common.{◌≡◌, ◌≤◌, Bool, true, false, List, [], ◌∷◌, ◌++◌, refl, inl, inr}
use Rattle.vlog_tree.specs.declared.expr.Expr.{Expr}
use Rattle.vlog_tree.specs.declared.item.Assign.{Assign}
use Rattle.vlog_tree.specs.declared.stmt.Lval.{Lval, Row_of-Lval, end_of-Lval, more_of-Lval}
use Rattle.vlog_tree.specs.declared.stmt.Lval.TheVariants as l
use Rattle.vlog_tree.specs.declared.stmt.Stmt.{Stmt, Row_of-Stmt, end_of-Stmt, more_of-Stmt, Row_of-CaseItem, end_of-CaseItem, more_of-CaseItem}
use Rattle.vlog_tree.specs.declared.stmt.Stmt.TheVariants as s
use Rattle.vlog_tree.specs.declared.valuation.Entry.{Entry}
use Rattle.vlog_tree.specs.Valuation.{depth_of}
use Rattle.vlog_tree_runs.specs.Places.{Name, Among, read}
use Rattle.vlog_tree_runs.specs.Blocks.{exprs_in, lefts, row_lefts, case_lefts, left_names, row_names}
use Rattle.elab_flat_laws.proofs.Lists.{append_left, append_right}
use Rattle.elab_flat_faults.specs.Constants.{HasConstantSpans}
use Rattle.elab_flat_faults.specs.Texts.{numbers_in, row_numbers_in, alone_in, row_alone_in, case_alone_in, Compared, compared_in, row_compared_in, case_compared_in, all_labels_in, stores_in, row_stores_in, case_stores_in}
use Rattle.elab_flat_faults.specs.Drivers.{parts_of}
use Rattle.elab_flat_faults.specs.ElabStands.{blocking_lefts, row_blocking_lefts, case_blocking_lefts, nonblocking_lefts, row_nonblocking_lefts, case_nonblocking_lefts}
use Rattle.mem_laws.specs.Spread.{lefts_length}
use Rattle.mem_laws.specs.Laws.{IsIndexed, AreIndexed, IsIndexedLeft, AreIndexedLefts, IsPlainLeft, ArePlainLefts, IsStorable, IsSpreadable, AreSpreadable, AreItemsSpreadable}
use Rattle.mem_laws.specs.Uses.{whole_lefts, row_whole_lefts}

-- a fact of each element
abbrev pub Each : {X : Type 0} → List X → (X → Type 0) → Type 0
Each {X} xs P = (x : X) → Among xs x → P x

abbrev each_first : {X : Type 0} (xs ys : List X) (P : X → Type 0) → Each (xs ++ ys) P → Each xs P
each_first xs ys P h x m = h x (append_left xs ys x m)

abbrev each_second : {X : Type 0} (xs ys : List X) (P : X → Type 0) → Each (xs ++ ys) P → Each ys P
each_second xs ys P h x m = h x (append_right xs ys x m)

module _ (r : List Entry) where
  abbrev IsPlainName : Name → Type 0
  IsPlainName y = depth_of r (read y) ≡ 0

  abbrev Indexed : Expr → Type 0
  Indexed a = IsIndexed r a

  -- ---- left sides

  mutual
    indexed_left : (left : Lval) → Each (numbers_in left) Indexed → Each (whole_lefts left) IsPlainName → IsIndexedLeft r left
    indexed_left (l.Name x) h k = k x (inl refl)
    indexed_left (l.Select x a) h k = h a (inl refl)
    indexed_left (l.Part x span a b) h k = (k x (inl refl), h a (inl refl), h b (inr (inl refl)))
    indexed_left (l.Concat' g row) h k = indexed_lefts row h k

    indexed_lefts : {n : _} (row : Row_of-Lval n) → Each (row_numbers_in row) Indexed → Each (row_whole_lefts row) IsPlainName → AreIndexedLefts r row
    indexed_lefts end_of-Lval h k = tt
    indexed_lefts (more_of-Lval a rest) h k = (
      indexed_left a (each_first (numbers_in a) (row_numbers_in rest) Indexed h) (each_first (whole_lefts a) (row_whole_lefts rest) IsPlainName k),
      indexed_lefts rest (each_second (numbers_in a) (row_numbers_in rest) Indexed h) (each_second (whole_lefts a) (row_whole_lefts rest) IsPlainName k),
    )

  mutual
    plain_left : (left : Lval) → IsIndexedLeft r left → Each (left_names left) IsPlainName → IsPlainLeft r left
    plain_left (l.Name x) h k = h
    plain_left (l.Select x a) h k = (k x (inl refl), h)
    plain_left (l.Part x span a b) h k = h
    plain_left (l.Concat' g row) h k = plain_lefts row h k

    plain_lefts : {n : _} (row : Row_of-Lval n) → AreIndexedLefts r row → Each (row_names row) IsPlainName → ArePlainLefts r row
    plain_lefts end_of-Lval h k = tt
    plain_lefts (more_of-Lval a rest) h k =
        (plain_left a h.0 (each_first (left_names a) (row_names rest) IsPlainName k), plain_lefts rest h.1 (each_second (left_names a) (row_names rest) IsPlainName k))

  mutual
    -- a left side without memories has an index for each
    pub plain_indexed : (left : Lval) → IsPlainLeft r left → IsIndexedLeft r left
    plain_indexed (l.Name x) h = h
    plain_indexed (l.Select x a) h = h.1
    plain_indexed (l.Part x span a b) h = h
    plain_indexed (l.Concat' g row) h = plains_indexed row h

    plains_indexed : {n : _} (row : Row_of-Lval n) → ArePlainLefts r row → AreIndexedLefts r row
    plains_indexed end_of-Lval h = tt
    plains_indexed (more_of-Lval a rest) h = (plain_indexed a h.0, plains_indexed rest h.1)

  pub plain_asked : (left : Lval) → Each (numbers_in left) Indexed → Each (whole_lefts left) IsPlainName → Each (left_names left) IsPlainName → IsPlainLeft r left
  plain_asked left h k n = plain_left left (indexed_left left h k) n

  pub indexed_asked : (left : Lval) → Each (numbers_in left) Indexed → Each (whole_lefts left) IsPlainName → IsIndexedLeft r left
  indexed_asked left h k = indexed_left left h k

  -- ---- statements

  abbrev IsComparedIndexed : Compared → Type 0
  IsComparedIndexed c = IsIndexed r c.value × Each c.labels Indexed

  -- what is asked of each left side: no memory is used whole, and its length is constant and at most 64
  pub record IsLeftAsked (left : Lval) : Type 0 where
    pub whole : Each (whole_lefts left) IsPlainName
    pub spans : HasConstantSpans (λ x. false) left
    pub length : lefts_length r (parts_of left) ≤ 64

  abbrev NamesNone : Lval → Type 0
  NamesNone left = Each (left_names left) IsPlainName

  -- what is asked of the left sides of `<=`
  abbrev IsLatePlain : Bool → Lval → Type 0
  IsLatePlain t left = t ≡ true → NamesNone left

  all_indexed : (as' : List Expr) → Each as' Indexed → AreIndexed r as'
  all_indexed [] h = tt
  all_indexed (a ∷ as') h = (h a (inl refl), all_indexed as' (λ x m. h x (inr m)))

  late_store : (t : Bool) (left : Lval) → Each (numbers_in left) Indexed → IsLeftAsked left → IsLatePlain t left → IsStorable t r left
  late_store true left h k n = plain_asked left h k.whole (n refl)
  late_store false left h k n = (indexed_left left h k.whole, k.spans, k.length)

  -- all that is asked of a statement's texts
  pub record AreAsked (t : Bool) (alone : List Expr) (compared : List Compared) (stores : List Assign) (all early late : List Lval) : Type 0 where
    pub alone_indexed : Each alone Indexed
    pub compared_indexed : Each compared IsComparedIndexed
    pub rights_indexed : Each stores (λ z. IsIndexed r z.right)
    pub lefts_asked : Each all IsLeftAsked
    pub early_plain : Each early NamesNone
    pub late_plain : Each late (IsLatePlain t)

  first : (t : Bool) (xs xs' : List Expr) (cs cs' : List Compared) (zs zs' : List Assign) (ls ls' es es' ns ns' : List Lval) →
      AreAsked t (xs ++ xs') (cs ++ cs') (zs ++ zs') (ls ++ ls') (es ++ es') (ns ++ ns') → AreAsked t xs cs zs ls es ns
  first t xs xs' cs cs' zs zs' ls ls' es es' ns ns' h = record {
    alone_indexed = λ x m. h.alone_indexed x (append_left xs xs' x m);
    compared_indexed = λ x m. h.compared_indexed x (append_left cs cs' x m);
    rights_indexed = λ x m. h.rights_indexed x (append_left zs zs' x m);
    lefts_asked = λ x m. h.lefts_asked x (append_left ls ls' x m);
    early_plain = λ x m. h.early_plain x (append_left es es' x m);
    late_plain = λ x m. h.late_plain x (append_left ns ns' x m);
  }

  second : (t : Bool) (xs xs' : List Expr) (cs cs' : List Compared) (zs zs' : List Assign) (ls ls' es es' ns ns' : List Lval) →
      AreAsked t (xs ++ xs') (cs ++ cs') (zs ++ zs') (ls ++ ls') (es ++ es') (ns ++ ns') → AreAsked t xs' cs' zs' ls' es' ns'
  second t xs xs' cs cs' zs zs' ls ls' es es' ns ns' h = record {
    alone_indexed = λ x m. h.alone_indexed x (append_right xs xs' x m);
    compared_indexed = λ x m. h.compared_indexed x (append_right cs cs' x m);
    rights_indexed = λ x m. h.rights_indexed x (append_right zs zs' x m);
    lefts_asked = λ x m. h.lefts_asked x (append_right ls ls' x m);
    early_plain = λ x m. h.early_plain x (append_right es es' x m);
    late_plain = λ x m. h.late_plain x (append_right ns ns' x m);
  }

  abbrev Asks : Bool → Stmt → Type 0
  Asks t k = AreAsked t (alone_in k) (compared_in k) (stores_in k) (lefts k) (blocking_lefts k) (nonblocking_lefts k)

  -- the first expression apart
  abbrev without_first : (t : Bool) (a : Expr) (xs : List Expr) (cs : List Compared) (zs : List Assign) (ls es ns : List Lval) →
      AreAsked t (a ∷ xs) cs zs ls es ns → AreAsked t xs cs zs ls es ns
  without_first t a xs cs zs ls es ns h = record {
    alone_indexed = λ x m. h.alone_indexed x (inr m);
    compared_indexed = h.compared_indexed;
    rights_indexed = h.rights_indexed;
    lefts_asked = h.lefts_asked;
    early_plain = h.early_plain;
    late_plain = h.late_plain;
  }

  mutual
    pub spreadable : (t : Bool) (body : Stmt) → Asks t body → IsSpreadable t r body
    spreadable t s.Empty h = tt
    spreadable t (s.Block' n g row) h = row_spreadable t row h
    spreadable t (s.If' a g (more_of-Stmt x end_of-Stmt)) h =
        (h.alone_indexed a (inl refl), spreadable t x (without_first t a (alone_in x) (compared_in x) (stores_in x) (lefts x) (blocking_lefts x) (nonblocking_lefts x) h))
    spreadable t (s.IfElse' a g (more_of-Stmt x end_of-Stmt) f (more_of-Stmt y end_of-Stmt)) h =
        let k = without_first t a (alone_in x ++ alone_in y) (compared_in x ++ compared_in y) (stores_in x ++ stores_in y) (lefts x ++ lefts y)
        (blocking_lefts x ++ blocking_lefts y) (nonblocking_lefts x ++ nonblocking_lefts y) h in (
          h.alone_indexed a (inl refl),
          spreadable t x (first t (alone_in x) (alone_in y) (compared_in x) (compared_in y) (stores_in x) (stores_in y) (lefts x) (lefts y)
              (blocking_lefts x) (blocking_lefts y) (nonblocking_lefts x) (nonblocking_lefts y) k),
          spreadable t y (second t (alone_in x) (alone_in y) (compared_in x) (compared_in y) (stores_in x) (stores_in y) (lefts x) (lefts y)
              (blocking_lefts x) (blocking_lefts y) (nonblocking_lefts x) (nonblocking_lefts y) k),
        )
    spreadable t (s.Case' kind a g row) h =
        let c = h.compared_indexed (record { value = a; labels = all_labels_in row }) (inl refl) in (
          c.0,
          items_spreadable t row c.1 (record {
            alone_indexed = h.alone_indexed;
            compared_indexed = λ x m. h.compared_indexed x (inr m);
            rights_indexed = h.rights_indexed;
            lefts_asked = h.lefts_asked;
            early_plain = h.early_plain;
            late_plain = h.late_plain;
          }),
        )
    spreadable t (s.Blocking left right) h = (
      plain_asked left h.alone_indexed (h.lefts_asked left (inl refl)).whole (h.early_plain left (inl refl)),
      h.rights_indexed (record { left = left; right = right }) (inl refl),
    )
    spreadable t (s.Nonblocking left right) h = (
      late_store t left h.alone_indexed (h.lefts_asked left (inl refl)) (h.late_plain left (inl refl)),
      h.rights_indexed (record { left = left; right = right }) (inl refl),
    )

    row_spreadable : {n : _} (t : Bool) (row : Row_of-Stmt n) →
        AreAsked t (row_alone_in row) (row_compared_in row) (row_stores_in row) (row_lefts row) (row_blocking_lefts row) (row_nonblocking_lefts row) → AreSpreadable t r row
    row_spreadable t end_of-Stmt h = tt
    row_spreadable t (more_of-Stmt a rest) h = (
      spreadable t a (first t (alone_in a) (row_alone_in rest) (compared_in a) (row_compared_in rest) (stores_in a) (row_stores_in rest) (lefts a) (row_lefts rest)
          (blocking_lefts a) (row_blocking_lefts rest) (nonblocking_lefts a) (row_nonblocking_lefts rest) h),
      row_spreadable t rest (second t (alone_in a) (row_alone_in rest) (compared_in a) (row_compared_in rest) (stores_in a) (row_stores_in rest) (lefts a) (row_lefts rest)
          (blocking_lefts a) (row_blocking_lefts rest) (nonblocking_lefts a) (row_nonblocking_lefts rest) h),
    )

    items_spreadable : {n : _} (t : Bool) (row : Row_of-CaseItem n) → Each (all_labels_in row) Indexed →
        AreAsked t (case_alone_in row) (case_compared_in row) (case_stores_in row) (case_lefts row) (case_blocking_lefts row) (case_nonblocking_lefts row) → AreItemsSpreadable t r row
    items_spreadable t end_of-CaseItem k h = tt
    items_spreadable t (more_of-CaseItem labels body rest) k h = (
      all_indexed (exprs_in labels) (λ x m. k x (append_left (exprs_in labels) (all_labels_in rest) x m)),
      spreadable t body (first t (alone_in body) (case_alone_in rest) (compared_in body) (case_compared_in rest) (stores_in body) (case_stores_in rest) (lefts body) (case_lefts rest)
          (blocking_lefts body) (case_blocking_lefts rest) (nonblocking_lefts body) (case_nonblocking_lefts rest) h),
      items_spreadable t rest (λ x m. k x (append_right (exprs_in labels) (all_labels_in rest) x m))
          (second t (alone_in body) (case_alone_in rest) (compared_in body) (case_compared_in rest) (stores_in body) (case_stores_in rest) (lefts body) (case_lefts rest)
          (blocking_lefts body) (case_blocking_lefts rest) (nonblocking_lefts body) (case_nonblocking_lefts rest) h),
    )
