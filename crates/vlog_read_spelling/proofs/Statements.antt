-- Of two statements that begin at one place, the shorter is followed by an `else` that would belong to it.
use Rattle.std.proofs.Common.{ℕ, ◌+◌, ◌≡◌, ◌<◌, ◌≤◌, ◌⊎◌, inl, inr, List, [], ◌∷◌, Option, Some, None, Bool, true, false, if◌then◌else◌, refl, sym, ap, subst, ◌∙◌, arith}
use Rattle.std.specs.Prelude.{codes}
use Rattle.std.specs.Str.{bytes_eq}
use Rattle.std.proofs.lemmas.Slice.Eq.{bytes_eq-Decides}
use mathlib.Core.Former.{Count}
use Rattle.vlog_tree.specs.declared.token.Token.{Token}
use Rattle.vlog_tree.specs.declared.token.Number.{Number}
use Rattle.vlog_tree.specs.declared.token.Kind.{Kind}
use Rattle.vlog_tree.specs.declared.token.Kind.TheVariants as k
use Rattle.vlog_tree.specs.declared.expr.Expr.{Expr}
use Rattle.vlog_tree.specs.declared.expr.Expr.TheVariants as e
use Rattle.vlog_tree.specs.declared.stmt.Lval.{Lval, Row_of-Lval, end_of-Lval, more_of-Lval}
use Rattle.vlog_tree.specs.declared.stmt.Lval.TheVariants as l
use Rattle.vlog_tree.specs.declared.stmt.CaseKind.{CaseKind}
use Rattle.vlog_tree.specs.declared.stmt.CaseKind.TheVariants as c
use Rattle.vlog_tree.specs.declared.stmt.CaseItem.{CaseItem}
use Rattle.vlog_tree.specs.declared.stmt.Labels.{Labels}
use Rattle.vlog_tree.specs.declared.stmt.Labels.TheVariants as b
use Rattle.vlog_tree.specs.declared.stmt.Stmt.{Stmt, Row_of-Stmt, end_of-Stmt, more_of-Stmt, Row_of-CaseItem, end_of-CaseItem, more_of-CaseItem, roll-Stmt, out-Stmt, roll-out-Stmt, items-the_row-Stmt, items_shown-the_row-Stmt-0, items-the_row-CaseItem, items_shown-the_row-CaseItem-2}
use Rattle.vlog_tree.specs.declared.stmt.Stmt.TheVariants as s
use Rattle.vlog_tree.specs.declared.stmt.Stmt.TheBlock.{shown-the_row-Stmt-0, shown-the_row-CaseItem-2}
use Rattle.vlog_tree.specs.Signs.{kind_at, IsSign, IsWord, is_reserved, is_keyword, cast_of, cast_at, on_word}
use Rattle.vlog_tree.specs.Lists.{Maybe, More, Separated, Comma}
use Rattle.vlog_tree.specs.Spelling.{IsIdentifier, IsNamed, Spells, Reads, height}
use Rattle.vlog_tree.specs.Statements.{SpellsLval, SpellsLvals, IsWild, SpellsLabel, SpellsLabels, SpellsLabelled, SpellsAssigned, IsOpen, SpellsStmt, SpellsSeq, SpellsCases, case_word, defaults}
use Rattle.vlog_read_spelling.proofs.Tokens.{Stops, stops_paren, stops_semicolon, stops_comma, stops_colon, two_signs, two_words, number, first_number, first_word}
use Rattle.vlog_read_spelling.proofs.Names.{one_identifier, name_begins}
use Rattle.vlog_read_spelling.proofs.Forms.{NamedForm, CastForm, Begun, begun}
use Rattle.vlog_read_spelling.proofs.Reading.{unique, begins, stop_ends, level_pos}
use Rattle.vlog_read_spelling.proofs.Lists.{one_separated}
use Rattle.vlog_read_spelling.proofs.Parts.{one_expr}
use Rattle.vlog_read_spelling.proofs.Lvals.{NoBracket, one_lval}

abbrev pub list_of : {m : _} → Row_of-Stmt m → List Stmt
list_of end_of-Stmt = []
list_of (more_of-Stmt a rest) = a ∷ list_of rest

pub listed : (m : _) (row : Row_of-Stmt m) → items-the_row-Stmt m row ≡ list_of row
listed m end_of-Stmt = refl
listed m (more_of-Stmt a rest) = ap (λ xs. a ∷ xs) (listed _ rest)

pub block_is : (n : Option (List ℕ)) (q : _) (row : _) → s.Block' n q row ≡ s.Block n (list_of row)
block_is n q row =
    (sym (roll-out-Stmt (s.Block' n q row)) ∙ (ap roll-Stmt (s.outs-Block' n q row) ∙ s.rolls-Block n (shown-the_row-Stmt-0 q row)))
    ∙ ap (s.Block n) (items_shown-the_row-Stmt-0 q row ∙ listed _ row)

abbrev pub case_of : Labels → Stmt → CaseItem
case_of labels body = record { labels = labels; body = body }

abbrev pub cases_of : {m : _} → Row_of-CaseItem m → List CaseItem
cases_of end_of-CaseItem = []
cases_of (more_of-CaseItem labels body rest) = case_of labels body ∷ cases_of rest

pub listed_cases : (m : _) (row : Row_of-CaseItem m) → items-the_row-CaseItem m row ≡ cases_of row
listed_cases m end_of-CaseItem = refl
listed_cases m (more_of-CaseItem labels body rest) = ap (λ xs. case_of labels body ∷ xs) (listed_cases _ rest)

pub case_is : (kind : CaseKind) (a : Expr) (q : _) (row : _) → s.Case' kind a q row ≡ s.Case kind a (cases_of row)
case_is kind a q row =
    (sym (roll-out-Stmt (s.Case' kind a q row)) ∙ (ap roll-Stmt (s.outs-Case' kind a q row) ∙ s.rolls-Case kind a (shown-the_row-CaseItem-2 q row)))
    ∙ ap (s.Case kind a) (items_shown-the_row-CaseItem-2 q row ∙ listed_cases _ row)

abbrev pub if_of : Expr → Stmt → Stmt
if_of c a = s.If' c tt (more_of-Stmt a end_of-Stmt)

abbrev pub if_else_of : Expr → Stmt → Stmt → Stmt
if_else_of c a b = s.IfElse' c tt (more_of-Stmt a end_of-Stmt) tt (more_of-Stmt b end_of-Stmt)

-- the ways in which a statement can begin
pub data Head : Type 0 where
  semicolon : Head
  opening : Head
  conditional : Head
  choice : CaseKind → Head
  left_side : Head

abbrev pub by_word : List ℕ → Head
by_word w =
    if bytes_eq w (codes "begin") then opening else (
    if bytes_eq w (codes "if") then conditional else (
    if bytes_eq w (codes "case") then choice c.Case else (
    if bytes_eq w (codes "casez") then choice c.Casez else left_side)))

abbrev pub by_kind : Option Kind → Head
by_kind (Some (k.Word w)) = by_word w
by_kind (Some (k.Sign s)) = if bytes_eq s (codes ";") then semicolon else left_side
by_kind (Some (k.Number n)) = left_side
by_kind (Some k.Outside) = left_side
by_kind None = left_side

abbrev pub head_at : List Token → ℕ → Head
head_at ts i = by_kind (kind_at ts i)

-- a word of the grammar is no identifier
pub other_word : (w v : List ℕ) → is_reserved false w ≡ false → is_reserved false v ≡ true → bytes_eq w v ≡ false
other_word w v free r = by (bytes_eq w v) refl
  where
    by : (x : Bool) → bytes_eq w v ≡ x → bytes_eq w v ≡ false
    by false h = h
    by true h = let q : w ≡ v = (bytes_eq-Decides w v).0 h in let z : is_reserved false w ≡ true = ap (is_reserved false) q ∙ r in absurd (cc)

pub no_word : (ts : List Token) (i : ℕ) (n w : List ℕ) → IsIdentifier false ts i n → IsWord ts i w → is_reserved false w ≡ true → ⊥
no_word ts i n w p h r =
    let q = p.stands in let e : n ≡ w = cc in let x : is_reserved false n ≡ true = ap (is_reserved false) e ∙ r in let y = p.free in cc

reserved_begin : is_reserved false (codes "begin") ≡ true
unfolding is_reserved is_keyword
reserved_begin = refl

reserved_if : is_reserved false (codes "if") ≡ true
unfolding is_reserved is_keyword
reserved_if = refl

reserved_case : is_reserved false (codes "case") ≡ true
unfolding is_reserved is_keyword
reserved_case = refl

reserved_casez : is_reserved false (codes "casez") ≡ true
unfolding is_reserved is_keyword
reserved_casez = refl

pub reserved_else : is_reserved false (codes "else") ≡ true
unfolding is_reserved is_keyword
reserved_else = refl

pub reserved_end : is_reserved false (codes "end") ≡ true
unfolding is_reserved is_keyword
reserved_end = refl

pub reserved_endcase : is_reserved false (codes "endcase") ≡ true
unfolding is_reserved is_keyword
reserved_endcase = refl

pub reserved_default : is_reserved false (codes "default") ≡ true
unfolding is_reserved is_keyword
reserved_default = refl

module _ (ts : List Token) where
  head_named : (i : ℕ) (n : List ℕ) → IsIdentifier false ts i n → head_at ts i ≡ left_side
  head_named i n p =
      let a = other_word n (codes "begin") p.free reserved_begin in
      let b = other_word n (codes "if") p.free reserved_if in
      let c = other_word n (codes "case") p.free reserved_case in
      let d = other_word n (codes "casez") p.free reserved_casez in
      ap by_kind p.stands ∙ rw (a, b, c, d) refl

  head_lval : (i : ℕ) (a : Lval) (j : ℕ) → SpellsLval ts i a j → head_at ts i ≡ left_side
  head_lval i (l.Name n) j p = head_named i n p.0
  head_lval i (l.Select n a) j p = head_named i n p.1
  head_lval i (l.Part n w a b) j p = head_named i n p.2
  head_lval i (l.Concat' q row) j p = ap by_kind p.1

  head_case : (kind : CaseKind) (i : ℕ) → IsWord ts i (case_word kind) → head_at ts i ≡ choice kind
  head_case c.Case i p = ap by_kind p
  head_case c.Casez i p = ap by_kind p

  abbrev pub Other : (cond : Expr) (part : Stmt) (mid : ℕ) (tree : Stmt) (j : ℕ) → Type 0
  Other cond part mid tree j = ((tree ≡ if_of cond part) × (mid ≡ j))
      ⊎ ((b : Stmt) × (tree ≡ if_else_of cond part b) × IsWord ts mid (codes "else") × (IsOpen part → ⊥) × SpellsStmt ts (mid + 1) b j)

  -- an `if` by its parts, with its `else` or without
  pub record IfForm (i : ℕ) (tree : Stmt) (j : ℕ) : Type 0 where
    pub cond : Expr
    pub at : ℕ
    pub spells_cond : Spells false ts (i + 2) cond at
    pub open_ : IsSign ts (i + 1) (codes "(")
    pub close : IsSign ts at (codes ")")
    pub part : Stmt
    pub mid : ℕ
    pub spells_part : SpellsStmt ts (at + 1) part mid
    pub other : Other cond part mid tree j

  pub record BlockForm (i : ℕ) (tree : Stmt) (j : ℕ) : Type 0 where
    pub name : Option (List ℕ)
    pub past : ℕ
    pub shape : List (Unit {0})
    pub row : Row_of-Stmt _
    pub at : ℕ
    pub is : tree ≡ s.Block' name shape row
    pub named : Maybe (SpellsLabelled ts) (i + 1) name past
    pub spells_row : SpellsSeq ts past row at
    pub close : IsWord ts at (codes "end")
    pub end_is : j ≡ at + 1

  pub record CaseForm (kind : CaseKind) (i : ℕ) (tree : Stmt) (j : ℕ) : Type 0 where
    pub value : Expr
    pub at : ℕ
    pub shape : List (Unit {0})
    pub row : Row_of-CaseItem _
    pub last : ℕ
    pub is : tree ≡ s.Case' kind value shape row
    pub open_ : IsSign ts (i + 1) (codes "(")
    pub spells_value : Spells false ts (i + 2) value at
    pub close : IsSign ts at (codes ")")
    pub spells_row : SpellsCases kind ts (at + 1) row last
    pub one_default : defaults row ≤ 1
    pub some : at + 1 < last
    pub end_word : IsWord ts last (codes "endcase")
    pub end_is : j ≡ last + 1

  abbrev pub AssignForm : ℕ → Stmt → ℕ → Type 0
  AssignForm i tree j =
      (a : Lval) × (x : Expr) × (((tree ≡ s.Blocking a x) × SpellsAssigned (codes "=") ts i a x j) ⊎ ((tree ≡ s.Nonblocking a x) × SpellsAssigned (codes "<=") ts i a x j))

  -- what a statement is, by its first token
  abbrev pub Formed : ℕ → Stmt → ℕ → Head → Type 0
  Formed i tree j semicolon = (tree ≡ s.Empty) × (j ≡ i + 1)
  Formed i tree j opening = BlockForm i tree j
  Formed i tree j conditional = IfForm i tree j
  Formed i tree j (choice kind) = CaseForm kind i tree j
  Formed i tree j left_side = AssignForm i tree j

  pub formed : (i : ℕ) (a : Stmt) (j : ℕ) → SpellsStmt ts i a j → Formed i a j (head_at ts i)
  formed i s.Empty j p = let h : head_at ts i ≡ semicolon = ap by_kind p.0 in rw h (refl, p.1)
  formed i (s.Block' n q row) j p = let h : head_at ts i ≡ opening = ap by_kind p.2 in
      rw h (record { name = n; past = p.0; shape = q; row = row; at = p.1; is = refl; named = p.3; spells_row = p.4; close = p.5; end_is = p.6 })
  formed i (s.If' c q (more_of-Stmt a end_of-Stmt)) j p = let h : head_at ts i ≡ conditional = ap by_kind p.1 in
      rw h (record { cond = c; at = p.0; spells_cond = p.3; open_ = p.2; close = p.4; part = a; mid = j; spells_part = p.5; other = inl (refl, refl) })
  formed i (s.IfElse' c q (more_of-Stmt a end_of-Stmt) r (more_of-Stmt b end_of-Stmt)) j p = let h : head_at ts i ≡ conditional = ap by_kind p.2 in
      rw h (record { cond = c; at = p.0; spells_cond = p.4; open_ = p.3; close = p.5; part = a; mid = p.1; spells_part = p.6; other = inr (b, refl, p.8, p.7, p.9) })
  formed i (s.Case' kind a q row) j p = rw (head_case kind i p.2)
      (record { value = a; at = p.0; shape = q; row = row; last = p.1; is = refl; open_ = p.3; spells_value = p.4; close = p.5; spells_row = p.6; one_default = p.7; some = p.8; end_word = p.9; end_is = p.10 })
  formed i (s.Blocking a x) j p = rw (head_lval i a p.0 p.2) (a, x, inl (refl, p))
  formed i (s.Nonblocking a x) j p = rw (head_lval i a p.0 p.2) (a, x, inr (refl, p))

  pub formed_as : (i : ℕ) (a : Stmt) (j : ℕ) (h : Head) → SpellsStmt ts i a j → head_at ts i ≡ h → Formed i a j h
  formed_as i a j h p q = subst (Formed i a j) q (formed i a j p)

  -- a left side begins with an identifier or a brace
  lval_begins : (i : ℕ) (a : Lval) (j : ℕ) → SpellsLval ts i a j → ((n : List ℕ) × IsIdentifier false ts i n) ⊎ IsSign ts i (codes "{")
  lval_begins i (l.Name n) j p = inl (n, p.0)
  lval_begins i (l.Select n a) j p = inl (n, p.1)
  lval_begins i (l.Part n w a b) j p = inl (n, p.2)
  lval_begins i (l.Concat' q row) j p = inr p.1

  assign_begins : (i : ℕ) (a : Stmt) (j : ℕ) → AssignForm i a j → ((n : List ℕ) × IsIdentifier false ts i n) ⊎ IsSign ts i (codes "{")
  assign_begins i a j (x, y, inl q) = lval_begins i x q.1.0 q.1.2
  assign_begins i a j (x, y, inr q) = lval_begins i x q.1.0 q.1.2

  -- no statement begins with a word of the grammar that is none of its own, nor with a colon
  pub no_start : (i : ℕ) (a : Stmt) (j : ℕ) (w : List ℕ) → SpellsStmt ts i a j → by_word w ≡ left_side → is_reserved false w ≡ true → IsWord ts i w → ⊥
  no_start i a j w p h r here = by (assign_begins i a j (formed_as i a j left_side p (ap by_kind here ∙ h)))
    where
      by : ((n : List ℕ) × IsIdentifier false ts i n) ⊎ IsSign ts i (codes "{") → ⊥
      by (inl q) = no_word ts i q.0 w q.1 here r
      by (inr q) = cc

  pub no_colon : (i : ℕ) (a : Stmt) (j : ℕ) → SpellsStmt ts i a j → IsSign ts i (codes ":") → ⊥
  no_colon i a j p here = by (assign_begins i a j (formed_as i a j left_side p (ap by_kind here)))
    where
      by : ((n : List ℕ) × IsIdentifier false ts i n) ⊎ IsSign ts i (codes "{") → ⊥
      by (inl q) = let u = q.1.stands in cc
      by (inr q) = two_signs ts i (codes ":") (codes "{") refl here q

  pub no_else_start : (i : ℕ) (a : Stmt) (j : ℕ) → SpellsStmt ts i a j → IsWord ts i (codes "else") → ⊥
  no_else_start i a j p = no_start i a j (codes "else") p refl reserved_else

  pub no_end_start : (i : ℕ) (a : Stmt) (j : ℕ) → SpellsStmt ts i a j → IsWord ts i (codes "end") → ⊥
  no_end_start i a j p = no_start i a j (codes "end") p refl reserved_end

  abbrev pub Outcome : Stmt → ℕ → Stmt → ℕ → Type 0
  Outcome a j b k = ((a ≡ b) × (j ≡ k)) ⊎ ((IsWord ts j (codes "else") × IsOpen a) ⊎ (IsWord ts k (codes "else") × IsOpen b))

  abbrev pub Same : Stmt → Type 0
  Same a = (i j : ℕ) (b : Stmt) (k : ℕ) → SpellsStmt ts i a j → SpellsStmt ts i b k → Outcome a j b k

  -- two ifs whose parts are compared
  without : (c : Expr) (a : Stmt) (i at j : ℕ) → Spells false ts (i + 2) c at → IsSign ts at (codes ")") → SpellsStmt ts (at + 1) a j → Same a
      → (b : Stmt) (k : ℕ) → IfForm i b k → Outcome (if_of c a) j b k
  without c a i at j sc close sa same b k f =
      let e : (c ≡ f.cond) × (at ≡ f.at) = one_expr ts (i + 2) c at f.cond f.at sc (stops_paren false ts at close) f.spells_cond (stops_paren false ts f.at f.close) in
      by e.0 (same (at + 1) j f.part f.mid sa (subst (λ z. SpellsStmt ts (z + 1) f.part f.mid) (sym e.1) f.spells_part)) f.other
    where
      by : c ≡ f.cond → Outcome a j f.part f.mid → Other f.cond f.part f.mid b k → Outcome (if_of c a) j b k
      by e (inl p) (inl q) = inl ((λ r. if_of (e r) (p.0 r)) ∙ sym q.0, p.1 ∙ q.1)
      by e (inl p) (inr q) = inr (inl (subst (λ z. IsWord ts z (codes "else")) (sym p.1) q.2, tt))
      by e (inr (inl p)) q = inr (inl (p.0, tt))
      by e (inr (inr p)) (inl q) = inr (inr (subst (λ z. IsWord ts z (codes "else")) q.1 p.0, subst IsOpen (sym q.0) tt))
      by e (inr (inr p)) (inr q) = absurd (q.3 p.1)

  with_else : (c : Expr) (a b : Stmt) (i at mid j : ℕ) → Spells false ts (i + 2) c at → IsSign ts at (codes ")") → SpellsStmt ts (at + 1) a mid → (IsOpen a → ⊥)
      → IsWord ts mid (codes "else") → SpellsStmt ts (mid + 1) b j → Same a → Same b → (d : Stmt) (k : ℕ) → IfForm i d k → Outcome (if_else_of c a b) j d k
  with_else c a b i at mid j sc close sa closed word sb same same' d k f =
      let e : (c ≡ f.cond) × (at ≡ f.at) = one_expr ts (i + 2) c at f.cond f.at sc (stops_paren false ts at close) f.spells_cond (stops_paren false ts f.at f.close) in
      by e.0 (same (at + 1) mid f.part f.mid sa (subst (λ z. SpellsStmt ts (z + 1) f.part f.mid) (sym e.1) f.spells_part)) f.other
    where
      last : c ≡ f.cond → a ≡ f.part → (x : Stmt) → d ≡ if_else_of f.cond f.part x → Outcome b j x k → Outcome (if_else_of c a b) j d k
      last e p x q (inl r) = inl ((λ z. if_else_of (e z) (p z) (r.0 z)) ∙ sym q, r.1)
      last e p x q (inr (inl r)) = inr (inl r)
      last e p x q (inr (inr r)) = inr (inr (r.0, subst IsOpen (sym q) r.1))

      by : c ≡ f.cond → Outcome a mid f.part f.mid → Other f.cond f.part f.mid d k → Outcome (if_else_of c a b) j d k
      by e (inl p) (inl q) = inr (inr (subst (λ z. IsWord ts z (codes "else")) (p.1 ∙ q.1) word, subst IsOpen (sym q.0) tt))
      by e (inl p) (inr q) = last e p.0 q.0 q.1 (same' (mid + 1) j q.0 k sb (subst (λ z. SpellsStmt ts (z + 1) q.0 k) (sym p.1) q.4))
      by e (inr (inl p)) q = absurd (closed p.1)
      by e (inr (inr p)) (inl q) = inr (inr (subst (λ z. IsWord ts z (codes "else")) q.1 p.0, subst IsOpen (sym q.0) tt))
      by e (inr (inr p)) (inr q) = absurd (q.3 p.1)

  -- assignments
  one_assigned : (sign : List ℕ) → bytes_eq sign (codes "[") ≡ false → (i : ℕ) (a : Lval) (x : Expr) (j : ℕ) (a' : Lval) (x' : Expr) (k : ℕ) → SpellsAssigned sign ts i a x j
      → (sign' : List ℕ) → bytes_eq sign' (codes "[") ≡ false → SpellsAssigned sign' ts i a' x' k → (a ≡ a') × (x ≡ x') × (j ≡ k) × (sign ≡ sign')
  one_assigned sign h i a x j a' x' k p sign' h' q =
      let u : (a ≡ a') × (p.0 ≡ q.0) = one_lval ts a i p.0 a' q.0 p.2 (λ o. two_signs ts p.0 sign (codes "[") h p.3 o) q.2 (λ o. two_signs ts q.0 sign' (codes "[") h' q.3 o) in
      let v : (x ≡ x') × (p.1 ≡ q.1) =
      one_expr ts (p.0 + 1) x p.1 x' q.1 p.4 (stops_semicolon false ts p.1 p.5) (subst (λ z. Spells false ts (z + 1) x' q.1) (sym u.1) q.4) (stops_semicolon false ts q.1 q.5) in
      let o : IsSign ts p.0 sign' = subst (λ z. IsSign ts z sign') (sym u.1) q.3 in
      let t = p.3 in let w : sign ≡ sign' = cc in
      (u.0, v.0, omega (arith, p.6, q.6, v.1), w)

  blocking_one : (i : ℕ) (a : Lval) (x : Expr) (j : ℕ) (b : Stmt) (k : ℕ) → SpellsAssigned (codes "=") ts i a x j → AssignForm i b k → Outcome (s.Blocking a x) j b k
  blocking_one i a x j b k p (a', x', inl q) =
      let u = one_assigned (codes "=") refl i a x j a' x' k p (codes "=") refl q.1 in inl ((λ r. s.Blocking (u.0 r) (u.1 r)) ∙ sym q.0, u.2)
  blocking_one i a x j b k p (a', x', inr q) =
      let u = one_assigned (codes "=") refl i a x j a' x' k p (codes "<=") refl q.1 in
      let z : bytes_eq (codes "=") (codes "<=") ≡ true = (bytes_eq-Decides (codes "=") (codes "<=")).1 u.3 in absurd (cc)

  nonblocking_one : (i : ℕ) (a : Lval) (x : Expr) (j : ℕ) (b : Stmt) (k : ℕ) → SpellsAssigned (codes "<=") ts i a x j → AssignForm i b k → Outcome (s.Nonblocking a x) j b k
  nonblocking_one i a x j b k p (a', x', inr q) =
      let u = one_assigned (codes "<=") refl i a x j a' x' k p (codes "<=") refl q.1 in inl ((λ r. s.Nonblocking (u.0 r) (u.1 r)) ∙ sym q.0, u.2)
  nonblocking_one i a x j b k p (a', x', inl q) =
      let u = one_assigned (codes "<=") refl i a x j a' x' k p (codes "=") refl q.1 in
      let z : bytes_eq (codes "<=") (codes "=") ≡ true = (bytes_eq-Decides (codes "<=") (codes "=")).1 u.3 in absurd (cc)

  -- the first token of an expression is no word of the grammar
  pub expr_no_word : (i : ℕ) (a : Expr) (j : ℕ) (w : List ℕ) → Spells false ts i a j → Stops false ts j → is_reserved false w ≡ true → cast_of w ≡ None → IsWord ts i w → ⊥
  expr_no_word i a j w p u r none here =
      let o = begins false ts 1 i a j (record { spelt = p; binds = level_pos a; ends = stop_ends false ts 1 j u }) in
      by o.operand o.end (subst (Begun false ts i o.operand o.end) (first_word ts i w here) (begun false ts i o.operand o.end o.reads.spelt o.reads.binds))
    where
      by : (x : Expr) (m : ℕ) → NamedForm false ts i x m ⊎ CastForm false ts i x m → ⊥
      by x m (inl (inl q)) = let n = name_begins false ts i q.name m q.named in no_word ts i n.0 w n.1 here r
      by x m (inl (inr (inl q))) = let n = name_begins false ts i q.name q.past q.named in no_word ts i n.0 w n.1 here r
      by x m (inl (inr (inr q))) = let n = name_begins false ts i q.name q.past q.named in no_word ts i n.0 w n.1 here r
      by x m (inr q) = let t = q.word in let v : cast_at ts i ≡ None = ap (on_word cast_of) here ∙ none in cc

  -- what follows a label
  abbrev pub AfterLabel : ℕ → Type 0
  AfterLabel j = Comma ts j ⊎ IsSign ts j (codes ":")

  label_stops : (j : ℕ) → AfterLabel j → Stops false ts j
  label_stops j (inl p) = stops_comma false ts j p
  label_stops j (inr p) = stops_colon false ts j p

  not_wild : (i : ℕ) (a : Expr) (j : ℕ) (n : Number) → Spells false ts i a j → Stops false ts j → kind_at ts i ≡ Some (k.Number n) → n.wildcard ≡ true → ⊥
  not_wild i a j n p u here wild =
      let o = begins false ts 1 i a j (record { spelt = p; binds = level_pos a; ends = stop_ends false ts 1 j u }) in
      let q : (o.operand ≡ e.Number n) × (n.wildcard ≡ false) × (o.end ≡ i + 1) =
      subst (Begun false ts i o.operand o.end) (first_number ts i n here) (begun false ts i o.operand o.end o.reads.spelt o.reads.binds) in
      let v = q.1 in cc

  pub one_label : (kind : CaseKind) (i : ℕ) (x : Expr) (j : ℕ) (y : Expr) (m : ℕ) → SpellsLabel kind ts i x j → AfterLabel j → SpellsLabel kind ts i y m → AfterLabel m → (x ≡ y) × (j ≡ m)
  one_label kind i x j y m (inl p) u (inl q) v = one_expr ts i x j y m p (label_stops j u) q (label_stops m v)
  one_label kind i x j y m (inl p) u (inr q) v = absurd (not_wild i x j q.0 p (label_stops j u) q.3 q.4)
  one_label kind i x j y m (inr p) u (inl q) v = absurd (not_wild i y m p.0 q (label_stops m v) p.3 p.4)
  one_label kind i x j y m (inr p) u (inr q) v =
      let s = p.3 in let t = q.3 in let n : p.0 ≡ q.0 = cc in (p.2 ∙ (ap e.Number n ∙ sym q.2), p.5 ∙ sym q.5)

  label_no_word : (kind : CaseKind) (i : ℕ) (x : Expr) (j : ℕ) (w : List ℕ) → SpellsLabel kind ts i x j → AfterLabel j → is_reserved false w ≡ true → cast_of w ≡ None → IsWord ts i w → ⊥
  label_no_word kind i x j w (inl p) u r none here = expr_no_word i x j w p (label_stops j u) r none here
  label_no_word kind i x j w (inr p) u r none here = let t = p.3 in cc

  more_after : (kind : CaseKind) (xs : List Expr) (i j : ℕ) → More (Comma ts) (SpellsLabel kind ts) i xs j → IsSign ts j (codes ":") → AfterLabel i
  more_after kind [] i j p h = inr (subst (λ z. IsSign ts z (codes ":")) (sym p) h)
  more_after kind (x ∷ xs) i j p h = inl p.1

  labels_no_word : (kind : CaseKind) (i : ℕ) (xs : List Expr) (j : ℕ) (w : List ℕ) → SpellsLabels kind ts i (b.Exprs xs) j → is_reserved false w ≡ true → cast_of w ≡ None → IsWord ts i w → ⊥
  labels_no_word kind i [] j w p r none here = p.1
  labels_no_word kind i (x ∷ xs) j w p r none here = label_no_word kind i x p.1.0 w p.1.1 (more_after kind xs p.1.0 p.0 p.1.2 p.2) r none here

  -- no case item begins with a word of the grammar that is not `default`
  item_no_word : (kind : CaseKind) (i : ℕ) (labels : Labels) (j : ℕ) (w : List ℕ) → SpellsLabels kind ts i labels j → is_reserved false w ≡ true → cast_of w ≡ None
      → bytes_eq w (codes "default") ≡ false → IsWord ts i w → ⊥
  item_no_word kind i (b.Exprs xs) j w p r none other here = labels_no_word kind i xs j w p r none here
  item_no_word kind i b.Default j w p r none other here = two_words ts i w (codes "default") other here p.0

  cast_of_else : cast_of (codes "else") ≡ None
  unfolding cast_of
  cast_of_else = refl

  cast_of_endcase : cast_of (codes "endcase") ≡ None
  unfolding cast_of
  cast_of_endcase = refl

  cast_of_default : cast_of (codes "default") ≡ None
  unfolding cast_of
  cast_of_default = refl

  one_item : (kind : CaseKind) (labels : Labels) (a : Stmt) (i m o : ℕ) → SpellsLabels kind ts i labels m → SpellsStmt ts m a o → (IsWord ts o (codes "else") → ⊥) → Same a
      → (labels' : Labels) (a' : Stmt) (m' o' : ℕ) → SpellsLabels kind ts i labels' m' → SpellsStmt ts m' a' o' → (IsWord ts o' (codes "else") → ⊥)
      → (labels ≡ labels') × (a ≡ a') × (o ≡ o')
  one_item kind labels a i m o sl sa last same labels' a' m' o' sl' sa' last' = by labels labels' sl sl'
    where
      bodies : m ≡ m' → (a ≡ a') × (o ≡ o')
      bodies at = out (same m o a' o' sa (subst (λ z. SpellsStmt ts z a' o') (sym at) sa'))
        where
          out : Outcome a o a' o' → (a ≡ a') × (o ≡ o')
          out (inl r) = r
          out (inr (inl r)) = absurd (last r.0)
          out (inr (inr r)) = absurd (last' r.0)

      with_labels : (x y : Labels) → x ≡ y → m ≡ m' → (x ≡ y) × (a ≡ a') × (o ≡ o')
      with_labels x y is at = let r = bodies at in (is, r.0, r.1)

      by : (x y : Labels) → SpellsLabels kind ts i x m → SpellsLabels kind ts i y m' → (x ≡ y) × (a ≡ a') × (o ≡ o')
      by (b.Exprs xs) (b.Exprs ys) p q =
          let r : (xs ≡ ys) × (p.0 ≡ q.0) =
          one_separated (Comma ts) (λ z. IsSign ts z (codes ":")) (SpellsLabel kind ts) (one_label kind) (λ z u v. two_signs ts z (codes ",") (codes ":") refl u v) xs ys i p.0 q.0 p.1 p.2 q.1 q.2 in
          with_labels (b.Exprs xs) (b.Exprs ys) (ap b.Exprs r.0) (omega (arith, p.3, q.3, r.1))
      by (b.Exprs xs) b.Default p q = absurd (labels_no_word kind i xs m (codes "default") p reserved_default cast_of_default q.0)
      by b.Default (b.Exprs ys) p q = absurd (labels_no_word kind i ys m' (codes "default") q reserved_default cast_of_default p.0)
      by b.Default b.Default (w, inl p) (w', inl q) = with_labels b.Default b.Default refl (p ∙ sym q)
      by b.Default b.Default (w, inr p) (w', inr q) = with_labels b.Default b.Default refl (p.1 ∙ sym q.1)
      by b.Default b.Default (w, inl p) (w', inr q) = absurd (no_colon m a o sa (subst (λ z. IsSign ts z (codes ":")) (sym p) q.0))
      by b.Default b.Default (w, inr p) (w', inl q) = absurd (no_colon m' a' o' sa' (subst (λ z. IsSign ts z (codes ":")) (sym q) p.0))

  -- sequences
  pub no_else : {m : _} (row : Row_of-Stmt m) (i j : ℕ) → SpellsSeq ts i row j → IsWord ts j (codes "end") → IsWord ts i (codes "else") → ⊥
  no_else end_of-Stmt i j p h u = two_words ts i (codes "end") (codes "else") refl (subst (λ z. IsWord ts z (codes "end")) (sym p) h) u
  no_else (more_of-Stmt a rest) i j p h u = no_else_start i a p.0 p.1 u

  seq_no_colon : {m : _} (row : Row_of-Stmt m) (i j : ℕ) → SpellsSeq ts i row j → IsWord ts j (codes "end") → IsSign ts i (codes ":") → ⊥
  seq_no_colon end_of-Stmt i j p h u = let v : IsWord ts i (codes "end") = subst (λ z. IsWord ts z (codes "end")) (sym p) h in cc
  seq_no_colon (more_of-Stmt a rest) i j p h u = no_colon i a p.0 p.1 u

  seq_end : {m : _} (row : Row_of-Stmt m) (i j k : ℕ) → i ≡ j → SpellsSeq ts i row k → IsWord ts j (codes "end") → (list_of row ≡ []) × (j ≡ k)
  seq_end end_of-Stmt i j k p t u = (refl, sym p ∙ t)
  seq_end (more_of-Stmt b rest) i j k p t u = absurd (no_end_start i b t.0 t.1 (subst (λ z. IsWord ts z (codes "end")) (sym p) u))

  seq_step : (a : Stmt) (rest : List Stmt) (i j k m : ℕ) → (IsWord ts m (codes "else") → ⊥) → (IsWord ts i (codes "end") → ⊥)
      → ((b : Stmt) (n : ℕ) → SpellsStmt ts i b n → Outcome a m b n)
      → ((c : Count) (row : Row_of-Stmt c) → SpellsSeq ts m row k → IsWord ts k (codes "end") → (rest ≡ list_of row) × (j ≡ k))
      → (c : Count) (row : Row_of-Stmt c) → SpellsSeq ts i row k → IsWord ts k (codes "end") → (a ∷ rest ≡ list_of row) × (j ≡ k)
  seq_step a rest i j k m last first same again c end_of-Stmt t v = absurd (first (subst (λ z. IsWord ts z (codes "end")) (sym t) v))
  seq_step a rest i j k m last first same again c (more_of-Stmt b rest') t v = by (same b t.0 t.1)
    where
      by : Outcome a m b t.0 → (a ∷ rest ≡ b ∷ list_of rest') × (j ≡ k)
      by (inl p) = let r = again _ rest' (subst (λ z. SpellsSeq ts z rest' k) (sym p.1) t.2) v in ((λ z. p.0 z ∷ r.0 z), r.1)
      by (inr (inl p)) = absurd (last p.0)
      by (inr (inr p)) = absurd (no_else rest' t.0 k t.2 v p.0)

  -- case items
  pub cases_no_else : {m : _} (kind : CaseKind) (row : Row_of-CaseItem m) (i j : ℕ) → SpellsCases kind ts i row j → IsWord ts j (codes "endcase") → IsWord ts i (codes "else") → ⊥
  cases_no_else kind end_of-CaseItem i j p h u = two_words ts i (codes "endcase") (codes "else") refl (subst (λ z. IsWord ts z (codes "endcase")) (sym p) h) u
  cases_no_else kind (more_of-CaseItem labels body rest) i j p h u = item_no_word kind i labels p.0 (codes "else") p.2 reserved_else cast_of_else refl u

  pub item_no_end : (kind : CaseKind) (i : ℕ) (labels : Labels) (j : ℕ) → SpellsLabels kind ts i labels j → IsWord ts i (codes "endcase") → ⊥
  item_no_end kind i labels j p = item_no_word kind i labels j (codes "endcase") p reserved_endcase cast_of_endcase refl

  cases_end : {m : _} (kind : CaseKind) (row : Row_of-CaseItem m) (i j k : ℕ) → i ≡ j → SpellsCases kind ts i row k → IsWord ts j (codes "endcase") → (cases_of row ≡ []) × (j ≡ k)
  cases_end kind end_of-CaseItem i j k p t u = (refl, sym p ∙ t)
  cases_end kind (more_of-CaseItem labels body rest) i j k p t u = absurd (item_no_end kind i labels t.0 t.2 (subst (λ z. IsWord ts z (codes "endcase")) (sym p) u))

  case_step : (kind : CaseKind) (labels : Labels) (a : Stmt) (rest : List CaseItem) (i j k m o : ℕ) → SpellsLabels kind ts i labels m → SpellsStmt ts m a o → (IsWord ts o (codes "else") → ⊥) → Same a
      → ((c : Count) (row : Row_of-CaseItem c) → SpellsCases kind ts o row k → IsWord ts k (codes "endcase") → (rest ≡ cases_of row) × (j ≡ k))
      → (c : Count) (row : Row_of-CaseItem c) → SpellsCases kind ts i row k → IsWord ts k (codes "endcase") → (case_of labels a ∷ rest ≡ cases_of row) × (j ≡ k)
  case_step kind labels a rest i j k m o sl sa last same again c end_of-CaseItem t v = absurd (item_no_end kind i labels m sl (subst (λ z. IsWord ts z (codes "endcase")) (sym t) v))
  case_step kind labels a rest i j k m o sl sa last same again c (more_of-CaseItem labels' body' rest') t v =
      let u : (labels ≡ labels') × (a ≡ body') × (o ≡ t.1) = one_item kind labels a i m o sl sa last same labels' body' t.0 t.1 t.2 t.3 (cases_no_else kind rest' t.1 k t.4 v) in
      let r = again _ rest' (subst (λ z. SpellsCases kind ts z rest' k) (sym u.2) t.4) v in
      ((λ z. case_of (u.0 z) (u.1 z) ∷ r.0 z), r.1)

  -- the name of a block
  one_block_name : (i : ℕ) (n : Option (List ℕ)) (j : ℕ) (n' : Option (List ℕ)) (k : ℕ) → Maybe (SpellsLabelled ts) i n j → (IsSign ts j (codes ":") → ⊥) → Maybe (SpellsLabelled ts) i n' k
      → (IsSign ts k (codes ":") → ⊥) → (n ≡ n') × (j ≡ k)
  one_block_name i None j None k p u q v = (refl, sym p ∙ q)
  one_block_name i None j (Some n) k p u q v = absurd (u (subst (λ z. IsSign ts z (codes ":")) p q.0))
  one_block_name i (Some n) j None k p u q v = absurd (v (subst (λ z. IsSign ts z (codes ":")) q p.0))
  one_block_name i (Some n) j (Some n') k p u q v = let e : n ≡ n' = one_identifier false ts (i + 1) n n' p.1 q.1 in (ap Some e, p.2 ∙ sym q.2)

  block_one : (n : Option (List ℕ)) (s' : _) (row : _) (i j : ℕ) (b : Stmt) (k : ℕ) → (p : SpellsStmt ts i (s.Block' n s' row) j)
      → ((c : Count) (row' : Row_of-Stmt c) (k : ℕ) → SpellsSeq ts p.0 row' k → IsWord ts k (codes "end") → (list_of row ≡ list_of row') × (p.1 ≡ k))
      → BlockForm i b k → Outcome (s.Block' n s' row) j b k
  block_one n s' row i j b k p same f =
      let u : (n ≡ f.name) × (p.0 ≡ f.past) =
      one_block_name (i + 1) n p.0 f.name f.past p.3 (seq_no_colon row p.0 p.1 p.4 p.5) f.named (seq_no_colon f.row f.past f.at f.spells_row f.close) in
      let r : (list_of row ≡ list_of f.row) × (p.1 ≡ f.at) = same _ f.row f.at (subst (λ z. SpellsSeq ts z f.row f.at) (sym u.1) f.spells_row) f.close in
      inl (block_is n s' row ∙ ((λ z. s.Block (u.0 z) (r.0 z)) ∙ (sym (block_is f.name f.shape f.row) ∙ sym f.is)), omega (arith, p.6, f.end_is, r.1))

  case_one : (kind : CaseKind) (a : Expr) (s' : _) (row : _) (i j : ℕ) (b : Stmt) (k : ℕ) → (p : SpellsStmt ts i (s.Case' kind a s' row) j)
      → ((c : Count) (row' : Row_of-CaseItem c) (k : ℕ) → SpellsCases kind ts (p.0 + 1) row' k → IsWord ts k (codes "endcase") → (cases_of row ≡ cases_of row') × (p.1 ≡ k))
      → CaseForm kind i b k → Outcome (s.Case' kind a s' row) j b k
  case_one kind a s' row i j b k p same f =
      let u : (a ≡ f.value) × (p.0 ≡ f.at) = one_expr ts (i + 2) a p.0 f.value f.at p.4 (stops_paren false ts p.0 p.5) f.spells_value (stops_paren false ts f.at f.close) in
      let r : (cases_of row ≡ cases_of f.row) × (p.1 ≡ f.last) = same _ f.row f.last (subst (λ z. SpellsCases kind ts (z + 1) f.row f.last) (sym u.1) f.spells_row) f.end_word in
      inl (case_is kind a s' row ∙ ((λ z. s.Case kind (u.0 z) (r.0 z)) ∙ (sym (case_is kind f.value f.shape f.row) ∙ sym f.is)), omega (arith, p.10, f.end_is, r.1))

  mutual
    pub compare : (a : Stmt) (i j : ℕ) (b : Stmt) (k : ℕ) → SpellsStmt ts i a j → SpellsStmt ts i b k → Outcome a j b k
    compare s.Empty i j b k p t = let f : (b ≡ s.Empty) × (k ≡ i + 1) = formed_as i b k semicolon t (ap by_kind p.0) in inl (sym f.0, p.1 ∙ sym f.1)
    compare (s.Block' n q row) i j b k p t =
        block_one n q row i j b k p (λ c row' k' t' v'. compare_seq row p.0 p.1 c row' k' p.4 t' p.5 v') (formed_as i b k opening t (ap by_kind p.2))
    compare (s.If' c q (more_of-Stmt a end_of-Stmt)) i j b k p t =
        without c a i p.0 j p.3 p.4 p.5 (λ i' j' b' k' p' t'. compare a i' j' b' k' p' t') b k (formed_as i b k conditional t (ap by_kind p.1))
    compare (s.IfElse' c q (more_of-Stmt a end_of-Stmt) r (more_of-Stmt a' end_of-Stmt)) i j b k p t =
        with_else c a a' i p.0 p.1 j p.4 p.5 p.6 p.7 p.8 p.9 (λ i' j' b' k' p' t'. compare a i' j' b' k' p' t') (λ i' j' b' k' p' t'. compare a' i' j' b' k' p' t')
        b k (formed_as i b k conditional t (ap by_kind p.2))
    compare (s.Case' kind a q row) i j b k p t =
        case_one kind a q row i j b k p (λ c row' k' t' v'. compare_cases kind row (p.0 + 1) p.1 c row' k' p.6 t' p.9 v') (formed_as i b k (choice kind) t (head_case kind i p.2))
    compare (s.Blocking a x) i j b k p t = blocking_one i a x j b k p (formed_as i b k left_side t (head_lval i a p.0 p.2))
    compare (s.Nonblocking a x) i j b k p t = nonblocking_one i a x j b k p (formed_as i b k left_side t (head_lval i a p.0 p.2))

    pub compare_seq : {m : _} (row : Row_of-Stmt m) (i j : ℕ) (c : Count) (row' : Row_of-Stmt c) (k : ℕ) → SpellsSeq ts i row j → SpellsSeq ts i row' k
        → IsWord ts j (codes "end") → IsWord ts k (codes "end") → (list_of row ≡ list_of row') × (j ≡ k)
    compare_seq end_of-Stmt i j c row' k p t u v = let e = seq_end row' i j k p t u in (sym e.0, e.1)
    compare_seq (more_of-Stmt a rest) i j c row' k p t u v =
        seq_step a (list_of rest) i j k p.0 (no_else rest p.0 j p.2 u) (no_end_start i a p.0 p.1)
        (λ b' k' t'. compare a i p.0 b' k' p.1 t') (λ c' row'' t' v'. compare_seq rest p.0 j c' row'' k p.2 t' u v') c row' t v

    pub compare_cases : {m : _} (kind : CaseKind) (row : Row_of-CaseItem m) (i j : ℕ) (c : Count) (row' : Row_of-CaseItem c) (k : ℕ) → SpellsCases kind ts i row j → SpellsCases kind ts i row' k
        → IsWord ts j (codes "endcase") → IsWord ts k (codes "endcase") → (cases_of row ≡ cases_of row') × (j ≡ k)
    compare_cases kind end_of-CaseItem i j c row' k p t u v = let e = cases_end kind row' i j k p t u in (sym e.0, e.1)
    compare_cases kind (more_of-CaseItem labels body rest) i j c row' k p t u v =
        case_step kind labels body (cases_of rest) i j k p.0 p.1 p.2 p.3 (cases_no_else kind rest p.1 j p.4 u) (λ i' j' b' k' p' t'. compare body i' j' b' k' p' t')
        (λ c' row'' t' v'. compare_cases kind rest p.1 j c' row'' k p.4 t' u v') c row' t v
