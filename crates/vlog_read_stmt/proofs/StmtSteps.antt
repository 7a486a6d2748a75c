-- One step of the reader of statements: what is read, and why nothing is.
use Rattle.std.proofs.Common.{ℕ, ◌+◌, ◌-◌, ◌≡◌, ◌<◌, ◌≤◌, max, ◌⊎◌, inl, inr, List, [], ◌∷◌, ◌++◌, length, Option, Some, None, false, refl, sym, ap, subst, ◌∙◌, arith}
use Rattle.std.specs.Prelude.{codes}
use denote.Hole.Carrier
use Rattle.vlog_tree.specs.declared.token.Token.{Token}
use Rattle.vlog_tree.specs.declared.token.Kind.TheVariants as k
use Rattle.vlog_tree.specs.declared.expr.Expr.{Expr}
use Rattle.vlog_tree.specs.declared.stmt.Lval.{Lval}
use Rattle.vlog_tree.specs.declared.stmt.Stmt.{Stmt, Row_of-Stmt, end_of-Stmt, more_of-Stmt, items-the_row-Stmt, items_hidden-the_row-Stmt-0}
use Rattle.vlog_tree.specs.declared.stmt.Stmt.TheVariants as s
use Rattle.vlog_tree.specs.declared.stmt.Stmt.TheBlock.{hidden-the_row-Stmt-0, shape-the_row-Stmt-1, hidden-the_row-Stmt-1}
use Rattle.vlog_tree.specs.Signs.{IsSign, IsWord}
use Rattle.vlog_tree.specs.Lists.{highest, Maybe, Sequence}
use Rattle.vlog_tree.specs.Spelling.{IsIdentifier, Reads, height}
use Rattle.vlog_tree.specs.Statements.{SpellsStmt, SpellsSeq, SpellsLabelled, SpellsAssigned, IsOpen, stmt_height, stmt_heights, lval_height}
use Rattle.vlog_read_spelling.proofs.Tokens.{kind_within, stops_paren, stops_semicolon, two_signs}
use Rattle.vlog_read_spelling.proofs.Reading.{unique}
use Rattle.vlog_read_spelling.proofs.Statements.{Outcome, compare, no_else, no_colon, no_end_start, opening, conditional, by_kind, formed_as, BlockForm, IfForm, AssignForm}
use Rattle.vlog_read_spelling.proofs.Forms.{length_of}
use Rattle.vlog_read_expr.specs.declared.expr.Parsed.{Parsed}
use Rattle.vlog_read_lex.specs.declared.error.ReadFault.{ReadFault}
use Rattle.vlog_read_expr.specs.Answers.{IsRead, Refusal, Refuses}
use Rattle.vlog_read_expr.specs.Names.{Lacks, RefusesIdentifier}
use Rattle.vlog_read_expr.proofs.Steps.{Has, passes}
use Rattle.vlog_read_stmt.specs.declared.lval.ParsedLval.{ParsedLval}
use Rattle.vlog_read_stmt.specs.declared.stmt.ParsedStmt.{ParsedStmt}
use Rattle.vlog_read_stmt.specs.declared.stmt.ParsedSeq.{ParsedSeq}
use Rattle.vlog_read_stmt.specs.declared.stmt.BlockName.{BlockName}
use Rattle.vlog_read_stmt.specs.Answers.{ReadsLval, IsLval, RefusesLval, ReadsStmt, IsStmt, RefusesStmt, NoKeyword, ReadsSeq, IsSeq, ReadsHeader, IsHeader, ReadsValue, IsValue, ReadsBlockName}
use Rattle.vlog_read_stmt.proofs.Passing.{lacking, lacks_refuses, tree_at, highest-append, sequence_snoc, next}
use Rattle.vlog_read_stmt.proofs.LvalSteps.{lval_span, unique_lval}

abbrev pub if_of : Expr → Stmt → Stmt
if_of c a = s.If' c tt (more_of-Stmt a end_of-Stmt)

abbrev pub if_else_of : Expr → Stmt → Stmt → Stmt
if_else_of c a b = s.IfElse' c tt (more_of-Stmt a end_of-Stmt) tt (more_of-Stmt b end_of-Stmt)

pub if_made : (c : Expr) (a a' : Stmt) → a ≡ a' → s.If c a ≡ if_of c a'
unfolding shape-the_row-Stmt-1 hidden-the_row-Stmt-1 denote.Hole.Carrier.hidden
if_made c a a' p = ap (λ x. if_of c x) p

pub if_else_made : (c : Expr) (a b a' b' : Stmt) → a ≡ a' → b ≡ b' → s.IfElse c a b ≡ if_else_of c a' b'
unfolding shape-the_row-Stmt-1 hidden-the_row-Stmt-1 denote.Hole.Carrier.hidden
if_else_made c a b a' b' p q = λ r. if_else_of c (p r) (q r)

abbrev pub list_of : {m : _} → Row_of-Stmt m → List Stmt
list_of end_of-Stmt = []
list_of (more_of-Stmt a rest) = a ∷ list_of rest

pub listed : (m : _) (row : Row_of-Stmt m) → items-the_row-Stmt m row ≡ list_of row
listed m end_of-Stmt = refl
listed m (more_of-Stmt a rest) = ap (λ xs. a ∷ xs) (listed _ rest)

list_of-hidden : (xs : List Stmt) → list_of (hidden-the_row-Stmt-0 xs) ≡ xs
list_of-hidden xs = sym (listed _ (hidden-the_row-Stmt-0 xs)) ∙ items_hidden-the_row-Stmt-0 xs

heights_is : {m : _} (row : Row_of-Stmt m) → highest stmt_height (list_of row) ≡ stmt_heights row
heights_is end_of-Stmt = refl
heights_is (more_of-Stmt a rest) = ap (max (stmt_height a)) (heights_is rest)

-- a statement has a token, and ends within them
label_span : (ts : List Token) (i : ℕ) (n : Option (List ℕ)) (j : ℕ) → Maybe (SpellsLabelled ts) i n j → i ≤ j
label_span ts i None j p = omega (arith, p)
label_span ts i (Some n) j p = omega (arith, p.2)

assigned_span : (ts : List Token) (i : ℕ) (l : Lval) (e : Expr) (j : ℕ) (sign : List ℕ) → SpellsAssigned sign ts i l e j → (i < j) × (j ≤ length ts)
assigned_span ts i l e j sign p =
    (omega (arith, (lval_span ts i l p.0 p.2).0, length_of false ts (p.0 + 1) e p.1 p.4, p.6), omega (arith, kind_within ts p.1 _ p.5, p.6))

mutual
  pub span : (ts : List Token) (i : ℕ) (a : Stmt) (j : ℕ) → SpellsStmt ts i a j → (i < j) × (j ≤ length ts)
  span ts i s.Empty j p = (omega (arith, p.1), omega (arith, kind_within ts i _ p.0, p.1))
  span ts i (s.Block' n q row) j p =
      (omega (arith, label_span ts (i + 1) n p.0 p.3, seq_span ts p.0 row p.1 p.4, p.6), omega (arith, kind_within ts p.1 _ p.5, p.6))
  span ts i (s.If' c q (more_of-Stmt a end_of-Stmt)) j p =
      let u = span ts (p.0 + 1) a j p.5 in (omega (arith, u.0, length_of false ts (i + 2) c p.0 p.3), u.1)
  span ts i (s.IfElse' c q (more_of-Stmt a end_of-Stmt) r (more_of-Stmt b end_of-Stmt)) j p =
      let u = span ts (p.0 + 1) a p.1 p.6 in let v = span ts (p.1 + 1) b j p.9 in (omega (arith, u.0, v.0, length_of false ts (i + 2) c p.0 p.4), v.1)
  span ts i (s.Case' kind a q row) j p =
      (omega (arith, length_of false ts (i + 2) a p.0 p.4, p.8, p.10), omega (arith, kind_within ts p.1 _ p.9, p.10))
  span ts i (s.Blocking l e) j p = assigned_span ts i l e j (codes "=") p
  span ts i (s.Nonblocking l e) j p = assigned_span ts i l e j (codes "<=") p

  seq_span : {m : _} (ts : List Token) (i : ℕ) (row : Row_of-Stmt m) (j : ℕ) → SpellsSeq ts i row j → i ≤ j
  seq_span ts i end_of-Stmt j p = omega (arith, p)
  seq_span ts i (more_of-Stmt a rest) j p = omega (arith, (span ts i a p.0 p.1).0, seq_span ts p.0 rest j p.2)

-- after a word, an expression in parentheses
module _ (ts : List Token) (i : ℕ) where
  pub same_header : (a : Expr) (j : ℕ) (b : Expr) (k : ℕ) → ReadsHeader ts i a j → ReadsHeader ts i b k → j ≡ k
  same_header a j b k p q = omega (arith, p.end_is, q.end_is, (unique false ts 1 (i + 2) a p.at b q.at p.reads q.reads).1)

  module _ (depth : ℕ) where
    pub header_past : (c : Parsed) → IsHeader ts i depth c → i + 2 < c.end
    header_past c r = omega (arith, r.reads.end_is, length_of false ts (i + 2) c.tree r.reads.at r.reads.reads.spelt)

    pub header_shut : (IsSign ts (i + 1) (codes "(") → ⊥) → (a : Expr) (j : ℕ) → ReadsHeader ts i a j → ⊥
    header_shut h a j q = h q.opens

    pub header_refuses : (fault : ReadFault) → Refuses false ts 1 (i + 2) depth fault → Refusal height (ReadsHeader ts i) ts (i + 1) depth fault
    header_refuses fault r =
        passes height (Reads false ts 1 (i + 2)) height (ReadsHeader ts i) ts (i + 2) depth (i + 1) depth 0
        (λ a j q. record { part = a; end = q.at; holds = q.reads; lower = omega arith }) (omega arith) (omega arith) fault r

    pub header_open : (p : Parsed) → IsRead false ts 1 (i + 2) depth p → (IsSign ts p.end (codes ")") → ⊥) → (a : Expr) (j : ℕ) → ReadsHeader ts i a j → ⊥
    header_open p r h a j q = h (subst (λ z. IsSign ts z (codes ")")) (unique false ts 1 (i + 2) a q.at p.tree p.end q.reads r.reads).1 q.closes)

    -- an expression with its semicolon
    pub value_refuses : (fault : ReadFault) → Refuses false ts 1 i depth fault → Refusal height (ReadsValue ts i) ts i depth fault
    value_refuses fault r =
        passes height (Reads false ts 1 i) height (ReadsValue ts i) ts i depth i depth 0
        (λ a j q. record { part = a; end = q.at; holds = q.reads; lower = omega arith }) (omega arith) (omega arith) fault r

    pub value_open : (p : Parsed) → IsRead false ts 1 i depth p → (IsSign ts p.end (codes ";") → ⊥) → (a : Expr) (j : ℕ) → ReadsValue ts i a j → ⊥
    value_open p r h a j q = h (subst (λ z. IsSign ts z (codes ";")) (unique false ts 1 i a q.at p.tree p.end q.reads r.reads).1 q.closes)

pub stmt_height_pos : (a : Stmt) → 0 < stmt_height a
stmt_height_pos s.Empty = omega arith
stmt_height_pos (s.Block' n q row) = omega arith
stmt_height_pos (s.If' c q (more_of-Stmt a end_of-Stmt)) = omega arith
stmt_height_pos (s.IfElse' c q (more_of-Stmt a end_of-Stmt) r (more_of-Stmt b end_of-Stmt)) = omega arith
stmt_height_pos (s.Case' kind a q row) = omega arith
stmt_height_pos (s.Blocking l e) = omega arith
stmt_height_pos (s.Nonblocking l e) = omega arith

module _ (ts : List Token) where
  -- what is read at a place is one statement
  pub unique_stmt : (i : ℕ) (a : Stmt) (j : ℕ) (b : Stmt) (k : ℕ) → ReadsStmt ts i a j → ReadsStmt ts i b k → (a ≡ b) × (j ≡ k)
  unique_stmt i a j b k p q = by (compare ts a i j b k p.spelt q.spelt)
    where
      by : Outcome ts a j b k → (a ≡ b) × (j ≡ k)
      by (inl r) = r
      by (inr (inl r)) = absurd (p.ends r.0 r.1)
      by (inr (inr r)) = absurd (q.ends r.0 r.1)

  pub past_end : (i : ℕ) → length ts ≤ i → (b : Stmt) (k : ℕ) → ReadsStmt ts i b k → ⊥
  past_end i h b k q = omega (arith, h, (span ts i b k q.spelt).0, (span ts i b k q.spelt).1)

  -- sequences up to an `end`
  seq_row : {m : _} (row : Row_of-Stmt m) (i j : ℕ) → Sequence (ReadsStmt ts) i (list_of row) j → SpellsSeq ts i row j
  seq_row end_of-Stmt i j p = p
  seq_row (more_of-Stmt a rest) i j p = (p.0, p.1.spelt, seq_row rest p.0 j p.2)

  row_seq : {m : _} (row : Row_of-Stmt m) (i j : ℕ) → SpellsSeq ts i row j → IsWord ts j (codes "end") → Sequence (ReadsStmt ts) i (list_of row) j
  row_seq end_of-Stmt i j p h = p
  row_seq (more_of-Stmt a rest) i j p h = (p.0, record { spelt = p.1; ends = λ w o. no_else ts rest p.0 j p.2 h w }, row_seq rest p.0 j p.2 h)

  seq_begins_otherwise : (i : ℕ) (a : Stmt) (j : ℕ) → ReadsStmt ts i a j → IsWord ts i (codes "end") → ⊥
  seq_begins_otherwise i a j p = no_end_start ts i a j p.spelt

  -- what is read of a sequence so far
  pub record Begun_seq (i depth : ℕ) (items : List Stmt) (tall end : ℕ) : Type 0 where
    pub reads : Sequence (ReadsStmt ts) i items end
    pub height_is : tall ≡ highest stmt_height items
    pub low : tall ≤ depth
    pub past : i ≤ end

  module _ (i depth : ℕ) where
    pub seq_begins : Begun_seq i depth [] 0 i
    seq_begins = record { reads = refl; height_is = refl; low = omega arith; past = omega arith }

    module _ (items : List Stmt) (tall end : ℕ) (b : Begun_seq i depth items tall end) where
      pub seq_ends : IsWord ts end (codes "end") → (new : ParsedSeq) → new.items ≡ items → new.end ≡ end → new.height ≡ tall → IsSeq ts i depth new
      seq_ends last new is at h = record {
        reads = subst (λ z. ReadsSeq ts i z new.end) (sym is) (subst (λ z. ReadsSeq ts i items z) (sym at) (b.reads, last));
        height_is = omega (arith, h, b.height_is, ap (highest stmt_height) is);
        low = omega (arith, h, b.low);
        past = omega (arith, at, b.past);
      }

      pub seq_refuses : (IsWord ts end (codes "end") → ⊥) → (fault : ReadFault) → RefusesStmt ts end depth fault → Refusal (highest stmt_height) (ReadsSeq ts i) ts i depth fault
      seq_refuses open_ fault r =
          passes stmt_height (ReadsStmt ts end) (highest stmt_height) (ReadsSeq ts i) ts end depth i depth 0
          (λ ys j q. let o = next stmt_height (λ z. IsWord ts z (codes "end")) (ReadsStmt ts) unique_stmt seq_begins_otherwise items i end b.reads open_ ys j q.0 q.1 in
          record { part = o.0; end = o.1; holds = o.2; lower = omega (arith, o.3) })
          (omega (arith, b.past)) (omega arith) fault r

      pub seq_grows : (p : ParsedStmt) → IsStmt ts end depth p → (new : List Stmt) → new ≡ items ++ p.tree ∷ [] → (tall' : ℕ) → tall' ≡ max tall p.height
          → Begun_seq i depth new tall' p.end
      seq_grows p r new is tall' h = record {
        reads = subst (λ z. Sequence (ReadsStmt ts) i z p.end) (sym is) (sequence_snoc (ReadsStmt ts) items i end p.tree p.end b.reads r.reads);
        height_is = omega (arith, h, b.height_is, r.height_is, ap (highest stmt_height) is, highest-append stmt_height items (p.tree ∷ []));
        low = omega (arith, h, b.low, r.low);
        past = omega (arith, b.past, (span ts end p.tree p.end r.reads.spelt).0);
      }

  -- the name of a block
  pub name_lacks : (i : ℕ) → IsSign ts i (codes ":") → (fault : ReadFault) → RefusesIdentifier false ts (i + 1) fault → Lacks (ReadsBlockName ts i) fault
  name_lacks i colon fault r = lacking (λ w j. IsIdentifier false ts (i + 1) w) (ReadsBlockName ts i) has fault r
    where
      has : (n : Option (List ℕ)) (j : ℕ) → ReadsBlockName ts i n j → (w : List ℕ) × (m : ℕ) × IsIdentifier false ts (i + 1) w
      has None j q = absurd (q.1 colon)
      has (Some n) j q = (n, j, q.1)

  name_spelt : (i : ℕ) (n : Option (List ℕ)) (j : ℕ) → ReadsBlockName ts i n j → Maybe (SpellsLabelled ts) i n j
  name_spelt i None j p = p.0
  name_spelt i (Some n) j p = p

  name_reads : (i : ℕ) (n : Option (List ℕ)) (j : ℕ) → Maybe (SpellsLabelled ts) i n j → (IsSign ts j (codes ":") → ⊥) → ReadsBlockName ts i n j
  name_reads i None j p free = (p, λ s. free (subst (λ z. IsSign ts z (codes ":")) p s))
  name_reads i (Some n) j p free = p

  name_end : (i : ℕ) (n : Option (List ℕ)) (j : ℕ) (n' : Option (List ℕ)) (k : ℕ) → ReadsBlockName ts i n j → ReadsBlockName ts i n' k → j ≡ k
  name_end i None j None k p q = sym p.0 ∙ q.0
  name_end i None j (Some n) k p q = absurd (p.1 q.0)
  name_end i (Some n) j None k p q = absurd (q.1 p.0)
  name_end i (Some n) j (Some n') k p q = p.2 ∙ sym q.2

  name_past : (i : ℕ) (n : Option (List ℕ)) (j : ℕ) → ReadsBlockName ts i n j → i ≤ j
  name_past i n j p = label_span ts i n j (name_spelt i n j p)

  seq_no_colon : {m : _} (row : Row_of-Stmt m) (i j : ℕ) → SpellsSeq ts i row j → IsWord ts j (codes "end") → IsSign ts i (codes ":") → ⊥
  seq_no_colon end_of-Stmt i j p h u = let v : IsWord ts i (codes "end") = subst (λ z. IsWord ts z (codes "end")) (sym p) h in cc
  seq_no_colon (more_of-Stmt a rest) i j p h u = no_colon ts i a p.0 p.1 u

  -- a block, by its parts
  pub record BlockParts (i : ℕ) (tree : Stmt) (j : ℕ) : Type 0 where
    pub name : Option (List ℕ)
    pub past : ℕ
    pub named : ReadsBlockName ts (i + 1) name past
    pub items : List Stmt
    pub at : ℕ
    pub reads : ReadsSeq ts past items at
    pub lower : highest stmt_height items + 1 ≤ stmt_height tree

  block_parts : (i : ℕ) → IsWord ts i (codes "begin") → (a : Stmt) (j : ℕ) → ReadsStmt ts i a j → BlockParts i a j
  block_parts i here a j r =
      let g : BlockForm ts i a j = formed_as ts i a j opening r.spelt (ap by_kind here) in
      record {
        name = g.name;
        past = g.past;
        named = name_reads (i + 1) g.name g.past g.named (seq_no_colon g.row g.past g.at g.spells_row g.close);
        items = list_of g.row;
        at = g.at;
        reads = (row_seq g.row g.past g.at g.spells_row g.close, g.close);
        lower = omega (arith, ap stmt_height g.is, heights_is g.row);
      }

  -- an `if`, by its parts
  if_form : (i : ℕ) → IsWord ts i (codes "if") → (a : Stmt) (j : ℕ) → ReadsStmt ts i a j → IfForm ts i a j
  if_form i here a j r = formed_as ts i a j conditional r.spelt (ap by_kind here)

  if_header : (i : ℕ) (a : Stmt) (j : ℕ) (g : IfForm ts i a j) → ReadsHeader ts i g.cond (g.at + 1)
  if_header i a j g = record { opens = g.open_; at = g.at; reads = tree_at ts (i + 2) g.cond g.at g.spells_cond (stops_paren false ts g.at g.close); closes = g.close; end_is = refl }

  if_low : (i : ℕ) (a : Stmt) (j : ℕ) (g : IfForm ts i a j) → (height g.cond + 1 ≤ stmt_height a) × (stmt_height g.part + 1 ≤ stmt_height a)
  if_low i a j g = by g g.other
    where
      by : (g : IfForm ts i a j) → ((a ≡ if_of g.cond g.part) × (g.mid ≡ j))
          ⊎ ((b : Stmt) × (a ≡ if_else_of g.cond g.part b) × IsWord ts g.mid (codes "else") × (IsOpen g.part → ⊥) × SpellsStmt ts (g.mid + 1) b j)
          → (height g.cond + 1 ≤ stmt_height a) × (stmt_height g.part + 1 ≤ stmt_height a)
      by g (inl h) = (omega (arith, ap stmt_height h.0), omega (arith, ap stmt_height h.0))
      by g (inr h) = (omega (arith, ap stmt_height h.1), omega (arith, ap stmt_height h.1))

  if_part : (i : ℕ) (a : Stmt) (j : ℕ) (g : IfForm ts i a j) → (IsWord ts j (codes "else") → IsOpen a → ⊥) → ReadsStmt ts (g.at + 1) g.part g.mid
  if_part i a j g ends = record { spelt = g.spells_part; ends = by g g.other }
    where
      by : (g : IfForm ts i a j) → ((a ≡ if_of g.cond g.part) × (g.mid ≡ j))
          ⊎ ((b : Stmt) × (a ≡ if_else_of g.cond g.part b) × IsWord ts g.mid (codes "else") × (IsOpen g.part → ⊥) × SpellsStmt ts (g.mid + 1) b j)
          → IsWord ts g.mid (codes "else") → IsOpen g.part → ⊥
      by g (inl h) w o = ends (subst (λ z. IsWord ts z (codes "else")) h.1 w) (subst IsOpen (sym h.0) tt)
      by g (inr h) w o = h.3 o

  pub record ElsePart (mid : ℕ) (tree : Stmt) : Type 0 where
    pub part : Stmt
    pub end : ℕ
    pub reads : ReadsStmt ts (mid + 1) part end
    pub lower : stmt_height part + 1 ≤ stmt_height tree

  else_part : (i : ℕ) (a : Stmt) (j : ℕ) (g : IfForm ts i a j) → (IsWord ts j (codes "else") → IsOpen a → ⊥) → IsWord ts g.mid (codes "else") → ElsePart g.mid a
  else_part i a j g ends w = by g g.other w
    where
      by : (g : IfForm ts i a j) → ((a ≡ if_of g.cond g.part) × (g.mid ≡ j))
          ⊎ ((b : Stmt) × (a ≡ if_else_of g.cond g.part b) × IsWord ts g.mid (codes "else") × (IsOpen g.part → ⊥) × SpellsStmt ts (g.mid + 1) b j)
          → IsWord ts g.mid (codes "else") → ElsePart g.mid a
      by g (inl h) w = absurd (ends (subst (λ z. IsWord ts z (codes "else")) h.1 w) (subst IsOpen (sym h.0) tt))
      by g (inr h) w = record {
        part = h.0;
        end = j;
        reads = record { spelt = h.4; ends = λ v o. ends v (subst IsOpen (sym h.1) o) };
        lower = omega (arith, ap stmt_height h.1);
      }

  -- an assignment, by its parts
  assign_form : (i : ℕ) → NoKeyword ts i → (a : Stmt) (j : ℕ) → SpellsStmt ts i a j → AssignForm ts i a j
  assign_form i other s.Empty j p = absurd (other.no_semicolon p.0)
  assign_form i other (s.Block' n q row) j p = absurd (other.no_begin p.2)
  assign_form i other (s.If' c q (more_of-Stmt a end_of-Stmt)) j p = absurd (other.no_if p.1)
  assign_form i other (s.IfElse' c q (more_of-Stmt a end_of-Stmt) r (more_of-Stmt b end_of-Stmt)) j p = absurd (other.no_if p.2)
  assign_form i other (s.Case' kind a q row) j p = absurd (other.no_case kind p.2)
  assign_form i other (s.Blocking a x) j p = (a, x, inl (refl, p))
  assign_form i other (s.Nonblocking a x) j p = (a, x, inr (refl, p))

  pub record Assigned (i : ℕ) (tree : Stmt) (j : ℕ) : Type 0 where
    pub left : Lval
    pub at : ℕ
    pub reads : ReadsLval ts i left at
    pub lower : lval_height left + 1 ≤ stmt_height tree
    pub sign : IsSign ts at (codes "=") ⊎ IsSign ts at (codes "<=")
    pub right : Expr
    pub value : ReadsValue ts (at + 1) right j
    pub lower_right : height right + 1 ≤ stmt_height tree

  assigned_parts : (i : ℕ) → NoKeyword ts i → (a : Stmt) (j : ℕ) → ReadsStmt ts i a j → Assigned i a j
  assigned_parts i other a j r = by (assign_form i other a j r.spelt)
    where
      value_of : (l : Lval) (x : Expr) (sign : List ℕ) (p : SpellsAssigned sign ts i l x j) → ReadsValue ts (p.0 + 1) x j
      value_of l x sign p = record { at = p.1; reads = tree_at ts (p.0 + 1) x p.1 p.4 (stops_semicolon false ts p.1 p.5); closes = p.5; end_is = p.6 }

      by : AssignForm ts i a j → Assigned i a j
      by (l, x, inl (is, p)) = record {
        left = l;
        at = p.0;
        reads = record { spelt = p.2; alone = λ o. two_signs ts p.0 (codes "=") (codes "[") refl p.3 o; more = kind_within ts p.0 (k.Sign (codes "=")) p.3 };
        lower = omega (arith, ap stmt_height is);
        sign = inl p.3;
        right = x;
        value = value_of l x (codes "=") p;
        lower_right = omega (arith, ap stmt_height is);
      }
      by (l, x, inr (is, p)) = record {
        left = l;
        at = p.0;
        reads = record { spelt = p.2; alone = λ o. two_signs ts p.0 (codes "<=") (codes "[") refl p.3 o; more = kind_within ts p.0 (k.Sign (codes "<=")) p.3 };
        lower = omega (arith, ap stmt_height is);
        sign = inr p.3;
        right = x;
        value = value_of l x (codes "<=") p;
        lower_right = omega (arith, ap stmt_height is);
      }

  module _ (i depth : ℕ) (positive : 0 < depth) where
    pub empty_read : IsSign ts i (codes ";") → (new : ParsedStmt) → new.tree ≡ s.Empty → new.end ≡ i + 1 → new.height ≡ 1 → IsStmt ts i depth new
    empty_read here new tree end h = record {
      reads = subst (λ a. ReadsStmt ts i a new.end) (sym tree) (record { spelt = (here, end); ends = λ w o. o });
      height_is = h ∙ sym (ap stmt_height tree);
      low = omega (arith, h);
    }

    -- a block
    pub block_read : IsWord ts i (codes "begin") → (n : BlockName) → ReadsBlockName ts (i + 1) n.name n.end → (p : ParsedSeq) → IsSeq ts n.end (depth - 1) p → (new : ParsedStmt)
        → new.tree ≡ s.Block n.name p.items → new.end ≡ p.end + 1 → new.height ≡ p.height + 1 → IsStmt ts i depth new
    block_read here n rn p r new tree end h = record {
      reads = subst (λ a. ReadsStmt ts i a new.end) (sym tree) (record {
        spelt = (
          n.end,
          p.end,
          here,
          name_spelt (i + 1) n.name n.end rn,
          seq_row (hidden-the_row-Stmt-0 p.items) n.end p.end (subst (λ z. Sequence (ReadsStmt ts) n.end z p.end) (sym (list_of-hidden p.items)) r.reads.0),
          r.reads.1,
          end,
        );
        ends = λ w o. o;
      });
      height_is = omega (arith, h, r.height_is, ap stmt_height tree, heights_is (hidden-the_row-Stmt-0 p.items), ap (highest stmt_height) (list_of-hidden p.items));
      low = omega (arith, h, r.low);
    }

    pub label_refuses : IsWord ts i (codes "begin") → (fault : ReadFault) → Lacks (ReadsBlockName ts (i + 1)) fault → RefusesStmt ts i depth fault
    label_refuses here fault r =
        lacks_refuses stmt_height (ReadsStmt ts i) ts i depth fault
        (lacking (ReadsBlockName ts (i + 1)) (ReadsStmt ts i) (λ a j q. let g = block_parts i here a j q in (g.name, g.past, g.named)) fault r)

    pub block_refuses : IsWord ts i (codes "begin") → (n : BlockName) → ReadsBlockName ts (i + 1) n.name n.end → (fault : ReadFault)
        → Refusal (highest stmt_height) (ReadsSeq ts n.end) ts n.end (depth - 1) fault → RefusesStmt ts i depth fault
    block_refuses here n rn fault r =
        passes (highest stmt_height) (ReadsSeq ts n.end) stmt_height (ReadsStmt ts i) ts n.end (depth - 1) i depth 1
        (λ a j q. let g = block_parts i here a j q in
        record { part = g.items; end = g.at; holds = subst (λ z. ReadsSeq ts z g.items g.at) (name_end (i + 1) g.name g.past n.name n.end g.named rn) g.reads; lower = g.lower })
        (name_past (i + 1) n.name n.end rn) (omega arith) fault r

    -- an if
    pub condition_refuses : IsWord ts i (codes "if") → (fault : ReadFault) → Refusal height (ReadsHeader ts i) ts (i + 1) (depth - 1) fault → RefusesStmt ts i depth fault
    condition_refuses here fault r =
        passes height (ReadsHeader ts i) stmt_height (ReadsStmt ts i) ts (i + 1) (depth - 1) i depth 1
        (λ a j q. let g = if_form i here a j q in record { part = g.cond; end = g.at + 1; holds = if_header i a j g; lower = (if_low i a j g).0 })
        (omega arith) (omega arith) fault r

    pub part_refuses : IsWord ts i (codes "if") → (c : Parsed) → IsHeader ts i (depth - 1) c → (fault : ReadFault) → RefusesStmt ts c.end (depth - 1) fault → RefusesStmt ts i depth fault
    part_refuses here c rc fault r =
        passes stmt_height (ReadsStmt ts c.end) stmt_height (ReadsStmt ts i) ts c.end (depth - 1) i depth 1
        (λ a j q. let g = if_form i here a j q in record {
          part = g.part;
          end = g.mid;
          holds = subst (λ z. ReadsStmt ts z g.part g.mid) (same_header ts i g.cond (g.at + 1) c.tree c.end (if_header i a j g) rc.reads) (if_part i a j g q.ends);
          lower = (if_low i a j g).1;
        })
        (omega (arith, header_past ts i (depth - 1) c rc)) (omega arith) fault r

    module _ (here : IsWord ts i (codes "if")) (c : Parsed) (rc : IsHeader ts i (depth - 1) c) (y : ParsedStmt) (ry : IsStmt ts c.end (depth - 1) y) where
      part : SpellsStmt ts (rc.reads.at + 1) y.tree y.end
      part = subst (λ z. SpellsStmt ts z y.tree y.end) rc.reads.end_is ry.reads.spelt

      same_at : (a : Stmt) (j : ℕ) (g : IfForm ts i a j) → g.at + 1 ≡ c.end
      same_at a j g = same_header ts i g.cond (g.at + 1) c.tree c.end (if_header i a j g) rc.reads

      at_part : (a : Stmt) (j : ℕ) (q : ReadsStmt ts i a j) → ReadsStmt ts c.end (if_form i here a j q).part (if_form i here a j q).mid
      at_part a j q = let g = if_form i here a j q in subst (λ z. ReadsStmt ts z g.part g.mid) (same_at a j g) (if_part i a j g q.ends)

      pub else_refuses : IsWord ts y.end (codes "else") → (fault : ReadFault) → RefusesStmt ts (y.end + 1) (depth - 1) fault → RefusesStmt ts i depth fault
      else_refuses word fault r =
          passes stmt_height (ReadsStmt ts (y.end + 1)) stmt_height (ReadsStmt ts i) ts (y.end + 1) (depth - 1) i depth 1 has
          (omega (arith, header_past ts i (depth - 1) c rc, (span ts c.end y.tree y.end ry.reads.spelt).0)) (omega arith) fault r
        where
          has : (a : Stmt) (j : ℕ) → ReadsStmt ts i a j → Has stmt_height (ReadsStmt ts (y.end + 1)) 1 (stmt_height a)
          has a j q =
              let g = if_form i here a j q in
              let same : g.mid ≡ y.end = (unique_stmt c.end g.part g.mid y.tree y.end (at_part a j q) ry.reads).1 in
              let o = else_part i a j g q.ends (subst (λ z. IsWord ts z (codes "else")) (sym same) word) in
              record { part = o.part; end = o.end; holds = subst (λ z. ReadsStmt ts (z + 1) o.part o.end) same o.reads; lower = o.lower }

      pub if_read : (IsWord ts y.end (codes "else") → ⊥) → (new : ParsedStmt) → new.tree ≡ if_of c.tree y.tree → new.end ≡ y.end
          → new.height ≡ max c.height y.height + 1 → IsStmt ts i depth new
      if_read last new tree end h = record {
        reads = subst (λ a. ReadsStmt ts i a new.end) (sym tree) (subst (λ z. ReadsStmt ts i (if_of c.tree y.tree) z) (sym end) (record {
          spelt = (rc.reads.at, here, rc.reads.opens, rc.reads.reads.spelt, rc.reads.closes, part);
          ends = λ w o. last w;
        }));
        height_is = omega (arith, h, rc.height_is, ry.height_is, ap stmt_height tree);
        low = omega (arith, h, rc.low, ry.low);
      }

      pub if_else_read : IsWord ts y.end (codes "else") → (z : ParsedStmt) → IsStmt ts (y.end + 1) (depth - 1) z → (new : ParsedStmt) → new.tree ≡ if_else_of c.tree y.tree z.tree
          → new.end ≡ z.end → new.height ≡ max c.height (max y.height z.height) + 1 → IsStmt ts i depth new
      if_else_read word z rz new tree end h = record {
        reads = subst (λ a. ReadsStmt ts i a new.end) (sym tree) (subst (λ w. ReadsStmt ts i (if_else_of c.tree y.tree z.tree) w) (sym end) (record {
          spelt = (rc.reads.at, y.end, here, rc.reads.opens, rc.reads.reads.spelt, rc.reads.closes, part, ry.reads.ends word, word, rz.reads.spelt);
          ends = rz.reads.ends;
        }));
        height_is = omega (arith, h, rc.height_is, ry.height_is, rz.height_is, ap stmt_height tree);
        low = omega (arith, h, rc.low, ry.low, rz.low);
      }

    -- an assignment
    pub left_refuses : NoKeyword ts i → (fault : ReadFault) → RefusesLval ts i (depth - 1) fault → RefusesStmt ts i depth fault
    left_refuses other fault r =
        passes lval_height (ReadsLval ts i) stmt_height (ReadsStmt ts i) ts (i + 1) (depth - 1) i depth 1
        (λ a j q. let g = assigned_parts i other a j q in record { part = g.left; end = g.at; holds = g.reads; lower = g.lower }) (omega arith) (omega arith) fault r

    module _ (other : NoKeyword ts i) (l : ParsedLval) (rl : IsLval ts i (depth - 1) l) where
      same_left : (a : Stmt) (j : ℕ) (g : Assigned i a j) → g.at ≡ l.end
      same_left a j g = (unique_lval ts i g.left g.at l.tree l.end g.reads rl.reads).1

      pub no_sign : (IsSign ts l.end (codes "<=") → ⊥) → (IsSign ts l.end (codes "=") → ⊥) → (a : Stmt) (j : ℕ) → ReadsStmt ts i a j → ⊥
      no_sign below equals a j q = let g = assigned_parts i other a j q in by g (same_left a j g) g.sign
        where
          by : (g : Assigned i a j) → g.at ≡ l.end → IsSign ts g.at (codes "=") ⊎ IsSign ts g.at (codes "<=") → ⊥
          by g same (inl h) = equals (subst (λ z. IsSign ts z (codes "=")) same h)
          by g same (inr h) = below (subst (λ z. IsSign ts z (codes "<=")) same h)

      pub right_refuses : (fault : ReadFault) → Refusal height (ReadsValue ts (l.end + 1)) ts (l.end + 1) (depth - 1) fault → RefusesStmt ts i depth fault
      right_refuses fault r =
          passes height (ReadsValue ts (l.end + 1)) stmt_height (ReadsStmt ts i) ts (l.end + 1) (depth - 1) i depth 1
          (λ a j q. let g = assigned_parts i other a j q in
          record { part = g.right; end = j; holds = subst (λ z. ReadsValue ts (z + 1) g.right j) (same_left a j g) g.value; lower = g.lower_right })
          (omega (arith, (lval_span ts i l.tree l.end rl.reads.spelt).0)) (omega arith) fault r

    module _ (l : ParsedLval) (rl : IsLval ts i (depth - 1) l) (v : Parsed) (rv : IsValue ts (l.end + 1) (depth - 1) v) where
      assigned : (sign : List ℕ) → IsSign ts l.end sign → SpellsAssigned sign ts i l.tree v.tree v.end
      assigned sign q = (l.end, rv.reads.at, rl.reads.spelt, q, rv.reads.reads.spelt, rv.reads.closes, rv.reads.end_is)

      pub nonblocking_read : IsSign ts l.end (codes "<=") → (new : ParsedStmt) → new.tree ≡ s.Nonblocking l.tree v.tree → new.end ≡ v.end → new.height ≡ max l.height v.height + 1
          → IsStmt ts i depth new
      nonblocking_read q new tree end h = record {
        reads = subst (λ a. ReadsStmt ts i a new.end) (sym tree) (subst (λ z. ReadsStmt ts i (s.Nonblocking l.tree v.tree) z) (sym end) (record { spelt = assigned (codes "<=") q; ends = λ w o. o }));
        height_is = omega (arith, h, rl.height_is, rv.height_is, ap stmt_height tree);
        low = omega (arith, h, rl.low, rv.low);
      }

      pub blocking_read : IsSign ts l.end (codes "=") → (new : ParsedStmt) → new.tree ≡ s.Blocking l.tree v.tree → new.end ≡ v.end → new.height ≡ max l.height v.height + 1
          → IsStmt ts i depth new
      blocking_read q new tree end h = record {
        reads = subst (λ a. ReadsStmt ts i a new.end) (sym tree) (subst (λ z. ReadsStmt ts i (s.Blocking l.tree v.tree) z) (sym end) (record { spelt = assigned (codes "=") q; ends = λ w o. o }));
        height_is = omega (arith, h, rl.height_is, rv.height_is, ap stmt_height tree);
        low = omega (arith, h, rl.low, rv.low);
      }

-- an expression in parentheses, and one with its semicolon
pub header_read : (ts : List Token) (i depth : ℕ) → IsSign ts (i + 1) (codes "(") → (p : Parsed) → IsRead false ts 1 (i + 2) depth p → IsSign ts p.end (codes ")") → (new : Parsed)
    → new.tree ≡ p.tree → new.height ≡ p.height → new.end ≡ p.end + 1 → IsHeader ts i depth new
header_read ts i depth opens p r closes new tree h end = record {
  reads = subst (λ a. ReadsHeader ts i a new.end) (sym tree) (record { opens = opens; at = p.end; reads = r.reads; closes = closes; end_is = end });
  height_is = h ∙ (r.height_is ∙ sym (ap height tree));
  low = omega (arith, h, r.low);
}

pub value_read : (ts : List Token) (i depth : ℕ) (p : Parsed) → IsRead false ts 1 i depth p → IsSign ts p.end (codes ";") → (new : Parsed)
    → new.tree ≡ p.tree → new.height ≡ p.height → new.end ≡ p.end + 1 → IsValue ts i depth new
value_read ts i depth p r closes new tree h end = record {
  reads = subst (λ a. ReadsValue ts i a new.end) (sym tree) (record { at = p.end; reads = r.reads; closes = closes; end_is = end });
  height_is = h ∙ (r.height_is ∙ sym (ap height tree));
  low = omega (arith, h, r.low);
}
