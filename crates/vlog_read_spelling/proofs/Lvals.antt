-- Left sides and lists of events: at one place stands at most one of each.
use Rattle.std.proofs.Common.{ℕ, ◌+◌, ◌≡◌, ◌<◌, ◌≤◌, ◌⊎◌, inl, inr, List, [], ◌∷◌, Option, Some, None, Bool, true, false, refl, sym, ap, subst, ◌∙◌, arith}
use Rattle.std.specs.Prelude.{codes}
use Rattle.vlog_tree.specs.declared.token.Token.{Token}
use Rattle.vlog_tree.specs.declared.expr.Expr.{Expr}
use Rattle.vlog_tree.specs.declared.expr.Span.{Span}
use Rattle.vlog_tree.specs.Signs.{kind_at, IsSign, IsWord, span_at, is_reserved, is_keyword}
use Rattle.vlog_tree.specs.Spelling.{IsIdentifier, IsNamed, Spells}
use Rattle.vlog_read_spelling.proofs.Tokens.{stops_bracket, stops_span, no_span, two_signs, two_words}
use Rattle.vlog_read_spelling.proofs.Names.{one_identifier, one_named}
use Rattle.vlog_tree.specs.Lists.{More, Separated, Comma, InParens}
use Rattle.vlog_tree.specs.Statements.{SpellsLval, SpellsLvals, SpellsMoreLvals, SpellsEdge, edge_word, OrComma, SpellsEvents}
use Rattle.vlog_tree.specs.declared.stmt.Edge.{Edge}
use Rattle.vlog_tree.specs.declared.stmt.Events.{Events}
use Rattle.vlog_tree.specs.declared.stmt.Events.TheVariants as v
use Rattle.vlog_tree.specs.declared.stmt.Lval.{Lval, Row_of-Lval, end_of-Lval, more_of-Lval, roll-Lval, out-Lval, roll-out-Lval, items-the_row-Lval, items_shown-the_row-Lval-0}
use Rattle.vlog_tree.specs.declared.stmt.Lval.TheVariants as l
use Rattle.vlog_tree.specs.declared.stmt.Lval.TheBlock.{shown-the_row-Lval-0}
use Rattle.vlog_read_spelling.proofs.Lists.{one_separated}
use Rattle.vlog_read_spelling.proofs.Parts.{one_expr}

abbrev pub NoBracket : List Token → ℕ → Type 0
NoBracket ts j = IsSign ts j (codes "[") → ⊥

abbrev pub list_of : {m : _} → Row_of-Lval m → List Lval
list_of end_of-Lval = []
list_of (more_of-Lval a rest) = a ∷ list_of rest

pub listed : (m : _) (row : Row_of-Lval m) → items-the_row-Lval m row ≡ list_of row
listed m end_of-Lval = refl
listed m (more_of-Lval a rest) = ap (λ xs. a ∷ xs) (listed _ rest)

pub concat_is : (q : _) (row : _) → l.Concat' q row ≡ l.Concat (list_of row)
concat_is q row =
    (sym (roll-out-Lval (l.Concat' q row)) ∙ (ap roll-Lval (l.outs-Concat' q row) ∙ l.rolls-Concat (shown-the_row-Lval-0 q row)))
    ∙ ap l.Concat (items_shown-the_row-Lval-0 q row ∙ listed _ row)

module _ (ts : List Token) where
  -- the rows as lists
  as_more : {m : _} (row : Row_of-Lval m) (i j : ℕ) → SpellsMoreLvals ts i row j → More (Comma ts) (SpellsLval ts) i (list_of row) j
  as_more end_of-Lval i j p = p
  as_more (more_of-Lval a rest) i j p = (p.0, p.1, p.2, as_more rest p.0 j p.3)

  as_list : {m : _} (row : Row_of-Lval m) (i j : ℕ) → SpellsLvals ts i row j → Separated (Comma ts) (SpellsLval ts) i (list_of row) j
  as_list end_of-Lval i j p = p
  as_list (more_of-Lval a rest) i j p = (p.0, p.1, as_more rest p.0 j p.2)

  -- a left side by its form
  pub data Form (i : ℕ) (tree : Lval) (j : ℕ) : Type 0 where
    name : (n : List ℕ) → tree ≡ l.Name n → IsNamed false ts i n j → Form i tree j
    select : (n : List ℕ) (a : Expr) → tree ≡ l.Select n a → SpellsLval ts i (l.Select n a) j → Form i tree j
    part : (n : List ℕ) (w : Span) (a b : Expr) → tree ≡ l.Part n w a b → SpellsLval ts i (l.Part n w a b) j → Form i tree j
    concat : (xs : List Lval) (m : ℕ) → tree ≡ l.Concat xs → IsSign ts i (codes "{") → Separated (Comma ts) (SpellsLval ts) (i + 1) xs m → IsSign ts m (codes "}") → j ≡ m + 1 → Form i tree j

  pub form : (i : ℕ) (a : Lval) (j : ℕ) → SpellsLval ts i a j → Form i a j
  form i (l.Name n) j p = name n refl p
  form i (l.Select n a) j p = select n a refl p
  form i (l.Part n w a b) j p = part n w a b refl p
  form i (l.Concat' q row) j p = concat (list_of row) p.0 (concat_is q row) p.1 (as_list row (i + 1) p.0 p.2) p.3 p.4

  pub no_brace : (i : ℕ) (n : List ℕ) → IsIdentifier false ts i n → IsSign ts i (codes "{") → ⊥
  no_brace i n p h = let q = p.stands in cc

  abbrev pub One : Lval → Type 0
  One a = (i j : ℕ) (b : Lval) (k : ℕ) → SpellsLval ts i a j → NoBracket ts j → SpellsLval ts i b k → NoBracket ts k → (a ≡ b) × (j ≡ k)

  name_one : (n : List ℕ) (i j : ℕ) (b : Lval) (k : ℕ) → IsNamed false ts i n j → NoBracket ts j → Form i b k → (l.Name n ≡ b) × (j ≡ k)
  name_one n i j b k p u (name m is q) = (ap l.Name (one_identifier false ts i n m p.0 q.0) ∙ sym is, p.1 ∙ sym q.1)
  name_one n i j b k p u (select m x is q) = absurd (u (subst (λ z. IsSign ts z (codes "[")) (sym p.1) q.2))
  name_one n i j b k p u (part m w x y is q) = absurd (u (subst (λ z. IsSign ts z (codes "[")) (sym p.1) q.3))
  name_one n i j b k p u (concat xs m is h q c e) = absurd (no_brace i n p.0 h)

  select_one : (n : List ℕ) (a : Expr) (i j : ℕ) (b : Lval) (k : ℕ) → SpellsLval ts i (l.Select n a) j → Form i b k → NoBracket ts k → (l.Select n a ≡ b) × (j ≡ k)
  select_one n a i j b k p (name m is q) v = absurd (v (subst (λ z. IsSign ts z (codes "[")) (sym q.1) p.2))
  select_one n a i j b k p (select m x is q) v =
      let e : (a ≡ x) × (p.0 ≡ q.0) = one_expr ts (i + 2) a p.0 x q.0 p.3 (stops_bracket false ts p.0 p.4) q.3 (stops_bracket false ts q.0 q.4) in
      let t : n ≡ m = one_identifier false ts i n m p.1 q.1 in
      ((λ r. l.Select (t r) (e.0 r)) ∙ sym is, omega (arith, p.5, q.5, e.1))
  select_one n a i j b k p (part m w x y is q) v =
      let e : (a ≡ x) × (p.0 ≡ q.0) = one_expr ts (i + 2) a p.0 x q.0 p.3 (stops_bracket false ts p.0 p.4) q.4 (stops_span false ts q.0 w q.5) in
      absurd (no_span ts q.0 w q.5 (subst (λ z. IsSign ts z (codes "]")) e.1 p.4))
  select_one n a i j b k p (concat xs m is h q c e) v = absurd (no_brace i n p.1 h)

  part_one : (n : List ℕ) (w : Span) (a a' : Expr) (i j : ℕ) (b : Lval) (k : ℕ) → SpellsLval ts i (l.Part n w a a') j → Form i b k → NoBracket ts k → (l.Part n w a a' ≡ b) × (j ≡ k)
  part_one n w a a' i j b k p (name m is q) v = absurd (v (subst (λ z. IsSign ts z (codes "[")) (sym q.1) p.3))
  part_one n w a a' i j b k p (select m x is q) v =
      let e : (a ≡ x) × (p.0 ≡ q.0) = one_expr ts (i + 2) a p.0 x q.0 p.4 (stops_span false ts p.0 w p.5) q.3 (stops_bracket false ts q.0 q.4) in
      absurd (no_span ts p.0 w p.5 (subst (λ z. IsSign ts z (codes "]")) (sym e.1) q.4))
  part_one n w a a' i j b k p (part m w' x y is q) v =
      let e : (a ≡ x) × (p.0 ≡ q.0) = one_expr ts (i + 2) a p.0 x q.0 p.4 (stops_span false ts p.0 w p.5) q.4 (stops_span false ts q.0 w' q.5) in
      let g : (a' ≡ y) × (p.1 ≡ q.1) =
      one_expr ts (p.0 + 1) a' p.1 y q.1 p.6 (stops_bracket false ts p.1 p.7) (subst (λ z. Spells false ts (z + 1) y q.1) (sym e.1) q.6) (stops_bracket false ts q.1 q.7) in
      let t : n ≡ m = one_identifier false ts i n m p.2 q.2 in
      let sign : span_at ts q.0 ≡ Some w = ap (span_at ts) (sym e.1) ∙ p.5 in
      let s : w ≡ w' = let o = q.5 in cc in
      ((λ r. l.Part (t r) (s r) (e.0 r) (g.0 r)) ∙ sym is, omega (arith, p.8, q.8, g.1))
  part_one n w a a' i j b k p (concat xs m is h q c e) v = absurd (no_brace i n p.2 h)

  -- what follows a part of a concatenation
  after : {m : _} (row : Row_of-Lval m) (i j : ℕ) → SpellsMoreLvals ts i row j → IsSign ts j (codes "}") → NoBracket ts i
  after end_of-Lval i j p c h = two_signs ts i (codes "}") (codes "[") refl (subst (λ z. IsSign ts z (codes "}")) (sym p) c) h
  after (more_of-Lval a rest) i j p c h = two_signs ts i (codes ",") (codes "[") refl p.1 h

  after_list : (xs : List Lval) (i j : ℕ) → More (Comma ts) (SpellsLval ts) i xs j → IsSign ts j (codes "}") → NoBracket ts i
  after_list [] i j p c h = two_signs ts i (codes "}") (codes "[") refl (subst (λ z. IsSign ts z (codes "}")) (sym p) c) h
  after_list (x ∷ xs) i j p c h = two_signs ts i (codes ",") (codes "[") refl p.1 h

  -- the recursion stays outside: `same` compares the two lists
  concat_one : (s : _) (row : _) (i j : ℕ) (b : Lval) (k : ℕ) → (p : SpellsLval ts i (l.Concat' s row) j)
      → ((xs : List Lval) (m : ℕ) → Separated (Comma ts) (SpellsLval ts) (i + 1) xs m → IsSign ts m (codes "}") → (list_of row ≡ xs) × (p.0 ≡ m))
      → Form i b k → (l.Concat' s row ≡ b) × (j ≡ k)
  concat_one s row i j b k p same (name n is q) = absurd (no_brace i n q.0 p.1)
  concat_one s row i j b k p same (select n x is q) = absurd (no_brace i n q.1 p.1)
  concat_one s row i j b k p same (part n w x y is q) = absurd (no_brace i n q.2 p.1)
  concat_one s row i j b k p same (concat xs m is h q c e) =
      let r = same xs m q c in (concat_is s row ∙ (ap l.Concat r.0 ∙ sym is), omega (arith, p.4, e, r.1))

  mutual
    pub one_lval : (a : Lval) → One a
    one_lval (l.Name n) i j b k p u q v = name_one n i j b k p u (form i b k q)
    one_lval (l.Select n a) i j b k p u q v = select_one n a i j b k p (form i b k q) v
    one_lval (l.Part n w a a') i j b k p u q v = part_one n w a a' i j b k p (form i b k q) v
    one_lval (l.Concat' s row) i j b k p u q v =
        concat_one s row i j b k p (λ xs m d c. one_lvals row (i + 1) p.0 xs m p.2 p.3 d c) (form i b k q)

    pub one_lvals : {m : _} (row : Row_of-Lval m) (i j : ℕ) (ys : List Lval) (k : ℕ) → SpellsLvals ts i row j → IsSign ts j (codes "}")
        → Separated (Comma ts) (SpellsLval ts) i ys k → IsSign ts k (codes "}") → (list_of row ≡ ys) × (j ≡ k)
    one_lvals end_of-Lval i j ys k p c q d = absurd p
    one_lvals (more_of-Lval a rest) i j [] k p c q d = absurd q
    one_lvals (more_of-Lval a rest) i j (y ∷ ys) k p c q d =
        let e : (a ≡ y) × (p.0 ≡ q.0) = one_lval a i p.0 y q.0 p.1 (after rest p.0 j p.2 c) q.1 (after_list ys q.0 k q.2 d) in
        let r : (list_of rest ≡ ys) × (j ≡ k) = one_more rest p.0 j ys k p.2 c (subst (λ z. More (Comma ts) (SpellsLval ts) z ys k) (sym e.1) q.2) d in
        ((λ z. e.0 z ∷ r.0 z), r.1)

    pub one_more : {m : _} (row : Row_of-Lval m) (i j : ℕ) (ys : List Lval) (k : ℕ) → SpellsMoreLvals ts i row j → IsSign ts j (codes "}")
        → More (Comma ts) (SpellsLval ts) i ys k → IsSign ts k (codes "}") → (list_of row ≡ ys) × (j ≡ k)
    one_more end_of-Lval i j [] k p c q d = (refl, sym p ∙ q)
    one_more end_of-Lval i j (y ∷ ys) k p c q d = absurd (two_signs ts i (codes ",") (codes "}") refl q.1 (subst (λ z. IsSign ts z (codes "}")) (sym p) c))
    one_more (more_of-Lval a rest) i j [] k p c q d = absurd (two_signs ts i (codes ",") (codes "}") refl p.1 (subst (λ z. IsSign ts z (codes "}")) (sym q) d))
    one_more (more_of-Lval a rest) i j (y ∷ ys) k p c q d =
        let e : (a ≡ y) × (p.0 ≡ q.0) = one_lval a (i + 1) p.0 y q.0 p.2 (after rest p.0 j p.3 c) q.2 (after_list ys q.0 k q.3 d) in
        let r : (list_of rest ≡ ys) × (j ≡ k) = one_more rest p.0 j ys k p.3 c (subst (λ z. More (Comma ts) (SpellsLval ts) z ys k) (sym e.1) q.3) d in
        ((λ z. e.0 z ∷ r.0 z), r.1)

  -- events: each is two tokens, or one
  pub one_edge : (i : ℕ) (x : Edge) (j : ℕ) (y : Edge) (k : ℕ) → SpellsEdge ts i x j → SpellsEdge ts i y k → (x ≡ y) × (j ≡ k)
  one_edge i x j y k p q =
      let n : x.name ≡ y.name = one_identifier false ts (i + 1) x.name y.name p.1 q.1 in
      let w : x.rising ≡ y.rising = by x.rising y.rising p.0 q.0 in
      ((λ z. record { rising = w z; name = n z }), p.2 ∙ sym q.2)
    where
      by : (a b : Bool) → IsWord ts i (edge_word a) → IsWord ts i (edge_word b) → a ≡ b
      by true true u v = refl
      by false false u v = refl
      by true false u v = absurd (two_words ts i (codes "posedge") (codes "negedge") refl u v)
      by false true u v = absurd (two_words ts i (codes "negedge") (codes "posedge") refl u v)

  or_no_paren : (j : ℕ) → OrComma ts j → IsSign ts j (codes ")") → ⊥
  or_no_paren j (inl p) q = cc
  or_no_paren j (inr p) q = two_signs ts j (codes ",") (codes ")") refl p q

  -- events of one kind, in parentheses
  one_parens : {A : Type 0} (P : ℕ → A → ℕ → Type 0) (one : (i : ℕ) (x : A) (j : ℕ) (y : A) (k : ℕ) → P i x j → P i y k → (x ≡ y) × (j ≡ k))
      (i : ℕ) (xs : List A) (j : ℕ) (ys : List A) (k : ℕ) → InParens ts (Separated (OrComma ts) P) i xs j → InParens ts (Separated (OrComma ts) P) i ys k → (xs ≡ ys) × (j ≡ k)
  one_parens P one i xs j ys k p q =
      let r : (xs ≡ ys) × (p.0 ≡ q.0) =
      one_separated (OrComma ts) (λ z. IsSign ts z (codes ")")) P (λ i' x j' y k' s u t v. one i' x j' y k' s t) or_no_paren xs ys (i + 1) p.0 q.0 p.2 p.3 q.2 q.3 in
      (r.0, omega (arith, p.4, q.4, r.1))

  edge_first : (xs : List Edge) (i j : ℕ) → Separated (OrComma ts) (SpellsEdge ts) i xs j → (w : Bool) × IsWord ts i (edge_word w)
  edge_first [] i j p = absurd p
  edge_first (x ∷ xs) i j p = (x.rising, p.1.0)

  name_first : (xs : List (List ℕ)) (i j : ℕ) → Separated (OrComma ts) (IsNamed false ts) i xs j → (n : List ℕ) × IsIdentifier false ts i n
  name_first [] i j p = absurd p
  name_first (x ∷ xs) i j p = (x, p.1.0)

  edge_no_name : (i : ℕ) (w : Bool) (n : List ℕ) → IsWord ts i (edge_word w) → IsIdentifier false ts i n → ⊥
  unfolding is_reserved is_keyword
  edge_no_name i true n p q = let u = q.stands in let e : n ≡ codes "posedge" = cc in let r : is_reserved false n ≡ true = ap (is_reserved false) e in let f = q.free in cc
  edge_no_name i false n p q = let u = q.stands in let e : n ≡ codes "negedge" = cc in let r : is_reserved false n ≡ true = ap (is_reserved false) e in let f = q.free in cc

  edge_no_star : (i : ℕ) (w : Bool) → IsWord ts i (edge_word w) → IsSign ts i (codes "*") → ⊥
  edge_no_star i w p q = cc

  name_no_star : (i : ℕ) (n : List ℕ) → IsIdentifier false ts i n → IsSign ts i (codes "*") → ⊥
  name_no_star i n p q = let u = p.stands in cc

  star_no_paren : (i : ℕ) → IsSign ts i (codes "*") → IsSign ts i (codes "(") → ⊥
  star_no_paren i p q = two_signs ts i (codes "*") (codes "(") refl p q

  pub one_events : (i : ℕ) (x : Events) (j : ℕ) (y : Events) (k : ℕ) → SpellsEvents ts i x j → SpellsEvents ts i y k → (x ≡ y) × (j ≡ k)
  one_events i v.All j v.All k (inl p) (inl q) = (refl, p.1 ∙ sym q.1)
  one_events i v.All j v.All k (inl p) (inr q) = absurd (star_no_paren i p.0 q.0)
  one_events i v.All j v.All k (inr p) (inl q) = absurd (star_no_paren i q.0 p.0)
  one_events i v.All j v.All k (inr p) (inr q) = (refl, p.3 ∙ sym q.3)
  one_events i v.All j (v.Edges ys) k (inl p) q = absurd (star_no_paren i p.0 q.1)
  one_events i v.All j (v.Edges ys) k (inr p) q = let e = edge_first ys (i + 1) q.0 q.2 in absurd (edge_no_star (i + 1) e.0 e.1 p.1)
  one_events i v.All j (v.Names ys) k (inl p) q = absurd (star_no_paren i p.0 q.1)
  one_events i v.All j (v.Names ys) k (inr p) q = let e = name_first ys (i + 1) q.0 q.2 in absurd (name_no_star (i + 1) e.0 e.1 p.1)
  one_events i (v.Edges xs) j v.All k p (inl q) = absurd (star_no_paren i q.0 p.1)
  one_events i (v.Edges xs) j v.All k p (inr q) = let e = edge_first xs (i + 1) p.0 p.2 in absurd (edge_no_star (i + 1) e.0 e.1 q.1)
  one_events i (v.Names xs) j v.All k p (inl q) = absurd (star_no_paren i q.0 p.1)
  one_events i (v.Names xs) j v.All k p (inr q) = let e = name_first xs (i + 1) p.0 p.2 in absurd (name_no_star (i + 1) e.0 e.1 q.1)
  one_events i (v.Edges xs) j (v.Names ys) k p q =
      let e = edge_first xs (i + 1) p.0 p.2 in let n = name_first ys (i + 1) q.0 q.2 in absurd (edge_no_name (i + 1) e.0 n.0 e.1 n.1)
  one_events i (v.Names xs) j (v.Edges ys) k p q =
      let e = edge_first ys (i + 1) q.0 q.2 in let n = name_first xs (i + 1) p.0 p.2 in absurd (edge_no_name (i + 1) e.0 n.0 e.1 n.1)
  one_events i (v.Edges xs) j (v.Edges ys) k p q = let r : (xs ≡ ys) × (j ≡ k) = one_parens (SpellsEdge ts) one_edge i xs j ys k p q in (ap v.Edges r.0, r.1)
  one_events i (v.Names xs) j (v.Names ys) k p q = let r : (xs ≡ ys) × (j ≡ k) = one_parens (IsNamed false ts) (one_named false ts) i xs j ys k p q in (ap v.Names r.0, r.1)
