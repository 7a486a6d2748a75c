-- Names, ranges, values and declarations: where the whole ends, and why none is there.
use Rattle.std.proofs.Common.{ℕ, ◌+◌, ◌≡◌, ◌≤◌, inr, List, Option, Some, None, Bool, true, false, refl, sym, subst, ◌∙◌, arith}
use Rattle.std.specs.Prelude.{codes}
use Rattle.vlog_tree.specs.declared.token.Token.{Token}
use Rattle.vlog_tree.specs.declared.token.Kind.TheVariants as k
use Rattle.vlog_tree.specs.declared.expr.Expr.{Expr}
use Rattle.vlog_tree.specs.declared.stmt.Lval.{Lval}
use Rattle.vlog_tree.specs.declared.item.Range.{Range}
use Rattle.vlog_tree.specs.declared.item.Shape.{Shape}
use Rattle.vlog_tree.specs.declared.item.Wire.{Wire}
use Rattle.vlog_tree.specs.declared.item.Register.{Register}
use Rattle.vlog_tree.specs.declared.item.Parameter.{Parameter}
use Rattle.vlog_tree.specs.declared.item.Assign.{Assign}
use Rattle.vlog_tree.specs.Signs.{IsSign, IsWord}
use Rattle.vlog_tree.specs.Lists.{Maybe, Flag, Comma, Separated, UpToEnd, highest, highest_of}
use Rattle.vlog_tree.specs.Spelling.{IsIdentifier, IsNamed, Spells, Reads, height}
use Rattle.vlog_tree.specs.Statements.{SpellsLval, lval_height}
use Rattle.vlog_tree.specs.Modules.{SpellsRange, SpellsShape, SpellsValue, SpellsWire, SpellsRegister, SpellsParameter, SpellsAssign, range_height, shape_height, wire_height, register_height, parameter_height, assign_height}
use Rattle.vlog_read_spelling.proofs.Tokens.{kind_within, stops_bracket, stops_colon, two_signs}
use Rattle.vlog_read_spelling.proofs.Forms.{length_of}
use Rattle.vlog_read_spelling.proofs.Reading.{unique}
use Rattle.vlog_read_lex.specs.declared.error.ReadFault.{ReadFault}
use Rattle.vlog_read_expr.specs.declared.expr.Parsed.{Parsed}
use Rattle.vlog_read_expr.specs.Answers.{IsRead, Refusal, Refuses}
use Rattle.vlog_read_expr.specs.Names.{RefusesIdentifier}
use Rattle.vlog_read_expr.proofs.Steps.{passes}
use Rattle.vlog_read_stmt.specs.declared.lval.ParsedLval.{ParsedLval}
use Rattle.vlog_read_stmt.specs.Answers.{ReadsLval, IsLval, RefusesLval}
use Rattle.vlog_read_stmt.proofs.Passing.{lacking, lacks_refuses, tree_at}
use Rattle.vlog_read_stmt.proofs.LvalSteps.{unique_lval, lval_span}
use Rattle.vlog_read.specs.declared.part.Found.{Found}
use Rattle.vlog_read.specs.declared.declaration.Declared.{Declared}
use Rattle.vlog_read.specs.Declarations.{declared_height, ReadsDeclared}
use Rattle.vlog_read.specs.Answers.{IsFound, Before, Closes, Follows, NoSign, Plain}
use Rattle.vlog_read.proofs.ListSteps.{stops_follow, follow_within, follow_no_open, follow_no_value}

-- where each Q has a name at a place, no name there is no Q
pub named_refuses : {A : Type 0} (h : A → ℕ) (Q : A → ℕ → Type 0) (ts : List Token) (i depth at : ℕ) → ((x : A) (j : ℕ) → Q x j → (n : List ℕ) × (m : ℕ) × IsIdentifier false ts at n)
    → (fault : ReadFault) → RefusesIdentifier false ts at fault → Refusal h Q ts i depth fault
named_refuses h Q ts i depth at has fault r = lacks_refuses h Q ts i depth fault (lacking (λ w j. IsIdentifier false ts at w) Q has fault r)

module _ (ts : List Token) where
  pub follow_tree : (i : ℕ) (a : Expr) (j : ℕ) → Before (Spells false ts) (Follows ts) i a j → Reads false ts 1 i a j
  follow_tree i a j q = tree_at ts i a j q.0 (stops_follow ts j q.1)

  pub text_refuses : (i depth : ℕ) (fault : ReadFault) → RefusesIdentifier false ts i fault → Refusal (λ (x : List ℕ). 0) (Before (IsNamed false ts) (Follows ts) i) ts i depth fault
  text_refuses i depth = named_refuses (λ (x : List ℕ). 0) (Before (IsNamed false ts) (Follows ts) i) ts i depth i (λ x j q. (x, j, q.0.0))

  -- expressions and left sides
  pub expr_only : (i depth : ℕ) (p : Parsed) → IsRead false ts 1 i depth p → (b : Expr) (k : ℕ) → Before (Spells false ts) (Follows ts) i b k → k ≡ p.end
  expr_only i depth p r b k q = (unique false ts 1 i b k p.tree p.end (follow_tree i b k q) r.reads).1

  pub expr_refuses : (i depth : ℕ) (fault : ReadFault) → Refuses false ts 1 i depth fault → Refusal height (Before (Spells false ts) (Follows ts) i) ts i depth fault
  expr_refuses i depth fault r =
      passes height (Reads false ts 1 i) height (Before (Spells false ts) (Follows ts) i) ts i depth i depth 0
      (λ b k q. record { part = b; end = k; holds = follow_tree i b k q; lower = omega arith }) (omega arith) (omega arith) fault r

  follow_lval : (i : ℕ) (a : Lval) (j : ℕ) → Before (SpellsLval ts) (Follows ts) i a j → ReadsLval ts i a j
  follow_lval i a j q = record { spelt = q.0; alone = follow_no_open ts j q.1; more = follow_within ts j q.1 }

  pub lval_only : (i depth : ℕ) (p : ParsedLval) → IsLval ts i depth p → (b : Lval) (k : ℕ) → Before (SpellsLval ts) (Follows ts) i b k → k ≡ p.end
  lval_only i depth p r b k q = (unique_lval ts i b k p.tree p.end (follow_lval i b k q) r.reads).1

  pub lval_refuses : (i depth : ℕ) (fault : ReadFault) → RefusesLval ts i depth fault → Refusal lval_height (Before (SpellsLval ts) (Follows ts) i) ts i depth fault
  lval_refuses i depth fault r =
      passes lval_height (ReadsLval ts i) lval_height (Before (SpellsLval ts) (Follows ts) i) ts (i + 1) depth i depth 0
      (λ b k q. record { part = b; end = k; holds = follow_lval i b k q; lower = omega arith }) (omega arith) (omega arith) fault r

  -- ranges
  range_high : (i : ℕ) (x : Range) (j : ℕ) (q : SpellsRange ts i x j) → Reads false ts 1 (i + 1) x.high q.0
  range_high i x j q = tree_at ts (i + 1) x.high q.0 q.3 (stops_colon false ts q.0 q.4)

  range_low : (i : ℕ) (x : Range) (j : ℕ) (q : SpellsRange ts i x j) → Reads false ts 1 (q.0 + 1) x.low q.1
  range_low i x j q = tree_at ts (q.0 + 1) x.low q.1 q.5 (stops_bracket false ts q.1 q.6)

  module _ (i depth : ℕ) where
    pub high_refuses : (fault : ReadFault) → Refuses false ts 1 (i + 1) depth fault → Refusal range_height (SpellsRange ts i) ts i depth fault
    high_refuses fault r =
        passes height (Reads false ts 1 (i + 1)) range_height (SpellsRange ts i) ts (i + 1) depth i depth 0
        (λ x j q. record { part = x.high; end = q.0; holds = range_high i x j q; lower = omega arith }) (omega arith) (omega arith) fault r

    module _ (p : Parsed) (r : IsRead false ts 1 (i + 1) depth p) where
      same_high : (x : Range) (j : ℕ) (q : SpellsRange ts i x j) → q.0 ≡ p.end
      same_high x j q = (unique false ts 1 (i + 1) x.high q.0 p.tree p.end (range_high i x j q) r.reads).1

      pub range_no_colon : (IsSign ts p.end (codes ":") → ⊥) → (x : Range) (j : ℕ) → SpellsRange ts i x j → ⊥
      range_no_colon h x j q = h (subst (λ z. IsSign ts z (codes ":")) (same_high x j q) q.4)

      pub low_refuses : (fault : ReadFault) → Refuses false ts 1 (p.end + 1) depth fault → Refusal range_height (SpellsRange ts i) ts i depth fault
      low_refuses fault u =
          passes height (Reads false ts 1 (p.end + 1)) range_height (SpellsRange ts i) ts (p.end + 1) depth i depth 0
          (λ x j q. record { part = x.low; end = q.1; holds = subst (λ z. Reads false ts 1 (z + 1) x.low q.1) (same_high x j q) (range_low i x j q); lower = omega arith })
          (omega (arith, length_of false ts (i + 1) p.tree p.end r.reads.spelt)) (omega arith) fault u

      module _ (o : Parsed) (ro : IsRead false ts 1 (p.end + 1) depth o) where
        same_low : (x : Range) (j : ℕ) (q : SpellsRange ts i x j) → q.1 ≡ o.end
        same_low x j q =
            (unique false ts 1 (p.end + 1) x.low q.1 o.tree o.end (subst (λ z. Reads false ts 1 (z + 1) x.low q.1) (same_high x j q) (range_low i x j q)) ro.reads).1

        pub range_open : (IsSign ts o.end (codes "]") → ⊥) → (x : Range) (j : ℕ) → SpellsRange ts i x j → ⊥
        range_open h x j q = h (subst (λ z. IsSign ts z (codes "]")) (same_low x j q) q.6)

        pub range_only : (x : Range) (j : ℕ) → SpellsRange ts i x j → j ≡ o.end + 1
        range_only x j q = omega (arith, q.7, same_low x j q)

  -- a range or none
  pub no_range_only : (i : ℕ) → NoSign (codes "[") ts i → (x : Option Range) (j : ℕ) → Before (Maybe (SpellsRange ts)) (NoSign (codes "[") ts) i x j → j ≡ i
  no_range_only i h None j q = sym q.0
  no_range_only i h (Some x) j q = absurd (h q.0.2)

  pub some_range : (i : ℕ) → IsSign ts i (codes "[") → (x : Option Range) (j : ℕ) → Before (Maybe (SpellsRange ts)) (NoSign (codes "[") ts) i x j
      → (y : Range) × SpellsRange ts i y j × (range_height y ≤ highest_of range_height x)
  some_range i here None j q = absurd (q.1 (subst (λ z. IsSign ts z (codes "[")) q.0 here))
  some_range i here (Some x) j q = (x, q.0, omega arith)

  pub some_range_refuses : (i depth : ℕ) → IsSign ts i (codes "[") → (fault : ReadFault) → Refusal range_height (SpellsRange ts i) ts i depth fault
      → Refusal (highest_of range_height) (Before (Maybe (SpellsRange ts)) (NoSign (codes "[") ts) i) ts i depth fault
  some_range_refuses i depth here fault r =
      passes range_height (SpellsRange ts i) (highest_of range_height) (Before (Maybe (SpellsRange ts)) (NoSign (codes "[") ts) i) ts i depth i depth 0
      (λ x j q. let o = some_range i here x j q in record { part = o.0; end = j; holds = o.1; lower = omega (arith, o.2) }) (omega arith) (omega arith) fault r

  -- sign and range: what stands after the word `signed`, or where it does not stand
  abbrev pub ReadsRange : ℕ → Option Range → ℕ → Type 0
  ReadsRange = Before (Maybe (SpellsRange ts)) (NoSign (codes "[") ts)

  word_no_bracket : (i : ℕ) (w : List ℕ) → IsWord ts i w → IsSign ts i (codes "[") → ⊥
  word_no_bracket i w p h = cc

  pub plain_range : (i : ℕ) → (IsWord ts i (codes "signed") → ⊥) → (x : Shape) (j : ℕ) → Before (SpellsShape ts) (Plain ts) i x j → ReadsRange i x.range j
  plain_range i h x j q = by x.signed q.0.1
    where
      by : (s : Bool) → Flag ts (codes "signed") i s q.0.0 → ReadsRange i x.range j
      by true f = absurd (h f.0)
      by false f = (subst (λ z. Maybe (SpellsRange ts) z x.range j) (sym f) q.0.2, q.1.no_open)

  pub signed_range : (i : ℕ) → IsWord ts i (codes "signed") → (x : Shape) (j : ℕ) → Before (SpellsShape ts) (Plain ts) i x j → ReadsRange (i + 1) x.range j
  signed_range i here x j q = by x.signed q.0.1
    where
      none : (r : Option Range) → i ≡ q.0.0 → Maybe (SpellsRange ts) q.0.0 r j → ⊥
      none None e u = q.1.no_signed (subst (λ z. IsWord ts z (codes "signed")) (e ∙ u) here)
      none (Some r) e u = word_no_bracket i (codes "signed") here (subst (λ z. IsSign ts z (codes "[")) (sym e) u.2)

      by : (s : Bool) → Flag ts (codes "signed") i s q.0.0 → ReadsRange (i + 1) x.range j
      by true f = (subst (λ z. Maybe (SpellsRange ts) z x.range j) f.1 q.0.2, q.1.no_open)
      by false f = absurd (none x.range f q.0.2)

  pub plain_refuses : (i depth : ℕ) → (IsWord ts i (codes "signed") → ⊥) → (fault : ReadFault) → Refusal (highest_of range_height) (ReadsRange i) ts i depth fault
      → Refusal shape_height (Before (SpellsShape ts) (Plain ts) i) ts i depth fault
  plain_refuses i depth h fault r =
      passes (highest_of range_height) (ReadsRange i) shape_height (Before (SpellsShape ts) (Plain ts) i) ts i depth i depth 0
      (λ x j q. record { part = x.range; end = j; holds = plain_range i h x j q; lower = omega arith }) (omega arith) (omega arith) fault r

  pub signed_refuses : (i depth : ℕ) → IsWord ts i (codes "signed") → (fault : ReadFault) → Refusal (highest_of range_height) (ReadsRange (i + 1)) ts (i + 1) depth fault
      → Refusal shape_height (Before (SpellsShape ts) (Plain ts) i) ts i depth fault
  signed_refuses i depth here fault r =
      passes (highest_of range_height) (ReadsRange (i + 1)) shape_height (Before (SpellsShape ts) (Plain ts) i) ts (i + 1) depth i depth 0
      (λ x j q. record { part = x.range; end = j; holds = signed_range i here x j q; lower = omega arith }) (omega arith) (omega arith) fault r

  -- values
  abbrev pub ReadsValue : ℕ → Expr → ℕ → Type 0
  ReadsValue = Before (SpellsValue ts) (Follows ts)

  abbrev pub MayRead : ℕ → Option Expr → ℕ → Type 0
  MayRead = Before (Maybe (SpellsValue ts)) (Follows ts)

  pub value_missing : (i : ℕ) → (IsSign ts i (codes "=") → ⊥) → (x : Expr) (j : ℕ) → ReadsValue i x j → ⊥
  value_missing i h x j q = h q.0.0

  pub value_refuses : (i depth : ℕ) (fault : ReadFault) → Refuses false ts 1 (i + 1) depth fault → Refusal height (ReadsValue i) ts i depth fault
  value_refuses i depth fault r =
      passes height (Reads false ts 1 (i + 1)) height (ReadsValue i) ts (i + 1) depth i depth 0
      (λ x j q. record { part = x; end = j; holds = follow_tree (i + 1) x j (q.0.1, q.1); lower = omega arith }) (omega arith) (omega arith) fault r

  pub value_only : (i depth : ℕ) (p : Parsed) → IsRead false ts 1 (i + 1) depth p → (x : Expr) (j : ℕ) → ReadsValue i x j → j ≡ p.end
  value_only i depth p r x j q = expr_only (i + 1) depth p r x j (q.0.1, q.1)

  pub no_value_only : (i : ℕ) → (IsSign ts i (codes "=") → ⊥) → (x : Option Expr) (j : ℕ) → MayRead i x j → j ≡ i
  no_value_only i h None j q = sym q.0
  no_value_only i h (Some x) j q = absurd (h q.0.0)

  pub some_value : (i : ℕ) → IsSign ts i (codes "=") → (x : Option Expr) (j : ℕ) → MayRead i x j → (y : Expr) × ReadsValue i y j × (height y ≤ highest_of height x)
  some_value i here None j q = absurd (follow_no_value ts j q.1 (subst (λ z. IsSign ts z (codes "=")) q.0 here))
  some_value i here (Some x) j q = (x, (q.0, q.1), omega arith)

  pub some_value_refuses : (i depth : ℕ) → IsSign ts i (codes "=") → (fault : ReadFault) → Refusal height (ReadsValue i) ts i depth fault → Refusal (highest_of height) (MayRead i) ts i depth fault
  some_value_refuses i depth here fault r =
      passes height (ReadsValue i) (highest_of height) (MayRead i) ts i depth i depth 0
      (λ x j q. let o = some_value i here x j q in record { part = o.0; end = j; holds = o.1; lower = omega (arith, o.2) }) (omega arith) (omega arith) fault r

  -- wires, registers, parameters
  abbrev pub ReadsWire : ℕ → Wire → ℕ → Type 0
  ReadsWire = Before (SpellsWire ts) (Follows ts)

  abbrev pub ReadsRegister : ℕ → Register → ℕ → Type 0
  ReadsRegister = Before (SpellsRegister ts) (Follows ts)

  abbrev pub ReadsParameter : ℕ → Parameter → ℕ → Type 0
  ReadsParameter = Before (SpellsParameter ts) (Follows ts)

  abbrev pub ReadsAssign : ℕ → Assign → ℕ → Type 0
  ReadsAssign = Before (SpellsAssign ts) (Follows ts)

  module _ (i depth : ℕ) where
    pub wire_name : (fault : ReadFault) → RefusesIdentifier false ts i fault → Refusal wire_height (ReadsWire i) ts i depth fault
    wire_name = named_refuses wire_height (ReadsWire i) ts i depth i (λ x j q. (x.name, j, q.0.0))

    pub wire_refuses : (fault : ReadFault) → Refusal (highest_of height) (MayRead (i + 1)) ts (i + 1) depth fault → Refusal wire_height (ReadsWire i) ts i depth fault
    wire_refuses fault r =
        passes (highest_of height) (MayRead (i + 1)) wire_height (ReadsWire i) ts (i + 1) depth i depth 0
        (λ x j q. record { part = x.value; end = j; holds = (q.0.1, q.1); lower = omega arith }) (omega arith) (omega arith) fault r

    pub register_name : (fault : ReadFault) → RefusesIdentifier false ts i fault → Refusal register_height (ReadsRegister i) ts i depth fault
    register_name = named_refuses register_height (ReadsRegister i) ts i depth i (λ x j q. (x.name, j, q.0.0))

    pub register_refuses : (fault : ReadFault) → Refusal (highest_of range_height) (ReadsRange (i + 1)) ts (i + 1) depth fault → Refusal register_height (ReadsRegister i) ts i depth fault
    register_refuses fault r =
        passes (highest_of range_height) (ReadsRange (i + 1)) register_height (ReadsRegister i) ts (i + 1) depth i depth 0
        (λ x j q. record { part = x.words; end = j; holds = (q.0.1, follow_no_open ts j q.1); lower = omega arith }) (omega arith) (omega arith) fault r

    pub parameter_name : (fault : ReadFault) → RefusesIdentifier false ts i fault → Refusal parameter_height (ReadsParameter i) ts i depth fault
    parameter_name = named_refuses parameter_height (ReadsParameter i) ts i depth i (λ x j q. (x.name, j, q.0.0))

    pub parameter_refuses : (fault : ReadFault) → Refusal height (ReadsValue (i + 1)) ts (i + 1) depth fault → Refusal parameter_height (ReadsParameter i) ts i depth fault
    parameter_refuses fault r =
        passes height (ReadsValue (i + 1)) parameter_height (ReadsParameter i) ts (i + 1) depth i depth 0
        (λ x j q. record { part = x.value; end = j; holds = (q.0.1, q.1); lower = omega arith }) (omega arith) (omega arith) fault r

    -- an assignment
    assign_left : (x : Assign) (j : ℕ) (q : ReadsAssign i x j) → ReadsLval ts i x.left q.0.0
    assign_left x j q = record {
      spelt = q.0.1;
      alone = λ s. two_signs ts q.0.0 (codes "=") (codes "[") refl q.0.2.0 s;
      more = kind_within ts q.0.0 (k.Sign (codes "=")) q.0.2.0;
    }

    pub left_refuses : (fault : ReadFault) → RefusesLval ts i depth fault → Refusal assign_height (ReadsAssign i) ts i depth fault
    left_refuses fault r =
        passes lval_height (ReadsLval ts i) assign_height (ReadsAssign i) ts (i + 1) depth i depth 0
        (λ x j q. record { part = x.left; end = q.0.0; holds = assign_left x j q; lower = omega arith }) (omega arith) (omega arith) fault r

    module _ (l : ParsedLval) (rl : IsLval ts i depth l) where
      pub assign_value : (x : Assign) (j : ℕ) → ReadsAssign i x j → ReadsValue l.end x.right j
      assign_value x j q = (subst (λ z. SpellsValue ts z x.right j) (unique_lval ts i x.left q.0.0 l.tree l.end (assign_left x j q) rl.reads).1 q.0.2, q.1)

      pub right_refuses : (fault : ReadFault) → Refusal height (ReadsValue l.end) ts l.end depth fault → Refusal assign_height (ReadsAssign i) ts i depth fault
      right_refuses fault r =
          passes height (ReadsValue l.end) assign_height (ReadsAssign i) ts l.end depth i depth 0
          (λ x j q. record { part = x.right; end = j; holds = assign_value x j q; lower = omega arith })
          (omega (arith, (lval_span ts i l.tree l.end rl.reads.spelt).0)) (omega arith) fault r

-- a list and its semicolon, and what stands after the word of a declaration
module _ {A : Type 0} (ts : List Token) (h : A → ℕ) (P : ℕ → A → ℕ → Type 0) (i depth : ℕ) where
  abbrev pub ReadsList : ℕ → List A → ℕ → Type 0
  ReadsList = Before (Separated (Comma ts) P) (Closes ts)

  pub end_refuses : (fault : ReadFault) → Refusal (highest h) (ReadsList i) ts i depth fault → Refusal (highest h) (UpToEnd ts P i) ts i depth fault
  end_refuses fault r =
      passes (highest h) (ReadsList i) (highest h) (UpToEnd ts P i) ts i depth i depth 0
      (λ xs j q. record { part = xs; end = q.0; holds = (q.1, inr q.2); lower = omega arith }) (omega arith) (omega arith) fault r

  pub end_open : (p : Found (List A)) → IsFound ts (highest h) (Separated (Comma ts) P) ReadsList i depth p → (IsSign ts p.end (codes ";") → ⊥) → (xs : List A) (j : ℕ) → UpToEnd ts P i xs j → ⊥
  end_open p f open_ xs j q = open_ (subst (λ z. IsSign ts z (codes ";")) (f.only xs q.0 (q.1, inr q.2)) q.2)

  pub end_only : (p : Found (List A)) → IsFound ts (highest h) (Separated (Comma ts) P) ReadsList i depth p → (xs : List A) (j : ℕ) → UpToEnd ts P i xs j → j ≡ p.end + 1
  end_only p f xs j q = omega (arith, q.3, f.only xs q.0 (q.1, inr q.2))

  pub shape_refuses : (fault : ReadFault) → Refusal shape_height (Before (SpellsShape ts) (Plain ts) i) ts i depth fault → Refusal (declared_height h) (ReadsDeclared ts P i) ts i depth fault
  shape_refuses fault r =
      passes shape_height (Before (SpellsShape ts) (Plain ts) i) (declared_height h) (ReadsDeclared ts P i) ts i depth i depth 0
      (λ x j q. record { part = x.shape; end = q.0; holds = (q.1, q.3); lower = omega arith }) (omega arith) (omega arith) fault r

  module _ (p : Found Shape) (f : IsFound ts shape_height (SpellsShape ts) (Before (SpellsShape ts) (Plain ts)) i depth p) where
    pub declared_items : (x : Declared A) (j : ℕ) → ReadsDeclared ts P i x j → UpToEnd ts P p.end x.items j
    declared_items x j q = subst (λ z. UpToEnd ts P z x.items j) (f.only x.shape q.0 (q.1, q.3)) q.2

    pub items_refuse : (fault : ReadFault) → Refusal (highest h) (UpToEnd ts P p.end) ts p.end depth fault → Refusal (declared_height h) (ReadsDeclared ts P i) ts i depth fault
    items_refuse fault r =
        passes (highest h) (UpToEnd ts P p.end) (declared_height h) (ReadsDeclared ts P i) ts p.end depth i depth 0
        (λ x j q. record { part = x.items; end = j; holds = declared_items x j q; lower = omega arith }) (omega (arith, f.past)) (omega arith) fault r
