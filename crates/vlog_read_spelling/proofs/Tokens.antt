-- What one token can be: the first of a tree, an operator, or the end of a part.
use Rattle.std.proofs.Common.{ℕ, ◌≡◌, ◌<◌, ◌⊎◌, inl, inr, List, Option, Some, None, Bool, true, false, if◌then◌else◌, refl, sym, ap, ◌∙◌, arith, lit<}
use Rattle.std.specs.Prelude.{codes}
use Rattle.std.specs.Str.{bytes_eq}
use Rattle.std.proofs.lemmas.Slice.Eq.{bytes_eq-Decides}
use Rattle.vlog_tree.specs.declared.token.Kind.{Kind}
use Rattle.vlog_tree.specs.declared.token.Kind.TheVariants as k
use Rattle.vlog_tree.specs.declared.token.Number.{Number}
use Rattle.vlog_tree.specs.declared.token.Token.{Token}
use Rattle.vlog_tree.specs.declared.expr.Binary.{Binary}
use Rattle.vlog_tree.specs.declared.expr.Binary.TheVariants as b
use Rattle.vlog_tree.specs.declared.expr.Unary.{Unary}
use Rattle.vlog_tree.specs.declared.expr.Cast.{Cast}
use Rattle.vlog_tree.specs.declared.expr.Span.{Span}
use Rattle.vlog_tree.specs.declared.expr.Infix.{Infix}
use Rattle.std.specs.Prelude.{slice_get, length}
use Rattle.std.specs.Option.{option_map}
use Rattle.std.proofs.lemmas.Option.{slice_get_cases, slice_get_past}
use Rattle.vlog_tree.specs.Spelling.{NoSuffix}
use Rattle.vlog_tree.specs.Signs.{kind_at, IsSign, IsWord, infix_of, infix_at, binary_level, unary_of, unary_at, on_sign, on_word, is_reserved, cast_of, span_of, span_at}

-- the ways in which a tree without an operator between its parts can begin
pub data First : Type 0 where
  number : Number → First
  word : List ℕ → First
  paren : First
  brace : First
  unary : Unary → First
  nothing : First

abbrev pub by_unary : Option Unary → First
by_unary (Some op) = unary op
by_unary None = nothing

abbrev pub first_of : Option Kind → First
first_of (Some (k.Number n)) = number n
first_of (Some (k.Word w)) = word w
first_of (Some (k.Sign s)) = if bytes_eq s (codes "(") then paren else (if bytes_eq s (codes "{") then brace else by_unary (unary_of s))
first_of (Some k.Outside) = nothing
first_of None = nothing

abbrev pub first_at : List Token → ℕ → First
first_at ts i = first_of (kind_at ts i)

module _ (ts : List Token) (i : ℕ) where
  pub first_number : (n : Number) → kind_at ts i ≡ Some (k.Number n) → first_at ts i ≡ number n
  first_number n h = ap first_of h

  pub first_word : (w : List ℕ) → IsWord ts i w → first_at ts i ≡ word w
  first_word w h = ap first_of h

  pub first_paren : IsSign ts i (codes "(") → first_at ts i ≡ paren
  first_paren h = ap first_of h

  pub first_brace : IsSign ts i (codes "{") → first_at ts i ≡ brace
  first_brace h = ap first_of h

pub infix_sign : (set : Bool) (ts : List Token) (i : ℕ) (s : List ℕ) → IsSign ts i s → infix_at set ts i ≡ infix_of set s
infix_sign set ts i s h = ap (on_sign (infix_of set)) h

-- a token that ends each expression before it
pub record Stops (set : Bool) (ts : List Token) (j : ℕ) : Type 0 where
  pub no_infix : infix_at set ts j ≡ None
  pub alone : NoSuffix ts j

sign_apart : (ts : List Token) (j : ℕ) (s t : List ℕ) → bytes_eq s t ≡ false → IsSign ts j s → IsSign ts j t → ⊥
sign_apart ts j s t apart p q = let e : s ≡ t = cc in let f : bytes_eq s t ≡ true = (bytes_eq-Decides s t).1 e in cc

pub no_suffix_by : (ts : List Token) (j : ℕ) (s : List ℕ) → bytes_eq s (codes "[") ≡ false → bytes_eq s (codes ".") ≡ false → bytes_eq s (codes "@") ≡ false → IsSign ts j s → NoSuffix ts j
no_suffix_by ts j s p q r h = record {
  no_select = sign_apart ts j s (codes "[") p h;
  no_dot = sign_apart ts j s (codes ".") q h;
  no_at = sign_apart ts j s (codes "@") r h;
}

-- a word continues nothing
pub word_stops : (set : Bool) (ts : List Token) (j : ℕ) (w : List ℕ) → IsWord ts j w → Stops set ts j
word_stops set ts j w h = record {
  no_infix = ap (on_sign (infix_of set)) h;
  alone = record { no_select = λ p. cc; no_dot = λ p. cc; no_at = λ p. cc };
}

module _ (set : Bool) (ts : List Token) (j : ℕ) where
  pub stop_by : (s : List ℕ) → infix_of set s ≡ None → bytes_eq s (codes "[") ≡ false → bytes_eq s (codes ".") ≡ false → bytes_eq s (codes "@") ≡ false → IsSign ts j s → Stops set ts j
  stop_by s none p q r h = record { no_infix = infix_sign set ts j s h ∙ none; alone = no_suffix_by ts j s p q r h }

  pub stops_paren : IsSign ts j (codes ")") → Stops set ts j
  unfolding infix_of
  stops_paren h = stop_by (codes ")") refl refl refl refl h

  pub stops_bracket : IsSign ts j (codes "]") → Stops set ts j
  unfolding infix_of
  stops_bracket h = stop_by (codes "]") refl refl refl refl h

  pub stops_brace : IsSign ts j (codes "}") → Stops set ts j
  unfolding infix_of
  stops_brace h = stop_by (codes "}") refl refl refl refl h

  pub stops_comma : IsSign ts j (codes ",") → Stops set ts j
  unfolding infix_of
  stops_comma h = stop_by (codes ",") refl refl refl refl h

  pub stops_colon : IsSign ts j (codes ":") → Stops set ts j
  unfolding infix_of
  stops_colon h = stop_by (codes ":") refl refl refl refl h

  pub stops_open_brace : IsSign ts j (codes "{") → Stops set ts j
  unfolding infix_of
  stops_open_brace h = stop_by (codes "{") refl refl refl refl h

  pub stops_semicolon : IsSign ts j (codes ";") → Stops set ts j
  unfolding infix_of
  stops_semicolon h = stop_by (codes ";") refl refl refl refl h

  pub stops_equals : IsSign ts j (codes "=") → Stops set ts j
  unfolding infix_of
  stops_equals h = stop_by (codes "=") refl refl refl refl h

  -- an operator between its operands is no bracket, dot or `@`
  pub infix_no_suffix : (op : Infix) → infix_at set ts j ≡ Some op → NoSuffix ts j
  unfolding infix_of
  infix_no_suffix op h = record {
    no_select = λ s. let e : infix_at set ts j ≡ None = infix_sign set ts j (codes "[") s in cc;
    no_dot = λ s. let e : infix_at set ts j ≡ None = infix_sign set ts j (codes ".") s in cc;
    no_at = λ s. let e : infix_at set ts j ≡ None = infix_sign set ts j (codes "@") s in cc;
  }

pub binary_low : (op : Binary) → binary_level op < 12
binary_low b.Mul = lit< tt
binary_low b.Div = lit< tt
binary_low b.Rem = lit< tt
binary_low b.Add = lit< tt
binary_low b.Sub = lit< tt
binary_low b.Shl = lit< tt
binary_low b.Shr = lit< tt
binary_low b.ArithmeticShl = lit< tt
binary_low b.ArithmeticShr = lit< tt
binary_low b.Less = lit< tt
binary_low b.LessEqual = lit< tt
binary_low b.Greater = lit< tt
binary_low b.GreaterEqual = lit< tt
binary_low b.Equal = lit< tt
binary_low b.NotEqual = lit< tt
binary_low b.BitAnd = lit< tt
binary_low b.BitXor = lit< tt
binary_low b.BitXnor = lit< tt
binary_low b.BitOr = lit< tt
binary_low b.LogicalAnd = lit< tt
binary_low b.LogicalOr = lit< tt

pub binary_high : (op : Binary) → 1 < binary_level op
binary_high b.Mul = lit< tt
binary_high b.Div = lit< tt
binary_high b.Rem = lit< tt
binary_high b.Add = lit< tt
binary_high b.Sub = lit< tt
binary_high b.Shl = lit< tt
binary_high b.Shr = lit< tt
binary_high b.ArithmeticShl = lit< tt
binary_high b.ArithmeticShr = lit< tt
binary_high b.Less = lit< tt
binary_high b.LessEqual = lit< tt
binary_high b.Greater = lit< tt
binary_high b.GreaterEqual = lit< tt
binary_high b.Equal = lit< tt
binary_high b.NotEqual = lit< tt
binary_high b.BitAnd = lit< tt
binary_high b.BitXor = lit< tt
binary_high b.BitXnor = lit< tt
binary_high b.BitOr = lit< tt
binary_high b.LogicalAnd = lit< tt
binary_high b.LogicalOr = lit< tt

bool_if : {A : Type 0} (b : Bool) (p q r : A) → (b ≡ true → p ≡ r) → (b ≡ false → q ≡ r) → (if b then p else q) ≡ r
bool_if true p q r f g = f refl
bool_if false p q r f g = g refl

by_sign : (s : List ℕ) (op : Unary) → unary_of s ≡ Some op → first_of (Some (k.Sign s)) ≡ unary op
unfolding unary_of
by_sign s op h =
    bool_if (bytes_eq s (codes "(")) paren _ (unary op)
    (λ t. let e : s ≡ codes "(" = (bytes_eq-Decides s (codes "(")).0 t in let f : unary_of (codes "(") ≡ Some op = ap unary_of (sym e) ∙ h in let z : unary_of (codes "(") ≡ None = refl in cc)
    (λ _. bool_if (bytes_eq s (codes "{")) brace _ (unary op)
    (λ t. let e : s ≡ codes "{" = (bytes_eq-Decides s (codes "{")).0 t in let f : unary_of (codes "{") ≡ Some op = ap unary_of (sym e) ∙ h in let z : unary_of (codes "{") ≡ None = refl in cc)
    (λ _. ap by_unary h))

by_kind : (o : Option Kind) (op : Unary) → on_sign unary_of o ≡ Some op → first_of o ≡ unary op
by_kind (Some (k.Sign s)) op h = by_sign s op h
by_kind (Some (k.Word w)) op h = cc
by_kind (Some (k.Number n)) op h = cc
by_kind (Some k.Outside) op h = cc
by_kind None op h = cc

pub first_unary : (ts : List Token) (i : ℕ) (op : Unary) → unary_at ts i ≡ Some op → first_at ts i ≡ unary op
first_unary ts i op h = by_kind (kind_at ts i) op h

pub first_other : (ts : List Token) (i : ℕ) (s : List ℕ) → IsSign ts i s → bytes_eq s (codes "(") ≡ false → bytes_eq s (codes "{") ≡ false → unary_of s ≡ None
    → first_at ts i ≡ nothing
first_other ts i s here p q u =
    ap first_of here ∙ bool_if (bytes_eq s (codes "(")) paren _ nothing (λ t. absurd (cc)) (λ _. bool_if (bytes_eq s (codes "{")) brace _ nothing (λ t. absurd (cc)) (λ _. ap by_unary u))

-- what an operator's table says of a token
pub sign_of : {A : Type 0} (f : List ℕ → Option A) (o : Option Kind) (x : A) → on_sign f o ≡ Some x → (s : List ℕ) × (o ≡ Some (k.Sign s)) × (f s ≡ Some x)
sign_of f (Some (k.Sign s)) x h = (s, refl, h)
sign_of f (Some (k.Word w)) x h = absurd (cc)
sign_of f (Some (k.Number n)) x h = absurd (cc)
sign_of f (Some k.Outside) x h = absurd (cc)
sign_of f None x h = absurd (cc)

pub word_of : {A : Type 0} (f : List ℕ → Option A) (o : Option Kind) (x : A) → on_word f o ≡ Some x → (s : List ℕ) × (o ≡ Some (k.Word s)) × (f s ≡ Some x)
word_of f (Some (k.Word s)) x h = (s, refl, h)
word_of f (Some (k.Sign w)) x h = absurd (cc)
word_of f (Some (k.Number n)) x h = absurd (cc)
word_of f (Some k.Outside) x h = absurd (cc)
word_of f None x h = absurd (cc)

span_cases : (s : List ℕ) (w : Span) → span_of s ≡ Some w → (s ≡ codes ":") ⊎ ((s ≡ codes "+:") ⊎ (s ≡ codes "-:"))
unfolding span_of
span_cases s w h = by (bytes_eq s (codes ":")) refl
  where
    never : bytes_eq s (codes ":") ≡ false → bytes_eq s (codes "+:") ≡ false → bytes_eq s (codes "-:") ≡ false → ⊥
    never p q r = let e : span_of s ≡ None = rw (p, q, r) refl in cc

    by2 : bytes_eq s (codes ":") ≡ false → bytes_eq s (codes "+:") ≡ false → (b : Bool) → bytes_eq s (codes "-:") ≡ b → (s ≡ codes ":") ⊎ ((s ≡ codes "+:") ⊎ (s ≡ codes "-:"))
    by2 p q true e = inr (inr ((bytes_eq-Decides s (codes "-:")).0 e))
    by2 p q false e = absurd (never p q e)

    by1 : bytes_eq s (codes ":") ≡ false → (b : Bool) → bytes_eq s (codes "+:") ≡ b → (s ≡ codes ":") ⊎ ((s ≡ codes "+:") ⊎ (s ≡ codes "-:"))
    by1 p true e = inr (inl ((bytes_eq-Decides s (codes "+:")).0 e))
    by1 p false e = by2 p e (bytes_eq s (codes "-:")) refl

    by : (b : Bool) → bytes_eq s (codes ":") ≡ b → (s ≡ codes ":") ⊎ ((s ≡ codes "+:") ⊎ (s ≡ codes "-:"))
    by true e = inl ((bytes_eq-Decides s (codes ":")).0 e)
    by false e = by1 e (bytes_eq s (codes "+:")) refl

pub stops_span : (set : Bool) (ts : List Token) (j : ℕ) (w : Span) → span_at ts j ≡ Some w → Stops set ts j
unfolding infix_of
stops_span set ts j w h = let p = sign_of span_of (kind_at ts j) w h in by p.0 p.1 (span_cases p.0 w p.2)
  where
    by : (s : List ℕ) → IsSign ts j s → (s ≡ codes ":") ⊎ ((s ≡ codes "+:") ⊎ (s ≡ codes "-:")) → Stops set ts j
    by s p (inl e) = stop_by set ts j (codes ":") refl refl refl refl (p ∙ ap (λ z. Some (k.Sign z)) e)
    by s p (inr (inl e)) = stop_by set ts j (codes "+:") refl refl refl refl (p ∙ ap (λ z. Some (k.Sign z)) e)
    by s p (inr (inr e)) = stop_by set ts j (codes "-:") refl refl refl refl (p ∙ ap (λ z. Some (k.Sign z)) e)

-- no part-select ends here
pub no_span : (ts : List Token) (j : ℕ) (w : Span) → span_at ts j ≡ Some w → IsSign ts j (codes "]") → ⊥
unfolding span_of
no_span ts j w h p = let e : span_at ts j ≡ None = ap (on_sign span_of) p in cc

pub cast_reserved : (set : Bool) (s : List ℕ) (c : Cast) → cast_of s ≡ Some c → is_reserved set s ≡ true
unfolding cast_of is_reserved
cast_reserved set s c h = by (bytes_eq s (codes "$signed")) refl
  where
    never : bytes_eq s (codes "$signed") ≡ false → bytes_eq s (codes "$unsigned") ≡ false → ⊥
    never p q = let e : cast_of s ≡ None = rw (p, q) refl in cc

    by1 : bytes_eq s (codes "$signed") ≡ false → (b : Bool) → bytes_eq s (codes "$unsigned") ≡ b → is_reserved set s ≡ true
    by1 p true e = ap (is_reserved set) ((bytes_eq-Decides s (codes "$unsigned")).0 e) ∙ refl
    by1 p false e = absurd (never p e)

    by : (b : Bool) → bytes_eq s (codes "$signed") ≡ b → is_reserved set s ≡ true
    by true e = ap (is_reserved set) ((bytes_eq-Decides s (codes "$signed")).0 e) ∙ refl
    by false e = by1 e (bytes_eq s (codes "$unsigned")) refl

-- one token is not two
pub two_signs : (ts : List Token) (i : ℕ) (s t : List ℕ) → bytes_eq s t ≡ false → IsSign ts i s → IsSign ts i t → ⊥
two_signs ts i s t apart p q = let e : s ≡ t = cc in let f : bytes_eq s t ≡ true = (bytes_eq-Decides s t).1 e in cc

pub two_words : (ts : List Token) (i : ℕ) (s t : List ℕ) → bytes_eq s t ≡ false → IsWord ts i s → IsWord ts i t → ⊥
two_words ts i s t apart p q = let e : s ≡ t = cc in let f : bytes_eq s t ≡ true = (bytes_eq-Decides s t).1 e in cc

pub kind_within : (ts : List Token) (i : ℕ) (x : Kind) → kind_at ts i ≡ Some x → i < length ts
unfolding kind_at
kind_within ts i x h = elim (slice_get_cases ts i).1 [ inl p ↦ p.1 | inr p ↦ let e : option_map (λ (t : Token). t.kind) (slice_get ts i) ≡ None = rw p.1 refl in absurd (cc) ]

-- no token stands past the last one
pub past_kind : (ts : List Token) → kind_at ts (length ts) ≡ None
unfolding kind_at
past_kind ts = ap (option_map (λ (t : Token). t.kind)) (slice_get_past ts (length ts) (omega arith))

pub stops_past : (set : Bool) (ts : List Token) → Stops set ts (length ts)
stops_past set ts = let h = past_kind ts in record {
  no_infix = ap (on_sign (infix_of set)) h;
  alone = record { no_select = λ p. cc; no_dot = λ p. cc; no_at = λ p. cc };
}
