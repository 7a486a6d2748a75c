-- Formulas of a set's text divide nothing: the set's grammar has neither `/` nor `%`.
use Rattle.std.proofs.Common.{◌≡◌, ℕ, ◌+◌, inl, inr, List, [], ◌∷◌, ◌++◌, map, Option, Some, None, Bool, true, false, subst}
use Rattle.std.specs.Prelude.{codes, if◌then◌else◌}
use Rattle.std.specs.List.{flat_map}
use Rattle.std.specs.Option.{option_to_list, option_map}
use Rattle.std.specs.Str.{bytes_eq}
use Rattle.vlog_tree.specs.declared.expr.Binary.{Binary}
use Rattle.vlog_tree.specs.declared.expr.Expr.{Expr, Row_of-Expr, end_of-Expr, more_of-Expr}
use Rattle.vlog_tree.specs.declared.expr.Expr.TheVariants as e
use Rattle.vlog_tree.specs.declared.expr.Infix.{Infix}
use Rattle.vlog_tree.specs.declared.expr.Infix.TheVariants as x
use Rattle.vlog_tree.specs.declared.token.Kind.{Kind}
use Rattle.vlog_tree.specs.declared.token.Kind.TheVariants as k
use Rattle.vlog_tree.specs.declared.token.Token.{Token}
use Rattle.vlog_tree.specs.Lists.{Maybe, Sequence, Separated, More, Comma}
use Rattle.vlog_tree.specs.Signs.{kind_at, infix_of, infix_at, on_sign}
use Rattle.vlog_tree.specs.Spelling.{Spells, SpellsList, SpellsMore}
use Rattle.set_tree.specs.declared.set.Role.{Role}
use Rattle.set_tree.specs.declared.set.Role.TheVariants as role
use Rattle.set_tree.specs.declared.text.PropertyText.{PropertyText}
use Rattle.set_tree.specs.declared.text.SetText.{SetText}
use Rattle.set_tree.specs.declared.text.Until.{Until}
use Rattle.set_tree.specs.Spelling.{Clause, SpellsDomainOf, SpellsDeclaration, SpellsRule, SpellsUntil, SpellsHand, SpellsProperty, SpellsOperation, SpellsSet}
use Rattle.set_tree_structure.specs.Condition.{IsNoDivision, HasNoDivision, AllHaveNoDivision}
use Rattle.set_read_lookup.specs.Formed.{formulas_of, formulas_in}
use Rattle.set_read_lookup.specs.Faults.{Has}
use Rattle.set_read_lookup.proofs.Uses.{has_part, in_flat, in_map}
use Rattle.set_read_lookup.proofs.WellFormed.{IsSpelt}

-- ---- operators

Good : Option Infix → Type 0
Good None = Unit {0}
Good (Some (x.Binary op)) = IsNoDivision op
Good (Some x.Choice) = Unit {0}

if_good : (t : Bool) (i j : Option Infix) → Good i → Good j → Good (if t then i else j)
if_good true i j g h = g
if_good false i j g h = h

infix_good : (s : List ℕ) → Good (infix_of true s)
unfolding infix_of Good
infix_good s =
    if_good (bytes_eq s (codes "*")) _ _ tt (if_good (bytes_eq s (codes "/")) _ _ tt (if_good (bytes_eq s (codes "%")) _ _ tt (
    if_good (bytes_eq s (codes "+")) _ _ tt (if_good (bytes_eq s (codes "-")) _ _ tt (if_good (bytes_eq s (codes "<<")) _ _ tt (
    if_good (bytes_eq s (codes ">>")) _ _ tt (if_good (bytes_eq s (codes "<<<")) _ _ tt (if_good (bytes_eq s (codes ">>>")) _ _ tt (
    if_good (bytes_eq s (codes "<")) _ _ tt (if_good (bytes_eq s (codes "<=")) _ _ tt (if_good (bytes_eq s (codes ">")) _ _ tt (
    if_good (bytes_eq s (codes ">=")) _ _ tt (if_good (bytes_eq s (codes "==")) _ _ tt (if_good (bytes_eq s (codes "!=")) _ _ tt (
    if_good (bytes_eq s (codes "&")) _ _ tt (if_good (bytes_eq s (codes "^")) _ _ tt (if_good (bytes_eq s (codes "^~")) _ _ tt (
    if_good (bytes_eq s (codes "~^")) _ _ tt (if_good (bytes_eq s (codes "|")) _ _ tt (if_good (bytes_eq s (codes "&&")) _ _ tt (
    if_good (bytes_eq s (codes "||")) _ _ tt (if_good (bytes_eq s (codes "?")) _ _ tt tt))))))))))))))))))))))

sign_good : (o : Option Kind) → Good (on_sign (infix_of true) o)
unfolding Good
sign_good None = tt
sign_good (Some (k.Sign s)) = infix_good s
sign_good (Some (k.Word s)) = tt
sign_good (Some (k.Number n)) = tt
sign_good (Some k.Outside) = tt

undivided_at : (ts : List Token) (m : ℕ) (op : Binary) → infix_at true ts m ≡ Some (x.Binary op) → IsNoDivision op
unfolding Good
undivided_at ts m op h = subst Good h (sign_good (kind_at ts m))

-- ---- formulas

module _ (ts : List Token) where
  mutual
    pub undivided : (a : Expr) (i j : ℕ) → Spells true ts i a j → HasNoDivision a
    undivided (e.Number n) i j h = tt
    undivided (e.Name n) i j h = tt
    undivided (e.Select' n s (more_of-Expr a end_of-Expr)) i j h = undivided a (h.0 + 1) h.1 h.4
    undivided (e.Part' n w s (more_of-Expr a end_of-Expr) t (more_of-Expr c end_of-Expr)) i j h = (undivided a (h.0 + 1) h.1 h.5, undivided c (h.1 + 1) h.2 h.7)
    undivided (e.ConstantSelect' n s a) i j h = absurd h
    undivided (e.ConstantPart' n w s a t c) i j h = absurd h
    undivided (e.Cast' cast s (more_of-Expr a end_of-Expr)) i j h = undivided a (i + 2) h.0 h.3
    undivided (e.Paren' s (more_of-Expr a end_of-Expr)) i j h = undivided a (i + 1) h.0 h.2
    undivided (e.Concat' s row) i j h = undivided_list row (i + 1) h.0 h.2
    undivided (e.Repeat' s (more_of-Expr a end_of-Expr) t row) i j h = (undivided a (i + 1) h.0 h.3, undivided_list row (h.0 + 1) h.1 h.5)
    undivided (e.Unary' op s (more_of-Expr a end_of-Expr)) i j h = undivided a (i + 1) j h.1
    undivided (e.Binary' op s (more_of-Expr a end_of-Expr) t (more_of-Expr c end_of-Expr)) i j h = (undivided_at ts h.0 op h.2, undivided a i h.0 h.1, undivided c (h.0 + 1) j h.3)
    undivided (e.Choice' s (more_of-Expr a end_of-Expr) t (more_of-Expr c end_of-Expr) u (more_of-Expr d end_of-Expr)) i j h =
        (undivided a i h.0 h.2, undivided c (h.0 + 1) h.1 h.4, undivided d (h.1 + 1) j h.6)

    undivided_list : {n : _} (row : Row_of-Expr n) (i j : ℕ) → SpellsList true ts i row j → AllHaveNoDivision row
    undivided_list end_of-Expr i j h = absurd h
    undivided_list (more_of-Expr a rest) i j h = (undivided a i h.0 h.1, undivided_more rest h.0 j h.2)

    undivided_more : {n : _} (row : Row_of-Expr n) (i j : ℕ) → SpellsMore true ts i row j → AllHaveNoDivision row
    undivided_more end_of-Expr i j h = tt
    undivided_more (more_of-Expr a rest) i j h = (undivided a (i + 1) h.0 h.2, undivided_more rest h.0 j h.3)

  -- ---- their places in a text

  in_sequence : {A : Type 0} (P : ℕ → A → ℕ → Type 0) (xs : List A) (i j : ℕ) → Sequence P i xs j → (x : A) → Has xs x → (k : ℕ) × (l : ℕ) × P k x l
  in_sequence P [] i j h x k = absurd k
  in_sequence P (y ∷ ys) i j h x (inl e) = (i, h.0, subst (λ z. P i z h.0) e h.1)
  in_sequence P (y ∷ ys) i j h x (inr k) = in_sequence P ys h.0 j h.2 x k

  in_more : {A : Type 0} (sep : ℕ → Type 0) (P : ℕ → A → ℕ → Type 0) (xs : List A) (i j : ℕ) → More sep P i xs j → (x : A) → Has xs x → (k : ℕ) × (l : ℕ) × P k x l
  in_more sep P [] i j h x k = absurd k
  in_more sep P (y ∷ ys) i j h x (inl e) = (i + 1, h.0, subst (λ z. P (i + 1) z h.0) e h.2)
  in_more sep P (y ∷ ys) i j h x (inr k) = in_more sep P ys h.0 j h.3 x k

  in_separated : {A : Type 0} (sep : ℕ → Type 0) (P : ℕ → A → ℕ → Type 0) (xs : List A) (i j : ℕ) → Separated sep P i xs j → (x : A) → Has xs x → (k : ℕ) × (l : ℕ) × P k x l
  in_separated sep P [] i j h x k = absurd h
  in_separated sep P (y ∷ ys) i j h x (inl e) = (i, h.0, subst (λ z. P i z h.0) e h.1)
  in_separated sep P (y ∷ ys) i j h x (inr k) = in_more sep P ys h.0 j h.2 x k

  clauses_undivided : (word : List ℕ) (fs : List Expr) (i j : ℕ) → Sequence (Clause ts word (Spells true ts)) i fs j → (f : Expr) → Has fs f → HasNoDivision f
  clauses_undivided word fs i j h f k = let w = in_sequence (Clause ts word (Spells true ts)) fs i j h f k in undivided f (w.0 + 1) w.2.0 w.2.2

  hand_undivided : (fs : List Expr) (i j : ℕ) → SpellsHand ts i fs j → (f : Expr) → Has fs f → HasNoDivision f
  hand_undivided [] i j h f k = absurd k
  hand_undivided (x ∷ xs) i j h f k = let w = in_separated (Comma ts) (Spells true ts) (x ∷ xs) (i + 1) h.0 h.2 f k in undivided f w.0 w.1 w.2

  until_undivided : (o : Option Until) (i j : ℕ) → Maybe (SpellsUntil ts) i o j → (f : Expr) → Has (option_to_list (option_map (λ u. u.condition) o)) f → HasNoDivision f
  until_undivided None i j h f k = absurd k
  until_undivided (Some u) i j h f (inl e) = undivided f (i + 3) j (subst (λ z. Spells true ts (i + 3) z j) e h.3)
  until_undivided (Some u) i j h f (inr k) = absurd k

  property_undivided : (p : PropertyText) (i j : ℕ) → SpellsProperty ts i p j → (f : Expr) → Has (formulas_of p) f → HasNoDivision f
  property_undivided p i j h f k =
      let c = h.2 in
      let l = c.3.2 in
      let until = option_to_list (option_map (λ u. u.condition) p.length.until) in
      elim (has_part until (p.assume ++ (p.commit ++ p.hand)) f k) [
        | inl a ↦ until_undivided p.length.until (i + 1 + 1 + 1) c.3.0 l.1 f a
        | inr r ↦ elim (has_part p.assume (p.commit ++ p.hand) f r) [
          | inl a ↦ clauses_undivided (codes "assume") p.assume c.1 c.2 c.5 f a
          | inr d ↦ elim (has_part p.commit p.hand f d) [
            | inl a ↦ clauses_undivided (codes "commit") p.commit c.2 h.0 c.6 f a
            | inr g ↦ hand_undivided p.hand h.0 h.3.0 h.3.3 f g
          ]
        ]
      ]

  domain_undivided : (r : Role) (o : Option Expr) (i j : ℕ) → SpellsDomainOf ts r i o j → (f : Expr) → Has (option_to_list o) f → HasNoDivision f
  domain_undivided role.Output None i j h f k = absurd k
  domain_undivided role.Output (Some d) i j h f (inl e) = undivided f (i + 1) j (subst (λ z. Spells true ts (i + 1) z j) e h.1)
  domain_undivided role.Output (Some d) i j h f (inr k) = absurd k
  domain_undivided role.Input o i j h f k = absurd (subst (λ z. Has (option_to_list z) f) h.0 k)
  domain_undivided role.State o i j h f k = absurd (subst (λ z. Has (option_to_list z) f) h.0 k)

  pub is_spelt : (t : SetText) → SpellsSet ts t → IsSpelt t
  is_spelt t h = record {
    reset = h.6.2;
    fixed = h.6.3;
    free = h.6.4;
    undivided = each;
  }
    where
      each : (f : Expr) → Has (formulas_in t) f → HasNoDivision f
      each f k = elim (has_part (flat_map (λ d. option_to_list d.domain) t.declarations) (map (λ r. r.formula) t.rules ++ flat_map formulas_of (t.first ∷ t.operations)) f k) [
        | inl a ↦ let w = in_flat (λ d. option_to_list d.domain) t.declarations f a in
            let d = in_sequence (SpellsDeclaration ts) t.declarations 11 h.0 h.4 w.0 w.1 in
            domain_undivided w.0.role w.0.domain d.2.2 d.2.3 d.2.8 f w.2
        | inr r ↦ elim (has_part (map (λ r. r.formula) t.rules) (flat_map formulas_of (t.first ∷ t.operations)) f r) [
          | inl a ↦ let w = in_map (λ r. r.formula) t.rules f a in
              let d = in_sequence (SpellsRule ts) t.rules h.0 h.1 h.5 w.0 w.1 in
              subst HasNoDivision w.2 (undivided w.0.formula (d.0 + 3) d.2.0 d.2.4)
          | inr p ↦ elim (has_part (formulas_of t.first) (flat_map formulas_of t.operations) f p) [
            | inl a ↦ property_undivided t.first (h.1 + 2) h.2 h.6.5 f a
            | inr o ↦ let w = in_flat formulas_of t.operations f o in
                let d = in_sequence (SpellsOperation ts) t.operations h.2 _ h.7 w.0 w.1 in
                property_undivided w.0 (d.0 + 2) d.1 d.2.2 f w.2
          ]
        ]
      ]
