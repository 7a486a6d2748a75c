-- One step of the reader: an operand, and what an operator adds.
use Rattle.std.proofs.Common.{Bool, ℕ, ◌+◌, ◌-◌, ◌≡◌, ◌<◌, ◌≤◌, max, inl, inr, List, Some, refl, sym, ap, subst, ◌∙◌, arith}
use Rattle.std.specs.Prelude.{codes}
use Rattle.vlog_tree.specs.declared.token.Token.{Token}
use Rattle.vlog_tree.specs.declared.expr.Infix.{Infix}
use Rattle.vlog_tree.specs.declared.expr.Infix.TheVariants as x
use Rattle.vlog_tree.specs.declared.expr.Binary.{Binary}
use Rattle.vlog_tree.specs.declared.expr.Expr.{Expr}
use Rattle.vlog_tree.specs.Signs.{IsSign, infix_at, infix_level, binary_level}
use Rattle.vlog_tree.specs.Spelling.{level, height, NoSuffix, Spells, Reads}
use Rattle.vlog_read_spelling.specs.Growing.{Takes}
use Rattle.vlog_read_spelling.proofs.Tokens.{binary_high}
use Rattle.vlog_read_spelling.proofs.Forms.{height_pos, length_of, within, binary_of, choice_of}
use Rattle.vlog_read_spelling.proofs.Compare.{Outcome, infix_low, infix_high}
use Rattle.vlog_read_spelling.proofs.Reading.{outcome, unique, begins, NextBinary, NextChoice, Next, next}
use Rattle.vlog_read_lex.specs.declared.error.ReadFault.{ReadFault}
use Rattle.vlog_read_lex.specs.declared.error.ReadFault.TheVariants as f
use Rattle.vlog_read_expr.specs.declared.expr.Parsed.{Parsed}
use Rattle.vlog_read_expr.specs.Answers.{Refusal, Refuses, IsRead, Grown}

-- a value of P, low enough to be a part
pub record Has {A : Type 0} (h : A → ℕ) (P : A → ℕ → Type 0) (up n : ℕ) : Type 0 where
  pub part : A
  pub end : ℕ
  pub holds : P part end
  pub lower : h part + up ≤ n

-- where each Q has a P as its part, the refusal of P is that of Q
pub passes : {A B : Type 0} (h : A → ℕ) (P : A → ℕ → Type 0) (g : B → ℕ) (Q : B → ℕ → Type 0) (ts : List Token) (i' d' i depth up : ℕ)
    → ((b : B) (j : ℕ) → Q b j → Has h P up (g b)) → i + up ≤ i' → depth ≤ d' + up → (fault : ReadFault)
    → Refusal h P ts i' d' fault → Refusal g Q ts i depth fault
passes h P g Q ts i' d' i depth up has at low (f.Syntax place) r = λ b j q. let p = has b j q in r p.part p.end p.holds
passes h P g Q ts i' d' i depth up has at low f.Deep r = record {
  higher = λ b j q. let p = has b j q in omega (arith, r.higher p.part p.end p.holds, p.lower);
  tokens = omega (arith, r.tokens);
}
passes h P g Q ts i' d' i depth up has at low f.Memory r = tt
passes h P g Q ts i' d' i depth up has at low (f.Bytes place) r = r
passes h P g Q ts i' d' i depth up has at low (f.Number place) r = r
passes h P g Q ts i' d' i depth up has at low (f.Outside place) r = r

module _ (set : Bool) (ts : List Token) (lev i depth : ℕ) where
  pub grown_of_operand : (p : Parsed) → lev ≤ 12 → IsRead set ts 12 i depth p → Grown set ts lev i depth p
  grown_of_operand p h r = record {
    spelt = r.reads.spelt;
    binds = omega (arith, r.reads.binds);
    free = r.reads.ends.alone;
    loose = λ op g. record { binds = omega (arith, infix_low op, r.reads.binds); strict = λ _. omega (arith, r.reads.binds) };
    height_is = r.height_is;
    low = r.low;
  }

  pub refuses_operand : (fault : ReadFault) → Refuses set ts 12 i depth fault → Refuses set ts lev i depth fault
  refuses_operand fault r =
      passes height (Reads set ts 12 i) height (Reads set ts lev i) ts i depth i depth 0
      (λ a j g. let q = begins set ts lev i a j g in record { part = q.operand; end = q.end; holds = q.reads; lower = omega (arith, q.lower) })
      (omega arith) (omega arith) fault r

  pub read_of_grown : (p : Parsed) → Grown set ts lev i depth p → ((op : Infix) → infix_at set ts p.end ≡ Some op → infix_level op < lev) → IsRead set ts lev i depth p
  read_of_grown p g h = record {
    reads = record { spelt = g.spelt; binds = g.binds; ends = record { looser = h; alone = g.free } };
    height_is = g.height_is;
    low = g.low;
  }

  module _ (p : Parsed) (g : Grown set ts lev i depth p) where
    -- each tree that is read goes on past an operator of its own
    pub goes_on : (op : Infix) → infix_at set ts p.end ≡ Some op → lev ≤ infix_level op → (a : Expr) (j : ℕ) → Reads set ts lev i a j → Next set ts p.end op a
    goes_on op sign high a j r = next set ts lev i p.tree p.end op g.spelt sign (g.loose op sign) a j r (by (outcome set ts i p.tree p.end g.spelt a j r.spelt g.free r.ends.alone))
      where
        by : Outcome set ts i p.tree p.end g.spelt a j r.spelt → p.end < j
        by (inl q) = absurd (omega (arith, r.ends.looser op (ap (infix_at set ts) (sym q.1) ∙ sign), high))
        by (inr (inl q)) = q.less
        by (inr (inr q)) = absurd (omega (arith, r.ends.looser q.op q.sign, q.binds, g.binds))

    pub past_start : i < p.end
    past_start = omega (arith, length_of set ts i p.tree p.end g.spelt, height_pos p.tree)

    pub low_depth : 0 < depth
    low_depth = omega (arith, g.low, g.height_is, height_pos p.tree)

  -- the whole is at least as high as what is read of it
  pub deep_by : (a : Expr) (j : ℕ) → Spells set ts i a j → lev ≤ level a → NoSuffix ts j → depth < height a → Refuses set ts lev i depth f.Deep
  deep_by a j s binds free high = record {
    higher = λ b k r. by b k r (outcome set ts i a j s b k r.spelt free r.ends.alone);
    tokens = omega (arith, length_of set ts i a j s, within set ts i a j s, high);
  }
    where
      by : (b : Expr) (k : ℕ) (r : Reads set ts lev i b k) → Outcome set ts i a j s b k r.spelt → depth < height b
      by b k r (inl q) = omega (arith, high, ap height q.0)
      by b k r (inr (inl q)) = omega (arith, high, q.lower)
      by b k r (inr (inr q)) = absurd (omega (arith, r.ends.looser q.op q.sign, q.binds, binds))

  -- a binary operator after what is read
  module _ (p : Parsed) (g : Grown set ts lev i depth p) (op : Binary) (sign : infix_at set ts p.end ≡ Some (x.Binary op)) (high : lev ≤ binary_level op) (up : ℕ) (is_up : up ≡ binary_level op) where
    binary_part : (a : Expr) (j : ℕ) → Reads set ts lev i a j → Has height (Reads set ts (up + 1) (p.end + 1)) 1 (height a)
    binary_part a j q =
        let n : NextBinary set ts p.end op a = goes_on p g (x.Binary op) sign high a j q in
        record { part = n.right; end = n.end; holds = subst (λ z. Reads set ts (z + 1) (p.end + 1) n.right n.end) (sym is_up) n.reads; lower = omega (arith, n.lower) }

    pub binary_refuses : (fault : ReadFault) → Refuses set ts (up + 1) (p.end + 1) (depth - 1) fault → Refuses set ts lev i depth fault
    binary_refuses fault r =
        passes height (Reads set ts (up + 1) (p.end + 1)) height (Reads set ts lev i) ts (p.end + 1) (depth - 1) i depth 1
        binary_part (omega (arith, past_start p g)) (omega arith) fault r

    module _ (right : Parsed) (r : IsRead set ts (up + 1) (p.end + 1) (depth - 1) right) where
      pub binary_spelt : Spells set ts i (binary_of op p.tree right.tree) right.end
      binary_spelt = (p.end, g.spelt, sign, r.reads.spelt, (g.loose (x.Binary op) sign).binds, omega (arith, r.reads.binds, is_up))

      pub binary_grown : (new : Parsed) → new.tree ≡ binary_of op p.tree right.tree → new.end ≡ right.end → new.height ≡ max p.height right.height + 1
          → new.height ≤ depth → Grown set ts lev i depth new × (p.end < new.end)
      binary_grown new tree end h low = (
        record {
          spelt = subst (λ a. Spells set ts i a new.end) (sym tree) (subst (λ z. Spells set ts i (binary_of op p.tree right.tree) z) (sym end) binary_spelt);
          binds = omega (arith, high, ap level tree);
          free = subst (NoSuffix ts) (sym end) r.reads.ends.alone;
          loose = λ op' h'. by op' (omega (arith, is_up, r.reads.ends.looser op' (ap (infix_at set ts) (sym end) ∙ h')));
          height_is = omega (arith, h, ap height tree, g.height_is, r.height_is);
          low = low;
        },
        omega (arith, end, length_of set ts (p.end + 1) right.tree right.end r.reads.spelt),
      )
        where
          by : (op' : Infix) → infix_level op' < binary_level op + 1 → Takes op' new.tree
          by op' h' = record { binds = omega (arith, h', ap level tree); strict = λ _. omega (arith, binary_high op, ap level tree) }

      pub binary_deep : depth < max p.height right.height + 1 → Refuses set ts lev i depth f.Deep
      binary_deep h = deep_by (binary_of op p.tree right.tree) right.end binary_spelt high r.reads.ends.alone (omega (arith, h, g.height_is, r.height_is))

  -- a question mark after what is read
  module _ (p : Parsed) (g : Grown set ts lev i depth p) (sign : infix_at set ts p.end ≡ Some x.Choice) (high : lev ≤ 1) where
    choice_next : (a : Expr) (j : ℕ) → Reads set ts lev i a j → NextChoice set ts p.end a
    choice_next a j q = goes_on p g x.Choice sign high a j q

    pub choice_refuses_yes : (fault : ReadFault) → Refuses set ts 1 (p.end + 1) (depth - 1) fault → Refuses set ts lev i depth fault
    choice_refuses_yes fault r =
        passes height (Reads set ts 1 (p.end + 1)) height (Reads set ts lev i) ts (p.end + 1) (depth - 1) i depth 1
        (λ a j q. let n = choice_next a j q in record { part = n.yes_tree; end = n.mid; holds = n.reads_yes; lower = omega (arith, n.lower_yes) })
        (omega (arith, past_start p g)) (omega arith) fault r

    module _ (yes : Parsed) (r : IsRead set ts 1 (p.end + 1) (depth - 1) yes) where
      same_mid : (a : Expr) (j : ℕ) (q : Reads set ts lev i a j) → (choice_next a j q).mid ≡ yes.end
      same_mid a j q = let n = choice_next a j q in (unique set ts 1 (p.end + 1) n.yes_tree n.mid yes.tree yes.end n.reads_yes r.reads).1

      pub choice_no_colon : (IsSign ts yes.end (codes ":") → ⊥) → (a : Expr) (j : ℕ) → Reads set ts lev i a j → ⊥
      choice_no_colon h a j q = let n = choice_next a j q in h (subst (λ z. IsSign ts z (codes ":")) (same_mid a j q) n.colon)

      pub choice_refuses_no : (fault : ReadFault) → Refuses set ts 1 (yes.end + 1) (depth - 1) fault → Refuses set ts lev i depth fault
      choice_refuses_no fault s =
          passes height (Reads set ts 1 (yes.end + 1)) height (Reads set ts lev i) ts (yes.end + 1) (depth - 1) i depth 1
          (λ a j q. let n = choice_next a j q in
          record { part = n.no_tree; end = n.end; holds = subst (λ z. Reads set ts 1 (z + 1) n.no_tree n.end) (same_mid a j q) n.reads_no; lower = omega (arith, n.lower_no) })
          (omega (arith, past_start p g, length_of set ts (p.end + 1) yes.tree yes.end r.reads.spelt)) (omega arith) fault s

      module _ (colon : IsSign ts yes.end (codes ":")) (no : Parsed) (s : IsRead set ts 1 (yes.end + 1) (depth - 1) no) where
        choice_spelt : Spells set ts i (choice_of p.tree yes.tree no.tree) no.end
        choice_spelt = (p.end, yes.end, g.spelt, sign, r.reads.spelt, colon, s.reads.spelt, (g.loose x.Choice sign).strict refl)

        pub choice_grown : (new : Parsed) → new.tree ≡ choice_of p.tree yes.tree no.tree → new.end ≡ no.end → new.height ≡ max p.height (max yes.height no.height) + 1
            → new.height ≤ depth → Grown set ts lev i depth new × (p.end < new.end)
        choice_grown new tree end h low = (
          record {
            spelt = subst (λ a. Spells set ts i a new.end) (sym tree) (subst (λ z. Spells set ts i (choice_of p.tree yes.tree no.tree) z) (sym end) choice_spelt);
            binds = omega (arith, high, ap level tree);
            free = subst (NoSuffix ts) (sym end) s.reads.ends.alone;
            loose = λ op' h'. absurd (omega (arith, infix_high op', s.reads.ends.looser op' (ap (infix_at set ts) (sym end) ∙ h')));
            height_is = omega (arith, h, ap height tree, g.height_is, r.height_is, s.height_is);
            low = low;
          },
          omega (arith, end, length_of set ts (p.end + 1) yes.tree yes.end r.reads.spelt, length_of set ts (yes.end + 1) no.tree no.end s.reads.spelt),
        )

        pub choice_deep : depth < max p.height (max yes.height no.height) + 1 → Refuses set ts lev i depth f.Deep
        choice_deep h = deep_by (choice_of p.tree yes.tree no.tree) no.end choice_spelt high s.reads.ends.alone (omega (arith, h, g.height_is, r.height_is, s.height_is))
