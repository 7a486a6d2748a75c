-- Declarations, rules and clauses: what is left of them after each of their parts.
use Rattle.std.proofs.Common.{ℕ, ◌+◌, ◌≡◌, ◌≤◌, ◌⊎◌, inl, inr, List, [], ◌∷◌, Option, Some, None, true, false, Result, Ok, Err, refl, sym, subst, arith}
use Rattle.std.specs.Prelude.{IfOk, IfErr, codes}
use Rattle.vlog_tree.specs.declared.token.Token.{Token}
use Rattle.vlog_tree.specs.declared.expr.Expr.{Expr}
use Rattle.vlog_tree.specs.Signs.{IsSign, IsWord}
use Rattle.vlog_tree.specs.Lists.{Maybe, Separated, Comma, highest_of}
use Rattle.vlog_tree.specs.Spelling.{IsPath, Spells, height}
use Rattle.vlog_read_spelling.proofs.Tokens.{two_signs, two_words}
use Rattle.vlog_read_spelling.proofs.Names.{name_begins}
use Rattle.set_tree.specs.declared.set.Role.{Role}
use Rattle.set_tree.specs.declared.set.Role.TheVariants as role
use Rattle.set_tree.specs.declared.text.Bits.{Bits}
use Rattle.set_tree.specs.declared.text.CoverText.{CoverText}
use Rattle.set_tree.specs.declared.text.Declaration.{Declaration}
use Rattle.set_tree.specs.declared.text.EndText.{EndText}
use Rattle.set_tree.specs.declared.text.EndText.TheVariants as to
use Rattle.set_tree.specs.declared.text.Until.{Until}
use Rattle.set_tree.specs.Spelling.{Clause, IsDigits, SpellsBits, SpellsCover, SpellsDeclaration, SpellsDistance, SpellsDomain, SpellsDomainOf, SpellsEnd, SpellsHand, SpellsSigned, SpellsUntil, role_word}
use Rattle.set_read.specs.Answers.{Agrees, Ended, Lacks, NoSign, NoWord, Semicolon, flat}
use Rattle.set_read.specs.Heights.{until_height}
use Rattle.set_read.specs.declared.fault.TextFault.{TextFault}

module _ (ts : List Token) where
  pub word_no_sign : (i : ℕ) (w s : List ℕ) → IsWord ts i w → IsSign ts i s → ⊥
  word_no_sign i w s p q = cc

  pub digits_no_word : (i v j : ℕ) (w : List ℕ) → IsDigits ts i v j → IsWord ts i w → ⊥
  digits_no_word i v j w p q = let a = p.1 in cc

  pub path_no_open : (i : ℕ) (w : List ℕ) (j : ℕ) → IsPath ts i w j → NoSign (codes "[") ts i
  path_no_open i w j p s = let n = name_begins true ts i (record { text = w; offset = 0 }) j (j, p, inl (refl, refl)) in word_no_sign i n.0 (codes "[") n.1.stands s

  -- a word that may stand
  pub signed_stands : (i : ℕ) → IsWord ts i (codes "signed") → Ended (SpellsSigned ts) i (i + 1)
  signed_stands i here true j q = q.1
  signed_stands i here false j q = absurd (q.0 here)

  pub signed_missing : (i : ℕ) → (IsWord ts i (codes "signed") → ⊥) → Ended (SpellsSigned ts) i i
  signed_missing i none true j q = absurd (none q.0)
  signed_missing i none false j q = sym q.1

  -- a range
  pub no_bits : (i : ℕ) → (IsSign ts i (codes "[") → ⊥) → Ended (Maybe (SpellsBits ts)) i i
  no_bits i none None j q = sym q
  no_bits i none (Some x) j q = absurd (none q.0)

  pub some_bits : (i : ℕ) → IsSign ts i (codes "[") → (x : Option Bits) (j : ℕ) → Maybe (SpellsBits ts) i x j → NoSign (codes "[") ts j → (y : Bits) × SpellsBits ts i y j
  some_bits i here None j q f = absurd (f (subst (λ z. IsSign ts z (codes "[")) q here))
  some_bits i here (Some x) j q f = (x, q)

  -- a domain
  pub no_domain : (i : ℕ) → (IsWord ts i (codes "when") → ⊥) → Ended (Maybe (SpellsDomain ts)) i i
  no_domain i none None j q = sym q
  no_domain i none (Some x) j q = absurd (none q.0)

  pub some_domain : (i : ℕ) → IsWord ts i (codes "when") → (x : Option Expr) (j : ℕ) → Maybe (SpellsDomain ts) i x j → Semicolon ts j
      → (y : Expr) × Spells true ts (i + 1) y j × (height y ≤ highest_of height x)
  some_domain i here None j q f = absurd (word_no_sign j (codes "when") (codes ";") (subst (λ z. IsWord ts z (codes "when")) q here) f)
  some_domain i here (Some x) j q f = (x, q.1, omega arith)

  domain_no_dot : (r : Role) (i : ℕ) (x : Option Expr) (j : ℕ) → SpellsDomainOf ts r i x j → Semicolon ts j → NoSign (codes ".") ts i
  domain_no_dot role.Output i None j q f s = two_signs ts j (codes ";") (codes ".") refl f (subst (λ z. IsSign ts z (codes ".")) q s)
  domain_no_dot role.Output i (Some x) j q f s = word_no_sign i (codes "when") (codes ".") q.0 s
  domain_no_dot role.Input i x j q f s = two_signs ts j (codes ";") (codes ".") refl f (subst (λ z. IsSign ts z (codes ".")) q.1 s)
  domain_no_dot role.State i x j q f s = two_signs ts j (codes ";") (codes ".") refl f (subst (λ z. IsSign ts z (codes ".")) q.1 s)

  -- a declaration
  same_role : (i : ℕ) (a b : Role) → IsWord ts i (role_word a) → IsWord ts i (role_word b) → a ≡ b
  same_role i role.Input role.Input p q = refl
  same_role i role.Input role.Output p q = absurd (two_words ts i (codes "input") (codes "output") refl p q)
  same_role i role.Input role.State p q = absurd (two_words ts i (codes "input") (codes "state") refl p q)
  same_role i role.Output role.Input p q = absurd (two_words ts i (codes "output") (codes "input") refl p q)
  same_role i role.Output role.Output p q = refl
  same_role i role.Output role.State p q = absurd (two_words ts i (codes "output") (codes "state") refl p q)
  same_role i role.State role.Input p q = absurd (two_words ts i (codes "state") (codes "input") refl p q)
  same_role i role.State role.Output p q = absurd (two_words ts i (codes "state") (codes "output") refl p q)
  same_role i role.State role.State p q = refl

  module _ (r : Role) where
    abbrev pub AfterSigned : ℕ → Declaration → ℕ → Type 0
    AfterSigned i x j = (b c d : ℕ) × Maybe (SpellsBits ts) i x.bits b × IsPath ts b x.name c × SpellsDomainOf ts r c x.domain d × IsSign ts d (codes ";") × (j ≡ d + 1)

    abbrev pub AfterBits : ℕ → Declaration → ℕ → Type 0
    AfterBits i x j = (c d : ℕ) × IsPath ts i x.name c × SpellsDomainOf ts r c x.domain d × IsSign ts d (codes ";") × (j ≡ d + 1)

    abbrev pub AfterName : ℕ → Declaration → ℕ → Type 0
    AfterName i x j = (d : ℕ) × SpellsDomainOf ts r i x.domain d × IsSign ts d (codes ";") × (j ≡ d + 1)

    pub after_signed : (i : ℕ) → IsWord ts i (role_word r) → (m : ℕ) → Ended (SpellsSigned ts) (i + 1) m → (x : Declaration) (j : ℕ) → SpellsDeclaration ts i x j → AfterSigned m x j
    after_signed i here m only x j q =
        let e : q.0 ≡ m = only x.signed q.0 q.5 in
        let s : x.role ≡ r = same_role i x.role r q.4 here in
        (q.1, q.2, q.3, subst (λ z. Maybe (SpellsBits ts) z x.bits q.1) e q.6, q.7, subst (λ z. SpellsDomainOf ts z q.2 x.domain q.3) s q.8, q.9, q.10)

    pub bits_end : (i : ℕ) (x : Declaration) (j : ℕ) (q : AfterSigned i x j) → NoSign (codes "[") ts q.0
    bits_end i x j q = path_no_open q.0 x.name q.1 q.4

    pub after_bits : (i m : ℕ) → ((x : Option Bits) (j : ℕ) → Maybe (SpellsBits ts) i x j → NoSign (codes "[") ts j → j ≡ m) → (x : Declaration) (j : ℕ) → AfterSigned i x j → AfterBits m x j
    after_bits i m only x j q =
        let e : q.0 ≡ m = only x.bits q.0 q.3 (bits_end i x j q) in (q.1, q.2, subst (λ z. IsPath ts z x.name q.1) e q.4, q.5, q.6, q.7)

    pub name_end : (i : ℕ) (x : Declaration) (j : ℕ) (q : AfterBits i x j) → NoSign (codes ".") ts q.0
    name_end i x j q = domain_no_dot r q.0 x.domain q.1 q.3 q.4

    pub after_name : (i m : ℕ) → ((x : List ℕ) (j : ℕ) → IsPath ts i x j → NoSign (codes ".") ts j → j ≡ m) → (x : Declaration) (j : ℕ) → AfterBits i x j → AfterName m x j
    after_name i m only x j q = let e : q.0 ≡ m = only x.name q.0 q.2 (name_end i x j q) in (q.1, subst (λ z. SpellsDomainOf ts r z x.domain q.1) e q.3, q.4, q.5)

    pub after_domain : (i m : ℕ) → ((x : Option Expr) (j : ℕ) → SpellsDomainOf ts r i x j → Semicolon ts j → j ≡ m) → (x : Declaration) (j : ℕ) → AfterName i x j
        → IsSign ts m (codes ";") × (j ≡ m + 1)
    after_domain i m only x j q = let e : q.0 ≡ m = only x.domain q.0 q.1 q.2 in (subst (λ z. IsSign ts z (codes ";")) e q.2, omega (arith, e, q.3))

  -- how long a property is
  pub no_until : (i : ℕ) → (IsWord ts i (codes "to") → ⊥) → Ended (Maybe (SpellsUntil ts)) i i
  no_until i none None j q = sym q
  no_until i none (Some x) j q = absurd (none q.0)

  pub some_until : (i : ℕ) → IsWord ts i (codes "to") → (x : Option Until) (j : ℕ) → Maybe (SpellsUntil ts) i x j → Semicolon ts j
      → (y : Until) × SpellsUntil ts i y j × (until_height y ≤ highest_of until_height x)
  some_until i here None j q f = absurd (word_no_sign j (codes "to") (codes ";") (subst (λ z. IsWord ts z (codes "to")) q here) f)
  some_until i here (Some x) j q f = (x, q, omega arith)

  pub no_window : (i : ℕ) → (IsWord ts i (codes "window") → ⊥) → Ended (Maybe (Clause ts (codes "window") (IsDigits ts))) i i
  no_window i none None j q = sym q
  no_window i none (Some x) j q = absurd (none q.1)

  pub some_window : (i : ℕ) → IsWord ts i (codes "window") → (x : Option ℕ) (j : ℕ) → Maybe (Clause ts (codes "window") (IsDigits ts)) i x j → NoWord (codes "window") ts j
      → (y : ℕ) × Clause ts (codes "window") (IsDigits ts) i y j
  some_window i here None j q f = absurd (f (subst (λ z. IsWord ts z (codes "window")) q here))
  some_window i here (Some x) j q f = (x, q)

  -- the hand-over
  pub no_hand : (i : ℕ) → (IsWord ts i (codes "hand") → ⊥) → Ended (SpellsHand ts) i i
  no_hand i none [] j q = sym q
  no_hand i none (x ∷ xs) j q = absurd (none q.1)

  pub some_hand : (i : ℕ) → IsWord ts i (codes "hand") → (xs : List Expr) (j : ℕ) → SpellsHand ts i xs j → NoWord (codes "hand") ts j → Clause ts (codes "hand") (Separated (Comma ts) (Spells true ts)) i xs j
  some_hand i here [] j q f = absurd (f (subst (λ z. IsWord ts z (codes "hand")) q here))
  some_hand i here (x ∷ xs) j q f = q

  -- where a cover ends
  pub no_distance : (i : ℕ) → (IsSign ts i (codes "+") → ⊥) → Ended (SpellsDistance ts) i i
  no_distance i none d j (inl q) = sym q.1
  no_distance i none d j (inr q) = absurd (none q.0)

  pub some_distance : (i : ℕ) → IsSign ts i (codes "+") → (d j : ℕ) → SpellsDistance ts i d j → Semicolon ts j → IsDigits ts (i + 1) d j
  some_distance i here d j (inl q) f = absurd (two_signs ts j (codes "+") (codes ";") refl (subst (λ z. IsSign ts z (codes "+")) q.1 here) f)
  some_distance i here d j (inr q) f = q.1

  pub digits_agree : (i m : ℕ) → m ≡ i + 1 → (r : Result (ℕ × ℕ) TextFault) → IfOk r (λ read. IsDigits ts m read.0 read.1 × (read.1 ≡ m + 1)) → IfErr r (λ fault. Lacks (IsDigits ts) m)
      → (d j : ℕ) → IsDigits ts (i + 1) d j → Agrees flat 0 d j r
  digits_agree i m e (Ok read) f n d j q = omega (arith, e, f.1, q.4)
  digits_agree i m e (Err fault) f n d j q = absurd (n d j (subst (λ z. IsDigits ts z d j) (sym e) q))

  pub after_end : (i : ℕ) → IsWord ts i (codes "end") → (x : EndText) (j : ℕ) → SpellsEnd ts i x j → (d : ℕ) × SpellsDistance ts (i + 1) d j
  after_end i here (to.At r) j q = absurd (digits_no_word i r j (codes "end") q here)
  after_end i here (to.AfterEnd d) j q = (d, q.1)

  pub no_end : (i : ℕ) → (IsWord ts i (codes "end") → ⊥) → (x : EndText) (j : ℕ) → SpellsEnd ts i x j → (r : ℕ) × IsDigits ts i r j
  no_end i none (to.At r) j q = (r, q)
  no_end i none (to.AfterEnd d) j q = absurd (none q.0)

  abbrev pub AfterOutput : ℕ → CoverText → ℕ → Type 0
  AfterOutput i x j =
      (o : ℕ) × IsWord ts i (codes "from") × IsDigits ts (i + 1) x.from (i + 2) × IsWord ts (i + 2) (codes "to") × SpellsEnd ts (i + 3) x.to o × IsSign ts o (codes ";") × (j ≡ o + 1)

  pub output_end : (i : ℕ) (x : CoverText) (j : ℕ) (q : SpellsCover ts i x j) → NoSign (codes ".") ts q.0
  output_end i x j q s = word_no_sign q.0 (codes "from") (codes ".") q.4 s

  pub after_output : (i m : ℕ) → ((x : List ℕ) (j : ℕ) → IsPath ts (i + 1) x j → NoSign (codes ".") ts j → j ≡ m) → (x : CoverText) (j : ℕ) → SpellsCover ts i x j → AfterOutput m x j
  after_output i m only x j q =
      let e : q.0 ≡ m = only x.output q.0 q.3 (output_end i x j q) in
      subst (λ z. AfterOutput z x j) e (q.1, q.4, q.5, q.6, q.7, q.8, q.9)

  -- a clause with its formula
  pub after_formula : (i m : ℕ) (w : List ℕ) → ((x : Expr) (j : ℕ) → Spells true ts (i + 1) x j → IsSign ts j (codes ",") ⊎ Semicolon ts j → j ≡ m) → (x : Expr) (j : ℕ) → Clause ts w (Spells true ts) i x j
      → IsSign ts m (codes ";") × (j ≡ m + 1)
  after_formula i m w only x j q = let e : q.0 ≡ m = only x q.0 q.2 (inr q.3) in (subst (λ z. IsSign ts z (codes ";")) e q.3, omega (arith, e, q.4))
