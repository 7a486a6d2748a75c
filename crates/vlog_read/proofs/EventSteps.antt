-- Directions of ports and lists of events: where the whole ends, and why none is there.
use Rattle.std.proofs.Common.{ℕ, ◌+◌, ◌≡◌, ◌⊎◌, inl, inr, List, [], ◌∷◌, Option, Bool, true, false, refl, sym, subst, arith}
use Rattle.std.specs.Prelude.{codes}
use Rattle.vlog_tree.specs.declared.token.Token.{Token}
use Rattle.vlog_tree.specs.declared.item.PortKind.{PortKind}
use Rattle.vlog_tree.specs.declared.item.PortKind.TheVariants as p
use Rattle.vlog_tree.specs.declared.item.Range.{Range}
use Rattle.vlog_tree.specs.declared.item.Shape.{Shape}
use Rattle.vlog_tree.specs.declared.stmt.Edge.{Edge}
use Rattle.vlog_tree.specs.declared.stmt.Events.{Events}
use Rattle.vlog_tree.specs.declared.stmt.Events.TheVariants as v
use Rattle.vlog_tree.specs.Signs.{IsSign, IsWord, is_reserved, is_keyword}
use Rattle.vlog_tree.specs.Lists.{Maybe, Flag, Separated, highest}
use Rattle.vlog_tree.specs.Spelling.{IsIdentifier, IsNamed}
use Rattle.vlog_tree.specs.Statements.{SpellsEdge, edge_word, OrComma, SpellsEvents}
use Rattle.vlog_tree.specs.Modules.{SpellsRange, SpellsShape, SpellsKind}
use Rattle.vlog_read_spelling.proofs.Tokens.{two_signs, two_words}
use Rattle.vlog_read_spelling.proofs.Declarations.{absent, signed_reserved}
use Rattle.vlog_read_spelling.proofs.Statements.{no_word}
use Rattle.vlog_read_spelling.proofs.Modules.{kind_word}
use Rattle.vlog_read_lex.specs.declared.error.ReadFault.{ReadFault}
use Rattle.vlog_read_expr.specs.Answers.{Refusal}
use Rattle.vlog_read_expr.specs.Names.{RefusesIdentifier}
use Rattle.vlog_read_expr.proofs.Steps.{passes}
use Rattle.vlog_read.specs.declared.part.Found.{Found}
use Rattle.vlog_read.specs.Answers.{IsFound, Before, Closes, Follows, Plain, NoNet, IsEdge}
use Rattle.vlog_read.proofs.PartSteps.{named_refuses}
use Rattle.vlog_read.proofs.Steps.{no_heights}

reserved_wire : is_reserved false (codes "wire") ≡ true
unfolding is_reserved is_keyword
reserved_wire = refl

reserved_reg : is_reserved false (codes "reg") ≡ true
unfolding is_reserved is_keyword
reserved_reg = refl

reserved_posedge : is_reserved false (codes "posedge") ≡ true
unfolding is_reserved is_keyword
reserved_posedge = refl

reserved_negedge : is_reserved false (codes "negedge") ≡ true
unfolding is_reserved is_keyword
reserved_negedge = refl

module _ (ts : List Token) where
  -- what a name excludes at its place
  pub name_plain : (i : ℕ) (n : List ℕ) → IsIdentifier false ts i n → Plain ts i
  name_plain i n q = record { no_signed = λ w. no_word ts i n (codes "signed") q w (signed_reserved ts); no_open = λ h. let u = q.stands in cc }

  shape_word : (w : List ℕ) → is_reserved false w ≡ true → (i : ℕ) (b : Bool) (m : ℕ) (x : Option Range) (j : ℕ) (n : List ℕ) → Flag ts (codes "signed") i b m → Maybe (SpellsRange ts) m x j
      → IsIdentifier false ts j n → IsWord ts i w → (IsWord ts i (codes "signed") → ⊥) → ⊥
  shape_word w r i true m x j n g q v here other = other g.0
  shape_word w r i false m x j n g q v here other = absent ts w r m x j n q v (subst (λ z. IsWord ts z w) g here)

  pub shape_no_net : (i : ℕ) (x : Shape) (j : ℕ) (n : List ℕ) → SpellsShape ts i x j → IsIdentifier false ts j n → NoNet ts i
  shape_no_net i x j n s q = record {
    no_wire = λ h. shape_word (codes "wire") reserved_wire i x.signed s.0 x.range j n s.1 s.2 q h (λ o. two_words ts i (codes "wire") (codes "signed") refl h o);
    no_reg = λ h. shape_word (codes "reg") reserved_reg i x.signed s.0 x.range j n s.1 s.2 q h (λ o. two_words ts i (codes "reg") (codes "signed") refl h o);
  }

  -- a `wire` that may stand
  pub wire_only : (i : ℕ) → IsWord ts i (codes "wire") → (b : Bool) (k : ℕ) → Flag ts (codes "wire") i b k → NoNet ts k → k ≡ i + 1
  wire_only i here true k q n = q.1
  wire_only i here false k q n = absurd (n.no_wire (subst (λ z. IsWord ts z (codes "wire")) q here))

  pub no_wire_only : (i : ℕ) → (IsWord ts i (codes "wire") → ⊥) → (b : Bool) (k : ℕ) → Flag ts (codes "wire") i b k → NoNet ts k → k ≡ i
  no_wire_only i h true k q n = absurd (h q.0)
  no_wire_only i h false k q n = sym q

  abbrev pub ReadsKind : ℕ → PortKind → ℕ → Type 0
  ReadsKind = Before (SpellsKind ts) (NoNet ts)

  pub input_wire : (i : ℕ) → IsWord ts i (codes "input") → (x : PortKind) (k : ℕ) → ReadsKind i x k → (b : Bool) × Flag ts (codes "wire") (i + 1) b k
  input_wire i here p.Input k q = (q.0.0, q.0.2)
  input_wire i here p.Output k q = absurd (two_words ts i (codes "input") (codes "output") refl here q.0.1)
  input_wire i here p.OutputReg k q = absurd (two_words ts i (codes "input") (codes "output") refl here q.0.0)

  pub output_wire : (i : ℕ) → IsWord ts i (codes "output") → (IsWord ts (i + 1) (codes "reg") → ⊥) → (x : PortKind) (k : ℕ) → ReadsKind i x k → (b : Bool) × Flag ts (codes "wire") (i + 1) b k
  output_wire i here none p.Input k q = absurd (two_words ts i (codes "input") (codes "output") refl q.0.1 here)
  output_wire i here none p.Output k q = (q.0.0, q.0.2)
  output_wire i here none p.OutputReg k q = absurd (none q.0.1)

  pub output_reg : (i : ℕ) → IsWord ts i (codes "output") → IsWord ts (i + 1) (codes "reg") → (x : PortKind) (k : ℕ) → ReadsKind i x k → k ≡ i + 2
  output_reg i here reg p.Input k q = absurd (two_words ts i (codes "input") (codes "output") refl q.0.1 here)
  output_reg i here reg p.Output k q = absurd (by q.0.0 q.0.2)
    where
      by : (b : Bool) → Flag ts (codes "wire") (i + 1) b k → ⊥
      by true g = two_words ts (i + 1) (codes "reg") (codes "wire") refl reg g.0
      by false g = q.1.no_reg (subst (λ z. IsWord ts z (codes "reg")) g reg)
  output_reg i here reg p.OutputReg k q = q.0.2

  pub no_direction : (i : ℕ) → (IsWord ts i (codes "input") → ⊥) → (IsWord ts i (codes "output") → ⊥) → (x : PortKind) (k : ℕ) → ReadsKind i x k → ⊥
  no_direction i a b x k q = by (kind_word ts i x k q.0)
    where
      by : IsWord ts i (codes "input") ⊎ IsWord ts i (codes "output") → ⊥
      by (inl u) = a u
      by (inr u) = b u

  -- edges
  abbrev pub ReadsEdge : ℕ → Edge → ℕ → Type 0
  ReadsEdge = Before (SpellsEdge ts) (Follows ts)

  pub edge_name : (i depth : ℕ) (fault : ReadFault) → RefusesIdentifier false ts (i + 1) fault → Refusal (λ (x : Edge). 0) (ReadsEdge i) ts i depth fault
  edge_name i depth = named_refuses (λ (x : Edge). 0) (ReadsEdge i) ts i depth (i + 1) (λ x j q. (x.name, j, q.0.1))

  edge_is : (i : ℕ) (b : Bool) → IsWord ts i (edge_word b) → IsEdge ts i
  edge_is i true w = inl w
  edge_is i false w = inr w

  pub no_edge : (i : ℕ) → (IsWord ts i (codes "posedge") → ⊥) → (IsWord ts i (codes "negedge") → ⊥) → (x : Edge) (j : ℕ) → ReadsEdge i x j → ⊥
  no_edge i a b x j q = by (edge_is i x.rising q.0.0)
    where
      by : IsEdge ts i → ⊥
      by (inl u) = a u
      by (inr u) = b u

  -- what begins a list of events
  first_edge : (xs : List Edge) (i j : ℕ) → Separated (OrComma ts) (SpellsEdge ts) i xs j → IsEdge ts i
  first_edge [] i j q = absurd q
  first_edge (x ∷ xs) i j q = edge_is i x.rising q.1.0

  first_name : (xs : List (List ℕ)) (i j : ℕ) → Separated (OrComma ts) (IsNamed false ts) i xs j → (n : List ℕ) × IsIdentifier false ts i n
  first_name [] i j q = absurd q
  first_name (x ∷ xs) i j q = (x, q.1.0)

  edge_no_star : (i : ℕ) → IsEdge ts i → IsSign ts i (codes "*") → ⊥
  edge_no_star i (inl w) s = cc
  edge_no_star i (inr w) s = cc

  name_no_star : (i : ℕ) (n : List ℕ) → IsIdentifier false ts i n → IsSign ts i (codes "*") → ⊥
  name_no_star i n q s = let u = q.stands in cc

  edge_no_name : (i : ℕ) (n : List ℕ) → IsEdge ts i → IsIdentifier false ts i n → ⊥
  edge_no_name i n (inl w) q = no_word ts i n (codes "posedge") q w reserved_posedge
  edge_no_name i n (inr w) q = no_word ts i n (codes "negedge") q w reserved_negedge

  star_no_open : (i : ℕ) → IsSign ts i (codes "*") → IsSign ts i (codes "(") → ⊥
  star_no_open i s t = two_signs ts i (codes "*") (codes "(") refl s t

  pub star_only : (i : ℕ) → IsSign ts i (codes "*") → (x : Events) (k : ℕ) → SpellsEvents ts i x k → k ≡ i + 1
  star_only i here v.All k (inl q) = q.1
  star_only i here v.All k (inr q) = absurd (star_no_open i here q.0)
  star_only i here (v.Edges xs) k q = absurd (star_no_open i here q.1)
  star_only i here (v.Names xs) k q = absurd (star_no_open i here q.1)

  pub events_shut : (i : ℕ) → (IsSign ts i (codes "*") → ⊥) → (IsSign ts i (codes "(") → ⊥) → (x : Events) (k : ℕ) → SpellsEvents ts i x k → ⊥
  events_shut i a b v.All k (inl q) = a q.0
  events_shut i a b v.All k (inr q) = b q.0
  events_shut i a b (v.Edges xs) k q = b q.1
  events_shut i a b (v.Names xs) k q = b q.1

  module _ (i : ℕ) (opens : IsSign ts i (codes "(")) where
    pub all_close : IsSign ts (i + 1) (codes "*") → (x : Events) (k : ℕ) → SpellsEvents ts i x k → IsSign ts (i + 2) (codes ")") × (k ≡ i + 3)
    all_close star v.All k (inl q) = absurd (star_no_open i q.0 opens)
    all_close star v.All k (inr q) = (q.2, q.3)
    all_close star (v.Edges xs) k q = absurd (edge_no_star (i + 1) (first_edge xs (i + 1) q.0 q.2) star)
    all_close star (v.Names xs) k q = let n = first_name xs (i + 1) q.0 q.2 in absurd (name_no_star (i + 1) n.0 n.1 star)

    abbrev pub ReadsEdges : ℕ → List Edge → ℕ → Type 0
    ReadsEdges = Before (Separated (OrComma ts) (SpellsEdge ts)) (Closes ts)

    abbrev pub ReadsNames : ℕ → List (List ℕ) → ℕ → Type 0
    ReadsNames = Before (Separated (OrComma ts) (IsNamed false ts)) (Closes ts)

    edge_list : IsEdge ts (i + 1) → (x : Events) (k : ℕ) → SpellsEvents ts i x k → (xs : List Edge) × (m : ℕ) × ReadsEdges (i + 1) xs m × IsSign ts m (codes ")") × (k ≡ m + 1)
    edge_list e v.All k (inl q) = absurd (star_no_open i q.0 opens)
    edge_list e v.All k (inr q) = absurd (edge_no_star (i + 1) e q.1)
    edge_list e (v.Edges xs) k q = (xs, q.0, (q.2, inl q.3), q.3, q.4)
    edge_list e (v.Names xs) k q = let n = first_name xs (i + 1) q.0 q.2 in absurd (edge_no_name (i + 1) n.0 e n.1)

    name_list : (IsSign ts (i + 1) (codes "*") → ⊥) → (IsEdge ts (i + 1) → ⊥) → (x : Events) (k : ℕ) → SpellsEvents ts i x k
        → (xs : List (List ℕ)) × (m : ℕ) × ReadsNames (i + 1) xs m × IsSign ts m (codes ")") × (k ≡ m + 1)
    name_list s e v.All k (inl q) = absurd (star_no_open i q.0 opens)
    name_list s e v.All k (inr q) = absurd (s q.1)
    name_list s e (v.Edges xs) k q = absurd (e (first_edge xs (i + 1) q.0 q.2))
    name_list s e (v.Names xs) k q = (xs, q.0, (q.2, inl q.3), q.3, q.4)

    no_edge_heights : (xs : List Edge) → highest (λ (n : Edge). 0) xs ≡ 0
    no_edge_heights [] = refl
    no_edge_heights (x ∷ xs) = omega (arith, no_edge_heights xs)

    module _ (depth : ℕ) where
      pub edges_refuse : IsEdge ts (i + 1) → (fault : ReadFault) → Refusal (highest (λ (x : Edge). 0)) (ReadsEdges (i + 1)) ts (i + 1) depth fault → Refusal (λ (x : Events). 0) (SpellsEvents ts i) ts i depth fault
      edges_refuse e fault r =
          passes (highest (λ (x : Edge). 0)) (ReadsEdges (i + 1)) (λ (x : Events). 0) (SpellsEvents ts i) ts (i + 1) depth i depth 0
          (λ x k q. let o = edge_list e x k q in record { part = o.0; end = o.1; holds = o.2; lower = omega (arith, no_edge_heights o.0) }) (omega arith) (omega arith) fault r

      pub names_refuse : (IsSign ts (i + 1) (codes "*") → ⊥) → (IsEdge ts (i + 1) → ⊥) → (fault : ReadFault) → Refusal (highest (λ (x : List ℕ). 0)) (ReadsNames (i + 1)) ts (i + 1) depth fault
          → Refusal (λ (x : Events). 0) (SpellsEvents ts i) ts i depth fault
      names_refuse s e fault r =
          passes (highest (λ (x : List ℕ). 0)) (ReadsNames (i + 1)) (λ (x : Events). 0) (SpellsEvents ts i) ts (i + 1) depth i depth 0
          (λ x k q. let o = name_list s e x k q in record { part = o.0; end = o.1; holds = o.2; lower = omega (arith, no_heights o.0) }) (omega arith) (omega arith) fault r

      module _ (p : Found (List Edge)) (a : IsFound ts (highest (λ (x : Edge). 0)) (Separated (OrComma ts) (SpellsEdge ts)) ReadsEdges (i + 1) depth p) (e : IsEdge ts (i + 1)) where
        pub edges_open : (IsSign ts p.end (codes ")") → ⊥) → (x : Events) (k : ℕ) → SpellsEvents ts i x k → ⊥
        edges_open h x k q = let o = edge_list e x k q in h (subst (λ z. IsSign ts z (codes ")")) (a.only o.0 o.1 o.2) o.3)

        pub edges_only : (x : Events) (k : ℕ) → SpellsEvents ts i x k → k ≡ p.end + 1
        edges_only x k q = let o = edge_list e x k q in omega (arith, o.4, a.only o.0 o.1 o.2)

      module _ (p : Found (List (List ℕ))) (a : IsFound ts (highest (λ (x : List ℕ). 0)) (Separated (OrComma ts) (IsNamed false ts)) ReadsNames (i + 1) depth p)
          (s : IsSign ts (i + 1) (codes "*") → ⊥) (e : IsEdge ts (i + 1) → ⊥) where
        pub names_open : (IsSign ts p.end (codes ")") → ⊥) → (x : Events) (k : ℕ) → SpellsEvents ts i x k → ⊥
        names_open h x k q = let o = name_list s e x k q in h (subst (λ z. IsSign ts z (codes ")")) (a.only o.0 o.1 o.2) o.3)

        pub names_only : (x : Events) (k : ℕ) → SpellsEvents ts i x k → k ≡ p.end + 1
        names_only x k q = let o = name_list s e x k q in omega (arith, o.4, a.only o.0 o.1 o.2)
