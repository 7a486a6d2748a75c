-- Headers: the first of a list begins a group; where the whole ends, and why none is there.
use Rattle.std.proofs.Common.{ℕ, ◌+◌, ◌≡◌, ◌≤◌, max, ◌⊎◌, inl, inr, List, [], ◌∷◌, Option, Some, None, true, false, refl, sym, ap, subst, ◌∙◌, arith}
use Rattle.std.specs.Prelude.{codes}
use Rattle.vlog_tree.specs.declared.token.Token.{Token}
use Rattle.vlog_tree.specs.Signs.{IsSign, IsWord, is_reserved, is_keyword}
use Rattle.vlog_tree.specs.Spelling.{IsIdentifier, IsNamed}
use Rattle.vlog_tree.specs.Lists.{Maybe, Separated, Comma, AfterHash, highest, highest_of}
use Rattle.vlog_tree.specs.declared.item.PortKind.{PortKind}
use Rattle.vlog_tree.specs.declared.item.Shape.{Shape}
use Rattle.vlog_tree.specs.declared.item.Parameter.{Parameter}
use Rattle.vlog_tree.specs.declared.module.HeaderParameter.{HeaderParameter}
use Rattle.vlog_tree.specs.declared.module.HeaderParameter.TheVariants as r
use Rattle.vlog_tree.specs.declared.module.HeaderPort.{HeaderPort}
use Rattle.vlog_tree.specs.declared.module.HeaderPort.TheVariants as h
use Rattle.vlog_tree.specs.declared.module.Ports.{Ports}
use Rattle.vlog_tree.specs.declared.module.Ports.TheVariants as q
use Rattle.vlog_tree.specs.Modules.{SpellsShape, SpellsKind, SpellsHeaderParameter, SpellsHeaderPort, SpellsParameters, SpellsPorts, SpellsHeader, BeginsParameters, BeginsGroup, shape_height, parameter_height, header_parameter_height, header_port_height, ports_height}
use Rattle.vlog_read_spelling.proofs.Tokens.{two_signs}
use Rattle.vlog_read_spelling.proofs.Modules.{kind_word}
use Rattle.vlog_read_lex.specs.declared.error.ReadFault.{ReadFault}
use Rattle.vlog_read_expr.specs.Answers.{Refusal}
use Rattle.vlog_read_expr.specs.Names.{Lacks, RefusesIdentifier}
use Rattle.vlog_read_expr.proofs.Steps.{passes}
use Rattle.vlog_read_stmt.proofs.Passing.{lacking, lacks_refuses}
use Rattle.vlog_read.specs.declared.part.Found.{Found}
use Rattle.vlog_read.specs.Answers.{IsFound, Before, Closes, Follows, NoSign, Plain}
use Rattle.vlog_read.proofs.Steps.{no_heights}
use Rattle.vlog_read.proofs.PartSteps.{named_refuses, ReadsParameter}
use Rattle.vlog_read.proofs.EventSteps.{ReadsKind, name_plain, shape_no_net}

reserved_parameter : is_reserved false (codes "parameter") ≡ true
unfolding is_reserved is_keyword
reserved_parameter = refl

reserved_input : is_reserved false (codes "input") ≡ true
unfolding is_reserved is_keyword
reserved_input = refl

reserved_output : is_reserved false (codes "output") ≡ true
unfolding is_reserved is_keyword
reserved_output = refl

module _ (ts : List Token) where
  no_name : (i : ℕ) (n : List ℕ) (w : List ℕ) → IsIdentifier false ts i n → IsWord ts i w → is_reserved false w ≡ true → ⊥
  no_name i n w p h r = let q = p.stands in let e : n ≡ w = cc in let x : is_reserved false n ≡ true = ap (is_reserved false) e ∙ r in let y = p.free in cc

  pub begins_parameters : (i : ℕ) (xs : List HeaderParameter) (j : ℕ) → Separated (Comma ts) (SpellsHeaderParameter ts) i xs j → IsWord ts i (codes "parameter") → BeginsParameters ts xs
  begins_parameters i [] j a w = absurd a
  begins_parameters i (r.Group shape x ∷ xs) j a w = tt
  begins_parameters i (r.Again x ∷ xs) j a w = absurd (no_name i x.name (codes "parameter") a.1.0 w reserved_parameter)

  pub begins_group : (i : ℕ) (xs : List HeaderPort) (j : ℕ) → Separated (Comma ts) (SpellsHeaderPort ts) i xs j → IsWord ts i (codes "input") ⊎ IsWord ts i (codes "output") → BeginsGroup ts xs
  begins_group i [] j a w = absurd a
  begins_group i (h.Group kind shape n ∷ xs) j a w = tt
  begins_group i (h.Again n ∷ xs) j a (inl w) = absurd (no_name i n (codes "input") a.1.0 w reserved_input)
  begins_group i (h.Again n ∷ xs) j a (inr w) = absurd (no_name i n (codes "output") a.1.0 w reserved_output)

  -- where the whole ends, and why none is there
  direction_no_name : (i : ℕ) (n : List ℕ) → IsWord ts i (codes "input") ⊎ IsWord ts i (codes "output") → IsIdentifier false ts i n → ⊥
  direction_no_name i n (inl w) q = no_name i n (codes "input") q w reserved_input
  direction_no_name i n (inr w) q = no_name i n (codes "output") q w reserved_output

  abbrev pub ReadsPort : ℕ → HeaderPort → ℕ → Type 0
  ReadsPort = Before (SpellsHeaderPort ts) (Follows ts)

  port_name : (i : ℕ) → (IsWord ts i (codes "input") ⊎ IsWord ts i (codes "output") → ⊥) → (x : HeaderPort) (j : ℕ) → ReadsPort i x j → (n : List ℕ) × (m : ℕ) × IsIdentifier false ts i n × (j ≡ i + 1)
  port_name i none (h.Group kind shape n) j q = absurd (none (kind_word ts i kind q.0.0 q.0.2))
  port_name i none (h.Again n) j q = (n, j, q.0.0, q.0.1)

  pub again_only : (i : ℕ) → (IsWord ts i (codes "input") ⊎ IsWord ts i (codes "output") → ⊥) → (x : HeaderPort) (j : ℕ) → ReadsPort i x j → j ≡ i + 1
  again_only i none x j q = (port_name i none x j q).3

  pub again_refuses : (i depth : ℕ) → (IsWord ts i (codes "input") ⊎ IsWord ts i (codes "output") → ⊥) → (fault : ReadFault) → RefusesIdentifier false ts i fault → Refusal header_port_height (ReadsPort i) ts i depth fault
  again_refuses i depth none = named_refuses header_port_height (ReadsPort i) ts i depth i (λ x j q. let o = port_name i none x j q in (o.0, o.1, o.2))

  module _ (i : ℕ) (here : IsWord ts i (codes "input") ⊎ IsWord ts i (codes "output")) where
    -- a group by its parts
    pub record GroupParts (tree : HeaderPort) (j : ℕ) : Type 0 where
      pub kind : PortKind
      pub at : ℕ
      pub shape : Shape
      pub past : ℕ
      pub name : List ℕ
      pub reads_kind : ReadsKind ts i kind at
      pub reads_shape : Before (SpellsShape ts) (Plain ts) at shape past
      pub named : IsNamed false ts past name j
      pub lower : shape_height shape ≤ header_port_height tree

    pub group_parts : (x : HeaderPort) (j : ℕ) → ReadsPort i x j → GroupParts x j
    group_parts (h.Group kind shape n) j q = record {
      kind = kind;
      at = q.0.0;
      shape = shape;
      past = q.0.1;
      name = n;
      reads_kind = (q.0.2, shape_no_net ts q.0.0 shape q.0.1 n q.0.3 q.0.4.0);
      reads_shape = (q.0.3, name_plain ts q.0.1 n q.0.4.0);
      named = q.0.4;
      lower = omega arith;
    }
    group_parts (h.Again n) j q = absurd (direction_no_name i n here q.0.0)

    module _ (depth : ℕ) where
      pub group_kind : (fault : ReadFault) → Lacks (ReadsKind ts i) fault → Refusal header_port_height (ReadsPort i) ts i depth fault
      group_kind fault r =
          lacks_refuses header_port_height (ReadsPort i) ts i depth fault (lacking (ReadsKind ts i) (ReadsPort i) (λ x j q. let g = group_parts x j q in (g.kind, g.at, g.reads_kind)) fault r)

      module _ (p : Found PortKind) (a : IsFound ts (λ _. 0) (SpellsKind ts) (ReadsKind ts) i 0 p) where
        at_shape : (x : HeaderPort) (j : ℕ) (g : GroupParts x j) → Before (SpellsShape ts) (Plain ts) p.end g.shape g.past
        at_shape x j g = subst (λ z. Before (SpellsShape ts) (Plain ts) z g.shape g.past) (a.only g.kind g.at g.reads_kind) g.reads_shape

        pub group_shape : (fault : ReadFault) → Refusal shape_height (Before (SpellsShape ts) (Plain ts) p.end) ts p.end depth fault → Refusal header_port_height (ReadsPort i) ts i depth fault
        group_shape fault r =
            passes shape_height (Before (SpellsShape ts) (Plain ts) p.end) header_port_height (ReadsPort i) ts p.end depth i depth 0
            (λ x j q. let g = group_parts x j q in record { part = g.shape; end = g.past; holds = at_shape x j g; lower = omega (arith, g.lower) }) (omega (arith, a.past)) (omega arith) fault r

        module _ (s : Found Shape) (b : IsFound ts shape_height (SpellsShape ts) (Before (SpellsShape ts) (Plain ts)) p.end depth s) where
          pub at_name : (x : HeaderPort) (j : ℕ) (g : GroupParts x j) → g.past ≡ s.end
          at_name x j g = b.only g.shape g.past (at_shape x j g)

          pub group_only : (x : HeaderPort) (j : ℕ) → ReadsPort i x j → j ≡ s.end + 1
          group_only x j q = let g = group_parts x j q in omega (arith, g.named.1, at_name x j g)

          pub group_name : (fault : ReadFault) → RefusesIdentifier false ts s.end fault → Refusal header_port_height (ReadsPort i) ts i depth fault
          group_name = named_refuses header_port_height (ReadsPort i) ts i depth s.end
              (λ x j q. let g = group_parts x j q in (g.name, j, subst (λ z. IsIdentifier false ts z g.name) (at_name x j g) g.named.0))

  -- parameters of a header
  abbrev pub ReadsHeaderParameter : ℕ → HeaderParameter → ℕ → Type 0
  ReadsHeaderParameter = Before (SpellsHeaderParameter ts) (Follows ts)

  pub again_parameter : (i : ℕ) → (IsWord ts i (codes "parameter") → ⊥) → (x : HeaderParameter) (j : ℕ) → ReadsHeaderParameter i x j
      → (y : Parameter) × ReadsParameter ts i y j × (parameter_height y ≤ header_parameter_height x)
  again_parameter i none (r.Group shape x) j q = absurd (none q.0.1)
  again_parameter i none (r.Again x) j q = (x, q, omega arith)

  pub again_parameter_refuses : (i depth : ℕ) → (IsWord ts i (codes "parameter") → ⊥) → (fault : ReadFault) → Refusal parameter_height (ReadsParameter ts i) ts i depth fault
      → Refusal header_parameter_height (ReadsHeaderParameter i) ts i depth fault
  again_parameter_refuses i depth none fault u =
      passes parameter_height (ReadsParameter ts i) header_parameter_height (ReadsHeaderParameter i) ts i depth i depth 0
      (λ x j q. let o = again_parameter i none x j q in record { part = o.0; end = j; holds = o.1; lower = omega (arith, o.2) }) (omega arith) (omega arith) fault u

  module _ (i : ℕ) (here : IsWord ts i (codes "parameter")) where
    parameter_parts : (x : HeaderParameter) (j : ℕ) → ReadsHeaderParameter i x j
        → (s : Shape) × (y : Parameter) × (m : ℕ) × Before (SpellsShape ts) (Plain ts) (i + 1) s m × ReadsParameter ts m y j × (max (shape_height s) (parameter_height y) ≤ header_parameter_height x)
    parameter_parts (r.Group shape x) j q = (shape, x, q.0.0, (q.0.2, name_plain ts q.0.0 x.name q.0.3.0), (q.0.3, q.1), omega arith)
    parameter_parts (r.Again x) j q = absurd (no_name i x.name (codes "parameter") q.0.0 here reserved_parameter)

    module _ (depth : ℕ) where
      pub parameter_shape : (fault : ReadFault) → Refusal shape_height (Before (SpellsShape ts) (Plain ts) (i + 1)) ts (i + 1) depth fault → Refusal header_parameter_height (ReadsHeaderParameter i) ts i depth fault
      parameter_shape fault u =
          passes shape_height (Before (SpellsShape ts) (Plain ts) (i + 1)) header_parameter_height (ReadsHeaderParameter i) ts (i + 1) depth i depth 0
          (λ x j q. let o = parameter_parts x j q in record { part = o.0; end = o.2; holds = o.3; lower = omega (arith, o.5) }) (omega arith) (omega arith) fault u

      module _ (s : Found Shape) (b : IsFound ts shape_height (SpellsShape ts) (Before (SpellsShape ts) (Plain ts)) (i + 1) depth s) where
        pub parameter_at : (x : HeaderParameter) (j : ℕ) → ReadsHeaderParameter i x j → (y : Parameter) × ReadsParameter ts s.end y j × (parameter_height y ≤ header_parameter_height x)
        parameter_at x j q =
            let o = parameter_parts x j q in (o.1, subst (λ z. ReadsParameter ts z o.1 j) (b.only o.0 o.2 o.3) o.4, omega (arith, o.5))

        pub parameter_value : (fault : ReadFault) → Refusal parameter_height (ReadsParameter ts s.end) ts s.end depth fault → Refusal header_parameter_height (ReadsHeaderParameter i) ts i depth fault
        parameter_value fault u =
            passes parameter_height (ReadsParameter ts s.end) header_parameter_height (ReadsHeaderParameter i) ts s.end depth i depth 0
            (λ x j q. let o = parameter_at x j q in record { part = o.0; end = j; holds = o.1; lower = omega (arith, o.2) }) (omega (arith, b.past)) (omega arith) fault u

  -- `#` and parameters in parentheses
  abbrev pub ReadsParameters : ℕ → Option (List HeaderParameter) → ℕ → Type 0
  ReadsParameters = Before (Maybe (AfterHash ts (SpellsParameters ts))) (NoSign (codes "#") ts)

  abbrev pub ParameterList : ℕ → List HeaderParameter → ℕ → Type 0
  ParameterList = Before (Separated (Comma ts) (SpellsHeaderParameter ts)) (Closes ts)

  abbrev pub tall_of : Option (List HeaderParameter) → ℕ
  tall_of = highest_of (highest header_parameter_height)

  pub no_parameters : (i : ℕ) → (IsSign ts i (codes "#") → ⊥) → (x : Option (List HeaderParameter)) (j : ℕ) → ReadsParameters i x j → j ≡ i
  no_parameters i none None j q = sym q.0
  no_parameters i none (Some xs) j q = absurd (none q.0.0)

  first_parameter : (i : ℕ) (xs : List HeaderParameter) (j : ℕ) → BeginsParameters ts xs → Separated (Comma ts) (SpellsHeaderParameter ts) i xs j → IsWord ts i (codes "parameter")
  first_parameter i [] j g q = absurd g
  first_parameter i (r.Group shape x ∷ xs) j g q = q.1.1
  first_parameter i (r.Again x ∷ xs) j g q = absurd g

  module _ (i : ℕ) (hash : IsSign ts i (codes "#")) where
    hashed : (x : Option (List HeaderParameter)) (j : ℕ) → ReadsParameters i x j
        → (xs : List HeaderParameter) × (m : ℕ) × IsSign ts (i + 1) (codes "(") × IsWord ts (i + 2) (codes "parameter") × ParameterList (i + 2) xs m × IsSign ts m (codes ")") × (j ≡ m + 1)
        × (highest header_parameter_height xs ≤ tall_of x)
    hashed None j q = absurd (q.1 (subst (λ z. IsSign ts z (codes "#")) q.0 hash))
    hashed (Some xs) j ((sign, (m, o, (g, l), c, e)), n) =
        let at : i + 1 + 1 ≡ i + 2 = omega arith in
        let l' : Separated (Comma ts) (SpellsHeaderParameter ts) (i + 2) xs m = subst (λ z. Separated (Comma ts) (SpellsHeaderParameter ts) z xs m) at l in
        (xs, m, o, first_parameter (i + 2) xs m g l', (l', inl c), c, e, omega arith)

    pub hash_shut : (IsSign ts (i + 1) (codes "(") → ⊥) → (x : Option (List HeaderParameter)) (j : ℕ) → ReadsParameters i x j → ⊥
    hash_shut none x j q = none (hashed x j q).2

    pub hash_no_parameter : (IsWord ts (i + 2) (codes "parameter") → ⊥) → (x : Option (List HeaderParameter)) (j : ℕ) → ReadsParameters i x j → ⊥
    hash_no_parameter none x j q = none (hashed x j q).3

    module _ (depth : ℕ) where
      pub hash_refuses : (fault : ReadFault) → Refusal (highest header_parameter_height) (ParameterList (i + 2)) ts (i + 2) depth fault → Refusal tall_of (ReadsParameters i) ts i depth fault
      hash_refuses fault u =
          passes (highest header_parameter_height) (ParameterList (i + 2)) tall_of (ReadsParameters i) ts (i + 2) depth i depth 0
          (λ x j q. let o = hashed x j q in record { part = o.0; end = o.1; holds = o.4; lower = omega (arith, o.7) }) (omega arith) (omega arith) fault u

      module _ (p : Found (List HeaderParameter)) (a : IsFound ts (highest header_parameter_height) (Separated (Comma ts) (SpellsHeaderParameter ts)) ParameterList (i + 2) depth p) where
        pub hash_open : (IsSign ts p.end (codes ")") → ⊥) → (x : Option (List HeaderParameter)) (j : ℕ) → ReadsParameters i x j → ⊥
        hash_open none x j q = let o = hashed x j q in none (subst (λ z. IsSign ts z (codes ")")) (a.only o.0 o.1 o.4) o.5)

        pub hash_only : (x : Option (List HeaderParameter)) (j : ℕ) → ReadsParameters i x j → j ≡ p.end + 1
        hash_only x j q = let o = hashed x j q in omega (arith, o.6, a.only o.0 o.1 o.4)

  -- ports
  abbrev pub ReadsPorts : ℕ → Ports → ℕ → Type 0
  ReadsPorts = Before (SpellsPorts ts) (Closes ts)

  abbrev pub GroupList : ℕ → List HeaderPort → ℕ → Type 0
  GroupList = Before (Separated (Comma ts) (SpellsHeaderPort ts)) (Closes ts)

  abbrev pub NameList : ℕ → List (List ℕ) → ℕ → Type 0
  NameList = Before (Separated (Comma ts) (IsNamed false ts)) (Closes ts)

  first_direction : (i : ℕ) (xs : List HeaderPort) (j : ℕ) → BeginsGroup ts xs → Separated (Comma ts) (SpellsHeaderPort ts) i xs j → IsWord ts i (codes "input") ⊎ IsWord ts i (codes "output")
  first_direction i [] j g q = absurd g
  first_direction i (h.Group kind shape n ∷ xs) j g q = kind_word ts i kind q.1.0 q.1.2
  first_direction i (h.Again n ∷ xs) j g q = absurd g

  pub groups_of : (i : ℕ) → IsWord ts i (codes "input") ⊎ IsWord ts i (codes "output") → (x : Ports) (j : ℕ) → ReadsPorts i x j → (xs : List HeaderPort) × GroupList i xs j × (highest header_port_height xs ≤ ports_height x)
  groups_of i here (q.Names []) j u = absurd u.0
  groups_of i here (q.Names (n ∷ ns)) j u = absurd (direction_no_name i n here u.0.1.0)
  groups_of i here (q.Groups xs) j u = (xs, (u.0.1, u.1), omega arith)

  pub names_of : (i : ℕ) → (IsWord ts i (codes "input") ⊎ IsWord ts i (codes "output") → ⊥) → (x : Ports) (j : ℕ) → ReadsPorts i x j → (xs : List (List ℕ)) × NameList i xs j
  names_of i none (q.Names ns) j u = (ns, (u.0, u.1))
  names_of i none (q.Groups xs) j u = absurd (none (first_direction i xs j u.0.0 u.0.1))

  pub groups_refuse : (i depth : ℕ) → IsWord ts i (codes "input") ⊎ IsWord ts i (codes "output") → (fault : ReadFault) → Refusal (highest header_port_height) (GroupList i) ts i depth fault → Refusal ports_height (ReadsPorts i) ts i depth fault
  groups_refuse i depth here fault u =
      passes (highest header_port_height) (GroupList i) ports_height (ReadsPorts i) ts i depth i depth 0
      (λ x j q. let o = groups_of i here x j q in record { part = o.0; end = j; holds = o.1; lower = omega (arith, o.2) }) (omega arith) (omega arith) fault u

  pub names_refuse : (i depth : ℕ) → (IsWord ts i (codes "input") ⊎ IsWord ts i (codes "output") → ⊥) → (fault : ReadFault) → Refusal (highest (λ (n : List ℕ). 0)) (NameList i) ts i depth fault
      → Refusal ports_height (ReadsPorts i) ts i depth fault
  names_refuse i depth none fault u =
      passes (highest (λ (n : List ℕ). 0)) (NameList i) ports_height (ReadsPorts i) ts i depth i depth 0
      (λ x j q. let o = names_of i none x j q in record { part = o.0; end = j; holds = o.1; lower = omega (arith, no_heights o.0) }) (omega arith) (omega arith) fault u

  abbrev pub ReadsHeader : ℕ → Option Ports → ℕ → Type 0
  ReadsHeader = Before (SpellsHeader ts) (λ z. IsSign ts z (codes ";"))

  semicolon_no_open : (i : ℕ) → IsSign ts i (codes ";") → IsSign ts i (codes "(") → ⊥
  semicolon_no_open i u w = two_signs ts i (codes ";") (codes "(") refl u w

  ports_no_close : (i : ℕ) (x : Ports) (j : ℕ) → SpellsPorts ts i x j → IsSign ts i (codes ")") → ⊥
  ports_no_close i (q.Names []) j a here = a
  ports_no_close i (q.Names (x ∷ xs)) j a here = let u = a.1.0.stands in cc
  ports_no_close i (q.Groups xs) j a here = by (first_direction i xs j a.0 a.1)
    where
      by : IsWord ts i (codes "input") ⊎ IsWord ts i (codes "output") → ⊥
      by (inl u) = cc
      by (inr u) = cc

  pub no_header : (i : ℕ) → (IsSign ts i (codes "(") → ⊥) → (x : Option Ports) (j : ℕ) → ReadsHeader i x j → j ≡ i
  no_header i none None j (inl a, b) = sym a
  no_header i none None j (inr a, b) = absurd (none a.0)
  no_header i none (Some x) j (a, b) = absurd (none a.1)

  module _ (i : ℕ) (opens : IsSign ts i (codes "(")) where
    pub empty_header : IsSign ts (i + 1) (codes ")") → (x : Option Ports) (j : ℕ) → ReadsHeader i x j → j ≡ i + 2
    empty_header close None j (inl a, b) = absurd (semicolon_no_open i (subst (λ z. IsSign ts z (codes ";")) (sym a) b) opens)
    empty_header close None j (inr a, b) = a.2
    empty_header close (Some x) j (a, b) = absurd (ports_no_close (i + 1) x a.0 a.2 close)

    some_header : (IsSign ts (i + 1) (codes ")") → ⊥) → (x : Option Ports) (j : ℕ) → ReadsHeader i x j
        → (y : Ports) × (m : ℕ) × ReadsPorts (i + 1) y m × IsSign ts m (codes ")") × (j ≡ m + 1) × (ports_height y ≤ highest_of ports_height x)
    some_header close None j (inl a, b) = absurd (semicolon_no_open i (subst (λ z. IsSign ts z (codes ";")) (sym a) b) opens)
    some_header close None j (inr a, b) = absurd (close a.1)
    some_header close (Some x) j (a, b) = (x, a.0, (a.2, inl a.3), a.3, a.4, omega arith)

    module _ (depth : ℕ) (close : IsSign ts (i + 1) (codes ")") → ⊥) where
      pub header_refuses : (fault : ReadFault) → Refusal ports_height (ReadsPorts (i + 1)) ts (i + 1) depth fault → Refusal (highest_of ports_height) (ReadsHeader i) ts i depth fault
      header_refuses fault u =
          passes ports_height (ReadsPorts (i + 1)) (highest_of ports_height) (ReadsHeader i) ts (i + 1) depth i depth 0
          (λ x j q. let o = some_header close x j q in record { part = o.0; end = o.1; holds = o.2; lower = omega (arith, o.5) }) (omega arith) (omega arith) fault u

      module _ (p : Found Ports) (a : IsFound ts ports_height (SpellsPorts ts) ReadsPorts (i + 1) depth p) where
        pub header_open : (IsSign ts p.end (codes ")") → ⊥) → (x : Option Ports) (j : ℕ) → ReadsHeader i x j → ⊥
        header_open none x j q = let o = some_header close x j q in none (subst (λ z. IsSign ts z (codes ")")) (a.only o.0 o.1 o.2) o.3)

        pub header_only : (x : Option Ports) (j : ℕ) → ReadsHeader i x j → j ≡ p.end + 1
        header_only x j q = let o = some_header close x j q in omega (arith, o.4, a.only o.0 o.1 o.2)

  -- no `#` stands before a semicolon's header
  pub header_no_hash : (i : ℕ) (x : Option Ports) (j : ℕ) → SpellsHeader ts i x j → IsSign ts j (codes ";") → IsSign ts i (codes "#") → ⊥
  header_no_hash i None j (inl a) u here = two_signs ts i (codes ";") (codes "#") refl (subst (λ z. IsSign ts z (codes ";")) (sym a) u) here
  header_no_hash i None j (inr a) u here = two_signs ts i (codes "(") (codes "#") refl a.0 here
  header_no_hash i (Some x) j a u here = two_signs ts i (codes "(") (codes "#") refl a.1 here
