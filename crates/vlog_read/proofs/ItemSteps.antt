-- Items and modules, one after another: what is read, and why no whole is there.
use Rattle.std.proofs.Common.{ℕ, ◌+◌, ◌-◌, ◌≡◌, ◌<◌, ◌≤◌, max, ◌⊎◌, inl, inr, List, [], ◌∷◌, ◌++◌, length, Option, false, refl, sym, ap, subst, arith}
use Rattle.std.specs.Prelude.{codes}
use Rattle.vlog_tree.specs.declared.token.Token.{Token}
use Rattle.vlog_tree.specs.declared.token.Kind.TheVariants as k
use Rattle.vlog_tree.specs.declared.stmt.Stmt.{Stmt}
use Rattle.vlog_tree.specs.declared.stmt.Events.{Events}
use Rattle.vlog_tree.specs.declared.item.Item.{Item}
use Rattle.vlog_tree.specs.declared.item.Item.TheVariants as t
use Rattle.vlog_tree.specs.declared.item.Shape.{Shape}
use Rattle.vlog_tree.specs.declared.item.PortKind.{PortKind}
use Rattle.vlog_tree.specs.declared.item.Wire.{Wire}
use Rattle.vlog_tree.specs.declared.item.Register.{Register}
use Rattle.vlog_tree.specs.declared.item.Parameter.{Parameter}
use Rattle.vlog_tree.specs.declared.item.Assign.{Assign}
use Rattle.vlog_tree.specs.declared.item.Args.{Args}
use Rattle.vlog_tree.specs.declared.item.Instance.{Instance}
use Rattle.vlog_tree.specs.declared.module.HeaderParameter.{HeaderParameter}
use Rattle.vlog_tree.specs.declared.module.Ports.{Ports}
use Rattle.vlog_tree.specs.declared.module.Module.{Module}
use Rattle.vlog_tree.specs.Signs.{IsSign, IsWord}
use Rattle.vlog_tree.specs.Lists.{Maybe, AfterHash, Sequence, UpToEnd, highest, highest_of}
use Rattle.vlog_tree.specs.Spelling.{IsIdentifier, IsNamed}
use Rattle.vlog_tree.specs.Statements.{SpellsEvents, stmt_height}
use Rattle.vlog_tree.specs.Modules.{SpellsShape, SpellsKind, SpellsWire, SpellsRegister, SpellsParameter, SpellsAssign, SpellsArgs, SpellsInstance, SpellsItem, SpellsHeader, SpellsModule, SpellsFile, header_parameter_height, ports_height, wire_height, register_height, parameter_height, assign_height, args_height, instance_height, item_height, module_height, file_height}
use Rattle.vlog_read_spelling.proofs.Tokens.{kind_within}
use Rattle.vlog_read_spelling.proofs.Modules.{kind_word, items_no_else, item_no_endmodule, ItemForm, item_form_as, item_head, item_kind, port, wire, register, parameter, local_parameter, assign, always}
use Rattle.vlog_read_lex.specs.declared.error.ReadFault.{ReadFault}
use Rattle.vlog_read_lex.specs.declared.error.ReadFault.TheVariants as f
use Rattle.vlog_read_expr.specs.Answers.{IsDeep, Refusal}
use Rattle.vlog_read_expr.specs.Names.{Lacks, RefusesIdentifier}
use Rattle.vlog_read_expr.proofs.Steps.{Has, passes}
use Rattle.vlog_read_stmt.specs.declared.stmt.ParsedStmt.{ParsedStmt}
use Rattle.vlog_read_stmt.specs.Answers.{ReadsStmt, IsStmt, RefusesStmt}
use Rattle.vlog_read_stmt.proofs.Passing.{lacking, lacks_refuses, highest-append, sequence_snoc}
use Rattle.vlog_read_stmt.proofs.StmtSteps.{unique_stmt}
use Rattle.vlog_read.specs.declared.part.Found.{Found}
use Rattle.vlog_read.specs.declared.declaration.Declared.{Declared}
use Rattle.vlog_read.specs.declared.module.Head.{Head}
use Rattle.vlog_read.specs.Answers.{IsFound, NoSign, ReadsItem, NamesModule, ReadsItems}
use Rattle.vlog_read.specs.Declarations.{declared_height, ReadsDeclared}
use Rattle.vlog_read.specs.Headers.{SpellsHead, head_height}
use Rattle.vlog_read.specs.Texts.{RefusesTokens}
use Rattle.vlog_read.proofs.Steps.{no_heights, kind_forward}
use Rattle.vlog_read.proofs.PartSteps.{named_refuses}
use Rattle.vlog_read.proofs.EventSteps.{ReadsKind, name_plain, shape_no_net}
use Rattle.vlog_read.proofs.InstanceSteps.{Hashed}
use Rattle.vlog_read.proofs.HeaderSteps.{ReadsParameters, ReadsHeader, header_no_hash}

item_height_pos : (x : Item) → 0 < item_height x
item_height_pos (t.Ports kind shape xs) = omega arith
item_height_pos (t.Wires shape xs) = omega arith
item_height_pos (t.Registers shape xs) = omega arith
item_height_pos (t.Parameters shape xs) = omega arith
item_height_pos (t.LocalParameters shape xs) = omega arith
item_height_pos (t.Assigns xs) = omega arith
item_height_pos (t.Always events body) = omega arith
item_height_pos (t.Instances n o xs) = omega arith

module _ (ts : List Token) where
  direction_within : (i : ℕ) → IsWord ts i (codes "input") ⊎ IsWord ts i (codes "output") → i < length ts
  direction_within i (inl w) = kind_within ts i (k.Word (codes "input")) w
  direction_within i (inr w) = kind_within ts i (k.Word (codes "output")) w

  item_within : (i : ℕ) (x : Item) (j : ℕ) → SpellsItem ts i x j → i < length ts
  item_within i (t.Ports kind shape xs) j a = direction_within i (kind_word ts i kind a.0 a.2)
  item_within i (t.Wires shape xs) j a = kind_within ts i (k.Word (codes "wire")) a.1
  item_within i (t.Registers shape xs) j a = kind_within ts i (k.Word (codes "reg")) a.1
  item_within i (t.Parameters shape xs) j a = kind_within ts i (k.Word (codes "parameter")) a.1
  item_within i (t.LocalParameters shape xs) j a = kind_within ts i (k.Word (codes "localparam")) a.1
  item_within i (t.Assigns xs) j a = kind_within ts i (k.Word (codes "assign")) a.0
  item_within i (t.Always events body) j a = kind_within ts i (k.Word (codes "always")) a.1
  item_within i (t.Instances n o xs) j a = kind_within ts i (k.Word n) a.1.stands

  pub item_past_end : (i : ℕ) → length ts ≤ i → (x : Item) (j : ℕ) → ReadsItem ts i x j → ⊥
  item_past_end i h x j q = omega (arith, h, item_within i x j q.0)

  pub item_deep : (i depth : ℕ) → i < length ts → depth ≡ 0 → IsDeep item_height (ReadsItem ts i) ts i depth
  item_deep i depth h zero = record { higher = λ x j q. omega (arith, zero, item_height_pos x); tokens = omega (arith, h, zero) }

  -- declarations
  module _ {A : Type 0} (P : ℕ → A → ℕ → Type 0) (name : A → List ℕ) (begins : (i : ℕ) (a : A) (j : ℕ) → P i a j → IsIdentifier false ts i (name a)) where
    first_named : (i : ℕ) (xs : List A) (j : ℕ) → UpToEnd ts P i xs j → (n : List ℕ) × IsIdentifier false ts i n
    first_named i [] j q = absurd q.1
    first_named i (x ∷ xs) j q = (name x, begins i x q.1.0 q.1.1)

    declared : (i : ℕ) (s : Shape) (xs : List A) (m j : ℕ) → SpellsShape ts i s m → UpToEnd ts P m xs j → ReadsDeclared ts P i (record { shape = s; items = xs }) j
    declared i s xs m j a b = let n = first_named m xs j b in (m, a, b, name_plain ts m n.0 n.1)

  module _ (i depth : ℕ) where
    -- ports
    port_parts : IsWord ts i (codes "input") ⊎ IsWord ts i (codes "output") → (x : Item) (j : ℕ) → ReadsItem ts i x j
        → (kind : PortKind) × (m : ℕ) × ReadsKind ts i kind m × (d : Declared (List ℕ)) × ReadsDeclared ts (IsNamed false ts) m d j × (declared_height (λ (n : List ℕ). 0) d + 1 ≤ item_height x)
    port_parts here x j q = by (item_form_as ts i x j port q.0 (head here))
      where
        head : IsWord ts i (codes "input") ⊎ IsWord ts i (codes "output") → item_head ts i ≡ port
        head (inl w) = ap item_kind w
        head (inr w) = ap item_kind w

        by : ItemForm ts i x j port
            → (kind : PortKind) × (m : ℕ) × ReadsKind ts i kind m × (d : Declared (List ℕ)) × ReadsDeclared ts (IsNamed false ts) m d j × (declared_height (λ (n : List ℕ). 0) d + 1 ≤ item_height x)
        by g =
            let a = g.4 in
            let n = first_named (IsNamed false ts) (λ x. x) (λ i x j p. p.0) a.1 g.2 j a.4 in (
              g.0,
              a.0,
              (a.2, shape_no_net ts a.0 g.1 a.1 n.0 a.3 n.1),
              record { shape = g.1; items = g.2 },
              declared (IsNamed false ts) (λ x. x) (λ i x j p. p.0) a.0 g.1 g.2 a.1 j a.3 a.4,
              omega (arith, ap item_height g.3, no_heights g.2),
            )

    pub ports_kind : IsWord ts i (codes "input") ⊎ IsWord ts i (codes "output") → (fault : ReadFault) → Lacks (ReadsKind ts i) fault → Refusal item_height (ReadsItem ts i) ts i depth fault
    ports_kind here fault u =
        lacks_refuses item_height (ReadsItem ts i) ts i depth fault (lacking (ReadsKind ts i) (ReadsItem ts i) (λ x j q. let o = port_parts here x j q in (o.0, o.1, o.2)) fault u)

    module _ (here : IsWord ts i (codes "input") ⊎ IsWord ts i (codes "output")) (p : Found PortKind) (a : IsFound ts (λ _. 0) (SpellsKind ts) (ReadsKind ts) i 0 p) where
      pub ports_at : (x : Item) (j : ℕ) → ReadsItem ts i x j
          → (d : Declared (List ℕ)) × ReadsDeclared ts (IsNamed false ts) p.end d j × (declared_height (λ (n : List ℕ). 0) d + 1 ≤ item_height x)
      ports_at x j q = let o = port_parts here x j q in (o.3, subst (λ z. ReadsDeclared ts (IsNamed false ts) z o.3 j) (a.only o.0 o.1 o.2) o.4, o.5)

      pub ports_rest : (fault : ReadFault) → Refusal (declared_height (λ (n : List ℕ). 0)) (ReadsDeclared ts (IsNamed false ts) p.end) ts p.end (depth - 1) fault → Refusal item_height (ReadsItem ts i) ts i depth fault
      ports_rest fault u =
          passes (declared_height (λ (n : List ℕ). 0)) (ReadsDeclared ts (IsNamed false ts) p.end) item_height (ReadsItem ts i) ts p.end (depth - 1) i depth 1
          (λ x j q. let o = ports_at x j q in record { part = o.0; end = j; holds = o.1; lower = o.2 }) (omega (arith, kind_forward ts i p.tree p.end a.spelt)) (omega arith) fault u

    -- the other declarations
    pub wire_declared : IsWord ts i (codes "wire") → (x : Item) (j : ℕ) → ReadsItem ts i x j → (d : Declared Wire) × ReadsDeclared ts (SpellsWire ts) (i + 1) d j × (declared_height wire_height d + 1 ≤ item_height x)
    wire_declared here x j q =
        let g = item_form_as ts i x j wire q.0 (ap item_kind here) in
        (record { shape = g.0; items = g.1 }, declared (SpellsWire ts) (λ x. x.name) (λ i x j p. p.0) (i + 1) g.0 g.1 g.3.0 j g.3.2 g.3.3, omega (arith, ap item_height g.2))

    pub register_declared : IsWord ts i (codes "reg") → (x : Item) (j : ℕ) → ReadsItem ts i x j → (d : Declared Register) × ReadsDeclared ts (SpellsRegister ts) (i + 1) d j × (declared_height register_height d + 1 ≤ item_height x)
    register_declared here x j q =
        let g = item_form_as ts i x j register q.0 (ap item_kind here) in
        (record { shape = g.0; items = g.1 }, declared (SpellsRegister ts) (λ x. x.name) (λ i x j p. p.0) (i + 1) g.0 g.1 g.3.0 j g.3.2 g.3.3, omega (arith, ap item_height g.2))

    pub parameter_declared : IsWord ts i (codes "parameter") → (x : Item) (j : ℕ) → ReadsItem ts i x j → (d : Declared Parameter) × ReadsDeclared ts (SpellsParameter ts) (i + 1) d j × (declared_height parameter_height d + 1 ≤ item_height x)
    parameter_declared here x j q =
        let g = item_form_as ts i x j parameter q.0 (ap item_kind here) in
        (record { shape = g.0; items = g.1 }, declared (SpellsParameter ts) (λ x. x.name) (λ i x j p. p.0) (i + 1) g.0 g.1 g.3.0 j g.3.2 g.3.3, omega (arith, ap item_height g.2))

    pub local_declared : IsWord ts i (codes "localparam") → (x : Item) (j : ℕ) → ReadsItem ts i x j → (d : Declared Parameter) × ReadsDeclared ts (SpellsParameter ts) (i + 1) d j × (declared_height parameter_height d + 1 ≤ item_height x)
    local_declared here x j q =
        let g = item_form_as ts i x j local_parameter q.0 (ap item_kind here) in
        (record { shape = g.0; items = g.1 }, declared (SpellsParameter ts) (λ x. x.name) (λ i x j p. p.0) (i + 1) g.0 g.1 g.3.0 j g.3.2 g.3.3, omega (arith, ap item_height g.2))

    pub declared_refuses : {A : Type 0} (h : A → ℕ) (P : ℕ → A → ℕ → Type 0) → ((x : Item) (j : ℕ) → ReadsItem ts i x j → (d : Declared A) × ReadsDeclared ts P (i + 1) d j × (declared_height h d + 1 ≤ item_height x))
        → (fault : ReadFault) → Refusal (declared_height h) (ReadsDeclared ts P (i + 1)) ts (i + 1) (depth - 1) fault → Refusal item_height (ReadsItem ts i) ts i depth fault
    declared_refuses h P has fault u =
        passes (declared_height h) (ReadsDeclared ts P (i + 1)) item_height (ReadsItem ts i) ts (i + 1) (depth - 1) i depth 1
        (λ x j q. let o = has x j q in record { part = o.0; end = j; holds = o.1; lower = o.2 }) (omega arith) (omega arith) fault u

    -- assignments
    pub assign_list : IsWord ts i (codes "assign") → (x : Item) (j : ℕ) → ReadsItem ts i x j → (xs : List Assign) × UpToEnd ts (SpellsAssign ts) (i + 1) xs j × (highest assign_height xs + 1 ≤ item_height x)
    assign_list here x j q = let g = item_form_as ts i x j assign q.0 (ap item_kind here) in (g.0, g.2.1, omega (arith, ap item_height g.1))

    pub assigns_refuse : IsWord ts i (codes "assign") → (fault : ReadFault) → Refusal (highest assign_height) (UpToEnd ts (SpellsAssign ts) (i + 1)) ts (i + 1) (depth - 1) fault → Refusal item_height (ReadsItem ts i) ts i depth fault
    assigns_refuse here fault u =
        passes (highest assign_height) (UpToEnd ts (SpellsAssign ts) (i + 1)) item_height (ReadsItem ts i) ts (i + 1) (depth - 1) i depth 1
        (λ x j q. let o = assign_list here x j q in record { part = o.0; end = j; holds = o.1; lower = o.2 }) (omega arith) (omega arith) fault u

    -- always
    always_parts : IsWord ts i (codes "always") → (x : Item) (j : ℕ) → ReadsItem ts i x j
        → (e : Events) × (m : ℕ) × (body : Stmt) × IsSign ts (i + 1) (codes "@") × SpellsEvents ts (i + 2) e m × ReadsStmt ts m body j × (stmt_height body + 1 ≤ item_height x)
    always_parts here x j q =
        let g = item_form_as ts i x j always q.0 (ap item_kind here) in
        (g.0, g.3.0, g.1, g.3.2, g.3.3, record { spelt = g.3.4; ends = λ w o. q.1 w }, omega (arith, ap item_height g.2))

    module _ (here : IsWord ts i (codes "always")) where
      pub always_shut : (IsSign ts (i + 1) (codes "@") → ⊥) → (x : Item) (j : ℕ) → ReadsItem ts i x j → ⊥
      always_shut none x j q = none (always_parts here x j q).3

      pub events_refuse : (fault : ReadFault) → Refusal (λ (e : Events). 0) (SpellsEvents ts (i + 2)) ts (i + 2) (depth - 1) fault → Refusal item_height (ReadsItem ts i) ts i depth fault
      events_refuse fault u =
          passes (λ (e : Events). 0) (SpellsEvents ts (i + 2)) item_height (ReadsItem ts i) ts (i + 2) (depth - 1) i depth 1
          (λ x j q. let o = always_parts here x j q in record { part = o.0; end = o.1; holds = o.4; lower = omega (arith, item_height_pos x) }) (omega arith) (omega arith) fault u

      module _ (p : Found Events) (a : IsFound ts (λ (e : Events). 0) (SpellsEvents ts) (SpellsEvents ts) (i + 2) (depth - 1) p) where
        body_at : (x : Item) (j : ℕ) → ReadsItem ts i x j → (body : Stmt) × ReadsStmt ts p.end body j × (stmt_height body + 1 ≤ item_height x)
        body_at x j q = let o = always_parts here x j q in (o.2, subst (λ z. ReadsStmt ts z o.2 j) (a.only o.0 o.1 o.4) o.5, o.6)

        pub body_refuses : (fault : ReadFault) → RefusesStmt ts p.end (depth - 1) fault → Refusal item_height (ReadsItem ts i) ts i depth fault
        body_refuses fault u =
            passes stmt_height (ReadsStmt ts p.end) item_height (ReadsItem ts i) ts p.end (depth - 1) i depth 1
            (λ x j q. let o = body_at x j q in record { part = o.0; end = j; holds = o.1; lower = o.2 }) (omega (arith, a.past)) (omega arith) fault u

        pub always_only : (s : ParsedStmt) → IsStmt ts p.end (depth - 1) s → (x : Item) (j : ℕ) → ReadsItem ts i x j → j ≡ s.end
        always_only s r x j q = let o = body_at x j q in (unique_stmt ts p.end o.0 j s.tree s.end o.1 r.reads).1

    -- instances
    instance_parts : NamesModule ts i → (x : Item) (j : ℕ) → SpellsItem ts i x j
        → (n : List ℕ) × (o : Option Args) × (m : ℕ) × (xs : List Instance) × IsIdentifier false ts i n × Maybe (AfterHash ts (SpellsArgs ts)) (i + 1) o m × UpToEnd ts (SpellsInstance ts) m xs j
        × (max (highest_of args_height o) (highest instance_height xs) + 1 ≤ item_height x)
    instance_parts other (t.Ports kind shape xs) j a = absurd (by (kind_word ts i kind a.0 a.2))
      where
        by : IsWord ts i (codes "input") ⊎ IsWord ts i (codes "output") → ⊥
        by (inl w) = other.no_input w
        by (inr w) = other.no_output w
    instance_parts other (t.Wires shape xs) j a = absurd (other.no_wire a.1)
    instance_parts other (t.Registers shape xs) j a = absurd (other.no_reg a.1)
    instance_parts other (t.Parameters shape xs) j a = absurd (other.no_parameter a.1)
    instance_parts other (t.LocalParameters shape xs) j a = absurd (other.no_localparam a.1)
    instance_parts other (t.Assigns xs) j a = absurd (other.no_assign a.0)
    instance_parts other (t.Always events body) j a = absurd (other.no_always a.1)
    instance_parts other (t.Instances n o xs) j a = (n, o, a.0, xs, a.1, a.2, a.3, omega arith)

    name_no_hash : (m : ℕ) (n : List ℕ) → IsIdentifier false ts m n → NoSign (codes "#") ts m
    name_no_hash m n a here = let u = a.stands in cc

    module _ (other : NamesModule ts i) where
      pub instances_name : (fault : ReadFault) → RefusesIdentifier false ts i fault → Refusal item_height (ReadsItem ts i) ts i depth fault
      instances_name = named_refuses item_height (ReadsItem ts i) ts i depth i (λ x j q. let o = instance_parts other x j q.0 in (o.0, j, o.4))

      hashed : (x : Item) (j : ℕ) → ReadsItem ts i x j → (o : Option Args) × (m : ℕ) × (xs : List Instance) × Hashed ts args_height (SpellsArgs ts) (i + 1) (i + 1) o m × UpToEnd ts (SpellsInstance ts) m xs j
          × (max (highest_of args_height o) (highest instance_height xs) + 1 ≤ item_height x)
      hashed x j q =
          let o = instance_parts other x j q.0 in
          let n = first_named (SpellsInstance ts) (λ x. x.name) (λ i x j p. p.0) o.2 o.3 j o.6 in
          (o.1, o.2, o.3, (o.5, name_no_hash o.2 n.0 n.1), o.6, o.7)

      pub overrides_refuse : (fault : ReadFault) → Refusal (highest_of args_height) (Hashed ts args_height (SpellsArgs ts) (i + 1) (i + 1)) ts (i + 1) (depth - 1) fault → Refusal item_height (ReadsItem ts i) ts i depth fault
      overrides_refuse fault u =
          passes (highest_of args_height) (Hashed ts args_height (SpellsArgs ts) (i + 1) (i + 1)) item_height (ReadsItem ts i) ts (i + 1) (depth - 1) i depth 1
          (λ x j q. let o = hashed x j q in record { part = o.0; end = o.1; holds = o.3; lower = omega (arith, o.5) }) (omega arith) (omega arith) fault u

      module _ (p : Found (Option Args)) (a : IsFound ts (highest_of args_height) (Maybe (AfterHash ts (SpellsArgs ts))) (Hashed ts args_height (SpellsArgs ts) (i + 1)) (i + 1) (depth - 1) p) where
        pub instances_at : (x : Item) (j : ℕ) → ReadsItem ts i x j → (xs : List Instance) × UpToEnd ts (SpellsInstance ts) p.end xs j × (highest instance_height xs + 1 ≤ item_height x)
        instances_at x j q = let o = hashed x j q in (o.2, subst (λ z. UpToEnd ts (SpellsInstance ts) z o.2 j) (a.only o.0 o.1 o.3) o.4, omega (arith, o.5))

        pub instances_refuse : (fault : ReadFault) → Refusal (highest instance_height) (UpToEnd ts (SpellsInstance ts) p.end) ts p.end (depth - 1) fault → Refusal item_height (ReadsItem ts i) ts i depth fault
        instances_refuse fault u =
            passes (highest instance_height) (UpToEnd ts (SpellsInstance ts) p.end) item_height (ReadsItem ts i) ts p.end (depth - 1) i depth 1
            (λ x j q. let o = instances_at x j q in record { part = o.0; end = j; holds = o.1; lower = o.2 }) (omega (arith, a.past)) (omega arith) fault u

  -- items up to `endmodule`
  module _ (i depth : ℕ) where
    -- what is read of a module's items so far, and how each whole list goes on
    pub record ItemsSoFar (items : List Item) (tall end : ℕ) : Type 0 where
      pub spelt : Sequence (SpellsItem ts) i items end
      pub rest : (ys : List Item) (j : ℕ) → ReadsItems ts i ys j → (xs : List Item) × Sequence (SpellsItem ts) end xs j × (highest item_height xs ≤ highest item_height ys)
      pub height_is : tall ≡ highest item_height items
      pub low : tall ≤ depth
      pub past : i ≤ end
      pub within : end ≤ max i (length ts)

    pub items_begin : ItemsSoFar [] 0 i
    items_begin = record { spelt = refl; rest = λ ys j q. (ys, q.0, omega arith); height_is = refl; low = omega arith; past = omega arith; within = omega arith }

    module _ (items : List Item) (tall end : ℕ) (b : ItemsSoFar items tall end) where
      pub items_refuse : (IsWord ts end (codes "endmodule") → ⊥) → (fault : ReadFault) → Refusal item_height (ReadsItem ts end) ts end depth fault → Refusal (highest item_height) (ReadsItems ts i) ts i depth fault
      items_refuse open_ fault u =
          passes item_height (ReadsItem ts end) (highest item_height) (ReadsItems ts i) ts end depth i depth 0 (λ ys j q. let o = b.rest ys j q in by ys j q o.0 o.1 o.2) (omega (arith, b.past)) (omega arith) fault u
        where
          by : (ys : List Item) (j : ℕ) → ReadsItems ts i ys j → (xs : List Item) → Sequence (SpellsItem ts) end xs j → highest item_height xs ≤ highest item_height ys → Has item_height (ReadsItem ts end) 0 (highest item_height ys)
          by ys j q [] s low = absurd (open_ (subst (λ z. IsWord ts z (codes "endmodule")) (sym s) q.1))
          by ys j q (x ∷ xs) s low = record { part = x; end = s.0; holds = (s.1, items_no_else ts xs s.0 j s.2 q.1); lower = omega (arith, low) }

      pub items_grow : (IsWord ts end (codes "endmodule") → ⊥) → (p : Found Item) → IsFound ts item_height (SpellsItem ts) (ReadsItem ts) end depth p → (new : List Item) → new ≡ items ++ p.tree ∷ []
          → (tall' : ℕ) → tall' ≡ max tall p.height → ItemsSoFar new tall' p.end
      items_grow open_ p r new is tall' h = record {
        spelt = subst (λ z. Sequence (SpellsItem ts) i z p.end) (sym is) (sequence_snoc (SpellsItem ts) items i end p.tree p.end b.spelt r.spelt);
        rest = λ ys j q. let o = b.rest ys j q in next ys j q o.0 o.1 o.2;
        height_is = omega (arith, h, b.height_is, r.height_is, ap (highest item_height) is, highest-append item_height items (p.tree ∷ []));
        low = omega (arith, h, b.low, r.low);
        past = omega (arith, b.past, r.past);
        within = omega (arith, b.within, r.within);
      }
        where
          next : (ys : List Item) (j : ℕ) → ReadsItems ts i ys j → (xs : List Item) → Sequence (SpellsItem ts) end xs j → highest item_height xs ≤ highest item_height ys
              → (xs : List Item) × Sequence (SpellsItem ts) p.end xs j × (highest item_height xs ≤ highest item_height ys)
          next ys j q [] s low = absurd (open_ (subst (λ z. IsWord ts z (codes "endmodule")) (sym s) q.1))
          next ys j q (x ∷ xs) s low =
              let e : s.0 ≡ p.end = r.only x s.0 (s.1, items_no_else ts xs s.0 j s.2 q.1) in (xs, subst (λ z. Sequence (SpellsItem ts) z xs j) e s.2, omega (arith, low))

      pub items_end : IsWord ts end (codes "endmodule") → (new : Found (List Item)) → new.tree ≡ items → new.height ≡ tall → new.end ≡ end
          → IsFound ts (highest item_height) (ReadsItems ts) (ReadsItems ts) i depth new
      items_end last new is h e = record {
        spelt = subst (λ z. ReadsItems ts i z new.end) (sym is) (subst (λ z. ReadsItems ts i items z) (sym e) (b.spelt, last));
        only = λ ys j q. let o = b.rest ys j q in only j o.0 o.1;
        height_is = omega (arith, h, b.height_is, ap (highest item_height) is);
        low = omega (arith, h, b.low);
        past = omega (arith, e, b.past);
        within = omega (arith, e, b.within);
      }
        where
          only : (j : ℕ) (xs : List Item) → Sequence (SpellsItem ts) end xs j → j ≡ new.end
          only j [] s = omega (arith, s, e)
          only j (x ∷ xs) s = absurd (item_no_endmodule ts end x s.0 s.1 last)

  -- a module by its head and its items
  module_head : (i : ℕ) (x : Module) (j : ℕ) (q : SpellsModule ts i x j) → SpellsHead ts i (record { name = x.name; parameters = x.parameters; ports = x.ports }) (q.1 + 1)
  module_head i x j q = (q.0, q.1, q.3, q.4, q.5, q.6, q.7, refl)

  pub head_refuses : (i : ℕ) (fault : ReadFault) → Refusal head_height (SpellsHead ts i) ts (i + 1) 499 fault → Refusal module_height (SpellsModule ts i) ts i 500 fault
  head_refuses i fault u =
      passes head_height (SpellsHead ts i) module_height (SpellsModule ts i) ts (i + 1) 499 i 500 1
      (λ x j q. record { part = record { name = x.name; parameters = x.parameters; ports = x.ports }; end = q.1 + 1; holds = module_head i x j q; lower = omega arith }) (omega arith) (omega arith) fault u

  module _ (i : ℕ) (p : Found Head) (a : IsFound ts head_height (SpellsHead ts) (SpellsHead ts) i 499 p) where
    module_items : (x : Module) (j : ℕ) (q : SpellsModule ts i x j) → ReadsItems ts p.end x.items q.2
    module_items x j q = (
      subst (λ z. Sequence (SpellsItem ts) z x.items q.2) (a.only (record { name = x.name; parameters = x.parameters; ports = x.ports }) (q.1 + 1) (module_head i x j q)) q.8,
      q.9,
    )

    pub module_refuses : i < p.end → (fault : ReadFault) → Refusal (highest item_height) (ReadsItems ts p.end) ts p.end 499 fault → Refusal module_height (SpellsModule ts i) ts i 500 fault
    module_refuses past fault u =
        passes (highest item_height) (ReadsItems ts p.end) module_height (SpellsModule ts i) ts p.end 499 i 500 1
        (λ x j q. record { part = x.items; end = q.2; holds = module_items x j q; lower = omega arith }) (omega (arith, past)) (omega arith) fault u

    pub module_only : (r : Found (List Item)) → IsFound ts (highest item_height) (ReadsItems ts) (ReadsItems ts) p.end 499 r → (x : Module) (j : ℕ) → SpellsModule ts i x j → j ≡ r.end + 1
    module_only r b x j q = omega (arith, q.10, b.only x.items q.2 (module_items x j q))

  -- the parts of a head
  module _ (i depth : ℕ) where
    pub head_no_module : (IsWord ts i (codes "module") → ⊥) → (x : Head) (j : ℕ) → SpellsHead ts i x j → ⊥
    head_no_module none x j q = none q.2

    pub head_name : (fault : ReadFault) → RefusesIdentifier false ts (i + 1) fault → Refusal head_height (SpellsHead ts i) ts (i + 1) depth fault
    head_name = named_refuses head_height (SpellsHead ts i) ts (i + 1) depth (i + 1) (λ x j q. (x.name, j, q.3))

    head_parameters : (x : Head) (j : ℕ) (q : SpellsHead ts i x j) → ReadsParameters ts (i + 2) x.parameters q.0
    head_parameters x j q = (q.4, header_no_hash ts q.0 x.ports q.1 q.5 q.6)

    pub parameters_refuse : (fault : ReadFault) → Refusal (highest_of (highest header_parameter_height)) (ReadsParameters ts (i + 2)) ts (i + 2) depth fault → Refusal head_height (SpellsHead ts i) ts (i + 1) depth fault
    parameters_refuse fault u =
        passes (highest_of (highest header_parameter_height)) (ReadsParameters ts (i + 2)) head_height (SpellsHead ts i) ts (i + 2) depth (i + 1) depth 0
        (λ x j q. record { part = x.parameters; end = q.0; holds = head_parameters x j q; lower = omega arith }) (omega arith) (omega arith) fault u

    module _ (at : ℕ) (only : (x : Option (List HeaderParameter)) (k : ℕ) → ReadsParameters ts (i + 2) x k → k ≡ at) (past : i + 2 ≤ at) where
      head_ports : (x : Head) (j : ℕ) (q : SpellsHead ts i x j) → ReadsHeader ts at x.ports q.1
      head_ports x j q = (subst (λ z. SpellsHeader ts z x.ports q.1) (only x.parameters q.0 (head_parameters x j q)) q.5, q.6)

      pub ports_refuse : (fault : ReadFault) → Refusal (highest_of ports_height) (ReadsHeader ts at) ts at depth fault → Refusal head_height (SpellsHead ts i) ts (i + 1) depth fault
      ports_refuse fault u =
          passes (highest_of ports_height) (ReadsHeader ts at) head_height (SpellsHead ts i) ts at depth (i + 1) depth 0
          (λ x j q. record { part = x.ports; end = q.1; holds = head_ports x j q; lower = omega arith }) (omega (arith, past)) (omega arith) fault u

      module _ (end : ℕ) (last : (x : Option Ports) (k : ℕ) → ReadsHeader ts at x k → k ≡ end) where
        pub head_open : (IsSign ts end (codes ";") → ⊥) → (x : Head) (j : ℕ) → SpellsHead ts i x j → ⊥
        head_open none x j q = none (subst (λ z. IsSign ts z (codes ";")) (last x.ports q.1 (head_ports x j q)) q.6)

        pub head_only : (x : Head) (j : ℕ) → SpellsHead ts i x j → j ≡ end + 1
        head_only x j q = omega (arith, q.7, last x.ports q.1 (head_ports x j q))

  abbrev pub IsModule : ℕ → Found Module → Type 0
  IsModule i p = IsFound ts module_height (SpellsModule ts) (SpellsModule ts) i 500 p × (i < p.end)

  -- what is read of a text's modules so far, and how each whole list goes on
  pub record ModulesSoFar (list : List Module) (end : ℕ) : Type 0 where
    pub spelt : Sequence (SpellsModule ts) 0 list end
    pub rest : (ys : List Module) → SpellsFile ts ys → (xs : List Module) × Sequence (SpellsModule ts) end xs (length ts) × (file_height xs ≤ file_height ys)
    pub some : 0 < length list
    pub low : highest module_height list ≤ 500
    pub within : end ≤ length ts

  -- the refusal of a module that each whole list has at a place
  file_refuses : (i : ℕ) → ((ys : List Module) → SpellsFile ts ys → (x : Module) × (j : ℕ) × SpellsModule ts i x j × (module_height x ≤ file_height ys))
      → (fault : ReadFault) → Refusal module_height (SpellsModule ts i) ts i 500 fault → RefusesTokens ts fault
  file_refuses i has (f.Syntax at) u = λ ys q. let o = has ys q in u o.0 o.1 o.2
  file_refuses i has f.Deep u = record { higher = λ ys q. let o = has ys q in omega (arith, u.higher o.0 o.1 o.2, o.3); more = omega (arith, u.tokens) }
  file_refuses i has f.Memory u = tt
  file_refuses i has (f.Bytes at) u = u
  file_refuses i has (f.Number at) u = u
  file_refuses i has (f.Outside at) u = u

  pub first_refuses : (fault : ReadFault) → Refusal module_height (SpellsModule ts 0) ts 0 500 fault → RefusesTokens ts fault
  first_refuses = file_refuses 0 has
    where
      has : (ys : List Module) → SpellsFile ts ys → (x : Module) × (j : ℕ) × SpellsModule ts 0 x j × (module_height x ≤ file_height ys)
      has [] q = absurd (omega (arith, q.0))
      has (y ∷ ys) q = (y, q.1.0, q.1.1, omega arith)

  pub modules_begin : (p : Found Module) → IsModule 0 p → (new : List Module) → new ≡ p.tree ∷ [] → ModulesSoFar new p.end
  modules_begin p r new is = record {
    spelt = subst (λ z. Sequence (SpellsModule ts) 0 z p.end) (sym is) (p.end, r.0.spelt, refl);
    rest = rest;
    some = omega (arith, ap length is);
    low = omega (arith, ap (highest module_height) is, r.0.height_is, r.0.low);
    within = omega (arith, r.0.within);
  }
    where
      rest : (ys : List Module) → SpellsFile ts ys → (xs : List Module) × Sequence (SpellsModule ts) p.end xs (length ts) × (file_height xs ≤ file_height ys)
      rest [] q = absurd (omega (arith, q.0))
      rest (y ∷ ys) q = (ys, subst (λ z. Sequence (SpellsModule ts) z ys (length ts)) (r.0.only y q.1.0 q.1.1) q.1.2, omega arith)

  module _ (list : List Module) (end : ℕ) (b : ModulesSoFar list end) where
    pub next_refuses : end < length ts → (fault : ReadFault) → Refusal module_height (SpellsModule ts end) ts end 500 fault → RefusesTokens ts fault
    next_refuses short = file_refuses end (λ ys q. let o = b.rest ys q in by ys o.0 o.1 o.2)
      where
        by : (ys : List Module) (xs : List Module) → Sequence (SpellsModule ts) end xs (length ts) → file_height xs ≤ file_height ys → (x : Module) × (j : ℕ) × SpellsModule ts end x j × (module_height x ≤ file_height ys)
        by ys [] s low = absurd (omega (arith, s, short))
        by ys (x ∷ xs) s low = (x, s.0, s.1, omega (arith, low))

    pub modules_grow : end < length ts → (p : Found Module) → IsModule end p → (new : List Module) → new ≡ list ++ p.tree ∷ [] → ModulesSoFar new p.end
    modules_grow short p r new is = record {
      spelt = subst (λ z. Sequence (SpellsModule ts) 0 z p.end) (sym is) (sequence_snoc (SpellsModule ts) list 0 end p.tree p.end b.spelt r.0.spelt);
      rest = λ ys q. let o = b.rest ys q in next ys o.0 o.1 o.2;
      some = longer list p.tree new is;
      low = omega (arith, b.low, r.0.height_is, r.0.low, ap (highest module_height) is, highest-append module_height list (p.tree ∷ []));
      within = omega (arith, b.within, r.0.within);
    }
      where
        longer : (xs : List Module) (x : Module) (ys : List Module) → ys ≡ xs ++ x ∷ [] → 0 < length ys
        longer [] x ys e = omega (arith, ap length e)
        longer (y ∷ xs) x ys e = omega (arith, ap length e)

        next : (ys : List Module) (xs : List Module) → Sequence (SpellsModule ts) end xs (length ts) → file_height xs ≤ file_height ys
            → (xs : List Module) × Sequence (SpellsModule ts) p.end xs (length ts) × (file_height xs ≤ file_height ys)
        next ys [] s low = absurd (omega (arith, s, short))
        next ys (x ∷ xs) s low = (xs, subst (λ z. Sequence (SpellsModule ts) z xs (length ts)) (r.0.only x s.0 s.1) s.2, omega (arith, low))

    pub modules_end : length ts ≤ end → SpellsFile ts list × (file_height list ≤ 500)
    modules_end last = ((b.some, subst (Sequence (SpellsModule ts) 0 list) (omega (arith, last, b.within)) b.spelt), b.low)
