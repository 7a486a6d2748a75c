-- Items, modules and lists of modules: at one place stands at most one of each.
use Rattle.std.proofs.Common.{ℕ, ◌+◌, ◌≡◌, ◌<◌, ◌≤◌, ◌⊎◌, inl, inr, List, [], ◌∷◌, length, Option, Some, None, Bool, true, false, if◌then◌else◌, refl, sym, ap, subst, ◌∙◌, arith}
use Rattle.std.specs.Prelude.{codes}
use Rattle.std.specs.Str.{bytes_eq}
use Rattle.vlog_tree.specs.declared.token.Token.{Token}
use Rattle.vlog_tree.specs.declared.token.Kind.{Kind}
use Rattle.vlog_tree.specs.declared.token.Kind.TheVariants as k
use Rattle.vlog_tree.specs.declared.expr.Expr.{Expr}
use Rattle.vlog_tree.specs.declared.stmt.Stmt.{Stmt}
use Rattle.vlog_tree.specs.declared.stmt.Events.{Events}
use Rattle.vlog_tree.specs.declared.item.Shape.{Shape}
use Rattle.vlog_tree.specs.declared.item.PortKind.{PortKind}
use Rattle.vlog_tree.specs.declared.item.PortKind.TheVariants as p
use Rattle.vlog_tree.specs.declared.item.Wire.{Wire}
use Rattle.vlog_tree.specs.declared.item.Register.{Register}
use Rattle.vlog_tree.specs.declared.item.Parameter.{Parameter}
use Rattle.vlog_tree.specs.declared.item.Assign.{Assign}
use Rattle.vlog_tree.specs.declared.item.Connection.{Connection}
use Rattle.vlog_tree.specs.declared.item.Args.{Args}
use Rattle.vlog_tree.specs.declared.item.Args.TheVariants as g
use Rattle.vlog_tree.specs.declared.item.Instance.{Instance}
use Rattle.vlog_tree.specs.declared.item.Item.{Item}
use Rattle.vlog_tree.specs.declared.item.Item.TheVariants as t
use Rattle.vlog_tree.specs.declared.module.HeaderParameter.{HeaderParameter}
use Rattle.vlog_tree.specs.declared.module.HeaderParameter.TheVariants as r
use Rattle.vlog_tree.specs.declared.module.HeaderPort.{HeaderPort}
use Rattle.vlog_tree.specs.declared.module.HeaderPort.TheVariants as h
use Rattle.vlog_tree.specs.declared.module.Ports.{Ports}
use Rattle.vlog_tree.specs.declared.module.Ports.TheVariants as q
use Rattle.vlog_tree.specs.declared.module.Module.{Module}
use Rattle.vlog_tree.specs.Signs.{kind_at, IsSign, IsWord, is_reserved, is_keyword, unary_of}
use Rattle.vlog_tree.specs.Lists.{Maybe, Flag, Sequence, More, Separated, Comma, InParens, AfterHash, UpToEnd}
use Rattle.vlog_tree.specs.Spelling.{IsIdentifier, IsNamed, Spells}
use Rattle.vlog_tree.specs.Statements.{SpellsStmt, SpellsEvents, IsOpen}
use Rattle.vlog_tree.specs.Modules.{SpellsShape, SpellsKind, SpellsWire, SpellsRegister, SpellsParameter, SpellsAssign, SpellsConnection, SpellsArgs, SpellsInstance, Declares, SpellsItem, SpellsHeaderParameter, SpellsHeaderPort, BeginsGroup, BeginsParameters, SpellsParameters, SpellsPorts, SpellsHeader, SpellsModule, SpellsFile}
use Rattle.vlog_read_spelling.proofs.Tokens.{Stops, first_at, nothing, first_other, stops_paren, stops_comma, two_signs, two_words, kind_within}
use Rattle.vlog_read_spelling.proofs.Names.{one_identifier, one_named}
use Rattle.vlog_read_spelling.proofs.Forms.{Begun, begun}
use Rattle.vlog_read_spelling.proofs.Reading.{begins, stop_ends, level_pos}
use Rattle.vlog_read_spelling.proofs.Lists.{one_separated, one_sequence}
use Rattle.vlog_read_spelling.proofs.Parts.{Part, one_expr, one_parameter, one_list_of}
use Rattle.vlog_read_spelling.proofs.Lvals.{one_events}
use Rattle.vlog_read_spelling.proofs.Declarations.{one_shape, one_wire_item, one_reg_item, one_parameter_item, one_assign_item}
use Rattle.vlog_read_spelling.proofs.PortItems.{one_kind, one_port_item}
use Rattle.vlog_read_spelling.proofs.Statements.{other_word, no_word, reserved_else, compare, Outcome}

module _ (ts : List Token) where
  -- no expression begins with a sign that begins none
  pub expr_no_sign : (i : ℕ) (a : Expr) (j : ℕ) (s : List ℕ) → Spells false ts i a j → Stops false ts j → IsSign ts i s → bytes_eq s (codes "(") ≡ false → bytes_eq s (codes "{") ≡ false → unary_of s ≡ None → ⊥
  expr_no_sign i a j s p u here x y none =
      let o = begins false ts 1 i a j (record { spelt = p; binds = level_pos a; ends = stop_ends false ts 1 j u }) in
      subst (Begun false ts i o.operand o.end) (first_other ts i s here x y none) (begun false ts i o.operand o.end o.reads.spelt o.reads.binds)

  unary_close : unary_of (codes ")") ≡ None
  unfolding unary_of
  unary_close = refl

  unary_dot : unary_of (codes ".") ≡ None
  unfolding unary_of
  unary_dot = refl

  no_close : (i : ℕ) (a : Expr) (j : ℕ) → Spells false ts i a j → Stops false ts j → IsSign ts i (codes ")") → ⊥
  no_close i a j p u here = expr_no_sign i a j (codes ")") p u here refl refl unary_close

  no_dot : (i : ℕ) (a : Expr) (j : ℕ) → Spells false ts i a j → Stops false ts j → IsSign ts i (codes ".") → ⊥
  no_dot i a j p u here = expr_no_sign i a j (codes ".") p u here refl refl unary_dot

  -- what stands in parentheses
  abbrev pub OneInside : {A : Type 0} → (ℕ → A → ℕ → Type 0) → Type 0
  OneInside {A} P = (i : ℕ) (x : A) (j : ℕ) (y : A) (m : ℕ) → P i x j → IsSign ts j (codes ")") → P i y m → IsSign ts m (codes ")") → (x ≡ y) × (j ≡ m)

  pub in_parens : {A : Type 0} (P : ℕ → A → ℕ → Type 0) → OneInside P → (i : ℕ) (x : A) (j : ℕ) (y : A) (m : ℕ) → InParens ts P i x j → InParens ts P i y m → (x ≡ y) × (j ≡ m)
  in_parens P one i x j y m a b = let u = one (i + 1) x a.0 y b.0 a.2 a.3 b.2 b.3 in (u.0, omega (arith, a.4, b.4, u.1))

  after_hash : {A : Type 0} (P : ℕ → A → ℕ → Type 0) → OneInside P → (i : ℕ) (x : A) (j : ℕ) (y : A) (m : ℕ) → AfterHash ts P i x j → AfterHash ts P i y m → (x ≡ y) × (j ≡ m)
  after_hash P one i x j y m a b = in_parens P one (i + 1) x j y m a.1 b.1

  maybe_inside : {A : Type 0} (P : ℕ → A → ℕ → Type 0) → OneInside P → ((i : ℕ) (x : A) (j : ℕ) → P i x j → IsSign ts j (codes ")") → IsSign ts i (codes ")") → ⊥) → OneInside (Maybe P)
  maybe_inside P one apart i None j None m a u b v = (refl, sym a ∙ b)
  maybe_inside P one apart i None j (Some y) m a u b v = absurd (apart i y m b v (subst (λ z. IsSign ts z (codes ")")) (sym a) u))
  maybe_inside P one apart i (Some x) j None m a u b v = absurd (apart i x j a u (subst (λ z. IsSign ts z (codes ")")) (sym b) v))
  maybe_inside P one apart i (Some x) j (Some y) m a u b v = let w : (x ≡ y) × (j ≡ m) = one i x j y m a u b v in (ap Some w.0, w.1)

  pub maybe_hash : {A : Type 0} (P : ℕ → A → ℕ → Type 0) → OneInside P → (i : ℕ) (x : Option A) (j : ℕ) (y : Option A) (m : ℕ) → Maybe (AfterHash ts P) i x j → (IsSign ts j (codes "#") → ⊥)
      → Maybe (AfterHash ts P) i y m → (IsSign ts m (codes "#") → ⊥) → (x ≡ y) × (j ≡ m)
  maybe_hash P one i None j None m a u b v = (refl, sym a ∙ b)
  maybe_hash P one i None j (Some y) m a u b v = absurd (u (subst (λ z. IsSign ts z (codes "#")) a b.0))
  maybe_hash P one i (Some x) j None m a u b v = absurd (v (subst (λ z. IsSign ts z (codes "#")) b a.0))
  maybe_hash P one i (Some x) j (Some y) m a u b v = let w : (x ≡ y) × (j ≡ m) = after_hash P one i x j y m a b in (ap Some w.0, w.1)

  -- connections and overrides
  inside_expr : OneInside (Spells false ts)
  inside_expr i x j y m a u b v = one_expr ts i x j y m a (stops_paren false ts j u) b (stops_paren false ts m v)

  pub one_connection : (i : ℕ) (x : Connection) (j : ℕ) (y : Connection) (m : ℕ) → SpellsConnection ts i x j → SpellsConnection ts i y m → (x ≡ y) × (j ≡ m)
  one_connection i x j y m a b =
      let n : x.port ≡ y.port = one_identifier false ts (i + 1) x.port y.port a.1 b.1 in
      let w : (x.value ≡ y.value) × (j ≡ m) =
      in_parens (Maybe (Spells false ts)) (maybe_inside (Spells false ts) inside_expr (λ i' x' j' c u. no_close i' x' j' c (stops_paren false ts j' u))) (i + 2) x.value j y.value m a.2 b.2 in
      ((λ z. record { port = n z; value = w.0 z }), w.1)

  pub comma_close : (z : ℕ) → Comma ts z → IsSign ts z (codes ")") → ⊥
  comma_close z u v = two_signs ts z (codes ",") (codes ")") refl u v

  after_part : (j : ℕ) → Comma ts j ⊎ IsSign ts j (codes ")") → Stops false ts j
  after_part j (inl u) = stops_comma false ts j u
  after_part j (inr u) = stops_paren false ts j u

  one_part : (i : ℕ) (x : Expr) (j : ℕ) (y : Expr) (m : ℕ) → Spells false ts i x j → Comma ts j ⊎ IsSign ts j (codes ")") → Spells false ts i y m → Comma ts m ⊎ IsSign ts m (codes ")") → (x ≡ y) × (j ≡ m)
  one_part i x j y m a u b v = one_expr ts i x j y m a (after_part j u) b (after_part m v)

  after_more : {A : Type 0} (P : ℕ → A → ℕ → Type 0) (xs : List A) (i j : ℕ) → More (Comma ts) P i xs j → IsSign ts j (codes ")") → Comma ts i ⊎ IsSign ts i (codes ")")
  after_more P [] i j a u = inr (subst (λ z. IsSign ts z (codes ")")) (sym a) u)
  after_more P (x ∷ xs) i j a u = inl a.1

  exprs_no_dot : (i : ℕ) (xs : List Expr) (j : ℕ) → Separated (Comma ts) (Spells false ts) i xs j → IsSign ts j (codes ")") → IsSign ts i (codes ".") → ⊥
  exprs_no_dot i [] j a u here = a
  exprs_no_dot i (x ∷ xs) j a u here = no_dot i x a.0 a.1 (after_part a.0 (after_more (Spells false ts) xs a.0 j a.2 u)) here

  named_dot : (i : ℕ) (xs : List Connection) (j : ℕ) → Separated (Comma ts) (SpellsConnection ts) i xs j → IsSign ts i (codes ".")
  named_dot i [] j a = absurd a
  named_dot i (x ∷ xs) j a = a.1.0

  pub one_args : OneInside (SpellsArgs ts)
  one_args i (g.Exprs xs) j (g.Exprs ys) m a u b v =
      let w : (xs ≡ ys) × (j ≡ m) = one_separated (Comma ts) (λ z. IsSign ts z (codes ")")) (Spells false ts) one_part comma_close xs ys i j m a u b v in (ap g.Exprs w.0, w.1)
  one_args i (g.Named xs) j (g.Named ys) m a u b v =
      let w : (xs ≡ ys) × (j ≡ m) =
      one_separated (Comma ts) (λ z. IsSign ts z (codes ")")) (SpellsConnection ts) (λ i' x j' y m' c u' d v'. one_connection i' x j' y m' c d) comma_close xs ys i j m a u b v in
      (ap g.Named w.0, w.1)
  one_args i (g.Exprs xs) j (g.Named ys) m a u b v = absurd (exprs_no_dot i xs j a u (named_dot i ys m b))
  one_args i (g.Named xs) j (g.Exprs ys) m a u b v = absurd (exprs_no_dot i ys m b v (named_dot i xs j a))

  args_no_close : (i : ℕ) (x : Args) (j : ℕ) → SpellsArgs ts i x j → IsSign ts j (codes ")") → IsSign ts i (codes ")") → ⊥
  args_no_close i (g.Exprs []) j a u here = a
  args_no_close i (g.Exprs (x ∷ xs)) j a u here = no_close i x a.0 a.1 (after_part a.0 (after_more (Spells false ts) xs a.0 j a.2 u)) here
  args_no_close i (g.Named xs) j a u here = two_signs ts i (codes ".") (codes ")") refl (named_dot i xs j a) here

  pub one_instance : (i : ℕ) (x : Instance) (j : ℕ) (y : Instance) (m : ℕ) → SpellsInstance ts i x j → SpellsInstance ts i y m → (x ≡ y) × (j ≡ m)
  one_instance i x j y m a b =
      let n : x.name ≡ y.name = one_identifier false ts i x.name y.name a.0 b.0 in
      let w : (x.args ≡ y.args) × (j ≡ m) = in_parens (Maybe (SpellsArgs ts)) (maybe_inside (SpellsArgs ts) one_args args_no_close) (i + 1) x.args j y.args m a.1 b.1 in
      ((λ z. record { name = n z; args = w.0 z }), w.1)

  one_instances : (i : ℕ) (xs : List Instance) (j : ℕ) (ys : List Instance) (m : ℕ) → UpToEnd ts (SpellsInstance ts) i xs j → UpToEnd ts (SpellsInstance ts) i ys m → (xs ≡ ys) × (j ≡ m)
  one_instances = one_list_of ts (SpellsInstance ts) (λ i x j y m a u b v. one_instance i x j y m a b)

  name_no_hash : (i : ℕ) (n : List ℕ) → IsIdentifier false ts i n → IsSign ts i (codes "#") → ⊥
  name_no_hash i n a here = let u = a.stands in cc

  instances_no_hash : (i : ℕ) (xs : List Instance) (j : ℕ) → UpToEnd ts (SpellsInstance ts) i xs j → IsSign ts i (codes "#") → ⊥
  instances_no_hash i [] j a here = a.1
  instances_no_hash i (x ∷ xs) j a here = name_no_hash i x.name a.1.1.0 here

  pub one_instance_item : (i : ℕ) (n : List ℕ) (o : Option Args) (xs : List Instance) (j : ℕ) (n' : List ℕ) (o' : Option Args) (ys : List Instance) (m : ℕ) → SpellsItem ts i (t.Instances n o xs) j → SpellsItem ts i (t.Instances n' o' ys) m
      → (t.Instances n o xs ≡ t.Instances n' o' ys) × (j ≡ m)
  one_instance_item i n o xs j n' o' ys m a b =
      let e : n ≡ n' = one_identifier false ts i n n' a.1 b.1 in
      let w : (o ≡ o') × (a.0 ≡ b.0) = maybe_hash (SpellsArgs ts) one_args (i + 1) o a.0 o' b.0 a.2 (instances_no_hash a.0 xs j a.3) b.2 (instances_no_hash b.0 ys m b.3) in
      let v : (xs ≡ ys) × (j ≡ m) = one_instances a.0 xs j ys m a.3 (subst (λ z. UpToEnd ts (SpellsInstance ts) z ys m) (sym w.1) b.3) in
      ((λ z. t.Instances (e z) (w.0 z) (v.0 z)), v.1)

-- the ways in which an item can begin
pub data ItemHead : Type 0 where
  port : ItemHead
  wire : ItemHead
  register : ItemHead
  parameter : ItemHead
  local_parameter : ItemHead
  assign : ItemHead
  always : ItemHead
  named : ItemHead

abbrev pub item_word : List ℕ → ItemHead
item_word w =
    if bytes_eq w (codes "input") then port else (
    if bytes_eq w (codes "output") then port else (
    if bytes_eq w (codes "wire") then wire else (
    if bytes_eq w (codes "reg") then register else (
    if bytes_eq w (codes "parameter") then parameter else (
    if bytes_eq w (codes "localparam") then local_parameter else (
    if bytes_eq w (codes "assign") then assign else (
    if bytes_eq w (codes "always") then always else named)))))))

abbrev pub item_kind : Option Kind → ItemHead
item_kind (Some (k.Word w)) = item_word w
item_kind (Some (k.Sign s)) = named
item_kind (Some (k.Number n)) = named
item_kind (Some k.Outside) = named
item_kind None = named

abbrev pub item_head : List Token → ℕ → ItemHead
item_head ts i = item_kind (kind_at ts i)

pub keyword : (w : List ℕ) → is_keyword w ≡ true → is_reserved false w ≡ true
unfolding is_reserved
keyword w p = by (bytes_eq w (codes "$signed")) (bytes_eq w (codes "$unsigned")) refl refl
  where
    by : (x y : Bool) → bytes_eq w (codes "$signed") ≡ x → bytes_eq w (codes "$unsigned") ≡ y → is_reserved false w ≡ true
    by true y e f = rw e refl
    by false true e f = rw (e, f) refl
    by false false e f = rw (e, f) p

reserved_input : is_keyword (codes "input") ≡ true
unfolding is_keyword
reserved_input = refl

reserved_output : is_keyword (codes "output") ≡ true
unfolding is_keyword
reserved_output = refl

reserved_wire : is_keyword (codes "wire") ≡ true
unfolding is_keyword
reserved_wire = refl

reserved_reg : is_keyword (codes "reg") ≡ true
unfolding is_keyword
reserved_reg = refl

reserved_parameter : is_keyword (codes "parameter") ≡ true
unfolding is_keyword
reserved_parameter = refl

reserved_localparam : is_keyword (codes "localparam") ≡ true
unfolding is_keyword
reserved_localparam = refl

reserved_assign : is_keyword (codes "assign") ≡ true
unfolding is_keyword
reserved_assign = refl

reserved_always : is_keyword (codes "always") ≡ true
unfolding is_keyword
reserved_always = refl

reserved_endmodule : is_keyword (codes "endmodule") ≡ true
unfolding is_keyword
reserved_endmodule = refl

module _ (ts : List Token) where
  item_named : (i : ℕ) (n : List ℕ) → IsIdentifier false ts i n → item_head ts i ≡ named
  item_named i n a =
      let e1 = other_word n (codes "input") a.free (keyword (codes "input") reserved_input) in
      let e2 = other_word n (codes "output") a.free (keyword (codes "output") reserved_output) in
      let e3 = other_word n (codes "wire") a.free (keyword (codes "wire") reserved_wire) in
      let e4 = other_word n (codes "reg") a.free (keyword (codes "reg") reserved_reg) in
      let e5 = other_word n (codes "parameter") a.free (keyword (codes "parameter") reserved_parameter) in
      let e6 = other_word n (codes "localparam") a.free (keyword (codes "localparam") reserved_localparam) in
      let e7 = other_word n (codes "assign") a.free (keyword (codes "assign") reserved_assign) in
      let e8 = other_word n (codes "always") a.free (keyword (codes "always") reserved_always) in
      ap item_kind a.stands ∙ rw (e1, e2, e3, e4, e5, e6, e7, e8) refl

  pub kind_word : (i : ℕ) (kind : PortKind) (j : ℕ) → SpellsKind ts i kind j → IsWord ts i (codes "input") ⊎ IsWord ts i (codes "output")
  kind_word i p.Input j a = inl a.1
  kind_word i p.Output j a = inr a.1
  kind_word i p.OutputReg j a = inr a.0

  item_port : (i : ℕ) (kind : PortKind) (j : ℕ) → SpellsKind ts i kind j → item_head ts i ≡ port
  item_port i kind j a = by (kind_word i kind j a)
    where
      by : IsWord ts i (codes "input") ⊎ IsWord ts i (codes "output") → item_head ts i ≡ port
      by (inl u) = ap item_kind u
      by (inr u) = ap item_kind u

  -- what an item is, by its first token
  abbrev pub ItemForm : ℕ → Item → ℕ → ItemHead → Type 0
  ItemForm i x j port = (kind : PortKind) × (shape : Shape) × (xs : List (List ℕ)) × (x ≡ t.Ports kind shape xs) × SpellsItem ts i (t.Ports kind shape xs) j
  ItemForm i x j wire = (shape : Shape) × (xs : List Wire) × (x ≡ t.Wires shape xs) × SpellsItem ts i (t.Wires shape xs) j
  ItemForm i x j register = (shape : Shape) × (xs : List Register) × (x ≡ t.Registers shape xs) × SpellsItem ts i (t.Registers shape xs) j
  ItemForm i x j parameter = (shape : Shape) × (xs : List Parameter) × (x ≡ t.Parameters shape xs) × SpellsItem ts i (t.Parameters shape xs) j
  ItemForm i x j local_parameter = (shape : Shape) × (xs : List Parameter) × (x ≡ t.LocalParameters shape xs) × SpellsItem ts i (t.LocalParameters shape xs) j
  ItemForm i x j assign = (xs : List Assign) × (x ≡ t.Assigns xs) × SpellsItem ts i (t.Assigns xs) j
  ItemForm i x j always = (events : Events) × (body : Stmt) × (x ≡ t.Always events body) × SpellsItem ts i (t.Always events body) j
  ItemForm i x j named = (n : List ℕ) × (o : Option Args) × (xs : List Instance) × (x ≡ t.Instances n o xs) × SpellsItem ts i (t.Instances n o xs) j

  pub item_form : (i : ℕ) (x : Item) (j : ℕ) → SpellsItem ts i x j → ItemForm i x j (item_head ts i)
  item_form i (t.Ports kind shape xs) j a = rw (item_port i kind a.0 a.2) (kind, shape, xs, refl, a)
  item_form i (t.Wires shape xs) j a = let e : item_head ts i ≡ wire = ap item_kind a.1 in rw e (shape, xs, refl, a)
  item_form i (t.Registers shape xs) j a = let e : item_head ts i ≡ register = ap item_kind a.1 in rw e (shape, xs, refl, a)
  item_form i (t.Parameters shape xs) j a = let e : item_head ts i ≡ parameter = ap item_kind a.1 in rw e (shape, xs, refl, a)
  item_form i (t.LocalParameters shape xs) j a = let e : item_head ts i ≡ local_parameter = ap item_kind a.1 in rw e (shape, xs, refl, a)
  item_form i (t.Assigns xs) j a = let e : item_head ts i ≡ assign = ap item_kind a.0 in rw e (xs, refl, a)
  item_form i (t.Always events body) j a = let e : item_head ts i ≡ always = ap item_kind a.1 in rw e (events, body, refl, a)
  item_form i (t.Instances n o xs) j a = rw (item_named i n a.1) (n, o, xs, refl, a)

  pub item_form_as : (i : ℕ) (x : Item) (j : ℕ) (head : ItemHead) → SpellsItem ts i x j → item_head ts i ≡ head → ItemForm i x j head
  item_form_as i x j head a e = subst (ItemForm i x j) e (item_form i x j a)

  -- no item begins with a word of the grammar that is none of its own
  pub item_no_start : (i : ℕ) (x : Item) (j : ℕ) (w : List ℕ) → SpellsItem ts i x j → item_word w ≡ named → is_reserved false w ≡ true → IsWord ts i w → ⊥
  item_no_start i x j w a e reserved here = let f = item_form_as i x j named a (ap item_kind here ∙ e) in no_word ts i f.0 w f.4.1 here reserved

  abbrev pub NoElse : ℕ → Type 0
  NoElse j = IsWord ts j (codes "else") → ⊥

  one_always : (i : ℕ) (e : Events) (body : Stmt) (j : ℕ) (e' : Events) (body' : Stmt) (m : ℕ) → SpellsItem ts i (t.Always e body) j → NoElse j → SpellsItem ts i (t.Always e' body') m → NoElse m
      → (t.Always e body ≡ t.Always e' body') × (j ≡ m)
  one_always i e body j e' body' m a u b v =
      let w : (e ≡ e') × (a.0 ≡ b.0) = one_events ts (i + 2) e a.0 e' b.0 a.3 b.3 in
      by w.0 (compare ts body a.0 j body' m a.4 (subst (λ z. SpellsStmt ts z body' m) (sym w.1) b.4))
    where
      by : e ≡ e' → Outcome ts body j body' m → (t.Always e body ≡ t.Always e' body') × (j ≡ m)
      by w (inl c) = ((λ z. t.Always (w z) (c.0 z)), c.1)
      by w (inr (inl c)) = absurd (u c.0)
      by w (inr (inr c)) = absurd (v c.0)

  pub one_item_at : (i : ℕ) (x : Item) (j : ℕ) (y : Item) (m : ℕ) → SpellsItem ts i x j → NoElse j → SpellsItem ts i y m → NoElse m → (x ≡ y) × (j ≡ m)
  one_item_at i (t.Ports kind shape xs) j y m a u b v =
      let f = item_form_as i y m port b (item_port i kind a.0 a.2) in
      let w = one_port_item ts i kind shape xs a.0 a.1 j f.0 f.1 f.2 f.4.0 f.4.1 m a.2 a.3 a.4 f.4.2 f.4.3 f.4.4 in
      ((λ z. t.Ports (w.0 z) (w.1 z) (w.2 z)) ∙ sym f.3, w.3)
  one_item_at i (t.Wires shape xs) j y m a u b v =
      let f = item_form_as i y m wire b (ap item_kind a.1) in let w = one_wire_item ts i shape xs j f.0 f.1 m a f.3 in ((λ z. t.Wires (w.0 z) (w.1 z)) ∙ sym f.2, w.2)
  one_item_at i (t.Registers shape xs) j y m a u b v =
      let f = item_form_as i y m register b (ap item_kind a.1) in let w = one_reg_item ts i shape xs j f.0 f.1 m a f.3 in ((λ z. t.Registers (w.0 z) (w.1 z)) ∙ sym f.2, w.2)
  one_item_at i (t.Parameters shape xs) j y m a u b v =
      let f = item_form_as i y m parameter b (ap item_kind a.1) in
      let w = one_parameter_item ts (codes "parameter") i shape xs j f.0 f.1 m a f.3 in ((λ z. t.Parameters (w.0 z) (w.1 z)) ∙ sym f.2, w.2)
  one_item_at i (t.LocalParameters shape xs) j y m a u b v =
      let f = item_form_as i y m local_parameter b (ap item_kind a.1) in
      let w = one_parameter_item ts (codes "localparam") i shape xs j f.0 f.1 m a f.3 in ((λ z. t.LocalParameters (w.0 z) (w.1 z)) ∙ sym f.2, w.2)
  one_item_at i (t.Assigns xs) j y m a u b v =
      let f = item_form_as i y m assign b (ap item_kind a.0) in let w = one_assign_item ts (i + 1) xs j f.0 m a.1 f.2.1 in (ap t.Assigns w.0 ∙ sym f.1, w.1)
  one_item_at i (t.Always e body) j y m a u b v =
      let f = item_form_as i y m always b (ap item_kind a.1) in let w = one_always i e body j f.0 f.1 m a u f.3 v in (w.0 ∙ sym f.2, w.1)
  one_item_at i (t.Instances n o xs) j y m a u b v =
      let f = item_form_as i y m named b (item_named i n a.1) in let w = one_instance_item ts i n o xs j f.0 f.1 f.2 m a f.4 in (w.0 ∙ sym f.3, w.1)

  -- items up to `endmodule`
  pub items_no_else : (xs : List Item) (i j : ℕ) → Sequence (SpellsItem ts) i xs j → IsWord ts j (codes "endmodule") → NoElse i
  items_no_else [] i j a u here = two_words ts i (codes "endmodule") (codes "else") refl (subst (λ z. IsWord ts z (codes "endmodule")) (sym a) u) here
  items_no_else (x ∷ xs) i j a u here = item_no_start i x a.0 (codes "else") a.1 refl reserved_else here

  pub item_no_endmodule : (i : ℕ) (x : Item) (j : ℕ) → SpellsItem ts i x j → IsWord ts i (codes "endmodule") → ⊥
  item_no_endmodule i x j a = item_no_start i x j (codes "endmodule") a refl (keyword (codes "endmodule") reserved_endmodule)

  one_items : (xs ys : List Item) (i j m : ℕ) → Sequence (SpellsItem ts) i xs j → IsWord ts j (codes "endmodule") → Sequence (SpellsItem ts) i ys m → IsWord ts m (codes "endmodule")
      → (xs ≡ ys) × (j ≡ m)
  one_items [] [] i j m a u b v = (refl, sym a ∙ b)
  one_items [] (y ∷ ys) i j m a u b v = absurd (item_no_endmodule i y b.0 b.1 (subst (λ z. IsWord ts z (codes "endmodule")) (sym a) u))
  one_items (x ∷ xs) [] i j m a u b v = absurd (item_no_endmodule i x a.0 a.1 (subst (λ z. IsWord ts z (codes "endmodule")) (sym b) v))
  one_items (x ∷ xs) (y ∷ ys) i j m a u b v =
      let w : (x ≡ y) × (a.0 ≡ b.0) = one_item_at i x a.0 y b.0 a.1 (items_no_else xs a.0 j a.2 u) b.1 (items_no_else ys b.0 m b.2 v) in
      let c : (xs ≡ ys) × (j ≡ m) = one_items xs ys a.0 j m a.2 u (subst (λ z. Sequence (SpellsItem ts) z ys m) (sym w.1) b.2) v in
      ((λ z. w.0 z ∷ c.0 z), c.1)

  -- headers
  group_no_name : (i : ℕ) (kind : PortKind) (j : ℕ) (n : List ℕ) → SpellsKind ts i kind j → IsIdentifier false ts i n → ⊥
  group_no_name i kind j n a b = by (kind_word i kind j a)
    where
      by : IsWord ts i (codes "input") ⊎ IsWord ts i (codes "output") → ⊥
      by (inl u) = no_word ts i n (codes "input") b u (keyword (codes "input") reserved_input)
      by (inr u) = no_word ts i n (codes "output") b u (keyword (codes "output") reserved_output)

  pub one_header_port : (i : ℕ) (x : HeaderPort) (j : ℕ) (y : HeaderPort) (m : ℕ) → SpellsHeaderPort ts i x j → SpellsHeaderPort ts i y m → (x ≡ y) × (j ≡ m)
  one_header_port i (h.Group kind shape n) j (h.Group kind' shape' n') m a b =
      let c : (kind ≡ kind') × (a.0 ≡ b.0) = one_kind ts i kind a.0 kind' b.0 shape a.1 n shape' b.1 n' a.2 a.3 a.4.0 b.2 b.3 b.4.0 in
      let d : (shape ≡ shape') × (a.1 ≡ b.1) = one_shape ts a.0 shape a.1 n shape' b.1 n' a.3 a.4.0 (subst (λ z. SpellsShape ts z shape' b.1) (sym c.1) b.3) b.4.0 in
      let e : (n ≡ n') × (j ≡ m) = one_named false ts a.1 n j n' m a.4 (subst (λ z. IsNamed false ts z n' m) (sym d.1) b.4) in
      ((λ z. h.Group (c.0 z) (d.0 z) (e.0 z)), e.1)
  one_header_port i (h.Again n) j (h.Again n') m a b = let e : (n ≡ n') × (j ≡ m) = one_named false ts i n j n' m a b in (ap h.Again e.0, e.1)
  one_header_port i (h.Group kind shape n) j (h.Again n') m a b = absurd (group_no_name i kind a.0 n' a.2 b.0)
  one_header_port i (h.Again n) j (h.Group kind shape n') m a b = absurd (group_no_name i kind b.0 n b.2 a.0)

  names_first : (i : ℕ) (xs : List (List ℕ)) (j : ℕ) → Separated (Comma ts) (IsNamed false ts) i xs j → (n : List ℕ) × IsIdentifier false ts i n
  names_first i [] j a = absurd a
  names_first i (x ∷ xs) j a = (x, a.1.0)

  groups_no_names : (i : ℕ) (xs : List HeaderPort) (j : ℕ) (n : List ℕ) → BeginsGroup ts xs → Separated (Comma ts) (SpellsHeaderPort ts) i xs j → IsIdentifier false ts i n → ⊥
  groups_no_names i [] j n u a b = u
  groups_no_names i (h.Again x ∷ xs) j n u a b = u
  groups_no_names i (h.Group kind shape x ∷ xs) j n u a b = group_no_name i kind a.1.0 n a.1.2 b

  pub one_ports : OneInside ts (SpellsPorts ts)
  one_ports i (q.Names xs) j (q.Names ys) m a u b v =
      let w : (xs ≡ ys) × (j ≡ m) =
      one_separated (Comma ts) (λ z. IsSign ts z (codes ")")) (IsNamed false ts) (λ i' x j' y m' c u' d v'. one_named false ts i' x j' y m' c d) (comma_close ts) xs ys i j m a u b v in (ap q.Names w.0, w.1)
  one_ports i (q.Groups xs) j (q.Groups ys) m a u b v =
      let w : (xs ≡ ys) × (j ≡ m) =
      one_separated (Comma ts) (λ z. IsSign ts z (codes ")")) (SpellsHeaderPort ts) (λ i' x j' y m' c u' d v'. one_header_port i' x j' y m' c d) (comma_close ts) xs ys i j m a.1 u b.1 v in (ap q.Groups w.0, w.1)
  one_ports i (q.Names xs) j (q.Groups ys) m a u b v = let n = names_first i xs j a in absurd (groups_no_names i ys m n.0 b.0 b.1 n.1)
  one_ports i (q.Groups xs) j (q.Names ys) m a u b v = let n = names_first i ys m b in absurd (groups_no_names i xs j n.0 a.0 a.1 n.1)

  ports_no_close : (i : ℕ) (x : Ports) (j : ℕ) → SpellsPorts ts i x j → IsSign ts i (codes ")") → ⊥
  ports_no_close i (q.Names []) j a here = a
  ports_no_close i (q.Names (x ∷ xs)) j a here = let u = a.1.0.stands in cc
  ports_no_close i (q.Groups []) j a here = a.0
  ports_no_close i (q.Groups (h.Again x ∷ xs)) j a here = a.0
  ports_no_close i (q.Groups (h.Group kind shape x ∷ xs)) j a here = by (kind_word i kind a.1.1.0 a.1.1.2)
    where
      by : IsWord ts i (codes "input") ⊎ IsWord ts i (codes "output") → ⊥
      by (inl u) = cc
      by (inr u) = cc

  semicolon_no_open : (i : ℕ) → IsSign ts i (codes ";") → IsSign ts i (codes "(") → ⊥
  semicolon_no_open i u v = two_signs ts i (codes ";") (codes "(") refl u v

  pub one_header : (i : ℕ) (x : Option Ports) (j : ℕ) (y : Option Ports) (m : ℕ) → SpellsHeader ts i x j → IsSign ts j (codes ";") → SpellsHeader ts i y m → IsSign ts m (codes ";") → (x ≡ y) × (j ≡ m)
  one_header i None j None m (inl a) u (inl b) v = (refl, sym a ∙ b)
  one_header i None j None m (inr a) u (inr b) v = (refl, a.2 ∙ sym b.2)
  one_header i None j None m (inl a) u (inr b) v = absurd (semicolon_no_open i (subst (λ z. IsSign ts z (codes ";")) (sym a) u) b.0)
  one_header i None j None m (inr a) u (inl b) v = absurd (semicolon_no_open i (subst (λ z. IsSign ts z (codes ";")) (sym b) v) a.0)
  one_header i None j (Some y) m (inl a) u b v = absurd (semicolon_no_open i (subst (λ z. IsSign ts z (codes ";")) (sym a) u) b.1)
  one_header i None j (Some y) m (inr a) u b v = absurd (ports_no_close (i + 1) y b.0 b.2 a.1)
  one_header i (Some x) j None m a u (inl b) v = absurd (semicolon_no_open i (subst (λ z. IsSign ts z (codes ";")) (sym b) v) a.1)
  one_header i (Some x) j None m a u (inr b) v = absurd (ports_no_close (i + 1) x a.0 a.2 b.1)
  one_header i (Some x) j (Some y) m a u b v = let w : (x ≡ y) × (j ≡ m) = in_parens ts (SpellsPorts ts) one_ports i x j y m a b in (ap Some w.0, w.1)

  pub one_header_parameter : (i : ℕ) (x : HeaderParameter) (j : ℕ) (y : HeaderParameter) (m : ℕ) → SpellsHeaderParameter ts i x j → Part ts (codes ")") j → SpellsHeaderParameter ts i y m → Part ts (codes ")") m
      → (x ≡ y) × (j ≡ m)
  one_header_parameter i (r.Group shape x) j (r.Group shape' y) m a u b v =
      let d : (shape ≡ shape') × (a.0 ≡ b.0) = one_shape ts (i + 1) shape a.0 x.name shape' b.0 y.name a.2 a.3.0 b.2 b.3.0 in
      let e : (x ≡ y) × (j ≡ m) = one_parameter ts (codes ")") (stops_paren false ts) refl refl a.0 x j y m a.3 u (subst (λ z. SpellsParameter ts z y m) (sym d.1) b.3) v in
      ((λ z. r.Group (d.0 z) (e.0 z)), e.1)
  one_header_parameter i (r.Again x) j (r.Again y) m a u b v = let e : (x ≡ y) × (j ≡ m) = one_parameter ts (codes ")") (stops_paren false ts) refl refl i x j y m a u b v in (ap r.Again e.0, e.1)
  one_header_parameter i (r.Group shape x) j (r.Again y) m a u b v = absurd (no_word ts i y.name (codes "parameter") b.0 a.1 (keyword (codes "parameter") reserved_parameter))
  one_header_parameter i (r.Again x) j (r.Group shape y) m a u b v = absurd (no_word ts i x.name (codes "parameter") a.0 b.1 (keyword (codes "parameter") reserved_parameter))

  pub one_parameters_of : OneInside ts (SpellsParameters ts)
  one_parameters_of i xs j ys m a u b v =
      one_separated (Comma ts) (λ z. IsSign ts z (codes ")")) (SpellsHeaderParameter ts) one_header_parameter (comma_close ts) xs ys i j m a.1 u b.1 v

  header_no_hash : (i : ℕ) (x : Option Ports) (j : ℕ) → SpellsHeader ts i x j → IsSign ts j (codes ";") → IsSign ts i (codes "#") → ⊥
  header_no_hash i None j (inl a) u here = two_signs ts i (codes ";") (codes "#") refl (subst (λ z. IsSign ts z (codes ";")) (sym a) u) here
  header_no_hash i None j (inr a) u here = two_signs ts i (codes "(") (codes "#") refl a.0 here
  header_no_hash i (Some x) j a u here = two_signs ts i (codes "(") (codes "#") refl a.1 here

  pub one_module : (i : ℕ) (x : Module) (j : ℕ) (y : Module) (m : ℕ) → SpellsModule ts i x j → SpellsModule ts i y m → (x ≡ y) × (j ≡ m)
  one_module i x j y m (a, b, c, w, n, ps, hd, semi, items, last, end) (a', b', c', w', n', ps', hd', semi', items', last', end') =
      let e : x.name ≡ y.name = one_identifier false ts (i + 1) x.name y.name n n' in
      let f : (x.parameters ≡ y.parameters) × (a ≡ a') =
      maybe_hash ts (SpellsParameters ts) one_parameters_of (i + 2) x.parameters a y.parameters a' ps (header_no_hash a x.ports b hd semi) ps' (header_no_hash a' y.ports b' hd' semi') in
      let o : (x.ports ≡ y.ports) × (b ≡ b') = one_header a x.ports b y.ports b' hd semi (subst (λ z. SpellsHeader ts z y.ports b') (sym f.1) hd') semi' in
      let s : (x.items ≡ y.items) × (c ≡ c') = one_items x.items y.items (b + 1) c c' items last (subst (λ z. Sequence (SpellsItem ts) (z + 1) y.items c') (sym o.1) items') last' in
      ((λ z. record { name = e z; parameters = f.0 z; ports = o.0 z; items = s.0 z }), omega (arith, end, end', s.1))

  module_not_past : (i : ℕ) (x : Module) (j : ℕ) → SpellsModule ts i x j → i ≡ length ts → ⊥
  module_not_past i x j a e = omega (arith, kind_within ts i (k.Word (codes "module")) a.3, e)

  -- a list of tokens spells at most one list of modules
  pub one_file : (xs ys : List Module) → SpellsFile ts xs → SpellsFile ts ys → xs ≡ ys
  one_file xs ys a b = (one_sequence (λ z. z ≡ length ts) (SpellsModule ts) one_module module_not_past xs ys 0 (length ts) (length ts) a.1 refl b.1 refl).0
