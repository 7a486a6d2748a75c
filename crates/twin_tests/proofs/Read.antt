-- A formula means the same over the leaves of its own names alone.
use Rattle.std.proofs.Common.{◌≡◌, ℕ, ◌⊎◌, inl, inr, Bool, true, false, List, [], ◌∷◌, ◌++◌, Option, Some, None, refl, sym, ap, ◌∙◌, subst}
use Rattle.std.specs.Prelude.{nat_eq, ◌&&◌, if◌then◌else◌, unwrap_or, is_some, IsTrue}
use Rattle.std.specs.Option.{option_map, option_to_list}
use Rattle.std.specs.Str.{bytes_eq}
use Rattle.std.proofs.lemmas.Slice.Eq.{bytes_eq-Decides}
use Rattle.std.proofs.lemmas.Bool.Decides.{Decides-eqb}
use Rattle.vlog_tree.specs.declared.expr.Expr.{Expr}
use Rattle.vlog_tree.specs.declared.expr.Name.{Name as Read}
use Rattle.vlog_tree.specs.declared.valuation.Entry.{Entry}
use Rattle.vlog_tree.specs.Valuation.{IsLength, entry_at, depth_of}
use Rattle.vlog_tree.specs.Value.{Operand, own, own_value, own_defined}
use Rattle.word_core.specs.Words.{Bits}
use Rattle.word_dag.specs.declared.node.Node.{Node}
use Rattle.elab_step_expr.specs.declared.leaves.Leaf.{Leaf}
use Rattle.elab_step_expr.specs.Leaves.{entry_of, entries, valued, declared, leaf_at, AreReady}
use Rattle.elab_step_expr.specs.Nodes.{IsNode}
use Rattle.elab_step_expr.specs.Terms.{IsAlone}
use Rattle.twin_tests.specs.Leaves.{names_in, leaf_read, with_leaf, with_leaves, leaves_read}
use Rattle.twin_tests.proofs.Alike.{Among, ReadAlike, same_operand, same_form}

-- ---- the entries that leaves give

module _ (f : Leaf → ℕ) where
  abbrev given : Leaf → Entry
  given l = entry_of l (f l)

  entry_step : (l : Leaf) (es : Option Entry) (ls : Option Leaf) (t : Bool) → es ≡ option_map given ls → (if t then Some (given l) else es) ≡ option_map given (if t then Some l else ls)
  entry_step l es ls true h = refl
  entry_step l es ls false h = h

  leaf_entry : (ls : List Leaf) (x : List ℕ) (j : ℕ) → entry_at (entries f ls) x j ≡ option_map given (leaf_at ls x j)
  leaf_entry [] x j = refl
  leaf_entry (l ∷ ls) x j = entry_step l (entry_at (entries f ls) x j) (leaf_at ls x j) (nat_eq l.offset j && bytes_eq l.name x) (leaf_entry ls x j)

  no_depth : (o : Option Leaf) → unwrap_or (option_map (λ (k : Entry). k.depth) (option_map given o)) 0 ≡ 0
  no_depth None = refl
  no_depth (Some l) = refl

  no_memory : (ls : List Leaf) (x : Read) → depth_of (entries f ls) x ≡ 0
  no_memory ls x = ap (λ (o : Option Entry). unwrap_or (option_map (λ (k : Entry). k.depth) o) 0) (leaf_entry ls x.text x.offset) ∙ no_depth (leaf_at ls x.text x.offset)

-- ---- the leaf of a name

pub record IsLeafOf (l : Leaf) (x : List ℕ) (j : ℕ) : Type 0 where
  pub offset : l.offset ≡ j
  pub name : l.name ≡ x

told : (l : Leaf) (x : List ℕ) (j : ℕ) (s t : Bool) → s ≡ nat_eq l.offset j → t ≡ bytes_eq l.name x → (s && t) ≡ true → IsLeafOf l x j
told l x j true true p q h = record { offset = (Decides-eqb l.offset j).0 (sym p); name = (bytes_eq-Decides l.name x).0 (sym q) }
told l x j true false p q h = absurd cc
told l x j false t p q h = absurd cc

is_hit : (l : Leaf) (x : List ℕ) (j : ℕ) → IsLeafOf l x j → (nat_eq l.offset j && bytes_eq l.name x) ≡ true
is_hit l x j h = let p : nat_eq l.offset j ≡ true = (Decides-eqb l.offset j).1 h.offset in let q : bytes_eq l.name x ≡ true = (bytes_eq-Decides l.name x).1 h.name in λ r. p r && q r

found_step : (l k : Leaf) (x : List ℕ) (j : ℕ) (rest : Option Leaf) (t : Bool) → t ≡ (nat_eq k.offset j && bytes_eq k.name x) → (rest ≡ Some l → IsLeafOf l x j) → (if t then Some k else rest) ≡ Some l → IsLeafOf l x j
found_step l k x j rest true is more h = let same : k ≡ l = cc in subst (λ (z : Leaf). IsLeafOf z x j) same (told k x j _ _ refl refl (sym is))
found_step l k x j rest false is more h = more h

pub found : (ls : List Leaf) (l : Leaf) (x : List ℕ) (j : ℕ) → leaf_at ls x j ≡ Some l → IsLeafOf l x j
found [] l x j h = absurd cc
found (k ∷ ls) l x j h = found_step l k x j (leaf_at ls x j) _ refl (found ls l x j) h

abbrev pub or_else : Option Leaf → Option Leaf → Option Leaf
or_else None p = p
or_else (Some l) p = Some l

append_step : (l : Leaf) (o p : Option Leaf) (q : Option Leaf) (t : Bool) → q ≡ or_else o p → (if t then Some l else q) ≡ or_else (if t then Some l else o) p
append_step l o p q true h = refl
append_step l o p q false h = h

leaf_append : (ls ms : List Leaf) (x : List ℕ) (j : ℕ) → leaf_at (ls ++ ms) x j ≡ or_else (leaf_at ls x j) (leaf_at ms x j)
leaf_append [] ms x j = refl
leaf_append (l ∷ ls) ms x j = append_step l (leaf_at ls x j) (leaf_at ms x j) (leaf_at (ls ++ ms) x j) (nat_eq l.offset j && bytes_eq l.name x) (leaf_append ls ms x j)

-- nothing, or this
abbrev IsNoneOr : Option Leaf → Option Leaf → Type 0
IsNoneOr a o = (o ≡ None) ⊎ (o ≡ a)

either_is : (a o p : Option Leaf) → IsNoneOr a o → IsNoneOr a p → IsNoneOr a (or_else o p)
either_is a None p h k = k
either_is a (Some l) p h k = h

first_is : (a o p : Option Leaf) → o ≡ a → IsNoneOr a p → or_else o p ≡ a
first_is a None p h (inl k) = k ∙ h
first_is a None p h (inr k) = k
first_is a (Some l) p h k = h

second_is : (a o p : Option Leaf) → is_some o ≡ false → p ≡ a → or_else o p ≡ a
second_is a None p h k = k
second_is a (Some l) p h k = absurd cc

there : (a o : Option Leaf) → is_some o ≡ true → IsNoneOr a o → o ≡ a
there a None h k = absurd cc
there a (Some l) h (inl k) = absurd cc
there a (Some l) h (inr k) = k

module _ (all : List Leaf) where
  -- where a leaf of the list is that of a name, the list has it there
  placed : (l : Leaf) (x y : List ℕ) (j i : ℕ) → leaf_at all x j ≡ Some l → IsLeafOf l y i → leaf_at all y i ≡ Some l
  placed l x y j i h k =
      let g = found all l x j h in
      let p : y ≡ x = sym k.name ∙ g.name in
      let q : i ≡ j = sym k.offset ∙ g.offset in
      (λ r. leaf_at all (p r) (q r)) ∙ h

  single_step : (l : Leaf) (x y : List ℕ) (j i : ℕ) (t : Bool) → t ≡ (nat_eq l.offset i && bytes_eq l.name y) → leaf_at all x j ≡ Some l → IsNoneOr (leaf_at all y i) (if t then Some l else None)
  single_step l x y j i true is h = inr (sym (placed l x y j i h (told l y i _ _ refl refl (sym is))))
  single_step l x y j i false is h = inl refl

  -- a leaf of the list is that of no other name
  single : (o : Option Leaf) (x y : List ℕ) (j i : ℕ) → leaf_at all x j ≡ o → IsNoneOr (leaf_at all y i) (leaf_at (option_to_list o) y i)
  single None x y j i h = inl refl
  single (Some l) x y j i h = single_step l x y j i _ refl h

  own_leaf : (o : Option Leaf) (x : List ℕ) (j : ℕ) → leaf_at all x j ≡ o → leaf_at (option_to_list o) x j ≡ leaf_at all x j
  own_leaf None x j h = sym h
  own_leaf (Some l) x j h = ap (λ (t : Bool). if t then Some l else None) (is_hit l x j (found all l x j h)) ∙ sym h

  -- leaves of the list alone
  abbrev AreOfAll : List Leaf → Type 0
  AreOfAll ls = (y : List ℕ) (i : ℕ) → IsNoneOr (leaf_at all y i) (leaf_at ls y i)

  -- the leaf of a name is there
  abbrev Holds : List Leaf → Read → Type 0
  Holds ls y = leaf_at ls y.text y.offset ≡ leaf_at all y.text y.offset

  module _ (ls : List Leaf) (x : Read) where
    abbrev more : Bool → List Leaf
    more t = if t then ls else ls ++ leaf_read all x

    more_of_all : (t : Bool) → AreOfAll ls → AreOfAll (more t)
    more_of_all true h = h
    more_of_all false h = λ y i.
        subst (IsNoneOr (leaf_at all y i)) (sym (leaf_append ls (leaf_read all x) y i)) (either_is (leaf_at all y i) (leaf_at ls y i) (leaf_at (leaf_read all x) y i) (h y i) (single (leaf_at all x.text x.offset) x.text y x.offset i refl))

    more_holds : (t : Bool) (y : Read) → Holds ls y → Holds (more t) y
    more_holds true y h = h
    more_holds false y h =
        leaf_append ls (leaf_read all x) y.text y.offset ∙ first_is (leaf_at all y.text y.offset) (leaf_at ls y.text y.offset) (leaf_at (leaf_read all x) y.text y.offset) h (single (leaf_at all x.text x.offset) x.text y.text x.offset y.offset refl)

    now_holds : (t : Bool) → is_some (leaf_at ls x.text x.offset) ≡ t → AreOfAll ls → Holds (more t) x
    now_holds true is h = there (leaf_at all x.text x.offset) (leaf_at ls x.text x.offset) is (h x.text x.offset)
    now_holds false is h =
        leaf_append ls (leaf_read all x) x.text x.offset ∙ second_is (leaf_at all x.text x.offset) (leaf_at ls x.text x.offset) (leaf_at (leaf_read all x) x.text x.offset) is (own_leaf (leaf_at all x.text x.offset) x.text x.offset refl)

  still_holds : (xs : List Read) (ls : List Leaf) (y : Read) → Holds ls y → Holds (with_leaves all ls xs) y
  still_holds [] ls y h = h
  still_holds (x ∷ xs) ls y h = still_holds xs (with_leaf all ls x) y (more_holds ls x (is_some (leaf_at ls x.text x.offset)) y h)

  each_holds : (xs : List Read) (ls : List Leaf) (y : Read) → AreOfAll ls → Among xs y → Holds (with_leaves all ls xs) y
  each_holds [] ls y h m = absurd m
  each_holds (x ∷ xs) ls y h (inl same) = subst (Holds (with_leaves all ls (x ∷ xs))) same (still_holds xs (with_leaf all ls x) x (now_holds ls x (is_some (leaf_at ls x.text x.offset)) refl h))
  each_holds (x ∷ xs) ls y h (inr m) = each_holds xs (with_leaf all ls x) y (more_of_all ls x (is_some (leaf_at ls x.text x.offset)) h) m

  alike : (f : Leaf → ℕ) (a : Expr) → ReadAlike (entries f (leaves_read all a)) (entries f all) (names_in a)
  alike f a = record {
    entry = λ x m. leaf_entry f (leaves_read all a) x.text x.offset ∙ (ap (option_map (given f)) (each_holds (names_in a) [] x (λ y i. inl refl) m) ∙ sym (leaf_entry f all x.text x.offset));
    plain = no_memory f (leaves_read all a);
    plain_too = no_memory f all;
  }

  -- a formula may be taken over the leaves of its names
  pub alone_read : (a : Expr) → IsAlone all a → IsAlone (leaves_read all a) a
  alone_read a h =
      let m = alike (λ l. 0) a in
      record {
        formed = subst (λ (X : Type 0). X) (sym (same_form (declared (leaves_read all a)) (declared all) a m)) h.formed;
        constant = h.constant;
        defined = subst (λ (o : Operand). IsTrue (own_defined o)) (sym (same_operand (declared (leaves_read all a)) (declared all) a m)) h.defined;
      }

  -- and has its value
  pub value_read : (a : Expr) (ws : List Bits) → own_value (valued (leaves_read all a) ws) a ≡ own_value (valued all ws) a
  value_read a ws = ap own (same_operand (valued (leaves_read all a) ws) (valued all ws) a (alike _ a))

-- ---- leaves that have their nodes

module _ (ns : List Node) where
  abbrev IsReady : Leaf → Type 0
  IsReady l = IsLength l.width × IsNode ns l.node l.width

  ready_step : (l k : Leaf) (rest : Option Leaf) (t : Bool) → IsReady k → (rest ≡ Some l → IsReady l) → (if t then Some k else rest) ≡ Some l → IsReady l
  ready_step l k rest true one more h = let same : k ≡ l = cc in subst IsReady same one
  ready_step l k rest false one more h = more h

  found_ready : (ls : List Leaf) (l : Leaf) (x : List ℕ) (j : ℕ) → AreReady ls ns → leaf_at ls x j ≡ Some l → IsReady l
  found_ready [] l x j r h = absurd cc
  found_ready (k ∷ ls) l x j r h = ready_step l k (leaf_at ls x j) _ (r.0, r.1) (found_ready ls l x j r.2) h

  one_ready : (all : List Leaf) (o : Option Leaf) (x : List ℕ) (j : ℕ) → AreReady all ns → leaf_at all x j ≡ o → AreReady (option_to_list o) ns
  one_ready all None x j r h = tt
  one_ready all (Some l) x j r h = let one = found_ready all l x j r h in (one.0, one.1, tt)

  pub ready_append : (xs ys : List Leaf) → AreReady xs ns → AreReady ys ns → AreReady (xs ++ ys) ns
  ready_append [] ys h k = k
  ready_append (x ∷ xs) ys h k = (h.0, h.1, ready_append xs ys h.2 k)

  with_ready : (all ls : List Leaf) (x : Read) (t : Bool) → AreReady all ns → AreReady ls ns → AreReady (if t then ls else ls ++ leaf_read all x) ns
  with_ready all ls x true r h = h
  with_ready all ls x false r h = ready_append ls (leaf_read all x) h (one_ready all (leaf_at all x.text x.offset) x.text x.offset r refl)

  all_ready : (all ls : List Leaf) (xs : List Read) → AreReady all ns → AreReady ls ns → AreReady (with_leaves all ls xs) ns
  all_ready all ls [] r h = h
  all_ready all ls (x ∷ xs) r h = all_ready all (with_leaf all ls x) xs r (with_ready all ls x (is_some (leaf_at ls x.text x.offset)) r h)

  pub ready_read : (all : List Leaf) (a : Expr) → AreReady all ns → AreReady (leaves_read all a) ns
  ready_read all a r = all_ready all [] (names_in a) r tt
