-- What names read, by their leaves.
use Rattle.std.proofs.Common.{◌≡◌, ℕ, Bool, true, false, refl, sym, ap, ◌∙◌, subst, List, [], ◌∷◌, ◌&&◌, Option, Some, None}
use Rattle.std.specs.Prelude.{nat_eq, if◌then◌else◌, unwrap_or, IsSomeAnd}
use Rattle.std.specs.Option.{option_map}
use Rattle.std.specs.Str.{bytes_eq}
use Rattle.word_dag.specs.Nodes.{word_at}
use Rattle.vlog_tree.specs.declared.expr.Constant.{Constant}
use Rattle.vlog_tree.specs.declared.expr.Name.{Name}
use Rattle.vlog_tree.specs.declared.valuation.Entry.{Entry}
use Rattle.vlog_tree.specs.Valuation.{IsLength, entry_at, meant, named, depth_of}
use Rattle.vlog_tree.specs.Value.{Stands}
use Rattle.word_core.specs.Words.{Bits}
use Rattle.elab_step_expr.specs.declared.leaves.Leaf.{Leaf}
use Rattle.elab_step_expr.specs.Leaves.{entry_of, entries, valued, declared, leaf_at, AreReady}
use Rattle.elab_step_expr.specs.Nodes.{IsNode}
use Rattle.word_dag.specs.declared.node.Node.{Node}
use Rattle.elab_step_expr.proofs.Alike.{Alike}

module _ (f : Leaf → ℕ) where
  abbrev pub found : Option Leaf → Option Entry
  found o = option_map (λ l. entry_of l (f l)) o

  first : (t : Bool) (l : Leaf) (r : Option Entry) (o : Option Leaf) → r ≡ found o → (if t then Some (entry_of l (f l)) else r) ≡ found (if t then Some l else o)
  first true l r o h = refl
  first false l r o h = h

  pub entry_is : (ls : List Leaf) (x : List ℕ) (j : ℕ) → entry_at (entries f ls) x j ≡ found (leaf_at ls x j)
  entry_is [] x j = refl
  entry_is (l ∷ ls) x j = first (nat_eq l.offset j && bytes_eq l.name x) l _ _ (entry_is ls x j)

abbrev pub none : Constant
none = record { width = 1; low = 0; signed = false; value = 0 }

abbrev pub name_of : (Leaf → ℕ) → Option Leaf → Constant
name_of f o = unwrap_or (option_map meant (found f o)) none

pub named_is : (f : Leaf → ℕ) (ls : List Leaf) (x : Name) → named (entries f ls) x ≡ name_of f (leaf_at ls x.text x.offset)
named_is f ls x = ap (λ (o : Option Entry). unwrap_or (option_map meant o) none) (entry_is f ls x.text x.offset)

pub depth_is : (f : Leaf → ℕ) (ls : List Leaf) (x : Name) → depth_of (entries f ls) x ≡ 0
depth_is f ls x = ap (λ (o : Option Entry). unwrap_or (option_map (λ e. e.depth) o) 0) (entry_is f ls x.text x.offset) ∙ none_deep (leaf_at ls x.text x.offset)
  where
    none_deep : (o : Option Leaf) → unwrap_or (option_map (λ e. e.depth) (found f o)) 0 ≡ 0
    none_deep None = refl
    none_deep (Some l) = refl

same_width : (f g : Leaf → ℕ) (o : Option Leaf) → (name_of f o).width ≡ (name_of g o).width
same_width f g None = refl
same_width f g (Some l) = refl

same_low : (f g : Leaf → ℕ) (o : Option Leaf) → (name_of f o).low ≡ (name_of g o).low
same_low f g None = refl
same_low f g (Some l) = refl

same_sign : (f g : Leaf → ℕ) (o : Option Leaf) → (name_of f o).signed ≡ (name_of g o).signed
same_sign f g None = refl
same_sign f g (Some l) = refl

abbrev IsThere : Option Entry → Type 0
IsThere o = IsSomeAnd (option_map meant o) (λ k. IsLength k.width)

same_there : (f g : Leaf → ℕ) (o : Option Leaf) → IsThere (found f o) → IsThere (found g o)
same_there f g None h = h
same_there f g (Some l) h = h

pub alike : (f g : Leaf → ℕ) (ls : List Leaf) → Alike (entries f ls) (entries g ls)
alike f g ls = record {
  width = λ x. ap (λ (k : Constant). k.width) (named_is f ls x) ∙ same_width f g (leaf_at ls x.text x.offset) ∙ sym (ap (λ (k : Constant). k.width) (named_is g ls x));
  low = λ x. ap (λ (k : Constant). k.low) (named_is f ls x) ∙ same_low f g (leaf_at ls x.text x.offset) ∙ sym (ap (λ (k : Constant). k.low) (named_is g ls x));
  signed = λ x. ap (λ (k : Constant). k.signed) (named_is f ls x) ∙ same_sign f g (leaf_at ls x.text x.offset) ∙ sym (ap (λ (k : Constant). k.signed) (named_is g ls x));
  stands = λ x h. subst IsThere (sym (entry_is g ls x.text x.offset)) (same_there f g (leaf_at ls x.text x.offset) (subst IsThere (entry_is f ls x.text x.offset) h));
  left = λ x. depth_is f ls x;
  right = λ x. depth_is g ls x;
}

pub alike_valued : (ls : List Leaf) (ws : List Bits) → Alike (declared ls) (valued ls ws)
alike_valued ls ws = alike (λ l. 0) (λ l. (word_at ws l.node).value) ls

-- a name that stands has a leaf
pub stands_leaf : (ls : List Leaf) (x : Name) → Stands (declared ls) x → leaf_at ls x.text x.offset ≡ None → ⊥
stands_leaf ls x h is =
    let r : IsThere (found (λ l. 0) (leaf_at ls x.text x.offset)) = subst IsThere (entry_is (λ l. 0) ls x.text x.offset) h in
    let s : IsThere (found (λ l. 0) None) = subst (λ (o : Option Leaf). IsThere (found (λ l. 0) o)) is r in
    s

pub named_leaf : (f : Leaf → ℕ) (ls : List Leaf) (x : Name) (l : Leaf) → leaf_at ls x.text x.offset ≡ Some l → named (entries f ls) x ≡ record { width = l.width; low = l.low; signed = l.signed; value = f l }
named_leaf f ls x l is = named_is f ls x ∙ ap (λ (o : Option Leaf). name_of f o) is

-- the leaf that is found has a node
pub leaf_ready : (ls : List Leaf) (ns : List Node) (x : List ℕ) (j : ℕ) (l : Leaf) → AreReady ls ns → leaf_at ls x j ≡ Some l → IsLength l.width × IsNode ns l.node l.width
leaf_ready [] ns x j l h is = cc
leaf_ready (k ∷ ls) ns x j l h is = pick (leaf_ready ls ns x j l h.2) (nat_eq k.offset j && bytes_eq k.name x) is
  where
    some_is : (a b : Leaf) → Some a ≡ Some b → a ≡ b
    some_is a b e = cc

    pick : (leaf_at ls x j ≡ Some l → IsLength l.width × IsNode ns l.node l.width) → (t : Bool) → (if t then Some k else leaf_at ls x j) ≡ Some l → IsLength l.width × IsNode ns l.node l.width
    pick rest true e = subst (λ (z : Leaf). IsLength z.width × IsNode ns z.node z.width) (some_is k l e) (h.0, h.1)
    pick rest false e = rest e
