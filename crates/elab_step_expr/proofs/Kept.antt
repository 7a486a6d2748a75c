-- Nodes and numbers in a dag that grows.
use Rattle.std.proofs.Common.{◌≡◌, ℕ, zero, suc, ℤ, ◌^◌, ◌<◌, ◌≤◌, List, [], ◌∷◌, ◌++◌, refl, sym, ap, ◌∙◌, subst, arith, inl, inr}
use Rattle.std.specs.Prelude.{◌⊎◌, map}
use Rattle.word_core.specs.Words.{Bits, IsWord}
use Rattle.word_dag.specs.declared.node.Node.{Node}
use Rattle.word_dag.specs.Nodes.{FitsNode, FitFrom, width_of, word_at, Naming, named, node_value}
use Rattle.word_dag.specs.declared.node.Node.TheVariants.{Free}
use Rattle.word_dag.specs.Adding.{Adds, Grows, IsAt, Keeps}
use Rattle.word_dag.proofs.NodeValues.{width_at-map}
use Rattle.word_dag.proofs.Valued.{values_wide, word_wide, keeps_grown, grows_kept}
use Rattle.word_dag.proofs.Widths.{width-node_value}
use Rattle.vlog_tree.specs.declared.valuation.Entry.{Entry}
use Rattle.elab_step_expr.specs.declared.leaves.Leaf.{Leaf}
use Rattle.elab_step_expr.specs.Leaves.{entry_of, valued, AreReady}
use Rattle.elab_step_expr.specs.Nodes.{words, number_at, AddsFrees, IsNode, IsWire, Makes, wire_word}
use Rattle.elab_step_expr.specs.declared.nodes.Wire.{Wire}
use Rattle.elab_step_expr.proofs.Fits.{words_fit}

append_nil : (xs : List Node) → xs ++ [] ≡ xs
append_nil [] = refl
append_nil (x ∷ xs) = ap (λ (r : List Node). x ∷ r) (append_nil xs)

append_append : (xs ys zs : List Node) → (xs ++ ys) ++ zs ≡ xs ++ (ys ++ zs)
append_append [] ys zs = refl
append_append (x ∷ xs) ys zs = ap (λ (r : List Node). x ∷ r) (append_append xs ys zs)

pub keeps_same : (a : List Node) → Keeps a a
keeps_same a = record { more = ([], sym (append_nil a)); longer = omega arith; widths = λ i lt. refl; values = λ e i lt. refl; frees = λ n i free at. at }

-- a call that is refused changes nothing
pub keeps_refused : (a b : List Node) → b ≡ a → Keeps a b
keeps_refused a b is = subst (λ (k : List Node). Keeps a k) (sym is) (keeps_same a)

pub grows_then : (a b c : List Node) → Grows a b → Grows b c → Grows a c
grows_then a b c h k = record {
  more = (h.more.0 ++ k.more.0, k.more.1 ∙ ap (λ (r : List Node). r ++ k.more.0) h.more.1 ∙ append_append a h.more.0 k.more.0);
  longer = omega (arith, h.longer, k.longer);
  widths = λ i lt. k.widths i (omega (arith, lt, h.longer)) ∙ h.widths i lt;
  values = λ e i lt. k.values e i (omega (arith, lt, h.longer)) ∙ h.values e i lt;
}

pub keeps_then : (a b c : List Node) → Keeps a b → Keeps b c → Keeps a c
keeps_then a b c h k = keeps_grown a c (grows_then a b c (grows_kept a b h) (grows_kept b c k)) (λ n i free at. h.frees n i free (k.frees n i free at))

at_push : (ns : List Node) (m n : Node) (i : ℕ) → IsAt (ns ++ m ∷ []) i n → IsAt ns i n ⊎ (n ≡ m)
at_push [] m n zero at = inr at.1
at_push [] m n (suc i) at = absurd (omega (arith, at.0))
at_push (x ∷ ns) m n zero at = inl (omega arith, at.1)
at_push (x ∷ ns) m n (suc i) at = elim (at_push ns m n i (omega (arith, at.0), at.1)) [ inl r ↦ inl (omega (arith, r.0), r.1) | inr e ↦ inr e ]

-- a free word that is added
pub free_added : (old new : List Node) (name : List ℕ) (width side : ℕ) (cycle : ℤ) (i : ℕ) → Adds old new (Free name width side cycle) i → AddsFrees (λ n. n ≡ Free name width side cycle) old new
free_added old new name width side cycle i a n j free at = elim a.puts [
  | inl k ↦ inl (subst (λ (z : List Node). IsAt z j n) k.0 at)
  | inr k ↦ at_push old (Free name width side cycle) n j (subst (λ (z : List Node). IsAt z j n) k.0 at)
]

pub frees_then : (p q : Node → Type 0) (a b c : List Node) → AddsFrees p a b → AddsFrees q b c → AddsFrees (λ n. p n ⊎ q n) a c
frees_then p q a b c h k n i free at = elim (k n i free at) [
  | inl m ↦ elim (h n i free m) [ inl o ↦ inl o | inr s ↦ inr (inl s) ]
  | inr s ↦ inr (inr s)
]

-- and where none is added
pub frees_kept : (p : Node → Type 0) (a b c : List Node) → AddsFrees p a b → Keeps b c → AddsFrees p a c
frees_kept p a b c h k n i free at = h n i free (k.frees n i free at)

pub node_grown : (a b : List Node) (i n : ℕ) → Grows a b → IsNode a i n → IsNode b i n
node_grown a b i n k h = (omega (arith, h.0, k.longer), k.widths i h.0 ∙ h.1)

pub number_grown : (e : Naming) (a b : List Node) (i n : ℕ) → Grows a b → IsNode a i n → number_at e b i ≡ number_at e a i
number_grown e a b i n k h = ap (λ (w : Bits). w.value) (k.values e i h.0)

pub node_kept : (a b : List Node) (i n : ℕ) → Keeps a b → IsNode a i n → IsNode b i n
node_kept a b i n k h = node_grown a b i n (grows_kept a b k) h

pub number_kept : (e : Naming) (a b : List Node) (i n : ℕ) → Keeps a b → IsNode a i n → number_at e b i ≡ number_at e a i
number_kept e a b i n k h = number_grown e a b i n (grows_kept a b k) h

-- a node's word by its parts
pub word_is : (e : Naming) (ns : List Node) (i n : ℕ) → FitFrom [] ns → IsNode ns i n → word_at (words e ns) i ≡ record { width = n; value = number_at e ns i }
word_is e ns i n f h =
    let w : (word_at (words e ns) i).width ≡ n = word_wide e ns i f ∙ sym (width_at-map ns i) ∙ h.1 in
    ap (λ k. let b : Bits = record { width = k; value = number_at e ns i } in b) w

pub number_fits : (e : Naming) (ns : List Node) (i n : ℕ) → FitFrom [] ns → IsNode ns i n → number_at e ns i < 2 ^ n
number_fits e ns i n f h =
    let w = words_fit e ns i f h.0 in
    subst (λ (b : Bits). b.value < 2 ^ b.width) (word_is e ns i n f h) w.fits

pub node_long : (ns : List Node) (i n : ℕ) → FitFrom [] ns → IsNode ns i n → (1 ≤ n) × (n ≤ 64)
node_long ns i n f h =
    let e : Naming = λ x s c. 0 in
    let w = subst (λ (b : Bits). IsWord b) (word_is e ns i n f h) (words_fit e ns i f h.0) in
    (omega (arith, w.some), w.most)

pub wire_fits : (e : Naming) (ns : List Node) (a : Wire) → FitFrom [] ns → IsWire ns a → IsWord (wire_word e ns a)
wire_fits e ns a f h =
    let long = node_long ns a.node a.width f h in
    record { some = omega (arith, long.0); most = long.1; fits = number_fits e ns a.node a.width f h }

-- what a made node is
pub made_node : (ns : List Node) (i n : ℕ) (f : Naming → ℕ) → Makes ns i n f → IsNode ns i n
made_node ns i n f m = (m.within, m.wide)

pub made_number : (e : Naming) (ns : List Node) (i n : ℕ) (f : Naming → ℕ) → Makes ns i n f → number_at e ns i ≡ f e
made_number e ns i n f m = ap (λ (w : Bits). w.value) (m.word e)

pub made_same : (ns : List Node) (i n : ℕ) (f g : Naming → ℕ) → Makes ns i n f → ((e : Naming) → f e ≡ g e) → Makes ns i n g
made_same ns i n f g m same = record {
  within = m.within;
  wide = m.wide;
  word = λ e. m.word e ∙ ap (λ k. let b : Bits = record { width = n; value = k } in b) (same e);
}

pub made_kept : (a b : List Node) (i n : ℕ) (f : Naming → ℕ) → Keeps a b → Makes a i n f → Makes b i n f
made_kept a b i n f k m = record {
  within = omega (arith, m.within, k.longer);
  wide = k.widths i m.within ∙ m.wide;
  word = λ e. k.values e i m.within ∙ m.word e;
}

-- a node that is there makes its own number
pub made_here : (ns : List Node) (i n : ℕ) → FitFrom [] ns → IsNode ns i n → Makes ns i n (λ e. number_at e ns i)
made_here ns i n f h = record { within = h.0; wide = h.1; word = λ e. word_is e ns i n f h }

-- a node that is added
pub added : (old new : List Node) (m : Node) (i n : ℕ) (f : Naming → ℕ) → FitFrom [] old → FitsNode (map width_of old) m → Adds old new m i → n ≡ width_of m → ((e : Naming) → (node_value (named e m) (words e old) m).value ≡ f e) → Makes new i n f
added old new m i n f fit fits a wide same = record {
  within = a.within;
  wide = a.wide ∙ sym wide;
  word = λ e.
      let vs = words e old in
      let ws = subst (λ (k : List ℕ). FitsNode k m) (sym (values_wide e [] old fit)) fits in
      let w : (node_value (named e m) vs m).width ≡ n = width-node_value (named e m) vs m ws ∙ sym wide in
      a.value e ∙ whole (node_value (named e m) vs m) n (f e) w (same e);
}
  where
    whole : (b : Bits) (n x : ℕ) → b.width ≡ n → b.value ≡ x → b ≡ record { width = n; value = x }
    whole b n x h k = ap (λ j. let r : Bits = record { width = j; value = b.value } in r) h ∙ ap (λ j. let r : Bits = record { width = n; value = j } in r) k

-- the leaves in a dag that grows
pub ready_grown : (ls : List Leaf) (a b : List Node) → Grows a b → AreReady ls a → AreReady ls b
ready_grown [] a b k h = tt
ready_grown (l ∷ ls) a b k h = (h.0, node_grown a b l.node l.width k h.1, ready_grown ls a b k h.2)

pub ready_kept : (ls : List Leaf) (a b : List Node) → Keeps a b → AreReady ls a → AreReady ls b
ready_kept ls a b k h = ready_grown ls a b (grows_kept a b k) h

pub valued_kept : (e : Naming) (ls : List Leaf) (a b : List Node) → Keeps a b → AreReady ls a → valued ls (words e b) ≡ valued ls (words e a)
valued_kept e [] a b k h = refl
valued_kept e (l ∷ ls) a b k h =
    ap (λ n. entry_of l n ∷ valued ls (words e b)) (number_kept e a b l.node l.width k h.1)
    ∙ ap (λ (r : List Entry). entry_of l (number_at e a l.node) ∷ r) (valued_kept e ls a b k h.2)
