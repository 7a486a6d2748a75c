-- Numbers that are given to targets.
use Rattle.std.proofs.Common.{arith, ◌≡◌, ◌≢◌, ℕ, zero, suc, ◌+◌, ◌-◌, ◌*◌, ◌/◌, ◌%◌, ◌^◌, ◌<◌, ◌≤◌, true, false, List, [], ◌∷◌, length, get_or, drop, refl, sym, ap, ◌∙◌, subst, ⊎_elim, ℤ, pos, ◌+ℤ◌, ◌-ℤ◌}
use Rattle.std.specs.Prelude.{if◌then◌else◌}
use Rattle.std.specs.Str.{bytes_eq}
use Rattle.std.proofs.lemmas.Slice.Eq.{bytes_eq-Decides}
use Rattle.std.proofs.lemmas.Nat.{mod-pow-add}
use Rattle.std.proofs.Math.Nat.{mod-lt}
use Rattle.word_dag.specs.declared.node.Node.{Node}
use Rattle.word_core.specs.Words.{Bits}
use Rattle.word_dag.specs.declared.node.Node.TheVariants.{Const}
use Rattle.word_dag.specs.Nodes.{Naming, FitFrom}
use Rattle.word_dag.specs.Adding.{Keeps}
use Rattle.word_dag.proofs.Valued.{value_there}
use Rattle.vlog_tree.specs.declared.valuation.Entry.{Entry}
use Rattle.vlog_tree.specs.Value.{integer}
use Rattle.vlog_tree_values.proofs.Numbers.{bool_cases}
use Rattle.vlog_tree_runs.specs.Places.{Name, Cycle, Piece, write_bits, write_bit, put, give, total}
use Rattle.elab_step_expr.specs.declared.leaves.Leaf.{Leaf}
use Rattle.elab_step_expr.specs.Leaves.{entry_of, declared, AreReady, with_node}
use Rattle.elab_step_expr.specs.declared.nodes.Wire.{Wire}
use Rattle.elab_step_expr.specs.Nodes.{IsNode, IsWire, number_at, wire_word}
use Rattle.elab_step_expr.proofs.Kept.{node_kept, number_kept, word_is, keeps_then}
use Rattle.elab_step_blocks.specs.declared.targets.Spot.{Spot}
use Rattle.elab_step_blocks.specs.declared.targets.Spot.TheVariants as s
use Rattle.elab_step_blocks.specs.declared.targets.Target.{Target}
use Rattle.elab_step_blocks.specs.Standing.{Lacks, AreApart, AreShown}
use Rattle.elab_step_blocks.specs.Targets.{name_at, width_at, bit_at, piece_of, pieces_of, bits_in, IsSpot, IsTarget, AreTargets, Puts, PutsFrom, Gives}
use Rattle.elab_step_blocks.proofs.Joins.{shown_kept, shown_same, long_same}

-- ---- the low bits alone are written

half : (t : ℕ) → t % 2 < 2
half t = mod-lt t (omega arith)

low_halves : (t n : ℕ) → (t % 2 ^ suc n % 2 ≡ t % 2) × (t % 2 ^ suc n / 2 ≡ t / 2 % 2 ^ n)
low_halves t n =
    let k : n + 1 ≡ suc n = omega arith in
    let e : t % 2 ^ suc n ≡ t / 2 % 2 ^ n * 2 + t % 2 = ap (λ m. t % 2 ^ m) (sym k) ∙ mod-pow-add t n 1 in
    let l = half t in
    (omega (arith, e, l), omega (arith, e, l))

pub write_low : (size : ℕ) (i : ℤ) (n t x : ℕ) → write_bits size i n (t % 2 ^ n) x ≡ write_bits size i n t x
write_low size i zero t x = refl
write_low size i (suc n) t x =
    let h = low_halves t n in
    (λ r. write_bits size (i +ℤ pos 1) n (h.1 r) (write_bit size i (h.0 r) x)) ∙ write_low size (i +ℤ pos 1) n (t / 2) (write_bit size i (t % 2) x)

pub put_low : (q : Piece) (t : ℕ) (c : Cycle) (x : Name) → put q t c x ≡ put q (t % 2 ^ q.count) c x
put_low q t c x = ap (λ k. if bytes_eq q.name x then k else c x) (sym (write_low q.size q.from q.count t (c x)))

-- ---- one target

same_name : (x : Name) → bytes_eq x x ≡ true
same_name x = (bytes_eq-Decides x x).1 refl

pub other_name : (x y : Name) → x ≢ y → bytes_eq x y ≡ false
other_name x y n = ⊎_elim (λ (h : bytes_eq x y ≡ true). absurd (n ((bytes_eq-Decides x y).0 h))) (λ h. h) (bool_cases (bytes_eq x y))

module _ (e : Naming) (size : ℕ) (from : ℤ) (count v : ℕ) (d : Cycle) where
  abbrev pub piece : Name → Piece
  piece x = record { name = x; size = size; from = from; count = count }

  put_other : (x y : Name) → x ≢ y → put (piece x) v d y ≡ d y
  put_other x y n = ap (λ t. if t then write_bits size from count v (d y) else d y) (other_name x y n)

  others_shown : (x : Name) (ls : List Leaf) (ns : List Node) → Lacks x ls → AreShown e ns ls d → AreShown e ns ls (put (piece x) v d)
  others_shown x [] ns n h = tt
  others_shown x (l ∷ ls) ns n h = (put_other x l.name n.0 ∙ h.0, others_shown x ls ns n.1 h.1)

  lacks_at : (x : Name) (ls : List Leaf) (i : ℕ) → i < length ls → Lacks x ls → x ≢ name_at ls i
  lacks_at x [] i lt n = absurd (omega arith)
  lacks_at x (l ∷ ls) zero lt n = n.0
  lacks_at x (l ∷ ls) (suc i) lt n = lacks_at x ls i (omega arith) n.1

  pub put_shown : (ls : List Leaf) (i r : ℕ) (l : Leaf) (a b : List Node) → i < length ls → l ≡ get_or ls i l → AreApart ls → AreReady ls a → Keeps a b → AreShown e a ls d
      → number_at e b r ≡ write_bits size from count v (number_at e a l.node) → AreShown e b (with_node ls i r) (put (piece (name_at ls i)) v d)
  put_shown [] i r l a b lt g n k m h w = absurd (omega arith)
  put_shown (y ∷ ls) zero r l a b lt g n k m h w = (
    ap (λ t. if t then write_bits size from count v (d y.name) else d y.name) (same_name y.name) ∙ ap (λ z. write_bits size from count v z) (h.0 ∙ ap (λ (z : Leaf). number_at e a z.node) (sym g)) ∙ sym w,
    others_shown y.name ls b n.0 (shown_kept e ls a b d m k.2 h.1),
  )
  put_shown (y ∷ ls) (suc i) r l a b lt g n k m h w = (
    put_other (name_at ls i) y.name (λ p. lacks_at y.name ls i (omega arith) n.0 (sym p)) ∙ h.0 ∙ sym (number_kept e a b y.node y.width m k.1),
    put_shown ls i r l a b (omega arith) g n.1 k.2 m h.1 w,
  )

pub put_ready : (ls : List Leaf) (i r : ℕ) (l : Leaf) (a b : List Node) → i < length ls → l ≡ get_or ls i l → AreReady ls a → Keeps a b → IsNode b r l.width → AreReady (with_node ls i r) b
put_ready [] i r l a b lt g k m n = absurd (omega arith)
put_ready (y ∷ ls) zero r l a b lt g k m n = (k.0, subst (λ (z : Leaf). IsNode b r z.width) g n, ready_kept ls a b m k.2)
  where
    ready_kept : (ls : List Leaf) (a b : List Node) → Keeps a b → AreReady ls a → AreReady ls b
    ready_kept [] a b m k = tt
    ready_kept (l ∷ ls) a b m k = (k.0, node_kept a b l.node l.width m k.1, ready_kept ls a b m k.2)
put_ready (y ∷ ls) (suc i) r l a b lt g k m n = (k.0, node_kept a b y.node y.width m k.1, put_ready ls i r l a b (omega arith) g k.2 m n)

pub leaf_width : (ls : List Leaf) (i : ℕ) (l : Leaf) → i < length ls → l ≡ get_or ls i l → width_at ls i ≡ l.width
leaf_width [] i l lt g = absurd (omega arith)
leaf_width (y ∷ ls) zero l lt g = ap (λ (z : Leaf). z.width) (sym g)
leaf_width (y ∷ ls) (suc i) l lt g = leaf_width ls i l (omega arith) g

-- a word that is changed at a target's spot
pub puts_is : (t : Target) (n r : ℕ) (ls : List Leaf) (l : Leaf) (a b : List Node) → t.leaf < length ls → l ≡ get_or ls t.leaf l → AreApart ls → AreReady ls a → Keeps a b
    → ((e : Naming) → number_at e b r ≡ write_bits l.width (bit_at e a t.spot) t.count (number_at e a n) (number_at e a l.node)) → Puts t n ls a (with_node ls t.leaf r) b
puts_is t n r ls l a b lt g p k m w e d h =
    put_shown e (width_at ls t.leaf) (bit_at e a t.spot) t.count (number_at e a n) d ls t.leaf r l a b lt g p k m h
    (w e ∙ ap (λ z. write_bits z (bit_at e a t.spot) t.count (number_at e a n) (number_at e a l.node)) (sym (leaf_width ls t.leaf l lt g)))

-- ---- an index that is a constant

pub constant_here : (ns : List Node) (a : Wire) (n : Node) (w : Bits) → FitFrom [] ns → IsWire ns a → n ≡ get_or ns a.node n → n ≡ Const w → (e : Naming) → wire_word e ns a ≡ w
constant_here ns a n w fit h at is e = sym (word_is e ns a.node a.width fit h) ∙ value_there e ns a.node (Const w) fit (h.0, subst (λ (m : Node). m ≡ get_or ns a.node m) is at)

-- ---- in a dag that grows, and for leaves of the same names

pub spot_kept : (a b : List Node) (p : Spot) → Keeps a b → IsSpot a p → IsSpot b p
spot_kept a b (s.Fixed i) k h = h
spot_kept a b (s.Indexed x from) k h = (node_kept a b x.wire.node x.wire.width k h.0, h.1, h.2)

pub bit_kept : (e : Naming) (a b : List Node) (p : Spot) → Keeps a b → IsSpot a p → bit_at e b p ≡ bit_at e a p
bit_kept e a b (s.Fixed i) k h = refl
bit_kept e a b (s.Indexed x from) k h = ap (λ n. bit_at' n) (number_kept e a b x.wire.node x.wire.width k h.0)
  where
    bit_at' : ℕ → ℤ
    bit_at' n = integer x.signed x.wire.width n -ℤ from

pub name_same : (ls ms : List Leaf) (i : ℕ) → declared ms ≡ declared ls → name_at ms i ≡ name_at ls i
name_same [] [] i h = refl
name_same [] (m ∷ ms) i h = cc
name_same (l ∷ ls) [] i h = cc
name_same (l ∷ ls) (m ∷ ms) zero h = let e : entry_of m 0 ≡ entry_of l 0 = cc in ap (λ (k : Entry). k.name) e
name_same (l ∷ ls) (m ∷ ms) (suc i) h = let t : declared ms ≡ declared ls = cc in name_same ls ms i t

pub width_same : (ls ms : List Leaf) (i : ℕ) → declared ms ≡ declared ls → width_at ms i ≡ width_at ls i
width_same [] [] i h = refl
width_same [] (m ∷ ms) i h = cc
width_same (l ∷ ls) [] i h = cc
width_same (l ∷ ls) (m ∷ ms) zero h = let e : entry_of m 0 ≡ entry_of l 0 = cc in ap (λ (k : Entry). k.width) e
width_same (l ∷ ls) (m ∷ ms) (suc i) h = let t : declared ms ≡ declared ls = cc in width_same ls ms i t

pub piece_same : (e : Naming) (ls ms : List Leaf) (a b : List Node) (t : Target) → declared ms ≡ declared ls → Keeps a b → IsSpot a t.spot → piece_of e b ms t ≡ piece_of e a ls t
piece_same e ls ms a b t h k p = λ r. record { name = name_same ls ms t.leaf h r; size = width_same ls ms t.leaf h r; from = bit_kept e a b t.spot k p r; count = t.count }

pub target_kept : (ls ms : List Leaf) (a b : List Node) (t : Target) → declared ms ≡ declared ls → Keeps a b → IsTarget ls a t → IsTarget ms b t
target_kept ls ms a b t h k i = record { leaf = omega (arith, i.leaf, long_same ls ms h); count = i.count; spot = spot_kept a b t.spot k i.spot }

-- the bits of a word that is moved down
pub puts_from : (t : Target) (n m lo : ℕ) (ls ms : List Leaf) (a b c : List Node) → AreReady ls a → IsTarget ls a t → Keeps a b → ((e : Naming) → number_at e b m ≡ number_at e a n / 2 ^ lo % 2 ^ t.count)
    → Puts t m ls b ms c → PutsFrom t n lo ls a ms c
puts_from t n m lo ls ms a b c r i k w h e d p =
    let q = h e d (shown_kept e ls a b d k r p) in
    shown_same e ms c (put (piece_of e b ls t) (number_at e b m) d) (put (piece_of e a ls t) (number_at e a n / 2 ^ lo) d)
    (λ x. put_low (piece_of e a ls t) (number_at e a n / 2 ^ lo) d x ∙ sym (λ z. put (piece_same e ls ls a b t refl k i.spot z) (w e z) d x)) q

-- ---- several targets

pub record Giving (all rest : List Target) (n left : ℕ) (ls : List Leaf) (a : List Node) (ms : List Leaf) (b : List Node) : Type 0 where
  pub keeps : Keeps a b
  pub ready : AreReady ms b
  pub same : declared ms ≡ declared ls
  pub left_is : left ≡ bits_in rest
  pub gives : (e : Naming) (d : Cycle) → AreShown e a ls d → (c : Cycle) × AreShown e b ms c × ((x : Name) → give (pieces_of e a ls all) (number_at e a n) d x ≡ give (pieces_of e a ls rest) (number_at e a n) c x)

pub total_bits : (e : Naming) (ns : List Node) (ls : List Leaf) (ts : List Target) → bits_in ts ≡ total (pieces_of e ns ls ts)
total_bits e ns ls [] = refl
total_bits e ns ls (t ∷ ts) = ap (λ k. t.count + k) (total_bits e ns ls ts)

pub giving_next : (all rest : List Target) (t : Target) (n w left lo : ℕ) (ls ms ks : List Leaf) (a b c : List Node) → IsNode a n w → IsTarget ls a t → Giving all (t ∷ rest) n left ls a ms b → lo ≡ left - t.count
    → Keeps b c → AreReady ks c → declared ks ≡ declared ms → PutsFrom t n lo ms b ks c → Giving all rest n lo ls a ks c
giving_next all rest t n w left lo ls ms ks a b c o i g is k r s p =
    let lo_is : lo ≡ bits_in rest = omega (arith, is, g.left_is) in
    record {
      keeps = keeps_then a b c g.keeps k;
      ready = r;
      same = s ∙ g.same;
      left_is = lo_is;
      gives = λ e d h.
          let old = g.gives e d h in
          let q = piece_of e a ls t in
          let number : number_at e b n ≡ number_at e a n = number_kept e a b n w g.keeps o in
          let down : lo ≡ total (pieces_of e a ls rest) = lo_is ∙ total_bits e a ls rest in
          let after = p e old.0 old.1 in (
            put (piece_of e b ms t) (number_at e b n / 2 ^ lo) old.0,
            after,
            λ x. old.2 x
                ∙ sym (λ z. give (pieces_of e a ls rest) (number_at e a n) (put (piece_same e ls ms a b t g.same g.keeps i.spot z) (number z / 2 ^ down z) old.0) x),
          );
    }

pub giving_all : (all : List Target) (n left : ℕ) (ls ms : List Leaf) (a b : List Node) → Giving all [] n left ls a ms b → Gives all n ls a ms b
giving_all all n left ls ms a b g e d h =
    let old = g.gives e d h in
    shown_same e ms b old.0 (give (pieces_of e a ls all) (number_at e a n) d) old.2 old.1

-- ---- targets in their order

pub drop_at : (ts : List Target) (i : ℕ) (t d : Target) → i < length ts → t ≡ get_or ts i d → drop i ts ≡ t ∷ drop (i + 1) ts
drop_at ts i t d lt e = let n : i + 1 ≡ suc i = omega arith in next ts i lt e ∙ ap (λ k. t ∷ drop k ts) (sym n)
  where
    next : (ts : List Target) (i : ℕ) → i < length ts → t ≡ get_or ts i d → drop i ts ≡ t ∷ drop (suc i) ts
    next [] i lt e = absurd (omega arith)
    next (u ∷ ts) zero lt e = ap (λ k. k ∷ ts) (sym e)
    next (u ∷ ts) (suc i) lt e = next ts i (omega arith) e

pub drop_all : (ts : List Target) (i : ℕ) → length ts ≤ i → drop i ts ≡ []
drop_all [] zero le = refl
drop_all [] (suc i) le = refl
drop_all (t ∷ ts) zero le = absurd (omega arith)
drop_all (t ∷ ts) (suc i) le = drop_all ts i (omega arith)

pub target_at : (ls : List Leaf) (ns : List Node) (ts : List Target) (i : ℕ) (t d : Target) → AreTargets ls ns ts → i < length ts → t ≡ get_or ts i d → IsTarget ls ns t
target_at ls ns [] i t d h lt e = absurd (omega arith)
target_at ls ns (u ∷ ts) zero t d h lt e = subst (λ (z : Target). IsTarget ls ns z) (sym e) h.0
target_at ls ns (u ∷ ts) (suc i) t d h lt e = target_at ls ns ts i t d h.1 (omega arith) e

pub bits_left : (ts : List Target) (i : ℕ) → bits_in (drop i ts) ≤ bits_in ts
bits_left [] zero = omega arith
bits_left [] (suc i) = omega arith
bits_left (t ∷ ts) zero = omega arith
bits_left (t ∷ ts) (suc i) = omega (arith, bits_left ts i)

-- a target of the loop: its bits are among those that are left
pub bits_at : (ts : List Target) (i : ℕ) (t d : Target) (left width : ℕ) → i < length ts → t ≡ get_or ts i d → left ≡ bits_in (drop i ts) → width ≡ bits_in ts → left - t.count + t.count ≤ width
bits_at ts i t d left width lt e h w =
    let k : bits_in (drop i ts) ≡ t.count + bits_in (drop (i + 1) ts) = ap bits_in (drop_at ts i t d lt e) in
    omega (arith, bits_left ts i, k, h, w)

pub giving_at : (ts : List Target) (t d : Target) (i n w left : ℕ) (ls ms ks : List Leaf) (a b c : List Node) → i < length ts → t ≡ get_or ts i d → IsNode a n w → AreTargets ls a ts → Giving ts (drop i ts) n left ls a ms b
    → Keeps b c → AreReady ks c → declared ks ≡ declared ms → PutsFrom t n (left - t.count) ms b ks c → Giving ts (drop (i + 1) ts) n (left - t.count) ls a ks c
giving_at ts t d i n w left ls ms ks a b c lt e o h g k r s p =
    giving_next ts (drop (i + 1) ts) t n w left (left - t.count) ls ms ks a b c o (target_at ls a ts i t d h lt e)
    (subst (λ q. Giving ts q n left ls a ms b) (drop_at ts i t d lt e) g) refl k r s p

pub giving_end : (ts : List Target) (i n left : ℕ) (ls ms : List Leaf) (a b : List Node) → length ts ≤ i → Giving ts (drop i ts) n left ls a ms b → Gives ts n ls a ms b
giving_end ts i n left ls ms a b le g = giving_all ts n left ls ms a b (subst (λ q. Giving ts q n left ls a ms b) (drop_all ts i le) g)
