-- Each word of a dag fits: it has its node's width, and a number below 2 ^ width.
use Rattle.std.proofs.Common.{◌≡◌, ℕ, zero, suc, ◌+◌, ◌-◌, ◌*◌, ◌/◌, ◌%◌, ◌^◌, ◌<◌, ◌≤◌, Bool, true, false, List, [], ◌∷◌, ◌++◌, length, refl, sym, ap, ◌∙◌, subst, arith}
use Rattle.std.specs.Prelude.{if◌then◌else◌, ◌==◌}
use Rattle.std.proofs.Math.Nat.{mod-lt, div-le_self}
use Rattle.std.proofs.lemmas.Nat.{pow_pos}
use Rattle.std.specs.Int.Bits.{and_lt}
use Rattle.word_core.specs.Words.{Bits, IsWord, flag, reach, sar_of, sext_of, sign_of}
use Rattle.word_core.proofs.Numbers.{or_fits, xor_fits, concat_fits, mask_grows, top_is_bit, moved_small}
use Rattle.word_dag.specs.declared.node.Op.{Op}
use Rattle.word_dag.specs.declared.node.Op.TheVariants.{Add, Sub, Mul, And, Or, Xor, Shl, Shr, Sar, Ult, Slt, Eq, Concat}
use Rattle.word_dag.specs.declared.node.Node.{Node}
use Rattle.word_dag.specs.declared.node.Node.TheVariants.{Free, Const, Two, Not, Slice, Zext, Sext, Mux}
use Rattle.word_dag.specs.Nodes.{FitsNode, FitFrom, FitsOp, width_of, node_value, op_value, word_at, Naming, named, dag_values}
use Rattle.word_dag.specs.Given.{widths_of}
use Rattle.word_dag.proofs.Operands.{width_at-words, length-widths_of}
use Rattle.word_dag.proofs.Widths.{width-node_value}
use Rattle.word_dag.proofs.NodeValues.{length-widths}
use Rattle.word_dag.proofs.Valued.{values_wide}
use Rattle.elab_step_expr.specs.Nodes.{words}

abbrev pub AllWords : List Bits → Type 0
AllWords [] = Unit {0}
AllWords (v ∷ vs) = IsWord v × AllWords vs

AllWords-push : (vs : List Bits) (w : Bits) → AllWords vs → IsWord w → AllWords (vs ++ w ∷ [])
AllWords-push [] w h k = (k, tt)
AllWords-push (v ∷ vs) w h k = (h.0, AllWords-push vs w h.1 k)

AllWords-at : (vs : List Bits) (i : ℕ) → AllWords vs → i < length vs → IsWord (word_at vs i)
AllWords-at [] i h lt = absurd (omega arith)
AllWords-at (v ∷ vs) zero h lt = h.0
AllWords-at (v ∷ vs) (suc i) h lt = AllWords-at vs i h.1 (omega arith)

mod_fits : (n w : ℕ) → n % 2 ^ w < 2 ^ w
mod_fits n w = mod-lt n (pow_pos w)

flag_fits : (b : Bool) → (flag b).value < 2 ^ 1
flag_fits true = omega arith
flag_fits false = omega arith

reach_le : (a b : Bits) → reach a b ≤ a.width
reach_le a b = omega arith

sar_fits : (a b : Bits) → IsWord a → (sar_of a b).value < 2 ^ a.width
sar_fits a b h =
    let d = reach a b in
    let le : d ≤ a.width = reach_le a b in
    let bit = top_is_bit a.value a.width h.some h.fits in
    let small = moved_small a.value a.width d le h.fits in
    let grows = mask_grows (a.width - d) a.width (omega arith) in
    split (a.value / 2 ^ d) (2 ^ a.width) (2 ^ (a.width - d)) (sign_of a) bit small grows
  where
    split : (m p q s : ℕ) → s < 2 → m < q → q ≤ p → m + s * (p - q) < p
    split m p q zero b lt le = omega arith
    split m p q (suc zero) b lt le = omega arith
    split m p q (suc (suc s)) b lt le = absurd (omega arith)

sext_fits : (a : Bits) (w : ℕ) → IsWord a → a.width ≤ w → (sext_of a w).value < 2 ^ w
sext_fits a w h le = split a.value (2 ^ w) (2 ^ a.width) (sign_of a) (top_is_bit a.value a.width h.some h.fits) h.fits (mask_grows a.width w le)
  where
    split : (m p q s : ℕ) → s < 2 → m < q → q ≤ p → m + s * (p - q) < p
    split m p q zero b lt le = omega arith
    split m p q (suc zero) b lt le = omega arith
    split m p q (suc (suc s)) b lt le = absurd (omega arith)

op_fits : (op : Op) (w : ℕ) (a b : Bits) → FitsOp op w a.width b.width → IsWord a → IsWord b → (op_value op a b).value < 2 ^ (op_value op a b).width
op_fits Add w a b f h k = mod_fits (a.value + b.value) a.width
op_fits Sub w a b f h k = mod_fits (a.value + (2 ^ a.width - b.value)) a.width
op_fits Mul w a b f h k = mod_fits (a.value * b.value) a.width
op_fits And w a b f h k = and_lt a.width a.value b.value h.fits (subst (λ v. b.value < 2 ^ v) (f.1 ∙ sym f.0) k.fits)
op_fits Or w a b f h k = or_fits a.value b.value a.width b.width (f.0 ∙ sym f.1) h.fits k.fits
op_fits Xor w a b f h k = xor_fits a.value b.value a.width b.width (f.0 ∙ sym f.1) h.fits k.fits
op_fits Shl w a b f h k = mod_fits (a.value * 2 ^ reach a b) a.width
op_fits Shr w a b f h k = omega (arith, div-le_self a.value (2 ^ reach a b), h.fits)
op_fits Sar w a b f h k = sar_fits a b h
op_fits Ult w a b f h k = flag_fits _
op_fits Slt w a b f h k = flag_fits _
op_fits Eq w a b f h k = flag_fits _
op_fits Concat w a b f h k = concat_fits a.value b.value a.width b.width h.fits k.fits

op_some : (op : Op) (w : ℕ) (a b : Bits) → FitsOp op w a.width b.width → IsWord a → IsWord b → (0 < w) × (w ≤ 64)
op_some Add w a b f h k = (omega (arith, f.0, h.some), omega (arith, f.0, h.most))
op_some Sub w a b f h k = (omega (arith, f.0, h.some), omega (arith, f.0, h.most))
op_some Mul w a b f h k = (omega (arith, f.0, h.some), omega (arith, f.0, h.most))
op_some And w a b f h k = (omega (arith, f.0, h.some), omega (arith, f.0, h.most))
op_some Or w a b f h k = (omega (arith, f.0, h.some), omega (arith, f.0, h.most))
op_some Xor w a b f h k = (omega (arith, f.0, h.some), omega (arith, f.0, h.most))
op_some Shl w a b f h k = (omega (arith, f, h.some), omega (arith, f, h.most))
op_some Shr w a b f h k = (omega (arith, f, h.some), omega (arith, f, h.most))
op_some Sar w a b f h k = (omega (arith, f, h.some), omega (arith, f, h.most))
op_some Ult w a b f h k = (omega (arith, f.0), omega (arith, f.0))
op_some Slt w a b f h k = (omega (arith, f.0), omega (arith, f.0))
op_some Eq w a b f h k = (omega (arith, f.0), omega (arith, f.0))
op_some Concat w a b f h k = (omega (arith, f.0, h.some), f.1)

below : (vs : List Bits) (a : ℕ) → a < length (widths_of vs) → a < length vs
below vs a lt = omega (arith, length-widths_of vs)

node_fits : (u : ℕ) (vs : List Bits) (n : Node) → FitsNode (widths_of vs) n → AllWords vs → IsWord (node_value u vs n)
node_fits u vs (Free name w side cycle) f h = record { some = f.0; most = f.1; fits = mod_fits u w }
node_fits u vs (Const w) f h = f
node_fits u vs (Two op w a b) f h =
    let x = AllWords-at vs a h (below vs a f.0) in
    let y = AllWords-at vs b h (below vs b f.1) in
    let g : FitsOp op w (word_at vs a).width (word_at vs b).width = rw (← width_at-words vs a, ← width_at-words vs b) f.2 in
    let e = width-node_value u vs (Two op w a b) f in
    let s = op_some op w (word_at vs a) (word_at vs b) g x y in
    record { some = omega (arith, e, s.0); most = omega (arith, e, s.1); fits = op_fits op w (word_at vs a) (word_at vs b) g x y }
node_fits u vs (Not w a) f h =
    let x = AllWords-at vs a h (below vs a f.0) in
    record { some = x.some; most = x.most; fits = omega (arith, pow_pos (word_at vs a).width) }
node_fits u vs (Slice w a lo) f h =
    let x = AllWords-at vs a h (below vs a f.0) in
    record { some = f.1; most = omega (arith, f.2, width_at-words vs a, x.most); fits = mod_fits ((word_at vs a).value / 2 ^ lo) w }
node_fits u vs (Zext w a) f h =
    let x = AllWords-at vs a h (below vs a f.0) in
    let le : (word_at vs a).width ≤ w = omega (arith, f.1, width_at-words vs a) in
    record { some = omega (arith, x.some, le); most = f.2; fits = omega (arith, x.fits, mask_grows (word_at vs a).width w le) }
node_fits u vs (Sext w a) f h =
    let x = AllWords-at vs a h (below vs a f.0) in
    let le : (word_at vs a).width ≤ w = omega (arith, f.1, width_at-words vs a) in
    record { some = omega (arith, x.some, le); most = f.2; fits = sext_fits (word_at vs a) w x le }
node_fits u vs (Mux w c a b) f h = pick ((word_at vs c).value == 1)
  where
    pick : (t : Bool) → IsWord (if t then word_at vs a else word_at vs b)
    pick true = AllWords-at vs a h (below vs a f.1)
    pick false = AllWords-at vs b h (below vs b f.2)

widths_of-push : (vs : List Bits) (w : Bits) → widths_of (vs ++ w ∷ []) ≡ widths_of vs ++ w.width ∷ []
widths_of-push [] w = refl
widths_of-push (v ∷ vs) w = ap (λ r. v.width ∷ r) (widths_of-push vs w)

all_words : (e : Naming) (vs : List Bits) (ns : List Node) → FitFrom (widths_of vs) ns → AllWords vs → AllWords (dag_values e vs ns)
all_words e vs [] f h = h
all_words e vs (n ∷ ns) f h =
    let w = node_value (named e n) vs n in
    let same : widths_of (vs ++ w ∷ []) ≡ widths_of vs ++ width_of n ∷ [] = widths_of-push vs w ∙ ap (λ k. widths_of vs ++ k ∷ []) (width-node_value (named e n) vs n f.0) in
    all_words e (vs ++ w ∷ []) ns (subst (λ k. FitFrom k ns) (sym same) f.1) (AllWords-push vs w h (node_fits (named e n) vs n f.0 h))

pub words_fit : (e : Naming) (ns : List Node) (i : ℕ) → FitFrom [] ns → i < length ns → IsWord (word_at (words e ns) i)
words_fit e ns i f lt =
    let long : i < length (words e ns) = omega (arith, length-widths_of (words e ns), ap length (values_wide e [] ns f), length-widths ns) in
    AllWords-at (words e ns) i (all_words e [] ns f tt) long
