-- What single nodes make.
use Rattle.std.proofs.Common.{◌≡◌, ℕ, ◌+◌, ◌-◌, ◌/◌, ◌%◌, ◌^◌, ◌<◌, ◌≤◌, Bool, true, false, List, [], length, refl, sym, ap, ◌∙◌, subst, arith}
use Rattle.std.specs.Prelude.{map, slice_index, nat_eq, if◌then◌else◌}
use Rattle.word_core.specs.Words.{Bits, IsWord, sext_of}
use Rattle.word_dag.specs.declared.node.Op.{Op}
use Rattle.word_dag.specs.declared.node.Node.{Node}
use Rattle.word_dag.specs.declared.node.Node.TheVariants.{Const, Two, Not, Slice, Zext, Sext, Mux}
use Rattle.word_dag.specs.Nodes.{FitsNode, FitsOp, FitFrom, width_of, word_at, op_value}
use Rattle.word_dag.specs.Adding.{Adds}
use Rattle.word_dag.proofs.NodeValues.{length-widths}
use Rattle.vlog_tree.specs.Value.{extend}
use Rattle.vlog_tree_values.proofs.Signs.{extend_number}
use Rattle.elab_step_expr.specs.declared.nodes.Wire.{Wire}
use Rattle.elab_step_expr.specs.Nodes.{words, number_at, IsNode, IsWire, Makes, wire_word}
use Rattle.elab_step_expr.proofs.Kept.{added, word_is, number_fits, node_long}

below : (ns : List Node) (a w : ℕ) → IsNode ns a w → a < length (map width_of ns)
below ns a w h = omega (arith, length-widths ns, h.0)

pub fits_two : (ns : List Node) (op : Op) (w : ℕ) (a b : Wire) → IsWire ns a → IsWire ns b → FitsOp op w a.width b.width → FitsNode (map width_of ns) (Two op w a.node b.node)
fits_two ns op w a b h k f = (below ns a.node a.width h, below ns b.node b.width k, subst (λ m. FitsOp op w m (slice_index (map width_of ns) b.node)) (sym h.1) (subst (λ n. FitsOp op w a.width n) (sym k.1) f))

pub fits_not : (ns : List Node) (a : Wire) → IsWire ns a → FitsNode (map width_of ns) (Not a.width a.node)
fits_not ns a h = (below ns a.node a.width h, h.1)

pub fits_slice : (ns : List Node) (a : Wire) (lo w : ℕ) → IsWire ns a → 1 ≤ w → lo + w ≤ a.width → FitsNode (map width_of ns) (Slice w a.node lo)
fits_slice ns a lo w h some le = (below ns a.node a.width h, omega arith, omega (arith, h.1))

pub fits_zext : (ns : List Node) (a : Wire) (n : ℕ) → IsWire ns a → a.width ≤ n → n ≤ 64 → FitsNode (map width_of ns) (Zext n a.node)
fits_zext ns a n h le most = (below ns a.node a.width h, omega (arith, h.1), most)

pub fits_sext : (ns : List Node) (a : Wire) (n : ℕ) → IsWire ns a → a.width ≤ n → n ≤ 64 → FitsNode (map width_of ns) (Sext n a.node)
fits_sext ns a n h le most = (below ns a.node a.width h, omega (arith, h.1), most)

pub fits_mux : (ns : List Node) (c : ℕ) (a b : Wire) → IsNode ns c 1 → IsWire ns a → IsWire ns b → a.width ≡ b.width → FitsNode (map width_of ns) (Mux a.width c a.node b.node)
fits_mux ns c a b g h k same = (below ns c 1 g, below ns a.node a.width h, below ns b.node b.width k, g.1, h.1, k.1 ∙ sym same)

module _ (old new : List Node) (i : ℕ) (fit : FitFrom [] old) where
  pub made_const : (w : Bits) → IsWord w → Adds old new (Const w) i → Makes new i w.width (λ e. w.value)
  made_const w h a = added old new (Const w) i w.width (λ e. w.value) fit h a refl (λ e. refl)

  pub made_two : (op : Op) (w : ℕ) (a b : Wire) → IsWire old a → IsWire old b → FitsOp op w a.width b.width → Adds old new (Two op w a.node b.node) i →
      Makes new i w (λ e. (op_value op (wire_word e old a) (wire_word e old b)).value)
  made_two op w a b h k f s = added old new (Two op w a.node b.node) i w _ fit (fits_two old op w a b h k f) s refl
      (λ e. λ r. (op_value op (word_is e old a.node a.width fit h r) (word_is e old b.node b.width fit k r)).value)

  pub made_not : (a : Wire) → IsWire old a → Adds old new (Not a.width a.node) i → Makes new i a.width (λ e. 2 ^ a.width - 1 - number_at e old a.node)
  made_not a h s = added old new (Not a.width a.node) i a.width _ fit (fits_not old a h) s refl (λ e. ap (λ (w : Bits). 2 ^ w.width - 1 - w.value) (word_is e old a.node a.width fit h))

  pub made_slice : (a : Wire) (lo w : ℕ) → IsWire old a → 1 ≤ w → lo + w ≤ a.width → Adds old new (Slice w a.node lo) i → Makes new i w (λ e. number_at e old a.node / 2 ^ lo % 2 ^ w)
  made_slice a lo w h some le s = added old new (Slice w a.node lo) i w _ fit (fits_slice old a lo w h some le) s refl (λ e. refl)

  pub made_zext : (a : Wire) (n : ℕ) → IsWire old a → a.width ≤ n → n ≤ 64 → Adds old new (Zext n a.node) i → Makes new i n (λ e. extend false a.width n (number_at e old a.node))
  made_zext a n h le most s = added old new (Zext n a.node) i n _ fit (fits_zext old a n h le most) s refl (λ e. refl)

  pub made_sext : (a : Wire) (n : ℕ) → IsWire old a → a.width ≤ n → n ≤ 64 → Adds old new (Sext n a.node) i → Makes new i n (λ e. extend true a.width n (number_at e old a.node))
  made_sext a n h le most s = added old new (Sext n a.node) i n _ fit (fits_sext old a n h le most) s refl
      (λ e. let long = node_long old a.node a.width fit h in
      ap (λ (w : Bits). (sext_of w n).value) (word_is e old a.node a.width fit h) ∙ extend_number a.width n (number_at e old a.node) long.0 (number_fits e old a.node a.width fit h) le)

  pub made_mux : (c : ℕ) (a b : Wire) → IsNode old c 1 → IsWire old a → IsWire old b → a.width ≡ b.width → Adds old new (Mux a.width c a.node b.node) i →
      Makes new i a.width (λ e. if nat_eq (number_at e old c) 1 then number_at e old a.node else number_at e old b.node)
  made_mux c a b g h k same s = added old new (Mux a.width c a.node b.node) i a.width _ fit (fits_mux old c a b g h k same) s refl
      (λ e. pick (nat_eq (number_at e old c) 1) (word_at (words e old) a.node) (word_at (words e old) b.node))
    where
      pick : (t : Bool) (x y : Bits) → (if t then x else y).value ≡ (if t then x.value else y.value)
      pick true x y = refl
      pick false x y = refl

pub ruleset making = (fits_two, fits_not, fits_slice, fits_zext, fits_sext, fits_mux, made_const, made_two, made_not, made_slice, made_zext, made_sext, made_mux)
