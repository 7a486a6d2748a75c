use Rattle.std.proofs.Common.{◌≡◌, List, [], ◌∷◌, map, length, sym, ap, ◌∙◌, subst}
use Rattle.std.specs.Prelude.{nat_eq, true}
use Rattle.std.proofs.Math.Dec.{eqb-suc-zero}
use Rattle.vlog_tree.specs.declared.stmt.Lval.{Lval}
use Rattle.vlog_tree.specs.declared.valuation.Entry.{Entry}
use Rattle.vlog_tree.specs.Value.{IsFormed, IsDefined, width_of, sign_of}
use Rattle.elab_flat_drivers.specs.declared.parts.Part.{Part}
use Rattle.elab_flat_drivers.specs.Parts.{part_meant}
use Rattle.elab_flat_drivers.proofs.Constants.{no_names}
use Rattle.elab_flat_drivers.proofs.claims.known.Goals as goal

empty : (xs : List Part) (ys : List Lval) → true ≡ nat_eq (length xs) 0 → map part_meant xs ≡ ys → ys ≡ []
empty [] ys e h = sym h
empty (x ∷ xs) ys e h = let z = e ∙ eqb-suc-zero (length xs) in cc

pub unreachable-requires : goal.unreachable-requires
unreachable-requires c =
    let none = empty _ _ (sym c.if-not-is_empty.false ∙ c.is_empty.ensures ∙ ap (λ xs. nat_eq (length xs) 0) c.as_slice.ensures.value) c.in_ok-reads.ensures in
    let a = c.args.expr.now in
    let r = c.requires (no_names a none) in
    let refused = rw c.in-None.is at c.in_ok-own.ensures.none in
    subst (λ (v : List Entry). IsFormed v a → IsDefined v a (width_of v a) (sign_of v a) → ⊥) c.new.ensures refused r.0 r.1
