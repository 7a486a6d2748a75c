use Rattle.std.proofs.Common.{◌≡◌, List, sym, subst, ap, ◌∙◌}
use Rattle.vlog_tree.specs.declared.valuation.Entry.{Entry}
use Rattle.vlog_tree.specs.Value.{IsFormed, IsDefined, width_of, sign_of, own_value}
use Rattle.mem_flat.proofs.Indices.{inconstant_fixed, fixed_is}
use Rattle.mem_flat.proofs.index.fixed_word.Goals as goal

pub unreachable-requires : goal.unreachable-requires
unreachable-requires c =
    let a = c.args.index.now in
    let r = c.requires (sym c.is_constant.ensures ∙ c.if-not-is_constant.false) in
    subst (λ (v : List Entry). IsFormed v a → IsDefined v a (width_of v a) (sign_of v a) → ⊥) c.new.ensures c.in-None.ensures.none r.0 r.1

pub returns-then-not-is_constant : goal.returns-then-not-is_constant
returns-then-not-is_constant c = inconstant_fixed c.args.depth c.args.index.now (sym c.is_constant.ensures ∙ c.if-not-is_constant.true)

pub returns : goal.returns
returns c =
    let a = c.args.index.now in
    fixed_is c.args.depth _ a c.within.result (sym c.is_constant.ensures ∙ c.if-not-is_constant.false)
    (c.value.ensures.value ∙ (c.in-Some.ensures.some.value ∙ ap (λ (v : List Entry). own_value v a) c.new.ensures)) c.within.ensures
