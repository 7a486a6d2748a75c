use Rattle.std.proofs.Common.{◌≡◌, List, Bool, true, false, Result, Ok, Err, sym, subst, ◌∙◌}
use Rattle.std.specs.Prelude.{IfOk}
use Rattle.std.specs.Bool.{MatchBool}
use Rattle.vlog_tree.specs.declared.expr.Expr.{Expr}
use Rattle.vlog_tree.specs.declared.valuation.Entry.{Entry}
use Rattle.vlog_tree.specs.Value.{IsFormed, HasConstantParts}
use Rattle.set_read_lookup.specs.Tests.{present, IsPresent}
use Rattle.set_read_lookup.proofs.Constants.{constant_holds, constant_fails}
use Rattle.set_read_lookup.proofs.formed.is_formed.Goals as goal

pub returns-then-not-has_constant_parts : goal.returns-then-not-has_constant_parts
returns-then-not-has_constant_parts c = λ p. constant_fails c.args.formula.now (sym c.has_constant_parts.ensures ∙ c.if-not-has_constant_parts.true) p.constant

-- a formula with constant parts is well formed where its present form is
present_formed : {E : Type 0} (v : List Entry) (f p : Expr) (r : Result Bool E) → HasConstantParts (λ _. false) f → p ≡ present f → IfOk r (λ t. MatchBool t (IsFormed v p) (IsFormed v p → ⊥)) → IfOk r (λ t. MatchBool t (IsPresent v f) (IsPresent v f → ⊥))
present_formed v f p (Ok true) h e i = record { constant = h; formed = subst (IsFormed v) e i }
present_formed v f p (Ok false) h e i = λ q. i (subst (IsFormed v) (sym e) q.formed)
present_formed v f p (Err e') h e i = i

pub returns : goal.returns
returns c =
    present_formed c.args.valuation.now c.args.formula.now _ _ (constant_holds c.args.formula.now (sym c.has_constant_parts.ensures ∙ c.if-not-has_constant_parts.false)) c.in_ok-present.ensures c.is_measured-formed.ensures
