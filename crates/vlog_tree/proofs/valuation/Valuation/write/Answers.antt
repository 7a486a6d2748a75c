use Rattle.std.proofs.Common.{◌≡◌, take, nat_eq, take_all, arith, rules, ap, sym, subst, ◌∙◌, refl}
use Rattle.std.specs.HashMap.{get}
use Rattle.vlog_tree.specs.Valuation.{AllFit, written}
use Rattle.vlog_tree.proofs.Places.{index_written}
use Rattle.vlog_tree.proofs.ValuationLemmas.{written_none, next_written}
use Rattle.vlog_tree.proofs.valuation.Valuation.write.Goals as goal

pub loop-i-init : goal.loop-i-init
loop-i-init c = record { so_far = written_none _; same = refl }

pub loop-i-preserved : goal.loop-i-preserved
loop-i-preserved c = record {
  so_far = next_written c.self.inside.entries.items c.args.values.now c.loop-i.i c.index_mut.result.now c.loop-i.self-inside.entries.items
      c.loop-i.invariant.so_far (search rules) (omega arith) c.index_mut.ensures.value;
  same = c.loop-i.invariant.same;
}

pub invariant_of-self : goal.invariant_of-self
invariant_of-self c =
    let es = c.self.inside.entries.items in
    let all : take c.loop-i.i c.args.values.now ≡ c.args.values.now = take_all c.loop-i.i c.args.values.now c.loop-i-test.false in
    let is : c.loop-i.self-inside.entries.items ≡ written es c.args.values.now = c.loop-i.invariant.so_far ∙ ap (written es) all in
    let fit : AllFit (written es c.args.values.now) = subst (λ ns. AllFit (written ns c.args.values.now)) (sym c.self.view_is) c.requires.fit in
    (subst AllFit (sym is) fit, λ p. ap (λ m. get nat_eq m p) c.loop-i.invariant.same ∙ index_written es _ c.args.values.now (get nat_eq c.self.inside.first) is c.self.invariant.1 p)
