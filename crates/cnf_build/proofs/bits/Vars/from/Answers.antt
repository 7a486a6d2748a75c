use Rattle.std.proofs.Common.{◌≡◌, ◌∙◌, ◌<◌, ◌+◌, ◌++◌, ◌∷◌, [], ap, arith}
use Rattle.cnf_build.proofs.BitLists.{vars_step}
use Rattle.cnf_build.proofs.bits.Vars.from.Goals as goal

pub loop-i-preserved : goal.loop-i-preserved
loop-i-preserved c =
    let lt : c.loop-i.i < c.args.width = omega arith in
    let number : c.in_ok-in_32_bits.field-0 ≡ c.args.start + c.loop-i.i = c.in_ok-in_32_bits.ensures.ok ∙ ap (λ k. c.args.start + k) c.from.ensures in
    vars_step c.loop-i.list.items c.push.new.self.items c.args.start c.args.width c.loop-i.i lt (c.in_ok-push.ensures.items ∙ ap (λ k. c.loop-i.list.items ++ k ∷ []) number) c.loop-i.invariant
