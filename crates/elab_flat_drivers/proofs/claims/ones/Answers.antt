use Rattle.std.proofs.Common.{◌≡◌, ℕ, ◌-◌, ◌^◌, ◌≤◌, arith}
use Rattle.std.proofs.Math.Pow.{pow_mono}
use Rattle.elab_flat_drivers.proofs.claims.ones.Goals as goal

nothing_left : (a b : ℕ) → a ≤ b → 0 ≡ a - b
nothing_left a b h = omega arith

pub returns-then-to-from : goal.returns-then-to-from
returns-then-to-from c = nothing_left (2 ^ c.args.to) (2 ^ c.args.from) (pow_mono c.if-to-from.true)

pub overflow_sub-result : goal.overflow_sub-result
overflow_sub-result c = let h : c.args.from ≤ c.args.to = omega (arith, c.if-to-from.false) in rw (c.power.ensures, c.power-2.ensures) (pow_mono h)
