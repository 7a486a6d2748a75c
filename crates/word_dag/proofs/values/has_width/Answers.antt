use Rattle.std.proofs.Common.{◌≡◌, ◌≤◌, ◌^◌, ◌<◌, ◌/◌, ◌*◌, ◌+◌, ℕ, arith, ap, IsTrue, nat_eq}
use Rattle.std.proofs.Math.Pow.{pow_mono}
use Rattle.std.proofs.Math.Nat.{div-eq_of_lt, lt-mul-div-succ}
use Rattle.std.proofs.lemmas.Nat.{pow_pos}
use Rattle.word_dag.proofs.values.has_width.Goals as goal

pub returns-then-width-ge64 : goal.returns-then-width-ge64
returns-then-width-ge64 c =
    let more : 2 ^ 64 ≤ 2 ^ c.args.width = pow_mono c.if-width-ge64.true in
    (λ _. omega (arith, c.ranges.value.fits, more), λ _. grind (arith, c.if-width-ge64.true))

below : (v n : ℕ) → v / 2 ^ n ≡ 0 → v < 2 ^ n
below v n z =
    let b : v < 2 ^ n * (v / 2 ^ n + 1) = lt-mul-div-succ v (pow_pos n) in
    let p : 2 ^ n * (v / 2 ^ n + 1) ≡ 2 ^ n * 1 = ap (λ k. 2 ^ n * (k + 1)) z in
    omega (arith, b, p)

pub returns-else-width-ge64 : goal.returns-else-width-ge64
returns-else-width-ge64 c = (
  λ h. below c.args.value c.args.width (grind (arith, h)),
  λ h. let z : c.args.value / 2 ^ c.args.width ≡ 0 = div-eq_of_lt h in grind (arith, z),
)
