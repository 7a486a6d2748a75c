use Rattle.std.proofs.Common.{◌≡◌, ℤ, pos, ◌+ℤ◌, ◌-ℤ◌, min, ap, ◌∙◌, to_z, of_z}
use mir.Syntax.{w128}
use Rattle.std.proofs.lemmas.Int.{to_z-of_z}
use Rattle.vlog_tree.specs.Value.{natural}
use Rattle.mem_flat.proofs.Parting.{fixed_clipped, up_clipped, down_clipped}
use Rattle.mem_flat.proofs.parts.part_width.Goals as goal

pub returns-in-Fixed : goal.returns-in-Fixed
returns-in-Fixed c =
    let first : to_z w128 (of_z w128 c.args.a) ≡ c.args.a = to_z-of_z w128 c.args.a c.ranges.a in
    let second : to_z w128 (of_z w128 c.args.b) ≡ c.args.b = to_z-of_z w128 c.args.b c.ranges.b in
    fixed_clipped c.args.span c.args.a c.args.b _ c.in-Fixed.is c.requires.few (c.fixed_width.ensures ∙ (λ z. min 64 (natural ((first z -ℤ second z) +ℤ pos 1))))

pub returns-in-Up : goal.returns-in-Up
returns-in-Up c =
    let second : to_z w128 (of_z w128 c.args.b) ≡ c.args.b = to_z-of_z w128 c.args.b c.ranges.b in
    up_clipped c.args.span c.args.a c.args.b _ c.in-Up.is c.requires.few (c.clipped.ensures ∙ ap (λ (z : ℤ). min 64 (natural z)) second)

pub returns-in-Down : goal.returns-in-Down
returns-in-Down c =
    let second : to_z w128 (of_z w128 c.args.b) ≡ c.args.b = to_z-of_z w128 c.args.b c.ranges.b in
    down_clipped c.args.span c.args.a c.args.b _ c.in-Down.is c.requires.few (c.clipped-in-Down.ensures ∙ ap (λ (z : ℤ). min 64 (natural z)) second)
