use Rattle.std.proofs.Common.{inl, refl, map, sym, subst, ◌∷◌, []}
use Rattle.std.specs.Prelude.{IfErr}
use Rattle.elab_flat_faults.specs.Constants.{alone}
use Rattle.elab_flat_faults.specs.Texts.{numbers_in}
use Rattle.elab_flat_params.specs.Constants.{is_known}
use Rattle.elab_flat_drivers.specs.declared.parts.Part.{Part}
use Rattle.elab_flat_drivers.specs.Parts.{part_meant}
use Rattle.elab_flat_widths.specs.Taken.{Breaks, SomeBreaks, Fails}
use Rattle.elab_flat_widths.proofs.Takes.{if_err, fails_map}
use Rattle.elab_flat_widths.proofs.left.check_each.Goals as goal

pub returns-in-Bit-clause-err : goal.returns-in-Bit-clause-err
returns-in-Bit-clause-err c =
    let test = is_known c.args.params.now in
    let v = c.args.rest.now in
    let a = c.in-Bit.index.now in
    let r = c.check_alone.result in
    let some = SomeBreaks test v (map (alone v) (a ∷ [])) in
    subst (λ (p : Part). IfErr r (Fails (SomeBreaks test v (map (alone v) (numbers_in (part_meant p)))))) (sym c.in-Bit.is)
    (if_err r (Fails (Breaks test v (alone v a))) (Fails some) (fails_map (Breaks test v (alone v a)) some (λ w h. (alone v a, inl refl, h))) c.check_alone.ensures.err)

pub returns-in-Bits-clause-err : goal.returns-in-Bits-clause-err
returns-in-Bits-clause-err c =
    let test = is_known c.args.params.now in
    let v = c.args.rest.now in
    let r = c.check_two.result in
    subst (λ (p : Part). IfErr r (Fails (SomeBreaks test v (map (alone v) (numbers_in (part_meant p)))))) (sym c.in-Bits.is) c.check_two.ensures.err
