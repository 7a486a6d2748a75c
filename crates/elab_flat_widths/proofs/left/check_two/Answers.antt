use Rattle.std.proofs.Common.{inl, inr, refl, map, ◌∷◌, []}
use Rattle.elab_flat_faults.specs.Constants.{alone}
use Rattle.elab_flat_params.specs.Constants.{is_known}
use Rattle.elab_flat_widths.specs.Taken.{Breaks, SomeBreaks, Fails}
use Rattle.elab_flat_widths.proofs.Takes.{if_err, fails_map}
use Rattle.elab_flat_widths.proofs.left.check_two.Goals as goal

pub returns-in-Ok-clause-err : goal.returns-in-Ok-clause-err
returns-in-Ok-clause-err c =
    let test = is_known c.args.params.now in
    let v = c.args.rest.now in
    let a = c.args.a.now in
    let b = c.args.b.now in
    let some = SomeBreaks test v (map (alone v) (a ∷ b ∷ [])) in
    if_err c.check_alone-in-Ok.result (Fails (Breaks test v (alone v b))) (Fails some) (fails_map (Breaks test v (alone v b)) some (λ w h. (alone v b, inr (inl refl), h))) c.check_alone-in-Ok.ensures.err

pub returns-in-Err-clause-err : goal.returns-in-Err-clause-err
returns-in-Err-clause-err c =
    let test = is_known c.args.params.now in
    let v = c.args.rest.now in
    let a = c.args.a.now in
    fails_map (Breaks test v (alone v a)) (SomeBreaks test v (map (alone v) (a ∷ c.args.b.now ∷ []))) (λ w h. (alone v a, inl refl, h)) c.in-Err.violation c.in-Err.ensures.err
