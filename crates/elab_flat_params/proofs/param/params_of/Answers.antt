use Rattle.std.proofs.Common.{◌≡◌, [], ◌∷◌, length, map, ap, subst, ◌∙◌, arith, length-append}
use Rattle.std.specs.Option.{option_copied}
use Rattle.vlog_tree_runs.specs.Contents.{is_open}
use Rattle.vlog_tree_runs.specs.Scopes.{given_at, params_of}
use Rattle.elab_flat_scopes.specs.Borrowed.{param_meant, given_meant}
use Rattle.elab_flat_params.specs.Values.{override_of, IsBad, IsSound, StandsFor, entry_with}
use Rattle.elab_flat_params.proofs.Parameters.{added, next_rest, next_sound, bad_here}
use Rattle.elab_flat_params.proofs.param.params_of.Goals as goal

pub returns-in-Err-clause-err : goal.returns-in-Err-clause-err
returns-in-Err-clause-err c =
    let m = c.args.text.now in
    let views = c.deref-param-items.result.now in
    let ds = map given_meant c.args.given.now in
    let outer = c.args.outer.now in
    let done = c.loop-param.done in
    let v = c.param-item.result in
    let p = param_meant v in
    let given : option_copied c.override_of-expr.result ≡ override_of (is_open m p) (given_at ds p.name) = c.override_of-expr.ensures ∙ ap (override_of (is_open m p)) c.given_at.ensures in
    bad_here m views ds outer done (params_of m ds outer) c.loop-param.param-index v c.loop-param-test.true c.param-item.is (ap (map param_meant) c.deref-param-items.ensures.value ∙ c.in_ok-params.ensures)
    c.loop-param.invariant.rest c.loop-param.at c.in-Err.cause c.loop-param.invariant.long c.loop-param.invariant.place (subst (λ o. IsBad p o outer done c.in-Err.cause) given (rw c.in-Err.is at c.in_ok-value.ensures.err))

pub loop-param-preserved : goal.loop-param-preserved
loop-param-preserved c =
    let m = c.args.text.now in
    let views = c.deref-param-items.result.now in
    let ds = map given_meant c.args.given.now in
    let outer = c.args.outer.now in
    let done = c.loop-param.done in
    let whole = params_of m ds outer in
    let v = c.param-item.result in
    let p = param_meant v in
    let i = c.loop-param.param-index in
    let lt = c.loop-param-test.true in
    let at = c.param-item.is in
    let e = c.in_ok-entry_of.field-0 in
    let k = c.in-Ok.constant in
    let new = c.push.new.self in
    let all = ap (map param_meant) c.deref-param-items.ensures.value ∙ c.in_ok-params.ensures in
    let rest = c.loop-param.invariant.rest in
    let given : option_copied c.override_of-expr.result ≡ override_of (is_open m p) (given_at ds p.name) = c.override_of-expr.ensures ∙ ap (override_of (is_open m p)) c.given_at.ensures in
    let stands = subst (λ o. StandsFor (entry_with p o outer done) k) given (rw c.in-Ok.is at c.in_ok-value.ensures.ok) in
    let sound = subst (λ o. IsSound p o outer done) given (rw c.in-Ok.is at c.in_ok-value.ensures.sound) in
    let is = added m views ds outer done whole i v lt at all rest e k new c.in_ok-entry_of.ensures stands c.in_ok-push.ensures.ok in
    record {
      rest = next_rest m views ds outer done whole i v lt at all rest new is;
      sound = next_sound m views ds outer done whole i v lt at all rest new is sound c.loop-param.invariant.sound;
      place = omega (arith, c.loop-param.invariant.place);
      long = omega (arith, ap length c.in_ok-push.ensures.ok, length-append done (e ∷ []), c.loop-param.invariant.long);
    }
