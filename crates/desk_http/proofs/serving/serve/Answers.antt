use Rattle.std.proofs.Common.{Ok, Err, ap, ◌<◌, refl, ◌∙◌, add-one, arith}
use Rattle.proof_store.specs.Provers.{limits_of}
use Rattle.desk_http.specs.Serving.{line, none, next, state_of}
use Rattle.desk_http.proofs.Keeping.{keeps_on, keeps_same}
use Rattle.desk_http.proofs.Stopping.{counted_each, fills_at_the_end, served_so, stops}
use Rattle.desk_http.proofs.serving.serve.Goals as goal

pub loop-taken-init : goal.loop-taken-init
loop-taken-init g c = record { many = none; most = omega arith; each = λ all. refl; keeps = keeps_same _; calm = refl; same = ((refl, refl, refl), refl) }

pub loop-taken-preserved : goal.loop-taken-preserved
loop-taken-preserved g c = record {
  many = rw (add-one, c.counted-served.ensures.value) (next c.in_ok-one.one c.loop-taken.invariant.many (served_so (limits_of c.args.checker.now.prover.settings) (limits_of c.loop-taken.checker.prover.settings) (line (g.P.Port.wire c.loop-taken.port) (g.P.Port.faults c.loop-taken.port)) (line (g.P.Port.wire c.serve_one.new.port) (g.P.Port.faults c.serve_one.new.port)) (state_of g.K.Keeper.tables g.K.Keeper.faults g.H.Helper.asked c.loop-taken.checker) (state_of g.K.Keeper.tables g.K.Keeper.faults g.H.Helper.asked c.serve_one.new.checker) (Ok c.in_ok-one.one) (ap limits_of c.loop-taken.invariant.same.0.2) c.in_ok-one.ensures.serves));
  most = c.counted-served.ensures.most;
  each = λ all. counted_each _ _ _ _ _ all c.counted-served.ensures.value (c.loop-taken.invariant.each all);
  keeps = keeps_on _ _ _ c.loop-taken.invariant.keeps c.in_ok-one.ensures.keeps;
  calm = c.in_ok-one.ensures.next_ok ∙ c.loop-taken.invariant.calm;
  same = (
    (c.in_ok-one.ensures.same.0.0 ∙ c.loop-taken.invariant.same.0.0, c.in_ok-one.ensures.same.0.1 ∙ c.loop-taken.invariant.same.0.1, c.in_ok-one.ensures.same.0.2 ∙ c.loop-taken.invariant.same.0.2),
    c.in_ok-one.ensures.same.1 ∙ c.loop-taken.invariant.same.1,
  );
}

pub returns-clause-ok : goal.returns-clause-ok
returns-clause-ok g c = record {
  most = c.loop-taken.invariant.most;
  taken = c.loop-taken._taken;
  many = c.loop-taken.invariant.many;
  fills = fills_at_the_end _ _ _ c.loop-taken.invariant.most c.loop-taken.invariant.each (omega arith) (omega arith);
}

pub returns-in_err-one-clause-err : goal.returns-in_err-one-clause-err
returns-in_err-one-clause-err g c =
    let fewer : c.loop-taken.served < c.args.quota.count = omega arith in
    stops _ _ c.loop-taken._taken c.loop-taken.served _ _ _ _ _ _ c.from_residual.result c.in_err-one.field-0.0 c.from_residual.ensures.1 fewer c.loop-taken.invariant.many (served_so (limits_of c.args.checker.now.prover.settings) (limits_of c.loop-taken.checker.prover.settings) (line (g.P.Port.wire c.loop-taken.port) (g.P.Port.faults c.loop-taken.port)) (line (g.P.Port.wire c.serve_one.new.port) (g.P.Port.faults c.serve_one.new.port)) (state_of g.K.Keeper.tables g.K.Keeper.faults g.H.Helper.asked c.loop-taken.checker) (state_of g.K.Keeper.tables g.K.Keeper.faults g.H.Helper.asked c.serve_one.new.checker) (Err c.in_err-one.field-0.0) (ap limits_of c.loop-taken.invariant.same.0.2) c.in_err-one.ensures.serves)
