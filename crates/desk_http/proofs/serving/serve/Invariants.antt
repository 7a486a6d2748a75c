use Rattle.std.proofs.Common.{◌≡◌, ◌≤◌}
use Rattle.std.specs.Prelude.{false}
use Rattle.proof_store.specs.Provers.{limits_of}
use Rattle.desk_core.specs.Checkers.{IsSame}
use Rattle.desk_http.specs.Serving.{Keeps, ServesMany, line, state_of}
use Rattle.desk_http.proofs.serving.serve.Given as goal

abbrev pub invariant-loop-taken : goal.invariant-loop-taken
invariant-loop-taken g l = record {
  many : ServesMany (limits_of l.fn.checker.prover.settings) l.quota.replied (line (g.P.Port.wire l.fn.port) (g.P.Port.faults l.fn.port))
      (state_of g.K.Keeper.tables g.K.Keeper.faults g.H.Helper.asked l.fn.checker) l._taken l.served (line (g.P.Port.wire l.port) (g.P.Port.faults l.port))
      (state_of g.K.Keeper.tables g.K.Keeper.faults g.H.Helper.asked l.checker);
  most : l.served ≤ l.quota.count;
  each : l.quota.replied ≡ false → l.served ≡ l._taken;
  keeps : Keeps (state_of g.K.Keeper.tables g.K.Keeper.faults g.H.Helper.asked l.fn.checker) (state_of g.K.Keeper.tables g.K.Keeper.faults g.H.Helper.asked l.checker);
  calm : g.P.Port.next_faults l.port ≡ g.P.Port.next_faults l.fn.port;
  same : IsSame l.fn.checker l.checker;
}
