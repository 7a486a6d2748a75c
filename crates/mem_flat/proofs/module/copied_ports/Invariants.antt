use Rattle.std.proofs.Common.{◌≡◌, ◌++◌, drop}
use Rattle.mem_flat.proofs.module.copied_ports.Given as goal

abbrev pub invariant-loop-port : goal.invariant-loop-port
invariant-loop-port l = l.all ++ drop l.port-index l.ports ≡ l.ports
