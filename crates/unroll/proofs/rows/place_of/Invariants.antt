use Rattle.std.specs.Prelude.{◌≡◌, drop}
use Rattle.unroll_binding.specs.Binding.{net_at}
use Rattle.unroll.proofs.rows.place_of.Given as goal

abbrev pub invariant-loop-net : goal.invariant-loop-net
invariant-loop-net l = net_at (drop l.net-index l.nets) l.name ≡ net_at l.nets l.name
