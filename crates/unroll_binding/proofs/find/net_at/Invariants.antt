use Rattle.std.specs.Prelude.{◌≡◌, drop}
use Rattle.std.specs.List.{find}
use Rattle.std.specs.Str.{bytes_eq}
use Rattle.unroll_binding.proofs.find.net_at.Given as goal

abbrev pub invariant-loop-net : goal.invariant-loop-net
invariant-loop-net l = find (λ n. bytes_eq n.name l.name) (drop l.net-index l.nets) ≡ find (λ n. bytes_eq n.name l.name) l.nets
