use Rattle.std.specs.Prelude.{◌≡◌, drop}
use Rattle.std.specs.List.{list_any}
use Rattle.std.specs.Str.{bytes_eq}
use Rattle.unroll_binding.proofs.find.is_declared.Given as goal

abbrev pub invariant-loop-declared : goal.invariant-loop-declared
invariant-loop-declared l = list_any (λ n. bytes_eq n.name l.name) (drop l.declared-index l.names) ≡ list_any (λ n. bytes_eq n.name l.name) l.names
