use Rattle.std.specs.Prelude.{◌≡◌, drop}
use Rattle.std.specs.List.{list_any}
use Rattle.std.specs.Str.{bytes_eq}
use Rattle.unroll_binding.proofs.find.is_output.Given as goal

abbrev pub invariant-loop-output : goal.invariant-loop-output
invariant-loop-output l = list_any (λ y. bytes_eq y l.name) (drop l.output-index l.outputs) ≡ list_any (λ y. bytes_eq y l.name) l.outputs
