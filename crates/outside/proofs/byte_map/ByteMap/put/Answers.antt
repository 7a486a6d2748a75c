use Rattle.std.proofs.Common.{◌∙◌, ap}
use Rattle.std.specs.FinMap.{insert, from_sorted}
use Rattle.outside.specs.Keys.{rows_of}
use Rattle.outside.proofs.ByteMaps.{insert-rows, rows_sorted}
use Rattle.outside.proofs.byte_map.ByteMap.put.Goals as goal

pub invariant_of-self : goal.invariant_of-self
invariant_of-self g c = rows_sorted _ c.insert.ensures.ordered

pub returns-in-Ok-clause-ok : goal.returns-in-Ok-clause-ok
returns-in-Ok-clause-ok g c =
    insert-rows c.self.inside.rows.entries c.insert.new.self.entries c.in_ok-key.key c.args.value c.self.invariant (rows_sorted _ c.insert.ensures.ordered) c.in-Ok.ensures.entries
    ∙ ap (λ k. insert (from_sorted (rows_of c.self.inside.rows.entries)) k c.args.value) c.in_ok-key.ensures
    ∙ ap (λ m. insert m c.args.key.now c.args.value) c.self.view_is
