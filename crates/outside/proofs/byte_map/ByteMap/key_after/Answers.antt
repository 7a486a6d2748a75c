use Rattle.std.proofs.Common.{◌∙◌, ap, ℕ, List, map, Some, None}
use Rattle.std.specs.Prelude.{find}
use Rattle.std.specs.Ordering.{is_lt, nat_cmp}
use Rattle.std.specs.Cmp.Lexicographic.{slice_cmp}
use Rattle.outside.proofs.ByteMaps.{key_found}
use Rattle.outside.proofs.byte_map.ByteMap.key_after.Goals as goal

pub returns-in_ok-low-in-Some : goal.returns-in_ok-low-in-Some
returns-in_ok-low-in-Some g c =
    let keys = map (λ e. e.0.items) c.self.inside.rows.entries in
    let found = c.first_above.ensures ∙ ap (λ (low : List ℕ). find (λ k. is_lt (slice_cmp nat_cmp low k)) keys) c.in_ok-low-in-Some.ensures in
    rw c.in-Some.is (key_found c.copy_of.result (Some c.in-Some.low.now) _ c.self.inside.rows.entries c.args.self.now c.self.invariant c.self.view_is found c.copy_of.ensures)

pub returns-in-None : goal.returns-in-None
returns-in-None g c =
    rw c.in-None.is (key_found c.copy_of-in-None.result None _ c.self.inside.rows.entries c.args.self.now c.self.invariant c.self.view_is c.first_of.ensures c.copy_of-in-None.ensures)
