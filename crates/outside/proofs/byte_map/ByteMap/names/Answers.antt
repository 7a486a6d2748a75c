use Rattle.std.proofs.Common.{◌≡◌, ◌∙◌, ap, subst, sym, List, ℕ}
use Rattle.std.specs.Prelude.{IfOk}
use Rattle.std.specs.FinMap.{keys}
use Rattle.outside.proofs.ByteMaps.{keys-rows}
use Rattle.outside.proofs.byte_map.ByteMap.names.Goals as goal

pub returns : goal.returns
returns g c =
    let same = sym (keys-rows c.self.inside.rows.entries c.self.invariant) ∙ ap keys c.self.view_is in
    subst (λ (ks : List (List ℕ)). IfOk c.copies.result (λ names. names.items ≡ ks)) same c.copies.ensures
