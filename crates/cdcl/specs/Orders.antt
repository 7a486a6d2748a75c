use Rattle.std.specs.Prelude.{◌≡◌, ◌<◌, ℕ, List, length, slice_index_or}
use Rattle.cdcl.specs.declared.order.Order.{Order}
use Rattle.cdcl.specs.declared.order.Ranked.{Ranked}

-- each variable of the list is one of these many
abbrev pub AreBelow : ℕ → List Ranked → Type 0
AreBelow vars heap = (j : ℕ) (d : Ranked) → j < length heap → (slice_index_or heap j d).var < vars

-- an order of its number of variables
pub record IsOrder (o : Order) : Type 0 where
  pub activity : length o.activity.items ≡ o.vars
  pub places : length o.places.items ≡ o.vars
  pub negative : length o.negative.items ≡ o.vars
  pub heap : AreBelow o.vars o.heap.items
