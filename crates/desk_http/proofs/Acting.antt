-- What a command comes to, by the clauses of the call that carries it out.
use Rattle.std.proofs.Common.{◌≡◌, ◌≤◌, refl}
use Rattle.std.specs.Prelude.{Result, Ok, Err, IfOk, IfSome, OnErr}
use Rattle.desk_core_commands.specs.declared.command.Answer.{Answer}
use Rattle.desk_core_commands.specs.declared.command.Command.{Command}
use Rattle.desk_core_commands.specs.declared.fault.DeskFault.{DeskFault}
use Rattle.desk_core_commands.specs.declared.fault.DeskFault.TheVariants as f
use Rattle.desk_core.specs.States.{IsDesk}
use Rattle.desk_core.specs.Steps.{IsLeft, Leaves}
use Rattle.proof_store.specs.Counts.{NoneFalls}
use Rattle.proof_store.specs.Provers.{Limits, Proceeds}
use Rattle.proof_store.specs.Stored.{Told}
use Rattle.desk_http.specs.Serving.{Acts, Keeps, State, StepsTo}
use Rattle.desk_http.proofs.Keeping.{stays_told}

module _ (s : Limits) (command : Command) (d e : State) where
  keeps_of : Told (λ t u. IsDesk t → IsDesk u) d.tables e.tables → d.faults ≤ e.faults → NoneFalls d.asked e.asked → Keeps d e
  keeps_of desk faults asked = record { desk = desk; faults = faults; asked = asked }

  pub acts : (r : Result Answer DeskFault) → IfOk r (λ answer. StepsTo s command answer d e) → OnErr r (Told (Leaves command) d.tables e.tables) → OnErr r (IsLeft d.book e.book)
      → IfSome d.tables (λ t. IsDesk t → IfSome e.tables IsDesk) → Proceeds (r ≡ Err f.Keeper) (record { faults = d.faults; asked = d.asked }) (record { faults = e.faults; asked = e.asked })
      → Acts s command r d e
  acts (Ok answer) steps left book stays goes = (keeps_of (stays_told _ d.tables e.tables steps stays) goes.keeper.later goes.helpers, steps)
  acts (Err f.Keeper) steps left book stays goes = (keeps_of (stays_told _ d.tables e.tables left stays) goes.keeper.later goes.helpers, (left, book), goes.keeper.rose refl)
  acts (Err f.Memory) steps left book stays goes = (keeps_of (stays_told _ d.tables e.tables left stays) goes.keeper.later goes.helpers, (left, book))

  pub acts_keep : (r : Result Answer DeskFault) → Acts s command r d e → Keeps d e
  acts_keep (Ok answer) h = h.0
  acts_keep (Err f.Keeper) h = h.0
  acts_keep (Err f.Memory) h = h.0
