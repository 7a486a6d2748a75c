-- What a sign-off says of its two texts.
use Rattle.std.specs.Prelude.{◌≡◌, ℕ, List, All, Some}
use Rattle.outside.specs.Tables.{Tables, sign_number}
use Rattle.unroll_laws.specs.Existence.{HasRunsFromReset}
use Rattle.unroll_laws.specs.Promises.{SignsOff}
use Rattle.unroll_binding.specs.Binding.{Pair}
use Rattle.desk_core_stages.specs.Stages.{IsBoundOf}
use Rattle.desk_core.specs.States.{IsDesk}

-- the texts are of modules and of a set that fits their design; the modules have runs from reset, every constrained one satisfies the set, and the set is
-- complete
pub record AreSignedOff (m s : List ℕ) : Type 0 where
  pub bound : Pair
  pub from : IsBoundOf m s bound
  pub runs : HasRunsFromReset from.modules bound.set.block bound.design bound.set
  pub signed_off : SignsOff from.modules bound.set.block bound.set

abbrev pub SignOffsMean : Type 0
SignOffsMean = (t : Tables) → IsDesk t → All (λ sign. AreSignedOff sign.module sign.set) t.signs

abbrev pub NumbersMean : Type 0
NumbersMean = (t : Tables) → IsDesk t → (block m s : List ℕ) (number : ℕ) → sign_number block m s t.signs ≡ Some number → AreSignedOff m s
