-- Choices between borrowed values.
use Rattle.std.proofs.Common.{◌≡◌, Bor, Option, Some, None, refl}
use Rattle.std.specs.Option.{option_or, option_copied}

pub copied_or : {X : Type 0} (a b : Option (Bor X)) → option_copied (option_or a b) ≡ option_or (option_copied a) (option_copied b)
copied_or None b = refl
copied_or (Some x) b = refl
