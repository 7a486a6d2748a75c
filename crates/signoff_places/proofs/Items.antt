-- What `get` gives, and what a name is of it.
use Rattle.std.proofs.Common.{◌≡◌, ℕ, List, [], Bor, Option, Some, None, refl, sym, ap, ◌∙◌}
use Rattle.std.specs.Option.{option_copied, option_map_or}
use Rattle.std.specs.Slice.{IsItemAt}
use Rattle.std.specs.List.{slice_get}
use Rattle.std.proofs.lemmas.Option.{slice_get_past, slice_get_read}

got : {X : Type 0} (xs : List X) (i : ℕ) (r : Option (Bor X)) → IsItemAt xs i r → option_copied r ≡ slice_get xs i
got xs i None is = sym (slice_get_past xs i is.3)
got xs i (Some x) is = sym (slice_get_read xs _ i x.now refl is.3.0 is.1)

pub got_some : {X : Type 0} (xs : List X) (i : ℕ) (r : Option (Bor X)) (x : Bor X) → IsItemAt xs i r → r ≡ Some x → Some x.now ≡ slice_get xs i
got_some xs i r x is some = sym (ap option_copied some) ∙ got xs i r is

-- the name of what stands there, and no bytes where nothing does
pub name_there : {X : Type 0} (name : X → List ℕ) (xs : List X) (i : ℕ) (r : Option (Bor X)) (x : Bor X) → IsItemAt xs i r → r ≡ Some x → name x.now ≡ option_map_or name (slice_get xs i) []
name_there name xs i r x is some = ap (λ o. option_map_or name o []) (got_some xs i r x is some)
