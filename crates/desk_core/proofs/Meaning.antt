-- What sign-offs mean.
use Rattle.std.proofs.Common.{◌≡◌, ℕ, suc, List, [], ◌∷◌, Bool, true, false, cond, ◌&&◌, Option, Some, None, refl, subst, arith}
use Rattle.std.specs.Prelude.{All, find, option_map}
use Rattle.std.specs.Str.{bytes_eq}
use Rattle.std.proofs.lemmas.Slice.Eq.{bytes_eq-Decides}
use Rattle.outside.specs.declared.rows.Sign.{Sign}
use Rattle.outside.specs.Tables.{sign_number}
use Rattle.desk_core.specs.Signed.{AreSignedOff, NumbersMean, SignOffsMean}
use Rattle.desk_core.specs.States.{IsSoundSign}
use Rattle.desk_core.proofs.Standing.{is_of}

pub sound_means : (sign : Sign) → IsSoundSign sign → AreSignedOff sign.module sign.set
sound_means sign sound = let is = sound.report.is_report in record { bound = is.bound; from = is.from; runs = is.runs; signed_off = is.signed_off sound.complete }

pub each_means : SignOffsMean
each_means t d = λ k x lt. sound_means _ (d.signs k x lt)

record AreBoth (a b : Bool) : Type 0 where
  first : a ≡ true
  second : b ≡ true

both : (a b : Bool) → (a && b) ≡ true → AreBoth a b
both true b h = record { first = refl; second = h }
both false b h = let clash : false ≡ true = h in absurd (cc)

of_these : (block m s : List ℕ) (x : Sign) → is_of block m s x ≡ true → AreSignedOff x.module x.set → AreSignedOff m s
of_these block m s x is off =
    let texts = both (bytes_eq x.module m) (bytes_eq x.set s) (both (bytes_eq x.block block) (bytes_eq x.module m && bytes_eq x.set s) is).second in
    subst (λ (a : List ℕ). AreSignedOff a s) ((bytes_eq-Decides x.module m).0 texts.first)
    (subst (λ (a : List ℕ). AreSignedOff x.module a) ((bytes_eq-Decides x.set s).0 texts.second) off)

-- it is the first, or one behind it
here_or_behind : (block m s : List ℕ) (number : ℕ) (x : Sign) (rest : Option Sign) (b : Bool) → is_of block m s x ≡ b → AreSignedOff x.module x.set → (option_map (λ y. y.number) rest ≡ Some number → AreSignedOff m s)
    → option_map (λ y. y.number) (cond b (Some x) rest) ≡ Some number → AreSignedOff m s
here_or_behind block m s number x rest true is off behind at = of_these block m s x is off
here_or_behind block m s number x rest false is off behind at = behind at

found_means : (block m s : List ℕ) (number : ℕ) (ss : List Sign) → All IsSoundSign ss → sign_number block m s ss ≡ Some number → AreSignedOff m s
found_means block m s number [] sound at = let clash : ◌≡◌ {A = Option ℕ} None (Some number) = at in absurd (cc)
found_means block m s number (x ∷ ss) sound at =
    here_or_behind block m s number x (find (is_of block m s) ss) (is_of block m s x) refl (sound_means x (sound 0 x (omega arith)))
    (λ behind. found_means block m s number ss (λ k y lt. sound (suc k) y (omega arith)) behind) at

pub numbers_mean : NumbersMean
numbers_mean t d block m s number at = found_means block m s number t.signs d.signs at
