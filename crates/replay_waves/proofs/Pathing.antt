-- A path, byte by byte.
use Rattle.std.proofs.Common.{◌≡◌, ℕ, ◌+◌, ◌<◌, List, [], ◌∷◌, ◌++◌, length, get_or, drop, take, refl, ap, ◌∙◌, sym, append_assoc, add-one, drop-cons}
use Rattle.std.specs.Prelude.{Bool, true, false, nat_eq, if◌then◌else◌}
use Rattle.std.proofs.lemmas.List.{flat_map_more, take_more}
use Rattle.replay_waves.specs.Parts.{ended, last_part, next_part, opened, scope, scopes, upscopes}

byte : (path : List ℕ) (i : ℕ) → i < length path → drop i path ≡ get_or path i 0 ∷ drop (i + 1) path
byte path i less = drop-cons path i 0 less ∙ ap (λ (m : ℕ). get_or path i 0 ∷ drop m path) (sym (add-one i))

-- by cases on whether it is a dot
either_scopes : (dot : Bool) (part longer path : List ℕ)
    → (if dot then scope part ++ scopes [] path else scopes longer path) ≡ (if dot then scope part else []) ++ scopes (if dot then [] else longer) path
either_scopes true part longer path = refl
either_scopes false part longer path = refl

either_last : (dot : Bool) (longer path : List ℕ)
    → (if dot then last_part [] path else last_part longer path) ≡ last_part (if dot then [] else longer) path
either_last true longer path = refl
either_last false longer path = refl

-- one more byte
pub scopes_more : (part next path : List ℕ) (i : ℕ) (old out new : List ℕ) → i < length path → next ≡ next_part part (get_or path i 0) → new ≡ out ++ opened part (get_or path i 0)
    → out ++ scopes part (drop i path) ≡ old → new ++ scopes next (drop (i + 1) path) ≡ old
scopes_more part next path i old out new less is now was =
    let c = get_or path i 0 in
    let rest = drop (i + 1) path in
    ap (λ (zs : List ℕ). zs ++ scopes next rest) now
    ∙ (append_assoc out (opened part c) (scopes next rest)
    ∙ (ap (λ (zs : List ℕ). out ++ (opened part c ++ scopes zs rest)) is
    ∙ (ap (λ (zs : List ℕ). out ++ zs) (sym (ap (λ (cs : List ℕ). scopes part cs) (byte path i less) ∙ either_scopes (nat_eq c 46) part (part ++ c ∷ []) rest)) ∙ was)))

pub last_more : (part next path whole : List ℕ) (i : ℕ) → i < length path → next ≡ next_part part (get_or path i 0)
    → last_part part (drop i path) ≡ whole → last_part next (drop (i + 1) path) ≡ whole
last_more part next path whole i less is was =
    let c = get_or path i 0 in
    let rest = drop (i + 1) path in
    ap (λ (zs : List ℕ). last_part zs rest) is
    ∙ (sym (ap (λ (cs : List ℕ). last_part part cs) (byte path i less) ∙ either_last (nat_eq c 46) (part ++ c ∷ []) rest) ∙ was)

pub ends_more : (path : List ℕ) (i : ℕ) (old out new : List ℕ) → i < length path → new ≡ out ++ ended (get_or path i 0)
    → out ≡ old ++ upscopes (take i path) → new ≡ old ++ upscopes (take (i + 1) path)
ends_more path i old out new less now was =
    now ∙ (ap (λ (zs : List ℕ). zs ++ ended (get_or path i 0)) was
    ∙ (flat_map_more ended old (take i path) (get_or path i 0) ∙ ap (λ (cs : List ℕ). old ++ upscopes cs) (sym (take_more path i 0 less))))
