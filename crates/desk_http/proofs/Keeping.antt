-- What every command keeps.
use Rattle.std.proofs.Common.{ℕ, ◌≤◌, List, [], ◌∷◌, Option, Some, None, arith}
use Rattle.std.specs.Prelude.{IfSome}
use Rattle.outside.specs.Tables.{Tables}
use Rattle.desk_core.specs.States.{IsDesk}
use Rattle.proof_store.specs.Counts.{NoneFalls}
use Rattle.proof_store.specs.Stored.{Told}
use Rattle.desk_http.specs.Serving.{Keeps, State}

pub none_falls_same : (xs : List ℕ) → NoneFalls xs xs
none_falls_same [] = tt
none_falls_same (x ∷ xs) = (omega arith, none_falls_same xs)

none_falls_on : (xs ys zs : List ℕ) → NoneFalls xs ys → NoneFalls ys zs → NoneFalls xs zs
none_falls_on [] [] [] a b = tt
none_falls_on [] [] (z ∷ zs) a b = absurd b
none_falls_on [] (y ∷ ys) zs a b = absurd a
none_falls_on (x ∷ xs) [] zs a b = absurd a
none_falls_on (x ∷ xs) (y ∷ ys) [] a b = absurd b
none_falls_on (x ∷ xs) (y ∷ ys) (z ∷ zs) a b = let p : x ≤ y = a.0 in let q : y ≤ z = b.0 in (omega arith, none_falls_on xs ys zs a.1 b.1)

abbrev StaysDesk : Tables → Tables → Type 0
StaysDesk t u = IsDesk t → IsDesk u

told_same : (t : Option Tables) → Told StaysDesk t t
told_same None = tt
told_same (Some t) = λ desk. desk

told_on : (t u v : Option Tables) → Told StaysDesk t u → Told StaysDesk u v → Told StaysDesk t v
told_on None None None a b = tt
told_on None None (Some v) a b = absurd b
told_on None (Some u) v a b = absurd a
told_on (Some t) None v a b = absurd a
told_on (Some t) (Some u) None a b = absurd b
told_on (Some t) (Some u) (Some v) a b = λ desk. b (a desk)

pub keeps_same : (d : State) → Keeps d d
keeps_same d = record { desk = told_same d.tables; faults = omega arith; asked = none_falls_same d.asked }

pub keeps_on : (c d e : State) → Keeps c d → Keeps d e → Keeps c e
keeps_on c d e a b = record {
  desk = told_on c.tables d.tables e.tables a.desk b.desk;
  faults = let p : c.faults ≤ d.faults = a.faults in let q : d.faults ≤ e.faults = b.faults in omega arith;
  asked = none_falls_on c.asked d.asked e.asked a.asked b.asked;
}

-- where the tables are told before and after, a desk stays one
pub stays_told : (R : Tables → Tables → Type 0) (t u : Option Tables) → Told R t u → IfSome t (λ x. IsDesk x → IfSome u IsDesk) → Told StaysDesk t u
stays_told R None None told stays = tt
stays_told R None (Some u) told stays = absurd told
stays_told R (Some t) None told stays = absurd told
stays_told R (Some t) (Some u) told stays = stays
