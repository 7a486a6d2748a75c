-- Connections of which one couldn't be taken, and how many count.
use Rattle.std.proofs.Common.{◌≡◌, ◌<◌, ◌≤◌, ◌+◌, ◌-◌, ◌^◌, ◌⊎◌, ℕ, subst, sym, arith, ap, ◌∙◌, inr, refl}
use Rattle.std.specs.Prelude.{Bool, true, false, Result, Ok, Err, IfErr, IsErrAnd}
use Rattle.desk_http_connection.specs.declared.serve.Served.{Served}
use Rattle.desk_http_connection.specs.declared.serve.ServeFault.{ServeFault}
use Rattle.proof_store.specs.Provers.{Limits}
use Rattle.desk_http.specs.declared.serving.Quota.{Quota}
use Rattle.desk_http.specs.Serving.{Fills, Line, ServesMany, ServesOne, State, StopsWithin, counted}

pub stops : {T : Type 0} (s : Limits) (q : Quota) (taken n : ℕ) (v u w : Line) (d c e : State) (r : Result T ServeFault) (x : ServeFault)
    → IsErrAnd r (λ z. z ≡ x) → n < q.count → ServesMany s q.replied v d taken n u c → ServesOne s u c (Err x) w e → IfErr r (λ fault. StopsWithin s q v d fault w e)
stops s q taken n v u w d c e (Ok t) x is fewer many one = absurd is
stops s q taken n v u w d c e (Err fault) x is fewer many one = record {
  served = n;
  fewer = fewer;
  taken = taken;
  port = u;
  desk = c;
  before = many;
  last = subst (λ (z : ServeFault). ServesOne s u c (Err z) w e) (sym is) one;
}

counted_any : (replied : Bool) (served : Served) (n : ℕ) → replied ≡ false → counted replied served n ≡ n + 1
counted_any false served n all = omega arith
counted_any true served n all = absurd cc

-- where each connection counts, one more of them is one more that counts
pub counted_each : (replied : Bool) (served : Served) (taken n after : ℕ) → replied ≡ false → after ≡ counted replied served n → n ≡ taken → after ≡ taken + 1
counted_each replied served taken n after all is same = is ∙ counted_any replied served n all ∙ ap (λ (k : ℕ). k + 1) same

full_or_last : (replied : Bool) (count taken n : ℕ) → n ≤ count → (replied ≡ false → n ≡ taken) → count < 2 ^ 32 → taken ≡ 2 ^ 64 - 1
    → (n ≡ count) ⊎ ((replied ≡ true) × (taken ≡ 2 ^ 64 - 1))
full_or_last true count taken n most each small end = inr (refl, end)
full_or_last false count taken n most each small end = let same : n ≡ taken = each refl in absurd (omega arith)

-- a quota below 2 ^ 32 isn't short of its number after 2 ^ 64 - 1 connections that count
pub fills_at_the_end : (q : Quota) (taken n : ℕ) → n ≤ q.count → (q.replied ≡ false → n ≡ taken) → q.count < 2 ^ 32 → taken ≡ 2 ^ 64 - 1 → Fills q taken n
fills_at_the_end q taken n = full_or_last q.replied q.count taken n

-- as much is spent on a line as at first
pub served_so : (s z : Limits) (u w : Line) (c e : State) (r : Result Served ServeFault) → z ≡ s → ServesOne z u c r w e → ServesOne s u c r w e
served_so s z u w c e r same one = subst (λ (x : Limits). ServesOne x u c r w e) same one
