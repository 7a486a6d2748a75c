-- The clauses of a netlist hold exactly where the assignment runs it.
use Rattle.std.proofs.Common.{◌≡◌, ℕ, suc, Bool, true, false, List, [], ◌∷◌, ◌++◌, Option, Some, None, refl, sym, ap, ◌∙◌, subst}
use Rattle.std.specs.Prelude.{not, ◌&&◌, ◌||◌, ◌==◌, if◌then◌else◌}
use Rattle.std.specs.Option.{option_to_list}
use Rattle.std.proofs.lemmas.Bool.{eqb-true}
use Rattle.clause_check.specs.declared.literal.Lit.{Lit}
use Rattle.clause_check.specs.Clauses.{negated}
use Rattle.cnf_build.specs.Literals.{holds, some_holds, all_hold, same_lit, has_lit, tidy_from, tidy, tidied}
use Rattle.cnf_build.specs.declared.gates.Gate.{Gate}
use Rattle.cnf_build.specs.declared.gates.Gate.TheVariants.{True, Free, And, Xor, Mux}
use Rattle.cnf_build.specs.Gates.{Runs, gate_value, xor, raw_clauses, clauses_from}
use Rattle.cnf_build.proofs.Numbers.{holds-negated}

-- are two truth values the same?
abbrev same : Bool → Bool → Bool
same true b = b
same false b = not b

same-eq : (a b : Bool) → same a b ≡ true → a ≡ b
same-eq true b e = sym e
same-eq false true e = cc
same-eq false false e = refl

same-refl : (a b : Bool) → a ≡ b → same a b ≡ true
same-refl true b e = sym e
same-refl false true e = e
same-refl false false e = refl

pub and_split : (a b : Bool) → (a && b) ≡ true → (a ≡ true) × (b ≡ true)
and_split true b e = (refl, e)
and_split false b e = cc

pub and_join : (a b : Bool) → a ≡ true → b ≡ true → (a && b) ≡ true
and_join a b p q = rw (p, q) refl

or_assoc : (a b c : Bool) → ((a || b) || c) ≡ (a || (b || c))
or_assoc true b c = refl
or_assoc false b c = refl

or_false : (a : Bool) → (a || false) ≡ a
or_false true = refl
or_false false = refl

or_absorb : (a b : Bool) → (b ≡ true → a ≡ true) → (a || b) ≡ a
or_absorb true b h = refl
or_absorb false true h = sym (h refl)
or_absorb false false h = refl

or_true : (a b : Bool) → b ≡ true → (a || b) ≡ true
or_true true b h = refl
or_true false b h = h

and_clauses : (x p q : Bool) → ((not x || (p || false)) && ((not x || (q || false)) && ((x || (not p || (not q || false))) && true))) ≡ same x (p && q)
and_clauses true true true = refl
and_clauses true true false = refl
and_clauses true false true = refl
and_clauses true false false = refl
and_clauses false true true = refl
and_clauses false true false = refl
and_clauses false false true = refl
and_clauses false false false = refl

xor_clauses : (x p q : Bool) → ((not x || (p || (q || false))) && ((not x || (not p || (not q || false))) && ((x || (not p || (q || false))) && ((x || (p || (not q || false))) && true)))) ≡ same x (xor p q)
xor_clauses true true true = refl
xor_clauses true true false = refl
xor_clauses true false true = refl
xor_clauses true false false = refl
xor_clauses false true true = refl
xor_clauses false true false = refl
xor_clauses false false true = refl
xor_clauses false false false = refl

mux_clauses : (x c p q : Bool) → ((not c || (not x || (p || false))) && ((not c || (x || (not p || false))) && ((c || (not x || (q || false))) && ((c || (x || (not q || false))) && true)))) ≡ same x (if c then p else q)
mux_clauses true true true q = refl
mux_clauses true true false q = refl
mux_clauses true false p true = refl
mux_clauses true false p false = refl
mux_clauses false true true q = refl
mux_clauses false true false q = refl
mux_clauses false false p true = refl
mux_clauses false false p false = refl

pub all_hold-append : (s : ℕ → Bool) (cs ds : List (List Lit)) → all_hold s (cs ++ ds) ≡ (all_hold s cs && all_hold s ds)
all_hold-append s [] ds = refl
all_hold-append s (c ∷ cs) ds = ap (λ b. some_holds s c && b) (all_hold-append s cs ds) ∙ sym (assoc (some_holds s c) (all_hold s cs) (all_hold s ds))
  where
    assoc : (a b c : Bool) → ((a && b) && c) ≡ (a && (b && c))
    assoc true b c = refl
    assoc false b c = refl

-- what a gate's clauses say: free gates have none, and of the others the value
abbrev says : (ℕ → Bool) → ℕ → Gate → Bool
says s k g = same (s k) (gate_value s k g)

same_self : (a : Bool) → true ≡ same a a
same_self true = refl
same_self false = refl

raw_says : (s : ℕ → Bool) (k : ℕ) (g : Gate) → all_hold s (raw_clauses k g) ≡ says s k g
raw_says s k True = unit (s k)
  where
    unit : (x : Bool) → ((x || false) && true) ≡ same x true
    unit true = refl
    unit false = refl
raw_says s k Free = same_self (s k)
raw_says s k (And a b) = rw (holds-negated s a, holds-negated s b) (and_clauses (s k) (holds s a) (holds s b))
raw_says s k (Xor a b) = rw (holds-negated s a, holds-negated s b) (xor_clauses (s k) (holds s a) (holds s b))
raw_says s k (Mux c a b) = rw (holds-negated s c, holds-negated s a, holds-negated s b) (mux_clauses (s k) (holds s c) (holds s a) (holds s b))

-- to tidy a clause changes no truth value
some_holds-append : (s : ℕ → Bool) (ls ms : List Lit) → some_holds s (ls ++ ms) ≡ (some_holds s ls || some_holds s ms)
some_holds-append s [] ms = refl
some_holds-append s (l ∷ ls) ms = ap (λ b. holds s l || b) (some_holds-append s ls ms) ∙ sym (or_assoc (holds s l) (some_holds s ls) (some_holds s ms))

same_sign : (a b : Bool) → (if a then b else not b) ≡ true → a ≡ b
same_sign true b e = sym e
same_sign false true e = e
same_sign false false e = refl

-- literals that are the same hold together
same_holds : (s : ℕ → Bool) (a b : Lit) → same_lit a b ≡ true → holds s a ≡ holds s b
same_holds s a b e =
    let parts = and_split (a.var == b.var) (if a.negative then b.negative else not b.negative) e in
    let v : a.var ≡ b.var = eqb-true a.var b.var parts.0 in
    let n = same_sign a.negative b.negative parts.1 in
    rw (v, n) refl

has_holds : (s : ℕ → Bool) (ls : List Lit) (l : Lit) → has_lit ls l ≡ true → holds s l ≡ true → some_holds s ls ≡ true
has_holds s [] l e h = cc
has_holds s (m ∷ ms) l e h = by_head (λ t. has_holds s ms l t h) (same_lit m l) refl
  where
    by_head : (has_lit ms l ≡ true → some_holds s ms ≡ true) → (t : Bool) → same_lit m l ≡ t → some_holds s (m ∷ ms) ≡ true
    by_head later true f = let on : holds s m ≡ true = same_holds s m l f ∙ h in ap (λ b. b || some_holds s ms) on
    by_head later false f =
        let tail : has_lit ms l ≡ true = ap (λ b. b || has_lit ms l) (sym f) ∙ e in
        or_true (holds s m) (some_holds s ms) (later tail)

abbrev Keeps : (ℕ → Bool) → Bool → Option (List Lit) → Type 0
Keeps s v None = v ≡ true
Keeps s v (Some c) = some_holds s c ≡ v

tidy_keeps : (s : ℕ → Bool) (kept ls : List Lit) → Keeps s (some_holds s kept || some_holds s ls) (tidy_from kept ls)
tidy_keeps s kept [] = sym (or_false (some_holds s kept))
tidy_keeps s kept (l ∷ ls) = by_clash (λ k. tidy_keeps s k ls) (has_lit kept (negated l)) refl (has_lit kept l) refl
  where
    clash : (h : Bool) → holds s l ≡ h → has_lit kept (negated l) ≡ true → (some_holds s kept || (holds s l || some_holds s ls)) ≡ true
    clash true e f = or_true (some_holds s kept) (holds s l || some_holds s ls) (ap (λ b. b || some_holds s ls) e)
    clash false e f =
        let on : holds s (negated l) ≡ true = holds-negated s l ∙ ap not e in
        ap (λ b. b || (holds s l || some_holds s ls)) (has_holds s kept (negated l) f on)

    by_clash : ((k : List Lit) → Keeps s (some_holds s k || some_holds s ls) (tidy_from k ls)) → (t : Bool) → has_lit kept (negated l) ≡ t → (u : Bool) → has_lit kept l ≡ u → Keeps s (some_holds s kept || (holds s l || some_holds s ls)) (if t then None else (if u then tidy_from kept ls else tidy_from (kept ++ l ∷ []) ls))
    by_clash rest true f u g = clash (holds s l) refl f
    by_clash rest false f true g =
        let drop_it : (some_holds s kept || some_holds s ls) ≡ (some_holds s kept || (holds s l || some_holds s ls)) = ap (λ b. b || some_holds s ls) (sym (or_absorb (some_holds s kept) (holds s l) (has_holds s kept l g))) ∙ or_assoc (some_holds s kept) (holds s l) (some_holds s ls) in
        subst (λ v. Keeps s v (tidy_from kept ls)) drop_it (rest kept)
    by_clash rest false f false g =
        let move : (some_holds s (kept ++ l ∷ []) || some_holds s ls) ≡ (some_holds s kept || (holds s l || some_holds s ls)) = ap (λ b. b || some_holds s ls) (some_holds-append s kept (l ∷ []) ∙ ap (λ b. some_holds s kept || b) (or_false (holds s l))) ∙ or_assoc (some_holds s kept) (holds s l) (some_holds s ls) in
        subst (λ v. Keeps s v (tidy_from (kept ++ l ∷ []) ls)) move (rest (kept ++ l ∷ []))

tidied_keeps : (s : ℕ → Bool) (cs : List (List Lit)) → all_hold s (tidied cs) ≡ all_hold s cs
tidied_keeps s [] = refl
tidied_keeps s (c ∷ cs) = by_tidy (tidied_keeps s cs) (tidy c) (tidy_keeps s [] c)
  where
    by_tidy : all_hold s (tidied cs) ≡ all_hold s cs → (o : Option (List Lit)) → Keeps s (some_holds s c) o → all_hold s (option_to_list o ++ tidied cs) ≡ (some_holds s c && all_hold s cs)
    by_tidy rest None k = rest ∙ sym (ap (λ b. b && all_hold s cs) k)
    by_tidy rest (Some d) k = ap (λ b. b && all_hold s (tidied cs)) k ∙ ap (λ b. some_holds s c && b) rest

-- one gate
gate_says : (s : ℕ → Bool) (k : ℕ) (g : Gate) → all_hold s (tidied (raw_clauses k g)) ≡ says s k g
gate_says s k g = tidied_keeps s (raw_clauses k g) ∙ raw_says s k g

pub clauses_run : (s : ℕ → Bool) (k : ℕ) (gs : List Gate) → all_hold s (clauses_from k gs) ≡ true → Runs s k gs
clauses_run s k [] h = tt
clauses_run s k (g ∷ gs) h =
    let parts = and_split (all_hold s (tidied (raw_clauses k g))) (all_hold s (clauses_from (suc k) gs)) (sym (all_hold-append s (tidied (raw_clauses k g)) (clauses_from (suc k) gs)) ∙ h) in
    (same-eq (s k) (gate_value s k g) (sym (gate_says s k g) ∙ parts.0), clauses_run s (suc k) gs parts.1)

pub run_clauses : (s : ℕ → Bool) (k : ℕ) (gs : List Gate) → Runs s k gs → all_hold s (clauses_from k gs) ≡ true
run_clauses s k [] r = refl
run_clauses s k (g ∷ gs) r =
    all_hold-append s (tidied (raw_clauses k g)) (clauses_from (suc k) gs) ∙ and_join (all_hold s (tidied (raw_clauses k g))) (all_hold s (clauses_from (suc k) gs)) (gate_says s k g ∙ same-refl (s k) (gate_value s k g) r.0) (run_clauses s (suc k) gs r.1)
