use Rattle.std.proofs.Common.{◌≡◌, ◌<◌, ◌≤◌, ◌+◌, ◌*◌, ◌/◌, ◌^◌, ℕ, Bool, true, false, cond, List, [], ◌∷◌, map, length, get_or, ap, sym, refl, ◌∙◌, arith}
use Rattle.std.specs.List.{All}
use Rattle.std.proofs.lemmas.List.{length-map, get_or-map}
use Rattle.std.proofs.lemmas.List.Elements.{All-get_or, All-map, All-weaker}
use Rattle.clause_check.specs.declared.literal.Lit.{Lit}
use Rattle.proof_store_records.specs.declared.version.Version.{Version}
use Rattle.proof_store_records.specs.Front.{Lacks, Starts}
use Rattle.proof_store_records.specs.Layout.{lit_value, list_bytes, lits_bytes, FitsNumbers, FitsLits}
use Rattle.proof_store_records.proofs.FrontLemmas.{by_none, by_odd, by_one}

parts_same : (v w : ℕ) (a b : Bool) → 2 * v + cond a 1 0 ≡ 2 * w + cond b 1 0 → (v ≡ w) × (a ≡ b)
parts_same v w true true e = (omega arith, refl)
parts_same v w true false e = absurd (omega arith)
parts_same v w false true e = absurd (omega arith)
parts_same v w false false e = (omega arith, refl)

parts_var : (v : ℕ) (b : Bool) → (2 * v + cond b 1 0) / 2 ≡ v
parts_var v true = omega arith
parts_var v false = omega arith

with_parts : ℕ → Bool → Lit
with_parts v n = record { var = v; negative = n }

lit_same : (l m : Lit) → lit_value l ≡ lit_value m → l ≡ m
unfolding with_parts
lit_same l m e =
    let p = parts_same l.var m.var l.negative m.negative e in
    ap (λ v. with_parts v l.negative) p.0 ∙ ap (λ n. with_parts m.var n) p.1

pub lits_same : (ls ms : List Lit) → map lit_value ls ≡ map lit_value ms → ls ≡ ms
lits_same [] [] e = refl
lits_same [] (m ∷ ms) e = cc
lits_same (l ∷ ls) [] e = cc
lits_same (l ∷ ls) (m ∷ ms) e =
    let head : lit_value l ≡ lit_value m = cc in
    let tail : map lit_value ls ≡ map lit_value ms = cc in
    ap (λ k. k ∷ ls) (lit_same l m head) ∙ ap (λ ks. m ∷ ks) (lits_same ls ms tail)

sign_small : (b : Bool) → cond b 1 0 ≤ 1
sign_small true = omega arith
sign_small false = omega arith

value_fits : (l : Lit) → l.var < 2 ^ 32 → lit_value l < 2 ^ 64
value_fits l below = omega (arith, sign_small l.negative)

var_of_value : (l : Lit) → lit_value l / 2 ≡ l.var
var_of_value l = parts_var l.var l.negative

-- values of which one tells a variable that doesn't fit are no literals'
pub value_over : (values : List ℕ) (i : ℕ) → i < length values → 2 ^ 32 ≤ get_or values i 0 / 2 → (ls : List Lit) → All (λ l. l.var < 2 ^ 32) ls → map lit_value ls ≡ values → ⊥
value_over values i lt over ls below e =
    let z : Lit = with_parts 0 false in
    let len : length ls ≡ length values = sym (length-map ls lit_value) ∙ ap length e in
    let at : lit_value (get_or ls i z) ≡ get_or values i 0 = sym (get_or-map lit_value ls i z 0 (omega arith)) ∙ ap (λ vs. get_or vs i 0) e in
    let small = All-get_or (λ (l : Lit). l.var < 2 ^ 32) ls i z (omega arith) below in
    let same : get_or values i 0 / 2 ≡ (get_or ls i z).var = ap (λ n. n / 2) (sym at) ∙ var_of_value (get_or ls i z) in
    omega arith

values_fit : (version : Version) (lits : List Lit) → FitsLits version lits → FitsNumbers version (map lit_value lits)
values_fit version lits fits = record {
  count = let few = fits.count in omega (arith, length-map lits lit_value);
  each = All-map (λ n. n < 2 ^ 64) lit_value lits (All-weaker (λ l. l.var < 2 ^ 32) (λ l. lit_value l < 2 ^ 64) value_fits lits fits.each);
}

module _ (version : Version) (bytes : List ℕ) where
  pub lits_none : Lacks (FitsNumbers version) (list_bytes version) bytes → Lacks (FitsLits version) (lits_bytes version) bytes
  lits_none none = by_none (FitsNumbers version) (list_bytes version) (map lit_value) (FitsLits version) (values_fit version) bytes none

  pub lits_odd : (values rest : List ℕ) → Starts (FitsNumbers version) (list_bytes version) bytes values rest → ((ls : List Lit) → All (λ l. l.var < 2 ^ 32) ls → map lit_value ls ≡ values → ⊥)
      → Lacks (FitsLits version) (lits_bytes version) bytes
  lits_odd values rest starts odd =
      by_odd (FitsNumbers version) (list_bytes version) (map lit_value) (FitsLits version) (values_fit version) bytes values rest starts (λ others fits same. odd others fits.each same)

  pub lits_one : (values rest : List ℕ) (lits : List Lit) → Starts (FitsNumbers version) (list_bytes version) bytes values rest → map lit_value lits ≡ values → All (λ l. l.var < 2 ^ 32) lits
      → Starts (FitsLits version) (lits_bytes version) bytes lits rest
  lits_one values rest lits starts is below =
      by_one (FitsNumbers version) (list_bytes version) (map lit_value) (FitsLits version) (values_fit version) bytes values lits rest starts is
      (record { count = let few = starts.fits.count in omega (arith, ap length is, length-map lits lit_value); each = below })
      (λ others fits same. lits_same others lits same)
