use Rattle.std.proofs.Common.{◌≡◌, ◌≢◌, ℕ, Bool, true, false, eqb, List, [], ◌++◌, length, Result, Ok, Err, ap, sym, ◌∙◌, subst, inl, inr, arith}
use Rattle.std.specs.List.{All, flat_map}
use Rattle.std.specs.Result.{IfOk, OnOk}
use Rattle.std.proofs.lemmas.Bool.Decides.{nat_tests}
use Rattle.std.proofs.lemmas.List.{append_assoc, append-nil, length-map, get_or-map, nil_from_length}
use Rattle.std.proofs.lemmas.List.Elements.{All-map}
use Rattle.clause_check.specs.declared.literal.Lit.{Lit}
use Rattle.clause_check.specs.declared.formula.Step.{Step}
use Rattle.proof_store_records.specs.declared.version.Version.{Version}
use Rattle.proof_store_records.specs.declared.version.Version.TheVariants.{First, Second}
use Rattle.proof_store_records.specs.Front.{Lacks, Starts}
use Rattle.proof_store_records.specs.Varint.{varint}
use Rattle.proof_store_records.specs.Layout.{mark, IsAny, count_bytes, number_bytes, distances, hints_bytes, steps_bytes, CanStand, CanStandAll}
use Rattle.proof_store_records.specs.Records.{content, contents, FitsVersion, HasClauses, IsRecord}
use Rattle.proof_store_records.proofs.HintLemmas.{length_distances}

stands : (version : Version) (steps : List Step) → FitsVersion version steps → HasClauses steps → CanStandAll version (contents steps)
stands version steps fits distinct = record {
  count = let few = fits.count in omega (arith, length-map steps content);
  each = All-map (CanStand version) content steps (λ k d inside. let h = fits.each k d inside in let p = distinct k d inside in ((record { count = h.0; each = p.vars }, p.distinct), record { count = h.1; each = p.hints }));
}

all_back : (P : List Lit × List ℕ → Type 0) (steps : List Step) → All P (contents steps) → All (λ s. P (content s)) steps
all_back P steps all k d inside = subst P (get_or-map content steps k d (content d) inside) (all k (content d) (omega (arith, length-map steps content)))

fits_back : (version : Version) (steps : List Step) → CanStandAll version (contents steps) → FitsVersion version steps
fits_back version steps all = record {
  count = let few = all.count in omega (arith, length-map steps content);
  each = λ k d inside. let h = all_back (CanStand version) steps all.each k d inside in (h.0.0.count, h.1.count);
}

distinct_back : (version : Version) (steps : List Step) → CanStandAll version (contents steps) → HasClauses steps
distinct_back version steps all k d inside = let h = all_back (CanStand version) steps all.each k d inside in record { distinct = h.0.1; vars = h.0.0.each; hints = h.1.each }

as_record : (version : Version) (bytes : List ℕ) (steps : List Step) → CanStandAll version (contents steps) → bytes ≡ mark version ++ steps_bytes version (contents steps) → IsRecord bytes steps
as_record First bytes steps all is = (distinct_back First steps all, inl (fits_back First steps all, is))
as_record Second bytes steps all is = (distinct_back Second steps all, inr (fits_back Second steps all, is))

as_whole : (bytes : List ℕ) (steps : List Step) → IsRecord bytes steps → (version : Version) × CanStandAll version (contents steps) × (bytes ≡ mark version ++ steps_bytes version (contents steps))
as_whole bytes steps r = elim r.1 [
  | inl first ↦ (First, stands First steps first.0 r.0, first.1)
  | inr second ↦ (Second, stands Second steps second.0 r.0, second.1)
]

pub no_mark : (bytes : List ℕ) → Lacks IsAny mark bytes → (steps : List Step) → IsRecord bytes steps → ⊥
no_mark bytes none steps r = let w = as_whole bytes steps r in none w.0 (steps_bytes w.0 (contents steps)) tt w.2

-- after the mark
module _ (bytes rest : List ℕ) (version : Version) (starts : Starts IsAny mark bytes version rest) where
  inner : (steps : List Step) → IsRecord bytes steps → CanStandAll version (contents steps) × (rest ≡ steps_bytes version (contents steps) ++ [])
  inner steps r =
      let w = as_whole bytes steps r in
      let same = starts.only w.0 (steps_bytes w.0 (contents steps)) tt w.2 in (
        subst (λ (v : Version). CanStandAll v (contents steps)) same.0 w.1,
        sym same.1 ∙ (ap (λ (v : Version). steps_bytes v (contents steps)) same.0 ∙ sym (append-nil (steps_bytes version (contents steps)))),
      )

  pub no_steps : Lacks (CanStandAll version) (steps_bytes version) rest → (steps : List Step) → IsRecord bytes steps → ⊥
  no_steps none steps r = let i = inner steps r in none (contents steps) [] i.0 i.1

  module _ (steps : List Step) (after : List ℕ) (follows : Starts (CanStandAll version) (steps_bytes version) rest (contents steps) after) where
    pub no_end : length after ≢ 0 → (others : List Step) → IsRecord bytes others → ⊥
    no_end more others r =
        let i = inner others r in
        let e = ap length (follows.only (contents others) [] i.0 i.1).1 in
        more (sym e)

    pub record_found : length after ≡ 0 → IsRecord bytes steps
    record_found e =
        as_record version bytes steps follows.fits
        (starts.is ∙ ap (λ r. mark version ++ r) (follows.is ∙ (ap (λ r. steps_bytes version (contents steps) ++ r) (nil_from_length after e) ∙ append-nil (steps_bytes version (contents steps)))))

    pub record_only : (others : List Step) → IsRecord bytes others → contents steps ≡ contents others
    record_only others r = let i = inner others r in sym (follows.only (contents others) [] i.0 i.1).0

pub empty_if : (n : ℕ) (b : Bool) → b ≡ eqb n 0 → b ≡ true → n ≡ 0
empty_if n b e is = grind (arith, nat_tests)

pub some_if : (n : ℕ) (b : Bool) → b ≡ eqb n 0 → b ≡ false → n ≢ 0
some_if n b e is none = grind (arith, nat_tests)

pub hints_written : (version : Version) → version ≡ Second → (hints out now end : List ℕ) → now ≡ out ++ count_bytes version (length hints) → end ≡ now ++ flat_map varint (distances hints) → end ≡ out ++ hints_bytes version hints
unfolding number_bytes
hints_written First e hints out now end counted written = cc
hints_written Second e hints out now end counted written =
    written ∙ (ap (λ n. n ++ flat_map varint (distances hints)) counted
    ∙ (append_assoc out (count_bytes Second (length hints)) (flat_map varint (distances hints))
    ∙ ap (λ k. out ++ (count_bytes Second k ++ flat_map varint (distances hints))) (sym (length_distances hints))))

pub ok_both : {T E : Type 0} (r : Result T E) (P : T → Type 0) (Q : Type 0) (R : T → Type 0) → ((x : T) → P x → Q → R x) → IfOk r P → OnOk r Q → IfOk r R
ok_both (Ok x) P Q R f p q = f x p q
ok_both (Err e) P Q R f p q = p
