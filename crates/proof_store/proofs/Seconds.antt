-- Records of version 1, and the records of version 2 of their steps.
use Rattle.std.proofs.Common.{◌≡◌, ℕ, ◌<◌, ◌≤◌, inl, ⊎_elim, List, ◌++◌, Option, Some, None, Bool, length, take, get_or, sym, ap, ◌∙◌, subst, arith}
use Rattle.std.proofs.lemmas.List.{get_or-map, length-map}
use Rattle.std.specs.Prelude.{All, IsTrue, true, false, ◌↔◌, Vec, option_map}
use Rattle.std.specs.declared.alloc.Global.{Global}
use Rattle.std.proofs.lemmas.Option.{same_Some}
use Rattle.std.proofs.lemmas.List.Elements.{All-map}
use Rattle.clause_check.specs.declared.literal.Lit.{Lit}
use Rattle.clause_check.specs.declared.formula.Step.{Step}
use Rattle.proof_store_records.specs.declared.version.Version.TheVariants.{First, Second}
use Rattle.proof_store_records.specs.Layout.{FitsStep, mark, steps_bytes}
use Rattle.proof_store_records.specs.Records.{Fits, IsRecord, content, contents, version_1, version_2}
use Rattle.proof_store.specs.Moves.{CanMove}

all_back : (P : List Lit × List ℕ → Type 0) (steps : List Step) → All P (contents steps) → All (λ s. P (content s)) steps
all_back P steps all k d inside = subst P (get_or-map content steps k d (content d) inside) (all k (content d) (omega (arith, length-map steps content)))

-- steps with the same contents fit alike
fits_same : (xs ys : List Step) → contents xs ≡ contents ys → Fits xs → Fits ys
fits_same xs ys same fits = record {
  count = let few = fits.count in let long = ap length same in omega (arith, few, long, length-map xs content, length-map ys content);
  each = all_back (FitsStep Second) ys (subst (All (FitsStep Second)) same (All-map (FitsStep Second) content xs fits.each));
}

second_same : (xs ys : List Step) → contents xs ≡ contents ys → version_2 xs ≡ version_2 ys
second_same xs ys same = ap (λ (cs : List (List Lit × List ℕ)). mark Second ++ steps_bytes Second cs) same

marks_differ : (rest : List ℕ) → take 2 (mark Second ++ rest) ≡ mark First → ⊥
marks_differ rest same = let byte : ◌≡◌ {A = ℕ} 0x32 0x31 = ap (λ (bs : List ℕ). get_or bs 1 0) same in omega arith

-- a record of version 2 is none of version 1
pub not_first : (bytes : List ℕ) (xs ys : List Step) → bytes ≡ version_2 xs → bytes ≡ version_1 ys → ⊥
not_first bytes xs ys second first = marks_differ (steps_bytes Second (contents xs)) (ap (take 2) (sym second ∙ first))

-- bytes that don't begin as version 1 can't move
pub not_begun : (bytes : List ℕ) (begins : Bool) → (IsTrue begins ↔ (take 2 bytes ≡ mark First)) → begins ≡ false → (second : List ℕ) → CanMove bytes second → ⊥
not_begun bytes begins tells off second can = let on : begins ≡ true = tells.1 (ap (take 2) can.first) in absurd (cc)

module _ (bytes : List ℕ) (read : Option (Vec Step Global)) (exact : (steps : List Step) → IsRecord bytes steps → option_map (λ s. contents s.items) read ≡ Some (contents steps)) where
  reads : (second : List ℕ) (can : CanMove bytes second) → option_map (λ s. contents s.items) read ≡ Some (contents can.steps)
  reads second can = exact can.steps (can.clauses, inl (can.fits_first, can.first))

  pub no_record : read ≡ None → (second : List ℕ) → CanMove bytes second → ⊥
  no_record none second can = let refused : None ≡ Some (contents can.steps) = ap (option_map (λ (s : Vec Step Global). contents s.items)) (sym none) ∙ reads second can in absurd (cc)

  module _ (found : Vec Step Global) (is : read ≡ Some found) where
    alike : (second : List ℕ) (can : CanMove bytes second) → contents found.items ≡ contents can.steps
    alike second can = same_Some (contents found.items) (contents can.steps) (ap (option_map (λ (s : Vec Step Global). contents s.items)) (sym is) ∙ reads second can)

    -- steps that don't fit can't move
    pub not_fitting : (given : List Step) (fits : Bool) → given ≡ found.items → (IsTrue fits ↔ Fits given) → fits ≡ false → (second : List ℕ) → CanMove bytes second → ⊥
    not_fitting given fits same tells off second can =
        let on : fits ≡ true = tells.1 (fits_same can.steps given (sym (alike second can) ∙ ap contents (sym same)) can.fits) in absurd (cc)

    -- a longer record can't move
    pub too_long : (given : List Step) (made : List ℕ) → given ≡ found.items → made ≡ version_2 given → length bytes < length made → (second : List ℕ) → CanMove bytes second → ⊥
    too_long given made same made_is longer second can =
        let long = can.not_longer in
        let equal : second ≡ made = can.are ∙ (second_same can.steps given (sym (alike second can) ∙ ap contents (sym same)) ∙ sym made_is) in
        let lengths = ap length equal in
        omega (arith, long, lengths, longer)

-- a record that begins as version 1 of steps that fit, whose second record isn't longer
pub moves : (bytes : List ℕ) (found : Vec Step Global) (given : List Step) (made : List ℕ) → take 2 bytes ≡ mark First → IsRecord bytes found.items → given ≡ found.items → Fits given → made ≡ version_2 given → length made ≤ length bytes → CanMove bytes made
moves bytes found given made begins reads same fits made_is long = ⊎_elim
    (λ first. record {
      steps = found.items;
      clauses = reads.0;
      fits_first = first.0;
      first = first.1;
      fits = subst Fits same fits;
      are = made_is ∙ ap version_2 same;
      not_longer = long;
    })
    (λ second. absurd (marks_differ (steps_bytes Second (contents found.items)) (ap (take 2) (sym second.1) ∙ begins)))
    reads.1
