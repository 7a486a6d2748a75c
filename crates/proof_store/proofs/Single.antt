-- A proof that is put by itself.
use Rattle.std.proofs.Common.{◌≡◌, ◌⊎◌, inl, inr, ⊎_elim, List, [], ◌∷◌, ℕ, Option, Some, None, true, false, refl, sym, subst, arith}
use Rattle.std.specs.Prelude.{IsTrue, ◌↔◌, Vec}
use Rattle.std.specs.declared.alloc.Global.{Global}
use Rattle.std.specs.FinMap.{get}
use Rattle.outside.specs.Tables.{Tables, with_proof}
use Rattle.clause_check.specs.declared.formula.Step.{Step}
use Rattle.proof_store_records.specs.Records.{IsRecord, version_2}
use Rattle.job_pool.specs.declared.evidence.Evidence.TheVariants.{Derivation}
use Rattle.proof_store.specs.Goals.{Ended}
use Rattle.proof_store.specs.Kept.{IsProof, key_of}
use Rattle.proof_store.specs.Rows.{IsRowOf}
use Rattle.proof_store.specs.declared.keeping.Row.{Row}
use Rattle.proof_store.specs.Stored.{AddsProofs, IsProved, MayBeKept, MayKeep, Puts, Told}
use Rattle.proof_store.proofs.Storing.{get_other, get_put, key_cases}

-- a row is made exactly of what may be kept
pub made_kept : (d : Ended) (found : Option Row) (row : Row) → IsRowOf d found → found ≡ Some row → IsTrue true ↔ MayKeep d
made_kept d found row made is = let r : IsRowOf d (Some row) = subst (IsRowOf d) is made in (λ yes. (r.0, r.1), λ may. refl)

pub unmade_kept : (d : Ended) (found : Option Row) → IsRowOf d found → found ≡ None → IsTrue false ↔ MayKeep d
unmade_kept d found made is =
    let none : IsRowOf d None = subst (IsRowOf d) is made in
    (λ yes. absurd (cc), λ may. absurd (none may.0 may.1))

module _ (d : Ended) (proof : (steps : Vec Step Global) → d.evidence ≡ Derivation steps → IsProof d.ob steps.items) where
  adds : (before after : Tables) → Puts d before after → AddsProofs (d.ob ∷ []) before after
  adds before after puts = ⊎_elim
      (λ (p : (steps : Vec Step Global) × MayBeKept d steps × IsRecord (version_2 steps.items) steps.items × (after ≡ with_proof (key_of d.ob) (version_2 steps.items) before)).
      subst (λ (t : Tables). AddsProofs (d.ob ∷ []) before t) (sym p.3) (record {
        blocks = refl;
        signs = refl;
        proofs = λ key. row p.0 p.1 p.2 key (key_cases key (key_of d.ob));
      }))
      (λ (p : ((steps : Vec Step Global) → MayBeKept d steps → ⊥) × (after ≡ before)).
      subst (λ (t : Tables). AddsProofs (d.ob ∷ []) before t) (sym p.1) (record { blocks = refl; signs = refl; proofs = λ key. inl refl })) puts
    where
      row : (steps : Vec Step Global) → MayBeKept d steps → IsRecord (version_2 steps.items) steps.items → (key : List ℕ) → (key ≡ key_of d.ob) ⊎ (key ≡ key_of d.ob → ⊥)
          → (get (with_proof (key_of d.ob) (version_2 steps.items) before).proofs key ≡ get before.proofs key) ⊎ IsProved (d.ob ∷ []) (with_proof (key_of d.ob) (version_2 steps.items) before) key
      row steps may reads key cases = ⊎_elim
          (λ same. inr (record {
            ob = d.ob;
            among = (0, omega arith, refl);
            text = sym same;
            kept = record {
              bytes = version_2 steps.items;
              steps = steps.items;
              row = get_put before.proofs (key_of d.ob) (version_2 steps.items) (key_of d.ob) refl;
              reads = reads;
              proof = proof steps may.has;
            };
          }))
          (λ differ. inl (get_other before.proofs (key_of d.ob) (version_2 steps.items) key differ)) cases

  -- what was put is a proof of its obligation, and all else is as before
  pub keeps_adds : (before after : Option Tables) → Told (Puts d) before after → Told (AddsProofs (d.ob ∷ [])) before after
  keeps_adds (Some before) (Some after) puts = adds before after puts
  keeps_adds (Some before) None puts = puts
  keeps_adds None (Some after) puts = puts
  keeps_adds None None puts = tt
