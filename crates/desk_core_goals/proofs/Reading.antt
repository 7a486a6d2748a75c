-- Why no derivation is read.
use Rattle.std.proofs.Common.{◌≡◌, ℕ, List, Bool, true, false, Option, Some, None, subst, sym, ap, refl, ◌∙◌, ⊎_elim}
use Rattle.std.specs.Prelude.{◌↔◌, IfErr, IsTrue, Result, Ok, Err, Vec}
use Rattle.std.specs.Result.{IsErrAnd}
use Rattle.std.specs.declared.alloc.Global.{Global}
use Rattle.outside.specs.Tables.{Tables, with_proof}
use Rattle.clause_check.specs.declared.formula.Step.{Step}
use Rattle.proof_store_records.specs.Records.{IsRecord, version_2}
use Rattle.proof_store.specs.declared.fault.StoreFault.{StoreFault}
use Rattle.proof_store.specs.declared.fault.StoreFault.TheVariants as s
use Rattle.proof_store.specs.declared.goal.Decided.{Decided}
use Rattle.proof_store.specs.Goals.{Ended}
use Rattle.proof_store.specs.Kept.{key_of}
use Rattle.proof_store.specs.Stored.{MayBeKept, MayKeep, Puts, Told}
use Rattle.set_tree.specs.declared.line.Line.{Line}
use Rattle.clause_check.specs.declared.formula.Cnf.{Cnf}
use Rattle.clause_check_texts.specs.declared.fault.ProofFault.{ProofFault}
use Rattle.clause_check_texts.specs.declared.fault.ProofFault.TheVariants as p
use Rattle.clause_check_texts.specs.Faults.{Stands}
use Rattle.unroll_binding.specs.Binding.{Pair}
use Rattle.desk_core_goals.specs.declared.fault.LineFault.{LineFault}
use Rattle.desk_core_goals.specs.declared.fault.LineFault.TheVariants as l
use Rattle.desk_core_goals.specs.Asked.{LacksName}
use Rattle.desk_core_goals.specs.declared.keep_fault.KeepFault.{KeepFault}
use Rattle.desk_core_goals.specs.declared.keep_fault.KeepFault.TheVariants as k
use Rattle.desk_core_goals.specs.Keeping.{HasLineClauses, IsProvedGoal, RefusesGoal, RefusesProof, fault_of_line, fault_of_proof, fault_of_store}

-- no line has the name
refused_by_line : (b : Pair) (name text : List ℕ) (fault : LineFault) → LacksName b.set name fault → RefusesGoal b name text (fault_of_line fault)
refused_by_line b name text l.NoLine lacks = lacks
refused_by_line b name text l.Keeper lacks = lacks
refused_by_line b name text l.Memory lacks = tt

pub refused_line : (b : Pair) (name text : List ℕ) (fault : LineFault) (result : KeepFault) → LacksName b.set name fault → result ≡ fault_of_line fault → RefusesGoal b name text result
refused_line b name text fault result lacks is = subst (RefusesGoal b name text) (sym is) (refused_by_line b name text fault lacks)

refused_by_text : (b : Pair) (name text : List ℕ) (formula : Cnf) (fault : ProofFault) → HasLineClauses b name formula → Stands formula text fault → RefusesGoal b name text (fault_of_proof fault)
refused_by_text b name text formula p.Long has stands = (λ no. absurd (cc), formula, has, stands)
refused_by_text b name text formula (p.Syntax n) has stands = (λ no. absurd (cc), formula, has, stands)
refused_by_text b name text formula (p.Unimplied n) has stands = (λ no. absurd (cc), formula, has, stands)
refused_by_text b name text formula p.Open has stands = (λ no. absurd (cc), formula, has, stands)
refused_by_text b name text formula p.Memory has stands = tt

-- something stands against the text
pub refused_text : (b : Pair) (name text : List ℕ) (formula : Cnf) (fault : ProofFault) (result : KeepFault) → HasLineClauses b name formula → Stands formula text fault → result ≡ fault_of_proof fault
    → RefusesGoal b name text result
refused_text b name text formula fault result has stands is = subst (RefusesGoal b name text) (sym is) (refused_by_text b name text formula fault has stands)

-- where there is no goal with a derivation nothing is kept
pub refused_proof : (b : Pair) (name text : List ℕ) (fault : KeepFault) → RefusesGoal b name text fault → RefusesProof b name text fault
refused_proof b name text k.NoLine refuses = refuses
refused_proof b name text (k.Proof fault) refuses = refuses
refused_proof b name text k.Large refuses = absurd refuses
refused_proof b name text k.Keeper refuses = absurd refuses
refused_proof b name text k.Memory refuses = tt

pub no_keeper : (b : Pair) (name text : List ℕ) (fault : KeepFault) → RefusesGoal b name text fault → fault ≡ k.Keeper → ⊥
no_keeper b name text fault refuses is = subst (RefusesGoal b name text) is refuses

-- ---- as the calls answer

store_refused : (b : Pair) (name text : List ℕ) (proved : Decided Line) (fault : StoreFault) → IsProvedGoal b name text proved → RefusesProof b name text (fault_of_store fault)
store_refused b name text proved s.Keeper is_proved = (proved, is_proved)
store_refused b name text proved s.Memory is_proved = tt

module _ {A : Type 0} where
  pub text_refused : (r : Result A KeepFault) (b : Pair) (name text : List ℕ) (formula : Cnf) (fault : ProofFault) → HasLineClauses b name formula → Stands formula text fault
      → IsErrAnd r (λ e. e ≡ fault_of_proof fault) → IfErr r (RefusesGoal b name text)
  text_refused (Ok a) b name text formula fault has stands is = tt
  text_refused (Err e) b name text formula fault has stands is = refused_text b name text formula fault e has stands is

  pub keeper_refused : (r : Result A KeepFault) (b : Pair) (name text : List ℕ) (proved : Decided Line) (fault : StoreFault) → IsProvedGoal b name text proved
      → IsErrAnd r (λ e. e ≡ fault_of_store fault) → IfErr r (RefusesProof b name text)
  keeper_refused (Ok a) b name text proved fault is_proved is = tt
  keeper_refused (Err e) b name text proved fault is_proved is = subst (RefusesProof b name text) (sym is) (store_refused b name text proved fault is_proved)

not_both : (t : Bool) → t ≡ false → t ≡ true → ⊥
not_both t a b = let clash : false ≡ true = sym a ∙ b in absurd cc

-- it may not be kept
pub too_large : (d : Ended) (kept : Bool) → IsTrue kept ↔ MayKeep d → kept ≡ false → MayKeep d → ⊥
too_large d kept tells off may = not_both kept off (tells.1 may)

unput_in : (d : Ended) (before after : Tables) → (MayKeep d → ⊥) → Puts d before after → after ≡ before
unput_in d before after none puts = ⊎_elim
    (λ (p : (steps : Vec Step Global) × MayBeKept d steps × IsRecord (version_2 steps.items) steps.items × (after ≡ with_proof (key_of d.ob) (version_2 steps.items) before)). absurd (none (p.0, p.1)))
    (λ (p : ((steps : Vec Step Global) → MayBeKept d steps → ⊥) × (after ≡ before)). p.1) puts

-- then nothing is new
pub unput : (d : Ended) (before after : Option Tables) → (MayKeep d → ⊥) → Told (Puts d) before after → after ≡ before
unput d (Some before) (Some after) none puts = ap Some (unput_in d before after none puts)
unput d (Some before) None none puts = absurd puts
unput d None (Some after) none puts = absurd puts
unput d None None none puts = refl
