-- Nothing violates the lines on the counter, so it is signed off.
use Rattle.std.proofs.Common.{◌≡◌, ℕ, ◌+◌, ◌%◌, Bool, true, false, cond, not, ◌&&◌, nat_eq, List, [], ◌∷◌, ◌++◌, refl, ◌∙◌, arith}
use Rattle.std.proofs.lemmas.Bool.{eq-eqb}
use Rattle.std.proofs.lemmas.List.Elements.{All-from_recursion}
use Rattle.vlog_tree.specs.Value.{bit}
use Rattle.set_tree.specs.declared.line.Line.{Line}
use Rattle.set_tree.specs.Formulas.{meaning_of}
use Rattle.set_tree.specs.Parts.{assumed, committed}
use Rattle.set_tree.specs.Report.{IsSignedOff, IsViolated, design_lines, set_lines}
use Rattle.set_tree.specs.Runs.{IsSegment, IsResetSegment, trace_of}
use Rattle.set_tree_completeness.specs.declared.counter.CounterCycle.{CounterCycle}
use Rattle.set_tree_completeness.specs.NextQ.{next_q}
use Rattle.set_tree_completeness.specs.Counter.{counter_design, counter_set}
use Rattle.set_tree_completeness.proofs.CounterSet.{counter_valid}

-- an equation that holds isn't refuted
not_refuted : (a b : ℕ) → a ≡ b → (not (nat_eq (bit (nat_eq a b)) 0) && true) ≡ false → ⊥
not_refuted a b same h = let is = eq-eqb a b same in let h' = rw is at h in cc

en_holds : (en : Bool) → (not (nat_eq (cond en 1 0) 0) && true) ≡ true → en ≡ true
en_holds true h = refl
en_holds false h = absurd cc

en_fails : (en : Bool) → (not (nat_eq (bit (nat_eq (cond en 1 0) 0)) 0) && true) ≡ true → en ≡ false
en_fails true h = absurd cc
en_fails false h = refl

stepped : (rst en : Bool) (q : ℕ) → rst ≡ false → en ≡ true → next_q rst en q ≡ (q + 1) % 4
stepped rst en q off on = rw (off, on) refl

held : (rst en : Bool) (q : ℕ) → rst ≡ false → en ≡ false → next_q rst en q ≡ q
held rst en q off down = rw (off, down) refl

reset_holds : (resets cycles : List CounterCycle) → IsResetSegment counter_design (meaning_of counter_set) counter_set 0 resets cycles → committed (meaning_of counter_set) counter_set 0 (trace_of counter_design cycles) ≡ false → ⊥
reset_holds [] cycles seg broken = let none = seg.from_reset.count in omega arith
reset_holds (r ∷ s ∷ rs) cycles seg broken = let one = seg.from_reset.count in omega arith
reset_holds (r ∷ []) [] seg broken = let size = seg.window.size in omega arith
reset_holds (r ∷ []) (c ∷ cs) seg broken =
    let active : r.rst ≡ true = seg.from_reset.active 0 r (omega arith) in
    let goes : c.q ≡ next_q r.rst r.en r.q = seg.from_reset.run.0 in
    let is : next_q r.rst r.en r.q ≡ 0 = rw active refl in
    not_refuted c.q 0 (goes ∙ is) broken

step_holds : (cycles : List CounterCycle) → IsSegment counter_design (meaning_of counter_set) counter_set 1 cycles → assumed (meaning_of counter_set) counter_set 1 (trace_of counter_design cycles) ≡ true → committed (meaning_of counter_set) counter_set 1 (trace_of counter_design cycles) ≡ false → ⊥
step_holds [] seg assumes broken = let size = seg.window.size in omega arith
step_holds (c ∷ []) seg assumes broken = let size = seg.window.size in omega arith
step_holds (c ∷ e ∷ cs) seg assumes broken =
    let inactive : c.rst ≡ false = seg.inactive 0 c (omega arith) in
    let goes : e.q ≡ next_q c.rst c.en c.q = seg.run.0 in
    not_refuted e.q ((c.q + 1) % 4) (goes ∙ stepped c.rst c.en c.q inactive (en_holds c.en assumes)) broken

hold_holds : (cycles : List CounterCycle) → IsSegment counter_design (meaning_of counter_set) counter_set 1 cycles → assumed (meaning_of counter_set) counter_set 2 (trace_of counter_design cycles) ≡ true → committed (meaning_of counter_set) counter_set 2 (trace_of counter_design cycles) ≡ false → ⊥
hold_holds [] seg assumes broken = let size = seg.window.size in omega arith
hold_holds (c ∷ []) seg assumes broken = let size = seg.window.size in omega arith
hold_holds (c ∷ e ∷ cs) seg assumes broken =
    let inactive : c.rst ≡ false = seg.inactive 0 c (omega arith) in
    let goes : e.q ≡ next_q c.rst c.en c.q = seg.run.0 in
    not_refuted e.q c.q (goes ∙ held c.rst c.en c.q inactive (en_fails c.en assumes)) broken

pub counter_signed_off : IsSignedOff counter_design (meaning_of counter_set) counter_set
counter_signed_off = All-from_recursion (λ (line : Line). ¬ IsViolated counter_design (meaning_of counter_set) counter_set line) (design_lines counter_set ++ set_lines counter_set) ((
  (λ v. reset_holds v.0 v.1 v.2.segment v.2.broken),
  (
    (λ v. step_holds v.0 v.1.segment v.1.assumes v.1.broken),
    (
      (λ v. hold_holds v.0 v.1.segment v.1.assumes v.1.broken),
      (
        (λ v. counter_valid.split 0 v.0 v.1 (omega arith) v.2),
        (
          (λ v. counter_valid.split 1 v.0 v.1 (omega arith) v.2),
          (
            (λ v. counter_valid.split 2 v.0 v.1 (omega arith) v.2),
            (
              (λ v. counter_valid.choose 0 1 v.0 v.1 v.2 (omega arith) (0, omega arith, refl) v.3),
              (
                (λ v. counter_valid.choose 0 2 v.0 v.1 v.2 (omega arith) (1, omega arith, refl) v.3),
                (
                  (λ v. counter_valid.choose 1 1 v.0 v.1 v.2 (omega arith) (0, omega arith, refl) v.3),
                  (
                    (λ v. counter_valid.choose 1 2 v.0 v.1 v.2 (omega arith) (1, omega arith, refl) v.3),
                    (
                      (λ v. counter_valid.choose 2 1 v.0 v.1 v.2 (omega arith) (0, omega arith, refl) v.3),
                      (
                        (λ v. counter_valid.choose 2 2 v.0 v.1 v.2 (omega arith) (1, omega arith, refl) v.3),
                        (
                          (λ v. counter_valid.hand 0 1 v.0 v.1 v.2 (omega arith) (0, omega arith, refl) v.3),
                          (
                            (λ v. counter_valid.hand 0 2 v.0 v.1 v.2 (omega arith) (1, omega arith, refl) v.3),
                            (
                              (λ v. counter_valid.hand 1 1 v.0 v.1 v.2 (omega arith) (0, omega arith, refl) v.3),
                              (
                                (λ v. counter_valid.hand 1 2 v.0 v.1 v.2 (omega arith) (1, omega arith, refl) v.3),
                                (
                                  (λ v. counter_valid.hand 2 1 v.0 v.1 v.2 (omega arith) (0, omega arith, refl) v.3),
                                  (
                                    (λ v. counter_valid.hand 2 2 v.0 v.1 v.2 (omega arith) (1, omega arith, refl) v.3),
                                    (
                                      (λ v. counter_valid.determine 0 v.0 v.1 v.2 v.3 v.4 (omega arith) v.5),
                                      (
                                        (λ v. counter_valid.determine 1 v.0 v.1 v.2 v.3 v.4 (omega arith) v.5),
                                        (
                                          (λ v. counter_valid.determine 2 v.0 v.1 v.2 v.3 v.4 (omega arith) v.5),
                                          tt,
                                        ),
                                      ),
                                    ),
                                  ),
                                ),
                              ),
                            ),
                          ),
                        ),
                      ),
                    ),
                  ),
                ),
              ),
            ),
          ),
        ),
      ),
    ),
  ),
))
