use Rattle.std.proofs.Common.{◌≡◌, ℕ, ◌+◌, ◌-◌, ◌^◌, ◌≤◌, List, [], ◌∷◌, ◌++◌, length, take, get_or, slice_index, slice_index_or, IsSomeAnd, refl, sym, ap, ◌∙◌, subst, arith, Bool, true, false, true≢false, IsTrue, ◌↔◌, inl, inr, length-append}
use Rattle.std.specs.List.{All}
use Rattle.std.proofs.lemmas.Nat.Bits.{bit_at-lt}
use Rattle.std.proofs.lemmas.Option.{slice_get-get_or}
use Rattle.cnf_build.specs.Literals.{plus, minus}
use Rattle.std.proofs.Math.Seq.{take-append_seam}
use Rattle.clause_check.specs.declared.literal.Lit.{Lit}
use Rattle.cdcl.specs.declared.solver.End.{End}
use Rattle.cnf_build.specs.Lower.{ob_bits}
use Rattle.cnf_build.specs.Built.{IsBits, at}
use Rattle.cnf_build.specs.Meaning.{read_words}
use Rattle.word_dag.specs.Nodes.{Parts}
use Rattle.cdcl.specs.Ends.{IsEnd, IsDecided}
use Rattle.least_trace.specs.declared.bits.Bit.{Bit}
use Rattle.least_trace.specs.Bits.{bit_in}
use Rattle.least_trace.specs.Least.{var_of, is_zero}
use Rattle.least_trace.proofs.Reading.{bits_many, two_cases}
use Rattle.least_trace.proofs.Fixing.{is_below, fixed_zero, found_zero, fixed_one}
use Rattle.least_trace.proofs.walk.Walk.decide.Goals as goal

abbrev z : Bit
z = record { place = 0; height = 0 }

pub invariant_of-self : goal.invariant_of-self
invariant_of-self c = record { in_range = subst (λ v. All (IsBits v) c.args.self.now.built.bits.items) (sym c.add_unit.ensures.vars) c.args.self.now.built.in_range }

pub is_one-requires-clause-place : goal.is_one-requires-clause-place
is_one-requires-clause-place c =
    let w = c.requires.walk.1 in
    let nodes = c.requires.walk.0.nodes in
    let is = w.known c.args.number z c.requires.number in
    omega (arith, is.place, bits_many nodes, w.fixed.witness.many, ap length c.deref-2.ensures.value)

-- the literal of the bit
lit_is : (ob : Parts) (b : Bit) (vs : List (List ℕ)) (v : ℕ) (l : Lit) → vs ≡ ob_bits ob.nodes → v ≡ slice_index (slice_index_or vs b.place []) b.height → l ≡ minus v → l ≡ minus (var_of ob.nodes b)
lit_is ob b vs v l es ev el = el ∙ ap minus (ev ∙ ap (λ fs. slice_index (slice_index_or fs b.place []) b.height) es)

-- what the test of the bit tells
is_off : (us vs : List ℕ) (b : Bit) (r : Bool) → vs ≡ us → IsTrue r ↔ (bit_in vs b ≡ 1) → r ≡ false → bit_in us b ≡ 0
is_off us vs b r es h off = elim (two_cases (bit_in us b) (bit_at-lt (slice_index us b.place) b.height)) [
  | inl e ↦ e
  | inr e ↦ absurd (true≢false (sym (h.1 (ap (λ ws. bit_in ws b) es ∙ e)) ∙ off))
]

is_on : (us vs : List ℕ) (b : Bit) (r : Bool) → vs ≡ us → IsTrue r ↔ (bit_in vs b ≡ 1) → r ≡ true → bit_in us b ≡ 1
is_on us vs b r es h on = ap (λ ws. bit_in ws b) (sym es) ∙ h.0 on

-- the last clause is taken off
without_last : (xs ys zs : List (List Lit)) (x y : List Lit) → ys ≡ xs ++ x ∷ [] → zs ≡ take (length ys - 1) ys ++ y ∷ [] → zs ≡ xs ++ y ∷ []
without_last xs ys zs x y ey ez =
    let long : length ys ≡ length xs + 1 = ap length ey ∙ length-append xs (x ∷ []) in
    let shorter : length ys - 1 ≡ length xs = omega arith in
    ez ∙ ap (λ k. k ++ y ∷ []) (ap (λ n. take n ys) shorter ∙ ap (take (length xs)) ey ∙ take-append_seam xs (x ∷ []))

pub returns-then-not-is_one-clause-next : goal.returns-then-not-is_one-clause-next
returns-then-not-is_one-clause-next c = λ ob w.
    let bits = c.args.bits.now in
    let i = c.args.number in
    let b = get_or bits i z in
    let us = c.args.self.now.values.items in
    let lit = lit_is ob b c.deref.result.now c.var-var.result c.negative.result (c.deref.ensures.value ∙ w.vars_are) c.var-var.ensures c.negative.ensures in
    let ec = c.in_ok-add_unit.ensures.clauses ∙ ap (λ (l : Lit). c.args.self.now.built.cnf.clauses ++ (l ∷ []) ∷ []) lit in
    let zero = is_off us c.deref-2.result.now b c.is_one.result c.deref-2.ensures.value c.is_one.ensures c.if-not-is_one.true in
    record {
      carried = w.carried;
      known = w.known;
      vars_are = w.vars_are;
      fixed = fixed_zero ob bits i b z c.requires.number refl us us _ _ _ w.fixed w.fixed.witness (λ k d within. refl) zero c.in_ok-add_unit.ensures.vars ec;
    }

pub returns-in_ok-self-in-Sat-clause-next : goal.returns-in_ok-self-in-Sat-clause-next
returns-in_ok-self-in-Sat-clause-next c = λ ob w.
    let bits = c.args.bits.now in
    let i = c.args.number in
    let b = get_or bits i z in
    let lit = lit_is ob b c.deref.result.now c.var-var.result c.negative.result (c.deref.ensures.value ∙ w.vars_are) c.var-var.ensures c.negative.ensures in
    let ec = c.in_ok-add_unit.ensures.clauses ∙ ap (λ (l : Lit). c.args.self.now.built.cnf.clauses ++ (l ∷ []) ∷ []) lit in
    let holds = subst (λ (e : End). IsEnd c.add_unit.new.cnf c.args.budget e) c.in-Sat.is c.in_ok-assignment.ensures.end in
    let ew = c.in_ok-self-in-Sat.ensures ∙ ap (λ a. read_words (at a) c.args.self.now.built.bits.items) c.deref-in-Sat.ensures.value ∙ ap (read_words (at c.in-Sat.assignment.items)) w.vars_are in
    record {
      carried = w.carried;
      known = w.known;
      vars_are = w.vars_are;
      fixed = found_zero ob bits i b z c.requires.number refl w.carried w.known c.args.self.now.values.items _ _ _ _ c.in-Sat.assignment.items w.fixed c.in_ok-add_unit.ensures.vars ec holds ew;
    }

pub invariant_of-self-in-Unsat : goal.invariant_of-self-in-Unsat
invariant_of-self-in-Unsat c = record { in_range = subst (λ v. All (IsBits v) c.args.self.now.built.bits.items) (sym (c.turn_last.ensures.vars ∙ c.add_unit.ensures.vars)) c.args.self.now.built.in_range }

pub returns-in_ok-push-in-Unsat-clause-next : goal.returns-in_ok-push-in-Unsat-clause-next
returns-in_ok-push-in-Unsat-clause-next c = λ ob w.
    let bits = c.args.bits.now in
    let i = c.args.number in
    let b = get_or bits i z in
    let us = c.args.self.now.values.items in
    let base = c.args.self.now.built.cnf in
    let lit = lit_is ob b c.deref.result.now c.var-var.result c.negative.result (c.deref.ensures.value ∙ w.vars_are) c.var-var.ensures c.negative.ensures in
    let var : c.var-var.result ≡ var_of ob.nodes b = c.var-var.ensures ∙ ap (λ fs. slice_index (slice_index_or fs b.place []) b.height) (c.deref.ensures.value ∙ w.vars_are) in
    let ec = c.in_ok-add_unit.ensures.clauses ∙ ap (λ (l : Lit). base.clauses ++ (l ∷ []) ∷ []) lit in
    let next = without_last base.clauses c.add_unit.new.cnf.clauses c.turn_last.new.cnf.clauses (is_zero ob.nodes b) (plus c.var-var.result ∷ []) ec c.in_ok-turn_last-in-Unsat.ensures.clauses
    ∙ ap (λ v. base.clauses ++ (plus v ∷ []) ∷ []) var in
    let refutes = subst (λ (e : End). IsEnd c.add_unit.new.cnf c.args.budget e) c.in-Unsat.is c.in_ok-assignment.ensures.end in
    let one = is_on us c.deref-2.result.now b c.is_one.result c.deref-2.ensures.value c.is_one.ensures c.if-not-is_one.false in
    let below = is_below ob bits i b z c.requires.number refl us base c.add_unit.new.cnf _ w.fixed c.in_ok-add_unit.ensures.vars ec in
    record {
      carried = w.carried;
      known = w.known;
      vars_are = w.vars_are;
      fixed = fixed_one ob bits i b z c.requires.number refl w.carried w.known us c.add_unit.new.cnf below
          (record { bit = i; steps = c.in-Unsat.steps }) refutes base c.turn_last.new.cnf c.args.self.now.excluded.items c.push.new.self.items
          w.fixed one refl (c.in_ok-turn_last-in-Unsat.ensures.vars ∙ c.in_ok-add_unit.ensures.vars) next c.in_ok-push-in-Unsat.ensures.items;
    }

pub returns-in-Spent-clause-next : goal.returns-in-Spent-clause-next
returns-in-Spent-clause-next c = λ ob w.
    let bits = c.args.bits.now in
    let i = c.args.number in
    let b = get_or bits i z in
    let us = c.args.self.now.values.items in
    let lit = lit_is ob b c.deref.result.now c.var-var.result c.negative.result (c.deref.ensures.value ∙ w.vars_are) c.var-var.ensures c.negative.ensures in
    let ec = c.in_ok-add_unit.ensures.clauses ∙ ap (λ (l : Lit). c.args.self.now.built.cnf.clauses ++ (l ∷ []) ∷ []) lit in
    let spent = subst (λ (e : End). IsEnd c.add_unit.new.cnf c.args.budget e) c.in-Spent.is c.in_ok-assignment.ensures.end in
    let one = is_on us c.deref-2.result.now b c.is_one.result c.deref-2.ensures.value c.is_one.ensures c.if-not-is_one.false in
    let below = is_below ob bits i b z c.requires.number refl us c.args.self.now.built.cnf c.add_unit.new.cnf _ w.fixed c.in_ok-add_unit.ensures.vars ec in
    record {
      witness = w.fixed.witness;
      one = subst (λ o. IsSomeAnd o (λ (x : Bit). bit_in us x ≡ 1)) (sym (slice_get-get_or bits i z c.requires.number)) one;
      none_before = w.fixed.none_before;
      spent = record { formula = c.add_unit.new.cnf; below = below; count = spent.0; honest = spent.1 };
    }

pub returns-in-Spent-clause-ample : goal.returns-in-Spent-clause-ample
returns-in-Spent-clause-ample c = λ ample.
    let enough = subst (λ v. 3 ^ v ≤ c.args.budget) (sym c.add_unit.ensures.vars) ample in
    let decided = subst (λ (e : End). IsDecided e) c.in-Spent.is (c.in_ok-assignment.ensures.decided enough) in
    absurd decided
