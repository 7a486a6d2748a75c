-- Assignments and values, where unit clauses of bits follow the clauses of an obligation.
use Rattle.std.proofs.Common.{◌≡◌, ℕ, ◌<◌, Bool, List, [], ◌∷◌, ◌++◌, length, map, slice_index, sym, ap, ◌∙◌, subst, arith}
use Rattle.std.specs.List.{All}
use Rattle.std.proofs.lemmas.Nat.Bits.{bit_at-lt}
use Rattle.std.proofs.lemmas.List.Elements.{All-head, All-tail, All-append, All-nil, All-cons}
use Rattle.clause_check.specs.declared.literal.Lit.{Lit}
use Rattle.clause_check.specs.declared.formula.Cnf.{Cnf}
use Rattle.clause_check.specs.Derivations.{Holds, Satisfies}
use Rattle.word_dag.specs.Nodes.{Parts}
use Rattle.cnf_build.specs.Lower.{netlist, ob_clauses, ob_bits}
use Rattle.cnf_build.specs.Meaning.{read_words}
use Rattle.cnf_build.specs.Built.{at}
use Rattle.least_trace.specs.declared.bits.Bit.{Bit}
use Rattle.least_trace.specs.Bits.{bit_in}
use Rattle.least_trace.specs.Least.{Satisfy, as_in, is_zero, var_of}
use Rattle.least_trace.specs.Walks.{IsBit, IsCarried}
use Rattle.least_trace.proofs.Reading.{values_read, reads_many, unit_of, signed, satisfied}
use Rattle.least_trace.proofs.Agreeing.{Agree}

-- the first clauses of a formula, and the ones after them
pub All-left : {X : Type 0} (P : X → Type 0) (xs ys : List X) → All P (xs ++ ys) → All P xs
All-left P [] ys h = All-nil P
All-left P (x ∷ xs) ys h = All-cons P x xs (All-head P x (xs ++ ys) h) (All-left P xs ys (All-tail P x (xs ++ ys) h))

pub All-right : {X : Type 0} (P : X → Type 0) (xs ys : List X) → All P (xs ++ ys) → All P ys
All-right P [] ys h = h
All-right P (x ∷ xs) ys h = All-right P xs ys (All-tail P x (xs ++ ys) h)

-- the variable of a bit is one of the formula
var_below : (ob : Parts) (b : Bit) → IsCarried ob → IsBit ob.nodes b → var_of ob.nodes b < length (netlist ob.nodes)
var_below ob b carried is =
    let word = carried.in_range b.place [] is.place in
    word.2 b.height 0 is.height

module _ (ob : Parts) (carried : IsCarried ob) (cnf : Cnf) (units : List (List Lit)) (vars : cnf.vars ≡ length (netlist ob.nodes)) (clauses : cnf.clauses ≡ ob_clauses ob.nodes ob.root ++ units) where
  -- what holds for the clauses and the units has values at which the root is 1, and the units are satisfied
  module _ (a : List Bool) (holds : Holds cnf a) where
    each_of : All (Satisfies a) (ob_clauses ob.nodes ob.root ++ units)
    each_of = subst (λ cs. All (Satisfies a) cs) clauses holds.each

    base : Holds carried.formula a
    base = record {
      whole = holds.whole ∙ vars ∙ sym carried.vars;
      each = subst (λ cs. All (Satisfies a) cs) (sym carried.clauses) (All-left (Satisfies a) (ob_clauses ob.nodes ob.root) units each_of);
    }

    pub are_witness : Satisfy ob (read_words (at a) (ob_bits ob.nodes))
    are_witness = record {
      many = reads_many (at a) 1 [] ob.nodes;
      fit = carried.carries.values_fit a;
      root = carried.carries.to_values a base;
    }

    pub units_hold : All (Satisfies a) units
    units_hold = All-right (Satisfies a) (ob_clauses ob.nodes ob.root) units each_of

  -- values at which the root is 1 give an assignment, and where that satisfies the units it holds
  pub held : (vs : List ℕ) → Satisfy ob vs → ((a : List Bool) → length a ≡ length (netlist ob.nodes) → read_words (at a) (ob_bits ob.nodes) ≡ vs → All (Satisfies a) units) → (a : List Bool) × Holds cnf a
  held vs witness more =
      let found = carried.carries.from_values vs witness.root in
      let a = found.0 in
      let shows = found.1 in
      let whole : length a ≡ length (netlist ob.nodes) = shows.holds.whole ∙ carried.vars in
      let ours = more a whole (shows.reads witness.fit witness.many) in
      let theirs = subst (λ cs. All (Satisfies a) cs) carried.clauses shows.holds.each in (
        a,
        record {
          whole = whole ∙ sym vars;
          each = subst (λ cs. All (Satisfies a) cs) (sym clauses) (All-append (Satisfies a) (ob_clauses ob.nodes ob.root) units theirs ours);
        },
      )

-- the units of bits, over what an assignment has in them
module _ (ob : Parts) (a : List Bool) where
  pub bits_agree : (us : List ℕ) (bits : List Bit) → All (IsBit ob.nodes) bits → All (Satisfies a) (map (as_in ob.nodes us) bits) → Agree bits us (read_words (at a) (ob_bits ob.nodes))
  bits_agree us [] known h = All-nil (λ b. bit_in us b ≡ bit_in (read_words (at a) (ob_bits ob.nodes)) b)
  bits_agree us (b ∷ bits) known h =
      let here = signed a (var_of ob.nodes b) (bit_in us b) (bit_at-lt (slice_index us b.place) b.height) (All-head (Satisfies a) (as_in ob.nodes us b) (map (as_in ob.nodes us) bits) h) in
      let read = values_read ob.nodes (at a) b (All-head (IsBit ob.nodes) b bits known) in
      All-cons (λ (c : Bit). bit_in us c ≡ bit_in (read_words (at a) (ob_bits ob.nodes)) c) b bits (sym (read ∙ here))
      (bits_agree us bits (All-tail (IsBit ob.nodes) b bits known) (All-tail (Satisfies a) (as_in ob.nodes us b) (map (as_in ob.nodes us) bits) h))

  pub is_off_there : (b : Bit) → IsBit ob.nodes b → Satisfies a (is_zero ob.nodes b) → bit_in (read_words (at a) (ob_bits ob.nodes)) b ≡ 0
  is_off_there b is h = values_read ob.nodes (at a) b is ∙ signed a (var_of ob.nodes b) 0 (omega arith) h

  -- a unit is satisfied where the values that the assignment has are the same in its bit
  module _ (carried : IsCarried ob) (vs : List ℕ) (whole : length a ≡ length (netlist ob.nodes)) (reads : read_words (at a) (ob_bits ob.nodes) ≡ vs) where
    pub unit_holds : (b : Bit) (u : ℕ) → u < 2 → IsBit ob.nodes b → bit_in vs b ≡ u → Satisfies a (unit_of (var_of ob.nodes b) u)
    unit_holds b u lt is e =
        let below = var_below ob b carried is in
        satisfied a (var_of ob.nodes b) u lt (omega (arith, below, whole)) (sym (values_read ob.nodes (at a) b is) ∙ ap (λ ws. bit_in ws b) reads ∙ e)

    pub all_hold : (us : List ℕ) (bits : List Bit) → All (IsBit ob.nodes) bits → Agree bits vs us → All (Satisfies a) (map (as_in ob.nodes us) bits)
    all_hold us [] known agree = All-nil (Satisfies a)
    all_hold us (b ∷ bits) known agree =
        All-cons (Satisfies a) (as_in ob.nodes us b) (map (as_in ob.nodes us) bits)
        (unit_holds b (bit_in us b) (bit_at-lt (slice_index us b.place) b.height) (All-head (IsBit ob.nodes) b bits known) (All-head (λ (c : Bit). bit_in vs c ≡ bit_in us c) b bits agree))
        (all_hold us bits (All-tail (IsBit ob.nodes) b bits known) (All-tail (λ (c : Bit). bit_in vs c ≡ bit_in us c) b bits agree))
