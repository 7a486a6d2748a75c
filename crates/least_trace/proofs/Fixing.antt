-- One more bit is decided.
use Rattle.std.proofs.Common.{◌≡◌, ℕ, ◌+◌, ◌<◌, ◌==◌, Bool, if◌then◌else◌, List, [], ◌∷◌, ◌++◌, length, map, take, get_or, refl, sym, ap, ◌∙◌, subst, arith, inl, inr, append_assoc, append-nil, length-take-le}
use Rattle.std.specs.List.{All}
use Rattle.std.proofs.lemmas.List.{take_more, map_push}
use Rattle.std.proofs.lemmas.List.Elements.{All-push, All-take, All-weaker, All-head}
use Rattle.clause_check.specs.declared.formula.Cnf.{Cnf}
use Rattle.clause_check.specs.Derivations.{IsRefutation, Satisfies, Holds}
use Rattle.clause_check.proofs.Sound.{refuted}
use Rattle.cnf_build.specs.Literals.{plus}
use Rattle.word_dag.specs.Nodes.{Parts}
use Rattle.cnf_build.specs.Lower.{ob_clauses, ob_bits}
use Rattle.cnf_build.specs.Meaning.{read_words}
use Rattle.cnf_build.specs.Built.{at}
use Rattle.least_trace.specs.declared.bits.Bit.{Bit}
use Rattle.least_trace.specs.declared.ends.Excluded.{Excluded}
use Rattle.least_trace.specs.Bits.{bit_in, Before}
use Rattle.least_trace.specs.Least.{Satisfy, as_in, is_zero, units_below, Excludes, IsBelow, ones_from, number_of, var_of}
use Rattle.least_trace.specs.Walks.{IsBit, IsCarried, IsFixed}
use Rattle.least_trace.proofs.Reading.{unit_of}
use Rattle.least_trace.proofs.Agreeing.{Agree, before_push, before_same, units_same, below_same, below_are, ones_same, ones_push}
use Rattle.least_trace.proofs.Carried.{held, all_hold, unit_holds, units_hold, are_witness, bits_agree, is_off_there, All-left, All-right}

-- b is bit i
module _ (ob : Parts) (bits : List Bit) (i : ℕ) (b d : Bit) (lt : i < length bits) (is : b ≡ get_or bits i d) where
  more : take (i + 1) bits ≡ take i bits ++ b ∷ []
  more = take_more bits i d lt ∙ ap (λ k. take i bits ++ k ∷ []) (sym is)

  units_are : (us : List ℕ) → units_below ob.nodes us bits i ≡ map (as_in ob.nodes us) (take i bits) ++ is_zero ob.nodes b ∷ []
  units_are us =
      below_are ob.nodes us bits i d lt ∙ ap (λ x. map (as_in ob.nodes us) (take i bits) ++ is_zero ob.nodes x ∷ []) (sym is)

  -- with the unit clause that the bit is 0 the formula is the one of the bit
  pub is_below : (us : List ℕ) (cnf next : Cnf) (excluded : List Excluded) → IsFixed ob bits i cnf us excluded → next.vars ≡ cnf.vars → next.clauses ≡ cnf.clauses ++ is_zero ob.nodes b ∷ [] → IsBelow ob bits us i next
  is_below us cnf next excluded f ev ec = record {
    vars = ev ∙ f.vars;
    clauses = ec ∙ ap (λ cs. cs ++ is_zero ob.nodes b ∷ []) f.clauses
        ∙ append_assoc (ob_clauses ob.nodes ob.root) (map (as_in ob.nodes us) (take i bits)) (is_zero ob.nodes b ∷ [])
        ∙ ap (λ r. ob_clauses ob.nodes ob.root ++ r) (sym (units_are us));
  }

  -- the unit clauses with one more, over values that are the same in the earlier bits
  clauses_more : (us vs : List ℕ) (u : ℕ) (cnf next : Cnf) (excluded : List Excluded) → IsFixed ob bits i cnf us excluded → Agree (take i bits) us vs → bit_in vs b ≡ u → next.clauses ≡ cnf.clauses ++ unit_of (var_of ob.nodes b) u ∷ [] → next.clauses ≡ ob_clauses ob.nodes ob.root ++ map (as_in ob.nodes vs) (take (i + 1) bits)
  clauses_more us vs u cnf next excluded f agree e ec =
      let unit = unit_of (var_of ob.nodes b) u in
      let base = ob_clauses ob.nodes ob.root in
      let last = ap (λ k. map (as_in ob.nodes vs) (take i bits) ++ unit_of (var_of ob.nodes b) k ∷ []) (sym e) in
      ec ∙ ap (λ cs. cs ++ unit ∷ []) f.clauses
      ∙ append_assoc base (map (as_in ob.nodes us) (take i bits)) (unit ∷ [])
      ∙ ap (λ m. base ++ (m ++ unit ∷ [])) (units_same ob.nodes us vs (take i bits) agree)
      ∙ ap (λ r. base ++ r) (last ∙ sym (ap (map (as_in ob.nodes vs)) more ∙ map_push (as_in ob.nodes vs) (take i bits) b))

  ones_more : (vs : List ℕ) (u : ℕ) → bit_in vs b ≡ u → ones_from 0 vs (take (i + 1) bits) ≡ ones_from 0 vs (take i bits) ++ (if u == 1 then (0 + length (take i bits)) ∷ [] else [])
  ones_more vs u e =
      ap (ones_from 0 vs) more ∙ ones_push 0 vs (take i bits) b ∙ ap (λ k. ones_from 0 vs (take i bits) ++ (if k == 1 then (0 + length (take i bits)) ∷ [] else [])) e

  each_same : (us vs : List ℕ) (excluded : List Excluded) → All (λ (e : Excluded). e.bit < i) excluded → All (Excludes ob bits us) excluded → Agree (take i bits) us vs → All (Excludes ob bits vs) excluded
  each_same us vs excluded before each agree = λ k z within.
      let x = each k z within in record {
        formula = x.formula;
        below = record {
          vars = x.below.vars;
          clauses = x.below.clauses ∙ ap (λ r. ob_clauses ob.nodes ob.root ++ r) (below_same ob.nodes us vs bits i (get_or excluded k z).bit (before k z within) agree);
        };
        refuted = x.refuted;
      }

  later : (excluded : List Excluded) → All (λ (e : Excluded). e.bit < i) excluded → All (λ (e : Excluded). e.bit < i + 1) excluded
  later excluded before = All-weaker (λ (e : Excluded). e.bit < i) (λ (e : Excluded). e.bit < i + 1) (λ e l. omega arith) excluded before

  -- a bit that is 0 in values that are the same in the earlier bits
  pub fixed_zero : (us vs : List ℕ) (cnf next : Cnf) (excluded : List Excluded) → IsFixed ob bits i cnf us excluded → Satisfy ob vs → Agree (take i bits) us vs → bit_in vs b ≡ 0 → next.vars ≡ cnf.vars → next.clauses ≡ cnf.clauses ++ is_zero ob.nodes b ∷ [] → IsFixed ob bits (i + 1) next vs excluded
  fixed_zero us vs cnf next excluded f witness agree zero ev ec = record {
    vars = ev ∙ f.vars;
    clauses = clauses_more us vs 0 cnf next excluded f agree zero ec;
    witness = witness;
    none_before = λ ws theirs h. elim (before_push (take i bits) b ws vs (subst (λ bs. Before bs ws vs) more h)) [
      | inl x ↦ f.none_before ws theirs (before_same (take i bits) ws us vs agree x)
      | inr x ↦ let no : bit_in vs b ≡ 1 = x.2 in absurd (omega (arith, no, zero))
    ];
    entries = f.entries ∙ ones_same 0 us vs (take i bits) agree ∙ sym (ones_more vs 0 zero ∙ append-nil (ones_from 0 vs (take i bits)));
    before = later excluded f.before;
    each = each_same us vs excluded f.before f.each agree;
  }

  -- a bit that is 0 in the values of an assignment that holds
  pub found_zero : IsCarried ob → All (IsBit ob.nodes) bits → (us vs : List ℕ) (cnf next : Cnf) (excluded : List Excluded) (a : List Bool) → IsFixed ob bits i cnf us excluded → next.vars ≡ cnf.vars → next.clauses ≡ cnf.clauses ++ is_zero ob.nodes b ∷ [] → Holds next a → vs ≡ read_words (at a) (ob_bits ob.nodes) → IsFixed ob bits (i + 1) next vs excluded
  found_zero carried known us vs cnf next excluded a f ev ec holds ew =
      let below = is_below us cnf next excluded f ev ec in
      let units = units_below ob.nodes us bits i in
      let earlier = map (as_in ob.nodes us) (take i bits) in
      let last = is_zero ob.nodes b ∷ [] in
      let one : IsBit ob.nodes b = subst (IsBit ob.nodes) (sym is) (known i d lt) in
      let satisfied : All (Satisfies a) (earlier ++ last) = subst (λ cs. All (Satisfies a) cs) (units_are us) (units_hold ob carried next units below.vars below.clauses a holds) in
      let agree = bits_agree ob a us (take i bits) (All-take (IsBit ob.nodes) i bits known) (All-left (Satisfies a) earlier last satisfied) in
      let zero = is_off_there ob a b one (All-head (Satisfies a) (is_zero ob.nodes b) [] (All-right (Satisfies a) earlier last satisfied)) in
      fixed_zero us vs cnf next excluded f
      (subst (Satisfy ob) (sym ew) (are_witness ob carried next units below.vars below.clauses a holds))
      (subst (λ ws. Agree (take i bits) us ws) (sym ew) agree)
      (ap (λ ws. bit_in ws b) ew ∙ zero) ev ec

  -- no values come before by a bit that is refuted to be 0
  module _ (carried : IsCarried ob) (known : All (IsBit ob.nodes) bits) (us : List ℕ) (cnf : Cnf) (below : IsBelow ob bits us i cnf) (e : Excluded) (refutes : IsRefutation cnf e.steps.items) where
    none_here : (ws : List ℕ) → Satisfy ob ws → Agree (take i bits) ws us → bit_in ws b ≡ 0 → ⊥
    none_here ws witness agree zero =
        let one : IsBit ob.nodes b = subst (IsBit ob.nodes) (sym is) (known i d lt) in
        let earlier = All-take (IsBit ob.nodes) i bits known in
        let found = held ob carried cnf (units_below ob.nodes us bits i) below.vars below.clauses ws witness
        (λ a whole reads. subst (λ cs. All (Satisfies a) cs) (sym (units_are us))
        (All-push (Satisfies a) (map (as_in ob.nodes us) (take i bits)) (is_zero ob.nodes b)
        (all_hold ob a carried ws whole reads us (take i bits) earlier agree) (unit_holds ob a carried ws whole reads b 0 (omega arith) one zero)))
        in
        refuted cnf e.steps.items refutes found.0 found.1

    -- such a bit is 1
    pub fixed_one : (base next : Cnf) (excluded after : List Excluded) → IsFixed ob bits i base us excluded → bit_in us b ≡ 1 → e.bit ≡ i → next.vars ≡ base.vars → next.clauses ≡ base.clauses ++ (plus (var_of ob.nodes b) ∷ []) ∷ [] → after ≡ excluded ++ e ∷ [] → IsFixed ob bits (i + 1) next us after
    fixed_one base next excluded after f one number ev ec ea =
        let itself : Agree (take i bits) us us = λ k z within. refl in
        let place : 0 + length (take i bits) ≡ e.bit = omega (arith, length-take-le i bits (omega arith), number) in
        record {
          vars = ev ∙ f.vars;
          clauses = clauses_more us us 1 base next excluded f itself one ec;
          witness = f.witness;
          none_before = λ ws theirs h. elim (before_push (take i bits) b ws us (subst (λ bs. Before bs ws us) more h)) [
            | inl x ↦ f.none_before ws theirs x
            | inr x ↦ none_here ws theirs x.0 x.1
          ];
          entries = ap (map number_of) ea ∙ map_push number_of excluded e ∙ ap (λ ns. ns ++ e.bit ∷ []) f.entries
              ∙ sym (ones_more us 1 one ∙ ap (λ k. ones_from 0 us (take i bits) ++ k ∷ []) place);
          before = subst (λ es. All (λ (x : Excluded). x.bit < i + 1) es) (sym ea) (All-push (λ (x : Excluded). x.bit < i + 1) excluded e (later excluded f.before) (omega (arith, number)));
          each = subst (λ es. All (Excludes ob bits us) es) (sym ea)
              (All-push (Excludes ob bits us) excluded e f.each (record { formula = cnf; below = subst (λ k. IsBelow ob bits us k cnf) (sym number) below; refuted = refutes }));
        }
