-- Two runs of a block side by side.
use Rattle.std.proofs.Common.{arith, ◌≡◌, ℕ, ◌+◌, ◌*◌, ◌/◌, ◌%◌, ◌<◌, ◌≤◌, ◌^◌, max, Bool, true, false, List, [], ◌∷◌, ◌++◌, Option, Some, None, sym, ap, ◌∙◌, refl, ◌⊎◌, inl, inr, ⊎_elim, subst, ◌&&◌}
use Rattle.std.specs.Prelude.{nat_eq, if◌then◌else◌, unwrap_or}
use Rattle.std.specs.Int.{bit_at}
use Rattle.std.specs.Option.{option_map}
use Rattle.std.specs.List.{flat_map}
use Rattle.std.proofs.lemmas.Nat.{pow_pos, shr-shr}
use Rattle.std.proofs.lemmas.Nat.Bits.{bit_at_above, bit_at-zero, same_from_bits, same_from_bits_below}
use Rattle.std.proofs.Math.Nat.{div-add-mod, mod-lt}
use Rattle.vlog_tree.specs.declared.expr.Expr.{Expr}
use Rattle.vlog_tree.specs.declared.stmt.CaseKind.{CaseKind}
use Rattle.vlog_tree.specs.declared.stmt.Labels.{Labels}
use Rattle.vlog_tree.specs.declared.stmt.Lval.{Lval}
use Rattle.vlog_tree.specs.declared.stmt.Stmt.{Stmt, Row_of-Stmt, end_of-Stmt, more_of-Stmt, Row_of-CaseItem, end_of-CaseItem, more_of-CaseItem}
use Rattle.vlog_tree.specs.declared.stmt.Stmt.TheVariants as s
use Rattle.vlog_tree.specs.Value.{own, assigned, HasConstantParts}
use Rattle.vlog_tree_runs.specs.declared.flat.Signal.{Signal}
use Rattle.vlog_tree_runs.specs.Places.{Name, Cycle, Among, pieces, total, store}
use Rattle.vlog_tree_runs.specs.Blocks.{signal_at, labels_in, case_width, case_sign, any_matches, is_default, is_false, run, run_row, run_items, run_default, lefts, left_names, case_lefts}
use Rattle.elab_flat_faults.specs.Texts.{names_in, numbers_in, Compared, compared_in, row_compared_in, case_compared_in}
use Rattle.elab_flat_faults.specs.Paths.{HasDefault, IsFull, width_in}
use Rattle.elab_flat_laws.proofs.Lists.{append_left, append_right}
use Rattle.elab_flat_laws.proofs.Lows.{at_among}
use Rattle.elab_step_laws.specs.Flows.{Flow, at_start, Uses, after_reads, after_assignment, within, flow, row_flow, items_flow}
use Rattle.elab_step_laws.specs.Laws.{place_over, AreVectors, AreFit, FlowFollows}
use Rattle.elab_step_laws.proofs.Giving.{Writes, any_covers_or, give_apart, give_given}
use Rattle.elab_step_laws.proofs.Reading.{nothing, values, ReadAlike, first_of_two, second_of_two, same_entry, no_entry, no_depth, same_operand, width_is}
use Rattle.elab_step_laws.proofs.Covering.{covered, sets_covers}
use Rattle.elab_step_laws.proofs.Deciding.{name_or}
use Rattle.elab_step_laws.proofs.Staying.{run_keeps, same_store, same_given, store_keeps}
use Rattle.elab_step_laws.proofs.Growing.{Names, names_or, sets_name, through_grows, unset_stays, reaches, items_reach}
use Rattle.elab_step_laws.proofs.Cases.{Fits, same_widest, same_signs, Agree, Unmatched, agree_at, unmatched_label, full_matches}

-- ---- names in lists, numbers from bits

among_or : (xs : List Name) (x : Name) → Among xs x ⊎ (Among xs x → ⊥)
among_or [] x = inr (λ m. m)
among_or (y ∷ ys) x =
    ⊎_elim (λ e. inl (inl e)) (λ (n : y ≡ x → ⊥). ⊎_elim (λ m. inl (inr m)) (λ (k : Among ys x → ⊥). inr (λ m. ⊎_elim n k m)) (among_or ys x)) (name_or y x)

-- a number without bits from n on is below 2 ^ n
below_from_bits : (n m : ℕ) → ((b : ℕ) → n ≤ b → bit_at m b ≡ 0) → m < 2 ^ n
below_from_bits n m h =
    let z : m / 2 ^ n ≡ 0 = same_from_bits (m / 2 ^ n) 0 (λ j. ap (λ k. k % 2) (shr-shr m n j) ∙ (h (n + j) (omega arith) ∙ sym (bit_at-zero j))) in
    let p : m ≡ m / 2 ^ n * 2 ^ n + m % 2 ^ n = omega (arith, div-add-mod m (2 ^ n)) in
    let q : m / 2 ^ n * 2 ^ n ≡ 0 * 2 ^ n = ap (λ k. k * 2 ^ n) z in
    omega (arith, p, q, mod-lt m (pow_pos n))

-- ---- two tests that answer the same

abbrev Same : ℕ → ℕ → ℕ → Type 0
Same b m n = bit_at m b ≡ bit_at n b

decided : (b : ℕ) (t u : Bool) (m n k j : ℕ) → t ≡ u → (t ≡ true → Same b m k) → (t ≡ false → Same b n j) → Same b (if t then m else n) (if u then k else j)
decided b true true m n k j e h g = h refl
decided b false false m n k j e h g = g refl
decided b true false m n k j e h g = cc
decided b false true m n k j e h g = cc

-- the parts of case expressions that must be constant are so
abbrev AreConstant : List Compared → Type 0
AreConstant ks = (k : Compared) → Among ks k → HasConstantParts nothing k.value

constant_left : (ks js : List Compared) → AreConstant (ks ++ js) → AreConstant ks
constant_left ks js h k m = h k (append_left ks js k m)

constant_right : (ks js : List Compared) → AreConstant (ks ++ js) → AreConstant js
constant_right ks js h k m = h k (append_right ks js k m)

module _ (w : Writes) (gs : List Signal) (vectors : AreVectors gs) where
  -- values stay below 2 to the lengths of their signals
  run_fits : (t : Bool) (body : Stmt) (u v : Cycle) → Fits gs v → Fits gs (run t (place_over gs) body u v)
  run_fits t body u v f x g i =
      below_from_bits g.width (run t (place_over gs) body u v x)
      (λ b l. run_keeps w (place_over gs) x b t body u v
      (λ left m k a. let r = (covered gs vectors k left x b a).below in let j = width_is gs k x g vectors i in omega (arith, l, r, j))
      ∙ bit_at_above (v x) g.width b (f x g i) l)

  module _ (c d : Cycle) where
    -- after a flow from two cycles, bits are alike where the cycles agree on what they depend on
    abbrev Alike : Flow → Cycle → Cycle → Type 0
    Alike f u v =
        (x : Name) (b : ℕ) → b < width_in (place_over gs) x → ((z : Name) → f.through x z → c z ≡ d z) → (f.unset x b → c x ≡ d x) → Same b (u x) (v x)

    -- ---- expressions whose uses agree

    read_entry : (f : Flow) (u v : Cycle) → Fits gs u → Fits gs v → Alike f u v → (as' : List Expr) → ((z : Name) → Uses (place_over gs) f as' z → c z ≡ d z) →
        (x : Name) → Among (flat_map names_in as') x → (o : Option Signal) → signal_at gs x ≡ o → (u x ≡ v x) ⊎ (o ≡ None)
    read_entry f u v fu fv alike as' agree x m None i = inr refl
    read_entry f u v fu fv alike as' agree x m (Some g) i =
        let wide : width_in (place_over gs) x ≡ g.width = ap (λ o. unwrap_or (option_map (λ (g : Signal). g.width) o) 0) i in
        inl (same_from_bits_below g.width (u x) (v x) (fu x g i) (fv x g i)
        (λ b l. let h : b < width_in (place_over gs) x = omega (arith, l, wide) in
        alike x b h (λ z t. agree z (x, m, inr t)) (λ n. agree x (x, m, inl (refl, (b, h, n))))))

    reads_alike : (f : Flow) (u v : Cycle) → Fits gs u → Fits gs v → Alike f u v → (as' : List Expr) → ((z : Name) → Uses (place_over gs) f as' z → c z ≡ d z) →
        ReadAlike (values gs u) (values gs v) (flat_map names_in as')
    reads_alike f u v fu fv alike as' agree = record {
      entries = λ x j m.
          ⊎_elim (λ i. same_entry gs u v x j vectors i) (λ i. no_entry gs u x j vectors i ∙ sym (no_entry gs v x j vectors i))
          (read_entry f u v fu fv alike as' agree x m (signal_at gs x) refl);
      plain = λ r. no_depth gs u r vectors;
      plain_too = λ r. no_depth gs v r vectors;
    }

    -- ---- assignments

    store_alike : (around : Name → Type 0) (f : Flow) (left : Lval) (right : Expr) (u v : Cycle) → Fits gs u → Fits gs v → Alike f u v →
        Alike (after_assignment (place_over gs) around left right f) (store (place_over gs) u left right u) (store (place_over gs) v left right v)
    store_alike around f left right u v fu fv alike x b l through unset =
        ⊎_elim
        (λ (m : Among (left_names left) x).
        let k = same_store gs u v left right vectors (reads_alike f u v fu fv alike (right ∷ numbers_in left) (λ z t. through z (inl (m, inl t)))) in
        let e = ap (λ n. bit_at n b) (same_given gs u v left right v x k) in
        let qs = pieces (place_over gs) u left in
        let t = assigned (values gs u) right (total (pieces (place_over gs) u left)) in
        ⊎_elim (λ h. give_given w qs t u v x b h ∙ e)
        (λ n. give_apart w qs t u v x b (alike x b l (λ z h. through z (inr h)) (λ q. unset (q, λ h. n (sets_covers gs vectors u left x b l h)))) ∙ e)
        (any_covers_or qs x b))
        (λ (n : Among (left_names left) x → ⊥).
        store_keeps w (place_over gs) x b left right u u (λ h. n (covered gs vectors u left x b h).among)
        ∙ (alike x b l (λ z h. through z (inr h)) (λ q. unset (q, λ h. n (sets_name (place_over gs) left x b h)))
        ∙ sym (store_keeps w (place_over gs) x b left right v v (λ h. n (covered gs vectors v left x b h).among))))
        (among_or (left_names left) x)

    -- ---- names that a statement doesn't assign

    untouched : (body : Stmt) (around : Name → Type 0) (f : Flow) (u' v' u v : Cycle) → Alike f u v → (x : Name) (b : ℕ) → b < width_in (place_over gs) x →
        ((z : Name) → (flow (place_over gs) around body f).through x z → c z ≡ d z) → ((flow (place_over gs) around body f).unset x b → c x ≡ d x) → (Names (lefts body) x → ⊥) →
        Same b (run true (place_over gs) body u' u x) (run true (place_over gs) body v' v x)
    untouched body around f u' v' u v alike x b l through unset n =
        run_keeps w (place_over gs) x b true body u' u (λ left m k a. n (named left m (covered gs vectors k left x b a).among))
        ∙ (alike x b l (λ z h. through z (through_grows (place_over gs) body around f x z h)) (λ q. unset (unset_stays (place_over gs) body around f x b n q))
        ∙ sym (run_keeps w (place_over gs) x b true body v' v (λ left m k a. n (named left m (covered gs vectors k left x b a).among))))
      where
        flat_in : (ls : List Lval) (left : Lval) → Among ls left → Among (left_names left) x → Names ls x
        flat_in [] left m h = absurd m
        flat_in (k ∷ ls) left m h =
            ⊎_elim (λ (i : k ≡ left). append_left (left_names k) (flat_map left_names ls) x (subst (λ z. Among (left_names z) x) (sym i) h))
            (λ j. append_right (left_names k) (flat_map left_names ls) x (flat_in ls left j h)) m

        named : (left : Lval) → Among (lefts body) left → Among (left_names left) x → Names (lefts body) x
        named left m h = flat_in (lefts body) left m h

    -- ---- statements

    same_test : (f : Flow) (u v : Cycle) → Fits gs u → Fits gs v → Alike f u v → (a : Expr) → ((z : Name) → Uses (place_over gs) f (a ∷ []) z → c z ≡ d z) →
        is_false (place_over gs) u a ≡ is_false (place_over gs) v a
    same_test f u v fu fv alike a agree =
        let o = same_operand (values gs u) (values gs v) a (first_of_two (values gs u) (values gs v) (names_in a) [] (reads_alike f u v fu fv alike (a ∷ []) agree)) in
        λ r. nat_eq (own (o r)) 0

    same_choice : (f : Flow) (u v : Cycle) → Fits gs u → Fits gs v → Alike f u v → (kind : CaseKind) (a : Expr) {n : _} (row : Row_of-CaseItem n) →
        ((z : Name) → Uses (place_over gs) f (a ∷ labels_in row) z → c z ≡ d z) →
        Agree (any_matches kind (values gs u) (case_width (values gs u) a (labels_in row)) (case_sign (values gs u) a (labels_in row)) a)
        (any_matches kind (values gs v) (case_width (values gs v) a (labels_in row)) (case_sign (values gs v) a (labels_in row)) a) row
    same_choice f u v fu fv alike kind a row agree =
        let m = reads_alike f u v fu fv alike (a ∷ labels_in row) agree in
        let k = second_of_two (values gs u) (values gs v) (names_in a) (flat_map names_in (labels_in row)) m in
        let o = same_operand (values gs u) (values gs v) a (first_of_two (values gs u) (values gs v) (names_in a) (flat_map names_in (labels_in row)) m) in
        agree_at (values gs u) (values gs v) kind a _ _ _ _ row o
        (λ r. max (o r).width (same_widest (values gs u) (values gs v) (labels_in row) k r))
        (λ r. (o r).signed && same_signs (values gs u) (values gs v) (labels_in row) k r)
        k

    mutual
      follow : (body : Stmt) (around : Name → Type 0) (f : Flow) (u' v' u v : Cycle) → AreConstant (compared_in body) → Fits gs u → Fits gs v → Alike f u v →
          Alike (flow (place_over gs) around body f) (run true (place_over gs) body u' u) (run true (place_over gs) body v' v)
      follow s.Empty around f u' v' u v fixed fu fv alike x b l through unset = alike x b l through unset
      follow (s.Block' n g row) around f u' v' u v fixed fu fv alike x b l through unset = row_follow row around f u' v' u v fixed fu fv alike x b l through unset
      follow (s.If' a g (more_of-Stmt body end_of-Stmt)) around f u' v' u v fixed fu fv alike x b l through unset =
          ⊎_elim
          (λ (m : Names (lefts body) x).
          decided b (is_false (place_over gs) u a) (is_false (place_over gs) v a) (u x) (run true (place_over gs) body u' u x) (v x) (run true (place_over gs) body v' v x)
          (same_test f u v fu fv alike a
          (λ z h. through z (inl (reaches (place_over gs) body (within (place_over gs) around f (a ∷ [])) (after_reads (place_over gs) (a ∷ []) f) x z m (inl h)))))
          (λ t. alike x b l (λ z h. through z (inr h)) (λ q. unset (inr q)))
          (λ t. follow body (within (place_over gs) around f (a ∷ [])) (after_reads (place_over gs) (a ∷ []) f) u' v' u v fixed fu fv alike x b l
          (λ z h. through z (inl h)) (λ q. unset (inl q))))
          (λ n. untouched (s.If' a g (more_of-Stmt body end_of-Stmt)) around f u' v' u v alike x b l through unset n)
          (among_or (flat_map left_names (lefts body)) x)
      follow (s.IfElse' a g (more_of-Stmt body end_of-Stmt) i (more_of-Stmt other end_of-Stmt)) around f u' v' u v fixed fu fv alike x b l through unset =
          ⊎_elim
          (λ (m : Names (lefts body ++ lefts other) x).
          decided b (is_false (place_over gs) u a) (is_false (place_over gs) v a) (run true (place_over gs) other u' u x) (run true (place_over gs) body u' u x)
          (run true (place_over gs) other v' v x) (run true (place_over gs) body v' v x)
          (same_test f u v fu fv alike a
          (λ z h. through z (⊎_elim
          (λ k. inl (reaches (place_over gs) body (within (place_over gs) around f (a ∷ [])) (after_reads (place_over gs) (a ∷ []) f) x z k (inl h)))
          (λ k. inr (reaches (place_over gs) other (within (place_over gs) around f (a ∷ [])) (after_reads (place_over gs) (a ∷ []) f) x z k (inl h)))
          (names_or (lefts body) (lefts other) x m))))
          (λ t. follow other (within (place_over gs) around f (a ∷ [])) (after_reads (place_over gs) (a ∷ []) f) u' v' u v (constant_right (compared_in body) (compared_in other) fixed) fu fv alike x b l
          (λ z h. through z (inr h)) (λ q. unset (inr q)))
          (λ t. follow body (within (place_over gs) around f (a ∷ [])) (after_reads (place_over gs) (a ∷ []) f) u' v' u v (constant_left (compared_in body) (compared_in other) fixed) fu fv alike x b l
          (λ z h. through z (inl h)) (λ q. unset (inl q))))
          (λ n. untouched (s.IfElse' a g (more_of-Stmt body end_of-Stmt) i (more_of-Stmt other end_of-Stmt)) around f u' v' u v alike x b l through unset n)
          (among_or (flat_map left_names (lefts body ++ lefts other)) x)
      follow (s.Case' kind a g row) around f u' v' u v fixed fu fv alike x b l through unset =
          let test = any_matches kind (values gs u) (case_width (values gs u) a (labels_in row)) (case_sign (values gs u) a (labels_in row)) a in
          let test' = any_matches kind (values gs v) (case_width (values gs v) a (labels_in row)) (case_sign (values gs v) a (labels_in row)) a in
          let inner = within (place_over gs) around f (a ∷ labels_in row) in
          let read = after_reads (place_over gs) (a ∷ labels_in row) f in
          let rest : AreConstant (case_compared_in row) = λ k m. fixed k (inr m) in
          ⊎_elim
          (λ (m : Names (case_lefts row) x).
          items_follow row inner read test test' u' v' u v (run_default true (place_over gs) row u' u) (run_default true (place_over gs) row v' v) rest fu fv alike
          (same_choice f u v fu fv alike kind a row (λ z h. through z (inl (items_reach (place_over gs) row inner read x z m (inl h)))))
          x b l (λ z h. through z (inl h)) (λ q. unset (inl q))
          (λ none. default_follow row inner read u' v' u v rest fu fv alike x b l (λ z h. through z (inl h)) (λ q. unset (inl q))
          (λ (past : HasDefault row → ⊥).
          let open' : IsFull (place_over gs) kind a (labels_in row) → ⊥ = λ full.
          let k = full_matches gs vectors kind a (labels_in row) u fu (fixed _ (inl refl)) full in
          unmatched_label kind (values gs u) (case_width (values gs u) a (labels_in row)) (case_sign (values gs u) a (labels_in row)) a row k.0 none k.1 k.2 in
          alike x b l (λ z h. through z (inr ((past, open'), h))) (λ q. unset (inr ((past, open'), q))))))
          (λ n. untouched (s.Case' kind a g row) around f u' v' u v alike x b l through unset n)
          (among_or (flat_map left_names (case_lefts row)) x)
      follow (s.Blocking left right) around f u' v' u v fixed fu fv alike x b l through unset = store_alike around f left right u v fu fv alike x b l through unset
      follow (s.Nonblocking left right) around f u' v' u v fixed fu fv alike x b l through unset = store_alike around f left right u v fu fv alike x b l through unset

      row_follow : {n : _} (row : Row_of-Stmt n) (around : Name → Type 0) (f : Flow) (u' v' u v : Cycle) → AreConstant (row_compared_in row) → Fits gs u → Fits gs v → Alike f u v →
          Alike (row_flow (place_over gs) around row f) (run_row true (place_over gs) row u' u) (run_row true (place_over gs) row v' v)
      row_follow end_of-Stmt around f u' v' u v fixed fu fv alike x b l through unset = alike x b l through unset
      row_follow (more_of-Stmt a rest) around f u' v' u v fixed fu fv alike x b l through unset =
          row_follow rest around (flow (place_over gs) around a f) u' v' (run true (place_over gs) a u' u) (run true (place_over gs) a v' v)
          (constant_right (compared_in a) (row_compared_in rest) fixed) (run_fits true a u' u fu) (run_fits true a v' v fv)
          (follow a around f u' v' u v (constant_left (compared_in a) (row_compared_in rest) fixed) fu fv alike) x b l through unset

      items_follow : {n : _} (row : Row_of-CaseItem n) (around : Name → Type 0) (f : Flow) (test test' : Labels → Bool) (u' v' u v o o' : Cycle) →
          AreConstant (case_compared_in row) → Fits gs u → Fits gs v → Alike f u v → Agree test test' row → (x : Name) (b : ℕ) → b < width_in (place_over gs) x →
          ((z : Name) → (items_flow (place_over gs) around row f).through x z → c z ≡ d z) → ((items_flow (place_over gs) around row f).unset x b → c x ≡ d x) →
          (Unmatched test row → Same b (o x) (o' x)) →
          Same b (run_items true (place_over gs) test row u' u o x) (run_items true (place_over gs) test' row v' v o' x)
      items_follow end_of-CaseItem around f test test' u' v' u v o o' fixed fu fv alike agree x b l through unset past = past tt
      items_follow (more_of-CaseItem labels body rest) around f test test' u' v' u v o o' fixed fu fv alike agree x b l through unset past =
          decided b (test labels) (test' labels) (run true (place_over gs) body u' u x) (run_items true (place_over gs) test rest u' u o x)
          (run true (place_over gs) body v' v x) (run_items true (place_over gs) test' rest v' v o' x) agree.0
          (λ t. follow body around f u' v' u v (constant_left (compared_in body) (case_compared_in rest) fixed) fu fv alike x b l (λ z h. through z (inl h)) (λ q. unset (inl q)))
          (λ t. items_follow rest around f test test' u' v' u v o o' (constant_right (compared_in body) (case_compared_in rest) fixed) fu fv alike agree.1 x b l
          (λ z h. through z (inr h)) (λ q. unset (inr q)) (λ none. past (t, none)))

      default_follow : {n : _} (row : Row_of-CaseItem n) (around : Name → Type 0) (f : Flow) (u' v' u v : Cycle) →
          AreConstant (case_compared_in row) → Fits gs u → Fits gs v → Alike f u v → (x : Name) (b : ℕ) → b < width_in (place_over gs) x →
          ((z : Name) → (items_flow (place_over gs) around row f).through x z → c z ≡ d z) → ((items_flow (place_over gs) around row f).unset x b → c x ≡ d x) →
          ((HasDefault row → ⊥) → Same b (u x) (v x)) →
          Same b (run_default true (place_over gs) row u' u x) (run_default true (place_over gs) row v' v x)
      default_follow end_of-CaseItem around f u' v' u v fixed fu fv alike x b l through unset past = past (λ h. h)
      default_follow (more_of-CaseItem labels body rest) around f u' v' u v fixed fu fv alike x b l through unset past =
          decided b (is_default labels) (is_default labels) (run true (place_over gs) body u' u x) (run_default true (place_over gs) rest u' u x)
          (run true (place_over gs) body v' v x) (run_default true (place_over gs) rest v' v x) refl
          (λ t. follow body around f u' v' u v (constant_left (compared_in body) (case_compared_in rest) fixed) fu fv alike x b l (λ z h. through z (inl h)) (λ q. unset (inl q)))
          (λ t. default_follow rest around f u' v' u v (constant_right (compared_in body) (case_compared_in rest) fixed) fu fv alike x b l
          (λ z h. through z (inr h)) (λ q. unset (inr q))
          (λ none. past (λ h. ⊎_elim (λ (i : is_default labels ≡ true). let z : true ≡ false = sym i ∙ t in cc) none h)))

pub fits_from : (gs : List Signal) (c : Cycle) → AreFit gs c → Fits gs c
fits_from gs c h x g i = let r = at_among gs x g i in subst (λ z. c z < 2 ^ g.width) r.1 (h g r.0)

pub flow_follows : Writes → FlowFollows
flow_follows w gs body c d x b vectors fixed fc fd l through unset =
    follow w gs vectors c d body (λ z. ⊥) at_start c d c d fixed (fits_from gs c fc) (fits_from gs d fd) (λ y i h t q. ap (λ n. bit_at n i) (q tt)) x b l through unset
