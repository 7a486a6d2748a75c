use Rattle.std.proofs.Common.{◌≡◌, ◌≢◌, ◌<◌, ◌≤◌, ◌+◌, ◌-◌, ℕ, Bool, true, false, List, [], ◌∷◌, ◌++◌, length, get_or, take, Option, Some, None, All, refl, ap, sym, ◌∙◌, subst, arith, inl, inr, append_assoc, append-nil}
use Rattle.std.specs.Prelude.{◌↔◌, AllPairs, Result, Ok, Err, IfOk, nat_eq, slice_get}
use Rattle.std.specs.Option.{IsSomeAnd}
use Rattle.std.proofs.lemmas.Bool.{cases_lt, eqb-true}
use Rattle.std.proofs.lemmas.List.{take_all, take-append-le, get_or_append_left, get_or_at, length_push, length-append}
use Rattle.std.proofs.lemmas.List.Elements.{All-push, All-nil}
use Rattle.std.proofs.lemmas.List.Quantifiers.{all_pairs_push}
use Rattle.std.proofs.lemmas.List.Splits.{length-slice_split}
use Rattle.std.proofs.lemmas.List.Sums.{count_by-le-length}
use Rattle.clause_check.specs.declared.literal.Lit.{Lit}
use Rattle.clause_check.specs.declared.formula.Cnf.{Cnf}
use Rattle.clause_check.specs.declared.formula.Step.{Step}
use Rattle.clause_check.specs.Clauses.{IsInRange}
use Rattle.clause_check.specs.Derivations.{IsDerivation, IsRefutation, IsStep}
use Rattle.clause_check_texts.specs.declared.words.Number.{Number}
use Rattle.clause_check_texts.specs.declared.read.LineFault.{LineFault}
use Rattle.clause_check_texts.specs.declared.read.LineFault.TheVariants.{Syntax, Unimplied, Memory}
use Rattle.clause_check_texts.specs.Words.{is_end, lines, split_left}
use Rattle.clause_check_texts.specs.Lines.{content_of}
use Rattle.clause_check_texts.specs.Lines.Content.{adds}
use Rattle.clause_check_texts.specs.Steps.{ComeTo, Follows, last_id}
use Rattle.clause_check_texts.specs.Steps.ComeTo.{none, skip, more}
use Rattle.clause_check_texts.specs.Faults.{AreOpen, EndsOpen, IsReadOf, Stands, limit}
use Rattle.clause_check_texts.specs.Reading.{Comes, StandsAt, fault_at}

module _ (cnf : Cnf) where
  abbrev inputs : ℕ
  inputs = length cnf.clauses

  pub come_in_range : (before : List (List ℕ)) (ids : List ℕ) (steps : List Step) → ComeTo cnf before ids steps → All (λ s. IsInRange cnf.vars s.clause) steps
  come_in_range _ _ _ none = All-nil (λ (s : Step). IsInRange cnf.vars s.clause)
  come_in_range _ _ _ (skip before line ids steps come says) = come_in_range before ids steps come
  come_in_range _ _ _ (more before line ids steps id lits hints step come says above follows) =
      All-push (λ (s : Step). IsInRange cnf.vars s.clause) steps step (come_in_range before ids steps come) follows.implied.in_range

  -- the IDs rise, and the last is the highest
  record Rising (ids : List ℕ) : Type 0 where
    pub rising : AllPairs (λ a b. a < b) ids
    pub highest : All (λ i. i ≤ last_id inputs ids) ids

  last_push : (ids : List ℕ) (id : ℕ) → last_id inputs (ids ++ id ∷ []) ≡ id
  last_push ids id =
      let n : length (ids ++ id ∷ []) - 1 ≡ length ids = omega (arith, length_push ids id) in
      ap (λ k. get_or (ids ++ id ∷ []) k inputs) n ∙ get_or_at ids id [] inputs (length ids) refl

  rising_push : (ids : List ℕ) (id : ℕ) → Rising ids → last_id inputs ids < id → Rising (ids ++ id ∷ [])
  rising_push ids id r above = record {
    rising = all_pairs_push (λ a b. a < b) ids id r.rising (λ k d lt. omega (arith, r.highest k d lt));
    highest = rw last_push (All-push (λ i. i ≤ id) ids id (λ k d lt. omega (arith, r.highest k d lt)) (omega arith));
  }

  come_rises : (before : List (List ℕ)) (ids : List ℕ) (steps : List Step) → ComeTo cnf before ids steps → Rising ids
  come_rises _ _ _ none = record { rising = λ i j d lt lt'. absurd (omega (arith, lt')); highest = λ k d lt. absurd (omega (arith, lt)) }
  come_rises _ _ _ (skip before line ids steps come says) = come_rises before ids steps come
  come_rises _ _ _ (more before line ids steps id lits hints step come says above follows) = rising_push ids id (come_rises before ids steps come) above

  pub come_rising : (before : List (List ℕ)) (ids : List ℕ) (steps : List Step) → ComeTo cnf before ids steps → AllPairs (λ a b. a < b) ids
  come_rising before ids steps come = (come_rises before ids steps come).rising

  derivation_push : (steps : List Step) (step : Step) → IsDerivation cnf steps → IsStep cnf steps step → IsDerivation cnf (steps ++ step ∷ [])
  derivation_push steps step ds is i d lt = elim (cases_lt i (length steps)) [
    | inl below ↦
        let before : take i steps ≡ take i (steps ++ step ∷ []) = let le : i ≤ length steps = omega arith in sym (take-append-le i steps (step ∷ []) le) in
        let at : get_or steps i d ≡ get_or (steps ++ step ∷ []) i d = sym (get_or_append_left steps (step ∷ []) d i below) in
        subst (λ b. IsStep cnf b (get_or (steps ++ step ∷ []) i d)) before (subst (λ s. IsStep cnf (take i steps) s) at (ds i d below))
    | inr past ↦
        let here : i ≡ length steps = omega (arith, length_push steps step, lt) in
        let before : steps ≡ take i (steps ++ step ∷ []) = let le : i ≤ length steps = omega arith in sym (take-append-le i steps (step ∷ []) le ∙ take_all i steps (omega arith)) in
        let at : step ≡ get_or (steps ++ step ∷ []) i d = sym (get_or_at steps step [] d i (sym here)) in
        subst (λ b. IsStep cnf b (get_or (steps ++ step ∷ []) i d)) before (subst (λ s. IsStep cnf steps s) at is)
  ]

  pub come_derives : (before : List (List ℕ)) (ids : List ℕ) (steps : List Step) → ComeTo cnf before ids steps → IsDerivation cnf steps
  come_derives _ _ _ none = λ i d lt. absurd (omega (arith, lt))
  come_derives _ _ _ (skip before line ids steps come says) = come_derives before ids steps come
  come_derives _ _ _ (more before line ids steps id lits hints step come says above follows) = derivation_push steps step (come_derives before ids steps come) follows.implied

last_of : (steps : List Step) (step : Step) → step.clause ≡ [] → IsSomeAnd (slice_get (steps ++ step ∷ []) (length steps)) (λ s. s.clause ≡ [])
last_of [] step e = e
last_of (s ∷ ss) step e = last_of ss step e

pub lines_most : (text : List ℕ) → length (lines text) ≤ length text + 1
lines_most text = omega (arith, length-slice_split is_end text, count_by-le-length is_end text)

pub lines_some : (text : List ℕ) → 0 < length (lines text)
lines_some text = omega (arith, length-slice_split is_end text)

-- so many lines were read, and these are left
pub record Reached (cnf : Cnf) (text : List ℕ) (n : ℕ) (left : Option (List ℕ)) (ids : List ℕ) (steps : List Step) : Type 0 where
  pub before : List (List ℕ)
  pub split : lines text ≡ before ++ split_left left
  pub number : length before ≡ n
  pub come : ComeTo cnf before ids steps
  pub open_yet : AreOpen steps

pub reached_none : (cnf : Cnf) (text : List ℕ) → Reached cnf text 0 (Some text) [] []
reached_none cnf text = record { before = []; split = refl; number = refl; come = none; open_yet = All-nil (λ (s : Step). s.clause ≢ []) }

module _ (cnf : Cnf) (text : List ℕ) (n : ℕ) (ids : List ℕ) (steps : List Step) where
  pub reached_end : length text ≤ limit → Reached cnf text n None ids steps → EndsOpen cnf text
  reached_end short r = record {
    ids = ids;
    steps = steps;
    come = subst (λ ls. ComeTo cnf ls ids steps) (sym (r.split ∙ append-nil r.before)) r.come;
    open_yet = r.open_yet;
  }

  module _ (rest : List ℕ) (r : Reached cnf text n (Some rest) ids steps) where
    pub number_most : n + 1 ≤ length text + 1
    number_most = omega (arith, r.number, ap length r.split, length-append r.before (lines rest), lines_some rest, lines_most text)

    module _ (front : List ℕ) (left : Option (List ℕ)) (first : lines rest ≡ front ∷ split_left left) where
      split_more : lines text ≡ (r.before ++ front ∷ []) ++ split_left left
      split_more = r.split ∙ (ap (λ ls. r.before ++ ls) first ∙ sym (append_assoc r.before (front ∷ []) (split_left left)))

      come_more : (closed : Bool) (ids' : List ℕ) (steps' : List Step) → Comes cnf ids steps front closed ids' steps' → ComeTo cnf (r.before ++ front ∷ []) ids' steps'
      come_more closed ids' steps' (inl s) =
          subst (λ is. ComeTo cnf (r.before ++ front ∷ []) is steps') (sym s.ids_stay) (subst (λ ss. ComeTo cnf (r.before ++ front ∷ []) ids ss) (sym s.steps_stay) (skip r.before front ids steps r.come s.says))
      come_more closed ids' steps' (inr t) =
          subst (λ is. ComeTo cnf (r.before ++ front ∷ []) is steps') (sym t.ids_more)
          (subst (λ ss. ComeTo cnf (r.before ++ front ∷ []) (ids ++ t.id ∷ []) ss) (sym t.steps_more) (more r.before front ids steps t.id t.lits t.hints t.step r.come t.adds.says t.adds.above t.follows))

      open_more : (ids' : List ℕ) (steps' : List Step) → Comes cnf ids steps front false ids' steps' → AreOpen steps'
      open_more ids' steps' (inl s) = subst AreOpen (sym s.steps_stay) r.open_yet
      open_more ids' steps' (inr t) = subst AreOpen (sym t.steps_more) (All-push (λ (s : Step). s.clause ≢ []) steps t.step r.open_yet (λ e. let bad : false ≡ true = t.closes.1 e in cc))

      pub reached_more : (ids' : List ℕ) (steps' : List Step) → Comes cnf ids steps front false ids' steps' → Reached cnf text (n + 1) left ids' steps'
      reached_more ids' steps' c = record {
        before = r.before ++ front ∷ [];
        split = split_more;
        number = omega (arith, length_push r.before front, r.number);
        come = come_more false ids' steps' c;
        open_yet = open_more ids' steps' c;
      }

      last_closed : (ids' : List ℕ) (steps' : List Step) → Comes cnf ids steps front true ids' steps' → IsSomeAnd (slice_get steps' (length steps' - 1)) (λ s. s.clause ≡ [])
      last_closed ids' steps' (inl s) = let bad : true ≡ false = s.closed_is in cc
      last_closed ids' steps' (inr t) =
          let n : length (steps ++ t.step ∷ []) - 1 ≡ length steps = omega (arith, length_push steps t.step) in
          let at = subst (λ k. IsSomeAnd (slice_get (steps ++ t.step ∷ []) k) (λ s. s.clause ≡ [])) (sym n) (last_of steps t.step (t.closes.0 refl)) in
          subst (λ ss. IsSomeAnd (slice_get ss (length ss - 1)) (λ s. s.clause ≡ [])) (sym t.steps_more) at

      front_open : (ids' : List ℕ) (steps' : List Step) → Comes cnf ids steps front true ids' steps' → AreOpen (take (length steps' - 1) steps')
      front_open ids' steps' (inl s) = let bad : true ≡ false = s.closed_is in cc
      front_open ids' steps' (inr t) =
          let n : length (steps ++ t.step ∷ []) - 1 ≡ length steps = omega (arith, length_push steps t.step) in
          let le : length steps ≤ length steps = omega arith in
          let e : take (length (steps ++ t.step ∷ []) - 1) (steps ++ t.step ∷ []) ≡ steps =
          ap (λ k. take k (steps ++ t.step ∷ [])) n ∙ (take-append-le (length steps) steps (t.step ∷ []) le ∙ take_all (length steps) steps le) in
          subst (λ ss. AreOpen (take (length ss - 1) ss)) (sym t.steps_more) (subst AreOpen (sym e) r.open_yet)

      pub closed_refutes : (ids' : List ℕ) (steps' : List Step) → Comes cnf ids steps front true ids' steps' → IsRefutation cnf steps'
      closed_refutes ids' steps' c = record { derivation = come_derives cnf (r.before ++ front ∷ []) ids' steps' (come_more true ids' steps' c); last = last_closed ids' steps' c }

      pub closed_read : (ids' : List ℕ) (steps' : List Step) → Comes cnf ids steps front true ids' steps' → IsReadOf cnf text steps'
      closed_read ids' steps' c = record {
        before = r.before ++ front ∷ [];
        after = split_left left;
        split = split_more;
        ids = ids';
        come = come_more true ids' steps' c;
        open_before = front_open ids' steps' c;
      }

      pub stands : length text ≤ limit → (fault : LineFault) → StandsAt cnf ids steps front fault → Stands cnf text (fault_at (n + 1) fault)
      stands short Syntax h =
          (short, record { before = r.before; line = front; after = split_left left; split = r.split ∙ ap (λ ls. r.before ++ ls) first; number = omega (arith, r.number); ids = ids; steps = steps; come = r.come; open_yet = r.open_yet; is = h })
      stands short Unimplied h =
          (short, record { before = r.before; line = front; after = split_left left; split = r.split ∙ ap (λ ls. r.before ++ ls) first; number = omega (arith, r.number); ids = ids; steps = steps; come = r.come; open_yet = r.open_yet; is = h })
      stands short Memory h = h

-- how much is left
abbrev pub left_size : Option (List ℕ) → ℕ
left_size None = 0
left_size (Some rest) = length rest + 1

pub empty_is : (xs : List Lit) (b : Bool) → b ≡ nat_eq (length xs) 0 → (b ≡ true) ↔ (xs ≡ [])
empty_is [] b e = (λ h. refl, λ h. e)
empty_is (x ∷ xs) b e = (λ h. absurd (let n = eqb-true (length (x ∷ xs)) 0 (sym e ∙ h) in omega arith), λ h. cc)

-- what the step of a line makes of the line
pub takes : (cnf : Cnf) (ids : List ℕ) (steps : List Step) (line : List ℕ) (id : ℕ) (lits hints : List Number) (r : Result Bool LineFault) (ids' : List ℕ) (steps' : List Step) → content_of line ≡ Some (adds id lits hints)
    → last_id (length cnf.clauses) ids < id
    → IfOk r (λ closed. (step : Step) × Follows cnf ids steps lits hints step × (ids' ≡ ids ++ id ∷ []) × (steps' ≡ steps ++ step ∷ []) × ((closed ≡ true) ↔ (step.clause ≡ [])))
    → IfOk r (λ closed. Comes cnf ids steps line closed ids' steps')
takes cnf ids steps line id lits hints (Err e) ids' steps' says above h = h
takes cnf ids steps line id lits hints (Ok closed) ids' steps' says above h =
    inr (record { id = id; lits = lits; hints = hints; step = h.0; adds = record { says = says; above = above }; follows = h.1; ids_more = h.2; steps_more = h.3; closes = h.4 })
