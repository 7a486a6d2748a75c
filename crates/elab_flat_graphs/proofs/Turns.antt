-- What the turns of a search keep.
use Rattle.std.proofs.Common.{ℕ, suc, ◌≡◌, ◌+◌, ◌-◌, ◌≤◌, ◌<◌, Bool, true, false, List, [], ◌∷◌, length, drop, Some, None, inl, inr, ⊎_elim, refl, sym, ap, subst, ◌∙◌, arith, get_or, get_or-set_same, get_or-set_other, length-set}
use Rattle.std.proofs.Math.ListN.{set}
use Rattle.std.specs.List.{slice_get}
use Rattle.std.proofs.lemmas.Bool.{cases_eq}
use Rattle.std.proofs.lemmas.Option.{slice_get-get_or, slice_get_within}
use Rattle.elab_flat_graphs.specs.Walks.{targets_of}
use Rattle.elab_flat_graphs.specs.Search.{Has, LeadInto, IsAt, Leads, IsTop, IsStack, IsState}

module _ (g : List (List ℕ)) (start : ℕ) (left order : List ℕ) (x w : ℕ) (order' : List ℕ) (more : (z : ℕ) → Has order z → Has order' z) where
  at_other : (n e : ℕ) → (n ≡ x → ⊥) → IsAt g left order n e → IsAt g (set left x w) order' n e
  at_other n e ne a = record {
    turns = ap (λ k. suc e + k) (get_or-set_other left x n w 0 ne) ∙ a.turns;
    earlier = λ i t lt is. more t (a.earlier i t lt is);
  }

  -- the nodes below one that takes a turn
  pub leads_on : (t : ℕ) (rest : List ℕ) → (Has rest x → ⊥) → Leads g start left order t rest → Leads g start (set left x w) order' t rest
  leads_on t [] out h = h
  leads_on t (n ∷ rest) out h = ((h.0.0, at_other n h.0.0 (λ e. out (inl e)) h.0.1, h.0.2), leads_on n rest (λ m. out (inr m)) h.1)

module _ (g : List (List ℕ)) (rest left : List ℕ) (marks : List Bool) (order : List ℕ) (x : ℕ) (s : IsState g (x ∷ rest) left marks order) (some : 1 ≤ get_or left x 0) where
  inside : x < length left
  inside = subst (λ n. x < n) (sym s.turns) (s.within x (inl refl))

  marked : x < length marks
  marked = subst (λ n. x < n) (sym s.marked) (s.within x (inl refl))

  unordered : Has order x → ⊥
  unordered h = let is = s.closed x h in omega arith

  left_at : (w z : ℕ) → z ≡ x → get_or (set left x w) z 0 ≡ w
  left_at w z e = ap (λ k. get_or (set left x w) k 0) e ∙ get_or-set_same left x w 0 inside

  mark_at : (z : ℕ) → z ≡ x → get_or (set marks x false) z false ≡ false
  mark_at z e = ap (λ k. get_or (set marks x false) k false) e ∙ get_or-set_same marks x false false marked

  mark_other : (z : ℕ) → (z ≡ x → ⊥) → get_or (set marks x false) z false ≡ get_or marks z false
  mark_other z ne = get_or-set_other marks x z false false ne

  pub lowered : (w : ℕ) → (w ≡ 0 → ⊥) → IsState g (x ∷ rest) (set left x w) marks order
  lowered w nonzero = record {
    graph = s.graph;
    turns = length-set left x w ∙ s.turns;
    marked = s.marked;
    within = s.within;
    distinct = s.distinct;
    on = s.on;
    off = s.off;
    new = λ z lt out. let ne : z ≡ x → ⊥ = λ e. s.off z lt out (inl (sym e)) in
        ⊎_elim (λ e. inl (get_or-set_other left x z w 0 ne ∙ e)) (λ h. inr h) (s.new z lt out);
    gone = λ z lt is. elim (cases_eq z x) [
      | inl e ↦ absurd (nonzero (sym (left_at w z e) ∙ is))
      | inr ne ↦ s.gone z lt (sym (get_or-set_other left x z w 0 ne) ∙ is)
    ];
    closed = λ z h. elim (cases_eq z x) [
      | inl e ↦ absurd (unordered (subst (Has order) e h))
      | inr ne ↦ get_or-set_other left x z w 0 ne ∙ s.closed z h
    ];
    sorted = s.sorted;
  }

  pub popped : LeadInto g order x (length (targets_of g x)) → IsState g rest (set left x 0) (set marks x false) (x ∷ order)
  popped all = record {
    graph = s.graph;
    turns = length-set left x 0 ∙ s.turns;
    marked = length-set marks x false ∙ s.marked;
    within = λ z h. s.within z (inr h);
    distinct = s.distinct.1;
    on = λ z lt is. elim (cases_eq z x) [
      | inl e ↦ (let c : false ≡ true = sym (mark_at z e) ∙ is in cc)
      | inr ne ↦ ⊎_elim (λ e. absurd (ne (sym e))) (λ h. h) (s.on z lt (sym (mark_other z ne) ∙ is))
    ];
    off = λ z lt is h. elim (cases_eq z x) [
      | inl e ↦ s.distinct.0 (subst (Has rest) e h)
      | inr ne ↦ s.off z lt (sym (mark_other z ne) ∙ is) (inr h)
    ];
    new = λ z lt is. elim (cases_eq z x) [
      | inl e ↦ inr (inl (sym e))
      | inr ne ↦ ⊎_elim (λ e. inl (get_or-set_other left x z 0 0 ne ∙ e)) (λ h. inr (inr h)) (s.new z lt (sym (mark_other z ne) ∙ is))
    ];
    gone = λ z lt is. elim (cases_eq z x) [
      | inl e ↦ inl (sym e)
      | inr ne ↦ inr (s.gone z lt (sym (get_or-set_other left x z 0 0 ne) ∙ is))
    ];
    closed = λ z h. elim (cases_eq z x) [
      | inl e ↦ left_at 0 z e
      | inr ne ↦ ⊎_elim (λ e. absurd (ne (sym e))) (λ m. get_or-set_other left x z 0 0 ne ∙ s.closed z m) h
    ];
    sorted = (unordered, all, s.sorted);
  }

module _ (g : List (List ℕ)) (start : ℕ) (left : List ℕ) (marks : List Bool) (order : List ℕ) (x w : ℕ) (one : w + 1 ≡ get_or left x 0) where
  abbrev Followed : List ℕ → ℕ → Type 0
  Followed stack t = IsState g stack (set left x w) marks order × Leads g start (set left x w) order t stack × (0 < length stack) × (t < length g)

  follow_top : (rest : List ℕ) → IsState g (x ∷ rest) left marks order → IsStack g start left order (x ∷ rest) → (w ≡ 0 → ⊥) →
      Followed (x ∷ rest) (get_or (targets_of g x) (length (targets_of g x) - w) 0)
  follow_top rest s lies nonzero =
      let top = lies.0 in
      let e : ℕ = length (targets_of g x) - w in
      let turns = top.turns in
      let used : top.used ≡ e = omega arith in
      let lt : e < length (targets_of g x) = omega arith in
      let is : slice_get (targets_of g x) e ≡ Some (get_or (targets_of g x) e 0) = slice_get-get_or (targets_of g x) e 0 lt in
      let some : 1 ≤ get_or left x 0 = omega arith in
      let now : get_or (set left x w) x 0 ≡ w = left_at g rest left marks order x s some w x refl in (
        lowered g rest left marks order x s some w nonzero,
        ((e, record { turns = omega arith; earlier = λ i t lt is. top.earlier i t (omega arith) is }, is), leads_on g start left order x w order (λ z h. h) x rest s.distinct.0 lies.1),
        omega arith,
        s.graph x e (get_or (targets_of g x) e 0) is,
      )

  pub followed : (stack : List ℕ) → IsState g stack left marks order → IsStack g start left order stack → slice_get stack 0 ≡ Some x → (w ≡ 0 → ⊥) →
      Followed stack (get_or (targets_of g x) (length (targets_of g x) - w) 0)
  followed [] s lies top nonzero = cc
  followed (y ∷ rest) s lies top nonzero =
      let e : y ≡ x = cc in
      subst (λ k. Followed (k ∷ rest) (get_or (targets_of g x) (length (targets_of g x) - w) 0)) (sym e)
      (follow_top rest (subst (λ k. IsState g (k ∷ rest) left marks order) e s) (subst (λ k. IsStack g start left order (k ∷ rest)) e lies) nonzero)

  -- the node below the one that is left
  below : (rest : List ℕ) → IsState g (x ∷ rest) left marks order → IsTop g left order x → LeadInto g order x (length (targets_of g x)) → Leads g start left order x rest →
      IsStack g start (set left x 0) (x ∷ order) rest
  below [] s top all h = inl h
  below (n ∷ rest) s top all h =
      let ne : n ≡ x → ⊥ = λ e. s.distinct.0 (inl e) in
      let at = h.0.1 in
      let lt : h.0.0 < length (targets_of g n) = slice_get_within (targets_of g n) h.0.0 x h.0.2 in
      let same : get_or (set left x 0) n 0 ≡ get_or left n 0 = get_or-set_other left x n 0 0 ne in
      let turns = at.turns in (
        record {
          used = suc h.0.0;
          turns = ap (λ k. suc h.0.0 + k) same ∙ turns;
          some = omega arith;
          earlier = λ i t below is. elim (cases_eq i h.0.0) [
            | inl e ↦ (let z : Some t ≡ Some x = sym is ∙ (ap (slice_get (targets_of g n)) e ∙ h.0.2) in let y : t ≡ x = cc in inl (sym y))
            | inr out ↦ inr (at.earlier i t (omega arith) is)
          ];
        },
        leads_on g start left order x 0 (x ∷ order) (λ z m. inr m) n rest (λ m. s.distinct.0 (inr m)) h.1,
      )

  leave_top : (rest : List ℕ) → IsState g (x ∷ rest) left marks order → IsStack g start left order (x ∷ rest) → w ≡ 0 →
      IsState g rest (set left x w) (set marks x false) (x ∷ order) × IsStack g start (set left x w) (x ∷ order) rest
  leave_top rest s lies zero =
      let top = lies.0 in
      let turns = top.turns in
      let used : top.used ≡ length (targets_of g x) = omega arith in
      let all : LeadInto g order x (length (targets_of g x)) = λ i t lt is. top.earlier i t (omega arith) is in
      let some : 1 ≤ get_or left x 0 = omega arith in (
        subst (λ k. IsState g rest (set left x k) (set marks x false) (x ∷ order)) (sym zero) (popped g rest left marks order x s some all),
        subst (λ k. IsStack g start (set left x k) (x ∷ order) rest) (sym zero) (below rest s top all lies.1),
      )

  pub left_behind : (stack : List ℕ) → IsState g stack left marks order → IsStack g start left order stack → slice_get stack 0 ≡ Some x → w ≡ 0 →
      IsState g (drop 1 stack) (set left x w) (set marks x false) (x ∷ order) × IsStack g start (set left x w) (x ∷ order) (drop 1 stack)
  left_behind [] s lies top zero = cc
  left_behind (y ∷ rest) s lies top zero =
      let e : y ≡ x = cc in
      leave_top rest (subst (λ k. IsState g (k ∷ rest) left marks order) e s) (subst (λ k. IsStack g start left order (k ∷ rest)) e lies) zero

-- the top has a turn
pub top_turn : (g : List (List ℕ)) (start : ℕ) (left order stack : List ℕ) (x : ℕ) → IsStack g start left order stack → slice_get stack 0 ≡ Some x → 1 ≤ get_or left x 0
top_turn g start left order [] x lies top = cc
top_turn g start left order (y ∷ rest) x lies top = let e : y ≡ x = cc in subst (λ k. 1 ≤ get_or left k 0) e lies.0.some

pub top_inside : (g : List (List ℕ)) (start : ℕ) (left : List ℕ) (marks : List Bool) (order stack : List ℕ) (x : ℕ) → IsState g stack left marks order → slice_get stack 0 ≡ Some x → x < length left
top_inside g start left marks order [] x s top = cc
top_inside g start left marks order (y ∷ rest) x s top = let e : y ≡ x = cc in subst (λ n. x < n) (sym s.turns) (s.within x (inl e))

pub all_left : (g : List (List ℕ)) (start : ℕ) (left order stack : List ℕ) → IsStack g start left order stack → slice_get stack 0 ≡ None → Has order start
all_left g start left order [] lies none = lies
all_left g start left order (x ∷ rest) lies none = cc
