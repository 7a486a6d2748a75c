use Rattle.std.proofs.Common.{◌≡◌, ◌≢◌, ◌<◌, ◌≤◌, ◌+◌, ◌-◌, ℕ, List, [], ◌∷◌, ◌++◌, Some, None, set, get_or, length, length-set, length-take, arith, sym, ◌∙◌, ap, subst, refl, Contains, inl, inr, ◌⊎◌, Vec, Global}
use Rattle.std.specs.Prelude.{slice_index_or}
use Rattle.std.specs.List.{swap_remove}
use Rattle.std.proofs.lemmas.List.{get_or_default, length_push, map_push}
use Rattle.std.proofs.lemmas.List.Elements.{Contains-push}
use Rattle.clause_check.specs.declared.literal.Lit.{Lit}
use Rattle.clause_check.specs.declared.formula.Step.{Step}
use Rattle.clause_check.specs.declared.formula.Cnf.{Cnf}
use Rattle.clause_check.specs.Clauses.{negated}
use Rattle.clause_check.specs.Derivations.{clause_at, clauses_of}
use Rattle.clause_check.proofs.Members.{negated-negated}
use Rattle.cdcl.specs.declared.trail.Entry.{Entry}
use Rattle.cdcl.specs.declared.search.Search.{Search}
use Rattle.cdcl.specs.declared.watches.Watch.{Watch}
use Rattle.cdcl.specs.declared.copies.Copies.{Copies}
use Rattle.cdcl.specs.declared.watches.Watches.{Watches}
use Rattle.cdcl.specs.declared.solver.Solver.{Solver}
use Rattle.cdcl.specs.Trails.{lits_of, IsTrail}
use Rattle.cdcl.specs.Solvers.{Forces}
use Rattle.cdcl.specs.Leaving.{Leaves}
use Rattle.cdcl.specs.Lists.{IsWaiting, IsRoomFor, list_at, listed, unlisted}
use Rattle.cdcl.specs.Copying.{IsCopyOf, IsCopied}
use Rattle.cdcl.specs.Watching.{IsTrueAt, IsKept, IsWatchOf, IsTable, IsPropagated}
use Rattle.cdcl.specs.Turns.{Rests, Moves, IsPart, IsSolver, Advances}
use Rattle.cdcl.proofs.ListLemmas.{waiting_step, waiting_removed, list_other, list_same, cases_lit, room_still}
use Rattle.cdcl.proofs.TableLemmas.{each_set, table_replace, room_for}
use Rattle.cdcl.proofs.WatchLemmas.{contains_true, true_still, kept_assigned}
use Rattle.cdcl.proofs.VisitLemmas.{kept_weaker, kept_rests, kept_elsewhere, kept_moved, rests_from}

-- Each clause is kept with the next place propagated, or still waits in the list of the denied literal.
pub record Visits (cnf : Cnf) (old : Solver) (denied : Lit) (i : ℕ) (s : Solver) : Type 0 where
  pub advances : Advances cnf old s
  pub next : s.next ≡ old.next
  pub within : s.next < length s.search.trail.entries
  pub here : IsTrueAt s.search.trail.entries (negated denied) s.next
  pub in_range : denied.var < cnf.vars
  pub done : (k : ℕ) (d : Watch) → k < length s.watches.watched.items
      → IsKept (clause_at (clauses_of cnf.clauses s.search.steps.items) k) s.search.trail.entries s.search.starts.items (s.next + 1) (slice_index_or s.watches.watched.items k d)
      ⊎ IsWaiting (list_at s.watches.lists denied) i k

length-swap_remove : (xs : List ℕ) (i d : ℕ) → i < length xs → length (swap_remove xs i d) + 1 ≡ length xs
length-swap_remove xs i d lt =
    let last = length xs - 1 in
    let ys = set xs i (get_or xs last d) in
    omega (arith, length-take last ys, length-set xs i (get_or xs last d))

contains_last : (entries : List Entry) (e : Entry) → Contains (lits_of (entries ++ e ∷ [])) e.lit
contains_last entries e =
    subst (λ ls. Contains ls e.lit) (sym (map_push (λ (x : Entry). x.lit) entries e)) (Contains-push (lits_of entries) e.lit)

-- a fact of clauses, trail and levels, for equal ones
pub along : (P : List (List Lit) → List Entry → List ℕ → Type 0) (c c' : List (List Lit)) (e e' : List Entry) (s s' : List ℕ) → c' ≡ c → e' ≡ e → s' ≡ s → P c e s → P c' e' s'
along P c c' e e' s s' hc he hs p = subst (λ x. P x e' s') (sym hc) (subst (λ x. P c x s') (sym he) (subst (P c e) (sym hs) p))

abbrev pub clauses_in : Cnf → Solver → List (List Lit)
clauses_in cnf s = clauses_of cnf.clauses s.search.steps.items

abbrev pub Kept : Cnf → Solver → ℕ → ℕ → Watch → Type 0
Kept cnf s next k w = IsKept (clause_at (clauses_in cnf s) k) s.search.trail.entries s.search.starts.items next w

pub visits_start : (cnf : Cnf) (s : Solver) (denied : Lit) → IsSolver cnf s → s.next < length s.search.trail.entries → IsTrueAt s.search.trail.entries (negated denied) s.next → denied.var < cnf.vars → Visits cnf s denied 0 s
visits_start cnf s denied h within here in_range =
    let p = h.part.propagated in let t = h.part.table in
    record {
      advances = record { is = h; starts = refl; steps = refl; longer = omega arith };
      next = refl;
      within = within;
      here = here;
      in_range = in_range;
      done = λ k d lt.
          let w = get_or s.watches.watched.items k d in
          elim (cases_lit w.first denied) [
            | inl e ↦ inr (subst (λ l. IsWaiting (list_at s.watches.lists l) 0 k) e (t.first k d lt))
            | inr f ↦ elim (cases_lit w.second denied) [
              | inl e ↦ inr (subst (λ l. IsWaiting (list_at s.watches.lists l) 0 k) e (t.second k d lt))
              | inr g ↦ inl (kept_elsewhere (clause_at (clauses_in cnf s) k) s.search.trail.entries s.search.starts.items s.next p.level denied here w f g (p.kept k d lt))
            ]
          ];
    }

module _ (cnf : Cnf) (old : Solver) (denied : Lit) (i : ℕ) (s : Solver) (v : Visits cnf old denied i s) (number : ℕ) (lt : i < length (list_at s.watches.lists denied)) (at : number ≡ get_or (list_at s.watches.lists denied) i 0) (w : Watch) (is : w ≡ get_or s.watches.watched.items number w) where
  abbrev watched : List Watch
  watched = s.watches.watched.items

  abbrev clauses : List (List Lit)
  clauses = clauses_in cnf s

  abbrev trail : IsTrail s.search.trail.vars s.search.trail.entries
  trail = v.advances.is.part.search.trail

  abbrev table : IsTable clauses cnf.vars watched s.watches.lists
  table = v.advances.is.part.table

  abbrev propagated : IsPropagated clauses s.search.trail.entries s.search.starts.items s.next watched
  propagated = v.advances.is.part.propagated

  pub number_known : number < length watched
  number_known = subst (λ n. n < length watched) (sym at) (table.numbers denied i lt)

  pub copy_of : IsCopyOf cnf.vars clauses s.watches.copies.lits.items s.watches.copies.bounds.items number
  copy_of = v.advances.is.part.copied.each number number_known

  pub number_in_range : number < length clauses
  number_in_range = omega (arith, number_known, v.advances.is.whole)

  watch_at : (d : Watch) → get_or watched number d ≡ w
  watch_at d = get_or_default watched number d w number_known ∙ sym is

  pub watch_of : IsWatchOf (clause_at clauses number) w
  watch_of = subst (IsWatchOf (clause_at clauses number)) (watch_at w) (table.each number w number_known)

  pub bounds : (w.first.var < cnf.vars) × (w.second.var < cnf.vars)
  bounds = subst (λ (x : Watch). (x.first.var < cnf.vars) × (x.second.var < cnf.vars)) (watch_at w) (table.in_range number w number_known)

  kept_w : IsKept (clause_at clauses number) s.search.trail.entries s.search.starts.items s.next w
  kept_w = subst (IsKept (clause_at clauses number) s.search.trail.entries s.search.starts.items s.next) (watch_at w) (propagated.kept number w number_known)

  -- the clause at i is kept with the next place propagated
  visits_on : IsKept (clause_at clauses number) s.search.trail.entries s.search.starts.items (s.next + 1) w → Visits cnf old denied (i + 1) s
  visits_on k' =
      record {
        advances = v.advances;
        next = v.next;
        within = v.within;
        here = v.here;
        in_range = v.in_range;
        done = λ k d inside. elim (v.done k d inside) [
          | inl h ↦ inl h
          | inr h ↦ elim (waiting_step (list_at s.watches.lists denied) i k h) [
            | inl e ↦
                inl (subst (λ n. IsKept (clause_at clauses n) s.search.trail.entries s.search.starts.items (s.next + 1) (get_or watched n d)) (at ∙ e)
                (subst (IsKept (clause_at clauses number) s.search.trail.entries s.search.starts.items (s.next + 1)) (sym (watch_at d)) k'))
            | inr more ↦ inr more
          ]
        ];
      }

  pub visits_keep : Rests s.search.trail.entries denied w → Visits cnf old denied (i + 1) s
  visits_keep r = visits_on (kept_rests (clause_at clauses number) s.search.trail.entries s.search.starts.items s.next propagated.level denied v.here w r kept_w)

  pub room_denied : IsRoomFor s.watches.lists denied
  room_denied = room_for clauses cnf.vars watched s.watches.lists table denied v.in_range

  -- another literal is watched
  module _ (m : Watch) (h : Moves (clause_at clauses number) cnf.vars s.search.trail.entries denied w m) where
    pub first_other : m.first ≢ denied
    first_other e = h.not_false (subst (λ l. Contains (lits_of s.search.trail.entries) (negated l)) (sym e) (contains_true s.search.trail.entries (negated denied) s.next v.here))

    second_other : m.second ≢ denied
    second_other e = elim watch_of.apart [
      | inl ne ↦ elim h.leaves [
        | inl f ↦ ne (ap (λ (l : Lit). l.var) (f.0 ∙ (sym e ∙ sym f.1)))
        | inr f ↦ ne (ap (λ (l : Lit). l.var) (f.1 ∙ (e ∙ sym f.0)))
      ]
      | inr alone ↦
          let one : m.first ≡ w.first = alone m.first h.among in
          elim h.leaves [
            | inl f ↦ first_other (one ∙ f.0)
            | inr f ↦ h.apart (ap (λ (l : Lit). l.var) (one ∙ f.1))
          ]
    ]

    second_bound : m.second.var < cnf.vars
    second_bound = elim h.leaves [ inl f ↦ subst (λ (l : Lit). l.var < cnf.vars) f.1 bounds.1 | inr f ↦ subst (λ (l : Lit). l.var < cnf.vars) f.1 bounds.0 ]

    second_among : Contains (clause_at clauses number) m.second
    second_among = elim h.leaves [ inl f ↦ subst (Contains (clause_at clauses number)) f.1 watch_of.second | inr f ↦ subst (Contains (clause_at clauses number)) f.1 watch_of.first ]

    second_waits : IsWaiting (list_at s.watches.lists m.second) 0 number
    second_waits = elim h.leaves [
      | inl f ↦ subst (λ l. IsWaiting (list_at s.watches.lists l) 0 number) (ap (λ (x : Watch). x.second) (watch_at w) ∙ f.1) (table.second number w number_known)
      | inr f ↦ subst (λ l. IsWaiting (list_at s.watches.lists l) 0 number) (ap (λ (x : Watch). x.first) (watch_at w) ∙ f.1) (table.first number w number_known)
    ]

    abbrev mid : List (List ℕ)
    mid = listed s.watches.lists m.first number

    pub room_first : IsRoomFor s.watches.lists m.first
    room_first = room_for clauses cnf.vars watched s.watches.lists table m.first h.in_range

    pub denied_same : list_at mid denied ≡ list_at s.watches.lists denied
    denied_same = list_other s.watches.lists m.first denied (list_at s.watches.lists m.first ++ number ∷ []) (λ e. first_other (sym e))

    moved : IsKept (clause_at clauses number) s.search.trail.entries s.search.starts.items (s.next + 1) m
    moved = kept_moved (clause_at clauses number) s.search.trail.entries s.search.starts.items s.next propagated.level denied v.here cnf.vars (subst (λ n. IsTrail n s.search.trail.entries) v.advances.is.part.search.vars_are trail) w m h kept_w

    module _ (ws : Watches) (hw : ws.watched.items ≡ set watched number m) (hl : ws.lists ≡ unlisted mid denied i) (hc : ws.copies ≡ s.watches.copies) where
      abbrev after : Solver
      after = record { search = s.search; watches = ws; next = s.next }

      table_after : IsTable clauses cnf.vars ws.watched.items ws.lists
      table_after =
          subst (λ x. IsTable clauses cnf.vars x ws.lists) (sym hw)
          (subst (IsTable clauses cnf.vars (set watched number m)) (sym hl)
          (table_replace clauses cnf.vars watched s.watches.lists denied i number m table room_denied room_first lt (sym at) number_known first_other second_other (record { first = h.among; second = second_among; apart = inl h.apart }) (λ d. second_waits) (h.in_range, second_bound)))

      propagated_after : IsPropagated clauses s.search.trail.entries s.search.starts.items s.next ws.watched.items
      propagated_after =
          subst (IsPropagated clauses s.search.trail.entries s.search.starts.items s.next) (sym hw)
          (record {
            kept = each_set (λ k x. IsKept (clause_at clauses k) s.search.trail.entries s.search.starts.items s.next x) watched number m number_known (λ k d inside ne. propagated.kept k d inside) (kept_weaker (clause_at clauses number) s.search.trail.entries s.search.starts.items s.next (s.next + 1) m (omega arith) moved);
            reached = propagated.reached;
            level = propagated.level;
          })

      copied_after : IsCopied cnf.vars clauses (length ws.watched.items) ws.copies.lits.items ws.copies.bounds.items
      copied_after =
          subst (λ n. IsCopied cnf.vars clauses n ws.copies.lits.items ws.copies.bounds.items) (sym (ap length hw ∙ length-set watched number m))
          (subst (λ (x : Copies). IsCopied cnf.vars clauses (length watched) x.lits.items x.bounds.items) (sym hc) v.advances.is.part.copied)

      denied_after : list_at ws.lists denied ≡ swap_remove (list_at s.watches.lists denied) i 0
      denied_after =
          ap (λ ls. list_at ls denied) hl
          ∙ (list_same mid denied (swap_remove (list_at mid denied) i 0) (room_still s.watches.lists m.first denied (list_at s.watches.lists m.first ++ number ∷ []) room_denied)
          ∙ ap (λ ns. swap_remove ns i 0) denied_same)

      pub fewer : length (list_at ws.lists denied) + 1 ≡ length (list_at s.watches.lists denied)
      fewer = let x = get_or (list_at s.watches.lists denied) (length (list_at s.watches.lists denied) - 1) 0 in omega (arith, ap length denied_after, length-swap_remove (list_at s.watches.lists denied) i 0 lt)

      pub visits_move : Visits cnf old denied i after
      visits_move =
          record {
            advances = record {
              is = record {
                part = record { search = v.advances.is.part.search; table = table_after; propagated = propagated_after; copied = copied_after };
                whole = ap length hw ∙ (length-set watched number m ∙ v.advances.is.whole);
              };
              starts = v.advances.starts;
              steps = v.advances.steps;
              longer = v.advances.longer;
            };
            next = v.next;
            within = v.within;
            here = v.here;
            in_range = v.in_range;
            done = subst (λ xs. (k : ℕ) (d : Watch) → k < length xs → IsKept (clause_at clauses k) s.search.trail.entries s.search.starts.items (s.next + 1) (get_or xs k d) ⊎ IsWaiting (list_at ws.lists denied) i k) (sym hw)
                (each_set (λ k x. IsKept (clause_at clauses k) s.search.trail.entries s.search.starts.items (s.next + 1) x ⊎ IsWaiting (list_at ws.lists denied) i k) watched number m number_known
                (λ k d inside ne. elim (v.done k d inside) [
                  | inl k' ↦ inl k'
                  | inr waits ↦ inr (subst (λ ns. IsWaiting ns i k) (sym denied_after) (waiting_removed (list_at s.watches.lists denied) i i k (omega arith) lt (λ e. ne (sym (at ∙ e))) waits))
                ])
                (inl moved));
          }

-- a literal is forced
module _ (cnf : Cnf) (s : Solver) (l : Lit) (number : ℕ) (f : Search) (h : Forces cnf s.search f l number) where
  abbrev e : Entry
  e = record { lit = l; reason = Some number }

  abbrev forced : Solver
  forced = record { search = f; watches = s.watches; next = s.next }

  same_clauses : clauses_in cnf forced ≡ clauses_in cnf s
  same_clauses = ap (λ (x : Vec Step Global). clauses_of cnf.clauses x.items) h.steps

  same_starts : f.starts.items ≡ s.search.starts.items
  same_starts = ap (λ (x : Vec ℕ Global). x.items) h.starts

  longer : length f.trail.entries ≡ length s.search.trail.entries + 1
  longer = ap length h.entries ∙ length_push s.search.trail.entries e

  still : (n k : ℕ) (w : Watch) → n ≤ length s.search.trail.entries → Kept cnf s n k w → Kept cnf forced n k w
  still n k w le kept =
      along (λ c x y. IsKept (clause_at c k) x y n w) (clauses_in cnf s) (clauses_in cnf forced) (s.search.trail.entries ++ e ∷ []) f.trail.entries s.search.starts.items f.starts.items same_clauses h.entries same_starts
      (kept_assigned (clause_at (clauses_in cnf s) k) s.search.trail.entries e s.search.starts.items n le w kept)

  pub part_force : IsPart cnf s → IsPart cnf forced
  part_force p =
      record {
        search = h.stands;
        table = subst (λ c. IsTable c cnf.vars s.watches.watched.items s.watches.lists) (sym same_clauses) p.table;
        copied = subst (λ c. IsCopied cnf.vars c (length s.watches.watched.items) s.watches.copies.lits.items s.watches.copies.bounds.items) (sym same_clauses) p.copied;
        propagated = record {
          kept = λ k d lt. still s.next k (get_or s.watches.watched.items k d) p.propagated.reached (p.propagated.kept k d lt);
          reached = let r = p.propagated.reached in omega (arith, longer);
          level = subst (λ xs. (j : ℕ) → j < length xs → get_or xs j 0 ≤ s.next) (sym same_starts) p.propagated.level;
        };
      }

  pub forced_there : Contains (lits_of f.trail.entries) l
  forced_there = subst (λ es. Contains (lits_of es) l) (sym h.entries) (contains_last s.search.trail.entries e)

  module _ (old : Solver) (denied : Lit) (i : ℕ) (v : Visits cnf old denied i s) where
    visits_forced : Visits cnf old denied i forced
    visits_forced =
        let a = v.advances in let within = v.within in let le = a.longer in
        record {
          advances = record {
            is = record { part = part_force a.is.part; whole = a.is.whole ∙ ap length (sym same_clauses) };
            starts = h.starts ∙ a.starts;
            steps = h.steps ∙ a.steps;
            longer = omega (arith, longer);
          };
          next = v.next;
          within = omega (arith, longer);
          here = subst (λ es. IsTrueAt es (negated denied) s.next) (sym h.entries) (true_still [] s.search.trail.entries e (negated denied) s.next v.here);
          in_range = v.in_range;
          done = λ k d lt. elim (v.done k d lt) [
            | inl kept ↦ inl (still (s.next + 1) k (get_or s.watches.watched.items k d) (omega arith) kept)
            | inr waits ↦ inr waits
          ];
        }

    pub visits_force : (lt : i < length (list_at s.watches.lists denied)) (at : number ≡ get_or (list_at s.watches.lists denied) i 0) (w : Watch) (is : w ≡ get_or s.watches.watched.items number w) → Leaves denied w l → Visits cnf old denied (i + 1) forced
    visits_force lt at w is leaves = visits_keep cnf old denied i forced visits_forced number lt at w is (rests_from f.trail.entries denied w l leaves forced_there)

pub denied_here : (entries : List Entry) (next : ℕ) (d : Entry) (denied : Lit) → next < length entries → denied ≡ negated (get_or entries next d).lit → IsTrueAt entries (negated denied) next
denied_here entries next d denied lt e =
    record { within = lt; is = λ x. ap (λ (y : Entry). y.lit) (get_or_default entries next x d lt) ∙ (sym (negated-negated (get_or entries next d).lit) ∙ ap negated (sym e)) }

pub denied_bound : (vars n : ℕ) (entries : List Entry) (next : ℕ) (denied : Lit) → IsTrail n entries → n ≡ vars → IsTrueAt entries (negated denied) next → denied.var < vars
denied_bound vars n entries next denied t same at =
    let z : Entry = record { lit = denied; reason = None } in
    subst (λ m. denied.var < m) same (subst (λ (l : Lit). l.var < n) (at.is z) (t.in_range next z at.within))

pub visits_end : (cnf : Cnf) (old : Solver) (denied : Lit) (i : ℕ) (s : Solver) → Visits cnf old denied i s → length (list_at s.watches.lists denied) ≤ i → Advances cnf old (record { search = s.search; watches = s.watches; next = s.next + 1 })
visits_end cnf old denied i s v over =
    let a = v.advances in let p = a.is.part in
    record {
      is = record {
        part = record {
          search = p.search;
          table = p.table;
          copied = p.copied;
          propagated = record {
            kept = λ k d lt. elim (v.done k d lt) [ inl kept ↦ kept | inr waits ↦ let le = waits.1 in let inside = waits.2 in absurd (omega arith) ];
            reached = let w = v.within in omega arith;
            level = λ j lt. let le = p.propagated.level j lt in omega arith;
          };
        };
        whole = a.is.whole;
      };
      starts = a.starts;
      steps = a.steps;
      longer = a.longer;
    }
