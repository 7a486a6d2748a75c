use Rattle.std.proofs.Common.{◌≡◌, ◌≢◌, ◌<◌, ◌≤◌, ◌+◌, ◌-◌, ◌*◌, ℕ, zero, suc, Bool, true, false, not, List, [], ◌∷◌, ◌++◌, Some, None, Option, take, get_or, length, length-take, arith, sym, ◌∙◌, ap, subst, refl, Contains, inl, inr, Vec, Global}
use Rattle.std.proofs.lemmas.Bool.{cases_eq}
use Rattle.std.proofs.lemmas.List.{get_or_default, get_or_push, get_or_append_left, get_or-take, length_push}
use Rattle.clause_check.specs.declared.literal.Lit.{Lit}
use Rattle.clause_check.specs.declared.formula.Step.{Step}
use Rattle.clause_check.specs.declared.formula.Cnf.{Cnf}
use Rattle.clause_check.specs.Clauses.{negated}
use Rattle.clause_check.specs.Looks.{Shows, value_of}
use Rattle.clause_check.specs.Derivations.{clause_at, clauses_of, IsClauseAt}
use Rattle.clause_check.proofs.Members.{negated-negated}
use Rattle.clause_check.proofs.RefuteLemmas.{length-clauses_of, clause_of_input, cases_lit}
use Rattle.cdcl.specs.declared.trail.Entry.{Entry}
use Rattle.cdcl.specs.declared.search.Search.{Search}
use Rattle.cdcl.specs.declared.learn.Learnt.{Learnt}
use Rattle.cdcl.specs.declared.watches.Watch.{Watch}
use Rattle.cdcl.specs.declared.watches.Watches.{Watches}
use Rattle.cdcl.specs.declared.solver.Solver.{Solver}
use Rattle.cdcl.specs.Closed.{IsMet}
use Rattle.cdcl.specs.Marking.{IsForcedBy}
use Rattle.cdcl.specs.Trails.{lits_of, IsTrail}
use Rattle.cdcl.specs.Search.{IsLesson, LastLevel}
use Rattle.cdcl.specs.Solvers.{Stands, Chooses, Forces, Jumps, IsComplete}
use Rattle.cdcl.specs.Lists.{IsRoomFor, list_at, listed}
use Rattle.cdcl.specs.Copying.{IsCopied}
use Rattle.cdcl.specs.Watching.{IsTrueAt, IsKept, IsWatchOf, IsTable, IsPropagated}
use Rattle.cdcl.specs.Turns.{IsPart, IsSolver, Begins, IsLearntWatch, IsLost, Learns, WatchesMore}
use Rattle.cdcl.proofs.EndLemmas.{value_cases}
use Rattle.cdcl.proofs.FollowLemmas.{same_place}
use Rattle.cdcl.proofs.LearnLemmas.{trail_consistent}
use Rattle.cdcl.proofs.SearchLemmas.{clauses_push}
use Rattle.cdcl.proofs.TrailLemmas.{avoids_from_free, place_of_lit, contains_at}
use Rattle.cdcl.proofs.CopyLemmas.{copied_push, copied_among, copied_none}
use Rattle.cdcl.proofs.TableLemmas.{each_pushed, table_push, room_for}
use Rattle.cdcl.proofs.WatchLemmas.{Cases, met_from_kept, contains_true, true_at, kept_assigned, kept_decided, kept_cut, kept_learnt}
use Rattle.cdcl.proofs.VisitSteps.{clauses_in, along, part_force}

-- one more clause is watched
pub watches_more : (cnf : Cnf) (s : Solver) (w : Watch) (ws : Watches) (clause : List Lit) → IsPart cnf s → IsWatchOf (clause_at (clauses_in cnf s) (length s.watches.watched.items)) w → w.first.var < cnf.vars → w.second.var < cnf.vars → IsKept (clause_at (clauses_in cnf s) (length s.watches.watched.items)) s.search.trail.entries s.search.starts.items s.next w → ws.watched.items ≡ s.watches.watched.items ++ w ∷ [] → ws.lists ≡ listed (listed s.watches.lists w.first (length s.watches.watched.items)) w.second (length s.watches.watched.items) → IsClauseAt cnf.vars (clauses_in cnf s) (length s.watches.watched.items) clause → ws.copies.lits.items ≡ s.watches.copies.lits.items ++ clause → ws.copies.bounds.items ≡ s.watches.copies.bounds.items ++ length ws.copies.lits.items ∷ [] → WatchesMore cnf s (record { search = s.search; watches = ws; next = s.next })
watches_more cnf s w ws clause p is first second kept hw hl at hlits hbounds =
    let clauses = clauses_in cnf s in let watched = s.watches.watched.items in let n = length watched in
    let room : (l : Lit) → l.var < cnf.vars → IsRoomFor s.watches.lists l = room_for clauses cnf.vars watched s.watches.lists p.table in
    let lits = s.watches.copies.lits.items ++ clause in
    let count : length ws.watched.items ≡ n + 1 = ap length hw ∙ length_push watched w in
    let bounds : ws.copies.bounds.items ≡ s.watches.copies.bounds.items ++ length lits ∷ [] = hbounds ∙ ap (λ (xs : List Lit). s.watches.copies.bounds.items ++ length xs ∷ []) hlits in
    let copied_more : IsCopied cnf.vars clauses (length ws.watched.items) ws.copies.lits.items ws.copies.bounds.items =
    subst (λ c. IsCopied cnf.vars clauses c ws.copies.lits.items ws.copies.bounds.items) (sym count)
    (subst (λ xs. IsCopied cnf.vars clauses (n + 1) xs ws.copies.bounds.items) (sym hlits)
    (subst (IsCopied cnf.vars clauses (n + 1) lits) (sym bounds) (copied_push cnf.vars clauses n s.watches.copies.lits.items s.watches.copies.bounds.items clause p.copied at))) in
    record {
      part = record {
        search = p.search;
        table = subst (λ x. IsTable clauses cnf.vars x ws.lists) (sym hw) (subst (IsTable clauses cnf.vars (watched ++ w ∷ [])) (sym hl) (table_push clauses cnf.vars watched s.watches.lists w p.table (room w.first first) (room w.second second) is (first, second)));
        propagated = subst (IsPropagated clauses s.search.trail.entries s.search.starts.items s.next) (sym hw)
            (record {
              kept = each_pushed (λ k x. IsKept (clause_at clauses k) s.search.trail.entries s.search.starts.items s.next x) watched w p.propagated.kept kept;
              reached = p.propagated.reached;
              level = p.propagated.level;
            });
        copied = copied_more;
      };
      search = refl;
      next = refl;
      count = ap length hw ∙ length_push watched w;
    }

-- each input clause is watched
pub solver_from : (cnf : Cnf) (s : Solver) → Begins cnf (length cnf.clauses) s → IsSolver cnf s
solver_from cnf s b = record { part = b.part; whole = omega (arith, length-clauses_of cnf.clauses s.search.steps.items, b.watched, b.steps) }

cases_sign : (entries : List Entry) (v : ℕ) (n b : Bool) → Contains (lits_of entries) (record { var = v; negative = not b }) → Cases entries (record { var = v; negative = n })
cases_sign entries v true true h = inr (inl h)
cases_sign entries v true false h = inl h
cases_sign entries v false true h = inl h
cases_sign entries v false false h = inr (inl h)

cases_in : (values : List (Option Bool)) (entries : List Entry) → Shows values (lits_of entries) → (l : Lit) → Cases entries l
cases_in values entries shows l = elim (value_cases (value_of values l.var)) [
  | inl free ↦ inr (inr (avoids_from_free values (lits_of entries) l shows free))
  | inr b ↦ cases_sign entries l.var l.negative b.0 ((shows l.var b.0).0 b.1)
]

-- where each place is propagated, each clause is met
pub complete_from : (cnf : Cnf) (s : Solver) (values : List (Option Bool)) → Shows values (lits_of s.search.trail.entries) → IsSolver cnf s → length s.search.trail.entries ≤ s.next → IsComplete cnf s.search
complete_from cnf s values shows is over k d lt =
    let p = is.part.propagated in let r = p.reached in
    let n : s.next ≡ length s.search.trail.entries = omega arith in
    let z : Lit = record { var = 0; negative = false } in
    let w = get_or s.watches.watched.items k (record { first = z; second = z }) in
    let kept = p.kept k (record { first = z; second = z }) (omega (arith, is.whole)) in
    subst (IsMet (lits_of s.search.trail.entries)) (get_or_default (clauses_in cnf s) k [] d lt)
    (met_from_kept (clause_at (clauses_in cnf s) k) s.search.trail.entries s.search.starts.items w (cases_in values s.search.trail.entries shows w.first) (cases_in values s.search.trail.entries shows w.second)
    (subst (λ m. IsKept (clause_at (clauses_in cnf s) k) s.search.trail.entries s.search.starts.items m w) n kept))

-- a literal is chosen
pub part_decide : (cnf : Cnf) (s : Solver) (f : Search) → IsSolver cnf s → length s.search.trail.entries ≤ s.next → Chooses cnf s.search f → IsSolver cnf (record { search = f; watches = s.watches; next = s.next })
part_decide cnf s f is over h =
    let p = is.part.propagated in let r = p.reached in
    let entries = s.search.trail.entries in let starts = s.search.starts.items in
    let e : Entry = record { lit = h.lit; reason = None } in
    let same : clauses_of cnf.clauses f.steps.items ≡ clauses_in cnf s = ap (λ (x : Vec Step Global). clauses_of cnf.clauses x.items) h.steps in
    record {
      part = record {
        search = h.stands;
        table = subst (λ c. IsTable c cnf.vars s.watches.watched.items s.watches.lists) (sym same) is.part.table;
        copied = subst (λ c. IsCopied cnf.vars c (length s.watches.watched.items) s.watches.copies.lits.items s.watches.copies.bounds.items) (sym same) is.part.copied;
        propagated = record {
          kept = λ k d lt.
              along (λ c x y. IsKept (clause_at c k) x y s.next (get_or s.watches.watched.items k d)) (clauses_in cnf s) (clauses_of cnf.clauses f.steps.items) (entries ++ e ∷ []) f.trail.entries (starts ++ length entries ∷ []) f.starts.items same h.entries h.starts
              (kept_decided (clause_at (clauses_in cnf s) k) entries e starts s.next r (get_or s.watches.watched.items k d) (p.kept k d lt));
          reached = omega (arith, ap length h.entries, length_push entries e);
          level = subst (λ xs. (j : ℕ) → j < length xs → get_or xs j 0 ≤ s.next) (sym h.starts)
              (λ j lt. elim (cases_eq j (length starts)) [
                | inl i ↦ omega (arith, get_or_push starts (length entries) 0 j (sym i))
                | inr ne ↦
                    let below : j < length starts = omega (arith, length_push starts (length entries)) in
                    let le = p.level j below in
                    omega (arith, get_or_append_left starts (length entries ∷ []) 0 j below)
              ]);
        };
      };
      whole = is.whole ∙ ap length (sym same);
    }

-- a jump back with a learnt clause
module _ (cnf : Cnf) (s : Solver) (is : IsSolver cnf s) (l : Learnt) (last : LastLevel s.search.starts.items (λ start. IsLesson cnf s.search.steps.items s.search.trail.entries start l)) (f : Search) (j : Jumps cnf s.search f l) (w : Watch) (hw : IsLearntWatch s.search.trail.entries l w) where
  abbrev entries : List Entry
  entries = s.search.trail.entries

  abbrev starts : List ℕ
  starts = s.search.starts.items

  abbrev watched : List Watch
  watched = s.watches.watched.items

  abbrev t : ℕ
  t = get_or starts j.keep 0

  abbrev front : List Entry
  front = take t entries

  abbrev e : Entry
  e = record { lit = l.lit; reason = Some j.number }

  abbrev clauses : List (List Lit)
  clauses = clauses_in cnf s

  abbrev lesson : IsLesson cnf s.search.steps.items entries (get_or starts last.0 0) l
  lesson = last.2

  in_trail : t < length entries
  in_trail = is.part.search.within j.keep j.few

  front_length : length front ≡ t
  front_length = omega (arith, in_trail, length-take t entries)

  late_enough : l.bound ≤ t
  late_enough = j.splits.above j.keep (omega arith) j.few

  same_clauses : clauses_of cnf.clauses f.steps.items ≡ clauses ++ l.step.clause ∷ []
  same_clauses = ap (clauses_of cnf.clauses) j.steps ∙ clauses_push cnf.clauses s.search.steps.items l.step

  abbrev jumped : Solver
  jumped = record { search = f; watches = s.watches; next = length f.trail.entries - 1 }

  next_is : length f.trail.entries - 1 ≡ t
  next_is = omega (arith, ap length j.entries, length_push front e, front_length)

  clause_still : (k : ℕ) → k < length watched → clause_at (clauses ++ l.step.clause ∷ []) k ≡ clause_at clauses k
  clause_still k lt = get_or_append_left clauses (l.step.clause ∷ []) [] k (omega (arith, is.whole))

  pub clause_new : clause_at (clauses_in cnf jumped) (length watched) ≡ l.step.clause
  clause_new = ap (λ c. clause_at c (length watched)) same_clauses ∙ get_or_push clauses l.step.clause [] (length watched) (sym is.whole)

  pub known_new : length watched < length (clauses_in cnf jumped)
  known_new = omega (arith, ap length same_clauses, length_push clauses l.step.clause, is.whole)

  table_jumped : IsTable (clauses_in cnf jumped) cnf.vars watched s.watches.lists
  table_jumped =
      let t' = is.part.table in
      subst (λ c. IsTable c cnf.vars watched s.watches.lists) (sym same_clauses)
      (record {
        room = t'.room;
        each = λ k d lt. subst (λ c. IsWatchOf c (get_or watched k d)) (sym (clause_still k lt)) (t'.each k d lt);
        first = t'.first;
        second = t'.second;
        in_range = t'.in_range;
        numbers = t'.numbers;
      })

  copied_jumped : IsCopied cnf.vars (clauses_in cnf jumped) (length watched) s.watches.copies.lits.items s.watches.copies.bounds.items
  copied_jumped =
      subst (λ c. IsCopied cnf.vars c (length watched) s.watches.copies.lits.items s.watches.copies.bounds.items) (sym same_clauses)
      (copied_among cnf.vars clauses (clauses ++ l.step.clause ∷ []) (length watched) s.watches.copies.lits.items s.watches.copies.bounds.items (omega (arith, length_push clauses l.step.clause)) clause_still is.part.copied)

  levels : (i : ℕ) → i < length (take j.keep starts) → (get_or (take j.keep starts) i 0 < l.bound) × (get_or (take j.keep starts) i 0 ≤ t)
  levels i lt =
      let k : i < j.keep = omega (arith, length-take j.keep starts) in
      let at = get_or-take j.keep starts i 0 k in
      let b = j.splits.below i k in
      (omega (arith, at), omega (arith, at, late_enough))

  pub part_jump : IsPart cnf jumped
  part_jump =
      let p = is.part.propagated in
      record {
        search = j.stands;
        table = table_jumped;
        copied = copied_jumped;
        propagated = subst (λ n. IsPropagated (clauses_in cnf jumped) f.trail.entries f.starts.items n watched) (sym next_is)
            (record {
              kept = λ k d lt.
                  along (λ c x y. IsKept (clause_at c k) x y t (get_or watched k d)) (clauses ++ l.step.clause ∷ []) (clauses_in cnf jumped) (front ++ e ∷ []) f.trail.entries (take j.keep starts) f.starts.items same_clauses j.entries j.starts
                  (subst (λ c. IsKept c (front ++ e ∷ []) (take j.keep starts) t (get_or watched k d)) (sym (clause_still k lt))
                  (kept_assigned (clause_at clauses k) front e (take j.keep starts) t (omega (arith, front_length)) (get_or watched k d)
                  (kept_cut (clause_at clauses k) entries starts is.part.search.rising j.keep j.few s.next (p.level j.keep j.few) (get_or watched k d) (p.kept k d lt))));
              reached = omega (arith, ap length j.entries, length_push front e, front_length);
              level = subst (λ xs. (i : ℕ) → i < length xs → get_or xs i 0 ≤ t) (sym j.starts) (λ i lt. (levels i lt).1);
            });
      }

  alone : l.bound ≡ 0 → (m : Lit) → Contains l.step.clause m → m ≡ l.lit
  alone none m h = elim (cases_lit m l.lit) [
    | inl same ↦ same
    | inr ne ↦
        let p = lesson.others m h ne in
        let q = place_of_lit (take l.bound entries) (negated m) p in
        absurd (omega (arith, q.1, length-take l.bound entries, none))
  ]

  -- the literal that is false at the last place before the bound
  second_is : (b : ℕ) → l.bound ≡ b + 1 → (m : Lit) × Contains l.step.clause m × (m.var ≢ l.lit.var) × ((d : Entry) → (get_or entries b d).lit ≡ negated m)
  second_is b is' = elim lesson.last [
    | inl none ↦ absurd (omega (arith, none))
    | inr m ↦
        let ne : m.0 ≢ l.lit = λ same. m.2 (ap (λ (x : Lit). x.var) same) in
        let q = place_of_lit (take l.bound entries) (negated m.0) (lesson.others m.0 m.1 ne) in
        let early : q.0 < l.bound = omega (arith, q.1, length-take l.bound entries) in
        let at : (d : Entry) → (get_or entries q.0 d).lit ≡ negated m.0 = λ d. ap (λ (x : Entry). x.lit) (sym (get_or-take l.bound entries q.0 d early)) ∙ q.2 d in
        let there : q.0 ≡ b = elim (cases_eq q.0 b) [
          | inl same ↦ same
          | inr other ↦
              let z : Entry = record { lit = l.lit; reason = None } in
              let inside : q.0 < length (take (l.bound - 1) entries) = omega (arith, q.1, length-take l.bound entries, length-take (l.bound - 1) entries) in
              let c = contains_at (take (l.bound - 1) entries) q.0 z inside in
              absurd (m.3.negation (subst (Contains (lits_of (take (l.bound - 1) entries))) (ap (λ (x : Entry). x.lit) (get_or-take (l.bound - 1) entries q.0 z (omega arith)) ∙ at z) c))
        ] in
        (m.0, m.1, m.2, λ d. ap (λ n. (get_or entries n d).lit) (sym there) ∙ at d)
  ]

  second_watched : (b : ℕ) (h : l.bound ≡ b + 1) → w.second ≡ (second_is b h).0
  second_watched b h = hw.second b e h ∙ (ap negated ((second_is b h).3 e) ∙ negated-negated (second_is b h).0)

  watch_cases : (n : ℕ) → l.bound ≡ n → IsWatchOf l.step.clause w × IsKept l.step.clause (front ++ e ∷ []) (take j.keep starts) t w × (w.second.var < cnf.vars)
  watch_cases zero none =
      let both : w.second ≡ l.lit = hw.alone none in (
        record {
          first = subst (Contains l.step.clause) (sym hw.first) lesson.among;
          second = subst (Contains l.step.clause) (sym both) lesson.among;
          apart = inr (λ m h. alone none m h ∙ sym hw.first);
        },
        inr (
          l.lit,
          lesson.among,
          (
            t,
            record { within = omega (arith, length_push front e, front_length); is = λ d. ap (λ (x : Entry). x.lit) (get_or_push front e d t front_length) },
            λ i lt. let b = (levels i lt).0 in absurd (omega arith),
          ),
        ),
        subst (λ (x : Lit). x.var < cnf.vars) (sym both) lesson.in_range,
      )
  watch_cases (suc b) more =
      let h : l.bound ≡ b + 1 = omega arith in
      let m = second_is b h in
      let is' = second_watched b h in
      let inside : b < t = omega (arith, late_enough) in
      let at : IsTrueAt (front ++ e ∷ []) (negated w.second) b =
      record {
        within = omega (arith, length_push front e, front_length);
        is = λ d. ap (λ (x : Entry). x.lit) (get_or_append_left front (e ∷ []) d b (omega (arith, front_length)) ∙ get_or-take t entries b d inside) ∙ (m.3 d ∙ ap negated (sym is'));
      } in
      let here : IsTrueAt (front ++ e ∷ []) w.first t =
      record { within = omega (arith, length_push front e, front_length); is = λ d. ap (λ (x : Entry). x.lit) (get_or_push front e d t front_length) ∙ sym hw.first } in
      let trail : IsTrail f.trail.vars (front ++ e ∷ []) = subst (IsTrail f.trail.vars) j.entries j.stands.trail in
      let first : Contains l.step.clause w.first = subst (Contains l.step.clause) (sym hw.first) lesson.among in
      let second : Contains l.step.clause w.second = subst (Contains l.step.clause) (sym is') m.1 in
      let apart : w.first.var ≢ w.second.var = λ same. m.2 (ap (λ (x : Lit). x.var) (sym is') ∙ (sym same ∙ ap (λ (x : Lit). x.var) hw.first)) in (
        record { first = first; second = second; apart = inl apart },
        kept_learnt l.step.clause (front ++ e ∷ []) (take j.keep starts) t w b first second apart here at
            (λ p k. same_place f.trail.vars (front ++ e ∷ []) trail p b e k.within at.within (ap (λ (x : Lit). x.var) (k.is e ∙ sym (at.is e))))
            (λ p k. trail_consistent f.trail.vars (front ++ e ∷ []) trail w.first (contains_true (front ++ e ∷ []) w.first t here) (contains_true (front ++ e ∷ []) (negated w.first) p k))
            (λ i lt. let x = (levels i lt).0 in omega arith),
        subst (λ n. w.second.var < n) (is.part.search.vars_are) (subst (λ (x : Lit). x.var < s.search.trail.vars) (sym (hw.second b e h)) (is.part.search.trail.in_range b e (omega (arith, in_trail)))),
      )

  abbrev both : IsWatchOf l.step.clause w × IsKept l.step.clause (front ++ e ∷ []) (take j.keep starts) t w × (w.second.var < cnf.vars)
  both = watch_cases l.bound refl

  pub learnt_is : IsWatchOf (clause_at (clauses_in cnf jumped) (length watched)) w
  learnt_is = subst (λ c. IsWatchOf c w) (sym clause_new) both.0

  pub learnt_kept : IsKept (clause_at (clauses_in cnf jumped) (length watched)) f.trail.entries f.starts.items (length f.trail.entries - 1) w
  learnt_kept =
      subst (λ c. IsKept c f.trail.entries f.starts.items (length f.trail.entries - 1) w) (sym clause_new)
      (subst (λ n. IsKept l.step.clause f.trail.entries f.starts.items n w) (sym next_is)
      (subst (λ x. IsKept l.step.clause x f.starts.items t w) (sym j.entries)
      (subst (λ y. IsKept l.step.clause (front ++ e ∷ []) y t w) (sym j.starts) both.1)))

  pub learnt_first : w.first.var < cnf.vars
  learnt_first = subst (λ (x : Lit). x.var < cnf.vars) (sym hw.first) lesson.in_range

  pub learnt_second : w.second.var < cnf.vars
  learnt_second = both.2

  pub learns_from : (n : ℕ) (new : Solver) → WatchesMore cnf (record { search = f; watches = s.watches; next = n }) new → Learns cnf s new
  learns_from n new h =
      let more : length new.search.steps.items ≡ length s.search.steps.items + 1 = ap (λ (x : Search). length x.steps.items) h.search ∙ (ap length j.steps ∙ length_push s.search.steps.items l.step) in
      record {
        is = record {
          part = h.part;
          whole = h.count ∙ (ap (λ n'. n' + 1) is.whole ∙ (sym (length_push clauses l.step.clause) ∙ (ap length (sym same_clauses) ∙ ap (λ (x : Search). length (clauses_of cnf.clauses x.steps.items)) (sym h.search))));
        };
        steps = more;
      }

-- the clause that is watched next
clause_here : (cnf : Cnf) (number : ℕ) (s : Solver) → Begins cnf number s → number < length cnf.clauses → clause_at (clauses_in cnf s) number ≡ clause_at cnf.clauses number
clause_here cnf number s b lt = clause_of_input cnf.clauses s.search.steps.items number lt

known_here : (cnf : Cnf) (number : ℕ) (s : Solver) → number < length cnf.clauses → number < length (clauses_in cnf s)
known_here cnf number s lt = omega (arith, length-clauses_of cnf.clauses s.search.steps.items)

module _ (cnf : Cnf) (number : ℕ) (s : Solver) (b : Begins cnf number s) (lt : number < length cnf.clauses) where
  module _ (lit : Lit) (among : Contains (clause_at cnf.clauses number) lit) (alone' : (m : Lit) → Contains (clause_at cnf.clauses number) m → m ≡ lit) where
    one : (m : Lit) → Contains (clause_at (clauses_in cnf s) number) m → m ≡ lit
    one m h = alone' m (subst (λ c. Contains c m) (clause_here cnf number s b lt) h)

    pub forced_unit : IsForcedBy (clauses_in cnf s) s.search.trail.entries lit number
    forced_unit = record { known = known_here cnf number s lt; among = subst (λ c. Contains c lit) (sym (clause_here cnf number s b lt)) among; others = λ m h ne. absurd (ne (one m h)) }

    pub lost_unit : Contains (lits_of s.search.trail.entries) (negated lit) → IsLost cnf s.search number
    lost_unit false' =
        record {
          stands = b.part.search;
          conflict = record { known = known_here cnf number s lt; all_false = λ m h. subst (λ l. Contains (lits_of s.search.trail.entries) (negated l)) (sym (one m h)) false' };
          starts = b.starts;
        }

    pub unit_watch_of : IsWatchOf (clause_at (clauses_in cnf s) (length s.watches.watched.items)) (record { first = lit; second = lit })
    unit_watch_of =
        subst (λ n. IsWatchOf (clause_at (clauses_in cnf s) n) (record { first = lit; second = lit })) (sym b.watched)
        (let h = subst (λ c. Contains c lit) (sym (clause_here cnf number s b lt)) among in record { first = h; second = h; apart = inr one })

    pub unit_kept : Contains (lits_of s.search.trail.entries) lit → IsKept (clause_at (clauses_in cnf s) (length s.watches.watched.items)) s.search.trail.entries s.search.starts.items s.next (record { first = lit; second = lit })
    unit_kept true' =
        subst (λ n. IsKept (clause_at (clauses_in cnf s) n) s.search.trail.entries s.search.starts.items s.next (record { first = lit; second = lit })) (sym b.watched)
        (let q = true_at s.search.trail.entries lit true' in inr (lit, subst (λ c. Contains c lit) (sym (clause_here cnf number s b lt)) among, (q.0, q.1, λ i inside. absurd (omega (arith, b.starts)))))

  pub lost_empty : length (clause_at cnf.clauses number) ≡ 0 → IsLost cnf s.search number
  lost_empty none =
      record {
        stands = b.part.search;
        conflict = record { known = known_here cnf number s lt; all_false = λ m h. let inside = h.1 in absurd (omega (arith, ap length (clause_here cnf number s b lt), none)) };
        starts = b.starts;
      }

  pub begins_force : (lit : Lit) (f : Search) → Forces cnf s.search f lit number → Begins cnf number (record { search = f; watches = s.watches; next = s.next })
  begins_force lit f h =
      record {
        part = part_force cnf s lit number f h b.part;
        watched = b.watched;
        starts = ap (λ (x : Vec ℕ Global). length x.items) h.starts ∙ b.starts;
        steps = ap (λ (x : Vec Step Global). length x.items) h.steps ∙ b.steps;
        next = b.next;
      }

  pub begins_more : (new : Solver) → WatchesMore cnf s new → Begins cnf (number + 1) new
  begins_more new h =
      record {
        part = h.part;
        watched = h.count ∙ ap (λ n. n + 1) b.watched;
        starts = ap (λ (x : Search). length x.starts.items) h.search ∙ b.starts;
        steps = ap (λ (x : Search). length x.steps.items) h.search ∙ b.steps;
        next = h.next ∙ b.next;
      }

  -- a clause of two literals or more
  module _ (first second : Lit) (f : Contains (clause_at cnf.clauses number) first) (g : Contains (clause_at cnf.clauses number) second) (apart : first.var ≢ second.var) where
    pub pair_watch_of : IsWatchOf (clause_at (clauses_in cnf s) (length s.watches.watched.items)) (record { first = first; second = second })
    pair_watch_of =
        subst (λ n. IsWatchOf (clause_at (clauses_in cnf s) n) (record { first = first; second = second })) (sym b.watched)
        (subst (λ c. IsWatchOf c (record { first = first; second = second })) (sym (clause_here cnf number s b lt)) (record { first = f; second = g; apart = inl apart }))

    pub pair_kept : IsKept (clause_at (clauses_in cnf s) (length s.watches.watched.items)) s.search.trail.entries s.search.starts.items s.next (record { first = first; second = second })
    pair_kept =
        subst (λ n. IsKept (clause_at (clauses_in cnf s) n) s.search.trail.entries s.search.starts.items s.next (record { first = first; second = second })) (sym b.watched)
        (subst (λ c. IsKept c s.search.trail.entries s.search.starts.items s.next (record { first = first; second = second })) (sym (clause_here cnf number s b lt))
        (inl (record { first = f; second = g; apart = apart; first_guarded = λ p early h. absurd (omega (arith, b.next)); second_guarded = λ p early h. absurd (omega (arith, b.next)) })))

pub one_of_one : (c : List Lit) (d : Lit) → length c ≡ 1 → (m : Lit) → Contains c m → m ≡ get_or c 0 d
one_of_one c d len m h =
    let inside = h.1 in
    let z : h.0 ≡ 0 = omega arith in
    sym h.2 ∙ (ap (λ n. get_or c n m) z ∙ get_or_default c 0 m d (omega arith))

pub begins_new : (cnf : Cnf) (s : Search) (ws : Watches) → Stands cnf s → length s.steps.items ≡ 0 → length s.starts.items ≡ 0 → ws.watched.items ≡ [] → length ws.lists ≡ 2 * cnf.vars → ((l : Lit) → length (list_at ws.lists l) ≡ 0) → ws.copies.lits.items ≡ [] → ws.copies.bounds.items ≡ 0 ∷ [] → Begins cnf 0 (record { search = s; watches = ws; next = 0 })
begins_new cnf s ws stands steps starts watched room empty lits bounds =
    let none : length ws.watched.items ≡ 0 = ap length watched in
    record {
      part = record {
        search = stands;
        table = record {
          room = room;
          each = λ k d lt. absurd (omega (arith, none));
          first = λ k d lt. absurd (omega (arith, none));
          second = λ k d lt. absurd (omega (arith, none));
          in_range = λ k d lt. absurd (omega (arith, none));
          numbers = λ l j lt. absurd (omega (arith, empty l));
        };
        propagated = record {
          kept = λ k d lt. absurd (omega (arith, none));
          reached = omega arith;
          level = λ i lt. absurd (omega (arith, starts));
        };
        copied =
            subst (λ n. IsCopied cnf.vars (clauses_of cnf.clauses s.steps.items) n ws.copies.lits.items ws.copies.bounds.items) (sym none)
            (copied_none cnf.vars (clauses_of cnf.clauses s.steps.items) ws.copies.lits.items ws.copies.bounds.items lits bounds);
      };
      watched = none;
      starts = starts;
      steps = steps;
      next = refl;
    }
