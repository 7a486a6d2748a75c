use Rattle.std.proofs.Common.{◌≡◌, ◌≢◌, ◌<◌, ◌≤◌, ◌+◌, ◌*◌, ℕ, Bool, true, false, cond, List, [], ◌∷◌, ◌++◌, set, get_or, length, length-set, arith, sym, ◌∙◌, ap, subst, inl, inr, get_or-set_same, get_or-set_other}
use Rattle.std.specs.List.{swap_remove}
use Rattle.std.proofs.lemmas.Bool.{cases_eq}
use Rattle.std.proofs.lemmas.List.{get_or_push, get_or_append_left, length_push}
use Rattle.clause_check.specs.declared.literal.Lit.{Lit}
use Rattle.clause_check.specs.Derivations.{clause_at}
use Rattle.cdcl.specs.declared.watches.Watch.{Watch}
use Rattle.cdcl.specs.Lists.{code, IsRoomFor, IsWaiting, IsBelow, list_at, listed, unlisted}
use Rattle.cdcl.specs.Watching.{IsWatchOf, IsTable}
use Rattle.cdcl.proofs.ListLemmas.{list_after, list_same, list_other, room_still, waiting_pushed, waiting_last, waiting_removed, below_pushed, below_removed}

pub waiting_listed : (lists : List (List ℕ)) (l m : Lit) (n i k : ℕ) → IsRoomFor lists l → IsWaiting (list_at lists m) i k → IsWaiting (list_at (listed lists l n) m) i k
waiting_listed lists l m n i k room h =
    list_after (λ ns. IsWaiting ns i k) lists l m (list_at lists l ++ n ∷ []) room
    (λ e. waiting_pushed (list_at lists l) i k n (subst (λ x. IsWaiting (list_at lists x) i k) e h))
    (λ ne. h)

pub waiting_there : (lists : List (List ℕ)) (l : Lit) (n : ℕ) → IsRoomFor lists l → IsWaiting (list_at (listed lists l n) l) 0 n
waiting_there lists l n room = subst (λ ns. IsWaiting ns 0 n) (sym (list_same lists l (list_at lists l ++ n ∷ []) room)) (waiting_last (list_at lists l) n)

pub waiting_unlisted : (lists : List (List ℕ)) (l m : Lit) (a i k : ℕ) → IsRoomFor lists l → a ≤ i → i < length (list_at lists l) → get_or (list_at lists l) i 0 ≢ k → IsWaiting (list_at lists m) a k → IsWaiting (list_at (unlisted lists l i) m) a k
waiting_unlisted lists l m a i k room le lt ne h =
    list_after (λ ns. IsWaiting ns a k) lists l m (swap_remove (list_at lists l) i 0) room
    (λ e. waiting_removed (list_at lists l) a i k le lt ne (subst (λ x. IsWaiting (list_at lists x) a k) e h))
    (λ ne'. h)

below_listed : (lists : List (List ℕ)) (l m : Lit) (n b : ℕ) → IsRoomFor lists l → n < b → ((x : Lit) → IsBelow b (list_at lists x)) → IsBelow b (list_at (listed lists l n) m)
below_listed lists l m n b room lt h =
    list_after (IsBelow b) lists l m (list_at lists l ++ n ∷ []) room (λ e. below_pushed (list_at lists l) b n lt (h l)) (λ ne. h m)

below_unlisted : (lists : List (List ℕ)) (l m : Lit) (i b : ℕ) → IsRoomFor lists l → i < length (list_at lists l) → ((x : Lit) → IsBelow b (list_at lists x)) → IsBelow b (list_at (unlisted lists l i) m)
below_unlisted lists l m i b room lt h =
    list_after (IsBelow b) lists l m (swap_remove (list_at lists l) i 0) room (λ e. below_removed (list_at lists l) b i lt (h l)) (λ ne. h m)

below_longer : (a b : ℕ) (ns : List ℕ) → a ≤ b → IsBelow a ns → IsBelow b ns
below_longer a b ns le h j lt = let x = h j lt in omega arith

-- what holds of each of a list and of one more
pub each_pushed : (P : ℕ → Watch → Type 0) (watched : List Watch) (w : Watch) → ((k : ℕ) (d : Watch) → k < length watched → P k (get_or watched k d)) → P (length watched) w → (k : ℕ) (d : Watch) → k < length (watched ++ w ∷ []) → P k (get_or (watched ++ w ∷ []) k d)
each_pushed P watched w h one k d lt = elim (cases_eq k (length watched)) [
  | inl e ↦ subst (P k) (sym (get_or_push watched w d k (sym e))) (subst (λ n. P n w) (sym e) one)
  | inr ne ↦
      let early : k < length watched = omega (arith, length_push watched w) in
      subst (P k) (sym (get_or_append_left watched (w ∷ []) d k early)) (h k d early)
]

-- the same where one of them is replaced
pub each_set : (P : ℕ → Watch → Type 0) (watched : List Watch) (n : ℕ) (w : Watch) → n < length watched → ((k : ℕ) (d : Watch) → k < length watched → k ≢ n → P k (get_or watched k d)) → P n w → (k : ℕ) (d : Watch) → k < length (set watched n w) → P k (get_or (set watched n w) k d)
each_set P watched n w inside h one k d lt = elim (cases_eq k n) [
  | inl e ↦ subst (λ j. P j (get_or (set watched n w) j d)) (sym e) (subst (P n) (sym (get_or-set_same watched n w d inside)) one)
  | inr ne ↦ subst (P k) (sym (get_or-set_other watched n k w d ne)) (h k d (omega (arith, length-set watched n w)) ne)
]

-- the next clause
pub table_push : (clauses : List (List Lit)) (vars : ℕ) (watched : List Watch) (lists : List (List ℕ)) (w : Watch) → IsTable clauses vars watched lists → IsRoomFor lists w.first → IsRoomFor lists w.second → IsWatchOf (clause_at clauses (length watched)) w → (w.first.var < vars) × (w.second.var < vars) → IsTable clauses vars (watched ++ w ∷ []) (listed (listed lists w.first (length watched)) w.second (length watched))
table_push clauses vars watched lists w t first second one bounds =
    let n = length watched in
    let mid = listed lists w.first n in
    let second' : IsRoomFor mid w.second = room_still lists w.first w.second (list_at lists w.first ++ n ∷ []) second in
    let more : length (watched ++ w ∷ []) ≡ n + 1 = length_push watched w in
    let still : (m : Lit) (k : ℕ) → IsWaiting (list_at lists m) 0 k → IsWaiting (list_at (listed mid w.second n) m) 0 k =
    λ m k h. waiting_listed mid w.second m n 0 k second' (waiting_listed lists w.first m n 0 k first h) in
    record {
      room = length-set mid (code w.second) (list_at mid w.second ++ n ∷ []) ∙ (length-set lists (code w.first) (list_at lists w.first ++ n ∷ []) ∙ t.room);
      each = each_pushed (λ k x. IsWatchOf (clause_at clauses k) x) watched w t.each one;
      in_range = each_pushed (λ k x. (x.first.var < vars) × (x.second.var < vars)) watched w t.in_range bounds;
      first = each_pushed (λ k x. IsWaiting (list_at (listed mid w.second n) x.first) 0 k) watched w (λ k d lt. still (get_or watched k d).first k (t.first k d lt)) (waiting_listed mid w.second w.first n 0 n second' (waiting_there lists w.first n first));
      second = each_pushed (λ k x. IsWaiting (list_at (listed mid w.second n) x.second) 0 k) watched w (λ k d lt. still (get_or watched k d).second k (t.second k d lt)) (waiting_there mid w.second n second');
      numbers = λ l. subst (λ b. IsBelow b (list_at (listed mid w.second n) l)) (sym more) (below_listed mid w.second l n (n + 1) second' (omega arith) (λ x. below_listed lists w.first x n (n + 1) first (omega arith) (λ y. below_longer n (n + 1) (list_at lists y) (omega arith) (t.numbers y))));
    }

-- a clause watches another literal
pub table_replace : (clauses : List (List Lit)) (vars : ℕ) (watched : List Watch) (lists : List (List ℕ)) (denied : Lit) (i n : ℕ) (m : Watch) → IsTable clauses vars watched lists → IsRoomFor lists denied → IsRoomFor lists m.first → i < length (list_at lists denied) → get_or (list_at lists denied) i 0 ≡ n → n < length watched → m.first ≢ denied → m.second ≢ denied → IsWatchOf (clause_at clauses n) m → ((d : Watch) → IsWaiting (list_at lists m.second) 0 n) → (m.first.var < vars) × (m.second.var < vars) → IsTable clauses vars (set watched n m) (unlisted (listed lists m.first n) denied i)
table_replace clauses vars watched lists denied i n m t room first lt is inside fd sd one second bounds =
    let mid = listed lists m.first n in
    let room' : IsRoomFor mid denied = room_still lists m.first denied (list_at lists m.first ++ n ∷ []) room in
    let same : list_at mid denied ≡ list_at lists denied = list_other lists m.first denied (list_at lists m.first ++ n ∷ []) (λ e. fd (sym e)) in
    let lt' : i < length (list_at mid denied) = subst (λ ns. i < length ns) (sym same) lt in
    let is' : get_or (list_at mid denied) i 0 ≡ n = ap (λ ns. get_or ns i 0) same ∙ is in
    let len : length (set watched n m) ≡ length watched = length-set watched n m in
    let still : (x : Lit) (k : ℕ) → k ≢ n → IsWaiting (list_at lists x) 0 k → IsWaiting (list_at (unlisted mid denied i) x) 0 k =
    λ x k ne h. waiting_unlisted mid denied x 0 i k room' (omega arith) lt' (λ e. ne (sym (sym is' ∙ e))) (waiting_listed lists m.first x n 0 k first h) in
    let away : (x : Lit) → x ≢ denied → IsWaiting (list_at mid x) 0 n → IsWaiting (list_at (unlisted mid denied i) x) 0 n =
    λ x ne h. subst (λ ns. IsWaiting ns 0 n) (sym (list_other mid denied x (swap_remove (list_at mid denied) i 0) ne)) h in
    record {
      room = length-set mid (code denied) (swap_remove (list_at mid denied) i 0) ∙ (length-set lists (code m.first) (list_at lists m.first ++ n ∷ []) ∙ t.room);
      each = each_set (λ k x. IsWatchOf (clause_at clauses k) x) watched n m inside (λ k d lt ne. t.each k d lt) one;
      in_range = each_set (λ k x. (x.first.var < vars) × (x.second.var < vars)) watched n m inside (λ k d lt ne. t.in_range k d lt) bounds;
      first = each_set (λ k x. IsWaiting (list_at (unlisted mid denied i) x.first) 0 k) watched n m inside (λ k d lt ne. still (get_or watched k d).first k ne (t.first k d lt)) (away m.first fd (waiting_there lists m.first n first));
      second = each_set (λ k x. IsWaiting (list_at (unlisted mid denied i) x.second) 0 k) watched n m inside (λ k d lt ne. still (get_or watched k d).second k ne (t.second k d lt)) (away m.second sd (waiting_listed lists m.first m.second n 0 n first (second m)));
      numbers = λ l. subst (λ b. IsBelow b (list_at (unlisted mid denied i) l)) (sym len) (below_unlisted mid denied l i (length watched) room' lt' (λ x. below_listed lists m.first x n (length watched) first inside t.numbers));
    }

cond_below : (a b n : ℕ) (c : Bool) → a < b → n ≡ 2 * b → cond c (2 * a + 1) (2 * a) < n
cond_below a b n true lt e = omega arith
cond_below a b n false lt e = omega arith

pub room_for : (clauses : List (List Lit)) (vars : ℕ) (watched : List Watch) (lists : List (List ℕ)) → IsTable clauses vars watched lists → (l : Lit) → l.var < vars → IsRoomFor lists l
room_for clauses vars watched lists t l lt = cond_below l.var vars (length lists) l.negative lt t.room
