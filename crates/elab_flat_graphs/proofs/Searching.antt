-- Steps of a search.
use Rattle.std.proofs.Common.{arith, ◌≡◌, ◌≢◌, ℕ, zero, suc, ◌+◌, ◌<◌, ◌≤◌, Bool, true, false, List, [], ◌∷◌, ◌++◌, length, length-set, set, Option, Some, None, IfSome, get_or, drop, take, replicate, Vec, Global, ◌-◌, length-append, refl, sym, ap, ◌∙◌, subst, ◌⊎◌, inl, inr, ⊎_elim, nat_eq, get_or-set_same, get_or-set_other}
use Rattle.std.specs.Prelude.{slice_index}
use Rattle.std.proofs.lemmas.Bool.{eqb-true, eq-eqb}
use Rattle.std.proofs.lemmas.List.{length-replicate, length-map}
use Rattle.std.proofs.Math.Seq.{take-append_seam}
use Rattle.elab_flat_graphs.specs.declared.search.Mark.{Mark}
use Rattle.elab_flat_graphs.specs.declared.search.Mark.TheVariants as m
use Rattle.elab_flat_graphs.specs.Graphs.{Among, AreDistinct, AreAfter, IsPathTo, IsCycle, IsOrder, graph_of, successors}
use Rattle.elab_flat_graphs.specs.Searching.{mark_at, changes, all_changes, IsPath, from, IsPassed, IsSearch, KeepsKnown, EndsAt}

-- ---- lists

pub bool_cases : (b : Bool) → (b ≡ true) ⊎ (b ≡ false)
bool_cases true = inl refl
bool_cases false = inr refl

pub differ : {b : Bool} → b ≡ false → b ≡ true → ⊥
differ h e = let r : true ≡ false = sym e ∙ h in cc

pub same_or : (u v : ℕ) → (u ≡ v) ⊎ (u ≢ v)
same_or u v = ⊎_elim (λ (e : nat_eq u v ≡ true). inl (eqb-true u v e)) (λ (e : nat_eq u v ≡ false). inr (λ h. differ e (eq-eqb u v h))) (bool_cases (nat_eq u v))

among_append : (xs ys : List ℕ) (z : ℕ) → Among (xs ++ ys) z → Among xs z ⊎ Among ys z
among_append [] ys z h = inr h
among_append (x ∷ xs) ys z h = ⊎_elim (λ e. inl (inl e)) (λ m. ⊎_elim (λ a. inl (inr a)) (λ b. inr b) (among_append xs ys z m)) h

append_left : (xs ys : List ℕ) (z : ℕ) → Among xs z → Among (xs ++ ys) z
append_left [] ys z h = absurd h
append_left (x ∷ xs) ys z h = ⊎_elim (λ e. inl e) (λ m. inr (append_left xs ys z m)) h

append_right : (xs ys : List ℕ) (z : ℕ) → Among ys z → Among (xs ++ ys) z
append_right [] ys z h = h
append_right (x ∷ xs) ys z h = inr (append_right xs ys z h)

pub last_among : (xs : List ℕ) (v : ℕ) → Among (xs ++ v ∷ []) v
last_among xs v = append_right xs (v ∷ []) v (inl refl)

push_among : (xs : List ℕ) (v u : ℕ) → Among (xs ++ v ∷ []) u → Among xs u ⊎ (v ≡ u)
push_among xs v u h = ⊎_elim (λ m. inl m) (λ m. ⊎_elim (λ e. inr e) (λ n. absurd n) m) (among_append xs (v ∷ []) u h)

push_distinct : (xs : List ℕ) (v : ℕ) → AreDistinct xs → (Among xs v → ⊥) → AreDistinct (xs ++ v ∷ [])
push_distinct [] v d n = (λ h. h, tt)
push_distinct (x ∷ xs) v d n = (λ h. ⊎_elim (λ m. d.0 m) (λ (e : v ≡ x). n (inl (sym e))) (push_among xs v x h), push_distinct xs v d.1 (λ h. n (inr h)))

front_distinct : (xs : List ℕ) (v : ℕ) → AreDistinct (xs ++ v ∷ []) → AreDistinct xs × (Among xs v → ⊥)
front_distinct [] v d = (tt, λ h. h)
front_distinct (x ∷ xs) v d =
    let r = front_distinct xs v d.1 in
    ((λ h. d.0 (append_left xs (v ∷ []) x h), r.0), λ h. ⊎_elim (λ (e : x ≡ v). d.0 (subst (λ z. Among (xs ++ v ∷ []) z) (sym e) (last_among xs v))) r.1 h)

-- ---- marks

pub mark_get : (ms : List Mark) (v : ℕ) (d : Mark) → v < length ms → get_or ms v d ≡ mark_at ms v
mark_get [] v d l = absurd (omega arith)
mark_get (x ∷ ms) zero d l = refl
mark_get (x ∷ ms) (suc v) d l = mark_get ms v d (omega arith)

pub mark_same : (ms : List Mark) (v : ℕ) (x : Mark) → v < length ms → mark_at (set ms v x) v ≡ x
mark_same [] v x l = absurd (omega arith)
mark_same (y ∷ ms) zero x l = refl
mark_same (y ∷ ms) (suc v) x l = mark_same ms v x (omega arith)

pub mark_other : (ms : List Mark) (v u : ℕ) (x : Mark) → u ≢ v → mark_at (set ms v x) u ≡ mark_at ms u
mark_other [] v u x n = refl
mark_other (y ∷ ms) zero zero x n = absurd (n refl)
mark_other (y ∷ ms) zero (suc u) x n = refl
mark_other (y ∷ ms) (suc v) zero x n = refl
mark_other (y ∷ ms) (suc v) (suc u) x n = mark_other ms v u x (λ e. n (omega arith))

pub changes_set : (ms : List Mark) (v : ℕ) (x : Mark) → v < length ms → all_changes (set ms v x) + changes (mark_at ms v) ≡ all_changes ms + changes x
changes_set [] v x l = absurd (omega arith)
changes_set (y ∷ ms) zero x l = omega arith
changes_set (y ∷ ms) (suc v) x l = let h = changes_set ms v x (omega arith) in omega (arith, h)

pub mark_within : (ms : List Mark) (v : ℕ) → mark_at ms v ≢ m.New → v < length ms
mark_within [] v n = absurd (n refl)
mark_within (y ∷ ms) zero n = omega arith
mark_within (y ∷ ms) (suc v) n = let h = mark_within ms v n in omega (arith, h)

-- ---- paths

path_to : (g : List (List ℕ)) (rest : List ℕ) (v w : ℕ) → IsPath g (rest ++ v ∷ []) → Among (successors g v) w → IsPathTo g (rest ++ v ∷ []) w
path_to g [] v w p s = s
path_to g (u ∷ []) v w p s = (p.0, s)
path_to g (u ∷ t ∷ rest) v w p s = (p.0, path_to g (t ∷ rest) v w p.1 s)

push_path : (g : List (List ℕ)) (path : List ℕ) (w : ℕ) → IsPathTo g path w → IsPath g (path ++ w ∷ [])
push_path g [] w p = tt
push_path g (v ∷ []) w p = (p, tt)
push_path g (v ∷ u ∷ path) w p = (p.0, push_path g (u ∷ path) w p.1)

front_path : (g : List (List ℕ)) (rest : List ℕ) (v : ℕ) → IsPath g (rest ++ v ∷ []) → IsPath g rest
front_path g [] v p = tt
front_path g (u ∷ []) v p = tt
front_path g (u ∷ t ∷ rest) v p = (p.0, front_path g (t ∷ rest) v p.1)

cut_path : (g : List (List ℕ)) (path : List ℕ) (t w : ℕ) → IsPathTo g path t → Among path w → t ≡ w → IsCycle g (from path w)
cut_path g [] t w p h e = absurd h
cut_path g (v ∷ []) t w p h e =
    let i : v ≡ w = ⊎_elim (λ k. k) (λ n. absurd n) h in
    rw (eq-eqb v w i) (subst (λ z. Among (successors g v) z) (e ∙ sym i) p)
cut_path g (v ∷ u ∷ path) t w p h e =
    ⊎_elim
    (λ (i : nat_eq v w ≡ true). rw i (p.0, subst (λ z. IsPathTo g (u ∷ path) z) (e ∙ sym (eqb-true v w i)) p.1))
    (λ (i : nat_eq v w ≡ false). rw i (cut_path g (u ∷ path) t w p.1 (⊎_elim (λ (k : v ≡ w). absurd (differ i (eq-eqb v w k))) (λ k. k) h) e))
    (bool_cases (nat_eq v w))

-- ---- orders

push_after : (g : List (List ℕ)) (earlier vs : List ℕ) (v : ℕ) → AreAfter g earlier vs → ((w : ℕ) → Among (successors g v) w → Among earlier w ⊎ Among vs w) → AreAfter g earlier (vs ++ v ∷ [])
push_after g earlier [] v a h = (λ w s. ⊎_elim (λ m. m) (λ n. absurd n) (h w s), tt)
push_after g earlier (u ∷ vs) v a h =
    (a.0, push_after g (u ∷ earlier) vs v a.1 (λ w s. ⊎_elim (λ m. inl (inr m)) (λ m. ⊎_elim (λ e. inl (inl e)) (λ n. inr n) m) (h w s)))

-- ---- steps

-- a new vertex is opened
pub opened : (g : List (List ℕ)) (ms : List Mark) (ps path done : List ℕ) (v : ℕ) → IsSearch g ms ps path done → v < length g → mark_at ms v ≡ m.New → (path ≡ []) ⊎ IsPathTo g path v → IsSearch g (set ms v m.Open) ps (path ++ v ∷ []) done
opened g ms ps path done v h l new p = record {
  marks_long = length-set ms v m.Open ∙ h.marks_long;
  passed_long = h.passed_long;
  done_listed = λ u e. ⊎_elim (λ (i : u ≡ v). absurd (let f : m.Open ≡ m.Done = sym (mark_same ms v m.Open in_marks) ∙ ap (λ z. mark_at (set ms v m.Open) z) (sym i) ∙ e in cc)) (λ n. h.done_listed u (sym (mark_other ms v u m.Open n) ∙ e)) (same_or u v);
  listed_done = λ u k. mark_other ms v u m.Open (λ i. not_new u (h.listed_done u k) i) ∙ h.listed_done u k;
  open_listed = λ u e. ⊎_elim (λ (i : u ≡ v). subst (λ z. Among (path ++ v ∷ []) z) (sym i) (last_among path v)) (λ n. append_left path (v ∷ []) u (h.open_listed u (sym (mark_other ms v u m.Open n) ∙ e))) (same_or u v);
  listed_open = λ u k. ⊎_elim (λ n. mark_other ms v u m.Open (λ i. not_open u (h.listed_open u n) i) ∙ h.listed_open u n) (λ e. subst (λ z. mark_at (set ms v m.Open) z ≡ m.Open) e (mark_same ms v m.Open in_marks)) (push_among path v u k);
  done_once = h.done_once;
  path_once = push_distinct path v h.path_once (λ k. not_open v (h.listed_open v k) refl);
  after = h.after;
  is_path = ⊎_elim (λ (e : path ≡ []). subst (λ z. IsPath g (z ++ v ∷ [])) (sym e) tt) (λ q. push_path g path v q) p;
  are_passed = λ u k b. mark_other ms v _ m.Open (λ i. not_new _ (h.are_passed u k b) i) ∙ h.are_passed u k b;
  within = h.within;
}
  where
    in_marks : v < length ms
    in_marks = let e = h.marks_long in omega (arith, e, l)

    not_new : (u : ℕ) → mark_at ms u ≡ m.Done → u ≡ v → ⊥
    not_new u d i = let f : m.New ≡ m.Done = sym new ∙ ap (λ z. mark_at ms z) (sym i) ∙ d in cc

    not_open : (u : ℕ) → mark_at ms u ≡ m.Open → u ≡ v → ⊥
    not_open u d i = let f : m.New ≡ m.Open = sym new ∙ ap (λ z. mark_at ms z) (sym i) ∙ d in cc

-- the last open vertex is done
pub closed : (g : List (List ℕ)) (ms : List Mark) (ps rest done : List ℕ) (v : ℕ) → IsSearch g ms ps (rest ++ v ∷ []) done → ((w : ℕ) → Among (successors g v) w → mark_at ms w ≡ m.Done) → IsSearch g (set ms v m.Done) ps rest (done ++ v ∷ [])
closed g ms ps rest done v h all = record {
  marks_long = length-set ms v m.Done ∙ h.marks_long;
  passed_long = h.passed_long;
  done_listed = λ u e. ⊎_elim (λ (i : u ≡ v). subst (λ z. Among (done ++ v ∷ []) z) (sym i) (last_among done v)) (λ n. append_left done (v ∷ []) u (h.done_listed u (sym (mark_other ms v u m.Done n) ∙ e))) (same_or u v);
  listed_done = λ u k. stays u (⊎_elim (λ n. inl (h.listed_done u n)) (λ e. inr (sym e)) (push_among done v u k));
  open_listed = λ u e. ⊎_elim (λ (i : u ≡ v). absurd (let f : m.Done ≡ m.Open = sym (mark_same ms v m.Done in_marks) ∙ ap (λ z. mark_at (set ms v m.Done) z) (sym i) ∙ e in cc))
      (λ n. ⊎_elim (λ k. k) (λ (i : v ≡ u). absurd (n (sym i))) (push_among rest v u (h.open_listed u (sym (mark_other ms v u m.Done n) ∙ e)))) (same_or u v);
  listed_open = λ u k. mark_other ms v u m.Done (λ (i : u ≡ v). (front_distinct rest v h.path_once).1 (subst (λ z. Among rest z) i k)) ∙ h.listed_open u (append_left rest (v ∷ []) u k);
  done_once = push_distinct done v h.done_once (λ k. let f : m.Done ≡ m.Open = sym (h.listed_done v k) ∙ is_open in cc);
  path_once = (front_distinct rest v h.path_once).0;
  after = push_after g [] done v h.after (λ w s. inr (h.done_listed w (all w s)));
  is_path = front_path g rest v h.is_path;
  are_passed = λ u k b. stays _ (inl (h.are_passed u k b));
  within = h.within;
}
  where
    is_open : mark_at ms v ≡ m.Open
    is_open = h.listed_open v (last_among rest v)

    in_marks : v < length ms
    in_marks = mark_within ms v (λ e. let f : m.New ≡ m.Open = sym e ∙ is_open in cc)

    stays : (u : ℕ) → (mark_at ms u ≡ m.Done) ⊎ (u ≡ v) → mark_at (set ms v m.Done) u ≡ m.Done
    stays u d = ⊎_elim (λ (i : u ≡ v). subst (λ z. mark_at (set ms v m.Done) z ≡ m.Done) (sym i) (mark_same ms v m.Done in_marks)) (λ n. mark_other ms v u m.Done n ∙ ⊎_elim (λ e. e) (λ i. absurd (n i)) d) (same_or u v)

-- more successors of a vertex are known to be done
pub looked : (g : List (List ℕ)) (ms : List Mark) (ps path done : List ℕ) (v i : ℕ) → IsSearch g ms ps path done → v < length g → IsPassed g ms v i → i ≤ length (successors g v) → IsSearch g ms (set ps v i) path done
looked g ms ps path done v i h l p b = record {
  marks_long = h.marks_long;
  done_listed = h.done_listed;
  listed_done = h.listed_done;
  open_listed = h.open_listed;
  listed_open = h.listed_open;
  done_once = h.done_once;
  path_once = h.path_once;
  after = h.after;
  is_path = h.is_path;
  passed_long = length-set ps v i ∙ h.passed_long;
  are_passed = λ u. ⊎_elim (λ (e : u ≡ v). subst (λ z. IsPassed g ms z (slice_index (set ps v i) z)) (sym e) (subst (λ n. IsPassed g ms v n) (sym here) p)) (λ n. subst (λ k. IsPassed g ms u k) (sym (get_or-set_other ps v u i 0 n)) (h.are_passed u)) (same_or u v);
  within = λ u. ⊎_elim (λ (e : u ≡ v). subst (λ z. slice_index (set ps v i) z ≤ length (successors g z)) (sym e) (subst (λ n. n ≤ length (successors g v)) (sym here) b)) (λ n. subst (λ k. k ≤ length (successors g u)) (sym (get_or-set_other ps v u i 0 n)) (h.within u)) (same_or u v);
}
  where
    here : slice_index (set ps v i) v ≡ i
    here = let k : v < length ps = (let e = h.passed_long in omega (arith, e, l)) in get_or-set_same ps v i 0 k

-- an open successor of the last open vertex closes a cycle
pub cycles : (g : List (List ℕ)) (ms : List Mark) (ps path done : List ℕ) (v w : ℕ) → IsSearch g ms ps path done → EndsAt path v → Among (successors g v) w → mark_at ms w ≡ m.Open → IsCycle g (from path w)
cycles g ms ps path done v w h ends s e =
    cut_path g path w w (subst (λ z. IsPathTo g z w) (sym ends.1) (path_to g ends.0 v w (subst (λ z. IsPath g z) ends.1 h.is_path) s)) (h.open_listed w e) refl

pub leads : (g : List (List ℕ)) (ms : List Mark) (ps path done : List ℕ) (v w : ℕ) → IsSearch g ms ps path done → EndsAt path v → Among (successors g v) w → IsPathTo g path w
leads g ms ps path done v w h ends s = subst (λ z. IsPathTo g z w) (sym ends.1) (path_to g ends.0 v w (subst (λ z. IsPath g z) ends.1 h.is_path) s)

pub ordered : (g : List (List ℕ)) (ms : List Mark) (ps path done : List ℕ) → IsSearch g ms ps path done → ((v : ℕ) → v < length g → mark_at ms v ≡ m.Done) → IsOrder g done
ordered g ms ps path done h all = record {
  vertices = λ v k. let l = mark_within ms v (λ e. let f : m.New ≡ m.Done = sym e ∙ h.listed_done v k in cc) in let e = h.marks_long in omega (arith, e, l);
  each = λ v l. h.done_listed v (all v l);
  once = h.done_once;
  after = h.after;
}

-- ---- places in lists

pub item_among : (xs : List ℕ) (i d : ℕ) → i < length xs → Among xs (get_or xs i d)
item_among [] i d l = absurd (omega arith)
item_among (x ∷ xs) zero d l = inl refl
item_among (x ∷ xs) (suc i) d l = inr (item_among xs i d (omega arith))

pub among_item : (xs : List ℕ) (x : ℕ) → Among xs x → (i : ℕ) × (i < length xs) × (get_or xs i 0 ≡ x)
among_item [] x h = absurd h
among_item (y ∷ xs) x h = ⊎_elim (λ e. (0, omega arith, e)) (λ k. let r = among_item xs x k in (suc r.0, omega (arith, r.1), r.2)) h

pub from_item : (xs : List ℕ) (i d w : ℕ) → i < length xs → get_or xs i d ≡ w → drop i xs ≡ from (drop i xs) w
from_item [] i d w l e = absurd (omega arith)
from_item (x ∷ xs) zero d w l e = rw (eq-eqb x w e) refl
from_item (x ∷ xs) (suc i) d w l e = from_item xs i d w (omega arith) e

pub from_next : (xs : List ℕ) (i d w : ℕ) → i < length xs → get_or xs i d ≢ w → from (drop i xs) w ≡ from (drop (i + 1) xs) w
from_next xs i d w l n = let e : i + 1 ≡ suc i = omega arith in next xs i l n ∙ ap (λ k. from (drop k xs) w) (sym e)
  where
    next : (xs : List ℕ) (i : ℕ) → i < length xs → get_or xs i d ≢ w → from (drop i xs) w ≡ from (drop (suc i) xs) w
    next [] i l n = absurd (omega arith)
    next (x ∷ xs) zero l n = rw (unequal x n) refl
      where
        unequal : (x : ℕ) → x ≢ w → nat_eq x w ≡ false
        unequal x n = ⊎_elim (λ (e : nat_eq x w ≡ true). absurd (n (eqb-true x w e))) (λ e. e) (bool_cases (nat_eq x w))
    next (x ∷ xs) (suc i) l n = next xs i (omega arith) n

-- ---- what functions leave

pub known_set : (ms : List Mark) (v : ℕ) (x : Mark) → x ≢ m.New → v < length ms → KeepsKnown ms (set ms v x)
known_set ms v x n l u k e =
    ⊎_elim (λ (i : u ≡ v). n (sym (mark_same ms v x l) ∙ ap (λ z. mark_at (set ms v x) z) (sym i) ∙ e)) (λ (i : u ≢ v). k (sym (mark_other ms v u x i) ∙ e)) (same_or u v)

pub open_new : m.Open ≢ m.New
open_new e = cc

pub done_new : m.Done ≢ m.New
done_new e = cc

pub open_changes : (ms : List Mark) (v : ℕ) → v < length ms → mark_at ms v ≡ m.New → all_changes (set ms v m.Open) + 1 ≡ all_changes ms
open_changes ms v l e = let h = changes_set ms v m.Open l in let k = ap changes e in omega (arith, h, k)

pub done_changes : (ms : List Mark) (v : ℕ) → v < length ms → mark_at ms v ≡ m.Open → all_changes (set ms v m.Done) + 1 ≡ all_changes ms
done_changes ms v l e = let h = changes_set ms v m.Done l in let k = ap changes e in omega (arith, h, k)

pub opens_at : (g : List (List ℕ)) (ms : List Mark) (ps path done : List ℕ) (v : ℕ) → IsSearch g ms ps path done → EndsAt path v → (v < length ms) × (mark_at ms v ≡ m.Open)
opens_at g ms ps path done v h last =
    let o : mark_at ms v ≡ m.Open = h.listed_open v (subst (λ z. Among z v) (sym last.1) (last_among last.0 v)) in
    (mark_within ms v (λ e. let f : m.New ≡ m.Open = sym e ∙ o in cc), o)

pub graph_long : (lists : List (Vec ℕ Global)) → length (graph_of lists) ≡ length lists
graph_long lists = simp length-map

pub front_taken : (path rest : List ℕ) (v n : ℕ) → path ≡ rest ++ v ∷ [] → n ≡ length path → take (n - 1) path ≡ rest
front_taken path rest v n e l =
    let k : n - 1 ≡ length rest = (let a = l ∙ ap length e in let b = length-append rest (v ∷ []) in omega (arith, a, b)) in
    ap (λ z. take (n - 1) z) e ∙ ap (λ z. take z (rest ++ v ∷ [])) k ∙ take-append_seam rest (v ∷ [])

no_marks : (n v : ℕ) → mark_at (replicate n m.New) v ≡ m.New
no_marks zero v = refl
no_marks (suc n) zero = refl
no_marks (suc n) (suc v) = no_marks n v

none_passed : (n v : ℕ) → slice_index (replicate n 0) v ≡ 0
none_passed zero v = refl
none_passed (suc n) zero = refl
none_passed (suc n) (suc v) = none_passed n v

pub started : (g : List (List ℕ)) (ms : List Mark) (ps path done : List ℕ) → ms ≡ replicate (length g) m.New → ps ≡ replicate (length g) 0 → path ≡ [] → done ≡ [] → IsSearch g ms ps path done
started g ms ps path done a b p q = record {
  marks_long = ap length a ∙ length-replicate (length g) m.New;
  passed_long = ap length b ∙ length-replicate (length g) 0;
  done_listed = λ v e. absurd (let f : m.New ≡ m.Done = sym (new v) ∙ e in cc);
  listed_done = λ v k. absurd (subst (λ z. Among z v) q k);
  open_listed = λ v e. absurd (let f : m.New ≡ m.Open = sym (new v) ∙ e in cc);
  listed_open = λ v k. absurd (subst (λ z. Among z v) p k);
  done_once = subst (λ z. AreDistinct z) (sym q) tt;
  path_once = subst (λ z. AreDistinct z) (sym p) tt;
  after = subst (λ z. AreAfter g [] z) (sym q) tt;
  is_path = subst (λ z. IsPath g z) (sym p) tt;
  are_passed = λ v k l. absurd (let z = none v in omega (arith, l, z));
  within = λ v. let z = none v in omega (arith, z);
}
  where
    new : (v : ℕ) → mark_at ms v ≡ m.New
    new v = ap (λ z. mark_at z v) a ∙ no_marks (length g) v

    none : (v : ℕ) → slice_index ps v ≡ 0
    none v = ap (λ z. slice_index z v) b ∙ none_passed (length g) v

pub successors_get : (lists : List (Vec ℕ Global)) (v : ℕ) (d : Vec ℕ Global) → v < length lists → successors (graph_of lists) v ≡ (get_or lists v d).items
successors_get [] v d l = absurd (omega arith)
successors_get (x ∷ lists) zero d l = refl
successors_get (x ∷ lists) (suc v) d l = successors_get lists v d (omega arith)

-- where as many successors as there are are done, all are
pub all_done : (g : List (List ℕ)) (ms : List Mark) (v n : ℕ) → IsPassed g ms v n → n ≡ length (successors g v) → (w : ℕ) → Among (successors g v) w → mark_at ms w ≡ m.Done
all_done g ms v n p e w s = let i = among_item (successors g v) w s in ap (λ z. mark_at ms z) (sym i.2) ∙ p i.0 (let l = i.1 in omega (arith, e, l))

pub new_or : (x : Mark) → (x ≡ m.Done → ⊥) → (x ≡ m.New) ⊎ (x ≡ m.Done) → x ≡ m.New
new_or x n h = ⊎_elim (λ e. e) (λ e. absurd (n e)) h

pub ends_within : (g : List (List ℕ)) (ms : List Mark) (ps path done xs : List ℕ) (r : Option ℕ) {n : ℕ} → IsSearch g ms ps path done → xs ≡ path → length g ≡ n → IfSome r (λ v. EndsAt xs v) → IfSome r (λ v. v < n)
ends_within g ms ps path done xs None {n} h e l k = tt
ends_within g ms ps path done xs (Some v) {n} h e l k =
    let o = (opens_at g ms ps path done v h (subst (λ z. EndsAt z v) e k)).0 in
    let m = h.marks_long in
    omega (arith, l, o, m)

-- with nothing open, what isn't new is done
pub none_open : (g : List (List ℕ)) (ms : List Mark) (ps path done : List ℕ) → IsSearch g ms ps path done → path ≡ [] → ((v : ℕ) → v < length g → mark_at ms v ≢ m.New) → IsOrder g done
none_open g ms ps path done h e all =
    ordered g ms ps path done h (λ v l. by v (mark_at ms v) refl (all v l))
  where
    by : (v : ℕ) (x : Mark) → mark_at ms v ≡ x → mark_at ms v ≢ m.New → mark_at ms v ≡ m.Done
    by v m.New i n = absurd (n i)
    by v m.Open i n = absurd (subst (λ z. Among z v) e (h.open_listed v i))
    by v m.Done i n = i
