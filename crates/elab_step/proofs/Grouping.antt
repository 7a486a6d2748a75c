-- Nets in groups, and the groups of an order.
use Rattle.std.proofs.Common.{arith, ◌≡◌, ◌≢◌, ℕ, zero, suc, ◌<◌, List, [], ◌∷◌, ◌++◌, length, get_or, take, refl, sym, ap, ◌∙◌, subst, ◌⊎◌, inl, inr, ⊎_elim, append_assoc, append-nil, Vec, Global}
use Rattle.std.proofs.lemmas.List.{length-set, get_or-set_same, get_or-set_other}
use Rattle.std.specs.Prelude.{slice_index, slice_set}
use Rattle.vlog_tree_runs.specs.declared.flat.Flat.{Flat}
use Rattle.vlog_tree_runs.specs.declared.flat.Signal.{Signal}
use Rattle.vlog_tree_runs.specs.Places.{Name, Among}
use Rattle.elab_flat_faults.specs.Drivers.{DependsOn}
use Rattle.elab_step_flow.specs.Edges.{AreDependences}
use Rattle.elab_flat_laws.proofs.Lists.{among_append, append_left, append_right}
use Rattle.elab_flat_graphs.specs.Graphs.{Among as Lists, graph_of, successors, IsGraph}
use Rattle.elab_step_nets.specs.Asked.{CanElaborate}
use Rattle.elab_step_copies.specs.Copies.{list_at}
use Rattle.elab_step_nets.specs.Boards.{statements, picked, name_of, names_of, groups_of, ArePlacesOf, AreBelow}
use Rattle.elab_step_nets.specs.Solving.{processes, drivers_of, drivers_in, joined, IsOrder as Ordered, IsGroup as IsNetGroup, AreGroups}
use Rattle.elab_step_nets.proofs.Boards.{places_at, places_long}
use Rattle.elab_step_nets.proofs.Solving.{order_rest}
use Rattle.elab_step_blocks.proofs.Saving.{same_or}
use Rattle.elab_step.proofs.Ordering.{at_name}
use Rattle.elab_step.specs.declared.groups.Grouping.{Grouping}
use Rattle.elab_step.specs.Groups.{in_row, first_list, LeadOn, IsGroup, EachGroup, AreGroupsOf, IsGrouping, Joins}

-- ---- lists

pub among_take : (xs : List ℕ) (i x : ℕ) → Among (take i xs) x → Among xs x
among_take [] zero x m = absurd m
among_take [] (suc i) x m = absurd m
among_take (y ∷ xs) zero x m = absurd m
among_take (y ∷ xs) (suc i) x m = ⊎_elim (λ e. inl e) (λ n. inr (among_take xs i x n)) m

-- where a number stands
pub at_place : (xs : List ℕ) (x : ℕ) → Lists xs x → (k : ℕ) × (k < length xs) × (slice_index xs k ≡ x)
at_place [] x m = absurd m
at_place (y ∷ xs) x m = ⊎_elim (λ e. (0, omega arith, e)) (λ n. let r = at_place xs x n in let l = r.1 in (suc r.0, omega (arith, l), r.2)) m

listed_at : (xs : List ℕ) (k : ℕ) → k < length xs → Lists xs (slice_index xs k)
listed_at [] k l = absurd (omega arith)
listed_at (x ∷ xs) zero l = inl refl
listed_at (x ∷ xs) (suc k) l = inr (listed_at xs k (omega arith))

pub list_get : (lists : List (Vec ℕ Global)) (v : ℕ) (d : Vec ℕ Global) → v < length lists → successors (graph_of lists) v ≡ (get_or lists v d).items
list_get [] v d l = absurd (omega arith)
list_get (x ∷ lists) zero d l = refl
list_get (x ∷ lists) (suc v) d l = list_get lists v d (omega arith)

pub first_is : (lists : List (List ℕ)) (is : List ℕ) → 0 < length is → successors lists (get_or is 0 0) ≡ first_list lists is
first_is lists [] l = absurd (omega arith)
first_is lists (i ∷ is) l = refl

-- the successors of a vertex are vertices
pub all_below : (g : List (List ℕ)) (v : ℕ) (xs : List ℕ) → IsGraph g → xs ≡ successors g v → (k : ℕ) → k < length xs → slice_index xs k < length g
all_below g v xs is e k l = is v (slice_index xs k) (subst (λ z. Lists z (slice_index xs k)) e (listed_at xs k l))

pub none_numbered : (ns ms xs ys : List ℕ) (n m : ℕ) → ns ≡ ms → xs ≡ ys → n ≡ m → ((k : ℕ) → k < length xs → slice_index ns (slice_index xs k) ≢ n) → (w : ℕ) → Lists ys w → slice_index ms w ≢ m
none_numbered ns ms xs ys n m p q r h w u e =
    let at = at_place ys w u in
    let l : at.0 < length xs = subst (λ z. at.0 < length z) (sym q) at.1 in
    h at.0 l ((λ i. slice_index (p i) (slice_index (q i) at.0)) ∙ ap (slice_index ms) at.2 ∙ e ∙ sym r)

pub row_push : (xss : List (List ℕ)) (xs : List ℕ) → in_row (xss ++ xs ∷ []) ≡ in_row xss ++ xs
row_push [] xs = append-nil xs
row_push (ys ∷ xss) xs = ap (λ r. ys ++ r) (row_push xss xs) ∙ sym (append_assoc ys (in_row xss) xs)

graph_push : (vs : List (Vec ℕ Global)) (v : Vec ℕ Global) → graph_of (vs ++ v ∷ []) ≡ graph_of vs ++ v.items ∷ []
graph_push [] v = refl
graph_push (w ∷ vs) v = ap (λ r. w.items ∷ r) (graph_push vs v)

-- ---- groups so far

module _ (g places : List (List ℕ)) where
  each_push : (xss : List (List ℕ)) (xs : List ℕ) → EachGroup g places xss → IsGroup g places xs → EachGroup g places (xss ++ xs ∷ [])
  each_push [] xs h k = (k, tt)
  each_push (ys ∷ xss) xs h k = (h.0, each_push xss xs h.1 k)

  no_group : IsGroup g places []
  no_group = record { same = λ i m. absurd m; apart = tt }

  lead_push : (is : List ℕ) (i : ℕ) → LeadOn g is → ((w : ℕ) → Among is w → Lists (successors g i) w → ⊥) → LeadOn g (is ++ i ∷ [])
  lead_push [] i h n = ((λ j m. absurd m), tt)
  lead_push (k ∷ is) i h n = (
    λ j m u. ⊎_elim (λ o. h.0 j o u) (λ o. ⊎_elim (λ (q : i ≡ j). n k (inl refl) (subst (λ z. Lists (successors g z) k) (sym q) u)) (λ v. v) o) (among_append is (i ∷ []) j m),
    lead_push is i h.1 (λ w m. n w (inr m)),
  )

  same_push : (is : List ℕ) (i : ℕ) → ((j : ℕ) → Among is j → successors places j ≡ first_list places is) → (is ≡ []) ⊎ (successors places i ≡ first_list places is)
      → (j : ℕ) → Among (is ++ i ∷ []) j → successors places j ≡ first_list places (is ++ i ∷ [])
  same_push [] i h s j m = ⊎_elim (λ (q : i ≡ j). ap (successors places) (sym q)) (λ u. absurd u) m
  same_push (k ∷ is) i h s j m =
      ⊎_elim (λ u. h j u)
      (λ u. ⊎_elim
      (λ (q : i ≡ j). ap (successors places) (sym q) ∙ ⊎_elim (λ (e : k ∷ is ≡ []). cc) (λ e. e) s)
      (λ v. absurd v) u)
      (among_append (k ∷ is) (i ∷ []) j m)

  group_push : (is : List ℕ) (i : ℕ) → IsGroup g places is → (is ≡ []) ⊎ (successors places i ≡ first_list places is) → ((w : ℕ) → Among is w → Lists (successors g i) w → ⊥) → IsGroup g places (is ++ i ∷ [])
  group_push is i h s n = record { same = same_push is i h.same s; apart = lead_push is i h.apart n }

  pub closed : (so_far : List ℕ) (s t : Grouping) → IsGrouping g places so_far s → t.done.items ≡ s.done.items ++ s.last ∷ [] → t.last.items ≡ [] → t.numbers.items ≡ s.numbers.items → IsGrouping g places so_far t
  closed so_far s t h done last numbers =
      let d : graph_of t.done.items ≡ graph_of s.done.items ++ s.last.items ∷ [] = ap graph_of done ∙ graph_push s.done.items s.last in
      record {
        each = subst (EachGroup g places) (sym d) (each_push (graph_of s.done.items) s.last.items h.each h.last);
        last = subst (IsGroup g places) (sym last) no_group;
        all = (λ r. in_row (d r) ++ last r) ∙ append-nil (in_row (graph_of s.done.items ++ s.last.items ∷ [])) ∙ row_push (graph_of s.done.items) s.last.items ∙ h.all;
        long = ap length numbers ∙ h.long;
        numbered = λ w m. absurd (subst (λ z. Among z w) last m);
      }

  -- the last group gets a net that joins it, or that is its first one
  pub added : (so_far : List ℕ) (i : ℕ) (s t : Grouping) → IsGrouping g places so_far s → i < length g → (s.last.items ≡ []) ⊎ Joins g places s i → t.done.items ≡ s.done.items → t.last.items ≡ s.last.items ++ i ∷ []
      → t.numbers.items ≡ slice_set s.numbers.items i (length s.done.items) → IsGrouping g places (so_far ++ i ∷ []) t
  added so_far i s t h lt j done last numbers =
      let n = length s.done.items in
      let il : i < length s.numbers.items = subst (λ z. i < z) (sym h.long) lt in
      record {
        each = subst (λ z. EachGroup g places (graph_of z)) (sym done) h.each;
        last = subst (IsGroup g places) (sym last) (group_push s.last.items i h.last (⊎_elim (λ e. inl e) (λ k. k.shares) j)
            (λ w m u. ⊎_elim (λ e. subst (λ z. Among z w) e m) (λ k. k.apart w u (h.numbered w m)) j));
        all = (λ r. in_row (graph_of (done r)) ++ last r) ∙ sym (append_assoc (in_row (graph_of s.done.items)) s.last.items (i ∷ [])) ∙ ap (λ z. z ++ i ∷ []) h.all;
        long = ap length numbers ∙ length-set s.numbers.items i n ∙ h.long;
        numbered = λ w m.
            ap (λ z. slice_index z w) numbers
            ∙ ⊎_elim
            (λ (q : w ≡ i). ap (λ z. get_or (slice_set s.numbers.items i n) z 0) q ∙ get_or-set_same s.numbers.items i n 0 il)
            (λ (q : w ≢ i). get_or-set_other s.numbers.items i w n 0 q ∙ ⊎_elim (λ u. h.numbered w u) (λ u. absurd (⊎_elim (λ (o : i ≡ w). q (sym o)) (λ v. v) u)) (among_append s.last.items (i ∷ []) w (subst (λ z. Among z w) last m)))
            (same_or w i)
            ∙ ap length (sym done);
      }

  -- with the last group closed, all are done
  pub all_done : (order : List ℕ) (s : Grouping) → IsGrouping g places order s → s.last.items ≡ [] → AreGroupsOf g places order (graph_of s.done.items)
  all_done order s h last = record { each = h.each; all = sym (ap (λ z. in_row (graph_of s.done.items) ++ z) last ∙ append-nil (in_row (graph_of s.done.items))) ∙ h.all }

  -- no group yet
  pub begun : (s : Grouping) → s.done.items ≡ [] → s.last.items ≡ [] → length s.numbers.items ≡ length g → IsGrouping g places [] s
  begun s done last long = record {
    each = subst (λ z. EachGroup g places (graph_of z)) (sym done) tt;
    last = subst (IsGroup g places) (sym last) no_group;
    all = λ r. in_row (graph_of (done r)) ++ last r;
    long = long;
    numbered = λ w m. absurd (subst (λ z. Among z w) last m);
  }

-- ---- what groups mean

module _ (f : Flat) (can : CanElaborate f) (g : List (List ℕ)) (depends : AreDependences f g) (places : List (Vec ℕ Global)) (are : ArePlacesOf f f.signals places) where
  abbrev gs : List Signal
  gs = f.signals

  lists : (vs : List (Vec ℕ Global)) (i : ℕ) → successors (graph_of vs) i ≡ list_at vs i
  lists [] i = refl
  lists (v ∷ vs) zero = refl
  lists (v ∷ vs) (suc i) = lists vs i

  -- none depends on one that is listed with it, the later ones not on earlier ones by the graph, nor the earlier ones on later ones by the order
  names_apart : (is : List ℕ) (rest : List Name) → ((i : ℕ) → Among is i → i < length gs) → LeadOn g is → Ordered (DependsOn f) (names_of gs is ++ rest)
      → (i j : ℕ) → Among is i → Among is j → DependsOn f (name_of gs i) (name_of gs j) → ⊥
  names_apart [] rest within on order i j m n d = m
  names_apart (k ∷ is) rest within on order i j m n d =
      ⊎_elim
      (λ (q : k ≡ i). order.0 (name_of gs j) (subst (λ z. DependsOn f (name_of gs z) (name_of gs j)) (sym q) d)
      (append_left (names_of gs (k ∷ is)) rest (name_of gs j) (names_list (k ∷ is) j n)))
      (λ (u : Among is i). ⊎_elim
      (λ (q : k ≡ j). on.0 i u (subst (λ z. Lists (successors g i) z) (sym q) (edge i j (within i (inr u)) (within j n) d)))
      (λ v. names_apart is rest (λ w o. within w (inr o)) on.1 order.2 i j u v d) n)
      m
    where
      names_list : (is : List ℕ) (j : ℕ) → Among is j → Among (names_of gs is) (name_of gs j)
      names_list [] j n = absurd n
      names_list (k ∷ is) j n = ⊎_elim (λ e. inl (ap (name_of gs) e)) (λ u. inr (names_list is j u)) n

      edge : (v w : ℕ) → v < length gs → w < length gs → DependsOn f (name_of gs v) (name_of gs w) → Lists (successors g v) w
      edge v w l m h = (depends v w (name_of gs v) (name_of gs w) (at_name gs v l) (at_name gs w m)).1 h

  named : (is : List ℕ) (x : Name) → Among (names_of gs is) x → (i : ℕ) × Among is i × (name_of gs i ≡ x)
  named [] x m = absurd m
  named (i ∷ is) x m = ⊎_elim (λ e. (i, inl refl, e)) (λ n. let r = named is x n in (r.0, inr r.1, r.2)) m

  drivers_are : (i : ℕ) → i < length gs → drivers_of (processes f) (name_of gs i) ≡ picked (statements f) (list_at places i)
  drivers_are i lt = sym (places_at f gs places i are (let l = places_long f gs places are in omega (arith, l, lt))).1

  net_group : (is : List ℕ) (rest : List Name) → ((i : ℕ) → Among is i → i < length gs) → IsGroup g (graph_of places) is → Ordered (DependsOn f) (names_of gs is ++ rest) → IsNetGroup (processes f) (DependsOn f) (names_of gs is)
  net_group is rest within h order = record {
    same = λ x m. let r = named is x m in subst (λ z. drivers_of (processes f) z ≡ drivers_in (processes f) (names_of gs is)) r.2 (shared is within h.same r.0 r.1);
    apart = λ x z m d n.
        let r = named is x m in
        let s = named is z n in
        names_apart is rest within h.apart order r.0 s.0 r.1 s.1 (subst (λ y. DependsOn f (name_of gs r.0) y) (sym s.2) (subst (λ y. DependsOn f y z) (sym r.2) d));
  }
    where
      shared : (is : List ℕ) → ((i : ℕ) → Among is i → i < length gs) → ((i : ℕ) → Among is i → successors (graph_of places) i ≡ first_list (graph_of places) is)
          → (i : ℕ) → Among is i → drivers_of (processes f) (name_of gs i) ≡ drivers_in (processes f) (names_of gs is)
      shared [] within same i m = absurd m
      shared (k ∷ is) within same i m =
          let e : list_at places i ≡ list_at places k = sym (lists places i) ∙ same i m ∙ lists places k in
          drivers_are i (within i m) ∙ ap (picked (statements f)) e ∙ sym (drivers_are k (within k (inl refl)))

  names_append : (is js : List ℕ) → names_of gs (is ++ js) ≡ names_of gs is ++ names_of gs js
  names_append [] js = refl
  names_append (i ∷ is) js = ap (λ r. name_of gs i ∷ r) (names_append is js)

  -- the names of groups, group after group, are those of the order
  pub joined_names : (vs : List (Vec ℕ Global)) → joined (groups_of gs vs) ≡ names_of gs (in_row (graph_of vs))
  joined_names [] = refl
  joined_names (v ∷ vs) = ap (λ r. names_of gs v.items ++ r) (joined_names vs) ∙ sym (names_append v.items (in_row (graph_of vs)))

  pub net_groups : (vs : List (Vec ℕ Global)) → ((i : ℕ) → Among (in_row (graph_of vs)) i → i < length gs) → EachGroup g (graph_of places) (graph_of vs) → Ordered (DependsOn f) (joined (groups_of gs vs)) → AreGroups (processes f) (DependsOn f) (groups_of gs vs)
  net_groups [] within h order = tt
  net_groups (v ∷ vs) within h order = (
    net_group v.items (joined (groups_of gs vs)) (λ i m. within i (append_left v.items (in_row (graph_of vs)) i m)) h.0 order,
    net_groups vs (λ i m. within i (append_right v.items (in_row (graph_of vs)) i m)) h.1 (order_rest (DependsOn f) (names_of gs v.items) (joined (groups_of gs vs)) order),
  )

pub below : (n : ℕ) (vs : List (Vec ℕ Global)) → ((i : ℕ) → Among (in_row (graph_of vs)) i → i < n) → AreBelow n vs
below n [] h v i m k = absurd m
below n (w ∷ vs) h v i m k =
    ⊎_elim (λ (q : w ≡ v). h i (append_left w.items (in_row (graph_of vs)) i (subst (λ (z : Vec ℕ Global). Among z.items i) (sym q) k)))
    (λ u. below n vs (λ j l. h j (append_right w.items (in_row (graph_of vs)) j l)) v i u k) m
