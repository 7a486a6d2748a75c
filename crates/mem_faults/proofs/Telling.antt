-- Which faults of memories stand, by the lists of names and of uses that the code makes.
use Rattle.std.proofs.Common.{◌≡◌, ℕ, ◌+◌, ◌<◌, ◌≤◌, ◌&&◌, ◌||◌, not, nat_eq, Bool, true, false, cond, ◌⊎◌, inl, inr, List, [], ◌∷◌, ◌++◌, map, filter, length, refl, sym, ap, ◌∙◌, subst, arith, rules}
use Rattle.std.specs.List.{flat_map, list_any}
use Rattle.std.specs.Str.{bytes_eq}
use Rattle.std.proofs.lemmas.Slice.Eq.{bytes_eq-Decides}
use Rattle.vlog_tree.specs.declared.expr.Expr.{Expr}
use Rattle.vlog_tree.specs.declared.item.Assign.{Assign}
use Rattle.vlog_tree.specs.declared.stmt.Lval.{Lval}
use Rattle.vlog_tree.specs.declared.stmt.Lval.TheVariants as l
use Rattle.vlog_tree_runs.specs.declared.flat.Always.{Always}
use Rattle.vlog_tree_runs.specs.declared.flat.Flat.{Flat}
use Rattle.vlog_tree_runs.specs.declared.flat.Signal.{Signal}
use Rattle.vlog_tree_runs.specs.Places.{Name, Among}
use Rattle.vlog_tree_runs.specs.Blocks.{lefts, left_names}
use Rattle.vlog_tree_runs.specs.Contents.{is_among}
use Rattle.elab_flat_laws.proofs.Lists.{among_append, append_left, append_right, among_flat, flat_among, map_among, among_map}
use Rattle.elab_flat_faults.specs.Texts.{names_in}
use Rattle.elab_flat_faults.specs.Drivers.{exprs_of}
use Rattle.elab_flat_faults.specs.ElabStands.{Names}
use Rattle.elab_flat_drivers.specs.declared.names.Form.TheVariants as v
use Rattle.elab_flat_drivers.specs.Claims.{part_name}
use Rattle.elab_flat_drivers.specs.Names.{chosen_names}
use Rattle.elab_flat_drivers.proofs.Kinding.{in_chosen, chosen_in, blocked_is, is_blocked}
use Rattle.elab_flat_drivers.proofs.Naming.{among_of, of_among}
use Rattle.mem_laws.specs.Stands.{IsSigned, IsAssignedOtherwise, IsWronglyKept, HasNestedIndex}
use Rattle.mem_laws.specs.Uses.{is_memory, whole_in, whole_lefts, listed, wholes, Indexed, indexed_in, indexed_lefts, lefts_of, memory_uses}
use Rattle.mem_faults.specs.Kept.{signed_names, assign_names, assigned_names, other_names}
use Rattle.mem_faults.specs.Used.{memory_names, memories_of, whole_names, is_indexed, is_nested, block_listed, uses_of}
use Rattle.mem_faults.proofs.Using.{tally, tally_append, tally_flat, told, same_sum, one, Has, to_uses, from_uses}
use Rattle.mem_faults.proofs.Wholes.{indexed_names, told_wholes, told_indexed}

-- ---- tests

and_true : (b : Bool) → b && true ≡ b
and_true true = refl
and_true false = refl

and_false : (b : Bool) → b && false ≡ false
and_false true = refl
and_false false = refl

pub both_true : (a b : Bool) → a && b ≡ true → (a ≡ true) × (b ≡ true)
both_true true b h = (refl, h)
both_true false b h = absurd (false_true h)
  where
    false_true : false ≡ true → ⊥
    false_true e = cc

pub true_both : (a b : Bool) → a ≡ true → b ≡ true → a && b ≡ true
true_both a b h k = λ i. h i && k i

any_at : {A : Type 0} (p : A → Bool) (x : A) (xs : List A) (t : Bool) → p x ≡ t → t || list_any p xs ≡ true → (list_any p xs ≡ true → Has p xs) → Has p (x ∷ xs)
any_at p x xs true e h k = (x, inl refl, e)
any_at p x xs false e h k = let r = k h in (r.0, inr r.1, r.2)

any_of : {A : Type 0} (p : A → Bool) (xs : List A) → list_any p xs ≡ true → Has p xs
any_of p [] h = absurd (let k : false ≡ true = h in cc)
any_of p (x ∷ xs) h = any_at p x xs (p x) refl h (any_of p xs)

of_any_at : {A : Type 0} (p : A → Bool) (y : A) (ys : List A) (t : Bool) → p y ≡ t → list_any p ys ≡ true → list_any p (y ∷ ys) ≡ true
of_any_at p y ys true e k = ap (λ (b : Bool). b || list_any p ys) e
of_any_at p y ys false e k = ap (λ (b : Bool). b || list_any p ys) e ∙ k

of_any : {A : Type 0} (p : A → Bool) (xs : List A) (x : A) → Among xs x → p x ≡ true → list_any p xs ≡ true
of_any p [] x h e = absurd h
of_any p (y ∷ ys) x (inl h) e = ap (λ (b : Bool). b || list_any p ys) (ap p h ∙ e)
of_any p (y ∷ ys) x (inr h) e = of_any_at p y ys (p y) refl (of_any p ys x h e)

-- the elements that pass a test
pub kept_one : {A : Type 0} (p : A → Bool) (x : A) (xs : List A) (t : Bool) → p x ≡ t → filter p (x ∷ xs) ≡ cond t (x ∷ filter p xs) (filter p xs)
kept_one p x xs t h = ap (λ (b : Bool). cond b (x ∷ filter p xs) (filter p xs)) h

kept_at : {A : Type 0} (p : A → Bool) (y x : A) (ys : List A) (t : Bool) → p y ≡ t → Among (cond t (y ∷ filter p ys) (filter p ys)) x → (Among (filter p ys) x → Among ys x × (p x ≡ true)) →
    Among (y ∷ ys) x × (p x ≡ true)
kept_at p y x ys true e (inl h) k = (inl h, ap p (sym h) ∙ e)
kept_at p y x ys true e (inr h) k = let r = k h in (inr r.0, r.1)
kept_at p y x ys false e h k = let r = k h in (inr r.0, r.1)

among_kept : {A : Type 0} (p : A → Bool) (xs : List A) (x : A) → Among (filter p xs) x → Among xs x × (p x ≡ true)
among_kept p [] x h = absurd h
among_kept p (y ∷ ys) x h = kept_at p y x ys (p y) refl h (among_kept p ys x)

at_kept : {A : Type 0} (p : A → Bool) (y x : A) (ys : List A) (t : Bool) → Among (filter p ys) x → Among (cond t (y ∷ filter p ys) (filter p ys)) x
at_kept p y x ys true h = inr h
at_kept p y x ys false h = h

kept_among : {A : Type 0} (p : A → Bool) (xs : List A) (x : A) → Among xs x → p x ≡ true → Among (filter p xs) x
kept_among p [] x h e = absurd h
kept_among p (y ∷ ys) x (inl h) e = subst (λ zs. Among zs x) (sym (kept_one p y ys true (ap p h ∙ e))) (inl h)
kept_among p (y ∷ ys) x (inr h) e = at_kept p y x ys (p y) (kept_among p ys x h e)

length_at : {A : Type 0} (x : A) (zs : List A) (n : ℕ) (t : Bool) → length zs ≡ n → length (cond t (x ∷ zs) zs) ≡ cond t 1 0 + n
length_at x zs n true h = omega arith
length_at x zs n false h = omega arith

length_kept : {A : Type 0} (p : A → Bool) (xs : List A) → length (filter p xs) ≡ tally (one p) xs
length_kept p [] = refl
length_kept p (x ∷ xs) = length_at x (filter p xs) (tally (one p) xs) (p x) (length_kept p xs)

-- ---- memories

memory_one : (g : Signal) (x : Name) (rest : Bool) (t : Bool) → nat_eq g.depth 0 ≡ t →
    (bytes_eq g.name x && not (nat_eq g.depth 0)) || rest ≡ list_any (λ y. bytes_eq y x) (memory_names g) || rest
memory_one g x rest true h =
    (λ i. (bytes_eq g.name x && not (h i)) || rest) ∙ (ap (λ (b : Bool). b || rest) (and_false (bytes_eq g.name x)) ∙ sym (λ i. list_any (λ y. bytes_eq y x) (cond (h i) [] (g.name ∷ [])) || rest))
memory_one g x rest false h =
    (λ i. (bytes_eq g.name x && not (h i)) || rest)
    ∙ (ap (λ (b : Bool). b || rest) (and_true (bytes_eq g.name x) ∙ or_false (bytes_eq g.name x)) ∙ sym (λ i. list_any (λ y. bytes_eq y x) (cond (h i) [] (g.name ∷ [])) || rest))
  where
    or_false : (b : Bool) → b ≡ b || false
    or_false true = refl
    or_false false = refl

any_append_at : (a b c : Bool) → a || (b || c) ≡ (a || b) || c
any_append_at true b c = refl
any_append_at false b c = refl

any_append : {A : Type 0} (p : A → Bool) (xs ys : List A) → list_any p (xs ++ ys) ≡ list_any p xs || list_any p ys
any_append p [] ys = refl
any_append p (x ∷ xs) ys = ap (λ (b : Bool). p x || b) (any_append p xs ys) ∙ any_append_at (p x) (list_any p xs) (list_any p ys)

memories_are : (gs : List Signal) (x : Name) → list_any (λ (g : Signal). bytes_eq g.name x && not (nat_eq g.depth 0)) gs ≡ is_among (flat_map memory_names gs) x
memories_are [] x = refl
memories_are (g ∷ gs) x =
    ap (λ (b : Bool). (bytes_eq g.name x && not (nat_eq g.depth 0)) || b) (memories_are gs x)
    ∙ (memory_one g x (is_among (flat_map memory_names gs) x) (nat_eq g.depth 0) refl ∙ sym (any_append (λ y. bytes_eq y x) (memory_names g) (flat_map memory_names gs)))

pub memory_is : (f : Flat) (x : Name) → is_memory f x ≡ is_among (memories_of f) x
memory_is f x = memories_are f.signals x

pub is_one : (f : Flat) (x : Name) → Among (memories_of f) x → is_memory f x ≡ true
is_one f x h = memory_is f x ∙ of_among (memories_of f) x h

pub one_is : (f : Flat) (x : Name) → is_memory f x ≡ true → Among (memories_of f) x
one_is f x h = among_of (memories_of f) x (sym (memory_is f x) ∙ h)

-- ---- uses without exactly one plain index

module _ (f : Flat) (x : Name) where
  abbrev names_it : Lval → Bool
  names_it q = is_among (whole_names q) x

  abbrev texts : List Name
  texts = flat_map whole_in (exprs_of f) ++ flat_map whole_lefts (lefts_of f)

  abbrev lists : List Name
  lists = flat_map block_listed f.blocks

  told_by : Among (flat_map whole_names (uses_of f)) x → Among texts x
  told_by h =
      let r = among_flat whole_names (uses_of f) x h in
      let q = from_uses f names_it (r.0, r.1, of_among (whole_names r.0) x r.2) in
      subst (λ z. Among z x) (told_wholes f) (flat_among whole_names (told f) q.0 x q.1 (among_of (whole_names q.0) x q.2))

  by_told : Among texts x → Among (flat_map whole_names (uses_of f)) x
  by_told h =
      let r = among_flat whole_names (told f) x (subst (λ z. Among z x) (sym (told_wholes f)) h) in
      let q = to_uses f names_it (r.0, r.1, of_among (whole_names r.0) x r.2) in
      flat_among whole_names (uses_of f) q.0 x q.1 (among_of (whole_names q.0) x q.2)

  pub whole_by : Among (flat_map whole_names (uses_of f) ++ lists) x → Among (wholes f) x
  whole_by h =
      elim (among_append (flat_map whole_names (uses_of f)) lists x h) [ inl k ↦ append_left texts lists x (told_by k) | inr k ↦ append_right texts lists x k ]

  pub by_whole : Among (wholes f) x → Among (flat_map whole_names (uses_of f) ++ lists) x
  by_whole h =
      elim (among_append texts lists x h) [ inl k ↦ append_left (flat_map whole_names (uses_of f)) lists x (by_told k) | inr k ↦ append_right (flat_map whole_names (uses_of f)) lists x k ]

-- ---- indices

abbrev is_use : Flat → Indexed → Bool
is_use f u = is_memory f u.name

-- a nested use, as a use with one index
nested_index : (f : Flat) (q : Lval) → is_nested (memories_of f) q ≡ true →
    (u : Indexed) × Among (indexed_names q) u × (u.name ≡ part_name q) × (is_memory f u.name ≡ true) × (y : Name) × Among (names_in u.index) y × (is_memory f y ≡ true)
nested_index f (l.Name x) h = absurd (let k : false ≡ true = h in cc)
nested_index f (l.Select x a) h =
    let r = both_true (is_among (memories_of f) x) (list_any (is_among (memories_of f)) (names_in a)) h in
    let q = any_of (is_among (memories_of f)) (names_in a) r.1 in
    (record { name = x; index = a }, inl refl, refl, memory_is f x ∙ r.0, q.0, q.1, memory_is f q.0 ∙ q.2)
nested_index f (l.Part x span a b) h = absurd (let k : false ≡ true = h in cc)
nested_index f (l.Concat' g row) h = absurd (let k : false ≡ true = h in cc)

index_nested : (f : Flat) (q : Lval) (u : Indexed) (y : Name) → Among (indexed_names q) u → is_memory f u.name ≡ true → Among (names_in u.index) y → is_memory f y ≡ true →
    is_nested (memories_of f) q ≡ true
index_nested f (l.Name x) u y h m n k = absurd h
index_nested f (l.Select x a) u y (inl h) m n k =
    true_both (is_among (memories_of f) x) (list_any (is_among (memories_of f)) (names_in a)) (sym (memory_is f x) ∙ (ap (λ (z : Indexed). is_memory f z.name) h ∙ m))
    (of_any (is_among (memories_of f)) (names_in a) y (subst (λ (z : Indexed). Among (names_in z.index) y) (sym h) n) (sym (memory_is f y) ∙ k))
index_nested f (l.Select x a) u y (inr h) m n k = absurd h
index_nested f (l.Part x span a b) u y h m n k = absurd h
index_nested f (l.Concat' g row) u y h m n k = absurd h

module _ (f : Flat) where
  abbrev all : List Indexed
  all = flat_map indexed_in (exprs_of f) ++ flat_map indexed_lefts (lefts_of f)

  among_told : (u : Indexed) → Among all u → (q : Lval) × Among (told f) q × Among (indexed_names q) u
  among_told u h = among_flat indexed_names (told f) u (subst (λ z. Among z u) (sym (told_indexed f)) h)

  told_among : (u : Indexed) (q : Lval) → Among (told f) q → Among (indexed_names q) u → Among all u
  told_among u q h k = subst (λ z. Among z u) (told_indexed f) (flat_among indexed_names (told f) q u h k)

  abbrev nested_here : Name → Lval → Bool
  nested_here x q = is_nested (memories_of f) q && bytes_eq (part_name q) x

  pub nested_by : (x : Name) (q : Lval) → Among (uses_of f) q → is_nested (memories_of f) q ≡ true → part_name q ≡ x → HasNestedIndex f x
  nested_by x q h k e =
      let r = from_uses f (nested_here x) (q, h, true_both (is_nested (memories_of f) q) (bytes_eq (part_name q) x) k ((bytes_eq-Decides (part_name q) x).1 e)) in
      let t = both_true (is_nested (memories_of f) r.0) (bytes_eq (part_name r.0) x) r.2 in
      let u = nested_index f r.0 t.0 in
      (u.0, kept_among (is_use f) all u.0 (told_among u.0 r.0 r.1 u.1) u.3, u.2 ∙ (bytes_eq-Decides (part_name r.0) x).0 t.1, u.4, u.5, u.6)

  pub by_nested : ((q : Lval) → Among (uses_of f) q → is_nested (memories_of f) q ≡ true → ⊥) → (x : Name) → HasNestedIndex f x → ⊥
  by_nested lacks x (u, h, e, y, n, m) =
      let r = among_kept (is_use f) all u h in
      let q = among_told u r.0 in
      let p = to_uses f (is_nested (memories_of f)) (q.0, q.1, index_nested f q.0 u y q.2 r.1 n m) in
      lacks p.0 p.1 p.2

  -- ---- how many

  one_use : (q : Lval) → tally (one (is_use f)) (indexed_names q) ≡ one (is_indexed (memories_of f)) q
  one_use (l.Name x) = refl
  one_use (l.Select x a) =
      let k : one (is_use f) (record { name = x; index = a }) ≡ one (is_indexed (memories_of f)) (l.Select x a) = ap (λ (b : Bool). cond b 1 0) (memory_is f x) in
      omega arith
  one_use (l.Part x span a b) = refl
  one_use (l.Concat' g row) = refl

  sums_same : (v w : Lval → ℕ) → ((q : Lval) → v q ≡ w q) → (qs : List Lval) → tally v qs ≡ tally w qs
  sums_same v w h [] = refl
  sums_same v w h (q ∷ qs) = λ i. h q i + sums_same v w h qs i

  pub use_count : length (memory_uses f) ≡ length (filter (is_indexed (memories_of f)) (uses_of f))
  use_count =
      length_kept (is_use f) all
      ∙ (ap (tally (one (is_use f))) (sym (told_indexed f))
      ∙ (tally_flat (one (is_use f)) indexed_names (told f)
      ∙ (sums_same (λ q. tally (one (is_use f)) (indexed_names q)) (one (is_indexed (memories_of f))) one_use (told f)
      ∙ (same_sum (one (is_indexed (memories_of f))) f ∙ sym (length_kept (is_indexed (memories_of f)) (uses_of f))))))

-- ---- how memories are kept

module _ (f : Flat) (x : Name) where
  only : (y : Name) → Among (y ∷ []) x → y ≡ x
  only y (inl e) = e
  only y (inr h) = absurd h

  pub signed_is : Among (flat_map signed_names f.signals) x → IsSigned f x
  signed_is h =
      let r = among_flat signed_names f.signals x h in
      let q = in_chosen (r.0.name ∷ []) x r.0.signed r.2 in
      (r.0, r.1, only r.0.name q.1, q.0)

  pub is_signed : IsSigned f x → Among (flat_map signed_names f.signals) x
  is_signed (g, h, e, s) = flat_among signed_names f.signals g x h (chosen_in (g.name ∷ []) x g.signed s (inl e))

  abbrev by_assigns : List Name
  by_assigns = flat_map assign_names f.assigns

  abbrev any_clocked : List Name
  any_clocked = flat_map (chosen_names true v.Any) f.blocks

  abbrev any_other : List Name
  any_other = flat_map (chosen_names false v.Any) f.blocks

  abbrev block_lefts : List Lval
  block_lefts = flat_map (λ (k : Always). lefts k.body) f.blocks

  abbrev assign_lefts : List Lval
  assign_lefts = map (λ (a : Assign). a.left) f.assigns

  -- a name on some left side stands in a list of them
  named_in : (ls : List Lval) (q : Lval) → Among ls q → Among (left_names q) x → Names ls x
  named_in ls q h k = flat_among left_names ls q x h k

  of_block : (k : Always) → Among f.blocks k → Names (lefts k.body) x → Names (lefts_of f) x
  of_block k h n =
      let r = among_flat left_names (lefts k.body) x n in
      named_in (lefts_of f) r.0 (append_right assign_lefts block_lefts r.0 (flat_among (λ (k : Always). lefts k.body) f.blocks k r.0 h r.1)) r.2

  pub assigned_is : Among (assigned_names f) x → Names (lefts_of f) x
  assigned_is h =
      elim (among_append by_assigns (any_clocked ++ any_other) x h) [
        | inl k ↦ let r = among_flat assign_names f.assigns x k in named_in (lefts_of f) r.0.left (append_left assign_lefts block_lefts r.0.left (map_among (λ (a : Assign). a.left) f.assigns r.0 r.1)) r.2
        | inr k ↦ elim (among_append any_clocked any_other x k) [
          | inl m ↦ let r = blocked_is f x true v.Any m in of_block r.0 r.1 r.3
          | inr m ↦ let r = blocked_is f x false v.Any m in of_block r.0 r.1 r.3
        ]
      ]

  pub is_assigned : Names (lefts_of f) x → Among (assigned_names f) x
  is_assigned h = from_left (among_flat left_names (lefts_of f) x h)
    where
      clocked : (b : Bool) (k : Always) → k.clocked ≡ b → Among f.blocks k → Names (lefts k.body) x → Among (any_clocked ++ any_other) x
      clocked true k e h n = append_left any_clocked any_other x (is_blocked f x true v.Any (k, h, e, n))
      clocked false k e h n = append_right any_clocked any_other x (is_blocked f x false v.Any (k, h, e, n))

      by_assign : (q : Lval) → Among assign_lefts q → Among (left_names q) x → Among by_assigns x
      by_assign q h n =
          let r = among_map (λ (a : Assign). a.left) f.assigns q h in
          flat_among assign_names f.assigns r.0 x r.1 (subst (λ (z : Lval). Among (left_names z) x) (sym r.2) n)

      by_block : (q : Lval) → Among block_lefts q → Among (left_names q) x → Among (any_clocked ++ any_other) x
      by_block q h n =
          let r = among_flat (λ (k : Always). lefts k.body) f.blocks q h in
          clocked r.0.clocked r.0 refl r.1 (named_in (lefts r.0.body) q r.2 n)

      from_left : (q : Lval) × Among (lefts_of f) q × Among (left_names q) x → Among (assigned_names f) x
      from_left (q, h, n) =
          elim (among_append assign_lefts block_lefts q h) [
            | inl k ↦ append_left by_assigns (any_clocked ++ any_other) x (by_assign q k n)
            | inr k ↦ append_right by_assigns (any_clocked ++ any_other) x (by_block q k n)
          ]

  abbrev late : List Name
  late = flat_map (chosen_names true v.Blocking) f.blocks

  abbrev early : List Name
  early = flat_map (chosen_names false v.Blocking) f.blocks

  abbrev put_off : List Name
  put_off = flat_map (chosen_names false v.Nonblocking) f.blocks

  pub otherwise_is : Among (other_names f) x → IsAssignedOtherwise f x
  otherwise_is h =
      elim (among_append by_assigns (late ++ (early ++ put_off)) x h) [
        | inl k ↦ let r = among_flat assign_names f.assigns x k in inl (r.0, r.1, r.2)
        | inr k ↦ elim (among_append late (early ++ put_off) x k) [
          | inl m ↦ let r = blocked_is f x true v.Blocking m in inr (r.0, r.1, inl r.3)
          | inr m ↦ elim (among_append early put_off x m) [
            | inl n ↦ let r = blocked_is f x false v.Blocking n in inr (r.0, r.1, inl r.3)
            | inr n ↦ let r = blocked_is f x false v.Nonblocking n in inr (r.0, r.1, inr (r.2, r.3))
          ]
        ]
      ]

  pub is_otherwise : IsAssignedOtherwise f x → Among (other_names f) x
  is_otherwise (inl (a, h, n)) = append_left by_assigns (late ++ (early ++ put_off)) x (flat_among assign_names f.assigns a x h n)
  is_otherwise (inr (k, h, inl n)) = append_right by_assigns (late ++ (early ++ put_off)) x (blocking k.clocked refl)
    where
      blocking : (b : Bool) → k.clocked ≡ b → Among (late ++ (early ++ put_off)) x
      blocking true e = append_left late (early ++ put_off) x (is_blocked f x true v.Blocking (k, h, e, n))
      blocking false e = append_right late (early ++ put_off) x (append_left early put_off x (is_blocked f x false v.Blocking (k, h, e, n)))
  is_otherwise (inr (k, h, inr n)) =
      append_right by_assigns (late ++ (early ++ put_off)) x (append_right late (early ++ put_off) x (append_right early put_off x (is_blocked f x false v.Nonblocking (k, h, n.0, n.1))))

  pub signed_kept : IsSigned f x → IsWronglyKept f x
  signed_kept h = inl h

  pub unassigned_kept : (Names (lefts_of f) x → ⊥) → IsWronglyKept f x
  unassigned_kept h = inr (inl h)

  pub otherwise_kept : IsAssignedOtherwise f x → IsWronglyKept f x
  otherwise_kept h = inr (inr h)

  pub rightly_kept : (IsSigned f x → ⊥) → ((Names (lefts_of f) x → ⊥) → ⊥) → (IsAssignedOtherwise f x → ⊥) → IsWronglyKept f x → ⊥
  rightly_kept a b c (inl h) = a h
  rightly_kept a b c (inr (inl h)) = b h
  rightly_kept a b c (inr (inr h)) = c h
