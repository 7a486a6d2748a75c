-- A folded node has the value of the node that was given.
use Rattle.std.proofs.Common.{◌≡◌, ℕ, zero, suc, ◌+◌, ◌<◌, Bool, true, false, List, [], ◌∷◌, ◌++◌, length, Option, Some, None, refl, sym, ap, ◌∙◌, subst, arith, inl, inr, length-append, append_assoc}
use Rattle.std.specs.Prelude.{slice_index, map, ◌⊎◌, if◌then◌else◌, ◌==◌}
use Rattle.word_core.specs.Words.{Bits, not_of, slice_of, zext_of, sext_of}
use Rattle.word_dag.specs.declared.node.Node.{Node}
use Rattle.word_dag.specs.declared.node.Node.TheVariants.{Free, Const, Two, Not, Slice, Zext, Sext, Mux}
use Rattle.word_dag.specs.declared.fold.Folded.{Folded}
use Rattle.word_dag.specs.declared.fold.Folded.TheVariants.{Make, Is}
use Rattle.word_dag.specs.Nodes.{FitsNode, FitFrom, width_of, width_at, node_value, op_value, word_at, Naming, named, dag_values}
use Rattle.word_dag.specs.Given.{widths_of, is_free}
use Rattle.word_dag.specs.Prints.{print_of}
use Rattle.word_dag.specs.Adding.{constant_of, constant_at, made_of, made_of_two, chosen, folded, IsAt, IsDistinct, HasValueOf, Grows, AddsNoFree, Keeps, Adds}
use Rattle.word_dag.specs.Holds.{IsDag}
use Rattle.word_dag.proofs.Operands.{width_at-words}
use Rattle.word_dag.proofs.Widths.{width-node_value}
use Rattle.word_dag.proofs.NodeValues.{value_equation, dag_values-push, length-dag_values, word_at-front, word_at-last, width_at-map, width_at-front, FitFrom-push}

append_nil : {A : Type 0} (xs : List A) → xs ++ [] ≡ xs
append_nil [] = refl
append_nil (x ∷ xs) = ap (λ r. x ∷ r) (append_nil xs)

widths_of-push : (vs : List Bits) (w : Bits) → widths_of (vs ++ w ∷ []) ≡ widths_of vs ++ w.width ∷ []
widths_of-push [] w = refl
widths_of-push (v ∷ vs) w = ap (λ r. v.width ∷ r) (widths_of-push vs w)

-- the values of nodes that fit have the nodes' widths
pub values_wide : (e : Naming) (vs : List Bits) (ns : List Node) → FitFrom (widths_of vs) ns → widths_of (dag_values e vs ns) ≡ widths_of vs ++ map width_of ns
values_wide e vs [] f = sym (append_nil (widths_of vs))
values_wide e vs (n ∷ ns) f =
    let w = node_value (named e n) vs n in
    let here : widths_of (vs ++ w ∷ []) ≡ widths_of vs ++ width_of n ∷ [] = widths_of-push vs w ∙ ap (λ k. widths_of vs ++ k ∷ []) (width-node_value (named e n) vs n f.0) in
    values_wide e (vs ++ w ∷ []) ns (subst (λ k. FitFrom k ns) (sym here) f.1) ∙ ap (λ k. k ++ map width_of ns) here ∙ append_assoc (widths_of vs) (width_of n ∷ []) (map width_of ns)

pub word_wide : (e : Naming) (ns : List Node) (i : ℕ) → FitFrom [] ns → (word_at (dag_values e [] ns) i).width ≡ width_at ns i
word_wide e ns i f = sym (width_at-words (dag_values e [] ns) i) ∙ ap (λ k. slice_index k i) (values_wide e [] ns f) ∙ width_at-map ns i

constant_is : (n : Node) (w : Bits) → constant_of n ≡ Some w → Const w ≡ n
constant_is (Free name width side cycle) w e = cc
constant_is (Const v) w e = cc
constant_is (Two op width a b) w e = cc
constant_is (Not width a) w e = cc
constant_is (Slice width a lo) w e = cc
constant_is (Zext width a) w e = cc
constant_is (Sext width a) w e = cc
constant_is (Mux width c a b) w e = cc

constant_there : (ns : List Node) (i : ℕ) (w : Bits) → constant_at ns i ≡ Some w → IsAt ns i (Const w)
constant_there [] i w e = cc
constant_there (n ∷ ns) zero w e = (omega arith, constant_is n w e)
constant_there (n ∷ ns) (suc i) w e = let r = constant_there ns i w e in (omega (arith, r.0), r.1)

-- a node that stands at i is what the value at i is made by
pub value_there : (e : Naming) (ns : List Node) (i : ℕ) (n : Node) → FitFrom [] ns → IsAt ns i n → word_at (dag_values e [] ns) i ≡ node_value (named e n) (dag_values e [] ns) n
value_there e ns i n f at =
    let plus : i ≡ 0 + i = omega arith in
    ap (word_at (dag_values e [] ns)) plus ∙ value_equation e [] [] ns i n refl f at.0 at.1

-- what a folded node means
abbrev pub folded_value : Naming → List Node → Folded → Bits
folded_value e ns (Make m) = node_value (named e m) (dag_values e [] ns) m
folded_value e ns (Is i) = word_at (dag_values e [] ns) i

module _ (e : Naming) (ns : List Node) (f : FitFrom [] ns) where
  constant_value : (a : ℕ) (w : Bits) → constant_at ns a ≡ Some w → w ≡ word_at (dag_values e [] ns) a
  constant_value a w c = sym (value_there e ns a (Const w) f (constant_there ns a w c))

  by_one : (n : Node) (g : Bits → Bits) (a : ℕ) → node_value (named e n) (dag_values e [] ns) n ≡ g (word_at (dag_values e [] ns) a) → (o : Option Bits) → constant_at ns a ≡ o → folded_value e ns (made_of n g o) ≡ node_value (named e n) (dag_values e [] ns) n
  by_one n g a h None c = refl
  by_one n g a h (Some w) c = ap g (constant_value a w c) ∙ sym h

  by_two : (n : Node) (g : Bits → Bits → Bits) (a b : ℕ) → node_value (named e n) (dag_values e [] ns) n ≡ g (word_at (dag_values e [] ns) a) (word_at (dag_values e [] ns) b) → (o p : Option Bits) → constant_at ns a ≡ o → constant_at ns b ≡ p → folded_value e ns (made_of_two n g o p) ≡ node_value (named e n) (dag_values e [] ns) n
  by_two n g a b h None p c d = refl
  by_two n g a b h (Some v) None c d = refl
  by_two n g a b h (Some v) (Some w) c d =
      ap (λ k. g k w) (constant_value a v c) ∙ ap (g (word_at (dag_values e [] ns) a)) (constant_value b w d) ∙ sym h

  pick : (vs : List Bits) (a b : ℕ) (t : Bool) → word_at vs (if t then a else b) ≡ (if t then word_at vs a else word_at vs b)
  pick vs a b true = refl
  pick vs a b false = refl

  by_choice : (width c a b : ℕ) (o : Option Bits) → constant_at ns c ≡ o → folded_value e ns (chosen (Mux width c a b) a b o) ≡ node_value 0 (dag_values e [] ns) (Mux width c a b)
  by_choice width c a b None d = refl
  by_choice width c a b (Some w) d =
      let vs = dag_values e [] ns in
      pick vs a b (w.value == 1) ∙ ap (λ k. if k.value == 1 then word_at vs a else word_at vs b) (constant_value c w d)

  pub folded_means : (n : Node) → folded_value e ns (folded ns n) ≡ node_value (named e n) (dag_values e [] ns) n
  folded_means (Free name width side cycle) = refl
  folded_means (Const w) = refl
  folded_means (Two op width a b) = by_two (Two op width a b) (op_value op) a b refl (constant_at ns a) (constant_at ns b) refl refl
  folded_means (Not width a) = by_one (Not width a) not_of a refl (constant_at ns a) refl
  folded_means (Slice width a lo) = by_one (Slice width a lo) (λ w. slice_of w lo width) a refl (constant_at ns a) refl
  folded_means (Zext width a) = by_one (Zext width a) (λ w. zext_of w width) a refl (constant_at ns a) refl
  folded_means (Sext width a) = by_one (Sext width a) (λ w. sext_of w width) a refl (constant_at ns a) refl
  folded_means (Mux width c a b) = by_choice width c a b (constant_at ns c) refl

map_push : (ns : List Node) (n : Node) → map print_of (ns ++ n ∷ []) ≡ map print_of ns ++ print_of n ∷ []
map_push [] n = refl
map_push (m ∷ ns) n = ap (λ r. print_of m ∷ r) (map_push ns n)

-- the node that stands at i of a list with one more node
at_before : (ns : List Node) (m n : Node) (i : ℕ) → i < length ns → IsAt (ns ++ m ∷ []) i n → IsAt ns i n
at_before [] m n i lt at = absurd (omega arith)
at_before (x ∷ ns) m n zero lt at = (lt, at.1)
at_before (x ∷ ns) m n (suc i) lt at =
    let r = at_before ns m n i (omega arith) (omega (arith, at.0, length-append ns (m ∷ [])), at.1) in
    (omega (arith, r.0), r.1)

at_end : (ns : List Node) (m n : Node) → IsAt (ns ++ m ∷ []) (length ns) n → n ≡ m
at_end [] m n at = at.1
at_end (x ∷ ns) m n at = at_end ns m n (omega (arith, at.0, length-append ns (m ∷ [])), at.1)

end_or : (i n : ℕ) → i < suc n → (i < n) ⊎ (i ≡ n)
end_or i n lt = grind arith

distinct_push : (ns : List Node) (m : Node) → IsDistinct ns → ((j : ℕ) → IsAt ns j m → ⊥) → IsDistinct (ns ++ m ∷ [])
distinct_push ns m d fresh n i j ai aj =
    let long = length-append ns (m ∷ []) in
    elim (end_or i (length ns) (omega (arith, ai.0, long))) [
      | inl p ↦ elim (end_or j (length ns) (omega (arith, aj.0, long))) [
        | inl q ↦ d n i j (at_before ns m n i p ai) (at_before ns m n j q aj)
        | inr q ↦ absurd (clash i p ai (is_new j q aj))
      ]
      | inr p ↦ elim (end_or j (length ns) (omega (arith, aj.0, long))) [
        | inl q ↦ absurd (clash j q aj (is_new i p ai))
        | inr q ↦ p ∙ sym q
      ]
    ]
  where
    is_new : (k : ℕ) → k ≡ length ns → IsAt (ns ++ m ∷ []) k n → n ≡ m
    is_new k e at = at_end ns m n (subst (λ t. IsAt (ns ++ m ∷ []) t n) e at)

    clash : (k : ℕ) → k < length ns → IsAt (ns ++ m ∷ []) k n → n ≡ m → ⊥
    clash k lt at e = fresh k (subst (λ t. IsAt ns k t) e (at_before ns m n k lt at))

pub is_dag_push : (ns new : List Node) (m : Node) (prints more : List ℕ) (print : ℕ) → IsDag ns prints → FitsNode (map width_of ns) m → ((j : ℕ) → IsAt ns j m → ⊥) → print ≡ print_of m → new ≡ ns ++ m ∷ [] → more ≡ prints ++ print ∷ [] → IsDag new more
is_dag_push ns new m prints more print d fits fresh ep en em = record {
  fit = rw en (FitFrom-push [] ns m d.fit fits);
  distinct = rw en (distinct_push ns m d.distinct fresh);
  prints = em ∙ ap (λ k. k ++ print ∷ []) d.prints ∙ ap (λ k. map print_of ns ++ k ∷ []) ep ∙ sym (map_push ns m) ∙ ap (map print_of) (sym en);
}

pub is_dag_same : (ns new : List Node) (prints more : List ℕ) → IsDag ns prints → new ≡ ns → more ≡ prints → IsDag new more
is_dag_same ns new prints more d en em = rw (en, em) d

grows_same : (old new : List Node) → new ≡ old → Grows old new
grows_same old new e = record { more = ([], e ∙ sym (append_nil old)); longer = omega (arith, ap length e); widths = λ i lt. ap (λ k. slice_index (map width_of k) i) e; values = λ v i lt. ap (λ k. word_at (dag_values v [] k) i) e }

grows_push : (old new : List Node) (m : Node) → new ≡ old ++ m ∷ [] → Grows old new
grows_push old new m e = record {
  more = (m ∷ [], e);
  longer = omega (arith, ap length e, length-append old (m ∷ []));
  widths = λ i lt. ap (λ k. slice_index (map width_of k) i) e ∙ width_at-map (old ++ m ∷ []) i ∙ width_at-front old (m ∷ []) i lt ∙ sym (width_at-map old i);
  values = λ v i lt. ap (λ k. word_at (dag_values v [] k) i) e ∙ ap (λ k. word_at k i) (dag_values-push v [] old m) ∙ word_at-front (dag_values v [] old) (node_value (named v m) (dag_values v [] old) m ∷ []) i (omega (arith, length-dag_values v [] old, lt));
}

pub keeps_grown : (old new : List Node) → Grows old new → AddsNoFree old new → Keeps old new
keeps_grown old new g f = record { more = g.more; longer = g.longer; widths = g.widths; values = g.values; frees = f }

pub grows_kept : (old new : List Node) → Keeps old new → Grows old new
grows_kept old new k = record { more = k.more; longer = k.longer; widths = k.widths; values = k.values }

frees_same : (old new : List Node) → new ≡ old → AddsNoFree old new
frees_same old new e n i free at = subst (λ k. IsAt k i n) e at

-- a node that isn't free adds no free word
frees_push : (old new : List Node) (m : Node) → is_free m ≡ false → new ≡ old ++ m ∷ [] → AddsNoFree old new
frees_push old new m bound e n i free at =
    let there : IsAt (old ++ m ∷ []) i n = subst (λ k. IsAt k i n) e at in
    elim (end_or i (length old) (omega (arith, there.0, length-append old (m ∷ [])))) [
      | inl lt ↦ at_before old m n i lt there
      | inr last ↦ (let same : n ≡ m = at_end old m n (subst (λ k. IsAt (old ++ m ∷ []) k n) last there) in let h : true ≡ false = sym free ∙ ap is_free same ∙ bound in cc)
    ]

-- what a node that isn't free is folded to isn't free
made_bound : (n m : Node) (f : Bits → Bits) (v : Option Bits) → is_free n ≡ false → made_of n f v ≡ Make m → is_free m ≡ false
made_bound n m f None bound e = (let h : n ≡ m = cc in subst (λ k. is_free k ≡ false) h bound)
made_bound n m f (Some w) bound e = (let h : Const (f w) ≡ m = cc in subst (λ k. is_free k ≡ false) h refl)

folded_bound : (ns : List Node) (n m : Node) → is_free n ≡ false → folded ns n ≡ Make m → is_free m ≡ false
folded_bound ns (Free name width side cycle) m bound e = cc
folded_bound ns (Const w) m bound e = (let h : Const w ≡ m = cc in subst (λ k. is_free k ≡ false) h refl)
folded_bound ns (Two op width a b) m bound e = two (constant_at ns a) e
  where
    two : (v : Option Bits) → made_of_two (Two op width a b) (op_value op) v (constant_at ns b) ≡ Make m → is_free m ≡ false
    two None e = (let h : Two op width a b ≡ m = cc in subst (λ k. is_free k ≡ false) h refl)
    two (Some w) e = made_bound (Two op width a b) m (op_value op w) (constant_at ns b) refl e
folded_bound ns (Not width a) m bound e = made_bound (Not width a) m not_of (constant_at ns a) refl e
folded_bound ns (Slice width a lo) m bound e = made_bound (Slice width a lo) m (λ w. slice_of w lo width) (constant_at ns a) refl e
folded_bound ns (Zext width a) m bound e = made_bound (Zext width a) m (λ w. zext_of w width) (constant_at ns a) refl e
folded_bound ns (Sext width a) m bound e = made_bound (Sext width a) m (λ w. sext_of w width) (constant_at ns a) refl e
folded_bound ns (Mux width c a b) m bound e = choice (constant_at ns c) e
  where
    choice : (v : Option Bits) → chosen (Mux width c a b) a b v ≡ Make m → is_free m ≡ false
    choice None e = (let h : Mux width c a b ≡ m = cc in subst (λ k. is_free k ≡ false) h refl)
    choice (Some w) e = cc

no_names : Naming
no_names name side cycle = 0

-- a node with the value of n has n's width
module _ (old new : List Node) (n : Node) (i : ℕ) (fit : FitFrom [] old) (fits : FitsNode (map width_of old) n) where
  wide_by_value : FitFrom [] new → HasValueOf old new n i → width_at new i ≡ width_of n
  wide_by_value fit' v =
      let e = no_names in
      let f : FitsNode (widths_of (dag_values e [] old)) n = subst (λ k. FitsNode k n) (sym (values_wide e [] old fit)) fits in
      sym (word_wide e new i fit') ∙ ap (λ w. w.width) (v e) ∙ width-node_value (named e n) (dag_values e [] old) n f

  pub adds_is : (j : ℕ) → folded old n ≡ Is j → j < length old → new ≡ old → i ≡ j → Adds old new n i
  adds_is j fo lt en ei =
      let value : HasValueOf old new n i = λ e. ap (λ k. word_at (dag_values e [] k) i) en ∙ ap (word_at (dag_values e [] old)) ei ∙ ap (folded_value e old) (sym fo) ∙ folded_means e old fit n in
      record {
        puts = rw fo (en, ei);
        grows = grows_same old new en;
        keeps = λ bound. keeps_grown old new (grows_same old new en) (frees_same old new en);
        within = omega (arith, ap length en);
        wide = width_at-map new i ∙ wide_by_value (rw en fit) value;
        value = value;
      }

  pub adds_old : (m : Node) → folded old n ≡ Make m → IsAt old i m → new ≡ old → Adds old new n i
  adds_old m fo at en =
      let value : HasValueOf old new n i = λ e. ap (λ k. word_at (dag_values e [] k) i) en ∙ value_there e old i m fit at ∙ ap (folded_value e old) (sym fo) ∙ folded_means e old fit n in
      record {
        puts = rw fo (inl (en, at));
        grows = grows_same old new en;
        keeps = λ bound. keeps_grown old new (grows_same old new en) (frees_same old new en);
        within = omega (arith, ap length en, at.0);
        wide = width_at-map new i ∙ wide_by_value (rw en fit) value;
        value = value;
      }

  pub adds_new : (m : Node) → folded old n ≡ Make m → FitsNode (map width_of old) m → ((j : ℕ) → IsAt old j m → ⊥) → new ≡ old ++ m ∷ [] → i ≡ length old → Adds old new n i
  adds_new m fo fm fresh en ei =
      let value : HasValueOf old new n i = λ e. (let v = node_value (named e m) (dag_values e [] old) m in let long : i ≡ length (dag_values e [] old) = omega (arith, length-dag_values e [] old) in ap (λ k. word_at (dag_values e [] k) i) en ∙ ap (λ k. word_at k i) (dag_values-push e [] old m) ∙ ap (word_at (dag_values e [] old ++ v ∷ [])) long ∙ word_at-last (dag_values e [] old) v ∙ ap (folded_value e old) (sym fo) ∙ folded_means e old fit n) in
      record {
        puts = rw fo (inr (en, ei, fresh));
        grows = grows_push old new m en;
        keeps = λ bound. keeps_grown old new (grows_push old new m en) (frees_push old new m (folded_bound old n m bound fo) en);
        within = omega (arith, ap length en, length-append old (m ∷ []));
        wide = width_at-map new i ∙ wide_by_value (rw en (FitFrom-push [] old m fit fm)) value;
        value = value;
      }
