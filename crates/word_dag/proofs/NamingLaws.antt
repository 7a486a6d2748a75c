-- The naming of values gives each free node its value.
use Rattle.std.proofs.Common.{◌≡◌, ℕ, zero, suc, ◌<◌, Bool, true, false, List, [], ◌∷◌, ◌++◌, length, get_or, refl, sym, ap, ◌∙◌, arith, inl, inr}
use Rattle.std.specs.Prelude.{ℤ, ◌&&◌, nat_eq, if◌then◌else◌, slice_index}
use Rattle.std.specs.Ordering.{int_eq}
use Rattle.std.specs.Str.{bytes_eq}
use Rattle.std.proofs.lemmas.Bool.{cases_Bool}
use Rattle.std.proofs.lemmas.Bool.Decides.{Decides-eqb, Decides-int_eq}
use Rattle.std.proofs.lemmas.Slice.Eq.{bytes_eq-Decides}
use Rattle.word_core.specs.Words.{Bits}
use Rattle.word_dag.specs.declared.node.Node.{Node}
use Rattle.word_dag.specs.declared.node.Node.TheVariants.{Free, Const, Two, Not, Slice, Zext, Sext, Mux}
use Rattle.word_dag.specs.Adding.{IsAt}
use Rattle.word_dag.specs.Nodes.{Naming, dag_values, left_after, named, node_value, ob_values, root_value, word_at}
use Rattle.word_dag.specs.Names.{HasOneWordEach, is_word, naming_from, ValuesHaveNamings}

-- ---- nodes take the values of a naming

abbrev HasValue : Naming → Node → ℕ → Type 0
HasValue e (Free x n side t) u = e x side t ≡ u
HasValue e node u = Unit {0}

abbrev AreValues : Naming → List ℕ → List Node → Type 0
AreValues e us [] = Unit {0}
AreValues e us (n ∷ ns) = HasValue e n (slice_index us 0) × AreValues e (left_after n us) ns

node_same : (e : Naming) (vs : List Bits) (n : Node) (u : ℕ) → HasValue e n u → node_value u vs n ≡ node_value (named e n) vs n
node_same e vs (Free x w side t) u is = ap (λ k. node_value k vs (Free x w side t)) (sym is)
node_same e vs (Const w) u is = refl
node_same e vs (Two op w a b) u is = refl
node_same e vs (Not w a) u is = refl
node_same e vs (Slice w a lo) u is = refl
node_same e vs (Zext w a) u is = refl
node_same e vs (Sext w a) u is = refl
node_same e vs (Mux w c a b) u is = refl

values_agree : (e : Naming) (us : List ℕ) (vs : List Bits) (ns : List Node) → AreValues e us ns → ob_values us vs ns ≡ dag_values e vs ns
values_agree e us vs [] are = refl
values_agree e us vs (n ∷ ns) are =
    values_agree e (left_after n us) (vs ++ node_value (slice_index us 0) vs n ∷ []) ns are.1
    ∙ ap (λ (w : Bits). dag_values e (vs ++ w ∷ []) ns) (node_same e vs n (slice_index us 0) are.0)

-- ---- each word is told once

abbrev Lacks : Node → List Node → Type 0
Lacks (Free x n side t) ns = (m i : ℕ) → IsAt ns i (Free x m side t) → ⊥
Lacks node ns = Unit {0}

abbrev Apart : List Node → Type 0
Apart [] = Unit {0}
Apart (n ∷ ns) = Lacks n ns × Apart ns

later : (n m : Node) (ns : List Node) (i : ℕ) → IsAt ns i m → IsAt (n ∷ ns) (suc i) m
later n m ns i at = (omega (arith, at.0), at.1)

lacks_of : (n : Node) (ns : List Node) → HasOneWordEach (n ∷ ns) → Lacks n ns
lacks_of (Free x w side t) ns one = λ m i at. (let e : 0 ≡ suc i = one x w m side 0 (suc i) t (omega arith, refl) (later (Free x w side t) (Free x m side t) ns i at) in omega (arith, e))
lacks_of (Const w) ns one = tt
lacks_of (Two op w a b) ns one = tt
lacks_of (Not w a) ns one = tt
lacks_of (Slice w a lo) ns one = tt
lacks_of (Zext w a) ns one = tt
lacks_of (Sext w a) ns one = tt
lacks_of (Mux w c a b) ns one = tt

rest_of : (n : Node) (ns : List Node) → HasOneWordEach (n ∷ ns) → HasOneWordEach ns
rest_of n ns one = λ x w m side i j t at there. (let e : suc i ≡ suc j = one x w m side (suc i) (suc j) t (later n (Free x w side t) ns i at) (later n (Free x m side t) ns j there) in omega (arith, e))

apart_of : (ns : List Node) → HasOneWordEach ns → Apart ns
apart_of [] one = tt
apart_of (n ∷ ns) one = (lacks_of n ns one, apart_of ns (rest_of n ns one))

lacks_rest : (n m : Node) (ns : List Node) → Lacks n (m ∷ ns) → Lacks n ns
lacks_rest (Free x w side t) m ns lacks = λ k i at. lacks k (suc i) (later m (Free x k side t) ns i at)
lacks_rest (Const w) m ns lacks = tt
lacks_rest (Two op w a b) m ns lacks = tt
lacks_rest (Not w a) m ns lacks = tt
lacks_rest (Slice w a lo) m ns lacks = tt
lacks_rest (Zext w a) m ns lacks = tt
lacks_rest (Sext w a) m ns lacks = tt
lacks_rest (Mux w c a b) m ns lacks = tt

-- ---- a word of one node is no other's

split : (a b : Bool) → (a && b) ≡ true → (a ≡ true) × (b ≡ true)
split true true e = (refl, refl)
split true false e = (refl, e)
split false b e = (e, cc)

both : (a b : Bool) → a ≡ true → b ≡ true → (a && b) ≡ true
both a b p q = ap (λ k. k && b) p ∙ q

itself : (x : List ℕ) (w side : ℕ) (t : ℤ) → is_word (Free x w side t) x side t ≡ true
itself x w side t = both (bytes_eq x x) (nat_eq side side && int_eq t t) ((bytes_eq-Decides x x).1 refl) (both (nat_eq side side) (int_eq t t) ((Decides-eqb side side).1 refl) ((Decides-int_eq t t).1 refl))

same_word : (y x : List ℕ) (w v s side : ℕ) (c t : ℤ) → is_word (Free y w s c) x side t ≡ true → Free x v side t ≡ Free y v s c
same_word y x w v s side c t is =
    let p = split (bytes_eq y x) (nat_eq s side && int_eq c t) is in
    let q = split (nat_eq s side) (int_eq c t) p.1 in
    let e1 : y ≡ x = (bytes_eq-Decides y x).0 p.0 in
    let e2 : s ≡ side = (Decides-eqb s side).0 q.0 in
    let e3 : c ≡ t = (Decides-int_eq c t).0 q.1 in
    ap (λ (z : List ℕ). Free z v side t) (sym e1) ∙ ap (λ k. Free y v k t) (sym e2) ∙ ap (λ (k : ℤ). Free y v s k) (sym e3)

not_word : (n : Node) (ns : List Node) (x : List ℕ) (v side : ℕ) (t : ℤ) → Lacks n (Free x v side t ∷ ns) → is_word n x side t ≡ false
not_word (Free y w s c) ns x v side t lacks =
    elim (cases_Bool (is_word (Free y w s c) x side t)) [
      | inl is ↦ absurd (lacks v 0 (omega arith, sym (same_word y x w v s side c t is)))
      | inr other ↦ other
    ]
not_word (Const w) ns x v side t lacks = refl
not_word (Two op w a b) ns x v side t lacks = refl
not_word (Not w a) ns x v side t lacks = refl
not_word (Slice w a lo) ns x v side t lacks = refl
not_word (Zext w a) ns x v side t lacks = refl
not_word (Sext w a) ns x v side t lacks = refl
not_word (Mux w c a b) ns x v side t lacks = refl

-- a naming with another value for the word of a node
abbrev over : Node → ℕ → Naming → Naming
over n u e x side t = if is_word n x side t then u else e x side t

over_value : (n m : Node) (ns : List Node) (u w : ℕ) (e : Naming) → Lacks n (m ∷ ns) → HasValue e m w → HasValue (over n u e) m w
over_value n (Free x v side t) ns u w e lacks is = rw (not_word n ns x v side t lacks) is
over_value n (Const k) ns u w e lacks is = tt
over_value n (Two op k a b) ns u w e lacks is = tt
over_value n (Not k a) ns u w e lacks is = tt
over_value n (Slice k a lo) ns u w e lacks is = tt
over_value n (Zext k a) ns u w e lacks is = tt
over_value n (Sext k a) ns u w e lacks is = tt
over_value n (Mux k c a b) ns u w e lacks is = tt

over_values : (n : Node) (ns : List Node) (u : ℕ) (us : List ℕ) (e : Naming) → Lacks n ns → AreValues e us ns → AreValues (over n u e) us ns
over_values n [] u us e lacks are = tt
over_values n (m ∷ ns) u us e lacks are =
    (over_value n m ns u (slice_index us 0) e lacks are.0, over_values n ns u (left_after m us) e (lacks_rest n m ns lacks) are.1)

own : (n : Node) (u : ℕ) (e : Naming) → HasValue (over n u e) n u
own (Free x w side t) u e = rw (itself x w side t) refl
own (Const w) u e = tt
own (Two op w a b) u e = tt
own (Not w a) u e = tt
own (Slice w a lo) u e = tt
own (Zext w a) u e = tt
own (Sext w a) u e = tt
own (Mux w c a b) u e = tt

are_values : (ns : List Node) (us : List ℕ) → Apart ns → AreValues (naming_from ns us) us ns
are_values [] us apart = tt
are_values (n ∷ ns) us apart =
    let e = naming_from ns (left_after n us) in
    (own n (slice_index us 0) e, over_values n ns (slice_index us 0) (left_after n us) e apart.0 (are_values ns (left_after n us) apart.1))

pub values_have_namings : ValuesHaveNamings
values_have_namings nodes us one root =
    ap (λ (vs : List Bits). word_at vs root) (sym (values_agree (naming_from nodes us) us [] nodes (are_values nodes us (apart_of nodes one))))
