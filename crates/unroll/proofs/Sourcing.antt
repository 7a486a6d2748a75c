-- Free words of registers and inputs.
use Rattle.std.proofs.Common.{◌≡◌, ◌≢◌, ℕ, zero, suc, ◌<◌, true, List, [], ◌∷◌, length, map, get_or, refl, sym, ap, ◌∙◌, arith, inl, inr}
use Rattle.std.specs.Prelude.{ℤ, ◌⊎◌}
use Rattle.std.specs.List.{AllPairs}
use Rattle.std.proofs.lemmas.List.{length-map}
use Rattle.vlog_tree_runs.specs.Places.{Among}
use Rattle.word_dag.specs.declared.node.Node.{Node}
use Rattle.word_dag.specs.declared.node.Node.TheVariants.{Free}
use Rattle.word_dag.specs.Adding.{IsAt, Keeps}
use Rattle.word_dag.specs.Given.{is_free}
use Rattle.word_dag.specs.Nodes.{width_of}
use Rattle.elab_step_expr.specs.Nodes.{AddsFrees}
use Rattle.elab_step_expr.proofs.Kept.{frees_then}
use Rattle.elab_step_design.specs.declared.design.Net.{Net}
use Rattle.elab_step_design.specs.Designs.{IsDesign, Parts, sources}
use Rattle.unroll.specs.Unrolled.{IsSourceWord}
use Rattle.word_dag.specs.Names.{HasOneWidthEach}

pub frees_none : (p : Node → Type 0) (a : List Node) → AddsFrees p a a
frees_none p a n i free at = inl at

pub frees_same : (p : Node → Type 0) (a b : List Node) → Keeps a b → AddsFrees p a b
frees_same p a b keeps n i free at = inl (keeps.frees n i free at)

pub frees_weaker : (p q : Node → Type 0) (a b : List Node) → ((n : Node) → p n → q n) → AddsFrees p a b → AddsFrees q a b
frees_weaker p q a b weaker frees n i free at = elim (frees n i free at) [ inl old ↦ inl old | inr new ↦ inr (weaker n new) ]

pub frees_again : (p : Node → Type 0) (a b c : List Node) → AddsFrees p a b → AddsFrees p b c → AddsFrees p a c
frees_again p a b c first second n i free at = elim (frees_then p p a b c first second n i free at) [ inl old ↦ inl old | inr (inl new) ↦ inr new | inr (inr new) ↦ inr new ]

-- one word of a source
pub source_words : (d : Parts) (s : Net) (t : ℤ) (a b : List Node) → Among (sources d) s → AddsFrees (λ n. n ≡ Free s.name s.width 0 t) a b → AddsFrees (IsSourceWord d) a b
source_words d s t a b among frees = frees_weaker (λ n. n ≡ Free s.name s.width 0 t) (IsSourceWord d) a b (λ n is. (s, t, among, is)) frees

abbrev text_of : Node → List ℕ
text_of (Free x n side t) = x
text_of node = []

-- a source stands at a place
at_place : (ss : List Net) (s : Net) → Among ss s → (i : ℕ) × (i < length ss) × ((d : Net) → s ≡ get_or ss i d)
at_place [] s among = absurd among
at_place (r ∷ ss) s (inl is) = (0, omega arith, λ d. sym is)
at_place (r ∷ ss) s (inr rest) = let p = at_place ss s rest in (suc p.0, omega (arith, p.1), p.2)

name_at : (ss : List Net) (i : ℕ) (d : Net) → i < length ss → get_or (map (λ (s : Net). s.name) ss) i [] ≡ (get_or ss i d).name
name_at [] i d lt = absurd (omega (arith, lt))
name_at (s ∷ ss) zero d lt = refl
name_at (s ∷ ss) (suc i) d lt = name_at ss i d (omega (arith, lt))

order : (i j : ℕ) → (i < j) ⊎ ((i ≡ j) ⊎ (j < i))
order zero zero = inr (inl refl)
order zero (suc j) = inl (omega arith)
order (suc i) zero = inr (inr (omega arith))
order (suc i) (suc j) = elim (order i j) [ inl lt ↦ inl (omega arith) | inr (inl e) ↦ inr (inl (ap suc e)) | inr (inr lt) ↦ inr (inr (omega arith)) ]

differ : (ss : List Net) (i j : ℕ) (d : Net) → AllPairs (λ x y. x ≢ y) (map (λ (s : Net). s.name) ss) → i < j → j < length ss → (get_or ss i d).name ≢ (get_or ss j d).name
differ ss i j d distinct before lt same =
    let size = length-map ss (λ (s : Net). s.name) in
    distinct i j [] before (omega (arith, lt, size)) (name_at ss i d (omega arith) ∙ same ∙ sym (name_at ss j d lt))

-- two sources of one name are one
one_source : (ss : List Net) (r s : Net) → AllPairs (λ x y. x ≢ y) (map (λ (s : Net). s.name) ss) → Among ss r → Among ss s → r.name ≡ s.name → r.width ≡ s.width
one_source ss r s distinct here there same =
    let p = at_place ss r here in
    let q = at_place ss s there in
    let names : (get_or ss p.0 r).name ≡ (get_or ss q.0 r).name = ap (λ (z : Net). z.name) (sym (p.2 r)) ∙ same ∙ ap (λ (z : Net). z.name) (q.2 r) in
    elim (order p.0 q.0) [
      | inl lt ↦ absurd (differ ss p.0 q.0 r distinct lt q.1 names)
      | inr (inl e) ↦ ap (λ (z : Net). z.width) (p.2 r) ∙ ap (λ k. (get_or ss k r).width) e ∙ ap (λ (z : Net). z.width) (sym (q.2 r))
      | inr (inr lt) ↦ absurd (differ ss q.0 p.0 r distinct lt p.1 (sym names))
    ]

source_of : (d : Parts) (start nodes : List Node) (n : Node) (i : ℕ) → start ≡ [] → AddsFrees (IsSourceWord d) start nodes → is_free n ≡ true → IsAt nodes i n → IsSourceWord d n
source_of d start nodes n i empty frees free at =
    elim (frees n i free at) [ inl old ↦ absurd (let none : length start ≡ 0 = ap length empty in omega (arith, old.0, none)) | inr word ↦ word ]

pub source_widths : (d : Parts) → IsDesign d → (start nodes : List Node) → start ≡ [] → AddsFrees (IsSourceWord d) start nodes → HasOneWidthEach nodes
source_widths d h start nodes empty frees = λ x n m side i j t at there.
    let p = source_of d start nodes (Free x n side t) i empty frees refl at in
    let q = source_of d start nodes (Free x m side t) j empty frees refl there in
    let names : p.0.name ≡ q.0.name = sym (ap text_of p.3) ∙ ap text_of q.3 in
    ap width_of p.3 ∙ one_source (sources d) p.0 q.0 h.distinct_sources p.2 q.2 names ∙ sym (ap width_of q.3)
