-- For all values of the registers and inputs of a design there is exactly one cycle.
use Rattle.std.proofs.Common.{◌≡◌, ◌≢◌, ℕ, zero, suc, ◌<◌, ◌^◌, ◌%◌, true, false, List, [], ◌∷◌, ◌++◌, Option, Some, None, length, map, get_or, sym, ap, ◌∙◌, refl, inl, inr, ⊎_elim, arith}
use Rattle.std.specs.Prelude.{if◌then◌else◌, slice_index_or}
use Rattle.std.specs.List.{AllPairs}
use Rattle.std.specs.Str.{bytes_eq}
use Rattle.std.proofs.Math.Nat.{mod-mod}
use Rattle.std.proofs.lemmas.Bool.{cases_Bool}
use Rattle.std.proofs.lemmas.Slice.Eq.{bytes_eq-Decides}
use Rattle.word_core.specs.Words.{Bits, word}
use Rattle.word_dag.specs.declared.node.Node.{Node}
use Rattle.word_dag.specs.declared.node.Node.TheVariants.{Free, Const, Two, Not, Slice, Zext, Sext, Mux}
use Rattle.word_dag.specs.Adding.{IsAt}
use Rattle.word_dag.specs.Nodes.{Naming, dag_values, named, node_value, width_of, word_at}
use Rattle.word_dag.proofs.NodeValues.{width_at-map}
use Rattle.word_dag.proofs.Valued.{value_there, word_wide}
use Rattle.vlog_tree_runs.specs.Places.{Name, Cycle, Among}
use Rattle.elab_step_design.specs.declared.design.Net.{Net}
use Rattle.elab_step_design.specs.Designs.{Parts, free, sources, IsDesign, naming_of, word_in, IsCycleOf, BeginsAs, AgreeOn}
use Rattle.elab_step_design.specs.Laws.{EachHasOneCycle}

-- ---- nodes whose free words have the same values have the same words

abbrev SameFree : Naming → Naming → Node → Type 0
SameFree e f (Free x w side t) = word w (e x side t) ≡ word w (f x side t)
SameFree e f (Const w) = Unit {0}
SameFree e f (Two op w a b) = Unit {0}
SameFree e f (Not w a) = Unit {0}
SameFree e f (Slice w a lo) = Unit {0}
SameFree e f (Zext w a) = Unit {0}
SameFree e f (Sext w a) = Unit {0}
SameFree e f (Mux w c a b) = Unit {0}

node_same : (e f : Naming) (vs : List Bits) (n : Node) → SameFree e f n → node_value (named e n) vs n ≡ node_value (named f n) vs n
node_same e f vs (Free x w side t) h = h
node_same e f vs (Const w) h = refl
node_same e f vs (Two op w a b) h = refl
node_same e f vs (Not w a) h = refl
node_same e f vs (Slice w a lo) h = refl
node_same e f vs (Zext w a) h = refl
node_same e f vs (Sext w a) h = refl
node_same e f vs (Mux w c a b) h = refl

values_same : (e f : Naming) (vs : List Bits) (ns : List Node) → ((i : ℕ) (n : Node) → IsAt ns i n → SameFree e f n) → dag_values e vs ns ≡ dag_values f vs ns
values_same e f vs [] h = refl
values_same e f vs (n ∷ ns) h =
    ap (λ v. dag_values e (vs ++ v ∷ []) ns) (node_same e f vs n (h 0 n (omega arith, refl)))
    ∙ values_same e f (vs ++ node_value (named f n) vs n ∷ []) ns (λ i m k. h (suc i) m (omega (arith, k.0), k.1))

-- ---- the free words of a design

get_any : (ns : List Node) (i : ℕ) (d e : Node) → i < length ns → get_or ns i d ≡ get_or ns i e
get_any [] i d e h = absurd (omega (arith, h))
get_any (n ∷ ns) zero d e h = refl
get_any (n ∷ ns) (suc i) d e h = get_any ns i d e (omega (arith, h))

one_at : (ns : List Node) (i j : ℕ) (n m : Node) → i ≡ j → IsAt ns i n → IsAt ns j m → n ≡ m
one_at ns i j n m q a b = a.1 ∙ (get_any ns i n m a.0 ∙ (ap (λ k. get_or ns k m) q ∙ sym b.1))

-- the sources have the same values in two cycles, cut to their lengths
abbrev SameSources : Parts → Cycle → Cycle → Type 0
SameSources d c e = (s : Net) → Among (sources d) s → c s.name % 2 ^ s.width ≡ e s.name % 2 ^ s.width

cut_same : (c e : Cycle) (x y : Name) (w v : ℕ) → y ≡ x → v ≡ w → c y % 2 ^ v ≡ e y % 2 ^ v → word w (c x) ≡ word w (e x)
cut_same c e x y w v p q h =
    let there : c x % 2 ^ w ≡ e x % 2 ^ w =
    ap (λ k. c x % 2 ^ k) (sym q) ∙ (ap (λ z. c z % 2 ^ v) (sym p) ∙ (h ∙ (ap (λ z. e z % 2 ^ v) p ∙ ap (λ k. e x % 2 ^ k) q))) in
    ap (λ u. (let b : Bits = record { width = w; value = u } in b)) there

frees_same : (d : Parts) → IsDesign d → (c e : Cycle) → SameSources d c e → (i : ℕ) (n : Node) → IsAt d.nodes i n → SameFree (naming_of c) (naming_of e) n
frees_same d h c e same i (Free x w side t) at =
    let r = h.no_other x w side i t at in
    let one : free r.0.name r.0.width ≡ Free x w side t = one_at d.nodes r.0.node i (free r.0.name r.0.width) (Free x w side t) r.3 (h.free_words r.0 r.1) at in
    cut_same c e x r.0.name w r.0.width r.2 (ap width_of one) (same r.0 r.1)
frees_same d h c e same i (Const w) at = tt
frees_same d h c e same i (Two op w a b) at = tt
frees_same d h c e same i (Not w a) at = tt
frees_same d h c e same i (Slice w a lo) at = tt
frees_same d h c e same i (Zext w a) at = tt
frees_same d h c e same i (Sext w a) at = tt
frees_same d h c e same i (Mux w k a b) at = tt

words_same : (d : Parts) → IsDesign d → (c e : Cycle) → SameSources d c e → (i : ℕ) → word_in d c i ≡ word_in d e i
words_same d h c e same i = ap (λ vs. word_at vs i) (values_same (naming_of c) (naming_of e) [] d.nodes (frees_same d h c e same))

source_word : (d : Parts) → IsDesign d → (c : Cycle) (s : Net) → Among (sources d) s → word_in d c s.node ≡ word s.width (c s.name)
source_word d h c s m = value_there (naming_of c) d.nodes s.node (free s.name s.width) h.fit (h.free_words s m)

-- ---- the cycle of values of the sources

abbrev net_at : List Net → Name → Option Net
net_at [] x = None
net_at (n ∷ ns) x = if bytes_eq n.name x then Some n else net_at ns x

abbrev chosen : Parts → Cycle → Option Net → ℕ
chosen d start None = 0
chosen d start (Some n) = (word_in d start n.node).value

abbrev cycle_from : Parts → Cycle → Cycle
cycle_from d start x = chosen d start (net_at d.nets x)

differs : (ns : List Net) (x : Name) → ((j : ℕ) → j < length (map (λ (n : Net). n.name) ns) → x ≢ slice_index_or (map (λ (n : Net). n.name) ns) j []) → (m : Net) → Among ns m → x ≢ m.name
differs [] x h m k = absurd k
differs (n ∷ ns) x h m k =
    ⊎_elim (λ (p : n ≡ m). λ (q : x ≡ m.name). h 0 (omega arith) (q ∙ ap (λ (u : Net). u.name) (sym p)))
    (λ (p : Among ns m). differs ns x (λ j l. h (suc j) (omega (arith, l))) m p) k

other_text : (x y : Name) → x ≢ y → bytes_eq x y ≡ false
other_text x y h = elim (cases_Bool (bytes_eq x y)) [ inl same ↦ absurd (h ((bytes_eq-Decides x y).0 same)) | inr other ↦ other ]

net_first : (n : Net) (ns : List Net) (m : Net) → n ≡ m → net_at (n ∷ ns) m.name ≡ Some m
net_first n ns m p =
    let same : bytes_eq n.name m.name ≡ true = (bytes_eq-Decides n.name m.name).1 (ap (λ (u : Net). u.name) p) in
    rw same (ap (λ u. Some u) p)

net_found : (ns : List Net) → AllPairs (λ x y. x ≢ y) (map (λ (n : Net). n.name) ns) → (m : Net) → Among ns m → net_at ns m.name ≡ Some m
net_found [] h m k = absurd k
net_found (n ∷ ns) h m k =
    ⊎_elim (λ (p : n ≡ m). net_first n ns m p)
    (λ (p : Among ns m).
    let apart : n.name ≢ m.name = differs ns n.name (λ j l. h 0 (suc j) [] (omega arith) (omega (arith, l))) m p in
    let other : bytes_eq n.name m.name ≡ false = other_text n.name m.name apart in
    rw other (net_found ns (λ i j d l k. h (suc i) (suc j) d (omega (arith, l)) (omega (arith, k))) m p)) k

value_from : (d : Parts) → IsDesign d → (start : Cycle) (n : Net) → Among d.nets n → cycle_from d start n.name ≡ (word_in d start n.node).value
value_from d h start n m = ap (λ o. chosen d start o) (net_found d.nets h.distinct_nets n m)

begins : (d : Parts) → IsDesign d → (start : Cycle) → BeginsAs d start (cycle_from d start)
begins d h start s m = value_from d h start s (h.among s m) ∙ ap (λ (b : Bits). b.value) (source_word d h start s m)

begun_same : (d : Parts) (start c : Cycle) → BeginsAs d start c → SameSources d c start
begun_same d start c b s m = ap (λ u. u % 2 ^ s.width) (b s m) ∙ mod-mod (start s.name) (2 ^ s.width)

net_word : (d : Parts) → IsDesign d → (c : Cycle) (n : Net) → Among d.nets n → (word_in d c n.node).width ≡ n.width
net_word d h c n m = word_wide (naming_of c) d.nodes n.node h.fit ∙ (sym (width_at-map d.nodes n.node) ∙ (h.net n m).1)

made_of : (b : Bits) (w u : ℕ) → b.width ≡ w → u ≡ b.value → b ≡ record { width = w; value = u }
made_of b w u p q = λ r. record { width = p r; value = sym q r }

cycles : (d : Parts) → IsDesign d → (start : Cycle) → IsCycleOf d (cycle_from d start)
cycles d h start n m =
    words_same d h (cycle_from d start) start (begun_same d start (cycle_from d start) (begins d h start)) n.node
    ∙ made_of (word_in d start n.node) n.width (cycle_from d start n.name) (net_word d h start n m) (value_from d h start n m)

only : (d : Parts) → IsDesign d → (start c e : Cycle) → IsCycleOf d c → IsCycleOf d e → BeginsAs d start c → BeginsAs d start e → AgreeOn d c e
only d h start c e hc he bc be n m =
    let same = words_same d h c e (λ s k. ap (λ u. u % 2 ^ s.width) (bc s k ∙ sym (be s k))) n.node in
    ap (λ (b : Bits). b.value) (sym (hc n m) ∙ (same ∙ he n m))

pub one_cycle : EachHasOneCycle
one_cycle d h = record {
  some = λ start. (cycle_from d start, cycles d h start, begins d h start);
  only = only d h;
}
