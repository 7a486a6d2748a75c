-- Nodes of registers and inputs put into a table, each at the place of its node in the design.
use Rattle.std.proofs.Common.{◌≡◌, ◌≢◌, ℕ, zero, suc, ◌+◌, ◌<◌, ◌≤◌, ◌^◌, ◌%◌, Bool, true, false, List, [], ◌∷◌, ◌++◌, get_or, length, map, take, refl, sym, ap, ◌∙◌, subst, arith, inl, inr, ⊎_elim, append_assoc, set, length-set, get_or-set_same, get_or-set_other}
use Rattle.std.specs.Prelude.{◌⊎◌, slice_index, nat_lt, if◌then◌else◌}
use Rattle.std.specs.Str.{bytes_eq}
use Rattle.std.proofs.Math.Nat.{mod-eq_of_lt}
use Rattle.std.proofs.lemmas.Bool.{cases_Bool, cases_eq}
use Rattle.std.proofs.lemmas.List.{map-append, take_more}
use Rattle.std.proofs.lemmas.Slice.Eq.{bytes_eq-Decides}
use Rattle.set_tree.specs.declared.set.Set.{Set}
use Rattle.unroll_binding.specs.Binding.{Fits, same}
use Rattle.vlog_tree_runs.specs.Places.{Among}
use Rattle.word_core.specs.Words.{Bits, word}
use Rattle.word_core.proofs.Numbers.{mask_grows}
use Rattle.word_dag.specs.declared.node.Node.{Node}
use Rattle.word_dag.specs.declared.node.Node.TheVariants.{Free, Const, Two, Not, Slice, Zext, Sext, Mux}
use Rattle.word_dag.specs.Adding.{Adds, Grows}
use Rattle.word_dag.specs.Nodes.{Naming, width_at, width_of}
use Rattle.word_dag.proofs.NodeValues.{fits_at, width_at-map}
use Rattle.elab_step_expr.proofs.Fits.{words_fit}
use Rattle.elab_step_expr.proofs.Kept.{grows_then, keeps_same}
use Rattle.word_dag.proofs.Valued.{grows_kept}
use Rattle.elab_step_expr.specs.Nodes.{AddsFrees, IsNode}
use Rattle.elab_step_design.specs.declared.design.Net.{Net}
use Rattle.elab_step_design.specs.Designs.{IsDesign, Parts, free, naming_of, source, sources}
use Rattle.elab_step_design.specs.declared.design.Register.{Register}
use Rattle.unroll_laws.specs.Tests.{held, level, number_in}
use Rattle.unroll_laws.specs.Segments.{cycle_number}
use Rattle.unroll_laws.proofs.Holding.{held_first, held_input, held_register, held_reset, node_word}
use Rattle.unroll_laws.proofs.Sources.{one_node}
use Rattle.unroll.specs.Copies.{CopiedBefore, IsWordAt, ShowLeaves}
use Rattle.unroll.specs.Unrolled.{IsSourceWord}
use Rattle.unroll.proofs.Sourcing.{frees_again, frees_none, source_words}

level_least : (a high : Bool) → (if same a high then 1 else 0) ≤ 1
level_least true true = omega arith
level_least true false = omega arith
level_least false true = omega arith
level_least false false = omega arith

pub level_fits : (set : Set) (a : Bool) (w : ℕ) → 0 < w → level set a < 2 ^ w
level_fits set a w some =
    let least = level_least a set.high in
    let two : 2 ^ 1 ≤ 2 ^ w = mask_grows 1 w some in
    omega (arith, least, two)

pub constant_word : (a b : List Node) (c : Bits) (i w u : ℕ) → Adds a b (Const c) i → c ≡ record { width = w; value = u } → u < 2 ^ w → IsWordAt b i w (λ e. u)
constant_word a b c i w u made is small e =
    made.value e ∙ (is ∙ ap (λ v. (let r : Bits = record { width = w; value = v } in r)) (sym (mod-eq_of_lt small)))

-- a constant where two names are one
pub chosen_word : (a b : List Node) (c : Bits) (i w u : ℕ) (x y x' y' : List ℕ) (t : Bool) (other : Naming → ℕ) → t ≡ bytes_eq x' y' → t ≡ true → x' ≡ x → y' ≡ y → Adds a b (Const c) i → c ≡ record { width = w; value = u } → u < 2 ^ w →
    IsWordAt b i w (λ e. if bytes_eq x y then u else other e)
chosen_word a b c i w u x y x' y' t other is hit one two made made' small e =
    let same : bytes_eq x y ≡ true = rw (← one, ← two) (sym is ∙ hit) in
    rw same (constant_word a b c i w u made made' small e)

-- the name of a free word
abbrev name_of : Node → List ℕ
name_of (Free x w side t) = x
name_of (Const w) = []
name_of (Two op w a b) = []
name_of (Not w a) = []
name_of (Slice w a lo) = []
name_of (Zext w a) = []
name_of (Sext w a) = []
name_of (Mux w c a b) = []

among_push : (ss : List Net) (s t : Net) → Among (ss ++ s ∷ []) t → Among ss t ⊎ (s ≡ t)
among_push [] s t m = ⊎_elim (λ (is : s ≡ t). inr is) (λ (none : ⊥). absurd none) m
among_push (r ∷ ss) s t m = ⊎_elim (λ (is : r ≡ t). inl (inl is)) (λ (in' : Among (ss ++ s ∷ []) t). ⊎_elim (λ (old : Among ss t). inl (inr old)) (λ (is : s ≡ t). inr is) (among_push ss s t in')) m

pub node_grown : (a b : List Node) (i w : ℕ) → Grows a b → IsNode a i w → IsNode b i w
node_grown a b i w ab is = (omega (arith, ab.longer, is.0), ab.widths i is.0 ∙ is.1)

-- registers and inputs are words of 1 to 64 bits
pub source_wide : (d : Parts) → IsDesign d → (s : Net) → Among (sources d) s → (0 < s.width) × (s.width ≤ 64)
source_wide d h s m = let at = h.free_words s m in fits_at [] d.nodes s.node (free s.name s.width) h.fit at.0 at.1

module _ (d : Parts) (h : IsDesign d) (props : Set) (k i : ℕ) where
  -- one more leaf
  pub put_leaf : (a b : List Node) (leaves new : List ℕ) (ss : List Net) (s : Net) (n : ℕ) → Among (sources d) s → ((t : Net) → Among ss t → Among (sources d) t) → Grows a b → IsNode b n s.width →
      IsWordAt b n s.width (λ e. held d props k e i s.name) → new ≡ set leaves s.node n → ShowLeaves d props k i a leaves ss → ShowLeaves d props k i b new (ss ++ s ∷ [])
  put_leaf a b leaves new ss s n among all ab node word made before = record {
    count = ap (λ (ns : List ℕ). length ns) made ∙ (length-set leaves s.node n ∙ before.count);
    each = λ t m. ⊎_elim (λ (old : Among ss t). each_old t old) (λ (is : s ≡ t). subst (λ (u : Net). IsNode b (slice_index new u.node) u.width) is each_new) (among_push ss s t m);
    words = λ t m. ⊎_elim (λ (old : Among ss t). word_old t old) (λ (is : s ≡ t). subst (λ (u : Net). IsWordAt b (slice_index new u.node) u.width (λ e. held d props k e i u.name)) is word_new) (among_push ss s t m);
  }
    where
      at : s.node < length leaves
      at = let there = (h.free_words s among).0 in omega (arith, there, before.count)

      new_is : slice_index new s.node ≡ n
      new_is = ap (λ (ns : List ℕ). slice_index ns s.node) made ∙ get_or-set_same leaves s.node n 0 at

      each_new : IsNode b (slice_index new s.node) s.width
      each_new = subst (λ j. IsNode b j s.width) (sym new_is) node

      word_new : IsWordAt b (slice_index new s.node) s.width (λ e. held d props k e i s.name)
      word_new = subst (λ j. IsWordAt b j s.width (λ e. held d props k e i s.name)) (sym new_is) word

      -- two sources at one place are one word
      one_word : (t : Net) → Among (sources d) t → t.node ≡ s.node → free s.name s.width ≡ free t.name t.width
      one_word t m is = one_node d.nodes s.node t.node (free s.name s.width) (free t.name t.width) (sym is) (h.free_words s among) (h.free_words t m)

      kept : (t : Net) → t.node ≢ s.node → slice_index new t.node ≡ slice_index leaves t.node
      kept t differ = ap (λ (ns : List ℕ). slice_index ns t.node) made ∙ get_or-set_other leaves s.node t.node n 0 differ

      each_old : (t : Net) → Among ss t → IsNode b (slice_index new t.node) t.width
      each_old t m = elim (cases_eq t.node s.node) [
        | inl is ↦ let wide : s.width ≡ t.width = ap width_of (one_word t (all t m) is) in rw (is, ← wide) each_new
        | inr isnt ↦ rw (kept t isnt) (node_grown a b _ _ ab (before.each t m))
      ]

      word_old : (t : Net) → Among ss t → IsWordAt b (slice_index new t.node) t.width (λ e. held d props k e i t.name)
      word_old t m e = elim (cases_eq t.node s.node) [
        | inl is ↦
            let one = one_word t (all t m) is in
            let wide : s.width ≡ t.width = ap width_of one in
            let name : s.name ≡ t.name = ap name_of one in
            rw (is, ← wide, ← name) (word_new e)
        | inr isnt ↦ rw (kept t isnt) (ab.values e _ (before.each t m).0 ∙ before.words t m e)
      ]

  -- a register takes its free word at first
  pub register_begun : Fits d props → (nodes : List Node) (n : ℕ) (r : Register) → Among d.registers r → i ≡ 0 → IsWordAt nodes n r.width (λ e. e r.name 0 (cycle_number k i)) → IsWordAt nodes n r.width (λ e. held d props k e i r.name)
  register_begun fits nodes n r m start begun e =
      let first : held d props k e i r.name ≡ e r.name 0 (cycle_number k i) = ap (λ j. held d props k e j r.name) start ∙ (held_first d h props fits k e r m ∙ ap (λ j. e r.name 0 (cycle_number k j)) (sym start)) in
      begun e ∙ ap (λ v. word r.width v) (sym first)

-- and then what the cycle before leaves in it
pub register_stepped : (d : Parts) → IsDesign d → (props : Set) → Fits d props → (k i : ℕ) (nodes : List Node) (copies : List ℕ) (r : Register) → Among d.registers r → i ≢ 0 → CopiedBefore d props k i nodes copies →
    (r.next < length copies) × IsNode nodes (slice_index copies r.next) r.width × IsWordAt nodes (slice_index copies r.next) r.width (λ e. held d props k e i r.name)
register_stepped d h props fits k zero nodes copies r m past before = absurd (past refl)
register_stepped d h props fits k (suc i) nodes copies r m past before =
    let next = h.next r m in
    let there = before.0.each r.next next.0 in
    let wide : width_at d.nodes r.next ≡ r.width = sym (width_at-map d.nodes r.next) ∙ next.1 in (
      let count = before.0.count in omega (arith, count, next.0),
      subst (λ w. IsNode nodes (slice_index copies r.next) w) wide there,
      λ e.
          let c = held d props k e i in
          let is = node_word d h props fits c r.next r.width next in
          let bound = words_fit (naming_of c) d.nodes r.next h.fit next.0 in
          let small : number_in d c r.next < 2 ^ r.width = subst (λ (b : Bits). number_in d c r.next < 2 ^ b.width) is bound.fits in
          let value : held d props k e (suc i) r.name % 2 ^ r.width ≡ number_in d c r.next = ap (λ u. u % 2 ^ r.width) (held_register d h props fits k e i r m) ∙ mod-eq_of_lt small in
          before.1 e r.next next.0 ∙ (is ∙ ap (λ v. (let b : Bits = record { width = r.width; value = v } in b)) (sym value)),
    )

-- an input has its free word, and the reset its level
pub input_held : (d : Parts) → IsDesign d → (props : Set) → Fits d props → (k i : ℕ) (nodes : List Node) (n : ℕ) (s : Net) → Among d.inputs s → IsWordAt nodes n s.width (λ e. if bytes_eq s.name props.reset then level props (nat_lt i k) else e s.name 0 (cycle_number k i)) → IsWordAt nodes n s.width (λ e. held d props k e i s.name)
input_held d h props fits k i nodes n s m is e = is e ∙ ap (λ v. word s.width v) (sym held_is)
  where
    held_is : held d props k e i s.name ≡ (if bytes_eq s.name props.reset then level props (nat_lt i k) else e s.name 0 (cycle_number k i))
    held_is = elim (cases_Bool (bytes_eq s.name props.reset)) [
      | inl hit ↦
          let same : s.name ≡ props.reset = (bytes_eq-Decides s.name props.reset).0 hit in
          let reset : held d props k e i s.name ≡ level props (nat_lt i k) = ap (λ x. held d props k e i x) same ∙ held_reset d h props fits k e i in
          rw hit reset
      | inr miss ↦
          let differ : s.name ≢ props.reset = λ same. (let hit : bytes_eq s.name props.reset ≡ true = (bytes_eq-Decides s.name props.reset).1 same in let clash : true ≡ false = sym hit ∙ miss in cc) in
          rw miss (held_input d h props fits k e i s m differ)
    ]

pub copied_later : (d : Parts) (props : Set) (k i : ℕ) (a b : List Node) (copies : List ℕ) → Grows a b → CopiedBefore d props k i a copies → CopiedBefore d props k i b copies
copied_later d props k zero a b copies ab before = tt
copied_later d props k (suc i) a b copies ab before = (
  record { count = before.0.count; each = λ j lt. node_grown a b _ _ ab (before.0.each j lt) },
  λ e j lt. ab.values e _ (before.0.each j lt).0 ∙ before.1 e j lt,
)

-- ---- loops

pub among_at : {A : Type 0} (xs : List A) (j : ℕ) (d : A) → j < length xs → Among xs (get_or xs j d)
among_at [] j d lt = absurd (omega arith)
among_at (x ∷ xs) zero d lt = inl refl
among_at (x ∷ xs) (suc j) d lt = inr (among_at xs j d (omega arith))

-- the leaves so far
pub record LeafLoop (d : Parts) (props : Set) (k i : ℕ) (start nodes : List Node) (leaves : List ℕ) (ss : List Net) : Type 0 where
  pub grows : Grows start nodes
  pub frees : AddsFrees (IsSourceWord d) start nodes
  pub shows : ShowLeaves d props k i nodes leaves ss
  pub sources : (s : Net) → Among ss s → Among (sources d) s

pub leaf_step : (d : Parts) → IsDesign d → (props : Set) (k i : ℕ) (start a b : List Node) (leaves new : List ℕ) (ss more : List Net) (s : Net) (n : ℕ) → Among (sources d) s → more ≡ ss ++ s ∷ [] → Grows a b → AddsFrees (λ m. m ≡ Free s.name s.width 0 (cycle_number k i)) a b → IsNode b n s.width →
    IsWordAt b n s.width (λ e. held d props k e i s.name) → new ≡ set leaves s.node n → LeafLoop d props k i start a leaves ss → LeafLoop d props k i start b new more
leaf_step d h props k i start a b leaves new ss more s n among is ab added node word made before = record {
  grows = grows_then start a b before.grows ab;
  frees = frees_again (IsSourceWord d) start a b before.frees (source_words d s (cycle_number k i) a b among added);
  shows = subst (λ (zs : List Net). ShowLeaves d props k i b new zs) (sym is) (put_leaf d h props k i a b leaves new ss s n among before.sources ab node word made before.shows);
  sources = λ t m. ⊎_elim (λ (old : Among ss t). before.sources t old) (λ (same : s ≡ t). subst (λ (u : Net). Among (sources d) u) same among) (among_push ss s t (subst (λ (zs : List Net). Among zs t) is m));
}

append_nil : {A : Type 0} (xs : List A) → xs ++ [] ≡ xs
append_nil [] = refl
append_nil (x ∷ xs) = ap (λ ys. x ∷ ys) (append_nil xs)

pub item_among : {A : Type 0} (xs ys : List A) (j : ℕ) (x : A) → xs ≡ ys → j < length xs → x ≡ get_or xs j x → Among ys x
item_among xs ys j x same lt is = subst (λ zs. Among zs x) same (subst (λ y. Among xs y) (sym is) (among_at xs j x lt))

pub item_more : {A : Type 0} (xs ys : List A) (j : ℕ) (x : A) → xs ≡ ys → j < length xs → x ≡ get_or xs j x → take (j + 1) ys ≡ take j ys ++ x ∷ []
item_more xs ys j x same lt is =
    let lt' : j < length ys = subst (λ zs. j < length zs) same lt in
    take_more ys j x lt' ∙ ap (λ y. take j ys ++ y ∷ []) (ap (λ zs. get_or zs j x) (sym same) ∙ sym is)

-- the place of a register or an input
pub source_below : (d : Parts) → IsDesign d → (leaves : List ℕ) (s : Net) → Among (sources d) s → length leaves ≡ length d.nodes → s.node < length leaves
source_below d h leaves s m count = let there = (h.free_words s m).0 in omega (arith, there, count)

pub leaf_start : (d : Parts) (props : Set) (k i : ℕ) (nodes : List Node) (leaves : List ℕ) (ss none : List Net) → none ≡ [] → ((s : Net) → Among ss s → Among (sources d) s) → ShowLeaves d props k i nodes leaves ss → LeafLoop d props k i nodes nodes leaves (ss ++ none)
leaf_start d props k i nodes leaves ss none is all shows =
    let same : ss ++ none ≡ ss = ap (λ (zs : List Net). ss ++ zs) is ∙ append_nil ss in
    subst (λ (zs : List Net). LeafLoop d props k i nodes nodes leaves zs) (sym same) (record { grows = grows_kept nodes nodes (keeps_same nodes); frees = frees_none (IsSourceWord d) nodes; shows = shows; sources = all })

-- one more register
pub registers_more : (xs rs : List Register) (j : ℕ) (r : Register) → xs ≡ rs → j < length xs → r ≡ get_or xs j r → map source (take (j + 1) rs) ≡ map source (take j rs) ++ source r ∷ []
registers_more xs rs j r same lt is = ap (λ (qs : List Register). map source qs) (item_more xs rs j r same lt is) ∙ map-append source (take j rs) (r ∷ [])

-- one more input
pub inputs_more : (ss xs ns : List Net) (j : ℕ) (n : Net) → xs ≡ ns → j < length xs → n ≡ get_or xs j n → ss ++ take (j + 1) ns ≡ (ss ++ take j ns) ++ n ∷ []
inputs_more ss xs ns j n same lt is = ap (λ (zs : List Net). ss ++ zs) (item_more xs ns j n same lt is) ∙ sym (append_assoc ss (take j ns) (n ∷ []))

-- the registers are among the sources
pub registers_among : (rs : List Register) (ns : List Net) (s : Net) → Among (map source rs) s → Among (map source rs ++ ns) s
registers_among [] ns s m = absurd m
registers_among (r ∷ rs) ns s m = ⊎_elim (λ (is : source r ≡ s). inl is) (λ (in' : Among (map source rs) s). inr (registers_among rs ns s in')) m
