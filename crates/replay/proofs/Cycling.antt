-- The words of a segment's cycles, one cycle after another.
use Rattle.std.proofs.Common.{◌≡◌, ℕ, ℤ, zero, suc, ◌+◌, ◌<◌, ◌≤◌, true, false, List, [], ◌∷◌, ◌++◌, Option, Some, None, length, map, drop, get_or, refl, sym, ap, ◌∙◌, subst, arith, add-one, zero-add, inl, inr, length-append}
use Rattle.std.specs.List.{AllZip}
use Rattle.std.specs.Prelude.{nat_lt, slice_get}
use Rattle.std.specs.Borrow.{Bor}
use Rattle.std.specs.Option.{option_copied, option_map}
use Rattle.std.specs.Slice.{IsItemAt}
use Rattle.std.specs.Str.{bytes_eq}
use Rattle.vlog_tree_runs.specs.Places.{Name, Cycle, Among}
use Rattle.set_tree.specs.declared.set.Name.{Name as Declared}
use Rattle.set_tree.specs.declared.set.Set.{Set}
use Rattle.set_tree.specs.Meaning.{Row}
use Rattle.elab_flat_scopes.specs.Finding.{place_in}
use Rattle.elab_flat_scopes.proofs.Finding.{finds_at, finds_none, got}
use Rattle.word_core.specs.Words.{Bits}
use Rattle.word_dag.specs.declared.node.Node.{Node}
use Rattle.word_dag.specs.declared.node.Node.TheVariants.{Free, Const, Two, Not, Slice, Zext, Sext, Mux}
use Rattle.word_dag.specs.Given.{widths_of}
use Rattle.word_dag.specs.Nodes.{FitFrom, FitsNode, Naming, dag_values, named, node_value, width_of, word_at}
use Rattle.word_dag.proofs.Filling.{drop_all, drop_at}
use Rattle.elab_step_design.specs.declared.design.Register.{Register}
use Rattle.elab_step_design.specs.Designs.{IsDesign, Parts, naming_of, word_in}
use Rattle.unroll_binding.specs.Binding.{Fits}
use Rattle.unroll_laws.specs.Segments.{cycle_number}
use Rattle.unroll_laws.specs.Tests.{after, held, level, number_in, register_at, row_at, rows_from, seen, shown}
use Rattle.unroll_laws.proofs.Fitting.{name_there}
use Rattle.unroll.specs.Copies.{IsPlaceOf}
use Rattle.unroll.proofs.Rowing.{place_is, rows_push}
use Rattle.replay.specs.Segments.{AreWordsAt, AreWordsBefore, register_name, register_next}

-- ---- the value of a register or an input

-- the register at the place of a name
register_there : (rs read : List Register) (names : List Name) (x : Name) (o : Option ℕ) (k : ℕ) (r : Option (Bor Register)) → read ≡ rs → names ≡ map register_name rs → o ≡ place_in names x → o ≡ Some k → IsItemAt read k r → option_copied r ≡ register_at rs x
register_there rs read names x o k r same listed place is item = got read k r item ∙ (ap (λ (zs : List Register). slice_get zs k) same ∙ finds_at register_name rs names x listed o place k is)

-- the node of its next value
pub next_there : (rs read : List Register) (names : List Name) (x : Name) (o : Option ℕ) (k : ℕ) (r : Option (Bor Register)) (z : Bor Register) → read ≡ rs → names ≡ map register_name rs → o ≡ place_in names x → o ≡ Some k → IsItemAt read k r → r ≡ Some z →
    Some z.now.next ≡ option_map register_next (register_at rs x)
next_there rs read names x o k r z same listed place is item some = ap (option_map register_next) (sym (ap option_copied some) ∙ register_there rs read names x o k r same listed place is item)

pub next_past : (rs read : List Register) (names : List Name) (x : Name) (o : Option ℕ) (k : ℕ) (r : Option (Bor Register)) → read ≡ rs → names ≡ map register_name rs → o ≡ place_in names x → o ≡ Some k → IsItemAt read k r → r ≡ None →
    None ≡ option_map register_next (register_at rs x)
next_past rs read names x o k r same listed place is item none = ap (option_map register_next) (sym (ap option_copied none) ∙ register_there rs read names x o k r same listed place is item)

pub next_nowhere : (rs : List Register) (names : List Name) (x : Name) (o : Option ℕ) → names ≡ map register_name rs → o ≡ place_in names x → o ≡ None → None ≡ option_map register_next (register_at rs x)
next_nowhere rs names x o listed place none = ap (option_map register_next) (sym (finds_none register_name rs names x listed o place none))

module _ (d : Parts) (set : Set) (k : ℕ) (e : Naming) (x : Name) where
  pub at_reset : (i : ℕ) → bytes_eq x set.reset ≡ true → held d set k e i x ≡ level set (nat_lt i k)
  at_reset zero hit = rw hit refl
  at_reset (suc i) hit = rw hit refl

  pub at_first : (i : ℕ) → i ≡ 0 → bytes_eq x set.reset ≡ false → held d set k e i x ≡ e x 0 (cycle_number k i)
  at_first zero is miss = rw miss refl
  at_first (suc i) is miss = absurd (omega (arith, is))

  pub at_free : (i : ℕ) → bytes_eq x set.reset ≡ false → register_at d.registers x ≡ None → held d set k e i x ≡ e x 0 (cycle_number k i)
  at_free zero miss none = rw miss refl
  at_free (suc i) miss none = rw (miss, none) refl

-- what the cycle before leaves in a register
pub at_register : (d : Parts) (set : Set) (k : ℕ) (gives : Naming → Type 0) (words : List Bits) (i n : ℕ) (e : Naming) (x : Name) → 0 < i → AreWordsBefore d set k i gives words → gives e → bytes_eq x set.reset ≡ false →
    option_map register_next (register_at d.registers x) ≡ Some n → (word_at words n).value ≡ held d set k e i x
at_register d set k gives words zero n e x past before of miss some = absurd (omega (arith, past))
at_register d set k gives words (suc i) n e x past before of miss some =
    let c = held d set k e i in
    let here : (word_at words n).value ≡ number_in d c n = ap (λ (ws : List Bits). (word_at ws n).value) (before.named e of) in
    rw miss (here ∙ by (register_at d.registers x) some)
  where
    by : (o : Option Register) → option_map register_next o ≡ Some n → number_in d (held d set k e i) n ≡ after d (held d set k e i) (e x 0 (cycle_number k (suc i))) o
    by None is = absurd (let no : None ≡ Some n = is in cc)
    by (Some r) is = let some : Some r.next ≡ Some n = is in let same : r.next ≡ n = cc in ap (number_in d (held d set k e i)) (sym same)

pub no_register : (d : Parts) (x : Name) → option_map register_next (register_at d.registers x) ≡ None → register_at d.registers x ≡ None
no_register d x is = by (register_at d.registers x) is
  where
    by : (o : Option Register) → option_map register_next o ≡ None → o ≡ None
    by None is = refl
    by (Some r) is = absurd (let no : Some r.next ≡ None = is in cc)

-- the word that `get` gives
at_place : (ws : List Bits) (i : ℕ) (w : Bits) → slice_get ws i ≡ Some w → w.value ≡ (word_at ws i).value
at_place [] i w is = absurd (let no : None ≡ Some w = is in cc)
at_place (v ∷ ws) zero w is = let some : Some v ≡ Some w = is in let same : v ≡ w = cc in ap (λ (b : Bits). b.value) (sym same)
at_place (v ∷ ws) (suc i) w is = at_place ws i w is

past_all : (ws : List Bits) (i : ℕ) → slice_get ws i ≡ None → 0 ≡ (word_at ws i).value
past_all [] i is = refl
past_all (v ∷ ws) zero is = absurd (let no : Some v ≡ None = is in cc)
past_all (v ∷ ws) (suc i) is = past_all ws i is

pub word_there : (ws : List Bits) (i : ℕ) (r : Option (Bor Bits)) (w : Bor Bits) → IsItemAt ws i r → r ≡ Some w → w.now.value ≡ (word_at ws i).value
word_there ws i r w item some = at_place ws i w.now (sym (got ws i r item) ∙ ap option_copied some)

pub word_past : (ws : List Bits) (i : ℕ) (r : Option (Bor Bits)) → IsItemAt ws i r → r ≡ None → 0 ≡ (word_at ws i).value
word_past ws i r item none = past_all ws i (sym (got ws i r item) ∙ ap option_copied none)

-- what isn't a free word has no value of a naming
pub not_free : (g : Naming) (n : Node) (vs : List Bits) → ((name : List ℕ) (w side : ℕ) (t : ℤ) → n ≡ Free name w side t → ⊥) → node_value (named g n) vs n ≡ node_value 0 vs n
not_free g (Free name w side t) vs isnt = absurd (isnt name w side t refl)
not_free g (Const w) vs isnt = refl
not_free g (Two op w a b) vs isnt = refl
not_free g (Not w a) vs isnt = refl
not_free g (Slice w a lo) vs isnt = refl
not_free g (Zext w a) vs isnt = refl
not_free g (Sext w a) vs isnt = refl
not_free g (Mux w c a b) vs isnt = refl

-- ---- the words of a cycle

widths_push : (ws : List Bits) (w : Bits) → widths_of (ws ++ w ∷ []) ≡ widths_of ws ++ w.width ∷ []
widths_push [] w = refl
widths_push (v ∷ ws) w = ap (λ r. v.width ∷ r) (widths_push ws w)

-- the words of the first j nodes
pub record WordsLoop (d : Parts) (set : Set) (k i : ℕ) (gives : Naming → Type 0) (j : ℕ) (words : List Bits) : Type 0 where
  pub count : length words ≡ j
  pub fit : FitFrom (widths_of words) (drop j d.nodes)
  pub so_far : (e : Naming) → gives e → dag_values (naming_of (held d set k e i)) words (drop j d.nodes) ≡ dag_values (naming_of (held d set k e i)) [] d.nodes

module _ (d : Parts) (set : Set) (k i : ℕ) (gives : Naming → Type 0) where
  pub words_begin : IsDesign d → (words : List Bits) → words ≡ [] → WordsLoop d set k i gives 0 words
  words_begin h words none = subst (λ (ws : List Bits). WordsLoop d set k i gives 0 ws) (sym none) (record { count = refl; fit = h.fit; so_far = λ e of. refl })

  pub node_fits : (j : ℕ) (words : List Bits) (nodes : List Node) (n : Node) → nodes ≡ d.nodes → j < length nodes → n ≡ get_or nodes j n → WordsLoop d set k i gives j words → FitsNode (widths_of words) n
  node_fits j words nodes n same lt is l =
      let at = drop_at nodes j n lt is in
      let fit = subst (λ (ns : List Node). FitFrom (widths_of words) (drop j ns)) (sym same) l.fit in
      (subst (λ (ns : List Node). FitFrom (widths_of words) ns) at fit).0

  pub words_step : (j : ℕ) (words new : List Bits) (nodes : List Node) (n : Node) (w : Bits) → nodes ≡ d.nodes → j < length nodes → n ≡ get_or nodes j n → new ≡ words ++ w ∷ [] → w.width ≡ width_of n →
      ((e : Naming) → gives e → w ≡ node_value (named (naming_of (held d set k e i)) n) words n) → WordsLoop d set k i gives j words → WordsLoop d set k i gives (j + 1) new
  words_step j words new nodes n w same lt is made wide value l =
      let at : drop j d.nodes ≡ n ∷ drop (j + 1) d.nodes = ap (λ (ns : List Node). drop j ns) (sym same) ∙ (drop_at nodes j n lt is ∙ ap (λ (ns : List Node). n ∷ drop (j + 1) ns) same) in
      let fit = subst (λ (ns : List Node). FitFrom (widths_of words) ns) at l.fit in
      let widths : widths_of new ≡ widths_of words ++ width_of n ∷ [] = ap widths_of made ∙ (widths_push words w ∙ ap (λ u. widths_of words ++ u ∷ []) wide) in
      let longer : length new ≡ length words + 1 = ap (λ (ws : List Bits). length ws) made ∙ length-append words (w ∷ []) in record {
        count = longer ∙ ap (λ c. c + 1) l.count;
        fit = subst (λ us. FitFrom us (drop (j + 1) d.nodes)) (sym widths) fit.1;
        so_far = λ e of.
            let g = naming_of (held d set k e i) in
            let new_is : new ≡ words ++ node_value (named g n) words n ∷ [] = made ∙ ap (λ v. words ++ v ∷ []) (value e of) in
            ap (λ (ws : List Bits). dag_values g ws (drop (j + 1) d.nodes)) new_is ∙ (sym (ap (λ (ns : List Node). dag_values g words ns) at) ∙ l.so_far e of);
      }

  pub words_end : IsDesign d → (j : ℕ) (words : List Bits) (nodes : List Node) → nodes ≡ d.nodes → length nodes ≤ j → j ≤ length nodes → WordsLoop d set k i gives j words → AreWordsAt d set k i gives words
  words_end h j words nodes same least most l =
      let longer : length nodes ≡ length d.nodes = ap (λ (ns : List Node). length ns) same in
      let none : drop j d.nodes ≡ [] = drop_all d.nodes j (omega (arith, least, longer)) in record {
        design = h;
        count = l.count ∙ (let at : j ≡ length d.nodes = omega (arith, least, most, longer) in at);
        named = λ e of. sym (ap (λ (ns : List Node). dag_values (naming_of (held d set k e i)) words ns) none) ∙ l.so_far e of;
      }

-- ---- the rows of a segment

-- the first rows, and the words of the last cycle so far
pub record SegmentLoop (d : Parts) (set : Set) (k : ℕ) (gives : Naming → Type 0) (n : ℕ) (words : List Bits) (rows : List Row) : Type 0 where
  pub before : AreWordsBefore d set k n gives words
  pub shown : (e : Naming) → gives e → rows ≡ rows_from d set k e 0 n

module _ (d : Parts) (set : Set) (fits : Fits d set) where
  row_seen : (c : Cycle) (names : List Declared) (places : List ℕ) → ((x : Declared) → Among names x → Among set.names x) → AllZip (IsPlaceOf d) names places →
      map (λ place. (word_at (dag_values (naming_of c) [] d.nodes) place).value) places ≡ map (λ (n : Declared). seen d c n.name) names
  row_seen c [] [] all at = refl
  row_seen c [] (place ∷ places) all at = absurd at
  row_seen c (x ∷ names) [] all at = absurd at
  row_seen c (x ∷ names) (place ∷ places) all at =
      let there = name_there d set fits x (all x (inl refl)) in
      let is = place_is d x place _ there.net refl there.is at.0 in
      let value : seen d c x.name ≡ (word_in d c there.net.node).value = ap (λ o. shown d c o) there.is in
      let here : (word_at (dag_values (naming_of c) [] d.nodes) place).value ≡ seen d c x.name = ap (λ i. (word_at (dag_values (naming_of c) [] d.nodes) i).value) is ∙ sym value in
      let rest = row_seen c names places (λ y m. all y (inr m)) at.1 in
      cc

  pub segment_begin : (k : ℕ) (gives : Naming → Type 0) (words : List Bits) (rows : List Row) → rows ≡ [] → SegmentLoop d set k gives 0 words rows
  segment_begin k gives words rows none = record { before = tt; shown = λ e of. none }

  pub segment_step : (k : ℕ) (gives : Naming → Type 0) (n : ℕ) (old words : List Bits) (places : List ℕ) (rows new : List Row) (row : Row) → AllZip (IsPlaceOf d) set.names places → AreWordsAt d set k n gives words → row ≡ map (λ place. (word_at words place).value) places →
      new ≡ rows ++ row ∷ [] → SegmentLoop d set k gives n old rows → SegmentLoop d set k gives (n + 1) words new
  segment_step k gives n old words places rows new row at are made pushed l =
      let before : AreWordsBefore d set k (n + 1) gives words = rw add-one are in record {
        before = before;
        shown = λ e of.
            let c = held d set k e n in
            let here : row ≡ row_at d set k e n = made ∙ (ap (λ (ws : List Bits). map (λ place. (word_at ws place).value) places) (are.named e of) ∙ row_seen c set.names places (λ x m. m) at) in
            let there : row ≡ row_at d set k e (0 + n) = here ∙ ap (row_at d set k e) (sym (zero-add n)) in
            pushed ∙ (ap (λ (zs : List Row). zs ++ row ∷ []) (l.shown e of) ∙ (ap (λ (z : Row). rows_from d set k e 0 n ++ z ∷ []) there ∙ sym (rows_push d set k e 0 n)));
      }
