-- What names stand for in two cycles, and expressions that read the same.
use Rattle.std.proofs.Common.{arith, ◌≡◌, ℕ, zero, suc, ◌<◌, ◌^◌, Bool, true, false, List, [], ◌∷◌, ◌++◌, Option, Some, None, sym, ap, ◌∙◌, refl, inl, inr, ⊎_elim, subst}
use Rattle.std.specs.Prelude.{nat_eq, ◌&&◌, if◌then◌else◌, unwrap_or, IsTrue}
use Rattle.std.specs.Option.{option_map}
use Rattle.std.specs.List.{flat_map}
use Rattle.std.specs.Str.{bytes_eq}
use Rattle.std.proofs.lemmas.Slice.Eq.{bytes_eq-Decides}
use Rattle.std.proofs.Math.Dec.{eqb-zero-suc}
use Rattle.std.proofs.lemmas.Nat.{pow_pos}
use Rattle.vlog_tree.specs.declared.expr.Constant.{Constant}
use Rattle.vlog_tree.specs.declared.expr.Expr.{Expr, Row_of-Expr, end_of-Expr, more_of-Expr}
use Rattle.vlog_tree.specs.declared.expr.Expr.TheVariants as e
use Rattle.vlog_tree.specs.declared.expr.Name.{Name as Read}
use Rattle.vlog_tree.specs.declared.valuation.Entry.{Entry}
use Rattle.vlog_tree.specs.Valuation.{entry_at, meant, named, depth_of}
use Rattle.vlog_tree.specs.Value.{operand_of, row_of, vector, bit_of, word_of, part_of, cast_of, unary_of, binary_of, choice_of, joined, repeated, NamesOnly, AllNamesOnly}
use Rattle.vlog_tree_runs.specs.declared.flat.Signal.{Signal}
use Rattle.vlog_tree_runs.specs.Places.{Name, Cycle, Among, entries_of, held_entry}
use Rattle.vlog_tree_runs.specs.Blocks.{signal_at, low_in}
use Rattle.elab_flat_faults.specs.Texts.{names_in, row_names_in}
use Rattle.elab_flat_faults.specs.Paths.{width_in}
use Rattle.elab_flat_laws.proofs.Lists.{bool_cases, append_left, append_right, among_append}
use Rattle.elab_step_laws.specs.Laws.{place_over, AreVectors}

-- what the names of signals stand for in a cycle
abbrev pub values : List Signal → Cycle → List Entry
values gs c = flat_map (entries_of [] c) gs

tail_vectors : (g : Signal) (gs : List Signal) → AreVectors (g ∷ gs) → AreVectors gs
tail_vectors g gs h k m = h k (inr m)

one_entry : (c : Cycle) (g : Signal) → g.depth ≡ 0 → entries_of [] c g ≡ held_entry [] c g ∷ []
one_entry c g h = rw h refl

values_step : (g : Signal) (gs : List Signal) (c : Cycle) → AreVectors (g ∷ gs) → values (g ∷ gs) c ≡ held_entry [] c g ∷ values gs c
values_step g gs c h = ap (λ es. es ++ values gs c) (one_entry c g (h g (inl refl)))

-- ---- entries

-- the entry of a name in two cycles in which it has one value
abbrev chosen_entry : Signal → Cycle → Bool → List Entry → Name → ℕ → Option Entry
chosen_entry g c t es x j = if t then Some (held_entry [] c g) else entry_at es x j

same_chosen : (g : Signal) (gs : List Signal) (c d : Cycle) (x : Name) (j : ℕ) (first named : Bool) → (named ≡ true → c g.name ≡ d g.name) →
    entry_at (values gs c) x j ≡ entry_at (values gs d) x j → chosen_entry g c (first && named) (values gs c) x j ≡ chosen_entry g d (first && named) (values gs d) x j
same_chosen g gs c d x j true true s k = ap (λ n. Some (record { name = g.name; offset = 0; width = g.width; low = g.low; signed = g.signed; depth = g.depth; value = n })) (s refl)
same_chosen g gs c d x j true false s k = k
same_chosen g gs c d x j false named s k = k

pub same_entry : (gs : List Signal) (c d : Cycle) (x : Name) (j : ℕ) → AreVectors gs → c x ≡ d x → entry_at (values gs c) x j ≡ entry_at (values gs d) x j
same_entry [] c d x j h s = refl
same_entry (g ∷ gs) c d x j h s =
    ap (λ es. entry_at es x j) (values_step g gs c h)
    ∙ (same_chosen g gs c d x j (nat_eq 0 j) (bytes_eq g.name x)
    (λ t. let i = (bytes_eq-Decides g.name x).0 t in ap c i ∙ (s ∙ sym (ap d i)))
    (same_entry gs c d x j (tail_vectors g gs h) s)
    ∙ sym (ap (λ es. entry_at es x j) (values_step g gs d h)))

-- a name's entry is its signal's
pub entry_is : (gs : List Signal) (c : Cycle) (x : Name) → AreVectors gs → entry_at (values gs c) x 0 ≡ option_map (held_entry [] c) (signal_at gs x)
entry_is [] c x h = refl
entry_is (g ∷ gs) c x h =
    ap (λ es. entry_at es x 0) (values_step g gs c h)
    ∙ ⊎_elim
    (λ (t : bytes_eq g.name x ≡ true). rw t refl)
    (λ (t : bytes_eq g.name x ≡ false). rw t (entry_is gs c x (tail_vectors g gs h)))
    (bool_cases (bytes_eq g.name x))

later : (gs : List Signal) (c : Cycle) (x : Name) (j : ℕ) → AreVectors gs → entry_at (values gs c) x (suc j) ≡ None
later [] c x j h = refl
later (g ∷ gs) c x j h =
    ap (λ es. entry_at es x (suc j)) (values_step g gs c h)
    ∙ (ap (λ (t : Bool). if t && bytes_eq g.name x then Some (held_entry [] c g) else entry_at (values gs c) x (suc j)) (eqb-zero-suc j) ∙ later gs c x j (tail_vectors g gs h))

-- an undeclared name has none
pub no_entry : (gs : List Signal) (c : Cycle) (x : Name) (j : ℕ) → AreVectors gs → signal_at gs x ≡ None → entry_at (values gs c) x j ≡ None
no_entry gs c x zero h n = entry_is gs c x h ∙ ap (λ o. option_map (held_entry [] c) o) n
no_entry gs c x (suc j) h n = later gs c x j h

-- ---- what is the same in each cycle

abbrev depth_told : Option Entry → ℕ
depth_told o = unwrap_or (option_map (λ (k : Entry). k.depth) o) 0

depth_step : (g : Signal) (gs : List Signal) (c : Cycle) (x : Name) (j : ℕ) → g.depth ≡ 0 → depth_told (entry_at (values gs c) x j) ≡ 0 → (t : Bool) →
    depth_told (if t then Some (held_entry [] c g) else entry_at (values gs c) x j) ≡ 0
depth_step g gs c x j h k true = h
depth_step g gs c x j h k false = k

pub no_depth : (gs : List Signal) (c : Cycle) (r : Read) → AreVectors gs → depth_of (values gs c) r ≡ 0
no_depth [] c r h = refl
no_depth (g ∷ gs) c r h =
    ap (λ es. depth_of es r) (values_step g gs c h)
    ∙ depth_step g gs c r.text r.offset (h g (inl refl)) (no_depth gs c r (tail_vectors g gs h)) (nat_eq 0 r.offset && bytes_eq g.name r.text)

-- what a name stands for, by its signal
abbrev told : Cycle → Option Signal → Constant
told c o = unwrap_or (option_map meant (option_map (held_entry [] c) o)) (record { width = 1; low = 0; signed = false; value = 0 })

named_is : (gs : List Signal) (c : Cycle) (x : Name) (r : Read) → AreVectors gs → r ≡ record { text = x; offset = 0 } → named (values gs c) r ≡ told c (signal_at gs x)
named_is gs c x r h i =
    ap (λ (z : Read). named (values gs c) z) i ∙ ap (λ (o : Option Entry). unwrap_or (option_map meant o) (record { width = 1; low = 0; signed = false; value = 0 })) (entry_is gs c x h)

-- its length and its lowest bit
pub record Shaped (k j : Constant) : Type 0 where
  pub width : k.width ≡ j.width
  pub low : k.low ≡ j.low
  pub signed : k.signed ≡ j.signed

told_shape : (c d : Cycle) (o : Option Signal) → Shaped (told c o) (told d o)
told_shape c d None = record { width = refl; low = refl; signed = refl }
told_shape c d (Some g) = record { width = refl; low = refl; signed = refl }

shape_now : (gs : List Signal) (c d : Cycle) (x : Name) → AreVectors gs → Shaped (named (values gs c) (record { text = x; offset = 0 })) (named (values gs d) (record { text = x; offset = 0 }))
shape_now gs c d x h =
    subst (λ (k : Constant). Shaped k (named (values gs d) (record { text = x; offset = 0 }))) (sym (named_is gs c x (record { text = x; offset = 0 }) h refl))
    (subst (λ (k : Constant). Shaped (told c (signal_at gs x)) k) (sym (named_is gs d x (record { text = x; offset = 0 }) h refl)) (told_shape c d (signal_at gs x)))

-- a name read in another row stands for nothing
unnamed : (gs : List Signal) (c : Cycle) (x : Name) (j : ℕ) → AreVectors gs → named (values gs c) (record { text = x; offset = suc j }) ≡ record { width = 1; low = 0; signed = false; value = 0 }
unnamed gs c x j h = ap (λ (o : Option Entry). unwrap_or (option_map meant o) (record { width = 1; low = 0; signed = false; value = 0 })) (later gs c x j h)

pub read_shape : (gs : List Signal) (c d : Cycle) (x : Name) (j : ℕ) → AreVectors gs → Shaped (named (values gs c) (record { text = x; offset = j })) (named (values gs d) (record { text = x; offset = j }))
read_shape gs c d x zero h = shape_now gs c d x h
read_shape gs c d x (suc j) h =
    let k : named (values gs c) (record { text = x; offset = suc j }) ≡ named (values gs d) (record { text = x; offset = suc j }) = unnamed gs c x j h ∙ sym (unnamed gs d x j h) in
    record { width = ap (λ (i : Constant). i.width) k; low = ap (λ (i : Constant). i.low) k; signed = ap (λ (i : Constant). i.signed) k }

told_fits : (c : Cycle) (o : Option Signal) → ((g : Signal) → o ≡ Some g → c g.name < 2 ^ g.width) → (told c o).value < 2 ^ (told c o).width
told_fits c None h = pow_pos 1
told_fits c (Some g) h = h g refl

pub named_fits : (gs : List Signal) (c : Cycle) (x : Name) (j : ℕ) → AreVectors gs → ((g : Signal) → signal_at gs x ≡ Some g → c g.name < 2 ^ g.width) →
    (named (values gs c) (record { text = x; offset = j })).value < 2 ^ (named (values gs c) (record { text = x; offset = j })).width
named_fits gs c x zero h f = subst (λ (k : Constant). k.value < 2 ^ k.width) (sym (named_is gs c x (record { text = x; offset = 0 }) h refl)) (told_fits c (signal_at gs x) f)
named_fits gs c x (suc j) h f = subst (λ (k : Constant). k.value < 2 ^ k.width) (sym (unnamed gs c x j h)) (pow_pos 1)

told_low : (c : Cycle) (o : Option Signal) → (told c o).low ≡ unwrap_or (option_map (λ (g : Signal). g.low) o) 0
told_low c None = refl
told_low c (Some g) = refl

pub low_is : (gs : List Signal) (c : Cycle) (x : Name) → AreVectors gs → (named (values gs c) (record { text = x; offset = 0 })).low ≡ low_in (place_over gs) x
low_is gs c x h = ap (λ (k : Constant). k.low) (named_is gs c x (record { text = x; offset = 0 }) h refl) ∙ told_low c (signal_at gs x)

told_width : (c : Cycle) (b : ℕ) (o : Option Signal) → b < unwrap_or (option_map (λ (g : Signal). g.width) o) 0 → b < (told c o).width
told_width c b None h = absurd (omega (arith, h))
told_width c b (Some g) h = h

pub width_reaches : (gs : List Signal) (c : Cycle) (x : Name) (b : ℕ) → AreVectors gs → b < width_in (place_over gs) x → b < (named (values gs c) (record { text = x; offset = 0 })).width
width_reaches gs c x b h l = subst (λ (k : Constant). b < k.width) (sym (named_is gs c x (record { text = x; offset = 0 }) h refl)) (told_width c b (signal_at gs x) l)

pub width_is : (gs : List Signal) (c : Cycle) (x : Name) (g : Signal) → AreVectors gs → signal_at gs x ≡ Some g → (named (values gs c) (record { text = x; offset = 0 })).width ≡ g.width
width_is gs c x g h s = ap (λ (k : Constant). k.width) (named_is gs c x (record { text = x; offset = 0 }) h refl ∙ ap (told c) s)

-- ---- expressions

-- the names of a list have the same entries, and none is a memory's
pub record ReadAlike (v w : List Entry) (xs : List Name) : Type 0 where
  pub entries : (x : Name) (j : ℕ) → Among xs x → entry_at v x j ≡ entry_at w x j
  pub plain : (r : Read) → depth_of v r ≡ 0
  pub plain_too : (r : Read) → depth_of w r ≡ 0

pub fewer : (v w : List Entry) (xs ys : List Name) → ReadAlike v w ys → ((x : Name) → Among xs x → Among ys x) → ReadAlike v w xs
fewer v w xs ys h k = record { entries = λ x j m. h.entries x j (k x m); plain = h.plain; plain_too = h.plain_too }

pub first_of_two : (v w : List Entry) (xs ys : List Name) → ReadAlike v w (xs ++ ys) → ReadAlike v w xs
first_of_two v w xs ys h = fewer v w xs (xs ++ ys) h (λ x m. append_left xs ys x m)

pub second_of_two : (v w : List Entry) (xs ys : List Name) → ReadAlike v w (xs ++ ys) → ReadAlike v w ys
second_of_two v w xs ys h = fewer v w ys (xs ++ ys) h (λ x m. append_right xs ys x m)

after_first : (v w : List Entry) (x : Name) (xs : List Name) → ReadAlike v w (x ∷ xs) → ReadAlike v w xs
after_first v w x xs h = fewer v w xs (x ∷ xs) h (λ y m. inr m)

same_named : (v w : List Entry) (r : Read) (xs : List Name) → ReadAlike v w (r.text ∷ xs) → named v r ≡ named w r
same_named v w r xs h = ap (λ (o : Option Entry). unwrap_or (option_map meant o) (record { width = 1; low = 0; signed = false; value = 0 })) (h.entries r.text r.offset (inl refl))

mutual
  pub same_operand : (v w : List Entry) (a : Expr) → ReadAlike v w (names_in a) → operand_of v a ≡ operand_of w a
  same_operand v w (e.Number n) m = refl
  same_operand v w (e.Name x) m = ap (λ (k : Constant). vector k.width k.signed k.value) (same_named v w x [] m)
  same_operand v w (e.Select' x h (more_of-Expr a end_of-Expr)) m =
      let k = same_named v w x (names_in a) m in
      let o = same_operand v w a (after_first v w x.text (names_in a) m) in
      ap (λ n. if nat_eq n 0 then bit_of (named v x) (operand_of v a) else word_of v x (operand_of v a)) (m.plain x)
      ∙ ((λ r. bit_of (k r) (o r)) ∙ sym (ap (λ n. if nat_eq n 0 then bit_of (named w x) (operand_of w a) else word_of w x (operand_of w a)) (m.plain_too x)))
  same_operand v w (e.Part' x span h (more_of-Expr a end_of-Expr) g (more_of-Expr b end_of-Expr)) m =
      let k = same_named v w x (names_in a ++ names_in b) m in
      let n = after_first v w x.text (names_in a ++ names_in b) m in
      let o = same_operand v w a (first_of_two v w (names_in a) (names_in b) n) in
      let q = same_operand v w b (second_of_two v w (names_in a) (names_in b) n) in
      λ r. part_of (k r) span (o r) (q r)
  same_operand v w (e.ConstantSelect' k h (more_of-Expr a end_of-Expr)) m = ap (bit_of k) (same_operand v w a m)
  same_operand v w (e.ConstantPart' k span h (more_of-Expr a end_of-Expr) g (more_of-Expr b end_of-Expr)) m =
      let o = same_operand v w a (first_of_two v w (names_in a) (names_in b) m) in
      let q = same_operand v w b (second_of_two v w (names_in a) (names_in b) m) in
      λ r. part_of k span (o r) (q r)
  same_operand v w (e.Cast' cast h (more_of-Expr a end_of-Expr)) m = ap (cast_of cast) (same_operand v w a m)
  same_operand v w (e.Paren' h (more_of-Expr a end_of-Expr)) m = same_operand v w a m
  same_operand v w (e.Concat' h row) m = same_row v w row m
  same_operand v w (e.Repeat' h (more_of-Expr a end_of-Expr) g row) m =
      let o = same_operand v w a (first_of_two v w (names_in a) (row_names_in row) m) in
      let q = same_row v w row (second_of_two v w (names_in a) (row_names_in row) m) in
      λ r. repeated (o r) (q r)
  same_operand v w (e.Unary' op h (more_of-Expr a end_of-Expr)) m = ap (unary_of op) (same_operand v w a m)
  same_operand v w (e.Binary' op h (more_of-Expr a end_of-Expr) g (more_of-Expr b end_of-Expr)) m =
      let o = same_operand v w a (first_of_two v w (names_in a) (names_in b) m) in
      let q = same_operand v w b (second_of_two v w (names_in a) (names_in b) m) in
      λ r. binary_of op (o r) (q r)
  same_operand v w (e.Choice' h (more_of-Expr c end_of-Expr) g (more_of-Expr a end_of-Expr) i (more_of-Expr b end_of-Expr)) m =
      let n = first_of_two v w (names_in c ++ names_in a) (names_in b) m in
      let p = same_operand v w c (first_of_two v w (names_in c) (names_in a) n) in
      let o = same_operand v w a (second_of_two v w (names_in c) (names_in a) n) in
      let q = same_operand v w b (second_of_two v w (names_in c ++ names_in a) (names_in b) m) in
      λ r. choice_of (p r) (o r) (q r)

  pub same_row : {n : _} (v w : List Entry) (row : Row_of-Expr n) → ReadAlike v w (row_names_in row) → row_of v row ≡ row_of w row
  same_row v w end_of-Expr m = refl
  same_row v w (more_of-Expr a rest) m =
      let o = same_operand v w a (first_of_two v w (names_in a) (row_names_in rest) m) in
      let q = same_row v w rest (second_of_two v w (names_in a) (row_names_in rest) m) in
      λ r. joined (o r) (q r)

-- ---- constants

-- no name is a parameter's
abbrev pub nothing : Name → Bool
nothing x = false

never : {A : Type 0} → IsTrue false → A
never h = absurd (no h)
  where
    no : IsTrue false → ⊥
    no h = cc

-- an expression of numbers alone has no name
mutual
  pub no_names : (a : Expr) (z : Name) → NamesOnly nothing a → Among (names_in a) z → ⊥
  no_names (e.Number n) z d m = m
  no_names (e.Name x) z d m = never d
  no_names (e.Select' x h (more_of-Expr a end_of-Expr)) z d m = never d.0
  no_names (e.Part' x span h (more_of-Expr a end_of-Expr) g (more_of-Expr b end_of-Expr)) z d m = never d.0
  no_names (e.ConstantSelect' k h (more_of-Expr a end_of-Expr)) z d m = no_names a z d m
  no_names (e.ConstantPart' k span h (more_of-Expr a end_of-Expr) g (more_of-Expr b end_of-Expr)) z d m =
      ⊎_elim (λ l. no_names a z d.0 l) (λ l. no_names b z d.1 l) (among_append (names_in a) (names_in b) z m)
  no_names (e.Cast' cast h (more_of-Expr a end_of-Expr)) z d m = no_names a z d m
  no_names (e.Paren' h (more_of-Expr a end_of-Expr)) z d m = no_names a z d m
  no_names (e.Concat' h row) z d m = no_row_names row z d m
  no_names (e.Repeat' h (more_of-Expr a end_of-Expr) g row) z d m =
      ⊎_elim (λ l. no_names a z d.0 l) (λ l. no_row_names row z d.1 l) (among_append (names_in a) (row_names_in row) z m)
  no_names (e.Unary' op h (more_of-Expr a end_of-Expr)) z d m = no_names a z d m
  no_names (e.Binary' op h (more_of-Expr a end_of-Expr) g (more_of-Expr b end_of-Expr)) z d m =
      ⊎_elim (λ l. no_names a z d.0 l) (λ l. no_names b z d.1 l) (among_append (names_in a) (names_in b) z m)
  no_names (e.Choice' h (more_of-Expr c end_of-Expr) g (more_of-Expr a end_of-Expr) i (more_of-Expr b end_of-Expr)) z d m =
      ⊎_elim
      (λ k. ⊎_elim (λ l. no_names c z d.0 l) (λ l. no_names a z d.1 l) (among_append (names_in c) (names_in a) z k))
      (λ l. no_names b z d.2 l)
      (among_append (names_in c ++ names_in a) (names_in b) z m)

  no_row_names : {n : _} (row : Row_of-Expr n) (z : Name) → AllNamesOnly nothing row → Among (row_names_in row) z → ⊥
  no_row_names end_of-Expr z d m = m
  no_row_names (more_of-Expr a rest) z d m =
      ⊎_elim (λ l. no_names a z d.0 l) (λ l. no_row_names rest z d.1 l) (among_append (names_in a) (row_names_in rest) z m)

-- two cycles
pub read_alike : (gs : List Signal) (c d : Cycle) (xs : List Name) → AreVectors gs → ((x : Name) → Among xs x → c x ≡ d x) → ReadAlike (values gs c) (values gs d) xs
read_alike gs c d xs h s = record { entries = λ x j m. same_entry gs c d x j h (s x m); plain = λ r. no_depth gs c r h; plain_too = λ r. no_depth gs d r h }

-- a constant
pub constant_is : (gs : List Signal) (c : Cycle) (a : Expr) → AreVectors gs → NamesOnly nothing a → operand_of (values gs c) a ≡ operand_of [] a
constant_is gs c a h d =
    same_operand (values gs c) [] a (record { entries = λ x j m. absurd (no_names a x d m); plain = λ r. no_depth gs c r h; plain_too = λ r. refl })
