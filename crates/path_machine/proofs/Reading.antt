-- A text line by line.
use Rattle.std.proofs.Common.{◌≡◌, ◌≢◌, ℕ, zero, suc, ◌+◌, ◌<◌, List, [], ◌∷◌, ◌++◌, length, take, drop, map, refl, sym, ap, ◌∙◌, subst, arith, add-one, append_assoc, append-nil, inl}
use Rattle.std.specs.Prelude.{nat_eq, slice_index, true}
use Rattle.std.specs.List.{All}
use Rattle.std.proofs.lemmas.Bool.{eqb-true}
use Rattle.std.proofs.lemmas.List.{take_all}
use Rattle.set_tree.specs.declared.set.Name.{Name}
use Rattle.set_tree.specs.Meaning.{Row}
use Rattle.path_machine.specs.Rows.{Begins, BeginsBadly, IsBadAt, IsLine, Spells, SpellsRows, ended, width_of}
use Rattle.path_machine.specs.Rows.SpellsRows.{none, one}

-- ---- the first line

split_line : (text : List ℕ) (n c : ℕ) → n < length text → slice_index text n ≡ c → text ≡ (take n text ++ c ∷ []) ++ drop (suc n) text
split_line [] n c lt is = absurd (omega (arith, lt))
split_line (x ∷ text) zero c lt is = ap (λ b. b ∷ text) is
split_line (x ∷ text) (suc n) c lt is = ap (λ (cs : List ℕ). x ∷ cs) (split_line text n c (omega (arith, lt)) is)

pub line_split : (text : List ℕ) (n : ℕ) → n < length text → (n < length text → slice_index text n ≡ 10) → text ≡ ended (take n text) ++ drop (n + 1) text
line_split text n lt found = rw add-one (split_line text n 10 lt (found lt))

pub not_ended : (inputs : List Name) (text : List ℕ) (n : ℕ) → text ≢ [] → All (λ c. c ≢ 10) (take n text) → n ≡ length text → BeginsBadly inputs text
not_ended inputs text n some all whole = inl (some, subst (λ (cs : List ℕ). IsLine cs) (take_all n text (omega (arith, whole))) all)

pub empty_is : (text : List ℕ) → true ≡ nat_eq (length text) 0 → text ≡ []
empty_is [] is = refl
empty_is (c ∷ text) is = let zero : length (c ∷ text) ≡ 0 = eqb-true (length (c ∷ text)) 0 (sym is) in absurd (omega (arith, zero))

-- ---- the lines so far

-- lines that spell rows, with one more
spells_more : (inputs : List Name) (text : List ℕ) (rows : List Row) (line : List ℕ) (row : Row) → SpellsRows inputs text rows → Spells inputs line row → SpellsRows inputs (text ++ ended line) (rows ++ row ∷ [])
spells_more inputs _ _ line row none spelt = subst (λ (cs : List ℕ). SpellsRows inputs cs (row ∷ [])) (append-nil (ended line)) (one line [] row [] spelt none)
spells_more inputs _ _ line row (one first text r rows here rest) spelt =
    subst (λ (cs : List ℕ). SpellsRows inputs cs (r ∷ (rows ++ row ∷ []))) (sym (append_assoc (ended first) text (ended line))) (one first (text ++ ended line) r (rows ++ row ∷ []) here (spells_more inputs text rows line row rest spelt))

-- the rows of the lines before the rest
pub record ReadSo (inputs : List Name) (text rest : List ℕ) (rows : List Row) : Type 0 where
  pub before : List ℕ
  pub split : text ≡ before ++ rest
  pub good : SpellsRows inputs before rows

pub record ReadLoop (widths : List ℕ) (text rest : List ℕ) (rows : List Row) : Type 0 where
  pub so : (inputs : List Name) → widths ≡ map width_of inputs → ReadSo inputs text rest rows

module _ (widths text : List ℕ) where
  pub read_begin : (rest : List ℕ) (rows : List Row) → rest ≡ text → rows ≡ [] → ReadLoop widths text rest rows
  read_begin rest rows same empty = record { so = λ inputs listed. record { before = []; split = sym same; good = subst (λ (rs : List Row). SpellsRows inputs [] rs) (sym empty) none } }

  pub read_step : (rest next : List ℕ) (rows new : List Row) (row : Row) → ((inputs : List Name) → widths ≡ map width_of inputs → Begins inputs rest row next) → new ≡ rows ++ row ∷ [] → ReadLoop widths text rest rows → ReadLoop widths text next new
  read_step rest next rows new row begins pushed l = record {
    so = λ inputs listed.
        let b = begins inputs listed in
        let s = l.so inputs listed in record {
          before = s.before ++ ended b.line;
          split = s.split ∙ (ap (λ (cs : List ℕ). s.before ++ cs) b.split ∙ sym (append_assoc s.before (ended b.line) next));
          good = subst (λ (rs : List Row). SpellsRows inputs (s.before ++ ended b.line) rs) (sym pushed) (spells_more inputs s.before rows b.line row s.good b.spelt);
        };
  }

  pub read_end : (rest : List ℕ) (rows : List Row) → rest ≡ [] → ReadLoop widths text rest rows → (inputs : List Name) → widths ≡ map width_of inputs → SpellsRows inputs text rows
  read_end rest rows empty l inputs listed =
      let s = l.so inputs listed in
      let whole : text ≡ s.before = s.split ∙ (ap (λ (cs : List ℕ). s.before ++ cs) empty ∙ append-nil s.before) in
      subst (λ (cs : List ℕ). SpellsRows inputs cs rows) (sym whole) s.good

  pub read_bad : (rest : List ℕ) (rows : List Row) (n : ℕ) → n ≡ length rows + 1 → ((inputs : List Name) → widths ≡ map width_of inputs → BeginsBadly inputs rest) → ReadLoop widths text rest rows → (inputs : List Name) → widths ≡ map width_of inputs → IsBadAt inputs text n
  read_bad rest rows n is bad l inputs listed =
      let s = l.so inputs listed in
      record { before = s.before; rest = rest; split = s.split; rows = rows; good = s.good; number = sym is; bad = bad inputs listed }
