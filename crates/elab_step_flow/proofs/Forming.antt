-- Expressions that are well formed in two lists of entries that read alike.
use Rattle.std.proofs.Common.{◌≡◌, inl, inr, false, List, [], ◌∷◌, ◌++◌, Option, refl, ap}
use Rattle.std.specs.Prelude.{unwrap_or, IsTrue, IsSomeAnd}
use Rattle.std.specs.Option.{option_map}
use Rattle.vlog_tree.specs.declared.expr.Constant.{Constant}
use Rattle.vlog_tree.specs.declared.expr.Expr.{Expr, Row_of-Expr, end_of-Expr, more_of-Expr}
use Rattle.vlog_tree.specs.declared.expr.Expr.TheVariants as e
use Rattle.vlog_tree.specs.declared.expr.Name.{Name as Read}
use Rattle.vlog_tree.specs.declared.expr.Span.{Span}
use Rattle.vlog_tree.specs.declared.valuation.Entry.{Entry}
use Rattle.vlog_tree.specs.Valuation.{IsLength, entry_at, meant, named}
use Rattle.vlog_tree.specs.Value.{Operand, part_of, repeated, own_defined, IsPart, IsFormed, AllFormed}
use Rattle.vlog_tree_runs.specs.Places.{Name}
use Rattle.elab_flat_faults.specs.Texts.{names_in, row_names_in}
use Rattle.elab_step_laws.proofs.Reading.{ReadAlike, fewer, first_of_two, second_of_two, same_operand, same_row}

module _ (v w : List Entry) where
  same_meaning : (r : Read) (xs : List Name) → ReadAlike v w (r.text ∷ xs) → entry_at v r.text r.offset ≡ entry_at w r.text r.offset
  same_meaning r xs h = h.entries r.text r.offset (inl refl)

  same_name : (r : Read) (xs : List Name) → ReadAlike v w (r.text ∷ xs) → named v r ≡ named w r
  same_name r xs h = ap (λ (o : Option Entry). unwrap_or (option_map meant o) (record { width = 1; low = 0; signed = false; value = 0 })) (same_meaning r xs h)

  past : (x : Name) (xs : List Name) → ReadAlike v w (x ∷ xs) → ReadAlike v w xs
  past x xs h = fewer v w xs (x ∷ xs) h (λ y m. inr m)

  abbrev StandsAt : Option Entry → Type 0
  StandsAt o = IsSomeAnd (option_map meant o) (λ k. IsLength k.width)

  part_same : (k j : Constant) (span : Span) (a c b d : Operand) → k ≡ j → a ≡ c → b ≡ d → IsPart k span a b ≡ IsPart j span c d
  part_same k j span a c b d e f g = λ r. IsPart (e r) span (f r) (g r)

  mutual
    pub formed_same : (a : Expr) → ReadAlike v w (names_in a) → IsFormed v a ≡ IsFormed w a
    formed_same (e.Number n) m = refl
    formed_same (e.Name x) m = λ r. StandsAt (same_meaning x [] m r)
    formed_same (e.Select' x h (more_of-Expr a end_of-Expr)) m =
        let t = same_meaning x (names_in a) m in
        let f = formed_same a (past x.text (names_in a) m) in
        λ r. StandsAt (t r) × f r
    formed_same (e.Part' x span h (more_of-Expr a end_of-Expr) g (more_of-Expr b end_of-Expr)) m =
        let t = same_meaning x (names_in a ++ names_in b) m in
        let k = same_name x (names_in a ++ names_in b) m in
        let n = past x.text (names_in a ++ names_in b) m in
        let i = first_of_two v w (names_in a) (names_in b) n in
        let j = second_of_two v w (names_in a) (names_in b) n in
        let f = formed_same a i in
        let f' = formed_same b j in
        let o = same_operand v w a i in
        let o' = same_operand v w b j in
        λ r. StandsAt (t r) × f r × f' r × IsPart (k r) span (o r) (o' r) × IsLength (part_of (k r) span (o r) (o' r)).width
    formed_same (e.ConstantSelect' k h (more_of-Expr a end_of-Expr)) m = let f = formed_same a m in λ r. IsLength k.width × f r
    formed_same (e.ConstantPart' k span h (more_of-Expr a end_of-Expr) g (more_of-Expr b end_of-Expr)) m =
        let i = first_of_two v w (names_in a) (names_in b) m in
        let j = second_of_two v w (names_in a) (names_in b) m in
        let f = formed_same a i in
        let f' = formed_same b j in
        let o = same_operand v w a i in
        let o' = same_operand v w b j in
        λ r. IsLength k.width × f r × f' r × IsPart k span (o r) (o' r) × IsLength (part_of k span (o r) (o' r)).width
    formed_same (e.Cast' cast h (more_of-Expr a end_of-Expr)) m = formed_same a m
    formed_same (e.Paren' h (more_of-Expr a end_of-Expr)) m = formed_same a m
    formed_same (e.Concat' h row) m =
        let f = all_formed_same row m in
        let o = same_row v w row m in
        λ r. f r × IsLength (o r).width
    formed_same (e.Repeat' h (more_of-Expr a end_of-Expr) g row) m =
        let i = first_of_two v w (names_in a) (row_names_in row) m in
        let j = second_of_two v w (names_in a) (row_names_in row) m in
        let f = formed_same a i in
        let f' = all_formed_same row j in
        let o = same_operand v w a i in
        let o' = same_row v w row j in
        λ r. f r × IsTrue (own_defined (o r)) × f' r × IsLength (repeated (o r) (o' r)).width
    formed_same (e.Unary' op h (more_of-Expr a end_of-Expr)) m = formed_same a m
    formed_same (e.Binary' op h (more_of-Expr a end_of-Expr) g (more_of-Expr b end_of-Expr)) m =
        let f = formed_same a (first_of_two v w (names_in a) (names_in b) m) in
        let f' = formed_same b (second_of_two v w (names_in a) (names_in b) m) in
        λ r. f r × f' r
    formed_same (e.Choice' h (more_of-Expr c end_of-Expr) g (more_of-Expr a end_of-Expr) i (more_of-Expr b end_of-Expr)) m =
        let n = first_of_two v w (names_in c ++ names_in a) (names_in b) m in
        let f = formed_same c (first_of_two v w (names_in c) (names_in a) n) in
        let f' = formed_same a (second_of_two v w (names_in c) (names_in a) n) in
        let f'' = formed_same b (second_of_two v w (names_in c ++ names_in a) (names_in b) m) in
        λ r. f r × f' r × f'' r

    all_formed_same : {n : _} (row : Row_of-Expr n) → ReadAlike v w (row_names_in row) → AllFormed v row ≡ AllFormed w row
    all_formed_same end_of-Expr m = refl
    all_formed_same (more_of-Expr a rest) m =
        let f = formed_same a (first_of_two v w (names_in a) (row_names_in rest) m) in
        let f' = all_formed_same rest (second_of_two v w (names_in a) (row_names_in rest) m) in
        λ r. f r × f' r
