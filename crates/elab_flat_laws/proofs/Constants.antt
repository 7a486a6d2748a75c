-- A constant expression is a number in its scope and after the move.
use Rattle.std.proofs.Common.{◌≡◌, Bool, true, false, List, [], Option, Some, None, sym, ap, ◌∙◌, refl, arith}
use Rattle.std.specs.Prelude.{is_some, IsTrue, unwrap_or}
use Rattle.std.specs.Option.{option_map}
use Rattle.vlog_tree.specs.declared.expr.Expr.{Expr, Row_of-Expr, end_of-Expr, more_of-Expr}
use Rattle.vlog_tree.specs.declared.expr.Expr.TheVariants as e
use Rattle.vlog_tree.specs.declared.expr.Name.{Name as Read}
use Rattle.vlog_tree.specs.declared.expr.Span.{Span}
use Rattle.vlog_tree.specs.declared.valuation.Entry.{Entry}
use Rattle.vlog_tree.specs.Valuation.{entry_at, meant, named, depth_of}
use Rattle.vlog_tree.specs.Value.{operand_of, NamesOnly, AllNamesOnly}
use Rattle.vlog_tree_runs.specs.Places.{Name, Place}
use Rattle.vlog_tree_runs.specs.Blocks.{is_parameter}
use Rattle.elab_flat_laws.specs.Moved.{moved, moved_name, moved_select, moved_part, moved_row}
use Rattle.elab_flat_laws.specs.Uses.{IsPresent, AllPresent, AreConstants}
use Rattle.elab_flat_laws.specs.Laws.{SameRead}
use Rattle.elab_flat_laws.proofs.Moving.{moved_means}
use Rattle.elab_flat_laws.proofs.Finding.{constants_move, told_none}
use Rattle.elab_flat_laws.proofs.Lists.{none_not_some}
use Rattle.std.proofs.lemmas.List.{append-nil}

-- no name
abbrev pub nothing : Name → Bool
nothing x = is_some (entry_at [] x 0)

unsaid : (ps : List Entry) (pre : Name) (x : Read) → entry_at ps x.text x.offset ≡ None → SameRead ps [] pre x
unsaid ps pre x h =
    let d : depth_of ps x ≡ 0 = ap (λ (o : Option Entry). unwrap_or (option_map (λ (e : Entry). e.depth) o) 0) h in
    record {
      meaning = sym (ap (λ o. unwrap_or (option_map meant o) (record { width = 1; low = 0; signed = false; value = 0 })) h);
      depth = sym d;
      words = λ j l. absurd (omega (arith, l, d));
    }

-- what a constant expression means by the parameters, it means by nothing after the move
pub constant_means : (p : Place) (a : Expr) → AreConstants p.params → NamesOnly (is_parameter p) a → operand_of [] (moved p.prefix p.params a) ≡ operand_of p.params a
constant_means p a h d =
    moved_means (is_parameter p) p.params p.params [] p.prefix a
    (record {
      names = λ x t none. unsaid p.params p.prefix x (told_none meant (entry_at p.params x.text x.offset) none);
      constants = λ x k e. let r = constants_move p.params [] h x k e in
          record {
            meaning = ap (λ v. named v x) (sym (append-nil p.params)) ∙ r.meaning;
            depth = ap (λ v. depth_of v x) (sym (append-nil p.params)) ∙ r.depth;
            fits = r.fits;
          };
    }) d

-- ---- the same expressions are constant

name_fixed : (ps : List Entry) (pre : Name) (x : Read) → x.offset ≡ 0 → is_some (entry_at ps x.text 0) ≡ true → (o : Option Entry) → entry_at ps x.text x.offset ≡ o →
    NamesOnly nothing (moved_name pre (option_map meant o) x)
name_fixed ps pre x z t None h = absurd (none_not_some (entry_at ps x.text 0) t (ap (λ j. entry_at ps x.text j) (sym z) ∙ h))
name_fixed ps pre x z t (Some k) h = tt

select_fixed : (ps : List Entry) (pre : Name) (x : Read) (a : Expr) → NamesOnly nothing a → x.offset ≡ 0 → is_some (entry_at ps x.text 0) ≡ true → (o : Option Entry) → entry_at ps x.text x.offset ≡ o →
    NamesOnly nothing (moved_select pre (option_map meant o) x a)
select_fixed ps pre x a i z t None h = absurd (none_not_some (entry_at ps x.text 0) t (ap (λ j. entry_at ps x.text j) (sym z) ∙ h))
select_fixed ps pre x a i z t (Some k) h = i

part_fixed : (ps : List Entry) (pre : Name) (x : Read) (span : Span) (a b : Expr) → NamesOnly nothing a → NamesOnly nothing b → x.offset ≡ 0 → is_some (entry_at ps x.text 0) ≡ true →
    (o : Option Entry) → entry_at ps x.text x.offset ≡ o → NamesOnly nothing (moved_part pre (option_map meant o) x span a b)
part_fixed ps pre x span a b i j z t None h = absurd (none_not_some (entry_at ps x.text 0) t (ap (λ j. entry_at ps x.text j) (sym z) ∙ h))
part_fixed ps pre x span a b i j z t (Some k) h = (i, j)

mutual
  pub fixed : (p : Place) (a : Expr) → IsPresent a → NamesOnly (is_parameter p) a → NamesOnly nothing (moved p.prefix p.params a)
  fixed p (e.Number n) q d = tt
  fixed p (e.Name x) q d = name_fixed p.params p.prefix x q d (entry_at p.params x.text x.offset) refl
  fixed p (e.Select' x h (more_of-Expr a end_of-Expr)) q d =
      select_fixed p.params p.prefix x (moved p.prefix p.params a) (fixed p a q.1 d.1) q.0 d.0 (entry_at p.params x.text x.offset) refl
  fixed p (e.Part' x span h (more_of-Expr a end_of-Expr) g (more_of-Expr b end_of-Expr)) q d =
      part_fixed p.params p.prefix x span (moved p.prefix p.params a) (moved p.prefix p.params b) (fixed p a q.1 d.1) (fixed p b q.2 d.2) q.0 d.0 (entry_at p.params x.text x.offset) refl
  fixed p (e.ConstantSelect' k h (more_of-Expr a end_of-Expr)) q d = fixed p a q d
  fixed p (e.ConstantPart' k span h (more_of-Expr a end_of-Expr) g (more_of-Expr b end_of-Expr)) q d = (fixed p a q.0 d.0, fixed p b q.1 d.1)
  fixed p (e.Cast' cast h (more_of-Expr a end_of-Expr)) q d = fixed p a q d
  fixed p (e.Paren' h (more_of-Expr a end_of-Expr)) q d = fixed p a q d
  fixed p (e.Concat' h row) q d = row_fixed p row q d
  fixed p (e.Repeat' h (more_of-Expr a end_of-Expr) g row) q d = (fixed p a q.0 d.0, row_fixed p row q.1 d.1)
  fixed p (e.Unary' op h (more_of-Expr a end_of-Expr)) q d = fixed p a q d
  fixed p (e.Binary' op h (more_of-Expr a end_of-Expr) g (more_of-Expr b end_of-Expr)) q d = (fixed p a q.0 d.0, fixed p b q.1 d.1)
  fixed p (e.Choice' h (more_of-Expr c end_of-Expr) g (more_of-Expr a end_of-Expr) i (more_of-Expr b end_of-Expr)) q d = (fixed p c q.0 d.0, fixed p a q.1 d.1, fixed p b q.2 d.2)

  row_fixed : {m : _} (p : Place) (row : Row_of-Expr m) → AllPresent row → AllNamesOnly (is_parameter p) row → AllNamesOnly nothing (moved_row p.prefix p.params row)
  row_fixed p end_of-Expr q d = tt
  row_fixed p (more_of-Expr a rest) q d = (fixed p a q.0 d.0, row_fixed p rest q.1 d.1)

no_way : false ≡ true → ⊥
no_way h = cc

name_open : (ps : List Entry) (pre : Name) (x : Read) → x.offset ≡ 0 → (o : Option Entry) → entry_at ps x.text x.offset ≡ o →
    NamesOnly nothing (moved_name pre (option_map meant o) x) → is_some (entry_at ps x.text 0) ≡ true
name_open ps pre x z None h d = cc
name_open ps pre x z (Some k) h d = ap is_some (ap (λ j. entry_at ps x.text j) (sym z) ∙ h)

select_open : (ps : List Entry) (pre : Name) (x : Read) (a : Expr) → x.offset ≡ 0 → (o : Option Entry) → entry_at ps x.text x.offset ≡ o →
    NamesOnly nothing (moved_select pre (option_map meant o) x a) → IsTrue (is_some (entry_at ps x.text 0)) × NamesOnly nothing a
select_open ps pre x a z None h d = absurd (no_way d.0)
select_open ps pre x a z (Some k) h d = (ap is_some (ap (λ j. entry_at ps x.text j) (sym z) ∙ h), d)

part_open : (ps : List Entry) (pre : Name) (x : Read) (span : Span) (a b : Expr) → x.offset ≡ 0 → (o : Option Entry) → entry_at ps x.text x.offset ≡ o →
    NamesOnly nothing (moved_part pre (option_map meant o) x span a b) → IsTrue (is_some (entry_at ps x.text 0)) × NamesOnly nothing a × NamesOnly nothing b
part_open ps pre x span a b z None h d = absurd (no_way d.0)
part_open ps pre x span a b z (Some k) h d = (ap is_some (ap (λ j. entry_at ps x.text j) (sym z) ∙ h), d.0, d.1)

mutual
  pub opened : (p : Place) (a : Expr) → IsPresent a → NamesOnly nothing (moved p.prefix p.params a) → NamesOnly (is_parameter p) a
  opened p (e.Number n) q d = tt
  opened p (e.Name x) q d = name_open p.params p.prefix x q (entry_at p.params x.text x.offset) refl d
  opened p (e.Select' x h (more_of-Expr a end_of-Expr)) q d =
      let r = select_open p.params p.prefix x (moved p.prefix p.params a) q.0 (entry_at p.params x.text x.offset) refl d in (r.0, opened p a q.1 r.1)
  opened p (e.Part' x span h (more_of-Expr a end_of-Expr) g (more_of-Expr b end_of-Expr)) q d =
      let r = part_open p.params p.prefix x span (moved p.prefix p.params a) (moved p.prefix p.params b) q.0 (entry_at p.params x.text x.offset) refl d in
      (r.0, opened p a q.1 r.1, opened p b q.2 r.2)
  opened p (e.ConstantSelect' k h (more_of-Expr a end_of-Expr)) q d = opened p a q d
  opened p (e.ConstantPart' k span h (more_of-Expr a end_of-Expr) g (more_of-Expr b end_of-Expr)) q d = (opened p a q.0 d.0, opened p b q.1 d.1)
  opened p (e.Cast' cast h (more_of-Expr a end_of-Expr)) q d = opened p a q d
  opened p (e.Paren' h (more_of-Expr a end_of-Expr)) q d = opened p a q d
  opened p (e.Concat' h row) q d = row_opened p row q d
  opened p (e.Repeat' h (more_of-Expr a end_of-Expr) g row) q d = (opened p a q.0 d.0, row_opened p row q.1 d.1)
  opened p (e.Unary' op h (more_of-Expr a end_of-Expr)) q d = opened p a q d
  opened p (e.Binary' op h (more_of-Expr a end_of-Expr) g (more_of-Expr b end_of-Expr)) q d = (opened p a q.0 d.0, opened p b q.1 d.1)
  opened p (e.Choice' h (more_of-Expr c end_of-Expr) g (more_of-Expr a end_of-Expr) i (more_of-Expr b end_of-Expr)) q d = (opened p c q.0 d.0, opened p a q.1 d.1, opened p b q.2 d.2)

  row_opened : {m : _} (p : Place) (row : Row_of-Expr m) → AllPresent row → AllNamesOnly nothing (moved_row p.prefix p.params row) → AllNamesOnly (is_parameter p) row
  row_opened p end_of-Expr q d = tt
  row_opened p (more_of-Expr a rest) q d = (opened p a q.0 d.0, row_opened p rest q.1 d.1)
