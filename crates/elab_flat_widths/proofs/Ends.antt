-- What is tested of an expression that an output is connected to.
use Rattle.std.proofs.Common.{◌≡◌, ℕ, List, [], ◌∷◌, map, inl, inr, refl, sym, ap, subst, ◌∙◌}
use Rattle.std.specs.Prelude.{is_some}
use Rattle.std.specs.Str.{bytes_eq}
use Rattle.std.proofs.lemmas.Bool.{cases_Bool}
use Rattle.vlog_tree.specs.declared.expr.Expr.{Expr}
use Rattle.vlog_tree.specs.declared.stmt.Lval.{Lval}
use Rattle.vlog_tree.specs.declared.valuation.Entry.{Entry}
use Rattle.vlog_tree_runs.specs.Places.{Name, Among, Place}
use Rattle.vlog_tree_runs.specs.Blocks.{is_parameter, signal_at, left_names}
use Rattle.vlog_tree_runs.specs.Contents.{Decl, is_among, signals_in}
use Rattle.vlog_tree_runs.specs.Scopes.{Scope, signal_of, place_of, left_of}
use Rattle.elab_flat_laws.proofs.Lists.{among_flat, flat_among}
use Rattle.elab_flat_faults.specs.Constants.{at_rest}
use Rattle.elab_flat_scopes.specs.Finding.{decl_name}
use Rattle.elab_flat_faults.specs.Drivers.{parts_of}
use Rattle.elab_flat_drivers.proofs.Naming.{parts_names}
use Rattle.elab_flat_widths.specs.declared.violation.Violation.{Violation}
use Rattle.elab_flat_widths.specs.declared.violation.Violation.TheVariants as b
use Rattle.elab_flat_widths.specs.declared.side.Side.TheVariants as d
use Rattle.elab_flat_widths.specs.Lefts.{HasSize, IsMissized}
use Rattle.elab_flat_widths.specs.Outputs.{expr_parts, AreOf}
use Rattle.elab_flat_widths.specs.Stores.{PartsHaveLegalNumbers, SomeBreaksNumbers, NamesSignals, IsSoundLeft, BreaksLeft}
use Rattle.elab_flat_widths.proofs.Stores.{legal_numbers, legal_size, breaks_numbers, breaks_size}

pub signals : (v : List Entry) (ds : List Decl) (x : Name) → is_some (signal_at (map (signal_of v) ds) x) ≡ is_among (map decl_name ds) x
signals v [] x = refl
signals v (d ∷ ds) x = elim (cases_Bool (bytes_eq d.name x)) [ inl y ↦ rw y refl | inr n ↦ rw n (signals v ds x) ]

module _ (s : Scope) (a : Expr) (v : List Entry) (rest : v ≡ at_rest (place_of s)) (ns : List Name) (named : ns ≡ map decl_name (signals_in s.module')) where
  abbrev p : Place
  p = place_of s

  abbrev left : Lval
  left = left_of a

  abbrev numbers : Type 0
  numbers = PartsHaveLegalNumbers d.Continuous (is_parameter p) (at_rest p) (parts_of left)

  module _ (qs : List Lval) (is : qs ≡ expr_parts a) where
    pub output_numbers : PartsHaveLegalNumbers d.Continuous (is_parameter p) v qs → numbers
    output_numbers h = subst (λ zs. PartsHaveLegalNumbers d.Continuous (is_parameter p) (at_rest p) zs) is (subst (λ u. PartsHaveLegalNumbers d.Continuous (is_parameter p) u qs) rest h)

    pub output_breaks : (w : Violation) → SomeBreaksNumbers d.Continuous (is_parameter p) v qs w → BreaksLeft d.Continuous p left w
    output_breaks w h =
        breaks_numbers d.Continuous p left w
        (subst (λ zs. SomeBreaksNumbers d.Continuous (is_parameter p) (at_rest p) zs w) is (subst (λ u. SomeBreaksNumbers d.Continuous (is_parameter p) u qs w) rest h))

    names_to : NamesSignals p left → AreOf ns qs
    names_to names q k x g =
        ap (λ z. is_among z x) named ∙ (sym (signals s.params (signals_in s.module') x)
        ∙ names x (subst (λ zs. Among zs x) (parts_names left) (flat_among left_names (parts_of left) q x (subst (λ zs. Among zs q) is k) g)))

    names_from : AreOf ns qs → NamesSignals p left
    names_from all x k =
        let r = among_flat left_names (parts_of left) x (subst (λ zs. Among zs x) (sym (parts_names left)) k) in
        signals s.params (signals_in s.module') x ∙ (ap (λ z. is_among z x) (sym named) ∙ all r.0 (subst (λ zs. Among zs r.0) (sym is) r.1) x r.2)

    -- not all parts are signals
    pub unnamed : numbers → (AreOf ns qs → ⊥) → IsSoundLeft d.Continuous p left
    unnamed h none = record { good = legal_numbers d.Continuous p left h; size = λ names. absurd (none (names_to names)) }

    pub sized : numbers → (n : ℕ) → HasSize v qs n → IsSoundLeft d.Continuous p left
    sized h n size = record {
      good = legal_numbers d.Continuous p left h;
      size = λ names. legal_size d.Continuous p left n (subst (λ zs. HasSize (at_rest p) zs n) is (subst (λ u. HasSize u qs n) rest size));
    }

    pub missized : NamesSignals p left → numbers → IsMissized v qs → BreaksLeft d.Continuous p left b.Length
    missized names h miss = inr (names, breaks_size d.Continuous p left h (subst (λ zs. IsMissized (at_rest p) zs) is (subst (λ u. IsMissized u qs) rest miss)))

    pub named_parts : AreOf ns qs → NamesSignals p left
    named_parts all = names_from all
