-- Obligations of lines are obligations on the design and the set.
use Rattle.std.proofs.Common.{◌≡◌, ◌<◌, ◌≤◌, ◌-◌, ℕ, zero, suc, List, [], ◌∷◌, ◌++◌, length, length-append, map, get_or, sym, arith}
use Rattle.std.specs.List.{All, AllZip, flat_map}
use Rattle.std.proofs.Math.Seq.{get_or-append_right}
use Rattle.std.proofs.lemmas.List.{get_or_append_left}
use Rattle.std.proofs.lemmas.List.Elements.{All-head, All-tail}
use Rattle.set_tree.specs.declared.line.Line.{Line}
use Rattle.set_tree.specs.declared.line.Line.TheVariants.{Base, Step, Reset, Operation, End, Split, SameEnd, Choose, Hand, Determine}
use Rattle.set_tree.specs.declared.set.Set.{Set}
use Rattle.set_tree.specs.Formulas.{meaning_of}
use Rattle.set_tree.specs.Meaning.{Meaning}
use Rattle.set_tree.specs.Parts.{property_at}
use Rattle.set_tree.specs.Report.{IsViolated, design_lines, edge_lines, numbers_from, set_lines, until_operations}
use Rattle.set_tree.specs.Runs.{Design}
use Rattle.word_dag.specs.declared.ob.Named.{Named}
use Rattle.elab_step_design.specs.Designs.{IsDesign}
use Rattle.elab_step_design.specs.Laws.{word_design}
use Rattle.twin_tests_laws.specs.Laws.{IsSetLine, no_design}
use Rattle.twin_tests_laws.specs.Windows.{HasDistinctNames}
use Rattle.twin_tests_laws.proofs.Violations.{values_are_violations as set_shown, violations_have_values as set_named}
use Rattle.unroll_laws.specs.Laws.{IsDesignLine}
use Rattle.unroll_laws.proofs.Named.{values_are_violations as design_shown, violations_have_values as design_named}
use Rattle.unroll_binding.specs.Binding.{Pair}
use Rattle.twin_tests.specs.Framing.{SpeaksOf}
use Rattle.twin_tests.specs.Named.{IsNamedOf as IsOfSet, set_line}
use Rattle.twin_tests.specs.Reading.{HasStructure}
use Rattle.twin_tests.proofs.Spoken.{line_speaks as set_speaks}
use Rattle.unroll.specs.Named.{IsNamedOf as IsOfDesign, design_line}
use Rattle.unroll.proofs.Obtaining.{line_speaks as design_speaks}
use Rattle.desk_core_goals.specs.Obligations.{IsExact, IsObOf, all_lines, line_at}

-- ---- lines by their kinds

abbrev Each : (Line → Type 0) → List Line → Type 0
Each P [] = Unit {0}
Each P (line ∷ lines) = P line × Each P lines

each_append : (P : Line → Type 0) (xs ys : List Line) → Each P xs → Each P ys → Each P (xs ++ ys)
each_append P [] ys h k = k
each_append P (x ∷ xs) ys h k = (h.0, each_append P xs ys h.1 k)

each_map : (P : Line → Type 0) (f : ℕ → Line) (ns : List ℕ) → ((n : ℕ) → P (f n)) → Each P (map f ns)
each_map P f [] h = tt
each_map P f (n ∷ ns) h = (h n, each_map P f ns h)

each_edge : (P : Line → Type 0) (set : Set) (line : ℕ → ℕ → Line) (ns : List ℕ) → ((p q : ℕ) → P (line p q)) → Each P (flat_map (λ p. map (line p) (property_at set p).next) ns)
each_edge P set line [] h = tt
each_edge P set line (n ∷ ns) h = each_append P (map (line n) (property_at set n).next) (flat_map (λ p. map (line p) (property_at set p).next) ns) (each_map P (line n) (property_at set n).next (h n)) (each_edge P set line ns h)

pub are_design_lines : (set : Set) → Each IsDesignLine (design_lines set)
are_design_lines set =
    let ns = numbers_from 0 (length set.invariants) in
    each_append IsDesignLine (map Base ns) _ (each_map IsDesignLine Base ns (λ n. tt))
    (each_append IsDesignLine (map Step ns) _ (each_map IsDesignLine Step ns (λ n. tt))
    (tt, each_map IsDesignLine Operation (numbers_from 1 (length set.operations)) (λ n. tt)))

pub are_set_lines : (set : Set) → Each IsSetLine (set_lines set)
are_set_lines set =
    let us = until_operations set in
    let ns = numbers_from 0 (suc (length set.operations)) in
    each_append IsSetLine (map End us) _ (each_map IsSetLine End us (λ n. tt))
    (each_append IsSetLine (map Split ns) _ (each_map IsSetLine Split ns (λ n. tt))
    (each_append IsSetLine (map SameEnd us) _ (each_map IsSetLine SameEnd us (λ n. tt))
    (each_append IsSetLine (edge_lines set Choose) _ (each_edge IsSetLine set Choose ns (λ p q. tt))
    (each_append IsSetLine (edge_lines set Hand) _ (each_edge IsSetLine set Hand ns (λ p q. tt))
    (each_map IsSetLine Determine ns (λ n. tt))))))

-- ---- a line of the set is violated of every design or of none

to_design : {A B : Type 0} (d : Design A) (e : Design B) (m : Meaning) (set : Set) (line : Line) → IsSetLine line → IsViolated d m set line → IsViolated e m set line
to_design d e m set (Base i) of_set h = absurd of_set
to_design d e m set (Step i) of_set h = absurd of_set
to_design d e m set Reset of_set h = absurd of_set
to_design d e m set (Operation p) of_set h = absurd of_set
to_design d e m set (End p) of_set h = h
to_design d e m set (Split p) of_set h = h
to_design d e m set (SameEnd p) of_set h = h
to_design d e m set (Choose p q) of_set h = h
to_design d e m set (Hand p q) of_set h = h
to_design d e m set (Determine p) of_set h = h

-- ---- obligations

exact_of_design : (b : Pair) (line : Line) (named : Named) → IsDesignLine line → IsOfDesign b.design b.set line named → IsExact b line named
exact_of_design b (Base i) named kind h = h
exact_of_design b (Step i) named kind h = h
exact_of_design b Reset named kind h = h
exact_of_design b (Operation p) named kind h = h
exact_of_design b (End p) named kind h = absurd kind
exact_of_design b (Split p) named kind h = absurd kind
exact_of_design b (SameEnd p) named kind h = absurd kind
exact_of_design b (Choose p q) named kind h = absurd kind
exact_of_design b (Hand p q) named kind h = absurd kind
exact_of_design b (Determine p) named kind h = absurd kind

exact_of_set : (b : Pair) (line : Line) (named : Named) → IsSetLine line → IsOfSet b.set line named → IsExact b line named
exact_of_set b (Base i) named kind h = absurd kind
exact_of_set b (Step i) named kind h = absurd kind
exact_of_set b Reset named kind h = absurd kind
exact_of_set b (Operation p) named kind h = absurd kind
exact_of_set b (End p) named kind h = h
exact_of_set b (Split p) named kind h = h
exact_of_set b (SameEnd p) named kind h = h
exact_of_set b (Choose p q) named kind h = h
exact_of_set b (Hand p q) named kind h = h
exact_of_set b (Determine p) named kind h = h

one_of_design : (b : Pair) → IsDesign b.design → (line : Line) → IsDesignLine line → SpeaksOf b.set line → (named : Named) → IsOfDesign b.design b.set line named → IsObOf b line named
one_of_design b design line kind speaks named h = record {
  name = h.name;
  words = h.words;
  shown = λ e is. design_shown b.design (meaning_of b.set) b.set line kind e ((h.of_line e).0 is);
  found = λ broken. (let v = design_named b.design (meaning_of b.set) b.set design line kind broken in (v.0, (h.of_line v.0).1 v.1));
  exact = exact_of_design b line named kind h;
  speaks = speaks;
}

pub obs_of_design : (b : Pair) → IsDesign b.design → (lines : List Line) (obs : List Named) → Each IsDesignLine lines → All (SpeaksOf b.set) lines → AllZip (IsOfDesign b.design b.set) lines obs → AllZip (IsObOf b) lines obs
obs_of_design b design [] [] kinds speak h = tt
obs_of_design b design [] (n ∷ ns) kinds speak h = h
obs_of_design b design (line ∷ lines) [] kinds speak h = h
obs_of_design b design (line ∷ lines) (n ∷ ns) kinds speak h = (one_of_design b design line kinds.0 (All-head (SpeaksOf b.set) line lines speak) n h.0, obs_of_design b design lines ns kinds.1 (All-tail (SpeaksOf b.set) line lines speak) h.1)

one_of_set : (b : Pair) → HasDistinctNames b.set → (line : Line) → IsSetLine line → SpeaksOf b.set line → (named : Named) → IsOfSet b.set line named → IsObOf b line named
one_of_set b distinct line kind speaks named h = record {
  name = h.name;
  words = h.words;
  shown = λ e is. to_design no_design (word_design b.design b.set) (meaning_of b.set) b.set line kind (set_shown (meaning_of b.set) b.set line kind e ((h.of_line e).0 is));
  found = λ broken.
      (let v = set_named (meaning_of b.set) b.set distinct line kind (to_design (word_design b.design b.set) no_design (meaning_of b.set) b.set line kind broken) in
      (v.0, (h.of_line v.0).1 v.1));
  exact = exact_of_set b line named kind h;
  speaks = speaks;
}

pub obs_of_set : (b : Pair) → HasDistinctNames b.set → (lines : List Line) (obs : List Named) → Each IsSetLine lines → All (SpeaksOf b.set) lines → AllZip (IsOfSet b.set) lines obs → AllZip (IsObOf b) lines obs
obs_of_set b distinct [] [] kinds speak h = tt
obs_of_set b distinct [] (n ∷ ns) kinds speak h = h
obs_of_set b distinct (line ∷ lines) [] kinds speak h = h
obs_of_set b distinct (line ∷ lines) (n ∷ ns) kinds speak h = (one_of_set b distinct line kinds.0 (All-head (SpeaksOf b.set) line lines speak) n h.0, obs_of_set b distinct lines ns kinds.1 (All-tail (SpeaksOf b.set) line lines speak) h.1)

pub zip_append : (b : Pair) (xs : List Line) (os : List Named) (ys : List Line) (ps : List Named) → AllZip (IsObOf b) xs os → AllZip (IsObOf b) ys ps → AllZip (IsObOf b) (xs ++ ys) (os ++ ps)
zip_append b [] [] ys ps h k = k
zip_append b [] (o ∷ os) ys ps h k = absurd h
zip_append b (x ∷ xs) [] ys ps h k = absurd h
zip_append b (x ∷ xs) (o ∷ os) ys ps h k = (h.0, zip_append b xs os ys ps h.1 k)

-- ---- the obligation of the line of a number

each_at : (P : Line → Type 0) (lines : List Line) (number : ℕ) (d : Line) → Each P lines → number < length lines → P (get_or lines number d)
each_at P [] number d h lt = absurd (omega (arith, lt))
each_at P (line ∷ lines) zero d h lt = h.0
each_at P (line ∷ lines) (suc number) d h lt = each_at P lines number d h.1 (omega (arith, lt))

pub ob_of_design : (b : Pair) → IsDesign b.design → (number : ℕ) → number < length (design_lines b.set) → (named : Named) → IsOfDesign b.design b.set (design_line b.set number) named → IsObOf b (design_line b.set number) named
ob_of_design b design number lt named h =
    one_of_design b design (design_line b.set number) (each_at IsDesignLine (design_lines b.set) number Reset (are_design_lines b.set) lt) (design_speaks b.set number lt) named h

pub ob_of_set : (b : Pair) → HasDistinctNames b.set → HasStructure b.set → (number : ℕ) → number < length (set_lines b.set) → (named : Named) → IsOfSet b.set (set_line b.set number) named → IsObOf b (set_line b.set number) named
ob_of_set b distinct structure number lt named h =
    one_of_set b distinct (set_line b.set number) (each_at IsSetLine (set_lines b.set) number Reset (are_set_lines b.set) lt) (set_speaks b.set number structure lt) named h

-- a number below the count of the design's lines is that of one of these
pub on_design : (set : Set) (number : ℕ) → number < length (design_lines set) → design_line set number ≡ line_at set number
on_design set number lt = sym (get_or_append_left (design_lines set) (set_lines set) Reset number lt)

-- and any other is that of a line on the set
pub on_set : (set : Set) (number : ℕ) → length (design_lines set) ≤ number → set_line set (number - length (design_lines set)) ≡ line_at set number
on_set set number le = sym (get_or-append_right (design_lines set) (set_lines set) number Reset le)

pub within_set : (set : Set) (number : ℕ) → number < length (all_lines set) → length (design_lines set) ≤ number → number - length (design_lines set) < length (set_lines set)
within_set set number lt le = let all = length-append (design_lines set) (set_lines set) in omega (arith, all, lt, le)
