-- The lines of a set name properties that are there.
use Rattle.std.proofs.Common.{◌≡◌, ℕ, zero, suc, ◌+◌, ◌<◌, ◌≤◌, List, [], ◌∷◌, ◌++◌, length, map, take, get_or, sym, ap, ◌∙◌, subst, arith}
use Rattle.std.specs.Prelude.{◌⊎◌, Option}
use Rattle.std.specs.List.{All, AllZip, flat_map}
use Rattle.std.proofs.lemmas.List.{take_more}
use Rattle.std.proofs.lemmas.List.Concat.{flat_map-cons}
use Rattle.std.proofs.lemmas.List.Elements.{All-append, All-cons, All-filter, All-head, All-map, All-nil, All-tail}
use Rattle.std.proofs.lemmas.Slice.Zip.{all_zipped_more}
use Rattle.set_tree.specs.declared.line.Line.{Line}
use Rattle.set_tree.specs.declared.line.Line.TheVariants.{Base, Step, Reset, Operation, End, Split, SameEnd, Choose, Hand, Determine}
use Rattle.set_tree.specs.declared.set.Set.{Set}
use Rattle.set_tree.specs.Parts.{IsPosition, property_at}
use Rattle.set_tree.specs.Report.{edge_lines, has_until, numbers_from, set_lines, until_operations}
use Rattle.word_dag.specs.declared.node.Node.{Node}
use Rattle.word_dag.specs.declared.ob.Named.{Named}
use Rattle.word_dag.specs.Adding.{Keeps}
use Rattle.elab_step_expr.specs.Nodes.{AddsFrees}
use Rattle.twin_tests_laws.specs.Laws.{HasLength, property_of}
use Rattle.word_dag.specs.Names.{HasOneWidthEach}
use Rattle.word_dag.proofs.Taken.{widths_are_kept}
use Rattle.twin_tests.specs.declared.frame.Frames.{Frames}
use Rattle.twin_tests.specs.declared.shared.Made.{Made}
use Rattle.twin_tests.specs.Framing.{AreFrames, IsWindowWord, SpeaksOf}
use Rattle.twin_tests.specs.Named.{IsNamedOf, set_line}
use Rattle.twin_tests.specs.Reading.{HasStructure}
use Rattle.twin_tests.specs.Sharing.{AreMade}
use Rattle.twin_tests.proofs.Framed.{frames_later, next_positions}
use Rattle.twin_tests.proofs.Widths.{window_widths}

numbers_below : (n k m : ℕ) → n + k ≤ m → All (λ p. p < m) (numbers_from n k)
numbers_below n zero m le = All-nil (λ p. p < m)
numbers_below n (suc k) m le = All-cons (λ p. p < m) n (numbers_from (suc n) k) (omega (arith, le)) (numbers_below (suc n) k m (omega (arith, le)))

positions : (set : Set) (n k : ℕ) → n + k ≤ suc (length set.operations) → All (IsPosition set) (numbers_from n k)
positions set n k le = λ i d lt. let below = numbers_below n k (suc (length set.operations)) le i d lt in omega (arith, below)

flat_all : {X A : Type 0} (Q : X → Type 0) (P : A → Type 0) (f : X → List A) (xs : List X) → ((x : X) → Q x → All P (f x)) → All Q xs → All P (flat_map f xs)
flat_all Q P f [] each all = All-nil P
flat_all Q P f (x ∷ xs) each all =
    subst (λ (ys : List _). All P ys) (sym (flat_map-cons f x xs)) (All-append P (f x) (flat_map f xs) (each x (All-head Q x xs all)) (flat_all Q P f xs each (All-tail Q x xs all)))

edges_speak : (set : Set) (line : ℕ → ℕ → Line) → HasStructure set → ((p q : ℕ) → IsPosition set p → IsPosition set q → SpeaksOf set (line p q)) → All (SpeaksOf set) (edge_lines set line)
edges_speak set line s each =
    flat_all (IsPosition set) (SpeaksOf set) (λ p. map (line p) (property_at set p).next) (numbers_from 0 (suc (length set.operations)))
    (λ p here. All-map (SpeaksOf set) (line p) (property_at set p).next (λ k d lt. each p (get_or (property_at set p).next k d) here (next_positions set p s here k d lt))) (positions set 0 (suc (length set.operations)) (omega arith))

pub lines_speak : (set : Set) → HasStructure set → All (SpeaksOf set) (set_lines set)
lines_speak set s =
    let numbers = numbers_from 0 (suc (length set.operations)) in
    let all = positions set 0 (suc (length set.operations)) (omega arith) in
    let untils = All-filter (has_until set) (IsPosition set) (numbers_from 1 (length set.operations)) (positions set 1 (length set.operations) (omega arith)) in
    let determines = map Determine numbers in
    let hands = edge_lines set Hand ++ determines in
    let chooses = edge_lines set Choose ++ hands in
    let same_ends = map SameEnd (until_operations set) ++ chooses in
    let splits = map Split numbers ++ same_ends in
    All-append (SpeaksOf set) (map End (until_operations set)) splits (All-map (SpeaksOf set) End (until_operations set) untils)
    (All-append (SpeaksOf set) (map Split numbers) same_ends (All-map (SpeaksOf set) Split numbers all)
    (All-append (SpeaksOf set) (map SameEnd (until_operations set)) chooses (All-map (SpeaksOf set) SameEnd (until_operations set) untils)
    (All-append (SpeaksOf set) (edge_lines set Choose) hands (edges_speak set Choose s (λ p q here there. (here, there)))
    (All-append (SpeaksOf set) (edge_lines set Hand) determines (edges_speak set Hand s (λ p q here there. (here, there))) (All-map (SpeaksOf set) Determine numbers all)))))

pub line_speaks : (set : Set) (number : ℕ) → HasStructure set → number < length (set_lines set) → SpeaksOf set (set_line set number)
line_speaks set number s lt = lines_speak set s number Reset lt

position_of : (set : Set) (line : Line) → SpeaksOf set line → IsPosition set (property_of line)
position_of set (Base i) h = omega arith
position_of set (Step i) h = omega arith
position_of set Reset h = omega arith
position_of set (Operation p) h = h
position_of set (End p) h = h
position_of set (Split p) h = h
position_of set (SameEnd p) h = h
position_of set (Choose p q) h = h.0
position_of set (Hand p q) h = h.0
position_of set (Determine p) h = h

pub line_length : (set : Set) (line : Line) → HasStructure set → SpeaksOf set line → HasLength set line
line_length set line s h = (s.sound.lengths (property_of line) (position_of set line h)).order

-- the obligations so far
pub record ObsLoop (set : Set) (nodes : List Node) (made : List (Option Made)) (frames : Frames) (lines : List Line) (obs : List Named) : Type 0 where
  pub held : AreFrames set nodes frames
  pub each : AllZip (IsNamedOf set) lines obs
  pub words : HasOneWidthEach nodes
  pub atoms : AreMade set nodes made

pub obs_begin : (set given : Set) (start nodes : List Node) (made : List (Option Made)) (frames : Frames) (lines : List Line) (obs : List Named) → given ≡ set → HasStructure given → start ≡ [] → AreFrames given nodes frames
    → AddsFrees (λ n. IsWindowWord given.names 0 n ⊎ IsWindowWord given.names 1 n) start nodes → AreMade given nodes made → lines ≡ [] → obs ≡ [] → ObsLoop set nodes made frames lines obs
obs_begin set given start nodes made frames lines obs same s empty held frees atoms none empty_too =
    let widths : HasOneWidthEach nodes = window_widths given.names s.formed.distinct_names start nodes empty frees in
    record {
      held = subst (λ (z : Set). AreFrames z nodes frames) same held;
      each = rw (none, empty_too) tt;
      words = widths;
      atoms = subst (λ (z : Set). AreMade z nodes made) same atoms;
    }

pub obs_step : (set : Set) (a b : List Node) (was now : List (Option Made)) (frames : Frames) (lines : List Line) (obs new : List Named) (i : ℕ) (line : Line) (named : Named) → Keeps a b → i < length lines → line ≡ get_or lines i line → new ≡ obs ++ named ∷ [] → IsNamedOf set line named → AreMade set b now → ObsLoop set a was frames (take i lines) obs → ObsLoop set b now frames (take (i + 1) lines) new
obs_step set a b was now frames lines obs new i line named ab lt is made here atoms before =
    let more : take (i + 1) lines ≡ take i lines ++ line ∷ [] = take_more lines i line lt ∙ ap (λ (l : Line). take i lines ++ l ∷ []) (sym is) in
    record {
      held = frames_later a b set frames ab before.held;
      each = rw (more, made) (all_zipped_more (IsNamedOf set) (take i lines) obs line named before.each here);
      words = widths_are_kept a b ab before.words;
      atoms = atoms;
    }
