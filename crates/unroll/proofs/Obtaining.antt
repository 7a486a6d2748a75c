-- Obligations one after another.
use Rattle.std.proofs.Common.{◌≡◌, ℕ, zero, suc, ◌+◌, ◌<◌, ◌≤◌, List, [], ◌∷◌, ◌++◌, length, map, take, get_or, sym, ap, ◌∙◌, arith, append_assoc}
use Rattle.std.specs.List.{All, AllZip}
use Rattle.std.proofs.lemmas.List.{map-append}
use Rattle.std.proofs.lemmas.List.Elements.{All-append, All-cons, All-map, All-nil}
use Rattle.set_tree.specs.declared.line.Line.{Line}
use Rattle.set_tree.specs.declared.line.Line.TheVariants.{Base, Step, Reset, Operation}
use Rattle.set_tree.specs.declared.set.Property.{Property}
use Rattle.set_tree.specs.declared.set.Rule.{Rule}
use Rattle.set_tree.specs.declared.set.Set.{Set}
use Rattle.set_tree.specs.Report.{design_lines, numbers_from}
use Rattle.word_dag.specs.declared.node.Node.{Node}
use Rattle.word_dag.specs.declared.ob.Named.{Named}
use Rattle.word_dag.specs.Adding.{Keeps}
use Rattle.elab_step_design.specs.Designs.{IsDesign, Parts}
use Rattle.twin_tests.specs.Framing.{SpeaksOf}
use Rattle.twin_tests.proofs.Reported.{numbers_more}
use Rattle.unroll.specs.declared.segment.Segments.{Segments}
use Rattle.unroll.specs.Named.{IsNamedOf, design_line}
use Rattle.elab_step_expr.specs.Nodes.{AddsFrees}
use Rattle.unroll.specs.Unrolled.{AreSegments, IsSourceWord}
use Rattle.unroll.proofs.Rowing.{segments_later, zip_more}
use Rattle.unroll.proofs.Sourcing.{source_widths}
use Rattle.word_dag.specs.Names.{HasOneWidthEach}
use Rattle.word_dag.proofs.Taken.{widths_are_kept}

-- one more line for a number
pub number_step : (f : ℕ → Line) (old new next : List Line) (n k : ℕ) → new ≡ old ++ map f (numbers_from n k) → next ≡ new ++ f (n + k) ∷ [] → next ≡ old ++ map f (numbers_from n (k + 1))
number_step f old new next n k is made =
    made ∙ (ap (λ (ls : List Line). ls ++ f (n + k) ∷ []) is ∙ (append_assoc old (map f (numbers_from n k)) (f (n + k) ∷ []) ∙ ap (λ (ls : List Line). old ++ ls) (sym (map-append f (numbers_from n k) ((n + k) ∷ [])) ∙ ap (map f) (sym (numbers_more n k)))))

all_numbers : (P : ℕ → Type 0) (n k : ℕ) → ((i : ℕ) → n ≤ i → i < n + k → P i) → All P (numbers_from n k)
all_numbers P n zero all = All-nil P
all_numbers P n (suc k) all = All-cons P n (numbers_from (suc n) k) (all n (omega arith) (omega arith)) (all_numbers P (suc n) k (λ i low high. all i (omega (arith, low)) (omega (arith, high))))

-- the lines of a design speak of its set's operations
pub lines_speak : (set : Set) → All (SpeaksOf set) (design_lines set)
lines_speak set =
    let bases = numbers_from 0 (length set.invariants) in
    let operations = numbers_from 1 (length set.operations) in
    All-append (SpeaksOf set) (map Base bases) _ (All-map (SpeaksOf set) Base bases (all_numbers (λ i. SpeaksOf set (Base i)) 0 (length set.invariants) (λ i low high. tt)))
    (All-append (SpeaksOf set) (map Step bases) _ (All-map (SpeaksOf set) Step bases (all_numbers (λ i. SpeaksOf set (Step i)) 0 (length set.invariants) (λ i low high. tt)))
    (All-cons (SpeaksOf set) Reset (map Operation operations) tt (All-map (SpeaksOf set) Operation operations (all_numbers (λ i. SpeaksOf set (Operation i)) 1 (length set.operations) (λ i low high. omega (arith, high))))))

-- the obligations so far
pub record ObsLoop (d : Parts) (set : Set) (nodes : List Node) (segments : Segments) (lines : List Line) (obs : List Named) : Type 0 where
  pub held : AreSegments d set nodes segments
  pub each : AllZip (IsNamedOf d set) lines obs
  pub words : HasOneWidthEach nodes

-- no line has its obligation yet
pub obs_begin : (d : Parts) (set : Set) (start nodes : List Node) (segments : Segments) (obs : List Named) → IsDesign d → start ≡ [] → AddsFrees (IsSourceWord d) start nodes → AreSegments d set nodes segments → obs ≡ [] → ObsLoop d set nodes segments [] obs
obs_begin d set start nodes segments obs design empty frees held none = record {
  held = held;
  each = rw none tt;
  words = source_widths d design start nodes empty frees;
}

pub obs_step : (d : Parts) (set : Set) (a b : List Node) (segments : Segments) (lines : List Line) (obs new : List Named) (i : ℕ) (line : Line) (named : Named) → Keeps a b → i < length lines → line ≡ get_or lines i line → new ≡ obs ++ named ∷ [] → IsNamedOf d set line named → ObsLoop d set a segments (take i lines) obs → ObsLoop d set b segments (take (i + 1) lines) new
obs_step d set a b segments lines obs new i line named ab lt is made here before = record {
  held = segments_later d set a b segments ab before.held;
  each = zip_more (IsNamedOf d set) lines i line obs new named lt is made here before.each;
  words = widths_are_kept a b ab before.words;
}

pub line_speaks : (set : Set) (number : ℕ) → number < length (design_lines set) → SpeaksOf set (design_line set number)
line_speaks set number lt = lines_speak set number Reset lt

-- the four parts of the report's lines on the design
pub whole_lines : (set : Set) (rules : List Rule) (properties : List Property) (l0 l1 l2 l3 l4 : List Line) → rules ≡ set.invariants → properties ≡ set.operations → l0 ≡ [] →
    l1 ≡ l0 ++ map Base (numbers_from 0 (length rules)) → l2 ≡ l1 ++ map Step (numbers_from 0 (length rules)) → l3 ≡ l2 ++ Reset ∷ [] → l4 ≡ l3 ++ map Operation (numbers_from 1 (length properties)) → l4 ≡ design_lines set
whole_lines set rules properties l0 l1 l2 l3 l4 one two p0 p1 p2 p3 p4 =
    let bases = map Base (numbers_from 0 (length rules)) in
    let steps = map Step (numbers_from 0 (length rules)) in
    let operations = map Operation (numbers_from 1 (length properties)) in
    let first : l1 ≡ bases = p1 ∙ ap (λ (zs : List Line). zs ++ bases) p0 in
    let second : l2 ≡ bases ++ steps = p2 ∙ ap (λ (zs : List Line). zs ++ steps) first in
    let third : l3 ≡ (bases ++ steps) ++ Reset ∷ [] = p3 ∙ ap (λ (zs : List Line). zs ++ Reset ∷ []) second in
    let last : l4 ≡ ((bases ++ steps) ++ Reset ∷ []) ++ operations = p4 ∙ ap (λ (zs : List Line). zs ++ operations) third in
    let joined : ((bases ++ steps) ++ Reset ∷ []) ++ operations ≡ bases ++ (steps ++ (Reset ∷ operations)) = append_assoc (bases ++ steps) (Reset ∷ []) operations ∙ append_assoc bases steps (Reset ∷ operations) in
    last ∙ (joined ∙ (ap (λ (rs : List Rule). map Base (numbers_from 0 (length rs)) ++ (map Step (numbers_from 0 (length rs)) ++ (Reset ∷ operations))) one ∙ ap (λ (ps : List Property). map Base (numbers_from 0 (length set.invariants)) ++ (map Step (numbers_from 0 (length set.invariants)) ++ (Reset ∷ map Operation (numbers_from 1 (length ps))))) two))
