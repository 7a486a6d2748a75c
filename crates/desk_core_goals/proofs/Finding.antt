-- The goal of a name.
use Rattle.std.proofs.Common.{◌≡◌, ◌<◌, ◌≤◌, ℕ, List, [], ◌∷◌, Bool, true, false, cond, ltb, Option, Some, None, length, get_or, refl, sym, ap, ◌∙◌, subst, arith}
use Rattle.std.specs.List.{Contains, position, position_or_len}
use Rattle.std.proofs.lemmas.Bool.{le-ltb, lt-ltb, ltb-false}
use Rattle.std.proofs.lemmas.List.{get_or_default}
use Rattle.std.proofs.lemmas.List.Elements.{All-cons, All-nil}
use Rattle.std.proofs.lemmas.List.Quantifiers.{position-Some}
use Rattle.std.proofs.lemmas.List.Sums.{fails_before_first, position_or_len_is}
use Rattle.std.proofs.lemmas.Slice.Eq.{bytes_eq-Decides}
use Rattle.set_tree.specs.declared.line.Line.{Line}
use Rattle.set_tree.specs.declared.line.Line.TheVariants.{Reset}
use Rattle.set_tree.specs.declared.set.Set.{Set}
use Rattle.word_dag.specs.declared.ob.Named.{Named}
use Rattle.twin_tests_laws.specs.Names.{line_name}
use Rattle.unroll_binding.specs.Binding.{Pair}
use Rattle.proof_store.specs.declared.goal.Goal.{Goal}
use Rattle.desk_core_commands.specs.declared.which.Which.{Which}
use Rattle.desk_core_goals.specs.Obligations.{IsObOf, all_lines, line_at}
use Rattle.desk_core_goals.specs.Asked.{AsksOne, IsGoalNamed, IsGoalOf, LacksLine, LacksName, has_name}
use Rattle.desk_core_goals.specs.declared.fault.LineFault.{LineFault}
use Rattle.desk_core_goals.specs.declared.fault.LineFault.TheVariants as f

-- ---- the first line that has a name

pub number_is : (has : Line → Bool) (lines : List Line) (number : ℕ) (d : Line) → number < length lines → ((k : ℕ) → k < number → has (get_or lines k d) ≡ false) → has (get_or lines number d) ≡ true → Some number ≡ position has lines
number_is has lines number d lt before here =
    let first = position_or_len_is has lines number d (omega (arith, lt)) before (λ below. here) in
    sym (ap (λ (n : ℕ). cond (ltb n (length lines)) (Some n) None) first ∙ ap (λ (b : Bool). cond b (Some number) None) (lt-ltb number (length lines) lt))

pub number_none : (has : Line → Bool) (lines : List Line) (d : Line) → ((k : ℕ) → k < length lines → has (get_or lines k d) ≡ false) → None ≡ position has lines
number_none has lines d none =
    let first = position_or_len_is has lines (length lines) d (omega arith) none (λ below. absurd (omega (arith, below))) in
    sym (ap (λ (n : ℕ). cond (ltb n (length lines)) (Some n) None) first ∙ ap (λ (b : Bool). cond b (Some (length lines)) None) (le-ltb (length lines) (length lines) (omega arith)))

not_both : (t : Bool) → t ≡ false → t ≡ true → ⊥
not_both t a b = let clash : false ≡ true = sym a ∙ b in absurd cc

-- where one has it, there is a first
missed : (has : Line → Bool) (lines : List Line) (k : ℕ) (d : Line) → k < length lines → has (get_or lines k d) ≡ true → None ≡ position has lines → ⊥
missed has lines k d lt here none = by (ltb (position_or_len has lines) (length lines)) refl
  where
    by : (within : Bool) → ltb (position_or_len has lines) (length lines) ≡ within → ⊥
    by true is = let clash : None ≡ Some (position_or_len has lines) = none ∙ ap (λ (b : Bool). cond b (Some (position_or_len has lines)) None) is in absurd cc
    by false is =
        let past : length lines ≤ position_or_len has lines = ltb-false (position_or_len has lines) (length lines) is in
        not_both (has (get_or lines k d)) (fails_before_first has lines k d (omega (arith, lt, past))) here

-- the number, as it was asked for
pub asked_so : (z set : Set) (bytes name : List ℕ) (some lines : List Line) (said : Option ℕ) → z ≡ set → bytes ≡ name → some ≡ lines → said ≡ position (has_name z bytes) some → said ≡ position (has_name set name) lines
asked_so z set bytes name some lines said same same_name same_lines is =
    is ∙ (ap (λ (y : Set). position (has_name y bytes) some) same ∙ (ap (λ (n : List ℕ). position (has_name set n) some) same_name ∙ ap (λ (ls : List Line). position (has_name set name) ls) same_lines))

pub within : (has : Line → Bool) (lines : List Line) (number : ℕ) → Some number ≡ position has lines → number < length lines
within has lines number first = (position-Some has lines number Reset (sym first)).0

-- ---- the goal of a name

-- the line at the number has the name, and its obligation is the goal's
pub found : (b : Pair) (name : List ℕ) (lines : List Line) (number : ℕ) (line : Line) (named : Named) → lines ≡ all_lines b.set → Some number ≡ position (has_name b.set name) lines → line ≡ get_or lines number line → IsObOf b (line_at b.set number) named
    → IsGoalNamed b name (record { line = line; ob = named.ob })
found b name lines number line named are first is h =
    let at = position-Some (has_name b.set name) lines number line (sym first) in
    let same : line ≡ line_at b.set number = is ∙ (get_or_default lines number line Reset at.0 ∙ ap (λ (ls : List Line). get_or ls number Reset) are) in
    let here : IsObOf b line named = subst (λ (l : Line). IsObOf b l named) (sym same) h in
    let has : has_name b.set name line ≡ true = subst (λ (l : Line). has_name b.set name l ≡ true) (sym is) at.1 in
    record {
      named = record {
        among = subst (λ (ls : List Line). Contains ls line) are (number, at.0, sym is);
        named = (bytes_eq-Decides (line_name b.set line) name).0 has;
      };
      of_line = subst (λ (m : Named). IsObOf b line m) (ap (λ (n : List ℕ). record { name = n; ob = named.ob }) here.name) here;
    }

-- none has the name
pub none_found : (set : Set) (name : List ℕ) (lines : List Line) → lines ≡ all_lines set → None ≡ position (has_name set name) lines → LacksName set name f.NoLine
none_found set name lines are none = λ line is_line.
    let among = subst (λ (ls : List Line). Contains ls line) (sym are) is_line.among in
    missed (has_name set name) lines among.0 line among.1 ((bytes_eq-Decides (line_name set (get_or lines among.0 line)) name).1 (ap (λ (l : Line). line_name set l) among.2 ∙ is_line.named)) none

-- it alone
pub alone : (b : Pair) (name : List ℕ) (goal : Goal Line) (only : List (Goal Line)) → IsGoalNamed b name goal → only ≡ goal ∷ [] → AsksOne b name only
alone b name goal only h pushed = subst (λ (gs : List (Goal Line)). AsksOne b name gs) (sym pushed) (record {
  asked = (goal.line, h.named, refl);
  each = All-cons (IsGoalOf b) goal [] h.of_line (All-nil (IsGoalOf b));
})

-- a goal isn't refused since a keeper failed
pub no_keeper : (set : Set) (which : Which) (fault : LineFault) → LacksLine set which fault → fault ≡ f.Keeper → ⊥
no_keeper set which f.NoLine lacks is = let clash : f.NoLine ≡ f.Keeper = is in cc
no_keeper set which f.Keeper lacks is = lacks
no_keeper set which f.Memory lacks is = let clash : f.Memory ≡ f.Keeper = is in cc
