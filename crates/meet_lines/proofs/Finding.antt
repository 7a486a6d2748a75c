-- Goals one after another, and the one of a name among them.
use Rattle.std.proofs.Common.{◌≡◌, ℕ, zero, suc, ◌<◌, Bool, true, false, List, [], ◌∷◌, ◌++◌, Option, Some, None, length, get_or, refl, sym, ap, ap₂, ◌∙◌, subst, arith, append_assoc, append-nil}
use Rattle.std.specs.List.{All, AllZip, Contains}
use Rattle.std.proofs.lemmas.List.Elements.{All-head, All-nil, All-push, All-tail}
use Rattle.std.proofs.lemmas.Slice.Eq.{bytes_eq-Decides}
use Rattle.std.proofs.lemmas.Slice.Zip.{all_zipped_more}
use Rattle.set_tree.specs.declared.set.Set.{Set}
use Rattle.set_tree.specs.Formulas.{meaning_of}
use Rattle.word_dag.specs.declared.ob.Named.{Named}
use Rattle.word_dag.specs.Nodes.{Parts as ObParts}
use Rattle.elab_step_design.specs.Designs.{Parts}
use Rattle.word_dag.specs.Names.{HasOneWordEach}
use Rattle.unroll_binding.specs.Binding.{Pair}
use Rattle.proof_store.specs.declared.goal.Goal.{Goal}
use Rattle.desk_core_goals.specs.declared.fault.LineFault.TheVariants as f
use Rattle.meet_lines.specs.declared.line.MeetLine.{MeetLine}
use Rattle.meet_lines.specs.Goals.{AreAsked, Asks, IsGoalOf, LacksLine, has_name}
use Rattle.meet_lines.specs.Lines.{IsOf, SpeaksOf, meet_lines}
use Rattle.meet_lines.specs.Named.{IsNamedOf, meet_name}

-- the line whose turn it is
pub record Turn {A B : Type 0} (R : A → B → Type 0) (after : List A) (g : B) (left : List B) : Type 0 where
  pub one : A
  pub rest : List A
  pub split : after ≡ one ∷ rest
  pub here : R one g
  pub others : AllZip R rest left

pub turn : {A B : Type 0} (R : A → B → Type 0) (after : List A) (now left : List B) (g : B) → AllZip R after now → now ≡ g ∷ left → Turn R after g left
turn R after now left g zip is = by after (subst (λ (gs : List _). AllZip R after gs) is zip)
  where
    by : (after : List _) → AllZip R after (g ∷ left) → Turn R after g left
    by [] z = absurd z
    by (x ∷ xs) z = record { one = x; rest = xs; split = refl; here = z.0; others = z.1 }

-- none is left
nothing : {A B : Type 0} (R : A → B → Type 0) (after : List A) (left : List B) → AllZip R after left → length left ≡ 0 → after ≡ []
nothing R [] left z none = refl
nothing R (x ∷ xs) [] z none = absurd z
nothing R (x ∷ xs) (g ∷ gs) z none = absurd (omega arith)

-- the line of a goal is there
pub goal_speaks : (d : Parts) (set : Set) (line : MeetLine) (goal : Goal MeetLine) → IsGoalOf d set line goal → SpeaksOf set goal.line
goal_speaks d set line goal h = subst (SpeaksOf set) (sym h.line_is) h.speaks

-- ---- the goal of a name

-- of the lines before, none has the name; those after have the goals that are left
pub record FindLoop (d : Parts) (set : Set) (name : List ℕ) (left : List (Goal MeetLine)) : Type 0 where
  pub before : List MeetLine
  pub after : List MeetLine
  pub split : meet_lines set ≡ before ++ after
  pub others : All (λ line. has_name set name line ≡ false) before
  pub rest : AllZip (IsGoalOf d set) after left

pub find_start : (d : Parts) (set : Set) (name : List ℕ) (all left : List (Goal MeetLine)) → AllZip (IsGoalOf d set) (meet_lines set) all → left ≡ all → FindLoop d set name left
find_start d set name all left are same = record {
  before = [];
  after = meet_lines set;
  split = refl;
  others = All-nil (λ line. has_name set name line ≡ false);
  rest = subst (λ (gs : List (Goal MeetLine)). AllZip (IsGoalOf d set) (meet_lines set) gs) (sym same) are;
}

pub find_more : (d : Parts) (set : Set) (name : List ℕ) (now left : List (Goal MeetLine)) (goal : Goal MeetLine) → FindLoop d set name now → now ≡ goal ∷ left → has_name set name goal.line ≡ false → FindLoop d set name left
find_more d set name now left goal loop is other =
    let t = turn (IsGoalOf d set) loop.after now left goal loop.rest is in record {
      before = loop.before ++ t.one ∷ [];
      after = t.rest;
      split = loop.split ∙ (ap (λ (ls : List MeetLine). loop.before ++ ls) t.split ∙ sym (append_assoc loop.before (t.one ∷ []) t.rest));
      others = All-push (λ line. has_name set name line ≡ false) loop.before t.one loop.others (subst (λ line. has_name set name line ≡ false) t.here.line_is other);
      rest = t.others;
    }

among : (before rest : List MeetLine) (x : MeetLine) → Contains (before ++ x ∷ rest) x
among [] rest x = (0, omega arith, refl)
among (y ∷ ys) rest x = let c = among ys rest x in let lt = c.1 in (suc c.0, omega (arith, lt), c.2)

-- the one whose turn it is has the name
pub found : (b : Pair) (name : List ℕ) (now left only : List (Goal MeetLine)) (goal : Goal MeetLine) → FindLoop b.design b.set name now → now ≡ goal ∷ left → has_name b.set name goal.line ≡ true → only ≡ goal ∷ [] → Asks b (Some name) only
found b name now left only goal loop is named pushed =
    let t = turn (IsGoalOf b.design b.set) loop.after now left goal loop.rest is in
    let whole : meet_lines b.set ≡ loop.before ++ t.one ∷ t.rest = loop.split ∙ ap (λ (ls : List MeetLine). loop.before ++ ls) t.split in
    let same : meet_name b.set goal.line ≡ name = (bytes_eq-Decides (meet_name b.set goal.line) name).0 named in
    record {
      lines = t.one ∷ [];
      asked = (t.one, record { among = subst (λ (ls : List MeetLine). Contains ls t.one) (sym whole) (among loop.before t.rest t.one); named = ap (meet_name b.set) (sym t.here.line_is) ∙ same }, refl);
      each = subst (λ (gs : List (Goal MeetLine)). AllZip (IsGoalOf b.design b.set) (t.one ∷ []) gs) (sym pushed) (t.here, tt);
    }

not_both : (t : Bool) → t ≡ false → t ≡ true → ⊥
not_both t a b = let clash : false ≡ true = sym a ∙ b in absurd cc

missed : (set : Set) (name : List ℕ) (lines : List MeetLine) → All (λ line. has_name set name line ≡ false) lines → (k : ℕ) (line : MeetLine) → k < length lines → get_or lines k line ≡ line → meet_name set line ≡ name → ⊥
missed set name [] others k line lt at named = absurd (omega arith)
missed set name (x ∷ xs) others zero line lt at named =
    let same : x ≡ line = at in
    not_both (has_name set name x) (All-head (λ line. has_name set name line ≡ false) x xs others) ((bytes_eq-Decides (meet_name set x) name).1 (ap (meet_name set) same ∙ named))
missed set name (x ∷ xs) others (suc k) line lt at named = missed set name xs (All-tail (λ line. has_name set name line ≡ false) x xs others) k line (omega arith) at named

-- none has the name
pub none_found : (d : Parts) (set : Set) (name : List ℕ) (left : List (Goal MeetLine)) → FindLoop d set name left → length left ≡ 0 → LacksLine set (Some name) f.NoLine
none_found d set name left loop none = (
  name,
  refl,
  λ line is_line.
      let among = subst (λ (ls : List MeetLine). Contains ls line) (loop.split ∙ (ap (λ (ls : List MeetLine). loop.before ++ ls) (nothing (IsGoalOf d set) loop.after left loop.rest none) ∙ append-nil loop.before)) is_line.among in
      missed set name loop.before loop.others among.0 line among.1 among.2 is_line.named,
)

-- whether a line has a name, as it was asked
pub named_so : (z set : Set) (asked name : List ℕ) (line : MeetLine) (said is : Bool) → z ≡ set → asked ≡ name → said ≡ has_name z asked line → said ≡ is → has_name set name line ≡ is
named_so z set asked name line said is same same_name says so = sym (ap₂ (λ (y : Set) (x : List ℕ). has_name y x line) same same_name) ∙ (sym says ∙ so)

-- where no name is asked for, all are
pub asks_all : (b : Pair) (name : Option (List ℕ)) (goals : List (Goal MeetLine)) → name ≡ None → AllZip (IsGoalOf b.design b.set) (meet_lines b.set) goals → Asks b name goals
asks_all b name goals none each = record { lines = meet_lines b.set; asked = subst (λ (z : Option (List ℕ)). AreAsked z b.set (meet_lines b.set)) (sym none) refl; each = each }

-- ---- obligations under their names

-- the lines before have obligations under their names, and those after the goals that are left
pub record NameLoop (d : Parts) (set : Set) (obs : List Named) (left : List (Goal MeetLine)) : Type 0 where
  pub before : List MeetLine
  pub after : List MeetLine
  pub split : meet_lines set ≡ before ++ after
  pub named : AllZip (IsNamedOf d set) before obs
  pub rest : AllZip (IsGoalOf d set) after left

pub name_start : (d : Parts) (set : Set) (all left : List (Goal MeetLine)) (obs : List Named) → AllZip (IsGoalOf d set) (meet_lines set) all → left ≡ all → obs ≡ [] → NameLoop d set obs left
name_start d set all left obs are same none = record {
  before = [];
  after = meet_lines set;
  split = refl;
  named = subst (λ (ns : List Named). AllZip (IsNamedOf d set) [] ns) (sym none) tt;
  rest = subst (λ (gs : List (Goal MeetLine)). AllZip (IsGoalOf d set) (meet_lines set) gs) (sym same) are;
}

pub name_more : (d : Parts) (set : Set) (now left : List (Goal MeetLine)) (obs more : List Named) (goal : Goal MeetLine) (named : Named) → NameLoop d set obs now → now ≡ goal ∷ left → named.name ≡ meet_name set goal.line → named.ob ≡ goal.ob → more ≡ obs ++ named ∷ [] → NameLoop d set more left
name_more d set now left obs more goal named loop is named_so ob_is pushed =
    let t = turn (IsGoalOf d set) loop.after now left goal loop.rest is in
    let here : IsNamedOf d set t.one named = record {
      name = named_so ∙ ap (meet_name set) t.here.line_is;
      of_line = subst (λ (o : ObParts). IsOf d (meaning_of set) set t.one o.nodes o.root) (sym ob_is) t.here.of_line;
      words = subst (λ (o : ObParts). HasOneWordEach o.nodes) (sym ob_is) t.here.words;
    } in record {
      before = loop.before ++ t.one ∷ [];
      after = t.rest;
      split = loop.split ∙ (ap (λ (ls : List MeetLine). loop.before ++ ls) t.split ∙ sym (append_assoc loop.before (t.one ∷ []) t.rest));
      named = subst (λ (ns : List Named). AllZip (IsNamedOf d set) (loop.before ++ t.one ∷ []) ns) (sym pushed) (all_zipped_more (IsNamedOf d set) loop.before obs t.one named loop.named here);
      rest = t.others;
    }

pub all_named : (d : Parts) (set : Set) (obs : List Named) (left : List (Goal MeetLine)) → NameLoop d set obs left → length left ≡ 0 → AllZip (IsNamedOf d set) (meet_lines set) obs
all_named d set obs left loop none =
    subst (λ (ls : List MeetLine). AllZip (IsNamedOf d set) ls obs) (sym (loop.split ∙ (ap (λ (ls : List MeetLine). loop.before ++ ls) (nothing (IsGoalOf d set) loop.after left loop.rest none) ∙ append-nil loop.before))) loop.named
