-- One after another.
use Rattle.std.proofs.Common.{◌≡◌, ℕ, suc, ◌<◌, List, [], ◌∷◌, ◌++◌, length, map, get_or, refl, sym, ap, ◌∙◌, subst, arith, append_assoc, append-nil, length-append}
use Rattle.std.specs.List.{All, AllZip}
use Rattle.std.proofs.lemmas.List.Elements.{All-head, All-nil, All-push, All-tail}
use Rattle.std.proofs.lemmas.Slice.Zip.{all_zipped_more}
use Rattle.set_tree.specs.declared.line.Line.{Line}
use Rattle.word_dag.specs.declared.ob.Named.{Named}
use Rattle.unroll_binding.specs.Binding.{Pair}
use Rattle.desk_core_goals.specs.Obligations.{IsObOf}
use Rattle.proof_store.specs.Goals.{Ended, ended}
use Rattle.proof_store.specs.declared.goal.Decided.{Decided}
use Rattle.proof_store.specs.declared.goal.Goal.{Goal}
use Rattle.desk_core_reports.specs.declared.book.Line.{Line as Told}
use Rattle.desk_core_goals.specs.Asked.{AreGoalsOf, IsGoalDecided, IsGoalOf, line_of}
use Rattle.desk_core_goals.specs.Decided.{Tells}
use Rattle.desk_core_goals.specs.Settled.{ended_of}

pub length_zipped : {A B : Type 0} (R : A → B → Type 0) (xs : List A) (ys : List B) → AllZip R xs ys → length xs ≡ length ys
length_zipped R [] [] z = refl
length_zipped R [] (y ∷ ys) z = absurd z
length_zipped R (x ∷ xs) [] z = absurd z
length_zipped R (x ∷ xs) (y ∷ ys) z = ap suc (length_zipped R xs ys z.1)

-- ---- lines of the book

-- those before are told
pub record TellLoop (b : Pair) (all : List (Decided Line)) (done : List Told) (left : List (Decided Line)) : Type 0 where
  pub before : List (Decided Line)
  pub split : all ≡ before ++ left
  pub told : AllZip (Tells b) before done

pub tell_start : (b : Pair) (all left : List (Decided Line)) (done : List Told) → left ≡ all → done ≡ [] → TellLoop b all done left
tell_start b all left done same none = record { before = []; split = sym same; told = subst (λ (ts : List Told). AllZip (Tells b) [] ts) (sym none) tt }

pub tell_more : (b : Pair) (all now left : List (Decided Line)) (done more : List Told) (d : Decided Line) (told : Told) → TellLoop b all done now → now ≡ d ∷ left → Tells b d told → more ≡ done ++ told ∷ [] → TellLoop b all more left
tell_more b all now left done more d told loop is here pushed = record {
  before = loop.before ++ d ∷ [];
  split = loop.split ∙ (ap (λ (ds : List (Decided Line)). loop.before ++ ds) is ∙ sym (append_assoc loop.before (d ∷ []) left));
  told = subst (λ (ts : List Told). AllZip (Tells b) (loop.before ++ d ∷ []) ts) (sym pushed) (all_zipped_more (Tells b) loop.before done d told loop.told here);
}

pub all_told : (b : Pair) (all left : List (Decided Line)) (done : List Told) → TellLoop b all done left → length left ≡ 0 → AllZip (Tells b) all done
all_told b all [] done loop none = subst (λ (ds : List (Decided Line)). AllZip (Tells b) ds done) (sym (loop.split ∙ append-nil loop.before)) loop.told
all_told b all (d ∷ left) done loop none = let no : suc (length left) ≡ 0 = none in absurd (omega arith)

-- the one whose turn it is was decided so
pub turn_decided : (budget : ℕ) (b : Pair) (all now left : List (Decided Line)) (done : List Told) (d : Decided Line) → TellLoop b all done now → now ≡ d ∷ left → All (IsGoalDecided budget b) all → IsGoalDecided budget b d
turn_decided budget b all now left done d loop is decided =
    let there : All (IsGoalDecided budget b) (loop.before ++ d ∷ left) = subst (λ (ds : List (Decided Line)). All (IsGoalDecided budget b) ds) (loop.split ∙ ap (λ (ds : List (Decided Line)). loop.before ++ ds) is) decided in
    at loop.before there
  where
    at : (before : List (Decided Line)) → All (IsGoalDecided budget b) (before ++ d ∷ left) → IsGoalDecided budget b d
    at [] h = All-head (IsGoalDecided budget b) d left h
    at (x ∷ xs) h = at xs (All-tail (IsGoalDecided budget b) x (xs ++ d ∷ left) h)

-- what the lines tell is what was decided
pub same_ended : (b : Pair) (ds : List (Decided Line)) (ts : List Told) → AllZip (Tells b) ds ts → map ended_of ts ≡ map ended ds
same_ended b [] [] z = refl
same_ended b [] (t ∷ ts) z = absurd z
same_ended b (d ∷ ds) [] z = absurd z
same_ended b (d ∷ ds) (t ∷ ts) z = one (sym z.0.ob) (sym z.0.evidence) ∙ ap (λ (es : List Ended). ended d ∷ es) (same_ended b ds ts z.1)
  where
    one : d.goal.ob ≡ t.ob → d.evidence ≡ t.evidence → ended_of t ∷ map ended_of ts ≡ ended d ∷ map ended_of ts
    one ob evidence = cc

-- ---- goals of lines

-- those before have goals, and those after have the obligations that are left
pub record JoinLoop (b : Pair) (lines : List Line) (done : List (Goal Line)) (left : List Named) : Type 0 where
  pub before : List Line
  pub after : List Line
  pub split : lines ≡ before ++ after
  pub made : map line_of done ≡ before
  pub each : All (IsGoalOf b) done
  pub rest : AllZip (IsObOf b) after left

pub join_start : (b : Pair) (lines : List Line) (obs left : List Named) (done : List (Goal Line)) → AllZip (IsObOf b) lines obs → left ≡ obs → done ≡ [] → JoinLoop b lines done left
join_start b lines obs left done h same none = record {
  before = [];
  after = lines;
  split = refl;
  made = ap (map line_of) none;
  each = subst (λ (gs : List (Goal Line)). All (IsGoalOf b) gs) (sym none) (All-nil (IsGoalOf b));
  rest = subst (λ (ns : List Named). AllZip (IsObOf b) lines ns) (sym same) h;
}

-- the line whose turn it is
pub record Turn (b : Pair) (lines : List Line) (done : List (Goal Line)) (n : Named) (left : List Named) : Type 0 where
  pub one : Line
  pub before : List Line
  pub after : List Line
  pub split : lines ≡ before ++ one ∷ after
  pub made : map line_of done ≡ before
  pub here : IsObOf b one n
  pub rest : AllZip (IsObOf b) after left

pub turn : (b : Pair) (lines : List Line) (done : List (Goal Line)) (all left : List Named) (n : Named) → JoinLoop b lines done all → all ≡ n ∷ left → Turn b lines done n left
turn b lines done all left n loop is = by loop.after loop.split (subst (λ (ns : List Named). AllZip (IsObOf b) loop.after ns) is loop.rest)
  where
    by : (after : List Line) → lines ≡ loop.before ++ after → AllZip (IsObOf b) after (n ∷ left) → Turn b lines done n left
    by [] split rest = absurd rest
    by (x ∷ after) split rest = record { one = x; before = loop.before; after = after; split = split; made = loop.made; here = rest.0; rest = rest.1 }

place_of : (b : Pair) (lines : List Line) (done : List (Goal Line)) (n : Named) (left : List Named) → (t : Turn b lines done n left) → length done ≡ length t.before
place_of b lines done n left t = sym (length-lines done) ∙ ap length t.made
  where
    length-lines : (gs : List (Goal Line)) → length (map line_of gs) ≡ length gs
    length-lines [] = refl
    length-lines (g ∷ gs) = ap suc (length-lines gs)

pub is_there : (b : Pair) (lines : List Line) (done : List (Goal Line)) (n : Named) (left : List Named) → Turn b lines done n left → length done < length lines
is_there b lines done n left t =
    let many = place_of b lines done n left t in
    let all = ap length t.split ∙ length-append t.before (t.one ∷ t.after) in
    omega (arith, many, all)

behind : (xs ys : List Line) (x d : Line) → get_or (xs ++ x ∷ ys) (length xs) d ≡ x
behind [] ys x d = refl
behind (z ∷ xs) ys x d = behind xs ys x d

-- what stands at the place of the turn
is_one : (b : Pair) (lines : List Line) (done : List (Goal Line)) (n : Named) (left : List Named) (k : ℕ) (x d : Line) → (t : Turn b lines done n left) → k ≡ length done → x ≡ get_or lines k d → x ≡ t.one
is_one b lines done n left k x d t at is =
    let place : k ≡ length t.before = at ∙ place_of b lines done n left t in
    is ∙ (ap (λ (zs : List Line). get_or zs k d) t.split ∙ (ap (λ i. get_or (t.before ++ t.one ∷ t.after) i d) place ∙ behind t.before t.after t.one d))

map_push : (gs : List (Goal Line)) (g : Goal Line) → map line_of (gs ++ g ∷ []) ≡ map line_of gs ++ g.line ∷ []
map_push [] g = refl
map_push (x ∷ gs) g = ap (λ (ls : List Line). x.line ∷ ls) (map_push gs g)

-- one more line has a goal
pub join_more : (b : Pair) (lines : List Line) (done more : List (Goal Line)) (all left : List Named) (n : Named) (k : ℕ) (x d : Line) (goal : Goal Line) → JoinLoop b lines done all → all ≡ n ∷ left → k ≡ length done → x ≡ get_or lines k d
    → goal ≡ record { line = x; ob = n.ob } → more ≡ done ++ goal ∷ [] → JoinLoop b lines more left
join_more b lines done more all left n k x d goal loop is at item made pushed =
    let t = turn b lines done all left n loop is in
    let one : x ≡ t.one = is_one b lines done n left k x d t at item in
    let here : IsObOf b x n = subst (λ (z : Line). IsObOf b z n) (sym one) t.here in
    let goal_is : IsGoalOf b (record { line = x; ob = n.ob }) = subst (λ (m : Named). IsObOf b x m) (ap (λ (name : List ℕ). record { name = name; ob = n.ob }) here.name) here in record {
      before = t.before ++ t.one ∷ [];
      after = t.after;
      split = t.split ∙ sym (append_assoc t.before (t.one ∷ []) t.after);
      made = ap (map line_of) pushed ∙ (map_push done goal ∙ (ap (λ (ls : List Line). ls ++ goal.line ∷ []) t.made ∙ ap (λ (l : Line). t.before ++ l ∷ []) (ap line_of made ∙ one)));
      each = subst (λ (gs : List (Goal Line)). All (IsGoalOf b) gs) (sym pushed) (All-push (IsGoalOf b) done goal loop.each (subst (IsGoalOf b) (sym made) goal_is));
      rest = t.rest;
    }

pub all_joined : (b : Pair) (lines : List Line) (done : List (Goal Line)) (left : List Named) → JoinLoop b lines done left → length left ≡ 0 → AreGoalsOf b lines done
all_joined b lines done left loop none = by loop.after left loop.split loop.rest none
  where
    by : (after : List Line) (left : List Named) → lines ≡ loop.before ++ after → AllZip (IsObOf b) after left → length left ≡ 0 → AreGoalsOf b lines done
    by [] left split rest none = record { lines_are = loop.made ∙ sym (split ∙ append-nil loop.before); each = loop.each }
    by (x ∷ after) [] split rest none = absurd rest
    by (x ∷ after) (n ∷ left) split rest none = let no : suc (length left) ≡ 0 = none in absurd (omega arith)
