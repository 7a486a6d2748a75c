-- What is found of goals, and the places that it gives them.
use Rattle.std.proofs.Common.{◌≡◌, ◌⊎◌, ⊎_elim, ℕ, ◌+◌, List, [], ◌∷◌, ◌++◌, cond, Option, Some, None, length, refl, sym, ap, ap₂, ◌∙◌, subst, arith, append_assoc, append-nil}
use Rattle.std.specs.Prelude.{Vec, count_by, sum_by}
use Rattle.std.specs.List.{AllZip}
use Rattle.std.specs.Option.{is_none}
use Rattle.std.specs.declared.alloc.Global.{Global}
use Rattle.std.proofs.lemmas.List.Sums.{sum_by-cons}
use Rattle.outside.specs.Tables.{Tables}
use Rattle.word_dag.specs.Nodes.{Parts}
use Rattle.clause_check.specs.declared.formula.Step.{Step}
use Rattle.job_pool.specs.declared.evidence.Evidence.{Evidence}
use Rattle.proof_store.specs.Counts.{FirstRose}
use Rattle.proof_store.specs.Helping.{Helps, ShowsEver}
use Rattle.proof_store.specs.Lookups.{Checked, IsChecked, IsLookedUp, lacks_proof}
use Rattle.proof_store.specs.Places.{Finds, FindsOf, IsPlaced, asked_about, asked_for, found_each, found_of, open_of, opened, place_of, places_of}
use Rattle.proof_store.specs.declared.goal.Goal.{Goal}
use Rattle.proof_store.specs.declared.placing.Found.{Found}
use Rattle.proof_store.specs.declared.placing.Place.{Place}
use Rattle.proof_store.specs.declared.placing.Place.TheVariants.{Done, Open}
use Rattle.proof_store.proofs.Proving.{none_kept}

-- ---- what is found of an obligation
one_found : (tables : Option Tables) (ob : Parts) (kept : Option (Vec Step Global)) (helped : Option Evidence) → IsLookedUp tables ob kept → ShowsEver ob helped → Finds tables ob (found_of kept helped)
one_found tables ob None None looked shown = record { shown = tt; kept = looked.kept; recorded = tt; unsolved = tt }
one_found tables ob None (Some evidence) looked shown = record { shown = shown; kept = looked.kept; recorded = none_kept tables ob evidence looked.kept; unsolved = λ same. absurd (cc) }
one_found tables ob (Some steps) helped looked shown = record { shown = looked.shown; kept = looked.kept; recorded = looked.recorded; unsolved = λ same. absurd (cc) }

one_asked : (kept : Option (Vec Step Global)) (helped : Option Evidence) (checked : Checked) → checked.known ≡ kept → asked_about (found_of kept helped) ≡ cond (lacks_proof checked) 1 0
one_asked None None checked is = sym (ap (λ (k : Option (Vec Step Global)). cond (is_none k) 1 0) is)
one_asked None (Some evidence) checked is = sym (ap (λ (k : Option (Vec Step Global)). cond (is_none k) 1 0) is)
one_asked (Some steps) helped checked is = sym (ap (λ (k : Option (Vec Step Global)). cond (is_none k) 1 0) is)

pub asked_each : (obs : List Checked) (helped : List (Option Evidence)) → AllZip Helps obs helped → count_by lacks_proof obs ≡ sum_by asked_about (found_each obs helped)
asked_each [] [] helps = refl
asked_each [] (h ∷ hs) helps = absurd helps
asked_each (o ∷ os) [] helps = absurd helps
asked_each (o ∷ os) (h ∷ hs) helps =
    sum_by-cons (λ (c : Checked). cond (lacks_proof c) 1 0) o os
    ∙ (ap₂ (λ (a : ℕ) (b : ℕ). a + b) (sym (one_asked o.known h o refl)) (asked_each os hs helps.1) ∙ sym (sum_by-cons asked_about (found_of o.known h) (found_each os hs)))

-- as often as helpers were asked, so many obligations are not kept
pub found_rose : (obs slice : List Checked) (helped : List (Option Evidence)) (found : List (Option Found)) (xs ys zs : List ℕ) → slice ≡ obs → AllZip Helps slice helped → found ≡ found_each obs helped → ys ≡ xs
    → FirstRose (count_by lacks_proof slice) ys zs → FirstRose (sum_by asked_about found) xs zs
found_rose obs slice helped found xs ys zs slice_is helps found_is same rose =
    let asked : count_by lacks_proof slice ≡ sum_by asked_about found = asked_each slice helped helps ∙ ap (sum_by asked_about) (ap (λ (os : List Checked). found_each os helped) slice_is ∙ sym found_is) in
    subst (λ (ns : List ℕ). FirstRose (sum_by asked_about found) ns zs) same (subst (λ (k : ℕ). FirstRose k ys zs) asked rose)

-- ---- one obligation after another
pub found_more : (found more : List (Option Found)) (obs left : List Checked) (helped rest : List (Option Evidence)) (one : Checked) (evidence : Option Evidence) (f : Option Found) (all : List (Option Found)) → found ++ found_each obs helped ≡ all
    → obs ≡ one ∷ left → helped ≡ evidence ∷ rest → f ≡ found_of one.known evidence → more ≡ found ++ f ∷ [] → more ++ found_each left rest ≡ all
found_more found more obs left helped rest one evidence f all are obs_is helped_is found_is pushed =
    ap (λ (fs : List (Option Found)). fs ++ found_each left rest) (pushed ∙ ap (λ (x : Option Found). found ++ x ∷ []) found_is)
    ∙ (append_assoc found (found_of one.known evidence ∷ []) (found_each left rest) ∙ (ap₂ (λ (os : List Checked) (hs : List (Option Evidence)). found ++ found_each os hs) (sym obs_is) (sym helped_is) ∙ are))

none_left : (obs : List Checked) (helped : List (Option Evidence)) → (length obs ≡ 0) ⊎ (length helped ≡ 0) → found_each obs helped ≡ []
none_left [] helped over = refl
none_left (o ∷ os) [] over = refl
none_left (o ∷ os) (h ∷ hs) over = absurd (⊎_elim {C = ⊥} (λ p. absurd (omega (arith, p))) (λ p. absurd (omega (arith, p))) over)

pub found_all : (found : List (Option Found)) (obs : List Checked) (helped : List (Option Evidence)) (all : List (Option Found)) → found ++ found_each obs helped ≡ all → (length obs ≡ 0) ⊎ (length helped ≡ 0) → found ≡ all
found_all found obs helped all are over = sym (append-nil found) ∙ (ap (λ (fs : List (Option Found)). found ++ fs) (sym (none_left obs helped over)) ∙ are)

module _ {L : Type 0} where
  pub finds_each : (tables : Option Tables) (goals : List (Goal L)) (obs : List Checked) (helped : List (Option Evidence)) → AllZip (IsChecked tables) goals obs → AllZip Helps obs helped → AllZip (FindsOf tables) goals (found_each obs helped)
  finds_each tables [] [] helped checked helps = tt
  finds_each tables [] (o ∷ os) helped checked helps = absurd checked
  finds_each tables (g ∷ gs) [] helped checked helps = absurd checked
  finds_each tables (g ∷ gs) (o ∷ os) [] checked helps = absurd helps
  finds_each tables (g ∷ gs) (o ∷ os) (h ∷ hs) checked helps =
      (one_found tables g.ob o.known h checked.0.looked (subst (λ (ob : Parts). ShowsEver ob h) checked.0.ob_is helps.0), finds_each tables gs os hs checked.1 helps.1)

  pub found_finds : (tables : Option Tables) (goals : List (Goal L)) (obs slice : List Checked) (helped : List (Option Evidence)) (found : List (Option Found)) → slice ≡ obs → AllZip (IsChecked tables) goals obs → AllZip Helps slice helped
      → found ≡ found_each obs helped → AllZip (FindsOf tables) goals found
  found_finds tables goals obs slice helped found slice_is checked helps found_is =
      subst (AllZip (FindsOf tables) goals) (sym found_is) (finds_each tables goals obs helped checked (subst (λ (os : List Checked). AllZip Helps os helped) slice_is helps))

  -- ---- the places of goals
  one_placed : (tables : Option Tables) (goal : Goal L) (found : Option Found) → FindsOf tables goal found → IsPlaced tables goal (place_of goal found)
  one_placed tables goal None finds = record { shows = refl; kept = finds.kept; recorded = tt }
  one_placed tables goal (Some f) finds = record { shows = (λ budget. record { goal_is = refl; shown = finds.shown budget }, finds.unsolved); kept = finds.kept; recorded = finds.recorded }

  pub are_placed : (tables : Option Tables) (goals : List (Goal L)) (found : List (Option Found)) → AllZip (FindsOf tables) goals found → AllZip (IsPlaced tables) goals (places_of goals found)
  are_placed tables [] [] finds = tt
  are_placed tables [] (f ∷ fs) finds = absurd finds
  are_placed tables (g ∷ gs) [] finds = absurd finds
  are_placed tables (g ∷ gs) (f ∷ fs) finds = (one_placed tables g f finds.0, are_placed tables gs fs finds.1)

  one_asked_for : (goal : Goal L) (found : Option Found) → asked_about found ≡ asked_for (place_of goal found)
  one_asked_for goal None = refl
  one_asked_for goal (Some f) = refl

  pub asked_as : (tables : Option Tables) (goals : List (Goal L)) (found : List (Option Found)) → AllZip (FindsOf tables) goals found → sum_by asked_about found ≡ sum_by asked_for (places_of goals found)
  asked_as tables [] [] finds = refl
  asked_as tables [] (f ∷ fs) finds = absurd finds
  asked_as tables (g ∷ gs) [] finds = absurd finds
  asked_as tables (g ∷ gs) (f ∷ fs) finds =
      sum_by-cons asked_about f fs ∙ (ap₂ (λ (a : ℕ) (b : ℕ). a + b) (one_asked_for g f) (asked_as tables gs fs finds.1) ∙ sym (sum_by-cons asked_for (place_of g f) (places_of gs fs)))

  pub found_placed : (tables : Option Tables) (goals slice : List (Goal L)) (found : List (Option Found)) (places : List (Place L)) → slice ≡ goals → AllZip (FindsOf tables) slice found → places ≡ places_of goals found → AllZip (IsPlaced tables) goals places
  found_placed tables goals slice found places slice_is finds places_are =
      subst (AllZip (IsPlaced tables) goals) (sym places_are) (are_placed tables goals found (subst (λ (gs : List (Goal L)). AllZip (FindsOf tables) gs found) slice_is finds))

  pub places_rose : (tables : Option Tables) (goals slice : List (Goal L)) (found : List (Option Found)) (places : List (Place L)) (xs ys : List ℕ) → slice ≡ goals → AllZip (FindsOf tables) slice found → places ≡ places_of goals found
      → FirstRose (sum_by asked_about found) xs ys → FirstRose (sum_by asked_for places) xs ys
  places_rose tables goals slice found places xs ys slice_is finds places_are rose =
      let asked : sum_by asked_about found ≡ sum_by asked_for places =
      asked_as tables goals found (subst (λ (gs : List (Goal L)). AllZip (FindsOf tables) gs found) slice_is finds) ∙ ap (sum_by asked_for) (sym places_are) in
      subst (λ (k : ℕ). FirstRose k xs ys) asked rose

  -- ---- one goal after another

  -- the places so far, with those of the goals that are left, are all, and so are the open obligations
  pub record PlaceLoop (all : List (Place L)) (goals : List (Goal L)) (places : List (Place L)) (rest : List Parts) (left : List (Goal L)) (found : List (Option Found)) : Type 0 where
    pub places_are : places ++ places_of left found ≡ all
    pub rest_is : rest ++ open_of left (places_of left found) ≡ open_of goals all

  opened_more : (goal : Goal L) (left : List (Goal L)) (place : Place L) (places : List (Place L)) (rest : List Parts) → opened place goal.ob rest ++ open_of left places ≡ rest ++ open_of (goal ∷ left) (place ∷ places)
  opened_more goal left (Done d) places rest = refl
  opened_more goal left (Open line) places rest = append_assoc rest (goal.ob ∷ []) (open_of left places)

  pub place_start : (goals left : List (Goal L)) (found rest_found : List (Option Found)) (places : List (Place L)) (rest : List Parts) → left ≡ goals → rest_found ≡ found → places ≡ [] → rest ≡ []
      → PlaceLoop (places_of goals found) goals places rest left rest_found
  place_start goals left found rest_found places rest left_is found_is none nothing = record {
    places_are = ap₂ (λ (ps : List (Place L)) (qs : List (Place L)). ps ++ qs) none same;
    rest_is = ap₂ (λ (os : List Parts) (ps : List Parts). os ++ ps) nothing (ap₂ open_of left_is same);
  }
    where
      same : places_of left rest_found ≡ places_of goals found
      same = ap₂ places_of left_is found_is

  pub place_more : (all : List (Place L)) (goals now left : List (Goal L)) (places more : List (Place L)) (rest rest_after : List Parts) (found rest_found : List (Option Found)) (goal : Goal L) (f : Option Found) (place : Place L)
      → PlaceLoop all goals places rest now found → now ≡ goal ∷ left → found ≡ f ∷ rest_found → place ≡ place_of goal f → rest_after ≡ opened place goal.ob rest → more ≡ places ++ place ∷ [] → PlaceLoop all goals more rest_after left rest_found
  place_more all goals now left places more rest rest_after found rest_found goal f place loop now_is found_is place_is rest_is pushed = record {
    places_are = ap (λ (ps : List (Place L)). ps ++ places_of left rest_found) (pushed ∙ ap (λ (p : Place L). places ++ p ∷ []) place_is)
        ∙ (append_assoc places (place_of goal f ∷ []) (places_of left rest_found) ∙ (ap (λ (ps : List (Place L)). places ++ ps) (sym taken) ∙ loop.places_are));
    rest_is = ap (λ (os : List Parts). os ++ open_of left (places_of left rest_found)) (rest_is ∙ ap (λ (p : Place L). opened p goal.ob rest) place_is)
        ∙ (opened_more goal left (place_of goal f) (places_of left rest_found) rest ∙ (ap (λ (os : List Parts). rest ++ os) (sym (ap₂ open_of now_is taken)) ∙ loop.rest_is));
  }
    where
      taken : places_of now found ≡ place_of goal f ∷ places_of left rest_found
      taken = ap₂ places_of now_is found_is

  no_places : (left : List (Goal L)) (found : List (Option Found)) → (length left ≡ 0) ⊎ (length found ≡ 0) → places_of left found ≡ []
  no_places [] found over = refl
  no_places (g ∷ gs) [] over = refl
  no_places (g ∷ gs) (f ∷ fs) over = absurd (⊎_elim {C = ⊥} (λ p. absurd (omega (arith, p))) (λ p. absurd (omega (arith, p))) over)

  none_open : (left : List (Goal L)) → open_of left [] ≡ []
  none_open [] = refl
  none_open (g ∷ gs) = refl

  pub all_places : (all : List (Place L)) (goals : List (Goal L)) (places : List (Place L)) (rest : List Parts) (left : List (Goal L)) (found : List (Option Found)) → PlaceLoop all goals places rest left found → (length left ≡ 0) ⊎ (length found ≡ 0) → places ≡ all
  all_places all goals places rest left found loop over = sym (append-nil places) ∙ (ap (λ (ps : List (Place L)). places ++ ps) (sym (no_places left found over)) ∙ loop.places_are)

  pub all_open : (all : List (Place L)) (goals : List (Goal L)) (places : List (Place L)) (rest : List Parts) (left : List (Goal L)) (found : List (Option Found)) → PlaceLoop all goals places rest left found → (length left ≡ 0) ⊎ (length found ≡ 0)
      → rest ≡ open_of goals places
  all_open all goals places rest left found loop over =
      sym (append-nil rest) ∙ (ap (λ (os : List Parts). rest ++ os) (sym (ap (open_of left) (no_places left found over) ∙ none_open left)) ∙ (loop.rest_is ∙ ap (open_of goals) (sym (all_places all goals places rest left found loop over))))
