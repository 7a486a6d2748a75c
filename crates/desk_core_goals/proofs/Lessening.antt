-- Goals whose values were replaced by the least ones.
use Rattle.std.proofs.Common.{◌≡◌, ℕ, zero, suc, List, [], ◌∷◌, map, Option, Some, None, Vec, Global, refl, sym, ap₂, ◌∙◌, subst, arith}
use Rattle.std.specs.Prelude.{Any}
use Rattle.std.specs.List.{All, AllZip}
use Rattle.std.proofs.lemmas.List.Elements.{All-cons, All-head, All-nil, All-tail}
use Rattle.outside.specs.Tables.{Tables}
use Rattle.set_tree.specs.declared.line.Line.{Line}
use Rattle.clause_check.specs.declared.formula.Step.{Step}
use Rattle.word_dag.specs.Nodes.{Parts}
use Rattle.job_pool.specs.Shown.{IsShown}
use Rattle.job_pool.specs.declared.evidence.Evidence.{Evidence}
use Rattle.proof_store.specs.Goals.{Ended, IsDecided, ended}
use Rattle.proof_store.specs.Stored.{AddsProofs, IsNew, IsProved, MayBeKept, StoresNew, Told, ended_ob}
use Rattle.proof_store.specs.declared.goal.Decided.{Decided}
use Rattle.proof_store.specs.declared.goal.Goal.{Goal}
use Rattle.set_tree.specs.declared.set.Set.{Set}
use Rattle.unroll_binding.specs.Binding.{Pair}
use Rattle.least_trace.specs.declared.ends.LeastEnd.{LeastEnd}
use Rattle.desk_core_reports.specs.declared.book.Book.{Book}
use Rattle.desk_core_reports.specs.declared.book.Line.{Line as Entered}
use Rattle.desk_core_commands.specs.declared.which.Which.{Which}
use Rattle.desk_core_commands.specs.declared.which.Which.TheVariants as w
use Rattle.desk_core_goals.specs.Asked.{line_of}
use Rattle.desk_core_goals.specs.Decided.{AreAsked, IsOnlyLine, Tells}
use Rattle.desk_core_goals.specs.Least.{HasLeast, IsLeastOf, IsReplaced, Lessens}

abbrev Shows : ℕ → Decided Line → Type 0
Shows budget d = IsShown budget d.goal.ob d.evidence

-- what was decided is shown
pub all_shown : (budget : ℕ) (goals : List (Goal Line)) (ds : List (Decided Line)) → AllZip (IsDecided budget) goals ds → All (λ (d : Decided Line). IsShown budget d.goal.ob d.evidence) ds
all_shown budget [] [] z = All-nil (Shows budget)
all_shown budget [] (d ∷ ds) z = absurd z
all_shown budget (g ∷ gs) [] z = absurd z
all_shown budget (g ∷ gs) (d ∷ ds) z =
    All-cons (Shows budget) d ds (subst (λ (x : Goal Line). IsShown budget x.ob d.evidence) (sym z.0.goal_is) z.0.shown) (all_shown budget gs ds z.1)

-- each is replaced by itself
same_replaced : (budget : ℕ) (ds : List (Decided Line)) → All (Shows budget) ds → AllZip (IsReplaced budget) ds ds
same_replaced budget [] h = tt
same_replaced budget (d ∷ ds) h =
    (record { goal = refl; shown = All-head (Shows budget) d ds h; derived = λ steps. (λ is. is, λ is. is) }, same_replaced budget ds (All-tail (Shows budget) d ds h))

pub kept_replaced : (budget : ℕ) (ds es : List (Decided Line)) → All (λ (d : Decided Line). IsShown budget d.goal.ob d.evidence) ds → es ≡ ds → AllZip (IsReplaced budget) ds es
kept_replaced budget ds es h same = subst (λ (xs : List (Decided Line)). AllZip (IsReplaced budget) ds xs) (sym same) (same_replaced budget ds h)

module _ (budget : ℕ) where
  -- what is replaced was decided too
  pub replaced_decided : (goals : List (Goal Line)) (ds es : List (Decided Line)) → AllZip (IsDecided budget) goals ds → AllZip (IsReplaced budget) ds es → AllZip (IsDecided budget) goals es
  replaced_decided [] [] [] z r = tt
  replaced_decided [] [] (e ∷ es) z r = r
  replaced_decided [] (d ∷ ds) es z r = absurd z
  replaced_decided (g ∷ gs) [] es z r = absurd z
  replaced_decided (g ∷ gs) (d ∷ ds) [] z r = r
  replaced_decided (g ∷ gs) (d ∷ ds) (e ∷ es) z r = (
    record { goal_is = r.0.goal ∙ z.0.goal_is; shown = subst (λ (x : Goal Line). IsShown budget x.ob e.evidence) z.0.goal_is r.0.shown },
    replaced_decided gs ds es z.1 r.1,
  )

  same_obs : (ds es : List (Decided Line)) → AllZip (IsReplaced budget) ds es → map ended_ob (map ended ds) ≡ map ended_ob (map ended es)
  same_obs [] [] r = refl
  same_obs [] (e ∷ es) r = absurd r
  same_obs (d ∷ ds) [] r = absurd r
  same_obs (d ∷ ds) (e ∷ es) r = ap₂ (λ (g : Goal Line) (obs : List Parts). g.ob ∷ obs) (sym r.0.goal) (same_obs ds es r.1)

  module _ (before : Tables) (key : List ℕ) where
    new_as : (d e : Decided Line) → e.goal ≡ d.goal → ((steps : Vec Step Global) → MayBeKept (ended d) steps → e.evidence ≡ d.evidence) → IsNew before key (ended d) → IsNew before key (ended e)
    new_as d e goal same n =
        let both : ended e ≡ ended d = ap₂ (λ (g : Goal Line) (x : Evidence). record { ob = g.ob; evidence = x }) goal (same n.steps n.may_be_kept) in
        subst (λ (x : Ended). IsNew before key x) (sym both) n

    any_there : (ds es : List (Decided Line)) → AllZip (IsReplaced budget) ds es → Any (IsNew before key) (map ended ds) → Any (IsNew before key) (map ended es)
    any_there [] es r any = absurd (let none = any.2 in omega (arith, none))
    any_there (d ∷ ds) [] r any = absurd r
    any_there (d ∷ ds) (e ∷ es) r (zero, x, lt, at, new) =
        let here : IsNew before key (ended d) = subst (λ (y : Ended). IsNew before key y) (sym at) new in
        (zero, ended e, omega arith, refl, new_as d e r.0.goal (λ steps may. (r.0.derived steps).1 may.has ∙ sym may.has) here)
    any_there (d ∷ ds) (e ∷ es) r (suc k, x, lt, at, new) =
        let rest = any_there ds es r.1 (k, x, omega (arith, lt), at, new) in
        (suc rest.0, rest.1, (let more = rest.2 in omega (arith, more)), rest.3, rest.4)

    any_back : (ds es : List (Decided Line)) → AllZip (IsReplaced budget) ds es → Any (IsNew before key) (map ended es) → Any (IsNew before key) (map ended ds)
    any_back ds [] r any = absurd (let none = any.2 in omega (arith, none))
    any_back [] (e ∷ es) r any = absurd r
    any_back (d ∷ ds) (e ∷ es) r (zero, x, lt, at, new) =
        let here : IsNew before key (ended e) = subst (λ (y : Ended). IsNew before key y) (sym at) new in
        (zero, ended d, omega arith, refl, new_as e d (sym r.0.goal) (λ steps may. (r.0.derived steps).0 may.has ∙ sym may.has) here)
    any_back (d ∷ ds) (e ∷ es) r (suc k, x, lt, at, new) =
        let rest = any_back ds es r.1 (k, x, omega (arith, lt), at, new) in
        (suc rest.0, rest.1, (let more = rest.2 in omega (arith, more)), rest.3, rest.4)

  -- the same derivations are put
  stores_replaced : (ds es : List (Decided Line)) → AllZip (IsReplaced budget) ds es → (before after : Tables) → StoresNew (map ended ds) before after → StoresNew (map ended es) before after
  stores_replaced ds es r before after s =
      let same = same_obs ds es r in record {
        adds = subst (λ (obs : List Parts). AddsProofs obs before after) same s.adds;
        new = λ key any. subst (λ (obs : List Parts). IsProved obs after key) same (s.new key (any_back before key ds es r any));
        others = λ key none. s.others key (λ any. none (any_there before key ds es r any));
      }

  pub told_replaced : (ds es : List (Decided Line)) → AllZip (IsReplaced budget) ds es → (before after : Option Tables) → Told (StoresNew (map ended ds)) before after → Told (StoresNew (map ended es)) before after
  told_replaced ds es r (Some t) (Some u) told = stores_replaced ds es r t u told
  told_replaced ds es r (Some t) None told = told
  told_replaced ds es r None (Some u) told = told
  told_replaced ds es r None None told = tt

  -- ---- the least counterexample in the book

  none_of : (set : Set) (name : List ℕ) → IsOnlyLine set name [] → ⊥
  none_of set name only = let none : [] ≡ only.0 ∷ [] = only.2 in absurd cc

  -- the only goal is told by the only line
  only_told : (b : Pair) (name : List ℕ) (goals : List (Goal Line)) (ds es : List (Decided Line)) (ts : List Entered) (least : Option LeastEnd) → IsOnlyLine b.set name (map line_of goals)
      → AllZip (IsDecided budget) goals ds → AllZip (IsReplaced budget) ds es → AllZip (Tells b) es ts → ((d : Decided Line) → es ≡ d ∷ [] → IsLeastOf budget d.goal.ob d.evidence least)
      → (told : Entered) × (ts ≡ told ∷ []) × IsLeastOf budget told.ob told.evidence least
  only_told b name [] ds es ts least only z r tells has = absurd (none_of b.set name only)
  only_told b name (g ∷ h ∷ gs) ds es ts least only z r tells has = let two : g.line ∷ h.line ∷ map line_of gs ≡ only.0 ∷ [] = only.2 in absurd cc
  only_told b name (g ∷ []) [] es ts least only z r tells has = absurd z
  only_told b name (g ∷ []) (d ∷ d' ∷ ds) es ts least only z r tells has = absurd z.1
  only_told b name (g ∷ []) (d ∷ []) [] ts least only z r tells has = absurd r
  only_told b name (g ∷ []) (d ∷ []) (e ∷ e' ∷ es) ts least only z r tells has = absurd r.1
  only_told b name (g ∷ []) (d ∷ []) (e ∷ []) [] least only z r tells has = absurd tells
  only_told b name (g ∷ []) (d ∷ []) (e ∷ []) (t ∷ t' ∷ ts) least only z r tells has = absurd tells.1
  only_told b name (g ∷ []) (d ∷ []) (e ∷ []) (t ∷ []) least only z r tells has =
      (t, refl, subst (λ (x : Parts × Evidence). IsLeastOf budget x.0 x.1 least) (ap₂ (λ (o : Parts) (v : Evidence). (o, v)) (sym tells.0.ob) (sym tells.0.evidence)) (has e refl))

  pub has_least : (b : Pair) (which : Which) (goals : List (Goal Line)) (ds es : List (Decided Line)) (book : Book) → AreAsked which b.set (map line_of goals)
      → AllZip (IsDecided budget) goals ds → AllZip (IsReplaced budget) ds es → AllZip (Tells b) es book.lines.items → Lessens which budget es book.least → HasLeast which budget book
  has_least b w.Ops goals ds es book asked z r tells has = has
  has_least b w.All goals ds es book asked z r tells has = has
  has_least b (w.One name) goals ds es book asked z r tells has = has
  has_least b (w.Least name) goals ds es book asked z r tells has = only_told b name goals ds es book.lines.items book.least asked z r tells has
