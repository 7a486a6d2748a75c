-- Obligations about which helpers are asked.
use Rattle.std.proofs.Common.{◌≡◌, ℕ, ◌+◌, ◌<◌, List, [], ◌∷◌, ◌++◌, Bool, cond, Option, Some, None, length, take, get_or, refl, sym, ap, ap₂, ◌∙◌, subst, arith, append_assoc}
use Rattle.std.specs.Prelude.{All, count_by, sum_by}
use Rattle.std.specs.List.{AllZip}
use Rattle.std.proofs.lemmas.List.{take_more}
use Rattle.std.proofs.lemmas.List.Elements.{All-cons, All-head, All-nil, All-tail}
use Rattle.std.proofs.lemmas.List.Sums.{sum_by-append, sum_by-cons, sum_by_push}
use Rattle.std.proofs.lemmas.Slice.Zip.{all_zipped_more}
use Rattle.word_dag.specs.Nodes.{Parts}
use Rattle.helper_box.specs.Asked.{AsksSome, Passes}
use Rattle.helper_box.specs.declared.claim.Claim.{Claim}
use Rattle.job_pool.specs.declared.evidence.Evidence.{Evidence}
use Rattle.proof_store.specs.Counts.{FirstRose}
use Rattle.proof_store.specs.Helping.{Helps, IfReady, IsReady, Readies, ShowsEver, ShownOf, turns_of}
use Rattle.proof_store.specs.Lookups.{Checked, lacks_proof}
use Rattle.proof_store.specs.Places.{Tells}
use Rattle.proof_store.specs.declared.helping.Ready.{Ready}
use Rattle.proof_store.proofs.Asking.{rose_none, rose_on, rose_one}
use Rattle.proof_store.proofs.Pieces.{all_zipped_on, before_all}
use Rattle.proof_store.proofs.Proving.{claim_shown_ever}

-- ---- one obligation

pub none_rose : (given : Option Ready) (xs : List ℕ) → given ≡ None → FirstRose (turns_of given) xs xs
none_rose given xs is = subst (λ (r : Option Ready). FirstRose (turns_of r) xs xs) (sym is) (rose_none xs)

pub ready_rose : (given : Option Ready) (ready : Ready) (xs ys : List ℕ) → given ≡ Some ready → AsksSome xs ys → FirstRose (turns_of given) xs ys
ready_rose given ready xs ys is asks = subst (λ (r : Option Ready). FirstRose (turns_of r) xs ys) (sym is) (rose_one xs ys asks)

-- a claim that passes shows how an obligation that stands ready ended
pub ready_shown : (given : Option Ready) (ready : Ready) (claim : Claim) (found : Option Evidence) → given ≡ Some ready → IfReady given → Passes ready.ob.now ready.cnf claim → Tells claim found → ShownOf given found
ready_shown given ready claim found is stands passes tells =
    let here : IsReady ready = subst IfReady is stands in
    subst (λ (r : Option Ready). ShownOf r found) (sym is) (claim_shown_ever ready.ob.now ready.cnf here.bits claim found here.built passes tells)

-- ---- one obligation after another

-- about those before the helpers were asked, and these are left
pub record AskLoop (all left : List (Option Ready)) (helped : List (Option Evidence)) (xs ys : List ℕ) : Type 0 where
  pub before : List (Option Ready)
  pub split : all ≡ before ++ left
  pub shown : AllZip ShownOf before helped
  pub ready : All IfReady left
  pub rose : FirstRose (sum_by turns_of before) xs ys

pub ask_start : (all left : List (Option Ready)) (helped : List (Option Evidence)) (xs : List ℕ) → left ≡ all → helped ≡ [] → All IfReady all → AskLoop all left helped xs xs
ask_start all left helped xs same none ready = record {
  before = [];
  split = sym same;
  shown = subst (AllZip ShownOf []) (sym none) tt;
  ready = subst (All IfReady) (sym same) ready;
  rose = rose_none xs;
}

-- the next one is ready
pub next_ready : (all now left : List (Option Ready)) (ready : Option Ready) (helped : List (Option Evidence)) (xs ys : List ℕ) → AskLoop all now helped xs ys → now ≡ ready ∷ left → IfReady ready
next_ready all now left ready helped xs ys loop is = All-head IfReady ready left (subst (All IfReady) is loop.ready)

pub ask_more : (all now left : List (Option Ready)) (ready : Option Ready) (helped more : List (Option Evidence)) (evidence : Option Evidence) (xs ys zs : List ℕ) → AskLoop all now helped xs ys → now ≡ ready ∷ left → ShownOf ready evidence
    → FirstRose (turns_of ready) ys zs → more ≡ helped ++ evidence ∷ [] → AskLoop all left more xs zs
ask_more all now left ready helped more evidence xs ys zs loop is shown rose pushed = record {
  before = loop.before ++ ready ∷ [];
  split = loop.split ∙ (ap (λ (rs : List (Option Ready)). loop.before ++ rs) is ∙ sym (append_assoc loop.before (ready ∷ []) left));
  shown = subst (AllZip ShownOf (loop.before ++ ready ∷ [])) (sym pushed) (all_zipped_more ShownOf loop.before helped ready evidence loop.shown shown);
  ready = All-tail IfReady ready left (subst (All IfReady) is loop.ready);
  rose = subst (λ (k : ℕ). FirstRose k xs zs) (sym (sum_by_push turns_of loop.before ready)) (rose_on (sum_by turns_of loop.before) (turns_of ready) xs ys zs loop.rose rose);
}

pub all_shown : (all left : List (Option Ready)) (helped : List (Option Evidence)) (xs ys : List ℕ) → AskLoop all left helped xs ys → length left ≡ 0 → AllZip ShownOf all helped
all_shown all left helped xs ys loop none = subst (λ (rs : List (Option Ready)). AllZip ShownOf rs helped) (before_all all loop.before left loop.split none) loop.shown

pub all_rose : (all left : List (Option Ready)) (helped : List (Option Evidence)) (xs ys : List ℕ) → AskLoop all left helped xs ys → length left ≡ 0 → FirstRose (sum_by turns_of all) xs ys
all_rose all left helped xs ys loop none = subst (λ (rs : List (Option Ready)). FirstRose (sum_by turns_of rs) xs ys) (before_all all loop.before left loop.split none) loop.rose

-- ---- what is shown of obligations that were made ready
one_helped : (checked : Checked) (ready : Option Ready) (evidence : Option Evidence) → Readies checked ready → ShownOf ready evidence → Helps checked evidence
one_helped checked None evidence readies shown = subst (ShowsEver checked.ob.now) (sym shown) tt
one_helped checked (Some ready) evidence readies shown = subst (λ (ob : Parts). ShowsEver ob evidence) readies.1 shown

pub are_helped : (obs : List Checked) (all : List (Option Ready)) (helped : List (Option Evidence)) → AllZip Readies obs all → AllZip ShownOf all helped → AllZip Helps obs helped
are_helped [] [] [] readies shown = tt
are_helped [] [] (h ∷ hs) readies shown = absurd shown
are_helped [] (r ∷ rs) hs readies shown = absurd readies
are_helped (o ∷ os) [] hs readies shown = absurd readies
are_helped (o ∷ os) (r ∷ rs) [] readies shown = absurd shown
are_helped (o ∷ os) (r ∷ rs) (h ∷ hs) readies shown = (one_helped o r h readies.0 shown.0, are_helped os rs hs readies.1 shown.1)

one_ready : (checked : Checked) (ready : Option Ready) → Readies checked ready → IfReady ready
one_ready checked None readies = tt
one_ready checked (Some ready) readies = readies.2

pub all_ready : (obs : List Checked) (all : List (Option Ready)) → AllZip Readies obs all → All IfReady all
all_ready [] [] readies = All-nil IfReady
all_ready [] (r ∷ rs) readies = absurd readies
all_ready (o ∷ os) [] readies = absurd readies
all_ready (o ∷ os) (r ∷ rs) readies = All-cons IfReady r rs (one_ready o r readies.0) (all_ready os rs readies.1)

one_turn : (checked : Checked) (ready : Option Ready) → Readies checked ready → turns_of ready ≡ cond (lacks_proof checked) 1 0
one_turn checked None readies = sym (ap (λ (b : Bool). cond b 1 0) readies)
one_turn checked (Some ready) readies = sym (ap (λ (b : Bool). cond b 1 0) readies.0)

pub turns_are : (obs : List Checked) (all : List (Option Ready)) → AllZip Readies obs all → sum_by turns_of all ≡ count_by lacks_proof obs
turns_are [] [] readies = refl
turns_are [] (r ∷ rs) readies = absurd readies
turns_are (o ∷ os) [] readies = absurd readies
turns_are (o ∷ os) (r ∷ rs) readies =
    sum_by-cons turns_of r rs
    ∙ (ap₂ (λ (a : ℕ) (b : ℕ). a + b) (one_turn o r readies.0) (turns_are os rs readies.1) ∙ sym (sum_by-cons (λ (c : Checked). cond (lacks_proof c) 1 0) o os))

pub rose_as : (obs : List Checked) (all : List (Option Ready)) (xs ys : List ℕ) → AllZip Readies obs all → FirstRose (sum_by turns_of all) xs ys → FirstRose (count_by lacks_proof obs) xs ys
rose_as obs all xs ys readies rose = subst (λ (k : ℕ). FirstRose k xs ys) (turns_are obs all readies) rose

-- ---- obligations without helpers
one_more_none : (obs : List Checked) (i : ℕ) (helped more : List (Option Evidence)) (one : Checked) → i < length obs → AllZip Helps (take i obs) helped → more ≡ helped ++ None ∷ [] → AllZip Helps (take (i + 1) obs) more
one_more_none obs i helped more one there helps pushed =
    subst (λ (os : List Checked). AllZip Helps os more) (sym (take_more obs i one there))
    (subst (AllZip Helps (take i obs ++ get_or obs i one ∷ [])) (sym pushed) (all_zipped_more Helps (take i obs) helped (get_or obs i one) None helps tt))

pub none_more : (obs : List Checked) (i : ℕ) (helped more : List (Option Evidence)) → i < length obs → AllZip Helps (take i obs) helped → more ≡ helped ++ None ∷ [] → AllZip Helps (take (i + 1) obs) more
none_more [] i helped more there helps pushed = absurd (omega arith)
none_more (o ∷ os) i helped more there helps pushed = one_more_none (o ∷ os) i helped more o there helps pushed

-- ---- few obligations after few
-- about those before the helpers were asked, and these are left
pub record HelpLoop (obs left : List Checked) (helped : List (Option Evidence)) (xs ys : List ℕ) : Type 0 where
  pub before : List Checked
  pub split : obs ≡ before ++ left
  pub helps : AllZip Helps before helped
  pub rose : FirstRose (count_by lacks_proof before) xs ys

pub help_start : (obs left : List Checked) (helped : List (Option Evidence)) (xs : List ℕ) → left ≡ obs → helped ≡ [] → HelpLoop obs left helped xs xs
help_start obs left helped xs same none = record { before = []; split = sym same; helps = subst (AllZip Helps []) (sym none) tt; rose = rose_none xs }

pub help_more : (obs now few left : List Checked) (helped more all : List (Option Evidence)) (xs ys zs : List ℕ) → HelpLoop obs now helped xs ys → now ≡ few ++ left → AllZip Helps few more → FirstRose (count_by lacks_proof few) ys zs → all ≡ helped ++ more
    → HelpLoop obs left all xs zs
help_more obs now few left helped more all xs ys zs loop is helps rose joined = record {
  before = loop.before ++ few;
  split = loop.split ∙ (ap (λ (os : List Checked). loop.before ++ os) is ∙ sym (append_assoc loop.before few left));
  helps = subst (AllZip Helps (loop.before ++ few)) (sym joined) (all_zipped_on Helps loop.before few helped more loop.helps helps);
  rose = subst (λ (k : ℕ). FirstRose k xs zs) (sym (sum_by-append (λ (c : Checked). cond (lacks_proof c) 1 0) loop.before few))
      (rose_on (count_by lacks_proof loop.before) (count_by lacks_proof few) xs ys zs loop.rose rose);
}

pub all_helped : (obs left : List Checked) (helped : List (Option Evidence)) (xs ys : List ℕ) → HelpLoop obs left helped xs ys → length left ≡ 0 → AllZip Helps obs helped
all_helped obs left helped xs ys loop none = subst (λ (os : List Checked). AllZip Helps os helped) (before_all obs loop.before left loop.split none) loop.helps

pub helpers_rose : (obs left : List Checked) (helped : List (Option Evidence)) (xs ys : List ℕ) → HelpLoop obs left helped xs ys → length left ≡ 0 → FirstRose (count_by lacks_proof obs) xs ys
helpers_rose obs left helped xs ys loop none = subst (λ (os : List Checked). FirstRose (count_by lacks_proof os) xs ys) (before_all obs loop.before left loop.split none) loop.rose
