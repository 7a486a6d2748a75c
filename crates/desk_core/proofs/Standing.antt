-- Each command keeps what a desk keeps true.
use Rattle.std.proofs.Common.{◌≡◌, ℕ, zero, suc, ◌+◌, ◌-◌, List, [], ◌∷◌, ◌++◌, length, drop, codes, Bool, true, false, cond, ◌&&◌, inl, inr, ⊎_elim, Option, Some, None, refl, sym, ap, ap₂, subst, ◌∙◌, option_map, if◌then◌else◌, arith, length-append, nat_eq, flat_map}
use Rattle.std.specs.Prelude.{◌⊎◌, All, find}
use Rattle.std.specs.Ordering.{eq_by_cmp, nat_cmp}
use Rattle.std.specs.Cmp.Lexicographic.{slice_cmp, pointwise}
use Rattle.std.specs.FinMap.{get, get-insert, insert}
use Rattle.std.specs.Str.{bytes_eq}
use Rattle.std.proofs.lemmas.Cmp.{nat_list_cmp_total}
use Rattle.std.proofs.lemmas.List.Elements.{All-push}
use Rattle.std.proofs.lemmas.Slice.Eq.{bytes_eq-Decides}
use Rattle.outside.specs.declared.rows.Block.{Block}
use Rattle.outside.specs.declared.rows.Sign.{Sign}
use Rattle.outside.specs.Tables.{ByBytes, Tables, sign_number, with_block, with_sign}
use Rattle.word_dag.specs.Nodes.{Parts}
use Rattle.proof_store.specs.Stored.{AddsProofs}
use Rattle.desk_core_reports.specs.declared.book.Line.{Line}
use Rattle.desk_core_reports.specs.declared.report.Report.{Report}
use Rattle.desk_core_commands.specs.declared.which.Which.TheVariants as w
use Rattle.desk_core_reports.specs.Lines.{all_proved}
use Rattle.desk_core_reports.specs.Reports.{last_line, line_text, report_text}
use Rattle.desk_core_commands.specs.declared.command.Answer.{Answer}
use Rattle.desk_core_commands.specs.declared.command.Answer.TheVariants as a
use Rattle.desk_core_commands.specs.declared.command.Command.{Command}
use Rattle.desk_core_commands.specs.declared.command.Command.TheVariants as c
use Rattle.desk_core.specs.Blocks.{block_at, is_signed_off, is_text, reported, unreported, with_module, with_set}
use Rattle.desk_core.specs.Checks.{IsReport}
use Rattle.desk_core.specs.States.{AreOnce, IsDesk, IsSoundBlock, IsSoundSign}
use Rattle.desk_core.specs.Steps.{CanSign, ChecksBlock, Desk, HasTexts, Leaves, PutsModule, PutsSet, ReportsCheck, SignsBlock, Stays, Steps}

-- ---- the row of a name that is put

-- the row under this name, and under another
got : (m : ByBytes Block) (k : List ℕ) (v : Block) (q : List ℕ) → (get (insert m k v) q ≡ Some v) ⊎ (get (insert m k v) q ≡ get m q)
got m k v q = by (eq_by_cmp (slice_cmp nat_cmp) q k) (get-insert nat_list_cmp_total m k v q)
  where
    by : (b : Bool) → get (insert m k v) q ≡ cond b (Some v) (get m q) → (get (insert m k v) q ≡ Some v) ⊎ (get (insert m k v) q ≡ get m q)
    by true e = inl e
    by false e = inr e

same_block : (x y : Block) → ◌≡◌ {A = Option Block} (Some x) (Some y) → x ≡ y
same_block x y e = cc

same_text : (x y : List ℕ) → ◌≡◌ {A = Option (List ℕ)} (Some x) (Some y) → x ≡ y
same_text x y e = cc

-- a sound block that is put
pub put_sound : (t : Tables) (name : List ℕ) (b : Block) → IsSoundBlock b → IsDesk t → IsDesk (with_block name b t)
put_sound t name b sound d = record {
  blocks = λ other x at. ⊎_elim (λ here. subst IsSoundBlock (same_block b x (sym here ∙ at)) sound) (λ there. d.blocks other x (sym there ∙ at)) (got t.blocks name b other);
  signs = d.signs;
  once = d.once;
}

unreported_sound : (m s : Option (List ℕ)) → IsSoundBlock (unreported m s)
unreported_sound m s text is = let clash : ◌≡◌ {A = Option (List ℕ)} None (Some text) = is in absurd (cc)

either : (b : Bool) (t u : Tables) → IsDesk t → IsDesk u → IsDesk (if b then t else u)
either true t u d e = d
either false t u d e = e

pub module_desk : (name text : List ℕ) (t : Tables) → IsDesk t → IsDesk (with_module name text t)
module_desk name text t d =
    either (is_text text (block_at name t).module) t (with_block name (unreported (Some text) (block_at name t).set) t) d
    (put_sound t name (unreported (Some text) (block_at name t).set) (unreported_sound (Some text) (block_at name t).set) d)

pub set_desk : (name text : List ℕ) (t : Tables) → IsDesk t → IsDesk (with_set name text t)
set_desk name text t d =
    either (is_text text (block_at name t).set) t (with_block name (unreported (block_at name t).module (Some text)) t) d
    (put_sound t name (unreported (block_at name t).module (Some text)) (unreported_sound (block_at name t).module (Some text)) d)

-- ---- checks

-- proofs that are added
pub added_desk : (obs : List Parts) (t u : Tables) → AddsProofs obs t u → IsDesk t → IsDesk u
added_desk obs t u adds d = record {
  blocks = λ name b at. d.blocks name b (ap (λ (m : ByBytes Block). get m name) (sym adds.blocks) ∙ at);
  signs = subst (λ (ss : List Sign). All IsSoundSign ss) (sym adds.signs) d.signs;
  once = subst AreOnce (sym adds.signs) d.once;
}

-- a block with the report of its texts
pub report_sound : (budget : ℕ) (b : Block) (m s text : List ℕ) (lines : List Line) (report : Report) → HasTexts b m s → IsReport m s w.All budget lines report → text ≡ report.text → IsSoundBlock (reported b text lines)
report_sound budget b m s text lines report texts is text_is other at = record {
  m = m;
  s = s;
  texts = record { module_is = texts.module_is; set_is = texts.set_is };
  report = record {
    budget = budget;
    lines = lines;
    report = report;
    is_report = is;
    text_is = sym (same_text text other at) ∙ text_is;
  };
  traces = refl;
}

-- ---- the last line of a report

past_front : (xs ys : List ℕ) (k n : ℕ) → n ≡ length xs + k → drop n (xs ++ ys) ≡ drop k ys
past_front [] ys k n e = let h : n ≡ k = omega arith in ap (λ (i : ℕ). drop i ys) h
past_front (x ∷ xs) ys k zero e = absurd (omega arith)
past_front (x ∷ xs) ys k (suc n) e = past_front xs ys k n (omega arith)

abbrev off_line : List ℕ
off_line = codes "\nsigned off\n"

abbrev open_line : List ℕ
open_line = codes "not signed off\n"

not_off : (xs : List ℕ) → is_signed_off (xs ++ open_line) ≡ false
not_off xs =
    let long : length open_line ≡ 15 = refl in
    let needle : length off_line ≡ 12 = refl in
    let place : length (xs ++ open_line) - length off_line ≡ length xs + 3 = omega (arith, length-append xs open_line) in
    ap (λ (ys : List ℕ). pointwise nat_eq off_line ys) (past_front xs open_line 3 (length (xs ++ open_line) - length off_line) place)

-- the report of all lines that ends so has proved lines alone
pub off_proved : (lines : List Line) → is_signed_off (report_text w.All lines) ≡ true → all_proved lines ≡ true
off_proved lines off = by (flat_map line_text lines) (all_proved lines) off
  where
    by : (xs : List ℕ) (b : Bool) → is_signed_off (xs ++ last_line w.All b) ≡ true → b ≡ true
    by xs true h = refl
    by xs false h = let clash : false ≡ true = sym (not_off xs) ∙ h in absurd (cc)

-- ---- sign-offs

pub signed_sound : (number : ℕ) (name m s report : List ℕ) (b : Block) → HasTexts b m s → b.report ≡ Some report → is_signed_off report ≡ true → IsSoundBlock b
    → IsSoundSign (record { number = number; block = name; «module» = m; set = s; report = report })
signed_sound number name m s report b texts report_is off sound =
    let r = sound report report_is in
    let same_m : r.m ≡ m = same_text r.m m (sym r.texts.module_is ∙ texts.module_is) in
    let same_s : r.s ≡ s = same_text r.s s (sym r.texts.set_is ∙ texts.set_is) in
    let proved : all_proved r.report.lines ≡ true = off_proved r.report.lines (sym (ap is_signed_off (r.report.text_is ∙ r.report.is_report.text)) ∙ off) in
    let is : (m s : List ℕ) → r.m ≡ m → r.s ≡ s → IsSoundSign (record { number = number; block = name; «module» = m; set = s; report = report }) = λ m s em es.
    subst (λ (x : List ℕ). IsSoundSign (record { number = number; block = name; «module» = x; set = s; report = report })) em
    (subst (λ (x : List ℕ). IsSoundSign (record { number = number; block = name; «module» = r.m; set = x; report = report })) es
    (record { report = r.report; complete = r.report.is_report.complete ∙ proved })) in
    is m s same_m same_s

same_bool : (a b : Bool) → (a ≡ true → b ≡ true) → (b ≡ true → a ≡ true) → a ≡ b
same_bool true b h k = sym (h refl)
same_bool false true h k = k refl
same_bool false false h k = refl

bytes_swapped : (x y : List ℕ) → bytes_eq x y ≡ bytes_eq y x
bytes_swapped x y = same_bool (bytes_eq x y) (bytes_eq y x) (λ e. (bytes_eq-Decides y x).1 (sym ((bytes_eq-Decides x y).0 e))) (λ e. (bytes_eq-Decides x y).1 (sym ((bytes_eq-Decides y x).0 e)))

-- whether a sign-off is of these three texts
abbrev pub is_of : List ℕ → List ℕ → List ℕ → Sign → Bool
is_of block m s sign = bytes_eq sign.block block && (bytes_eq sign.module m && bytes_eq sign.set s)

is_of_swapped : (x y : Sign) → is_of x.block x.module x.set y ≡ is_of y.block y.module y.set x
is_of_swapped x y =
    ap₂ (λ (b c : Bool). b && c) (bytes_swapped y.block x.block)
    (ap₂ (λ (b c : Bool). b && c) (bytes_swapped y.module x.module) (bytes_swapped y.set x.set))

abbrev pub number_of : Option Sign → Option ℕ
number_of found = option_map (λ s. s.number) found

pub record IsPassed (b : Bool) (rest : Option Sign) : Type 0 where
  pub not_it : b ≡ false
  pub after : number_of rest ≡ None

pub passed : (b : Bool) (s : Sign) (rest : Option Sign) → number_of (cond b (Some s) rest) ≡ None → IsPassed b rest
passed true s rest none = let clash : ◌≡◌ {A = Option ℕ} (Some s.number) None = none in absurd (cc)
passed false s rest none = record { not_it = refl; after = none }

-- none is found behind, either
none_more : (p : Sign → Bool) (ss : List Sign) (x : Sign) → number_of (find p ss) ≡ None → p x ≡ false → number_of (find p (ss ++ x ∷ [])) ≡ None
none_more p [] x none other = ap (λ (b : Bool). number_of (cond b (Some x) None)) other
none_more p (s ∷ ss) x none other =
    let first = passed (p s) s (find p ss) none in
    ap (λ (b : Bool). number_of (cond b (Some s) (find p (ss ++ x ∷ [])))) first.not_it ∙ none_more p ss x first.after other

-- a sign-off of none of the texts so far
pub once_more : (ss : List Sign) (x : Sign) → AreOnce ss → sign_number x.block x.module x.set ss ≡ None → AreOnce (ss ++ x ∷ [])
once_more [] x once none = (refl, tt)
once_more (s ∷ ss) x once none =
    let first = passed (is_of x.block x.module x.set s) s (find (is_of x.block x.module x.set) ss) none in
    (none_more (is_of s.block s.module s.set) ss x once.0 (is_of_swapped s x ∙ first.not_it), once_more ss x once.1 first.after)

pub sign_desk : (number : ℕ) (name m s report : List ℕ) (b : Block) (t : Tables) → get t.blocks name ≡ Some b → HasTexts b m s → b.report ≡ Some report → is_signed_off report ≡ true
    → sign_number name m s t.signs ≡ None → IsDesk t → IsDesk (with_sign number name m s report t)
sign_desk number name m s report b t held texts report_is off none d = record {
  blocks = d.blocks;
  signs = All-push IsSoundSign t.signs (record { number = number; block = name; «module» = m; set = s; report = report }) d.signs
      (signed_sound number name m s report b texts report_is off (d.blocks name b held));
  once = once_more t.signs (record { number = number; block = name; «module» = m; set = s; report = report }) d.once none;
}

-- ---- all commands

stays : (old new : Desk) → Stays old new → IsDesk old.tables → IsDesk new.tables
stays old new same d = subst IsDesk (sym same.tables) d

module_step : (name text : List ℕ) (answer : Answer) (old new : Desk) → PutsModule name text answer old new → IsDesk old.tables → IsDesk new.tables
module_step name text a.Stored old new step d = subst IsDesk (sym step.1) (module_desk name text old.tables d)
module_step name text (a.Refused line) old new step d = stays old new step.1 d
module_step name text answer old new step d = absurd step

set_step : (name text : List ℕ) (answer : Answer) (old new : Desk) → PutsSet name text answer old new → IsDesk old.tables → IsDesk new.tables
set_step name text a.Stored old new step d = subst IsDesk (sym step.1) (set_desk name text old.tables d)
set_step name text (a.Refused line) old new step d = stays old new step.1 d
set_step name text answer old new step d = absurd step

report_step : (budget workers : ℕ) (name text : List ℕ) (old new : Desk) → ReportsCheck budget workers name text old new → IsDesk old.tables → IsDesk new.tables
report_step budget workers name text old new step d =
    subst IsDesk (sym step.put)
    (put_sound step.between name (reported step.block text new.book.lines.items)
    (report_sound budget step.block step.m step.s text new.book.lines.items step.report step.texts step.is_report step.text_is)
    (added_desk _ old.tables step.between step.settled.stored.adds d))

check_step : (budget workers : ℕ) (name : List ℕ) (answer : Answer) (old new : Desk) → ChecksBlock budget workers name answer old new → IsDesk old.tables → IsDesk new.tables
check_step budget workers name a.NoBlock old new step d = stays old new step.1 d
check_step budget workers name a.NoText old new step d = stays old new step.1 d
check_step budget workers name (a.Refused line) old new step d = added_desk step.obs old.tables new.tables step.proofs d
check_step budget workers name (a.Reported text) old new step d = report_step budget workers name text old new step d
check_step budget workers name answer old new step d = absurd step

sign_step : (name : List ℕ) (answer : Answer) (old new : Desk) → SignsBlock name answer old new → IsDesk old.tables → IsDesk new.tables
sign_step name a.NoBlock old new step d = stays old new step.1 d
sign_step name a.NotSigned old new step d = stays old new step.1 d
sign_step name (a.Signed number) old new step d =
    let can : CanSign step.0.0 = step.0.2 in
    ⊎_elim (λ found. subst IsDesk (sym found.1) d)
    (λ made. subst IsDesk (sym made.2) (sign_desk number name can.m can.s can.report step.0.0 old.tables step.0.1 can.texts can.report_is can.signed_off made.0 d))
    step.0.3
sign_step name answer old new step d = absurd step

pub steps_desk : (budget workers : ℕ) (command : Command) (answer : Answer) (old new : Desk) → Steps budget workers command answer old new → IsDesk old.tables → IsDesk new.tables
steps_desk budget workers (c.PutModule name text) answer old new step d = module_step name text answer old new step d
steps_desk budget workers (c.PutSet name text) answer old new step d = set_step name text answer old new step d
steps_desk budget workers (c.Check name) answer old new step d = check_step budget workers name answer old new step d
steps_desk budget workers (c.GetReport name) answer old new step d = stays old new step.1 d
steps_desk budget workers (c.GetTrace name line) answer old new step d = stays old new step.1 d
steps_desk budget workers (c.SignOff name) answer old new step d = sign_step name answer old new step d
steps_desk budget workers c.Blocks answer old new step d = stays old new step.1 d
steps_desk budget workers c.Signoffs answer old new step d = stays old new step.1 d

pub leaves_desk : (command : Command) (t u : Tables) → Leaves command t u → IsDesk t → IsDesk u
leaves_desk (c.PutModule name text) t u left d = subst IsDesk (sym left) d
leaves_desk (c.PutSet name text) t u left d = subst IsDesk (sym left) d
leaves_desk (c.Check name) t u left d = added_desk left.0 t u left.2 d
leaves_desk (c.GetReport name) t u left d = subst IsDesk (sym left) d
leaves_desk (c.GetTrace name line) t u left d = subst IsDesk (sym left) d
leaves_desk (c.SignOff name) t u left d = subst IsDesk (sym left) d
leaves_desk c.Blocks t u left d = subst IsDesk (sym left) d
leaves_desk c.Signoffs t u left d = subst IsDesk (sym left) d
