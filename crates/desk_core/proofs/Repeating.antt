-- A desk without tables, a text that is put again, and a block that is signed again.
use Rattle.std.proofs.Common.{◌≡◌, ℕ, ◌+◌, List, [], ◌∷◌, ◌++◌, length, Bool, true, false, cond, ⊎_elim, Option, Some, None, refl, sym, ap, subst, ◌∙◌, if◌then◌else◌}
use Rattle.std.specs.Prelude.{find, unwrap_or}
use Rattle.std.specs.Ordering.{nat_cmp}
use Rattle.std.specs.Cmp.Lexicographic.{slice_cmp}
use Rattle.std.specs.FinMap.{get, get-empty, get-insert, insert}
use Rattle.std.specs.Str.{bytes_eq}
use Rattle.std.proofs.lemmas.Cmp.{eq_by_cmp_equiv, nat_list_cmp_total}
use Rattle.std.proofs.lemmas.List.Elements.{All-nil}
use Rattle.std.proofs.lemmas.Slice.Eq.{bytes_eq-Decides}
use Rattle.outside.specs.declared.rows.Block.{Block}
use Rattle.outside.specs.declared.rows.Sign.{Sign}
use Rattle.outside.specs.Tables.{ByBytes, Tables, sign_number, with_block, with_sign}
use Rattle.desk_core_commands.specs.declared.command.Answer.TheVariants as a
use Rattle.desk_core.specs.Again.{EmptyIsDesk, ModuleIsStoredAgain, SetIsStoredAgain, SignedAgain}
use Rattle.desk_core.specs.Blocks.{block_at, is_text, unreported, with_module, with_set}
use Rattle.desk_core.specs.States.{IsSoundSign}
use Rattle.desk_core.specs.Steps.{CanSign, IsSigned}
use Rattle.desk_core.proofs.Excluding.{modules_not_refused, set_not_refused}
use Rattle.desk_core.proofs.Standing.{is_of, number_of, passed}

pub empty_is_desk : EmptyIsDesk
empty_is_desk = record {
  blocks = λ name b at. let clash : ◌≡◌ {A = Option Block} None (Some b) = sym (get-empty (slice_cmp nat_cmp) name) ∙ at in absurd (cc);
  signs = All-nil IsSoundSign;
  once = tt;
}

itself : (x : List ℕ) → bytes_eq x x ≡ true
itself x = (bytes_eq-Decides x x).1 refl

-- ---- texts

put_there : (m : ByBytes Block) (name : List ℕ) (b : Block) → get (insert m name b) name ≡ Some b
put_there m name b = get-insert nat_list_cmp_total m name b name ∙ ap (λ (t : Bool). cond t (Some b) (get m name)) ((eq_by_cmp_equiv nat_list_cmp_total).refl name)

at_put : (name : List ℕ) (b : Block) (t : Tables) → block_at name (with_block name b t) ≡ b
at_put name b t = ap (λ (o : Option Block). unwrap_or o (unreported None None)) (put_there t.blocks name b)

module_there : (name text : List ℕ) (t : Tables) (same : Bool) → is_text text (block_at name t).module ≡ same
    → is_text text (block_at name (if same then t else with_block name (unreported (Some text) (block_at name t).set) t)).module ≡ true
module_there name text t true is = is
module_there name text t false is = ap (λ (b : Block). is_text text b.module) (at_put name (unreported (Some text) (block_at name t).set) t) ∙ itself text

set_there : (name text : List ℕ) (t : Tables) (same : Bool) → is_text text (block_at name t).set ≡ same
    → is_text text (block_at name (if same then t else with_block name (unreported (block_at name t).module (Some text)) t)).set ≡ true
set_there name text t true is = is
set_there name text t false is = ap (λ (b : Block). is_text text b.set) (at_put name (unreported (block_at name t).module (Some text)) t) ∙ itself text

-- a block's own text changes nothing
module_kept : (name text : List ℕ) (t : Tables) → is_text text (block_at name t).module ≡ true → with_module name text t ≡ t
module_kept name text t is = ap (λ (b : Bool). if b then t else with_block name (unreported (Some text) (block_at name t).set) t) is

set_kept : (name text : List ℕ) (t : Tables) → is_text text (block_at name t).set ≡ true → with_set name text t ≡ t
set_kept name text t is = ap (λ (b : Bool). if b then t else with_block name (unreported (block_at name t).module (Some text)) t) is

pub module_again : ModuleIsStoredAgain
module_again name text old next new a.Stored first again =
    let there = subst (λ (t : Tables). is_text text (block_at name t).module ≡ true) (sym first.1) (module_there name text old.tables (is_text text (block_at name old.tables).module) refl) in
    (refl, again.1 ∙ module_kept name text next.tables there)
module_again name text old next new (a.Refused line) first again = absurd (modules_not_refused text first.0 line again.0)
module_again name text old next new answer first again = absurd again

pub set_again : SetIsStoredAgain
set_again name text old next new a.Stored first again =
    let there = subst (λ (t : Tables). is_text text (block_at name t).set ≡ true) (sym first.1) (set_there name text old.tables (is_text text (block_at name old.tables).set) refl) in
    (refl, again.1 ∙ set_kept name text next.tables there)
set_again name text old next new (a.Refused line) first again = absurd (set_not_refused text first.0 line again.0)
set_again name text old next new answer first again = absurd again

-- ---- sign-offs

-- a sign-off at the end is found where none stands before it
found_last : (p : Sign → Bool) (ss : List Sign) (x : Sign) → number_of (find p ss) ≡ None → p x ≡ true → number_of (find p (ss ++ x ∷ [])) ≡ Some x.number
found_last p [] x none is = ap (λ (b : Bool). number_of (cond b (Some x) None)) is
found_last p (s ∷ ss) x none is =
    let first = passed (p s) s (find p ss) none in
    ap (λ (b : Bool). number_of (cond b (Some s) (find p (ss ++ x ∷ [])))) first.not_it ∙ found_last p ss x first.after is

its_own : (number : ℕ) (name m s report : List ℕ) → is_of name m s (record { number = number; block = name; «module» = m; set = s; report = report }) ≡ true
its_own number name m s report = rw (itself name, itself m, itself s)

-- what is signed has its number afterwards, in the blocks of before
record IsNumbered (name : List ℕ) (b : Block) (sign : CanSign b) (number : ℕ) (old new : Tables) : Type 0 where
  there : sign_number name sign.m sign.s new.signs ≡ Some number
  blocks : new.blocks ≡ old.blocks

numbered : (name : List ℕ) (b : Block) (sign : CanSign b) (number : ℕ) (old new : Tables) → IsSigned name b sign number old new → IsNumbered name b sign number old new
numbered name b sign number old new h = ⊎_elim
    (λ (found : (sign_number name sign.m sign.s old.signs ≡ Some number) × (new ≡ old)).
    record { there = subst (λ (t : Tables). sign_number name sign.m sign.s t.signs ≡ Some number) (sym found.1) found.0; blocks = ap (λ (t : Tables). t.blocks) found.1 })
    (λ (made : (sign_number name sign.m sign.s old.signs ≡ None) × (number ≡ length old.signs + 1) × (new ≡ with_sign number name sign.m sign.s sign.report old)).
    record {
      there = subst (λ (t : Tables). sign_number name sign.m sign.s t.signs ≡ Some number) (sym made.2)
          (found_last (is_of name sign.m sign.s) old.signs (record { number = number; block = name; «module» = sign.m; set = sign.s; report = sign.report }) made.0
          (its_own number name sign.m sign.s sign.report));
      blocks = ap (λ (t : Tables). t.blocks) made.2;
    }) h

same_text : (o : Option (List ℕ)) (x y : List ℕ) → o ≡ Some x → o ≡ Some y → x ≡ y
same_text o x y p q = cc

signed_same : (name : List ℕ) (b : Block) (sign other : CanSign b) (number again : ℕ) (next new : Tables) → sign_number name sign.m sign.s next.signs ≡ Some number → IsSigned name b other again next new
    → (again ≡ number) × (new ≡ next)
signed_same name b sign other number again next new there h =
    let m : sign.m ≡ other.m = same_text b.module sign.m other.m sign.texts.module_is other.texts.module_is in
    let s : sign.s ≡ other.s = same_text b.set sign.s other.s sign.texts.set_is other.texts.set_is in
    let here : sign_number name other.m other.s next.signs ≡ Some number =
    subst (λ (x : List ℕ). sign_number name x other.s next.signs ≡ Some number) m (subst (λ (x : List ℕ). sign_number name sign.m x next.signs ≡ Some number) s there) in
    ⊎_elim
    (λ (found : (sign_number name other.m other.s next.signs ≡ Some again) × (new ≡ next)). let same : ◌≡◌ {A = Option ℕ} (Some number) (Some again) = sym here ∙ found.0 in (cc, found.1))
    (λ (made : (sign_number name other.m other.s next.signs ≡ None) × (again ≡ length next.signs + 1) × (new ≡ with_sign again name other.m other.s other.report next)).
    let clash : ◌≡◌ {A = Option ℕ} (Some number) None = sym here ∙ made.0 in absurd (cc)) h

one_block : (x y : Block) → ◌≡◌ {A = Option Block} (Some x) (Some y) → x ≡ y
one_block x y e = cc

-- the block that is there afterwards is the one of before
block_after : (name : List ℕ) (b c : Block) (old next : Tables) → get old.blocks name ≡ Some b → next.blocks ≡ old.blocks → get next.blocks name ≡ Some c → c ≡ b
block_after name b c old next before same after = one_block c b (sym after ∙ (ap (λ (m : ByBytes Block). get m name) same ∙ before))

pub signed_again : SignedAgain
signed_again name number old next new a.NoBlock first again =
    let b = first.0.0 in
    let after = numbered name b first.0.2 number old.tables next.tables first.0.3 in
    let clash : ◌≡◌ {A = Option Block} (Some b) None = sym first.0.1 ∙ (sym (ap (λ (m : ByBytes Block). get m name) after.blocks) ∙ again.0) in
    absurd (cc)
signed_again name number old next new a.NotSigned first again =
    let b = first.0.0 in
    let after = numbered name b first.0.2 number old.tables next.tables first.0.3 in
    let same = block_after name b again.0.0 old.tables next.tables first.0.1 after.blocks again.0.1 in
    absurd (again.0.2 (subst CanSign (sym same) first.0.2))
signed_again name number old next new (a.Signed other) first again =
    let b = first.0.0 in
    let after = numbered name b first.0.2 number old.tables next.tables first.0.3 in
    let same = block_after name b again.0.0 old.tables next.tables first.0.1 after.blocks again.0.1 in
    let its : (sign : CanSign b) × IsSigned name b sign other next.tables new.tables =
    subst (λ (c : Block). (sign : CanSign c) × IsSigned name c sign other next.tables new.tables) same (again.0.2, again.0.3) in
    let both = signed_same name b first.0.2 its.0 number other next.tables new.tables after.there its.1 in
    (ap a.Signed both.0, both.1)
signed_again name number old next new answer first again = absurd again
