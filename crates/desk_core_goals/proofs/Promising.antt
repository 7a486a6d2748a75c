-- Decided lines speak of the modules whose runs the design has, and proved ones promise.
use Rattle.std.proofs.Common.{◌≡◌, ℕ, Bool, true, false, List, [], ◌∷◌, refl, subst, sym, ⊎_elim}
use Rattle.std.specs.Prelude.{◌&&◌}
use Rattle.std.specs.List.{All, AllZip}
use Rattle.std.proofs.lemmas.List.Elements.{All-cons, All-nil, All-weaker}
use Rattle.vlog_tree.specs.declared.module.Module.{Module}
use Rattle.vlog_tree_runs.specs.declared.flat.Flat.{Flat}
use Rattle.elab_flat_laws.specs.Flattened.{KeepsRuns}
use Rattle.set_tree.specs.declared.line.Line.{Line}
use Rattle.set_tree.specs.Formulas.{meaning_of}
use Rattle.set_tree.specs.Report.{design_lines}
use Rattle.set_tree.specs.Structure.{IsSound}
use Rattle.elab_step_design.specs.Designs.{HasRunsOf}
use Rattle.unroll_binding.specs.Binding.{Pair}
use Rattle.unroll_laws.specs.Promises.{HoldsInRuns, IsRefutable, SignsOff}
use Rattle.unroll_laws.proofs.Carried.{lines_are_the_modules}
use Rattle.unroll_laws.proofs.Promised.{design_lines_hold, reports_sign_off}
use Rattle.desk_core_reports.specs.declared.book.Line.{Line as Told}
use Rattle.desk_core_reports.specs.declared.book.Verdict.{Verdict}
use Rattle.desk_core_reports.specs.declared.book.Verdict.TheVariants as v
use Rattle.desk_core_commands.specs.declared.which.Which.{Which}
use Rattle.desk_core_commands.specs.declared.which.Which.TheVariants as w
use Rattle.desk_core_reports.specs.Lines.{all_proved, is_proved}
use Rattle.desk_core_reports.specs.Reports.{is_complete}
use Rattle.desk_core_goals.specs.Obligations.{IsBroken}
use Rattle.desk_core_goals.specs.Decided.{AreAsked, IsDecidedOn, IsLineOf, IsProvedAmong, ProvesDesignLines, Says}
use Rattle.desk_core_goals.specs.Laws.{ObligationsAgree, DecidedOfModules, ProvedLinesPromise}
use Rattle.desk_core_goals.proofs.Carrying.{shows_modules}

-- said of the design, it is said of the modules
says_of : (P Q : Type 0) → (P → Q) → (Q → P) → (verdict : Verdict) → Says P verdict → Says Q verdict
says_of P Q to from v.Proved h = λ q. h (from q)
says_of P Q to from v.Refuted h = to h
says_of P Q to from v.Spent h = tt

one : (budget : ℕ) (ms : List Module) (f : Flat) (b : Pair) → KeepsRuns ms b.set.block f → HasRunsOf f b.design → (line : Line) (d : Told) → IsDecidedOn budget b line d → IsLineOf budget ms b line d
one budget ms f b keeps runs line d h =
    let same = lines_are_the_modules ms b.set.block f b.design (meaning_of b.set) b.set keeps runs line in
    record {
      decided = record {
        name = h.name;
        named = h.named;
        of_line = h.of_line;
        ob = h.ob;
        shown = h.shown;
        ample = h.ample;
        verdict = h.verdict;
        traced = h.traced;
        says = says_of (IsBroken b line) (IsRefutable ms b.set.block b.set line) same.0 same.1 d.verdict h.says;
      };
      shows = shows_modules ms f b keeps runs line d.ob d.evidence d.trace h.traced;
    }

pub decided_of_modules : DecidedOfModules
decided_of_modules budget ms f b keeps runs [] [] h = tt
decided_of_modules budget ms f b keeps runs [] (d ∷ ds) h = h
decided_of_modules budget ms f b keeps runs (x ∷ xs) [] h = h
decided_of_modules budget ms f b keeps runs (x ∷ xs) (d ∷ ds) h = (one budget ms f b keeps runs x d h.0, decided_of_modules budget ms f b keeps runs xs ds h.1)

both : (p q : Bool) → (p && q) ≡ true → (p ≡ true) × (q ≡ true)
both true true is = (refl, refl)
both true false is = (refl, is)
both false q is = (is, cc)

proved_says : (P : Type 0) (verdict : Verdict) → is_proved verdict ≡ true → Says P verdict → P → ⊥
proved_says P v.Proved is h = h
proved_says P v.Refuted is h = absurd (let no : false ≡ true = is in cc)
proved_says P v.Spent is h = absurd (let no : false ≡ true = is in cc)

none_refutable : (budget : ℕ) (ms : List Module) (b : Pair) (lines : List Line) (ds : List Told) → AllZip (IsLineOf budget ms b) lines ds → all_proved ds ≡ true
    → All (λ line. ¬ IsRefutable ms b.set.block b.set line) lines
none_refutable budget ms b [] [] h all = All-nil (λ line. ¬ IsRefutable ms b.set.block b.set line)
none_refutable budget ms b [] (d ∷ ds) h all = absurd h
none_refutable budget ms b (x ∷ xs) [] h all = absurd h
none_refutable budget ms b (x ∷ xs) (d ∷ ds) h all =
    let p = both (is_proved d.verdict) (all_proved ds) all in
    All-cons (λ line. ¬ IsRefutable ms b.set.block b.set line) x xs (proved_says (IsRefutable ms b.set.block b.set x) d.verdict p.0 h.0.decided.says) (none_refutable budget ms b xs ds h.1 p.1)

-- a line that is among the lines and proved isn't violated
proved_among : (budget : ℕ) (ms : List Module) (b : Pair) (line : Line) (lines : List Line) (ds : List Told) → AllZip (IsLineOf budget ms b) lines ds → IsProvedAmong line lines ds
    → ¬ IsRefutable ms b.set.block b.set line
proved_among budget ms b line [] ds h p = absurd p
proved_among budget ms b line (x ∷ xs) [] h p = absurd p
proved_among budget ms b line (x ∷ xs) (d ∷ ds) h p =
    ⊎_elim (λ (here : (line ≡ x) × (d.verdict ≡ v.Proved)).
    subst (λ z. ¬ IsRefutable ms b.set.block b.set z) (sym here.0) (subst (λ z. Says (IsRefutable ms b.set.block b.set x) z) here.1 h.0.decided.says))
    (λ (later : IsProvedAmong line xs ds). proved_among budget ms b line xs ds h.1 later) p

-- so where each line on the design is, the runs satisfy the set
design_satisfied : (budget : ℕ) (ms : List Module) (b : Pair) → IsSound (meaning_of b.set) b.set → (lines : List Line) (ds : List Told) → AllZip (IsLineOf budget ms b) lines ds
    → ProvesDesignLines b.set lines ds → HoldsInRuns ms b.set.block b.set
design_satisfied budget ms b sound lines ds h all =
    design_lines_hold ms b.set.block b.set sound
    (All-weaker (λ line. IsProvedAmong line lines ds) (λ line. ¬ IsRefutable ms b.set.block b.set line) (λ line p. proved_among budget ms b line lines ds h p) (design_lines b.set) all)

not_all : (A : Type 0) → false ≡ true → A
not_all A is = absurd (let no : false ≡ true = is in cc)

signed_off : (budget : ℕ) (ms : List Module) (b : Pair) → IsSound (meaning_of b.set) b.set → (which : Which) (lines : List Line) (ds : List Told) → AreAsked which b.set lines
    → AllZip (IsLineOf budget ms b) lines ds → is_complete which ds ≡ true → SignsOff ms b.set.block b.set
signed_off budget ms b sound w.Ops lines ds asked h all = not_all (SignsOff ms b.set.block b.set) all
signed_off budget ms b sound w.All lines ds asked h all =
    reports_sign_off ms b.set.block b.set sound
    (subst (λ (ls : List Line). All (λ line. ¬ IsRefutable ms b.set.block b.set line) ls) asked (none_refutable budget ms b lines ds h all))
signed_off budget ms b sound (w.One name) lines ds asked h all = not_all (SignsOff ms b.set.block b.set) all
signed_off budget ms b sound (w.Least name) lines ds asked h all = not_all (SignsOff ms b.set.block b.set) all

pub proved_lines_promise : ProvedLinesPromise
proved_lines_promise budget ms b sound which lines ds asked h = record {
  satisfied = design_satisfied budget ms b sound lines ds h;
  signed_off = signed_off budget ms b sound which lines ds asked h;
}

pub obligations_agree : ObligationsAgree
obligations_agree b line x y of_x of_y = (λ can. of_y.found (of_x.shown can.0 can.1), λ can. of_x.found (of_y.shown can.0 can.1))
