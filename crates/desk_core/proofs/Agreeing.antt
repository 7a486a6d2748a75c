-- Reports of the same two texts agree.
use Rattle.std.proofs.Common.{◌≡◌, ℕ, Bool, false, List, [], ◌∷◌, ◌++◌, refl, sym, ap, ap₂, ◌∙◌, subst}
use Rattle.std.specs.Prelude.{◌≢◌, ◌&&◌, All}
use Rattle.std.specs.List.{AllZip, flat_map}
use Rattle.std.proofs.lemmas.List.Elements.{All-head, All-tail}
use Rattle.vlog_tree.specs.declared.module.Module.{Module}
use Rattle.vlog_tree.specs.declared.token.Token.{Token}
use Rattle.vlog_tree.specs.Modules.{SpellsFile}
use Rattle.vlog_read_lex.proofs.LawLemmas.{one_list}
use Rattle.vlog_read_spelling.proofs.Modules.{one_file}
use Rattle.vlog_read.specs.Texts.{SpellsModules}
use Rattle.set_tree.specs.declared.line.Line.{Line}
use Rattle.set_tree.specs.declared.set.Set.{Set}
use Rattle.set_read.specs.Read.{Spells}
use Rattle.set_read_laws.proofs.Texts.{means_one_set}
use Rattle.twin_tests_laws.specs.Names.{line_name}
use Rattle.set_read_laws.proofs.Known.{lines_have_names}
use Rattle.unroll_laws.specs.Promises.{IsRefutable}
use Rattle.unroll_binding.specs.Binding.{Pair}
use Rattle.desk_core_reports.specs.declared.book.Line.{Line as Told}
use Rattle.desk_core_reports.specs.declared.book.Verdict.{Verdict}
use Rattle.desk_core_reports.specs.declared.book.Verdict.TheVariants as v
use Rattle.desk_core_commands.specs.declared.which.Which.{Which}
use Rattle.desk_core_commands.specs.declared.which.Which.TheVariants as w
use Rattle.desk_core_reports.specs.Lines.{all_proved, is_proved}
use Rattle.desk_core_reports.specs.Reports.{last_line, line_text, report_text, verdict_word}
use Rattle.desk_core_goals.specs.Decided.{AreAsked, IsLineOf, IsOnlyLine, Says}
use Rattle.desk_core.specs.Agreed.{Agree, IsUnspent, ReportsAgree}

one_modules : (bytes : List ℕ) (ms ns : List Module) → SpellsModules bytes ms → SpellsModules bytes ns → ms ≡ ns
one_modules bytes ms ns (ts, lexed, p) (us, lexed', q) = one_file us ms ns (subst (λ (z : List Token). SpellsFile z ms) (one_list false bytes ts us lexed lexed') p) q

-- a line that was decided rightly of modules and a set
record IsRight (ms : List Module) (set : Set) (line : Line) (d : Told) : Type 0 where
  name : d.name ≡ line_name set line
  says : Says (IsRefutable ms set.block set line) d.verdict

right : (budget : ℕ) (ms : List Module) (b : Pair) (lines : List Line) (ds : List Told) → AllZip (IsLineOf budget ms b) lines ds → AllZip (IsRight ms b.set) lines ds
right budget ms b [] [] h = tt
right budget ms b [] (d ∷ ds) h = h
right budget ms b (x ∷ xs) [] h = h
right budget ms b (x ∷ xs) (d ∷ ds) h = (record { name = h.0.decided.name; says = h.0.decided.says }, right budget ms b xs ds h.1)

-- the line of a name of a set that a text spells is one
one_line : (text : List ℕ) (set : Set) → Spells text set → (name : List ℕ) (xs ys : List Line) → IsOnlyLine set name xs → IsOnlyLine set name ys → xs ≡ ys
one_line text set spelt name xs ys p q =
    let same : p.0 ≡ q.0 = lines_have_names text set spelt p.0 q.0 p.1.among q.1.among (p.1.named ∙ sym q.1.named) in
    p.2 ∙ (ap (λ (x : Line). x ∷ []) same ∙ sym q.2)

-- what was asked for of a set that a text spells is one list
same_asked : (text : List ℕ) (set : Set) → Spells text set → (which : Which) (xs ys : List Line) → AreAsked which set xs → AreAsked which set ys → xs ≡ ys
same_asked text set spelt w.Ops xs ys p q = p ∙ sym q
same_asked text set spelt w.All xs ys p q = p ∙ sym q
same_asked text set spelt (w.One name) xs ys p q = one_line text set spelt name xs ys p q
same_asked text set spelt (w.Least name) xs ys p q = one_line text set spelt name xs ys p q

-- two right verdicts on one line that aren't spent are one
one_verdict : (P : Type 0) (u w : Verdict) → Says P u → Says P w → u ≢ v.Spent → w ≢ v.Spent → u ≡ w
one_verdict P v.Proved v.Proved p q a b = refl
one_verdict P v.Proved v.Refuted p q a b = absurd (p q)
one_verdict P v.Proved v.Spent p q a b = absurd (b refl)
one_verdict P v.Refuted v.Proved p q a b = absurd (q p)
one_verdict P v.Refuted v.Refuted p q a b = refl
one_verdict P v.Refuted v.Spent p q a b = absurd (b refl)
one_verdict P v.Spent w p q a b = absurd (a refl)

agree : (ms : List Module) (set : Set) (lines : List Line) (ds es : List Told) → AllZip (IsRight ms set) lines ds → AllZip (IsRight ms set) lines es → AllZip Agree ds es
agree ms set [] [] [] h k = tt
agree ms set [] [] (e ∷ es) h k = absurd k
agree ms set [] (d ∷ ds) es h k = absurd h
agree ms set (x ∷ xs) [] es h k = absurd h
agree ms set (x ∷ xs) (d ∷ ds) [] h k = absurd k
agree ms set (x ∷ xs) (d ∷ ds) (e ∷ es) h k = (
  record {
    name = h.0.name ∙ sym k.0.name;
    verdict = one_verdict (IsRefutable ms set.block set x) d.verdict e.verdict h.0.says k.0.says;
  },
  agree ms set xs ds es h.1 k.1,
)

-- ---- the text

abbrev text_of : Verdict → List ℕ → List ℕ
text_of u name = verdict_word u ++ (name ++ 10 ∷ [])

same_lines : (ds es : List Told) → AllZip Agree ds es → All IsUnspent ds → All IsUnspent es → (flat_map line_text ds ≡ flat_map line_text es) × (all_proved ds ≡ all_proved es)
same_lines [] [] h a b = (refl, refl)
same_lines [] (e ∷ es) h a b = absurd h
same_lines (d ∷ ds) [] h a b = absurd h
same_lines (d ∷ ds) (e ∷ es) h a b =
    let verdict = h.0.verdict (All-head IsUnspent d ds a) (All-head IsUnspent e es b) in
    let rest = same_lines ds es h.1 (All-tail IsUnspent d ds a) (All-tail IsUnspent e es b) in (
      ap₂ (λ (x y : List ℕ). x ++ y) (ap₂ text_of verdict h.0.name) rest.0,
      ap₂ (λ (x y : Bool). x && y) (ap is_proved verdict) rest.1,
    )

same_text : (which : Which) (ds es : List Told) → AllZip Agree ds es → All IsUnspent ds → All IsUnspent es → report_text which ds ≡ report_text which es
same_text which ds es h a b =
    let same = same_lines ds es h a b in
    ap₂ (λ (x : List ℕ) (p : Bool). x ++ last_line which p) same.0 same.1

pub reports_agree : ReportsAgree
reports_agree module_text set_text which budget other ds es r s p q =
    let ms = one_modules module_text p.from.modules q.from.modules p.from.module_is.spelt q.from.module_is.spelt in
    let sets = means_one_set set_text p.bound.set q.bound.set p.from.set_is.spelt q.from.set_is.spelt in
    let asked = subst (λ (z : Set). AreAsked which z p.lines) sets p.asked in
    let lines = same_asked set_text q.bound.set q.from.set_is.spelt which p.lines q.lines asked q.asked in
    let first = right budget p.from.modules p.bound p.lines ds p.each in
    let moved = subst (λ (z : List Line). AllZip (IsRight q.from.modules q.bound.set) z ds) lines
    (subst (λ (z : Set). AllZip (IsRight q.from.modules z) p.lines ds) sets
    (subst (λ (z : List Module). AllZip (IsRight z p.bound.set) p.lines ds) ms first)) in
    let all = agree q.from.modules q.bound.set q.lines ds es moved (right other q.from.modules q.bound q.lines es q.each) in
    record {
      lines = all;
      text = λ a b. p.text ∙ (same_text which ds es all a b ∙ sym q.text);
    }
