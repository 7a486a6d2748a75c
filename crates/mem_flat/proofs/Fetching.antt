-- Reads of memories, as the code makes them.
use Rattle.std.proofs.Common.{◌≡◌, ℕ, List, [], ◌∷◌, sym, ap, ◌∙◌}
use Rattle.vlog_tree.specs.declared.expr.Expr.{Expr}
use Rattle.vlog_tree.specs.declared.expr.Expr.TheVariants as e
use Rattle.vlog_tree.specs.declared.expr.Name.{Name as Read}
use Rattle.vlog_tree.specs.declared.valuation.Entry.{Entry}
use Rattle.vlog_tree.specs.Valuation.{named, depth_of}
use Rattle.vlog_tree_runs.specs.Places.{Name}
use Rattle.mem_laws.specs.Spread.{read_words, chosen, memory_read}

pub memory_read_made : (v : List Entry) (x : Read) (a a' part r : Expr) (text other : Name) (depth width : ℕ) (words slice : List ℕ) → text ≡ x.text → depth ≡ depth_of v (record { text = text; offset = x.offset }) →
    words ≡ read_words depth a → other ≡ x.text → width ≡ (named v (record { text = other; offset = x.offset })).width → slice ≡ words → part ≡ chosen x width a' slice → r ≡ e.Concat (part ∷ []) →
    r ≡ memory_read v x a a'
memory_read_made v x a a' part r text other depth width words slice t d w o n q p m =
    let deep : depth ≡ depth_of v x = d ∙ ap (λ (z : Name). depth_of v (record { text = z; offset = x.offset })) t in
    let wide : width ≡ (named v x).width = n ∙ ap (λ (z : Name). (named v (record { text = z; offset = x.offset })).width) o in
    let these : slice ≡ read_words (depth_of v x) a = q ∙ (w ∙ ap (λ k. read_words k a) deep) in
    m ∙ ap (λ z. e.Concat (z ∷ [])) (p ∙ (λ i. chosen x (wide i) a' (these i)))
