-- Lines that were settled over a keeper.
use Rattle.std.proofs.Common.{◌≡◌, ℕ, ◌+◌, List, [], ◌∷◌, length, map, Option, Some, None, refl, sym, ap, ◌∙◌, subst, inl, inr}
use Rattle.std.specs.Prelude.{IfSome}
use Rattle.std.proofs.lemmas.List.{length-map}
use Rattle.std.specs.List.{AllZip}
use Rattle.outside.specs.Tables.{Tables}
use Rattle.set_tree.specs.declared.line.Line.{Line}
use Rattle.word_dag.specs.Nodes.{Parts}
use Rattle.unroll_binding.specs.Binding.{Pair}
use Rattle.proof_store.specs.Counts.{FirstRose, draws_of}
use Rattle.proof_store.specs.Goals.{Ended, IsDecided, ended, ob_of}
use Rattle.proof_store.specs.Kept.{CountsKept}
use Rattle.proof_store.specs.Stored.{AddsProofs, StoresNew, Told, ended_ob}
use Rattle.proof_store.specs.declared.goal.Decided.{Decided}
use Rattle.proof_store.specs.declared.goal.Goal.{Goal}
use Rattle.proof_store.proofs.Placed.{same_obs}
use Rattle.desk_core_reports.specs.declared.book.Book.{Book}
use Rattle.desk_core_reports.specs.declared.book.Line.{Line as Entered}
use Rattle.desk_core_commands.specs.declared.which.Which.{Which}
use Rattle.desk_core_goals.specs.Asked.{Asks}
use Rattle.desk_core_goals.specs.Settled.{AddsProofsOf, AreObsOf, AreSettled, ended_of, line_ob}
use Rattle.desk_core_goals.proofs.LinesTold.{length_zipped}

line_obs_of : (ls : List Entered) → map line_ob ls ≡ map ended_ob (map ended_of ls)
line_obs_of [] = refl
line_obs_of (l ∷ ls) = ap (λ (os : List Parts). l.ob ∷ os) (line_obs_of ls)

-- the lines of a book that tell what was settled of goals
module _ {L : Type 0} (budget workers : ℕ) (goals : List (Goal L)) (ds : List (Decided L)) (book : Book) (zipped : AllZip (IsDecided budget) goals ds) (same : map ended_of book.lines.items ≡ map ended ds) where
  obs : map ob_of goals ≡ map line_ob book.lines.items
  obs = sym (line_obs_of book.lines.items ∙ (ap (map ended_ob) same ∙ same_obs budget goals ds zipped))

  many : length goals ≡ length book.lines.items
  many = length_zipped (IsDecided budget) goals ds zipped ∙ (sym (length-map ds ended) ∙ (sym (ap length same) ∙ length-map book.lines.items ended_of))

  pub are_settled : (before after : Option Tables) (asked asked_after : List ℕ) → book.kept + book.helped + book.solved ≡ length goals
      → IfSome before (λ t. CountsKept t (map ob_of goals) book.kept) → book.draws.items ≡ draws_of book.solved workers
      → Told (StoresNew (map ended ds)) before after → FirstRose (book.helped + book.solved) asked asked_after → AreSettled workers book before after asked asked_after
  are_settled before after asked asked_after counts kept draws stored first = record {
    counts = counts ∙ many;
    kept = subst (λ (os : List Parts). IfSome before (λ t. CountsKept t os book.kept)) obs kept;
    draws = draws;
    stored = subst (λ (es : List Ended). Told (StoresNew es) before after) (sym same) stored;
    first = first;
  }

told_same : (o : Option Tables) → Told (AddsProofs []) o o
told_same None = tt
told_same (Some t) = record { blocks = refl; signs = refl; proofs = λ key. inl refl }

-- nothing was put
pub adds_none : (OfCall : List Parts → Type 0) (o : Option Tables) → AddsProofsOf OfCall o o
adds_none OfCall o = ([], inl refl, told_same o)

-- proofs of obligations of the lines that are asked for
pub adds_asked : (b : Pair) (which : Which) (goals : List (Goal Line)) → Asks b which goals → (before after : Option Tables) → Told (AddsProofs (map ob_of goals)) before after → AddsProofsOf (AreObsOf b which) before after
adds_asked b which goals asks before after told = (map ob_of goals, inr (record { goals = goals; asked = asks; are = refl }), told)
