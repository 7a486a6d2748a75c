use Rattle.std.proofs.Common.{◌≡◌, ℕ, List, [], ◌∷◌, ◌++◌, sym, ap, append-nil}
use Rattle.std.specs.Prelude.{codes}
use Rattle.word_dag.specs.Text.{line}
use Rattle.replay.proofs.Putting.{prints_less, prints_same, prints_then}
use Rattle.replay.proofs.printing.print_trace.Goals as goal

-- the first line, in pieces
pieces_are : (name rest : List ℕ) → (codes "refuted " ++ (name ++ 10 ∷ [])) ++ rest ≡ line (codes "refuted") (name ∷ []) ++ rest
pieces_are name rest = ap (λ (w : List ℕ). (codes "refuted " ++ (w ++ 10 ∷ [])) ++ rest) (sym (append-nil name))

pub returns-in_err-put_all : goal.returns-in_err-put_all
returns-in_err-put_all g c =
    prints_same _ _ _ _ c.from_residual.result _ _ (pieces_are c.args.line.now _)
    (prints_less c.from_residual.result _ c.from_residual.ensures.1 c.in_err-put_all.ensures)

pub returns : goal.returns
returns g c =
    prints_same _ _ _ _ c.put_shown.result _ _ (pieces_are c.args.line.now _)
    (prints_then _ c.put_shown.result _ c.in_ok-put_all.ensures c.put_shown.ensures)
