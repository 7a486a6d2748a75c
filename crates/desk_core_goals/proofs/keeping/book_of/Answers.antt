use Rattle.std.proofs.Common.{List, [], ◌∷◌, ◌++◌, ap, ◌∙◌, refl}
use Rattle.desk_core_reports.specs.declared.book.Line.{Line as Entered}
use Rattle.desk_core_goals.proofs.keeping.book_of.Goals as goal

pub returns : goal.returns
returns c = record {
  line = c.in_ok-line.line;
  alone = c.in_ok-push.ensures.items ∙ ap (λ (xs : List Entered). xs ++ (c.in_ok-line.line ∷ [])) c.new-lines.ensures.items;
  tells = c.in_ok-line.ensures;
  no_least = refl;
}
