use Rattle.std.proofs.Common.{List, Option, refl, ap, sym, ◌∙◌, subst, length, ◌+◌}
use Rattle.std.specs.Option.{MatchOption}
use Rattle.set_tree.specs.Meaning.{Row}
use Rattle.path_machine.specs.declared.line.First.{First}
use Rattle.path_machine.specs.Rows.{Begins, BeginsBadly}
use Rattle.path_machine.proofs.Reading.{empty_is, read_bad, read_begin, read_end, read_step}
use Rattle.path_machine.proofs.rows.rows_of.Goals as goal

pub loop-rest-init : goal.loop-rest-init
loop-rest-init c = read_begin c.args.widths.now c.args.text.now c.args.text.now c.new-rows.result refl c.new-rows.ensures

pub loop-rest-preserved : goal.loop-rest-preserved
loop-rest-preserved c =
    let rest = c.loop-rest.rest.now in
    read_step c.args.widths.now c.args.text.now rest c.in-Some.first.rest.now c.loop-rest.rows c.push.new.self c.in-Some.first.row
    (λ inputs listed. subst (λ (o : Option First). MatchOption o (BeginsBadly inputs rest) (λ f. Begins inputs rest f.row f.rest.now)) c.in-Some.is (c.in_ok-first.ensures.row inputs listed)) c.in_ok-push-in-Some.ensures.ok c.loop-rest.invariant

pub returns-in-None : goal.returns-in-None
returns-in-None c =
    let rest = c.loop-rest.rest.now in record {
      ok = tt;
      err = λ inputs listed.
          read_bad c.args.widths.now c.args.text.now rest c.loop-rest.rows _ (ap (λ (rs : List Row). length rs + 1) c.as_slice.ensures)
          (λ inputs listed. subst (λ (o : Option First). MatchOption o (BeginsBadly inputs rest) (λ f. Begins inputs rest f.row f.rest.now)) c.in-None.is (c.in_ok-first.ensures.row inputs listed)) c.loop-rest.invariant inputs listed;
    }

pub returns : goal.returns
returns c = record {
  ok = λ inputs listed. read_end c.args.widths.now c.args.text.now c.loop-rest.rest.now c.loop-rest.rows (empty_is c.loop-rest.rest.now (sym c.loop-rest-test.false ∙ c.is_empty.ensures)) c.loop-rest.invariant inputs listed;
  err = tt;
}
