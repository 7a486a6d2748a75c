use Rattle.std.proofs.Common.{◌+◌, ◌++◌, ℕ, List, length, refl, ap, ◌∙◌, append_assoc, length-append, arith}
use Rattle.std.specs.Option.{option_map}
use Rattle.outside.specs.Port.{read_off}
use Rattle.desk_http_request.proofs.Taken.{takes_more, step_twice}
use Rattle.desk_http_connection.proofs.body.fill.Goals as goal

pub body-preserved : goal.body-preserved
body-preserved g c =
    let had = c.body.invariant.taken in
    let got = c.in-Bytes.ensures.reads in
    record {
      taken = (had.0 ++ got.0, got.1 ∙ ap (λ (l : List ℕ). l ++ got.0) had.1 ∙ append_assoc c.args.body.now.items had.0 got.0, takes_more _ _ _ _ _ _ had.2 got.4 refl);
      within = omega (arith, ap length got.1, length-append c.body.body.items got.0, got.3);
      calm = got.5 ∙ c.body.invariant.calm;
      other = c.in-Bytes.ensures.other ∙ c.body.invariant.other;
    }

pub returns-in-NoMemory-clause-fills : goal.returns-in-NoMemory-clause-fills
returns-in-NoMemory-clause-fills g c =
    let had = c.body.invariant.taken in
    let got = c.in-NoMemory.ensures.reads in (
      (length had.0 + got.0.0, got.0.1 ∙ ap (option_map (read_off got.0.0)) had.2.0 ∙ step_twice _ (length had.0) got.0.0),
      got.1 ∙ c.body.invariant.calm,
    )
