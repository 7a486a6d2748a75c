use Rattle.std.proofs.Common.{ℕ, ◌+◌, length, refl, inl, inr, ap, subst, ◌∙◌}
use Rattle.std.specs.Option.{option_map}
use Rattle.outside.specs.Faults.{Rose}
use Rattle.outside.specs.Port.{read_off}
use Rattle.desk_http_request.proofs.Taken.{takes_more, takes_all, step_twice}
use Rattle.desk_http_request.proofs.read.read_head.Goals as goal

pub returns-in-Hopeless-clause-ends : goal.returns-in-Hopeless-clause-ends
returns-in-Hopeless-clause-ends g c =
    let never = rw c.deref.ensures.value at c.in-Hopeless.ensures.judged in
    (c.head.invariant.taken, inl (refl, never), c.head.invariant.calm)

pub returns-in-Large-clause-ends : goal.returns-in-Large-clause-ends
returns-in-Large-clause-ends g c =
    let large = rw c.deref.ensures.value at c.in-Large.ensures.judged in
    (c.head.invariant.taken, inr (refl, large.0, large.1), c.head.invariant.calm)

pub head-preserved : goal.head-preserved
head-preserved g c =
    let read = c.in-Bytes.ensures.reads in
    record {
      taken = takes_more _ _ _ _ read.0 _ c.head.invariant.taken read.4 read.1;
      calm = read.5 ∙ c.head.invariant.calm;
      other = c.in-Bytes.ensures.other ∙ c.head.invariant.other;
    }

pub returns-in-End-clause-ends : goal.returns-in-End-clause-ends
returns-in-End-clause-ends g c =
    let partial = rw c.deref.ensures.value at c.in-Partial.ensures.judged in
    let end = c.in-End.ensures.reads in
    let had = c.head.invariant.taken in
    rw end.0 (
      (partial.0, partial.1),
      takes_all _ _ _ had end.2,
      (length c.head.bytes.items + 0, end.1 ∙ ap (option_map (read_off 0)) had.0 ∙ step_twice _ (length c.head.bytes.items) 0),
      end.3 ∙ c.head.invariant.calm,
    )

pub returns-in-Broken-clause-ends : goal.returns-in-Broken-clause-ends
returns-in-Broken-clause-ends g c =
    let broken = c.in-Broken.ensures.reads in (
      (length c.head.bytes.items, broken.0 ∙ c.head.invariant.taken.0),
      subst (λ (n : ℕ). Rose n (g.P.Port.faults c.read_some.new.port)) c.head.invariant.calm broken.1,
    )

pub returns-in-NoMemory-clause-ends : goal.returns-in-NoMemory-clause-ends
returns-in-NoMemory-clause-ends g c =
    let starved = c.in-NoMemory.ensures.reads in (
      (length c.head.bytes.items + starved.0.0, starved.0.1 ∙ ap (option_map (read_off starved.0.0)) c.head.invariant.taken.0 ∙ step_twice _ (length c.head.bytes.items) starved.0.0),
      starved.1 ∙ c.head.invariant.calm,
    )
