use Rattle.std.proofs.Common.{◌≡◌, ◌<◌, ◌+◌, ◌∷◌, ◌++◌, [], length, take, ap, subst, sym, ◌∙◌, arith}
use Rattle.std.specs.List.{flat_map}
use Rattle.std.proofs.lemmas.List.{map_more, flat_map_more, take_all}
use Rattle.std.proofs.lemmas.List.Elements.{All-more, at_read}
use Rattle.clause_check.specs.declared.formula.Step.{Step}
use Rattle.proof_store_records.specs.Layout.{mark, count_bytes, step_bytes}
use Rattle.proof_store_records.specs.Records.{content, contents, HasClause, HasClauses}
use Rattle.proof_store_records.proofs.write.write_version.Goals as goal

pub loop-step-preserved : goal.loop-step-preserved
loop-step-preserved c =
    let version = c.args.version in
    let steps = c.args.steps.now in
    let i = c.loop-step.step-index in
    let step = c.step-item.result in
    let inside : i < length steps = omega arith in
    let base = mark version ++ count_bytes version (length steps) in
    let more : contents (take (i + 1) steps) ≡ contents (take i steps) ++ content step ∷ []
    = map_more content steps i step inside ∙ ap (λ (s : Step). contents (take i steps) ++ content s ∷ []) (sym c.step-item.is) in
    record {
      written = c.in_ok-push_step.ensures.bytes ∙ (ap (λ out. out ++ step_bytes version (content step)) c.loop-step.invariant.written
          ∙ (flat_map_more (step_bytes version) base (contents (take i steps)) (content step) ∙ ap (λ cs. base ++ flat_map (step_bytes version) cs) (sym more)));
      clauses = All-more HasClause steps i step inside c.loop-step.invariant.clauses
          (at_read steps HasClause i step inside c.step-item.is c.in_ok-push_step.ensures.clause step);
    }

pub returns-clause-clauses : goal.returns-clause-clauses
returns-clause-clauses c = subst HasClauses (take_all c.loop-step.step-index c.args.steps.now (omega arith)) c.loop-step.invariant.clauses
