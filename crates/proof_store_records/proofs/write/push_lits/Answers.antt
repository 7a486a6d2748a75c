use Rattle.std.proofs.Common.{◌<◌, ◌^◌, ◌++◌, false, length, map, take, get_or, ap, sym, ◌∙◌}
use Rattle.std.specs.List.{flat_map}
use Rattle.std.proofs.lemmas.List.{map_more, flat_map_more}
use Rattle.std.proofs.lemmas.List.Elements.{All-more}
use Rattle.clause_check.specs.declared.literal.Lit.{Lit}
use Rattle.proof_store_records.specs.Layout.{lit_value, count_bytes, number_bytes}
use Rattle.proof_store_records.proofs.write.push_lits.Goals as goal

pub loop-lit-preserved : goal.loop-lit-preserved
loop-lit-preserved c =
    let z : Lit = record { var = 0; negative = false } in
    let lits = c.args.lits.now in
    let i = c.loop-lit.lit-index in
    let value = lit_value (get_or lits i z) in
    let code = number_bytes c.args.version in
    let base = c.args.out.now.items ++ count_bytes c.args.version (length lits) in
    record {
      bytes = c.in_ok-push_number.ensures ∙ (ap (λ n. c.loop-lit.out.items ++ code n) c.value_of.ensures.value ∙ (ap (λ out. out ++ code value) c.loop-lit.invariant.bytes
          ∙ (flat_map_more code base (map lit_value (take i lits)) value ∙ ap (λ values. base ++ flat_map code values) (sym (map_more lit_value lits i z c.loop-lit-test.true)))));
      vars = All-more (λ (x : Lit). x.var < 2 ^ 32) lits i z c.loop-lit-test.true c.loop-lit.invariant.vars c.value_of.ensures.var;
    }
