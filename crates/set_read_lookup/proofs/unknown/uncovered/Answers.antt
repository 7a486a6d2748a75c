use Rattle.std.proofs.Common.{◌∙◌, map}
use Rattle.std.specs.List.{find, flat_map}
use Rattle.set_read_lookup.specs.Faults.{is_no_output, outputs_of}
use Rattle.set_read_lookup.proofs.Searches.{or_finds}
use Rattle.set_read_lookup.proofs.unknown.uncovered.Goals as goal

pub returns : goal.returns
returns c =
    let t = c.args.text.now in
    or_finds (is_no_output t.declarations) (outputs_of t.first) (flat_map outputs_of t.operations) c.no_output-first.result c.no_output_in.result c.or.result
    (c.no_output-first.ensures ∙ (λ r. find (is_no_output (c.as_slice-declarations.ensures r)) (map (λ k. k.output) (c.as_slice.ensures r))))
    (c.no_output_in.ensures ∙ (λ r. find (is_no_output (c.as_slice-declarations.ensures r)) (flat_map outputs_of (c.as_slice-2.ensures r))))
    c.or.ensures
