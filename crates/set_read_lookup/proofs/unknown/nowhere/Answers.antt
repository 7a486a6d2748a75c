use Rattle.std.proofs.Common.{◌∙◌}
use Rattle.std.specs.List.{find, flat_map}
use Rattle.set_read_lookup.specs.Faults.{is_no_property}
use Rattle.set_read_lookup.proofs.Searches.{or_finds}
use Rattle.set_read_lookup.proofs.unknown.nowhere.Goals as goal

pub returns : goal.returns
returns c =
    let t = c.args.text.now in
    or_finds (is_no_property t.operations) t.first.next (flat_map (λ p. p.next) t.operations) c.no_property.result c.no_property_in.result c.or.result
    (c.no_property.ensures ∙ (λ r. find (is_no_property (c.as_slice-operations.ensures r)) (c.as_slice.ensures r)))
    (c.no_property_in.ensures ∙ (λ r. find (is_no_property (c.as_slice-operations.ensures r)) (flat_map (λ p. p.next) (c.as_slice-operations.ensures r))))
    c.or.ensures
