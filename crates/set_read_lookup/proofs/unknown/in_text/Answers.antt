use Rattle.std.proofs.Common.{◌++◌, ap, ◌∙◌}
use Rattle.std.specs.List.{find, flat_map}
use Rattle.std.specs.Option.{option_to_list}
use Rattle.set_read_lookup.specs.Faults.{is_wanted, names_in, names_of}
use Rattle.set_read_lookup.proofs.Searches.{or_finds}
use Rattle.set_read_lookup.proofs.unknown.in_text.Goals as goal

pub returns : goal.returns
returns c =
    let p = is_wanted c.args.wanted.now in
    let t = c.args.text.now in
    or_finds p (flat_map (λ d. flat_map names_in (option_to_list d.domain)) t.declarations) (flat_map (λ r. names_in r.formula) t.rules ++ (names_of t.first ++ flat_map names_of t.operations))
    c.in_domains-domains.result c.or-2.result c.or-3.result
    (c.in_domains-domains.ensures ∙ ap (λ z. find p (flat_map (λ d. flat_map names_in (option_to_list d.domain)) z)) c.as_slice.ensures)
    (or_finds p (flat_map (λ r. names_in r.formula) t.rules) (names_of t.first ++ flat_map names_of t.operations) c.in_rules-rules.result c.or.result c.or-2.result
    (c.in_rules-rules.ensures ∙ ap (λ z. find p (flat_map (λ r. names_in r.formula) z)) c.as_slice-2.ensures)
    (or_finds p (names_of t.first) (flat_map names_of t.operations) c.in_property-first.result c.in_operations-operations.result c.or.result
    c.in_property-first.ensures (c.in_operations-operations.ensures ∙ ap (λ z. find p (flat_map names_of z)) c.as_slice-3.ensures) c.or.ensures)
    c.or-2.ensures)
    c.or-3.ensures
