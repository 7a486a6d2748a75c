use Rattle.std.proofs.Common.{◌++◌, ap, ◌∙◌}
use Rattle.std.specs.List.{find, flat_map}
use Rattle.std.specs.Option.{option_to_list, option_map}
use Rattle.set_read_lookup.specs.Faults.{is_wanted, names_in}
use Rattle.set_read_lookup.proofs.Searches.{or_finds}
use Rattle.set_read_lookup.proofs.unknown.in_property.Goals as goal

pub returns : goal.returns
returns c =
    let p = is_wanted c.args.wanted.now in
    let x = c.args.property.now in
    or_finds p (flat_map names_in (option_to_list (option_map (λ u. u.condition) x.length.until))) (flat_map names_in x.assume ++ (flat_map names_in x.commit ++ flat_map names_in x.hand))
    c.in_until-until.result c.or-2.result c.or-3.result
    c.in_until-until.ensures
    (or_finds p (flat_map names_in x.assume) (flat_map names_in x.commit ++ flat_map names_in x.hand) c.wanted_among-assume.result c.or.result c.or-2.result
    (c.wanted_among-assume.ensures ∙ ap (λ z. find p (flat_map names_in z)) c.as_slice.ensures)
    (or_finds p (flat_map names_in x.commit) (flat_map names_in x.hand) c.wanted_among-commit.result c.wanted_among-hand.result c.or.result
    (c.wanted_among-commit.ensures ∙ ap (λ z. find p (flat_map names_in z)) c.as_slice-2.ensures)
    (c.wanted_among-hand.ensures ∙ ap (λ z. find p (flat_map names_in z)) c.as_slice-3.ensures) c.or.ensures)
    c.or-2.ensures)
    c.or-3.ensures
