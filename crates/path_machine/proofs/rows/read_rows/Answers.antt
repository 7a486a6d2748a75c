use Rattle.std.proofs.Common.{◌≡◌, map, sym, ap, ◌∙◌, subst}
use Rattle.std.specs.List.{All}
use Rattle.std.proofs.lemmas.List.Elements.{All-filter, All-map, All-same}
use Rattle.vlog_tree.specs.Valuation.{IsLength}
use Rattle.set_tree.specs.declared.set.Name.{Name}
use Rattle.set_tree.specs.declared.set.Set.{Set}
use Rattle.set_tree.specs.Parts.{is_input}
use Rattle.path_machine.specs.Rows.{inputs_of, width_of}
use Rattle.path_machine.proofs.Spelling.{rows_fit}
use Rattle.path_machine.proofs.rows.read_rows.Goals as goal

pub rows_of-requires : goal.rows_of-requires
rows_of-requires c =
    let set = c.set-set.result.now in
    let listed : c.deref.result.now ≡ map width_of (inputs_of set) = c.deref.ensures.value ∙ c.in_ok-widths.ensures in
    All-same IsLength c.deref.result.now (map width_of (inputs_of set)) listed
    (All-map IsLength width_of (inputs_of set) (All-filter (λ (n : Name). is_input n.role) (λ (n : Name). IsLength n.width) set.names (subst (λ (z : Set). All (λ (n : Name). IsLength n.width) z.names) (sym c.set-set.ensures.value) c.set-set.ensures.formed.bounds.widths)))

pub returns-clause-fit : goal.returns-clause-fit
returns-clause-fit c =
    let set = c.args.bound.now.set in
    let read : c.set-set.result.now ≡ set = c.set-set.ensures.value ∙ c.set.ensures in
    let listed : c.deref.result.now ≡ map width_of (inputs_of set) = c.deref.ensures.value ∙ (c.in_ok-widths.ensures ∙ ap (λ (z : Set). map width_of (inputs_of z)) read) in
    rows_fit (inputs_of set) c.args.bytes.now c.in_ok-rows.rows (c.in_ok-rows.ensures.ok (inputs_of set) listed)
