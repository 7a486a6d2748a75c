use Rattle.std.proofs.Common.{rules, ◌≡◌, ◌∙◌, ap, sym, length}
use Rattle.cnf_build.specs.declared.gates.Gate.TheVariants.{And}
use Rattle.cnf_build.specs.Circuits.{zip_gates}
use Rattle.cnf_build.proofs.Rows.{length-row_lits, length-zip_gates}
use Rattle.cnf_build.proofs.circuits.add_part.Goals as goal

pub add-requires : goal.add-requires
add-requires c =
    let same : length c.args.a.now ≡ length c.deref.result.now = search rules in
    let gs = zip_gates And c.args.a.now c.deref.result.now in
    c.requires ∙ sym (ap length c.deref-2.ensures.value ∙ ap length c.in_ok-part.ensures.lits_are ∙ length-row_lits (length c.args.gates.now.items) gs ∙ length-zip_gates And c.args.a.now c.deref.result.now same)
