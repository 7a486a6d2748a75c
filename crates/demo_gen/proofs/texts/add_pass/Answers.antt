use Rattle.std.proofs.Common.{refl}
use Rattle.std.proofs.lemmas.List.{append_assoc}
use Rattle.demo_gen.proofs.texts.add_pass.Goals as goal

pub returns : goal.returns
returns c = simp (append_assoc, c.in_ok-add_number.ensures, c.in_ok-add_number-2.ensures, c.in_ok-add_number-3.ensures, c.in_ok-extend_from_slice.ensures.items, c.in_ok-add_covers.ensures) refl
