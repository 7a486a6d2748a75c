use Rattle.std.proofs.Common.{◌≡◌, map, take, drop, refl, arith}
use Rattle.std.specs.Prelude.{codes}
use Rattle.std.specs.List.{flat_map}
use Rattle.std.proofs.lemmas.Slice.{pushed}
use Rattle.signoff_places.specs.Lines.{shown, room}
use Rattle.signoff_places.proofs.LineLemmas.{cut}
use Rattle.signoff_places.proofs.Marks.{six_added, line_cut, rest_cut, same_marks}
use Rattle.signoff_places.proofs.place.add_line.Goals as goal

pub returns : goal.returns
returns c =
    let text = c.args.text.now in
    let at = c.args.at in
    let head = c.shown_around.result.0.now in
    let tail = c.shown_around.result.1.now in
    let front : c.split_at.result.0.now ≡ take at text = grind (arith, cut, c.split_at.ensures.front, c.min.ensures) in
    let back : c.split_at.result.1.now ≡ drop at text = grind (arith, cut, c.split_at.ensures.back, c.min.ensures) in
    same_marks c.extend_from_slice-3.result c.args.out.now.items c.extend_from_slice-3.new.self.items text at
    (line_cut text at front c.last_line.ensures) (rest_cut text at back c.first_line.ensures) c.shown_around.ensures.head c.shown_around.ensures.tail
    (six_added c.extend_from_slice-3.result c.args.out.now.items (codes "    ") (map shown head) (map shown tail) (codes "\n    ") (flat_map room head) (codes "^\n")
    (pushed (codes "    ") refl c.in_ok-extend_from_slice.was c.extend_from_slice.ensures.items) c.in_ok-add_shown.ensures c.in_ok-add_shown-2.ensures
    (pushed (codes "\n    ") refl c.in_ok-extend_from_slice-2.was c.extend_from_slice-2.ensures.items) c.in_ok-add_space.ensures c.extend_from_slice-3.ensures.items)
