use Rattle.std.proofs.Common.{arith, ◌≡◌, ◌<◌, length, sym, ◌∙◌, inr}
use Rattle.std.proofs.lemmas.Bool.Decides.{Decides-eqb}
use Rattle.std.proofs.lemmas.Slice.Eq.{slice_eq-Decides}
use Rattle.elab_flat_graphs.specs.Graphs.{graph_of}
use Rattle.elab_step_copies.proofs.Forgetting.{number_among}
use Rattle.elab_step.proofs.Grouping.{first_is}
use Rattle.elab_step.proofs.groups.shares.Goals as goal

pub list_of-requires-in-len1-up : goal.list_of-requires-in-len1-up
list_of-requires-in-len1-up c = c.requires.group _ (number_among c.args.group.now 0 0 (omega arith))

pub returns-in-len1-up : goal.returns-in-len1-up
returns-in-len1-up c same =
    let xs = c.list_of.result.now in
    let ys = c.list_of-in-len1-up.result.now in
    let e : xs ≡ ys = (slice_eq-Decides Decides-eqb xs ys c.eq.result c.eq.ensures).0 same in
    let l : 0 < length c.args.group.now = omega arith in
    inr (sym c.list_of.ensures ∙ e ∙ c.list_of-in-len1-up.ensures ∙ first_is (graph_of c.args.places.now) c.args.group.now l)
