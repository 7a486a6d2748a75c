use Rattle.std.proofs.Common.{arith, ◌≡◌, length, ap, ◌∙◌, sym, subst, List, ℕ}
use Rattle.elab_step_blocks.specs.Saving.{saved_at, places_of, put_back, AreWithin}
use Rattle.elab_step_blocks.proofs.Saving.{back_declared, places_saved}
use Rattle.elab_step_nets.proofs.Boards.{same_long}
use Rattle.elab_step_nets.proofs.nets.restore.Goals as goal

pub put_back-requires-2 : goal.put_back-requires-2
put_back-requires-2 c =
    let ls = c.args.state.now in
    let ms = c.put_back.new.leaves in
    let is : c.deref.result.now ≡ saved_at ls c.args.nets.now = c.deref.ensures.value ∙ c.in_ok-kept.ensures in
    let P : List ℕ → Type 0 = λ z. AreWithin ms z in
    let n = ap length c.put_back.ensures ∙ same_long ls (put_back ls c.args.before.now) (back_declared ls c.args.before.now) in
    subst P (sym (ap places_of is ∙ places_saved ls c.args.nets.now)) (λ k u l. let w = c.requires.nets k u l in omega (arith, w, n))

pub returns : goal.returns
returns c =
    let ls = c.args.state.now in
    let is : c.deref.result.now ≡ saved_at ls c.args.nets.now = c.deref.ensures.value ∙ c.in_ok-kept.ensures in
    c.put_back-2.ensures ∙ (λ r. put_back (c.put_back.ensures r) (is r))
