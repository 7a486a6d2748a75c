use Rattle.std.proofs.Common.{map, refl, ap, ◌∙◌}
use Rattle.std.specs.Option.{option_copied}
use Rattle.elab_flat_scopes.specs.Borrowed.{given_meant}
use Rattle.elab_flat_clocks.specs.Tables.{link_meant, reached}
use Rattle.elab_flat_clocks.proofs.Below.{put_link, no_link}
use Rattle.elab_flat_clocks.proofs.table.links.Goals.{in-Some+in_ok-push, in_default}
use Rattle.elab_flat_clocks.proofs.table.links.Goals as goal

pub loop-name-preserved : goal.loop-name-preserved
loop-name-preserved c =
    let t = c.args.outer.now in
    let ds = map given_meant c.args.given.now in
    let bits = c.args.bits.now in
    let i = c.loop-name.name-index in
    let x = c.name-item.result in
    let done = map link_meant c.loop-name.all.items in
    let same = c.reached.ensures ∙ ap (reached t) c.given_at.ensures in
    elim c.match-reached.branch [
      | in-Some+in_ok-push w ↦ rw w.all-is (put_link t ds bits i x c.loop-name-test.true c.name-item.is done _ c.loop-name.invariant (option_copied c.reached.result) same
          w.in-Some.input.now (ap option_copied w.in-Some.is) c.loop-name.all.items w.push.new.self.items _ refl w.in_ok-push.ensures.items refl)
      | in_default w ↦ rw w.all-is (no_link t ds bits i x c.loop-name-test.true c.name-item.is done _ c.loop-name.invariant (option_copied c.reached.result) same (ap option_copied w.in_default.is))
    ]
