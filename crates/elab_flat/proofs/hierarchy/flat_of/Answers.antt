use Rattle.std.proofs.Common.{◌≡◌, List, Option, Some, map, sym, subst}
use Rattle.std.specs.Prelude.{◌↔◌}
use Rattle.vlog_tree_runs.specs.declared.flat.Async.{Async}
use Rattle.vlog_tree_runs.specs.Places.{Name, Among}
use Rattle.elab_flat_faults.specs.FlatStands.{Stands, IsClockOf}
use Rattle.elab_flat_instances.specs.Unfolding.{scope_meant}
use Rattle.elab_flat_instances.proofs.Children.{refuses_map}
use Rattle.elab_flat_faults.specs.Handed.{IsResetOf}
use Rattle.elab_flat.proofs.Following.{are_followed}
use Rattle.elab_flat.proofs.Flattening.{has_ports, none_stands}
use Rattle.elab_flat_clocks.specs.Passing.{StandsAmong}
use Rattle.elab_flat_clocks.proofs.Tabled.{among_stands}
use Rattle.elab_flat.proofs.Whole.{is_flattened}
use Rattle.elab_flat.proofs.hierarchy.flat_of.Goals as goal

pub joined-requires : goal.joined-requires
joined-requires c = (c.args.modules.now, are_followed c.args.modules.now c.args.top.now (map scope_meant c.args.scopes.now) c.requires.unfolded)

pub returns-in-Ok-joined-clause-ports : goal.returns-in-Ok-joined-clause-ports
returns-in-Ok-joined-clause-ports c =
    let ms = c.args.modules.now in
    let top = c.args.top.now in
    let texts = c.in-Ok-joined.ensures.texts ms (are_followed ms top (map scope_meant c.args.scopes.now) c.requires.unfolded) in
    has_ports ms top c.args.text.now c.in-Ok-joined.flat c.requires.there texts.ports

pub returns-in-Ok-joined-clause-clocks : goal.returns-in-Ok-joined-clause-clocks
returns-in-Ok-joined-clause-clocks c =
    let ms = c.args.modules.now in
    let top = c.args.top.now in
    record {
      clock = λ y. subst (λ (o : Option Name). (o ≡ Some y) ↔ IsClockOf ms top y) (sym c.in-Ok-joined.ensures.clock) (c.in-Ok-clocks_of.ensures.clock y);
      asyncs = λ y high. subst (λ (rs : List Async). Among rs (record { name = y; high = high }) ↔ IsResetOf ms top y high) (sym c.in-Ok-joined.ensures.asyncs) (c.in-Ok-clocks_of.ensures.asyncs y high);
    }

pub returns-in-Ok-joined-clause-texts : goal.returns-in-Ok-joined-clause-texts
returns-in-Ok-joined-clause-texts c =
    let ms = c.args.modules.now in
    let top = c.args.top.now in
    let ss = map scope_meant c.args.scopes.now in
    is_flattened ms top c.in-Ok-joined.flat ss c.args.text.now c.requires.unfolded c.in-Ok.ensures.ok c.requires.plain c.requires.there
    (c.in-Ok-joined.ensures.texts ms (are_followed ms top ss c.requires.unfolded))

pub returns-in-Ok-joined-clause-none : goal.returns-in-Ok-joined-clause-none
returns-in-Ok-joined-clause-none c =
    none_stands c.args.modules.now c.args.top.now (map scope_meant c.args.scopes.now) c.requires.unfolded c.in-Ok.ensures.ok c.requires.once c.requires.whole c.in-Ok-clocks_of.ensures.none

pub returns-in-Err-joined-clause-err : goal.returns-in-Err-joined-clause-err
returns-in-Err-joined-clause-err c =
    let ms = c.args.modules.now in
    let top = c.args.top.now in
    let ss = map scope_meant c.args.scopes.now in
    refuses_map (StandsAmong ss) (Stands ms top) (among_stands ms top ss c.requires.unfolded) c.in-Err-joined.fault c.in-Err-joined.ensures.err
