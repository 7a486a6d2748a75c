use Rattle.std.proofs.Common.{◌≡◌, ◌<◌, ◌≤◌, ◌+◌, ◌++◌, ◌∷◌, [], List, Some, map, length, vec_len, refl, sym, ap, subst, ◌∙◌, arith, rules, length-append}
use Rattle.std.specs.List.{slice_get}
use Rattle.std.specs.Option.{option_map}
use Rattle.std.proofs.lemmas.List.{length-map}
use Rattle.std.proofs.lemmas.Option.{slice_get_read, slice_get-map}
use Rattle.vlog_tree_runs.specs.Scopes.{Scope}
use Rattle.elab_flat_laws.proofs.Lists.{map_append}
use Rattle.elab_flat_faults.specs.FlatStands.{Stands}
use Rattle.elab_flat_instances.specs.Unfolding.{scope_meant, StandsBelow}
use Rattle.elab_flat_instances.proofs.Children.{refuses_map}
use Rattle.elab_flat_instances.proofs.Worklist.{IsUnfolding, path_at, unfold_top, unfold_next, too_many, are_unfolded, not_more}
use Rattle.elab_flat_instances.proofs.Standing.{below_scope}
use Rattle.elab_flat_instances.proofs.unfold.unfold.Goals as goal

pub loop-at-init : goal.loop-at-init
loop-at-init c =
    let ms = c.args.modules.now in
    let top = c.args.top.now in
    let s = scope_meant c.args.first in
    let items : c.push.new.self.items ≡ c.args.first ∷ [] = c.in_ok-push.ensures.items ∙ ap (λ xs. xs ++ c.args.first ∷ []) c.new-scopes.ensures.items in
    let one : length c.push.new.self.items ≡ 1 = ap length items in
    record {
      state = subst (λ (ss : List Scope). IsUnfolding ms top ss 0) (sym (ap (map scope_meant) items)) (unfold_top ms top s c.requires.first);
      few = omega arith;
    }

pub returns-in-Err-clause-err : goal.returns-in-Err-clause-err
returns-in-Err-clause-err c =
    let ms = c.args.modules.now in
    let top = c.args.top.now in
    let items = c.loop-at.scopes.items in
    let k = c.loop-at.at in
    let x = c.index.result.now in
    let s = scope_meant x in
    let long : vec_len c.loop-at.scopes ≡ length items = search rules in
    let lt : k < length items = omega (arith, c.loop-at-test.true, c.len.ensures) in
    let at : slice_get (map scope_meant items) k ≡ Some s = slice_get-map scope_meant items k ∙ ap (option_map scope_meant) (slice_get_read items (length items) k x refl lt c.index.ensures) in
    let p = path_at ms top (map scope_meant items) k c.loop-at.invariant.state k s at in
    refuses_map (StandsBelow ms s) (Stands ms top) (below_scope ms top p.0 s p.2) c.in-Err.fault c.in-Err.ensures.err

pub returns-then-len-clause-err : goal.returns-then-len-clause-err
returns-then-len-clause-err c =
    let ms = c.args.modules.now in
    let top = c.args.top.now in
    let items = c.loop-at.scopes.items in
    let k = c.loop-at.at in
    let x = c.index.result.now in
    let s = scope_meant x in
    let long : vec_len c.loop-at.scopes ≡ length items = search rules in
    let lt : k < length items = omega (arith, c.loop-at-test.true, c.len.ensures) in
    let at : slice_get (map scope_meant items) k ≡ Some s = slice_get-map scope_meant items k ∙ ap (option_map scope_meant) (slice_get_read items (length items) k x refl lt c.index.ensures) in
    let ts : List Scope = map scope_meant c.in-Ok.more.items in
    let wide : vec_len c.in-Ok.more ≡ length c.in-Ok.more.items = search rules in
    let many : 4096 < length (map scope_meant items ++ ts) =
    omega (arith, length-append (map scope_meant items) ts, length-map items scope_meant, length-map c.in-Ok.more.items scope_meant, c.if-len.true, c.len-in-loop-at.ensures, c.len-in-loop-at-2.ensures, c.loop-at.invariant.few) in
    (c.requires.plain, too_many ms top (map scope_meant items) k c.loop-at.invariant.state s at ts c.in-Ok.ensures.ok 4096 many)

pub loop-at-preserved : goal.loop-at-preserved
loop-at-preserved c =
    let ms = c.args.modules.now in
    let top = c.args.top.now in
    let items = c.loop-at.scopes.items in
    let k = c.loop-at.at in
    let x = c.index.result.now in
    let s = scope_meant x in
    let long : vec_len c.loop-at.scopes ≡ length items = search rules in
    let lt : k < length items = omega (arith, c.loop-at-test.true, c.len.ensures) in
    let at : slice_get (map scope_meant items) k ≡ Some s = slice_get-map scope_meant items k ∙ ap (option_map scope_meant) (slice_get_read items (length items) k x refl lt c.index.ensures) in
    let more = c.in-Ok.more.items in
    let ts : List Scope = map scope_meant more in
    let wide : vec_len c.in-Ok.more ≡ length more = search rules in
    let grown : c.append.new.self.items ≡ items ++ more = c.in_ok-append.ensures.items in
    record {
      state = subst (λ (ss : List Scope). IsUnfolding ms top ss (k + 1)) (sym (ap (map scope_meant) grown ∙ map_append scope_meant items more))
          (unfold_next ms top (map scope_meant items) k c.loop-at.invariant.state s at ts c.in-Ok.ensures.ok);
      few = omega (arith, ap length grown, length-append items more, c.if-len.false, c.len-in-loop-at.ensures, c.len-in-loop-at-2.ensures, c.loop-at.invariant.few);
    }

pub returns-clause-ok : goal.returns-clause-ok
returns-clause-ok c =
    let items = c.loop-at.scopes.items in
    let long : vec_len c.loop-at.scopes ≡ length items = search rules in
    let done : length (map scope_meant items) ≤ c.loop-at.at = omega (arith, length-map items scope_meant, c.loop-at-test.false, c.len.ensures) in
    are_unfolded c.args.modules.now c.args.top.now (map scope_meant items) c.loop-at.at c.loop-at.invariant.state done

pub returns-clause-few : goal.returns-clause-few
returns-clause-few c =
    let items = c.loop-at.scopes.items in
    let long : vec_len c.loop-at.scopes ≡ length items = search rules in
    let done : length (map scope_meant items) ≤ c.loop-at.at = omega (arith, length-map items scope_meant, c.loop-at-test.false, c.len.ensures) in
    let few : length (map scope_meant items) ≤ 4096 = omega (arith, length-map items scope_meant, c.loop-at.invariant.few) in
    not_more c.args.modules.now c.args.top.now (map scope_meant items) c.loop-at.at c.loop-at.invariant.state done 4096 few
