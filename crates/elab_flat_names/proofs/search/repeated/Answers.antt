use Rattle.std.proofs.Common.{◌≡◌, ◌∷◌, ◌||◌, true, false, inl, map, drop, ◌+◌, refl, sym, ap, subst, ◌∙◌}
use Rattle.std.specs.Str.{bytes_eq}
use Rattle.vlog_tree_runs.specs.Contents.{is_among}
use Rattle.elab_flat_scopes.specs.Borrowed.{name_meant}
use Rattle.elab_flat_scopes.proofs.Joining.{was_new, was_there, cond_or}
use Rattle.elab_flat_drivers.proofs.Naming.{among_of}
use Rattle.elab_flat_names.proofs.Searches.{Again, one_on, one_back, not_among, rest_is}
use Rattle.elab_flat_names.proofs.search.repeated.Goals as goal

pub returns-then-not-branch : goal.returns-then-not-branch
returns-then-not-branch c =
    let had = c.loop-name.invariant in
    let name = c.name-item.result.now in
    let there : is_among had.0 name ≡ true = ap (is_among had.0) (sym c.bytes.ensures) ∙ (sym (had.1 c.bytes.result) ∙ was_there _ (sym c.if-not-branch.true ∙ c.in_ok-insert.ensures.added)) in
    had.3 name
    (subst (λ xs. Again had.0 xs name) (sym (rest_is c.args.names.now c.loop-name.name-index c.name-item.result c.loop-name-test.true c.name-item.is))
    (inl (inl refl, among_of had.0 name there)))

pub loop-name-preserved : goal.loop-name-preserved
loop-name-preserved c =
    let had = c.loop-name.invariant in
    let name = c.name-item.result.now in
    let rest = map name_meant (drop (c.loop-name.name-index + 1) c.args.names.now) in
    let is = rest_is c.args.names.now c.loop-name.name-index c.name-item.result c.loop-name-test.true c.name-item.is in
    let lacks : is_among had.0 name ≡ false = ap (is_among had.0) (sym c.bytes.ensures) ∙ (sym (had.1 c.bytes.result) ∙ was_new _ (sym c.if-not-branch.false ∙ c.in_ok-insert.ensures.added)) in
    let new = not_among had.0 name lacks in (
      name ∷ had.0,
      λ q. c.in_ok-insert.ensures.updates.0 q ∙ (cond_or _ _ _ (had.1 q) ∙ ap (λ x. bytes_eq x q.now || is_among had.0 q.now) c.bytes.ensures),
      λ x h. one_on had.0 rest name x new (subst (λ xs. Again had.0 xs x) is (had.2 x h)),
      λ x h. had.3 x (subst (λ xs. Again had.0 xs x) (sym is) (one_back had.0 rest name x h)),
    )
