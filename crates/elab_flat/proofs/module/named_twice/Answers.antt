use Rattle.std.proofs.Common.{◌≡◌, ◌∷◌, ◌||◌, true, false, inl, map, drop, ◌+◌, add-one, refl, sym, ap, subst, ◌∙◌}
use Rattle.std.specs.Str.{bytes_eq}
use Rattle.vlog_tree_runs.specs.Contents.{is_among}
use Rattle.elab_flat_scopes.specs.Finding.{module_name}
use Rattle.elab_flat_scopes.proofs.Finding.{cut}
use Rattle.elab_flat_scopes.proofs.Joining.{was_new, was_there, cond_or}
use Rattle.elab_flat_drivers.proofs.Naming.{among_of}
use Rattle.elab_flat_names.proofs.Searches.{Again, one_on, one_back, not_among}
use Rattle.elab_flat.proofs.module.named_twice.Goals as goal

pub returns-then-not-branch : goal.returns-then-not-branch
returns-then-not-branch c =
    let had = c.loop-text.invariant in
    let ms = c.args.modules.now in
    let k = c.loop-text.text-index in
    let name = c.text-item.result.name in
    let is : map module_name (drop k ms) ≡ name ∷ map module_name (drop (k + 1) ms) =
    ap (map module_name) (cut ms k c.text-item.result c.loop-text-test.true c.text-item.is) ∙ ap (λ n. name ∷ map module_name (drop n ms)) (sym (add-one k)) in
    let there : is_among had.0 name ≡ true = ap (is_among had.0) (sym c.bytes.ensures) ∙ (sym (had.1 c.bytes.result) ∙ was_there _ (sym c.if-not-branch.true ∙ c.in_ok-insert.ensures.added)) in
    had.3 name (subst (λ xs. Again had.0 xs name) (sym is) (inl (inl refl, among_of had.0 name there)))

pub loop-text-preserved : goal.loop-text-preserved
loop-text-preserved c =
    let had = c.loop-text.invariant in
    let ms = c.args.modules.now in
    let k = c.loop-text.text-index in
    let name = c.text-item.result.name in
    let rest = map module_name (drop (k + 1) ms) in
    let is : map module_name (drop k ms) ≡ name ∷ rest =
    ap (map module_name) (cut ms k c.text-item.result c.loop-text-test.true c.text-item.is) ∙ ap (λ n. name ∷ map module_name (drop n ms)) (sym (add-one k)) in
    let lacks : is_among had.0 name ≡ false = ap (is_among had.0) (sym c.bytes.ensures) ∙ (sym (had.1 c.bytes.result) ∙ was_new _ (sym c.if-not-branch.false ∙ c.in_ok-insert.ensures.added)) in
    let new = not_among had.0 name lacks in (
      name ∷ had.0,
      λ q. c.in_ok-insert.ensures.updates.0 q ∙ (cond_or _ _ _ (had.1 q) ∙ ap (λ x. bytes_eq x q.now || is_among had.0 q.now) c.bytes.ensures),
      λ x h. one_on had.0 rest name x new (subst (λ xs. Again had.0 xs x) is (had.2 x h)),
      λ x h. had.3 x (subst (λ xs. Again had.0 xs x) (sym is) (one_back had.0 rest name x h)),
    )
