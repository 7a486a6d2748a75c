-- A signal has the ranges of a declaration of its name.
use Rattle.std.proofs.Common.{◌≡◌, true, false, List, [], ◌∷◌, refl, ap, ◌⊎◌, inl, inr, ⊎_elim}
use Rattle.vlog_tree.specs.declared.module.Module.{Module}
use Rattle.vlog_tree_runs.specs.Places.{Name, Among}
use Rattle.vlog_tree_runs.specs.Contents.{Decl, decls_in, signals_in, once, joined, is_among}
use Rattle.elab_flat_laws.proofs.Lists.{bool_cases}

-- each signal has the shape of a declaration
pub record IsShapedAs (ds : List Decl) (d : Decl) : Type 0 where
  pub from : Decl
  pub among : Among ds from
  pub name : from.name ≡ d.name
  pub shape : from.shape ≡ d.shape

once_shaped : (all : List Decl) (done : List Name) (ds : List Decl) (d : Decl) → Among (once all done ds) d → IsShapedAs ds d
once_shaped all done [] d h = absurd h
once_shaped all done (e ∷ ds) d h =
    ⊎_elim
    (λ (t : is_among done e.name ≡ true). let r = once_shaped all done ds d (rw t at h) in more e ds d r)
    (λ (t : is_among done e.name ≡ false).
    let k : (joined all e ≡ d) ⊎ Among (once all (e.name ∷ done) ds) d = rw t at h in
    ⊎_elim (λ (i : joined all e ≡ d). record { from = e; among = inl refl; name = ap (λ (z : Decl). z.name) i; shape = ap (λ (z : Decl). z.shape) i })
    (λ n. more e ds d (once_shaped all (e.name ∷ done) ds d n)) k)
    (bool_cases (is_among done e.name))
  where
    more : (e : Decl) (ds : List Decl) (d : Decl) → IsShapedAs ds d → IsShapedAs (e ∷ ds) d
    more e ds d r = record { from = r.from; among = inr r.among; name = r.name; shape = r.shape }

pub signal_shaped : (m : Module) (d : Decl) → Among (signals_in m) d → IsShapedAs (decls_in m) d
signal_shaped m d h = once_shaped (decls_in m) [] (decls_in m) d h
