-- The loop that tests the values of free nodes.
use Rattle.std.proofs.Common.{◌≡◌, ℕ, ◌+◌, ◌<◌, ◌≤◌, List, [], ◌∷◌, length, drop, get_or, refl, sym, subst, arith}
use Rattle.std.specs.Prelude.{slice_index, ◌↔◌}
use Rattle.word_dag.specs.declared.node.Node.{Node}
use Rattle.word_dag.specs.Nodes.{left_after}
use Rattle.word_dag.specs.Given.{FitsFree, AllFit}
use Rattle.word_dag.proofs.Filling.{drop_at, drop_all}

-- the values fit exactly where those that are left fit the nodes from number i on
abbrev pub FitsLoop : List ℕ → List ℕ → List Node → ℕ → Type 0
FitsLoop us0 us nodes i = AllFit us0 nodes ↔ AllFit us (drop i nodes)

pub fits_begin : (us : List ℕ) (nodes : List Node) → FitsLoop us us nodes 0
fits_begin us nodes = (λ h. h, λ h. h)

module _ (us0 us : List ℕ) (nodes : List Node) (i : ℕ) (n : Node) (lt : i < length nodes) (at : n ≡ get_or nodes i n) (loop : FitsLoop us0 us nodes i) where
  pub fits_step : (us' : List ℕ) → us' ≡ left_after n us → FitsFree n (slice_index us 0) → FitsLoop us0 us' nodes (i + 1)
  fits_step us' e free =
      let d = drop_at nodes i n lt at in (
        λ h. (let all = subst (λ k. AllFit us k) d (loop.0 h) in subst (λ k. AllFit k (drop (i + 1) nodes)) (sym e) all.1),
        λ h. loop.1 (subst (λ k. AllFit us k) (sym d) (free, subst (λ k. AllFit k (drop (i + 1) nodes)) e h)),
      )

  pub fits_not : (FitsFree n (slice_index us 0) → ⊥) → AllFit us0 nodes → ⊥
  fits_not bad h = bad ((subst (λ k. AllFit us k) (drop_at nodes i n lt at) (loop.0 h)).0)

pub fits_end : (us0 us : List ℕ) (nodes : List Node) (i : ℕ) → length nodes ≤ i → FitsLoop us0 us nodes i → AllFit us0 nodes
fits_end us0 us nodes i le loop = loop.1 (subst (λ k. AllFit us k) (sym (drop_all nodes i le)) tt)
