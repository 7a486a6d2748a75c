-- The tables before the first statement.
use Rattle.std.proofs.Common.{◌≡◌, ℕ, zero, suc, ◌<◌, List, [], ◌∷◌, map, length, replicate, get_or, arith, sym, ap, ◌∙◌, subst}
use Rattle.std.specs.Int.{bit_at}
use Rattle.vlog_tree_runs.specs.declared.flat.Signal.{Signal}
use Rattle.elab_step_laws.specs.Flows.{at_start, block_flow}
use Rattle.elab_step_laws.specs.Laws.{place_over}
use Rattle.vlog_tree.specs.declared.stmt.Stmt.{Stmt}
use Rattle.elab_flat_drivers.specs.Claims.{ones}
use Rattle.elab_flat_drivers.proofs.Bits.{ones_set, set_ones}
use Rattle.vlog_tree_runs.specs.Places.{Among}
use Rattle.elab_flat_graphs.specs.Graphs.{successors}
use Rattle.elab_step_flow.specs.Sets.{Tables}
use Rattle.elab_step_flow.specs.Shows.{ArePlacesOf, Shows, AreDistinct, AreAllDeclared}
use Rattle.elab_step_flow.specs.Words.{IsSignalAt, all_ones}
use Rattle.elab_step_flow.specs.Passes.{IsStart, Passes}
use Rattle.elab_step_flow.proofs.Placing.{shown_signal}
use Rattle.elab_step_flow.proofs.Showing.{passes_show}

words_at : (gs : List Signal) (i : ℕ) (g : Signal) → IsSignalAt gs i g → get_or (map all_ones gs) i 0 ≡ ones 0 g.width
words_at [] i g h = absurd h
words_at (k ∷ gs) zero g h = ap all_ones h
words_at (k ∷ gs) (suc i) g h = words_at gs i g h

empty_at : (n i j : ℕ) → Among (successors (replicate n []) i) j → ⊥
empty_at zero i j h = h
empty_at (suc n) zero j h = h
empty_at (suc n) (suc i) j h = empty_at n i j h

pub starts : (gs : List Signal) → AreDistinct gs → (words : List ℕ) (rows : List (List ℕ)) (outside : List ℕ) → words ≡ map all_ones gs → rows ≡ replicate (length gs) [] → outside ≡ [] →
    IsStart gs (record { unset = λ i. get_or words i 0; through = λ i. successors rows i; outside = outside })
starts gs d words rows outside u t o = record {
  unset = λ i b x a.
      let g = shown_signal gs d x i a in
      let e : get_or words i 0 ≡ ones 0 g.0.width = ap (λ w. get_or w i 0) u ∙ words_at gs i g.0 g.1 in (
        λ h. subst (λ n. b < n) (sym g.2) (ones_set 0 g.0.width b (ap (λ m. bit_at m b) (sym e) ∙ h)).high,
        λ lt. ap (λ m. bit_at m b) e ∙ set_ones 0 g.0.width b (record { low = omega arith; high = subst (λ n. b < n) g.2 lt }),
      );
  through = λ i j h. empty_at (length gs) i j (subst (λ (z : List (List ℕ)). Among (successors z i) j) t h);
  outside = λ i h. subst (λ (z : List ℕ). Among z i) o h;
}

start_shows : (gs : List Signal) (s : Tables) → IsStart gs s → Shows gs s at_start
start_shows gs s k = record {
  unset = λ i b x a lt. (λ h. tt, λ h. (k.unset i b x a).1 lt);
  clear = λ i b x a h. (k.unset i b x a).0 h;
  through = λ i j y z a c. (λ h. k.through i j h, λ h. absurd h);
  row = λ i j y a h. absurd (k.through i j h);
  outside = record { within = λ i h. absurd (k.outside i h); each = λ i x a. (λ h. k.outside i h, λ h. absurd h) };
}

-- the tables at the end of a block show its flow
pub block_shows : (gs : List Signal) (body : Stmt) (around : List ℕ) (s t : Tables) → AreAllDeclared gs body → around ≡ [] → IsStart gs s → Passes gs around body s t → Shows gs t (block_flow (place_over gs) body)
block_shows gs body around s t d e k p = passes_show gs body around (λ z. ⊥) s t at_start d nothing (start_shows gs s k) p
  where
    nothing : ArePlacesOf gs around (λ z. ⊥)
    nothing = subst (λ (z : List ℕ). ArePlacesOf gs z (λ x. ⊥)) (sym e) (record { within = λ i h. absurd h; each = λ i x a. (λ h. h, λ h. h) })
