-- A module without faults of memories can be made a design without them.
use Rattle.std.proofs.Common.{◌≡◌, ◌<◌, ◌≤◌, Bool, true, false, nat_eq, List, [], ◌∷◌, map, sym, ap, refl, subst, inl, inr, ⊎_elim, arith}
use Rattle.vlog_tree.specs.declared.expr.Expr.TheVariants as e
use Rattle.vlog_tree.specs.declared.item.Assign.{Assign}
use Rattle.vlog_tree.specs.declared.stmt.Lval.TheVariants as l
use Rattle.vlog_tree.specs.declared.valuation.Entry.{Entry}
use Rattle.vlog_tree.specs.Valuation.{named}
use Rattle.vlog_tree.specs.Value.{width_of, Stands}
use Rattle.vlog_tree_runs.specs.declared.flat.Always.{Always}
use Rattle.vlog_tree_runs.specs.declared.flat.Flat.{Flat}
use Rattle.vlog_tree_runs.specs.declared.flat.Signal.{Signal}
use Rattle.vlog_tree_runs.specs.Places.{Name, Among, read, valuation}
use Rattle.vlog_tree_runs.specs.Cycles.{flat_place}
use Rattle.elab_flat_laws.proofs.Lists.{among_map}
use Rattle.elab_flat_faults.specs.Constants.{at_rest}
use Rattle.elab_flat_faults.specs.Handed.{AreNumbered}
use Rattle.mem_laws.specs.declared.fault.MemFault.TheVariants as m
use Rattle.mem_laws.specs.Spread.{spread_assign, spread_block, idle_words, keeper, spread_flat}
use Rattle.mem_laws.specs.Laws.{CanSpread, DeclaresWords, Spreads, IsSpreadable}
use Rattle.mem_laws.specs.Stands.{IsFaultless}
use Rattle.mem_laws.proofs.Forming.{fixed_after}
use Rattle.mem_laws.proofs.Keeps.{declares}
use Rattle.mem_laws.proofs.Module.{asked, into, assign_plain, assign_right, block_spreadable, block_of, idle_word}
use Rattle.mem_laws.proofs.Names.{IsWord, depth_is, holder_is}
use Rattle.elab_step_blocks.specs.Ready.{IsReadyStore, IsReadyStmt}
use Rattle.elab_step_nets.specs.Solving.{ArePlain}
use Rattle.elab_step_nets.specs.Asked.{CanElaborate}
use Rattle.desk_core_stage_laws.specs.Sized.{HasOwnWords, HasSizedTexts}
use Rattle.desk_core_stage_laws.proofs.Lengths.{name_length, longer}
use Rattle.desk_core_stage_laws.proofs.Signals.{signal_name, no_repeats}
use Rattle.desk_core_stage_laws.proofs.Asking.{can_spread}
use Rattle.desk_core_stage_laws.proofs.Spreading.{stmt_after}
use Rattle.desk_core_stage_laws.proofs.Storing.{assign_after, word_stands}

all_plain : (gs : List Signal) → ((g : Signal) → Among gs g → g.depth ≡ 0) → ArePlain gs
all_plain [] h = tt
all_plain (g ∷ gs) h = (h g (inl refl), all_plain gs (λ k n. h k (inr n)))

-- a name that is assigned to itself
own_store : (v : List Entry) (x : Name) → Stands v (read x) → IsReadyStore v (l.Name x) (e.Name (read x))
own_store v x stands =
    let len = name_length v (read x) stands in
    let k = longer (width_of v (e.Name (read x))) (named v (read x)).width len len in
    record {
      left_side = stands;
      length = len;
      right_side = record { ready = record { formed = stands; some = k.0; long = omega arith; most = k.1 }; constant = tt; defined = refl };
    }

module _ (f : Flat) (h : HasSizedTexts f) (fine : IsFaultless f) where
  abbrev r : List Entry
  r = at_rest (flat_place f)

  abbrev w : List Entry
  w = valuation (flat_place (spread_flat f)) (λ x. 0)

  can : CanSpread f
  can = can_spread f h

  spreads : Spreads r r w
  spreads = into f can fine (λ x. 0)

  words : DeclaresWords f
  words = declares f can fine

  own_words : HasOwnWords f
  own_words x k = fine (m.Twice x) k

  assigns : (a : Assign) → Among (spread_flat f).assigns a → IsReadyStore w a.left a.right
  assigns a n =
      let b = among_map (spread_assign r) f.assigns a n in
      subst (λ (z : Assign). IsReadyStore w z.left z.right) b.2
      (assign_after r w spreads b.0.left b.0.right (assign_plain f can fine b.0 b.1) (assign_right f can fine b.0 b.1) (h.assigns own_words b.0 b.1))

  spreadable : (k : Always) → Among f.blocks k → (t : Bool) → k.clocked ≡ t → (u : Bool) × IsSpreadable u r k.body
  spreadable k n true t = (false, block_spreadable f can fine false k n (λ z. let no : false ≡ true = z in cc))
  spreadable k n false t = (true, block_spreadable f can fine true k n (λ z. t))

  -- a word that keeps its value
  kept : (x : Name) → Among (idle_words f) x → IsReadyStmt w (keeper x).body
  kept x n =
      let v = idle_word f can fine x n in
      let deep = subst (λ k. v.index < k) (sym (depth_is f.signals (asked f can fine) can.distinct (λ z. 0) v.memory v.among)) v.below in
      own_store w x (subst (λ y. Stands w (read y)) v.is (word_stands r w spreads v.memory.name v.index deep))

  blocks : (k : Always) → Among (spread_flat f).blocks k → IsReadyStmt w k.body
  blocks k n =
      ⊎_elim
      (λ (j : (j : Always) × Among f.blocks j × (spread_block r j ≡ k)).
      let u = spreadable j.0 j.1 j.0.clocked refl in
      subst (λ (z : Always). IsReadyStmt w z.body) j.2 (stmt_after r w spreads u.0 j.0.body u.1 (h.blocks j.0 j.1)))
      (λ (j : (x : Name) × Among (idle_words f) x × (keeper x ≡ k)). subst (λ (z : Always). IsReadyStmt w z.body) j.2 (kept j.0 j.1))
      (block_of f can fine k n)

  all_ready : CanElaborate (spread_flat f)
  all_ready = record {
    distinct = no_repeats (map signal_name (spread_flat f).signals) words.distinct;
    plain = all_plain (spread_flat f).signals words.plain;
    wide = words.wide;
    assigns = assigns;
    constant = λ a n i j. fixed_after f h.constant a n i j;
    blocks = blocks;
    ports = words.each_port;
    once = h.once;
  }

pub can_elaborate : (f : Flat) → HasSizedTexts f → IsFaultless f → CanElaborate (spread_flat f)
can_elaborate f h fine = all_ready f h fine

pub is_numbered : (f : Flat) → HasSizedTexts f → AreNumbered f → AreNumbered (spread_flat f)
is_numbered f h n g i =
    ⊎_elim (λ (p : Among f.signals g × (nat_eq g.depth 0 ≡ true)). n g p.0)
    (λ (v : IsWord f.signals g).
    let low : 0 ≡ g.low = ap (λ (u : Signal). u.low) v.is in
    let width : v.memory.width ≡ g.width = ap (λ (u : Signal). u.width) v.is in
    let most : v.memory.width ≤ 64 = (h.wide v.memory v.among).1 in
    omega (arith, low, width, most))
    (holder_is f.signals g i)
