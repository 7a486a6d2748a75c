-- The module without memories has the cycles of the module, and the same cycles follow.
use Rattle.std.proofs.Common.{◌≡◌, ℕ, ◌+◌, ◌/◌, ◌%◌, ◌^◌, ◌<◌, Bool, true, false, nat_eq, List, [], ◌∷◌, Option, max, sym, ap, ◌∙◌, refl, inl, ⊎_elim, subst, arith}
use Rattle.std.specs.Prelude.{if◌then◌else◌, pos, unwrap_or}
use Rattle.std.specs.Int.{bit_at}
use Rattle.std.specs.List.{flat_map}
use Rattle.std.specs.Option.{option_map}
use Rattle.std.specs.Str.{bytes_eq}
use Rattle.std.proofs.Math.Nat.{div-one, mod-mod}
use Rattle.std.proofs.lemmas.Bool.{eqb-true, eq-eqb}
use Rattle.std.proofs.lemmas.Slice.Eq.{bytes_eq-Decides}
use Rattle.vlog_tree.specs.declared.expr.Constant.{Constant}
use Rattle.vlog_tree.specs.declared.item.Assign.{Assign}
use Rattle.vlog_tree.specs.declared.stmt.Lval.{Lval}
use Rattle.vlog_tree.specs.declared.stmt.Lval.TheVariants as l
use Rattle.vlog_tree.specs.declared.valuation.Entry.{Entry}
use Rattle.vlog_tree.specs.Valuation.{IsLength, meant, named, word_name}
use Rattle.vlog_tree.specs.Value.{vector}
use Rattle.vlog_tree_runs.specs.declared.flat.Always.{Always}
use Rattle.vlog_tree_runs.specs.declared.flat.Flat.{Flat}
use Rattle.vlog_tree_runs.specs.declared.flat.Signal.{Signal}
use Rattle.vlog_tree_runs.specs.Places.{Name, Cycle, Among, Place, read, holders, valuation, write_bits, whole_piece, give}
use Rattle.vlog_tree_runs.specs.Blocks.{run, lefts, left_names}
use Rattle.vlog_tree_runs.specs.Contents.{is_among}
use Rattle.vlog_tree_runs.specs.Scopes.{own_link}
use Rattle.vlog_tree_runs.specs.Cycles.{flat_place, linked, DrivesBit, DrivesWord, DrivesFull, IsRegister, IsDriven, IsClocked, IsInput, IsCycle, Follows, IsRun}
use Rattle.mem_laws.proofs.Writing.{own_written}
use Rattle.elab_flat_laws.proofs.Lists.{bool_cases, among_flat, flat_among, among_map, map_among}
use Rattle.elab_flat_laws.proofs.Driving.{drives_named}
use Rattle.elab_flat_faults.specs.Constants.{at_rest}
use Rattle.mem_laws.specs.Spread.{spread_stmt, spread_assign, spread_block, idle_words, keeper, spread_flat}
use Rattle.mem_laws.specs.Laws.{CanSpread, KeepsRuns, DeclaresWords}
use Rattle.mem_laws.specs.Stands.{IsFaultless}
use Rattle.mem_laws.proofs.Reading.{word_named}
use Rattle.mem_laws.proofs.Sides.{store_spread}
use Rattle.mem_laws.proofs.Statements.{statements_do}
use Rattle.mem_laws.proofs.Finding.{word, word_is}
use Rattle.mem_laws.proofs.Names.{IsWord, holder_is, holder_plain, known_once, holders_repeat, plain_held, word_held, depth_is, is_among_true, among_is_true}
use Rattle.mem_laws.proofs.Module.{asked, into, plain_holder, own_holder, assign_plain, assign_right, block_spreadable, block_in, block_of, keeper_in, drive_to, drive_from, driven_to, driven_from, clocked_to, clocked_from, keeper_drives, word_register, register_to, register_from, idle_word, idle_unassigned}

-- ---- a word that is assigned to itself

own_bits : (n y : ℕ) → write_bits n (pos 0) n (y % 2 ^ (n + 0) / 1) y ≡ y
own_bits n y =
    let w : n + 0 ≡ n = omega arith in
    own_written n 0 n (y % 2 ^ (n + 0) / 1) y
    (ap (λ k. k % 2 ^ n) (div-one (y % 2 ^ (n + 0))) ∙ (ap (λ k. y % 2 ^ k % 2 ^ n) w ∙ (mod-mod y (2 ^ n) ∙ ap (λ k. k % 2 ^ n) (sym (div-one y)))))

-- a store of a name's own value, where the name stands for an unsigned vector
abbrev stores_own : Name → Constant → Cycle → Cycle
stores_own x k c =
    give (whole_piece x k ∷ []) ((vector k.width k.signed k.value).value (max k.width (k.width + 0)) k.signed % 2 ^ (k.width + 0)) c

own_stored : (x : Name) (n : ℕ) (c : Cycle) → stores_own x (record { width = n; low = 0; signed = false; value = c x }) c x ≡ c x
own_stored x n c =
    let b : bytes_eq x x ≡ true = (bytes_eq-Decides x x).1 refl in
    ap (λ (t : Bool). if t then write_bits n (pos 0) n (c x % 2 ^ (n + 0) / 1) (c x) else c x) b ∙ own_bits n (c x)

module _ (f : Flat) (can : CanSpread f) (fine : IsFaultless f) where
  abbrev rest : List Entry
  rest = at_rest (flat_place f)

  abbrev old : Place
  old = flat_place f

  abbrev new : Place
  new = flat_place (spread_flat f)

  -- ---- the same effects

  link_same : (a : Assign) → Among f.assigns a → (c : Cycle) → linked (own_link new (spread_assign rest a)) c ≡ linked (own_link old a) c
  link_same a h c =
      store_spread rest f.signals (flat_map holders f.signals) c a.left a.right c (into f can fine) (assign_plain f can fine a h) (assign_right f can fine a h)

  run_same : (t : Bool) (k : Always) → Among f.blocks k → (t ≡ true → k.clocked ≡ false) → (c d : Cycle) → run t new (spread_stmt rest k.body) c d ≡ run t old k.body c d
  run_same t k h comb c d =
      statements_do t rest f.signals (flat_map holders f.signals) k.body c d (into f can fine) (block_spreadable f can fine t k h comb)

  late_same : (k : Always) → Among f.blocks k → (c d : Cycle) → run false new (spread_stmt rest k.body) c d ≡ run false old k.body c d
  late_same k h c d = run_same false k h (λ e. let no : ⊥ = cc in absurd no) c d

  -- a keeper keeps its word
  keeper_keeps : (x : Name) → Among (idle_words f) x → (c : Cycle) → run false new (keeper x).body c c x ≡ c x
  keeper_keeps x h c =
      let w = idle_word f can fine x h in
      let g = w.memory in
      let n = (named rest (read g.name)).width in
      let here = word_is f.signals c (asked f can fine) g w.index w.among w.deep w.below in
      let value : (named (valuation old c) (word_name (read g.name) w.index)).value ≡ c (word_name (read g.name) w.index).text =
      ap (λ (o : Option Entry). (unwrap_or (option_map meant o) (record { width = 1; low = 0; signed = false; value = 0 })).value) here in
      let deep = subst (λ k. w.index < k) (sym (depth_is f.signals (asked f can fine) can.distinct (λ z. 0) g w.among)) w.below in
      let stands : named (valuation new c) (word_name (read g.name) w.index) ≡ record { width = n; low = 0; signed = false; value = c (word_name (read g.name) w.index).text } =
      word_named rest (valuation old c) (valuation new c) (into f can fine c) (read g.name) w.index deep ∙ (λ q. record { width = n; low = 0; signed = false; value = value q }) in
      let y = (word_name (read g.name) w.index).text in
      let kept : run false new (keeper y).body c c y ≡ c y = ap (λ k. stores_own y k c y) stands ∙ own_stored y n c in
      subst (λ z. run false new (keeper z).body c c z ≡ c z) w.is kept

  -- ---- cycles

  cycle_to : (c : Cycle) → IsCycle f c → IsCycle (spread_flat f) c
  cycle_to c h = record {
    fits = λ k w n o.
        let r = among_flat holders f.signals k n in
        let i : k ≡ w = plain_holder k w (holder_plain f.signals k n) o in
        subst (λ (u : Signal). c u.name < 2 ^ u.width) i (h.fits r.0 k r.1 r.2);
    links = λ a n x.
        let r = among_map (spread_assign rest) f.assigns a n in
        subst (λ (u : Assign). linked (own_link new u) c x ≡ c x) r.2 (ap (λ (d : Cycle). d x) (link_same r.0 r.1 c) ∙ h.links r.0 r.1 x);
    blocks = λ k n comb x.
        ⊎_elim
        (λ (j : (j : Always) × Among f.blocks j × (spread_block rest j ≡ k)).
        let early : j.0.clocked ≡ false = ap (λ (u : Always). u.clocked) j.2 ∙ comb in
        subst (λ (u : Always). run true new u.body c c x ≡ c x) j.2
        (ap (λ (d : Cycle). d x) (run_same true j.0 j.1 (λ e. early) c c) ∙ h.blocks j.0 j.1 early x))
        (λ (j : (y : Name) × Among (idle_words f) y × (keeper y ≡ k)). let z : true ≡ false = ap (λ (u : Always). u.clocked) j.2 ∙ comb in let no : ⊥ = cc in absurd no)
        (block_of f can fine k n);
    unset = λ k w b n o nd nr ni.
        let r = among_flat holders f.signals k n in
        let i : k ≡ w = plain_holder k w (holder_plain f.signals k n) o in
        let name : k.name ≡ w.name = ap (λ (u : Signal). u.name) i in
        sym (ap (λ y. bit_at (c y) b) name)
        ∙ h.unset r.0 k b r.1 r.2 (λ z. nd (subst (λ y. IsDriven (spread_flat f) y b) name (driven_to f can fine k.name b z)))
        (λ z. nr (subst (λ y. IsRegister (spread_flat f) y) name (register_to f can fine k.name z)))
        (λ z. ni (subst (λ y. IsInput f y) name z));
  }

  cycle_from : (c : Cycle) → IsCycle (spread_flat f) c → IsCycle f c
  cycle_from c h = record {
    fits = λ g w n o.
        let k = flat_among holders f.signals g w n o in
        h.fits w w k (own_holder w (holder_plain f.signals w k));
    links = λ a n x.
        sym (ap (λ (d : Cycle). d x) (link_same a n c)) ∙ h.links (spread_assign rest a) (map_among (spread_assign rest) f.assigns a n) x;
    blocks = λ k n comb x.
        sym (ap (λ (d : Cycle). d x) (run_same true k n (λ e. comb) c c)) ∙ h.blocks (spread_block rest k) (block_in f can fine k n) comb x;
    unset = λ g w b n o nd nr ni.
        let k = flat_among holders f.signals g w n o in
        h.unset w w b k (own_holder w (holder_plain f.signals w k))
        (λ z. nd (driven_from f can fine w.name b z)) (λ z. nr (register_from f can fine w.name z)) (λ z. ni z);
  }

  -- ---- what follows

  -- a word that no block assigns isn't clocked
  idle_unclocked : (x : Name) (b : ℕ) → Among (idle_words f) x → IsClocked f x b → ⊥
  idle_unclocked x b h (k, mk, ck, left, ml, d) =
      let r = drive_to f can fine k left x b mk ml d in
      idle_unassigned f can fine x h k mk r.0 r.1 (named r.0 r.2)
    where
      apart : true ≡ false → ⊥
      apart e = cc

      named : (u : Lval) → DrivesFull new u x b → Among (left_names u) x
      named u d =
          ⊎_elim (λ (i : DrivesBit new u x b). subst (λ z. Among (left_names u) z) (sym i.3) (drives_named new u i.0.name b i.4))
          (λ (w : DrivesWord new u x). let no : true ≡ false = sym (holder_plain f.signals w.0 w.1) ∙ w.2 in absurd (apart no)) d

  idle_register : (x : Name) → Among (idle_words f) x → IsRegister f x
  idle_register x h =
      let w = idle_word f can fine x h in
      subst (λ y. IsRegister f y) w.is (register_from f can fine (word_name (read w.memory.name) w.index).text (word_register f can fine w.memory w.index w.among w.deep w.below))

  idle_driven : (x : Name) (b : ℕ) → Among (idle_words f) x → DrivesFull new (l.Name x) x b
  idle_driven x b h =
      let w = idle_word f can fine x h in
      inl (word w.memory w.index, word_held f.signals w.memory w.index w.among w.deep w.below, refl, sym w.is, sym w.is)

  follows_to : (c d : Cycle) → Follows f c d → Follows (spread_flat f) c d
  follows_to c d h = record {
    driven = λ k n ck left o x b z.
        ⊎_elim
        (λ (j : (j : Always) × Among f.blocks j × (spread_block rest j ≡ k)).
        let u : Among (lefts (spread_stmt rest j.0.body)) left = subst (λ (v : Always). Among (lefts v.body) left) (sym j.2) o in
        let r = drive_from f can fine j.0 left x b j.1 u z in
        h.driven j.0 j.1 (ap (λ (v : Always). v.clocked) j.2 ∙ ck) r.0 r.1 x b r.2
        ∙ (sym (ap (λ (v : Cycle). bit_at (v x) b) (late_same j.0 j.1 c c)) ∙ ap (λ (v : Always). bit_at (run false new v.body c c x) b) j.2))
        (λ (j : (y : Name) × Among (idle_words f) y × (keeper y ≡ k)).
        let u : Among (lefts (keeper j.0).body) left = subst (λ (v : Always). Among (lefts v.body) left) (sym j.2) o in
        let same : j.0 ≡ x = keeper_drives f can fine j.0 x b left u z in
        let idle : Among (idle_words f) x = subst (λ y. Among (idle_words f) y) same j.1 in
        let w = idle_register x idle in
        h.kept x b w (idle_unclocked x b idle)
        ∙ (ap (λ n. bit_at n b) (sym (keeper_keeps x idle c)) ∙ (ap (λ y. bit_at (run false new (keeper y).body c c x) b) (sym same) ∙ ap (λ (v : Always). bit_at (run false new v.body c c x) b) j.2)))
        (block_of f can fine k n);
    kept = λ x b r n. h.kept x b (register_from f can fine x r) (λ z. n (clocked_to f can fine x b z));
  }

  follows_from : (c d : Cycle) → Follows (spread_flat f) c d → Follows f c d
  follows_from c d h = record {
    driven = λ k n ck left o x b z.
        let r = drive_to f can fine k left x b n o z in
        h.driven (spread_block rest k) (block_in f can fine k n) ck r.0 r.1 x b r.2 ∙ ap (λ (v : Cycle). bit_at (v x) b) (late_same k n c c);
    kept = λ x b r n.
        ⊎_elim
        (λ (t : is_among (idle_words f) x ≡ true).
        let i = is_among_true (idle_words f) x t in
        h.driven (keeper x) (keeper_in f can fine x i) refl (l.Name x) (inl refl) x b (idle_driven x b i) ∙ ap (λ u. bit_at u b) (keeper_keeps x i c))
        (λ (t : is_among (idle_words f) x ≡ false).
        h.kept x b (register_to f can fine x r)
        (λ z. ⊎_elim (λ k. n k) (λ i. let u = among_is_true (idle_words f) x i in let no : true ≡ false = sym u ∙ t in apart no) (clocked_from f can fine x b z)))
        (bool_cases (is_among (idle_words f) x));
  }
    where
      apart : true ≡ false → ⊥
      apart e = cc

  -- ---- runs

  run_to : (n : ℕ) (c : ℕ → Cycle) → IsRun f n c → IsRun (spread_flat f) n c
  run_to n c h = record { cycles = λ t l. cycle_to (c t) (h.cycles t l); steps = λ t l. follows_to (c t) (c (t + 1)) (h.steps t l) }

  run_from : (n : ℕ) (c : ℕ → Cycle) → IsRun (spread_flat f) n c → IsRun f n c
  run_from n c h = record { cycles = λ t l. cycle_from (c t) (h.cycles t l); steps = λ t l. follows_from (c t) (c (t + 1)) (h.steps t l) }

  pub keeps : KeepsRuns f
  keeps = record {
    cycle = λ c. (cycle_to c, cycle_from c);
    follows = λ c d. (follows_to c d, follows_from c d);
    runs = λ n c. (run_to n c, run_from n c);
  }

  -- ---- what is declared

  wide_of : (k : Signal) → Among (spread_flat f).signals k → IsLength k.width
  wide_of k h =
      ⊎_elim (λ (p : Among f.signals k × (nat_eq k.depth 0 ≡ true)). can.wide k p.0)
      (λ (w : IsWord f.signals k). subst (λ n. IsLength n) (ap (λ (u : Signal). u.width) w.is) (can.wide w.memory w.among)) (holder_is f.signals k h)

  pub declares : DeclaresWords f
  declares = record {
    signals = refl;
    plain = λ k h. eqb-true k.depth 0 (holder_plain f.signals k h);
    wide = wide_of;
    distinct = λ x h. known_once f.signals (asked f can fine) can.distinct x (holders_repeat f.signals x h);
    ports = refl;
    each_port = λ p h.
        let g = can.ports p h in
        (g.0, plain_held f.signals g.0 g.1 (eq-eqb g.0.depth 0 g.3), g.2);
    clock = refl;
    asyncs = refl;
  }
