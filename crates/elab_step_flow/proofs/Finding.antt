-- What the tables at the end of a block say of its paths.
use Rattle.std.proofs.Common.{◌↔◌, ◌≡◌, ℕ, zero, suc, ◌+◌, ◌≤◌, ◌<◌, inl, inr, Bool, true, false, List, [], ◌∷◌, Some, None, length, get_or, drop, take, arith, sym, ap, ◌∙◌, subst}
use Rattle.std.specs.Prelude.{Option, IfSome, IfNone}
use Rattle.std.specs.List.{slice_get}
use Rattle.std.proofs.lemmas.List.{take_more}
use Rattle.vlog_tree.specs.declared.stmt.Lval.{Lval}
use Rattle.vlog_tree.specs.declared.stmt.Stmt.{Stmt, Row_of-Stmt, end_of-Stmt, more_of-Stmt, Row_of-CaseItem, end_of-CaseItem, more_of-CaseItem}
use Rattle.vlog_tree.specs.declared.stmt.Stmt.TheVariants as s
use Rattle.vlog_tree_runs.specs.declared.flat.Always.{Always}
use Rattle.vlog_tree_runs.specs.declared.flat.Flat.{Flat}
use Rattle.vlog_tree_runs.specs.declared.flat.Signal.{Signal}
use Rattle.vlog_tree_runs.specs.Places.{Name, Among, Place}
use Rattle.vlog_tree_runs.specs.Blocks.{lefts, row_lefts, case_lefts}
use Rattle.vlog_tree_runs.specs.Contents.{is_among}
use Rattle.elab_flat_laws.proofs.Lists.{among_append}
use Rattle.elab_flat_faults.specs.Paths.{width_in}
use Rattle.elab_flat_faults.specs.Drivers.{Block}
use Rattle.elab_flat_faults.specs.ElabStands.{MissesBit, ReadsUnlisted}
use Rattle.elab_step_laws.specs.Flows.{block_flow}
use Rattle.elab_step_laws.specs.Laws.{place_over, AreOfPaths}
use Rattle.elab_step_laws.proofs.Deciding.{one_unset}
use Rattle.elab_step_laws.proofs.Walking.{passes_are_paths}
use Rattle.elab_flat_drivers.specs.declared.claims.Claim.{Claim}
use Rattle.elab_flat_drivers.specs.declared.claims.Spot.{Spot}
use Rattle.elab_flat_drivers.specs.Claims.{IsClaimed, spot_in}
use Rattle.elab_flat_drivers.specs.Driving.{driver_claims}
use Rattle.elab_flat_drivers.proofs.Naming.{among_of, of_among}
use Rattle.elab_flat_drivers.proofs.Spots.{shown, width_is, has_spot}
use Rattle.elab_flat_drivers.proofs.Twice.{driver_told, told_driver}
use Rattle.elab_step_flow.specs.Asked.{Misses, AnyMisses, ReadsBesides, AnyReadsUnlisted, OfSignal}
use Rattle.elab_step_flow.specs.Ready.{IsLeftReady, IsReady, AreReady, AreItemsReady}
use Rattle.elab_step_flow.specs.Sets.{Tables, HasBit}
use Rattle.elab_step_flow.specs.Shows.{IsAt, Shows}
use Rattle.elab_step_flow.proofs.Showing.{at_lt}
use Rattle.elab_step_flow.proofs.Listing.{among_at, first_or, none_left}

-- ---- the left sides of a statement

mutual
  pub lefts_ready : (gs : List Signal) (body : Stmt) → IsReady gs body → (left : Lval) → Among (lefts body) left → IsLeftReady left
  lefts_ready gs s.Empty h left m = absurd m
  lefts_ready gs (s.Block' n g row) h left m = row_ready gs row h left m
  lefts_ready gs (s.If' a g (more_of-Stmt x end_of-Stmt)) h left m = lefts_ready gs x h left m
  lefts_ready gs (s.IfElse' a g (more_of-Stmt x end_of-Stmt) k (more_of-Stmt y end_of-Stmt)) h left m =
      elim (among_append (lefts x) (lefts y) left m) [ inl f ↦ lefts_ready gs x h.0 left f | inr f ↦ lefts_ready gs y h.1 left f ]
  lefts_ready gs (s.Case' kind a g row) h left m = items_ready gs row h.1 left m
  lefts_ready gs (s.Blocking x right) h left (inl e) = subst (λ z. IsLeftReady z) e h
  lefts_ready gs (s.Blocking x right) h left (inr e) = absurd e
  lefts_ready gs (s.Nonblocking x right) h left (inl e) = subst (λ z. IsLeftReady z) e h
  lefts_ready gs (s.Nonblocking x right) h left (inr e) = absurd e

  row_ready : {m : _} (gs : List Signal) (row : Row_of-Stmt m) → AreReady gs row → (left : Lval) → Among (row_lefts row) left → IsLeftReady left
  row_ready gs end_of-Stmt h left m = absurd m
  row_ready gs (more_of-Stmt a rest) h left m = elim (among_append (lefts a) (row_lefts rest) left m) [ inl f ↦ lefts_ready gs a h.0 left f | inr f ↦ row_ready gs rest h.1 left f ]

  items_ready : {m : _} (gs : List Signal) (row : Row_of-CaseItem m) → AreItemsReady gs row → (left : Lval) → Among (case_lefts row) left → IsLeftReady left
  items_ready gs end_of-CaseItem h left m = absurd m
  items_ready gs (more_of-CaseItem labels body rest) h left m = elim (among_append (lefts body) (case_lefts rest) left m) [ inl f ↦ lefts_ready gs body h.0 left f | inr f ↦ items_ready gs rest h.1 left f ]

-- ---- places

pub named_there : (gs : List Signal) (i : ℕ) (g : Signal) (x : Name) → slice_get gs i ≡ Some g → g.name ≡ x → IsAt gs i x
named_there [] i g x e f = cc
named_there (k ∷ gs) zero g x e f = let z : k ≡ g = some_is k g e in ap (λ (z : Signal). z.name) z ∙ f
  where
    some_is : (a b : Signal) → Some a ≡ Some b → a ≡ b
    some_is a b e = cc
named_there (k ∷ gs) (suc i) g x e f = named_there gs i g x e f

pub spot_there : (gs : List Signal) (x : Name) (t : Spot) → spot_in gs x ≡ Some t → IsAt gs t.place x
spot_there gs x t e =
    let r = shown 0 gs x t e in
    let q : t.place ≡ 0 + r.at = r.place in
    let same : r.at ≡ t.place = omega arith in
    subst (λ k. IsAt gs k x) same (named_there gs r.at r.signal x r.there r.name)

pub at_same : (gs : List Signal) (i : ℕ) (x y : Name) → IsAt gs i x → IsAt gs i y → x ≡ y
at_same [] i x y a b = absurd a
at_same (g ∷ gs) zero x y a b = sym a ∙ b
at_same (g ∷ gs) (suc i) x y a b = at_same gs i x y a b

pub signal_named : (gs : List Signal) (i : ℕ) (g : Signal) → i < length gs → g ≡ get_or gs i g → IsAt gs i g.name
signal_named [] i g lt is = absurd (omega arith)
signal_named (k ∷ gs) zero g lt is = ap (λ (z : Signal). z.name) (sym is)
signal_named (k ∷ gs) (suc i) g lt is = signal_named gs i g (omega arith) is

-- each of some places is looked at
pub absent_next : (gs : List Signal) (places : List ℕ) (listed : List Name) (k : ℕ) (r : Bool) → k < length places → ((x : Name) → IsAt gs (get_or places k 0) x → r ≡ is_among listed x) → r ≡ true
    → ((i : ℕ) (x : Name) → IsAt gs i x → Among (take k places) i → is_among listed x ≡ true) → (i : ℕ) (x : Name) → IsAt gs i x → Among (take (k + 1) places) i → is_among listed x ≡ true
absent_next gs places listed k r lt is listing before i x a m = elim (among_append (take k places) (get_or places k 0 ∷ []) i (subst (λ z. Among z i) (take_more places k 0 lt) m)) [
  | inl f ↦ before i x a f
  | inr f ↦ elim f [ inl e ↦ sym (is x (subst (λ j. IsAt gs j x) (sym e) a)) ∙ listing | inr e ↦ absurd e ]
]

-- ---- one block

module _ (gs : List Signal) (body : Stmt) (s : Tables) (h : Shows gs s (block_flow (place_over gs) body)) where
  abbrev p : Place
  p = place_over gs

  paths : AreOfPaths p body (block_flow p body)
  paths = passes_are_paths p body

  module _ (claims : List Claim) (e : claims ≡ driver_claims gs (Block (lefts body))) where
    pub missed : (i b : ℕ) → IsClaimed claims i b → HasBit s.unset i b → OfSignal gs i (Misses p body)
    missed i b c o =
        let t = driver_told gs (Block (lefts body)) tt i b (subst (λ z. IsClaimed z i b) e c) in
        let a : IsAt gs i t.name = subst (λ k. IsAt gs k t.name) t.place (spot_there gs t.name t.spot t.at) in
        let lt : b < width_in p t.name = subst (λ k. b < k) (sym (width_is gs t.name t.spot t.at)) t.within in
        (t.name, a, (b, lt, t.drives, (paths.unset t.name b).0 ((h.unset i b t.name a lt).0 o)))

    pub none_missed : ((i b : ℕ) → IsClaimed claims i b → HasBit s.unset i b → ⊥) → (x : Name) → Misses p body x → ⊥
    none_missed none x (b, lt, d, u) =
        let t = has_spot gs x b lt in
        let w : b < t.0.width = subst (λ k. b < k) (width_is gs x t.0 t.1) lt in
        none t.0.place b (subst (λ z. IsClaimed z t.0.place b) (sym e) (told_driver gs (Block (lefts body)) x t.0 b tt t.1 w d))
        ((h.unset t.0.place b x (spot_there gs x t.0 t.1) lt).1 ((paths.unset x b).1 u))

  module _ (listed : List Name) where
    pub besides : (i : ℕ) → OfSignal gs i (λ x. Among s.outside i × (is_among listed x ≡ false)) → OfSignal gs i (ReadsBesides p body listed)
    besides i (x, a, (o, absent)) = (x, a, ((paths.outside x).0 ((h.outside.each i x a).0 o), λ m. clash (sym (of_among listed x m) ∙ absent)))
      where
        clash : true ≡ false → ⊥
        clash e = cc

    pub none_besides : ((i : ℕ) (x : Name) → IsAt gs i x → Among s.outside i → is_among listed x ≡ true) → (x : Name) → ReadsBesides p body listed x → ⊥
    none_besides none x (r, absent) =
        let u = one_unset p r.0 x r.5 in
        let t = has_spot gs x u.0 u.1 in
        let a = spot_there gs x t.0 t.1 in
        absent (among_of listed x (none t.0.place x a ((h.outside.each t.0.place x a).1 ((paths.outside x).1 r))))

-- ---- some blocks

module _ (gs : List Signal) (Q : Always → Name → Type 0) where
  abbrev pub AnyBlock : List Always → Name → Type 0
  AnyBlock ks x = (k : Always) × Among ks k × Q k x

  pub block_found : (ks : List Always) (i place : ℕ) (k : Always) → i < length ks → k ≡ get_or ks i k → OfSignal gs place (Q k) → OfSignal gs place (AnyBlock ks)
  block_found ks i place k lt is (x, a, q) = (x, a, (k, among_at ks i k lt is, q))

  pub block_passed : (ks : List Always) (i : ℕ) (k : Always) → i < length ks → k ≡ get_or ks i k → ((x : Name) → Q k x → ⊥) → (x : Name) → AnyBlock (drop i ks) x → AnyBlock (drop (i + 1) ks) x
  block_passed ks i k lt is none x (j, m, q) = elim (first_or ks i k j lt is m) [ inl e ↦ absurd (none x (subst (λ z. Q z x) (sym e) q)) | inr f ↦ (j, f, q) ]

  pub block_none : (ks : List Always) (i : ℕ) → length ks ≤ i → (x : Name) → AnyBlock (drop i ks) x → ⊥
  block_none ks i le x (k, m, q) = none_left ks i k le m

pub if_some : {A : Type 0} (o : Option A) (P Q : A → Type 0) → ((a : A) → P a → Q a) → IfSome o P → IfSome o Q
if_some (Some a) P Q f h = f a h
if_some None P Q f h = tt

pub if_none : {A : Type 0} (o : Option A) (P Q : Type 0) → (P → Q) → IfNone o P → IfNone o Q
if_none (Some a) P Q f h = tt
if_none None P Q f h = f h

pub some_is : {A : Type 0} (o : Option A) (a : A) (P : A → Type 0) → o ≡ Some a → IfSome o P → P a
some_is o a P e h = subst (λ z. IfSome z P) e h

pub none_is : {A : Type 0} (o : Option A) (P : Type 0) → o ≡ None → IfNone o P → P
none_is o P e h = subst (λ z. IfNone z P) e h

-- ---- what lists of names leave out, by copies of them

module _ (ls gs : List Signal) (found places : List ℕ) (ns listed : List Name) (e : ls ≡ gs) (f : (i : ℕ) → Among found i ↔ Among places i) (g : ns ≡ listed) where
  abbrev Absent : List Signal → List ℕ → List Name → ℕ → Type 0
  Absent gs places listed i = OfSignal gs i (λ x. Among places i × (is_among listed x ≡ false))

  abbrev NoneAbsent : List Signal → List ℕ → List Name → Type 0
  NoneAbsent gs places listed = (i : ℕ) (x : Name) → IsAt gs i x → Among places i → is_among listed x ≡ true

  pub found_listed : (i : ℕ) → Absent ls found ns i → Absent gs places listed i
  found_listed i h =
      let k = subst (λ z. Absent gs found z i) g (subst (λ z. Absent z found ns i) e h) in
      (k.0, k.1, ((f i).0 k.2.0, k.2.1))

  pub none_listed : NoneAbsent ls found ns → NoneAbsent gs places listed
  none_listed h = let k = subst (λ z. NoneAbsent gs found z) g (subst (λ z. NoneAbsent z found ns) e h) in λ i x a m. k i x a ((f i).1 m)

-- ---- faults

module _ (m : Flat) (gs : List Signal) (ks : List Always) (e : gs ≡ m.signals) (f : ks ≡ m.blocks) where
  pub place_within : (P : Name → Type 0) (ls : List Signal) (i : ℕ) → ls ≡ gs → OfSignal gs i P → i < length ls
  place_within P ls i d (x, a, q) = subst (λ z. i < length z) (sym d) (at_lt gs i x a)

  -- what is found of some blocks is found of the module
  pub found_there : (Q : List Signal → Always → Name → Type 0) (ls : List Signal) (i : ℕ) (y : Name) → ls ≡ gs → OfSignal gs i (AnyBlock gs (Q gs) ks) → IsAt ls i y → AnyBlock m.signals (Q m.signals) m.blocks y
  found_there Q ls i y d (x, a, q) b =
      let same : x ≡ y = at_same gs i x y a (subst (λ z. IsAt z i y) d b) in
      subst (λ z. AnyBlock m.signals (Q m.signals) z y) f (subst (λ z. AnyBlock z (Q z) ks y) e (subst (AnyBlock gs (Q gs) ks) same q))

  pub none_there : (Q : List Signal → Always → Name → Type 0) → ((x : Name) → AnyBlock gs (Q gs) ks x → ⊥) → (x : Name) → AnyBlock m.signals (Q m.signals) m.blocks x → ⊥
  none_there Q h x q = h x (subst (λ z. AnyBlock z (Q z) ks x) (sym e) (subst (λ z. AnyBlock m.signals (Q m.signals) z x) (sym f) q))

pub misses_bit : (m : Flat) (x : Name) → AnyMisses m.signals m.blocks x → MissesBit m x
misses_bit m x (k, a, (c, (b, lt, d, u))) =
    record { block = k; combinational = (a, c); bit = b; left = d.0; within = lt; is_left = d.1; drives = d.2; steps = u.0; path = u.1; unset = u.2 }

pub bit_missed : (m : Flat) (x : Name) → MissesBit m x → AnyMisses m.signals m.blocks x
bit_missed m x h = (h.block, h.combinational.0, (h.combinational.1, (h.bit, h.within, (h.left, h.is_left, h.drives), (h.steps, h.path, h.unset))))

pub reads_unlisted : (m : Flat) (x : Name) → AnyReadsUnlisted m.signals m.blocks x → ReadsUnlisted m x
reads_unlisted m x (k, a, (c, (names, e, (r, absent)))) =
    record { block = k; combinational = (a, c); names = names; listed = e; before = r.0; after = r.1; step = r.2; path = r.3; reads = r.4; open' = r.5; absent = absent }

pub unlisted_read : (m : Flat) (x : Name) → ReadsUnlisted m x → AnyReadsUnlisted m.signals m.blocks x
unlisted_read m x h = (h.block, h.combinational.0, (h.combinational.1, (h.names, h.listed, ((h.before, h.after, h.step, h.path, h.reads, h.open'), h.absent))))
