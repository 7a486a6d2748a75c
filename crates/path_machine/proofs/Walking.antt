-- The path of a trace, property by property.
use Rattle.std.proofs.Common.{◌≡◌, ℕ, zero, suc, ◌+◌, ◌-◌, ◌<◌, ◌≤◌, Bool, true, false, List, [], ◌∷◌, ◌++◌, Option, Some, None, length, drop, get_or, refl, sym, ap, ◌∙◌, subst, arith, append_assoc, length-drop}
use Rattle.std.specs.Prelude.{max, nat_eq, if◌then◌else◌}
use Rattle.std.specs.List.{Contains}
use Rattle.std.proofs.lemmas.Bool.{ne_eqb}
use Rattle.std.proofs.lemmas.List.{drop-drop}
use Rattle.std.proofs.lemmas.List.Elements.{Contains-get_or}
use Rattle.std.proofs.Math.Seq.{drop-cons}
use Rattle.vlog_tree.specs.declared.expr.Expr.{Expr}
use Rattle.set_tree.specs.declared.path.At.{At}
use Rattle.set_tree.specs.declared.set.Property.{Property}
use Rattle.set_tree.specs.declared.set.Set.{Set}
use Rattle.set_tree.specs.Meaning.{Meaning, Row}
use Rattle.set_tree.specs.Parts.{IsOperation, IsPosition, assumed, end_of, end_until, largest_of, largest_window, property_at, window_of}
use Rattle.set_tree.specs.Paths.{GoesFrom, endless, last, unsplit, onward, next_of, step_at}
use Rattle.set_tree.specs.Structure.{IsSound}
use Rattle.twin_tests.specs.Reading.{HasStructure}
use Rattle.set_tree_completeness.proofs.Chain.{first_offset-within, found_member, window-le}
use Rattle.path_machine.specs.Steps.{GoesOn}

-- ---- the largest window

pub largest_more : (ps : List Property) (w x : ℕ) → largest_of ps (max w x) ≡ max x (largest_of ps w)
largest_more [] w x = omega arith
largest_more (p ∷ ps) w x = let rest = largest_more ps w x in omega (arith, rest)

pub largest_step : (ps : List Property) (i w new : ℕ) (p : Property) → i < length ps → p ≡ get_or ps i p → new ≡ max w p.window → largest_of (drop (i + 1) ps) new ≡ largest_of (drop i ps) w
largest_step ps i w new p lt is made =
    let first : drop i ps ≡ p ∷ drop (i + 1) ps = drop-cons ps i p lt ∙ (ap (λ (q : Property). q ∷ drop (suc i) ps) (sym is) ∙ ap (λ k. p ∷ drop k ps) (let e : suc i ≡ i + 1 = omega arith in e)) in
    ap (λ k. largest_of (drop (i + 1) ps) k) made ∙ (largest_more (drop (i + 1) ps) w p.window ∙ sym (ap (λ (qs : List Property). largest_of qs w) first))

-- ---- ends

-- an end lies no earlier than the length's low bound
end_low : (m : Meaning) (set : Set) (p n : ℕ) (rows : List Row) → end_of m set p rows ≡ Some n → (property_at set p).length.low ≤ n
end_low m set p n rows is = go (property_at set p).length.until refl
  where
    go : (u : Option Expr) → (property_at set p).length.until ≡ u → (property_at set p).length.low ≤ n
    go None fixed =
        let e : end_of m set p rows ≡ Some (property_at set p).length.low = ap (λ u. end_until m (property_at set p).length u rows) fixed in
        let same : (property_at set p).length.low ≡ n = cc in
        omega arith
    go (Some e) some = (first_offset-within m e rows (property_at set p).length.low (suc (property_at set p).length.high - (property_at set p).length.low) n (subst (λ (u : Option Expr). end_until m (property_at set p).length u rows ≡ Some n) some is)).0

-- a successor is a position
pub successor_at : (set : Set) (property : Property) (at i d : ℕ) (next : List ℕ) → HasStructure set → IsPosition set at → property ≡ property_at set at → next ≡ property.next → i < length next → IsPosition set (get_or next i d)
successor_at set property at i d next s position same listed lt =
    let there : next ≡ (property_at set at).next = listed ∙ ap (λ (p : Property). p.next) same in
    s.formed.successors at (get_or next i d) position (subst (λ (qs : List ℕ). Contains qs (get_or next i d)) there (Contains-get_or next i d lt))

-- ---- one property

module _ (set : Set) (rows here : List Row) (p s : ℕ) (is : here ≡ drop s rows) where
  here_long : length here ≡ length rows - s
  here_long = ap (λ (rs : List Row). length rs) is ∙ length-drop s rows

  pub window_fits : (w : ℕ) → w ≡ largest_window set → IsPosition set p → s + w < length rows → window_of set p < length here
  window_fits w largest position fits = let le = window-le set p position in let long = here_long in omega (arith, le, long, fits, largest)

  -- so many rows on
  pub later_is : (later : List Row) (n : ℕ) → later ≡ drop n here → later ≡ drop (s + n) rows
  later_is later n there = there ∙ (ap (λ (rs : List Row). drop n rs) is ∙ drop-drop n s rows)

  module _ (m : Meaning) (o : Option ℕ) (ends : o ≡ end_of m set p here) where
    pub end_there : (r : Option ℕ) → o ≡ r → end_of m set p (drop s rows) ≡ r
    end_there r same = ap (λ (rs : List Row). end_of m set p rs) (sym is) ∙ (sym ends ∙ same)

    pub stuck_endless : o ≡ None → GoesFrom m set rows p s (step_at p s ∷ []) true
    stuck_endless same = endless p s (end_there None same)

    module _ (n w : ℕ) (same : o ≡ Some n) (largest : w ≡ largest_window set) (fits : s + w < length rows) where
      pub ends_there : length here - w ≤ n → GoesFrom m set rows p s (step_at p s ∷ []) false
      ends_there past = last p s n (end_there (Some n) same) (let long = here_long in omega (arith, long, past, largest, fits))

      pub room_there : n < length here - w → s + n + largest_window set < length rows
      room_there room = let long = here_long in omega (arith, long, room, largest, fits)

      pub stuck_unsplit : (later : List Row) (next : Option ℕ) → n < length here - w → later ≡ drop n here → next ≡ next_of m set p later → next ≡ None → GoesFrom m set rows p s (step_at p s ∷ []) true
      stuck_unsplit later next room there first nothing =
          unsplit p s n (end_there (Some n) same) (room_there room) (ap (λ (rs : List Row). next_of m set p rs) (sym (later_is later n there)) ∙ (sym first ∙ nothing))

-- ---- the path so far

-- what goes on from the property at s goes on from reset behind these steps
pub record WalkLoop (m : Meaning) (set : Set) (rows : List Row) (p s : ℕ) (steps : List At) : Type 0 where
  pub position : IsPosition set p
  pub fits : s + largest_window set < length rows
  pub so_far : (more : List At) (stuck : Bool) → GoesFrom m set rows p s more stuck → GoesFrom m set rows 0 0 (steps ++ more) stuck

module _ (m : Meaning) (set : Set) (rows : List Row) where
  pub walk_begin : (steps : List At) → steps ≡ [] → largest_window set < length rows → WalkLoop m set rows 0 0 steps
  walk_begin steps empty fits = record {
    position = omega arith;
    fits = omega (arith, fits);
    so_far = λ more stuck goes. subst (λ (zs : List At). GoesFrom m set rows 0 0 (zs ++ more) stuck) (sym empty) goes;
  }

  -- the next one is an operation
  pub next_is : IsSound m set → (at next : At) → IsPosition set at.property → GoesOn m set rows at next → IsOperation set next.property
  next_is sound at next position g = sound.edges at.property next.property position (found_member (λ (q : ℕ). assumed m set q (drop (at.start + g.n) rows)) (property_at set at.property).next next.property g.first)

  pub walk_step : IsSound m set → (at next : At) (steps new : List At) → new ≡ steps ++ at ∷ [] → GoesOn m set rows at next → WalkLoop m set rows at.property at.start steps → WalkLoop m set rows next.property next.start new
  walk_step sound at next steps new made g l = record {
    position = (next_is sound at next l.position g).1;
    fits = let there = g.start in let room = g.fits in omega (arith, there, room);
    so_far = λ more stuck goes.
        let here : GoesFrom m set rows next.property (at.start + g.n) more stuck = subst (λ s. GoesFrom m set rows next.property s more stuck) g.start goes in
        let all = l.so_far (at ∷ more) stuck (onward at.property at.start g.n next.property more stuck g.ends g.fits g.first here) in
        let joined : new ++ more ≡ steps ++ at ∷ more = ap (λ (zs : List At). zs ++ more) made ∙ append_assoc steps (at ∷ []) more in
        subst (λ (zs : List At). GoesFrom m set rows 0 0 zs stuck) (sym joined) all;
  }

  -- what is left grows less
  pub walk_falls : IsSound m set → (at next : At) → IsPosition set at.property → GoesOn m set rows at next → length rows - next.start + (if nat_eq next.property 0 then 1 else 0) < length rows - at.start + (if nat_eq at.property 0 then 1 else 0)
  walk_falls sound at next position g =
      let op = next_is sound at next position g in
      let other : nat_eq next.property 0 ≡ false = ne_eqb next.property 0 (λ is. let some = op.0 in absurd (omega (arith, is, some))) in
      let there = g.start in
      let room = g.fits in
      rw other (by at.property refl position (end_low m set at.property g.n (drop at.start rows) g.ends) there room)
    where
      by : (p : ℕ) → at.property ≡ p → IsPosition set at.property → (property_at set at.property).length.low ≤ g.n → next.start ≡ at.start + g.n → at.start + g.n + largest_window set < length rows → length rows - next.start + 0 < length rows - at.start + (if nat_eq at.property 0 then 1 else 0)
      by zero is position low there room = rw is (omega (arith, there, room))
      by (suc p) is position low there room =
          let one : 1 ≤ (property_at set at.property).length.low = sound.advances at.property (omega (arith, is), position) in
          let some : nat_eq at.property 0 ≡ false = ne_eqb at.property 0 (λ zero_is. absurd (omega (arith, is, zero_is))) in
          rw some (omega (arith, there, room, low, one))
