-- Nets that are solved group after group have the values of a cycle, and no other cycle has these values of registers and inputs.
use Rattle.std.proofs.Common.{◌≡◌, ◌≢◌, ℕ, ◌^◌, ◌<◌, ◌||◌, Bool, true, false, List, [], ◌∷◌, ◌++◌, refl, sym, ap, ◌∙◌, subst, ◌⊎◌, inl, inr, ⊎_elim, nat_eq}
use Rattle.std.specs.Prelude.{if◌then◌else◌}
use Rattle.std.specs.Int.{bit_at}
use Rattle.std.specs.Str.{bytes_eq}
use Rattle.std.proofs.lemmas.Bool.{eqb-true, eq-eqb}
use Rattle.std.proofs.lemmas.Slice.Eq.{bytes_eq-Decides}
use Rattle.std.proofs.lemmas.Nat.Bits.{same_from_bits_below, bit_at-zero}
use Rattle.vlog_tree.specs.declared.stmt.Lval.{Lval}
use Rattle.vlog_tree.specs.declared.stmt.Stmt.{Stmt}
use Rattle.vlog_tree_runs.specs.declared.flat.Signal.{Signal}
use Rattle.vlog_tree_runs.specs.Places.{Name, Cycle, Among, Place}
use Rattle.vlog_tree_runs.specs.Contents.{is_among}
use Rattle.vlog_tree_runs.specs.Blocks.{run, lefts, Drives}
use Rattle.elab_flat_laws.proofs.Lists.{among_append, append_left, append_right}
use Rattle.elab_step_laws.specs.Laws.{AreFit}
use Rattle.elab_step_nets.specs.Solving.{assigned_by, drivers_of, taking, driven, settled, drivers_in, solved, joined, IsGroup, AreGroups, IsOrder}

-- ---- bits and the statements that drive them

-- a statement drives bit b of x
abbrev pub DrivesBit : Place → Stmt → Name → ℕ → Type 0
DrivesBit p k x b = (left : Lval) × Among (lefts k) left × Drives p left x b

-- no two of them drive bit b of x
abbrev pub AreApart : Place → List Stmt → Name → ℕ → Type 0
AreApart p [] x b = Unit {0}
AreApart p (k ∷ ks) x b = (DrivesBit p k x b → (j : Stmt) → Among ks j → DrivesBit p j x b → ⊥) × AreApart p ks x b

-- in a cycle each bit of x has what the statement gives that drives it, and is 0 where none does
pub record Meets (p : Place) (ks : List Stmt) (x : Name) (w : ℕ) (c : Cycle) : Type 0 where
  pub driven_bits : (k : Stmt) (b : ℕ) → Among ks k → b < w → DrivesBit p k x b → bit_at (run true p k c c x) b ≡ bit_at (c x) b
  pub other_bits : (b : ℕ) → b < w → ((k : Stmt) → Among ks k → DrivesBit p k x b → ⊥) → bit_at (c x) b ≡ 0

-- ---- names and numbers

pub bool_cases : (b : Bool) → (b ≡ true) ⊎ (b ≡ false)
bool_cases true = inl refl
bool_cases false = inr refl

differ : {b : Bool} → b ≡ false → b ≡ true → ⊥
differ h e = let r : true ≡ false = sym e ∙ h in cc

pub same_name : (x : Name) → bytes_eq x x ≡ true
same_name x = (bytes_eq-Decides x x).1 refl

pub named_or : (x y : Name) → (x ≡ y) ⊎ (x ≢ y)
named_or x y = ⊎_elim (λ (h : bytes_eq x y ≡ true). inl ((bytes_eq-Decides x y).0 h)) (λ (h : bytes_eq x y ≡ false). inr (λ e. differ h ((bytes_eq-Decides x y).1 e))) (bool_cases (bytes_eq x y))

pub other_name : (x y : Name) → x ≢ y → bytes_eq x y ≡ false
other_name x y n = ⊎_elim (λ (h : bytes_eq x y ≡ true). absurd (n ((bytes_eq-Decides x y).0 h))) (λ h. h) (bool_cases (bytes_eq x y))

-- two numbers that can't be different are one
pub stable : (m n : ℕ) → ((m ≡ n → ⊥) → ⊥) → m ≡ n
stable m n h = ⊎_elim (λ (e : nat_eq m n ≡ true). eqb-true m n e) (λ (e : nat_eq m n ≡ false). absurd (h (λ i. differ e (eq-eqb m n i)))) (bool_cases (nat_eq m n))

pub among_or : (xs : List Name) (x : Name) → Among xs x ⊎ (Among xs x → ⊥)
among_or [] x = inr (λ n. n)
among_or (y ∷ xs) x = ⊎_elim (λ e. inl (inl e)) (λ (n : y ≢ x). ⊎_elim (λ m. inl (inr m)) (λ k. inr (λ h. ⊎_elim n k h)) (among_or xs x)) (named_or y x)

named_true : (b : Bool) (x y : Name) (xs : List Name) → bytes_eq y x ≡ b → (Among xs x → is_among xs x ≡ true) → Among (y ∷ xs) x → (b || is_among xs x) ≡ true
named_true true x y xs e f m = refl
named_true false x y xs e f m = ⊎_elim (λ (i : y ≡ x). absurd (differ e ((bytes_eq-Decides y x).1 i))) f m

pub among_true : (xs : List Name) (x : Name) → Among xs x → is_among xs x ≡ true
among_true [] x m = absurd m
among_true (y ∷ xs) x m = named_true (bytes_eq y x) x y xs refl (among_true xs x) m

pub among_false : (xs : List Name) (x : Name) → (Among xs x → ⊥) → is_among xs x ≡ false
among_false [] x n = refl
among_false (y ∷ xs) x n = rw (other_name y x (λ e. n (inl e))) (among_false xs x (λ m. n (inr m)))

-- ---- values taken

pub taken : (xs : List Name) (x : Name) (d c : Cycle) → Among xs x → taking xs d c x ≡ d x
taken xs x d c m = ap (λ (b : Bool). if b then d x else c x) (among_true xs x m)

pub kept : (xs : List Name) (y : Name) (d c : Cycle) → (Among xs y → ⊥) → taking xs d c y ≡ c y
kept xs y d c n = ap (λ (b : Bool). if b then d y else c y) (among_false xs y n)

fits_taking : (gs : List Signal) (xs : List Name) (d c : Cycle) → AreFit gs d → AreFit gs c → AreFit gs (taking xs d c)
fits_taking gs xs d c h k g m =
    ⊎_elim
    (λ (e : is_among xs g.name ≡ true). subst (λ n. n < 2 ^ g.width) (sym (ap (λ (b : Bool). if b then d g.name else c g.name) e)) (h g m))
    (λ (e : is_among xs g.name ≡ false). subst (λ n. n < 2 ^ g.width) (sym (ap (λ (b : Bool). if b then d g.name else c g.name) e)) (k g m))
    (bool_cases (is_among xs g.name))

-- ---- an order of names in two parts

pub order_rest : (depends : Name → Name → Type 0) (xs ys : List Name) → IsOrder depends (xs ++ ys) → IsOrder depends ys
order_rest depends [] ys o = o
order_rest depends (x ∷ xs) ys o = order_rest depends xs ys o.2

order_apart : (depends : Name → Name → Type 0) (xs ys : List Name) → IsOrder depends (xs ++ ys) → (x z : Name) → Among xs x → depends x z → Among ys z → ⊥
order_apart depends [] ys o x z m d n = m
order_apart depends (y ∷ xs) ys o x z m d n =
    ⊎_elim (λ (e : y ≡ x). o.0 z (subst (λ t. depends t z) (sym e) d) (inr (append_right xs ys z n))) (λ k. order_apart depends xs ys o.2 x z k d n) m

order_once : (depends : Name → Name → Type 0) (xs ys : List Name) → IsOrder depends (xs ++ ys) → (x : Name) → Among xs x → Among ys x → ⊥
order_once depends [] ys o x m n = m
order_once depends (y ∷ xs) ys o x m n =
    ⊎_elim (λ (e : y ≡ x). o.1 (subst (λ t. Among (xs ++ ys) t) (sym e) (append_right xs ys x n))) (λ k. order_once depends xs ys o.2 x k n) m

-- ---- what is known of the statements

-- of statements over signals: `net` tells the names that are solved, `depends` what they depend on, `width` their lengths
pub record AreProcesses (p : Place) (gs : List Signal) (ks : List Stmt) (net : Name → Type 0) (depends : Name → Name → Type 0) (width : Name → ℕ) : Type 0 where
  pub follows : (k : Stmt) → Among ks k → (x : Name) (b : ℕ) (c d : Cycle) → net x → b < width x → DrivesBit p k x b → AreFit gs c → AreFit gs d →
      ((z : Name) → depends x z → c z ≡ d z) → bit_at (run true p k c c x) b ≡ bit_at (run true p k d d x) b
  pub stays : (k : Stmt) → Among ks k → (x : Name) (b : ℕ) (c : Cycle) → (DrivesBit p k x b → ⊥) → bit_at (run true p k c c x) b ≡ bit_at (c x) b
  pub fits : (k : Stmt) → Among ks k → (c : Cycle) → AreFit gs c → AreFit gs (run true p k c c)
  pub apart : (x : Name) (b : ℕ) → net x → b < width x → AreApart p ks x b
  pub names : (k : Stmt) (x : Name) (b : ℕ) → Among ks k → DrivesBit p k x b → Among (assigned_by k) x
  pub long : (x : Name) → net x → (c : Cycle) → AreFit gs c → c x < 2 ^ width x
  pub positive : (g : Signal) → Among gs g → 0 < 2 ^ g.width

module _ (p : Place) (gs : List Signal) (all : List Stmt) (net : Name → Type 0) (depends : Name → Name → Type 0) (width : Name → ℕ)
    (laws : AreProcesses p gs all net depends width) where
  -- ---- nets that are solved together

  driven_other : (ks : List Stmt) (xs : List Name) (y : Name) (c : Cycle) → (Among xs y → ⊥) → driven p ks xs c y ≡ c y
  driven_other [] xs y c n = refl
  driven_other (k ∷ ks) xs y c n = driven_other ks xs y (taking xs (run true p k c c) c) n ∙ kept xs y (run true p k c c) c n

  settled_other : (ks : List Stmt) (xs : List Name) (y : Name) (c : Cycle) → (Among xs y → ⊥) → settled p ks xs c y ≡ c y
  settled_other ks xs y c n = driven_other ks xs y (taking xs (λ z. 0) c) n ∙ kept xs y (λ z. 0) c n

  driven_fits : (ks : List Stmt) (xs : List Name) (c : Cycle) → ((k : Stmt) → Among ks k → Among all k) → AreFit gs c → AreFit gs (driven p ks xs c)
  driven_fits [] xs c i h = h
  driven_fits (k ∷ ks) xs c i h =
      driven_fits ks xs (taking xs (run true p k c c) c) (λ j m. i j (inr m)) (fits_taking gs xs (run true p k c c) c (laws.fits k (i k (inl refl)) c h) h)

  zero_fits : AreFit gs (λ y. 0)
  zero_fits g m = laws.positive g m

  settled_fits : (ks : List Stmt) (xs : List Name) (c : Cycle) → ((k : Stmt) → Among ks k → Among all k) → AreFit gs c → AreFit gs (settled p ks xs c)
  settled_fits ks xs c i h = driven_fits ks xs (taking xs (λ y. 0) c) i (fits_taking gs xs (λ y. 0) c zero_fits h)

  -- a bit that none of them drives stays
  bit_stays : (ks : List Stmt) (xs : List Name) (x : Name) (b : ℕ) (c : Cycle) → Among xs x → ((k : Stmt) → Among ks k → Among all k) → ((k : Stmt) → Among ks k → DrivesBit p k x b → ⊥) → bit_at (driven p ks xs c x) b ≡ bit_at (c x) b
  bit_stays [] xs x b c in' i n = refl
  bit_stays (k ∷ ks) xs x b c in' i n =
      bit_stays ks xs x b (taking xs (run true p k c c) c) in' (λ j m. i j (inr m)) (λ j m. n j (inr m))
      ∙ ap (λ z. bit_at z b) (taken xs x (run true p k c c) c in') ∙ laws.stays k (i k (inl refl)) x b c (n k (inl refl))

  -- a bit that one of them drives has what this one gives, in every cycle with the same values of what the net depends on
  bit_taken : (ks : List Stmt) (xs : List Name) (x : Name) (b : ℕ) (c d : Cycle) (k : Stmt) → Among xs x → ((j : Stmt) → Among ks j → Among all j) → net x → b < width x → AreApart p ks x b → Among ks k → DrivesBit p k x b
      → AreFit gs c → AreFit gs d → ((z : Name) → depends x z → (Among xs z → ⊥) × (c z ≡ d z)) → bit_at (driven p ks xs c x) b ≡ bit_at (run true p k d d x) b
  bit_taken [] xs x b c d k in' i n l a m h f g e = absurd m
  bit_taken (j ∷ ks) xs x b c d k in' i n l a m h f g e =
      ⊎_elim
      (λ (q : j ≡ k).
      bit_stays ks xs x b (taking xs (run true p j c c) c) in' (λ t u. i t (inr u)) (λ t u v. a.0 (subst (λ z. DrivesBit p z x b) (sym q) h) t u v)
      ∙ ap (λ z. bit_at z b) (taken xs x (run true p j c c) c in')
      ∙ laws.follows j (i j (inl refl)) x b c d n l (subst (λ z. DrivesBit p z x b) (sym q) h) f g (λ z u. (e z u).1)
      ∙ ap (λ z. bit_at (run true p z d d x) b) q)
      (λ (q : Among ks k).
      bit_taken ks xs x b (taking xs (run true p j c c) c) d k in' (λ t u. i t (inr u)) n l a.1 q h
      (fits_taking gs xs (run true p j c c) c (laws.fits j (i j (inl refl)) c f) f) g
      (λ z u. ((e z u).0, kept xs z (run true p j c c) c (e z u).0 ∙ (e z u).1)))
      m

  -- ---- the statements that assign a net

  abbrev pub listed : Bool → Stmt → List Stmt → List Stmt
  listed b j ks = if b then j ∷ ks else ks

  listed_all : (b : Bool) (j k : Stmt) (ds ks : List Stmt) → (Among ds k → Among ks k) → Among (listed b j ds) k → Among (j ∷ ks) k
  listed_all true j k ds ks f m = ⊎_elim (λ e. inl e) (λ u. inr (f u)) m
  listed_all false j k ds ks f m = inr (f m)

  pub chosen_all : (ks : List Stmt) (x : Name) (k : Stmt) → Among (drivers_of ks x) k → Among ks k
  chosen_all [] x k m = absurd m
  chosen_all (j ∷ ks) x k m = listed_all (is_among (assigned_by j) x) j k (drivers_of ks x) ks (chosen_all ks x k) m

  listed_each : (b : Bool) (j k : Stmt) (ds ks : List Stmt) → (j ≡ k → b ≡ true) → (Among ks k → Among ds k) → Among (j ∷ ks) k → Among (listed b j ds) k
  listed_each true j k ds ks f g m = ⊎_elim (λ e. inl e) (λ u. inr (g u)) m
  listed_each false j k ds ks f g m = ⊎_elim (λ e. absurd (differ refl (f e))) g m

  pub chosen_each : (ks : List Stmt) (x : Name) (k : Stmt) → Among ks k → Among (assigned_by k) x → Among (drivers_of ks x) k
  chosen_each [] x k m n = absurd m
  chosen_each (j ∷ ks) x k m n =
      listed_each (is_among (assigned_by j) x) j k (drivers_of ks x) ks
      (λ e. among_true (assigned_by j) x (subst (λ z. Among (assigned_by z) x) (sym e) n)) (λ u. chosen_each ks x k u n) m

  listed_apart : (t : Bool) (j : Stmt) (ds : List Stmt) (x : Name) (b : ℕ) → (DrivesBit p j x b → (k : Stmt) → Among ds k → DrivesBit p k x b → ⊥) → AreApart p ds x b → AreApart p (listed t j ds) x b
  listed_apart true j ds x b h a = (h, a)
  listed_apart false j ds x b h a = a

  chosen_apart : (ks : List Stmt) (x : Name) (b : ℕ) → AreApart p ks x b → AreApart p (drivers_of ks x) x b
  chosen_apart [] x b a = tt
  chosen_apart (j ∷ ks) x b a =
      listed_apart (is_among (assigned_by j) x) j (drivers_of ks x) x b (λ h k m. a.0 h k (chosen_all ks x k m)) (chosen_apart ks x b a.1)

  in_all : (xs : List Name) (k : Stmt) → Among (drivers_in all xs) k → Among all k
  in_all [] k m = absurd m
  in_all (x ∷ xs) k m = chosen_all all x k m

  module _ (xs : List Name) (x : Name) (in' : Among xs x) (same : drivers_of all x ≡ drivers_in all xs) (is : net x) (c d : Cycle) (fc : AreFit gs c) (fd : AreFit gs d)
      (agree : (z : Name) → depends x z → (Among xs z → ⊥) × (c z ≡ d z)) where
    abbrev ks : List Stmt
    ks = drivers_in all xs

    abbrev start : Cycle
    start = taking xs (λ y. 0) c

    with_drivers : (k : Stmt) (b : ℕ) → Among all k → b < width x → DrivesBit p k x b → bit_at (settled p ks xs c x) b ≡ bit_at (run true p k d d x) b
    with_drivers k b m l h =
        bit_taken ks xs x b start d k in' (in_all xs) is l (subst (λ js. AreApart p js x b) same (chosen_apart all x b (laws.apart x b is l)))
        (subst (λ js. Among js k) same (chosen_each all x k m (laws.names k x b m h))) h
        (fits_taking gs xs (λ y. 0) c zero_fits fc) fd (λ z u. ((agree z u).0, kept xs z (λ y. 0) c (agree z u).0 ∙ (agree z u).1))

    without : (b : ℕ) → ((k : Stmt) → Among all k → DrivesBit p k x b → ⊥) → bit_at (settled p ks xs c x) b ≡ 0
    without b n =
        bit_stays ks xs x b start in' (in_all xs) (λ k m. n k (in_all xs k m)) ∙ ap (λ z. bit_at z b) (taken xs x (λ y. 0) c in') ∙ bit_at-zero b

    -- a cycle that meets the equations of a net has the value that it is settled at
    pub only : Meets p all x (width x) d → settled p ks xs c x ≡ d x
    only h =
        same_from_bits_below (width x) (settled p ks xs c x) (d x) (laws.long x is (settled p ks xs c) (settled_fits ks xs c (in_all xs) fc)) (laws.long x is d fd)
        (λ b l. stable (bit_at (settled p ks xs c x) b) (bit_at (d x) b) (λ n.
        let none : (k : Stmt) → Among all k → DrivesBit p k x b → ⊥ = λ k m u. n (with_drivers k b m l u ∙ h.driven_bits k b m l u) in
        n (without b none ∙ sym (h.other_bits b l none))))

    -- and one that has this value meets them
    pub some : settled p ks xs c x ≡ d x → Meets p all x (width x) d
    some e = record {
      driven_bits = λ k b m l h. sym (with_drivers k b m l h) ∙ ap (λ z. bit_at z b) e;
      other_bits = λ b l n. sym (ap (λ z. bit_at z b) e) ∙ without b n;
    }

  -- ---- all nets

  pub solved_other : (xss : List (List Name)) (c : Cycle) (z : Name) → (Among (joined xss) z → ⊥) → solved p all xss c z ≡ c z
  solved_other [] c z n = refl
  solved_other (xs ∷ rest) c z n =
      solved_other rest (settled p (drivers_in all xs) xs c) z (λ m. n (append_right xs (joined rest) z m)) ∙ settled_other (drivers_in all xs) xs z c (λ m. n (append_left xs (joined rest) z m))

  -- what a net of the first group depends on has its value in each cycle with the same values of what isn't solved
  first_agrees : (xs : List Name) (rest : List (List Name)) (c d : Cycle) → IsOrder depends (xs ++ joined rest) → IsGroup all depends xs → ((z : Name) → (Among (xs ++ joined rest) z → ⊥) → c z ≡ d z)
      → (x : Name) → Among xs x → (z : Name) → depends x z → (Among xs z → ⊥) × (c z ≡ d z)
  first_agrees xs rest c d o group agree x m z u = (
    λ n. group.apart x z m u n,
    agree z (λ n. ⊎_elim (group.apart x z m u) (order_apart depends xs (joined rest) o x z m u) (among_append xs (joined rest) z n)),
  )

  -- a cycle that meets the equations of all nets is the one that is solved
  pub solved_only : (xss : List (List Name)) (c d : Cycle) → IsOrder depends (joined xss) → AreGroups all depends xss → ((x : Name) → Among (joined xss) x → net x) → AreFit gs c → AreFit gs d
      → ((z : Name) → (Among (joined xss) z → ⊥) → c z ≡ d z) → ((x : Name) → Among (joined xss) x → Meets p all x (width x) d) → (z : Name) → solved p all xss c z ≡ d z
  solved_only [] c d o groups is fc fd agree h z = agree z (λ m. m)
  solved_only (xs ∷ rest) c d o groups is fc fd agree h z =
      let later = settled p (drivers_in all xs) xs c in
      let own : (x : Name) → Among xs x → later x ≡ d x = λ x m.
      only xs x m (groups.0.same x m) (is x (append_left xs (joined rest) x m)) c d fc fd (first_agrees xs rest c d o groups.0 agree x m) (h x (append_left xs (joined rest) x m)) in
      solved_only rest later d (order_rest depends xs (joined rest) o) groups.1 (λ y m. is y (append_right xs (joined rest) y m)) (settled_fits (drivers_in all xs) xs c (in_all xs) fc) fd
      (λ y n. ⊎_elim (own y)
      (λ k. settled_other (drivers_in all xs) xs y c k ∙ agree y (λ m. ⊎_elim k n (among_append xs (joined rest) y m))) (among_or xs y))
      (λ y m. h y (append_right xs (joined rest) y m)) z

  -- and the one that is solved meets them
  pub solved_meets : (xss : List (List Name)) (c d : Cycle) → IsOrder depends (joined xss) → AreGroups all depends xss → ((x : Name) → Among (joined xss) x → net x) → AreFit gs c → AreFit gs d
      → ((z : Name) → solved p all xss c z ≡ d z) → (x : Name) → Among (joined xss) x → Meets p all x (width x) d
  solved_meets [] c d o groups is fc fd h y m = absurd m
  solved_meets (xs ∷ rest) c d o groups is fc fd h y m =
      let later = settled p (drivers_in all xs) xs c in
      let agree : (z : Name) → (Among (xs ++ joined rest) z → ⊥) → c z ≡ d z = λ z n. sym (solved_other (xs ∷ rest) c z n) ∙ h z in
      ⊎_elim
      (λ n. some xs y n (groups.0.same y n) (is y (append_left xs (joined rest) y n)) c d fc fd (first_agrees xs rest c d o groups.0 agree y n)
      (sym (solved_other rest later y (order_once depends xs (joined rest) o y n)) ∙ h y))
      (λ n. solved_meets rest later d (order_rest depends xs (joined rest) o) groups.1 (λ z k. is z (append_right xs (joined rest) z k)) (settled_fits (drivers_in all xs) xs c (in_all xs) fc) fd h y n)
      (among_append xs (joined rest) y m)
