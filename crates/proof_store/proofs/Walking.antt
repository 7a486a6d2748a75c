-- Rows that are moved, one after another.
use Rattle.std.proofs.Common.{◌≡◌, ℕ, zero, suc, ◌+◌, ◌<◌, ◌≤◌, ◌⊎◌, inl, inr, ⊎_elim, List, [], ◌∷◌, ◌++◌, Bool, true, false, cond, Option, Some, None, length, take, get_or, refl, sym, ap, ap₂, ◌∙◌, subst, arith}
use Rattle.std.specs.List.{AllZip}
use Rattle.std.specs.Prelude.{All, Contains, IfSome, IsTrue, ◌↔◌, Vec, find, option_map, slice_get}
use Rattle.std.specs.declared.alloc.Global.{Global}
use Rattle.std.specs.FinMap.{get, keys}
use Rattle.std.proofs.lemmas.List.{take_more}
use Rattle.std.proofs.lemmas.List.Elements.{All-contains, All-nil, All-push, Contains-push, Contains-append_left}
use Rattle.std.proofs.lemmas.List.Sums.{sum_by_push}
use Rattle.std.proofs.lemmas.Option.{get_or_from_slice_get, same_Some, slice_get_within}
use Rattle.outside.specs.Keys.{is_above}
use Rattle.outside.specs.Tables.{Tables, proof_key_above, with_proof}
use Rattle.proof_store.specs.Moves.{CanMove, CouldMove, CountsMoved, IsMoved, IsSecondOf, MovesAll, MovesRow, MovesRows, Walks}
use Rattle.proof_store.specs.Stored.{Told}
use Rattle.proof_store.specs.declared.moving.Moved.{Moved}
use Rattle.proof_store.proofs.Ordered.{first_not_above, found_passes, key_among, last_from, last_of_more, next_key_is, put_keys}
use Rattle.proof_store.proofs.Seconds.{not_first}
use Rattle.proof_store.proofs.Storing.{get_other, get_put, key_cases, whole}

-- ---- one row
-- what was moved can't move again
moved_once : (bytes second more : List ℕ) → CanMove bytes second → CanMove second more → ⊥
moved_once bytes second more can again = not_first second can.steps again.steps can.are again.first

pub no_row : (tables : Option Tables) (key : List ℕ) (row : Option (Vec ℕ Global)) → row ≡ None → IfSome tables (λ t. option_map (λ b. b.items) row ≡ get t.proofs key) → IfSome tables (λ t. CouldMove t key → ⊥)
no_row None key row none is = tt
no_row (Some t) key row none is = λ could.
    let there : None ≡ Some could.bytes = ap (option_map (λ (b : Vec ℕ Global). b.items)) (sym none) ∙ (is ∙ could.row) in absurd (cc)

pub cant_move : (tables : Option Tables) (key : List ℕ) (row : Option (Vec ℕ Global)) (bytes : Vec ℕ Global) → row ≡ Some bytes → IfSome tables (λ t. option_map (λ b. b.items) row ≡ get t.proofs key)
    → ((second : List ℕ) → CanMove bytes.items second → ⊥) → IfSome tables (λ t. CouldMove t key → ⊥)
cant_move None key row bytes some is cant = tt
cant_move (Some t) key row bytes some is cant = λ could.
    let there : Some bytes.items ≡ Some could.bytes = ap (option_map (λ (b : Vec ℕ Global). b.items)) (sym some) ∙ (is ∙ could.row) in
    cant could.second (subst (λ (bs : List ℕ). CanMove bs could.second) (sym (same_Some bytes.items could.bytes there)) could.can)

pub none_made : (bytes given : List ℕ) (made : Option (Vec ℕ Global)) → given ≡ bytes → IsSecondOf given made → made ≡ None → (second : List ℕ) → CanMove bytes second → ⊥
none_made bytes given made same tells none = subst (λ (bs : List ℕ). IsSecondOf bs None) same (subst (IsSecondOf given) none tells)

pub made_can : (bytes given : List ℕ) (made : Option (Vec ℕ Global)) (second : Vec ℕ Global) → given ≡ bytes → IsSecondOf given made → made ≡ Some second → CanMove bytes second.items
made_can bytes given made second same tells some = subst (λ (bs : List ℕ). IsSecondOf bs (Some second)) same (subst (IsSecondOf given) some tells)

pub row_stays : (key : List ℕ) (before after : Option Tables) → after ≡ before → IfSome before (λ t. CouldMove t key → ⊥) → Told (MovesRow key false) before after
row_stays key None after same cant = subst (λ (o : Option Tables). Told (MovesRow key false) None o) (sym same) tt
row_stays key (Some t) after same cant = subst (λ (o : Option Tables). Told (MovesRow key false) (Some t) o) (sym same) (cant, refl)

pub row_moves : (key : List ℕ) (row : Option (Vec ℕ Global)) (bytes second : Vec ℕ Global) (before now after : Option Tables) (made : List ℕ) → row ≡ Some bytes → IfSome before (λ t. option_map (λ b. b.items) row ≡ get t.proofs key)
    → CanMove bytes.items second.items → made ≡ second.items → now ≡ before → after ≡ option_map (with_proof key made) now → Told (MovesRow key true) before after
row_moves key row bytes second None now after made some is can made_is same put =
    subst (λ (o : Option Tables). Told (MovesRow key true) None o) (sym (put ∙ ap (option_map (with_proof key made)) same)) tt
row_moves key row bytes second (Some t) now after made some is can made_is same put =
    subst (λ (o : Option Tables). Told (MovesRow key true) (Some t) o) (sym (put ∙ ap (option_map (with_proof key made)) same))
    (bytes.items, second.items, sym is ∙ ap (option_map (λ (b : Vec ℕ Global). b.items)) some, can, ap (λ (bs : List ℕ). with_proof key bs t) made_is)

-- ---- one row more
zip_push : {A B : Type 0} (R : A → B → Type 0) (xs : List A) (ys : List B) (x : A) (y : B) → AllZip R xs ys → R x y → AllZip R (xs ++ x ∷ []) (ys ++ y ∷ [])
zip_push R [] [] x y z last = (last, tt)
zip_push R [] (v ∷ ys) x y z last = absurd z
zip_push R (w ∷ xs) [] x y z last = absurd z
zip_push R (w ∷ xs) (v ∷ ys) x y z last = (z.0, zip_push R xs ys x y z.1 last)

counts_more : (t : Tables) (done : List (List ℕ)) (many : ℕ) (key : List ℕ) (flag : Bool) → CountsMoved t done many → (IsTrue flag ↔ CouldMove t key) → CountsMoved t (done ++ key ∷ []) (many + cond flag 1 0)
counts_more t done many key flag counts tells = record {
  flags = counts.flags ++ flag ∷ [];
  each = zip_push (λ k b. IsTrue b ↔ CouldMove t k) done counts.flags key flag counts.each tells;
  are = ap (λ (n : ℕ). n + cond flag 1 0) counts.are ∙ sym (sum_by_push (λ (b : Bool). cond b 1 0) counts.flags flag);
}

could_there : (t u : Tables) (key : List ℕ) → get t.proofs key ≡ get u.proofs key → CouldMove u key → CouldMove t key
could_there t u key same could = record { bytes = could.bytes; second = could.second; row = same ∙ could.row; can = could.can }

pub moves_none : (t : Tables) → MovesAll [] 0 t t
moves_none t = record {
  rows = record { blocks = refl; signs = refl; proofs = λ key. inl refl };
  counts = record { flags = []; each = tt; are = refl };
  none_left = All-nil (λ key. CouldMove t key → ⊥);
  others = λ key nowhere. refl;
}

-- a row that can't move
module _ (done : List (List ℕ)) (many : ℕ) (key : List ℕ) (b t : Tables) (m : MovesAll done many b t) (fresh : Contains done key → ⊥) (cant : CouldMove t key → ⊥) where
  cant_before : CouldMove b key → ⊥
  cant_before could = cant (could_there t b key (m.others key fresh) could)

  more_stays : MovesAll (done ++ key ∷ []) (many + 0) b t
  more_stays = record {
    rows = m.rows;
    counts = counts_more b done many key false m.counts (λ off. absurd (cc), λ could. absurd (cant_before could));
    none_left = All-push (λ k. CouldMove t k → ⊥) done key m.none_left cant;
    others = λ k nowhere. m.others k (λ among. nowhere (Contains-append_left done (key ∷ []) k among));
  }

-- a row that moves
module _ (done : List (List ℕ)) (many : ℕ) (key : List ℕ) (b t : Tables) (m : MovesAll done many b t) (fresh : Contains done key → ⊥) (bytes second : List ℕ) (row : get t.proofs key ≡ Some bytes) (can : CanMove bytes second) where
  abbrev put : Tables
  put = with_proof key second t

  row_before : get b.proofs key ≡ Some bytes
  row_before = sym (m.others key fresh) ∙ row

  its_row : (k : List ℕ) → k ≡ key → IsMoved b put k
  its_row k same = record {
    bytes = bytes;
    second = second;
    row = ap (get b.proofs) same ∙ row_before;
    can = can;
    now = get_put t.proofs key second k same;
  }

  other_row : (k : List ℕ) → (k ≡ key → ⊥) → (get put.proofs k ≡ get b.proofs k) ⊎ IsMoved b put k
  other_row k differ =
      let same : get put.proofs k ≡ get t.proofs k = get_other t.proofs key second k differ in
      ⊎_elim (λ as_before. inl (same ∙ as_before)) (λ moved. inr (record { bytes = moved.bytes; second = moved.second; row = moved.row; can = moved.can; now = same ∙ moved.now })) (m.rows.proofs k)

  cant_now : (k : List ℕ) → (Contains done k) → (CouldMove t k → ⊥) → CouldMove put k → ⊥
  cant_now k among cant could =
      cant (could_there t put k (sym (get_other t.proofs key second k (λ same. fresh (subst (Contains done) same among)))) could)

  not_again : CouldMove put key → ⊥
  not_again could =
      let same = same_Some second could.bytes (sym (get_put t.proofs key second key refl) ∙ could.row) in
      moved_once bytes second could.second can (subst (λ (bs : List ℕ). CanMove bs could.second) (sym same) could.can)

  none_of_done : (ks : List (List ℕ)) → ((k : List ℕ) → Contains ks k → Contains done k) → All (λ k. CouldMove put k → ⊥) ks
  none_of_done ks within = λ i d inside.
      let k = get_or ks i d in
      let among = within k (i, inside, get_or_itself ks i d inside) in
      cant_now k among (All-contains (λ j. CouldMove t j → ⊥) done k m.none_left among)
    where
      get_or_itself : (xs : List (List ℕ)) (i : ℕ) (d : List ℕ) → i < length xs → get_or xs i (get_or xs i d) ≡ get_or xs i d
      get_or_itself [] i d inside = absurd (omega arith)
      get_or_itself (x ∷ xs) zero d inside = refl
      get_or_itself (x ∷ xs) (suc i) d inside = get_or_itself xs i d (omega arith)

  more_moves : MovesAll (done ++ key ∷ []) (many + 1) b put
  more_moves = record {
    rows = record {
      blocks = m.rows.blocks;
      signs = m.rows.signs;
      proofs = λ k. ⊎_elim (λ same. inr (its_row k same)) (λ differ. other_row k differ) (key_cases k key);
    };
    counts = counts_more b done many key true m.counts (λ _. record { bytes = bytes; second = second; row = row_before; can = can }, λ _. refl);
    none_left = All-push (λ k. CouldMove put k → ⊥) done key (none_of_done done (λ k among. among)) not_again;
    others = λ k nowhere.
        get_other t.proofs key second k (λ same. nowhere (subst (Contains (done ++ key ∷ [])) (sym same) (Contains-push done key)))
        ∙ m.others k (λ among. nowhere (Contains-append_left done (key ∷ []) k among));
  }

-- ---- the walk
-- so many of the least keys were come to, and `last` is the last of them
pub record Walk (i moved : ℕ) (last : Option (List ℕ)) (before now : Tables) : Type 0 where
  pub same_keys : keys now.proofs ≡ keys before.proofs
  pub within : i ≤ length (keys before.proofs)
  pub last_is : last ≡ last_from None (take i (keys before.proofs))
  pub moves : MovesAll (take i (keys before.proofs)) moved before now

pub walk_start : (tables : Option Tables) → Told (Walk 0 0 None) tables tables
walk_start None = tt
walk_start (Some t) = record { same_keys = refl; within = omega arith; last_is = refl; moves = moves_none t }

module _ (i moved : ℕ) (last : Option (List ℕ)) (b t : Tables) (w : Walk i moved last b t) where
  abbrev ks : List (List ℕ)
  ks = keys b.proofs

  next_is : proof_key_above last t ≡ slice_get ks i
  next_is = ap₂ (λ (low : Option (List ℕ)) (js : List (List ℕ)). find (is_above low) js) w.last_is w.same_keys ∙ next_key_is b.proofs i

  module _ (key : List ℕ) (found : Some key ≡ proof_key_above last t) where
    stands : slice_get ks i ≡ Some key
    stands = sym (found ∙ next_is)

    inside : i < length ks
    inside = slice_get_within ks i key stands

    grown : take (i + 1) ks ≡ take i ks ++ key ∷ []
    grown = take_more ks i key inside ∙ ap (λ (k : List ℕ). take i ks ++ k ∷ []) (get_or_from_slice_get ks i key key stands)

    -- the key is none of those before
    fresh : Contains (take i ks) key → ⊥
    fresh among =
        let above : is_above last key ≡ true = found_passes (is_above last) (keys t.proofs) key (sym found) in
        let not_above : is_above (last_from None (take i ks)) key ≡ false = All-contains (λ k. is_above (last_from None (take i ks)) k ≡ false) (take i ks) key (first_not_above b.proofs i) among in
        let both : true ≡ false = sym above ∙ (ap (λ (low : Option (List ℕ)). is_above low key) w.last_is ∙ not_above) in
        absurd (cc)

    last_now : Some key ≡ last_from None (take (i + 1) ks)
    last_now = sym (ap (last_from None) grown ∙ last_of_more None (take i ks) key)

    step_stays : (u : Tables) → MovesRow key false t u → Walk (i + 1) moved (Some key) b u
    step_stays u stays =
        let all : MovesAll (take i ks ++ key ∷ []) (moved + 0) b t = more_stays (take i ks) moved key b t w.moves fresh stays.0 in
        let none_more : moved + 0 ≡ moved = omega arith in
        subst (λ (v : Tables). Walk (i + 1) moved (Some key) b v) (sym stays.1) (record {
          same_keys = w.same_keys;
          within = let there = inside in omega (arith, there);
          last_is = last_now;
          moves = subst (λ (n : ℕ). MovesAll (take (i + 1) ks) n b t) none_more (subst (λ (done : List (List ℕ)). MovesAll done (moved + 0) b t) (sym grown) all);
        })

    step_moves : (u : Tables) → MovesRow key true t u → Walk (i + 1) (moved + 1) (Some key) b u
    step_moves u moves =
        subst (λ (v : Tables). Walk (i + 1) (moved + 1) (Some key) b v) (sym moves.4) (record {
          same_keys = put_keys t.proofs key moves.1 moves.0 moves.2 ∙ w.same_keys;
          within = let there = inside in omega (arith, there);
          last_is = last_now;
          moves = subst (λ (done : List (List ℕ)). MovesAll done (moved + 1) b (with_proof key moves.1 t)) (sym grown) (more_moves (take i ks) moved key b t w.moves fresh moves.0 moves.1 moves.2 moves.3);
        })

  -- where no key follows, all were come to
  no_more : None ≡ proof_key_above last t → length ks ≤ i
  no_more none = past ks i (sym (none ∙ next_is))
    where
      past : (js : List (List ℕ)) (n : ℕ) → slice_get js n ≡ None → length js ≤ n
      past [] n nowhere = omega arith
      past (j ∷ js) zero nowhere = absurd (cc)
      past (j ∷ js) (suc n) nowhere = let rest = past js n nowhere in omega (arith, rest)

  walked : (most left : ℕ) (m : Moved) → moved + left ≡ i → m.moved ≡ moved → m.left ≡ left → i ≤ most → ((i ≡ most) ⊎ (length ks ≤ i)) → Walks most m b t
  walked most left m counted moved_is left_is few ends = record {
    all = ⊎_elim (λ full. let there = w.within in omega (arith, counted, moved_is, left_is, full, there)) (λ past. let there = w.within in omega (arith, counted, moved_is, left_is, few, past, there)) ends;
    moves = subst (λ (n : ℕ). MovesAll (take most ks) n b t) (sym moved_is) (subst (λ (done : List (List ℕ)). MovesAll done moved b t) (⊎_elim as_far as_whole ends) w.moves);
  }
    where
      as_far : i ≡ most → take i ks ≡ take most ks
      as_far full = ap (λ (n : ℕ). take n ks) full

      as_whole : length ks ≤ i → take i ks ≡ take most ks
      as_whole past = whole i ks past ∙ sym (whole most ks (omega (arith, past, few)))

  none_can : length ks ≤ i → (key : List ℕ) → CouldMove t key → ⊥
  none_can past key could =
      let among : Contains (keys t.proofs) key = key_among t.proofs key could.bytes could.row in
      let all : take i ks ≡ keys t.proofs = whole i ks past ∙ sym w.same_keys in
      All-contains (λ k. CouldMove t k → ⊥) (take i ks) key w.moves.none_left (subst (λ (js : List (List ℕ)). Contains js key) (sym all) among) could

-- ---- over tables that may not be told
pub told_stays : (i moved : ℕ) (last next : Option (List ℕ)) (key : List ℕ) (before now after : Option Tables) → Told (Walk i moved last) before now → next ≡ Some key → IfSome now (λ t. next ≡ proof_key_above last t)
    → Told (MovesRow key false) now after → Told (Walk (i + 1) moved (Some key)) before after
told_stays i moved last next key None None None w is found row = tt
told_stays i moved last next key None None (Some u) w is found row = absurd row
told_stays i moved last next key None (Some t) after w is found row = absurd w
told_stays i moved last next key (Some b) None after w is found row = absurd w
told_stays i moved last next key (Some b) (Some t) None w is found row = absurd row
told_stays i moved last next key (Some b) (Some t) (Some u) w is found row = step_stays i moved last b t w key (sym is ∙ found) u row

pub told_moves : (i moved : ℕ) (last next : Option (List ℕ)) (key : List ℕ) (before now after : Option Tables) → Told (Walk i moved last) before now → next ≡ Some key → IfSome now (λ t. next ≡ proof_key_above last t)
    → Told (MovesRow key true) now after → Told (Walk (i + 1) (moved + 1) (Some key)) before after
told_moves i moved last next key None None None w is found row = tt
told_moves i moved last next key None None (Some u) w is found row = absurd row
told_moves i moved last next key None (Some t) after w is found row = absurd w
told_moves i moved last next key (Some b) None after w is found row = absurd w
told_moves i moved last next key (Some b) (Some t) None w is found row = absurd row
told_moves i moved last next key (Some b) (Some t) (Some u) w is found row = step_moves i moved last b t w key (sym is ∙ found) u row

-- the walk came to its end
pub told_whole : (i moved left most : ℕ) (last next : Option (List ℕ)) (m : Moved) (before now : Option Tables) → Told (Walk i moved last) before now → next ≡ None → IfSome now (λ t. next ≡ proof_key_above last t)
    → moved + left ≡ i → m.moved ≡ moved → m.left ≡ left → i ≤ most → Told (Walks most m) before now
told_whole i moved left most last next m None None w none found counted moved_is left_is few = tt
told_whole i moved left most last next m None (Some t) w none found counted moved_is left_is few = absurd w
told_whole i moved left most last next m (Some b) None w none found counted moved_is left_is few = absurd w
told_whole i moved left most last next m (Some b) (Some t) w none found counted moved_is left_is few = walked i moved last b t w most left m counted moved_is left_is few (inr (no_more i moved last b t w (sym none ∙ found)))

-- it came to as many keys as it might
pub told_full : (i moved left most : ℕ) (last : Option (List ℕ)) (m : Moved) (before now : Option Tables) → Told (Walk i moved last) before now → moved + left ≡ i → m.moved ≡ moved → m.left ≡ left → i ≡ most → Told (Walks most m) before now
told_full i moved left most last m None None w counted moved_is left_is full = tt
told_full i moved left most last m None (Some t) w counted moved_is left_is full = absurd w
told_full i moved left most last m (Some b) None w counted moved_is left_is full = absurd w
told_full i moved left most last m (Some b) (Some t) w counted moved_is left_is full = walked i moved last b t w most left m counted moved_is left_is (omega arith) (inl full)

-- then no row is left that could be moved
pub told_none_can : (i moved : ℕ) (last next : Option (List ℕ)) (before now : Option Tables) → Told (Walk i moved last) before now → next ≡ None → IfSome now (λ t. next ≡ proof_key_above last t) → IfSome now (λ t. (key : List ℕ) → CouldMove t key → ⊥)
told_none_can i moved last next None None w none found = tt
told_none_can i moved last next None (Some t) w none found = absurd w
told_none_can i moved last next (Some b) None w none found = absurd w
told_none_can i moved last next (Some b) (Some t) w none found = none_can i moved last b t w (no_more i moved last b t w (sym none ∙ found))

pub told_rows : (i moved : ℕ) (last : Option (List ℕ)) (before now after : Option Tables) → Told (Walk i moved last) before now → after ≡ now → Told MovesRows before after
told_rows i moved last None None after w same = subst (λ (o : Option Tables). Told MovesRows None o) (sym same) tt
told_rows i moved last None (Some t) after w same = absurd w
told_rows i moved last (Some b) None after w same = absurd w
told_rows i moved last (Some b) (Some t) after w same = subst (λ (o : Option Tables). Told MovesRows (Some b) o) (sym same) w.moves.rows

-- ---- the walk as the calls tell it: the keeper was asked for the key above `low`
asked_above : (now : Option Tables) (low last next : Option (List ℕ)) → low ≡ last → IfSome now (λ t. next ≡ proof_key_above low t) → IfSome now (λ t. next ≡ proof_key_above last t)
asked_above None low last next same told = tt
asked_above (Some t) low last next same told = told ∙ ap (λ (o : Option (List ℕ)). proof_key_above o t) same

pub ends : (i moved left most : ℕ) (low last next : Option (List ℕ)) (m : Moved) (before now after : Option Tables) → Told (Walk i moved last) before now → low ≡ last → IfSome now (λ t. next ≡ proof_key_above low t) → next ≡ None → after ≡ now
    → moved + left ≡ i → m.moved ≡ moved → m.left ≡ left → i ≤ most → Told (Walks most m) before after
ends i moved left most low last next m before now after w same told none kept counted moved_is left_is few =
    subst (λ (o : Option Tables). Told (Walks most m) before o) (sym kept) (told_whole i moved left most last next m before now w none (asked_above now low last next same told) counted moved_is left_is few)

pub ends_whole : (i moved : ℕ) (low last next : Option (List ℕ)) (before now after : Option Tables) → Told (Walk i moved last) before now → low ≡ last → IfSome now (λ t. next ≡ proof_key_above low t) → next ≡ None → after ≡ now
    → IfSome after (λ t. (key : List ℕ) → CouldMove t key → ⊥)
ends_whole i moved low last next before now after w same told none kept =
    subst (λ (o : Option Tables). IfSome o (λ t. (key : List ℕ) → CouldMove t key → ⊥)) (sym kept) (told_none_can i moved last next before now w none (asked_above now low last next same told))

pub goes_on : (i moved more : ℕ) (low last next : Option (List ℕ)) (key asked : List ℕ) (flag : Bool) (before now mid after : Option Tables) → Told (Walk i moved last) before now → low ≡ last → IfSome now (λ t. next ≡ proof_key_above low t) → next ≡ Some key
    → mid ≡ now → Told (MovesRow asked flag) mid after → asked ≡ key → more ≡ moved + cond flag 1 0 → Told (Walk (i + 1) more (Some key)) before after
goes_on i moved more low last next key asked true before now mid after w same told some kept row is counted =
    let there : Told (MovesRow key true) now after = subst (λ (k : List ℕ). Told (MovesRow k true) now after) is (subst (λ (o : Option Tables). Told (MovesRow asked true) o after) kept row) in
    subst (λ (n : ℕ). Told (Walk (i + 1) n (Some key)) before after) (sym counted) (told_moves i moved last next key before now after w some (asked_above now low last next same told) there)
goes_on i moved more low last next key asked false before now mid after w same told some kept row is counted =
    let there : Told (MovesRow key false) now after = subst (λ (k : List ℕ). Told (MovesRow k false) now after) is (subst (λ (o : Option Tables). Told (MovesRow asked false) o after) kept row) in
    let no_more : moved ≡ more = omega (arith, counted) in
    subst (λ (n : ℕ). Told (Walk (i + 1) n (Some key)) before after) no_more (told_stays i moved last next key before now after w some (asked_above now low last next same told) there)
