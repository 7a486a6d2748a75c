-- Lists that are gone through piece by piece.
use Rattle.std.proofs.Common.{◌≡◌, ◌≤◌, List, [], ◌∷◌, ◌++◌, length, refl, sym, ap, ◌∙◌, subst, arith, append_assoc, append-nil, length-append}
use Rattle.std.specs.Borrow.{Bor}
use Rattle.std.specs.List.{AllZip, flat_map}
use Rattle.std.proofs.lemmas.List.{flat_map_more}

pub all_zipped_on : {A B : Type 0} (R : A → B → Type 0) (xs us : List A) (ys vs : List B) → AllZip R xs ys → AllZip R us vs → AllZip R (xs ++ us) (ys ++ vs)
all_zipped_on R [] us [] vs a b = b
all_zipped_on R [] us (y ∷ ys) vs a b = absurd a
all_zipped_on R (x ∷ xs) us [] vs a b = absurd a
all_zipped_on R (x ∷ xs) us (y ∷ ys) vs a b = (a.0, all_zipped_on R xs us ys vs a.1 b)

-- those before are all, where none is left
pub before_all : {A : Type 0} (all before left : List A) → all ≡ before ++ left → length left ≡ 0 → before ≡ all
before_all all before [] split none = sym (append-nil before) ∙ sym split
before_all all before (x ∷ xs) split none = absurd (omega arith)

-- what is gone through next isn't longer than all
pub few_within : {A : Type 0} (all before now few left : List A) → all ≡ before ++ now → now ≡ few ++ left → length few ≤ length all
few_within all before now few left split is =
    let whole = ap length split ∙ length-append before now in
    let part = ap length is ∙ length-append few left in
    omega (arith, whole, part)

-- ---- a list that is cut into pieces
module _ {A : Type 0} where
  abbrev pub joined : List (Bor (List A)) → List A
  joined pieces = flat_map (λ (few : Bor (List A)). few.now) pieces

  pub piece_more : (all left rest : List A) (pieces more : List (Bor (List A))) (piece : Bor (List A)) → joined pieces ++ left ≡ all → left ≡ piece.now ++ rest → more ≡ pieces ++ piece ∷ [] → joined more ++ rest ≡ all
  piece_more all left rest pieces more piece cut split pushed =
      ap (λ (ps : List (Bor (List A))). joined ps ++ rest) pushed
      ∙ (ap (λ (xs : List A). xs ++ rest) (sym (flat_map_more (λ (few : Bor (List A)). few.now) [] pieces piece))
      ∙ (append_assoc (joined pieces) piece.now rest ∙ (ap (λ (xs : List A). joined pieces ++ xs) (sym split) ∙ cut)))

  pub all_pieces : (all left : List A) (pieces : List (Bor (List A))) → joined pieces ++ left ≡ all → left ≡ [] → joined pieces ≡ all
  all_pieces all left pieces cut none = sym (append-nil (joined pieces)) ∙ (ap (λ (xs : List A). joined pieces ++ xs) (sym none) ∙ cut)

  pub pieces_start : (all : List A) (pieces left : List (Bor (List A))) → joined pieces ≡ all → left ≡ pieces → joined left ≡ all
  pieces_start all pieces left cut same = ap joined same ∙ cut

  -- the next piece, and those after it
  pub next_piece : (now left : List (Bor (List A))) (piece : Bor (List A)) → now ≡ piece ∷ left → joined now ≡ piece.now ++ joined left
  next_piece now left piece is = ap joined is

  pub no_pieces : (left : List (Bor (List A))) → length left ≡ 0 → length (joined left) ≡ 0
  no_pieces [] none = refl
  no_pieces (p ∷ ps) none = absurd (omega arith)

module _ {A B : Type 0} where
  -- those before gave these, and these are left
  pub record Gone (R : A → B → Type 0) (all left : List A) (given : List B) : Type 0 where
    pub before : List A
    pub split : all ≡ before ++ left
    pub are : AllZip R before given

  pub gone_start : (R : A → B → Type 0) (all left : List A) (given : List B) → left ≡ all → given ≡ [] → Gone R all left given
  gone_start R all left given same none = record { before = []; split = sym same; are = subst (AllZip R []) (sym none) tt }

  pub gone_more : (R : A → B → Type 0) (all now few left : List A) (given more more_given : List B) → Gone R all now given → now ≡ few ++ left → AllZip R few more → more_given ≡ given ++ more → Gone R all left more_given
  gone_more R all now few left given more more_given gone is are joined = record {
    before = gone.before ++ few;
    split = gone.split ∙ (ap (λ (xs : List A). gone.before ++ xs) is ∙ sym (append_assoc gone.before few left));
    are = subst (AllZip R (gone.before ++ few)) (sym joined) (all_zipped_on R gone.before few given more gone.are are);
  }

  pub gone_within : (R : A → B → Type 0) (all now few left : List A) (given : List B) → Gone R all now given → now ≡ few ++ left → length few ≤ length all
  gone_within R all now few left given gone is = few_within all gone.before now few left gone.split is

  pub all_gone : (R : A → B → Type 0) (all left : List A) (given : List B) → Gone R all left given → length left ≡ 0 → AllZip R all given
  all_gone R all left given gone none = subst (λ (xs : List A). AllZip R xs given) (before_all all gone.before left gone.split none) gone.are
