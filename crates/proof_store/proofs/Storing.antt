-- What a keeper holds while new proofs are put.
use Rattle.std.proofs.Common.{◌≡◌, ℕ, zero, suc, ◌<◌, ◌≤◌, ◌⊎◌, inl, inr, ⊎_elim, List, [], ◌∷◌, ◌++◌, Bool, true, false, cond, Option, Some, None, length, map, take, refl, sym, ap, ap₂, ◌∙◌, subst, arith}
use Rattle.std.specs.Prelude.{Any, Contains, IfSome, Vec, option_map}
use Rattle.std.specs.declared.alloc.Global.{Global}
use Rattle.std.specs.declared.cmp.Ordering.{Ordering}
use Rattle.std.specs.declared.cmp.Ordering.TheVariants.{Less, Equal, Greater}
use Rattle.std.specs.Ordering.{eq_by_cmp, is_eq, nat_cmp}
use Rattle.std.specs.Cmp.Lexicographic.{slice_cmp}
use Rattle.std.specs.FinMap.{get, get-insert, insert, nat_cmp-IsAntisymmetric, slice_cmp-IsAntisymmetric}
use Rattle.std.proofs.lemmas.Cmp.{nat_list_cmp_total, tied_itself}
use Rattle.std.proofs.lemmas.List.Elements.{Contains-append_left, Contains-push, Contains-push_cases}
use Rattle.outside.specs.Tables.{ByBytes, Tables, with_proof}
use Rattle.word_dag.specs.Nodes.{Parts}
use Rattle.clause_check.specs.declared.formula.Step.{Step}
use Rattle.proof_store_records.specs.Records.{IsRecord, version_2}
use Rattle.job_pool.specs.declared.evidence.Evidence.TheVariants.{Derivation}
use Rattle.proof_store.specs.Goals.{Ended}
use Rattle.proof_store.specs.Kept.{IsKept, IsProof, key_of}
use Rattle.proof_store.specs.Rows.{IsRowOf}
use Rattle.proof_store.specs.declared.keeping.Row.{Row}
use Rattle.proof_store.specs.Stored.{AddsProofs, IsNew, IsProved, MayBeKept, Puts, StoresNew, Told, ended_ob}

-- ---- a row that is put
equal_from_tie : (o : Ordering) → is_eq o ≡ true → o ≡ Equal
equal_from_tie Less e = absurd (cc)
equal_from_tie Equal e = refl
equal_from_tie Greater e = absurd (cc)

-- keys are equal or not
pub key_cases : (q k : List ℕ) → (q ≡ k) ⊎ (q ≡ k → ⊥)
key_cases q k = by (eq_by_cmp (slice_cmp nat_cmp) q k) refl
  where
    by : (b : Bool) → eq_by_cmp (slice_cmp nat_cmp) q k ≡ b → (q ≡ k) ⊎ (q ≡ k → ⊥)
    by true e = inl (slice_cmp-IsAntisymmetric nat_cmp-IsAntisymmetric q k (equal_from_tie (slice_cmp nat_cmp q k) e))
    by false e = inr (λ same.
        let tied : eq_by_cmp (slice_cmp nat_cmp) q k ≡ true = ap is_eq (subst (λ (x : List ℕ). slice_cmp nat_cmp q x ≡ Equal) same (tied_itself nat_list_cmp_total q)) in absurd (cc))

pub get_put : (m : ByBytes (List ℕ)) (k v q : List ℕ) → q ≡ k → get (insert m k v) q ≡ Some v
get_put m k v q same =
    let tied : eq_by_cmp (slice_cmp nat_cmp) q k ≡ true = ap is_eq (subst (λ (x : List ℕ). slice_cmp nat_cmp q x ≡ Equal) same (tied_itself nat_list_cmp_total q)) in
    get-insert nat_list_cmp_total m k v q ∙ ap (λ (b : Bool). cond b (Some v) (get m q)) tied

pub get_other : (m : ByBytes (List ℕ)) (k v q : List ℕ) → (q ≡ k → ⊥) → get (insert m k v) q ≡ get m q
get_other m k v q differ = get-insert nat_list_cmp_total m k v q ∙ by (eq_by_cmp (slice_cmp nat_cmp) q k) refl
  where
    by : (b : Bool) → eq_by_cmp (slice_cmp nat_cmp) q k ≡ b → cond (eq_by_cmp (slice_cmp nat_cmp) q k) (Some v) (get m q) ≡ get m q
    by true e = absurd (differ (slice_cmp-IsAntisymmetric nat_cmp-IsAntisymmetric q k (equal_from_tie (slice_cmp nat_cmp q k) e)))
    by false e = ap (λ (b : Bool). cond b (Some v) (get m q)) e

-- ---- one of a list
record AnOne {X : Type 0} (P : X → Type 0) (xs : List X) : Type 0 where
  one : X
  among : Contains xs one
  it : P one

an_one : {X : Type 0} (P : X → Type 0) (xs : List X) → Any P xs → AnOne P xs
an_one P xs h = record { one = h.1; among = (h.0, h.2, h.3); it = h.4 }

any : {X : Type 0} (P : X → Type 0) (xs : List X) → AnOne P xs → Any P xs
any P xs h = (h.among.0, h.one, h.among.1, h.among.2, h.it)

any_none : {X : Type 0} (P : X → Type 0) → Any P [] → ⊥
any_none P h = let nowhere : h.0 < 0 = h.2 in omega arith

any_before : {X : Type 0} (P : X → Type 0) (xs : List X) (y : X) → Any P xs → Any P (xs ++ y ∷ [])
any_before P xs y h = let a = an_one P xs h in any P (xs ++ y ∷ []) (record { one = a.one; among = Contains-append_left xs (y ∷ []) a.one a.among; it = a.it })

any_last : {X : Type 0} (P : X → Type 0) (xs : List X) (y : X) → P y → Any P (xs ++ y ∷ [])
any_last P xs y it = any P (xs ++ y ∷ []) (record { one = y; among = Contains-push xs y; it = it })

any_cases : {X : Type 0} (P : X → Type 0) (xs : List X) (y : X) → Any P (xs ++ y ∷ []) → Any P xs ⊎ P y
any_cases P xs y h =
    let a = an_one P (xs ++ y ∷ []) h in
    ⊎_elim (λ before. inl (any P xs (record { one = a.one; among = before; it = a.it }))) (λ last. inr (subst P (sym last) a.it)) (Contains-push_cases xs y a.one a.among)

map_append : {A B : Type 0} (f : A → B) (xs ys : List A) → map f (xs ++ ys) ≡ map f xs ++ map f ys
map_append f [] ys = refl
map_append f (x ∷ xs) ys = ap (λ (zs : List _). f x ∷ zs) (map_append f xs ys)

-- ---- proofs among more obligations
more_proved : (obs more : List Parts) (t : Tables) (key : List ℕ) → IsProved obs t key → IsProved (obs ++ more) t key
more_proved obs more t key p = record { ob = p.ob; among = Contains-append_left obs more p.ob p.among; text = p.text; kept = p.kept }

pub more_added : (obs more : List Parts) (before after : Tables) → AddsProofs obs before after → AddsProofs (obs ++ more) before after
more_added obs more before after a = record {
  blocks = a.blocks;
  signs = a.signs;
  proofs = λ key. ⊎_elim (λ same. inl same) (λ p. inr (more_proved obs more after key p)) (a.proofs key);
}

stores_none : (t : Tables) → StoresNew [] t t
stores_none t = record {
  adds = record { blocks = refl; signs = refl; proofs = λ key. inl refl };
  new = λ key a. absurd (any_none (IsNew t key) a);
  others = λ key nowhere. refl;
}

-- one more, for which nothing is put
stores_past : (done : List Ended) (d : Ended) (before now : Tables) → StoresNew done before now → ((key : List ℕ) → IsNew before key d → ⊥) → StoresNew (done ++ d ∷ []) before now
stores_past done d before now s not_new = record {
  adds = subst (λ (obs : List Parts). AddsProofs obs before now) (sym (map_append ended_ob done (d ∷ []))) (more_added (map ended_ob done) (d.ob ∷ []) before now s.adds);
  new = λ key a. subst (λ (obs : List Parts). IsProved obs now key) (sym (map_append ended_ob done (d ∷ [])))
      (more_proved (map ended_ob done) (d.ob ∷ []) now key
      (⊎_elim (λ earlier. s.new key earlier) (λ it. absurd (not_new key it)) (any_cases (IsNew before key) done d a)));
  others = λ key nowhere. s.others key (λ a. nowhere (any_before (IsNew before key) done d a));
}

-- one more, whose proof is put
module _ (done : List Ended) (d : Ended) (before now : Tables) (steps : Vec Step Global) (s : StoresNew done before now) (fresh : IsKept before d.ob → ⊥) (may : MayBeKept d steps) (reads : IsRecord (version_2 steps.items) steps.items) (proof : IsProof d.ob steps.items) where
  abbrev after : Tables
  after = with_proof (key_of d.ob) (version_2 steps.items) now

  abbrev obs : List Parts
  obs = map ended_ob (done ++ d ∷ [])

  abbrev obs_are : obs ≡ map ended_ob done ++ d.ob ∷ []
  obs_are = map_append ended_ob done (d ∷ [])

  its_proof : (key : List ℕ) → key ≡ key_of d.ob → IsProved obs after key
  its_proof key same = record {
    ob = d.ob;
    among = subst (λ (os : List Parts). Contains os d.ob) (sym obs_are) (Contains-push (map ended_ob done) d.ob);
    text = sym same;
    kept = record {
      bytes = version_2 steps.items;
      steps = steps.items;
      row = get_put now.proofs (key_of d.ob) (version_2 steps.items) (key_of d.ob) refl;
      reads = reads;
      proof = proof;
    };
  }

  still_proof : (key : List ℕ) → (key ≡ key_of d.ob → ⊥) → IsProved (map ended_ob done) now key → IsProved obs after key
  still_proof key differ p =
      subst (λ (os : List Parts). IsProved os after key) (sym obs_are)
      (more_proved (map ended_ob done) (d.ob ∷ []) after key (record {
        ob = p.ob;
        among = p.among;
        text = p.text;
        kept = record {
          bytes = p.kept.bytes;
          steps = p.kept.steps;
          row = get_other now.proofs (key_of d.ob) (version_2 steps.items) (key_of p.ob) (λ same. differ (sym p.text ∙ same)) ∙ p.kept.row;
          reads = p.kept.reads;
          proof = p.kept.proof;
        };
      }))

  stores_put : StoresNew (done ++ d ∷ []) before after
  stores_put = record {
    adds = record {
      blocks = s.adds.blocks;
      signs = s.adds.signs;
      proofs = λ key. ⊎_elim (λ same. inr (its_proof key same))
          (λ differ. ⊎_elim (λ same. inl (get_other now.proofs (key_of d.ob) (version_2 steps.items) key differ ∙ same)) (λ p. inr (still_proof key differ p)) (s.adds.proofs key))
          (key_cases key (key_of d.ob));
    };
    new = λ key a. ⊎_elim (λ same. its_proof key same)
        (λ differ. still_proof key differ (⊎_elim (λ earlier. s.new key earlier) (λ it. absurd (differ (sym it.text))) (any_cases (IsNew before key) done d a)))
        (key_cases key (key_of d.ob));
    others = λ key nowhere. ⊎_elim
        (λ same. absurd (nowhere (any_last (IsNew before key) done d (record { text = sym same; fresh = fresh; steps = steps; may_be_kept = may }))))
        (λ differ. get_other now.proofs (key_of d.ob) (version_2 steps.items) key differ ∙ s.others key (λ a. nowhere (any_before (IsNew before key) done d a)))
        (key_cases key (key_of d.ob));
  }

stores_one : (done : List Ended) (d : Ended) (before now after : Tables) → StoresNew done before now → (IsKept before d.ob → ⊥) → ((steps : Vec Step Global) → d.evidence ≡ Derivation steps → IsProof d.ob steps.items)
    → Puts d now after → StoresNew (done ++ d ∷ []) before after
stores_one done d before now after s fresh proof puts =
    ⊎_elim
    (λ put. subst (λ (t : Tables). StoresNew (done ++ d ∷ []) before t) (sym put.3) (stores_put done d before now put.0 s fresh put.1 put.2 (proof put.0 put.1.has)))
    (λ none. subst (λ (t : Tables). StoresNew (done ++ d ∷ []) before t) (sym none.1) (stores_past done d before now s (λ key it. none.0 it.steps it.may_be_kept)))
    puts

-- ---- over tables that may not be told
pub told_none : (o : Option Tables) → Told (StoresNew []) o o
told_none None = tt
told_none (Some t) = stores_none t

pub told_put : (done : List Ended) (d : Ended) (before now after : Option Tables) → Told (StoresNew done) before now → IfSome before (λ t. IsKept t d.ob → ⊥)
    → ((steps : Vec Step Global) → d.evidence ≡ Derivation steps → IsProof d.ob steps.items) → Told (Puts d) now after → Told (StoresNew (done ++ d ∷ [])) before after
told_put done d None None None s fresh proof puts = tt
told_put done d None None (Some u) s fresh proof puts = absurd puts
told_put done d None (Some t) after s fresh proof puts = absurd s
told_put done d (Some b) None after s fresh proof puts = absurd s
told_put done d (Some b) (Some t) None s fresh proof puts = absurd puts
told_put done d (Some b) (Some t) (Some u) s fresh proof puts = stores_one done d b t u s fresh proof puts

pub told_past : (done : List Ended) (d : Ended) (before now : Option Tables) → Told (StoresNew done) before now → IfSome before (λ t. IsKept t d.ob) → Told (StoresNew (done ++ d ∷ [])) before now
told_past done d None None s kept = tt
told_past done d None (Some t) s kept = absurd s
told_past done d (Some b) None s kept = absurd s
told_past done d (Some b) (Some t) s kept = stores_past done d b t s (λ key it. it.fresh kept)

pub told_left : (done rest : List Ended) (before now : Option Tables) → Told (StoresNew done) before now → Told (AddsProofs (map ended_ob (done ++ rest))) before now
told_left done rest None None s = tt
told_left done rest None (Some t) s = absurd s
told_left done rest (Some b) None s = absurd s
told_left done rest (Some b) (Some t) s = subst (λ (obs : List Parts). AddsProofs obs b t) (sym (map_append ended_ob done rest)) (more_added (map ended_ob done) (map ended_ob rest) b t s.adds)

pub nothing_added : (obs : List Parts) (o : Option Tables) → Told (AddsProofs obs) o o
nothing_added obs None = tt
nothing_added obs (Some t) = record { blocks = refl; signs = refl; proofs = λ key. inl refl }

-- the first of a list, which are all
pub whole : {A : Type 0} (i : ℕ) (xs : List A) → length xs ≤ i → take i xs ≡ xs
whole zero [] long = refl
whole zero (x ∷ xs) long = absurd (omega arith)
whole (suc i) [] long = refl
whole (suc i) (x ∷ xs) long = ap (λ (ys : List _). x ∷ ys) (whole i xs (omega arith))

-- the row that was made is put
pub puts_row : (d : Ended) (found : Option Row) (row : Row) (before after : Option Tables) (key bytes : List ℕ) → IsRowOf d found → found ≡ Some row → key ≡ row.key.items → bytes ≡ row.bytes.items
    → after ≡ option_map (with_proof key bytes) before → Told (Puts d) before after
puts_row d found row None after key bytes made is key_is bytes_is put = subst (λ (o : Option Tables). Told (Puts d) None o) (sym put) tt
puts_row d found row (Some t) after key bytes made is key_is bytes_is put =
    let r : IsRowOf d (Some row) = subst (IsRowOf d) is made in
    let same : with_proof key bytes t ≡ with_proof (key_of d.ob) (version_2 r.0.items) t = ap₂ (λ (k b : List ℕ). with_proof k b t) (key_is ∙ r.2) (bytes_is ∙ r.3) in
    subst (λ (o : Option Tables). Told (Puts d) (Some t) o) (sym put)
    (inl (r.0, r.1, subst (λ (b : List ℕ). IsRecord b r.0.items) r.3 r.4, same))
