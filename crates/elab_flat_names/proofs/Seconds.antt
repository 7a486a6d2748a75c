-- Declarations of names that are declared before.
use Rattle.std.proofs.Common.{◌≡◌, ℕ, ◌+◌, ◌<◌, ◌⊎◌, inl, inr, ⊎_elim, Bool, true, false, ◌||◌, ◌&&◌, not, List, [], ◌∷◌, ◌++◌, length, drop, get_or, add-one, map, filter, if◌then◌else◌, Option, Some, None, Bor, refl, sym, ap, subst, ◌∙◌}
use Rattle.std.specs.Prelude.{is_some, IsTrue, ◌↔◌}
use Rattle.std.specs.Option.{option_map}
use Rattle.std.specs.Str.{bytes_eq}
use Rattle.std.proofs.lemmas.Bool.{cases_Bool}
use Rattle.std.proofs.lemmas.Slice.Eq.{bytes_eq-Decides}
use Rattle.std.proofs.lemmas.List.{append_assoc}
use Rattle.vlog_tree.specs.declared.item.PortKind.{PortKind}
use Rattle.vlog_tree.specs.declared.item.PortKind.TheVariants as k
use Rattle.vlog_tree.specs.declared.item.Shape.{Shape}
use Rattle.vlog_tree.specs.declared.module.HeaderPort.{HeaderPort}
use Rattle.vlog_tree.specs.declared.module.HeaderPort.TheVariants as h
use Rattle.vlog_tree.specs.declared.module.Module.{Module}
use Rattle.vlog_tree.specs.declared.module.Ports.{Ports}
use Rattle.vlog_tree.specs.declared.module.Ports.TheVariants as q
use Rattle.vlog_tree.specs.declared.valuation.Entry.{Entry}
use Rattle.vlog_tree_runs.specs.Places.{Name, Among}
use Rattle.vlog_tree_runs.specs.Contents.{Decl, bare, is_among, header_decls, header_names, ports_decls, names_of_ports, decls_in, port_names}
use Rattle.vlog_tree_runs.specs.Scopes.{decl_at}
use Rattle.elab_flat_laws.proofs.Lists.{none_not_some, map_append, map_among}
use Rattle.elab_flat_faults.specs.Declaring.{Repeats, is_port, SameShape, IsDeclaredAgain}
use Rattle.elab_flat_scopes.specs.declared.decl.Decl.{Decl as View}
use Rattle.elab_flat_scopes.specs.Borrowed.{decl_meant}
use Rattle.elab_flat_scopes.specs.Finding.{decl_name}
use Rattle.elab_flat_scopes.proofs.Finding.{cut}
use Rattle.elab_flat_drivers.proofs.Naming.{among_of}
use Rattle.elab_flat_names.specs.Rows.{again, headed_names, IsDeclaredAs, AreDeclaredAs, MayGoWith, GoesWith, IsStray, IsMisfit, IsWronglyAgain}
use Rattle.elab_flat_names.specs.Searching.{Finds}
use Rattle.elab_flat_names.proofs.Ports.{filter_has, has_filter}
use Rattle.elab_flat_names.proofs.Searches.{not_among, finds_same}

same_name : (x y : Name) → bytes_eq x y ≡ true → x ≡ y
same_name x y e = (bytes_eq-Decides x y).0 e

-- ---- the names of a header

header_names_are : (kind : PortKind) (shape : Shape) (ps : List HeaderPort) → map decl_name (header_decls kind shape ps) ≡ header_names ps
header_names_are kind shape [] = refl
header_names_are kind shape (h.Group w s x ∷ ps) = ap (λ ys. x ∷ ys) (header_names_are w s ps)
header_names_are kind shape (h.Again x ∷ ps) = ap (λ ys. x ∷ ys) (header_names_are kind shape ps)

pub headed_by : (m : Module) (p : Ports) (xs : List HeaderPort) → m.ports ≡ Some p → p ≡ q.Groups xs → (ns : List Name) → ns ≡ port_names m → ns ≡ headed_names m
headed_by m p xs e g ns is =
    let at : m.ports ≡ Some (q.Groups xs) = e ∙ ap Some g in
    is ∙ (ap names_of_ports at ∙ (sym (header_names_are k.Input bare xs) ∙ ap (λ o. map decl_name (ports_decls o)) (sym at)))

-- ---- the code's list of them

module _ (decls : List View) (i : ℕ) (d : View) (lt : i < length decls) (is : d ≡ get_or decls i d) (before : List Name) (done whole : List Decl)
    (inv : done ++ again before (map decl_meant (drop i decls)) ≡ whole) where
  abbrev left_over : List Decl
  left_over = map decl_meant (drop (i + 1) decls)

  abbrev chosen : Bool → List Decl
  chosen b = done ++ (if b then decl_meant d ∷ again before left_over else again (d.name.now ∷ before) left_over)

  at_decl : chosen (is_among before d.name.now) ≡ whole
  at_decl =
      ap (λ ds. done ++ again before (map decl_meant ds)) (sym (cut decls i d lt is ∙ ap (λ n. d ∷ drop n decls) (sym (add-one i)))) ∙ inv

  pub add_second : (items new : List View) → map decl_meant items ≡ done → new ≡ items ++ d ∷ [] → is_among before d.name.now ≡ true → map decl_meant new ++ again before left_over ≡ whole
  add_second items new e g y =
      ap (λ vs. map decl_meant vs ++ again before left_over) g
      ∙ (ap (λ ds. ds ++ again before left_over) (map_append decl_meant items (d ∷ []) ∙ ap (λ ds. ds ++ decl_meant d ∷ []) e)
      ∙ (append_assoc done (decl_meant d ∷ []) (again before left_over) ∙ (ap chosen (sym y) ∙ at_decl)))

  pub pass_first : is_among before d.name.now ≡ false → done ++ again (d.name.now ∷ before) left_over ≡ whole
  pass_first n = ap chosen (sym n) ∙ at_decl

-- ---- declarations of one name

abbrev of_name : Name → List Decl → List Decl
of_name x ds = filter (λ d. bytes_eq d.name x) ds

abbrev first_and : Option Decl → List Decl → List Decl
first_and None es = []
first_and (Some d) es = d ∷ es

-- a name that is done: all its declarations stand again
split_done : (ds : List Decl) (done : List Name) (x : Name) → is_among done x ≡ true → of_name x (again done ds) ≡ of_name x ds
split_done [] done x t = refl
split_done (d ∷ ds) done x t = elim (cases_Bool (bytes_eq d.name x)) [
  | inl e ↦ (let in' : is_among done d.name ≡ true = ap (is_among done) (same_name d.name x e) ∙ t in rw (in', e) (ap (λ es. d ∷ es) (split_done ds done x t)))
  | inr e ↦ elim (cases_Bool (is_among done d.name)) [
    | inl i ↦ rw (i, e) (split_done ds done x t)
    | inr n ↦ rw (n, e) (split_done ds (d.name ∷ done) x (rw e t))
  ]
]

-- one that isn't: all but the first one
split_new : (ds : List Decl) (done : List Name) (x : Name) → is_among done x ≡ false → of_name x ds ≡ first_and (decl_at ds x) (of_name x (again done ds))
split_new [] done x t = refl
split_new (d ∷ ds) done x t = elim (cases_Bool (bytes_eq d.name x)) [
  | inl e ↦ (let out : is_among done d.name ≡ false = ap (is_among done) (same_name d.name x e) ∙ t in rw (e, out) (ap (λ es. d ∷ es) (sym (split_done ds (d.name ∷ done) x (rw e refl)))))
  | inr e ↦ elim (cases_Bool (is_among done d.name)) [
    | inl i ↦ rw (i, e) (split_new ds done x t)
    | inr n ↦ rw (n, e) (split_new ds (d.name ∷ done) x (rw e t))
  ]
]

again_names : (ds : List Decl) (done : List Name) (x : Name) → Among (map decl_name (again done ds)) x → Among (map decl_name ds) x
again_names [] done x a = a
again_names (d ∷ ds) done x a = elim (cases_Bool (is_among done d.name)) [
  | inl i ↦ (let b : (d.name ≡ x) ⊎ Among (map decl_name (again done ds)) x = rw i at a in ⊎_elim (λ e. inl e) (λ m. inr (again_names ds done x m)) b)
  | inr n ↦ inr (again_names ds (d.name ∷ done) x (rw n at a))
]

again_repeats : (ds : List Decl) (done : List Name) (x : Name) → Repeats (map decl_name (again done ds)) x → Repeats (map decl_name ds) x
again_repeats [] done x a = a
again_repeats (d ∷ ds) done x a = elim (cases_Bool (is_among done d.name)) [
  | inl i ↦ (let b : ((d.name ≡ x) × Among (map decl_name (again done ds)) x) ⊎ Repeats (map decl_name (again done ds)) x = rw i at a in
      ⊎_elim (λ e. inl (e.0, again_names ds done x e.1)) (λ m. inr (again_repeats ds done x m)) b)
  | inr n ↦ inr (again_repeats ds (d.name ∷ done) x (rw n at a))
]

again_among : (ds : List Decl) (done : List Name) (e : Decl) → Among (again done ds) e → Among ds e
again_among [] done e a = a
again_among (d ∷ ds) done e a = elim (cases_Bool (is_among done d.name)) [
  | inl i ↦ (let b : (d ≡ e) ⊎ Among (again done ds) e = rw i at a in ⊎_elim (λ s. inl s) (λ m. inr (again_among ds done e m)) b)
  | inr n ↦ inr (again_among ds (d.name ∷ done) e (rw n at a))
]

-- one that stands again stands twice
again_twice : (ds : List Decl) (done : List Name) (e : Decl) → Among (again done ds) e → Among done e.name ⊎ Repeats (map decl_name ds) e.name
again_twice [] done e a = absurd a
again_twice (d ∷ ds) done e a = elim (cases_Bool (is_among done d.name)) [
  | inl i ↦ (let b : (d ≡ e) ⊎ Among (again done ds) e = rw i at a in
      ⊎_elim (λ s. inl (among_of done e.name (ap (λ (z : Decl). is_among done z.name) (sym s) ∙ i))) (λ m. ⊎_elim (λ p. inl p) (λ r. inr (inr r)) (again_twice ds done e m)) b)
  | inr n ↦ (let m : Among (again (d.name ∷ done) ds) e = rw n at a in
      ⊎_elim (λ p. ⊎_elim (λ s. inr (inl (s, map_among decl_name ds e (again_among ds (d.name ∷ done) e m)))) (λ o. inl o) p) (λ r. inr (inr r)) (again_twice ds (d.name ∷ done) e m))
]

-- ---- how many declarations of a name there are

abbrev HasOne : List Decl → Name → Type 0
HasOne ds x = (b : Decl) × (more : List Decl) × (of_name x ds ≡ b ∷ more)

abbrev HasTwo : List Decl → Name → Type 0
HasTwo ds x = (a b : Decl) × (more : List Decl) × (of_name x ds ≡ a ∷ b ∷ more)

skip_one : (d : Decl) (ds : List Decl) (x : Name) → bytes_eq d.name x ≡ false → HasOne ds x → HasOne (d ∷ ds) x
skip_one d ds x e (b, more, is) = (b, more, rw e is)

skip_two : (d : Decl) (ds : List Decl) (x : Name) → bytes_eq d.name x ≡ false → HasTwo ds x → HasTwo (d ∷ ds) x
skip_two d ds x e (a, b, more, is) = (a, b, more, rw e is)

one_more : (d : Decl) (ds : List Decl) (x : Name) → bytes_eq d.name x ≡ true → HasOne ds x → HasTwo (d ∷ ds) x
one_more d ds x e (b, more, is) = (d, b, more, rw e (ap (λ es. d ∷ es) is))

other_name : (x y : Name) → bytes_eq x y ≡ false → x ≡ y → ⊥
other_name x y e s = let z : true ≡ false = sym ((bytes_eq-Decides x y).1 s) ∙ e in cc

repeats_among : (xs : List Name) (x : Name) → Repeats xs x → Among xs x
repeats_among [] x h = absurd h
repeats_among (y ∷ ys) x (inl p) = inl p.0
repeats_among (y ∷ ys) x (inr r) = inr (repeats_among ys x r)

one_of : (ds : List Decl) (x : Name) → Among (map decl_name ds) x → HasOne ds x
one_of [] x a = absurd a
one_of (d ∷ ds) x a = elim (cases_Bool (bytes_eq d.name x)) [
  | inl e ↦ (d, of_name x ds, rw e refl)
  | inr e ↦ skip_one d ds x e (one_of ds x (⊎_elim (λ s. absurd (other_name d.name x e s)) (λ m. m) a))
]

two_of : (ds : List Decl) (x : Name) → Repeats (map decl_name ds) x → HasTwo ds x
two_of [] x h = absurd h
two_of (d ∷ ds) x h = elim (cases_Bool (bytes_eq d.name x)) [
  | inl e ↦ one_more d ds x e (one_of ds x (⊎_elim (λ p. p.1) (λ r. repeats_among (map decl_name ds) x r) h))
  | inr e ↦ skip_two d ds x e (two_of ds x (⊎_elim (λ p. absurd (other_name d.name x e p.0)) (λ m. m) h))
]

of_one : (ds : List Decl) (x : Name) (b : Decl) (rest : List Decl) → of_name x ds ≡ b ∷ rest → Among (map decl_name ds) x
of_one ds x b rest e =
    let f = has_filter (λ d. bytes_eq d.name x) ds b (subst (λ es. Among es b) (sym e) (inl refl)) in
    subst (Among (map decl_name ds)) (same_name b.name x f.1) (map_among decl_name ds b f.0)

of_two : (ds : List Decl) (x : Name) (a b : Decl) (rest : List Decl) → of_name x ds ≡ a ∷ b ∷ rest → Repeats (map decl_name ds) x
of_two [] x a b rest e = cc
of_two (d ∷ ds) x a b rest e = elim (cases_Bool (bytes_eq d.name x)) [
  | inl t ↦ (let g : d ∷ of_name x ds ≡ a ∷ b ∷ rest = rw t at e in let tail : of_name x ds ≡ b ∷ rest = cc in inl (same_name d.name x t, of_one ds x b rest tail))
  | inr n ↦ inr (of_two ds x a b rest (rw n at e))
]

-- ---- which go together

xor_of : (a b : Bool) → ((a && b) || not (a || b)) ≡ false → a ≡ b → ⊥
xor_of true true e s = cc
xor_of true false e s = cc
xor_of false true e s = cc
xor_of false false e s = cc

xor_is : (a b : Bool) → (a ≡ b → ⊥) → ((a && b) || not (a || b)) ≡ false
xor_is true true n = absurd (n refl)
xor_is true false n = refl
xor_is false true n = refl
xor_is false false n = absurd (n refl)

module _ (m : Module) (v : List Entry) where
  abbrev ds : List Decl
  ds = decls_in m

  abbrev seconds : List Decl
  seconds = again [] ds

  -- a third declaration
  pub third : (x : Name) → Repeats (map decl_name seconds) x → IsWronglyAgain m v x
  third x r = (again_repeats ds [] x r, λ a. let t = two_of seconds x r in no_third (decl_at ds x) a.first a.second t.0 t.1 t.2 (sym a.both ∙ (split_new ds [] x refl ∙ ap (first_and (decl_at ds x)) t.3)))
    where
      no_third : (o : Option Decl) (d e a b : Decl) (rest : List Decl) → d ∷ e ∷ [] ≡ first_and o (a ∷ b ∷ rest) → ⊥
      no_third None d e a b rest s = cc
      no_third (Some z) d e a b rest s = cc

  module _ (once : (x : Name) → Repeats (map decl_name seconds) x → ⊥) where
    stray : (x : Name) → IsMisfit m v ds seconds x → IsWronglyAgain m v x
    stray x (e, among, named, (d, first, unfit)) =
        (subst (Repeats (map decl_name ds)) named (⊎_elim (λ p. absurd p) (λ r. r) (again_twice ds [] e among)), λ a. unfit (goes a))
      where
        goes : IsDeclaredAgain m v x → GoesWith m v d e
        goes a =
            let at : decl_at ds x ≡ Some d = ap (decl_at ds) (sym named) ∙ first in
            let both : a.first ∷ a.second ∷ [] ≡ d ∷ of_name x seconds = sym a.both ∙ (split_new ds [] x refl ∙ ap (λ o. first_and o (of_name x seconds)) at) in
            let one : a.first ≡ d = cc in
            let tail : a.second ∷ [] ≡ of_name x seconds = cc in
            let mine : (a.second ≡ e) ⊎ ⊥ = subst (λ es. Among es e) (sym tail) (filter_has (λ z. bytes_eq z.name x) seconds e among ((bytes_eq-Decides e.name x).1 named)) in
            let other : a.second ≡ e = ⊎_elim (λ s. s) (λ z. absurd z) mine in (
              record {
                in_body = λ h. a.in_body (subst (Among (headed_names m)) named h);
                one_port = λ s. xor_of (is_port a.first) (is_port a.second) a.one_port (ap is_port one ∙ (s ∙ ap is_port (sym other)));
                no_words = (ap (λ (z : Decl). z.words) (sym one) ∙ a.no_words.0, ap (λ (z : Decl). z.words) (sym other) ∙ a.no_words.1);
              },
              subst (λ z. SameShape v d z) other (subst (λ z. SameShape v z a.second) one a.same),
            )

    unfit_is : (x : Name) → IsWronglyAgain m v x → IsMisfit m v ds seconds x
    unfit_is x (twice', never) =
        let t = two_of ds x twice' in
        by (decl_at ds x) refl (of_name x seconds) refl t.0 t.1 t.2 (sym t.3 ∙ split_new ds [] x refl)
      where
        by : (o : Option Decl) → decl_at ds x ≡ o → (es : List Decl) → of_name x seconds ≡ es → (a b : Decl) (rest : List Decl) → a ∷ b ∷ rest ≡ first_and (decl_at ds x) (of_name x seconds) → IsMisfit m v ds seconds x
        by None e es g a b rest s = let z : a ∷ b ∷ rest ≡ [] = s ∙ ap (λ o. first_and o (of_name x seconds)) e in cc
        by (Some d) e [] g a b rest s = let z : a ∷ b ∷ rest ≡ d ∷ [] = s ∙ (ap (λ o. first_and o (of_name x seconds)) e ∙ ap (λ es. d ∷ es) g) in cc
        by (Some d) e (c ∷ c' ∷ cs) g a b rest s = absurd (once x (of_two seconds x c c' cs g))
        by (Some d) e (c ∷ []) g a b rest s =
            let f = has_filter (λ z. bytes_eq z.name x) seconds c (subst (λ es. Among es c) (sym g) (inl refl)) in
            let named : c.name ≡ x = same_name c.name x f.1 in (
              c,
              f.0,
              named,
              (
                d,
                ap (decl_at ds) named ∙ e,
                λ w. never (record {
                  first = d;
                  second = c;
                  both = split_new ds [] x refl ∙ (ap (λ o. first_and o (of_name x seconds)) e ∙ ap (λ es. d ∷ es) g);
                  in_body = λ h. w.0.in_body (subst (Among (headed_names m)) (sym named) h);
                  one_port = xor_is (is_port d) (is_port c) w.0.one_port;
                  no_words = w.0.no_words;
                  same = w.1;
                }),
              ),
            )

    pub misfits : (es : List Decl) → es ≡ seconds → (bs : List Decl) → bs ≡ ds → (o : Option Name) → Finds (IsMisfit m v bs es) o → Finds (IsWronglyAgain m v) o
    misfits es e bs g o found = finds_same (IsMisfit m v ds seconds) (IsWronglyAgain m v) stray unfit_is o (subst (λ z. Finds (IsMisfit m v z seconds) o) g (subst (λ z. Finds (IsMisfit m v bs z) o) e found))

  pub declared_as : (d : Decl) → Among ds d → IsDeclaredAs m d
  declared_as d a = record {
    from = d;
    among = a;
    name = refl;
    shape = refl;
    words = refl;
  }

  pub seconds_as : (es : List Decl) → es ≡ seconds → AreDeclaredAs m es
  seconds_as es e d a = declared_as d (again_among ds [] d (subst (λ z. Among z d) e a))

-- ---- the tests

no_words : {X : Type 0} (o : Option X) → is_some o ≡ false → o ≡ None
no_words None e = refl
no_words (Some x) e = cc

port_other : (a b : Bool) → a ≡ true → not b ≡ true → a ≡ b → ⊥
port_other a true e n s = cc
port_other a false e n s = cc

port_first : (a b : Bool) → a ≡ true → (a ≡ b → ⊥) → not b ≡ true
port_first a true e n = absurd (n e)
port_first a false e n = refl

port_second : (a b : Bool) → a ≡ false → (a ≡ b → ⊥) → b ≡ true
port_second a true e n = refl
port_second a false e n = absurd (n e)

pub has_not : (headed : List Name) (d e : Decl) (x : Name) → x ≡ e.name → (has : Bool) → has ≡ is_among headed x → has ≡ true → MayGoWith headed d e → ⊥
has_not headed d e x same has hs t g = g.in_body (subst (Among headed) same (among_of headed x (sym hs ∙ t)))

pub words_not : (d : Decl) (b : Bool) → b ≡ is_some d.words → b ≡ true → d.words ≡ None → ⊥
words_not d b e t n = none_not_some d.words (sym e ∙ t) n

module _ (headed : List Name) (d e : Decl) (x : Name) (same : x ≡ e.name) (has one other : Bool) (hs : has ≡ is_among headed x) (os : one ≡ is_some d.words) (ts : other ≡ is_some e.words) where
  module _ (n : has ≡ false) (u : one ≡ false) (w : other ≡ false) (p r : Bool) (ps : p ≡ is_port d) (rs : r ≡ is_port e) where
    made : (is_port d ≡ is_port e → ⊥) → MayGoWith headed d e
    made apart = record {
      in_body = not_among headed e.name (ap (is_among headed) (sym same) ∙ (sym hs ∙ n));
      one_port = apart;
      no_words = (no_words d.words (sym os ∙ u), no_words e.words (sym ts ∙ w));
    }

    pub port_goes : p ≡ true → ((not r ≡ true) → MayGoWith headed d e) × (MayGoWith headed d e → not r ≡ true)
    port_goes t = (λ h. made (λ s. port_other p r t h (ps ∙ (s ∙ sym rs))), λ g. port_first p r t (λ s. g.one_port (sym ps ∙ (s ∙ rs))))

    pub other_goes : p ≡ false → ((r ≡ true) → MayGoWith headed d e) × (MayGoWith headed d e → r ≡ true)
    other_goes t = (λ h. made (λ s. let z : true ≡ false = sym h ∙ (rs ∙ (sym s ∙ (sym ps ∙ t))) in cc), λ g. port_second p r t (λ s. g.one_port (sym ps ∙ (s ∙ rs))))

-- ---- the first declaration of a name

pub first_at : (ds : List Decl) (o : Option (Bor View)) (d : Bor View) (x y : Name) → option_map (λ (z : Bor View). decl_meant z.now) o ≡ decl_at ds x → o ≡ Some d → x ≡ y → decl_at ds y ≡ Some (decl_meant d.now)
first_at ds o d x y e is same = ap (decl_at ds) (sym same) ∙ (sym e ∙ ap (option_map (λ (z : Bor View). decl_meant z.now)) is)

pub among_at : (ds : List Decl) (x : Name) (d : Decl) → decl_at ds x ≡ Some d → Among ds d
among_at [] x d e = cc
among_at (z ∷ zs) x d e = elim (cases_Bool (bytes_eq z.name x)) [
  | inl t ↦ (let g : Some z ≡ Some d = rw t at e in let same : z ≡ d = cc in inl same)
  | inr n ↦ inr (among_at zs x d (rw n at e))
]

pub none_at : (ds : List Decl) (o : Option (Bor View)) (x : Name) (d : Decl) → option_map (λ (z : Bor View). decl_meant z.now) o ≡ decl_at ds x → ((z : Bor View) → o ≡ Some z → ⊥) → decl_at ds x ≡ Some d → ⊥
none_at ds None x d e no' is = let z : None ≡ Some d = e ∙ is in cc
none_at ds (Some z) x d e no' is = no' z refl

module _ (m : Module) (v : List Entry) (ds : List Decl) (e d : Decl) (at : decl_at ds e.name ≡ Some d) (b : Bool) (is : IsTrue b ↔ GoesWith m v d e) where
  pub is_stray : b ≡ false → IsStray m v ds e
  is_stray f = (d, at, λ g. let z : true ≡ false = sym (is.1 g) ∙ f in cc)

  pub not_stray : b ≡ true → IsStray m v ds e → ⊥
  not_stray t s = let same : Some d ≡ Some s.0 = sym at ∙ s.1 in let one : d ≡ s.0 = cc in s.2 (subst (λ z. GoesWith m v z e) one (is.0 t))
