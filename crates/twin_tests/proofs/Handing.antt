-- Outputs and covers in rows of nodes.
use Rattle.std.proofs.Common.{◌≡◌, ℕ, zero, suc, ◌<◌, ◌≤◌, true, List, [], ◌∷◌, length, map, drop, get_or, refl, sym, ap, ◌∙◌, subst, arith, Option, Some, None, inl, inr}
use Rattle.std.specs.Prelude.{slice_get, slice_index}
use Rattle.std.specs.List.{All, Contains}
use Rattle.std.proofs.lemmas.List.{length-drop}
use Rattle.std.proofs.lemmas.List.Elements.{All-head, All-tail}
use Rattle.std.proofs.lemmas.Option.{slice_get-get_or, slice_get_cases}
use Rattle.vlog_tree.specs.declared.expr.Expr.{Expr}
use Rattle.vlog_tree.specs.Valuation.{IsLength}
use Rattle.word_dag.specs.declared.node.Node.{Node}
use Rattle.word_dag.specs.Nodes.{Naming}
use Rattle.set_tree.specs.declared.set.Cover.{Cover}
use Rattle.set_tree.specs.declared.set.Name.{Name}
use Rattle.set_tree.specs.declared.set.Set.{Set}
use Rattle.set_tree.specs.declared.set.To.{To}
use Rattle.set_tree.specs.declared.set.To.TheVariants.{At, AfterEnd}
use Rattle.set_tree.specs.Meaning.{Row, Meaning, holds}
use Rattle.set_tree.specs.Parts.{IsPosition, cover_end, domain_holds, domain_of, in_domain, property_at, value_of, window_of}
use Rattle.twin_tests.specs.Building.{AreLeaves, Counts, IsLeafRow, IsWide, Shows, word_in}
use Rattle.twin_tests.specs.Reading.{HasStructure}

in_is : (m : Meaning) (set : Set) (o : ℕ) (x : Name) (rows : List Row) → slice_get set.names o ≡ Some x → domain_holds m x.domain rows ≡ in_domain m set o rows
in_is m set o x rows at = sym (ap (λ (n : Option Name). domain_holds m (domain_of n) rows) at)

pub in_none : (m : Meaning) (set : Set) (o : ℕ) (x : Name) (rows : List Row) → slice_get set.names o ≡ Some x → x.domain ≡ None → true ≡ in_domain m set o rows
in_none m set o x rows at is = sym (ap (λ (d : Option Expr). domain_holds m d rows) is) ∙ in_is m set o x rows at

pub in_some : (m : Meaning) (set : Set) (o : ℕ) (x : Name) (e : Expr) (rows : List Row) → slice_get set.names o ≡ Some x → x.domain ≡ Some e → holds m e rows ≡ in_domain m set o rows
in_some m set o x e rows at is = sym (ap (λ (d : Option Expr). domain_holds m d rows) is) ∙ in_is m set o x rows at

pub name_at : (given names : List Name) (o : ℕ) (d : Name) → given ≡ names → o < length names → slice_get names o ≡ Some (get_or given o d)
name_at given names o d is lt = slice_get-get_or names o d lt ∙ ap (λ (ns : List Name). Some (get_or ns o d)) (sym is)

-- a name's node in a row
row_long : (names : List Name) (nodes : List Node) (row : List ℕ) → IsLeafRow names nodes row → length row ≡ length names
row_long [] nodes [] h = refl
row_long [] nodes (i ∷ row) h = absurd h
row_long (n ∷ names) nodes [] h = absurd h
row_long (n ∷ names) nodes (i ∷ row) h = let rest = row_long names nodes row h.1 in omega (arith, rest)

pub rows_long : (names : List Name) (nodes : List Node) (rows : List (List ℕ)) (o : ℕ) → o < length names → AreLeaves names nodes rows → All (λ row. o < length row) rows
rows_long names nodes rows o lt leaves = λ k d less. let long = row_long names nodes _ (leaves.each k d less) in omega (arith, long, lt)

wide_at : (names : List Name) (nodes : List Node) (row : List ℕ) (o : ℕ) → All (λ (n : Name). IsLength n.width) names → IsLeafRow names nodes row → o < length names → IsWide nodes (slice_index row o)
wide_at [] nodes row o widths h lt = absurd (omega (arith, lt))
wide_at (n ∷ names) nodes [] o widths h lt = absurd h
wide_at (n ∷ names) nodes (i ∷ row) zero widths h lt =
    let bounds = All-head (λ (x : Name). IsLength x.width) n names widths in
    record { below = h.0.below; some = rw h.0.width (omega (arith, bounds.0)); most = rw h.0.width bounds.1 }
wide_at (n ∷ names) nodes (i ∷ row) (suc o) widths h lt = wide_at names nodes row o (All-tail (λ (x : Name). IsLength x.width) n names widths) h.1 (omega (arith, lt))

index_map : (g : ℕ → ℕ) (row : List ℕ) (o : ℕ) → o < length row → slice_index (map g row) o ≡ g (slice_index row o)
index_map g [] o lt = absurd (omega (arith, lt))
index_map g (i ∷ row) zero lt = refl
index_map g (i ∷ row) (suc o) lt = index_map g row o (omega (arith, lt))

pub value_counts : (names : List Name) (nodes : List Node) (rows : List (List ℕ)) (f : Naming → List Row) (o i : ℕ) → All (λ (n : Name). IsLength n.width) names → o < length names → 1 ≤ length rows → ((d : List ℕ) → i ≡ slice_index (get_or rows 0 d) o) → Shows names nodes rows f → Counts nodes i (λ e. value_of o (f e))
value_counts names nodes [] f o i widths lt some is shows = absurd (omega (arith, some))
value_counts names nodes (row ∷ rows) f o i widths lt some is shows =
    let leaf = All-head (IsLeafRow names nodes) row rows shows.leaves.each in
    let here : i ≡ slice_index row o = is row in
    let long = row_long names nodes row leaf in
    subst (λ (j : ℕ). Counts nodes j (λ e. value_of o (f e))) (sym here) (record {
      node = wide_at names nodes row o widths leaf lt;
      means = λ e. sym (index_map (λ j. (word_in nodes e j).value) row o (omega (arith, long, lt))) ∙ ap (value_of o) (shows.means e);
    })

pub value_wide : (names : List Name) (nodes : List Node) (rows : List (List ℕ)) (o i : ℕ) → All (λ (n : Name). IsLength n.width) names → o < length names → 1 ≤ length rows → ((d : List ℕ) → i ≡ slice_index (get_or rows 0 d) o) → AreLeaves names nodes rows → IsWide nodes i
value_wide names nodes [] o i widths lt some is leaves = absurd (omega (arith, some))
value_wide names nodes (row ∷ rows) o i widths lt some is leaves =
    let here : i ≡ slice_index row o = is row in
    subst (IsWide nodes) (sym here) (wide_at names nodes row o widths (All-head (IsLeafRow names nodes) row rows leaves.each) lt)

-- rows that are left
pub some_left : (rows later : List (List ℕ)) (t to : ℕ) → later ≡ drop t rows → t < to → to ≤ length rows → 1 ≤ length later
some_left rows later t to is lt le = let long = length-drop t rows in rw is (omega (arith, long, lt, le))

-- the covers of a property
pub get_again : {X : Type 0} (xs : List X) (k : ℕ) (d : X) → k < length xs → get_or xs k d ≡ get_or xs k (get_or xs k d)
get_again [] k d lt = absurd (omega (arith, lt))
get_again (x ∷ xs) zero d lt = refl
get_again (x ∷ xs) (suc k) d lt = get_again xs k d (omega (arith, lt))

pub member : {X : Type 0} (xs ys : List X) (k : ℕ) (x : X) → ys ≡ xs → x ≡ get_or ys k x → k < length ys → Contains xs x
member xs ys k x same is lt = subst (λ (zs : List _). Contains zs x) same (k, lt, sym is)

pub output_there : (set : Set) (p : ℕ) (cover : Cover) → HasStructure set → IsPosition set p → Contains (property_at set p).covers cover → cover.output < length set.names
output_there set p cover s position there =
    let (name, at, role) = s.formed.outputs p cover position there in
    elim ((slice_get_cases set.names cover.output).1) [
      | inl found ↦ found.1
      | inr none ↦ let clash : Some name ≡ None = sym at ∙ none.1 in absurd cc
    ]

later_end : (to : To) (n k : ℕ) → n ≤ k → cover_end to n ≤ cover_end to k
later_end (At r) n k le = omega arith
later_end (AfterEnd d) n k le = omega (arith, le)

pub cover_begins : (set : Set) (p n : ℕ) (cover : Cover) → HasStructure set → IsPosition set p → Contains (property_at set p).covers cover → (property_at set p).length.low ≤ n → cover.from ≤ cover_end cover.to n
cover_begins set p n cover s position there least =
    let begins = (s.sound.covers p cover position there).begins in
    let later = later_end cover.to (property_at set p).length.low n least in
    omega (arith, begins, later)

pub cover_fits : (set : Set) (p n k : ℕ) (cover : Cover) → HasStructure set → IsPosition set p → Contains (property_at set p).covers cover → n ≤ (property_at set p).length.high → window_of set p < k → cover_end cover.to n ≤ k
cover_fits set p n k cover s position there most fits =
    let within = (s.sound.covers p cover position there).fits in
    let later = later_end cover.to n (property_at set p).length.high most in
    omega (arith, within, later, fits)
