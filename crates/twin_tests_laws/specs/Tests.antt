-- Each line's violation as a test, in the order in which its circuit is built.
use Rattle.std.specs.Prelude.{ℕ, zero, suc, ◌-◌, ◌==◌, Bool, true, false, not, ◌&&◌, ◌||◌, List, length, drop, Option, Some, None}
use Rattle.std.specs.List.{list_all, list_any}
use Rattle.set_tree.specs.declared.set.Set.{Set}
use Rattle.set_tree.specs.declared.set.Cover.{Cover}
use Rattle.set_tree.specs.Meaning.{Row, Meaning, holds}
use Rattle.set_tree.specs.Parts.{property_at, window_of, assumed, committed, end_of, cover_end, in_domain, value_of}
use Rattle.set_tree.specs.declared.line.Line.{Line}
use Rattle.set_tree.specs.declared.line.Line.TheVariants.{Base, Step, Reset, Operation, End, Split, SameEnd, Choose, Hand, Determine}
use Rattle.word_dag.specs.Nodes.{Naming}
use Rattle.twin_tests_laws.specs.Windows.{named_rows}
use Rattle.twin_tests_laws.specs.Lines.{split_end, edge_end}

-- the test holds at each number below k
abbrev pub all_below : ℕ → (ℕ → Bool) → Bool
all_below zero p = true
all_below (suc k) p = all_below k p && p k

-- the test holds at one of the k numbers from n on
abbrev pub any_from : ℕ → ℕ → (ℕ → Bool) → Bool
any_from n zero p = false
any_from n (suc k) p = p n || any_from (suc n) k p

-- each constraint holds wherever its largest offset fits
abbrev pub meets_constraints : Meaning → Set → List Row → Bool
meets_constraints m set rows = list_all (λ rule. all_below (length rows - m.largest rule.formula) (λ t. holds m rule.formula (drop t rows))) set.constraints

abbrev pub starts : Meaning → Set → ℕ → List Row → Bool
starts m set p rows = assumed m set p rows && committed m set p rows

abbrev pub same_hands : Meaning → Set → ℕ → List Row → List Row → Bool
same_hands m set p xs ys = list_all (λ e. m.value e xs == m.value e ys) (property_at set p).hand

abbrev pub is_number : Option ℕ → ℕ → Bool
is_number None n = false
is_number (Some k) n = k == n

abbrev pub ends_at : Meaning → Set → ℕ → ℕ → List Row → Bool
ends_at m set p n rows = is_number (end_of m set p rows) n

abbrev pub opens : Meaning → Set → ℕ → List Row → Bool
opens m set p rows = meets_constraints m set rows && starts m set p rows

abbrev pub pairs : Meaning → Set → ℕ → List Row → List Row → Bool
pairs m set p xs ys = opens m set p xs && opens m set p ys && same_hands m set p xs ys

abbrev pub pairs_to : Meaning → Set → ℕ → ℕ → List Row → List Row → Bool
pairs_to m set p n xs ys = pairs m set p xs ys && ends_at m set p n xs && ends_at m set p n ys

abbrev pub violates_choose : Meaning → Set → ℕ → ℕ → ℕ → List Row → List Row → Bool
violates_choose m set p q n xs ys = pairs_to m set p n xs ys && assumed m set q (drop n xs) && not (assumed m set q (drop n ys))

abbrev pub violates_hand : Meaning → Set → ℕ → ℕ → ℕ → List Row → List Row → Bool
violates_hand m set p q n xs ys = pairs_to m set p n xs ys && starts m set q (drop n xs) && starts m set q (drop n ys) && not (same_hands m set q (drop n xs) (drop n ys))

abbrev pub violates_split : Meaning → Set → ℕ → ℕ → List Row → Bool
violates_split m set p n rows = opens m set p rows && ends_at m set p n rows && not (list_any (λ q. assumed m set q (drop n rows)) (property_at set p).next)

abbrev pub same : Bool → Bool → Bool
same true b = b
same false b = not b

-- the test holds at an end that P may have
abbrev pub any_end : Set → ℕ → (ℕ → Bool) → Bool
any_end set p test = let span = (property_at set p).length in any_from span.low (suc span.high - span.low) test

abbrev pub violates_end : Meaning → Set → ℕ → List Row → Bool
violates_end m set p rows = opens m set p rows && not (any_end set p (λ n. ends_at m set p n rows))

abbrev pub violates_same_end : Meaning → Set → ℕ → List Row → List Row → Bool
violates_same_end m set p xs ys = pairs m set p xs ys && any_end set p (λ n. not (same (ends_at m set p n xs) (ends_at m set p n ys)))

abbrev pub determined : Meaning → Set → ℕ → List Row → List Row → Bool
determined m set o xs ys = same (in_domain m set o xs) (in_domain m set o ys) && (not (in_domain m set o xs) || value_of o xs == value_of o ys)

abbrev pub violates_determine : Meaning → Set → ℕ → ℕ → List Row → List Row → Bool
violates_determine m set p n xs ys =
    pairs_to m set p n xs ys && list_any (λ (cover : Cover). any_from cover.from (cover_end cover.to n - cover.from) (λ at. not (determined m set cover.output (drop at xs) (drop at ys)))) (property_at set p).covers

-- whether the windows that the values name violate the line
abbrev pub line_test : Meaning → Set → Line → Naming → Bool
line_test m set (Base i) e = false
line_test m set (Step i) e = false
line_test m set Reset e = false
line_test m set (Operation p) e = false
line_test m set (End p) e = violates_end m set p (named_rows set e 0 (window_of set p))
line_test m set (Split p) e = any_end set p (λ n. violates_split m set p n (named_rows set e 0 (split_end set p n)))
line_test m set (SameEnd p) e = violates_same_end m set p (named_rows set e 0 (window_of set p)) (named_rows set e 1 (window_of set p))
line_test m set (Choose p q) e = any_end set p (λ n. let end = edge_end set p q n in violates_choose m set p q n (named_rows set e 0 end) (named_rows set e 1 end))
line_test m set (Hand p q) e = any_end set p (λ n. let end = edge_end set p q n in violates_hand m set p q n (named_rows set e 0 end) (named_rows set e 1 end))
line_test m set (Determine p) e = any_end set p (λ n. violates_determine m set p n (named_rows set e 0 (window_of set p)) (named_rows set e 1 (window_of set p)))
