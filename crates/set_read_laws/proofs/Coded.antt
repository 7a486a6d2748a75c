-- A line's kind can be told from its name.
use Rattle.std.proofs.Common.{◌≡◌, ℕ, zero, suc, ◌==◌, List, get_or, refl, sym, ap, ◌∙◌, subst}
use Rattle.std.specs.Prelude.{if◌then◌else◌}
use Rattle.set_tree.specs.declared.line.Line.{Line}
use Rattle.set_tree.specs.declared.line.Line.TheVariants.{Base, Step, Reset, Operation, End, Split, SameEnd, Choose, Hand, Determine}
use Rattle.set_tree.specs.declared.set.Set.{Set}
use Rattle.twin_tests_laws.specs.Names.{line_name}

-- a line as its kind and two positions
abbrev kind : Line → ℕ
kind (Base i) = 0
kind (Step i) = 1
kind Reset = 2
kind (Operation p) = 3
kind (End p) = 4
kind (Split p) = 5
kind (SameEnd p) = 6
kind (Choose p q) = 7
kind (Hand p q) = 8
kind (Determine p) = 9

abbrev pub first : Line → ℕ
first (Base i) = i
first (Step i) = i
first Reset = 0
first (Operation p) = p
first (End p) = p
first (Split p) = p
first (SameEnd p) = p
first (Choose p q) = p
first (Hand p q) = p
first (Determine p) = p

abbrev pub second : Line → ℕ
second (Base i) = 0
second (Step i) = 0
second Reset = 0
second (Operation p) = 0
second (End p) = 0
second (Split p) = 0
second (SameEnd p) = 0
second (Choose p q) = q
second (Hand p q) = q
second (Determine p) = 0

abbrev pub coded : ℕ → ℕ → ℕ → Line
coded zero p q = Base p
coded (suc zero) p q = Step p
coded (suc (suc zero)) p q = Reset
coded (suc (suc (suc zero))) p q = Operation p
coded (suc (suc (suc (suc zero)))) p q = End p
coded (suc (suc (suc (suc (suc zero))))) p q = Split p
coded (suc (suc (suc (suc (suc (suc zero)))))) p q = SameEnd p
coded (suc (suc (suc (suc (suc (suc (suc zero))))))) p q = Choose p q
coded (suc (suc (suc (suc (suc (suc (suc (suc zero)))))))) p q = Hand p q
coded (suc (suc (suc (suc (suc (suc (suc (suc (suc k))))))))) p q = Determine p

decoded : (x : Line) → coded (kind x) (first x) (second x) ≡ x
decoded (Base i) = refl
decoded (Step i) = refl
decoded Reset = refl
decoded (Operation p) = refl
decoded (End p) = refl
decoded (Split p) = refl
decoded (SameEnd p) = refl
decoded (Choose p q) = refl
decoded (Hand p q) = refl
decoded (Determine p) = refl

-- the kind, from the first two bytes of the name
abbrev kind_from : ℕ → ℕ → ℕ
kind_from a b =
    if a == 98 then 0 else (
    if a == 114 then 2 else (
    if a == 111 then 3 else (
    if a == 101 then 4 else (
    if a == 99 then 7 else (
    if a == 104 then 8 else (
    if a == 100 then 9 else (
    if b == 116 then 1 else (
    if b == 112 then 5 else 6))))))))

abbrev kind_of_name : List ℕ → ℕ
kind_of_name w = kind_from (get_or w 0 0) (get_or w 1 0)

told : (set : Set) (x : Line) → kind_of_name (line_name set x) ≡ kind x
told set (Base i) = refl
told set (Step i) = refl
told set Reset = refl
told set (Operation p) = refl
told set (End p) = refl
told set (Split p) = refl
told set (SameEnd p) = refl
told set (Choose p q) = refl
told set (Hand p q) = refl
told set (Determine p) = refl

-- a line with the name of another is one of that one's kind
pub of_kind : (set : Set) (x y : Line) → line_name set x ≡ line_name set y → coded (kind x) (first y) (second y) ≡ y
of_kind set x y same =
    let kinds : kind y ≡ kind x = sym (told set y) ∙ (ap kind_of_name (sym same) ∙ told set x) in
    subst (λ k. coded k (first y) (second y) ≡ y) kinds (decoded y)
