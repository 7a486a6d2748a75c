-- A root that is the test of a line is of the line.
use Rattle.std.proofs.Common.{◌≡◌, Bool, true, false, refl, sym, ap, ◌∙◌, arith}
use Rattle.word_core.specs.Words.{Bits, flag}
use Rattle.set_tree.specs.declared.line.Line.{Line}
use Rattle.set_tree.specs.declared.set.Set.{Set}
use Rattle.set_tree.specs.Meaning.{Meaning}
use Rattle.twin_tests_laws.specs.Laws.{TestsAreOfLines}
use Rattle.twin_tests_laws.specs.Tests.{line_test}
use Rattle.twin_tests_laws.proofs.Testing.{test_is_exact}

flag_is : (b : Bool) → (flag b).value ≡ 1 → b ≡ true
flag_is true h = refl
flag_is false h = absurd (let clash : 0 ≡ 1 = h in omega (arith, clash))

pub tests_are_of_lines : (m : Meaning) (set : Set) (line : Line) → TestsAreOfLines m set line
tests_are_of_lines m set line order nodes root test e =
    let exact = test_is_exact m set line order e in (
      λ h. exact.0 (flag_is (line_test m set line e) (sym (ap (λ (w : Bits). w.value) (test e)) ∙ h)),
      λ v. ap (λ (w : Bits). w.value) (test e ∙ ap flag (exact.1 v)),
    )
