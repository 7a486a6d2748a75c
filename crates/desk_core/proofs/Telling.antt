-- Tables that may not be told, and the block of a name in them.
use Rattle.std.proofs.Common.{◌≡◌, ℕ, List, Option, Some, None, refl, sym, subst, ◌∙◌}
use Rattle.std.specs.Prelude.{Result, Ok, Err, IfSome}
use Rattle.std.specs.FinMap.{get}
use Rattle.outside.specs.declared.rows.Block.{Block}
use Rattle.outside.specs.Tables.{Tables}
use Rattle.proof_store.specs.Stored.{Told}
use Rattle.proof_store.specs.declared.fault.StoreFault.{StoreFault}
use Rattle.desk_core_commands.specs.declared.command.Answer.{Answer}
use Rattle.desk_core.specs.Quiet.{OfBlock, StepsQuietly}
use Rattle.desk_core.specs.Steps.{Desk, desk}

-- what holds of the tables that are told, at these tables
pub told_at : (P : Tables → Type 0) (o : Option Tables) (t : Tables) → IfSome o P → o ≡ Some t → P t
told_at P o t h is = subst (λ (z : Option Tables). IfSome z P) is h

-- what follows from how the tables are told
pub told_then : (R S : Tables → Tables → Type 0) (o p : Option Tables) → ((t u : Tables) → o ≡ Some t → R t u → S t u) → Told R o p → Told S o p
told_then R S None None h r = tt
told_then R S None (Some u) h r = absurd r
told_then R S (Some t) None h r = absurd r
told_then R S (Some t) (Some u) h r = h t u refl r

-- ---- the block of a name

abbrev pub IsRow : List ℕ → Option Block → Option Tables → Type 0
IsRow name row o = IfSome o (λ t. row ≡ get t.blocks name)

-- what holds where it is this one, holds
pub told_of_found : (R : Tables → Tables → Type 0) (name : List ℕ) (row : Option Block) (b : Block) (o p q : Option Tables) → IsRow name row o → p ≡ o → row ≡ Some b
    → Told (λ t u. (get t.blocks name ≡ Some b) → R t u) p q → Told R o q
told_of_found R name row b o p q at same some h =
    told_then (λ t u. (get t.blocks name ≡ Some b) → R t u) R o q (λ t u is r. r (sym (told_at (λ t. row ≡ get t.blocks name) o t at is) ∙ some))
    (subst (λ (z : Option Tables). Told (λ t u. (get t.blocks name ≡ Some b) → R t u) z q) same h)

pub quiet_of_found : (R : Answer → Desk → Desk → Type 0) (r : Result Answer StoreFault) (name : List ℕ) (row : Option Block) (b : Block) (o p q : Option Tables) → IsRow name row o → p ≡ o → row ≡ Some b
    → StepsQuietly (OfBlock name b R) r p q → StepsQuietly R r o q
quiet_of_found R (Ok answer) name row b o p q at same some h =
    λ asked book. told_of_found (λ t u. R answer (desk t asked book) (desk u asked book)) name row b o p q at same some (h asked book)
quiet_of_found R (Err fault) name row b o p q at same some h = tt
