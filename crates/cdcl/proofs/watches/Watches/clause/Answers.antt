use Rattle.std.proofs.Common.{◌≡◌, ℕ, List, get_or, sym, subst}
use Rattle.cdcl.specs.declared.watches.Watch.{Watch}
use Rattle.cdcl.proofs.watches.Watches.clause.Goals as goal

same_watch : (watched : List Watch) (n : ℕ) (x w : Watch) → w ≡ x → x ≡ get_or watched n x → w ≡ get_or watched n w
same_watch watched n x w e h = subst (λ v. v ≡ get_or watched n v) (sym e) h

pub returns-clause-watch : goal.returns-clause-watch
returns-clause-watch c = same_watch _ c.at-number.result _ c.watch.result c.watch.ensures c.index.ensures
