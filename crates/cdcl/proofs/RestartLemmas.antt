use Rattle.std.proofs.Common.{◌≡◌, ◌<◌, ℕ, List, take, get_or, length, length-take, arith, sym, ◌∙◌, ap, subst, Vec, Global}
use Rattle.clause_check.specs.declared.literal.Lit.{Lit}
use Rattle.clause_check.specs.declared.formula.Step.{Step}
use Rattle.clause_check.specs.declared.formula.Cnf.{Cnf}
use Rattle.clause_check.specs.Derivations.{clause_at, clauses_of}
use Rattle.cdcl.specs.declared.trail.Entry.{Entry}
use Rattle.cdcl.specs.declared.search.Search.{Search}
use Rattle.cdcl.specs.declared.watches.Watch.{Watch}
use Rattle.cdcl.specs.declared.solver.Solver.{Solver}
use Rattle.cdcl.specs.Solvers.{Restarts}
use Rattle.cdcl.specs.Turns.{IsSolver, Returns}
use Rattle.cdcl.specs.Copying.{IsCopied}
use Rattle.cdcl.specs.Watching.{IsKept, IsTable, IsPropagated}
use Rattle.cdcl.proofs.WatchLemmas.{kept_cut}
use Rattle.cdcl.proofs.VisitSteps.{clauses_in, along}

module _ (cnf : Cnf) (s : Solver) (is : IsSolver cnf s) (some : 0 < length s.search.starts.items) (f : Search) (j : Restarts cnf s.search f) where
  abbrev entries : List Entry
  entries = s.search.trail.entries

  abbrev starts : List ℕ
  starts = s.search.starts.items

  abbrev watched : List Watch
  watched = s.watches.watched.items

  abbrev t : ℕ
  t = get_or starts 0 0

  abbrev clauses : List (List Lit)
  clauses = clauses_in cnf s

  abbrev restarted : Solver
  restarted = record { search = f; watches = s.watches; next = length f.trail.entries }

  same : clauses_in cnf restarted ≡ clauses
  same = ap (λ (x : Vec Step Global). clauses_of cnf.clauses x.items) j.steps

  next_is : length f.trail.entries ≡ t
  next_is = let w = is.part.search.within 0 some in omega (arith, ap length j.entries, length-take t entries)

  pub returns_from : Returns cnf s restarted
  returns_from =
      let p = is.part.propagated in
      record {
        is = record {
          part = record {
            search = j.stands;
            table = subst (λ c. IsTable c cnf.vars watched s.watches.lists) (sym same) is.part.table;
            copied = subst (λ c. IsCopied cnf.vars c (length watched) s.watches.copies.lits.items s.watches.copies.bounds.items) (sym same) is.part.copied;
            propagated = subst (λ n. IsPropagated (clauses_in cnf restarted) f.trail.entries f.starts.items n watched) (sym next_is)
                (record {
                  kept = λ k d lt.
                      along (λ c x y. IsKept (clause_at c k) x y t (get_or watched k d)) clauses (clauses_in cnf restarted) (take t entries) f.trail.entries (take 0 starts) f.starts.items same j.entries j.starts
                      (kept_cut (clause_at clauses k) entries starts is.part.search.rising 0 some s.next (p.level 0 some) (get_or watched k d) (p.kept k d lt));
                  reached = omega (arith, next_is);
                  level = λ i lt. absurd (omega (arith, lt, ap length j.starts));
                });
          };
          whole = is.whole ∙ ap length (sym same);
        };
        steps = j.steps;
      }
