use Rattle.std.proofs.Common.{◌≡◌, ℕ, ◌<◌, [], ◌∷◌, ◌++◌, length, map, subst, sym, ap, ◌∙◌, refl}
use Rattle.word_dag.specs.Nodes.{FitFrom, FitsNode, width_of}
use Rattle.word_dag.specs.Adding.{folded, IsAt}
use Rattle.word_dag.proofs.Valued.{is_dag_push, adds_is, adds_old, adds_new}
use Rattle.word_dag.proofs.dag.Dag.add.Goals as goal

pub invariant_of-self-in-None : goal.invariant_of-self-in-None
invariant_of-self-in-None c =
    let m = c.in-Make.node in
    let fits = subst (λ k. FitsNode (map width_of k) m) c.deref.ensures.value c.in-Make.ensures.fits in
    let fresh = subst (λ k. (j : ℕ) → IsAt k j m → ⊥) c.deref-in-Make.ensures.value c.in-None.ensures in
    is_dag_push c.self.inside.nodes.items c.append.new.nodes.items m c.self.inside.index c.append.new.index c.fingerprint-print.result c.self.invariant fits fresh c.fingerprint-print.ensures c.in_ok-append-in-None.ensures.nodes c.in_ok-append-in-None.ensures.index

pub returns-in-Is-clause-adds : goal.returns-in-Is-clause-adds
returns-in-Is-clause-adds c =
    let old = c.args.self.now in
    let is = c.deref.ensures.value ∙ c.self.view_is in
    let fit = subst (λ k. FitFrom [] k) c.self.view_is c.self.invariant.fit in
    let fold = sym (c.in-Is.ensures.value ∙ ap (λ k. folded k c.args.node) is) in
    let within : c.in-Is.number < length old = subst (λ k. c.in-Is.number < length k) is c.in-Is.ensures.fits in
    adds_is old old c.args.node c.in-Is.number fit c.requires c.in-Is.number fold within refl refl

pub returns-in-Some-clause-adds : goal.returns-in-Some-clause-adds
returns-in-Some-clause-adds c =
    let old = c.args.self.now in
    let m = c.in-Make.node in
    let is = c.deref.ensures.value ∙ c.self.view_is in
    let is' = c.deref-in-Make.ensures.value ∙ c.self.view_is in
    let fit = subst (λ k. FitFrom [] k) c.self.view_is c.self.invariant.fit in
    let fold = sym (c.in-Make.ensures.value ∙ ap (λ k. folded k c.args.node) is) in
    let there = subst (λ k. IsAt k c.in-Some.number m) is' c.in-Some.ensures in
    adds_old old old c.args.node c.in-Some.number fit c.requires m fold there refl

pub returns-in_ok-append-in-None-clause-adds : goal.returns-in_ok-append-in-None-clause-adds
returns-in_ok-append-in-None-clause-adds c =
    let old = c.args.self.now in
    let m = c.in-Make.node in
    let is = c.deref.ensures.value ∙ c.self.view_is in
    let is' = c.deref-in-Make.ensures.value ∙ c.self.view_is in
    let fit = subst (λ k. FitFrom [] k) c.self.view_is c.self.invariant.fit in
    let fold = sym (c.in-Make.ensures.value ∙ ap (λ k. folded k c.args.node) is) in
    let fits = subst (λ k. FitsNode (map width_of k) m) is c.in-Make.ensures.fits in
    let fresh = subst (λ k. (j : ℕ) → IsAt k j m → ⊥) is' c.in-None.ensures in
    let more = subst (λ k. c.append.new.nodes.items ≡ k ++ m ∷ []) c.self.view_is c.in_ok-append-in-None.ensures.nodes in
    let at = subst (λ k. c.in_ok-append-in-None.field-0 ≡ length k) c.self.view_is c.in_ok-append-in-None.ensures.number in
    adds_new old c.append.new.nodes.items c.args.node c.in_ok-append-in-None.field-0 fit c.requires m fold fits fresh more at
