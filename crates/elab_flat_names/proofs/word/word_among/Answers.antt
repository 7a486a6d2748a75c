use Rattle.std.proofs.Common.{◌≡◌, ◌<◌, ◌++◌, true, false, codes, arith, sym, ap, subst, ◌∙◌, below_more}
use Rattle.std.specs.Prelude.{decimal}
use Rattle.vlog_tree_runs.specs.Places.{Among}
use Rattle.vlog_tree_runs.specs.Contents.{is_among}
use Rattle.elab_flat_faults.specs.Declaring.{words_of}
use Rattle.elab_flat_drivers.proofs.Naming.{among_of}
use Rattle.elab_flat_names.proofs.Searches.{not_among}
use Rattle.elab_flat_names.proofs.Words.{word, word_in, in_words}
use Rattle.elab_flat_names.proofs.word.word_among.Goals as goal

pub returns-then-has : goal.returns-then-has
returns-then-has c =
    let names = c.args.names.now in
    let g = c.args.signal.now in
    let name = c.in_ok-name.name in
    let has : is_among names name ≡ true = ap (is_among names) (sym c.bytes-in-loop-index.ensures) ∙ (sym c.has.ensures ∙ c.if-has.true) in
    let is : name ≡ word g c.loop-index.index = c.in_ok-name.ensures ∙ ap (λ x. x ++ codes "$" ++ decimal c.loop-index.index) c.bytes.ensures in
    (among_of names name has, subst (Among (words_of g)) (sym is) (word_in g c.loop-index.index c.loop-index-test.true))

pub loop-index-preserved : goal.loop-index-preserved
loop-index-preserved c =
    let names = c.args.names.now in
    let g = c.args.signal.now in
    let name = c.in_ok-name.name in
    let lacks : is_among names name ≡ false = ap (is_among names) (sym c.bytes-in-loop-index.ensures) ∙ (sym c.has.ensures ∙ c.if-has.false) in
    let is : name ≡ word g c.loop-index.index = c.in_ok-name.ensures ∙ ap (λ x. x ++ codes "$" ++ decimal c.loop-index.index) c.bytes.ensures in
    below_more (λ j. Among names (word g j) → ⊥) c.loop-index.index c.loop-index.invariant (λ a. not_among names name lacks (subst (Among names) (sym is) a))

pub returns : goal.returns
returns c = λ x h.
    let r = in_words c.args.signal.now x h.1 in
    let lt : r.0 < c.loop-index.index = omega (arith, r.1, c.loop-index-test.false) in
    c.loop-index.invariant r.0 lt (subst (Among c.args.names.now) (sym r.2) h.0)
