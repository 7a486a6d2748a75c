use Rattle.std.proofs.Common.{◌≡◌, ◌++◌, List, ℕ, suc, length, map, ap, ◌∙◌, arith}
use Rattle.std.specs.List.{flat_map}
use Rattle.set_tree.specs.declared.set.Property.{Property}
use Rattle.set_tree.specs.Parts.{property_at}
use Rattle.set_tree.specs.Report.{numbers_from}
use Rattle.twin_tests.specs.Ordering.{edge_line, line_of}
use Rattle.twin_tests.proofs.Reported.{edges_step}
use Rattle.twin_tests.proofs.lines.push_edges.Goals as goal

pub loop-p-preserved : goal.loop-p-preserved
loop-p-preserved c =
    let next = c.as_slice-in-loop-p.ensures ∙ ap (λ (y : Property). y.next) c.property_of.ensures in
    edges_step (λ p. map (edge_line c.args.kind p) (property_at c.args.set.now p).next) (map line_of c.args.lines.now.items) (map line_of c.loop-p.lines.items) (map line_of c.push_next.new.lines.items) c.loop-p.p c.loop-p.invariant
    (c.in_ok-push_next.ensures ∙ ap (λ (ns : List ℕ). map line_of c.loop-p.lines.items ++ map (edge_line c.args.kind c.loop-p.p) ns) next)

pub returns : goal.returns
returns c =
    let long = ap (λ (ps : List Property). length ps) c.as_slice.ensures in
    let whole : c.loop-p.p ≡ suc (length c.args.set.now.operations) = omega (arith, c.loop-p-test.false, c.loop-p.auto.p-end, long) in
    c.loop-p.invariant ∙ ap (λ k. map line_of c.args.lines.now.items ++ flat_map (λ p. map (edge_line c.args.kind p) (property_at c.args.set.now p).next) (numbers_from 0 k)) whole
