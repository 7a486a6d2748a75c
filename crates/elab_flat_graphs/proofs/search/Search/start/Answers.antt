use Rattle.std.proofs.Common.{rules, replicate, sym, ap, ◌∙◌, length, ◌≡◌}
use Rattle.elab_flat_graphs.specs.declared.search.Mark.TheVariants as m
use Rattle.elab_flat_graphs.specs.Graphs.{graph_of}
use Rattle.elab_flat_graphs.proofs.Searching.{graph_long, started}
use Rattle.elab_flat_graphs.proofs.search.Search.start.Goals as goal

pub returns-clause-search : goal.returns-clause-search
returns-clause-search c =
    let g = graph_of c.args.graph.now in
    let a : c.in_ok-vec.field-0.items ≡ replicate (length c.args.graph.now) m.New = search rules in
    let b : c.in_ok-vec-2.field-0.items ≡ replicate (length c.args.graph.now) 0 = search rules in
    let n = sym (graph_long c.args.graph.now) in
    started g c.in_ok-vec.field-0.items c.in_ok-vec-2.field-0.items c.new.result.items c.new-2.result.items (a ∙ ap (λ k. replicate k m.New) n) (b ∙ ap (λ k. replicate k 0) n) c.new.ensures.items c.new-2.ensures.items
