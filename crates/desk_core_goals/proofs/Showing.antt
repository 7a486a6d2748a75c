-- What obligations of lines are to those that replay them.
use Rattle.set_tree.specs.Formulas.{meaning_of}
use Rattle.word_dag.specs.declared.ob.Named.{Named}
use Rattle.word_dag.specs.Nodes.{Naming}
use Rattle.twin_tests_laws.specs.Lines.{IsOf as IsOfSet}
use Rattle.unroll_laws.specs.Lines.{IsOf as IsOfDesign}
use Rattle.unroll_binding.specs.Binding.{Pair}
use Rattle.twin_tests.specs.declared.set_line.SetLine.{SetLine}
use Rattle.twin_tests.specs.declared.set_line.SetLine.TheVariants as s
use Rattle.twin_tests.specs.Ordering.{line_of as set_line_of}
use Rattle.unroll.specs.declared.design_line.DesignLine.{DesignLine}
use Rattle.unroll.specs.declared.design_line.DesignLine.TheVariants as d
use Rattle.unroll.specs.Named.{line_of as design_line_of}
use Rattle.replay.specs.declared.shown.Shown.{Shown}
use Rattle.replay.specs.Segments.{ShowsSegment}
use Rattle.replay.specs.Windows.{ShowsNamedWindows, ShowsWindows}
use Rattle.desk_core_goals.specs.Obligations.{IsExact}
use Rattle.desk_core_goals.specs.Traces.{ShowsLine}

pub of_design : (b : Pair) (line : DesignLine) (named : Named) → IsExact b (design_line_of line) named → IsOfDesign b.design (meaning_of b.set) b.set (design_line_of line) named.ob.nodes named.ob.root
of_design b (d.Base i) named h = h.of_line
of_design b (d.Step i) named h = h.of_line
of_design b d.Reset named h = h.of_line
of_design b (d.Operation p) named h = h.of_line

pub of_set : (b : Pair) (line : SetLine) (named : Named) → IsExact b (set_line_of line) named → IsOfSet (meaning_of b.set) b.set (set_line_of line) named.ob.nodes named.ob.root
of_set b (s.End p) named h = h.of_line
of_set b (s.Split p) named h = h.of_line
of_set b (s.SameEnd p) named h = h.of_line
of_set b (s.Choose p q) named h = h.of_line
of_set b (s.Hand p q) named h = h.of_line
of_set b (s.Determine p) named h = h.of_line

pub shows_design : (b : Pair) (line : DesignLine) (e : Naming) (shown : Shown) → ShowsSegment b.design (meaning_of b.set) b.set (design_line_of line) e shown → ShowsLine b (design_line_of line) e shown
shows_design b (d.Base i) e shown h = h
shows_design b (d.Step i) e shown h = h
shows_design b d.Reset e shown h = h
shows_design b (d.Operation p) e shown h = h

pub shows_set : (b : Pair) (line : SetLine) (e : Naming) (shown : Shown) → ShowsWindows b.set (set_line_of line) shown → ShowsNamedWindows b.set (set_line_of line) e shown → ShowsLine b (set_line_of line) e shown
shows_set b (s.End p) e shown h k = (h, k)
shows_set b (s.Split p) e shown h k = (h, k)
shows_set b (s.SameEnd p) e shown h k = (h, k)
shows_set b (s.Choose p q) e shown h k = (h, k)
shows_set b (s.Hand p q) e shown h k = (h, k)
shows_set b (s.Determine p) e shown h k = (h, k)
