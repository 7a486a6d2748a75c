use Rattle.std.proofs.Common.{◌+◌, ◌-◌, ◌*◌, length}
use Rattle.vlog_read_expr.specs.Answers.{Grown}
use Rattle.vlog_read_expr.proofs.ListSteps.{Begun_list}
use Rattle.vlog_read_expr.proofs.expr.Reader.+expr.Given as goal

abbrev pub invariant-expr_at-loop-op : goal.invariant-expr_at-loop-op
invariant-expr_at-loop-op l = Grown l.self.set l.self.tokens.now l.level l.at l.depth l.left

abbrev pub decreases-expr_at-loop-op : goal.decreases-expr_at-loop-op
decreases-expr_at-loop-op l = length l.self.tokens.now - l.left.end

abbrev pub invariant-list_from-loop-items : goal.invariant-list_from-loop-items
invariant-list_from-loop-items l = Begun_list l.self.set l.self.tokens.now l.at l.depth l.items l.height l.end

abbrev pub decreases-list_from-loop-items : goal.decreases-list_from-loop-items
decreases-list_from-loop-items l = length l.self.tokens.now - l.end

abbrev pub decreases-enclosed : goal.decreases-enclosed
decreases-enclosed l = 10 * l.depth + 9

abbrev pub decreases-list : goal.decreases-list
decreases-list l = 10 * l.depth + 9

abbrev pub decreases-list_from : goal.decreases-list_from
decreases-list_from l = 10 * l.depth + 8

abbrev pub decreases-expr_at : goal.decreases-expr_at
decreases-expr_at l = 10 * l.depth + 7

abbrev pub decreases-operand : goal.decreases-operand
decreases-operand l = 10 * l.depth + 6

abbrev pub decreases-extended : goal.decreases-extended
decreases-extended l = 10 * l.sought.depth + 6

abbrev pub decreases-binary : goal.decreases-binary
decreases-binary l = 10 * l.sought.depth + 5

abbrev pub decreases-choice : goal.decreases-choice
decreases-choice l = 10 * l.sought.depth + 5

abbrev pub decreases-worded : goal.decreases-worded
decreases-worded l = 10 * l.depth + 5

abbrev pub decreases-signed : goal.decreases-signed
decreases-signed l = 10 * l.depth + 5

abbrev pub decreases-named : goal.decreases-named
decreases-named l = 10 * l.depth + 4

abbrev pub decreases-cast : goal.decreases-cast
decreases-cast l = 10 * l.depth + 4

abbrev pub decreases-unary : goal.decreases-unary
decreases-unary l = 10 * l.depth + 4

abbrev pub decreases-paren : goal.decreases-paren
decreases-paren l = 10 * l.depth + 4

abbrev pub decreases-brace : goal.decreases-brace
decreases-brace l = 10 * l.depth + 4

abbrev pub decreases-bracket : goal.decreases-bracket
decreases-bracket l = 10 * l.depth + 3

abbrev pub decreases-concat : goal.decreases-concat
decreases-concat l = 10 * l.depth + 3

abbrev pub decreases-repeat : goal.decreases-repeat
decreases-repeat l = 10 * l.depth + 3

abbrev pub decreases-part : goal.decreases-part
decreases-part l = 10 * l.depth + 2
