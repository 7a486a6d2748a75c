-- What is asked of each form's parts, and the shape that it has.
use Rattle.std.proofs.Common.{refl, sym, ◌∙◌}
use Rattle.vlog_tree.specs.Valuation.{named}
use Rattle.vlog_tree.specs.Value.{operand_of}
use Rattle.vlog_tree_values.proofs.Facts.{cast_has, paren_has, choice_has, needs_bound, needs_second}
use Rattle.vlog_tree_values.proofs.Forms.{part_formed, constant_part_formed, cast_formed, paren_formed, unary_formed, binary_formed, choice_formed}
use Rattle.elab_step_expr.specs.Leaves.{declared}
use Rattle.vlog_tree_values.proofs.Shaped.{constant_select_shape, part_shape, constant_part_shape, reduction_shape, change_shape}
use Rattle.vlog_tree_values.proofs.Counted.{sized_where}
use Rattle.elab_step_expr.proofs.Measured.{select_shape}
use Rattle.elab_step_expr.proofs.shapes.+shaping.Goals as goal

pub shape-part_length-requires-clause-first : goal.shape-part_length-requires-clause-first
shape-part_length-requires-clause-first t c = let h = part_formed (declared c.args.leaves.now) c.in-Part.field-0 c.in-Part.span c.in-Part.a c.in-Part.b c.args.expr.now c.in-Part.is c.requires in needs_bound (declared c.args.leaves.now) (named (declared c.args.leaves.now) c.in-Part.field-0) c.in-Part.span c.in-Part.a c.in-Part.a (operand_of (declared c.args.leaves.now) c.in-Part.b) refl h.1 h.3

pub shape-part_length-requires-clause-formed : goal.shape-part_length-requires-clause-formed
shape-part_length-requires-clause-formed t c = (part_formed (declared c.args.leaves.now) c.in-Part.field-0 c.in-Part.span c.in-Part.a c.in-Part.b c.args.expr.now c.in-Part.is c.requires).2

pub shape-part_length-requires-clause-defined : goal.shape-part_length-requires-clause-defined
shape-part_length-requires-clause-defined t c = needs_second (named (declared c.args.leaves.now) c.in-Part.field-0) c.in-Part.span (operand_of (declared c.args.leaves.now) c.in-Part.a) (operand_of (declared c.args.leaves.now) c.in-Part.b) (part_formed (declared c.args.leaves.now) c.in-Part.field-0 c.in-Part.span c.in-Part.a c.in-Part.b c.args.expr.now c.in-Part.is c.requires).3

pub shape-part_length-requires-clause-length : goal.shape-part_length-requires-clause-length
shape-part_length-requires-clause-length t c = (part_formed (declared c.args.leaves.now) c.in-Part.field-0 c.in-Part.span c.in-Part.a c.in-Part.b c.args.expr.now c.in-Part.is c.requires).4

pub shape-part_length-requires-in-ConstantPart-clause-first : goal.shape-part_length-requires-in-ConstantPart-clause-first
shape-part_length-requires-in-ConstantPart-clause-first t c = let h = constant_part_formed (declared c.args.leaves.now) c.in-ConstantPart.field-0 c.in-ConstantPart.span c.in-ConstantPart.a c.in-ConstantPart.b c.args.expr.now c.in-ConstantPart.is c.requires in needs_bound (declared c.args.leaves.now) c.in-ConstantPart.field-0 c.in-ConstantPart.span c.in-ConstantPart.a c.in-ConstantPart.a (operand_of (declared c.args.leaves.now) c.in-ConstantPart.b) refl h.1 h.3

pub shape-part_length-requires-in-ConstantPart-clause-formed : goal.shape-part_length-requires-in-ConstantPart-clause-formed
shape-part_length-requires-in-ConstantPart-clause-formed t c = (constant_part_formed (declared c.args.leaves.now) c.in-ConstantPart.field-0 c.in-ConstantPart.span c.in-ConstantPart.a c.in-ConstantPart.b c.args.expr.now c.in-ConstantPart.is c.requires).2

pub shape-part_length-requires-in-ConstantPart-clause-defined : goal.shape-part_length-requires-in-ConstantPart-clause-defined
shape-part_length-requires-in-ConstantPart-clause-defined t c = needs_second c.in-ConstantPart.field-0 c.in-ConstantPart.span (operand_of (declared c.args.leaves.now) c.in-ConstantPart.a) (operand_of (declared c.args.leaves.now) c.in-ConstantPart.b) (constant_part_formed (declared c.args.leaves.now) c.in-ConstantPart.field-0 c.in-ConstantPart.span c.in-ConstantPart.a c.in-ConstantPart.b c.args.expr.now c.in-ConstantPart.is c.requires).3

pub shape-part_length-requires-in-ConstantPart-clause-length : goal.shape-part_length-requires-in-ConstantPart-clause-length
shape-part_length-requires-in-ConstantPart-clause-length t c = (constant_part_formed (declared c.args.leaves.now) c.in-ConstantPart.field-0 c.in-ConstantPart.span c.in-ConstantPart.a c.in-ConstantPart.b c.args.expr.now c.in-ConstantPart.is c.requires).4

pub shape-formed-requires : goal.shape-formed-requires
shape-formed-requires t c = cast_formed (declared c.args.leaves.now) c.in-Cast.cast c.in-Cast.inner c.args.expr.now c.in-Cast.is c.requires

pub shape-formed-requires-in-Paren : goal.shape-formed-requires-in-Paren
shape-formed-requires-in-Paren t c = paren_formed (declared c.args.leaves.now) c.in-Paren.inner c.args.expr.now c.in-Paren.is c.requires

pub shape-formed-requires-in-Unary : goal.shape-formed-requires-in-Unary
shape-formed-requires-in-Unary t c = unary_formed (declared c.args.leaves.now) c.in-Unary.op c.in-Unary.inner c.args.expr.now c.in-Unary.is c.requires

pub shape-formed-requires-in-Choice : goal.shape-formed-requires-in-Choice
shape-formed-requires-in-Choice t c = (choice_formed (declared c.args.leaves.now) c.in-Choice.field-0 c.in-Choice.a c.in-Choice.b c.args.expr.now c.in-Choice.is c.requires).1

pub shape-formed-requires-in-Choice-2 : goal.shape-formed-requires-in-Choice-2
shape-formed-requires-in-Choice-2 t c = (choice_formed (declared c.args.leaves.now) c.in-Choice.field-0 c.in-Choice.a c.in-Choice.b c.args.expr.now c.in-Choice.is c.requires).2

pub shape-returns-in-Select : goal.shape-returns-in-Select
shape-returns-in-Select t c = select_shape c.args.leaves.now c.in-Select.field-0 c.in-Select.field-1 c.args.expr.now c.in-Select.is c.requires

pub shape-returns-in-ConstantSelect : goal.shape-returns-in-ConstantSelect
shape-returns-in-ConstantSelect t c = constant_select_shape (declared c.args.leaves.now) c.in-ConstantSelect.field-0 c.in-ConstantSelect.field-1 c.args.expr.now c.in-ConstantSelect.is c.requires

pub shape-returns-in_ok-width-in-Part : goal.shape-returns-in_ok-width-in-Part
shape-returns-in_ok-width-in-Part t c = part_shape (declared c.args.leaves.now) c.in-Part.field-0 c.in-Part.span c.in-Part.a c.in-Part.b c.args.expr.now c.in-Part.a c.in-Part.b c.in_ok-width-in-Part.width c.in-Part.is refl refl c.requires c.in_ok-width-in-Part.ensures

pub shape-returns-in_ok-width-in-ConstantPart : goal.shape-returns-in_ok-width-in-ConstantPart
shape-returns-in_ok-width-in-ConstantPart t c = constant_part_shape (declared c.args.leaves.now) c.in-ConstantPart.field-0 c.in-ConstantPart.span c.in-ConstantPart.a c.in-ConstantPart.b c.args.expr.now c.in-ConstantPart.a c.in-ConstantPart.b c.in_ok-width-in-ConstantPart.width c.in-ConstantPart.is refl refl c.requires c.in_ok-width-in-ConstantPart.ensures

pub shape-returns-in_ok-inner-in-Cast : goal.shape-returns-in_ok-inner-in-Cast
shape-returns-in_ok-inner-in-Cast t c = cast_has (declared c.args.leaves.now) c.in-Cast.cast c.in-Cast.inner c.args.expr.now c.formed.result.now c.in_ok-inner-in-Cast.inner.0 c.is_signed.result c.in_ok-inner-in-Cast.inner.1 c.in-Cast.is c.formed.ensures.same c.in_ok-inner-in-Cast.ensures c.is_signed.ensures

pub shape-returns-in_ok-inner-in-Paren : goal.shape-returns-in_ok-inner-in-Paren
shape-returns-in_ok-inner-in-Paren t c = paren_has (declared c.args.leaves.now) c.in-Paren.inner c.args.expr.now c.formed-in-Paren.result.now c.in_ok-inner-in-Paren.inner.0 c.in_ok-inner-in-Paren.inner.1 c.in-Paren.is c.formed-in-Paren.ensures.same c.in_ok-inner-in-Paren.ensures

pub shape-returns-then-is_reduction : goal.shape-returns-then-is_reduction
shape-returns-then-is_reduction t c = reduction_shape (declared c.args.leaves.now) c.in-Unary.op c.in-Unary.inner c.args.expr.now c.in-Unary.is (sym c.is_reduction.ensures ∙ c.if-is_reduction.true) c.requires

pub shape-returns-in_ok-inner-in-Unary : goal.shape-returns-in_ok-inner-in-Unary
shape-returns-in_ok-inner-in-Unary t c = change_shape (declared c.args.leaves.now) c.in-Unary.op c.in-Unary.inner c.args.expr.now c.formed-in-Unary.result.now c.in_ok-inner-in-Unary.inner.0 c.in_ok-inner-in-Unary.inner.1 c.in-Unary.is c.formed-in-Unary.ensures.same (sym c.is_reduction.ensures ∙ c.if-is_reduction.false) c.in_ok-inner-in-Unary.ensures

pub shape-returns-in_ok-right-in-Choice : goal.shape-returns-in_ok-right-in-Choice
shape-returns-in_ok-right-in-Choice t c = choice_has (declared c.args.leaves.now) c.in-Choice.field-0 c.in-Choice.a c.in-Choice.b c.args.expr.now c.in-Choice.field-0 c.formed-in-Choice.result.now c.formed-in-Choice-2.result.now c.longer.result.0 c.in_ok-left-in-Choice.left.0 c.in_ok-right-in-Choice.right.0 c.longer.result.1 c.in_ok-left-in-Choice.left.1 c.in_ok-right-in-Choice.right.1 c.in-Choice.is refl c.formed-in-Choice.ensures.same c.formed-in-Choice-2.ensures.same (choice_formed (declared c.args.leaves.now) c.in-Choice.field-0 c.in-Choice.a c.in-Choice.b c.args.expr.now c.in-Choice.is c.requires).0 c.in_ok-left-in-Choice.ensures c.in_ok-right-in-Choice.ensures c.longer.ensures.width c.longer.ensures.sign

pub shape-formed-requires-in-Binary : goal.shape-formed-requires-in-Binary
shape-formed-requires-in-Binary t c = (binary_formed (declared c.args.leaves.now) c.in-Binary.op c.in-Binary.a c.in-Binary.b c.args.expr.now c.in-Binary.is c.requires).0

pub shape-formed-requires-in-Binary-2 : goal.shape-formed-requires-in-Binary-2
shape-formed-requires-in-Binary-2 t c = (binary_formed (declared c.args.leaves.now) c.in-Binary.op c.in-Binary.a c.in-Binary.b c.args.expr.now c.in-Binary.is c.requires).1

pub shape-returns-in_ok-right-in-Binary : goal.shape-returns-in_ok-right-in-Binary
shape-returns-in_ok-right-in-Binary t c = sized_where _ _ _ _ _ _ _ _ _ _ _ _ _ _ _ _ c.in-Binary.is c.formed-in-Binary.ensures.same c.formed-in-Binary-2.ensures.same c.requires c.family_of-family.ensures c.sizing-counting.ensures.left c.sizing-counting.ensures.right c.in_ok-left-in-Binary.ensures c.in_ok-right-in-Binary.ensures c.joined_shape.ensures.width c.joined_shape.ensures.sign
