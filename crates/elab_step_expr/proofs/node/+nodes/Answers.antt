-- What each form of an expression gives.
use Rattle.std.proofs.Common.{◌≤◌, length, refl, pos, arith}
use Rattle.std.proofs.lemmas.List.{drop_all}
use Rattle.std.proofs.lemmas.Int.{ints}
use Rattle.vlog_tree.specs.Valuation.{named}
use Rattle.vlog_tree.specs.Value.{integer, natural, own_integer, operand_of, part_low}
use Rattle.vlog_tree_values.proofs.Forms.{select_formed, part_formed, constant_select_formed, constant_part_formed}
use Rattle.vlog_tree_values.proofs.Rows.{next_part}
use Rattle.elab_step_expr.specs.Leaves.{declared}
use Rattle.elab_step_expr.specs.Nodes.{number_at}
use Rattle.elab_step_expr.proofs.Kept.{keeps_then, ready_kept, made_node}
use Rattle.elab_step_expr.proofs.Parts.{select_index, part_first, part_second, constant_select_index, constant_part_first, cast_inner, paren_inner, concat_row, repeat_row, repeat_count, repeat_bits, choice_condition, choice_first, choice_second}
use Rattle.elab_step_expr.proofs.Shaped.{alone_node}
use Rattle.elab_step_expr.proofs.Whole.{name_has, paren_has}
use Rattle.elab_step_expr.proofs.Forms.{settled, own_still, bits_has, fixed_has, select_bits, constant_select_bits, based_bits_are, constant_bits_are, constant_has, division_constant, fixed_constant, cast_wide, cast_done, unary_done, binary_done, choice_done}
use Rattle.elab_step_expr.proofs.Rows.{row_step, next_alone, next_bits, itself, row_has, alone_row, row_alone, concat_wide, concat_done, repeat_wide, repeat_length, counted, repeat_done}
use Rattle.elab_step_expr.proofs.node.+nodes.Goals as goal

-- ---- what is asked of the parts

pub node_at-alone-requires : goal.node_at-alone-requires
node_at-alone-requires t c = select_index c.args.leaves.now c.args.expr.now c.args.here.0 c.args.here.1 c.requires.taken c.in-Select.name c.in-Select.index c.in-Select.is

pub node_at-name_vector-vector-requires-clause-formed : goal.node_at-name_vector-vector-requires-clause-formed
node_at-name_vector-vector-requires-clause-formed t c = (select_formed (declared c.args.leaves.now) c.in-Select.name c.in-Select.index c.args.expr.now c.in-Select.is c.requires.taken.ready.formed).0

pub node_at-constant_integer-requires : goal.node_at-constant_integer-requires
node_at-constant_integer-requires t c = part_second c.args.leaves.now c.args.expr.now c.args.here.0 c.args.here.1 c.requires.taken c.in-Part.name c.in-Part.span c.in-Part.a c.in-Part.b c.in-Part.is

pub node_at-name_vector-vector-requires-then-is_fixed-clause-formed : goal.node_at-name_vector-vector-requires-then-is_fixed-clause-formed
node_at-name_vector-vector-requires-then-is_fixed-clause-formed t c = (part_formed (declared c.args.leaves.now) c.in-Part.name c.in-Part.span c.in-Part.a c.in-Part.b c.args.expr.now c.in-Part.is c.requires.taken.ready.formed).0

pub node_at-alone-requires-in-Part : goal.node_at-alone-requires-in-Part
node_at-alone-requires-in-Part t c = part_first c.args.leaves.now c.args.expr.now c.args.here.0 c.args.here.1 c.requires.taken c.in-Part.name c.in-Part.span c.in-Part.a c.in-Part.b c.in-Part.is

pub node_at-name_vector-vector-requires-in-Part-clause-formed : goal.node_at-name_vector-vector-requires-in-Part-clause-formed
node_at-name_vector-vector-requires-in-Part-clause-formed t c = (part_formed (declared c.args.leaves.now) c.in-Part.name c.in-Part.span c.in-Part.a c.in-Part.b c.args.expr.now c.in-Part.is c.requires.taken.ready.formed).0

pub node_at-alone-requires-in-ConstantSelect : goal.node_at-alone-requires-in-ConstantSelect
node_at-alone-requires-in-ConstantSelect t c = constant_select_index c.args.leaves.now c.args.expr.now c.args.here.0 c.args.here.1 c.requires.taken c.in-ConstantSelect.number c.in-ConstantSelect.index c.in-ConstantSelect.is

pub node_at-constant_vector-requires : goal.node_at-constant_vector-requires
node_at-constant_vector-requires t c = (constant_select_formed (declared c.args.leaves.now) c.in-ConstantSelect.number c.in-ConstantSelect.index c.args.expr.now c.in-ConstantSelect.is c.requires.taken.ready.formed).0

pub node_at-based_bits-requires-in-ConstantSelect-clause-node : goal.node_at-based_bits-requires-in-ConstantSelect-clause-node
node_at-based_bits-requires-in-ConstantSelect-clause-node t c = (c.in_ok-vector-in-ConstantSelect.ensures.vector c.args.leaves.now).node

pub node_at-alone-requires-in-ConstantPart : goal.node_at-alone-requires-in-ConstantPart
node_at-alone-requires-in-ConstantPart t c = constant_part_first c.args.leaves.now c.args.expr.now c.args.here.0 c.args.here.1 c.requires.taken c.in-ConstantPart.number c.in-ConstantPart.span c.in-ConstantPart.a c.in-ConstantPart.field-3 c.in-ConstantPart.is

pub node_at-constant_vector-requires-in-ConstantPart : goal.node_at-constant_vector-requires-in-ConstantPart
node_at-constant_vector-requires-in-ConstantPart t c = (constant_part_formed (declared c.args.leaves.now) c.in-ConstantPart.number c.in-ConstantPart.span c.in-ConstantPart.a c.in-ConstantPart.field-3 c.args.expr.now c.in-ConstantPart.is c.requires.taken.ready.formed).0

pub node_at-based_bits-requires-in-ConstantPart-clause-node : goal.node_at-based_bits-requires-in-ConstantPart-clause-node
node_at-based_bits-requires-in-ConstantPart-clause-node t c = (c.in_ok-vector-in-ConstantPart.ensures.vector c.args.leaves.now).node

pub node_at-alone-requires-in-Cast : goal.node_at-alone-requires-in-Cast
node_at-alone-requires-in-Cast t c = cast_inner c.args.leaves.now c.args.expr.now c.args.here.0 c.args.here.1 c.requires.taken c.in-Cast.field-0 c.in-Cast.inner c.in-Cast.is

pub node_at-extended-requires-clause-wider : goal.node_at-extended-requires-clause-wider
node_at-extended-requires-clause-wider t c =
    cast_wide c.args.leaves.now c.own_node-in-Cast.new.dag c.in-Cast.field-0 c.in-Cast.inner c.args.expr.now c.alone-in-Cast.result.now c.args.here.0 c.in_ok-inner-in-Cast.inner.signed c.in_ok-inner-in-Cast.inner.wire c.in-Cast.is c.alone-in-Cast.ensures.same c.in_ok-inner-in-Cast.ensures.node c.requires.taken.ready.long

pub node_at-operand-requires : goal.node_at-operand-requires
node_at-operand-requires t c = paren_inner c.args.leaves.now c.args.expr.now c.args.here.0 c.args.here.1 c.requires.taken c.in-Paren.inner c.in-Paren.is

pub node_at-row-requires : goal.node_at-row-requires
node_at-row-requires t c = concat_row c.args.leaves.now c.args.expr.now c.args.here.0 c.args.here.1 c.requires.taken c.in-Concat.items c.in-Concat.is

pub node_at-extended-requires-in-Concat-clause-wider : goal.node_at-extended-requires-in-Concat-clause-wider
node_at-extended-requires-in-Concat-clause-wider t c =
    concat_wide c.args.leaves.now c.row_node.new.dag c.in-Concat.items c.row.result.now c.args.expr.now c.args.here.0 c.in_ok-all-in-Concat.all c.in-Concat.is c.row.ensures.same c.in_ok-all-in-Concat.ensures.node c.requires.taken.ready.long

pub node_at-row-requires-in-Repeat : goal.node_at-row-requires-in-Repeat
node_at-row-requires-in-Repeat t c = repeat_row c.args.leaves.now c.args.expr.now c.args.here.0 c.args.here.1 c.requires.taken c.in-Repeat.count c.in-Repeat.items c.in-Repeat.is

pub node_at-count_of-requires-clause-alone : goal.node_at-count_of-requires-clause-alone
node_at-count_of-requires-clause-alone t c = repeat_count c.args.leaves.now c.args.expr.now c.args.here.0 c.args.here.1 c.requires.taken c.in-Repeat.count c.in-Repeat.items c.in-Repeat.is

pub node_at-count_of-requires-clause-length : goal.node_at-count_of-requires-clause-length
node_at-count_of-requires-clause-length t c =
    repeat_length c.args.leaves.now c.row_node-in-Repeat.new.dag c.in-Repeat.count c.in-Repeat.items c.row-in-Repeat.result.now c.in_ok-once-in-Repeat.once c.row-in-Repeat.ensures.same c.in_ok-once-in-Repeat.ensures.node
    (repeat_bits c.args.leaves.now c.args.expr.now c.args.here.0 c.args.here.1 c.requires.taken c.in-Repeat.count c.in-Repeat.items c.in-Repeat.is)

pub node_at-copies-requires-clause-some : goal.node_at-copies-requires-clause-some
node_at-copies-requires-clause-some t c =
    (counted (natural (own_integer (operand_of (declared c.args.leaves.now) c.in-Repeat.count))) c.in_ok-once-in-Repeat.once.width c.in_ok-times-in-Repeat.times c.in_ok-times-in-Repeat.ensures
    (repeat_length c.args.leaves.now c.row_node-in-Repeat.new.dag c.in-Repeat.count c.in-Repeat.items c.row-in-Repeat.result.now c.in_ok-once-in-Repeat.once c.row-in-Repeat.ensures.same c.in_ok-once-in-Repeat.ensures.node
    (repeat_bits c.args.leaves.now c.args.expr.now c.args.here.0 c.args.here.1 c.requires.taken c.in-Repeat.count c.in-Repeat.items c.in-Repeat.is))).0

pub node_at-copies-requires-clause-most : goal.node_at-copies-requires-clause-most
node_at-copies-requires-clause-most t c =
    (counted (natural (own_integer (operand_of (declared c.args.leaves.now) c.in-Repeat.count))) c.in_ok-once-in-Repeat.once.width c.in_ok-times-in-Repeat.times c.in_ok-times-in-Repeat.ensures
    (repeat_length c.args.leaves.now c.row_node-in-Repeat.new.dag c.in-Repeat.count c.in-Repeat.items c.row-in-Repeat.result.now c.in_ok-once-in-Repeat.once c.row-in-Repeat.ensures.same c.in_ok-once-in-Repeat.ensures.node
    (repeat_bits c.args.leaves.now c.args.expr.now c.args.here.0 c.args.here.1 c.requires.taken c.in-Repeat.count c.in-Repeat.items c.in-Repeat.is))).1

pub node_at-extended-requires-in-Repeat-clause-wider : goal.node_at-extended-requires-in-Repeat-clause-wider
node_at-extended-requires-in-Repeat-clause-wider t c =
    repeat_wide c.args.leaves.now c.row_node-in-Repeat.new.dag c.in-Repeat.count c.in-Repeat.items c.row-in-Repeat.result.now c.args.expr.now c.args.here.0 c.in_ok-times-in-Repeat.times c.in_ok-once-in-Repeat.once c.in_ok-all-in-Repeat.all c.in-Repeat.is c.row-in-Repeat.ensures.same c.in_ok-once-in-Repeat.ensures.node
    c.in_ok-times-in-Repeat.ensures c.in_ok-all-in-Repeat.ensures.width c.requires.taken.ready.long

pub node_at-alone-requires-in-Choice : goal.node_at-alone-requires-in-Choice
node_at-alone-requires-in-Choice t c = choice_condition c.args.leaves.now c.args.expr.now c.args.here.0 c.args.here.1 c.requires.taken c.in-Choice.condition c.in-Choice.a c.in-Choice.b c.in-Choice.is

pub node_at-operand-requires-in-Choice : goal.node_at-operand-requires-in-Choice
node_at-operand-requires-in-Choice t c = choice_first c.args.leaves.now c.args.expr.now c.args.here.0 c.args.here.1 c.requires.taken c.in-Choice.condition c.in-Choice.a c.in-Choice.b c.in-Choice.is

pub node_at-operand-requires-in-Choice-2 : goal.node_at-operand-requires-in-Choice-2
node_at-operand-requires-in-Choice-2 t c = choice_second c.args.leaves.now c.args.expr.now c.args.here.0 c.args.here.1 c.requires.taken c.in-Choice.condition c.in-Choice.a c.in-Choice.b c.in-Choice.is

-- ---- what each form has

pub node_at-returns-in_ok-node-in-Name-clause-node : goal.node_at-returns-in_ok-node-in-Name-clause-node
node_at-returns-in_ok-node-in-Name-clause-node t c =
    let i = c.in_ok-node-in-Name.node in
    settled c.args.leaves.now c.args.dag.now c.name_node.new.dag c.args.expr.now c.args.here.0 c.args.here.1 i c.requires.ready c.in_ok-node-in-Name.ensures.keeps
    (name_has c.args.leaves.now c.args.dag.now c.name_node.new.dag c.in-Name.name c.args.expr.now c.args.here.0 c.args.here.1 i c.in-Name.is c.in_ok-node-in-Name.ensures.makes)

pub node_at-returns-in_ok-node-in-Select-clause-node : goal.node_at-returns-in_ok-node-in-Select-clause-node
node_at-returns-in_ok-node-in-Select-clause-node t c =
    let ls = c.args.leaves.now in
    let m = c.own_node.new.dag in
    let w = c.in_ok-index-in-Select.index.wire in
    let s = c.in_ok-index-in-Select.index.signed in
    bits_has ls m c.based_bits.new.dag (λ v. named v c.in-Select.name) c.name_vector-vector.result c.args.expr.now c.args.here.0 c.args.here.1 c.in_ok-index-in-Select.ensures.ready c.in_ok-node-in-Select.ensures.keeps c.requires.taken c.name_vector-vector.ensures
    (λ x. integer s w.width (number_at x m w.node)) 1 c.in_ok-node-in-Select.node
    (λ x. select_bits ls m c.in-Select.index c.args.expr.now c.alone.result.now c.args.here.0 c.args.here.1 s w c.alone.ensures.same c.alone.ensures.alone.constant c.in_ok-index-in-Select.ensures.node x c.in-Select.name c.in-Select.is) c.in_ok-node-in-Select.ensures.makes

pub node_at-returns-then-is_fixed-clause-node : goal.node_at-returns-then-is_fixed-clause-node
node_at-returns-then-is_fixed-clause-node t c =
    fixed_has c.args.leaves.now c.args.dag.now c.fixed_bits.new.dag c.name_vector-vector-then-is_fixed.result c.in-Part.name c.in-Part.span c.in-Part.a c.in-Part.b c.args.expr.now c.args.here.0 c.args.here.1 c.in_ok-own-in-Part.own.0 c.in_ok-own-in-Part.own.1 _ c.in_ok-node-in-Part.node
    c.requires.ready c.in_ok-node-in-Part.ensures.keeps c.requires.taken c.name_vector-vector-then-is_fixed.ensures c.in-Part.is c.if-is_fixed.ensures c.in_ok-own-in-Part.ensures c.in_ok-node-in-Part.ensures.makes (omega (arith, ints, c.in_ok-low-in-Part.ensures.value))

pub node_at-returns-in_ok-node-in-Part-2-clause-node : goal.node_at-returns-in_ok-node-in-Part-2-clause-node
node_at-returns-in_ok-node-in-Part-2-clause-node t c =
    let ls = c.args.leaves.now in
    let m = c.own_node-in-Part.new.dag in
    let w = c.in_ok-base-in-Part.base.wire in
    let s = c.in_ok-base-in-Part.base.signed in
    let n = c.in_ok-own-in-Part.own.0 in
    bits_has ls m c.based_bits-in-Part.new.dag (λ v. named v c.in-Part.name) c.name_vector-vector-in-Part.result c.args.expr.now c.args.here.0 c.args.here.1 c.in_ok-base-in-Part.ensures.ready c.in_ok-node-in-Part-2.ensures.keeps c.requires.taken c.name_vector-vector-in-Part.ensures
    (λ x. part_low c.in-Part.span (integer s w.width (number_at x m w.node)) (pos n)) n c.in_ok-node-in-Part-2.node
    (λ x.
    based_bits_are ls m c.in-Part.span c.in-Part.a c.in-Part.b c.args.expr.now c.alone-in-Part.result.now c.args.here.0 c.args.here.1 s c.in_ok-own-in-Part.own.1 n w c.if-is_fixed.ensures c.requires.taken.constant c.in_ok-own-in-Part.ensures c.alone-in-Part.ensures.same c.alone-in-Part.ensures.alone.constant
    c.in_ok-base-in-Part.ensures.node x c.in-Part.name c.in-Part.is) c.in_ok-node-in-Part-2.ensures.makes

pub node_at-returns-in_ok-node-in-ConstantSelect-clause-node : goal.node_at-returns-in_ok-node-in-ConstantSelect-clause-node
node_at-returns-in_ok-node-in-ConstantSelect-clause-node t c =
    let ls = c.args.leaves.now in
    let one = c.own_node-in-ConstantSelect.new.dag in
    let m = c.constant_vector.new.dag in
    let w = c.in_ok-index-in-ConstantSelect.index.wire in
    let s = c.in_ok-index-in-ConstantSelect.index.signed in
    let y = c.alone-in-ConstantSelect.result.now in
    let ready = c.in_ok-index-in-ConstantSelect.ensures.ready in
    let keeps = c.in_ok-vector-in-ConstantSelect.ensures.keeps in
    bits_has ls m c.based_bits-in-ConstantSelect.new.dag (λ v. c.in-ConstantSelect.number) c.in_ok-vector-in-ConstantSelect.vector c.args.expr.now c.args.here.0 c.args.here.1 (ready_kept ls one m keeps ready) c.in_ok-node-in-ConstantSelect.ensures.keeps c.requires.taken
    (c.in_ok-vector-in-ConstantSelect.ensures.vector ls) (λ x. integer s w.width (number_at x m w.node)) 1 c.in_ok-node-in-ConstantSelect.node
    (λ x.
    constant_select_bits ls m c.in-ConstantSelect.index c.args.expr.now y c.args.here.0 c.args.here.1 s w c.alone-in-ConstantSelect.ensures.same c.alone-in-ConstantSelect.ensures.alone.constant (own_still ls one m y w s ready keeps c.in_ok-index-in-ConstantSelect.ensures.node) x
    c.in-ConstantSelect.number c.in-ConstantSelect.is) c.in_ok-node-in-ConstantSelect.ensures.makes

pub node_at-returns-then-is_fixed-2-clause-node : goal.node_at-returns-then-is_fixed-2-clause-node
node_at-returns-then-is_fixed-2-clause-node t c =
    constant_has c.args.leaves.now c.constant_node.new.dag c.args.expr.now c.args.here.0 c.args.here.1 c.in_ok-node-in-ConstantPart.node
    (fixed_constant c.in-ConstantPart.number c.in-ConstantPart.span c.in-ConstantPart.a c.in-ConstantPart.field-3 c.args.expr.now c.in-ConstantPart.is c.requires.taken.constant c.if-is_fixed-2.ensures) c.requires.taken c.in_ok-node-in-ConstantPart.ensures.makes

pub node_at-returns-in_ok-node-in-ConstantPart-2-clause-node : goal.node_at-returns-in_ok-node-in-ConstantPart-2-clause-node
node_at-returns-in_ok-node-in-ConstantPart-2-clause-node t c =
    let ls = c.args.leaves.now in
    let one = c.own_node-in-ConstantPart.new.dag in
    let m = c.constant_vector-in-ConstantPart.new.dag in
    let w = c.in_ok-base-in-ConstantPart.base.wire in
    let s = c.in_ok-base-in-ConstantPart.base.signed in
    let y = c.alone-in-ConstantPart.result.now in
    let n = c.in_ok-own-in-ConstantPart.own.0 in
    let ready = c.in_ok-base-in-ConstantPart.ensures.ready in
    let keeps = c.in_ok-vector-in-ConstantPart.ensures.keeps in
    bits_has ls m c.based_bits-in-ConstantPart.new.dag (λ v. c.in-ConstantPart.number) c.in_ok-vector-in-ConstantPart.vector c.args.expr.now c.args.here.0 c.args.here.1 (ready_kept ls one m keeps ready) c.in_ok-node-in-ConstantPart-2.ensures.keeps c.requires.taken
    (c.in_ok-vector-in-ConstantPart.ensures.vector ls) (λ x. part_low c.in-ConstantPart.span (integer s w.width (number_at x m w.node)) (pos n)) n c.in_ok-node-in-ConstantPart-2.node
    (λ x.
    constant_bits_are ls m c.in-ConstantPart.span c.in-ConstantPart.a c.in-ConstantPart.field-3 c.args.expr.now y c.args.here.0 c.args.here.1 s c.in_ok-own-in-ConstantPart.own.1 n w c.if-is_fixed-2.ensures c.requires.taken.constant c.in_ok-own-in-ConstantPart.ensures c.alone-in-ConstantPart.ensures.same
    c.alone-in-ConstantPart.ensures.alone.constant (own_still ls one m y w s ready keeps c.in_ok-base-in-ConstantPart.ensures.node) x c.in-ConstantPart.number c.in-ConstantPart.is) c.in_ok-node-in-ConstantPart-2.ensures.makes

pub node_at-returns-in_ok-node-in-Cast-clause-node : goal.node_at-returns-in_ok-node-in-Cast-clause-node
node_at-returns-in_ok-node-in-Cast-clause-node t c =
    cast_done c.args.leaves.now c.own_node-in-Cast.new.dag c.extended.new.dag c.in-Cast.field-0 c.in-Cast.inner c.args.expr.now c.alone-in-Cast.result.now c.args.here.0 c.args.here.1 c.in_ok-inner-in-Cast.inner.signed c.in_ok-inner-in-Cast.inner.wire c.in_ok-node-in-Cast.node
    c.in_ok-inner-in-Cast.ensures.ready c.in_ok-node-in-Cast.ensures.keeps c.in-Cast.is c.alone-in-Cast.ensures.same c.alone-in-Cast.ensures.alone c.in_ok-inner-in-Cast.ensures.node c.in_ok-node-in-Cast.ensures.makes

pub node_at-returns-in_ok-node-in-Paren-clause-node : goal.node_at-returns-in_ok-node-in-Paren-clause-node
node_at-returns-in_ok-node-in-Paren-clause-node t c =
    paren_has c.args.leaves.now c.node_at.new.dag c.node_at.new.dag c.in-Paren.inner c.args.expr.now c.operand.result.now c.args.here.0 c.args.here.1 c.in_ok-node-in-Paren.node c.in-Paren.is c.operand.ensures.same c.in_ok-node-in-Paren.ensures.node

pub node_at-returns-in_ok-node-in-Concat-clause-node : goal.node_at-returns-in_ok-node-in-Concat-clause-node
node_at-returns-in_ok-node-in-Concat-clause-node t c =
    concat_done c.args.leaves.now c.row_node.new.dag c.extended-in-Concat.new.dag c.in-Concat.items c.row.result.now c.args.expr.now c.args.here.0 c.args.here.1 c.in_ok-all-in-Concat.all c.in_ok-node-in-Concat.node
    c.in_ok-all-in-Concat.ensures.ready c.in_ok-node-in-Concat.ensures.keeps c.in-Concat.is c.row.ensures.same c.in_ok-all-in-Concat.ensures.node c.in_ok-node-in-Concat.ensures.makes

pub node_at-returns-in_ok-node-in-Repeat-clause-node : goal.node_at-returns-in_ok-node-in-Repeat-clause-node
node_at-returns-in_ok-node-in-Repeat-clause-node t c =
    let m = c.row_node-in-Repeat.new.dag in
    let mid = c.copies.new.dag in
    let new = c.extended-in-Repeat.new.dag in
    repeat_done c.args.leaves.now m mid new c.in-Repeat.count c.in-Repeat.items c.row-in-Repeat.result.now c.args.expr.now c.args.here.0 c.args.here.1 c.in_ok-times-in-Repeat.times c.in_ok-once-in-Repeat.once c.in_ok-all-in-Repeat.all c.in_ok-node-in-Repeat.node
    c.in_ok-once-in-Repeat.ensures.ready (keeps_then m mid new c.in_ok-all-in-Repeat.ensures.keeps c.in_ok-node-in-Repeat.ensures.keeps) c.requires.taken c.in-Repeat.is c.row-in-Repeat.ensures.same c.in_ok-once-in-Repeat.ensures.node c.in_ok-times-in-Repeat.ensures c.in_ok-all-in-Repeat.ensures.makes c.in_ok-node-in-Repeat.ensures.makes

pub node_at-returns-in_ok-node-in-Unary-clause-node : goal.node_at-returns-in_ok-node-in-Unary-clause-node
node_at-returns-in_ok-node-in-Unary-clause-node t c =
    unary_done c.args.leaves.now c.node_at-in-Unary.new.dag c.made.new.dag c.in-Unary.op c.in-Unary.inner c.args.expr.now c.operand-in-Unary.result.now c.args.here.0 c.args.here.1 c.in_ok-place-in-Unary.place.0 c.in_ok-place-in-Unary.place.1 c.in_ok-inner-in-Unary.inner c.in_ok-node-in-Unary.node
    c.in_ok-inner-in-Unary.ensures.ready c.in_ok-node-in-Unary.ensures.keeps c.in-Unary.is c.operand-in-Unary.ensures.same c.operand-in-Unary.ensures.taken c.in_ok-place-in-Unary.ensures.place c.in_ok-inner-in-Unary.ensures.node c.in_ok-node-in-Unary.ensures.makes

pub node_at-returns-then-is_division-clause-node : goal.node_at-returns-then-is_division-clause-node
node_at-returns-then-is_division-clause-node t c =
    constant_has c.args.leaves.now c.constant_node-then-is_division.new.dag c.args.expr.now c.args.here.0 c.args.here.1 c.in_ok-node-in-Binary.node
    (division_constant c.in-Binary.op c.in-Binary.a c.in-Binary.b c.args.expr.now c.in-Binary.is c.requires.taken.constant c.if-is_division.ensures) c.requires.taken c.in_ok-node-in-Binary.ensures.makes

pub node_at-returns-in_ok-node-in-Binary-2-clause-node : goal.node_at-returns-in_ok-node-in-Binary-2-clause-node
node_at-returns-in_ok-node-in-Binary-2-clause-node t c =
    let places = c.in_ok-places-in-Binary.places in
    binary_done c.args.leaves.now c.node_at-in-Binary.new.dag c.node_at-in-Binary-2.new.dag c.joined.new.dag c.in-Binary.op c.in-Binary.a c.in-Binary.b c.args.expr.now c.operand-in-Binary.result.now c.operand-in-Binary-2.result.now c.args.here.0 c.args.here.1 places.left.0 places.left.1 places.right.0 places.right.1
    c.in_ok-a-in-Binary.a c.in_ok-b-in-Binary.b c.in_ok-node-in-Binary-2.node c.in_ok-a-in-Binary.ensures.ready c.in_ok-b-in-Binary.ensures.keeps c.in_ok-b-in-Binary.ensures.ready c.in_ok-node-in-Binary-2.ensures.keeps c.in-Binary.is c.operand-in-Binary.ensures.same c.operand-in-Binary-2.ensures.same
    c.operand-in-Binary.ensures.taken c.operand-in-Binary-2.ensures.taken c.in_ok-places-in-Binary.ensures.places c.if-is_division.ensures c.in_ok-a-in-Binary.ensures.node c.in_ok-b-in-Binary.ensures.node c.in_ok-node-in-Binary-2.ensures.makes

pub node_at-returns-in_ok-node-in-Choice-clause-node : goal.node_at-returns-in_ok-node-in-Choice-clause-node
node_at-returns-in_ok-node-in-Choice-clause-node t c =
    choice_done c.args.leaves.now c.own_node-in-Choice.new.dag c.node_at-in-Choice.new.dag c.node_at-in-Choice-2.new.dag c.chosen.new.dag c.in-Choice.condition c.in-Choice.a c.in-Choice.b c.args.expr.now c.alone-in-Choice.result.now c.operand-in-Choice.result.now c.operand-in-Choice-2.result.now
    c.args.here.0 c.args.here.1 c.in_ok-condition-in-Choice.condition.signed c.in_ok-condition-in-Choice.condition.wire c.in_ok-a-in-Choice.a c.in_ok-b-in-Choice.b c.in_ok-node-in-Choice.node c.in_ok-condition-in-Choice.ensures.ready c.in_ok-a-in-Choice.ensures.keeps c.in_ok-a-in-Choice.ensures.ready
    c.in_ok-b-in-Choice.ensures.keeps c.in_ok-b-in-Choice.ensures.ready c.in_ok-node-in-Choice.ensures.keeps c.in-Choice.is c.alone-in-Choice.ensures.same c.operand-in-Choice.ensures.same c.operand-in-Choice-2.ensures.same c.in_ok-condition-in-Choice.ensures.node c.in_ok-a-in-Choice.ensures.node
    c.in_ok-b-in-Choice.ensures.node c.in_ok-node-in-Choice.ensures.makes

-- ---- what is kept, and what the leaves are, at each exit

pub node_at-returns-in_err-node-in-Number-clause-ready : goal.node_at-returns-in_err-node-in-Number-clause-ready
node_at-returns-in_err-node-in-Number-clause-ready t c = ready_kept c.args.leaves.now c.args.dag.now c.number_node.new.dag c.number_node.ensures.keeps c.requires.ready

pub node_at-returns-in_ok-node-in-Number-clause-ready : goal.node_at-returns-in_ok-node-in-Number-clause-ready
node_at-returns-in_ok-node-in-Number-clause-ready t c = ready_kept c.args.leaves.now c.args.dag.now c.number_node.new.dag c.in_ok-node-in-Number.ensures.keeps c.requires.ready

pub node_at-returns-in_err-node-in-Name-clause-ready : goal.node_at-returns-in_err-node-in-Name-clause-ready
node_at-returns-in_err-node-in-Name-clause-ready t c = ready_kept c.args.leaves.now c.args.dag.now c.name_node.new.dag c.name_node.ensures.keeps c.requires.ready

pub node_at-returns-in_ok-node-in-Name-clause-ready : goal.node_at-returns-in_ok-node-in-Name-clause-ready
node_at-returns-in_ok-node-in-Name-clause-ready t c = ready_kept c.args.leaves.now c.args.dag.now c.name_node.new.dag c.in_ok-node-in-Name.ensures.keeps c.requires.ready

pub node_at-returns-in_err-node-in-Select-clause-keeps : goal.node_at-returns-in_err-node-in-Select-clause-keeps
node_at-returns-in_err-node-in-Select-clause-keeps t c = keeps_then c.args.dag.now c.own_node.new.dag c.based_bits.new.dag c.in_ok-index-in-Select.ensures.keeps c.based_bits.ensures.keeps

pub node_at-returns-in_err-node-in-Select-clause-ready : goal.node_at-returns-in_err-node-in-Select-clause-ready
node_at-returns-in_err-node-in-Select-clause-ready t c = ready_kept c.args.leaves.now c.own_node.new.dag c.based_bits.new.dag c.based_bits.ensures.keeps c.in_ok-index-in-Select.ensures.ready

pub node_at-returns-in_ok-node-in-Select-clause-keeps : goal.node_at-returns-in_ok-node-in-Select-clause-keeps
node_at-returns-in_ok-node-in-Select-clause-keeps t c = keeps_then c.args.dag.now c.own_node.new.dag c.based_bits.new.dag c.in_ok-index-in-Select.ensures.keeps c.in_ok-node-in-Select.ensures.keeps

pub node_at-returns-in_ok-node-in-Select-clause-ready : goal.node_at-returns-in_ok-node-in-Select-clause-ready
node_at-returns-in_ok-node-in-Select-clause-ready t c = ready_kept c.args.leaves.now c.own_node.new.dag c.based_bits.new.dag c.in_ok-node-in-Select.ensures.keeps c.in_ok-index-in-Select.ensures.ready

pub node_at-returns-in_err-node-in-Part-clause-ready : goal.node_at-returns-in_err-node-in-Part-clause-ready
node_at-returns-in_err-node-in-Part-clause-ready t c = ready_kept c.args.leaves.now c.args.dag.now c.fixed_bits.new.dag c.fixed_bits.ensures.keeps c.requires.ready

pub node_at-returns-then-is_fixed-clause-ready : goal.node_at-returns-then-is_fixed-clause-ready
node_at-returns-then-is_fixed-clause-ready t c = ready_kept c.args.leaves.now c.args.dag.now c.fixed_bits.new.dag c.in_ok-node-in-Part.ensures.keeps c.requires.ready

pub node_at-returns-in_err-node-in-Part-2-clause-keeps : goal.node_at-returns-in_err-node-in-Part-2-clause-keeps
node_at-returns-in_err-node-in-Part-2-clause-keeps t c = keeps_then c.args.dag.now c.own_node-in-Part.new.dag c.based_bits-in-Part.new.dag c.in_ok-base-in-Part.ensures.keeps c.based_bits-in-Part.ensures.keeps

pub node_at-returns-in_err-node-in-Part-2-clause-ready : goal.node_at-returns-in_err-node-in-Part-2-clause-ready
node_at-returns-in_err-node-in-Part-2-clause-ready t c = ready_kept c.args.leaves.now c.own_node-in-Part.new.dag c.based_bits-in-Part.new.dag c.based_bits-in-Part.ensures.keeps c.in_ok-base-in-Part.ensures.ready

pub node_at-returns-in_ok-node-in-Part-2-clause-keeps : goal.node_at-returns-in_ok-node-in-Part-2-clause-keeps
node_at-returns-in_ok-node-in-Part-2-clause-keeps t c = keeps_then c.args.dag.now c.own_node-in-Part.new.dag c.based_bits-in-Part.new.dag c.in_ok-base-in-Part.ensures.keeps c.in_ok-node-in-Part-2.ensures.keeps

pub node_at-returns-in_ok-node-in-Part-2-clause-ready : goal.node_at-returns-in_ok-node-in-Part-2-clause-ready
node_at-returns-in_ok-node-in-Part-2-clause-ready t c = ready_kept c.args.leaves.now c.own_node-in-Part.new.dag c.based_bits-in-Part.new.dag c.in_ok-node-in-Part-2.ensures.keeps c.in_ok-base-in-Part.ensures.ready

pub node_at-returns-in_err-vector-in-ConstantSelect-clause-keeps : goal.node_at-returns-in_err-vector-in-ConstantSelect-clause-keeps
node_at-returns-in_err-vector-in-ConstantSelect-clause-keeps t c = keeps_then c.args.dag.now c.own_node-in-ConstantSelect.new.dag c.constant_vector.new.dag c.in_ok-index-in-ConstantSelect.ensures.keeps c.constant_vector.ensures.keeps

pub node_at-returns-in_err-vector-in-ConstantSelect-clause-ready : goal.node_at-returns-in_err-vector-in-ConstantSelect-clause-ready
node_at-returns-in_err-vector-in-ConstantSelect-clause-ready t c = ready_kept c.args.leaves.now c.own_node-in-ConstantSelect.new.dag c.constant_vector.new.dag c.constant_vector.ensures.keeps c.in_ok-index-in-ConstantSelect.ensures.ready

pub node_at-returns-in_err-node-in-ConstantSelect-clause-keeps : goal.node_at-returns-in_err-node-in-ConstantSelect-clause-keeps
node_at-returns-in_err-node-in-ConstantSelect-clause-keeps t c = keeps_then c.args.dag.now c.constant_vector.new.dag c.based_bits-in-ConstantSelect.new.dag (keeps_then c.args.dag.now c.own_node-in-ConstantSelect.new.dag c.constant_vector.new.dag c.in_ok-index-in-ConstantSelect.ensures.keeps c.in_ok-vector-in-ConstantSelect.ensures.keeps) c.based_bits-in-ConstantSelect.ensures.keeps

pub node_at-returns-in_err-node-in-ConstantSelect-clause-ready : goal.node_at-returns-in_err-node-in-ConstantSelect-clause-ready
node_at-returns-in_err-node-in-ConstantSelect-clause-ready t c = ready_kept c.args.leaves.now c.constant_vector.new.dag c.based_bits-in-ConstantSelect.new.dag c.based_bits-in-ConstantSelect.ensures.keeps (ready_kept c.args.leaves.now c.own_node-in-ConstantSelect.new.dag c.constant_vector.new.dag c.in_ok-vector-in-ConstantSelect.ensures.keeps c.in_ok-index-in-ConstantSelect.ensures.ready)

pub node_at-returns-in_ok-node-in-ConstantSelect-clause-keeps : goal.node_at-returns-in_ok-node-in-ConstantSelect-clause-keeps
node_at-returns-in_ok-node-in-ConstantSelect-clause-keeps t c = keeps_then c.args.dag.now c.constant_vector.new.dag c.based_bits-in-ConstantSelect.new.dag (keeps_then c.args.dag.now c.own_node-in-ConstantSelect.new.dag c.constant_vector.new.dag c.in_ok-index-in-ConstantSelect.ensures.keeps c.in_ok-vector-in-ConstantSelect.ensures.keeps) c.in_ok-node-in-ConstantSelect.ensures.keeps

pub node_at-returns-in_ok-node-in-ConstantSelect-clause-ready : goal.node_at-returns-in_ok-node-in-ConstantSelect-clause-ready
node_at-returns-in_ok-node-in-ConstantSelect-clause-ready t c = ready_kept c.args.leaves.now c.constant_vector.new.dag c.based_bits-in-ConstantSelect.new.dag c.in_ok-node-in-ConstantSelect.ensures.keeps (ready_kept c.args.leaves.now c.own_node-in-ConstantSelect.new.dag c.constant_vector.new.dag c.in_ok-vector-in-ConstantSelect.ensures.keeps c.in_ok-index-in-ConstantSelect.ensures.ready)

pub node_at-returns-in_err-node-in-ConstantPart-clause-ready : goal.node_at-returns-in_err-node-in-ConstantPart-clause-ready
node_at-returns-in_err-node-in-ConstantPart-clause-ready t c = ready_kept c.args.leaves.now c.args.dag.now c.constant_node.new.dag c.constant_node.ensures.keeps c.requires.ready

pub node_at-returns-then-is_fixed-2-clause-ready : goal.node_at-returns-then-is_fixed-2-clause-ready
node_at-returns-then-is_fixed-2-clause-ready t c = ready_kept c.args.leaves.now c.args.dag.now c.constant_node.new.dag c.in_ok-node-in-ConstantPart.ensures.keeps c.requires.ready

pub node_at-returns-in_err-vector-in-ConstantPart-clause-keeps : goal.node_at-returns-in_err-vector-in-ConstantPart-clause-keeps
node_at-returns-in_err-vector-in-ConstantPart-clause-keeps t c = keeps_then c.args.dag.now c.own_node-in-ConstantPart.new.dag c.constant_vector-in-ConstantPart.new.dag c.in_ok-base-in-ConstantPart.ensures.keeps c.constant_vector-in-ConstantPart.ensures.keeps

pub node_at-returns-in_err-vector-in-ConstantPart-clause-ready : goal.node_at-returns-in_err-vector-in-ConstantPart-clause-ready
node_at-returns-in_err-vector-in-ConstantPart-clause-ready t c = ready_kept c.args.leaves.now c.own_node-in-ConstantPart.new.dag c.constant_vector-in-ConstantPart.new.dag c.constant_vector-in-ConstantPart.ensures.keeps c.in_ok-base-in-ConstantPart.ensures.ready

pub node_at-returns-in_err-node-in-ConstantPart-2-clause-keeps : goal.node_at-returns-in_err-node-in-ConstantPart-2-clause-keeps
node_at-returns-in_err-node-in-ConstantPart-2-clause-keeps t c = keeps_then c.args.dag.now c.constant_vector-in-ConstantPart.new.dag c.based_bits-in-ConstantPart.new.dag (keeps_then c.args.dag.now c.own_node-in-ConstantPart.new.dag c.constant_vector-in-ConstantPart.new.dag c.in_ok-base-in-ConstantPart.ensures.keeps c.in_ok-vector-in-ConstantPart.ensures.keeps) c.based_bits-in-ConstantPart.ensures.keeps

pub node_at-returns-in_err-node-in-ConstantPart-2-clause-ready : goal.node_at-returns-in_err-node-in-ConstantPart-2-clause-ready
node_at-returns-in_err-node-in-ConstantPart-2-clause-ready t c = ready_kept c.args.leaves.now c.constant_vector-in-ConstantPart.new.dag c.based_bits-in-ConstantPart.new.dag c.based_bits-in-ConstantPart.ensures.keeps (ready_kept c.args.leaves.now c.own_node-in-ConstantPart.new.dag c.constant_vector-in-ConstantPart.new.dag c.in_ok-vector-in-ConstantPart.ensures.keeps c.in_ok-base-in-ConstantPart.ensures.ready)

pub node_at-returns-in_ok-node-in-ConstantPart-2-clause-keeps : goal.node_at-returns-in_ok-node-in-ConstantPart-2-clause-keeps
node_at-returns-in_ok-node-in-ConstantPart-2-clause-keeps t c = keeps_then c.args.dag.now c.constant_vector-in-ConstantPart.new.dag c.based_bits-in-ConstantPart.new.dag (keeps_then c.args.dag.now c.own_node-in-ConstantPart.new.dag c.constant_vector-in-ConstantPart.new.dag c.in_ok-base-in-ConstantPart.ensures.keeps c.in_ok-vector-in-ConstantPart.ensures.keeps) c.in_ok-node-in-ConstantPart-2.ensures.keeps

pub node_at-returns-in_ok-node-in-ConstantPart-2-clause-ready : goal.node_at-returns-in_ok-node-in-ConstantPart-2-clause-ready
node_at-returns-in_ok-node-in-ConstantPart-2-clause-ready t c = ready_kept c.args.leaves.now c.constant_vector-in-ConstantPart.new.dag c.based_bits-in-ConstantPart.new.dag c.in_ok-node-in-ConstantPart-2.ensures.keeps (ready_kept c.args.leaves.now c.own_node-in-ConstantPart.new.dag c.constant_vector-in-ConstantPart.new.dag c.in_ok-vector-in-ConstantPart.ensures.keeps c.in_ok-base-in-ConstantPart.ensures.ready)

pub node_at-returns-in_err-node-in-Cast-clause-keeps : goal.node_at-returns-in_err-node-in-Cast-clause-keeps
node_at-returns-in_err-node-in-Cast-clause-keeps t c = keeps_then c.args.dag.now c.own_node-in-Cast.new.dag c.extended.new.dag c.in_ok-inner-in-Cast.ensures.keeps c.extended.ensures.keeps

pub node_at-returns-in_err-node-in-Cast-clause-ready : goal.node_at-returns-in_err-node-in-Cast-clause-ready
node_at-returns-in_err-node-in-Cast-clause-ready t c = ready_kept c.args.leaves.now c.own_node-in-Cast.new.dag c.extended.new.dag c.extended.ensures.keeps c.in_ok-inner-in-Cast.ensures.ready

pub node_at-returns-in_ok-node-in-Cast-clause-keeps : goal.node_at-returns-in_ok-node-in-Cast-clause-keeps
node_at-returns-in_ok-node-in-Cast-clause-keeps t c = keeps_then c.args.dag.now c.own_node-in-Cast.new.dag c.extended.new.dag c.in_ok-inner-in-Cast.ensures.keeps c.in_ok-node-in-Cast.ensures.keeps

pub node_at-returns-in_ok-node-in-Cast-clause-ready : goal.node_at-returns-in_ok-node-in-Cast-clause-ready
node_at-returns-in_ok-node-in-Cast-clause-ready t c = ready_kept c.args.leaves.now c.own_node-in-Cast.new.dag c.extended.new.dag c.in_ok-node-in-Cast.ensures.keeps c.in_ok-inner-in-Cast.ensures.ready

pub node_at-returns-in_err-node-in-Concat-clause-keeps : goal.node_at-returns-in_err-node-in-Concat-clause-keeps
node_at-returns-in_err-node-in-Concat-clause-keeps t c = keeps_then c.args.dag.now c.row_node.new.dag c.extended-in-Concat.new.dag c.in_ok-all-in-Concat.ensures.keeps c.extended-in-Concat.ensures.keeps

pub node_at-returns-in_err-node-in-Concat-clause-ready : goal.node_at-returns-in_err-node-in-Concat-clause-ready
node_at-returns-in_err-node-in-Concat-clause-ready t c = ready_kept c.args.leaves.now c.row_node.new.dag c.extended-in-Concat.new.dag c.extended-in-Concat.ensures.keeps c.in_ok-all-in-Concat.ensures.ready

pub node_at-returns-in_ok-node-in-Concat-clause-keeps : goal.node_at-returns-in_ok-node-in-Concat-clause-keeps
node_at-returns-in_ok-node-in-Concat-clause-keeps t c = keeps_then c.args.dag.now c.row_node.new.dag c.extended-in-Concat.new.dag c.in_ok-all-in-Concat.ensures.keeps c.in_ok-node-in-Concat.ensures.keeps

pub node_at-returns-in_ok-node-in-Concat-clause-ready : goal.node_at-returns-in_ok-node-in-Concat-clause-ready
node_at-returns-in_ok-node-in-Concat-clause-ready t c = ready_kept c.args.leaves.now c.row_node.new.dag c.extended-in-Concat.new.dag c.in_ok-node-in-Concat.ensures.keeps c.in_ok-all-in-Concat.ensures.ready

pub node_at-returns-in_err-all-in-Repeat-clause-keeps : goal.node_at-returns-in_err-all-in-Repeat-clause-keeps
node_at-returns-in_err-all-in-Repeat-clause-keeps t c = keeps_then c.args.dag.now c.row_node-in-Repeat.new.dag c.copies.new.dag c.in_ok-once-in-Repeat.ensures.keeps c.copies.ensures.keeps

pub node_at-returns-in_err-all-in-Repeat-clause-ready : goal.node_at-returns-in_err-all-in-Repeat-clause-ready
node_at-returns-in_err-all-in-Repeat-clause-ready t c = ready_kept c.args.leaves.now c.row_node-in-Repeat.new.dag c.copies.new.dag c.copies.ensures.keeps c.in_ok-once-in-Repeat.ensures.ready

pub node_at-returns-in_err-node-in-Repeat-clause-keeps : goal.node_at-returns-in_err-node-in-Repeat-clause-keeps
node_at-returns-in_err-node-in-Repeat-clause-keeps t c = keeps_then c.args.dag.now c.copies.new.dag c.extended-in-Repeat.new.dag (keeps_then c.args.dag.now c.row_node-in-Repeat.new.dag c.copies.new.dag c.in_ok-once-in-Repeat.ensures.keeps c.in_ok-all-in-Repeat.ensures.keeps) c.extended-in-Repeat.ensures.keeps

pub node_at-returns-in_err-node-in-Repeat-clause-ready : goal.node_at-returns-in_err-node-in-Repeat-clause-ready
node_at-returns-in_err-node-in-Repeat-clause-ready t c = ready_kept c.args.leaves.now c.copies.new.dag c.extended-in-Repeat.new.dag c.extended-in-Repeat.ensures.keeps (ready_kept c.args.leaves.now c.row_node-in-Repeat.new.dag c.copies.new.dag c.in_ok-all-in-Repeat.ensures.keeps c.in_ok-once-in-Repeat.ensures.ready)

pub node_at-returns-in_ok-node-in-Repeat-clause-keeps : goal.node_at-returns-in_ok-node-in-Repeat-clause-keeps
node_at-returns-in_ok-node-in-Repeat-clause-keeps t c = keeps_then c.args.dag.now c.copies.new.dag c.extended-in-Repeat.new.dag (keeps_then c.args.dag.now c.row_node-in-Repeat.new.dag c.copies.new.dag c.in_ok-once-in-Repeat.ensures.keeps c.in_ok-all-in-Repeat.ensures.keeps) c.in_ok-node-in-Repeat.ensures.keeps

pub node_at-returns-in_ok-node-in-Repeat-clause-ready : goal.node_at-returns-in_ok-node-in-Repeat-clause-ready
node_at-returns-in_ok-node-in-Repeat-clause-ready t c = ready_kept c.args.leaves.now c.copies.new.dag c.extended-in-Repeat.new.dag c.in_ok-node-in-Repeat.ensures.keeps (ready_kept c.args.leaves.now c.row_node-in-Repeat.new.dag c.copies.new.dag c.in_ok-all-in-Repeat.ensures.keeps c.in_ok-once-in-Repeat.ensures.ready)

pub node_at-returns-in_err-node-in-Unary-clause-keeps : goal.node_at-returns-in_err-node-in-Unary-clause-keeps
node_at-returns-in_err-node-in-Unary-clause-keeps t c = keeps_then c.args.dag.now c.node_at-in-Unary.new.dag c.made.new.dag c.in_ok-inner-in-Unary.ensures.keeps c.made.ensures.keeps

pub node_at-returns-in_err-node-in-Unary-clause-ready : goal.node_at-returns-in_err-node-in-Unary-clause-ready
node_at-returns-in_err-node-in-Unary-clause-ready t c = ready_kept c.args.leaves.now c.node_at-in-Unary.new.dag c.made.new.dag c.made.ensures.keeps c.in_ok-inner-in-Unary.ensures.ready

pub node_at-returns-in_ok-node-in-Unary-clause-keeps : goal.node_at-returns-in_ok-node-in-Unary-clause-keeps
node_at-returns-in_ok-node-in-Unary-clause-keeps t c = keeps_then c.args.dag.now c.node_at-in-Unary.new.dag c.made.new.dag c.in_ok-inner-in-Unary.ensures.keeps c.in_ok-node-in-Unary.ensures.keeps

pub node_at-returns-in_ok-node-in-Unary-clause-ready : goal.node_at-returns-in_ok-node-in-Unary-clause-ready
node_at-returns-in_ok-node-in-Unary-clause-ready t c = ready_kept c.args.leaves.now c.node_at-in-Unary.new.dag c.made.new.dag c.in_ok-node-in-Unary.ensures.keeps c.in_ok-inner-in-Unary.ensures.ready

pub node_at-returns-in_err-node-in-Binary-clause-ready : goal.node_at-returns-in_err-node-in-Binary-clause-ready
node_at-returns-in_err-node-in-Binary-clause-ready t c = ready_kept c.args.leaves.now c.args.dag.now c.constant_node-then-is_division.new.dag c.constant_node-then-is_division.ensures.keeps c.requires.ready

pub node_at-returns-then-is_division-clause-ready : goal.node_at-returns-then-is_division-clause-ready
node_at-returns-then-is_division-clause-ready t c = ready_kept c.args.leaves.now c.args.dag.now c.constant_node-then-is_division.new.dag c.in_ok-node-in-Binary.ensures.keeps c.requires.ready

pub node_at-returns-in_err-b-in-Binary-clause-keeps : goal.node_at-returns-in_err-b-in-Binary-clause-keeps
node_at-returns-in_err-b-in-Binary-clause-keeps t c = keeps_then c.args.dag.now c.node_at-in-Binary.new.dag c.node_at-in-Binary-2.new.dag c.in_ok-a-in-Binary.ensures.keeps c.node_at-in-Binary-2.ensures.keeps

pub node_at-returns-in_err-node-in-Binary-2-clause-keeps : goal.node_at-returns-in_err-node-in-Binary-2-clause-keeps
node_at-returns-in_err-node-in-Binary-2-clause-keeps t c = keeps_then c.args.dag.now c.node_at-in-Binary-2.new.dag c.joined.new.dag (keeps_then c.args.dag.now c.node_at-in-Binary.new.dag c.node_at-in-Binary-2.new.dag c.in_ok-a-in-Binary.ensures.keeps c.in_ok-b-in-Binary.ensures.keeps) c.joined.ensures.keeps

pub node_at-returns-in_err-node-in-Binary-2-clause-ready : goal.node_at-returns-in_err-node-in-Binary-2-clause-ready
node_at-returns-in_err-node-in-Binary-2-clause-ready t c = ready_kept c.args.leaves.now c.node_at-in-Binary-2.new.dag c.joined.new.dag c.joined.ensures.keeps c.in_ok-b-in-Binary.ensures.ready

pub node_at-returns-in_ok-node-in-Binary-2-clause-keeps : goal.node_at-returns-in_ok-node-in-Binary-2-clause-keeps
node_at-returns-in_ok-node-in-Binary-2-clause-keeps t c = keeps_then c.args.dag.now c.node_at-in-Binary-2.new.dag c.joined.new.dag (keeps_then c.args.dag.now c.node_at-in-Binary.new.dag c.node_at-in-Binary-2.new.dag c.in_ok-a-in-Binary.ensures.keeps c.in_ok-b-in-Binary.ensures.keeps) c.in_ok-node-in-Binary-2.ensures.keeps

pub node_at-returns-in_ok-node-in-Binary-2-clause-ready : goal.node_at-returns-in_ok-node-in-Binary-2-clause-ready
node_at-returns-in_ok-node-in-Binary-2-clause-ready t c = ready_kept c.args.leaves.now c.node_at-in-Binary-2.new.dag c.joined.new.dag c.in_ok-node-in-Binary-2.ensures.keeps c.in_ok-b-in-Binary.ensures.ready

pub node_at-returns-in_err-a-in-Choice-clause-keeps : goal.node_at-returns-in_err-a-in-Choice-clause-keeps
node_at-returns-in_err-a-in-Choice-clause-keeps t c = keeps_then c.args.dag.now c.own_node-in-Choice.new.dag c.node_at-in-Choice.new.dag c.in_ok-condition-in-Choice.ensures.keeps c.node_at-in-Choice.ensures.keeps

pub node_at-returns-in_err-b-in-Choice-clause-keeps : goal.node_at-returns-in_err-b-in-Choice-clause-keeps
node_at-returns-in_err-b-in-Choice-clause-keeps t c = keeps_then c.args.dag.now c.node_at-in-Choice.new.dag c.node_at-in-Choice-2.new.dag (keeps_then c.args.dag.now c.own_node-in-Choice.new.dag c.node_at-in-Choice.new.dag c.in_ok-condition-in-Choice.ensures.keeps c.in_ok-a-in-Choice.ensures.keeps) c.node_at-in-Choice-2.ensures.keeps

pub node_at-returns-in_err-node-in-Choice-clause-keeps : goal.node_at-returns-in_err-node-in-Choice-clause-keeps
node_at-returns-in_err-node-in-Choice-clause-keeps t c = keeps_then c.args.dag.now c.node_at-in-Choice-2.new.dag c.chosen.new.dag (keeps_then c.args.dag.now c.node_at-in-Choice.new.dag c.node_at-in-Choice-2.new.dag (keeps_then c.args.dag.now c.own_node-in-Choice.new.dag c.node_at-in-Choice.new.dag c.in_ok-condition-in-Choice.ensures.keeps c.in_ok-a-in-Choice.ensures.keeps) c.in_ok-b-in-Choice.ensures.keeps) c.chosen.ensures.keeps

pub node_at-returns-in_err-node-in-Choice-clause-ready : goal.node_at-returns-in_err-node-in-Choice-clause-ready
node_at-returns-in_err-node-in-Choice-clause-ready t c = ready_kept c.args.leaves.now c.node_at-in-Choice-2.new.dag c.chosen.new.dag c.chosen.ensures.keeps c.in_ok-b-in-Choice.ensures.ready

pub node_at-returns-in_ok-node-in-Choice-clause-keeps : goal.node_at-returns-in_ok-node-in-Choice-clause-keeps
node_at-returns-in_ok-node-in-Choice-clause-keeps t c = keeps_then c.args.dag.now c.node_at-in-Choice-2.new.dag c.chosen.new.dag (keeps_then c.args.dag.now c.node_at-in-Choice.new.dag c.node_at-in-Choice-2.new.dag (keeps_then c.args.dag.now c.own_node-in-Choice.new.dag c.node_at-in-Choice.new.dag c.in_ok-condition-in-Choice.ensures.keeps c.in_ok-a-in-Choice.ensures.keeps) c.in_ok-b-in-Choice.ensures.keeps) c.in_ok-node-in-Choice.ensures.keeps

pub node_at-returns-in_ok-node-in-Choice-clause-ready : goal.node_at-returns-in_ok-node-in-Choice-clause-ready
node_at-returns-in_ok-node-in-Choice-clause-ready t c = ready_kept c.args.leaves.now c.node_at-in-Choice-2.new.dag c.chosen.new.dag c.in_ok-node-in-Choice.ensures.keeps c.in_ok-b-in-Choice.ensures.ready

-- ---- an expression by itself

pub own_node-returns-clause-node : goal.own_node-returns-clause-node
own_node-returns-clause-node t c =
    alone_node c.args.leaves.now c.node_at.new.dag c.node_at.new.dag c.args.expr.now c.in_ok-here.here.0 c.in_ok-here.here.1 c.in_ok-node.node (record { node = c.in_ok-node.node; width = c.in_ok-here.here.0 }) c.requires.alone c.in_ok-here.ensures.shape c.in_ok-node.ensures.node refl

pub own_node-row-requires : goal.own_node-row-requires
own_node-row-requires t c = alone_row c.args.leaves.now c.in-Concat.items c.args.expr.now c.in-Concat.is c.requires.alone

pub own_node-returns-in-Concat-clause-node : goal.own_node-returns-in-Concat-clause-node
own_node-returns-in-Concat-clause-node t c =
    row_alone c.args.leaves.now c.row_node.new.dag c.in-Concat.items c.row.result.now c.args.expr.now c.in_ok-wire.wire c.in-Concat.is c.row.ensures.same c.requires.alone c.in_ok-wire.ensures.node

-- ---- concatenations

pub row_node-returns-in_err-all-clause-ready : goal.row_node-returns-in_err-all-clause-ready
row_node-returns-in_err-all-clause-ready t c = ready_kept c.args.leaves.now c.own_node.new.dag c.appended.new.dag c.appended.ensures.keeps c.in_ok-low.ensures.ready

pub row_node-returns-in_err-all-clause-keeps : goal.row_node-returns-in_err-all-clause-keeps
row_node-returns-in_err-all-clause-keeps t c =
    keeps_then c.args.dag.now c.loop-item.dag c.appended.new.dag c.loop-item.invariant.keeps (keeps_then c.loop-item.dag c.own_node.new.dag c.appended.new.dag c.in_ok-low.ensures.keeps c.appended.ensures.keeps)

pub row_node-loop-item-preserved : goal.row_node-loop-item-preserved
row_node-loop-item-preserved t c =
    let ls = c.args.leaves.now in
    let d = c.loop-item.dag in
    let m = c.own_node.new.dag in
    let new = c.appended.new.dag in
    let x = c.item-item.result in
    let y = c.part.result.now in
    let all = c.loop-item.all in
    let low = c.in_ok-low.low in
    let more = c.in_ok-all.all in
    let i = c.loop-item.invariant in
    let next = next_part c.args.items.now c.loop-item.item-index x x (omega arith) c.item-item.is in
    let keeps = keeps_then d m new c.in_ok-low.ensures.keeps c.in_ok-all.ensures.keeps in
    record {
      keeps = keeps_then c.args.dag.now d new i.keeps keeps;
      ready = ready_kept ls m new c.in_ok-all.ensures.keeps c.in_ok-low.ensures.ready;
      alone = (next_alone ls _ _ x next i.alone).1;
      node = λ some. itself new more.node more.width _ c.in_ok-all.ensures.makes;
      width = next_bits ls m _ _ x y low.wire low.signed all.width more.width _ next c.part.ensures.same c.in_ok-low.ensures.node c.in_ok-all.ensures.width i.width;
      number = λ n. row_step ls d m new c.args.items.now _ _ x y all low.wire more low.signed i.ready c.in_ok-low.ensures.ready c.in_ok-low.ensures.keeps c.in_ok-all.ensures.keeps next c.part.ensures.same c.part.ensures.alone.constant c.in_ok-low.ensures.node
          (λ some. made_node d all.node all.width _ (i.node some)) c.in_ok-all.ensures.some c.in_ok-all.ensures.makes n (i.number n);
    }

pub row_node-returns-clause-node : goal.row_node-returns-clause-node
row_node-returns-clause-node t c =
    let i = c.loop-item.invariant in
    let le : length c.args.items.now ≤ c.loop-item.item-index = omega arith in
    row_has c.args.leaves.now c.loop-item.dag c.args.items.now _ c.loop-item.all c.requires.row (drop_all c.loop-item.item-index c.args.items.now le) i.node i.width i.number
