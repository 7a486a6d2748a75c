use Rattle.std.proofs.Common.{◌≡◌, ◌+◌, Some, [], ◌∷◌, ◌++◌, subst, arith, rules, refl, sym, ◌∙◌, ap}
use Rattle.std.proofs.lemmas.Result.{err_from_is_err_and}
use Rattle.vlog_read_spelling.proofs.Forms.{within, sign_within, span_within, height_pos, length_of}
use Rattle.vlog_tree.specs.Signs.{unary_of, on_sign, cast_of, on_word}
use Rattle.vlog_read_spelling.proofs.Tokens.{binary_low, first_of, first_other, kind_within}
use Rattle.vlog_read_spelling.proofs.Made.{part_made, cast_made, paren_made, unary_made, binary_made}
use Rattle.vlog_read_expr.proofs.SignTests.{yes_by, no_by}
use Rattle.vlog_read_expr.proofs.Steps.{refuses_operand, low_depth, binary_refuses, binary_grown, binary_deep, choice_refuses_yes, choice_no_colon, choice_refuses_no}
use Rattle.vlog_read_expr.proofs.Operands.{enclosed_open, enclosed_followed, nothing_begins, paren_refuses, paren_read, unary_refuses, unary_read, name_refuses, name_read, bracket_refuses, part_refuses, part_read, cast_open, cast_refuses, cast_read}
use Rattle.vlog_read_expr.proofs.ListSteps.{Begun_list, list_refuses, list_begins, list_ends, item_refuses, list_grows, brace_refuses, repeat_refuses, repeat_open, repeat_open_2, repeat_followed, repeat_read, concat_refuses, concat_open, concat_followed, concat_read}
use Rattle.vlog_read_expr.proofs.expr.Reader.+expr.Goals as goal

-- an expression
pub expr_at-returns-in_err-left : goal.expr_at-returns-in_err-left
expr_at-returns-in_err-left t c =
    let p = err_from_is_err_and c.from_residual.result c.from_residual.ensures.1 in
    rw (p.1, p.2) (refuses_operand _ _ _ _ _ _ c.in_err-left.ensures)

pub expr_at-loop-op-smaller : goal.expr_at-loop-op-smaller
expr_at-loop-op-smaller t c =
    omega (arith, c.in_ok-left-2.ensures.1, within c.args.self.now.set c.args.self.now.tokens.now c.args.at c.in_ok-left-2.left.tree c.in_ok-left-2.left.end c.in_ok-left-2.ensures.0.spelt)

-- a binary operator
pub binary-after-next-requires : goal.binary-after-next-requires
binary-after-next-requires t c = sign_within _ _ _ _ c.requires.sign

pub binary-overflow_sub-sought : goal.binary-overflow_sub-sought
binary-overflow_sub-sought t c = omega (arith, low_depth _ _ _ _ _ _ c.requires.grown)

pub binary-expr_at-requires : goal.binary-expr_at-requires
binary-expr_at-requires t c =
    let l = low_depth _ _ _ _ _ _ c.requires.grown in let b = binary_low c.args.op in
    (search rules, (omega (arith, c.level.ensures), omega arith))

pub binary-returns-in-Err : goal.binary-returns-in-Err
binary-returns-in-Err t c =
    binary_refuses _ _ _ _ _ _ c.requires.grown _ c.requires.sign c.requires.high _ c.level.ensures _ (rw c.after-next.ensures at c.in-Err.ensures)

pub binary-returns-then-height-sought : goal.binary-returns-then-height-sought
binary-returns-then-height-sought t c =
    binary_deep _ _ _ _ _ _ c.requires.grown _ c.requires.sign c.requires.high _ c.level.ensures _ (rw c.after-next.ensures at c.in-Ok.ensures)
    (omega (arith, c.max-height.ensures, c.if-height-sought.true))

pub binary-returns : goal.binary-returns
binary-returns t c =
    binary_grown _ _ _ _ _ _ c.requires.grown _ c.requires.sign c.requires.high _ c.level.ensures _ (rw c.after-next.ensures at c.in-Ok.ensures) _
    (binary_made _ _ _ _ _ c.in_ok-left.ensures c.in_ok-right.ensures) refl (omega (arith, c.max-height.ensures)) (omega (arith, c.if-height-sought.false))

-- a choice
pub choice-after-next-requires : goal.choice-after-next-requires
choice-after-next-requires t c = sign_within _ _ _ _ c.requires.sign

pub choice-overflow_sub-sought : goal.choice-overflow_sub-sought
choice-overflow_sub-sought t c = omega (arith, low_depth _ _ _ _ _ _ c.requires.grown)

pub choice-expr_at-requires : goal.choice-expr_at-requires
choice-expr_at-requires t c = let l = low_depth _ _ _ _ _ _ c.requires.grown in (search rules, (omega arith, omega arith))

pub choice-returns-in-Err : goal.choice-returns-in-Err
choice-returns-in-Err t c =
    choice_refuses_yes _ _ _ _ _ _ c.requires.grown c.requires.sign c.requires.high _ (rw c.after-next.ensures at c.in-Err.ensures)

pub choice-returns-then-not-is_sign : goal.choice-returns-then-not-is_sign
choice-returns-then-not-is_sign t c =
    choice_no_colon _ _ _ _ _ _ c.requires.grown c.requires.sign c.requires.high _ (rw c.after-next.ensures at c.in-Ok.ensures)
    (no_by _ c.is_sign.ensures c.if-not-is_sign.true)

pub choice-after-last-requires : goal.choice-after-last-requires
choice-after-last-requires t c = kind_within _ _ _ (yes_by _ c.is_sign.ensures c.if-not-is_sign.false)

pub choice-overflow_sub-sought-2 : goal.choice-overflow_sub-sought-2
choice-overflow_sub-sought-2 t c = omega (arith, low_depth _ _ _ _ _ _ c.requires.grown)

pub choice-expr_at-requires-2 : goal.choice-expr_at-requires-2
choice-expr_at-requires-2 t c = let l = low_depth _ _ _ _ _ _ c.requires.grown in (search rules, (omega arith, omega arith))

pub choice-returns-in-Err-expr_at : goal.choice-returns-in-Err-expr_at
choice-returns-in-Err-expr_at t c =
    choice_refuses_no _ _ _ _ _ _ c.requires.grown c.requires.sign c.requires.high _ (rw c.after-next.ensures at c.in-Ok.ensures) _ (rw c.after-last.ensures at c.in-Err-expr_at.ensures)

pub choice-chosen-requires : goal.choice-chosen-requires
choice-chosen-requires t c = record {
  grown = c.requires.grown;
  sign = c.requires.sign;
  high = c.requires.high;
  read_yes = rw c.after-next.ensures at c.in-Ok.ensures;
  colon = yes_by _ c.is_sign.ensures c.if-not-is_sign.false;
  read_no = rw c.after-last.ensures at c.in-Ok-expr_at.ensures;
  low = c.requires.low;
}

-- an operand
pub operand-returns-in_default : goal.operand-returns-in_default
operand-returns-in_default t c = nothing_begins _ _ _ (ap first_of (sym c.in_default.ensures.is))

pub operand-returns-then-depth-eq0 : goal.operand-returns-then-depth-eq0
operand-returns-then-depth-eq0 t c = record { higher = λ a j r. omega (arith, height_pos a, c.if-depth-eq0.true); tokens = omega (arith, c.in-Some.ensures.within, c.if-depth-eq0.true) }

pub operand-returns-in-Outside : goal.operand-returns-in-Outside
operand-returns-in-Outside t c = nothing_begins _ _ _ (ap first_of (sym c.in-Some.ensures.is ∙ ap Some c.in-Outside.is))

-- a word
pub worded-cast-requires : goal.worded-cast-requires
worded-cast-requires t c =
    (search rules, (kind_within _ _ _ c.requires.here, (ap (on_word cast_of) c.requires.here ∙ sym c.in-Some.ensures, (c.requires.positive, c.requires.low))))

pub cast-returns-then-not-is_sign : goal.cast-returns-then-not-is_sign
cast-returns-then-not-is_sign t c =
    cast_open _ _ _ _ c.requires.positive _ c.requires.here (rw c.after-open.ensures at (no_by _ c.is_sign.ensures c.if-not-is_sign.true))

pub cast-after-requires : goal.cast-after-requires
cast-after-requires t c = kind_within _ _ _ (yes_by _ c.is_sign.ensures c.if-not-is_sign.false)

pub cast-returns-in_err-part : goal.cast-returns-in_err-part
cast-returns-in_err-part t c =
    let p = err_from_is_err_and c.from_residual.result c.from_residual.ensures.1 in
    let q : c.after.result ≡ c.args.at + 2 = omega (arith, c.after.ensures, c.after-open.ensures) in
    rw (p.1, p.2) (cast_refuses _ _ _ _ c.requires.positive _ c.requires.here _ (rw q at c.in_err-part.ensures))

pub cast-returns : goal.cast-returns
cast-returns t c =
    let q : c.after.result ≡ c.args.at + 2 = omega (arith, c.after.ensures, c.after-open.ensures) in
    cast_read _ _ _ _ c.requires.positive _ c.requires.here (rw c.after-open.ensures at (yes_by _ c.is_sign.ensures c.if-not-is_sign.false)) _ (rw q at c.in_ok-part.ensures) _
    (cast_made _ _ _ c.in_ok-new.ensures) refl refl

-- a name
pub named-returns-in_err-named : goal.named-returns-in_err-named
named-returns-in_err-named t c =
    let p = err_from_is_err_and c.from_residual.result c.from_residual.ensures.1 in
    rw (p.1, p.2) (name_refuses _ _ _ _ c.requires.positive _ c.requires.here c.requires.plain _ c.in_err-named.ensures)

pub named-bracket-requires : goal.named-bracket-requires
named-bracket-requires t c = (search rules, (c.in_ok-named.ensures.0, (yes_by _ c.is_sign.ensures c.if-is_sign.true, (c.requires.positive, c.requires.low))))

pub named-returns : goal.named-returns
named-returns t c =
    name_read _ _ _ _ c.requires.positive _ _ c.in_ok-named.ensures (no_by _ c.is_sign.ensures c.if-is_sign.false) _ refl refl refl

pub bracket-after-requires : goal.bracket-after-requires
bracket-after-requires t c = kind_within _ _ _ c.requires.open

pub bracket-returns-in_err-index : goal.bracket-returns-in_err-index
bracket-returns-in_err-index t c =
    let p = err_from_is_err_and c.from_residual.result c.from_residual.ensures.1 in
    rw (p.1, p.2) (bracket_refuses _ _ _ _ c.requires.positive _ _ c.requires.here c.requires.open _ (rw c.after.ensures at c.in_err-index.ensures))

pub bracket-part-requires : goal.bracket-part-requires
bracket-part-requires t c =
    (search rules, (c.requires.here, (c.requires.open, (rw c.after.ensures at c.in_ok-index.ensures, (sym c.in-Some.ensures, (c.requires.positive, c.requires.low))))))

pub bracket-selected-requires : goal.bracket-selected-requires
bracket-selected-requires t c = record {
  here = c.requires.here;
  «open» = c.requires.open;
  read = rw c.after.ensures at c.in_ok-index.ensures;
  none = sym c.in-None.ensures;
  positive = c.requires.positive;
  low = c.requires.low;
}

pub part-after-next-requires : goal.part-after-next-requires
part-after-next-requires t c = span_within _ _ _ c.requires.sign

pub part-returns-in-Err : goal.part-returns-in-Err
part-returns-in-Err t c =
    part_refuses _ _ _ _ c.requires.positive _ _ c.requires.here c.requires.open _ c.requires.read _ c.requires.sign _ (rw c.after-next.ensures at c.in-Err.ensures)

pub part-returns : goal.part-returns
part-returns t c =
    part_read _ _ _ _ c.requires.positive _ _ c.requires.here c.requires.open _ c.requires.read _ c.requires.sign _ (rw c.after-next.ensures at c.in-Ok.ensures) _
    (part_made _ _ _ _ _ _ c.in_ok-index.ensures c.in_ok-other.ensures) refl (omega (arith, c.max-height.ensures))

-- a sign
pub signed-unary-requires : goal.signed-unary-requires
signed-unary-requires t c =
    (search rules, (kind_within _ _ _ c.requires.here, (ap (on_sign unary_of) c.requires.here ∙ sym c.in-Some.ensures, (c.requires.positive, c.requires.low))))

pub signed-returns-in-None : goal.signed-returns-in-None
signed-returns-in-None t c =
    nothing_begins _ _ _ (first_other _ _ _ c.requires.here (sym c.is.ensures ∙ c.if-is.false) (sym c.is-else-is.ensures ∙ c.if-is-2.false) (sym c.in-None.ensures))

pub unary-returns-in_err-part : goal.unary-returns-in_err-part
unary-returns-in_err-part t c =
    let p = err_from_is_err_and c.from_residual.result c.from_residual.ensures.1 in
    rw (p.1, p.2) (unary_refuses _ _ _ _ c.requires.positive _ c.requires.here _ (rw c.after.ensures at c.in_err-part.ensures))

pub unary-returns : goal.unary-returns
unary-returns t c =
    unary_read _ _ _ _ c.requires.positive _ c.requires.here _ (rw c.after.ensures at c.in_ok-part.ensures) _ (unary_made _ _ _ c.in_ok-new.ensures) refl refl

pub paren-after-requires : goal.paren-after-requires
paren-after-requires t c = kind_within _ _ _ c.requires.here

pub paren-returns-in_err-part : goal.paren-returns-in_err-part
paren-returns-in_err-part t c =
    let p = err_from_is_err_and c.from_residual.result c.from_residual.ensures.1 in
    rw (p.1, p.2) (paren_refuses _ _ _ _ c.requires.positive c.requires.here _ (rw c.after.ensures at c.in_err-part.ensures))

pub paren-returns : goal.paren-returns
paren-returns t c =
    paren_read _ _ _ _ c.requires.positive c.requires.here _ (rw c.after.ensures at c.in_ok-part.ensures) _ (paren_made _ _ c.in_ok-new.ensures) refl refl

pub enclosed-returns-then-not-is_sign : goal.enclosed-returns-then-not-is_sign
enclosed-returns-then-not-is_sign t c = enclosed_open _ _ _ _ _ _ c.in_ok-part.ensures (no_by _ c.is_sign.ensures c.if-not-is_sign.true)

pub enclosed-after-end-requires : goal.enclosed-after-end-requires
enclosed-after-end-requires t c = kind_within _ _ _ (yes_by _ c.is_sign.ensures c.if-not-is_sign.false)

pub enclosed-returns-then-not-is_alone : goal.enclosed-returns-then-not-is_alone
enclosed-returns-then-not-is_alone t c =
    enclosed_followed _ _ _ _ _ _ c.in_ok-part.ensures (rw c.after-end.ensures at (no_by _ c.is_alone.ensures c.if-not-is_alone.true))

-- braces
pub brace-after-requires : goal.brace-after-requires
brace-after-requires t c = kind_within _ _ _ c.requires.here

pub brace-returns-in_err-first : goal.brace-returns-in_err-first
brace-returns-in_err-first t c =
    let p = err_from_is_err_and c.from_residual.result c.from_residual.ensures.1 in
    rw (p.1, p.2) (brace_refuses _ _ _ _ c.requires.positive c.requires.here _ (rw c.after.ensures at c.in_err-first.ensures))

pub brace-repeat-requires : goal.brace-repeat-requires
brace-repeat-requires t c =
    (search rules, (c.requires.here, (rw c.after.ensures at c.in_ok-first.ensures, (yes_by _ c.is_sign.ensures c.if-is_sign.true, (c.requires.positive, c.requires.low)))))

pub brace-concat-requires : goal.brace-concat-requires
brace-concat-requires t c =
    (search rules, (c.requires.here, (rw c.after.ensures at c.in_ok-first.ensures, (no_by _ c.is_sign.ensures c.if-is_sign.false, (c.requires.positive, c.requires.low)))))

-- a replication
pub repeat-after-requires : goal.repeat-after-requires
repeat-after-requires t c = kind_within _ _ _ c.requires.open

pub repeat-returns-in-Err : goal.repeat-returns-in-Err
repeat-returns-in-Err t c =
    repeat_refuses _ _ _ _ c.requires.positive c.requires.here _ c.requires.read c.requires.open _ (rw c.after.ensures at c.in-Err.ensures)

pub repeat-returns-then-not-is_sign : goal.repeat-returns-then-not-is_sign
repeat-returns-then-not-is_sign t c =
    repeat_open _ _ _ _ c.requires.positive c.requires.here _ c.requires.read c.requires.open _ (rw c.after.ensures at c.in-Ok.ensures)
    (no_by _ c.is_sign.ensures c.if-not-is_sign.true)

pub repeat-after-second-requires : goal.repeat-after-second-requires
repeat-after-second-requires t c = kind_within _ _ _ (yes_by _ c.is_sign.ensures c.if-not-is_sign.false)

pub repeat-returns-then-not-is_sign-2 : goal.repeat-returns-then-not-is_sign-2
repeat-returns-then-not-is_sign-2 t c =
    repeat_open_2 _ _ _ _ c.requires.positive c.requires.here _ c.requires.read c.requires.open _ (rw c.after.ensures at c.in-Ok.ensures)
    (rw c.after-second.ensures at (no_by _ c.is_sign-2.ensures c.if-not-is_sign-2.true))

pub repeat-after-end-requires : goal.repeat-after-end-requires
repeat-after-end-requires t c = kind_within _ _ _ (yes_by _ c.is_sign-2.ensures c.if-not-is_sign-2.false)

pub repeat-returns-then-not-is_alone : goal.repeat-returns-then-not-is_alone
repeat-returns-then-not-is_alone t c =
    let q : c.after-end.result ≡ c.in-Ok.parts.end + 2 = omega (arith, c.after-end.ensures, c.after-second.ensures) in
    repeat_followed _ _ _ _ c.requires.positive c.requires.here _ c.requires.read c.requires.open _ (rw c.after.ensures at c.in-Ok.ensures)
    (rw q at (no_by _ c.is_alone.ensures c.if-not-is_alone.true))

pub repeat-returns : goal.repeat-returns
repeat-returns t c =
    let q : c.after-end.result ≡ c.in-Ok.parts.end + 2 = omega (arith, c.after-end.ensures, c.after-second.ensures) in
    repeat_read _ _ _ _ c.requires.positive c.requires.here _ c.requires.read c.requires.open _ (rw c.after.ensures at c.in-Ok.ensures)
    (yes_by _ c.is_sign.ensures c.if-not-is_sign.false) (rw c.after-second.ensures at (yes_by _ c.is_sign-2.ensures c.if-not-is_sign-2.false))
    (rw q at (yes_by _ c.is_alone.ensures c.if-not-is_alone.false)) _ _ c.in_ok-new.ensures refl q (omega (arith, c.max-height.ensures))

-- a concatenation
pub concat-after-requires : goal.concat-after-requires
concat-after-requires t c = kind_within _ _ _ c.requires.here

pub concat-returns-in_err-parts : goal.concat-returns-in_err-parts
concat-returns-in_err-parts t c =
    let p = err_from_is_err_and c.from_residual.result c.from_residual.ensures.1 in
    rw (p.1, p.2) (concat_refuses _ _ _ _ c.requires.positive c.requires.here _ c.requires.read c.requires.flat _ (rw c.after.ensures at c.in_err-parts.ensures))

pub concat-returns-then-not-is_sign : goal.concat-returns-then-not-is_sign
concat-returns-then-not-is_sign t c =
    concat_open _ _ _ _ c.requires.positive c.requires.here _ c.requires.read c.requires.flat _ (rw c.after.ensures at c.in_ok-parts.ensures) (no_by _ c.is_sign.ensures c.if-not-is_sign.true)

pub concat-after-end-requires : goal.concat-after-end-requires
concat-after-end-requires t c = kind_within _ _ _ (yes_by _ c.is_sign.ensures c.if-not-is_sign.false)

pub concat-returns-then-not-is_alone : goal.concat-returns-then-not-is_alone
concat-returns-then-not-is_alone t c =
    concat_followed _ _ _ _ c.requires.positive c.requires.here _ c.requires.read c.requires.flat _ (rw c.after.ensures at c.in_ok-parts.ensures) (rw c.after-end.ensures at (no_by _ c.is_alone.ensures c.if-not-is_alone.true))

pub concat-returns : goal.concat-returns
concat-returns t c =
    concat_read _ _ _ _ c.requires.positive c.requires.here _ c.requires.read c.requires.flat _ (rw c.after.ensures at c.in_ok-parts.ensures) (yes_by _ c.is_sign.ensures c.if-not-is_sign.false)
    (rw c.after-end.ensures at (yes_by _ c.is_alone.ensures c.if-not-is_alone.false)) _ refl c.after-end.ensures refl

pub list-returns-in_err-first : goal.list-returns-in_err-first
list-returns-in_err-first t c =
    let p = err_from_is_err_and c.from_residual.result c.from_residual.ensures.1 in
    rw (p.1, p.2) (list_refuses _ _ _ _ _ c.in_err-first.ensures)

pub list_from-loop-items-init : goal.list_from-loop-items-init
list_from-loop-items-init t c =
    let q : c.push.new.self ≡ c.args.first.tree ∷ [] = c.in_ok-push.ensures.ok ∙ ap (λ z. z ++ c.args.first.tree ∷ []) c.new-items.ensures in
    subst (λ z. Begun_list c.args.self.now.set c.args.self.now.tokens.now c.args.at c.args.depth z c.args.first.height c.args.first.end) (sym q) (list_begins _ _ _ _ _ c.requires.read)

pub list_from-after-requires : goal.list_from-after-requires
list_from-after-requires t c = kind_within _ _ _ (yes_by _ c.is_sign.ensures c.loop-items-test.true)

pub list_from-returns-in_err-item : goal.list_from-returns-in_err-item
list_from-returns-in_err-item t c =
    let p = err_from_is_err_and c.from_residual-in_err-item.result c.from_residual-in_err-item.ensures.1 in
    rw (p.1, p.2) (item_refuses _ _ _ _ _ _ _ c.loop-items.invariant (yes_by _ c.is_sign.ensures c.loop-items-test.true) _ (rw c.after.ensures at c.in_err-item.ensures))

pub list_from-loop-items-smaller : goal.list_from-loop-items-smaller
list_from-loop-items-smaller t c =
    omega (
      arith,
      c.after.ensures,
      within c.args.self.now.set c.args.self.now.tokens.now c.after.result c.in_ok-item.item.tree c.in_ok-item.item.end c.in_ok-item.ensures.reads.spelt,
      length_of c.args.self.now.set c.args.self.now.tokens.now c.after.result c.in_ok-item.item.tree c.in_ok-item.item.end c.in_ok-item.ensures.reads.spelt,
    )

pub list_from-loop-items-preserved : goal.list_from-loop-items-preserved
list_from-loop-items-preserved t c =
    list_grows _ _ _ _ _ _ _ c.loop-items.invariant (yes_by _ c.is_sign.ensures c.loop-items-test.true) _ (rw c.after.ensures at c.in_ok-item.ensures) _
    c.in_ok-push-2.ensures.ok _ c.max-height.ensures

pub list_from-returns : goal.list_from-returns
list_from-returns t c = list_ends _ _ _ _ _ _ _ c.loop-items.invariant (no_by _ c.is_sign.ensures c.loop-items-test.false) _ refl refl refl
