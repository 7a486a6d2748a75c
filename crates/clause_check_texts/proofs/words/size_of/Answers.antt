use Rattle.std.proofs.Common.{◌≡◌, ◌*◌, ◌+◌, get_or, sym, ap, ◌∙◌, arith, true}
use Rattle.clause_check_texts.specs.Words.{is_digit}
use Rattle.clause_check_texts.proofs.WordLemmas.{no_size_large, large_before, from_more, digits_more}
use Rattle.clause_check_texts.proofs.words.size_of.Goals as goal

pub returns-then-size : goal.returns-then-size
returns-then-size c =
    let word = c.args.word.now in
    let i = c.loop-byte.byte-index in
    let e = from_more word i c.loop-byte.size c.loop-byte-test.true c.loop-byte.invariant.is in
    sym (no_size_large word (large_before word (i + 1) (omega (arith, e, c.from.ensures, c.if-size.true))))

pub loop-byte-preserved : goal.loop-byte-preserved
loop-byte-preserved c =
    let word = c.args.word.now in
    let i = c.loop-byte.byte-index in
    let e = from_more word i c.loop-byte.size c.loop-byte-test.true c.loop-byte.invariant.is in
    let digit : is_digit (get_or word i 0) ≡ true = sym c.is_digit.ensures ∙ c.if-not-is_digit.false in
    record {
      is = ap (λ n. c.loop-byte.size * 10 + n) c.from.ensures ∙ e;
      small = c.if-size.false;
      digits = digits_more word i c.loop-byte-test.true c.loop-byte.invariant.digits digit;
    }
