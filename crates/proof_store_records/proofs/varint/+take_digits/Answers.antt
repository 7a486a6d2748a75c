use Rattle.std.proofs.Common.{◌≡◌, ◌<◌, ◌∷◌, arith, ap, ◌∙◌, sym}
use Rattle.proof_store_records.proofs.FrontLemmas.{front_byte}
use Rattle.proof_store_records.proofs.VarintLemmas.{starts_short, lacks_nil, lacks_last, lacks_rest, lacks_odd, starts_long}
use Rattle.proof_store_records.proofs.varint.+take_digits.Goals as goal
use Rattle.proof_store_records.proofs.varint.+take_digits.Goals.{then-high-eq0-via-then-high-eq0, then-high-eq0-via-else-high-eq0+then-high}

pub returns-in_err-byte : goal.returns-in_err-byte
returns-in_err-byte t c = rw c.from_residual.ensures (lacks_nil c.args.more c.args.bytes.now c.in_err-byte.ensures.cases)

pub returns-then-digit-lt128 : goal.returns-then-digit-lt128
returns-then-digit-lt128 t c =
    let front : c.args.bytes.now ≡ c.from-digit.result ∷ c.in_ok-byte.rest.now = c.in_ok-byte.ensures.cases.0 ∙ ap (λ d. d ∷ c.in_ok-byte.rest.now) (sym c.from-digit.ensures) in
    starts_short c.args.more c.from-digit.result c.args.bytes.now c.in_ok-byte.rest.now front c.if-digit-lt128.true

pub returns-then-more-eq0 : goal.returns-then-more-eq0
returns-then-more-eq0 t c =
    lacks_last c.args.more c.in_ok-byte.byte.now c.args.bytes.now c.in_ok-byte.rest.now c.in_ok-byte.ensures.cases.0 (omega arith) c.if-more-eq0.true

pub returns-in_err-high : goal.returns-in_err-high
returns-in_err-high t c =
    rw c.from_residual-in_err-high.ensures
    (lacks_rest c.args.more c.in_ok-byte.byte.now c.args.bytes.now c.in_ok-byte.rest.now c.in_ok-byte.ensures.cases.0 (omega arith) c.if-more-eq0.false c.in_err-high.ensures)

pub returns-then-high-eq0 : goal.returns-then-high-eq0
returns-then-high-eq0 t c =
    lacks_odd c.args.more c.in_ok-byte.byte.now c.in_ok-high.high c.args.bytes.now c.in_ok-byte.rest.now c.in_ok-high.rest.now c.in_ok-byte.ensures.cases.0 (omega arith) c.if-more-eq0.false c.in_ok-high.ensures
    (λ low room. elim c.then-high-eq0.branch [
      | then-high-eq0-via-then-high-eq0 w ↦ omega arith
      | then-high-eq0-via-else-high-eq0+then-high w ↦ omega arith
    ])

pub returns : goal.returns
returns t c =
    let front : c.args.bytes.now ≡ c.from-digit.result ∷ c.in_ok-byte.rest.now = c.in_ok-byte.ensures.cases.0 ∙ ap (λ d. d ∷ c.in_ok-byte.rest.now) (sym c.from-digit.ensures) in
    let byte : c.from-digit.result < 256 = front_byte c.args.bytes.now c.in_ok-byte.rest.now c.from-digit.result front (λ i. (c.type_inv.bytes i).fits) in
    starts_long c.args.more c.from-digit.result c.in_ok-high.high c.args.bytes.now c.in_ok-byte.rest.now c.in_ok-high.rest.now front (omega arith) c.if-more-eq0.false c.in_ok-high.ensures
    (omega arith) (omega arith) byte
