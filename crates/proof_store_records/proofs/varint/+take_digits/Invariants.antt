use Rattle.proof_store_records.proofs.varint.+take_digits.Given as goal

abbrev pub decreases-take_digits : goal.decreases-take_digits
decreases-take_digits l = l.more
