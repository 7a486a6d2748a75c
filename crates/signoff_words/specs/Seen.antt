-- What is seen of what was read.
use Rattle.signoff_words.specs.declared.reading.Reading.{Reading}
use Rattle.signoff_words.specs.Options.{Read}

abbrev pub seen : Reading → Read
seen r = record { options = r.options; given = r.given.items; plain = r.plain.items; next = r.next }
