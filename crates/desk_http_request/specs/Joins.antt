-- The code's types beside the definitions' own.
use Rattle.std.specs.Prelude.{ℕ, List, ◌&&◌, if◌then◌else◌}
use Rattle.std.specs.List.{list_all}
use Rattle.std.specs.Str.Parse.{digits_value}
use Rattle.desk_http_request.specs.declared.fields.Length.{Length}
use Rattle.desk_http_request.specs.declared.fields.Length.TheVariants.{Absent as NoLength, Faulty as BadLength, Count as Is}
use Rattle.desk_http_request.specs.Fields.{Declared, Absent, Faulty, Count, gives, is_count}

abbrev pub declared_of : Length → Declared
declared_of NoLength = Absent
declared_of BadLength = Faulty
declared_of (Is n) = Count n

-- the length by the first value and the values after it
abbrev pub first_of : List ℕ → List (List ℕ) → Declared
first_of v vs = if is_count v && list_all (gives (digits_value 10 v)) vs then Count (digits_value 10 v) else Faulty
