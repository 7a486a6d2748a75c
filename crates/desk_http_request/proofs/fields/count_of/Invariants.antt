use Rattle.std.proofs.Common.{◌≡◌, ◌<◌, ◌^◌, drop}
use Rattle.std.specs.List.{list_all}
use Rattle.std.specs.Char.{is_ascii_digit}
use Rattle.std.specs.Str.Parse.{digits_value, digits_value_after}
use Rattle.desk_http_request.proofs.fields.count_of.Given as goal

abbrev pub invariant-loop-b : goal.invariant-loop-b
invariant-loop-b l = record {
  digits : list_all is_ascii_digit l.value ≡ list_all is_ascii_digit (drop l.b-index l.value);
  number : digits_value 10 l.value ≡ digits_value_after 10 l.count (drop l.b-index l.value);
  small : l.count < 10 ^ l.b-index;
}
