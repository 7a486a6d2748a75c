-- What a request's head asks for.
use Rattle.std.specs.Prelude.{ℕ, Bool, true, List, map, Option, Some, None, Result, Ok, Err, nat_lt, bytes_eq, codes, if◌then◌else◌}
use Rattle.httparse.specs.Grammar.{RequestHead}
use Rattle.httparse.specs.Spans.{name_and_value}
use Rattle.desk_http_request.specs.declared.refusal.Refusal.{Refusal}
use Rattle.desk_http_request.specs.declared.refusal.Refusal.TheVariants.{Coding, Length, NoLength, Long, NoRoute, Method, Name}
use Rattle.desk_core_commands.specs.declared.command.Command.TheVariants.{PutModule, PutSet, Check as CheckBlock, GetReport, GetTrace, SignOff, Blocks as AllBlocks, Signoffs as AllSigns}
use Rattle.desk_http_request.specs.declared.wanted.Wanted.{Wanted}
use Rattle.desk_http_request.specs.declared.wanted.Wanted.TheVariants.{Act, File as Shown}
use Rattle.desk_http_request.specs.Fields.{Pair, has_field, values, Declared, Absent, Faulty, Count, declared}
use Rattle.desk_http_request.specs.Places.{Place, File, Blocks, Signoffs, Module, Set, Check, Report, Sign, Trace, path_of, place_of, is_block_name, line_number}

-- the most bytes of a body
abbrev pub most_length : ℕ
most_length = 1048576

-- the method of a place
abbrev pub method_of : Place → List ℕ
method_of (File f) = codes "GET"
method_of Blocks = codes "GET"
method_of Signoffs = codes "GET"
method_of (Module n) = codes "PUT"
method_of (Set n) = codes "PUT"
method_of (Check n) = codes "POST"
method_of (Report n) = codes "GET"
method_of (Sign n) = codes "POST"
method_of (Trace n l) = codes "GET"

-- the block that a place is about has a name, where there is one
abbrev pub is_well_named : Place → Bool
is_well_named (File f) = true
is_well_named Blocks = true
is_well_named Signoffs = true
is_well_named (Module n) = is_block_name n
is_well_named (Set n) = is_block_name n
is_well_named (Check n) = is_block_name n
is_well_named (Report n) = is_block_name n
is_well_named (Sign n) = is_block_name n
is_well_named (Trace n l) = is_block_name n

-- what is asked for at a place, with the body
abbrev pub wanted_of : Place → List ℕ → Wanted
wanted_of (File f) body = Shown f
wanted_of Blocks body = Act AllBlocks
wanted_of Signoffs body = Act AllSigns
wanted_of (Module n) body = Act (PutModule n body)
wanted_of (Set n) body = Act (PutSet n body)
wanted_of (Check n) body = Act (CheckBlock n)
wanted_of (Report n) body = Act (GetReport n)
wanted_of (Sign n) body = Act (SignOff n)
wanted_of (Trace n l) body = Act (GetTrace n (line_number l))

-- a place, and how many bytes of body are awaited
pub record Order : Type 0 where
  pub place : Place
  pub count : ℕ

-- by the method and the place, where the length is a good one
abbrev pub placed : List ℕ → Option Place → ℕ → Result Order Refusal
placed method None count = Err NoRoute
placed method (Some place) count =
    if bytes_eq method (method_of place) then (if is_well_named place then Ok (record { place = place; count = count }) else Err Name)
    else Err Method

-- by the body's length; a PUT has one
abbrev pub lengthed : List ℕ → List ℕ → Declared → Result Order Refusal
lengthed method path Faulty = Err Length
lengthed method path Absent = if bytes_eq method (codes "PUT") then Err NoLength else placed method (place_of path) 0
lengthed method path (Count n) = if nat_lt most_length n then Err Long else placed method (place_of path) n

-- a method, a target and fields
abbrev pub asked : List ℕ → List ℕ → List Pair → Result Order Refusal
asked method target fields =
    if has_field (codes "transfer-encoding") fields then Err Coding
    else lengthed method (path_of target) (declared (values (codes "content-length") fields))

-- what a head asks for, or why it is refused
abbrev pub asked_of : RequestHead → Result Order Refusal
asked_of h = asked h.method h.target (map name_and_value h.fields)
