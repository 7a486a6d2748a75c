-- The code's places beside the definitions' own.
use Rattle.std.specs.Prelude.{Result, Ok, Err}
use Rattle.desk_http_request.specs.declared.refusal.Refusal.{Refusal}
use Rattle.desk_http_request.specs.Asked.{Order}
use Rattle.desk_http_request.specs.declared.order.Order.{Order as SeenOrder}
use Rattle.desk_http_request.specs.Places.{Place, File, Blocks, Signoffs, Module, Set, Check, Report, Sign, Trace}
use Rattle.desk_http_request.specs.declared.places.Place.{Place as SeenPlace}
use Rattle.desk_http_request.specs.declared.places.Place.TheVariants.{File as SeenFile, Blocks as SeenBlocks, Signoffs as SeenSignoffs, Module as SeenModule, Set as SeenSet, Check as SeenCheck, Report as SeenReport, Sign as SeenSign, Trace as SeenTrace}

-- a place that borrows its parts
abbrev pub seen_place : SeenPlace → Place
seen_place (SeenFile f) = File f
seen_place SeenBlocks = Blocks
seen_place SeenSignoffs = Signoffs
seen_place (SeenModule n) = Module n.now
seen_place (SeenSet n) = Set n.now
seen_place (SeenCheck n) = Check n.now
seen_place (SeenReport n) = Report n.now
seen_place (SeenSign n) = Sign n.now
seen_place (SeenTrace n l) = Trace n.now l.now

-- an order that borrows its parts
abbrev pub seen_order : Result SeenOrder Refusal → Result Order Refusal
seen_order (Err refusal) = Err refusal
seen_order (Ok order) = Ok (record { place = seen_place order.place; count = order.count })
