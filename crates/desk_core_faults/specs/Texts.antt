-- How refusals are written: the name of a fault, and then what it is about, each behind a space.
use Rattle.std.specs.Prelude.{ℕ, List, [], ◌∷◌, ◌++◌, codes, Option, Some, None, slice_get}
use Rattle.std.specs.Fmt.{decimal}
use Rattle.vlog_read_lex.specs.declared.error.ReadFault.{ReadFault}
use Rattle.vlog_read_lex.specs.declared.error.ReadFault.TheVariants as r
use Rattle.elab_flat_faults.specs.declared.flattening.FlatFault.{FlatFault}
use Rattle.elab_flat_faults.specs.declared.flattening.FlatFault.TheVariants as f
use Rattle.mem_laws.specs.declared.fault.MemFault.{MemFault}
use Rattle.mem_laws.specs.declared.fault.MemFault.TheVariants as n
use Rattle.elab_flat_faults.specs.declared.elaborating.ElabFault.{ElabFault}
use Rattle.elab_flat_faults.specs.declared.elaborating.ElabFault.TheVariants as e
use Rattle.set_tree.specs.declared.set.Name.{Name}
use Rattle.set_tree.specs.declared.set.Set.{Set}
use Rattle.set_read_lookup.specs.Faults.{word_of}
use Rattle.set_read.specs.declared.fault.SetFault.{SetFault}
use Rattle.set_read.specs.declared.fault.SetFault.TheVariants as s
use Rattle.set_tree_structure.specs.declared.fault.GraphFault.{GraphFault}
use Rattle.set_tree_structure.specs.declared.fault.GraphFault.TheVariants as g
use Rattle.set_tree_structure.specs.declared.fault.Place.{Place}
use Rattle.set_tree_structure.specs.declared.fault.Place.TheVariants as p
use Rattle.twin_tests_laws.specs.Names.{invariant_name, property_name}
use Rattle.unroll_binding.specs.declared.fault.BindFault.{BindFault}
use Rattle.unroll_binding.specs.declared.fault.BindFault.TheVariants as b
use Rattle.desk_core_faults.specs.declared.fault.CheckFault.{CheckFault}
use Rattle.desk_core_faults.specs.declared.fault.CheckFault.TheVariants as c
use Rattle.desk_core_faults.specs.declared.fault.ModuleFault.{ModuleFault}
use Rattle.desk_core_faults.specs.declared.fault.ModuleFault.TheVariants as m
use Rattle.desk_core_faults.specs.declared.fault.SetStop.{SetStop}
use Rattle.desk_core_faults.specs.declared.fault.SetStop.TheVariants as t

abbrev pub at_byte : List ℕ → ℕ → List ℕ
at_byte name at = name ++ codes " at " ++ decimal at

abbrev pub with_word : List ℕ → List ℕ → List ℕ
with_word name word = name ++ (32 ∷ word)

abbrev pub with_bit : List ℕ → List ℕ → ℕ → List ℕ
with_bit name word bit = with_word (with_word name word) (decimal bit)

abbrev pub read_text : ReadFault → List ℕ
read_text (r.Bytes at) = at_byte (codes "Bytes") at
read_text (r.Number at) = at_byte (codes "Number") at
read_text (r.Outside at) = at_byte (codes "Outside") at
read_text (r.Syntax at) = at_byte (codes "Syntax") at
read_text r.Deep = codes "Deep"
read_text r.Memory = codes "Memory"

abbrev pub set_text : SetFault → List ℕ
set_text (s.Bytes at) = at_byte (codes "Bytes") at
set_text (s.Number at) = at_byte (codes "Number") at
set_text (s.Syntax at) = at_byte (codes "Syntax") at
set_text (s.Unknown name) = with_word (codes "Unknown") name
set_text (s.Twice name) = with_word (codes "Twice") name
set_text (s.Limit quantity) = with_word (codes "Limit") (word_of quantity)
set_text s.Deep = codes "Deep"
set_text s.Memory = codes "Memory"

abbrev pub flat_text : FlatFault → List ℕ
flat_text f.NoTop = codes "NoTop"
flat_text (f.Unknown n) = with_word (codes "Unknown") n
flat_text (f.Twice n) = with_word (codes "Twice") n
flat_text (f.Port n) = with_word (codes "Port") n
flat_text (f.Recursion n) = with_word (codes "Recursion") n
flat_text f.Instances = codes "Instances"
flat_text (f.Constant n) = with_word (codes "Constant") n
flat_text (f.Width n) = with_word (codes "Width") n
flat_text (f.Clock n) = with_word (codes "Clock") n
flat_text f.Memory = codes "Memory"

abbrev pub mem_text : MemFault → List ℕ
mem_text (n.Twice x) = with_word (codes "Twice") x
mem_text (n.Whole x) = with_word (codes "Whole") x
mem_text (n.Nested x) = with_word (codes "Nested") x
mem_text (n.Kind x) = with_word (codes "Kind") x
mem_text n.Uses = codes "Uses"
mem_text n.Memory = codes "Memory"

abbrev pub elab_text : ElabFault → List ℕ
elab_text (e.Latch n) = with_word (codes "Latch") n
elab_text (e.Loop n) = with_word (codes "Loop") n
elab_text (e.Drivers n bit) = with_bit (codes "Drivers") n bit
elab_text (e.Undriven n bit) = with_bit (codes "Undriven") n bit
elab_text (e.Sensitivity n) = with_word (codes "Sensitivity") n
elab_text (e.Kind n) = with_word (codes "Kind") n
elab_text e.Memory = codes "Memory"

abbrev pub module_text : ModuleFault → List ℕ
module_text m.TooLong = codes "TooLong"
module_text (m.Read fault) = read_text fault
module_text (m.Flat fault) = flat_text fault
module_text (m.Mem fault) = mem_text fault
module_text (m.Elab fault) = elab_text fault

abbrev pub bind_text : BindFault → List ℕ
bind_text (b.Missing n) = with_word (codes "Missing") n
bind_text (b.WidthOf n) = with_word (codes "WidthOf") n
bind_text (b.ExtraInput n) = with_word (codes "ExtraInput") n
bind_text (b.Role n) = with_word (codes "Role") n
bind_text b.Memory = codes "Memory"

abbrev pub name_of : Option Name → List ℕ
name_of None = []
name_of (Some n) = n.name

-- the declared name at a position
abbrev pub output_name : Set → ℕ → List ℕ
output_name set at = name_of (slice_get set.names at)

abbrev pub place_name : Set → Place → List ℕ
place_name set (p.Property at) = property_name set at
place_name set (p.Invariant at) = invariant_name set at
place_name set (p.Output at) = output_name set at

abbrev pub graph_text : Set → GraphFault → List ℕ
graph_text set (g.Tile from to output) = with_word (with_word (with_word (codes "Tile") (property_name set from)) (property_name set to)) (output_name set output)
graph_text set (g.Cover at output) = with_word (with_word (codes "Cover") (property_name set at)) (output_name set output)
graph_text set (g.Offset place) = with_word (codes "Offset") (place_name set place)
graph_text set (g.IntoReset at) = with_word (codes "IntoReset") (property_name set at)
graph_text set g.HandAtReset = codes "HandAtReset"

abbrev pub stop_text : SetStop → List ℕ
stop_text t.TooLong = with_word (codes "Limit") (codes "long")
stop_text (t.Read fault) = set_text fault
stop_text (t.Graph u) = graph_text u.set u.fault

abbrev pub fault_line : CheckFault → List ℕ
fault_line (c.Module fault) = codes "module: " ++ module_text fault
fault_line (c.Set stop) = codes "set: " ++ stop_text stop
fault_line (c.Bind fault) = codes "bind: " ++ bind_text fault
fault_line c.NoLine = codes "usage"
fault_line c.Keeper = codes "keeper"
fault_line c.Memory = codes "memory"

abbrev pub status_of : CheckFault → ℕ
status_of (c.Module fault) = 3
status_of (c.Set stop) = 4
status_of (c.Bind fault) = 5
status_of c.NoLine = 2
status_of c.Keeper = 8
status_of c.Memory = 70
