-- The ports of a header, as its declarations have them.
use Rattle.std.proofs.Common.{◌≡◌, Bool, List, map, filter, ap, ◌∙◌}
use Rattle.vlog_tree_runs.specs.Places.{Name}
use Rattle.vlog_tree_runs.specs.Contents.{Decl, declares, is_among}
use Rattle.elab_flat_scopes.specs.Finding.{decl_name}
use Rattle.elab_flat_scopes.proofs.Joining.{declared_among}
use Rattle.elab_flat_faults.specs.Handed.{top_port}

abbrev is_output : Decl → Bool
is_output d = d.output

-- a port is an output where its name is among those of the declarations of outputs
pub port_is : (ds : List Decl) (x name : Name) (outputs : List Name) (output : Bool) → name ≡ x → outputs ≡ map decl_name (filter (λ (d : Decl). d.output) ds) → output ≡ is_among outputs x →
    record { name = name; output = output } ≡ top_port ds x
port_is ds x name outputs output same are out =
    let has : output ≡ declares ds is_output x = out ∙ (ap (λ ns. is_among ns x) are ∙ declared_among is_output ds x) in
    λ i. record { name = same i; output = has i }
