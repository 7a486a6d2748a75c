-- Each module that a text spells is plain.
use Rattle.std.proofs.Common.{◌≡◌, ℕ, ◌+◌, List, [], ◌∷◌, ◌++◌, Option, Some, None, Bool, true, false, refl, inl, inr, length, if◌then◌else◌}
use Rattle.std.specs.List.{flat_map}
use Rattle.vlog_tree.specs.declared.token.Token.{Token}
use Rattle.vlog_tree.specs.declared.item.PortKind.TheVariants as k
use Rattle.vlog_tree.specs.declared.module.HeaderParameter.{HeaderParameter}
use Rattle.vlog_tree.specs.declared.module.Module.{Module}
use Rattle.vlog_tree.specs.declared.module.Ports.{Ports}
use Rattle.vlog_tree.specs.declared.module.Ports.TheVariants as q
use Rattle.vlog_tree.specs.Signs.{IsWord}
use Rattle.vlog_tree.specs.Lists.{Maybe, Comma, AfterHash}
use Rattle.vlog_tree.specs.Modules.{SpellsItem, SpellsHeaderParameter, SpellsHeaderPort, SpellsParameters, SpellsHeader, SpellsModule}
use Rattle.vlog_tree_runs.specs.Contents.{bare, listed_params, item_params, params_in, Decl, ports_decls, item_decls, decls_in, is_among, joined, once, item_assigns, assigns_in, item_blocks, blocks_in, item_instances, instances_in}
use Rattle.elab_flat_laws.specs.Uses.{IsPresent, has_dot}
use Rattle.elab_flat_faults.specs.Texts.{decl_exprs, param_exprs, assign_exprs, block_exprs, inner_exprs, all_exprs}
use Rattle.elab_flat_faults.specs.Plain.{IsPlainText}
use Rattle.desk_core_stage_laws.specs.Names.{ReadTextsArePlain}
use Rattle.desk_core_stage_laws.proofs.Words.{word_has_no_dot}
use Rattle.desk_core_stage_laws.proofs.Elements.{Each, each_none, each_more, each_append, each_flat, each_of_list, each_of_sequence}
use Rattle.desk_core_stage_laws.proofs.Parts.{IsSimple, IsPlainDecl, IsPlainParam, IsPlainAssign, IsPlainBlock, IsPlainInner, IsPlainItem, IsPlainHeaderParameter, IsPlainHeaderPort, header_plain_params, header_plain_decls, item_read, header_parameter_read, header_port_read}

abbrev IsSimplyNamed : Decl → Type 0
IsSimplyNamed d = IsSimple d.name

-- the signals have names of their declarations
chosen : (b : Bool) (d : Decl) (rest others : List Decl) → IsSimplyNamed d → Each IsSimplyNamed rest → Each IsSimplyNamed others → Each IsSimplyNamed (if b then rest else d ∷ others)
chosen true d rest others h p q = p
chosen false d rest others h p q = each_more IsSimplyNamed d others h q

once_named : (all : List Decl) (done : List (List ℕ)) (ds : List Decl) → Each IsSimplyNamed ds → Each IsSimplyNamed (once all done ds)
once_named all done [] p = each_none IsSimplyNamed
once_named all done (d ∷ ds) p =
    chosen (is_among done d.name) (joined all d) (once all done ds) (once all (d.name ∷ done) ds) (p d (inl refl))
    (once_named all done ds (λ x m. p x (inr m))) (once_named all (d.name ∷ done) ds (λ x m. p x (inr m)))

module _ (ts : List Token) (simple : (i : ℕ) (w : List ℕ) → IsWord ts i w → has_dot w ≡ false) where
  listed_read : (i : ℕ) (x : Option (List HeaderParameter)) (j : ℕ) → Maybe (AfterHash ts (SpellsParameters ts)) i x j → Each IsPlainParam (listed_params x)
  listed_read i None j p = each_none IsPlainParam
  listed_read i (Some xs) j p =
      header_plain_params bare (each_none IsPresent) xs (each_of_list (SpellsHeaderParameter ts) IsPlainHeaderParameter (header_parameter_read ts simple) (Comma ts) (i + 1 + 1) xs p.1.0 p.1.2.1)

  ports_read : (i : ℕ) (x : Option Ports) (j : ℕ) → SpellsHeader ts i x j → Each IsPlainDecl (ports_decls x)
  ports_read i None j p = each_none IsPlainDecl
  ports_read i (Some (q.Names xs)) j p = each_none IsPlainDecl
  ports_read i (Some (q.Groups xs)) j p =
      header_plain_decls k.Input bare (each_none IsPresent) xs (each_of_list (SpellsHeaderPort ts) IsPlainHeaderPort (header_port_read ts simple) (Comma ts) (i + 1) xs p.0 p.2.1)

  module_read : (i : ℕ) (m : Module) (j : ℕ) → SpellsModule ts i m j → IsPlainText m
  module_read i m j p =
      let items : Each IsPlainItem m.items = each_of_sequence (SpellsItem ts) IsPlainItem (item_read ts simple) (p.1 + 1) m.items p.2 p.8 in
      let decls : Each IsPlainDecl (decls_in m) =
      each_append IsPlainDecl (ports_decls m.ports) (flat_map item_decls m.items) (ports_read p.0 m.ports p.1 p.6) (each_flat IsPlainDecl item_decls m.items (λ x h. (items x h).decls)) in
      let params : Each IsPlainParam (params_in m) =
      each_append IsPlainParam (listed_params m.parameters) (flat_map item_params m.items) (listed_read (i + 2) m.parameters p.0 p.5) (each_flat IsPlainParam item_params m.items (λ x h. (items x h).params)) in
      let assigns : Each IsPlainAssign (assigns_in m) = each_flat IsPlainAssign item_assigns m.items (λ x h. (items x h).assigns) in
      let blocks : Each IsPlainBlock (blocks_in m) = each_flat IsPlainBlock item_blocks m.items (λ x h. (items x h).blocks) in
      let inners : Each IsPlainInner (instances_in m) = each_flat IsPlainInner item_instances m.items (λ x h. (items x h).instances) in
      record {
        names = record {
          instances = λ x h. (inners x h).name;
          signals = once_named (decls_in m) [] (decls_in m) (λ d h. (decls d h).name);
        };
        present = exprs_read m decls params assigns blocks inners;
      }
    where
      exprs_read : (m : Module) → Each IsPlainDecl (decls_in m) → Each IsPlainParam (params_in m) → Each IsPlainAssign (assigns_in m) → Each IsPlainBlock (blocks_in m) →
          Each IsPlainInner (instances_in m) → Each IsPresent (all_exprs m)
      exprs_read m decls params assigns blocks inners =
          let ds = flat_map decl_exprs (decls_in m) in
          let ps = flat_map param_exprs (params_in m) in
          let as' = flat_map assign_exprs (assigns_in m) in
          let bs = flat_map block_exprs (blocks_in m) in
          let is = flat_map inner_exprs (instances_in m) in
          each_append IsPresent (ds ++ ps ++ as' ++ bs) is
          (each_append IsPresent (ds ++ ps ++ as') bs
          (each_append IsPresent (ds ++ ps) as'
          (each_append IsPresent ds ps (each_flat IsPresent decl_exprs (decls_in m) (λ d h. (decls d h).exprs)) (each_flat IsPresent param_exprs (params_in m) params))
          (each_flat IsPresent assign_exprs (assigns_in m) assigns))
          (each_flat IsPresent block_exprs (blocks_in m) blocks))
          (each_flat IsPresent inner_exprs (instances_in m) (λ x h. (inners x h).exprs))

pub texts_plain : ReadTextsArePlain
texts_plain text ms p =
    let ts : List Token = p.0 in
    each_of_sequence (SpellsModule ts) IsPlainText (module_read ts (word_has_no_dot text 0 (length text) ts p.1)) 0 ms (length ts) p.2.1
