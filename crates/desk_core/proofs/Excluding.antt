-- A text that spells modules, or a set, isn't refused.
use Rattle.std.proofs.Common.{◌≡◌, ℕ, ◌<◌, ◌≤◌, List, false, refl, subst, arith}
use Rattle.vlog_tree.specs.declared.module.Module.{Module}
use Rattle.vlog_tree.specs.declared.token.Token.{Token}
use Rattle.vlog_tree.specs.Modules.{SpellsFile, file_height}
use Rattle.vlog_read_lex.specs.declared.error.ReadFault.{ReadFault}
use Rattle.vlog_read_lex.specs.declared.error.ReadFault.TheVariants as r
use Rattle.vlog_read_lex.specs.Tokens.{Lexes}
use Rattle.vlog_read_lex.proofs.LawLemmas.{one_list, spells_or_faults}
use Rattle.vlog_read.specs.Texts.{RefusesText}
use Rattle.set_tree.specs.declared.set.Set.{Set}
use Rattle.set_tree_structure.proofs.Exact.{none_stands}
use Rattle.set_tree_structure.specs.Faults.{IsFirst}
use Rattle.set_read.specs.declared.fault.SetFault.{SetFault}
use Rattle.set_read.specs.declared.fault.SetFault.TheVariants as s
use Rattle.set_read.specs.Read.{Refuses as RefusesSetText}
use Rattle.set_read_laws.proofs.Texts.{means_one_set, spells_or_refused}
use Rattle.desk_core_faults.specs.declared.fault.CheckFault.{CheckFault}
use Rattle.desk_core_faults.specs.declared.fault.CheckFault.TheVariants as f
use Rattle.desk_core_faults.specs.declared.fault.ModuleFault.TheVariants as m
use Rattle.desk_core_faults.specs.declared.fault.SetStop.TheVariants as t
use Rattle.desk_core_stages.specs.Texts.{RefusesModules, RefusesSet, SpellsSomeModules, SpellsSomeSet}
use Rattle.desk_core.specs.Steps.{IsRefusedBy, TellsFault}

module _ (text : List ℕ) (spelt : SpellsSomeModules text) where
  abbrev modules : List Module
  modules = spelt.0

  -- the tokens of the text spell its modules
  of_tokens : (us : List Token) → Lexes false text us → SpellsFile us modules
  of_tokens us lexed = subst (λ (z : List Token). SpellsFile z modules) (one_list false text spelt.1.spelt.0 us spelt.1.spelt.1 lexed) spelt.1.spelt.2

  not_unread : (fault : ReadFault) → RefusesText text fault → (fault ≡ r.Memory → ⊥) → ⊥
  not_unread (r.Bytes at) h known = spells_or_faults false text spelt.1.spelt.0 (r.Bytes at) spelt.1.spelt.1 tt h
  not_unread (r.Number at) h known = spells_or_faults false text spelt.1.spelt.0 (r.Number at) spelt.1.spelt.1 tt h
  not_unread (r.Outside at) h known = spells_or_faults false text spelt.1.spelt.0 (r.Outside at) spelt.1.spelt.1 tt h
  not_unread (r.Syntax at) h known = h.2 modules (of_tokens h.0 h.1)
  not_unread r.Deep h known =
      let high : 500 < file_height modules = h.2.higher modules (of_tokens h.0 h.1) in
      let low : file_height modules ≤ 500 = spelt.1.low in
      omega (arith, high, low)
  not_unread r.Memory h known = known refl

  modules_apart : (fault : CheckFault) (line : List ℕ) → RefusesModules text fault → TellsFault fault line → ⊥
  modules_apart (f.Module m.TooLong) line h told = let short = spelt.1.short in omega (arith, short, h)
  modules_apart (f.Module (m.Read fault)) line h told = not_unread fault h.1 h.2
  modules_apart (f.Module (m.Flat fault)) line h told = h
  modules_apart (f.Module (m.Mem fault)) line h told = h
  modules_apart (f.Module (m.Elab fault)) line h told = h
  modules_apart (f.Set stop) line h told = h
  modules_apart (f.Bind fault) line h told = h
  modules_apart f.NoLine line h told = h
  modules_apart f.Keeper line h told = h
  modules_apart f.Memory line h told = told

  pub modules_not_refused : (line : List ℕ) → IsRefusedBy (RefusesModules text) line → ⊥
  modules_not_refused line h = modules_apart h.0 line h.1 h.2

module _ (text : List ℕ) (spelt : SpellsSomeSet text) where
  set_not_unread : (fault : SetFault) → RefusesSetText text fault → (fault ≡ s.Memory → ⊥) → ⊥
  set_not_unread (s.Bytes at) h known = spells_or_refused text spelt.0 (s.Bytes at) spelt.1.spelt tt h
  set_not_unread (s.Number at) h known = spells_or_refused text spelt.0 (s.Number at) spelt.1.spelt tt h
  set_not_unread (s.Syntax at) h known = spells_or_refused text spelt.0 (s.Syntax at) spelt.1.spelt tt h
  set_not_unread s.Deep h known = spells_or_refused text spelt.0 s.Deep spelt.1.spelt tt h
  set_not_unread (s.Unknown n) h known = spells_or_refused text spelt.0 (s.Unknown n) spelt.1.spelt tt h
  set_not_unread (s.Twice n) h known = spells_or_refused text spelt.0 (s.Twice n) spelt.1.spelt tt h
  set_not_unread (s.Limit quantity) h known = spells_or_refused text spelt.0 (s.Limit quantity) spelt.1.spelt tt h
  set_not_unread s.Memory h known = known refl

  set_apart : (fault : CheckFault) (line : List ℕ) → RefusesSet text fault → TellsFault fault line → ⊥
  set_apart (f.Set t.TooLong) line h told = let short = spelt.1.short in omega (arith, short, h)
  set_apart (f.Set (t.Read fault)) line h told = set_not_unread fault h.1 h.2
  set_apart (f.Set (t.Graph u)) line h told =
      let same = means_one_set text u.set spelt.0 h.1 spelt.1.spelt in
      let first = subst (λ (z : Set). IsFirst z u.fault) same h.2 in
      none_stands spelt.0 spelt.1.sound u.fault first.stands
  set_apart (f.Module fault) line h told = h
  set_apart (f.Bind fault) line h told = h
  set_apart f.NoLine line h told = h
  set_apart f.Keeper line h told = h
  set_apart f.Memory line h told = told

  pub set_not_refused : (line : List ℕ) → IsRefusedBy (RefusesSet text) line → ⊥
  set_not_refused line h = set_apart h.0 line h.1 h.2
