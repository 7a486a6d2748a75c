use Rattle.std.proofs.Common.{◌≡◌, sym, ◌∙◌, subst, refl}
use Rattle.std.specs.Prelude.{IfSome}
use Rattle.std.proofs.lemmas.Result.{IfOk-weaker}
use Rattle.elab_flat_drivers.proofs.Kinding.{some_at, none_is}
use Rattle.mem_faults.specs.Faults.{IsFirstFault}
use Rattle.mem_faults.proofs.Faulty.{first_twice, first_whole, first_nested, first_kind, first_uses, faultless, tells_whole, lacks_whole, tells_nested, lacks_nested, tells_kind, lacks_kind, tells_uses, lacks_uses}
use Rattle.mem_faults.proofs.faults.fault_of.Goals as goal

pub declared_twice-requires : goal.declared_twice-requires
declared_twice-requires c = c.requires.wide

pub wrongly_kept-requires : goal.wrongly_kept-requires
wrongly_kept-requires c = c.in_ok-survey.ensures.memories

pub returns-in-Some-clause-some : goal.returns-in-Some-clause-some
returns-in-Some-clause-some c = first_twice c.args.flat.now c.in-Some.name (some_at c.in_ok-name.field-0 _ c.in-Some.name c.in_ok-name.ensures.some c.in-Some.is)

pub returns-in-Some-2-clause-some : goal.returns-in-Some-2-clause-some
returns-in-Some-2-clause-some c =
    let f = c.args.flat.now in
    let s = c.in_ok-survey.ensures in
    let x = c.in-Some-2.name.now in
    let a = none_is c.in_ok-name.field-0 _ c.in_default.not-Some c.in_ok-name.ensures.none in
    let b = tells_whole f _ _ s.memories s.uses _ x c.as_slice.ensures (some_at c.in_ok-name-2.field-0 _ c.in-Some-2.name c.in_ok-name-2.ensures.some c.in-Some-2.is) in
    IfOk-weaker c.whole_fault.result _ _ (λ o h. subst (λ z. IfSome z (IsFirstFault f)) (sym h) (first_whole f x a b)) c.whole_fault.ensures

pub returns-in-Some-3-clause-some : goal.returns-in-Some-3-clause-some
returns-in-Some-3-clause-some c =
    let f = c.args.flat.now in
    let s = c.in_ok-survey.ensures in
    let x = c.in-Some-3.name.now in
    let a = none_is c.in_ok-name.field-0 _ c.in_default.not-Some c.in_ok-name.ensures.none in
    let b = lacks_whole f _ _ s.memories s.uses _ c.as_slice.ensures (none_is c.in_ok-name-2.field-0 _ c.in_default-2.not-Some c.in_ok-name-2.ensures.none) in
    let d = tells_nested f _ _ s.memories s.uses x (some_at c.in_ok-name-3.field-0 _ c.in-Some-3.name c.in_ok-name-3.ensures.some c.in-Some-3.is) in
    IfOk-weaker c.nested_fault.result _ _ (λ o h. subst (λ z. IfSome z (IsFirstFault f)) (sym h) (first_nested f x a b d)) c.nested_fault.ensures

pub returns-in-Some-4-clause-some : goal.returns-in-Some-4-clause-some
returns-in-Some-4-clause-some c =
    let f = c.args.flat.now in
    let s = c.in_ok-survey.ensures in
    let x = c.in-Some-4.name.now in
    let a = none_is c.in_ok-name.field-0 _ c.in_default.not-Some c.in_ok-name.ensures.none in
    let b = lacks_whole f _ _ s.memories s.uses _ c.as_slice.ensures (none_is c.in_ok-name-2.field-0 _ c.in_default-2.not-Some c.in_ok-name-2.ensures.none) in
    let d = lacks_nested f _ _ s.memories s.uses (none_is c.in_ok-name-3.field-0 _ c.in_default-3.not-Some c.in_ok-name-3.ensures.none) in
    let k = tells_kind f _ _ s.memories s.uses x (some_at c.in_ok-name-4.field-0 _ c.in-Some-4.name c.in_ok-name-4.ensures.some c.in-Some-4.is) in
    IfOk-weaker c.kind_fault.result _ _ (λ o h. subst (λ z. IfSome z (IsFirstFault f)) (sym h) (first_kind f x a b d k)) c.kind_fault.ensures

pub returns-then-indexed-gt1024-clause-some : goal.returns-then-indexed-gt1024-clause-some
returns-then-indexed-gt1024-clause-some c =
    let f = c.args.flat.now in
    let s = c.in_ok-survey.ensures in
    let a = none_is c.in_ok-name.field-0 _ c.in_default.not-Some c.in_ok-name.ensures.none in
    let b = lacks_whole f _ _ s.memories s.uses _ c.as_slice.ensures (none_is c.in_ok-name-2.field-0 _ c.in_default-2.not-Some c.in_ok-name-2.ensures.none) in
    let d = lacks_nested f _ _ s.memories s.uses (none_is c.in_ok-name-3.field-0 _ c.in_default-3.not-Some c.in_ok-name-3.ensures.none) in
    let k = lacks_kind f _ _ s.memories s.uses (none_is c.in_ok-name-4.field-0 _ c.in_default-4.not-Some c.in_ok-name-4.ensures.none) in
    first_uses f a b d k (tells_uses f _ _ s.memories s.uses _ c.indexed.ensures c.if-indexed-gt1024.true)

pub returns-clause-none : goal.returns-clause-none
returns-clause-none c =
    let f = c.args.flat.now in
    let s = c.in_ok-survey.ensures in
    let a = none_is c.in_ok-name.field-0 _ c.in_default.not-Some c.in_ok-name.ensures.none in
    let b = lacks_whole f _ _ s.memories s.uses _ c.as_slice.ensures (none_is c.in_ok-name-2.field-0 _ c.in_default-2.not-Some c.in_ok-name-2.ensures.none) in
    let d = lacks_nested f _ _ s.memories s.uses (none_is c.in_ok-name-3.field-0 _ c.in_default-3.not-Some c.in_ok-name-3.ensures.none) in
    let k = lacks_kind f _ _ s.memories s.uses (none_is c.in_ok-name-4.field-0 _ c.in_default-4.not-Some c.in_ok-name-4.ensures.none) in
    faultless f a b d k (lacks_uses f _ _ s.memories s.uses _ c.indexed.ensures c.if-indexed-gt1024.false)
