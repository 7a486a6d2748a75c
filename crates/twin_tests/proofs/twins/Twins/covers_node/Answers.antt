use Rattle.std.proofs.Common.{◌≡◌, ◌+◌, ◌-◌, ◌<◌, ◌≤◌, List, length, take, drop, get_or, not, refl, ap, ◌∙◌, arith}
use Rattle.std.specs.List.{Contains, list_any}
use Rattle.twin_tests_laws.specs.Tests.{any_from, determined}
use Rattle.set_tree.specs.declared.set.Cover.{Cover}
use Rattle.set_tree.specs.declared.set.Property.{Property}
use Rattle.set_tree.specs.declared.set.To.TheVariants.{At}
use Rattle.set_tree.specs.Formulas.{meaning_of}
use Rattle.set_tree.specs.Parts.{cover_end, property_at}
use Rattle.twin_tests.proofs.Handing.{cover_begins, cover_fits, get_again, member, output_there}
use Rattle.twin_tests.proofs.Loops.{Pair, ShowBoth, or_step, builds_start, builds_end, some_more, some_taken, same_test}
use Rattle.twin_tests.proofs.Standing.{has_later, leaves_later, shows_later}
use Rattle.twin_tests.proofs.twins.Twins.covers_node.Goals as goal

pub loop-cover-init : goal.loop-cover-init
loop-cover-init c =
    let set = c.args.self.now.set.now in
    let p = λ (r : Pair) (cover : Cover). any_from cover.from (cover_end cover.to c.args.n - cover.from) (λ t. not (determined (meaning_of set) set cover.output (drop t r.0) (drop t r.1))) in
    builds_start (ShowBoth set.names c.args.dag.now c.args.pair.first.now c.args.pair.second.now) c.args.dag.now c.constant.new.dag c.in_ok-any.any _ (λ (r : Pair). list_any (p r) (take 0 c.as_slice-cover-items.result.now)) (λ (r : Pair). refl) c.in_ok-any.ensures.keeps c.in_ok-any.ensures.node

pub apart_node-requires-clause-output : goal.apart_node-requires-clause-output
apart_node-requires-clause-output c =
    let set = c.args.self.now.set.now in
    let i = c.loop-cover.cover-index in
    let items = c.as_slice-cover-items.result.now in
    let x : Cover = get_or items i (record { output = 0; from = 0; to = At 0 }) in
    let lt : i < length items = omega arith in
    let listed : items ≡ (property_at set c.args.at).covers = c.as_slice-cover-items.ensures ∙ ap (λ (y : Property). y.covers) c.property_of.ensures in
    let there : Contains (property_at set c.args.at).covers x = member (property_at set c.args.at).covers items i x listed (get_again items i (record { output = 0; from = 0; to = At 0 }) lt) lt in
    output_there set c.args.at x c.requires.structure c.requires.first.0 there

pub apart_node-requires-clause-order : goal.apart_node-requires-clause-order
apart_node-requires-clause-order c =
    let set = c.args.self.now.set.now in
    let i = c.loop-cover.cover-index in
    let items = c.as_slice-cover-items.result.now in
    let x : Cover = get_or items i (record { output = 0; from = 0; to = At 0 }) in
    let lt : i < length items = omega arith in
    let listed : items ≡ (property_at set c.args.at).covers = c.as_slice-cover-items.ensures ∙ ap (λ (y : Property). y.covers) c.property_of.ensures in
    let there : Contains (property_at set c.args.at).covers x = member (property_at set c.args.at).covers items i x listed (get_again items i (record { output = 0; from = 0; to = At 0 }) lt) lt in
    let begins = cover_begins set c.args.at c.args.n x c.requires.structure c.requires.first.0 there c.requires.least in
    omega (arith, begins, c.cover_end.ensures)

pub apart_node-requires-clause-first : goal.apart_node-requires-clause-first
apart_node-requires-clause-first c =
    let set = c.args.self.now.set.now in
    let i = c.loop-cover.cover-index in
    let items = c.as_slice-cover-items.result.now in
    let x : Cover = get_or items i (record { output = 0; from = 0; to = At 0 }) in
    let lt : i < length items = omega arith in
    let listed : items ≡ (property_at set c.args.at).covers = c.as_slice-cover-items.ensures ∙ ap (λ (y : Property). y.covers) c.property_of.ensures in
    let there : Contains (property_at set c.args.at).covers x = member (property_at set c.args.at).covers items i x listed (get_again items i (record { output = 0; from = 0; to = At 0 }) lt) lt in
    let fits = cover_fits set c.args.at c.args.n (length c.args.pair.first.now) x c.requires.structure c.requires.first.0 there c.requires.most c.requires.first.1 in
    omega (arith, fits, c.cover_end.ensures)

pub apart_node-requires-clause-second : goal.apart_node-requires-clause-second
apart_node-requires-clause-second c =
    let set = c.args.self.now.set.now in
    let i = c.loop-cover.cover-index in
    let items = c.as_slice-cover-items.result.now in
    let x : Cover = get_or items i (record { output = 0; from = 0; to = At 0 }) in
    let lt : i < length items = omega arith in
    let listed : items ≡ (property_at set c.args.at).covers = c.as_slice-cover-items.ensures ∙ ap (λ (y : Property). y.covers) c.property_of.ensures in
    let there : Contains (property_at set c.args.at).covers x = member (property_at set c.args.at).covers items i x listed (get_again items i (record { output = 0; from = 0; to = At 0 }) lt) lt in
    let fits = cover_fits set c.args.at c.args.n (length c.args.pair.second.now) x c.requires.structure c.requires.first.0 there c.requires.most c.requires.second.1 in
    omega (arith, fits, c.cover_end.ensures)

pub apart_node-requires-clause-first_leaves : goal.apart_node-requires-clause-first_leaves
apart_node-requires-clause-first_leaves c = leaves_later c.args.dag.now c.loop-cover.dag c.args.self.now.set.now.names c.args.pair.first.now c.loop-cover.invariant.keeps c.requires.first_leaves

pub apart_node-requires-clause-second_leaves : goal.apart_node-requires-clause-second_leaves
apart_node-requires-clause-second_leaves c = leaves_later c.args.dag.now c.loop-cover.dag c.args.self.now.set.now.names c.args.pair.second.now c.loop-cover.invariant.keeps c.requires.second_leaves

pub either-requires-clause-first : goal.either-requires-clause-first
either-requires-clause-first c = has_later c.loop-cover.dag c.apart_node.new.dag c.loop-cover.any 1 c.in_ok-one.ensures.keeps c.loop-cover.invariant.width

pub loop-cover-preserved : goal.loop-cover-preserved
loop-cover-preserved c =
    let set = c.args.self.now.set.now in
    let i = c.loop-cover.cover-index in
    let items = c.as_slice-cover-items.result.now in
    let x : Cover = get_or items i (record { output = 0; from = 0; to = At 0 }) in
    let lt : i < length items = omega arith in
    let xs = c.args.pair.first.now in
    let ys = c.args.pair.second.now in
    let start = c.args.dag.now in
    let d = c.loop-cover.dag in
    let n = c.args.n in
    let p = λ (r : Pair) (cover : Cover). any_from cover.from (cover_end cover.to n - cover.from) (λ t. not (determined (meaning_of set) set cover.output (drop t r.0) (drop t r.1))) in
    or_step (ShowBoth set.names start xs ys) start d c.apart_node.new.dag c.either.new.dag c.loop-cover.any c.in_ok-one.one c.in_ok-any-2.any
    (λ (r : Pair). list_any (p r) (take i items)) (λ (r : Pair). p r x) (λ (r : Pair). list_any (p r) (take (i + 1) items)) (λ (r : Pair). some_more (p r) items i x (get_again items i (record { output = 0; from = 0; to = At 0 }) lt) lt) c.loop-cover.invariant c.in_ok-one.ensures.keeps c.in_ok-any-2.ensures.keeps c.in_ok-any-2.ensures.width
    (λ f shows. same_test c.apart_node.new.dag c.in_ok-one.one (λ e. any_from x.from (c.cover_end.result - x.from) (λ t. not (determined (meaning_of set) set x.output (drop t (f e).0) (drop t (f e).1)))) (λ e. p (f e) x)
    (λ e. ap (λ k. any_from x.from (k - x.from) (λ t. not (determined (meaning_of set) set x.output (drop t (f e).0) (drop t (f e).1)))) c.cover_end.ensures)
    (c.in_ok-one.ensures.node (λ e. (f e).0) (λ e. (f e).1) (shows_later start d set.names xs (λ e. (f e).0) c.loop-cover.invariant.keeps shows.0) (shows_later start d set.names ys (λ e. (f e).1) c.loop-cover.invariant.keeps shows.1))) c.in_ok-any-2.ensures.node

pub returns-clause-node : goal.returns-clause-node
returns-clause-node c = λ f g first second.
    let set = c.args.self.now.set.now in
    let i = c.loop-cover.cover-index in
    let items = c.as_slice-cover-items.result.now in
    let le : length items ≤ i = omega arith in
    let p = λ (r : Pair) (cover : Cover). any_from cover.from (cover_end cover.to c.args.n - cover.from) (λ t. not (determined (meaning_of set) set cover.output (drop t r.0) (drop t r.1))) in
    let listed : items ≡ (property_at set c.args.at).covers = c.as_slice-cover-items.ensures ∙ ap (λ (y : Property). y.covers) c.property_of.ensures in
    builds_end (ShowBoth set.names c.args.dag.now c.args.pair.first.now c.args.pair.second.now) c.args.dag.now c.loop-cover.dag c.loop-cover.any (λ (r : Pair). list_any (p r) (take i items)) (λ (r : Pair). list_any (p r) (property_at set c.args.at).covers)
    (λ (r : Pair). some_taken (p r) items i le ∙ ap (λ (z : List Cover). list_any (p r) z) listed) c.loop-cover.invariant (λ e. (f e, g e)) (first, second)
