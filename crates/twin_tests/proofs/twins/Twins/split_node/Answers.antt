use Rattle.std.proofs.Common.{◌≡◌, ◌<◌, ◌≤◌, Bool, not, List, ℕ, drop, length, refl, sym, ap, ◌∙◌, subst, arith}
use Rattle.std.specs.Prelude.{◌&&◌}
use Rattle.std.specs.List.{All, list_any}
use Rattle.std.proofs.lemmas.Result.{IfOk-weaker}
use Rattle.twin_tests_laws.specs.Lines.{split_end}
use Rattle.twin_tests_laws.specs.Tests.{ends_at, opens}
use Rattle.twin_tests_laws.specs.Windows.{named_rows}
use Rattle.set_tree.specs.declared.set.Property.{Property}
use Rattle.set_tree.specs.Formulas.{meaning_of}
use Rattle.set_tree.specs.Lines.{last_row}
use Rattle.set_tree.specs.Parts.{IsPosition, assumed, property_at, window_of}
use Rattle.word_dag.specs.Nodes.{Naming}
use Rattle.twin_tests.specs.Building.{Tests}
use Rattle.twin_tests.specs.Reading.{FollowsWithin}
use Rattle.twin_tests.proofs.Framed.{after_shows, end_of_property, first_shows, follows_to, frames_later, next_positions, split_reach, taken_long}
use Rattle.twin_tests.proofs.Readings.{split_follow, split_window}
use Rattle.elab_step_expr.proofs.Kept.{keeps_then}
use Rattle.twin_tests.proofs.Standing.{has_later, tests_later}
use Rattle.twin_tests.proofs.twins.Twins.split_node.Goals as goal

pub last_row-end-requires-clause-positions : goal.last_row-end-requires-clause-positions
last_row-end-requires-clause-positions c =
    let set = c.args.self.now.set.now in
    let next_is : c.as_slice-next.result.now ≡ (property_at set c.args.p).next = c.as_slice-next.ensures ∙ ap (λ (y : Property). y.next) c.property_of-property.ensures in
    subst (λ (qs : List ℕ). All (IsPosition set) qs) (sym next_is) (next_positions set c.args.p c.requires.structure c.requires.position)

pub rows_to-rows-requires : goal.rows_to-rows-requires
rows_to-rows-requires c =
    let set = c.args.self.now.set.now in
    let p = c.args.p in
    let n = c.args.n in
    let frames = c.args.self.now.frames in
    let end = c.last_row-end.result in
    let next_is : c.as_slice-next.result.now ≡ (property_at set p).next = c.as_slice-next.ensures ∙ ap (λ (y : Property). y.next) c.property_of-property.ensures in
    let end_is : end ≡ split_end set p n = c.last_row-end.ensures ∙ (ap (λ (qs : List ℕ). last_row set c.property_of-property.result.now.window n qs) next_is ∙ ap (λ (y : Property). last_row set y.window n (property_at set p).next) c.property_of-property.ensures) in
    let reach = split_reach set p n (length frames.first.rows.items) c.requires.structure c.requires.position c.requires.most (λ q there. c.requires.frames.first_reach p q c.requires.position there) in
    let lt : end < length frames.first.rows.items = omega (arith, end_is, reach) in
    let own = split_window set p n in
    let wide : window_of set p ≤ end = omega (arith, end_is, own) in
    lt

pub opens_node-requires-clause-reach : goal.opens_node-requires-clause-reach
opens_node-requires-clause-reach c =
    let set = c.args.self.now.set.now in
    let p = c.args.p in
    let n = c.args.n in
    let frames = c.args.self.now.frames in
    let end = c.last_row-end.result in
    let next_is : c.as_slice-next.result.now ≡ (property_at set p).next = c.as_slice-next.ensures ∙ ap (λ (y : Property). y.next) c.property_of-property.ensures in
    let end_is : end ≡ split_end set p n = c.last_row-end.ensures ∙ (ap (λ (qs : List ℕ). last_row set c.property_of-property.result.now.window n qs) next_is ∙ ap (λ (y : Property). last_row set y.window n (property_at set p).next) c.property_of-property.ensures) in
    let reach = split_reach set p n (length frames.first.rows.items) c.requires.structure c.requires.position c.requires.most (λ q there. c.requires.frames.first_reach p q c.requires.position there) in
    let lt : end < length frames.first.rows.items = omega (arith, end_is, reach) in
    let own = split_window set p n in
    let wide : window_of set p ≤ end = omega (arith, end_is, own) in
    wide

pub opens_node-requires-clause-within : goal.opens_node-requires-clause-within
opens_node-requires-clause-within c =
    let set = c.args.self.now.set.now in
    let p = c.args.p in
    let n = c.args.n in
    let frames = c.args.self.now.frames in
    let end = c.last_row-end.result in
    let next_is : c.as_slice-next.result.now ≡ (property_at set p).next = c.as_slice-next.ensures ∙ ap (λ (y : Property). y.next) c.property_of-property.ensures in
    let end_is : end ≡ split_end set p n = c.last_row-end.ensures ∙ (ap (λ (qs : List ℕ). last_row set c.property_of-property.result.now.window n qs) next_is ∙ ap (λ (y : Property). last_row set y.window n (property_at set p).next) c.property_of-property.ensures) in
    let reach = split_reach set p n (length frames.first.rows.items) c.requires.structure c.requires.position c.requires.most (λ q there. c.requires.frames.first_reach p q c.requires.position there) in
    let lt : end < length frames.first.rows.items = omega (arith, end_is, reach) in
    let own = split_window set p n in
    let wide : window_of set p ≤ end = omega (arith, end_is, own) in
    lt

pub ends_node-requires-clause-follows : goal.ends_node-requires-clause-follows
ends_node-requires-clause-follows c =
    let set = c.args.self.now.set.now in
    let p = c.args.p in
    let n = c.args.n in
    let frames = c.args.self.now.frames in
    let end = c.last_row-end.result in
    let next_is : c.as_slice-next.result.now ≡ (property_at set p).next = c.as_slice-next.ensures ∙ ap (λ (y : Property). y.next) c.property_of-property.ensures in
    let end_is : end ≡ split_end set p n = c.last_row-end.ensures ∙ (ap (λ (qs : List ℕ). last_row set c.property_of-property.result.now.window n qs) next_is ∙ ap (λ (y : Property). last_row set y.window n (property_at set p).next) c.property_of-property.ensures) in
    let reach = split_reach set p n (length frames.first.rows.items) c.requires.structure c.requires.position c.requires.most (λ q there. c.requires.frames.first_reach p q c.requires.position there) in
    let lt : end < length frames.first.rows.items = omega (arith, end_is, reach) in
    let own = split_window set p n in
    let wide : window_of set p ≤ end = omega (arith, end_is, own) in
    follows_to set p end frames.first.rows.items c.rows_to-rows.result.now c.requires.position wide c.rows_to-rows.ensures lt

pub ends_node-requires-clause-leaves : goal.ends_node-requires-clause-leaves
ends_node-requires-clause-leaves c =
    let set = c.args.self.now.set.now in
    let p = c.args.p in
    let n = c.args.n in
    let frames = c.args.self.now.frames in
    let end = c.last_row-end.result in
    let next_is : c.as_slice-next.result.now ≡ (property_at set p).next = c.as_slice-next.ensures ∙ ap (λ (y : Property). y.next) c.property_of-property.ensures in
    let end_is : end ≡ split_end set p n = c.last_row-end.ensures ∙ (ap (λ (qs : List ℕ). last_row set c.property_of-property.result.now.window n qs) next_is ∙ ap (λ (y : Property). last_row set y.window n (property_at set p).next) c.property_of-property.ensures) in
    let reach = split_reach set p n (length frames.first.rows.items) c.requires.structure c.requires.position c.requires.most (λ q there. c.requires.frames.first_reach p q c.requires.position there) in
    let lt : end < length frames.first.rows.items = omega (arith, end_is, reach) in
    let own = split_window set p n in
    let wide : window_of set p ≤ end = omega (arith, end_is, own) in
    let d0 = c.args.dag.now in
    let d1 = c.opens_node.new.dag in
    let k1 = c.in_ok-opens.ensures.keeps in
    (first_shows set d1 frames end end c.rows_to-rows.result.now c.rows_to-rows.ensures refl lt (frames_later d0 d1 set frames k1 c.requires.frames)).leaves

pub rows_after-requires : goal.rows_after-requires
rows_after-requires c =
    let set = c.args.self.now.set.now in
    let p = c.args.p in
    let n = c.args.n in
    let frames = c.args.self.now.frames in
    let end = c.last_row-end.result in
    let next_is : c.as_slice-next.result.now ≡ (property_at set p).next = c.as_slice-next.ensures ∙ ap (λ (y : Property). y.next) c.property_of-property.ensures in
    let end_is : end ≡ split_end set p n = c.last_row-end.ensures ∙ (ap (λ (qs : List ℕ). last_row set c.property_of-property.result.now.window n qs) next_is ∙ ap (λ (y : Property). last_row set y.window n (property_at set p).next) c.property_of-property.ensures) in
    let reach = split_reach set p n (length frames.first.rows.items) c.requires.structure c.requires.position c.requires.most (λ q there. c.requires.frames.first_reach p q c.requires.position there) in
    let lt : end < length frames.first.rows.items = omega (arith, end_is, reach) in
    let own = split_window set p n in
    let wide : window_of set p ≤ end = omega (arith, end_is, own) in
    let long = taken_long frames.first.rows.items c.rows_to-rows.result.now end c.rows_to-rows.ensures lt in
    let le = end_of_property set p n c.requires.structure c.requires.position c.requires.most in
    omega (arith, long, le, wide)

pub any_assumed_node-requires-clause-follow : goal.any_assumed_node-requires-clause-follow
any_assumed_node-requires-clause-follow c =
    let set = c.args.self.now.set.now in
    let p = c.args.p in
    let n = c.args.n in
    let frames = c.args.self.now.frames in
    let end = c.last_row-end.result in
    let next_is : c.as_slice-next.result.now ≡ (property_at set p).next = c.as_slice-next.ensures ∙ ap (λ (y : Property). y.next) c.property_of-property.ensures in
    let end_is : end ≡ split_end set p n = c.last_row-end.ensures ∙ (ap (λ (qs : List ℕ). last_row set c.property_of-property.result.now.window n qs) next_is ∙ ap (λ (y : Property). last_row set y.window n (property_at set p).next) c.property_of-property.ensures) in
    let reach = split_reach set p n (length frames.first.rows.items) c.requires.structure c.requires.position c.requires.most (λ q there. c.requires.frames.first_reach p q c.requires.position there) in
    let lt : end < length frames.first.rows.items = omega (arith, end_is, reach) in
    let own = split_window set p n in
    let wide : window_of set p ≤ end = omega (arith, end_is, own) in
    let long = taken_long frames.first.rows.items c.rows_to-rows.result.now end c.rows_to-rows.ensures lt in
    let fits : split_end set p n < length c.rows_to-rows.result.now = omega (arith, long, end_is) in
    subst (λ (qs : List ℕ). All (FollowsWithin set (length c.rows_after.result.now)) qs) (sym next_is) (split_follow set p n c.rows_to-rows.result.now c.rows_after.result.now c.requires.structure c.requires.position c.rows_after.ensures fits)

pub any_assumed_node-requires-clause-leaves : goal.any_assumed_node-requires-clause-leaves
any_assumed_node-requires-clause-leaves c =
    let set = c.args.self.now.set.now in
    let p = c.args.p in
    let n = c.args.n in
    let frames = c.args.self.now.frames in
    let end = c.last_row-end.result in
    let next_is : c.as_slice-next.result.now ≡ (property_at set p).next = c.as_slice-next.ensures ∙ ap (λ (y : Property). y.next) c.property_of-property.ensures in
    let end_is : end ≡ split_end set p n = c.last_row-end.ensures ∙ (ap (λ (qs : List ℕ). last_row set c.property_of-property.result.now.window n qs) next_is ∙ ap (λ (y : Property). last_row set y.window n (property_at set p).next) c.property_of-property.ensures) in
    let reach = split_reach set p n (length frames.first.rows.items) c.requires.structure c.requires.position c.requires.most (λ q there. c.requires.frames.first_reach p q c.requires.position there) in
    let lt : end < length frames.first.rows.items = omega (arith, end_is, reach) in
    let own = split_window set p n in
    let wide : window_of set p ≤ end = omega (arith, end_is, own) in
    let d0 = c.args.dag.now in
    let d1 = c.opens_node.new.dag in
    let k1 = c.in_ok-opens.ensures.keeps in
    let d2 = c.ends_node.new.dag in
    let k2 = keeps_then d0 d1 d2 k1 c.in_ok-ends.ensures.keeps in
    let d3 = c.both.new.dag in
    let k3 = keeps_then d0 d2 d3 k2 c.in_ok-ended.ensures.keeps in
    (after_shows set.names d3 c.rows_to-rows.result.now c.rows_after.result.now n (λ e. named_rows set e 0 end) c.rows_after.ensures (first_shows set d3 frames end end c.rows_to-rows.result.now c.rows_to-rows.ensures refl lt (frames_later d0 d3 set frames k3 c.requires.frames))).leaves

pub both-requires-clause-first : goal.both-requires-clause-first
both-requires-clause-first c = has_later c.opens_node.new.dag c.ends_node.new.dag c.in_ok-opens.opens 1 c.in_ok-ends.ensures.keeps c.in_ok-opens.ensures.width

pub both-requires-2-clause-first : goal.both-requires-2-clause-first
both-requires-2-clause-first c = has_later c.both.new.dag c.negated.new.dag c.in_ok-ended.ended 1 (keeps_then c.both.new.dag c.any_assumed_node.new.dag c.negated.new.dag c.in_ok-some.ensures.keeps c.in_ok-none.ensures.keeps) c.in_ok-ended.ensures.width

pub returns-clause-keeps : goal.returns-clause-keeps
returns-clause-keeps c =
    IfOk-weaker c.both-2.result _ _ (λ i made.
    let d0 = c.args.dag.now in
    let d1 = c.opens_node.new.dag in
    let k1 = c.in_ok-opens.ensures.keeps in
    let d2 = c.ends_node.new.dag in
    let k2 = keeps_then d0 d1 d2 k1 c.in_ok-ends.ensures.keeps in
    let d3 = c.both.new.dag in
    let k3 = keeps_then d0 d2 d3 k2 c.in_ok-ended.ensures.keeps in
    let d4 = c.any_assumed_node.new.dag in
    let k4 = keeps_then d0 d3 d4 k3 c.in_ok-some.ensures.keeps in
    let d5 = c.negated.new.dag in
    let k5 = keeps_then d0 d4 d5 k4 c.in_ok-none.ensures.keeps in
    let d6 = c.both-2.new.dag in
    let k6 = keeps_then d0 d5 d6 k5 made in
    k6) c.both-2.ensures.keeps

pub returns-clause-node : goal.returns-clause-node
returns-clause-node c =
    IfOk-weaker c.both-2.result _ _ (λ i made.
    let set = c.args.self.now.set.now in
    let p = c.args.p in
    let n = c.args.n in
    let frames = c.args.self.now.frames in
    let end = c.last_row-end.result in
    let next_is : c.as_slice-next.result.now ≡ (property_at set p).next = c.as_slice-next.ensures ∙ ap (λ (y : Property). y.next) c.property_of-property.ensures in
    let end_is : end ≡ split_end set p n = c.last_row-end.ensures ∙ (ap (λ (qs : List ℕ). last_row set c.property_of-property.result.now.window n qs) next_is ∙ ap (λ (y : Property). last_row set y.window n (property_at set p).next) c.property_of-property.ensures) in
    let reach = split_reach set p n (length frames.first.rows.items) c.requires.structure c.requires.position c.requires.most (λ q there. c.requires.frames.first_reach p q c.requires.position there) in
    let lt : end < length frames.first.rows.items = omega (arith, end_is, reach) in
    let own = split_window set p n in
    let wide : window_of set p ≤ end = omega (arith, end_is, own) in
    let d0 = c.args.dag.now in
    let d1 = c.opens_node.new.dag in
    let k1 = c.in_ok-opens.ensures.keeps in
    let d2 = c.ends_node.new.dag in
    let k2 = keeps_then d0 d1 d2 k1 c.in_ok-ends.ensures.keeps in
    let d3 = c.both.new.dag in
    let k3 = keeps_then d0 d2 d3 k2 c.in_ok-ended.ensures.keeps in
    let d4 = c.any_assumed_node.new.dag in
    let d5 = c.negated.new.dag in
    let m = meaning_of set in
    let last = split_end set p n in
    let is_open : Naming → Bool = λ e. opens m set p (named_rows set e 0 last) in
    let is_end : Naming → Bool = λ e. ends_at m set p n (named_rows set e 0 last) in
    let follows : Naming → Bool = λ e. list_any (λ q. assumed m set q (drop n (named_rows set e 0 last))) (property_at set p).next in
    let one = subst (λ k. Tests d1 c.in_ok-opens.opens (λ e. opens m set p (named_rows set e 0 k))) end_is (subst (λ s. Tests d1 c.in_ok-opens.opens (λ e. opens m set p (named_rows set e s end))) c.requires.frames.first_side c.in_ok-opens.ensures.node) in
    let ended = c.in_ok-ends.ensures.node (λ e. named_rows set e 0 last) (first_shows set d1 frames end last c.rows_to-rows.result.now c.rows_to-rows.ensures end_is lt (frames_later d0 d1 set frames k1 c.requires.frames)) in
    let both = c.in_ok-ended.ensures.node is_open is_end (tests_later d1 d2 c.in_ok-opens.opens is_open c.in_ok-ends.ensures.keeps one) ended in
    let some = c.in_ok-some.ensures.node (λ e. drop n (named_rows set e 0 last)) (after_shows set.names d3 c.rows_to-rows.result.now c.rows_after.result.now n (λ e. named_rows set e 0 last) c.rows_after.ensures (first_shows set d3 frames end last c.rows_to-rows.result.now c.rows_to-rows.ensures end_is lt (frames_later d0 d3 set frames k3 c.requires.frames))) in
    let listed = subst (λ (qs : List ℕ). Tests d4 c.in_ok-some.some (λ e. list_any (λ q. assumed m set q (drop n (named_rows set e 0 last))) qs)) next_is some in
    let none = c.in_ok-none.ensures.node follows listed in
    made (λ e. is_open e && is_end e) (λ e. not (follows e)) (tests_later d3 d5 c.in_ok-ended.ended (λ e. is_open e && is_end e) (keeps_then d3 d4 d5 c.in_ok-some.ensures.keeps c.in_ok-none.ensures.keeps) both) none) c.both-2.ensures.node
