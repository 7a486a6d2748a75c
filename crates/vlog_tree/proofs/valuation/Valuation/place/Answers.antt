use Rattle.std.proofs.Common.{◌≡◌, ℕ, Option, Some, None, nat_eq, drop, ap, sym, ◌∙◌}
use Rattle.std.specs.HashMap.{get}
use Rattle.std.specs.List.{position_from}
use Rattle.vlog_tree.specs.Fingerprints.{fingerprint}
use Rattle.vlog_tree.specs.Valuation.{is_named, place_at}
use Rattle.vlog_tree.proofs.Places.{from_first, from_none}
use Rattle.vlog_tree.proofs.valuation.Valuation.place.Goals as goal

pub returns-in-Some : goal.returns-in-Some
returns-in-Some c =
    let es = c.self.inside.entries.items in
    let x = c.args.name.now in
    let j = c.args.offset in
    let start = c.in-Some.start in
    let first : ℕ → Option ℕ = get nat_eq c.self.inside.first in
    let got : first (fingerprint x j) ≡ Some start = ap first (sym c.fingerprint-print.ensures) ∙ (sym c.get.ensures.value ∙ (sym c.copied.ensures ∙ c.in-Some.is)) in
    c.place_from.ensures ∙ (ap (λ ns. position_from (is_named x j) start (drop start ns)) c.deref.ensures.value ∙ (from_first es x j first c.self.invariant.1 start got ∙ ap (λ ns. place_at ns x j) c.self.view_is))

pub returns-in-None : goal.returns-in-None
returns-in-None c =
    let es = c.self.inside.entries.items in
    let x = c.args.name.now in
    let j = c.args.offset in
    let first : ℕ → Option ℕ = get nat_eq c.self.inside.first in
    let got : first (fingerprint x j) ≡ None = ap first (sym c.fingerprint-print.ensures) ∙ (sym c.get.ensures.value ∙ (sym c.copied.ensures ∙ c.in-None.is)) in
    sym (ap (λ ns. place_at ns x j) (sym c.self.view_is) ∙ from_none es x j first c.self.invariant.1 got)
