use Rattle.std.proofs.Common.{◌≡◌, true, false}
use Rattle.elab_flat_scopes.specs.Borrowed.{decl_meant}
use Rattle.elab_flat_names.proofs.Seconds.{has_not, words_not, port_goes, other_goes}
use Rattle.elab_flat_names.proofs.again.may_go.Goals.{then-has-via-then-has, then-has-via-else-has+then-has_words, then-has-via-else-has+else-has_words+then-has_words-2}
use Rattle.elab_flat_names.proofs.again.may_go.Goals as goal

pub returns-then-has : goal.returns-then-has
returns-then-has c =
    let d = decl_meant c.args.first.now in
    let e = decl_meant c.args.second.now in
    let headed = c.args.headed.now in
    let name = c.bytes.result.now in
    let same : name ≡ e.name = c.bytes.ensures in (
      λ t. let z : false ≡ true = t in cc,
      λ g. absurd (elim c.then-has.branch [
        | then-has-via-then-has w ↦ has_not headed d e name same c.has.result c.has.ensures w.if-has.true g
        | then-has-via-else-has+then-has_words w ↦ words_not d w.has_words.result w.has_words.ensures w.if-has_words.true g.no_words.0
        | then-has-via-else-has+else-has_words+then-has_words-2 w ↦ words_not e w.has_words-else-has_words.result w.has_words-else-has_words.ensures w.if-has_words-2.true g.no_words.1
      ]),
    )

pub returns-then-is_port : goal.returns-then-is_port
returns-then-is_port c =
    port_goes c.args.headed.now (decl_meant c.args.first.now) (decl_meant c.args.second.now) c.bytes.result.now c.bytes.ensures c.has.result c.has_words.result c.has_words-else-has_words.result
    c.has.ensures c.has_words.ensures c.has_words-else-has_words.ensures c.if-has.false c.if-has_words.false c.if-has_words-2.false c.is_port.result c.is_port-then-is_port.result c.is_port.ensures c.is_port-then-is_port.ensures c.if-is_port.true

pub returns-else-is_port : goal.returns-else-is_port
returns-else-is_port c =
    other_goes c.args.headed.now (decl_meant c.args.first.now) (decl_meant c.args.second.now) c.bytes.result.now c.bytes.ensures c.has.result c.has_words.result c.has_words-else-has_words.result
    c.has.ensures c.has_words.ensures c.has_words-else-has_words.ensures c.if-has.false c.if-has_words.false c.if-has_words-2.false c.is_port.result c.is_port-else-is_port.result c.is_port.ensures c.is_port-else-is_port.ensures c.if-is_port.false
