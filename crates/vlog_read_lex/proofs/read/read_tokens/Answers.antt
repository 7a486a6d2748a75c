use Rattle.std.proofs.Common.{◌≡◌, true, [], ◌∷◌, ◌++◌, length, refl, sym, ◌∙◌, arith}
use Rattle.std.specs.Prelude.{is_ok}
use Rattle.std.proofs.lemmas.List.Elements.{All-nil}
use Rattle.vlog_tree.specs.declared.token.Token.{Token}
use Rattle.vlog_read_lex.specs.declared.piece.Piece.TheVariants as piece
use Rattle.vlog_read_lex.specs.Pieces.{piece_at}
use Rattle.vlog_read_lex.specs.Tokens.Pieces.{none}
use Rattle.vlog_read_lex.proofs.PieceLemmas.{more_gap, more_token, placed_more}
use Rattle.vlog_read_lex.proofs.read.read_tokens.Goals as goal

pub loop-at-init : goal.loop-at-init
loop-at-init c = (rw c.new-tokens.ensures.items none, omega arith, rw c.new-tokens.ensures.items (All-nil _))

pub loop-at-preserved-in-Gap : goal.loop-at-preserved-in-Gap
loop-at-preserved-in-Gap c =
    let is : piece_at c.args.set c.args.bytes.now c.loop-at.at ≡ piece.Gap c.in-Gap.end = sym c.in_ok-end.ensures.exact ∙ c.in-Gap.is in
    let within = rw c.in-Gap.is at c.in_ok-end.ensures.within in
    (more_gap c.args.set c.args.bytes.now 0 c.loop-at.at c.in-Gap.end c.loop-at.tokens.items c.loop-at.invariant.0 c.loop-at-test.true is, within.1, c.loop-at.invariant.2)

pub loop-at-preserved : goal.loop-at-preserved
loop-at-preserved c =
    let is : piece_at c.args.set c.args.bytes.now c.loop-at.at ≡ piece.Token c.in-Token.kind c.in-Token.end = sym c.in_ok-end.ensures.exact ∙ c.in-Token.is in
    let within = rw c.in-Token.is at c.in_ok-end.ensures.within in
    let t : Token = record { at = c.loop-at.at; end = c.in-Token.end; kind = c.in-Token.kind } in
    let ok : is_ok c.push.result ≡ true = sym c.in_ok-map_err-in-Token.ensures.variant in
    let items : c.push.new.self.items ≡ c.loop-at.tokens.items ++ t ∷ [] = rw ok at c.push.ensures.items in
    (rw items (more_token c.args.set c.args.bytes.now 0 c.loop-at.at c.loop-at.tokens.items t c.loop-at.invariant.0 c.loop-at-test.true refl is), within.1, rw items (placed_more (length c.args.bytes.now) c.loop-at.tokens.items t c.loop-at.invariant.2 (omega (arith, c.loop-at-test.true)) within.1))
