use Rattle.std.proofs.Common.{sym, ap, ◌∙◌, length, arith}
use Rattle.std.specs.Prelude.{Some}
use Rattle.std.proofs.lemmas.List.{take_rest, length-drop}
use Rattle.std.proofs.lemmas.Bool.{eqb-true}
use Rattle.cs_listing.specs.Braces.{pieces_in, texts_after}
use Rattle.cs_listing.specs.Models.{expansion_of}
use Rattle.cs_listing.proofs.BraceLemmas.{piece_fits, piece_misfits, pieces_end}
use Rattle.cs_listing.proofs.braces.alternatives.Goals as goal

pub pieces-init : goal.pieces-init
pieces-init c = ap (λ at. texts_after (Some at) (pieces_in c.args.glob.now)) c.in_ok-expansion.ensures

pub returns-then-not-branch : goal.returns-then-not-branch
returns-then-not-branch c =
    piece_misfits _ c.pieces.expansion c.read.new.self c.pieces.rest.now (c.in_ok-len.field-0-0, c.in_ok-len.len) _
    c.pieces.invariant c.in_ok-len.ensures c.in_ok-read.ensures c.if-not-branch.true

pub pieces-smaller : goal.pieces-smaller
pieces-smaller c =
    let rest = c.pieces.rest.now in
    omega (arith, c.in_ok-len.ensures.1, c.in_ok-len.ensures.2, ap length (take_rest rest c.in_ok-len.len), length-drop c.in_ok-len.len rest)

pub pieces-preserved : goal.pieces-preserved
pieces-preserved c =
    let rest = c.pieces.rest.now in
    ap (λ t. texts_after (Some (expansion_of c.read.new.self)) (pieces_in t)) (take_rest rest c.in_ok-len.len)
    ∙ piece_fits _ c.pieces.expansion c.read.new.self rest (c.in_ok-len.field-0-0, c.in_ok-len.len) _
    c.pieces.invariant c.in_ok-len.ensures c.in_ok-read.ensures c.if-not-branch.false

pub returns : goal.returns
returns c =
    c.finish.ensures
    ∙ pieces_end _ c.pieces.expansion c.pieces.rest.now (eqb-true _ 0 (sym c.is_empty.ensures ∙ c.pieces-test.false)) c.pieces.invariant
