use Rattle.std.proofs.Common.{◌≡◌, ◌<◌, ◌≢◌, ℕ, List, length, map, sym, ap, ◌∙◌, arith}
use Rattle.std.specs.Prelude.{Some, None}
use Rattle.std.proofs.lemmas.Bool.{eqb-true, eqb-false}
use Rattle.cs_listing.specs.Settings.{Said, piece_in, said_in, said_of_text, without_returns}
use Rattle.cs_listing.specs.SettingReads.{directive_read, piece_if}
use Rattle.cs_listing.proofs.SettingLemmas.{next_piece, reads_bad, reads_end}
use Rattle.cs_listing.proofs.settings_text.said_in.Goals as goal

pub pieces-preserved : goal.pieces-preserved
pieces-preserved c =
    next_piece _ c.pieces.directives.items c.push_if_some.new.directives.items c.pieces.section c.unwrap_or-section.result c.pieces.rest.now
    c.deref.result.now c.in_ok-piece.field-0 c.in-Some.piece c.pieces.invariant c.deref.ensures.value c.in_ok-piece.ensures.piece
    c.in_ok-piece.ensures.shorter c.in-Some.is c.in_ok-push_if_some.ensures c.unwrap_or-section.ensures

pub returns-in_default : goal.returns-in_default
unfolding said_in
returns-in_default c =
    let more : length c.pieces.rest.now ≢ 0 = eqb-false (length c.pieces.rest.now) 0 (sym c.pieces-test.ensures) in
    sym (reads_bad _ (map directive_read c.pieces.directives.items) c.pieces.section.items c.pieces.rest.now c.pieces.invariant
    (ap (λ (name : List ℕ). piece_in name c.pieces.rest.now) (sym c.deref.ensures.value) ∙ sym c.in_ok-piece.ensures.piece
    ∙ ap piece_if c.in_default.is) (omega (arith, more)))
    ∙ ap said_of_text (c.as_slice-rest.ensures.value ∙ c.in_ok-text.ensures ∙ ap without_returns c.without_mark.ensures)

pub returns : goal.returns
unfolding said_in
returns c =
    sym (reads_end _ (map directive_read c.pieces.directives.items) c.pieces.section.items c.pieces.rest.now c.pieces.invariant
    (eqb-true (length c.pieces.rest.now) 0 (sym c.pieces-test.ensures)))
    ∙ ap said_of_text (c.as_slice-rest.ensures.value ∙ c.in_ok-text.ensures ∙ ap without_returns c.without_mark.ensures)
