use Rattle.std.proofs.Common.{◌≡◌, ◌∙◌, ◌&&◌, refl, ap}
use Rattle.cs_syntax.specs.Matching.{is_word}
use Rattle.cs_match.specs.declared.state.LookBehind.{LookBehind}
use Rattle.cs_match.specs.States.{is_word_for}
use Rattle.cs_match.proofs.StateLemmas.{xor-is, moves_to, accepts_here}
use Rattle.cs_match.proofs.state.State.step_in_line.Goals as goal

pub returns-clause-accepting : goal.returns-clause-accepting
returns-clause-accepting c =
    let word : c.is_word-is_word.result ≡ is_word_for c.args.program.now c.args.byte = c.is_word-is_word.ensures
    ∙ ap (λ (bits : LookBehind). is_word c.args.byte && bits.word) c.look_behind-bits.ensures in
    c.step_over-accepting.ensures.accepting
    ∙ accepts_here c.args.program.now c.args.program.now c.args.self.now c.args.byte _ c.is_word-is_word.result refl
    word (xor-is c.args.self.now.behind.word c.is_word-is_word.result)

pub returns-clause-moved : goal.returns-clause-moved
returns-clause-moved c =
    let word : c.is_word-is_word.result ≡ is_word_for c.args.program.now c.args.byte = c.is_word-is_word.ensures
    ∙ ap (λ (bits : LookBehind). is_word c.args.byte && bits.word) c.look_behind-bits.ensures in
    moves_to c.args.program.now c.args.program.now c.args.self.now c.args.byte _ c.is_word-is_word.result refl word
    (xor-is c.args.self.now.behind.word c.is_word-is_word.result)
    c.char_step-char.result c.unfinished.result c.step_over-accepting.new.positions c.char_step-char.ensures
    c.unfinished.ensures c.step_over-accepting.ensures.positions
