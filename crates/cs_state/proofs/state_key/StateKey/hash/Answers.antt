use Rattle.std.proofs.Common.{◌∙◌, arith, sym}
use Rattle.std.proofs.lemmas.Bool.{eqb-true}
use Rattle.cs_state.specs.Sums.{with_word}
use Rattle.cs_state.proofs.SumLemmas.{all_hashed, hash_rest, hash_whole, some_items}
use Rattle.cs_state.proofs.state_key.StateKey.hash.Goals as goal

pub returns-then-is_empty : goal.returns-then-is_empty
returns-then-is_empty c =
    let none = eqb-true _ 0 (sym c.is_empty.ensures ∙ c.if-is_empty.true) in
    let rest = c.as_chunks.ensures.back_len in
    all_hashed c.args.self.now c.args.piece.now _ _ _ (omega arith) c.as_chunks.ensures.front c.words.invariant
    ∙ hash_whole c.args.self.now c.args.piece.now (omega (arith, none, rest))

pub returns : goal.returns
returns c =
    let key = c.args.self.now in
    let piece = c.args.piece.now in
    c.with_word.ensures
    ∙ (λ i. with_word key (all_hashed key piece _ _ _ (omega arith) c.as_chunks.ensures.front c.words.invariant i) (c.word_of.ensures i))
    ∙ hash_rest key piece _ c.as_chunks.ensures.back (some_items _ (sym c.is_empty.ensures ∙ c.if-is_empty.false))
