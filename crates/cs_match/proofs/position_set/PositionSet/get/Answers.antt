use Rattle.std.proofs.Common.{◌≡◌, ◌/◌, ◌%◌, get_or, eqb, false, sym, ap, ◌∙◌, arith}
use Rattle.std.proofs.lemmas.List.{get_or_read}
use Rattle.std.proofs.lemmas.Nat.Bits.{shr_and_one}
use Rattle.std.specs.Int.{bit_at}
use Rattle.cs_match.proofs.PositionSetLemmas.{position_within, get_or-positions_of, word_within}
use Rattle.cs_match.proofs.position_set.PositionSet.get.Goals as goal

pub index-requires : goal.index-requires
index-requires c =
    let m = c.self.inside in
    let low = position_within m.words.items m.count c.args.index _ c.self.view_is c.requires in
    omega (arith, word_within m.words.items m.count c.args.index c.self.invariant low, m.words.ok.0)

pub returns : goal.returns
returns c =
    let m = c.self.inside in
    let low = position_within m.words.items m.count c.args.index _ c.self.view_is c.requires in
    let read : c.index.result.now ≡ get_or m.words.items (c.args.index / 64) 0 =
    get_or_read m.words.items (c.args.index / 64) _
    (word_within m.words.items m.count c.args.index c.self.invariant low) c.index.ensures 0 in
    ap (λ x. eqb x 1) (shr_and_one c.index.result.now (c.args.index % 64))
    ∙ ap (λ x. eqb (bit_at x (c.args.index % 64)) 1) read
    ∙ sym (get_or-positions_of m.words.items m.count c.args.index low)
    ∙ ap (λ ms. get_or ms c.args.index false) c.self.view_is
