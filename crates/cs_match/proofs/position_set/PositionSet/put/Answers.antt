use Rattle.std.proofs.Common.{◌≡◌, ◌+◌, ◌/◌, ◌%◌, ◌∷◌, ◌++◌, ◌∙◌, take, drop, get_or, ap, arith}
use Rattle.std.proofs.lemmas.List.{get_or_read}
use Rattle.cs_syntax.proofs.BitLemmas.{IsWithBit}
use Rattle.cs_match.proofs.BitwiseLemmas.{with_one_bit}
use Rattle.cs_match.proofs.PositionSetLemmas.{position_within, word_within, positions_of-set, IsPositionSet-set}
use Rattle.cs_match.proofs.position_set.PositionSet.put.Goals as goal

pub index-requires : goal.index-requires
index-requires c =
    let m = c.self.inside in
    let low = position_within m.words.items m.count c.args.index _ c.self.view_is c.requires in
    omega (arith, word_within m.words.items m.count c.args.index c.self.invariant low, m.words.ok.0)

pub index_mut-requires : goal.index_mut-requires
index_mut-requires c =
    let m = c.self.inside in
    let low = position_within m.words.items m.count c.args.index _ c.self.view_is c.requires in
    omega (arith, word_within m.words.items m.count c.args.index c.self.invariant low, m.words.ok.0)

pub invariant_of-self : goal.invariant_of-self
invariant_of-self c =
    let m = c.self.inside in
    let low = position_within m.words.items m.count c.args.index _ c.self.view_is c.requires in
    let within = word_within m.words.items m.count c.args.index c.self.invariant low in
    let read : c.index.result.now ≡ get_or m.words.items (c.args.index / 64) 0 =
    get_or_read m.words.items (c.args.index / 64) _ within c.index.ensures 0 in
    let bit : IsWithBit c.index.result.now c.with_bits.result (c.args.index % 64) c.args.on =
    with_one_bit c.index.result.now c.with_bits.result (c.args.index % 64) c.args.on (omega arith) c.with_bits.ensures in
    IsPositionSet-set m.words.items c.args.index c.with_bits.result c.args.on (rw read at bit) within m.count low
    (omega (arith, c.with_bits.type_inv)) c.self.invariant

pub returns : goal.returns
returns c =
    let m = c.self.inside in
    let low = position_within m.words.items m.count c.args.index _ c.self.view_is c.requires in
    let within = word_within m.words.items m.count c.args.index c.self.invariant low in
    let read : c.index.result.now ≡ get_or m.words.items (c.args.index / 64) 0 =
    get_or_read m.words.items (c.args.index / 64) _ within c.index.ensures 0 in
    let bit : IsWithBit c.index.result.now c.with_bits.result (c.args.index % 64) c.args.on =
    with_one_bit c.index.result.now c.with_bits.result (c.args.index % 64) c.args.on (omega arith) c.with_bits.ensures in
    positions_of-set m.words.items c.args.index c.with_bits.result c.args.on (rw read at bit) within m.count low
    ∙ ap (λ ms. take c.args.index ms ++ c.args.on ∷ drop (c.args.index + 1) ms) c.self.view_is
