use Rattle.std.proofs.Common.{◌≡◌, ◌+◌, ◌*◌, ◌^◌, ◌<◌, ◌≤◌, ◌&&◌, false, length, get_or, bit_and, sym, ◌∙◌, ap, arith, w64}
use Rattle.std.proofs.lemmas.List.{get_or_read}
use Rattle.std.specs.Int.{trailing_zeros}
use Rattle.cs_match.specs.PositionSet.{is_selected}
use Rattle.cs_match.proofs.PositionSetLemmas.{length-positions_of}
use Rattle.cs_match.proofs.RangeLemmas.{none-in-word, found-within, found-in-set, found-first, none-in-set}
use Rattle.cs_match.proofs.position_set.PositionSet.first_in.Goals as goal

pub index-requires : goal.index-requires
index-requires c =
    omega (
      arith,
      c.loop-index-test.true,
      c.div_ceil-index-end.ensures,
      c.requires,
      length-positions_of c.self.inside.words.items c.self.inside.count,
      ap length c.self.view_is,
      c.self.invariant.enough,
    )

pub returns-then-found-ne0-clause-within : goal.returns-then-found-ne0-clause-within
returns-then-found-ne0-clause-within c =
    let words = c.self.inside.words.items in
    let count = c.self.inside.count in
    let room : c.args.end ≤ count = omega (arith, c.requires, length-positions_of words count, ap length c.self.view_is) in
    let within : c.loop-index.index < length words =
    omega (arith, c.loop-index-test.true, c.div_ceil-index-end.ensures, room, c.self.invariant.enough) in
    let word : c.index.result.now ≡ get_or words c.loop-index.index 0 = get_or_read words c.loop-index.index _ within c.index.ensures 0 in
    let fits : c.index.result.now < 2 ^ 64 = omega (arith, word, c.self.invariant.fit c.loop-index.index 0 within) in
    omega (
      arith,
      found-within words count c.args.which c.args.from c.args.end c.loop-index.index c.index.result.now
          c.range_bits.result room word fits c.range_bits.ensures c.loop-index.invariant c.if-found-ne0.true,
    )

pub returns-then-found-ne0-clause-found : goal.returns-then-found-ne0-clause-found
returns-then-found-ne0-clause-found c = λ lt.
    let words = c.self.inside.words.items in
    let count = c.self.inside.count in
    let room : c.args.end ≤ count = omega (arith, c.requires, length-positions_of words count, ap length c.self.view_is) in
    let within : c.loop-index.index < length words =
    omega (arith, c.loop-index-test.true, c.div_ceil-index-end.ensures, room, c.self.invariant.enough) in
    let word : c.index.result.now ≡ get_or words c.loop-index.index 0 = get_or_read words c.loop-index.index _ within c.index.ensures 0 in
    let fits : c.index.result.now < 2 ^ 64 = omega (arith, word, c.self.invariant.fit c.loop-index.index 0 within) in
    let k = c.loop-index.index * 64 + trailing_zeros w64 (bit_and c.index.result.now c.range_bits.result) in
    ap (λ ms. is_selected c.args.which c.args.from c.args.end k && get_or ms k false) (sym c.self.view_is)
    ∙ found-in-set words count c.args.which c.args.from c.args.end c.loop-index.index c.index.result.now
    c.range_bits.result room word fits c.range_bits.ensures c.loop-index.invariant c.if-found-ne0.true

pub returns-then-found-ne0-clause-first : goal.returns-then-found-ne0-clause-first
returns-then-found-ne0-clause-first c = λ k h.
    let words = c.self.inside.words.items in
    let count = c.self.inside.count in
    let room : c.args.end ≤ count = omega (arith, c.requires, length-positions_of words count, ap length c.self.view_is) in
    let within : c.loop-index.index < length words =
    omega (arith, c.loop-index-test.true, c.div_ceil-index-end.ensures, room, c.self.invariant.enough) in
    let word : c.index.result.now ≡ get_or words c.loop-index.index 0 = get_or_read words c.loop-index.index _ within c.index.ensures 0 in
    let fits : c.index.result.now < 2 ^ 64 = omega (arith, word, c.self.invariant.fit c.loop-index.index 0 within) in
    ap (λ ms. is_selected c.args.which c.args.from c.args.end k && get_or ms k false) (sym c.self.view_is)
    ∙ found-first words count c.args.which c.args.from c.args.end c.loop-index.index c.index.result.now
    c.range_bits.result room word fits c.range_bits.ensures c.loop-index.invariant c.if-found-ne0.true k h

pub loop-index-preserved : goal.loop-index-preserved
loop-index-preserved c =
    let words = c.self.inside.words.items in
    let count = c.self.inside.count in
    let room : c.args.end ≤ count = omega (arith, c.requires, length-positions_of words count, ap length c.self.view_is) in
    let within : c.loop-index.index < length words =
    omega (arith, c.loop-index-test.true, c.div_ceil-index-end.ensures, room, c.self.invariant.enough) in
    let word : c.index.result.now ≡ get_or words c.loop-index.index 0 = get_or_read words c.loop-index.index _ within c.index.ensures 0 in
    let fits : c.index.result.now < 2 ^ 64 = omega (arith, word, c.self.invariant.fit c.loop-index.index 0 within) in
    none-in-word words count c.args.which c.args.from c.args.end c.loop-index.index c.index.result.now
    c.range_bits.result room word fits c.range_bits.ensures c.loop-index.invariant c.if-found-ne0.false

pub returns-clause-first : goal.returns-clause-first
returns-clause-first c = λ k h.
    let words = c.self.inside.words.items in
    let count = c.self.inside.count in
    ap (λ ms. is_selected c.args.which c.args.from c.args.end k && get_or ms k false) (sym c.self.view_is)
    ∙ none-in-set words count c.args.which c.args.from c.args.end
    (omega (arith, c.requires, length-positions_of words count, ap length c.self.view_is))
    (λ j lt. c.loop-index.invariant j (omega (arith, lt, c.loop-index-test.false, c.div_ceil-index-end.ensures))) k h
