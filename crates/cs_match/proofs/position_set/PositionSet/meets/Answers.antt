use Rattle.std.proofs.Common.{◌≡◌, ℕ, ◌+◌, ◌*◌, ◌/◌, ◌%◌, ◌≤◌, ◌&&◌, eqb, false, List, length, get_or, drop, bit_and, sym, ◌∙◌, ap, subst, inl, inr, arith}
use Rattle.std.proofs.lemmas.Bool.{cases_lt}
use Rattle.std.specs.Int.{bit_at}
use Rattle.cs_match.specs.PositionSet.{positions_of, has_bit_from, intersect}
use Rattle.cs_match.proofs.PositionSetLemmas.{length-positions_of}
use Rattle.cs_match.proofs.OffsetLemmas.{meets-word, meets-no_word, no_common-bit}
use Rattle.cs_match.proofs.position_set.PositionSet.meets.Goals as goal

pub returns-then-word-word_from-ne0 : goal.returns-then-word-word_from-ne0
returns-then-word-word_from-ne0 c =
    let a = c.self.inside.words.items in
    let b = c.other.inside.words.items in
    let count = c.self.inside.count in
    let n = c.other.inside.count in
    let j = c.loop-index.index in
    let room : c.args.from + n ≤ count = omega (
      arith,
      c.requires,
      length-positions_of a count,
      length-positions_of b n,
      ap length c.self.view_is,
      ap length c.other.view_is,
    ) in
    let word : c.word_at-word.result ≡ get_or a (c.args.from / 64 + j) 0 = c.word_at-word.ensures
    ∙ ap (λ (xs : List ℕ). get_or xs (c.args.from / 64 + j) 0) c.deref.ensures.value in
    sym (meets-word a b count n c.args.from c.self.invariant c.other.invariant room c.word_from.result j
    (λ i h. c.word_from.ensures i h ∙ ap (λ (xs : List ℕ). has_bit_from xs (c.args.from % 64) (j * 64 + i))
    c.deref-in-loop-index.ensures.value)
    (λ none. c.if-word-word_from-ne0.true (ap (λ x. bit_and x c.word_from.result) word ∙ none))
    (omega (arith, word, c.word_at-word.type_inv)))
    ∙ ap (λ xs. intersect (drop c.args.from xs) (positions_of b n)) c.self.view_is
    ∙ ap (intersect (drop c.args.from c.args.self.now)) c.other.view_is

pub loop-index-preserved : goal.loop-index-preserved
loop-index-preserved c = λ j i lt h.
    let a = c.self.inside.words.items in
    let b = c.other.inside.words.items in
    let at = c.loop-index.index in
    let none : ℕ → Type 0 = λ j. eqb (bit_at (get_or a (c.args.from / 64 + j) 0) i) 1 && has_bit_from b
    (c.args.from % 64) (j * 64 + i) ≡ false in
    let word : c.word_at-word.result ≡ get_or a (c.args.from / 64 + at) 0 = c.word_at-word.ensures
    ∙ ap (λ (xs : List ℕ). get_or xs (c.args.from / 64 + at) 0) c.deref.ensures.value in
    let bits : eqb (bit_at c.word_from.result i) 1 ≡ has_bit_from b (c.args.from % 64) (at * 64 + i) =
    c.word_from.ensures i h ∙ ap (λ (xs : List ℕ). has_bit_from xs (c.args.from % 64) (at * 64 + i)) c.deref-in-loop-index.ensures.value in
    elim (cases_lt j at) [
      | inl below ↦ c.loop-index.invariant j i below h
      | inr above ↦
          let same : at ≡ j = omega (arith, lt, above) in
          subst none same (ap (λ x. eqb (bit_at x i) 1 && has_bit_from b (c.args.from % 64) (at * 64 + i)) (sym word)
          ∙ ap (λ x. eqb (bit_at c.word_at-word.result i) 1 && x) (sym bits)
          ∙ no_common-bit c.word_at-word.result c.word_from.result i c.if-word-word_from-ne0.false)
    ]

pub returns : goal.returns
returns c =
    let a = c.self.inside.words.items in
    let b = c.other.inside.words.items in
    let count = c.self.inside.count in
    let n = c.other.inside.count in
    let room : c.args.from + n ≤ count = omega (
      arith,
      c.requires,
      length-positions_of a count,
      length-positions_of b n,
      ap length c.self.view_is,
      ap length c.other.view_is,
    ) in
    sym (meets-no_word a b count n c.args.from c.self.invariant c.other.invariant room
    (λ j i lt h. c.loop-index.invariant j i (omega (
      arith,
      lt,
      c.loop-index-test.false,
      c.len-index-end.ensures,
      c.other.inside.words.ok.0,
    )) h))
    ∙ ap (λ xs. intersect (drop c.args.from xs) (positions_of b n)) c.self.view_is
    ∙ ap (intersect (drop c.args.from c.args.self.now)) c.other.view_is
