use Rattle.std.proofs.Common.{◌≡◌, ℕ, ◌+◌, ◌*◌, ◌%◌, ◌/◌, ◌<◌, List, length, get_or, bit_or, false, ◌∷◌, ◌∙◌, ap, arith, below_more, add-one, length-set, get_or-set_same, get_or-set_other}
use Rattle.cs_match.specs.PositionSet.{positions_of}
use Rattle.cs_match.proofs.PositionSetLemmas.{length-positions_of}
use Rattle.cs_match.proofs.BitwiseLemmas.{shifted}
use Rattle.cs_match.proofs.MoveLemmas.{one_more, IsPositionSet-shifted, positions_of-shifted}
use Rattle.cs_match.proofs.position_set.PositionSet.shift_from.Goals as goal
use Rattle.cs_match.proofs.position_set.PositionSet.shift_from.Goals.{After-loop-index}

pub loop-index-preserved : goal.loop-index-preserved
loop-index-preserved c =
    let now = c.loop-index.self-inside.words.items in
    let from = c.from.inside.words.items in
    let at = c.loop-index.index in
    let in-now : at < length now = omega (arith, c.loop-index.invariant.as_many, c.len-index-end.ensures, c.self.inside.words.ok.0) in
    let word : c.word_at-word.result ≡ get_or from at 0 = c.word_at-word.ensures
    ∙ ap (λ (xs : List ℕ). get_or xs at 0) c.deref.ensures.value in
    let new : ℕ = bit_or (c.word_at-word.result * 2 % 18446744073709551616) c.loop-index.carried in
    record {
      cost = omega (arith, c.loop-index.invariant.cost, c.add.ensures);
      position_count = c.loop-index.invariant.position_count;
      as_many = length-set now at new ∙ c.loop-index.invariant.as_many;
      carries = rw add-one (ap (λ x. x / 9223372036854775808) word);
      done = below_more _ _
          (λ k h. get_or-set_other now at k new 0 (λ same. omega (arith, h, same)) ∙ c.loop-index.invariant.done k h)
          (get_or-set_same now at new 0 in-now
          ∙ ap (λ x. bit_or (x * 2 % 18446744073709551616) c.loop-index.carried) word
          ∙ ap (λ x. bit_or (get_or from at 0 * 2 % 18446744073709551616) x) c.loop-index.invariant.carries);
    }

more : (c : After-loop-index) → c.self.inside.count ≡ c.from.inside.count + 1
more c = one_more c.self.inside.words.items c.from.inside.words.items _ _ _ _ c.self.view_is c.from.view_is c.requires

size : (c : After-loop-index) → length c.loop-index.self-inside.words.items ≡ (c.from.inside.count + 1 + 63) / 64
size c = omega (arith, c.loop-index.invariant.as_many, c.self.invariant.enough, more c)

all-done : (c : After-loop-index) (k : ℕ) → k < length c.loop-index.self-inside.words.items →
    get_or c.loop-index.self-inside.words.items k 0 ≡ shifted c.from.inside.words.items k
all-done c k h = c.loop-index.invariant.done k
    (omega (arith, h, c.loop-index.invariant.as_many, c.len-index-end.ensures, c.self.inside.words.ok.0))

pub invariant_of-self : goal.invariant_of-self
invariant_of-self c =
    rw (c.loop-index.invariant.position_count, more c)
    (IsPositionSet-shifted _ c.from.inside.words.items c.from.inside.count c.from.invariant (size c) (all-done c))

pub returns-clause-shifted : goal.returns-clause-shifted
returns-clause-shifted c =
    ap (positions_of c.loop-index.self-inside.words.items) (c.loop-index.invariant.position_count ∙ more c)
    ∙ positions_of-shifted _ c.from.inside.words.items c.from.inside.count c.from.invariant (size c) (all-done c)
    ∙ ap (λ xs. false ∷ xs) c.from.view_is

pub returns-clause-cost : goal.returns-clause-cost
returns-clause-cost c = omega (
  arith,
  c.loop-index.invariant.cost,
  c.len-index-end.ensures,
  c.self.inside.words.ok.0,
  c.self.invariant.enough,
  length-positions_of c.self.inside.words.items c.self.inside.count,
  ap length c.self.view_is,
)
