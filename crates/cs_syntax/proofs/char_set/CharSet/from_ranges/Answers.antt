use Rattle.std.proofs.Common.{ℕ, ◌∙◌, ap, rules}
use Rattle.std.proofs.lemmas.List.Sorted.{All-permutation, IsNonDecreasingBy-from_sort_by_key}
use Rattle.cs_syntax.specs.Characters.{has_char}
use Rattle.cs_syntax.specs.CharRanges.{IsCharRange}
use Rattle.cs_syntax.proofs.CharSetLemmas.{has_char-IsPermutation}
use Rattle.cs_syntax.proofs.char_set.CharSet.from_ranges.Goals as goal

pub merge_ranges-requires-clause-ranges : goal.merge_ranges-requires-clause-ranges
merge_ranges-requires-clause-ranges c =
    rw c.deref.ensures.value
    (All-permutation IsCharRange _ _ c.sort_unstable_by_key.ensures.permutation c.in_ok-sorted.ensures.ranges)

pub merge_ranges-requires-clause-ascending : goal.merge_ranges-requires-clause-ascending
merge_ranges-requires-clause-ascending c =
    rw c.deref.ensures.value
    (IsNonDecreasingBy-from_sort_by_key (λ (range : ℕ × ℕ). range.0) _ c.sort_unstable_by_key.ensures.sorted (λ a r q k. search rules))

pub returns-clause-members : goal.returns-clause-members
returns-clause-members c x =
    c.in_ok-ranges.ensures.members x
    ∙ ap (λ xs. has_char xs x) c.deref.ensures.value
    ∙ has_char-IsPermutation _ _ x c.sort_unstable_by_key.ensures.permutation
    ∙ c.in_ok-sorted.ensures.members x
