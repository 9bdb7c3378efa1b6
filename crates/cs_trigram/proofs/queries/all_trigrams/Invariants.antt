use Rattle.std.proofs.Common.{◌≡◌, ◌+◌, ◌≤◌, ◌-◌, ℕ, Bool, take, length}
use Rattle.std.specs.List.{list_all, sum_by}
use Rattle.cs_trigram.specs.Trigram.{trigram_sequence}
use Rattle.cs_trigram.specs.Query.{query_size}
use Rattle.cs_trigram.specs.Analysis.{AreTrigramsOf, all_match, some_mentions}
use Rattle.cs_trigram.proofs.queries.all_trigrams.Given as goal

abbrev pub invariant-loop-offset : goal.invariant-loop-offset
invariant-loop-offset l =
    (l.offset ≤ length l.text)
    × ((set : ℕ → Bool) → all_match l.members.items set ≡ list_all set (trigram_sequence (take (l.offset + 2) l.text)))
    × AreTrigramsOf (some_mentions l.members.items) (Unit {0}) (λ part. part ≡ l.text)
    × (sum_by query_size l.members.items ≡ l.offset) × (l.offset ≤ length l.text - 2)

abbrev pub decreases-loop-offset : goal.decreases-loop-offset
decreases-loop-offset l = length l.text - l.offset
