use Rattle.std.proofs.Common.{◌≡◌, ◌+◌, ◌-◌, ◌≤◌, ◌||◌, ℕ, Bool, true, drop, length}
use Rattle.std.specs.List.{sum_by}
use Rattle.cs_trigram.specs.Query.{query_size}
use Rattle.cs_tree.specs.Cover.{is_among}
use Rattle.cs_trigram.specs.Analysis.{AreTrigramsOf, some_matches, some_mentions, has_any}
use Rattle.cs_trigram.proofs.queries.any_string.Given as goal

abbrev pub invariant-loop-string : goal.invariant-loop-string
invariant-loop-string l =
    ((set : ℕ → Bool) → (some_matches l.members.items set || has_any set (drop l.string-index l.strings)) ≡ has_any set l.strings)
    × AreTrigramsOf (some_mentions l.members.items) (Unit {0}) (λ string. is_among l.strings string ≡ true)
    × (sum_by query_size l.members.items + sum_by (λ string. length string - 1) (drop l.string-index l.strings)
    ≤ sum_by (λ string. length string - 1) l.strings)
