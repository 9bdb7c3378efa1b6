use Rattle.std.proofs.Common.{◌∙◌, ◌||◌, ap, List, ℕ}
use Rattle.std.proofs.lemmas.List.Filters.{dedup_is}
use Rattle.cs_trigram.specs.Trigram.{has}
use Rattle.cs_index.specs.Answerable.{mentions}
use Rattle.cs_index.proofs.candidates.QueryTrigrams.{ascends_ordered, has_ordered}
use Rattle.cs_index.proofs.reading.candidates.mentioned_trigrams.Goals as goal

pub returns-clause-mentioned : goal.returns-clause-mentioned
returns-clause-mentioned c = λ g.
    has_ordered _ _ _ g c.sort_unstable.ensures.permutation (dedup_is _ _ _ c.dedup.ensures.filtered) ∙ c.in_ok-gather.ensures g
    ∙ ap (λ (xs : List ℕ). has xs g || mentions c.args.query.now g) c.new-trigrams.ensures.items

pub returns-clause-ascend : goal.returns-clause-ascend
returns-clause-ascend c = ascends_ordered _ _ c.sort_unstable.ensures.sorted (dedup_is _ _ _ c.dedup.ensures.filtered)
