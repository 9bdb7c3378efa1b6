use Rattle.std.proofs.Common.{false, ℕ, List, sym, ap, subst}
use Rattle.cs_syntax.specs.Matching.{none}
use Rattle.cs_trigram.specs.Analysis.{IsQueryBeyondRun, all_match, some_mentions}
use Rattle.cs_trigram.specs.MayMatch.{MayMatchSequence, HaveMembers}
use Rattle.cs_trigram.specs.declared.queries.Query.{Query}
use Rattle.cs_trigram.proofs.MentionLemmas.{no_trigrams}
use Rattle.cs_trigram.proofs.SmallQueryLemmas.{small_none}
use Rattle.cs_trigram.proofs.SequenceQueryLemmas.{query_of_none}
use Rattle.cs_trigram.proofs.sequence_query.SequenceQuery.new.Goals as goal

pub returns-clause-required : goal.returns-clause-required
returns-clause-required c = (
  subst (λ (ws : List (List ℕ)). IsQueryBeyondRun ws (λ set. all_match c.new.result.items set) none none) (sym c.in_ok-leading.ensures)
      (query_of_none (λ set. all_match c.new.result.items set) (λ set. ap (λ (qs : List Query). all_match qs set) c.new.ensures.items)),
  no_trigrams (some_mentions c.new.result.items) (HaveMembers none) (MayMatchSequence false none)
      (λ g. ap (λ (qs : List Query). some_mentions qs g) c.new.ensures.items),
)

pub returns-clause-small : goal.returns-clause-small
returns-clause-small c = small_none c.new.result.items c.new.ensures.items
