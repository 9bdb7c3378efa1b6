use Rattle.std.proofs.Common.{false, ℕ, Bool, sym, ◌∙◌, arith}
use Rattle.cs_syntax.specs.Matching.{more}
use Rattle.cs_trigram.specs.Query.{matches_set, mentions}
use Rattle.cs_trigram.specs.MayMatch.{MayMatchSequence, HaveMembers}
use Rattle.cs_trigram.specs.Analysis.{cross_size, all_match, some_mentions}
use Rattle.cs_trigram.proofs.MentionLemmas.{trigrams_of_both}
use Rattle.cs_trigram.proofs.SequenceMentionLemmas.{trigrams_across}
use Rattle.cs_trigram.proofs.SequenceQueryLemmas.{query_of_more, query_with_crosses}
use Rattle.cs_trigram.proofs.SmallQueryLemmas.{small_after_query}
use Rattle.cs_trigram.proofs.CrossProductLemmas.{cross_query_matches}
use Rattle.cs_trigram.proofs.CrossQueryLemmas.{crosses_of_pairs, crosses_of_leading}
use Rattle.cs_trigram.proofs.sequence_query.SequenceQuery.add_cross.Goals as goal

pub returns-then-extend_past_all-clause-required : goal.returns-then-extend_past_all-clause-required
returns-then-extend_past_all-clause-required c = λ t ts suffixes prefixes exact begin sequence_query. (
  query_with_crosses c.args.self.now.leading.items (λ set. all_match c.args.self.now.conjuncts.items set) t ts sequence_query.0
      (λ set. crosses_of_leading set t ts c.args.suffixes.now c.args.prefixes.now exact c.args.self.now.leading.items
      (sym c.extend_past_all.ensures ∙ c.if-extend_past_all.true)
      sequence_query.0.run),
  sequence_query.1,
)

pub returns-clause-required : goal.returns-clause-required
returns-clause-required c = λ t ts suffixes prefixes exact begin sequence_query.
    let conjuncts : (ℕ → Bool) → Bool = λ set. all_match c.args.self.now.conjuncts.items set in
    let later : (ℕ → Bool) → Bool = λ set. all_match c.add_conjunct.new.conjuncts.items set in
    let q = c.in_ok-cross_query.cross_query in
    let across = c.in_ok-cross_query.ensures.across in (
      query_of_more c.args.self.now.leading.items conjuncts (λ set. matches_set q set) later t ts sequence_query.0
          (λ s set i j h has. cross_query_matches set q c.args.suffixes.now c.args.prefixes.now t ts across suffixes
          prefixes s i j h has)
          (λ set matches. crosses_of_pairs set t ts c.args.suffixes.now c.args.prefixes.now exact begin
          (c.in_ok-cross_query.ensures.asked set matches)) (λ set. c.in_ok-add_conjunct.ensures.required set),
      trigrams_of_both (some_mentions c.args.self.now.conjuncts.items) (mentions q)
          (some_mentions c.add_conjunct.new.conjuncts.items) (HaveMembers (more t ts)) (MayMatchSequence false (more t ts))
          c.in_ok-add_conjunct.ensures.mentioned sequence_query.1
          (trigrams_across q c.args.suffixes.now c.args.prefixes.now t ts suffixes prefixes across.mentioned),
    )

pub returns-then-extend_past_all-clause-small : goal.returns-then-extend_past_all-clause-small
returns-then-extend_past_all-clause-small c = λ ts small.
    small_after_query cross_size c.args.self.now.conjuncts.items ts small c.args.self.now.conjuncts.items (omega arith)

pub returns-clause-small : goal.returns-clause-small
returns-clause-small c = λ ts small.
    small_after_query cross_size c.args.self.now.conjuncts.items ts small c.add_conjunct.new.conjuncts.items
    (omega (arith, c.in_ok-add_conjunct.ensures.small, c.in_ok-cross_query.ensures.small))
