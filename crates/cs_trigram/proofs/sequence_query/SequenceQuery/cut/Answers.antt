use Rattle.std.proofs.Common.{false, ◌≡◌, ◌&&◌, ◌-◌, ℕ, Bool, true, List, length, sym, ap, ◌∙◌, subst, arith}
use Rattle.cs_tree.specs.Cover.{is_among}
use Rattle.cs_syntax.specs.Matching.{more}
use Rattle.std.specs.List.{sum_by}
use Rattle.cs_trigram.specs.Query.{matches_set, mentions, query_size}
use Rattle.cs_trigram.specs.MayMatch.{MayMatchSequence, HaveMembers}
use Rattle.cs_trigram.specs.Analysis.{IsQueryBeyondRun, MentionsOnly, all_match, some_mentions, has_any}
use Rattle.cs_trigram.proofs.MentionLemmas.{trigrams_of_both}
use Rattle.cs_trigram.proofs.SequenceMentionLemmas.{trigrams_of_run, trigrams_of_rest, trigrams_of_first}
use Rattle.cs_trigram.proofs.SmallQueryLemmas.{leading_small, small_past_cut}
use Rattle.cs_trigram.proofs.SequenceQueryLemmas.{query_past_cut}
use Rattle.cs_trigram.proofs.sequence_query.SequenceQuery.cut.Goals as goal

pub returns-clause-required : goal.returns-clause-required
returns-clause-required c = λ t ts no_few match_query sequence_query.
    let query = c.in_ok-any_string.field-0 in
    let leading = c.args.self.now.leading.items in
    let conjuncts : (ℕ → Bool) → Bool = λ set. all_match c.args.self.now.conjuncts.items set in
    let later : (ℕ → Bool) → Bool = λ set. all_match c.add_conjunct-2.new.conjuncts.items set in
    let finished_run : c.deref.result.now ≡ leading = c.deref.ensures.value in
    let is : (set : ℕ → Bool) → later set ≡ ((conjuncts set && has_any set leading) && matches_set c.args.match_query set) =
    λ set. c.in_ok-add_conjunct-2.ensures.required set
    ∙ ap (λ b. b && matches_set c.args.match_query set) (c.in_ok-add_conjunct.ensures.required set
    ∙ ap (λ b. conjuncts set && b) (c.in_ok-any_string.ensures.required set ∙ ap (has_any set) finished_run)) in (
      subst (λ (ws : List (List ℕ)). IsQueryBeyondRun ws later (more t ts) ts) (sym c.in_ok-self.ensures)
          (query_past_cut leading conjuncts later t ts sequence_query.0 (λ set. matches_set c.args.match_query set)
          no_few match_query.matching match_query.selective is),
      trigrams_of_both (some_mentions c.add_conjunct.new.conjuncts.items) (mentions c.args.match_query)
          (some_mentions c.add_conjunct-2.new.conjuncts.items) (HaveMembers (more t ts)) (MayMatchSequence false (more t ts))
          c.in_ok-add_conjunct-2.ensures.mentioned
          (trigrams_of_both (some_mentions c.args.self.now.conjuncts.items) (mentions query)
          (some_mentions c.add_conjunct.new.conjuncts.items) (HaveMembers (more t ts)) (MayMatchSequence false (more t ts))
          c.in_ok-add_conjunct.ensures.mentioned (trigrams_of_rest (some_mentions c.args.self.now.conjuncts.items) t ts sequence_query.1)
          (trigrams_of_rest (mentions query) t ts (trigrams_of_run query ts leading sequence_query.0.run
          (subst (λ (ws : List (List ℕ)). MentionsOnly query (λ w. is_among ws w ≡ true)) finished_run
          c.in_ok-any_string.ensures.mentioned))))
          (trigrams_of_first (mentions c.args.match_query) t ts match_query.mentioned),
    )

pub returns-clause-small : goal.returns-clause-small
returns-clause-small c = λ t ts no_few match_query sequence_query small.
    let queries = c.args.self.now.conjuncts.items in
    let strings = leading_small 0 queries ts small c.args.self.now.leading.items sequence_query.0.run in
    small_past_cut queries t ts small c.add_conjunct-2.new.conjuncts.items (query_size c.args.match_query) no_few match_query.small
    (omega (
      arith,
      c.in_ok-add_conjunct-2.ensures.small,
      c.in_ok-add_conjunct.ensures.small,
      c.in_ok-any_string.ensures.small,
      ap (sum_by (λ string. length string - 1)) c.deref.ensures.value,
      strings,
    ))
