use Rattle.std.proofs.Common.{false, ◌≡◌, ◌&&◌, ◌-◌, ◌≤◌, ℕ, Bool, List, [], length, sym, ap, ◌∙◌, subst, arith, true}
use Rattle.cs_tree.specs.Cover.{is_among}
use Rattle.cs_tree.specs.Folders.{are_distinct}
use Rattle.cs_syntax.specs.Matching.{more}
use Rattle.std.specs.List.{sum_by}
use Rattle.cs_trigram.specs.Query.{mentions}
use Rattle.cs_trigram.specs.MayMatch.{MayMatchSequence, HaveMembers}
use Rattle.cs_trigram.specs.ExactSet.{AreExactSetsReversed}
use Rattle.cs_trigram.specs.Analysis.{IsQueryBeyondRun, IsLongestLeadingRun, MentionsOnly, all_match, some_mentions, has_any, with_strings, concatenations}
use Rattle.cs_trigram.specs.declared.exact_set.ExactSet.{ExactSet}
use Rattle.cs_trigram.proofs.MentionLemmas.{trigrams_of_both}
use Rattle.cs_trigram.proofs.SequenceMentionLemmas.{trigrams_of_run, trigrams_of_rest}
use Rattle.cs_trigram.proofs.SmallQueryLemmas.{leading_small, two_strings, small_past_few, small_past_run}
use Rattle.cs_trigram.proofs.SequenceQueryLemmas.{query_past_few, query_past_run, few_tree}
use Rattle.cs_trigram.proofs.sequence_query.SequenceQuery.prepend_few.Goals as goal

pub returns-then-len-le-MAX_EXACT-clause-required : goal.returns-then-len-le-MAX_EXACT-clause-required
returns-then-len-le-MAX_EXACT-clause-required c = λ t ts strings parts sequence_query.
    let leading = c.args.self.now.leading.items in
    let conjuncts : (ℕ → Bool) → Bool = λ set. all_match c.args.self.now.conjuncts.items set in
    let us = c.args.strings.now in
    let same : c.in_ok-longer.longer.items ≡ with_strings [] (concatenations us leading) =
    c.in_ok-longer.ensures (subst (λ (vs : List (List ℕ)). are_distinct vs ≡ true) (sym c.deref.ensures.value)
    sequence_query.0.run.exact.are.1.different)
    (subst (λ (vs : List (List ℕ)). length vs ≤ 20) (sym c.deref.ensures.value) sequence_query.0.run.exact.few)
    ∙ ap (λ (vs : List (List ℕ)). with_strings [] (concatenations us vs)) c.deref.ensures.value in
    let few : length (with_strings [] (concatenations us leading)) ≤ 20 = subst (λ (ws : List (List ℕ)). length ws ≤ 20)
    same (omega arith) in (
      subst (λ (ws : List (List ℕ)). IsQueryBeyondRun ws conjuncts (more t ts) ts) (sym same)
          (query_past_few leading conjuncts conjuncts t ts sequence_query.0 us strings few),
      trigrams_of_rest (some_mentions c.args.self.now.conjuncts.items) t ts sequence_query.1,
    )

pub returns-clause-required : goal.returns-clause-required
returns-clause-required c = λ t ts strings parts sequence_query.
    let query = c.in_ok-any_string.field-0 in
    let leading = c.args.self.now.leading.items in
    let conjuncts : (ℕ → Bool) → Bool = λ set. all_match c.args.self.now.conjuncts.items set in
    let later : (ℕ → Bool) → Bool = λ set. all_match c.add_conjunct.new.conjuncts.items set in
    let finished_run : c.deref-2.result.now ≡ leading = c.deref-2.ensures.value in
    let added : (set : ℕ → Bool) → later set ≡ (conjuncts set && has_any set leading) =
    λ set. c.in_ok-add_conjunct.ensures.required set
    ∙ ap (λ b. conjuncts set && b) (c.in_ok-any_string.ensures.required set ∙ ap (has_any set) finished_run) in
    let behind : AreExactSetsReversed c.deref-3.result.now ts =
    subst (λ (cs : List ExactSet). AreExactSetsReversed cs ts) (sym c.deref-3.ensures.value) parts in
    let longest : IsLongestLeadingRun (more t ts) c.in_ok-self.field-0.items = c.in_ok-self.ensures t ts strings behind in (
      query_past_run leading conjuncts later t ts sequence_query.0 c.in_ok-self.field-0.items longest
          (few_tree c.args.strings.now t strings) added,
      trigrams_of_both (some_mentions c.args.self.now.conjuncts.items) (mentions query)
          (some_mentions c.add_conjunct.new.conjuncts.items) (HaveMembers (more t ts)) (MayMatchSequence false (more t ts))
          c.in_ok-add_conjunct.ensures.mentioned (trigrams_of_rest (some_mentions c.args.self.now.conjuncts.items) t ts sequence_query.1)
          (trigrams_of_rest (mentions query) t ts (trigrams_of_run query ts leading sequence_query.0.run
          (subst (λ (ws : List (List ℕ)). MentionsOnly query (λ w. is_among ws w ≡ true)) finished_run
          c.in_ok-any_string.ensures.mentioned))),
    )

pub returns-then-len-le-MAX_EXACT-clause-small : goal.returns-then-len-le-MAX_EXACT-clause-small
returns-then-len-le-MAX_EXACT-clause-small c = λ t ts strings sequence_query small.
    small_past_few c.args.self.now.conjuncts.items t ts small c.args.strings.now strings

pub returns-clause-small : goal.returns-clause-small
returns-clause-small c = λ t ts strings sequence_query small.
    let leading = c.args.self.now.leading.items in
    let queries = c.args.self.now.conjuncts.items in
    let us = c.args.strings.now in
    let exact = sequence_query.0.run.exact in
    let same : c.in_ok-longer.longer.items ≡ with_strings [] (concatenations us leading) =
    c.in_ok-longer.ensures (subst (λ (vs : List (List ℕ)). are_distinct vs ≡ true) (sym c.deref.ensures.value) exact.are.1.different)
    (subst (λ (vs : List (List ℕ)). length vs ≤ 20) (sym c.deref.ensures.value) exact.few)
    ∙ ap (λ (vs : List (List ℕ)). with_strings [] (concatenations us vs)) c.deref.ensures.value in
    let two = two_strings us leading strings.are.1.different exact.few (omega (arith, ap length same)) in
    let cost = leading_small 0 queries ts small leading sequence_query.0.run in
    small_past_run queries t ts small c.add_conjunct.new.conjuncts.items two.0 two.1
    (strings.are.1.right two.0 two.2) (strings.are.1.right two.1 two.3) two.4
    (omega (
      arith,
      c.in_ok-add_conjunct.ensures.small,
      c.in_ok-any_string.ensures.small,
      ap (sum_by (λ string. length string - 1)) c.deref-2.ensures.value,
      cost,
    ))
