use Rattle.std.proofs.Common.{false, ◌≡◌, ◌&&◌, ◌-◌, ℕ, Bool, true, List, length, sym, ap, ◌∙◌, subst, arith}
use Rattle.std.specs.List.{sum_by}
use Rattle.cs_tree.specs.Cover.{is_among}
use Rattle.cs_trigram.specs.Query.{matches_set, mentions}
use Rattle.cs_trigram.specs.MayMatch.{MayMatchSequence, HaveMembers}
use Rattle.cs_trigram.specs.Analysis.{MentionsOnly, all_match, some_mentions, has_any}
use Rattle.cs_trigram.specs.declared.queries.Query.TheVariants.{And}
use Rattle.cs_trigram.proofs.QueryLemmas.{matches_set-And, mentions-And}
use Rattle.cs_trigram.proofs.MentionLemmas.{trigrams_of_both}
use Rattle.cs_trigram.proofs.SequenceMentionLemmas.{trigrams_of_run}
use Rattle.cs_trigram.proofs.SizeLemmas.{size-And}
use Rattle.cs_trigram.proofs.SmallQueryLemmas.{leading_small, last_in_sum}
use Rattle.cs_trigram.proofs.SequenceQueryLemmas.{query_of_whole}
use Rattle.cs_trigram.proofs.sequence_query.SequenceQuery.finish.Goals as goal

pub returns : goal.returns
returns c = λ ts sequence_query small many.
    let leading = c.args.self.leading.items in
    let conjuncts : (ℕ → Bool) → Bool = λ set. all_match c.args.self.conjuncts.items set in
    let whole : (ℕ → Bool) → Bool = λ set. matches_set (And c.add_conjunct.new.conjuncts) set in
    let is : (set : ℕ → Bool) → whole set ≡ (conjuncts set && has_any set leading) =
    λ set. matches_set-And set c.add_conjunct.new.conjuncts ∙ c.in_ok-add_conjunct.ensures.required set
    ∙ ap (λ b. conjuncts set && b) (c.in_ok-last.ensures.required set ∙ ap (has_any set) c.deref.ensures.value) in
    let right = query_of_whole leading conjuncts whole ts sequence_query.0 is in
    record {
      matching = right.0;
      selective = λ set h. (λ few. absurd (many few), right.1 set h);
      mentioned = λ g h.
          trigrams_of_both (some_mentions c.args.self.conjuncts.items) (mentions c.in_ok-last.last)
          (some_mentions c.add_conjunct.new.conjuncts.items) (HaveMembers ts) (MayMatchSequence false ts)
          c.in_ok-add_conjunct.ensures.mentioned sequence_query.1
          (trigrams_of_run c.in_ok-last.last ts leading sequence_query.0.run
          (subst (λ (ws : List (List ℕ)). MentionsOnly c.in_ok-last.last (λ w. is_among ws w ≡ true))
          c.deref.ensures.value c.in_ok-last.ensures.mentioned))
          g (sym (mentions-And g c.add_conjunct.new.conjuncts) ∙ h);
      small =
          let strings = leading_small 0 c.args.self.conjuncts.items ts small leading sequence_query.0.run in
          omega (
            arith,
            small.within,
            size-And c.add_conjunct.new.conjuncts,
            c.in_ok-add_conjunct.ensures.small,
            c.in_ok-last.ensures.small,
            ap (sum_by (λ string. length string - 1)) c.deref.ensures.value,
            strings,
            last_in_sum small.heaviest 19,
          );
    }
