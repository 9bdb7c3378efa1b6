use Rattle.std.proofs.Common.{◌≡◌, ◌∙◌, List, length, true, sym, ap, subst, arith}
use Rattle.std.proofs.lemmas.Bool.{and_from, and_parts}
use Rattle.std.proofs.lemmas.Nat.{mul-le}
use Rattle.std.specs.List.{sum_by}
use Rattle.cs_trigram.specs.Query.{matches_set, mentions, query_size}
use Rattle.cs_trigram.specs.Analysis.{all_match, some_mentions, has_any}
use Rattle.cs_trigram.specs.EndStrings.{all_truncated}
use Rattle.cs_trigram.specs.SequenceQuery.{IsAcross, pairs}
use Rattle.cs_trigram.specs.declared.end_strings.EndString.{EndString}
use Rattle.cs_trigram.specs.declared.queries.Query.{Query}
use Rattle.cs_trigram.proofs.QueryLemmas.{matches_set-And, mentions-And}
use Rattle.cs_trigram.proofs.SizeLemmas.{size-And, short_as}
use Rattle.cs_trigram.proofs.MentionLemmas.{no_trigrams, trigrams_of_both}
use Rattle.cs_trigram.proofs.TruncationLemmas.{coarser_same, coarser_as, truncated_not_more}
use Rattle.cs_trigram.proofs.CrossProductLemmas.{coarser_query}
use Rattle.cs_trigram.proofs.end_strings.split_product_query.Goals as goal

pub returns-clause-across : goal.returns-clause-across
returns-clause-across c =
    let suffixes = c.args.suffixes.now in
    let prefixes = c.args.prefixes.now in
    let conjuncts = c.new-conjuncts.result.items in
    let next = c.add_conjunct.new.conjuncts.items in
    let first = coarser_as 1 c.deref.result.now prefixes (c.deref.ensures.value ∙ c.in_ok-first.ensures) in
    let last = coarser_as 1 c.deref-2.result.now suffixes (c.deref-2.ensures.value ∙ c.in_ok-last.ensures) in
    let one = coarser_query c.in_ok-product_query.field-0 suffixes c.deref.result.now suffixes prefixes
    (coarser_same suffixes) first c.in_ok-product_query.ensures.across in
    let other = coarser_query c.in_ok-product_query-2.field-0 c.deref-2.result.now prefixes suffixes prefixes last
    (coarser_same prefixes) c.in_ok-product_query-2.ensures.across in
    record {
      required = λ set u v a b has.
          let none : all_match conjuncts set ≡ true = ap (λ (qs : List Query). all_match qs set) c.new-conjuncts.ensures.items in
          matches_set-And set c.add_conjunct-2.new.conjuncts ∙ c.in_ok-add_conjunct-2.ensures.required set
          ∙ and_from (all_match next set) (matches_set c.in_ok-product_query-2.field-0 set)
          (c.in_ok-add_conjunct.ensures.required set
          ∙ and_from (all_match conjuncts set) (matches_set c.in_ok-product_query.field-0 set) none
          (one.required set u v a b has))
          (other.required set u v a b has);
      mentioned = λ g h.
          let P = IsAcross suffixes prefixes in
          let none = no_trigrams (some_mentions conjuncts) (Unit {0}) P
          (λ n. ap (λ (qs : List Query). some_mentions qs n) c.new-conjuncts.ensures.items) in
          trigrams_of_both _ (mentions c.in_ok-product_query-2.field-0)
          (some_mentions c.add_conjunct-2.new.conjuncts.items) (Unit {0}) P c.in_ok-add_conjunct-2.ensures.mentioned
          (trigrams_of_both _ (mentions c.in_ok-product_query.field-0) (some_mentions next) (Unit {0}) P
          c.in_ok-add_conjunct.ensures.mentioned none one.mentioned) other.mentioned
          g (sym (mentions-And g c.add_conjunct-2.new.conjuncts) ∙ h);
    }

pub returns-clause-asked : goal.returns-clause-asked
returns-clause-asked c = λ set matches few.
    let suffixes = c.args.suffixes.now in
    let prefixes = c.args.prefixes.now in
    let next = c.add_conjunct.new.conjuncts.items in
    let first : c.deref.result.now ≡ all_truncated 1 prefixes = c.deref.ensures.value ∙ c.in_ok-first.ensures in
    let last : c.deref-2.result.now ≡ all_truncated 1 suffixes = c.deref-2.ensures.value ∙ c.in_ok-last.ensures in
    let both = and_parts (all_match next set) (matches_set c.in_ok-product_query-2.field-0 set)
    (sym (matches_set-And set c.add_conjunct-2.new.conjuncts ∙ c.in_ok-add_conjunct-2.ensures.required set) ∙ matches) in
    let one = and_parts (all_match c.new-conjuncts.result.items set) (matches_set c.in_ok-product_query.field-0 set)
    (sym (c.in_ok-add_conjunct.ensures.required set) ∙ both.0) in
    let few_first = mul-le (length suffixes) (length c.deref.result.now) (length suffixes) (length prefixes) (omega arith)
    (omega (arith, ap length first, truncated_not_more 1 prefixes)) in
    let few_last = mul-le (length c.deref-2.result.now) (length prefixes) (length suffixes) (length prefixes)
    (omega (arith, ap length last, truncated_not_more 1 suffixes)) (omega arith) in (
      subst (λ (es : List EndString). has_any set (pairs suffixes es) ≡ true) first
          (c.in_ok-product_query.ensures.asked set one.1 (omega (arith, few_first, few))),
      subst (λ (es : List EndString). has_any set (pairs es prefixes) ≡ true) last
          (c.in_ok-product_query-2.ensures.asked set both.1 (omega (arith, few_last, few))),
    )

pub returns-clause-small : goal.returns-clause-small
returns-clause-small c = λ suffixes prefixes.
    let one = c.in_ok-product_query.ensures.small 2 1 suffixes
    (short_as 1 c.deref.result.now c.args.prefixes.now (c.deref.ensures.value ∙ c.in_ok-first.ensures)) in
    let other = c.in_ok-product_query-2.ensures.small 1 2
    (short_as 1 c.deref-2.result.now c.args.suffixes.now (c.deref-2.ensures.value ∙ c.in_ok-last.ensures)) prefixes in
    omega (
      arith,
      one,
      other,
      size-And c.add_conjunct-2.new.conjuncts,
      c.in_ok-add_conjunct.ensures.small,
      c.in_ok-add_conjunct-2.ensures.small,
      ap (sum_by query_size) c.new-conjuncts.ensures.items,
    )
