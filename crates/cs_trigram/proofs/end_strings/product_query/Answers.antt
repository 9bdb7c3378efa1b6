use Rattle.std.proofs.Common.{ℕ, ◌-◌, List, true, ◌≡◌, sym, ◌∙◌, ap, refl, subst, length, arith}
use Rattle.std.specs.List.{sum_by}
use Rattle.cs_tree.specs.Cover.{is_among}
use Rattle.cs_trigram.specs.Analysis.{has_any}
use Rattle.cs_trigram.specs.SequenceQuery.{IsAcross}
use Rattle.cs_trigram.specs.Query.{mentions}
use Rattle.cs_trigram.proofs.NodeListLemmas.{if_ok, if_ok_both}
use Rattle.cs_trigram.proofs.MentionLemmas.{trigrams_within, occurs_itself}
use Rattle.cs_trigram.proofs.SizeLemmas.{few_pairs}
use Rattle.cs_trigram.proofs.CrossProductLemmas.{pair_found, pairs_across}
use Rattle.cs_trigram.proofs.end_strings.product_query.Goals as goal

pub returns-clause-across : goal.returns-clause-across
returns-clause-across c =
    let suffixes = c.args.suffixes.now in
    let prefixes = c.args.prefixes.now in
    let all = c.deref.ensures.value ∙ c.in_ok-all_pairs.ensures in
    if_ok_both c.any_string.result _ _ _ c.any_string.ensures.required c.any_string.ensures.mentioned
    (λ q required only. record {
      required = λ set u v a b has. required set ∙ ap (has_any set) all ∙ pair_found set suffixes prefixes u v a b has;
      mentioned =
          trigrams_within (mentions q) (Unit {0}) (Unit {0}) (λ w. is_among c.deref.result.now w ≡ true)
          (IsAcross suffixes prefixes) only (λ b. b)
          (λ b w m. (
            w,
            pairs_across suffixes prefixes w (subst (λ (ws : List (List ℕ)). is_among ws w ≡ true) all m),
            occurs_itself w w refl,
          ));
    })

pub returns-clause-asked : goal.returns-clause-asked
returns-clause-asked c =
    let all = c.deref.ensures.value ∙ c.in_ok-all_pairs.ensures in
    if_ok c.any_string.result _ _ c.any_string.ensures.required
    (λ q required. λ set matches few. sym (required set ∙ ap (has_any set) all) ∙ matches)

pub returns-clause-small : goal.returns-clause-small
returns-clause-small c =
    let suffixes = c.args.suffixes.now in
    let prefixes = c.args.prefixes.now in
    let all = c.deref.ensures.value ∙ c.in_ok-all_pairs.ensures in
    if_ok c.any_string.result _ _ c.any_string.ensures.small
    (λ q small. λ a b last first.
    let pairs_small = few_pairs a b prefixes first suffixes last (omega (arith, c.count_concatenations.ensures)) in
    omega (arith, small, ap (sum_by (λ string. length string - 1)) all, pairs_small))
