use Rattle.std.proofs.Common.{◌*◌, ◌≤◌, length, sym, ◌∙◌, arith}
use Rattle.cs_trigram.proofs.NodeListLemmas.{if_ok}
use Rattle.cs_trigram.proofs.SizeLemmas.{short_as}
use Rattle.cs_trigram.proofs.TruncationLemmas.{coarser_as}
use Rattle.cs_trigram.proofs.CrossProductLemmas.{coarser_query, as_many_pairs, pairs_of_product, pairs_of_split}
use Rattle.cs_trigram.proofs.end_strings.cross_product_query.Goals as goal

pub returns-then-count_concatenations-gt-MAX_WHOLE_CONCATENATIONS-clause-across :
    goal.returns-then-count_concatenations-gt-MAX_WHOLE_CONCATENATIONS-clause-across
returns-then-count_concatenations-gt-MAX_WHOLE_CONCATENATIONS-clause-across c =
    let suffixes = c.args.suffixes.now in
    let prefixes = c.args.prefixes.now in
    let last = c.deref-then-count_concatenations-gt-MAX_WHOLE_CONCATENATIONS in
    let first = c.deref-then-count_concatenations-gt-MAX_WHOLE_CONCATENATIONS-2 in
    if_ok c.split_product_query.result _ _ c.split_product_query.ensures.across
    (λ q. coarser_query q last.result.now first.result.now suffixes prefixes
    (coarser_as 2 last.result.now suffixes (last.ensures.value ∙ c.in_ok-suffixes.ensures))
    (coarser_as 2 first.result.now prefixes (first.ensures.value ∙ c.in_ok-prefixes.ensures)))

pub returns-clause-across : goal.returns-clause-across
returns-clause-across c =
    let suffixes = c.args.suffixes.now in
    let prefixes = c.args.prefixes.now in
    let last = c.deref-3 in
    let first = c.deref-4 in
    if_ok c.product_query.result _ _ c.product_query.ensures.across
    (λ q. coarser_query q last.result.now first.result.now suffixes prefixes
    (coarser_as 2 last.result.now suffixes (last.ensures.value ∙ c.in_ok-suffixes.ensures))
    (coarser_as 2 first.result.now prefixes (first.ensures.value ∙ c.in_ok-prefixes.ensures)))

pub returns-then-count_concatenations-gt-MAX_WHOLE_CONCATENATIONS-clause-asked :
    goal.returns-then-count_concatenations-gt-MAX_WHOLE_CONCATENATIONS-clause-asked
returns-then-count_concatenations-gt-MAX_WHOLE_CONCATENATIONS-clause-asked c =
    let last = c.deref-then-count_concatenations-gt-MAX_WHOLE_CONCATENATIONS in
    let first = c.deref-then-count_concatenations-gt-MAX_WHOLE_CONCATENATIONS-2 in
    let same = as_many_pairs c.deref.result.now c.deref-2.result.now last.result.now first.result.now
    (c.deref.ensures.value ∙ sym last.ensures.value) (c.deref-2.ensures.value ∙ sym first.ensures.value) in
    if_ok c.split_product_query.result _ _ c.split_product_query.ensures.asked
    (λ q asked. λ set matches.
    pairs_of_split set c.args.suffixes.now c.args.prefixes.now last.result.now first.result.now
    (last.ensures.value ∙ c.in_ok-suffixes.ensures) (first.ensures.value ∙ c.in_ok-prefixes.ensures)
    (omega (arith, c.count_concatenations.ensures, same)) (asked set matches))

pub returns-clause-asked : goal.returns-clause-asked
returns-clause-asked c =
    let last = c.deref-3 in
    let first = c.deref-4 in
    let same = as_many_pairs c.deref.result.now c.deref-2.result.now last.result.now first.result.now
    (c.deref.ensures.value ∙ sym last.ensures.value) (c.deref-2.ensures.value ∙ sym first.ensures.value) in
    let few : length last.result.now * length first.result.now ≤ 64 = omega (arith, c.count_concatenations.ensures, same) in
    if_ok c.product_query.result _ _ c.product_query.ensures.asked
    (λ q asked. λ set matches.
    pairs_of_product set c.args.suffixes.now c.args.prefixes.now last.result.now first.result.now
    (last.ensures.value ∙ c.in_ok-suffixes.ensures) (first.ensures.value ∙ c.in_ok-prefixes.ensures)
    few (asked set matches (omega (arith, few))))

pub returns-then-count_concatenations-gt-MAX_WHOLE_CONCATENATIONS-clause-small :
    goal.returns-then-count_concatenations-gt-MAX_WHOLE_CONCATENATIONS-clause-small
returns-then-count_concatenations-gt-MAX_WHOLE_CONCATENATIONS-clause-small c =
    let last = c.deref-then-count_concatenations-gt-MAX_WHOLE_CONCATENATIONS in
    let first = c.deref-then-count_concatenations-gt-MAX_WHOLE_CONCATENATIONS-2 in
    if_ok c.split_product_query.result _ _ c.split_product_query.ensures.small
    (λ q small. small (short_as 2 last.result.now c.args.suffixes.now (last.ensures.value ∙ c.in_ok-suffixes.ensures))
    (short_as 2 first.result.now c.args.prefixes.now (first.ensures.value ∙ c.in_ok-prefixes.ensures)))

pub returns-clause-small : goal.returns-clause-small
returns-clause-small c =
    let last = c.deref-3 in
    let first = c.deref-4 in
    if_ok c.product_query.result _ _ c.product_query.ensures.small
    (λ q small.
    let le = small 2 2 (short_as 2 last.result.now c.args.suffixes.now (last.ensures.value ∙ c.in_ok-suffixes.ensures))
    (short_as 2 first.result.now c.args.prefixes.now (first.ensures.value ∙ c.in_ok-prefixes.ensures)) in
    omega (arith, le))
