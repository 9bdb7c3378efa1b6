use Rattle.std.proofs.Common.{◌≡◌, ◌++◌, sym, ap, ◌∙◌, subst}
use Rattle.std.proofs.lemmas.List.{nil_from_length}
use Rattle.std.specs.Vec.Iter.{into_iter_items}
use Rattle.cs_trigram.specs.EndStrings.{with_end_strings, AreCoarser}
use Rattle.cs_trigram.proofs.NodeListLemmas.{if_ok}
use Rattle.cs_trigram.proofs.TruncationLemmas.{coarser_both, coarser_with}
use Rattle.cs_trigram.proofs.end_strings.union_of_end_strings.Goals as goal

pub returns : goal.returns
returns c =
    let one = c.args.end_strings.items in
    let more = c.args.more.items in
    let both = c.loop-end_string.both.items in
    let all : with_end_strings one more ≡ both = sym c.loop-end_string.invariant.added
    ∙ ap (with_end_strings both) (nil_from_length (into_iter_items c.loop-end_string.end_string-iterator)
    (c.loop-end_string.invariant.left ∙ c.in-None.ensures.steps.0)) in
    if_ok c.simplify_set.result _ _ c.simplify_set.ensures
    (λ cut coarser. coarser_both cut.items both (one ++ more) coarser
    (subst (λ xs. AreCoarser xs (one ++ more)) all (coarser_with one more)))
