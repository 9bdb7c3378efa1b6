use Rattle.std.proofs.Common.{◌≡◌, List, ℕ, sym, ◌∙◌, subst}
use Rattle.std.proofs.lemmas.List.{map-id}
use Rattle.cs_syntax.specs.Matching.{alt, more}
use Rattle.cs_trigram.specs.Analysis.{EnumeratesTree, with_strings}
use Rattle.cs_trigram.specs.ExactSet.{IsExactSetOf}
use Rattle.cs_trigram.specs.declared.exact_set.ExactSet.{ExactSet}
use Rattle.cs_trigram.proofs.LeadingRunLemmas.{alternation_step}
use Rattle.cs_trigram.proofs.exact_set.ExactSet.union.Goals as goal

pub returns : goal.returns
returns c = λ t ts strings others.
    let us = c.in-Strings.strings.items in
    let vs = c.in-Strings-others.others.items in
    let others_copied = c.in_ok-all.ensures ∙ map-id c.deref.result.now ∙ c.deref.ensures.value in
    let added = map-id c.deref-2.result.now ∙ c.deref-2.ensures.value in
    let same : c.add_concatenations.new.strings.items ≡ with_strings vs us = c.in_ok-add_concatenations.ensures
    ∙ (λ i. with_strings (others_copied i) (added i)) in
    c.of.ensures (alt (more t ts))
    (subst (λ (ws : List (List ℕ)). EnumeratesTree ws (alt (more t ts))) (sym same)
    (alternation_step t ts us vs (subst (λ (x : ExactSet). IsExactSetOf x t) c.in-Strings.is strings).1
    (subst (λ (x : ExactSet). IsExactSetOf x (alt ts)) c.in-Strings-others.is others).1))
