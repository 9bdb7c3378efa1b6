use Rattle.std.proofs.Common.{List, sym, subst}
use Rattle.cs_syntax.specs.Matching.{rep}
use Rattle.cs_trigram.specs.EndStrings.{forward, backward, AreEndStrings}
use Rattle.cs_trigram.specs.declared.end_strings.EndString.{EndString}
use Rattle.cs_trigram.proofs.NodeListLemmas.{if_ok}
use Rattle.cs_trigram.proofs.analysis.RegexpInfo.of_repeat.Goals as goal

pub returns : goal.returns
returns c =
    if_ok c.new.result _ _ c.new.ensures
    (λ _ right. λ t once.
    right (rep t c.args.least c.args.most) (c.in_ok-exact.ensures t once.exact)
    (c.in_ok-prefix.ensures forward t (subst (λ (es : List EndString). AreEndStrings forward es t)
    (sym c.deref.ensures.value) once.prefix) c.args.most)
    (c.in_ok-suffix.ensures backward t (subst (λ (es : List EndString). AreEndStrings backward es t)
    (sym c.deref-2.ensures.value) once.suffix) c.args.most)
    (c.query_of_repeat-query.ensures t c.args.most once.query))
