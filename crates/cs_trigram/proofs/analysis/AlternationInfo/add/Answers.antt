use Rattle.std.proofs.Common.{List, sym, subst}
use Rattle.cs_syntax.specs.Matching.{more}
use Rattle.cs_trigram.specs.EndStrings.{forward, backward}
use Rattle.cs_trigram.specs.Analysis.{AreCorrect}
use Rattle.cs_trigram.specs.declared.queries.Query.{Query}
use Rattle.cs_trigram.proofs.EndStringOriginLemmas.{end_strings_of_branches}
use Rattle.cs_trigram.proofs.CorrectQueryLemmas.{right_more}
use Rattle.cs_trigram.proofs.analysis.AlternationInfo.add.Goals as goal

pub returns : goal.returns
returns c = λ t ts branch info.
    let before = c.args.self.now in
    let this = c.args.branch in
    record {
      exact = c.in_ok-self.ensures t ts branch.exact info.exact;
      prefix = end_strings_of_branches forward before.prefix.items this.prefix.items _ t ts
          c.in_ok-add_end_strings.ensures branch.prefix info.prefix;
      suffix = end_strings_of_branches backward before.suffix.items this.suffix.items _ t ts
          c.in_ok-add_end_strings-2.ensures branch.suffix info.suffix;
      members = subst (λ (qs : List Query). AreCorrect qs (more t ts)) (sym c.in_ok-push.ensures.items)
          (right_more _ _ t ts branch.query info.members);
    }
