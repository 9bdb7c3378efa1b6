use Rattle.std.proofs.Common.{sym, subst, arith}
use Rattle.cs_trigram.specs.ExactQuery.{HasFewExactStrings, RequiresExactString}
use Rattle.cs_syntax.specs.Node.{tree_of}
use Rattle.cs_trigram.specs.Query.{IsSmall}
use Rattle.cs_trigram.specs.ExactRuns.{IsSelective}
use Rattle.cs_trigram.specs.MayMatch.{MentionsTrigramsOf}
use Rattle.cs_trigram.proofs.analysis.query.Goals as goal

pub returns-clause-selective : goal.returns-clause-selective
returns-clause-selective c = subst (IsSelective c.in_ok-analyze.field-0.query) c.tree.ensures.tree c.in_ok-analyze.ensures.query.selective

pub returns-clause-exact : goal.returns-clause-exact
returns-clause-exact c = λ few.
    let is = c.tree.ensures.tree in
    subst (RequiresExactString c.in_ok-analyze.field-0.query) is (c.in_ok-analyze.ensures.required (subst HasFewExactStrings (sym is) few))

pub returns-clause-mentioned : goal.returns-clause-mentioned
returns-clause-mentioned c =
    subst (MentionsTrigramsOf c.in_ok-analyze.field-0.query) c.tree.ensures.tree
    (λ members g h. (c.in_ok-analyze.ensures.query.mentioned g h).1 members)

pub returns-clause-numbers : goal.returns-clause-numbers
returns-clause-numbers c = λ g h. (c.in_ok-analyze.ensures.query.mentioned g h).0

pub returns-clause-small : goal.returns-clause-small
returns-clause-small c =
    let query = c.in_ok-analyze.field-0.query in
    let small : IsSmall query (tree_of c.tree.result.now) = omega (arith, c.in_ok-analyze.ensures.query.small) in
    subst (IsSmall query) c.tree.ensures.tree small
