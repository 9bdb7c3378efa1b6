use Rattle.std.proofs.Common.{Vec, Global, ap, ◌∙◌, arith}
use Rattle.std.proofs.lemmas.Grind.{common_steps}
use Rattle.cs_trigram.specs.declared.queries.Query.{Query}
use Rattle.cs_trigram.specs.Analysis.{some_matches, some_mentions}
use Rattle.std.specs.List.{sum_by}
use Rattle.cs_trigram.specs.Query.{query_size}
use Rattle.cs_trigram.proofs.SizeLemmas.{size-Or}
use Rattle.cs_trigram.proofs.QueryLemmas.{matches_set-Or, mentions-Or}
use Rattle.cs_trigram.proofs.queries.any_of.Goals as goal
use Rattle.cs_trigram.proofs.queries.any_of.Goals.{else-len-eq1-via-else-len-eq1, else-len-eq1-via-then-len-eq1+in-None-1}

pub returns-2-clause-required : goal.returns-2-clause-required
returns-2-clause-required c = λ set.
    elim c.else-len-eq1.branch [
      | else-len-eq1-via-else-len-eq1 w ↦ matches_set-Or set c.else-len-eq1.members
          ∙ ap (λ (v : Vec Query Global). some_matches v.items set) w.members-is
      | else-len-eq1-via-then-len-eq1+in-None-1 w ↦ absurd (grind (arith, common_steps))
    ]

pub returns-2-clause-small : goal.returns-2-clause-small
returns-2-clause-small c =
    elim c.else-len-eq1.branch [
      | else-len-eq1-via-else-len-eq1 w ↦ omega (
        arith,
        size-Or c.else-len-eq1.members,
        ap (λ (v : Vec Query Global). sum_by query_size v.items) w.members-is,
      )
      | else-len-eq1-via-then-len-eq1+in-None-1 w ↦ absurd (grind (arith, common_steps))
    ]

pub returns-2-clause-mentioned : goal.returns-2-clause-mentioned
returns-2-clause-mentioned c = λ g.
    elim c.else-len-eq1.branch [
      | else-len-eq1-via-else-len-eq1 w ↦ mentions-Or g c.else-len-eq1.members
          ∙ ap (λ (v : Vec Query Global). some_mentions v.items g) w.members-is
      | else-len-eq1-via-then-len-eq1+in-None-1 w ↦ absurd (grind (arith, common_steps))
    ]
