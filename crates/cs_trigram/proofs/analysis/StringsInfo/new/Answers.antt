use Rattle.std.proofs.Common.{ap, ◌∙◌}
use Rattle.cs_trigram.specs.EndStrings.{whole_ends}
use Rattle.cs_trigram.proofs.CorrectQueryLemmas.{correct_strings, string_required}
use Rattle.cs_trigram.proofs.analysis.StringsInfo.new.Goals as goal

pub returns-clause-suffix : goal.returns-clause-suffix
returns-clause-suffix c = c.in_ok-suffix.ensures ∙ ap whole_ends (c.deref.ensures.value ∙ c.in_ok-reversed.ensures)

pub returns-clause-query : goal.returns-clause-query
returns-clause-query c = λ t exact. (
  correct_strings _ _ t exact c.in_ok-query.ensures.required c.in_ok-query.ensures.mentioned c.in_ok-query.ensures.small,
  string_required _ _ t exact c.in_ok-query.ensures.required,
)
