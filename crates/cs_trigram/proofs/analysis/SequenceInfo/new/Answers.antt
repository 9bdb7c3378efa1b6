use Rattle.std.proofs.Common.{sym, subst}
use Rattle.cs_syntax.specs.Matching.{cat, none}
use Rattle.cs_trigram.specs.Analysis.{EnumeratesTree}
use Rattle.cs_trigram.specs.EndStrings.{forward, backward}
use Rattle.cs_trigram.proofs.LeadingRunLemmas.{empty_run_strings}
use Rattle.cs_trigram.proofs.EndStringOriginLemmas.{empty_end_strings}
use Rattle.cs_trigram.proofs.RunPrefixLemmas.{begins_none}
use Rattle.cs_trigram.proofs.analysis.SequenceInfo.new.Goals as goal

pub returns : goal.returns
returns c = record {
  exact = c.of-exact.ensures (cat none) (subst (λ ws. EnumeratesTree ws (cat none)) (sym c.in_ok-empty_string.ensures)
      empty_run_strings.are);
  prefix = empty_end_strings forward _ c.in_ok-prefix.ensures;
  suffix = empty_end_strings backward _ c.in_ok-suffix.ensures;
  begin = begins_none _;
  parts = c.in_ok-sequence_query.ensures.parts;
  required = c.in_ok-sequence_query.ensures.required;
  small = c.in_ok-sequence_query.ensures.small;
}
