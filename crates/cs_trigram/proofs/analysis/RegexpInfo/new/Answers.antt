use Rattle.std.proofs.Common.{[], reverse, ap, ◌∙◌}
use Rattle.std.proofs.lemmas.Simd.{map-map}
use Rattle.cs_trigram.specs.EndStrings.{forward, backward, with_end_strings, whole_end}
use Rattle.cs_trigram.proofs.EndStringOriginLemmas.{end_strings_of_exact}
use Rattle.cs_trigram.proofs.NodeListLemmas.{none_of, some_of}
use Rattle.cs_trigram.proofs.analysis.RegexpInfo.new.Goals as goal

pub returns-in_default : goal.returns-in_default
returns-in_default c = λ t exact prefix suffix query.
    let many = none_of c.few_strings.result _ _ c.few_strings.ensures c.in_default.not-Some t exact in
    record {
      exact = exact;
      prefix = prefix;
      suffix = suffix;
      exact_prefix = λ few. absurd (many few);
      exact_suffix = λ few. absurd (many few);
      query = query many;
      required = λ few. absurd (many few);
    }

pub returns : goal.returns
returns c = λ t exact prefix suffix query.
    let few = some_of c.few_strings.result _ _ _ c.few_strings.ensures c.in-Some.is t exact in
    let texts = c.in-Some.few.now in
    let suffixes = c.in_ok-info.ensures.suffix ∙ ap (with_end_strings []) (map-map whole_end reverse texts) in
    let correct = c.in_ok-info.ensures.query t few in
    record {
      exact = exact;
      prefix = end_strings_of_exact forward texts _ t few c.in_ok-info.ensures.prefix;
      suffix = end_strings_of_exact backward texts _ t few suffixes;
      exact_prefix = λ _. (texts, few, c.in_ok-info.ensures.prefix);
      exact_suffix = λ _. (texts, few, suffixes);
      query = correct.0;
      required = λ _. correct.1;
    }
