use Rattle.std.proofs.Common.{List, sym, subst}
use Rattle.cs_syntax.specs.Matching.{cat}
use Rattle.cs_trigram.specs.EndStrings.{forward, backward, AreEndStrings}
use Rattle.cs_trigram.specs.declared.end_strings.EndString.{EndString}
use Rattle.cs_trigram.specs.SequenceQuery.{AreExactEnds, BeginRuns}
use Rattle.cs_trigram.proofs.RunPrefixLemmas.{begins_more}
use Rattle.cs_trigram.proofs.TruncationLemmas.{concatenations_via}
use Rattle.cs_trigram.proofs.EndStringOriginLemmas.{prefixes_before, suffixes_before}
use Rattle.cs_trigram.proofs.analysis.SequenceInfo.add.Goals as goal

pub returns : goal.returns
returns c = λ t ts part info.
    let this = c.args.part in
    let rest = c.args.self.now in
    let suffixes = subst (λ (es : List EndString). AreEndStrings backward es t) (sym c.deref.ensures.value) part.suffix in
    let prefixes = subst (λ (es : List EndString). AreEndStrings forward es (cat ts)) (sym c.deref-2.ensures.value) info.prefix in
    let exact_suffixes = subst (λ (es : List EndString). AreExactEnds backward es t) (sym c.deref.ensures.value) part.exact_suffix in
    let begin = subst (λ (es : List EndString). BeginRuns es ts) (sym c.deref-2.ensures.value) info.begin in
    record {
      exact = c.in_ok-self.ensures t ts part.exact info.exact;
      prefix = prefixes_before this.prefix.items rest.prefix.items c.in_ok-self-2.field-0.items t ts
          (concatenations_via _ _ _ _ _ c.deref-3.ensures.value c.deref-4.ensures.value c.in_ok-self-2.ensures.all) part.prefix info.prefix;
      suffix = suffixes_before rest.suffix.items this.suffix.items c.in_ok-self-3.field-0.items t ts
          (concatenations_via _ _ _ _ _ c.deref-5.ensures.value c.deref-6.ensures.value c.in_ok-self-3.ensures.all) part.suffix info.suffix;
      begin = begins_more c.deref-3.result.now c.deref-4.result.now t ts
          (subst (λ (es : List EndString). AreExactEnds forward es t) (sym c.deref-3.ensures.value) part.exact_prefix)
          (subst (λ (es : List EndString). BeginRuns es ts) (sym c.deref-4.ensures.value) info.begin) c.in_ok-self-2.field-0.items c.in_ok-self-2.ensures.long;
      parts = c.in_ok-add.ensures.parts t ts part.exact info.parts;
      required = c.in_ok-add.ensures.required t ts part.exact part.query suffixes prefixes exact_suffixes begin info.parts info.required;
      small = c.in_ok-add.ensures.small t ts part.exact part.query info.required info.small;
    }
