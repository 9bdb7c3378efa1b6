use Rattle.std.proofs.Common.{◌∷◌, [], List, length, get_or, ap, sym, subst, ◌∙◌, arith, length-append}
use Rattle.std.proofs.lemmas.List.{get_or_default}
use Rattle.cs_prefilter.specs.declared.comparing.Prefix.{Prefix}
use Rattle.cs_prefilter.specs.Prefixes.{IsPrefixOf}
use Rattle.cs_prefilter.proofs.PrefixLemmas.{prefixes_more}
use Rattle.cs_prefilter.proofs.comparing.WordList.of.Goals as goal

pub loop-word-preserved : goal.loop-word-preserved
loop-word-preserved c =
    let words = c.deref-word-items.result.now in
    let prefixes = c.loop-word.prefixes.items in
    let n = c.loop-word.word-index in
    let pushed = c.in_ok-push.ensures.items in
    record {
      same = omega (arith, ap (λ (l : List Prefix). length l) pushed, length-append prefixes (c.of.result ∷ []), c.loop-word.invariant.same);
      each = λ i d e lt.
          subst (λ (l : List Prefix). IsPrefixOf (get_or words i d) (get_or l i e)) (sym pushed)
          (prefixes_more words prefixes n c.word-item.result c.of.result c.loop-word.invariant.same c.loop-word.invariant.each
          (λ d. sym (c.word-item.is ∙ get_or_default words n c.word-item.result d c.loop-word-test.true)) c.of.ensures i d e lt);
    }
