use Rattle.std.proofs.Common.{◌+◌, ◌∙◌, ap, sym, length, arith}
use Rattle.std.proofs.lemmas.Bool.{ltb-false}
use Rattle.cs_trigram.specs.Trigram.{trigram_sequence}
use Rattle.cs_trigram.proofs.SetLemmas.{ascends_set, distinct-length}
use Rattle.cs_trigram.proofs.RuleLemmas.{tri_below}
use Rattle.cs_trigram.specs.declared.seen_trigrams.TheConstants.{WITH_TWO}
use Rattle.cs_trigram.proofs.scanner.result_at_end.Goals as goal

pub returns-clause-trigrams : goal.returns-clause-trigrams
returns-clause-trigrams c = λ most prefix has_seen whole.
    let found = c.args.found.now in
    let under = ltb-false (length found.list.items) (found.len + WITH_TWO) (sym c.is_over_limit.ensures.room ∙ c.if-is_over_limit.false) in
    let is_set = (has_seen.within (omega (arith, under, has_seen.room))).0 in (
      rw is_set.same (ascends_set (trigram_sequence prefix), tri_below most prefix whole),
      distinct-length _ (is_set.once ∙ ap length (sym is_set.same)),
    )
