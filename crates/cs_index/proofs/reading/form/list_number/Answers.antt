use Rattle.std.proofs.Common.{◌∙◌, ap, sym}
use Rattle.std.proofs.lemmas.List.Sorted.{searched}
use Rattle.cs_trigram.proofs.QueryLemmas.{matches_set-Tri}
use Rattle.cs_index.proofs.candidates.FormValues.{ascends_order, list_matches, not_between, nothing_matches}
use Rattle.cs_index.proofs.reading.form.list_number.Goals as goal

pub returns-in-Ok-clause-number : goal.returns-in-Ok-clause-number
returns-in-Ok-clause-number c = λ nodes set within.
    let found = rw c.in-Ok.is at (searched c.args.trigrams.now c.args.trigram c.binary_search.result
    c.binary_search.ensures.position (ascends_order c.args.trigrams.now c.requires)) in
    list_matches set c.args.trigrams.now nodes c.in-Ok.at found.0 ∙ ap set found.1 ∙ sym (matches_set-Tri set c.args.trigram)

pub returns-in-Err-clause-number : goal.returns-in-Err-clause-number
returns-in-Err-clause-number c = λ nodes set within.
    let none = rw c.in-Err.is at (searched c.args.trigrams.now c.args.trigram c.binary_search.result
    c.binary_search.ensures.position (ascends_order c.args.trigrams.now c.requires)) in
    nothing_matches _ nodes ∙ sym (within c.args.trigram
    (not_between c.args.trigrams.now c.args.trigram c.in-Err.field-0 (λ k h b. none.1 k h) none.2))
    ∙ sym (matches_set-Tri set c.args.trigram)
