use Rattle.std.proofs.Common.{◌<◌, get_or, length, arith, inl, inr}
use Rattle.std.proofs.lemmas.Bool.{cases_eq, eq-eqb, ne_eqb}
use Rattle.std.proofs.lemmas.List.{take_more_set}
use Rattle.cs_trigram.proofs.SixgramCacheLemmas.{misses-more, hit-kept}
use Rattle.cs_trigram.proofs.seen_trigrams.cache_sixgram.Goals as goal

pub returns-clause-misses : goal.returns-clause-misses
returns-clause-misses c = λ file earlier bytes offset mine is within old.
    let tags = c.args.tags.now in
    let misses = c.args.misses.now in
    let count = c.args.count in
    let sixgram = c.args.sixgram in
    let slot = c.slot_of-slot.result in
    let inside : slot < length tags = omega (arith, c.slot_of-slot.ensures, c.requires.tags) in
    let both = misses-more file earlier tags bytes misses offset count slot sixgram inside c.requires.room mine is within old in
    elim (cases_eq (get_or tags slot 0) sixgram) [
      | inl same ↦ rw (eq-eqb (get_or tags slot 0) sixgram same, hit-kept count sixgram misses) (both.0 same)
      | inr apart ↦ rw (ne_eqb (get_or tags slot 0) sixgram apart, take_more_set misses count sixgram c.requires.room) both.1
    ]
