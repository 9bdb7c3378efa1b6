use Rattle.std.proofs.Common.{◌/◌, ◌%◌, get_or, arith}
use Rattle.cs_trigram.proofs.TrigramBitmapLemmas.{Collects-push, changed}
use Rattle.cs_trigram.proofs.seen_trigrams.insert.Goals as goal

pub returns-clause-collects : goal.returns-clause-collects
returns-clause-collects c = λ numbers matches_set.
    let bitmap = c.args.bitmap.now in
    let n = c.args.number in
    rw (changed (get_or bitmap (n / 64) 0) (n % 64) (omega arith))
    (Collects-push bitmap c.args.list.now c.args.len n (omega (arith, c.requires.bitmap, c.requires.number))
    c.requires.room numbers matches_set)
