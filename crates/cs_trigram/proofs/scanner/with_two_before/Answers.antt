use Rattle.std.proofs.Common.{◌≡◌, ◌+◌, ◌-◌, ◌++◌, take, drop, length, arith, ap, ◌∙◌}
use Rattle.cs_trigram.proofs.SplitTrigramLemmas.{with-two}
use Rattle.cs_trigram.proofs.scanner.with_two_before.Goals as goal

pub returns-clause-bytes : goal.returns-clause-bytes
returns-clause-bytes c = λ prefix count carries.
    let buffer = c.args.buffer.now in
    let len = c.args.len in
    let from : c.saturating_sub-from.result ≡ 2 - length prefix = omega (arith, c.saturating_sub-from.ensures, count) in
    ap (λ n. take (len + 2 - n) (drop n buffer)) from ∙ with-two (2 - length prefix) len buffer (omega arith) c.requires
    ∙ ap (λ xs. xs ++ take len (drop 2 buffer)) carries
