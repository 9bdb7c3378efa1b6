use Rattle.std.proofs.Common.{◌≡◌, ◌≢◌, ◌+◌, ◌∷◌, [], get_or, set, arith, ap, ◌∙◌, refl, get_or-set_other}
use Rattle.cs_trigram.proofs.SplitTrigramLemmas.{set-two, Carries-on}
use Rattle.cs_trigram.proofs.scanner.carry.Goals as goal

pub returns : goal.returns
returns c = λ prefix carries.
    let buffer = c.args.buffer.now in
    let len = c.args.len in
    let first = get_or buffer len 0 in
    let second = get_or (set buffer 0 first) (len + 1) 0 in
    let other : len + 1 ≢ 0 = λ e. absurd (omega (arith, e)) in
    let same : second ≡ get_or buffer (len + 1) 0 = rw (get_or-set_other, other) refl in
    Carries-on buffer (set (set buffer 0 first) 1 second) prefix len c.requires.some c.requires.within
    (set-two buffer first second (omega (arith, c.requires.within)) ∙ ap (λ n. first ∷ n ∷ []) same) carries
