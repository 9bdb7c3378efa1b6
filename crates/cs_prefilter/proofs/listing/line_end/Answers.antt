use Rattle.std.proofs.Common.{◌≡◌, ◌+◌, ◌-◌, ◌<◌, length, take, drop, get_or, ap, ◌∙◌, arith, length-take, get_or-take}
use Rattle.std.proofs.lemmas.Bool.{eq-eqb}
use Rattle.std.proofs.lemmas.List.{get_or-drop}
use Rattle.cs_prefilter.specs.Listed.{newline}
use Rattle.cs_prefilter.proofs.listing.line_end.Goals as goal

pub returns-clause-none : goal.returns-clause-none
returns-clause-none c = λ k low high is.
    let text = c.args.text.now in
    let from = c.args.from in
    let j = k - from in
    let found = c.in-Some.ensures in
    let here : from + j ≡ k = omega (arith, low) in
    let inside : j < length text - from = omega (arith, low, high, found.0.high, length-take (length text - from) (drop from text)) in
    found.0.before j (omega arith) (omega (arith, low, high)) (eq-eqb (get_or (take (length text - from) (drop from text)) j 0) newline
    (get_or-take (length text - from) (drop from text) j 0 inside ∙ get_or-drop from text j 0
    ∙ ap (λ n. get_or text n 0) here ∙ is))
