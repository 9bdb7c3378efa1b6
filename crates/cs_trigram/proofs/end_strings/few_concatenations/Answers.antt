use Rattle.std.proofs.Common.{◌≡◌, ◌+◌, List, drop, length, sym, ap, ◌∙◌, arith, drop_of_length-le}
use Rattle.cs_trigram.specs.EndStrings.{with_end_strings, concatenated, all_concatenated, end_product}
use Rattle.cs_trigram.specs.declared.end_strings.EndString.{EndString}
use Rattle.cs_trigram.proofs.NodeListLemmas.{item_from}
use Rattle.cs_trigram.proofs.TruncationLemmas.{with_end_strings_append, with_not_fewer}
use Rattle.cs_trigram.proofs.end_strings.few_concatenations.Goals as goal

pub loop-near-preserved : goal.loop-near-preserved
loop-near-preserved c =
    let n = c.args.longest in
    let fars = c.args.fars.now in
    let ends = c.loop-near.end_strings.items in
    let near = c.near-item.result in
    let rest = all_concatenated n (drop (c.loop-near.near-index + 1) c.args.nears.now) fars in
    ap (λ (es : List EndString). with_end_strings es rest) (c.in_ok-add_concatenations.ensures.few (omega arith))
    ∙ sym (with_end_strings_append ends (concatenated n near fars) rest)
    ∙ ap (λ (es : List EndString). with_end_strings ends (all_concatenated n es fars))
    (sym (item_from c.args.nears.now c.loop-near.near-index near c.loop-near-test.true c.near-item.is))
    ∙ c.loop-near.invariant

pub returns : goal.returns
returns c =
    let rest = drop_of_length-le c.args.nears.now {i = c.loop-near.near-index} (omega arith) in
    ap (λ (es : List EndString). with_end_strings c.loop-near.end_strings.items
    (all_concatenated c.args.longest es c.args.fars.now)) (sym rest) ∙ c.loop-near.invariant

pub returns-then-len-gt-MAX_SET : goal.returns-then-len-gt-MAX_SET
returns-then-len-gt-MAX_SET c =
    let n = c.args.longest in
    let fars = c.args.fars.now in
    let ends = c.loop-near.end_strings.items in
    let near = c.near-item.result in
    let rest = all_concatenated n (drop (c.loop-near.near-index + 1) c.args.nears.now) fars in
    let with_near = with_end_strings ends (concatenated n near fars) in
    let all : with_end_strings with_near rest ≡ end_product n c.args.nears.now fars =
    sym (with_end_strings_append ends (concatenated n near fars) rest)
    ∙ ap (λ (es : List EndString). with_end_strings ends (all_concatenated n es fars))
    (sym (item_from c.args.nears.now c.loop-near.near-index near c.loop-near-test.true c.near-item.is))
    ∙ c.loop-near.invariant in
    omega (arith, c.in_ok-add_concatenations.ensures.many (omega arith), with_not_fewer with_near rest, ap length all)
