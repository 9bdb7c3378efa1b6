use Rattle.std.proofs.Common.{◌+◌, ◌++◌, ℕ, List, drop, map, reverse, sym, ◌∙◌, ap, append_assoc}
use Rattle.cs_trigram.specs.SequenceQuery.{pairs}
use Rattle.cs_trigram.specs.declared.end_strings.EndString.{EndString}
use Rattle.cs_trigram.proofs.NodeListLemmas.{item_from}
use Rattle.cs_trigram.proofs.end_strings.all_pairs.Goals as goal

pub loop-suffix-preserved : goal.loop-suffix-preserved
loop-suffix-preserved c =
    let suffixes = c.args.suffixes.now in
    let prefixes = c.args.prefixes.now in
    let strings = c.loop-suffix.strings.items in
    let suffix = c.suffix-item.result in
    let rest = pairs (drop (c.loop-suffix.suffix-index + 1) suffixes) prefixes in
    ap (λ (ws : List (List ℕ)). ws ++ rest) c.in_ok-add_pairs.ensures
    ∙ append_assoc strings (map (λ (prefix : EndString). reverse suffix.string ++ prefix.string) prefixes) rest
    ∙ ap (λ (es : List EndString). strings ++ pairs es prefixes)
    (sym (item_from suffixes c.loop-suffix.suffix-index suffix c.loop-suffix-test.true c.suffix-item.is))
    ∙ c.loop-suffix.invariant
