use Rattle.std.proofs.Common.{ℕ, List, ◌+◌, ◌++◌, drop, map, sym, ◌∙◌, ap, arith}
use Rattle.cs_trigram.specs.Analysis.{with_strings, concatenations}
use Rattle.cs_trigram.proofs.EnumerationLemmas.{with_strings_append, with_strings_full, single_prefix}
use Rattle.cs_trigram.proofs.NodeListLemmas.{if_ok, item_from}
use Rattle.cs_trigram.proofs.exact_set.cross_product.Goals as goal

pub loop-prefix-preserved : goal.loop-prefix-preserved
loop-prefix-preserved c =
    let prefixes = c.args.prefixes.now in
    let suffixes = c.args.suffixes.now in
    let strings = c.loop-prefix.strings.items in
    let u = c.prefix-item.result in
    let rest = concatenations (drop (c.loop-prefix.prefix-index + 1) prefixes) suffixes in
    let next = item_from prefixes c.loop-prefix.prefix-index u c.loop-prefix-test.true c.prefix-item.is in
    ap (λ (ws : List (List ℕ)). with_strings ws rest) (rw c.bytes-in-loop-prefix.ensures at c.in_ok-add_concatenations.ensures)
    ∙ sym (with_strings_append strings (map (λ v. u ++ v) suffixes) rest)
    ∙ ap (λ (us : List (List ℕ)). with_strings strings (concatenations us suffixes)) (sym next)
    ∙ c.loop-prefix.invariant

pub returns-then-len-gt-MAX_EXACT : goal.returns-then-len-gt-MAX_EXACT
returns-then-len-gt-MAX_EXACT c = λ _ _.
    sym (with_strings_full c.loop-prefix.strings.items
    (concatenations (drop c.loop-prefix.prefix-index c.args.prefixes.now) c.args.suffixes.now) (omega arith))
    ∙ c.loop-prefix.invariant

pub returns-then-prefixes-eq1 : goal.returns-then-prefixes-eq1
returns-then-prefixes-eq1 c =
    if_ok c.prepended.result _ _ c.prepended.ensures
    (λ strings is. λ distinct few. (rw c.bytes.ensures at is) ∙ single_prefix c.args.prefixes.now c.args.suffixes.now
    c.index-prefixes-0.result (omega arith) c.index-prefixes-0.is distinct few)
