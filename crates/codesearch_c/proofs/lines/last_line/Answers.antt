use Rattle.std.proofs.Common.{drop, refl, sym, subst, arith}
use Rattle.std.proofs.lemmas.Bool.{false≢true}
use Rattle.std.proofs.lemmas.List.{take_rest}
use Rattle.cs_syntax.specs.Matching.{HasMatch}
use Rattle.codesearch_c.proofs.MatchingLineLemmas.{none_beyond, last_match, last_none, not_passed}
use Rattle.codesearch_c.proofs.lines.last_line.Goals as goal

pub returns-then-from-block-clause-found : goal.returns-then-from-block-clause-found
returns-then-from-block-clause-found c = λ has_match decides. none_beyond has_match c.args.block.now c.args.from (omega arith)

pub returns-then-is_match-clause-found : goal.returns-then-is_match-clause-found
returns-then-is_match-clause-found c = λ has_match decides.
    let block = c.args.block.now in
    let found = subst (HasMatch c.args.matcher.now.tree) (take_rest block c.args.from) (c.if-is_match.ensures.found.0 refl) in
    last_match has_match block c.args.from (omega arith) c.requires.part ((decides (drop c.args.from block)).1 found)

pub returns-else-is_match-clause-found : goal.returns-else-is_match-clause-found
returns-else-is_match-clause-found c = λ has_match decides.
    let block = c.args.block.now in
    let line = drop c.args.from block in
    last_none has_match block c.args.from (omega arith) c.requires.part
    (not_passed (has_match line) (λ found. false≢true
    (c.if-is_match.ensures.found.1 (subst (HasMatch c.args.matcher.now.tree) (sym (take_rest block c.args.from))
    ((decides line).0 found)))))
