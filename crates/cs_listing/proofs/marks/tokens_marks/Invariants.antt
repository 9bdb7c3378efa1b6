use Rattle.std.proofs.Common.{◌≡◌, drop}
use Rattle.cs_listing.specs.Marks.{with_all, has_mark, token_mark, tokens_marks}
use Rattle.cs_listing.proofs.marks.tokens_marks.Given as goal

-- the tokens left add to the marks so far what makes all
abbrev pub invariant-loop-token : goal.invariant-loop-token
invariant-loop-token l = tokens_marks l.tokens ≡ with_all (token_mark has_mark) l.marks (drop l.token-index l.tokens)
