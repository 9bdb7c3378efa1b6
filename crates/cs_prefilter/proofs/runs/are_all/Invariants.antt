use Rattle.std.proofs.Common.{◌≡◌, ℕ, ◌<◌, true}
use Rattle.cs_syntax.specs.Matching.{is_word, member}
use Rattle.cs_prefilter.proofs.runs.are_all.Given as goal

abbrev pub invariant-loop-byte : goal.invariant-loop-byte
invariant-loop-byte l = (b : ℕ) → b < l.byte → member l.set b ≡ true → is_word b ≡ l.word
