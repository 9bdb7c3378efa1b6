use Rattle.std.proofs.Common.{◌≡◌, ℕ, ◌<◌, true}
use Rattle.cs_syntax.specs.Matching.{member}
use Rattle.cs_prefilter.proofs.prefilter.is_within.Given as goal

abbrev pub invariant-loop-byte : goal.invariant-loop-byte
invariant-loop-byte l = (b : ℕ) → b < l.byte → member l.set b ≡ true → member l.other b ≡ true
