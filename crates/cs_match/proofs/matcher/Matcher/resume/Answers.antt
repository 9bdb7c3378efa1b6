use Rattle.std.proofs.Common.{arith}
use Rattle.cs_match.proofs.matcher.Matcher.resume.Goals as goal

pub invariant_of-result : goal.invariant_of-result
invariant_of-result c = (c.requires.cache.1, omega arith)
