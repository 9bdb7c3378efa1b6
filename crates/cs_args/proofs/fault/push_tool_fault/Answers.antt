use Rattle.std.proofs.Common.{rules}
use Rattle.cs_args.proofs.MessageLemmas.{pushed}
use Rattle.cs_args.proofs.fault.push_tool_fault.Goals as goal

pub returns-in-FilePattern : goal.returns-in-FilePattern
returns-in-FilePattern c = rw c.in-FilePattern.is (search rules)

pub returns-in-Write : goal.returns-in-Write
returns-in-Write c = rw c.in-Write.is (search (rules, pushed))
