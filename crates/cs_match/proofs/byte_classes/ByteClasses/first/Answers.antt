use Rattle.std.proofs.Common.{arith}
use Rattle.cs_match.proofs.byte_classes.ByteClasses.first.Goals as goal

pub returns-clause-low : goal.returns-clause-low
returns-clause-low c = (c.requires.first c.args.byte (omega arith)).0

pub returns-clause-class : goal.returns-clause-class
returns-clause-class c = (c.requires.first c.args.byte (omega arith)).1
