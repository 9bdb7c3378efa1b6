use Rattle.std.proofs.Common.{◌≡◌, drop}
use Rattle.cs_syntax.specs.Tokens.{byte_sets}
use Rattle.cs_syntax.specs.NodeList.{trees_of}
use Rattle.cs_syntax.specs.TreeList.{append}
use Rattle.cs_syntax.proofs.parser.bytes_node.Given as goal

abbrev pub invariant-loop-byte : goal.invariant-loop-byte
invariant-loop-byte l = append (trees_of l.sets.items) (byte_sets (drop l.byte-index l.bytes)) ≡ byte_sets l.bytes
