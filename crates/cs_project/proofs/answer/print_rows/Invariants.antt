use Rattle.std.proofs.Common.{take, map}
use Rattle.cs_tree.specs.SinkOutputs.{Prints}
use Rattle.cs_project.specs.Calls.{types_printed}
use Rattle.cs_project.proofs.answer.print_rows.Given as goal

-- some types were printed
abbrev pub invariant-types : goal.invariant-types
invariant-types g l =
    Prints g.O.Sink.model g.O.Sink.failed l.fn.out l.out (types_printed (map (λ row. (row.0.now, row.1.now)) (take l.row-index l.types)))
