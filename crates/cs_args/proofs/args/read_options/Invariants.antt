use Rattle.std.specs.Prelude.{◌-◌, length, map, string_bytes}
use Rattle.cs_args.proofs.ReadOptionsLemmas.{IsReadTo}
use Rattle.cs_args.proofs.args.read_options.Given as goal

abbrev pub decreases-loop-item : goal.decreases-loop-item
decreases-loop-item l = length l.args - l.arg_index

abbrev pub invariant-loop-item : goal.invariant-loop-item
invariant-loop-item l = IsReadTo l.tool (map string_bytes l.args) l.arg_index l.settings
