use Rattle.std.specs.Prelude.{◌≡◌, map, take, string_bytes}
use Rattle.cs_args.proofs.args.copies.Given as goal

abbrev pub invariant-loop-text : goal.invariant-loop-text
invariant-loop-text l = map string_bytes l.copies.items ≡ take l.text-index (map string_bytes l.texts)
