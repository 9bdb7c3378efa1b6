use Rattle.std.proofs.Common.{◌≡◌, ◌+◌, drop}
use Rattle.std.specs.Option.{option_map}
use Rattle.cs_syntax.specs.Classes.{name_length}
use Rattle.cs_syntax.proofs.classes.name_length.Given as goal

abbrev pub invariant-loop-offset : goal.invariant-loop-offset
invariant-loop-offset l = name_length l.text ≡ option_map (λ n. l.offset + n) (name_length (drop l.offset l.text))
