use Rattle.std.proofs.Common.{◌≡◌, ◌++◌, replicate}
use Rattle.std.specs.Prelude.{string_bytes}
use Rattle.cs_command.proofs.lines.push_spaces.Given as goal

-- the spaces so far
abbrev pub invariant-spaces : goal.invariant-spaces
invariant-spaces l = string_bytes l.line ≡ string_bytes l.fn.line ++ replicate l._index 32
