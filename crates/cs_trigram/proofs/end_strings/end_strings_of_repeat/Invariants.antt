use Rattle.std.specs.Prelude.{None}
use Rattle.cs_syntax.specs.Matching.{Tree, rep}
use Rattle.cs_trigram.specs.EndStrings.{Direction, AreEndStrings}
use Rattle.cs_trigram.proofs.end_strings.end_strings_of_repeat.Given as goal

abbrev pub invariant-loop-iteration : goal.invariant-loop-iteration
invariant-loop-iteration l = (direction : Direction) (t : Tree) → AreEndStrings direction l.once t →
    AreEndStrings direction l.end_strings.items (rep t l._iteration None)
