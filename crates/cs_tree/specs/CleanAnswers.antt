-- The answers of `clean`.
use Rattle.std.specs.Prelude.{◌≡◌, ◌⊎◌, Option, Some, None, Result, Ok, Err, String}
use Rattle.cs_tree.specs.declared.paths.PathFault.{PathFault}
use Rattle.cs_tree.specs.declared.paths.PathFault.TheVariants.{TooLong, Memory}
use Rattle.std.specs.declared.alloc.Global.{Global}

-- The error is that of the first failed test, or an allocation failure, which may come before the length test. If no
-- test fails, the only error is an allocation failure.
abbrev pub CleanAnswers : Option PathFault → Result (String Global) PathFault → Type 0
CleanAnswers (Some TooLong) answer = (answer ≡ Err TooLong) ⊎ (answer ≡ Err Memory)
CleanAnswers (Some fault) answer = answer ≡ Err fault
CleanAnswers None (Ok path) = Unit {0}
CleanAnswers None (Err Memory) = Unit {0}
CleanAnswers None (Err fault) = ⊥
