-- The saturation of parsed numbers at `u32::MAX`.
use Rattle.std.specs.Prelude.{ℕ, min}
use Rattle.std.specs.Option.{option_map}
use Rattle.cs_syntax.specs.declared.items.Number.{Number}
use Rattle.cs_syntax.specs.declared.items.RepeatCounts.{RepeatCounts}

abbrev pub max_u32 : ℕ
max_u32 = 4294967295

abbrev pub u32_number : Number → Number
u32_number n = record { value = min n.value max_u32; len = n.len }

abbrev pub u32_counts : RepeatCounts → RepeatCounts
u32_counts c =
    record { least = min c.least max_u32; most = option_map (λ m. min m max_u32) c.most; len = c.len }
