use Rattle.std.proofs.Common.{◌≡◌, ◌<◌, ◌^◌, ◌++◌, drop, flat_map}
use Rattle.std.specs.List.{AllByRecursion}
use Rattle.cs_index.specs.Encoding.{four_bytes}
use Rattle.cs_index.proofs.writing.strings.write_numbers.Given as goal

-- the numbers so far are written, and the remaining ones follow
abbrev pub invariant-numbers : goal.invariant-numbers
invariant-numbers l = record {
  output : l.out.items ++ flat_map four_bytes (drop l.number-index l.numbers) ≡ l.initial.out.items ++ flat_map four_bytes l.numbers;
  small : AllByRecursion (λ n. n < 2 ^ 32) (drop l.number-index l.numbers);
}
