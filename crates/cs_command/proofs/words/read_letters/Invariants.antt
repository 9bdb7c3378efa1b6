use Rattle.std.proofs.Common.{◌≡◌, ◌≤◌, ◌+◌, ◌-◌, length}
use Rattle.cs_command.specs.Words.{after_letters}
use Rattle.cs_command.proofs.words.read_letters.Given as goal

-- the letters that are left, after the items so far, are read as all letters
abbrev pub invariant-letters : goal.invariant-letters
invariant-letters l = record {
  same : after_letters l.fn.items.items l.index 1 l.letters ≡ after_letters l.items.items l.index (1 + (length l.letters - length l.rest)) l.rest;
  within : length l.rest ≤ length l.letters;
}

abbrev pub decreases-letters : goal.decreases-letters
decreases-letters l = length l.rest
