use Rattle.std.proofs.Common.{◌≡◌, drop}
use Rattle.cs_listing.specs.Marks.{with_all, has_mark, name_marks}
use Rattle.cs_listing.proofs.marks.name_marks.Given as goal

-- the bytes left add to the marks so far what makes all
abbrev pub invariant-loop-byte : goal.invariant-loop-byte
invariant-loop-byte l = name_marks l.name ≡ with_all has_mark l.marks (drop l.byte-index l.name)
