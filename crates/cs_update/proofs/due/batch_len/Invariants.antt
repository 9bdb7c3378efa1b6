use Rattle.std.proofs.Common.{◌≡◌, ◌+◌, take}
use Rattle.cs_update.specs.Due.{bytes_of}
use Rattle.cs_update.proofs.due.batch_len.Given as goal

abbrev pub invariant-files : goal.invariant-files
invariant-files l = l.room + bytes_of (take l.at l.files) ≡ l.most
