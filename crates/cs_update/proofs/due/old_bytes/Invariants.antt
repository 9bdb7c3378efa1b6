use Rattle.std.proofs.Common.{◌≡◌, min, take}
use Rattle.cs_update.specs.Due.{old_bytes}
use Rattle.cs_update.proofs.due.old_bytes.Given as goal

abbrev pub invariant-files : goal.invariant-files
invariant-files l = l.len ≡ min (old_bytes l.moment (take l.file-index l.files)) 18446744073709551615
