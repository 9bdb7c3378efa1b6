use Rattle.std.proofs.Common.{◌≡◌, map, string_bytes, take}
use Rattle.cs_update.specs.Learning.{seen_of}
use Rattle.cs_update.specs.Updating.{covers_seen}
use Rattle.cs_update.proofs.own_paths.own_paths.Given as goal

abbrev pub invariant-files : goal.invariant-files
invariant-files l = map string_bytes l.covers.items ≡ covers_seen (map seen_of (take l.file-index l.files))
