use Rattle.std.proofs.Common.{◌≡◌, map, string_bytes, take}
use Rattle.cs_tree.specs.PathParts.{texts}
use Rattle.cs_project.specs.Calls.{words_at as words_at'}
use Rattle.cs_project.proofs.answer.words_at.Given as goal

-- the words of some indices so far
abbrev pub invariant-indices : goal.invariant-indices
invariant-indices l = texts l.chosen.items ≡ words_at' (map string_bytes l.words) (take l.index-index l.indices)
