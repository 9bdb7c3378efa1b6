use Rattle.std.proofs.Common.{◌≡◌, drop}
use Rattle.cs_syntax.specs.Classes.{class_by_name}
use Rattle.cs_syntax.proofs.NamedClassLemmas.{picked}
use Rattle.cs_syntax.proofs.classes.class_by_name.Given as goal

abbrev pub invariant-loop-word : goal.invariant-loop-word
invariant-loop-word l = class_by_name l.name ≡ picked l.name (drop l.word-index l.word-items)
