-- When the line of an error is printed.
use Rattle.std.specs.Prelude.{◌≡◌, Bool, true}
use Rattle.cs_tree.specs.declared.fault.TreeFault.{TreeFault}
use Rattle.cs_tree.specs.declared.fault.TreeFault.TheVariants.{Missing, Denied, Output, Failed, Memory}

-- An error of opening a file has a line, unless the file is gone or is the output. `wrong` says whether there was a line.
abbrev pub MayReport : TreeFault → Bool → Bool → Type 0
MayReport Missing old new = new ≡ old
MayReport Output old new = new ≡ old
MayReport Denied old new = new ≡ true
MayReport Failed old new = new ≡ true
MayReport Memory old new = ⊥
