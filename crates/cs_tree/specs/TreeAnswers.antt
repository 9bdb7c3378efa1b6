-- The answers of a tree for an item of its snapshot.
use Rattle.std.specs.Prelude.{Result, Ok, Err, true, false}
use Rattle.cs_tree.specs.declared.fault.TreeFault.{TreeFault}
use Rattle.cs_tree.specs.declared.fault.TreeFault.TheVariants.{Missing, Denied, Failed}
use Rattle.cs_tree.specs.Snapshot.{Item, Fault, file, cut, bad, missing, denied, failed}
use Rattle.cs_tree.specs.StreamModels.{SourceModel, source_model}

abbrev pub fault_of : Fault → TreeFault
fault_of missing = Missing
fault_of denied = Denied
fault_of failed = Failed

abbrev pub opening_of : Item → Result SourceModel TreeFault
opening_of (file bytes) = Ok (source_model bytes false)
opening_of (cut bytes) = Ok (source_model bytes true)
opening_of (bad fault) = Err (fault_of fault)
opening_of _ = Err Failed
