-- Worked examples of diagnostics and of the failures that they report.
use Rattle.std.proofs.Common.{◌≡◌, ◌∷◌, [], refl, codes}
use Rattle.cs_cindex.proofs.Common.{Denied, Unnamed, fault_entry_line, faulted, skipped, failures_in}
use Rattle.cs_tree.specs.declared.fault.TreeFault.TheVariants as tree
use Rattle.cs_tree.specs.declared.walking.WalkFault.TheVariants as walk
use Rattle.cs_trigram.specs.declared.scan.Reason.TheVariants.{Nul}

-- a folder that cannot be listed and a file that cannot be opened are failures; a non-text name and a non-text file
-- are not
failures_are_counted_once : failures_in (fault_entry_line (codes "/a", walk.Tree tree.Denied) ∷ fault_entry_line
    (codes "/b", walk.Unnamed) ∷ faulted (codes "/c") Denied ∷ faulted (codes "/d") Unnamed ∷ skipped (codes "/e") Nul
    ∷ []) 7 ≡ 9
failures_are_counted_once = refl

-- the counter saturates
failures_are_counted_to_the_end : failures_in (faulted (codes "/c") Denied ∷ []) 18446744073709551615 ≡ 18446744073709551615
failures_are_counted_to_the_end = refl
