-- Examples, by computation.
use Rattle.std.proofs.Common.{◌≡◌, [], Some, refl}
use Rattle.std.specs.Prelude.{codes}
use Rattle.std.specs.FinMap as map
use Rattle.cs_tree.specs.Snapshot.{file}
use Rattle.cs_fakes.specs.Puts.{put_fault}
use Rattle.cs_fakes.specs.declared.mem_tree.PutFault.TheVariants.{BadPath}

nothing_is_put_at_the_root : put_fault map.empty (codes "/") (file []) ≡ Some BadPath
nothing_is_put_at_the_root = refl
