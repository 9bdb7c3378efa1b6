-- The index of what one job finds.
use Rattle.std.specs.Prelude.{ℕ, List}
use Rattle.cs_tree.specs.PathSet.{Paths}
use Rattle.cs_tree.specs.Snapshot.{Snapshot}
use Rattle.cs_tree.specs.Reachability.{reachable_files}
use Rattle.cs_trigram.specs.Text.{text_trigrams, limits}
use Rattle.cs_index.specs.Encoding.{encoding}
use Rattle.cs_history.specs.History.{Update, History, walked_paths}

-- the index of the text files that a walk from the paths finds in the tree
abbrev pub tree_index : Snapshot → Paths → List ℕ
tree_index tree paths = encoding paths (reachable_files (text_trigrams limits) tree paths)

-- the index of what a job finds
abbrev pub update_index : Update → History → List ℕ
update_index update before = tree_index update.tree (walked_paths update before)
