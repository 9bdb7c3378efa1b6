-- Which files a run may learn.
use Rattle.std.specs.Prelude.{◌≡◌, ◌<◌, ◌≤◌, ℕ, true, List, length, nat_lt, string_bytes}
use Rattle.std.specs.List.{list_all}
use Rattle.cs_tree.specs.Cover.{is_absolute}
use Rattle.cs_known.specs.declared.types.SeenFile.{SeenFile}

-- the name is absolute, has no byte 0 and no byte 1, and is short: it is UTF-8, so `IsLearnable` of cs_state says no more
abbrev pub IsLearnableName : List ℕ → Type 0
IsLearnableName name = (is_absolute name ≡ true) × (list_all (λ b. nat_lt 1 b) name ≡ true) × (length name ≤ 4000)

-- The name can be learned, and the stamp does not say that the file is empty.
abbrev pub IsToLearn : SeenFile → Type 0
IsToLearn file = IsLearnableName (string_bytes file.name) × (0 < file.stamp.size)
