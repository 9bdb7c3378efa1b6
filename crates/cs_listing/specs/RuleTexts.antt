-- The bytes of the rule files of a folder, as the code has them.
use Rattle.std.specs.Prelude.{ℕ, ◌+◌, List, [], Option, Some, None, length, option_map, unwrap_or}
use Rattle.cs_listing.specs.Layers.{FolderRules}
use Rattle.cs_listing.specs.Listing.{folder_with}
use Rattle.cs_listing.specs.SettingReads.{bytes_if}
use Rattle.cs_listing.specs.declared.layers.RuleTexts.{RuleTexts}

-- how many they are
abbrev pub bytes_of_texts : RuleTexts → ℕ
bytes_of_texts texts = length texts.ignore.items + (length texts.gitignore.items + length (unwrap_or (bytes_if texts.exclude) []))

abbrev pub folder_of_texts : RuleTexts → FolderRules
folder_of_texts texts = folder_with texts.ignore.items texts.gitignore.items (bytes_if texts.exclude)
