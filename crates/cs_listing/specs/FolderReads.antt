-- What reading a folder and its rule files returns. Of a tree without a model nothing is said.
use Rattle.std.specs.Prelude.{ℕ, ◌≡◌, Bool, true, false, if◌then◌else◌, nat_le, List, [], ◌∷◌, ◌++◌, filter_map, length, Option, Some, None, option_map, is_some, IfSome, Result, Ok, Err, Vec, codes, bytes_eq}
use Rattle.std.specs.Path.{slash}
use Rattle.cs_tree.specs.Snapshot.{Snapshot, Item, item_at, folder, file, cut, other, bad, missing, denied, failed}
use Rattle.cs_tree.specs.Clean.{longest_path}
use Rattle.cs_tree.specs.TreeAnswers.{fault_of, opening_of}
use Rattle.cs_tree.specs.StreamModels.{SourceModel}
use Rattle.cs_tree.specs.declared.fault.TreeFault.{TreeFault}
use Rattle.cs_tree.specs.declared.fault.TreeFault.TheVariants.{Missing, Failed, Memory}
use Rattle.cs_tree.specs.declared.tree.Kind.{Kind}
use Rattle.cs_tree.specs.declared.tree.Kind.TheVariants as kind
use Rattle.cs_tree.specs.Elements.{is_among}
use Rattle.cs_tree.specs.Walks.{is_file}
use Rattle.cs_listing.specs.Layers.{FolderRules, without_rules, is_left_out}
use Rattle.cs_listing.specs.Models.{settings_of, folders_in, names_in}
use Rattle.cs_listing.specs.RuleFileReads.{longest_rule_file}
use Rattle.cs_listing.specs.GitFolders.{root_at}
use Rattle.cs_listing.specs.Listing.{TreeItems, bytes_of_item, exclude_bytes, folder_within}
use Rattle.cs_listing.specs.declared.fault.ListFault.{ListFault}
use Rattle.cs_listing.specs.declared.fault.ListFault.TheVariants.{Tree, LongRules}
use Rattle.cs_listing.specs.declared.layers.Layers.{Layers}
use Rattle.cs_listing.specs.declared.whole_files.WholeFile.{WholeFile}

-- what holds of the items of a tree, if it is modelled
abbrev pub InTree : Option Snapshot → (TreeItems → Type 0) → Type 0
InTree snapshot P = IfSome snapshot (λ tree. P (item_at tree))

-- ---- files that are read whole: rule files, and those by which a repository names its folder

-- Why an item has no bytes. What is not there, and what is no file, has none without a fault.
abbrev pub rules_fault : Item → Option ListFault
rules_fault (file bytes) = if nat_le (length bytes) longest_rule_file then None else Some LongRules
rules_fault (cut bytes) = Some (if nat_le (length bytes) longest_rule_file then Tree Failed else LongRules)
rules_fault (bad missing) = None
rules_fault (bad denied) = Some (Tree (fault_of denied))
rules_fault (bad failed) = Some (Tree (fault_of failed))
rules_fault _ = None

-- the bytes of an item, and why it has none
abbrev pub ReadsWhole : Item → WholeFile → Type 0
ReadsWhole item read = (read.bytes.items ≡ bytes_of_item item) × (read.fault ≡ rules_fault item)

abbrev pub HasNoBytes : Item → Option ListFault → Type 0
HasNoBytes item fault = (bytes_of_item item ≡ []) × (rules_fault item ≡ fault)

-- the same, with the fault as an error
abbrev pub ReadsItem : {A : Type 0} → Item → Result (Option (Vec ℕ A)) TreeFault → Type 0
ReadsItem item (Ok (Some bytes)) = (bytes.items ≡ bytes_of_item item) × (rules_fault item ≡ None)
ReadsItem item (Ok None) = HasNoBytes item (Some LongRules)
ReadsItem item (Err Memory) = Unit {0}
ReadsItem item (Err Missing) = HasNoBytes item None
ReadsItem item (Err fault) = HasNoBytes item (Some (Tree fault))

-- the file that is open in a modelled tree is read from its beginning
abbrev pub ReadsOpen : {A : Type 0} → Option Snapshot → Option SourceModel → Result (Option (Vec ℕ A)) TreeFault → Type 0
ReadsOpen snapshot opened result = IfSome snapshot (λ tree. IfSome opened (λ source. (item : Item) →
    opening_of item ≡ Ok source → ReadsItem item result))

-- of a file, and of what is neither a file nor a folder
abbrev pub ReadsFileItem : {A : Type 0} → Item → Result (Option (Vec ℕ A)) TreeFault → Type 0
ReadsFileItem item result = is_file item ≡ true → ReadsItem item result

abbrev pub ReadsOtherItem : {A : Type 0} → Item → Result (Option (Vec ℕ A)) TreeFault → Type 0
ReadsOtherItem item result = item ≡ other → ReadsItem item result

-- ---- folders, by the text before the slash in the paths of their entries, which is empty for `/`

-- the path of the folder
abbrev pub folder_path : List ℕ → List ℕ
folder_path stem = if bytes_eq stem [] then slash ∷ [] else stem

-- the path of an entry
abbrev pub entry_path : List ℕ → List ℕ → List ℕ
entry_path stem name = stem ++ slash ∷ name

-- the bytes of the file with this name, if it is among the names of the folder
abbrev pub bytes_among : TreeItems → List ℕ → List (List ℕ) → List ℕ → List ℕ
bytes_among items stem names name = if is_among names name then bytes_of_item (items (entry_path stem name)) else []

-- a folder with these names, in which the repository with these folders begins, within what is left of the limit
abbrev pub rule_files_read : ℕ → TreeItems → List ℕ → List (List ℕ) → Option (List ℕ × List ℕ) → FolderRules
rule_files_read room items stem names folders = folder_within room (bytes_among items stem names (codes ".ignore"))
    (bytes_among items stem names (codes ".gitignore")) (option_map (exclude_bytes items) folders)

abbrev pub folder_read : Option ℕ → TreeItems → List ℕ → List (List ℕ) → FolderRules
folder_read None items stem names = without_rules (is_some (root_at items stem names))
folder_read (Some room) items stem names = rule_files_read room items stem names (root_at items stem names)

-- ---- entries

-- what is at a path within the limit, if anything that can be looked at
abbrev pub kind_of_item : Item → Option Kind
kind_of_item (folder names unnamed) = Some kind.Folder
kind_of_item (file bytes) = Some kind.File
kind_of_item (cut bytes) = Some kind.File
kind_of_item other = Some kind.Other
kind_of_item (bad fault) = None

abbrev pub kind_at : TreeItems → List ℕ → Option Kind
kind_at items path = if nat_le (length path) longest_path then kind_of_item (items path) else None

-- Whether an entry is taken as a folder, or as a file. The function says whether it is left out as a folder, and as a file.
abbrev pub taken_as : (Bool → Bool) → Option Kind → Option Bool
taken_as left_out (Some kind.Folder) = if left_out true then None else Some true
taken_as left_out (Some kind.File) = if left_out false then None else Some false
taken_as left_out (Some kind.Other) = None
taken_as left_out None = None

-- an entry in the order of paths: its name, with a slash after that of a folder
abbrev pub key_of : Bool → List ℕ → List ℕ
key_of is_folder name = if is_folder then name ++ slash ∷ [] else name

-- whether the layers leave out an entry of their deepest folder
abbrev pub out_by : Layers → List ℕ → Bool → Bool
out_by layers name is_folder =
    is_left_out (settings_of layers) is_folder (folders_in layers) (names_in layers ++ name ∷ [])

-- the key of the entry with this name, if it is taken
abbrev pub key_taken : Layers → TreeItems → List ℕ → List ℕ → Option (List ℕ)
key_taken layers items stem name =
    option_map (λ is_folder. key_of is_folder name) (taken_as (out_by layers name) (kind_at items (entry_path stem name)))

-- the keys of the entries that are taken
abbrev pub keys_taken : Layers → TreeItems → List ℕ → List (List ℕ) → List (List ℕ)
keys_taken layers items stem names = filter_map (λ name. key_taken layers items stem name) names
