-- Reading the names that a search selects.
use Rattle.std.specs.Prelude.{ℕ, ◌≡◌, ◌<◌, Bool, true, false, List, [], ◌∷◌, ◌++◌, length, map, filter, All, IsUtf8, Option, Some, Result, Ok, Err, IfOk, String, string_bytes, Vec}
use Rattle.std.specs.List.{flat_map, AllByRecursion}
use Rattle.std.specs.Result.{IsOkAnd}
use Rattle.std.specs.declared.alloc.Global.{Global}
use Rattle.cs_syntax.specs.Matching.{Tree}
use Rattle.cs_tree.specs.declared.fault.IoFault.{IoFault}
use Rattle.cs_match.specs.Deciding.{Decides}
use Rattle.cs_match.specs.Lines.{newline}
use Rattle.cs_index.specs.OpenedParts.{Parts}
use Rattle.cs_index.specs.Stored.{StoredParts, StandsIn}
use Rattle.cs_index.specs.Answerable.{is_answerable}
use Rattle.cs_index.specs.Candidates.{candidates_of}
use Rattle.cs_index.specs.declared.fault.IndexFault.{IndexFault}
use Rattle.cs_index.specs.declared.fault.IndexFault.TheVariants.{BadList}
use Rattle.cs_index.specs.NameReading.{ReadsNames}
use Rattle.cs_index.specs.declared.reading.name_reader.NameReader.{NameReader}
use Rattle.cs_search.specs.IndexSearch.{AreKept, matcher_tree, names_at}
use Rattle.cs_search.specs.declared.stored.Plan.{Plan}
use Rattle.cs_search.specs.declared.selection.Selection.{Selection}

-- The names with these ids were read, and the selection has those that its filter keeps.
pub record HasSelected (bytes : List ℕ) (parts : Parts) (ids : List ℕ) (selection : Selection) : Type 0 where
  pub reads : ReadsNames bytes parts selection.reader
  pub kept : AreKept (matcher_tree selection.filter.matcher) parts.names ids selection.names.items

-- the names with these ids too were read
abbrev pub SelectsMore : Option (List ℕ) → List ℕ → Selection → Selection → Result (Result (Unit {0}) IndexFault) IoFault → Type 0
SelectsMore model ids old new result = (bytes : List ℕ) (parts : Parts) (done : List ℕ) → model ≡ Some bytes →
    HasSelected bytes parts done old → All (λ id. id < length parts.names) ids →
    IfOk result (λ answer. IsOkAnd answer (λ _. HasSelected bytes parts (done ++ ids) new))

-- `Claim` holds of the parts of the index, if these are what the store's model has
abbrev pub IfStands : Option (List ℕ) → StoredParts → (Parts → Type 0) → Type 0
IfStands model index Claim = (bytes : List ℕ) (parts : Parts) → model ≡ Some bytes → StandsIn bytes index parts → Claim parts

-- the names, each with a newline after it
abbrev pub as_lines : List (List ℕ) → List ℕ
as_lines names = flat_map (λ name. name ++ newline ∷ []) names

-- the block has these names, which are UTF-8, each with a newline after it
abbrev pub IsBlockOf : List (List ℕ) → List ℕ → Type 0
IsBlockOf names block = (block ≡ as_lines names) × AllByRecursion IsUtf8 names

-- the names with these ids were read into a block
abbrev pub ReadsBlock : Option (List ℕ) → NameReader → NameReader → List ℕ →
    Result (Result (Vec ℕ Global) IndexFault) IoFault → Type 0
ReadsBlock model old new ids result = (bytes : List ℕ) (parts : Parts) → model ≡ Some bytes →
    ReadsNames bytes parts old → All (λ id. id < length parts.names) ids → IfOk result (λ answer. IsOkAnd answer
    (λ block. ReadsNames bytes parts new × IsBlockOf (names_at parts.names ids) block.items))

-- those of the lines that the tree matches were pushed
abbrev pub PushesMatching : Tree → List (List ℕ) → List (String Global) → List (String Global) → Type 0
PushesMatching tree lines texts texts' =
    (keeps : List ℕ → Bool) → Decides keeps tree → map string_bytes texts' ≡ map string_bytes texts ++ filter keeps lines

-- the names that the plan selects from these parts, or `BadList` if a list that its query mentions is damaged
abbrev pub Selects : Plan → Parts → Result (Vec (String Global) Global) IndexFault → Type 0
Selects plan parts (Ok texts) =
    AreKept plan.file parts.names (candidates_of parts plan.query) texts.items × (is_answerable parts plan.query ≡ true)
Selects plan parts (Err fault) = (fault ≡ BadList) × (is_answerable parts plan.query ≡ false)
