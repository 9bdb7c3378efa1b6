-- The files that an open state knows, for one search.
use Rattle.std.specs.Prelude.{◌≡◌, ◌≢◌, ◌<◌, ◌≤◌, ℕ, true, List, length, slice_get, take, Option, Some}
use Rattle.std.specs.List.{AllByRecursion}
use Rattle.std.specs.Ordering.{is_lt}
use Rattle.std.specs.declared.cmp.Ordering.TheVariants.{Less}
use Rattle.cs_tree.specs.NameOrder.{bytes_cmp}
use Rattle.cs_tree.specs.declared.tree.Stamp.{Stamp}
use Rattle.cs_trigram.specs.declared.queries.Query.{Query}
use Rattle.cs_index.specs.Candidates.{candidates_of}
use Rattle.cs_index.specs.NameReading.{ReadsNames}
use Rattle.cs_index.specs.OpenedParts.{Parts}
use Rattle.cs_lines.specs.declared.binary.BinaryFiles.{BinaryFiles}
use Rattle.cs_lines.specs.declared.form.ShowOptions.{ShowOptions}
use Rattle.cs_state.specs.FileKinds.{known_of}
use Rattle.cs_state.specs.Known.{HasNumbers, Kept}
use Rattle.cs_state.specs.StampedNames.{IsLearnable, stamped}
use Rattle.cs_state.specs.declared.file_kind.FileKind.{FileKind}
use Rattle.cs_known.specs.Skipped.{IsKnownAs, IsSkipped, leaves_out, prints_unmatched}
use Rattle.cs_known.specs.declared.types.FileLookup.{FileLookup}
use Rattle.cs_known.specs.declared.types.FileLookup.TheVariants.{Known, Skipped, Unknown}
use Rattle.cs_known.specs.declared.types.KnownFiles.{KnownFiles}
use Rattle.cs_known.specs.declared.types.NameMatch.{NameMatch}
use Rattle.cs_known.specs.declared.types.NameMatch.TheVariants.{Before, Found, Other}
use Rattle.cs_known.specs.declared.types.SkipOptions.{SkipOptions}

-- The options by which files are skipped are those of the search.
pub record AreOptions (options : ShowOptions) (binaries : BinaryFiles) (skip : SkipOptions) : Type 0 where
  pub unmatched : skip.prints_unmatched ≡ prints_unmatched options
  pub binary : skip.leaves_out_binary ≡ leaves_out binaries

-- A file that is skipped is known, by its name and stamp, to print nothing; one that is known is one of the state.
abbrev pub IsFound : ShowOptions → BinaryFiles → Query → Parts → List ℕ → Stamp → FileLookup → Type 0
IsFound options binaries query parts name stamp Skipped = IsSkipped options binaries query parts name (Some stamp)
IsFound options binaries query parts name stamp Known = (kept : Kept) × IsKnownAs parts name stamp kept
IsFound options binaries query parts name stamp Unknown = Unit {0}

-- ---- names that are passed

-- the names are less than this one
abbrev pub AreBelow : List ℕ → List (List ℕ) → Type 0
AreBelow name names = AllByRecursion (λ other. is_lt (bytes_cmp other name) ≡ true) names

-- the names before an id are less than the name that has it
abbrev pub ArePassed : List (List ℕ) → ℕ → Type 0
ArePassed names id = (name : List ℕ) → slice_get names id ≡ Some name → AreBelow name (take id names)

module _ {S : Type 0} (model : S → Option (List ℕ)) where
  -- The store has the bytes of an index with these parts. The names that are left are those from an id on, and the candidates are
  -- those of the query.
  pub record ReadsParts (query : Query) (parts : Parts) (files : KnownFiles S) : Type 0 where
    pub index : List ℕ
    pub index_is : model files.bytes ≡ Some index
    pub names : files.id < files.count → ReadsNames index parts files.names
    pub passed : files.id < files.count → ArePassed parts.names files.id
    pub count : files.count ≤ length parts.names
    pub candidates : files.candidates.items ≡ candidates_of parts query

  -- a call keeps what is read
  abbrev pub KeepsParts : KnownFiles S → KnownFiles S → Type 0
  KeepsParts old new = (query : Query) (parts : Parts) → ReadsParts query parts old → ReadsParts query parts new

  -- the bytes, the options and the candidates stay
  abbrev pub KeepsRest : KnownFiles S → KnownFiles S → Type 0
  KeepsRest old new = (model new.bytes ≡ model old.bytes) × (new.options ≡ old.options) × (new.candidates ≡ old.candidates)

-- ---- names of a file

-- the name is that of the file with this path and stamp, which can be learned
abbrev pub IsNameOf : List ℕ → List ℕ → Stamp → FileKind → Type 0
IsNameOf name path stamp kind =
    IsLearnable path × HasNumbers stamp × (name ≡ stamped (known_of path stamp kind))

-- A name is less than the path; or it is not, and is the name of the file or another one.
abbrev pub IsMatchOf : List ℕ → List ℕ → Stamp → NameMatch → Type 0
IsMatchOf name path stamp Before = bytes_cmp name path ≡ Less
IsMatchOf name path stamp (Found kind) = (bytes_cmp name path ≢ Less) × IsNameOf name path stamp kind
IsMatchOf name path stamp Other = bytes_cmp name path ≢ Less

-- the first name that is not passed is that of the file
abbrev pub IsReached : Parts → ℕ → List ℕ → Stamp → FileKind → Type 0
IsReached parts id path stamp kind =
    (name : List ℕ) × (slice_get parts.names id ≡ Some name) × AreBelow name (take id parts.names)
    × IsNameOf name path stamp kind
