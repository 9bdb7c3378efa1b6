-- The search of a tree that the files of a state are known for.
use Rattle.std.specs.Prelude.{◌≡◌, ℕ, List, Option, Some, None, IfSome, false}
use Rattle.cs_tree.specs.declared.tree.Stamp.{Stamp}
use Rattle.cs_lines.specs.declared.binary.BinaryFiles.{BinaryFiles}
use Rattle.cs_lines.specs.declared.form.ShowOptions.{ShowOptions}
use Rattle.cs_lines.specs.declared.search.LineSearch.{LineSearch}
use Rattle.cs_trigram.specs.declared.queries.Query.{Query}
use Rattle.cs_index.specs.OpenedParts.{Parts}
use Rattle.cs_project.specs.Knowledge.{SearchedTree}
use Rattle.cs_project.specs.Searched.{binary_as}
use Rattle.cs_known.specs.KnownFiles.{AreOptions, IsFound, KeepsParts, ReadsParts}
use Rattle.cs_known.specs.Learned.{Run, StillHolds}
use Rattle.cs_known.specs.Unprinted.{IsQueryOf, view_below}
use Rattle.cs_known.specs.declared.types.KnownFiles.{KnownFiles}
use Rattle.cs_known.specs.declared.types.FileLookup.{FileLookup}
use Rattle.cs_known.specs.declared.types.FileLookup.TheVariants.{Unknown}

module _ {S : Type 0} (model : S → Option (List ℕ)) where
  -- The files of the state are those that earlier runs learned below the folder, and still hold for the items and stamps of the
  -- tree; they are asked for by a query that loses no line of the search, and skipped by its options.
  pub record AreKnownFor (root : List ℕ) (tree : SearchedTree) (files : KnownFiles S) : Type 0 where
    pub search : LineSearch
    pub query : Query
    pub parts : Parts
    pub runs : List Run
    pub options : AreOptions tree.options (binary_as tree.binary false) files.options
    pub reads : ReadsParts model query parts files
    pub query_of : IsQueryOf search tree.finding query
    pub holds : StillHolds runs parts (view_below root tree.items tree.stamps)

  -- they are, if there is a state
  abbrev pub IsKnownFor : List ℕ → Option (KnownFiles S) → SearchedTree → Type 0
  IsKnownFor root files tree = IfSome files (AreKnownFor root tree)

  -- what is found of a name and stamp in a state, or without one
  abbrev pub IsFoundIn : Option (KnownFiles S) → List ℕ → Stamp → FileLookup → Type 0
  IsFoundIn None name stamp lookup = lookup ≡ Unknown
  IsFoundIn (Some files) name stamp lookup =
      (options : ShowOptions) (binaries : BinaryFiles) (query : Query) (parts : Parts) → AreOptions options binaries files.options →
      ReadsParts model query parts files → IsFound options binaries query parts name stamp lookup

  -- a call keeps what is known
  abbrev pub KeepsFiles : Option (KnownFiles S) → Option (KnownFiles S) → Type 0
  KeepsFiles None new = new ≡ None
  KeepsFiles (Some old) new = IfSome new (λ files. KeepsParts model old files × (files.options ≡ old.options))
