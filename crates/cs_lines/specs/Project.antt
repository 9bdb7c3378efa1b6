-- What a search prints for a text of a project, and its exit status.
use Rattle.std.specs.Prelude.{ℕ, Bool, false, nat_lt, if◌then◌else◌, List, []}
use Rattle.cs_lines.specs.Findings.{Finding}
use Rattle.cs_lines.specs.Shown.{count_of, is_binary, text_groups, total_groups}
use Rattle.cs_lines.specs.declared.binary.BinaryFiles.{BinaryFiles}
use Rattle.cs_lines.specs.declared.binary.BinaryFiles.TheVariants.{WithoutMatch, Binary, Text}
use Rattle.cs_lines.specs.declared.form.ShowOptions.{ShowOptions}

-- The groups of lines, and whether a line is marked.
pub record ItemShown : Type 0 where
  pub groups : List (List ℕ)
  pub marked : Bool

abbrev pub nothing_shown : ItemShown
nothing_shown = record { groups = []; marked = false }

-- a text that is not binary is searched as text
abbrev pub searched_as : BinaryFiles → List ℕ → BinaryFiles
searched_as binary text = if is_binary text then binary else Text

module _ (options : ShowOptions) (finding : Finding) (name : List ℕ) where
  abbrev pub shown_as : BinaryFiles → List ℕ → ItemShown
  shown_as WithoutMatch text = nothing_shown
  shown_as Binary text = record {
    groups = total_groups options name options.mode (count_of options finding text);
    marked = nat_lt 0 (count_of options finding text);
  }
  shown_as Text text = record { groups = text_groups options finding name text; marked = nat_lt 0 (count_of options finding text) }

  abbrev pub text_shown : BinaryFiles → List ℕ → ItemShown
  text_shown binary text = shown_as (searched_as binary text) text

-- the status: 2 after an error, else 0 if a line is marked, else 1
abbrev pub status_by : Bool → Bool → ℕ
status_by wrong marked = if wrong then 2 else (if marked then 0 else 1)
