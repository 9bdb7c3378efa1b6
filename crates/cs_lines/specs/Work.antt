-- The work of a search of one text: the steps of its matcher (`cs_match`), and a step for each read, and for each byte that is
-- looked at for a line end, or counted if it is a newline. docs/PROMISES.md, "Work".
use Rattle.std.specs.Prelude.{ℕ, ◌≤◌, ◌+◌, ◌*◌, ◌-◌, ◌++◌, List, length, Option, Bool, nat_lt, if◌then◌else◌}
use Rattle.cs_prefilter.specs.OffsetWork.{offset_work}
use Rattle.cs_match.specs.LastPart.{last_part}
use Rattle.cs_match.specs.Work.{byte_work, WorksWithin}
use Rattle.cs_tree.specs.StreamModels.{SourceModel}
use Rattle.cs_tree.specs.Transfers.{Consumes}
use Rattle.cs_lines.specs.declared.form.ShowOptions.{ShowOptions}
use Rattle.cs_lines.specs.declared.search.LineSearch.{LineSearch}

-- The most steps of a search over a byte of a line. All else is stated by such a weight.
unfoldable pub line_weight : LineSearch → ℕ
line_weight search = byte_work search.matcher.tree

-- the most steps of a line of so many bytes
abbrev pub line_work : ℕ → ℕ → ℕ
line_work weight bytes = 2 * ((bytes + 1) * weight)

-- the most steps of the list of the lines of so many bytes that have a match
abbrev pub list_work : ℕ → ℕ → ℕ
list_work weight bytes = bytes * (weight + 2 * offset_work)

-- the most steps of the search for the next matching line over a byte
abbrev pub searched_byte_work : ℕ → ℕ
searched_byte_work weight = weight + 2 * offset_work + 1

-- and over so many bytes
abbrev pub search_work : ℕ → ℕ → ℕ
search_work weight bytes = bytes * searched_byte_work weight

-- The most steps of the search of whole lines of so many bytes. Each byte is searched, and counted if it is a newline.
unfoldable pub searched_work : ℕ → ℕ → ℕ
searched_work weight bytes = bytes * (searched_byte_work weight + 1)

-- The most steps of an input, if `text` was read of it. The unfinished line is tested alone. Each byte is one read at most, and
-- is looked at once for a line end.
abbrev pub input_work : ℕ → List ℕ → ℕ
input_work weight text = searched_work weight (length text) + line_work weight (length (last_part text)) + 2 * length text + 1

-- the most steps of the lines of a text that have ended
abbrev pub ended_work : ℕ → List ℕ → ℕ
ended_work weight text = searched_work weight (length text - length (last_part text))

-- and of the search for their ends, where the first `scanned` bytes have none
abbrev pub pending_work : ℕ → List ℕ → ℕ → ℕ
pending_work weight text scanned = ended_work weight text + (length text - scanned)

-- lines around marked ones are shown
abbrev pub has_context : ShowOptions → Bool
has_context options = nat_lt 0 (options.before + options.after)

-- How often a byte of a line is passed besides, until no later line can show it: to count it if it is a newline; with -v for the
-- end of its line; with lines around a marked one to find where these begin, and to show them.
abbrev pub walks : ShowOptions → ℕ
walks options = 1 + (if options.invert then 1 else 0) + (if has_context options then 2 else 0)

-- the most steps of a search of so many bytes of lines; the first `dropped` of all are dropped; what is held is counted
abbrev pub part_work : ShowOptions → ℕ → ℕ → ℕ → ℕ
part_work options weight bytes dropped =
    search_work weight bytes + (if has_context options then bytes else 0) + walks options * dropped

-- the most steps of a text whose lines are printed
abbrev pub shown_work : ShowOptions → ℕ → List ℕ → ℕ
shown_work options weight text =
    part_work options weight (length text) (length text) + line_work weight (length (last_part text)) + 2 * length text + 1

-- The most steps of a file. Its first bytes show whether it is binary, and each of them is one read at most.
abbrev pub file_work : ShowOptions → ℕ → List ℕ → ℕ
file_work options weight text = shown_work options weight text + length text + 1

-- the matcher of the search takes at most so many steps
abbrev pub Takes : ℕ → LineSearch → LineSearch → Type 0
Takes bound old new = WorksWithin bound old.matcher new.matcher

-- Some bytes were read behind the first ones, and the work of all bounds the steps; at most one byte more than so many. The
-- model of a source determines them.
pub record TakesRead (work : List ℕ → ℕ) (first : List ℕ) (most : ℕ) (model later : Option SourceModel) (old new : LineSearch) : Type 0 where
  pub text : List ℕ
  pub read : Consumes model later text
  pub size : length text ≤ most + 1
  pub bound : Takes (work (first ++ text)) old new
