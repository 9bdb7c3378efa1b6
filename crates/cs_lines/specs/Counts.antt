-- The number of wanted lines of a text, up to a limit.
use Rattle.std.specs.Prelude.{ℕ, ◌≡◌, ◌+◌, ◌≤◌, Bool, false, List, ◌++◌, length, take, nat_le, if◌then◌else◌, Option, Some, None, IfSome, Result, Ok, Err}
use Rattle.cs_match.specs.LastPart.{last_part}
use Rattle.cs_match.specs.Lines.{lines, terminated_lines}
use Rattle.cs_tree.specs.StreamModels.{SourceModel}
use Rattle.cs_lines.specs.Findings.{Finding, Tests}
use Rattle.cs_lines.specs.Shown.{at_most, wanted_of}
use Rattle.cs_lines.specs.Streamed.{ended_of, is_failed, read_lines}
use Rattle.cs_lines.specs.declared.counting.Counted.{Counted}
use Rattle.cs_lines.specs.declared.form.Mode.{Mode}
use Rattle.cs_lines.specs.declared.form.Mode.TheVariants.{Lines, Counts, Names, Others}
use Rattle.cs_lines.specs.declared.form.ShowOptions.{ShowOptions}
use Rattle.cs_lines.specs.declared.search.LineSearch.{LineSearch}
use Rattle.cs_lines.specs.declared.stream.Ended.{Ended}
use Rattle.cs_lines.specs.declared.stream.Ended.TheVariants.{Whole}

-- no more lines need to be counted
abbrev pub is_enough : Option ℕ → ℕ → Bool
is_enough None count = false
is_enough (Some most) count = nat_le most count

-- how many lines have to be counted, where none is printed: one is enough, except for -c
abbrev pub limit_by : Mode → Option ℕ → Option ℕ
limit_by Lines most = Some (at_most most 1)
limit_by Counts most = most
limit_by Names most = Some (at_most most 1)
limit_by Others most = Some (at_most most 1)

-- As many lines are wanted, or both are enough.
abbrev pub IsCount : Option ℕ → ℕ → ℕ → Type 0
IsCount most count wanted = (count ≤ wanted) × (at_most most count ≡ at_most most wanted)

-- the wanted lines of a block were counted
abbrev pub CountsBlock : ShowOptions → Option ℕ → LineSearch → List ℕ → ℕ → Type 0
CountsBlock options most search block count = (finding : Finding) → Tests finding.has_match search →
    IsCount most count (wanted_of options finding (terminated_lines block))

-- The wanted lines of a buffer that have ended were counted. What follows them is left.
pub record CountsPending (options : ShowOptions) (most : Option ℕ) (search : LineSearch) (text text' : List ℕ) (count : ℕ) : Type 0 where
  pub rest : text' ≡ last_part text
  pub size : count + length text' ≤ length text
  pub counted : CountsBlock options most search text count

-- The wanted lines of a text were counted.
abbrev pub CountsText : LineSearch → ShowOptions → Option ℕ → List ℕ → ℕ → Type 0
CountsText search options most text count = (finding : Finding) → Tests finding.has_match search →
    IsCount most count (wanted_of options finding (lines text))

-- the end of a text whose lines are counted: enough of them end it
abbrev pub ended_by : Option ℕ → ℕ → Ended → Ended
ended_by most wanted ended = if is_enough most wanted then Whole else ended

-- The same of a text that is read: of one that is not read to its end the lines that have ended.
abbrev pub CountsStream : LineSearch → ShowOptions → Option ℕ → ℕ → Option SourceModel → List ℕ → Counted → Type 0
CountsStream search options most left model first counted = IfSome model (λ source. (finding : Finding) → Tests finding.has_match search →
    let ended = ended_of left source in
    let wanted = wanted_of options finding (read_lines ended (first ++ take left source.bytes)) in
    IsCount most counted.count wanted × (counted.ended ≡ ended_by most wanted ended))

-- a read of the text failed
abbrev pub has_failed_count : {E : Type 0} → Result Counted E → Bool
has_failed_count (Ok counted) = is_failed counted.ended
has_failed_count (Err fault) = false
