-- The lines of a text that is read block by block.
use Rattle.std.specs.Prelude.{ℕ, ◌≡◌, ◌≤◌, ◌+◌, Bool, true, false, nat_lt, if◌then◌else◌, List, [], ◌++◌, length, take, drop, slice_range, Option, None, IfSome, OnErr, Result, Ok, Err}
use Rattle.cs_syntax.specs.Matching.{Tree}
use Rattle.cs_match.specs.Deciding.{Decides}
use Rattle.cs_match.specs.Lines.{lines, terminated_lines}
use Rattle.cs_match.specs.LastPart.{last_part}
use Rattle.cs_match.specs.NoNewline.{HasNoNewline}
use Rattle.cs_match.specs.Skipping.{AreWholeLines}
use Rattle.cs_lines.specs.Counts.{ended_by, limit_by}
use Rattle.cs_lines.specs.Findings.{Finding, IsFoundBy, has_stopped, of_lines}
use Rattle.cs_lines.specs.Printed.{BeginsItem, LinesBegun, LinesPrinted, PrintsItem, marked_of}
use Rattle.cs_lines.specs.Project.{searched_as, text_shown}
use Rattle.cs_lines.specs.Scans.{Fits, PrintsAlike, BeginsRows}
use Rattle.cs_lines.specs.Shown.{between, following, total_groups, wanted_of}
use Rattle.cs_lines.specs.Streamed.{ended_of, is_failed, is_whole, read_lines}
use Rattle.cs_lines.specs.declared.binary.BinaryFiles.{BinaryFiles}
use Rattle.cs_lines.specs.declared.form.Mode.{Mode}
use Rattle.cs_lines.specs.declared.form.Mode.TheVariants.{Lines, Counts, Names, Others}
use Rattle.cs_lines.specs.Work.{has_context}
use Rattle.cs_lines.specs.declared.form.ShowOptions.{ShowOptions}
use Rattle.cs_lines.specs.declared.rows.Page.{Page}
use Rattle.cs_lines.specs.declared.rows.Rows.{Rows}
use Rattle.cs_lines.specs.declared.search.LineSearch.{LineSearch}
use Rattle.cs_tree.specs.declared.sink_output.SinkOutput.{SinkOutput}
use Rattle.cs_lines.specs.declared.stream.Ended.{Ended}
use Rattle.cs_lines.specs.declared.stream.HeldLines.{HeldLines}
use Rattle.cs_lines.specs.declared.stream.Streamed.{Streamed}
use Rattle.cs_tree.specs.StreamModels.{SourceModel}

-- The last newline of a text is before `end`, which is at or after `from`.
abbrev pub EndsAt : List ℕ → ℕ → ℕ → Type 0
EndsAt text from end = (from ≤ end) × (end ≤ length text) × AreWholeLines (take end text) × HasNoNewline (drop end text)

-- The bytes before `from` are lines that are held. Those from there to `scanned` are no whole line.
pub record IsReady (rows : Rows) (text : List ℕ) (from scanned : ℕ) : Type 0 where
  pub low : from ≤ scanned
  pub high : scanned ≤ length text
  pub whole : AreWholeLines (take from text)
  pub part : HasNoNewline (slice_range text from scanned)
  pub fits : Fits (terminated_lines (take from text)) rows.left

-- The first bytes are held lines, whose number is known if lines around marked ones are shown.
pub record IsCounted (options : ShowOptions) (held : List ℕ) (known : HeldLines) : Type 0 where
  pub within : known.len ≤ length held
  pub whole : AreWholeLines (take known.len held)
  pub lines : has_context options ≡ true → known.lines ≡ length (terminated_lines (take known.len held))

abbrev pub no_held : HeldLines
no_held = record { len = 0; lines = 0 }

-- The lines that are held are fewer, and all later lines are shown with the same lines around them.
pub record IsTrimmed (old new : Rows) (held : List ℕ) (start : ℕ) : Type 0 where
  pub within : start ≤ length held
  pub whole : AreWholeLines (drop start held)
  pub fits : Fits (terminated_lines (drop start held)) new.left
  pub page : new.page ≡ old.page
  pub room : new.number ≤ old.number + start
  pub shown : (new.shown ≡ old.shown) × (new.next ≡ old.next)
  pub rows : (given : List ℕ) (finding : Finding) (later : List (List ℕ)) →
      PrintsAlike old new given given finding (terminated_lines held) later (terminated_lines (drop start held)) later

-- The pending lines that have ended were searched: what is to be printed of them and of any lines after them was printed, except
-- what is to be printed now. The unfinished line is left.
pub record StreamsRows (search search' : LineSearch) (old new : Rows) (given given' : List ℕ) (from : ℕ) (text text' : List ℕ) (from' : ℕ) : Type 0 where
  pub rest : drop from' text' ≡ last_part (drop from text)
  pub fewer : length text' ≤ length text
  pub page : new.page ≡ old.page
  pub rows : has_stopped search' ≡ false → (finding : Finding) (later : List (List ℕ)) → IsFoundBy finding search →
      PrintsAlike old new given given' finding (terminated_lines (take from text)) (terminated_lines (drop from text) ++ later)
      (terminated_lines (take from' text')) later

-- what was printed begins what is to be printed of the pending lines that have ended, and of any lines after them
abbrev pub BeginsBytes : LineSearch → LineSearch → Rows → List ℕ → List ℕ → ℕ → List ℕ → Type 0
BeginsBytes search search' old given later from text =
    BeginsRows search search' old given later (terminated_lines (take from text)) (terminated_lines (drop from text))

-- a read of the text failed
abbrev pub has_failed_read : {E : Type 0} → Result Streamed E → Bool
has_failed_read (Ok streamed) = is_failed streamed.ended
has_failed_read (Err fault) = false

-- If a read of the text failed, no write did.
abbrev pub FailsAlone : {O E : Type 0} → SinkOutput O → SinkOutput O → Result Streamed E → Type 0
FailsAlone out out' result = has_failed_read result ≡ true → out.fault ≡ None → out'.fault ≡ None

-- ---- what was printed of a text that was read so far

module _ (page : Page) (finding : Finding) (ended : Ended) (text : List ℕ) (given later : List ℕ) where
  -- its lines
  abbrev pub LinesStreamed : Streamed → Type 0
  LinesStreamed streamed = (streamed.ended ≡ ended) × LinesPrinted page finding (read_lines ended text) given later streamed.marked

  -- a beginning of them, and of the lines of all that could have been read
  abbrev pub LinesCut : List ℕ → Type 0
  LinesCut whole = LinesBegun page finding (read_lines ended text) given later × LinesBegun page finding (lines whole) given later

  -- how many lines are marked, or that one is; nothing, if it was not read to its end
  abbrev pub TotalStreamed : Streamed → Type 0
  TotalStreamed streamed =
      let options = page.options.now in
      let marked = marked_of options finding (read_lines ended text) in
      let groups = total_groups options page.name.now options.mode marked in
      (streamed.ended ≡ ended_by (limit_by options.mode options.most) (wanted_of options finding (read_lines ended text)) ended)
      × (later ≡ (if is_whole streamed.ended then given ++ following (between options) page.begun groups else given))
      × (streamed.marked ≡ nat_lt 0 marked)

  -- by the mode
  abbrev pub TextStreamed : Mode → Streamed → Type 0
  TextStreamed Lines streamed = LinesStreamed streamed
  TextStreamed Counts streamed = TotalStreamed streamed
  TextStreamed Names streamed = TotalStreamed streamed
  TextStreamed Others streamed = TotalStreamed streamed

  -- a beginning of its lines, also after an error; then nothing is printed where no lines are
  abbrev pub TextCut : {E : Type 0} → List ℕ → Mode → Result Streamed E → Type 0
  TextCut whole Lines result = LinesCut whole
  TextCut whole Counts result = OnErr result (later ≡ given)
  TextCut whole Names result = OnErr result (later ≡ given)
  TextCut whole Others result = OnErr result (later ≡ given)

-- The same of a text that begins with some bytes, and goes on with those of a source, at most so many.
abbrev pub IfStreamed : ℕ → Option SourceModel → List ℕ → (Ended → List ℕ → Type 0) → Type 0
IfStreamed left model first Claim = IfSome model (λ source. Claim (ended_of left source) (first ++ take left source.bytes))

abbrev pub IfCut : ℕ → Option SourceModel → List ℕ → (Ended → List ℕ → List ℕ → Type 0) → Type 0
IfCut left model first Claim = IfSome model (λ source. Claim (ended_of left source) (first ++ take left source.bytes) (first ++ source.bytes))

-- of each finding of a search, unless a line has used up its budget
abbrev pub IfFound : LineSearch → LineSearch → (Finding → Type 0) → Type 0
IfFound search search' Claim = has_stopped search' ≡ false → (finding : Finding) → IsFoundBy finding search → Claim finding

module _ (search search' : LineSearch) (page : Page) (left : ℕ) (model : Option SourceModel) (first given later : List ℕ) where
  abbrev pub StreamsLines : Streamed → Type 0
  StreamsLines streamed = IfStreamed left model first
      (λ ended text. IfFound search search' (λ finding. LinesStreamed page finding ended text given later streamed))

  abbrev pub BeginsLines : Type 0
  BeginsLines = IfCut left model first
      (λ ended text whole. IfFound search search' (λ finding. LinesCut page finding ended text given later whole))

  abbrev pub StreamsTotal : Streamed → Type 0
  StreamsTotal streamed = IfStreamed left model first
      (λ ended text. IfFound search search' (λ finding. TotalStreamed page finding ended text given later streamed))

  abbrev pub StreamsText : Streamed → Type 0
  StreamsText streamed = IfStreamed left model first
      (λ ended text. IfFound search search' (λ finding. TextStreamed page finding ended text given later page.options.now.mode streamed))

  abbrev pub BeginsText : {E : Type 0} → Result Streamed E → Type 0
  BeginsText result = IfCut left model first
      (λ ended text whole. IfFound search search' (λ finding. TextCut page finding ended text given later whole page.options.now.mode result))

-- What is printed for an input was printed; at most `limit` bytes of it are searched.
abbrev pub StreamsInput : Tree → Page → ℕ → Option SourceModel → List ℕ → List ℕ → Streamed → Type 0
StreamsInput tree page limit model given later streamed = IfStreamed limit model [] (λ ended text.
    (has_match : List ℕ → Bool) → Decides has_match tree →
    TextStreamed page (of_lines has_match) ended text given later page.options.now.mode streamed)

-- a beginning of it
abbrev pub BeginsInput : {E : Type 0} → Tree → Page → ℕ → Option SourceModel → List ℕ → List ℕ → Result Streamed E → Type 0
BeginsInput tree page limit model given later result = IfCut limit model [] (λ ended text whole.
    (has_match : List ℕ → Bool) → Decides has_match tree →
    TextCut page (of_lines has_match) ended text given later whole page.options.now.mode result)

-- ---- a text in memory

-- its lines were printed
abbrev pub ShowsLines : LineSearch → LineSearch → Page → List ℕ → List ℕ → List ℕ → Bool → Type 0
ShowsLines search search' page text given later here =
    IfFound search search' (λ finding. LinesPrinted page finding (lines text) given later here)

-- a beginning of them was printed
abbrev pub ShowsSome : LineSearch → LineSearch → Page → List ℕ → List ℕ → List ℕ → Type 0
ShowsSome search search' page text given later = IfFound search search' (λ finding. LinesBegun page finding (lines text) given later)

module _ (page : Page) (finding : Finding) (text given later : List ℕ) where
  abbrev pub TotalShown : Bool → Type 0
  TotalShown here =
      let options = page.options.now in
      let marked = marked_of options finding (lines text) in
      (later ≡ given ++ following (between options) page.begun (total_groups options page.name.now options.mode marked))
      × (here ≡ nat_lt 0 marked)

  abbrev pub TextShown : Mode → Bool → Type 0
  TextShown Lines here = LinesPrinted page finding (lines text) given later here
  TextShown Counts here = TotalShown here
  TextShown Names here = TotalShown here
  TextShown Others here = TotalShown here

  abbrev pub TextBegun : Mode → Type 0
  TextBegun Lines = LinesBegun page finding (lines text) given later
  TextBegun Counts = later ≡ given
  TextBegun Names = later ≡ given
  TextBegun Others = later ≡ given

-- What is printed for the text was printed.
abbrev pub ShowsText : Tree → Page → List ℕ → List ℕ → List ℕ → Bool → Type 0
ShowsText tree page text given later here = (has_match : List ℕ → Bool) → Decides has_match tree →
    TextShown page (of_lines has_match) text given later page.options.now.mode here

-- A beginning of it was printed.
abbrev pub ShowsBegun : Tree → Page → List ℕ → List ℕ → List ℕ → Type 0
ShowsBegun tree page text given later = (has_match : List ℕ → Bool) → Decides has_match tree →
    TextBegun page (of_lines has_match) text given later page.options.now.mode

-- ---- a file

-- What is printed for a file was printed, if it was read to its end, or as far as it matters.
abbrev pub PrintsFile : LineSearch → LineSearch → Page → BinaryFiles → Option SourceModel → List ℕ → List ℕ → Streamed → Type 0
PrintsFile search search' page binary model given later streamed = IfSome model (λ source. is_whole streamed.ended ≡ true →
    PrintsItem search search' page (searched_as binary source.bytes) source.bytes given later streamed.marked)

-- a beginning of it was printed
abbrev pub BeginsFile : LineSearch → LineSearch → Page → BinaryFiles → Option SourceModel → List ℕ → List ℕ → Type 0
BeginsFile search search' page binary model given later = IfSome model (λ source.
    BeginsItem search search' page (searched_as binary source.bytes) source.bytes given later)

-- A line of the text is marked, if this is said, also of one that was not read to its end.
abbrev pub FindsInFile : LineSearch → LineSearch → Page → BinaryFiles → Option SourceModel → Streamed → Type 0
FindsInFile search search' page binary model streamed = IfSome model (λ source.
    has_stopped search' ≡ false → (finding : Finding) → IsFoundBy finding search → streamed.marked ≡ true →
    (text_shown page.options.now finding page.name.now binary source.bytes).marked ≡ true)
