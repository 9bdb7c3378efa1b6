-- Which lines of a text match, and where.
use Rattle.std.specs.Prelude.{ℕ, ◌≡◌, Bool, true, false, List, [], IsTrue, ◌↔◌, Option, Some, None, IfSome, MatchOption}
use Rattle.cs_syntax.specs.Matching.{Tree, HasMatch}
use Rattle.cs_match.specs.Span.{IsMatchOf, AreSpansFrom}
use Rattle.cs_match.specs.SpanList.{first_spans}
use Rattle.cs_lines.specs.Forms.{Span}
use Rattle.cs_lines.specs.Printing.{needs_spans}
use Rattle.cs_lines.specs.declared.form.LineForm.{LineForm}
use Rattle.cs_lines.specs.declared.search.LineSearch.{LineSearch}
use Rattle.cs_lines.specs.declared.search.SpanSearch.{SpanSearch}

-- How lines are tested, and where their matches are.
pub record Finding : Type 0 where
  pub has_match : List ℕ → Bool
  pub spans : List ℕ → List Span

-- no matches are looked for
abbrev pub of_lines : (List ℕ → Bool) → Finding
of_lines has_match = record { has_match = has_match; spans = λ line. [] }

-- a match of the line is a whole word
abbrev pub HasWord : Tree → List ℕ → Type 0
HasWord t line = (start end : ℕ) × IsMatchOf true t line 0 0 start end

-- the program whose matches are looked for, if they are
abbrev pub found_tree : LineSearch → Option Tree
found_tree search = elim search.found [ None ↦ None | Some found ↦ Some found.finder.tree ]

-- the line has a match
abbrev pub HasMatchBy : LineSearch → List ℕ → Type 0
HasMatchBy search line = HasMatch search.matcher.tree line

-- with -w one that is a whole word
abbrev pub HasWordBy : LineSearch → List ℕ → Type 0
HasWordBy search line = search.whole ≡ true → IfSome (found_tree search) (λ tree. HasWord tree line)

-- A line matches if it has a match; with -w, if one is a whole word.
abbrev pub Matches : LineSearch → List ℕ → Type 0
Matches search line = HasMatchBy search line × HasWordBy search line

-- the test decides which lines have a match
abbrev pub TestsMatches : (List ℕ → Bool) → LineSearch → Type 0
TestsMatches test search = (line : List ℕ) → IsTrue (test line) ↔ HasMatchBy search line

-- the test decides which lines match
abbrev pub Tests : (List ℕ → Bool) → LineSearch → Type 0
Tests test search = (line : List ℕ) → IsTrue (test line) ↔ Matches search line

-- the matches of a line, or those that are whole words, are these
abbrev pub AreSpansIn : Tree → Bool → List ℕ → List Span → Type 0
AreSpansIn tree whole line spans = AreSpansFrom true whole tree line 0 0 spans

-- the matches of a line are these: with -w those that are whole words; none, if no matches are looked for
abbrev pub AreSpansBy : LineSearch → List ℕ → List Span → Type 0
AreSpansBy search line spans = MatchOption (found_tree search) (spans ≡ []) (λ tree. AreSpansIn tree search.whole line spans)

-- the finding is that of the search
abbrev pub IsFoundBy : Finding → LineSearch → Type 0
IsFoundBy finding search = Tests finding.has_match search × ((line : List ℕ) → AreSpansBy search line (finding.spans line))

-- a search for the lines that have a match of a program, whose matches are not looked for
abbrev pub SearchesLines : LineSearch → Tree → Type 0
SearchesLines search tree = (search.matcher.tree ≡ tree) × (search.found ≡ None) × (search.whole ≡ false)

-- there is such a finding
unfoldable pub HasFinding : LineSearch → Type 0
HasFinding search = (finding : Finding) × IsFoundBy finding search

-- the matches of the last line that were found
abbrev pub spans_of : SpanSearch → List Span
spans_of found = first_spans found.count found.spans.items

abbrev pub found_spans : LineSearch → List Span
found_spans search = elim search.found [ None ↦ [] | Some found ↦ spans_of found ]

-- the matches of a line were not all found
abbrev pub has_stopped : LineSearch → Bool
has_stopped search = elim search.found [ None ↦ false | Some found ↦ found.stopped ]

-- the ends of the lines that were listed last
abbrev pub listed_ends : LineSearch → List ℕ
listed_ends search = search.matcher.ends

abbrev pub KeepsFinder : SpanSearch → SpanSearch → Type 0
KeepsFinder old new = (new.finder.tree ≡ old.finder.tree) × (new.stopped ≡ false → old.stopped ≡ false)

-- The search is for the same. If no line has used up its budget, none had before.
abbrev pub KeepsSearch : LineSearch → LineSearch → Type 0
KeepsSearch old new =
    (new.matcher.tree ≡ old.matcher.tree) × (found_tree new ≡ found_tree old) × (new.whole ≡ old.whole)
    × (has_stopped new ≡ false → has_stopped old ≡ false)

-- A line uses up its budget only where the form shows where matches are.
abbrev pub StopsBySpans : LineForm → LineSearch → LineSearch → Type 0
StopsBySpans form old new = needs_spans form ≡ false → has_stopped new ≡ has_stopped old
