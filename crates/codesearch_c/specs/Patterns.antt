-- What the calls over a pattern answer.
use Rattle.std.specs.Prelude.{◌≡◌, ◌≢◌, nat_le, if◌then◌else◌, ℕ, ℤ, pos, Bool, true, false, List, length, count_by, Option, Some, None}
use Rattle.std.specs.Str.{IsUtf8}
use Rattle.cs_syntax.specs.Matching.{Tree, HasMatch}
use Rattle.cs_syntax.specs.Parsing.{ParsesAs}
use Rattle.cs_syntax.specs.ParseErrors.{IsParseError}
use Rattle.cs_syntax.specs.declared.fault.PatternError.{PatternError}
use Rattle.codesearch_c.specs.declared.slot.Held.{Held}
use Rattle.codesearch_c.specs.declared.slot.Slot.{Slot}
use Rattle.codesearch_c.specs.Compiled.{Compiled}
use Rattle.cs_match.specs.Lines.{lines}
use Rattle.cs_trigram.specs.QueryOf.{IsQueryOf}
use Rattle.cs_trigram.specs.declared.queries.Query.{Query}
use Rattle.cs_index.specs.OpenedParts.{Parts}
use Rattle.cs_index.specs.Candidates.{candidates_of}
use Rattle.cs_index.specs.CandidatePages.{candidates_from}
use Rattle.cs_index.specs.Answerable.{is_answerable}
use Rattle.cs_index.specs.Postings.{IsListFault}
use Rattle.cs_index.specs.declared.fault.IndexFault.{IndexFault}
use Rattle.codesearch_c.specs.declared.lines.LineBounds.{LineBounds}
use Rattle.codesearch_c.specs.Codes.{done, memory, room, misuse, not_utf8, index_code, pattern_code}
use Rattle.codesearch_c.specs.Copies.{IsCopy, IsPage}
use Rattle.codesearch_c.specs.MatchingLines.{ForEachTest, IsFirstLine, IsListing}
use Rattle.codesearch_c.specs.Slots.{OnPattern}

-- Why a text is not compiled: it is not UTF-8, it has a syntax error, or memory is refused.
pub data IsRefusal (text : List ℕ) (fold : Bool) (code : ℤ) (at : ℕ) : Type 0 where
  foreign : code ≡ not_utf8 → at ≡ 0 → ¬ (IsUtf8 text) → IsRefusal text fold code at
  rejected : (e : PatternError) → IsParseError text fold e → code ≡ pattern_code e.fault → at ≡ e.at → IsRefusal text fold code at
  refused : code ≡ memory → at ≡ 0 → IsRefusal text fold code at

-- after a compilation into an empty slot it holds the pattern of the text and its query, or nothing
abbrev pub IsCompiled : List ℕ → Bool → ℕ → Option Held → ℤ → ℕ → Type 0
IsCompiled text fold old_at slot code at =
    OnPattern slot (IsRefusal text fold code at)
    (λ held. ParsesAs text fold held.pattern × IsQueryOf false held.pattern held.query × (code ≡ done) × (at ≡ old_at))

-- the call is answered so, and the slot keeps what it holds
abbrev pub IsMisuse : Option Held → Option Held → ℤ → Type 0
IsMisuse old new code = (code ≡ misuse) × (new ≡ old)

-- the slot still holds this pattern
abbrev pub Keeps : Compiled → Option Held → Type 0
Keeps held slot = OnPattern slot (false ≡ true) (λ kept. kept ≡ held)

-- a slot keeps its pattern, by which the call is answered; or it has none, the call is a misuse, and what else is given stays
abbrev pub IsAnswered : Slot → Slot → ℤ → Type 0 → (Compiled → Type 0) → Type 0
IsAnswered old new code AreSame IsAnswer =
    OnPattern old.handle.value (IsMisuse old.handle.value new.handle.value code × AreSame)
    (λ held. IsAnswer held × Keeps held new.handle.value)

-- 1 and a match, 0 and none, or memory is refused
pub record IsMatchCode (pattern : Tree) (line : List ℕ) (code : ℤ) : Type 0 where
  pub yes : code ≡ pos 1 → HasMatch pattern line
  pub no : code ≡ pos 0 → ¬ (HasMatch pattern line)
  pub only : code ≢ pos 1 → code ≢ pos 0 → code ≡ memory

-- 1 and the first matching line from an offset on; or the line stays, and the code is 0 and there is none, or memory is
-- refused
pub record IsNextCode (pattern : Tree) (block : List ℕ) (from : ℕ) (old new : LineBounds) (code : ℤ) : Type 0 where
  pub found : code ≡ pos 1 → IsFirstLine pattern block from (Some new)
  pub none : code ≡ pos 0 → IsFirstLine pattern block from None
  pub kept : code ≢ pos 1 → new ≡ old
  pub only : code ≢ pos 1 → code ≢ pos 0 → code ≡ memory

-- whether all that there is has room
abbrev pub fit_code : ℕ → ℕ → ℤ
fit_code count room_for = if nat_le count room_for then done else room

-- the number of all matching lines, and those for which there is room; or memory is refused, and nothing changes
pub record IsLinesCode (pattern : Tree) (block : List ℕ) (old new : List LineBounds) (old_count count : ℕ) (code : ℤ) : Type 0 where
  pub listed : code ≢ memory → IsListing pattern block old new count × (code ≡ fit_code count (length old))
  pub kept : code ≡ memory → (new ≡ old) × (count ≡ old_count)

-- the number of matching lines; or memory is refused, and the count stays
pub record IsCountCode (pattern : Tree) (block : List ℕ) (old new : ℕ) (code : ℤ) : Type 0 where
  pub counted : code ≢ memory → ForEachTest pattern (λ has_match. new ≡ count_by has_match (lines block)) × (code ≡ done)
  pub kept : code ≡ memory → new ≡ old

-- the ids of the candidates are copied; or a list is damaged, or memory is refused, and nothing changes
pub data IsCandidatesCode (parts : Parts) (query : Query) (old new : List ℕ) (old_count count : ℕ) (code : ℤ) : Type 0 where
  copied : IsCopy (candidates_of parts query) old new count code → is_answerable parts query ≡ true →
      IsCandidatesCode parts query old new old_count count code
  failed : (fault : IndexFault) → IsListFault (is_answerable parts query) fault → code ≡ index_code fault → new ≡ old →
      count ≡ old_count → IsCandidatesCode parts query old new old_count count code

-- the first candidates from an id on are copied; or a list is damaged, or memory is refused, and nothing changes
pub data IsPageCode (parts : Parts) (query : Query) (from : ℕ) (old new : List ℕ) (old_count count : ℕ) (code : ℤ) : Type 0 where
  given : IsPage (candidates_from parts query from) old new count code → is_answerable parts query ≡ true →
      IsPageCode parts query from old new old_count count code
  missed : (fault : IndexFault) → IsListFault (is_answerable parts query) fault → code ≡ index_code fault → new ≡ old →
      count ≡ old_count → IsPageCode parts query from old new old_count count code
