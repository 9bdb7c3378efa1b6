-- What the call answers that prints what cgrep prints. docs/PROMISES.md, "What is printed".
use Rattle.std.specs.Prelude.{◌≡◌, ℕ, ◌/◌, ◌%◌, nat_eq, ℤ, List}
use Rattle.std.specs.Str.{IsUtf8}
use Rattle.cs_syntax.specs.Matching.{Tree}
use Rattle.cs_args.specs.declared.jobs.Style.{Style}
use Rattle.cs_search.specs.GrepReports.{text_report}
use Rattle.codesearch_c.specs.Codes.{memory, not_utf8}
use Rattle.codesearch_c.specs.Copies.{IsCopy}
use Rattle.codesearch_c.specs.MatchingLines.{ForEachTest}

-- the options of cgrep, from a sum of 1 for `-c`, 2 for `-l`, 4 for `-n` and 8 for `-h`
abbrev pub style_of : ℕ → Style
style_of flags = record {
  count = nat_eq (flags % 2) 1;
  list = nat_eq (flags / 2 % 2) 1;
  number = nat_eq (flags / 4 % 2) 1;
  bare = nat_eq (flags / 8 % 2) 1;
}

-- The output of the report of the whole text is copied; or nothing changes, as the name is not UTF-8 or memory is refused.
pub data IsReportCode (pattern : Tree) (name text : List ℕ) (flags : ℕ) (old new : List ℕ) (old_len len : ℕ) (code : ℤ) : Type 0 where
  reported : IsUtf8 name → ForEachTest pattern
      (λ has_match. IsCopy (text_report (style_of flags) name has_match text).output old new len code) →
      IsReportCode pattern name text flags old new old_len len code
  foreign_name : ¬ (IsUtf8 name) → code ≡ not_utf8 → new ≡ old → len ≡ old_len → IsReportCode pattern name text flags
      old new old_len len code
  no_memory : code ≡ memory → new ≡ old → len ≡ old_len → IsReportCode pattern name text flags old new old_len len code
