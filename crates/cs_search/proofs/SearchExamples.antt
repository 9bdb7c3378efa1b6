-- Worked examples of searches over a small tree: a file, a missing file, and a file whose reading fails midway.
use Rattle.std.proofs.Common.{◌≡◌, ℕ, Bool, true, false, List, [], ◌∷◌, filter, ap, ◌∙◌, Option, Some, None}
use Rattle.std.specs.Prelude.{codes, map, string_bytes, unwrap_or}
use Rattle.std.specs.Str.{bytes_eq}
use Rattle.std.specs.Fmt.{digits}
use Rattle.std.specs.FinMap as map'
use Rattle.std.specs.FinMap.{find}
use Rattle.cs_match.specs.Lines.{lines, terminated_lines}
use Rattle.cs_tree.specs.NameOrder.{bytes_cmp}
use Rattle.cs_tree.specs.Snapshot.{Snapshot, Item, file, cut, bad, missing, item_at}
use Rattle.cs_tree.specs.TreeAnswers.{opening_of}
use Rattle.cs_tree.proofs.PathSetLemmas.{entries_in_order}
use Rattle.cs_trigram.specs.Trigram.{has}
use Rattle.cs_trigram.specs.declared.queries.Query.TheVariants.{Tri}
use Rattle.cs_trigram.proofs.QueryLemmas.{matches_set-Tri}
use Rattle.cs_index.specs.Encoding.{Entry, names_of}
use Rattle.cs_index.specs.OpenedParts.{Parts, files_read}
use Rattle.cs_history.specs.MatchingFiles.{names_matching}
use Rattle.cs_args.specs.declared.jobs.Tool.{Tool}
use Rattle.cs_args.specs.declared.jobs.Tool.TheVariants.{Csearch, Cgrep}
use Rattle.cs_args.specs.declared.jobs.Style.{Style}
use Rattle.cs_args.specs.declared.jobs.GrepJob.{GrepJob}
use Rattle.cs_search.specs.Report.{report, matches_output, matches_from, match_line, name_line, count_line}
use Rattle.cs_search.specs.InputReport.{max_searched, input_report}
use Rattle.cs_search.specs.Printed.{Printed, input_printed, opened_printed, file_printed, all_printed}
use Rattle.cs_search.specs.Cgrep.{cgrep_printed}
use Rattle.cs_search.specs.Csearch.{csearch_printed}
use Rattle.cs_search.proofs.CgrepLemmas.{cgrep_files}

-- the line `one` matches
one : List ℕ → Bool
one line = bytes_eq line (codes "one")

-- ---- the tree

abbrev rows : List (List ℕ × Item)
rows = (codes "/t/a", file (codes "one\ntwo\none")) ∷ (codes "/t/c", cut (codes "one\non")) ∷ []

abbrev tree : Snapshot
tree = map'.from_entries rows

abbrev item_in : List ℕ → Item
item_in name = unwrap_or (find bytes_cmp name rows) (bad missing)

item_is : (name : List ℕ) → item_at tree name ≡ item_in name
item_is name = ap (λ (o : Option Item). unwrap_or o (bad missing))
    (map'.get-entries tree name ∙ ap (find bytes_cmp name) (entries_in_order rows tt))

module _ (tool : Tool) (style : Style) where
  abbrev printed_in : List ℕ → Printed
  printed_in name = opened_printed max_searched tool style one name (opening_of (item_in name))

  printed_is : (name : List ℕ) → file_printed max_searched tool style one tree name ≡ printed_in name
  unfolding file_printed
  printed_is name = ap (λ (item : Item). opened_printed max_searched tool style one name (opening_of item)) (item_is name)

  all_is : (names : List (List ℕ)) → all_printed (file_printed max_searched tool style one tree) names ≡ all_printed printed_in names
  all_is names = λ i. all_printed (λ name. printed_is name i) names

-- ---- files

plain : Style
plain = record { count = false; list = false; number = false; bare = false }

numbered : Style
numbered = record { count = false; list = false; number = true; bare = false }

counted : Style
counted = record { count = true; list = false; number = false; bare = false }

listed : Style
listed = record { count = false; list = true; number = false; bare = false }

a_file : file_printed max_searched Cgrep plain one tree (codes "/t/a")
    ≡ record { output = codes "/t/a:one\n/t/a:one\n"; errors = []; matched = true }
unfolding one plain input_printed input_report report matches_output matches_from match_line lines
a_file = printed_is Cgrep plain (codes "/t/a")

a_file_that_is_missing : file_printed max_searched Csearch plain one tree (codes "/t/b")
    ≡ record { output = []; errors = codes "csearch: /t/b: no such file\n"; matched = false }
a_file_that_is_missing = printed_is Csearch plain (codes "/t/b")

a_file_that_is_cut : file_printed max_searched Cgrep plain one tree (codes "/t/c")
    ≡ record { output = codes "/t/c:one\n"; errors = codes "cgrep: /t/c: cannot be read\n"; matched = true }
unfolding one plain input_printed input_report report matches_output matches_from match_line terminated_lines
a_file_that_is_cut = printed_is Cgrep plain (codes "/t/c")

-- ---- cgrep of all three

abbrev names : List (List ℕ)
names = codes "/t/a" ∷ codes "/t/b" ∷ codes "/t/c" ∷ []

-- a job of cgrep over these names
module _ (job : GrepJob) (files : job.standard ≡ false) (over : map string_bytes job.files.items ≡ names) where
  by_cgrep : (style : Style) → job.style ≡ style → cgrep_printed max_searched job one (Some tree) None
      ≡ Some (all_printed (printed_in Cgrep style) names)
  by_cgrep style is =
      cgrep_files max_searched job one (Some tree) None files
      ∙ (λ i. Some (all_printed (file_printed max_searched Cgrep (is i) one tree) (over i)))
      ∙ ap (λ (printed : Printed). Some printed) (all_is Cgrep style names)

  cgrep_prints_lines : job.style ≡ plain → cgrep_printed max_searched job one (Some tree) None ≡ Some (record {
    output = codes "/t/a:one\n/t/a:one\n/t/c:one\n";
    errors = codes "cgrep: /t/b: no such file\ncgrep: /t/c: cannot be read\n";
    matched = true;
  })
  unfolding one plain all_printed input_printed input_report report matches_output matches_from match_line lines terminated_lines
  cgrep_prints_lines is = by_cgrep plain is

  cgrep_prints_numbers : job.style ≡ numbered → cgrep_printed max_searched job one (Some tree) None ≡ Some (record {
    output = codes "/t/a:1:one\n/t/a:3:one\n/t/c:1:one\n";
    errors = codes "cgrep: /t/b: no such file\ncgrep: /t/c: cannot be read\n";
    matched = true;
  })
  unfolding one numbered all_printed input_printed input_report report matches_output matches_from match_line lines terminated_lines digits
  cgrep_prints_numbers is = by_cgrep numbered is

  -- the file that fails has no count
  cgrep_prints_counts : job.style ≡ counted → cgrep_printed max_searched job one (Some tree) None ≡ Some (record {
    output = codes "/t/a: 2\n";
    errors = codes "cgrep: /t/b: no such file\ncgrep: /t/c: cannot be read\n";
    matched = true;
  })
  unfolding one counted all_printed input_printed input_report report matches_output matches_from count_line lines terminated_lines digits
  cgrep_prints_counts is = by_cgrep counted is

  -- a fault after the first matching line is not seen
  cgrep_prints_names : job.style ≡ listed → cgrep_printed max_searched job one (Some tree) None ≡ Some (record {
    output = codes "/t/a\n/t/c\n";
    errors = codes "cgrep: /t/b: no such file\n";
    matched = true;
  })
  unfolding one listed all_printed input_printed input_report report matches_output matches_from name_line lines terminated_lines
  cgrep_prints_names is = by_cgrep listed is

-- ---- csearch by an index of all three, one of which the query excludes

abbrev entries : List Entry
entries = (codes "/t/a", 0x6f6e65 ∷ []) ∷ (codes "/t/b", 0x6f6e65 ∷ []) ∷ (codes "/t/c", 0x74776f ∷ []) ∷ []

matching_names : names_matching (Tri 0x6f6e65) entries ≡ codes "/t/a" ∷ codes "/t/b" ∷ []
unfolding names_matching
matching_names = λ i. names_of (filter (λ (entry : Entry). matches_set-Tri (has entry.1) 0x6f6e65 i) entries)

module _ (parts : Parts) (has_files : files_read parts ≡ entries) where
  by_csearch : (style : Style) (keeps : List ℕ → Bool) → csearch_printed max_searched style one keeps parts
      (Tri 0x6f6e65) (Some tree) ≡ Some (all_printed (printed_in Csearch style)
      (filter keeps (codes "/t/a" ∷ codes "/t/b" ∷ [])))
  unfolding csearch_printed
  by_csearch style keeps =
      ap (λ (files : List Entry). Some (all_printed (file_printed max_searched Csearch style one tree)
      (filter keeps (names_matching (Tri 0x6f6e65) files)))) has_files
      ∙ ap (λ (names : List (List ℕ)). Some (all_printed (file_printed max_searched Csearch style one tree)
      (filter keeps names))) matching_names
      ∙ ap (λ (printed : Printed). Some printed) (all_is Csearch style (filter keeps (codes "/t/a" ∷ codes "/t/b" ∷ [])))

  csearch_prints_lines : csearch_printed max_searched plain one (λ name. true) parts (Tri 0x6f6e65) (Some tree) ≡ Some (record {
    output = codes "/t/a:one\n/t/a:one\n";
    errors = codes "csearch: /t/b: no such file\n";
    matched = true;
  })
  unfolding one plain all_printed input_printed input_report report matches_output matches_from match_line lines
  csearch_prints_lines = by_csearch plain (λ name. true)

  csearch_prints_names_that_are_kept : csearch_printed max_searched listed one (λ name. bytes_eq name (codes "/t/a"))
      parts (Tri 0x6f6e65) (Some tree) ≡ Some (record { output = codes "/t/a\n"; errors = []; matched = true })
  unfolding one listed all_printed input_printed input_report report matches_output matches_from name_line lines
  csearch_prints_names_that_are_kept = by_csearch listed (λ name. bytes_eq name (codes "/t/a"))
