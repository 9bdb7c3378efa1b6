-- Worked examples of reports.
use Rattle.std.proofs.Common.{◌≡◌, ℕ, Bool, true, false, List, [], ◌∷◌, Some, None, refl, codes, inl, inr}
use Rattle.std.specs.Str.{bytes_eq}
use Rattle.std.specs.Fmt.{digits}
use Rattle.cs_args.specs.declared.jobs.Style.{Style}
use Rattle.cs_search.specs.declared.status.ReadFault.{ReadFault}
use Rattle.cs_search.specs.declared.status.ReadFault.TheVariants.{Read}
use Rattle.cs_match.specs.Lines.{lines, terminated_lines}
use Rattle.cs_args.specs.declared.fault.FileFault.TheVariants.{Missing, Denied, InputTooLong}
use Rattle.cs_search.specs.Printed.{AreFaultsOf, failures_of}
use Rattle.cs_search.specs.Report.{report, matches_output, matches_from, match_line, name_line, count_line}

-- the line `one` matches
one : List ℕ → Bool
one line = bytes_eq line (codes "one")

plain : Style
plain = record { count = false; list = false; number = false; bare = false }

counted : Style
counted = record { count = true; list = false; number = false; bare = false }

listed : Style
listed = record { count = true; list = true; number = false; bare = false }

numbered : Style
numbered = record { count = false; list = false; number = true; bare = true }

numbers_without_names : (report {Fault = ReadFault} numbered (codes "/t/p") one (codes "one\ntwo\none\n") None).output
    ≡ codes "1:one\n3:one\n"
unfolding one numbered report matches_output matches_from match_line lines digits
numbers_without_names = refl

count_of_two : (report {Fault = ReadFault} counted (codes "/t/p") one (codes "one\ntwo\none\n") None).output ≡ codes "/t/p: 2\n"
unfolding one counted report matches_output matches_from count_line lines digits
count_of_two = refl

list_before_count : (report {Fault = ReadFault} listed (codes "/t/p") one (codes "one\ntwo\none\n") None).output ≡ codes "/t/p\n"
unfolding one listed report matches_output matches_from name_line lines
list_before_count = refl

added_newline : (report {Fault = ReadFault} plain (codes "t") one (codes "two\none") None).output ≡ codes "t:one\n"
unfolding one plain report matches_output matches_from match_line lines
added_newline = refl

no_count_of_a_failed_input : (report counted (codes "/t/c") one (codes "one\ntwo\non") (Some Read)).output ≡ []
unfolding one counted report matches_output matches_from count_line terminated_lines
no_count_of_a_failed_input = refl

fault_of_a_failed_input : (report counted (codes "/t/c") one (codes "one\ntwo\non") (Some Read)).fault ≡ Some Read
unfolding one counted report matches_output matches_from count_line terminated_lines
fault_of_a_failed_input = refl

no_fault_after_a_listed_match : (report listed (codes "/t/c") one (codes "one\ntwo\non") (Some Read)).fault ≡ None
unfolding one listed report matches_output matches_from name_line terminated_lines
no_fault_after_a_listed_match = refl

-- ---- failed searches

fault_of_the_second_name : AreFaultsOf (codes "a" ∷ codes "b" ∷ codes "c" ∷ []) ((codes "b", Missing) ∷ [])
fault_of_the_second_name = inl (inr (Missing, [], refl, inr refl, inl refl))

too_long_is_no_failure : failures_of ((codes "a", InputTooLong) ∷ (codes "b", Missing) ∷ []) 3 ≡ 4
too_long_is_no_failure = refl

no_name_has_two_faults : AreFaultsOf (codes "a" ∷ []) ((codes "a", Missing) ∷ (codes "a", Denied) ∷ []) → ⊥
no_name_has_two_faults (inl none) = cc
no_name_has_two_faults (inr (why, rest, is, may, none)) = cc
