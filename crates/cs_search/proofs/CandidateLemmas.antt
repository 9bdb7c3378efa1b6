-- Each file with a matching line is a candidate, and each candidate has the trigrams of the pattern's exact runs.
use Rattle.std.proofs.Common.{◌≡◌, ℕ, ◌<◌, Bool, true, ◌&&◌, List, [], ◌∷◌, length, sym, ap, subst, ◌∙◌, Some, inl, inr}
use Rattle.std.specs.List.{AllByRecursion, list_any, range_with_len}
use Rattle.std.proofs.lemmas.Bool.{or_cases, and_parts, and_from}
use Rattle.cs_syntax.specs.Matching.{Tree}
use Rattle.cs_match.specs.Deciding.{Decides}
use Rattle.cs_match.specs.Lines.{lines}
use Rattle.cs_trigram.specs.Trigram.{has}
use Rattle.cs_trigram.specs.Text.{text_trigrams, limits}
use Rattle.cs_trigram.specs.declared.queries.Query.{Query}
use Rattle.cs_trigram.specs.Query.{matches_set, HasTrigrams, LosesNoLine}
use Rattle.cs_trigram.specs.ExactRuns.{HasExactRuns, IsSelective}
use Rattle.cs_index.specs.PostingLists.{set_at}
use Rattle.cs_index.specs.OpenedParts.{Parts, lists_in}
use Rattle.cs_index.specs.Candidates.{candidates_of, name_matches}
use Rattle.cs_trigram.proofs.SetLemmas.{has-filter}
use Rattle.cs_index.proofs.candidates.Intersection.{has_range}
use Rattle.cs_search.proofs.SkippedFileLemmas.{lines_known, text_is}

module _ (query : Query) (pattern : Tree) (has_match : List ℕ → Bool) (loses : LosesNoLine query pattern)
    (decides : Decides has_match pattern) (set : ℕ → Bool) where
  some_line : (ls : List (List ℕ)) → AllByRecursion (HasTrigrams set) ls → list_any has_match ls ≡ true → matches_set query set ≡ true
  some_line [] known found = cc
  some_line (line ∷ ls) known found = elim (or_cases (has_match line) (list_any has_match ls) found) [
    | inl here ↦ loses line set ((decides line).0 here) known.0
    | inr later ↦ some_line ls known.1 later
  ]

  -- a text with these trigrams and a matching line
  pub text_meets : (bytes trigrams : List ℕ) → text_trigrams limits bytes ≡ Some trigrams → has trigrams ≡ set →
      list_any has_match (lines bytes) ≡ true → matches_set query set ≡ true
  text_meets bytes trigrams is same found =
      some_line (lines bytes) (subst (λ (s : ℕ → Bool). AllByRecursion (HasTrigrams s) (lines bytes))
      (ap has (text_is bytes trigrams is).are ∙ same) (lines_known bytes)) found

module _ (query : Query) (pattern : Tree) (parts : Parts) (id : ℕ) (within : id < length parts.names) where
  abbrev set : ℕ → Bool
  set = has (set_at id (lists_in parts))

  candidate : has (candidates_of parts query) id ≡ (has (range_with_len 0 (length parts.names)) id && name_matches parts query id)
  unfolding candidates_of
  candidate = has-filter (name_matches parts query) (range_with_len 0 (length parts.names)) id

  pub with_a_line : (has_match : List ℕ → Bool) (bytes : List ℕ) → LosesNoLine query pattern →
      Decides has_match pattern → text_trigrams limits bytes ≡ Some (set_at id (lists_in parts)) →
      list_any has_match (lines bytes) ≡ true → has (candidates_of parts query) id ≡ true
  with_a_line has_match bytes loses decides is found =
      candidate ∙ and_from (has (range_with_len 0 (length parts.names)) id) (name_matches parts query id)
      (has_range (length parts.names) id within)
      (text_meets query pattern has_match loses decides set bytes (set_at id (lists_in parts)) is (λ i. set) found)

  pub with_exact_runs : IsSelective query pattern → has (candidates_of parts query) id ≡ true →
      HasExactRuns (has (set_at id (lists_in parts))) pattern
  with_exact_runs selective is = selective set
      (and_parts (has (range_with_len 0 (length parts.names)) id) (name_matches parts query id) (sym candidate ∙ is)).1
