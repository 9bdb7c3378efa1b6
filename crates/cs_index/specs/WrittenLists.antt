-- Whole posting lists that are written, and the invariant of `Written`.
use Rattle.std.specs.Prelude.{◌≡◌, ◌≢◌, ℕ, ◌<◌, ◌≤◌, List, [], ◌∷◌, ◌++◌, length, Option, None, Some}
use Rattle.std.specs.List.{AllByRecursion}
use Rattle.cs_trigram.specs.Trigram.{closing_trigram}
use Rattle.cs_index.specs.Encoding.{PostingList, IsString}
use Rattle.cs_index.specs.Written.{Written}
use Rattle.cs_index.specs.AscendingIds.{ArePostingLists, max_ids}
use Rattle.cs_index.specs.IdStream.{IsStream}

-- with a whole posting list
abbrev pub with_posting : Written → PostingList → Written
with_posting output (trigram, ids) = record {
  paths = output.paths;
  names = output.names;
  lists = output.lists ++ (trigram, ids) ∷ [];
  last_trigram = Some trigram;
  sent = output.sent;
}

-- with several posting lists
abbrev pub with_postings : Written → List PostingList → Written
with_postings output [] = output
with_postings output (p ∷ ps) = with_postings (with_posting output p) ps

-- The bytes are the ids that the list of a trigram begins with.
pub record AreFirstIds (name_count trigram count next : ℕ) (bytes : List ℕ) : Type 0 where
  pub below : trigram < closing_trigram
  pub stream : IsStream bytes count next
  pub some : count ≢ 0
  pub named : next ≤ name_count

-- the list that was begun last comes after all others
abbrev pub IsLastList : List PostingList → Option ℕ → Type 0
IsLastList lists None = lists ≡ []
IsLastList lists (Some last) =
    (last < closing_trigram) × AllByRecursion (λ ((trigram, ids) : PostingList). trigram ≤ last) lists

-- The invariant of the model.
pub record IsWritten (output : Written) : Type 0 where
  pub each_path : AllByRecursion IsString output.paths
  pub each_name : AllByRecursion IsString output.names
  pub bound : length output.names ≤ max_ids
  pub postings : ArePostingLists (length output.names) output.lists
  pub last : IsLastList output.lists output.last_trigram
