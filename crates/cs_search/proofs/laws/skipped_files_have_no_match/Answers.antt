use Rattle.cs_history.specs.MatchingFiles.{names_matching}
use Rattle.cs_search.proofs.SkippedFileLemmas.{search_alike}
use Rattle.cs_search.proofs.laws.skipped_files_have_no_match.Goals as goal

pub returns : goal.returns
unfolding names_matching
returns c = λ style has_match keeps tree query pattern loses decides a b files all. search_alike style has_match keeps
    tree query pattern loses decides a b files all
