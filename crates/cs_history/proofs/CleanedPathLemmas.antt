-- A cleaned path is UTF-8 without NUL if the given path and the folder are.
use Rattle.std.proofs.Common.{ℕ, cond, ◌||◌, List, [], ◌∷◌, drop, codes, bytes_eq}
use Rattle.cs_history.proofs.Common.{cond_both, AllByRecursion, fold, elements, with_element, with_slashes, path_of, absolute, clean_path}
use Rattle.cs_history.proofs.PathElementLemmas.{IsPart, part_appended, part_empty, parts_of_text}

-- ---- steps of cleaning

all_without : (above : List (List ℕ)) → AllByRecursion IsPart above → AllByRecursion IsPart (drop 1 above)
all_without [] all = tt
all_without (x ∷ above) all = all.1

all_stepped : (above : List (List ℕ)) (name : List ℕ) → AllByRecursion IsPart above → IsPart name →
    AllByRecursion IsPart (with_element above name)
all_stepped above name all part =
    cond_both (bytes_eq name [] || bytes_eq name (codes ".")) above
    (cond (bytes_eq name (codes "..")) (drop 1 above) (name ∷ above)) (AllByRecursion IsPart)
    (λ _. all)
    (λ _. cond_both (bytes_eq name (codes "..")) (drop 1 above) (name ∷ above) (AllByRecursion IsPart)
    (λ _. all_without above all) (λ _. (part, all)))

all_steps : (above names : List (List ℕ)) → AllByRecursion IsPart above → AllByRecursion IsPart names →
    AllByRecursion IsPart (fold with_element above names)
all_steps above [] all parts = all
all_steps above (name ∷ names) all parts = all_steps (with_element above name) names (all_stepped above name all parts.0) parts.1

-- ---- cleaned paths

part_stem : (above : List (List ℕ)) → AllByRecursion IsPart above → IsPart (with_slashes above)
part_stem [] all = part_empty
part_stem (name ∷ above) all = part_appended (with_slashes above) name (part_stem above all.1) all.0

part_path : (above : List (List ℕ)) → AllByRecursion IsPart above → IsPart (path_of above)
part_path [] all = part_appended [] [] part_empty part_empty
part_path (name ∷ above) all = part_stem (name ∷ above) all

pub cleaned_part : (folder text : List ℕ) → IsPart (absolute folder text) → IsPart (clean_path folder text)
cleaned_part folder text h = part_path (fold with_element [] (elements (absolute folder text)))
    (all_steps [] (elements (absolute folder text)) tt (parts_of_text (absolute folder text) h))
