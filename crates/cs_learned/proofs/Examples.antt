-- Which files a search over a state reads, and when it opens the state.
use Rattle.std.proofs.Common.{◌≡◌, ℕ, Bool, false, not, List, [], ◌∷◌, Some, refl, codes}
use Rattle.std.specs.Prelude.{bytes_eq}
use Rattle.cs_tree.specs.Snapshot.{file}
use Rattle.cs_tree.specs.declared.tree.Stamp.{Stamp}
use Rattle.cs_known.specs.Learned.{View}
use Rattle.cs_learned.specs.Fresh.{ListedFile, items_read}
use Rattle.cs_learned.specs.Thresholds.{files_before}

-- ---- a search that skips `/b`

abbrev stamp : Stamp
stamp = record { device = 1; inode = 2; size = 3; modified = 4; changed = 5 }

-- no file has changed
abbrev same : View
same = record { item = λ name. file (codes "x\n"); stamp = λ name. Some stamp }

abbrev is_not_b : ListedFile → Bool
is_not_b listed = not (bytes_eq listed.name (codes "/b"))

abbrev listed : List ℕ → List ℕ → Bool → ListedFile
listed name printed named = record { name = name; printed = printed; named = named }

two_of_three_files_are_read : items_read same is_not_b
    (listed (codes "/b") (codes "b") false ∷ listed (codes "/c") (codes "c") false ∷ listed (codes "/d") (codes "d") false ∷ [])
    ≡ (codes "c", file (codes "x\n"), false) ∷ (codes "d", file (codes "x\n"), false) ∷ []
two_of_three_files_are_read = refl

-- ---- after how many files

a_short_state_is_opened_soon : files_before 1999999 ≡ 100
a_short_state_is_opened_soon = refl

a_state_of_2_mb_later : files_before 2000000 ≡ 600
a_state_of_2_mb_later = refl

a_state_of_149_mb_last : files_before 149000000 ≡ 1490
a_state_of_149_mb_last = refl
