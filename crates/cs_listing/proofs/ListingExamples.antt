-- Rows of the definitions of `Listing`: a repository with two rule files.
use Rattle.std.proofs.Common.{◌≡◌, refl, ℕ, Bool, true, false, List, [], ◌∷◌, ◌++◌}
use Rattle.std.specs.Prelude.{codes, unwrap_or}
use Rattle.std.specs.FinMap.{find}
use Rattle.cs_tree.specs.NameOrder.{bytes_cmp}
use Rattle.cs_tree.specs.Snapshot.{Item, folder, file, other, bad, missing}
use Rattle.cs_listing.specs.Choices.{plain_settings}
use Rattle.cs_listing.specs.Listing.{Settings, TreeItems, is_listed}

abbrev settings : Settings
settings = plain_settings [] []

abbrev tree : List (List ℕ × Item)
tree =
    (codes "/p", folder (codes ".git" ∷ codes ".gitignore" ∷ codes "a.o" ∷ codes "b.c" ∷ codes "build" ∷ codes "link" ∷ codes "src" ∷ []) false)
    ∷ (codes "/p/.git/HEAD", file [])
    ∷ (codes "/p/.git/objects", folder [] false)
    ∷ (codes "/p/.git/refs", folder [] false)
    ∷ (codes "/p/.gitignore", file (codes "*.o" ++ 10 ∷ codes "/build/"))
    ∷ (codes "/p/a.o", file (codes "1"))
    ∷ (codes "/p/b.c", file (codes "2"))
    ∷ (codes "/p/build", folder (codes "x" ∷ []) false)
    ∷ (codes "/p/build/x", file (codes "3"))
    ∷ (codes "/p/link", other)
    ∷ (codes "/p/src", folder (codes ".gitignore" ∷ codes ".x" ∷ codes "keep.o" ∷ []) false)
    ∷ (codes "/p/src/.gitignore", file (codes "!keep.o"))
    ∷ (codes "/p/src/.x", file (codes "4"))
    ∷ (codes "/p/src/keep.o", file (codes "5"))
    ∷ (codes "/q", folder (codes ".git" ∷ codes ".gitignore" ∷ codes "a.o" ∷ []) false)
    ∷ (codes "/q/.git/objects", folder [] false)
    ∷ (codes "/q/.git/refs", folder [] false)
    ∷ (codes "/q/.gitignore", file (codes "*"))
    ∷ (codes "/q/a.o", file (codes "6"))
    ∷ []

abbrev items : TreeItems
items path = unwrap_or (find bytes_cmp path tree) (bad missing)

-- whether a search of `/p` lists the file
abbrev lists_in_p : List (List ℕ) → Bool
lists_in_p path = is_listed settings items (codes "p" ∷ []) path

plain_file : lists_in_p (codes "b.c" ∷ []) ≡ true
plain_file = refl

ignored_file : lists_in_p (codes "a.o" ∷ []) ≡ false
ignored_file = refl

taken_back_below : lists_in_p (codes "src" ∷ codes "keep.o" ∷ []) ≡ true
taken_back_below = refl

hidden_in_repository : lists_in_p (codes "src" ∷ codes ".x" ∷ []) ≡ true
hidden_in_repository = refl

below_an_ignored_folder : lists_in_p (codes "build" ∷ codes "x" ∷ []) ≡ false
below_an_ignored_folder = refl

-- the folder that is named is not itself asked about
named_folder : is_listed settings items (codes "build" ∷ codes "p" ∷ []) (codes "x" ∷ []) ≡ true
named_folder = refl

link : lists_in_p (codes "link" ∷ []) ≡ false
link = refl

-- `.git` without `HEAD` begins no repository: its `.gitignore` counts for nothing
ignored_outside : is_listed settings items (codes "q" ∷ []) (codes "a.o" ∷ []) ≡ true
ignored_outside = refl

no_such_file : lists_in_p (codes "c" ∷ []) ≡ false
no_such_file = refl

folder_is_no_file : lists_in_p (codes "src" ∷ []) ≡ false
folder_is_no_file = refl
