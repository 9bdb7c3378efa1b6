-- Rows of the definitions of `Unreadable`: a repository with files and folders that cannot be read; and of the table of the types.
use Rattle.std.proofs.Common.{◌≡◌, refl, ℕ, true, false, List, [], ◌∷◌}
use Rattle.std.specs.Prelude.{codes, unwrap_or, Some, None}
use Rattle.std.specs.FinMap.{find}
use Rattle.cs_tree.specs.NameOrder.{bytes_cmp}
use Rattle.cs_tree.specs.Snapshot.{Item, folder, file, other, bad, missing, denied, failed}
use Rattle.cs_listing.specs.Choices.{plain_settings}
use Rattle.cs_listing.specs.GitFolders.{repository_above}
use Rattle.cs_listing.specs.Listing.{Settings, TreeItems}
use Rattle.cs_listing.specs.Unreadable.{unread_rules_at, unread_rules_to, unread_folder, opens}
use Rattle.cs_listing.specs.Types.{file_types, globs_among}

abbrev settings : Settings
settings = plain_settings [] []

abbrev tree : List (List ℕ × Item)
tree =
    (codes "/", folder (codes ".gitignore" ∷ codes "p" ∷ []) false)
    ∷ (codes "/.gitignore", bad denied)
    ∷ (codes "/p", folder (codes ".git" ∷ codes ".ignore" ∷ codes "a" ∷ codes "b" ∷ codes "gone" ∷ codes "l" ∷ []) true)
    ∷ (codes "/p/.git", folder (codes "HEAD" ∷ codes "info" ∷ codes "objects" ∷ codes "refs" ∷ []) false)
    ∷ (codes "/p/.git/HEAD", file [])
    ∷ (codes "/p/.git/info/exclude", bad denied)
    ∷ (codes "/p/.git/objects", other)
    ∷ (codes "/p/.git/refs", folder [] false)
    ∷ (codes "/w", bad failed)
    ∷ (codes "/w/.git", folder [] false)
    ∷ (codes "/w/.git/commondir", bad failed)
    ∷ (codes "/w/.git/HEAD", bad denied)
    ∷ (codes "/w/.ignore", bad denied)
    ∷ (codes "/p/.ignore", file (codes "/a"))
    ∷ (codes "/p/a", bad denied)
    ∷ (codes "/p/b", folder (codes "c" ∷ []) false)
    ∷ (codes "/p/b/c", bad denied)
    ∷ (codes "/p/l", other)
    ∷ []

abbrev items : TreeItems
items path = unwrap_or (find bytes_cmp path tree) (bad missing)

rules_of_a_repository : unread_rules_at false items (codes "p" ∷ []) ≡ codes "/p/.git/info/exclude" ∷ []
rules_of_a_repository = refl

-- where nothing can be listed, `.git` is looked up by name; what cannot be looked up is not there
folder_that_cannot_be_listed : unread_rules_at false items (codes "w" ∷ []) ≡ codes "/w/.git/commondir" ∷ codes "/w/.git/HEAD" ∷ []
folder_that_cannot_be_listed = refl

nearest_repository : repository_above items (codes "b" ∷ codes "p" ∷ []) ≡ Some (codes "/p", codes "/p/.git")
nearest_repository = refl

no_repository : repository_above items (codes "w" ∷ []) ≡ None
no_repository = refl

rules_above : unread_rules_to false items (codes "p" ∷ []) ≡ codes "/.gitignore" ∷ codes "/p/.git/info/exclude" ∷ []
rules_above = refl

no_rules_are_read : unread_rules_to true items (codes "p" ∷ []) ≡ []
no_rules_are_read = refl

-- the entry that is ignored is not looked at, and the one that is gone is not counted
name_that_is_no_text : unread_folder settings items (codes "p" ∷ []) ≡ codes "/p" ∷ []
name_that_is_no_text = refl

refused_entry : unread_folder settings items (codes "b" ∷ codes "p" ∷ []) ≡ codes "/p/b/c" ∷ []
refused_entry = refl

no_folder : unread_folder settings items (codes "l" ∷ codes "p" ∷ []) ≡ codes "/p/l" ∷ []
no_folder = refl

folder_is_opened : opens settings items (codes "p" ∷ []) (codes "b" ∷ []) ≡ true
folder_is_opened = refl

link_is_not_opened : opens settings items (codes "p" ∷ []) (codes "l" ∷ []) ≡ false
link_is_not_opened = refl

-- ---- types

first_type : globs_among file_types (codes "agda") ≡ Some (codes "*.agda *.lagda")
unfolding file_types
first_type = refl

type_in_parts : globs_among file_types (codes "zsh") ≡ Some (codes "*.zsh .zlogin .zlogout .zprofile .zshenv .zshrc zlogin zlogout zprofile zshenv zshrc")
unfolding file_types
type_in_parts = refl

no_type : globs_among file_types (codes "ag") ≡ None
unfolding file_types
no_type = refl
