-- What is noted of files.
use Rattle.std.proofs.Common.{◌≡◌, ℕ, List, Option, ap, sym, subst, ◌∙◌}
use Rattle.cs_tree.specs.Snapshot.{Snapshot}
use Rattle.cs_tree.specs.declared.tree.Stamp.{Stamp}
use Rattle.cs_listing.specs.Stamps.{InStamps, Stamps}
use Rattle.cs_project.specs.Noted.{NotedFile, NotesNothing, NotesSeen, NotesStamp}

module _ (stamps : Snapshot → Stamps) where
  -- one call after another
  pub notes_more : (snapshot now : Option Snapshot) (old mid new : List NotedFile) → now ≡ snapshot →
      NotesSeen stamps snapshot old mid → NotesSeen stamps now mid new → NotesSeen stamps snapshot old new
  notes_more snapshot now old mid new same had has tree is seen = has tree (same ∙ is) (had tree is seen)

  pub notes_nothing : (snapshot : Option Snapshot) (old new : List NotedFile) → NotesNothing old new → NotesSeen stamps snapshot old new
  notes_nothing snapshot old new none tree is = none (stamps tree)

  -- a file with the stamp of its path
  pub notes_stamp : (snapshot : Option Snapshot) (old new : List NotedFile) (asked path : List ℕ) (stamp : Option Stamp) → asked ≡ path →
      InStamps snapshot stamps (λ s. stamp ≡ s path) → NotesStamp asked stamp old new → NotesSeen stamps snapshot old new
  notes_stamp snapshot old new asked path stamp same at notes tree is =
      notes (stamps tree) (ap (stamps tree) same ∙ sym (subst (λ s. InStamps s stamps (λ s. stamp ≡ s path)) is at))
