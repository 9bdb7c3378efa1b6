-- The entries that are to come have the stamps of their paths.
use Rattle.std.specs.Prelude.{Option, Some, None, IfSome, Result, OnOk, string_bytes}
use Rattle.std.specs.List.{All, Contains}
use Rattle.std.specs.Option.{option_to_list}
use Rattle.std.proofs.Common.{◌≡◌, ℕ, List, [], ◌∷◌, ◌++◌, sym, ap, subst, ◌∙◌}
use Rattle.std.proofs.lemmas.List.{append-nil}
use Rattle.std.proofs.lemmas.List.Elements.{All-nil, All-push, All-pop, All-weaker, All-contains}
use Rattle.cs_tree.specs.Snapshot.{Snapshot}
use Rattle.cs_listing.specs.FolderReads.{entry_path}
use Rattle.cs_listing.specs.Entries.{entry_key}
use Rattle.cs_listing.specs.Stamps.{Stamps, InStamps, IsFileKey, IsStamped, IsFrameStamped, AreStamped, KeepsStamped, GivesStamped}
use Rattle.cs_listing.specs.declared.entries.Entry.{Entry}
use Rattle.cs_listing.specs.declared.walk.File.{File}
use Rattle.cs_listing.specs.declared.walk.Found.{Found}
use Rattle.cs_listing.specs.declared.walk.Found.TheVariants as found
use Rattle.cs_listing.specs.declared.walk.Frame.{Frame}
use Rattle.cs_listing.specs.declared.walk.Walk.{Walk}
use Rattle.cs_listing.proofs.StepLemmas.{on_ok, on_ok_always}

-- ---- a tree that may have no model

pub in_stamps : (s : Option Snapshot) (of : Snapshot → Stamps) (P : Stamps → Type 0) → ((stamps : Stamps) → P stamps) → InStamps s of P
in_stamps None of P each = tt
in_stamps (Some tree) of P each = each (of tree)

with_stamps : (s : Option Snapshot) (of : Snapshot → Stamps) (P Q : Stamps → Type 0) → ((stamps : Stamps) → P stamps → Q stamps) →
    InStamps s of P → InStamps s of Q
with_stamps None of P Q each p = tt
with_stamps (Some tree) of P Q each p = each (of tree) p

with_both : (s now : Option Snapshot) (of : Snapshot → Stamps) (P Q R : Stamps → Type 0) → now ≡ s →
    ((stamps : Stamps) → P stamps → Q stamps → R stamps) → InStamps s of P → InStamps now of Q → InStamps s of R
with_both s now of P Q R same each p q = by_model s p (subst (λ o. InStamps o of Q) same q)
  where
    by_model : (o : Option Snapshot) → InStamps o of P → InStamps o of Q → InStamps o of R
    by_model None p q = tt
    by_model (Some tree) p q = each (of tree) p q

-- ---- the entries of a folder

pub more_stamped : (s now : Option Snapshot) (of : Snapshot → Stamps) (stem : List ℕ) (before later : List Entry) (entry : Option Entry) →
    now ≡ s → later ≡ before ++ option_to_list entry → InStamps s of (λ stamps. All (IsStamped stamps stem) before) →
    IfSome entry (λ entry. InStamps now of (λ stamps. IsStamped stamps stem entry)) →
    InStamps s of (λ stamps. All (IsStamped stamps stem) later)
more_stamped s now of stem before later None same added all one =
    with_stamps s of (λ stamps. All (IsStamped stamps stem) before) (λ stamps. All (IsStamped stamps stem) later)
    (λ stamps all. subst (All (IsStamped stamps stem)) (sym (added ∙ append-nil before)) all) all
more_stamped s now of stem before later (Some entry) same added all one =
    with_both s now of (λ stamps. All (IsStamped stamps stem) before) (λ stamps. IsStamped stamps stem entry)
    (λ stamps. All (IsStamped stamps stem) later) same
    (λ stamps all one. subst (All (IsStamped stamps stem)) (sym added) (All-push (IsStamped stamps stem) before entry all one)) all one

pub members_stamped : (s : Option Snapshot) (of : Snapshot → Stamps) (stem : List ℕ) (all some : List Entry) → All (Contains all) some →
    InStamps s of (λ stamps. All (IsStamped stamps stem) all) → InStamps s of (λ stamps. All (IsStamped stamps stem) some)
members_stamped s of stem all some members =
    with_stamps s of (λ stamps. All (IsStamped stamps stem) all) (λ stamps. All (IsStamped stamps stem) some)
    (λ stamps is. All-weaker (Contains all) (IsStamped stamps stem)
    (λ entry there. All-contains (IsStamped stamps stem) all entry is there) some members)

-- ---- walks

pub same_stamped : (s : Option Snapshot) (of : Snapshot → Stamps) (old new : Walk) → old.frames.items ≡ new.frames.items →
    InStamps s of (λ stamps. KeepsStamped stamps old new)
same_stamped s of old new same =
    in_stamps s of (λ stamps. KeepsStamped stamps old new) (λ stamps. subst (All (IsFrameStamped stamps)) same)

pub leaves_stamped : (s : Option Snapshot) (of : Snapshot → Stamps) (old new : Walk) (left : Option Frame) →
    old.frames.items ≡ new.frames.items ++ option_to_list left → InStamps s of (λ stamps. KeepsStamped stamps old new)
leaves_stamped s of old new left popped =
    in_stamps s of (λ stamps. KeepsStamped stamps old new)
    (λ stamps all. (All-pop (IsFrameStamped stamps) old.frames.items new.frames.items left popped all).0)

-- nothing is given, since no folder is open
pub none_stamped : (s : Option Snapshot) (of : Snapshot → Stamps) (old new : Walk) → new.frames.items ≡ [] →
    InStamps s of (λ stamps. GivesStamped stamps old new None)
none_stamped s of old new none =
    in_stamps s of (λ stamps. GivesStamped stamps old new None)
    (λ stamps all. (subst (All (IsFrameStamped stamps)) (sym none) (All-nil (IsFrameStamped stamps)), tt))

pub opens_stamped : (s : Option Snapshot) (of : Snapshot → Stamps) (old new : Walk) (frame : Frame) →
    new.frames.items ≡ old.frames.items ++ frame ∷ [] → InStamps s of (λ stamps. IsFrameStamped stamps frame) →
    InStamps s of (λ stamps. KeepsStamped stamps old new)
opens_stamped s of old new frame opens =
    with_stamps s of (λ stamps. IsFrameStamped stamps frame) (λ stamps. KeepsStamped stamps old new)
    (λ stamps is all. subst (All (IsFrameStamped stamps)) (sym opens) (All-push (IsFrameStamped stamps) old.frames.items frame all is))

pub keeps_then : (s now : Option Snapshot) (of : Snapshot → Stamps) (first old new : Walk) → now ≡ s →
    InStamps s of (λ stamps. KeepsStamped stamps first old) → InStamps now of (λ stamps. KeepsStamped stamps old new) →
    InStamps s of (λ stamps. KeepsStamped stamps first new)
keeps_then s now of first old new same =
    with_both s now of (λ stamps. KeepsStamped stamps first old) (λ stamps. KeepsStamped stamps old new)
    (λ stamps. KeepsStamped stamps first new) same (λ stamps before after all. after (before all))

pub gives_then : (s now : Option Snapshot) (of : Snapshot → Stamps) (first old new : Walk) (given : Option Found) → now ≡ s →
    InStamps s of (λ stamps. KeepsStamped stamps first old) → InStamps now of (λ stamps. GivesStamped stamps old new given) →
    InStamps s of (λ stamps. GivesStamped stamps first new given)
gives_then s now of first old new given same =
    with_both s now of (λ stamps. KeepsStamped stamps first old) (λ stamps. GivesStamped stamps old new given)
    (λ stamps. GivesStamped stamps first new given) same (λ stamps before after all. after (before all))

-- ---- an entry is taken

taken_stamped : (stamps : Stamps) (all rest : List Frame) (frame next : Frame) (entry : Entry) → all ≡ rest ++ frame ∷ [] →
    next.stem ≡ frame.stem → frame.entries.items ≡ next.entries.items ++ entry ∷ [] → All (IsFrameStamped stamps) all →
    All (IsFrameStamped stamps) (rest ++ next ∷ []) × IsStamped stamps (string_bytes frame.stem) entry
taken_stamped stamps all rest frame next entry frames stem popped are =
    let outer = All-pop (IsFrameStamped stamps) all rest (Some frame) frames are in
    let own = All-pop (IsStamped stamps (string_bytes frame.stem)) frame.entries.items next.entries.items (Some entry) popped outer.1 in (
      All-push (IsFrameStamped stamps) rest next outer.0
          (subst (λ t. All (IsStamped stamps (string_bytes t)) next.entries.items) (sym stem) own.0),
      own.1,
    )

pub takes_stamped : (s : Option Snapshot) (of : Snapshot → Stamps) (old new : Walk) (rest : List Frame) (frame next : Frame) (entry : Entry)
    (name : List ℕ) (file : File) → old.frames.items ≡ rest ++ frame ∷ [] → new.frames.items ≡ rest ++ next ∷ [] →
    next.stem ≡ frame.stem → frame.entries.items ≡ next.entries.items ++ entry ∷ [] →
    (name ≡ entry_key entry) × IsFileKey (entry_key entry) → string_bytes file.path ≡ entry_path (string_bytes frame.stem) name →
    file.stamp ≡ entry.stamp → InStamps s of (λ stamps. GivesStamped stamps old new (Some (found.File file)))
takes_stamped s of old new rest frame next entry name file frames later stem popped key path stamp =
    in_stamps s of (λ stamps. GivesStamped stamps old new (Some (found.File file))) (λ stamps all.
    let taken = taken_stamped stamps old.frames.items rest frame next entry frames stem popped all in (
      subst (All (IsFrameStamped stamps)) (sym later) taken.0,
      stamp ∙ taken.1 key.1 ∙ ap (λ t. stamps t) (sym (path ∙ ap (entry_path (string_bytes frame.stem)) key.0)),
    ))

pub visits_stamped : (s : Option Snapshot) (of : Snapshot → Stamps) (old mid new : Walk) (rest : List Frame) (frame next : Frame)
    (entry : Entry) → old.frames.items ≡ rest ++ frame ∷ [] → mid.frames.items ≡ rest ++ next ∷ [] → next.stem ≡ frame.stem →
    frame.entries.items ≡ next.entries.items ++ entry ∷ [] → InStamps s of (λ stamps. KeepsStamped stamps mid new) →
    InStamps s of (λ stamps. KeepsStamped stamps old new)
visits_stamped s of old mid new rest frame next entry frames later stem popped =
    with_stamps s of (λ stamps. KeepsStamped stamps mid new) (λ stamps. KeepsStamped stamps old new) (λ stamps keeps all.
    keeps (subst (All (IsFrameStamped stamps)) (sym later)
    (taken_stamped stamps old.frames.items rest frame next entry frames stem popped all).0))

-- ---- the beginning, and a folder that is visited

pub begins_stamped : (s now : Option Snapshot) (of : Snapshot → Stamps) (old new : Walk) → now ≡ s → old.frames.items ≡ [] →
    InStamps now of (λ stamps. KeepsStamped stamps old new) → InStamps s of (λ stamps. AreStamped stamps new)
begins_stamped s now of old new same none keeps =
    with_stamps s of (λ stamps. KeepsStamped stamps old new) (λ stamps. AreStamped stamps new)
    (λ stamps keep. keep (subst (All (IsFrameStamped stamps)) (sym none) (All-nil (IsFrameStamped stamps))))
    (subst (λ o. InStamps o of (λ stamps. KeepsStamped stamps old new)) same keeps)

pub refused_stamped : {A E : Type 0} (s : Option Snapshot) (of : Snapshot → Stamps) (old new : Walk) (r : Result A E) →
    old.frames.items ≡ new.frames.items → OnOk r (InStamps s of (λ stamps. KeepsStamped stamps old new))
refused_stamped s of old new r same =
    on_ok_always (InStamps s of (λ stamps. KeepsStamped stamps old new)) r (same_stamped s of old new same)

pub visited_stamped : {A E : Type 0} (s next : Option Snapshot) (of : Snapshot → Stamps) (old mid new : Walk) (r : Result A E) → next ≡ s →
    mid.frames ≡ old.frames → OnOk r (InStamps next of (λ stamps. KeepsStamped stamps mid new)) →
    OnOk r (InStamps s of (λ stamps. KeepsStamped stamps old new))
visited_stamped s next of old mid new r same frames =
    on_ok (InStamps next of (λ stamps. KeepsStamped stamps mid new)) (InStamps s of (λ stamps. KeepsStamped stamps old new)) r
    (keeps_then s next of old mid new same (same_stamped s of old mid (ap (λ v. v.items) (sym frames))))
