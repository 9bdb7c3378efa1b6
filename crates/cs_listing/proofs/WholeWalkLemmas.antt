-- What a walk gives from its beginning to its end.
use Rattle.std.proofs.Common.{◌≡◌, refl, ℕ, Bool, List, [], ◌∷◌, map, sym, ap, ◌∙◌}
use Rattle.cs_listing.specs.Listing.{TreeItems, is_found}
use Rattle.cs_listing.specs.Walk.{settings_in, path_text, is_left, GivesAll}
use Rattle.cs_listing.specs.WholeWalks.{GivesToEnd, files_given, WalksList}
use Rattle.cs_listing.specs.declared.walk.Found.{Found}
use Rattle.cs_listing.specs.declared.walk.Found.TheVariants as found
use Rattle.cs_listing.specs.declared.walk.Walk.{Walk}
use Rattle.cs_listing.proofs.OrderLemmas.{gives_in_order}

-- The files that are given are all that were left, by a test that says the same of each path.
all_given : (items : TreeItems) (walk : Walk) (given : List Found) (left : List (List ℕ) → Bool) →
    ((path : List (List ℕ)) → is_left walk items path ≡ left path) → GivesToEnd items walk given →
    (paths : List (List (List ℕ))) × (files_given given ≡ map path_text paths) × GivesAll left paths
all_given items walk [] left same to_end = ([], refl, λ path. sym (same path) ∙ to_end.1.1 path)
all_given items walk (found.Unread unread ∷ others) left same to_end =
    all_given items to_end.0 others left (λ path. to_end.1.1 path ∙ same path) to_end.3
all_given items walk (found.File file ∷ others) left same to_end =
    let first = to_end.1.1 in
    let rest = all_given items to_end.0 others (is_left to_end.0 items) (λ path. refl) to_end.3 in (
      first.0 ∷ rest.0,
      ap (λ text. text ∷ files_given others) first.1 ∙ ap (λ texts. path_text first.0 ∷ texts) rest.1,
      (
        is_left to_end.0 items,
        record {
          taken = sym (same first.0) ∙ first.2.taken;
          kept = λ other apart. first.2.kept other apart ∙ same other;
          first = first.2.first;
        },
        rest.2,
      ),
    )

pub walks_list : WalksList
walks_list items start walk given begins to_end =
    let all = all_given items walk given (λ path. is_found (settings_in walk) items start path) begins.1 to_end in
    let ordered = gives_in_order (λ path. is_found (settings_in walk) items start path) all.0 all.2 in
    (all.0, all.1, ordered.0, ordered.1, ordered.2)
