-- A search that skips files is a search of every file.
use Rattle.std.proofs.Common.{◌≡◌, Bool, true, false, cond, ◌||◌, ◌++◌, List, [], ◌∷◌, map, filter, refl, sym, ap, ◌∙◌}
use Rattle.cs_trigram.specs.declared.queries.Query.{Query}
use Rattle.cs_lines.specs.Findings.{Finding}
use Rattle.cs_lines.specs.Project.{ItemShown, nothing_shown}
use Rattle.cs_lines.specs.Shown.{between, following}
use Rattle.cs_lines.specs.declared.form.ShowOptions.{ShowOptions}
use Rattle.cs_lines.specs.declared.search.LineSearch.{LineSearch}
use Rattle.cs_project.specs.Searched.{are_marked, binary_as, item_groups, items_printed, shown_of}
use Rattle.cs_index.specs.OpenedParts.{Parts}
use Rattle.cs_known.specs.Learned.{Run, StillHolds, View}
use Rattle.cs_known.specs.Skipped.{IsSkipped}
use Rattle.cs_known.specs.Unprinted.{IsQueryOf, SkippedPrintNothing}
use Rattle.cs_learned.specs.Fresh.{ListedFile, item_now, PrintAlike, IsFresh}

module _ (law : SkippedPrintNothing) (options : ShowOptions) (takes_binary : Bool) (search : LineSearch) (finding : Finding)
    (query : Query) (queried : IsQueryOf search finding query) (runs : List Run) (parts : Parts) (now : View)
    (holds : StillHolds runs parts now) where
  skipped_shows_nothing : (listed : ListedFile) →
      IsSkipped options (binary_as takes_binary listed.named) query parts listed.name (now.stamp listed.name) →
      shown_of options takes_binary finding (item_now now listed) ≡ nothing_shown
  skipped_shows_nothing listed skipped =
      let binaries = binary_as takes_binary listed.named in
      let none = law options binaries search finding query queried runs parts now holds listed.name skipped in
      ap (item_groups options finding binaries listed.printed) none.1 ∙ none.2 listed.printed

-- ---- all files

or_false : (b : Bool) → (b || false) ≡ b
or_false true = refl
or_false false = refl

module _ (options : ShowOptions) (takes_binary : Bool) (finding : Finding) (now : View) (is_read : ListedFile → Bool)
    (silent : (listed : ListedFile) → is_read listed ≡ false →
    shown_of options takes_binary finding (item_now now listed) ≡ nothing_shown) where
  abbrev Alike : List ListedFile → List ListedFile → Type 0
  Alike some all = PrintAlike options takes_binary finding (map (item_now now) some) (map (item_now now) all)

  drops : (files : List ListedFile) → Alike (filter is_read files) files
  drops [] = λ marked. (refl, refl)
  drops (listed ∷ files) = by_test (is_read listed) refl (drops files)
    where
      by_test : (test : Bool) → is_read listed ≡ test → Alike (filter is_read files) files →
          Alike (cond test (listed ∷ filter is_read files) (filter is_read files)) (listed ∷ files)
      by_test false e same = λ marked.
          let none = silent listed e in (
            (same marked).0 ∙ sym (ap (λ (s : ItemShown). following (between options) marked s.groups
                ++ items_printed options takes_binary finding (marked || s.marked) (map (item_now now) files)) none
                ∙ ap (λ m. items_printed options takes_binary finding m (map (item_now now) files)) (or_false marked)),
            (same marked).1 ∙ sym (ap (λ (s : ItemShown). are_marked options takes_binary finding (marked || s.marked)
                (map (item_now now) files)) none
                ∙ ap (λ m. are_marked options takes_binary finding m (map (item_now now) files)) (or_false marked)),
          )
      by_test true e same = λ marked.
          let shown = shown_of options takes_binary finding (item_now now listed) in
          let rest = same (marked || shown.marked) in
          (ap (λ r. following (between options) marked shown.groups ++ r) rest.0, rest.1)

-- ---- the law

pub is_fresh : SkippedPrintNothing → IsFresh
is_fresh law options takes_binary search finding query queried runs parts now holds is_read unskipped files =
    drops options takes_binary finding now is_read
    (λ listed out. skipped_shows_nothing law options takes_binary search finding query queried runs parts now holds listed
    (unskipped listed out)) files
