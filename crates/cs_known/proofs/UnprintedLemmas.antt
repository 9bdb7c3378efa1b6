-- A file that is skipped prints nothing.
use Rattle.std.proofs.Common.{◌≡◌, ℕ, Bool, true, false, not, List, refl, sym, ap, subst, ◌∙◌, Option, Some, None}
use Rattle.std.specs.Prelude.{IsSome}
use Rattle.std.specs.FinMap as map'
use Rattle.std.proofs.lemmas.Bool.{true≢false, and_parts}
use Rattle.cs_tree.specs.Snapshot.{Item, file}
use Rattle.cs_tree.specs.Reachability.{read_item}
use Rattle.cs_trigram.specs.Trigram.{tri, has}
use Rattle.cs_trigram.specs.Text.{text_trigrams, skip, limits}
use Rattle.cs_trigram.specs.Query.{matches_set}
use Rattle.cs_trigram.specs.declared.queries.Query.{Query}
use Rattle.cs_trigram.specs.declared.scan.Reason.{Reason}
use Rattle.cs_trigram.proofs.LawLemmas.{none_skipped}
use Rattle.cs_index.specs.OpenedParts.{Parts, files_in}
use Rattle.cs_lines.specs.Findings.{Finding}
use Rattle.cs_lines.specs.Project.{nothing_shown, text_shown}
use Rattle.cs_lines.specs.declared.binary.BinaryFiles.{BinaryFiles}
use Rattle.cs_lines.specs.declared.form.ShowOptions.{ShowOptions}
use Rattle.cs_lines.specs.declared.search.LineSearch.{LineSearch}
use Rattle.cs_state.specs.Known.{Kept, indexed, binary, apart}
use Rattle.cs_state.specs.StampedNames.{stamped}
use Rattle.cs_known.specs.Skipped.{IsSkipped, known_as, matches_some, prints_nothing, prints_unmatched}
use Rattle.cs_known.specs.Learned.{Run, ReadsAs, StillHolds, View}
use Rattle.cs_known.specs.Unprinted.{IsQueryOf, SkippedPathsPrintNothing, SkippedPrintNothing, view_below}
use Rattle.cs_known.proofs.LearnedLemmas.{known_reads}
use Rattle.cs_known.proofs.SkippedTextLemmas.{LinesPrintedIfMarked, binary_shows_nothing, unmatched_shows_nothing}

trigrams_are : (text trigrams : List ℕ) → text_trigrams limits text ≡ Some trigrams → tri text ≡ trigrams
trigrams_are text trigrams h = by_skip (skip limits text) h
  where
    by_skip : (why : Option Reason) → none_skipped why (tri text) ≡ Some trigrams → tri text ≡ trigrams
    by_skip (Some reason) h = cc
    by_skip None h = cc

pub not_of : (b : Bool) → not b ≡ true → b ≡ false
not_of true h = absurd (true≢false (sym h))
not_of false h = refl

module _ (law : LinesPrintedIfMarked) (options : ShowOptions) (binaries : BinaryFiles) (search : LineSearch) (finding : Finding)
    (query : Query) (queried : IsQueryOf search finding query) (runs : List Run) (parts : Parts) (now : View)
    (holds : StillHolds runs parts now) where
  -- the item can be read, and its text prints nothing
  abbrev PrintsNone : Item → Type 0
  PrintsNone item = (text : List ℕ) × (item ≡ file text)
      × ((printed : List ℕ) → text_shown options finding printed binaries text ≡ nothing_shown)

  indexed_prints_none : (item : Item) (set : Option (List ℕ)) → matches_some query set ≡ false →
      IsSome set → read_item (text_trigrams limits) item ≡ set → prints_unmatched options ≡ false → PrintsNone item
  indexed_prints_none item None out some is silent = cc
  indexed_prints_none (file text) (Some trigrams) out some is silent = (
    text,
    refl,
    unmatched_shows_nothing law options binaries search finding query queried.found.0 queried.loses text
        (ap (λ (set : List ℕ). matches_set query (has set)) (trigrams_are text trigrams is) ∙ out) silent,
  )
  indexed_prints_none item (Some trigrams) out some is silent = cc

  by_kept : (name stamped_name : List ℕ) (kept : Kept) → ReadsAs kept (map'.get (files_in parts) stamped_name) (now.item name) →
      prints_nothing options binaries query parts stamped_name kept ≡ true → PrintsNone (now.item name)
  by_kept name stamped_name indexed read h =
      let both = and_parts _ _ h in
      indexed_prints_none (now.item name) (map'.get (files_in parts) stamped_name) (not_of _ both.1) read.0 read.1 (not_of _ both.0)
  by_kept name stamped_name binary read h =
      (read.0, read.1, λ printed. binary_shows_nothing options binaries finding printed read.0 read.2 h)
  by_kept name stamped_name apart read h = absurd (true≢false (sym h))

  pub skipped_prints_none : (name : List ℕ) → IsSkipped options binaries query parts name (now.stamp name) → PrintsNone (now.item name)
  skipped_prints_none name skipped =
      let one = known_as name skipped.stamp skipped.kept in
      let learned = holds.learned one skipped.known.0 skipped.known.1 in
      by_kept name (stamped one) skipped.kept (known_reads runs parts one now learned holds.as_before skipped.is_seen) skipped.silent

pub prints_none : LinesPrintedIfMarked → SkippedPrintNothing
prints_none law options binaries search finding query queried runs parts now holds name skipped =
    skipped_prints_none law options binaries search finding query queried runs parts now holds name skipped

pub path_prints_none : LinesPrintedIfMarked → SkippedPathsPrintNothing
path_prints_none law options binaries search finding query queried runs parts root items stamps holds path skipped =
    let name = skipped.0 in
    let none = prints_none law options binaries search finding query queried runs parts (view_below root items stamps) holds name
    (subst (λ p. IsSkipped options binaries query parts name (stamps p)) skipped.1 skipped.2) in
    (none.0, ap items skipped.1 ∙ none.1, none.2)
