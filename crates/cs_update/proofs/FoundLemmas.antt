-- What is found in a source that is read to its end, and in a file that is opened.
use Rattle.std.proofs.Common.{◌≡◌, ◌||◌, [], ℕ, Bool, true, false, List, Option, None, Some, Ok, length, take, refl, sym, ap, subst, ◌∙◌, is_none, is_some, nat_eq, unwrap_or, if◌then◌else◌}
use Rattle.std.specs.Prelude.{IfSome, IsOkAnd}
use Rattle.std.proofs.lemmas.Bool.{eqb-true, false≢true, true≢false}
use Rattle.cs_tree.specs.ConsumesAtMost.{ConsumesAtMost}
use Rattle.cs_tree.specs.Snapshot.{Item, Snapshot, cut, file, item_at}
use Rattle.cs_tree.specs.StreamModels.{SourceModel, Ending, ends}
use Rattle.cs_tree.specs.TreeAnswers.{opening_of}
use Rattle.cs_tree.specs.Trees.{OpensFile}
use Rattle.cs_tree.specs.declared.tree.Stamp.{Stamp}
use Rattle.cs_trigram.specs.Scans.{IsScanOf, ScanOutcome, scan_outcome_of, skipped_for, skipped_or}
use Rattle.cs_trigram.specs.Scans as scans
use Rattle.cs_trigram.specs.Text.{limits, skip, text_trigrams}
use Rattle.cs_trigram.specs.Trigram.{tri}
use Rattle.cs_trigram.specs.declared.scan.Limits.{Limits}
use Rattle.cs_trigram.specs.declared.scan.Reason.{Reason}
use Rattle.cs_trigram.specs.declared.scan.Scan.TheVariants as scan
use Rattle.cs_lines.specs.Shown.{is_binary}
use Rattle.cs_state.specs.Known.{binary, apart}
use Rattle.cs_update.specs.Contents.{Content, content_of, is_still, item_content, seen_content, sized_content, text, text_content, unindexed}
use Rattle.cs_update.specs.Reads.{HasOpened, IsReadToEnd, has_nul, is_missing}
use Rattle.cs_update.proofs.SourceLemmas.{ahead, expected, take_none}

-- ---- the end of a source

or_false : (b : Bool) → (b || false) ≡ b
or_false true = refl
or_false false = refl

nul_at_end : (has found : Bool) (left : ℕ) (bytes : List ℕ) → bytes ≡ [] → Some (has || has_nul (take left bytes)) ≡ Some found → has ≡ found
nul_at_end has found left bytes none is =
    sym (or_false has) ∙ sym (ap (λ all. has || has_nul all) (ap (take left) none ∙ take_none left)) ∙ ap (λ o. unwrap_or o false) is

count_at_end : (missing : Option ℕ) (found : Bool) (bytes : List ℕ) → bytes ≡ [] → Some (is_missing missing (length bytes)) ≡ Some found →
    is_missing missing 0 ≡ found
count_at_end missing found bytes none is = sym (ap (λ b. is_missing missing (length b)) none) ∙ ap (λ o. unwrap_or o false) is

-- a source that was read to its end has shown whether it is binary, and whether it has as many bytes as are expected
shown_at_end : (most : ℕ) (model after last : Option SourceModel) (has : Bool) (left : ℕ) (missing : Option ℕ) (size : ℕ) →
    ConsumesAtMost most model after → IsReadToEnd after last (Ok tt) →
    ((found : Bool) → ahead false 8000 model ≡ Some found → ahead has left last ≡ Some found) →
    ((found : Bool) → expected (Some size) model ≡ Some found → expected missing last ≡ Some found) →
    IfSome model (λ source. (source.ending ≡ ends) × (has ≡ is_binary source.bytes)
    × (is_missing missing 0 ≡ nat_eq (length source.bytes) size))
shown_at_end most None after last has left missing size read end keeps counts = tt
shown_at_end most (Some source) None last has left missing size read end keeps counts = absurd read
shown_at_end most (Some source) (Some was) None has left missing size read end keeps counts =
    absurd (false≢true (ap is_some (keeps (is_binary source.bytes) refl)))
shown_at_end most (Some source) (Some was) (Some rest) has left missing size read end keeps counts = (
  read.2 ∙ end.0,
  nul_at_end has (is_binary source.bytes) left rest.bytes end.1.0 (keeps (is_binary source.bytes) refl),
  count_at_end missing (nat_eq (length source.bytes) size) rest.bytes end.1.0 (counts (nat_eq (length source.bytes) size) refl),
)

-- ---- what a scan has found

-- the trigrams of a text
abbrev set_in : ScanOutcome → List ℕ
set_in (scans.text set n) = set
set_in _ = []

abbrev is_text : ScanOutcome → Bool
is_text (scans.text set n) = true
is_text _ = false

by_text : (broken : Option Reason) (set trigrams : List ℕ) (n len : ℕ) → scans.text set n ≡ skipped_or broken (scans.text trigrams len) →
    text set ≡ text_content (if is_none broken then Some trigrams else None)
by_text None set trigrams n len is = ap (λ outcome. text (set_in outcome)) is
by_text (Some reason) set trigrams n len is = absurd (true≢false (ap is_text is))

by_skip : (broken : Option Reason) (reason : Reason) (trigrams : List ℕ) (len : ℕ) →
    skipped_for reason ≡ skipped_or broken (scans.text trigrams len) →
    unindexed apart ≡ text_content (if is_none broken then Some trigrams else None)
by_skip None reason trigrams len is = absurd (false≢true (ap is_text is))
by_skip (Some other) reason trigrams len is = refl

-- ---- contents

module _ (most : Limits) (bytes : List ℕ) (ending : Ending) (has : Bool) where
  abbrev content : Content
  content = if is_binary bytes then unindexed binary else text_content (text_trigrams most bytes)

  binary_found : has ≡ is_binary bytes → has ≡ true → unindexed binary ≡ content
  binary_found shown is = ap (λ b. if b then unindexed binary else text_content (text_trigrams most bytes)) (sym is ∙ shown)

  module _ (shown : has ≡ is_binary bytes) (none : has ≡ false) (whole : ending ≡ ends) where
    not_binary : text_content (text_trigrams most bytes) ≡ content
    not_binary = ap (λ b. if b then unindexed binary else text_content (text_trigrams most bytes)) (sym none ∙ shown)

    text_found : (set : List ℕ) (n : ℕ) → scans.text set n ≡ scan_outcome_of most bytes ending → text set ≡ content
    text_found set n is =
        by_text (skip most bytes) set (tri bytes) n (length bytes) (is ∙ ap (scan_outcome_of most bytes) whole) ∙ not_binary

    apart_found : (reason : Reason) → skipped_for reason ≡ scan_outcome_of most bytes ending → unindexed apart ≡ content
    apart_found reason is =
        by_skip (skip most bytes) reason (tri bytes) (length bytes) (is ∙ ap (scan_outcome_of most bytes) whole) ∙ not_binary

-- ---- what is found

module _ (size : ℕ) (model : Option SourceModel) where
  abbrev pub Shows : Bool → Bool → Type 0
  Shows has whole = IfSome model (λ source. (source.ending ≡ ends) × (has ≡ is_binary source.bytes)
      × (whole ≡ nat_eq (length source.bytes) size))

  abbrev pub Has : Content → Type 0
  Has content = IfSome model (λ source. (content ≡ sized_content size source.bytes) × (source.ending ≡ ends))

pub shown_by : (most : ℕ) (model after last : Option SourceModel) (seen has : Bool) (start left : ℕ) (first missing : Option ℕ) (size : ℕ) →
    seen ≡ false → start ≡ 8000 → first ≡ Some size → ConsumesAtMost most model after → IsReadToEnd after last (Ok tt) →
    ((found : Bool) → ahead seen start model ≡ Some found → ahead has left last ≡ Some found) →
    ((found : Bool) → expected first model ≡ Some found → expected missing last ≡ Some found) → Shows size model has (is_missing missing 0)
shown_by most model after last seen has start left first missing size unseen whole all read end keeps counts =
    shown_at_end most model after last has left missing size read end (λ found is. keeps found ((λ i. ahead (unseen i) (whole i) model) ∙ is))
    (λ found is. counts found (ap (λ o. expected o model) all ∙ is))

-- the content of a source that has as many bytes as are expected, and of another one
as_sized : (size : ℕ) (bytes : List ℕ) (found : Content) (whole : Bool) → whole ≡ nat_eq (length bytes) size → whole ≡ true →
    found ≡ content_of bytes → found ≡ sized_content size bytes
as_sized size bytes found whole shown is same =
    same ∙ ap (λ b. if b then content_of bytes else unindexed apart) (sym is ∙ shown)

pub other_in : (size : ℕ) (model : Option SourceModel) (has whole : Bool) → Shows size model has whole → whole ≡ false →
    Has size model (unindexed apart)
other_in size None has whole shown is = tt
other_in size (Some source) has whole shown is =
    (ap (λ b. if b then content_of source.bytes else unindexed apart) (sym is ∙ shown.2), shown.0)

pub binary_in : (size : ℕ) (model : Option SourceModel) (has whole : Bool) → Shows size model has whole → whole ≡ true → has ≡ true →
    Has size model (unindexed binary)
binary_in size None has whole shown all is = tt
binary_in size (Some source) has whole shown all is =
    (as_sized size source.bytes (unindexed binary) whole shown.2 all (binary_found limits source.bytes source.ending has shown.1 is), shown.0)

module _ {T : Type 0} (set : T → List ℕ) where
  pub text_in : (size : ℕ) (trigrams : T) (n : ℕ) (model : Option SourceModel) (has whole : Bool) → Shows size model has whole →
      whole ≡ true → has ≡ false → IsScanOf limits model (Ok (scan.Text trigrams n)) set → Has size model (text (set trigrams))
  text_in size trigrams n None has whole shown all none is = tt
  text_in size trigrams n (Some source) has whole shown all none is = (
    as_sized size source.bytes (text (set trigrams)) whole shown.2 all
        (text_found limits source.bytes source.ending has shown.1 none shown.0 (set trigrams) n is),
    shown.0,
  )

  pub apart_in : (size : ℕ) (reason : Reason) (model : Option SourceModel) (has whole : Bool) → Shows size model has whole →
      whole ≡ true → has ≡ false → IsScanOf limits model (Ok (scan.Skip reason)) set → Has size model (unindexed apart)
  apart_in size reason None has whole shown all none is = tt
  apart_in size reason (Some source) has whole shown all none is = (
    as_sized size source.bytes (unindexed apart) whole shown.2 all
        (apart_found limits source.bytes source.ending has shown.1 none shown.0 reason is),
    shown.0,
  )

-- ---- a file that is opened

not_empty : (size : ℕ) → (size ≡ 0 → ⊥) → nat_eq size 0 ≡ false
not_empty size some = by_test (nat_eq size 0) refl
  where
    by_test : (b : Bool) → nat_eq size 0 ≡ b → b ≡ false
    by_test true e = absurd (some (eqb-true size 0 e))
    by_test false e = refl

opened_item : (seen : Stamp) (now : Option Stamp) (item : Item) (opened : Option SourceModel) (same : Bool) → nat_eq seen.size 0 ≡ false →
    same ≡ is_still seen now → IsOkAnd (opening_of item) (λ file. opened ≡ Some file) →
    HasOpened seen.size opened (seen_content seen now item) same
opened_item seen now item opened false some is opens = ap (λ b. if b then item_content seen.size item else None) (sym is)
opened_item seen now item opened true some is opens = by_item item opens
  where
    content_is : (content : Option Content) → (if is_still seen now then (if nat_eq seen.size 0 then None else content) else None) ≡ content
    content_is content = ap (λ b. if b then (if nat_eq seen.size 0 then None else content) else None) (sym is)
        ∙ ap (λ b. if b then None else content) some

    by_item : (item : Item) → IsOkAnd (opening_of item) (λ file. opened ≡ Some file) → HasOpened seen.size opened (seen_content seen now item) true
    by_item (file bytes) opens = subst (λ o. HasOpened seen.size o (seen_content seen now (file bytes)) true) (sym opens)
        ((λ e. content_is (Some (sized_content seen.size bytes))), λ e. cc)
    by_item (cut bytes) opens = subst (λ o. HasOpened seen.size o (seen_content seen now (cut bytes)) true) (sym opens)
        ((λ e. cc), λ e. content_is None)
    by_item item opens = absurd opens

-- what is opened is what the run learns of the file
pub opened_seen : (snapshot : Option Snapshot) (stamps : Snapshot → List ℕ → Option Stamp) (path : List ℕ) (seen : Stamp) (now : Option Stamp)
    (opened : Option SourceModel) (same : Bool) → (seen.size ≡ 0 → ⊥) → same ≡ is_still seen now →
    OpensFile {A = Option Stamp} snapshot path (Ok now) opened → IfSome snapshot (λ tree. now ≡ stamps tree path) →
    IfSome snapshot (λ items. HasOpened seen.size opened (seen_content seen (stamps items path) (item_at items path)) same)
opened_seen None stamps path seen now opened same some is opens stamp = tt
opened_seen (Some tree) stamps path seen now opened same some is opens stamp =
    opened_item seen (stamps tree path) (item_at tree path) opened same (not_empty seen.size some) (is ∙ ap (is_still seen) stamp) opens
