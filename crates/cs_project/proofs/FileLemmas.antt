-- A file of the tree.
use Rattle.std.proofs.Common.{Bor, ◌≡◌, ◌≤◌, ℕ, ◌^◌, Bool, true, false, ◌&&◌, ◌||◌, nat_lt, List, [], ◌∷◌, ◌++◌, length, Option, Some, None, Ok, Err, inl, inr, refl, sym, ap, subst, ◌∙◌, arith}
use Rattle.std.specs.Prelude.{◌⊎◌, is_ok}
use Rattle.std.proofs.lemmas.Bool.{false≢true}
use Rattle.std.proofs.lemmas.Bool.Decides.{nat_tests}
use Rattle.cs_tree.specs.Snapshot.{Item, Snapshot, item_at, folder, file, cut, other, bad}
use Rattle.cs_tree.specs.StreamModels.{Ending, SourceModel, ends, fails}
use Rattle.cs_tree.specs.Trees.{OpensFile, OpensFileAs}
use Rattle.cs_tree.specs.TreeAnswers.{opening_of}
use Rattle.cs_tree.specs.TreeReaders.{open_model}
use Rattle.cs_tree.specs.declared.fault.TreeFault.{TreeFault}
use Rattle.cs_tree.specs.declared.fault.TreeFault.TheVariants.{Missing, Memory}
use Rattle.cs_listing.specs.FolderReads.{InTree}
use Rattle.cs_lines.specs.Findings.{Finding}
use Rattle.cs_lines.specs.Project.{ItemShown, text_shown}
use Rattle.cs_lines.specs.Shown.{between, following}
use Rattle.cs_lines.specs.Streamed.{ReadsToEnd, is_whole}
use Rattle.cs_lines.specs.Streams.{BeginsFile, FindsInFile, PrintsFile}
use Rattle.cs_lines.specs.declared.binary.BinaryFiles.{BinaryFiles}
use Rattle.cs_lines.specs.declared.form.ShowOptions.{ShowOptions}
use Rattle.cs_lines.specs.declared.rows.Page.{Page}
use Rattle.cs_lines.specs.declared.stream.Streamed.{Streamed}
use Rattle.cs_project.specs.Reports.{MayReport}
use Rattle.cs_project.specs.Scopes.{InInput, source_item}
use Rattle.cs_project.specs.Searched.{NamedItem, binary_as, is_cut, item_groups, shown_of}
use Rattle.cs_project.specs.Visits.{BeginsItems, ShowsItems, may_cut}
use Rattle.cs_project.specs.declared.file_search.FileSearch.{FileSearch}
use Rattle.cs_project.proofs.TextLemmas.{one_begun, one_printed, or_false, shows_nothing}

-- ---- a source

-- what is printed for it, however it ends
shown_by : (options : ShowOptions) (finding : Finding) (kind : BinaryFiles) (name bytes : List ℕ) (ending : Ending) →
    text_shown options finding name kind bytes ≡ item_groups options finding kind name (source_item (record { bytes = bytes; ending = ending }))
shown_by options finding kind name bytes ends = refl
shown_by options finding kind name bytes fails = refl

-- it is cut if it is not read to its end
cut_by : (bytes : List ℕ) (ending : Ending) (whole : Bool) → (ending ≡ ends → length bytes ≤ 2 ^ 62 → whole ≡ true) → whole ≡ false →
    is_cut (source_item (record { bytes = bytes; ending = ending })) ≡ true
cut_by bytes fails whole reads part = refl
cut_by bytes ends whole reads part = by_size (nat_lt (2 ^ 62) (length bytes)) refl
  where
    by_size : (b : Bool) → nat_lt (2 ^ 62) (length bytes) ≡ b → b ≡ true
    by_size true e = refl
    by_size false e = let low : length bytes ≤ 2 ^ 62 = grind (arith, nat_tests, e) in absurd (false≢true (sym part ∙ reads refl low))

-- how a search prints a source; the clauses of `print_file` are about what the references point at
abbrev pub page_of : FileSearch → Bor (List ℕ) → Page
page_of search name = record { options = record { ref_ptr = (0, 0); now = search.options }; name = name; begun = search.marked }

module _ (old new : FileSearch) (name : Bor (List ℕ)) (named : Bool) (binaries : BinaryFiles) (chosen : binaries ≡ binary_as old.binary named)
    (given later : List ℕ) where
  shown_for : (source : SourceModel) (finding : Finding) →
      text_shown old.options finding name.now binaries source.bytes ≡ shown_of old.options old.binary finding (name.now, source_item source, named)
  shown_for source finding = ap (λ k. text_shown old.options finding name.now k source.bytes) chosen
      ∙ shown_by old.options finding (binary_as old.binary named) name.now source.bytes source.ending

  all_for : (source : SourceModel) (finding : Finding) →
      given ++ following (between old.options) old.marked (text_shown old.options finding name.now binaries source.bytes).groups
      ≡ given ++ following (between old.options) old.marked (shown_of old.options old.binary finding (name.now, source_item source, named)).groups
  all_for source finding = ap (λ (s : ItemShown). given ++ following (between old.options) old.marked s.groups) (shown_for source finding)

  -- it was read to its end, or as far as it matters
  pub source_shown : (model : Option SourceModel) (streamed : Streamed) →
      PrintsFile old.search new.search (page_of old name) binaries model given later streamed →
      new.marked ≡ (old.marked || streamed.marked) → is_whole streamed.ended ≡ true →
      InInput model (λ item. ShowsItems old new ((name.now, item, named) ∷ []) given later)
  source_shown None streamed prints marks whole = tt
  source_shown (Some source) streamed prints marks whole = λ running finding found.
      let p = prints whole running finding found in
      one_printed old.options old.binary finding (may_cut new) (name.now, source_item source, named) old.marked new.marked given later (inl (
        p.0 ∙ all_for source finding,
        marks ∙ ap (λ m. old.marked || m) (p.1 ∙ ap (λ (s : ItemShown). s.marked) (shown_for source finding)),
      ))

  -- it was not, and this was reported
  pub source_cut : (model : Option SourceModel) (streamed : Streamed) →
      BeginsFile old.search new.search (page_of old name) binaries model given later →
      FindsInFile old.search new.search (page_of old name) binaries model streamed → ReadsToEnd (2 ^ 62) model streamed.ended →
      new.marked ≡ (old.marked || streamed.marked) → is_whole streamed.ended ≡ false → new.reports.wrong ≡ true →
      InInput model (λ item. ShowsItems old new ((name.now, item, named) ∷ []) given later)
  source_cut None streamed begins finds reads marks part wrong = tt
  source_cut (Some source) streamed begins finds reads marks part wrong = λ running finding found.
      let p = begins running finding found in
      one_printed old.options old.binary finding (may_cut new) (name.now, source_item source, named) old.marked new.marked given later (inr (
        ap (λ w. w && is_cut (source_item source)) wrong ∙ cut_by source.bytes source.ending (is_whole streamed.ended) reads part,
        (p.0, sym (all_for source finding) ∙ p.1),
        by_mark streamed.marked marks (λ is. ap (λ (s : ItemShown). s.marked) (sym (shown_for source finding)) ∙ finds running finding found is),
      ))
    where
      by_mark : {all : Bool} (here : Bool) → new.marked ≡ (old.marked || here) → (here ≡ true → all ≡ true) →
          (new.marked ≡ old.marked) ⊎ (new.marked ≡ (old.marked || all))
      by_mark true e is = inr (e ∙ ap (λ m. old.marked || m) (sym (is refl)))
      by_mark false e is = inl (e ∙ or_false old.marked)

  -- also after an error
  pub source_begun : (model : Option SourceModel) → BeginsFile old.search new.search (page_of old name) binaries model given later →
      InInput model (λ item. BeginsItems old new ((name.now, item, named) ∷ []) given later)
  source_begun None begins = tt
  source_begun (Some source) begins = λ running finding found.
      let p = begins running finding found in
      one_begun old.options old.binary finding (may_cut new) (name.now, source_item source, named) old.marked given later
      (p.0, sym (all_for source finding) ∙ p.1)

-- ---- the item at a path

item_opened : (item : Item) (model : Option SourceModel) (P : Item → Type 0) → OpensFileAs {A = Unit {0}} (Ok tt) (opening_of item) model →
    InInput model P → P item
item_opened (folder names unnamed) model P opens has = absurd opens
item_opened (file bytes) model P opens has = subst (λ m. InInput m P) opens has
item_opened (cut bytes) model P opens has = subst (λ m. InInput m P) opens has
item_opened other model P opens has = absurd opens
item_opened (bad fault) model P opens has = absurd opens

-- what holds of the source that was opened, which a reader has
pub path_opened : (snapshot : Option Snapshot) (opened model : Option SourceModel) (path : List ℕ) (P : Item → Type 0) →
    OpensFile {A = Unit {0}} snapshot path (Ok tt) opened → model ≡ open_model snapshot opened → InInput model P →
    InTree snapshot (λ items. P (items path))
path_opened None opened model path P opens same has = tt
path_opened (Some tree) opened model path P opens same has =
    item_opened (item_at tree path) opened P opens (subst (λ m. InInput m P) same has)

-- where nothing is printed
pub path_unbegun : (snapshot : Option Snapshot) (old new : FileSearch) (name : List ℕ) (named : Bool) (path given : List ℕ) →
    InTree snapshot (λ items. BeginsItems old new ((name, items path, named) ∷ []) given given)
path_unbegun None old new name named path given = tt
path_unbegun (Some tree) old new name named path given = λ running finding found.
    let item : NamedItem = (name, item_at tree path, named) in
    one_begun old.options old.binary finding (may_cut new) item old.marked given given
    (following (between old.options) old.marked (shown_of old.options old.binary finding item).groups, refl)

-- an item that cannot be opened prints nothing
item_refused : (item : Item) (fault : TreeFault) (old new : FileSearch) (name : List ℕ) (named : Bool) (given : List ℕ) →
    opening_of item ≡ Err fault → new.marked ≡ old.marked → ShowsItems old new ((name, item, named) ∷ []) given given
item_refused (folder names unnamed) fault old new name named given e same =
    shows_nothing old new (name, folder names unnamed, named) given (λ finding. refl) same
item_refused (file bytes) fault old new name named given e same = absurd (false≢true (sym (ap is_ok e)))
item_refused (cut bytes) fault old new name named given e same = absurd (false≢true (sym (ap is_ok e)))
item_refused other fault old new name named given e same = shows_nothing old new (name, other, named) given (λ finding. refl) same
item_refused (bad error) fault old new name named given e same = shows_nothing old new (name, bad error, named) given (λ finding. refl) same

pub path_missing : (snapshot : Option Snapshot) (opened : Option SourceModel) (old new : FileSearch) (name : List ℕ) (named : Bool)
    (path given : List ℕ) → OpensFile {A = Unit {0}} snapshot path (Err Missing) opened → new.marked ≡ old.marked →
    InTree snapshot (λ items. ShowsItems old new ((name, items path, named) ∷ []) given given)
path_missing None opened old new name named path given opens same = tt
path_missing (Some tree) opened old new name named path given opens same =
    item_refused (item_at tree path) Missing old new name named given opens.0 same

pub path_refused : (snapshot : Option Snapshot) (fault : TreeFault) (opened : Option SourceModel) (old new : FileSearch)
    (name : List ℕ) (named : Bool) (path given : List ℕ) → OpensFile {A = Unit {0}} snapshot path (Err fault) opened →
    MayReport fault old.reports.wrong new.reports.wrong → new.marked ≡ old.marked →
    InTree snapshot (λ items. ShowsItems old new ((name, items path, named) ∷ []) given given)
path_refused None fault opened old new name named path given opens reports same = tt
path_refused (Some tree) Memory opened old new name named path given opens reports same = absurd reports
path_refused (Some tree) fault opened old new name named path given opens reports same =
    item_refused (item_at tree path) fault old new name named given opens.0 same
