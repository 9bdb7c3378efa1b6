-- Items that are searched one after another.
use Rattle.std.proofs.Common.{◌≡◌, ℕ, Bool, true, false, ◌&&◌, ◌||◌, List, [], ◌∷◌, ◌++◌, inl, inr, refl, sym, ap, subst, ◌∙◌, append_assoc, append-nil}
use Rattle.std.specs.List.{AllByRecursion}
use Rattle.std.proofs.lemmas.Bool.{false≢true}
use Rattle.cs_lines.specs.Findings.{Finding, IsFoundBy, has_stopped}
use Rattle.cs_lines.specs.Project.{ItemShown, nothing_shown}
use Rattle.cs_lines.specs.Shown.{between, following}
use Rattle.cs_lines.specs.declared.form.ShowOptions.{ShowOptions}
use Rattle.cs_tree.specs.SinkOutputs.{Begins}
use Rattle.cs_tree.specs.Snapshot.{Item}
use Rattle.cs_project.specs.Searched.{BeginsEach, NamedItem, PrintsEach, PrintsOne, are_marked, is_cut, items_printed, shown_of}
use Rattle.cs_project.specs.Visits.{BeginsItems, KeepsForm, ShowsItems, may_cut}
use Rattle.cs_project.specs.declared.file_search.FileSearch.{FileSearch}
use Rattle.cs_project.proofs.SearchLemmas.{still_found}

pub or_false : (b : Bool) → (b || false) ≡ b
or_false true = refl
or_false false = refl

module _ (options : ShowOptions) (binary : Bool) (finding : Finding) where
  -- ---- one item

  -- all that is printed for it
  abbrev all_of : NamedItem → Bool → List ℕ → List ℕ
  all_of item marked given = given ++ following (between options) marked (shown_of options binary finding item).groups

  pub one_printed : (cuts : Item → Bool) (item : NamedItem) (marked next : Bool) (given later : List ℕ) →
      PrintsOne options binary finding cuts item marked next given later →
      PrintsEach options binary finding cuts (item ∷ []) marked next given later
  one_printed cuts item marked next given later has = (later, next, has, (refl, refl))

  pub nothing_printed : (cuts : Item → Bool) (item : NamedItem) (marked next : Bool) (given : List ℕ) →
      shown_of options binary finding item ≡ nothing_shown → next ≡ marked →
      PrintsEach options binary finding cuts (item ∷ []) marked next given given
  nothing_printed cuts item marked next given none same = one_printed cuts item marked next given given (inl (
    sym (append-nil given) ∙ ap (λ (s : ItemShown). given ++ following (between options) marked s.groups) (sym none),
    same ∙ sym (or_false marked) ∙ ap (λ (s : ItemShown). marked || s.marked) (sym none),
  ))

  pub one_begun : (cuts : Item → Bool) (item : NamedItem) (marked : Bool) (given later : List ℕ) →
      Begins later (given ++ following (between options) marked (shown_of options binary finding item).groups) →
      BeginsEach options binary finding cuts (item ∷ []) marked given later
  one_begun cuts item marked given later begins =
      let all = all_of item marked given in
      let next = marked || (shown_of options binary finding item).marked in
      (all, next, one_printed cuts item marked next given all (inl (refl, refl)), begins)

  -- ---- more items

  pub each_more : (cuts : Item → Bool) (items more : List NamedItem) (marked found next : Bool) (given middle later : List ℕ) →
      PrintsEach options binary finding cuts items marked found given middle →
      PrintsEach options binary finding cuts more found next middle later →
      PrintsEach options binary finding cuts (items ++ more) marked next given later
  each_more cuts [] more marked found next given middle later had has =
      subst (λ m. PrintsEach options binary finding cuts more m next given later) had.0
      (subst (λ g. PrintsEach options binary finding cuts more found next g later) had.1 has)
  each_more cuts (item ∷ items) more marked found next given middle later had has =
      (had.0, had.1, had.2, each_more cuts items more had.1 found next had.0 middle later had.3 has)

  pub begun_on : (cuts : Item → Bool) (items more : List NamedItem) (marked found : Bool) (given middle later : List ℕ) →
      PrintsEach options binary finding cuts items marked found given middle →
      BeginsEach options binary finding cuts more found middle later →
      BeginsEach options binary finding cuts (items ++ more) marked given later
  begun_on cuts items more marked found given middle later had has =
      (has.0, has.1, each_more cuts items more marked found has.1 given middle has.0 had has.2, has.3)

  -- ---- more items may be cut

  one_as : (cuts cuts' : Item → Bool) → ((item : Item) → cuts item ≡ true → cuts' item ≡ true) → (item : NamedItem)
      (marked next : Bool) (given later : List ℕ) → PrintsOne options binary finding cuts item marked next given later →
      PrintsOne options binary finding cuts' item marked next given later
  one_as cuts cuts' f item marked next given later (inl all) = inl all
  one_as cuts cuts' f item marked next given later (inr some) = inr (f item.1 some.0, some.1, some.2)

  pub each_as : (cuts cuts' : Item → Bool) → ((item : Item) → cuts item ≡ true → cuts' item ≡ true) → (items : List NamedItem)
      (marked next : Bool) (given later : List ℕ) → PrintsEach options binary finding cuts items marked next given later →
      PrintsEach options binary finding cuts' items marked next given later
  each_as cuts cuts' f [] marked next given later has = has
  each_as cuts cuts' f (item ∷ items) marked next given later has = (
    has.0,
    has.1,
    one_as cuts cuts' f item marked has.1 given has.0 has.2,
    each_as cuts cuts' f items has.1 next has.0 later has.3,
  )

  pub begun_as : (cuts cuts' : Item → Bool) → ((item : Item) → cuts item ≡ true → cuts' item ≡ true) → (items : List NamedItem)
      (marked : Bool) (given later : List ℕ) → BeginsEach options binary finding cuts items marked given later →
      BeginsEach options binary finding cuts' items marked given later
  begun_as cuts cuts' f items marked given later has =
      (has.0, has.1, each_as cuts cuts' f items marked has.1 given has.0 has.2, has.3)

  -- ---- no item is cut

  -- all that is printed for items was printed
  abbrev AllPrinted : List NamedItem → Bool → Bool → List ℕ → List ℕ → Type 0
  AllPrinted items marked next given later =
      (later ≡ given ++ items_printed options binary finding marked items) × (next ≡ are_marked options binary finding marked items)

  whole_more : (cuts : Item → Bool) (item : NamedItem) (items : List NamedItem) (marked found next : Bool) (given middle later : List ℕ) →
      cuts item.1 ≡ false → PrintsOne options binary finding cuts item marked found given middle →
      AllPrinted items found next middle later → AllPrinted (item ∷ items) marked next given later
  whole_more cuts item items marked found next given middle later whole (inl all) rest =
      let shown = shown_of options binary finding item in
      let first = following (between options) marked shown.groups in (
        rest.0 ∙ ap (λ m. middle ++ items_printed options binary finding m items) all.1
            ∙ ap (λ g. g ++ items_printed options binary finding (marked || shown.marked) items) all.0
            ∙ append_assoc given first (items_printed options binary finding (marked || shown.marked) items),
        rest.1 ∙ ap (λ m. are_marked options binary finding m items) all.1,
      )
  whole_more cuts item items marked found next given middle later whole (inr some) rest = absurd (false≢true (sym whole ∙ some.0))

  pub each_whole : (cuts : Item → Bool) (items : List NamedItem) (marked next : Bool) (given later : List ℕ) →
      AllByRecursion (λ (item : NamedItem). cuts item.1 ≡ false) items →
      PrintsEach options binary finding cuts items marked next given later →
      (later ≡ given ++ items_printed options binary finding marked items) × (next ≡ are_marked options binary finding marked items)
  each_whole cuts [] marked next given later whole has = (has.1 ∙ sym (append-nil given), has.0)
  each_whole cuts (item ∷ items) marked next given later whole has =
      whole_more cuts item items marked has.1 next given has.0 later whole.0 has.2 (each_whole cuts items has.1 next has.0 later whole.1 has.3)

-- ---- a search

-- what may have been cut later
still_cut : (mid new : FileSearch) → (new.reports.wrong ≡ false → mid.reports.wrong ≡ false) → (item : Item) →
    may_cut mid item ≡ true → may_cut new item ≡ true
still_cut mid new same item = by_wrong mid.reports.wrong new.reports.wrong (is_cut item) same
  where
    by_wrong : (was now cut : Bool) → (now ≡ false → was ≡ false) → (was && cut) ≡ true → (now && cut) ≡ true
    by_wrong was true true right e = refl
    by_wrong true true false right e = e
    by_wrong false true false right e = e
    by_wrong was false cut right e = sym (ap (λ w. w && cut) (right refl)) ∙ e

-- items, and then more of them
pub shows_more : (old mid new : FileSearch) (items more : List NamedItem) (given middle later : List ℕ) → KeepsForm old mid →
    KeepsForm mid new → ShowsItems old mid items given middle → ShowsItems mid new more middle later →
    ShowsItems old new (items ++ more) given later
shows_more old mid new items more given middle later kept keeps shown shows = λ running finding found.
    each_more old.options old.binary finding (may_cut new) items more old.marked mid.marked new.marked given middle later
    (each_as old.options old.binary finding (may_cut mid) (may_cut new) (still_cut mid new keeps.3) items old.marked mid.marked given middle
    (shown ((keeps.2).3 running) finding found))
    (subst (λ o. PrintsEach o old.binary finding (may_cut new) more mid.marked new.marked middle later) kept.0
    (subst (λ b. PrintsEach mid.options b finding (may_cut new) more mid.marked new.marked middle later) kept.1
    (shows running finding (still_found old.search mid.search kept.2 finding found))))

-- items, and then a beginning of more of them
pub begun_more : (old mid new : FileSearch) → (items more : List NamedItem) → (given middle later : List ℕ) → KeepsForm old mid →
    KeepsForm mid new → ShowsItems old mid items given middle → BeginsItems mid new more middle later →
    BeginsItems old new (items ++ more) given later
begun_more old mid new items more given middle later kept keeps shown begins = λ running finding found.
    begun_on old.options old.binary finding (may_cut new) items more old.marked mid.marked given middle later
    (each_as old.options old.binary finding (may_cut mid) (may_cut new) (still_cut mid new keeps.3) items old.marked mid.marked given middle
    (shown ((keeps.2).3 running) finding found))
    (subst (λ o. BeginsEach o old.binary finding (may_cut new) more mid.marked middle later) kept.0
    (subst (λ b. BeginsEach mid.options b finding (may_cut new) more mid.marked middle later) kept.1
    (begins running finding (still_found old.search mid.search kept.2 finding found))))

-- without an error all is printed
pub shows_all : (old new : FileSearch) (items : List NamedItem) (given later : List ℕ) → new.reports.wrong ≡ false →
    has_stopped new.search ≡ false → ShowsItems old new items given later → (finding : Finding) → IsFoundBy finding old.search →
    (later ≡ given ++ items_printed old.options old.binary finding old.marked items)
    × (new.marked ≡ are_marked old.options old.binary finding old.marked items)
shows_all old new items given later right running shows finding found =
    each_whole old.options old.binary finding (may_cut new) items old.marked new.marked given later (none items) (shows running finding found)
  where
    none : (items : List NamedItem) → AllByRecursion (λ (item : NamedItem). may_cut new item.1 ≡ false) items
    none [] = tt
    none (item ∷ items) = (ap (λ w. w && is_cut item.1) right, none items)

-- an item that prints nothing
pub shows_nothing : (old new : FileSearch) (item : NamedItem) (given : List ℕ) →
    ((finding : Finding) → shown_of old.options old.binary finding item ≡ nothing_shown) → new.marked ≡ old.marked →
    ShowsItems old new (item ∷ []) given given
shows_nothing old new item given is same = λ running finding found.
    nothing_printed old.options old.binary finding (may_cut new) item old.marked new.marked given (is finding) same
