-- The input, and what words name, one after another.
use denote.Ref.{Bor}
use Rattle.std.proofs.Common.{◌≡◌, ◌==◌, ℕ, zero, suc, ◌+◌, ◌<◌, ◌≤◌, length, get_or, take, Bool, true, false, ◌||◌, List, [], ◌∷◌, ◌++◌, Option, Some, None, Result, Ok, Err, inl, inr, refl, sym, ap, subst, ◌∙◌, append_assoc, append-nil, arith}
use Rattle.std.specs.Prelude.{IfSome, OnOk}
use Rattle.std.specs.Path.{slash}
use Rattle.std.proofs.lemmas.Bool.{eqb-true, false≢true}
use Rattle.std.proofs.lemmas.Grind.{common_steps}
use Rattle.std.proofs.lemmas.List.{get_or_default}
use Rattle.cs_tree.proofs.NameLemmas.{mapped_more}
use Rattle.cs_tree.specs.PathParts.{texts}
use Rattle.cs_tree.specs.Snapshot.{Item, Snapshot, item_at, folder, file, cut, other, bad}
use Rattle.cs_tree.specs.StreamModels.{SourceModel, source_model}
use Rattle.cs_listing.specs.Choices.{Settings}
use Rattle.cs_listing.specs.FolderReads.{InTree}
use Rattle.cs_listing.specs.Listing.{TreeItems}
use Rattle.cs_project.specs.Scopes.{AreAllNamed, AreAllThere, AreAt, AreAtPath, AreFilesBelow, AreFirstAt, AreFirstAtPath, AreFirstBelow, AreFirstIf, AreFirstNamed, AreFirstOfAll, AreNamed, AreNamedIf, AreThere, AreThereAt, AreThereIf, ForPath, InInput, is_entered, is_input, is_there, leads_to_folder, left_by, left_if, no_bytes, path_in, unread}
use Rattle.cs_project.specs.Searched.{NamedItem}
use Rattle.cs_project.specs.Visits.{AreAnswered, VisitsOne, VisitsSome}
use Rattle.cs_project.specs.Walked.{IsPathOf, IsWordPath}
use Rattle.cs_project.specs.declared.places.PathKind.TheVariants as kind
use Rattle.cs_tree.specs.declared.fault.TreeFault.{TreeFault}
use Rattle.cs_project.proofs.VisitorLemmas.{in_any, in_same, on_ok, visits_as, visits_nothing, visits_single}

-- one more of the words
pub texts_more : (words : List (Bor (List ℕ))) (i : ℕ) (none : Bor (List ℕ)) → i < length words →
    texts (take (i + 1) words) ≡ texts (take i words) ++ (get_or words i none).now ∷ []
texts_more words i none low = mapped_more (λ (word : Bor (List ℕ)). word.now) words i (get_or words i none) low
    (get_or_default words i none (get_or words i none) low)

-- ---- the input

-- what is said of the input
pub if_input : {P Q : Item → Type 0} (input : Option Item) → ((item : Item) → P item → Q item) → IfSome input P → IfSome input Q
if_input None f has = tt
if_input (Some item) f has = f item has

pub any_input : {Q : Item → Type 0} (input : Option Item) → ((item : Item) → Q item) → IfSome input Q
any_input None f = tt
any_input (Some item) f = f item

-- an input that has no bytes
pub of_nothing : (P : Item → Type 0) (model : Option SourceModel) → model ≡ Some (source_model [] false) → InInput model P → P no_bytes
of_nothing P model is has = subst (λ m. InInput m P) is has

-- one more word that may read it
pub input_step : (P Q : Item → Type 0) (model now : Option SourceModel) (is_read : Bool) → (is_read ≡ false → now ≡ model) →
    IfSome (unread false model) P → IfSome (unread is_read now) Q → IfSome (unread false model) (λ item. P item × Q (left_if is_read item))
input_step P Q None now is_read same had has = tt
input_step P Q (Some source) now true same had has = (had, has)
input_step P Q (Some source) now false same had has = (had, subst (λ m. IfSome (unread false m) Q) (same refl) has)

left_more : (words : List (List ℕ)) (word : List ℕ) (item : Item) →
    left_by (words ++ word ∷ []) item ≡ left_if (is_input word) (left_by words item)
left_more [] word item = refl
left_more (first ∷ words) word item = left_more words word (left_if (is_input first) item)

left_twice : (was is : Bool) (item : Item) → left_if is (left_if was item) ≡ left_if (was || is) item
left_twice true true item = refl
left_twice true false item = refl
left_twice false is item = refl

-- what one more word leaves of it
pub left_step : (words : List (Bor (List ℕ))) (i : ℕ) (none : Bor (List ℕ)) (was is next : Bool) → i < length words →
    ((item : Item) → left_by (texts (take i words)) item ≡ left_if was item) → is ≡ is_input (get_or words i none).now →
    next ≡ (was || is) → (item : Item) → left_by (texts (take (i + 1) words)) item ≡ left_if next item
left_step words i none was is next low left names reads item =
    ap (λ ws. left_by ws item) (texts_more words i none low)
    ∙ left_more (texts (take i words)) (get_or words i none).now item
    ∙ ap (λ b. left_if b (left_by (texts (take i words)) item)) (sym names)
    ∙ ap (left_if is) (left item) ∙ left_twice was is item ∙ ap (λ b. left_if b item) (sym reads)

pub or_none : (a b : Bool) → (a || b) ≡ false → (a ≡ false) × (b ≡ false)
or_none true b e = absurd (false≢true (sym e))
or_none false b e = (refl, e)

-- ---- what words name

module _ (items : TreeItems) (settings : Settings) (here : List ℕ) where
  pub all_named_more : (input : Item) (words : List (List ℕ)) (word : List ℕ) (named more : List NamedItem) →
      AreAllNamed items settings here input words named → AreNamed items settings here (left_by words input) word more →
      AreAllNamed items settings here input (words ++ word ∷ []) (named ++ more)
  all_named_more input [] word named more all one = (more, [], ap (λ n. n ++ more) all ∙ sym (append-nil more), one, refl)
  all_named_more input (first ∷ words) word named more all one = (
    all.0,
    all.1 ++ more,
    ap (λ n. n ++ more) all.2 ∙ append_assoc all.0 all.1 more,
    all.3,
    all_named_more (left_if (is_input first) input) words word all.1 more all.4 one,
  )

  -- the same, where a word may name nothing
  pub all_there_more : (input : Item) (words : List (List ℕ)) (word : List ℕ) (named more : List NamedItem) →
      AreAllThere items settings here input words named → AreThere items settings here (left_by words input) word more →
      AreAllThere items settings here input (words ++ word ∷ []) (named ++ more)
  all_there_more input [] word named more all one = (more, [], ap (λ n. n ++ more) all ∙ sym (append-nil more), one, refl)
  all_there_more input (first ∷ words) word named more all one = (
    all.0,
    all.1 ++ more,
    ap (λ n. n ++ more) all.2 ∙ append_assoc all.0 all.1 more,
    all.3,
    all_there_more (left_if (is_input first) input) words word all.1 more all.4 one,
  )

  pub first_more : (input : Item) (words : List (List ℕ)) (word : List ℕ) (after : List (List ℕ)) (named more : List NamedItem) →
      AreAllThere items settings here input words named → AreFirstNamed items settings here (left_by words input) word more →
      AreFirstOfAll items settings here input (words ++ word ∷ after) (named ++ more)
  first_more input [] word after named more all one =
      inl (subst (λ n. AreFirstNamed items settings here input word (n ++ more)) (sym all) one)
  first_more input (first ∷ words) word after named more all one = inr (
    all.0,
    all.1 ++ more,
    ap (λ n. n ++ more) all.2 ∙ append_assoc all.0 all.1 more,
    all.3,
    first_more (left_if (is_input first) input) words word after all.1 more all.4 one,
  )

  pub first_all : (input : Item) (words : List (List ℕ)) (named : List NamedItem) → AreAllThere items settings here input words named →
      AreFirstOfAll items settings here input words named
  first_all input [] named all = all
  first_all input (word ∷ words) named all =
      inr (all.0, all.1, all.2, all.3, first_all (left_if (is_input word) input) words all.1 all.4)

-- the words before one, and those after it
words_around : (words : List (Bor (List ℕ))) (i : ℕ) (none : Bor (List ℕ)) → i < length words →
    (after : List (List ℕ)) × (texts words ≡ texts (take i words) ++ (get_or words i none).now ∷ after)
words_around [] i none low = let wrong : ⊥ = omega (arith, low) in absurd wrong
words_around (word ∷ words) zero none low = (texts words, refl)
words_around (word ∷ words) (suc i) none low =
    let h = words_around words i none (omega (arith, low)) in (h.0, ap (λ ws. word.now ∷ ws) h.1)

-- What some words name was visited, and this holds of it; if no error was reported, each names something.
abbrev pub HasNamed : Option Snapshot → Settings → List ℕ → Item → List (List ℕ) → Bool → (List NamedItem → Type 0) → Type 0
HasNamed snapshot settings here input words wrong P = InTree snapshot (λ items. (named : List NamedItem)
    × AreAllThere items settings here input words named × (wrong ≡ false → AreAllNamed items settings here input words named) × P named)

pub none_named : (snapshot : Option Snapshot) (settings : Settings) (here : List ℕ) (input : Item) (wrong : Bool)
    (P : List NamedItem → Type 0) → P [] → HasNamed snapshot settings here input [] wrong P
none_named None settings here input wrong P has = tt
none_named (Some tree) settings here input wrong P has = ([], refl, λ right. refl, has)

module _ {V : Type 0} (Begins Visits : V → V → List NamedItem → List ℕ → List ℕ → Type 0) (is_done is_wrong : V → Bool)
    (settings : Settings) (here : List ℕ) (input left : Item) (words : List (Bor (List ℕ))) (i : ℕ) (none : Bor (List ℕ))
    (mid new : V) (middle later : List ℕ) where
  -- what one word names was visited
  abbrev pub VisitsWord : {A E : Type 0} → TreeItems → Result A E → Type 0
  VisitsWord items result = VisitsSome Begins Visits is_done
      (AreFirstNamed items settings here left (get_or words i none).now)
      (AreAnswered is_wrong new (AreThere items settings here left (get_or words i none).now)
      (AreNamed items settings here left (get_or words i none).now)) mid new middle later result

  -- one more word
  pub named_more : {A : Type 0} (E : Type 0) (snapshot now : Option Snapshot) (P Q : List NamedItem → Type 0) (answer : A) → i < length words →
      now ≡ snapshot → left_by (texts (take i words)) input ≡ left → (is_wrong new ≡ false → is_wrong mid ≡ false) →
      HasNamed snapshot settings here input (texts (take i words)) (is_wrong mid) P →
      InTree now (λ items. VisitsWord {E = E} items (Ok answer)) → is_done new ≡ false →
      ((all more : List NamedItem) → P all → Begins mid new more middle later × Visits mid new more middle later → Q (all ++ more)) →
      HasNamed snapshot settings here input (texts (take (i + 1) words)) (is_wrong new) Q
  named_more E None now P Q answer low same leaves right has word going step = tt
  named_more E (Some tree) now P Q answer low same leaves right has word going step =
      let items = item_at tree in
      let one = subst (λ s. InTree s (λ items. VisitsWord {E = E} items (Ok answer))) same word in
      let all = (one.3).1 going in
      let text = (get_or words i none).now in (
        has.0 ++ one.0,
        subst (λ ws. AreAllThere items settings here input ws (has.0 ++ one.0)) (sym (texts_more words i none low))
            (all_there_more items settings here input (texts (take i words)) text has.0 one.0 has.1
            (subst (λ item. AreThere items settings here item text one.0) (sym leaves) all.0)),
        λ fine. subst (λ ws. AreAllNamed items settings here input ws (has.0 ++ one.0)) (sym (texts_more words i none low))
            (all_named_more items settings here input (texts (take i words)) text has.0 one.0 (has.2 (right fine))
            (subst (λ item. AreNamed items settings here item text one.0) (sym leaves) (all.1 fine))),
        step has.0 one.0 has.3 (one.2, (one.3).0),
      )

  -- the last of them, at an error or an early end
  pub named_last : {A E : Type 0} (old : V) (given : List ℕ) (snapshot now : Option Snapshot) (P : List NamedItem → Type 0)
      (wrong : Bool) (AreAll : TreeItems → List NamedItem → Type 0) (was result : Result A E) → i < length words →
      now ≡ snapshot → left_by (texts (take i words)) input ≡ left → HasNamed snapshot settings here input (texts (take i words)) wrong P →
      InTree now (λ items. VisitsWord items was) → OnOk result (is_done new ≡ true) →
      ((all more : List NamedItem) → P all → Begins mid new more middle later × OnOk was (Visits mid new more middle later) →
      Begins old new (all ++ more) given later × OnOk result (Visits old new (all ++ more) given later)) →
      InTree snapshot (λ items. VisitsSome Begins Visits is_done (AreFirstOfAll items settings here input (texts words)) (AreAll items)
      old new given later result)
  named_last old given None now P wrong AreAll was result low same leaves has word done step = tt
  named_last {A} {E} old given (Some tree) now P wrong AreAll was result low same leaves has word done step =
      let items = item_at tree in
      let one = subst (λ s. InTree s (λ items. VisitsWord {A = A} {E = E} items was)) same word in
      let around = words_around words i none low in
      let said = step has.0 one.0 has.3 (one.2, on_ok was (λ both. both.0) one.3) in (
        has.0 ++ one.0,
        subst (λ ws. AreFirstOfAll items settings here input ws (has.0 ++ one.0)) (sym around.1)
            (first_more items settings here input (texts (take i words)) (get_or words i none).now around.0 has.0 one.0 has.1
            (subst (λ item. AreFirstNamed items settings here item (get_or words i none).now one.0) (sym leaves) one.1)),
        said.0,
        ended (Visits old new (has.0 ++ one.0) given later) (AreAll items (has.0 ++ one.0)) result done said.1,
      )
    where
      ended : (P Q : Type 0) (result : Result A E) → OnOk result (is_done new ≡ true) → OnOk result P →
          OnOk result (P × (is_done new ≡ false → Q))
      ended P Q (Ok answer) done p = (p, λ going. absurd (false≢true (sym going ∙ done)))
      ended P Q (Err fault) done p = tt

-- all of them
pub named_all : {V A : Type 0} (E : Type 0) (Begins Visits : V → V → List NamedItem → List ℕ → List ℕ → Type 0) (is_done is_wrong : V → Bool)
    (old new : V) (given later : List ℕ) (snapshot : Option Snapshot) (settings : Settings) (here : List ℕ) (input : Item)
    (words : List (List ℕ)) (P : List NamedItem → Type 0) (answer : A) →
    HasNamed snapshot settings here input words (is_wrong new) P →
    ((all : List NamedItem) → P all → Begins old new all given later × Visits old new all given later) →
    InTree snapshot (λ items. VisitsSome Begins Visits is_done {E = E} (AreFirstOfAll items settings here input words)
    (λ named. is_wrong new ≡ false → AreAllNamed items settings here input words named) old new given later (Ok answer))
named_all E Begins Visits is_done is_wrong old new given later None settings here input words P answer has says = tt
named_all E Begins Visits is_done is_wrong old new given later (Some tree) settings here input words P answer has says =
    let said = says has.0 has.3 in
    (has.0, first_all (item_at tree) settings here input words has.0 has.1, said.0, (said.1, λ going. has.2))

-- all words
pub all_taken : (P : List (List ℕ) → Type 0) (words : List (Bor (List ℕ))) (i : ℕ) → length words ≤ i → P (texts (take i words)) → P (texts words)
all_taken P words i end has = let same : take i words ≡ words = grind (arith, common_steps) in subst (λ ws. P (texts ws)) same has

-- no words
pub if_none : (words : List (Bor (List ℕ))) (P : List (List ℕ) → Type 0) → (length words == 0) ≡ true → P [] → P (texts words)
if_none [] P none has = has
if_none (word ∷ words) P none has =
    let e : length (word ∷ words) ≡ 0 = eqb-true (length (word ∷ words)) 0 none in absurd (omega (arith, e))

-- some words
pub if_some : (words : List (Bor (List ℕ))) (P Q : List (List ℕ) → Type 0) → (length words == 0) ≡ false →
    ((word : List ℕ) (more : List (List ℕ)) → P (word ∷ more) → Q (word ∷ more)) → P (texts words) → Q (texts words)
if_some [] P Q some f has = absurd (false≢true (sym some))
if_some (word ∷ words) P Q some f has = f word.now (texts words) has

-- the path of a word that names a folder
pub for_folder : (items : TreeItems) (settings : Settings) (here word path : List ℕ) (P : Bool → List ℕ → Type 0) →
    IsPathOf items here word path kind.Folder → P true path → ForPath items settings here word P
for_folder items settings here word path P is has =
    let at = path_in items here word in
    let leads : leads_to_folder items at ≡ true = subst (λ p. leads_to_folder items p ≡ true) is.1 is.2 in (
      is.0,
      entered_is_there (items at) (items (at ++ slash ∷ [])) leads,
      subst (λ b. P b at) (sym leads) (subst (P true) is.1 has),
    )
  where
    entered_is_there : (item entered : Item) → is_entered item entered ≡ true → is_there item ≡ true
    entered_is_there (folder names unnamed) entered e = refl
    entered_is_there (file bytes) entered e = refl
    entered_is_there (cut bytes) entered e = refl
    entered_is_there other entered e = refl
    entered_is_there (bad fault) entered e = absurd (false≢true e)

-- the path of a word that names anything else
pub for_file : (items : TreeItems) (settings : Settings) (here word path : List ℕ) (P : Bool → List ℕ → Type 0) →
    IsPathOf items here word path kind.File → P false path → ForPath items settings here word P
for_file items settings here word path P is has =
    let at = path_in items here word in
    let none : leads_to_folder items at ≡ false = subst (λ p. leads_to_folder items p ≡ false) is.1 is.2.1 in (
      is.0,
      subst (λ p. is_there (items p) ≡ true) is.1 is.2.0,
      subst (λ b. P b at) (sym none) (subst (P false) is.1 has),
    )

-- ---- what a word names was visited

module _ {V : Type 0} (Begins Visits : V → V → List NamedItem → List ℕ → List ℕ → Type 0) (is_done is_wrong : V → Bool)
    (old new : V) (given later : List ℕ) {A E : Type 0} (result : Result A E) (snapshot : Option Snapshot) where
  -- the input, and a path
  pub input_visited : (settings : Settings) (here word : List ℕ) (input : Item) → is_input word ≡ true →
      VisitsOne Begins Visits old new (word, input, true) given later result →
      InTree snapshot (λ items. VisitsSome Begins Visits is_done (AreFirstNamed items settings here input word)
      (AreAnswered is_wrong new (AreThere items settings here input word) (AreNamed items settings here input word)) old new given later result)
  input_visited settings here word input is has = in_any snapshot
      (λ items. VisitsSome Begins Visits is_done (AreFirstNamed items settings here input word)
      (AreAnswered is_wrong new (AreThere items settings here input word) (AreNamed items settings here input word)) old new given later result)
      (λ items. visits_single Begins Visits is_done (AreFirstNamed items settings here input word)
      (AreAnswered is_wrong new (AreThere items settings here input word) (AreNamed items settings here input word)) old new given later
      (word, input, true) result
      (subst (λ b. AreFirstIf items settings here b input word ((word, input, true) ∷ [])) (sym is) refl) (
        subst (λ b. AreThereIf items settings here b input word ((word, input, true) ∷ [])) (sym is) refl,
        λ right. subst (λ b. AreNamedIf items settings here b input word ((word, input, true) ∷ [])) (sym is) refl,
      ) has)

  pub path_visited : (settings : Settings) (here word : List ℕ) (input : Item) → is_input word ≡ false →
      InTree snapshot (λ items. VisitsSome Begins Visits is_done (AreFirstAtPath items settings here word)
      (AreAnswered is_wrong new (AreThereAt items settings here word) (AreAtPath items settings here word)) old new given later result) →
      InTree snapshot (λ items. VisitsSome Begins Visits is_done (AreFirstNamed items settings here input word)
      (AreAnswered is_wrong new (AreThere items settings here input word) (AreNamed items settings here input word)) old new given later result)
  path_visited settings here word input is has = subst (λ b. InTree snapshot (λ items.
      VisitsSome Begins Visits is_done (AreFirstIf items settings here b input word)
      (AreAnswered is_wrong new (AreThereIf items settings here b input word) (AreNamedIf items settings here b input word)) old new given later result))
      (sym is) has

  -- what is at the path of a word
  module _ (settings : Settings) (here word : List ℕ) where
    abbrev pub VisitsPath : TreeItems → Type 0
    VisitsPath items = VisitsSome Begins Visits is_done (AreFirstAtPath items settings here word)
        (AreAnswered is_wrong new (AreThereAt items settings here word) (AreAtPath items settings here word)) old new given later result

    pub folder_visited_at : (now : Option Snapshot) (path at : List ℕ) → at ≡ path → now ≡ snapshot →
        InTree snapshot (λ items. IsPathOf items here word path kind.Folder) →
        InTree now (λ items. VisitsSome Begins Visits is_done (AreFirstBelow items settings at word) (AreFilesBelow items settings at word)
        old new given later result) → InTree snapshot VisitsPath
    folder_visited_at now path at same' same is has = by_tree snapshot same is has
      where
        by_tree : (s : Option Snapshot) → now ≡ s → InTree s (λ items. IsPathOf items here word path kind.Folder) →
            InTree now (λ items. VisitsSome Begins Visits is_done (AreFirstBelow items settings at word) (AreFilesBelow items settings at word)
            old new given later result) → InTree s VisitsPath
        by_tree None same is has = tt
        by_tree (Some tree) same is has =
            let items = item_at tree in
            visits_as Begins Visits is_done (AreFirstBelow items settings path word) (AreFirstAtPath items settings here word)
            (AreFilesBelow items settings path word)
            (AreAnswered is_wrong new (AreThereAt items settings here word) (AreAtPath items settings here word)) old new given later result
            (λ named first. inl (for_folder items settings here word path (λ leads p. AreFirstAt items settings leads p word named) is first))
            (λ named all. (
              inl (for_folder items settings here word path (λ leads p. AreAt items settings leads p word named) is all),
              λ right. for_folder items settings here word path (λ leads p. AreAt items settings leads p word named) is all,
            ))
            (subst (λ p. VisitsSome Begins Visits is_done (AreFirstBelow items settings p word) (AreFilesBelow items settings p word)
            old new given later result) same'
            (subst (λ s. InTree s (λ items. VisitsSome Begins Visits is_done (AreFirstBelow items settings at word)
            (AreFilesBelow items settings at word) old new given later result)) same has))

    pub file_visited : (now : Option Snapshot) (path at : List ℕ) → at ≡ path → now ≡ snapshot →
        InTree snapshot (λ items. IsPathOf items here word path kind.File) →
        InTree now (λ items. VisitsOne Begins Visits old new (word, items at, true) given later result) → InTree snapshot VisitsPath
    file_visited now path at same' same is has = by_tree snapshot same is has
      where
        by_tree : (s : Option Snapshot) → now ≡ s → InTree s (λ items. IsPathOf items here word path kind.File) →
            InTree now (λ items. VisitsOne Begins Visits old new (word, items at, true) given later result) → InTree s VisitsPath
        by_tree None same is has = tt
        by_tree (Some tree) same is has =
            let items = item_at tree in
            let asked : AreAtPath items settings here word ((word, items path, true) ∷ []) =
            for_file items settings here word path (λ leads p. AreAt items settings leads p word ((word, items path, true) ∷ [])) is refl in
            visits_single Begins Visits is_done (AreFirstAtPath items settings here word)
            (AreAnswered is_wrong new (AreThereAt items settings here word) (AreAtPath items settings here word)) old new given later
            (word, items path, true) result
            (inl (for_file items settings here word path (λ leads p. AreFirstAt items settings leads p word ((word, items path, true) ∷ [])) is refl))
            (inl asked, λ right. asked)
            (subst (λ p. VisitsOne Begins Visits old new (word, items p, true) given later result) same'
            (subst (λ s. InTree s (λ items. VisitsOne Begins Visits old new (word, items at, true) given later result)) same has))

module _ {V : Type 0} (Begins Visits : V → V → List NamedItem → List ℕ → List ℕ → Type 0) (is_done is_wrong : V → Bool)
    (old new : V) (given : List ℕ) {A E : Type 0} (result : Result A E) (snapshot : Option Snapshot) (settings : Settings)
    (here word : List ℕ) where
  -- nothing is known of it
  pub unread_visited : OnOk result ⊥ → Begins old new [] given given × Visits old new [] given given →
      InTree snapshot (VisitsPath Begins Visits is_done is_wrong old new given given result snapshot settings here word)
  unread_visited fails none = in_any snapshot (VisitsPath Begins Visits is_done is_wrong old new given given result snapshot settings here word)
      (λ items. visits_nothing Begins Visits is_done (AreFirstAtPath items settings here word)
      (AreAnswered is_wrong new (AreThereAt items settings here word) (AreAtPath items settings here word)) old new given result (inr refl)
      (on_ok result (λ wrong. absurd wrong) fails) none)

  -- nothing is there
  pub unnamed_visited : (path : List ℕ) (fault : TreeFault) → InTree snapshot (λ items. IsWordPath items here word path (kind.Unread fault)) →
      is_wrong new ≡ true → Begins old new [] given given × Visits old new [] given given →
      InTree snapshot (VisitsPath Begins Visits is_done is_wrong old new given given result snapshot settings here word)
  unnamed_visited path fault is wrong none = in_same snapshot snapshot (λ items. IsWordPath items here word path (kind.Unread fault))
      (VisitsPath Begins Visits is_done is_wrong old new given given result snapshot settings here word) refl
      (λ items nothing. visits_nothing Begins Visits is_done (AreFirstAtPath items settings here word)
      (AreAnswered is_wrong new (AreThereAt items settings here word) (AreAtPath items settings here word)) old new given result (inr refl)
      (ok_by result (inr (nothing, refl), λ right. absurd (false≢true (sym right ∙ wrong)))) none) is
    where
      ok_by : {P : Type 0} (result : Result A E) → P → OnOk result P
      ok_by (Ok answer) p = p
      ok_by (Err fault) p = tt
