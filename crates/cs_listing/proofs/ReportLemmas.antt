-- A path that could not be read is given once.
use Rattle.std.specs.Prelude.{String, string_bytes, string_cmp, bytes_eq}
use Rattle.std.specs.List.{list_any, AllByRecursion}
use Rattle.std.specs.BTreeSet.{BTreeSet, contains, contains_text, Updates}
use Rattle.std.specs.BTreeMap.{is_at}
use Rattle.std.specs.Ordering.{nat_cmp}
use Rattle.std.specs.Cmp.Lexicographic.{slice_cmp, bytes_decides}
use Rattle.std.specs.declared.alloc.Global.{Global}
use Rattle.std.proofs.Common.{◌≡◌, refl, ℕ, Bool, true, false, cond, not, ◌&&◌, ◌||◌, List, [], ◌∷◌, ◌++◌, sym, ap, subst, ◌∙◌, append_assoc}
use Rattle.std.proofs.lemmas.Bool.{true≢false, false_from_ne_true}
use Rattle.std.proofs.lemmas.Map.Text.{btree_set_updates_text}
use Rattle.cs_tree.specs.Elements.{is_among, are_distinct}
use Rattle.cs_listing.specs.Listing.{TreeItems}
use Rattle.cs_listing.specs.Walk.{Reports, KeepsReports, TakesOne}
use Rattle.cs_listing.specs.WholeWalks.{GivesToEnd, paths_reported, WalksReportOnce}
use Rattle.cs_listing.specs.declared.fault.Unread.{Unread}
use Rattle.cs_listing.specs.declared.walk.Found.{Found}
use Rattle.cs_listing.specs.declared.walk.Found.TheVariants as found
use Rattle.cs_listing.specs.declared.walk.Walk.{Walk}
use Rattle.cs_listing.proofs.KeyLemmas.{same_eq}

-- a set without paths
pub none_in : (old new : BTreeSet (String Global)) → new ≡ old → old.keys ≡ [] → (path : List ℕ) → contains_text new path ≡ false
none_in old new same empty path =
    ap (λ (set : BTreeSet (String Global)). contains_text set path) same
    ∙ ap (λ (keys : List (String Global)). list_any (is_at (λ (key : String Global). slice_cmp nat_cmp path (string_bytes key))) keys) empty

either_or : (b x : Bool) → cond b true x ≡ (b || x)
either_or true x = refl
either_or false x = refl

not_true : (b : Bool) → true ≡ not b → b ≡ false
not_true true e = e
not_true false e = refl

-- a path is added that was not in the set
pub newly : (first now later : BTreeSet (String Global)) (path : String Global) (text : List ℕ) → KeepsReports first now →
    Updates string_cmp now later path true → true ≡ not (contains string_cmp now path) → string_bytes path ≡ text →
    Reports first later text
newly first now later path text kept updates added is =
    subst (Reports first later) is (
      sym (kept (string_bytes path)) ∙ not_true (contains string_cmp now path) added,
      λ other. btree_set_updates_text (string_bytes path) now later true updates other
          ∙ either_or (bytes_eq (string_bytes path) other) (contains_text now other)
          ∙ ap (λ b. bytes_eq (string_bytes path) other || b) (kept other),
    )

-- those behind a path that was reported before
abbrev pub AreBehind : BTreeSet (String Global) → List Unread → List Unread → Type 0
AreBehind reported all left = (others : List Unread) × (all ≡ left ++ others)
    × AllByRecursion (λ other. contains_text reported (string_bytes other.path) ≡ true) others

pub takes_one : (reported : BTreeSet (String Global)) (all old new : List Unread) (next : Unread) → old ≡ new ++ next ∷ [] →
    AreBehind reported all old → TakesOne reported all new next
takes_one reported all old new next popped behind =
    (behind.0, behind.1 ∙ ap (λ us. us ++ behind.0) popped ∙ append_assoc new (next ∷ []) behind.0, behind.2)

-- ---- calls of `next`, one after the other

-- ---- whole walks

-- The paths are given once, and none of them was reported.
abbrev AreNew : Walk → List (List ℕ) → Type 0
AreNew walk paths = (are_distinct paths ≡ true) × ((path : List ℕ) → is_among paths path ≡ true → contains_text walk.reported path ≡ false)

one_new : (walk : Walk) (own : List ℕ) (paths : List (List ℕ)) → contains_text walk.reported own ≡ false →
    ((path : List ℕ) → is_among paths path ≡ true → (bytes_eq own path || contains_text walk.reported path) ≡ false) →
    are_distinct paths ≡ true → AreNew walk (own ∷ paths)
one_new walk own paths new later distinct =
    let apart : is_among paths own ≡ false =
    false_from_ne_true _ (λ there. true≢false (sym (ap (λ b. b || contains_text walk.reported own) (same_eq own)) ∙ later own there)) in
    (ap (λ b. not b && are_distinct paths) apart ∙ distinct, λ path there. by_first path (bytes_eq own path) refl there)
  where
    by_first : (path : List ℕ) (is : Bool) → bytes_eq own path ≡ is → is_among (own ∷ paths) path ≡ true →
        contains_text walk.reported path ≡ false
    by_first path true is there = subst (λ p. contains_text walk.reported p ≡ false) ((bytes_decides own path).0 is) new
    by_first path false is there =
        sym (ap (λ b. b || contains_text walk.reported path) is)
        ∙ later path (sym (ap (λ b. b || is_among paths path) is) ∙ there)

new_paths : (items : TreeItems) (walk : Walk) (given : List Found) → GivesToEnd items walk given → AreNew walk (paths_reported given)
new_paths items walk [] to_end = (refl, λ path there. absurd (true≢false (sym there)))
new_paths items walk (found.File file ∷ others) to_end =
    let rest = new_paths items to_end.0 others to_end.3 in
    (rest.0, λ path there. sym (to_end.2 path) ∙ rest.1 path there)
new_paths items walk (found.Unread unread ∷ others) to_end =
    let rest = new_paths items to_end.0 others to_end.3 in
    one_new walk (string_bytes unread.path) (paths_reported others) to_end.2.0
    (λ path there. sym (to_end.2.1 path) ∙ rest.1 path there) rest.0

pub reports_once : WalksReportOnce
reports_once items walk given to_end = (new_paths items walk given to_end).0
