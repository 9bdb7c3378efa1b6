-- The names reachable from a path: the path itself, and those reachable from the entries of its folder.
use Rattle.std.proofs.Common.{◌≡◌, ℕ, ◌+◌, ◌<◌, Bool, true, false, not, ◌||◌, cond, List, [], ◌∷◌, ◌++◌, length, map, drop, refl, sym, ap, subst, ◌∙◌, ◌⊎◌, inl, inr, eqb, nat_le, arith, append_assoc, length-append}
use Rattle.cs_tree.specs.Covering.{Covers, itself, below, root}
use Rattle.cs_tree.specs.Folders.{stem_of, child, names_listed, lists, is_element, ListsElements, IsTree}
use Rattle.std.proofs.lemmas.Bool.{cases_Bool, eqb-true, true≢false, false_from_ne_true, and_parts, and_from, or_cases, or_left, or_right, not-true}
use Rattle.std.proofs.Math.Seq.{drop-append-add}
use Rattle.std.specs.Prelude.{filter, bytes_eq}
use Rattle.std.specs.Path.{slash}
use Rattle.std.specs.Cmp.{both_ways as same_tests}
use Rattle.std.specs.Cmp.Lexicographic.{bytes_decides}
use Rattle.std.specs.List.{list_any, list_all}
use Rattle.cs_tree.specs.Cover.{covers}
use Rattle.cs_tree.specs.Clean.{elements, longest_path}
use Rattle.cs_tree.specs.Snapshot.{Snapshot, Item, item_at, folder, file, cut, other, bad}
use Rattle.cs_tree.specs.Reachability.{elements_under, is_excluded, descends}
use Rattle.cs_tree.specs.WalkSteps.{descends_to, children, is_walked}
use Rattle.cs_tree.proofs.CoverLemmas.{covers_says, covers_from, covers_trans, covers_refl, covers_longer}
use Rattle.cs_tree.proofs.NameLemmas.{folder_covers_child, name_parts}
use Rattle.cs_tree.proofs.SplitLemmas.{NoSlash, elements-some, elements-append, elements-one, stem-other}

same_refl : (p : List ℕ) → bytes_eq p p ≡ true
same_refl p = (bytes_decides p p).1 refl

same_means : (p q : List ℕ) → bytes_eq p q ≡ true → p ≡ q
same_means p q h = (bytes_decides p q).0 h

shorter_apart : (p q : List ℕ) → length p < length q → bytes_eq p q ≡ false
shorter_apart p q l = false_from_ne_true _ (λ h. let e : length p ≡ length q = ap length (same_means p q h) in absurd (omega (arith, l, e)))

-- ---- the path of an entry

name_some : (name : List ℕ) → is_element name ≡ true → 0 < length name
name_some [] h = absurd (true≢false (sym h))
name_some (b ∷ name) h = omega arith

pub child_longer : (path name : List ℕ) → 0 < length name → length path < length (child path name)
child_longer path name some =
    elim (cases_Bool (bytes_eq path (slash ∷ []))) [
      | inl is_root ↦
          let e : path ≡ slash ∷ [] = same_means path (slash ∷ []) is_root in
          subst (λ p. length p < length (child p name)) (sym e) (at_root some)
      | inr apart ↦
          let e : length (child path name) ≡ length (path ++ slash ∷ name) = ap (λ stem. length (stem ++ slash ∷ name))
          (stem-other path apart) in
          omega (arith, e, length-append path (slash ∷ name))
    ]
  where
    at_root : 0 < length name → 1 < length (slash ∷ name)
    at_root l = omega (arith, l)

child_below_root : (path name : List ℕ) → is_element name ≡ true → bytes_eq (child path name) (slash ∷ []) ≡ false
child_below_root path name good =
    false_from_ne_true _ (λ h.
    let e : length (child path name) ≡ length (slash ∷ []) = ap length (same_means (child path name) (slash ∷ []) h) in
    absurd (omega (arith, e, name_some name good, length-append (stem_of path) (slash ∷ name))))

-- ---- the elements after a path

under_after : (p q rest : List ℕ) → q ≡ stem_of p ++ slash ∷ rest → bytes_eq p q ≡ false → elements_under p q ≡ elements rest
under_after p q rest e apart = ap (λ b. cond b [] (elements (drop (cond (bytes_eq p (slash ∷ [])) 1 (length p + 1)) q)))
    apart ∙ ap elements (after (bytes_eq p (slash ∷ [])) refl)
  where
    after : (b : Bool) → bytes_eq p (slash ∷ []) ≡ b → drop (cond b 1 (length p + 1)) q ≡ rest
    after true is = ap (drop 1) (e ∙ ap (λ t. cond t [] p ++ slash ∷ rest) is)
    after false is = ap (drop (length p + 1)) (e ∙ ap (λ t. cond t [] p ++ slash ∷ rest) is) ∙ drop-append-add p (slash ∷ rest) 1

pub under_refl : (p : List ℕ) → elements_under p p ≡ []
under_refl p = ap (λ b. cond b [] (elements (drop (cond (bytes_eq p (slash ∷ [])) 1 (length p + 1)) p))) (same_refl p)

-- a name below a path has some text after the path's stem
record After (p q : List ℕ) : Type 0 where
  rest : List ℕ
  is : q ≡ stem_of p ++ slash ∷ rest

after_covers : (p q : List ℕ) → covers p q ≡ true → bytes_eq p q ≡ false → After p q
after_covers p q h apart = says (covers_says p q h)
  where
    says : Covers p q → After p q
    says (itself e) = absurd (true≢false (sym ((bytes_decides p q).1 e) ∙ apart))
    says (below rest e) = by_root (bytes_eq p (slash ∷ [])) refl
      where
        by_root : (b : Bool) → bytes_eq p (slash ∷ []) ≡ b → After p q
        by_root true is = record {
          rest = slash ∷ rest;
          is = e
              ∙ ap (λ x. x ++ slash ∷ rest) (same_means p (slash ∷ []) is) ∙ ap (λ t. cond t [] p ++ slash ∷ slash ∷ rest)
              (sym is);
        }
        by_root false is = record { rest = rest; is = e ∙ ap (λ t. cond t [] p ++ slash ∷ rest) (sym is) }
    says (root rest f e) = record { rest = rest; is = e ∙ ap (λ t. cond t [] p ++ slash ∷ rest) (sym ((bytes_decides p (slash ∷ [])).1 f)) }

-- the first element of a text, and the text after it
data FirstElement : List ℕ → Type 0 where
  alone : (first : List ℕ) → NoSlash first → FirstElement first
  before : (first more : List ℕ) → NoSlash first → FirstElement (first ++ slash ∷ more)

first_element_of : (text : List ℕ) → FirstElement text
first_element_of [] = alone [] refl
first_element_of (b ∷ text) = by_slash (eqb b slash) refl (first_element_of text)
  where
    longer : eqb b slash ≡ false → (rest : List ℕ) → FirstElement rest → FirstElement (b ∷ rest)
    longer e _ (alone first free) = alone (b ∷ first) (ap (λ t. t || list_any (λ x. eqb x slash) first) e ∙ free)
    longer e _ (before first more free) = before (b ∷ first) more (ap (λ t. t || list_any (λ x. eqb x slash) first) e ∙ free)

    by_slash : (t : Bool) → eqb b slash ≡ t → FirstElement text → FirstElement (b ∷ text)
    by_slash true e rest = subst (λ x. FirstElement (x ∷ text)) (sym (eqb-true b slash e)) (before [] text refl)
    by_slash false e rest = longer e text rest

elements-before : (first more : List ℕ) → NoSlash first → elements (first ++ slash ∷ more) ≡ first ∷ elements more
elements-before first more free = elements-append first more ∙ ap (λ es. es ++ elements more) (elements-one first free)

-- the first step to a name below an entry is the entry's name
pub under_child : (p m q : List ℕ) → is_element m ≡ true → covers (child p m) q ≡ true → elements_under p q
    ≡ m ∷ elements_under (child p m) q
under_child p m q good h = says (covers_says (child p m) q h)
  where
    short : length p < length (child p m)
    short = child_longer p m (name_some m good)

    apart : bytes_eq p q ≡ false
    apart = elim (covers_longer (child p m) q h) [
      | inl e ↦ shorter_apart p q (subst (λ x. length p < length x) e short)
      | inr l ↦ shorter_apart p q (omega (arith, l, short))
    ]

    says : Covers (child p m) q → elements_under p q ≡ m ∷ elements_under (child p m) q
    says (itself e) =
        under_after p q m (sym e) apart
        ∙ elements-one m (name_parts m good)
        ∙ ap (λ es. m ∷ es) (sym (subst (λ x. elements_under (child p m) x ≡ []) e (under_refl (child p m))))
    says (below r e) =
        let whole : q ≡ stem_of p ++ slash ∷ (m ++ slash ∷ r) = e ∙ append_assoc (stem_of p) (slash ∷ m) (slash ∷ r) in
        let more : length q ≡ length (child p m ++ slash ∷ r) = ap length e in
        under_after p q (m ++ slash ∷ r) whole apart
        ∙ elements-before m r (name_parts m good)
        ∙ ap (λ es. m ∷ es) (sym (under_after (child p m) q r
        (e ∙ ap (λ x. x ++ slash ∷ r) (sym (stem-other (child p m) (child_below_root p m good))))
        (shorter_apart (child p m) q (omega (arith, more, length-append (child p m) (slash ∷ r))))))
    says (root r f e) = absurd (true≢false (sym ((bytes_decides (child p m) (slash ∷ [])).1 f) ∙ child_below_root p m good))

-- a name below a path is below the entry that its first element names
covers_first : (p q first : List ℕ) (later : List (List ℕ)) → covers p q ≡ true → bytes_eq p q ≡ false →
    is_element first ≡ true → elements_under p q ≡ first ∷ later → covers (child p first) q ≡ true
covers_first p q first later h apart good e =
    let after = after_covers p q h apart in
    by_first after.rest (first_element_of after.rest) after.is (sym (under_after p q after.rest after.is apart) ∙ e)
  where
    head : (x y : List ℕ) (xs ys : List (List ℕ)) → x ∷ xs ≡ y ∷ ys → x ≡ y
    head x y xs ys h = cc h

    by_first : (rest : List ℕ) → FirstElement rest → q ≡ stem_of p ++ slash ∷ rest → elements rest ≡ first ∷ later →
        covers (child p first) q ≡ true
    by_first rest (alone text free) is es =
        let named : text ≡ first = head text first [] later (sym (elements-one text free) ∙ es) in
        covers_from (child p first) q (itself (ap (child p) (sym named) ∙ sym is))
    by_first rest (before text more free) is es =
        let named : text ≡ first = head text first (elements more) later (sym (elements-before text more free) ∙ es) in
        covers_from (child p first) q (below more (is ∙ ap (λ x. stem_of p ++ slash ∷ (x ++ slash ∷ more)) named
        ∙ sym (append_assoc (stem_of p) (slash ∷ first) (slash ∷ more))))

-- ---- one step down

listed_good : (names : List (List ℕ)) (m : List ℕ) → list_all is_element names ≡ true →
    list_any (λ l. bytes_eq l m) names ≡ true → is_element m ≡ true
listed_good [] m all h = absurd (true≢false (sym h))
listed_good (x ∷ names) m all h =
    let parts = and_parts (is_element x) (list_all is_element names) all in
    elim (or_cases (bytes_eq x m) _ h) [
      | inl here ↦ subst (λ n. is_element n ≡ true) (same_means x m here) parts.0
      | inr there ↦ listed_good names m parts.1 there
    ]

item_good : (item : Item) (m : List ℕ) → ListsElements item → lists item m ≡ true → is_element m ≡ true
item_good (folder names unnamed) m good h = listed_good names m (and_parts (list_all is_element names) _ good.0).0 h
item_good (file bytes) m good h = absurd (true≢false (sym h))
item_good (cut bytes) m good h = absurd (true≢false (sym h))
item_good other m good h = absurd (true≢false (sym h))
item_good (bad fault) m good h = absurd (true≢false (sym h))

pub listed_name : (tree : Snapshot) (path name : List ℕ) → IsTree tree → lists (item_at tree path) name ≡ true → is_element name ≡ true
listed_name tree path name model h = item_good (item_at tree path) name (model path) h

-- a folder within the limit that lists a name which is not excluded
pub record Step (tree : Snapshot) (path name : List ℕ) : Type 0 where
  pub kept : is_excluded name ≡ false
  pub short : nat_le (length path) longest_path ≡ true
  pub listed : lists (item_at tree path) name ≡ true

pub record Onward (tree : Snapshot) (p q : List ℕ) : Type 0 where
  pub name : List ℕ
  pub step : Step tree p name
  pub under : elements_under p q ≡ name ∷ elements_under (child p name) q
  pub descends_on : descends_to tree (child p name) q ≡ true

pub descends_refl : (tree : Snapshot) (p : List ℕ) → descends_to tree p p ≡ true
descends_refl tree p = and_from _ _ (covers_refl p) (ap (descends tree p) (under_refl p))

pub descends_on_from : (tree : Snapshot) (p q : List ℕ) → IsTree tree → descends_to tree p q ≡ true →
    (bytes_eq p q ≡ true) ⊎ Onward tree p q
descends_on_from tree p q model h =
    elim (cases_Bool (bytes_eq p q)) [
      | inl tied ↦ inl tied
      | inr apart ↦ inr (by_elements apart (elements_under p q) refl)
    ]
  where
    parts : (covers p q ≡ true) × (descends tree p (elements_under p q) ≡ true)
    parts = and_parts (covers p q) _ h

    nothing : (x : List ℕ) (xs : List (List ℕ)) → x ∷ xs ≡ [] → ⊥
    nothing x xs e = cc e

    none_left : bytes_eq p q ≡ false → elements_under p q ≡ [] → ⊥
    none_left apart e =
        let after = after_covers p q parts.0 apart in
        let some = elements-some after.rest in
        nothing some.first some.later (sym some.is ∙ sym (under_after p q after.rest after.is apart) ∙ e)

    by_elements : bytes_eq p q ≡ false → (es : List (List ℕ)) → elements_under p q ≡ es → Onward tree p q
    by_elements apart [] e = absurd (none_left apart e)
    by_elements apart (name ∷ names) e =
        let led = and_parts (not (is_excluded name)) _ (sym (ap (descends tree p) e) ∙ parts.1) in
        let rest = and_parts (nat_le (length p) longest_path) _ led.1 in
        let last = and_parts (lists (item_at tree p) name) _ rest.1 in
        let good = listed_name tree p name model last.0 in
        let over = covers_first p q name names parts.0 apart good e in
        let on : name ∷ names ≡ name ∷ elements_under (child p name) q = sym e ∙ under_child p name q good over in
        record {
          name = name;
          step = record { kept = not-true _ led.0; short = rest.0; listed = last.0 };
          under = under_child p name q good over;
          descends_on = and_from _ _ over (sym (ap (λ es. descends tree (child p name) (drop 1 es)) on) ∙ last.1);
        }

pub descends_on_to : (tree : Snapshot) (p m q : List ℕ) → IsTree tree → Step tree p m → descends_to tree (child p m) q
    ≡ true → descends_to tree p q ≡ true
descends_on_to tree p m q model step h =
    let parts = and_parts (covers (child p m) q) _ h in
    let good = listed_name tree p m model step.listed in
    and_from _ _ (covers_trans p (child p m) q (folder_covers_child p m) parts.0)
    (ap (descends tree p) (under_child p m q good parts.0)
    ∙ and_from _ _ (ap not step.kept) (and_from _ _ step.short (and_from _ _ step.listed parts.1)))

-- ---- the names reachable from a path

walked_member : (test : List ℕ → Bool) (p m : List ℕ) (names : List (List ℕ)) → list_any (λ l. bytes_eq l m) names
    ≡ true → is_walked m ≡ true → test (child p m) ≡ true → list_any test (children p names) ≡ true
walked_member test p m [] listed good h = absurd (true≢false (sym listed))
walked_member test p m (x ∷ names) listed good h =
    elim (or_cases (bytes_eq x m) _ listed) [
      | inl here ↦
          let e : x ≡ m = same_means x m here in
          ap (λ b. list_any test (map (child p) (cond b (x ∷ filter is_walked names) (filter is_walked names)))) (ap is_walked e ∙ good)
          ∙ or_left (test (child p x)) _ (ap (λ n. test (child p n)) e ∙ h)
      | inr there ↦ later (is_walked x) (walked_member test p m names there good h)
    ]
  where
    later : (b : Bool) → list_any test (children p names) ≡ true →
        list_any test (map (child p) (cond b (x ∷ filter is_walked names) (filter is_walked names))) ≡ true
    later true rest = or_right (test (child p x)) _ rest
    later false rest = rest

-- a listed name that the walk follows and whose path satisfies the test
record WalkedTo (test : List ℕ → Bool) (p : List ℕ) (names : List (List ℕ)) : Type 0 where
  name : List ℕ
  listed : list_any (λ l. bytes_eq l name) names ≡ true
  walked : is_walked name ≡ true
  accepts : test (child p name) ≡ true

walked_some : (test : List ℕ → Bool) (p : List ℕ) (names : List (List ℕ)) → list_any test (children p names) ≡ true → WalkedTo test p names
walked_some test p [] h = absurd (true≢false (sym h))
walked_some test p (x ∷ names) h = by_walked (is_walked x) refl h (walked_some test p names)
  where
    there : WalkedTo test p names → WalkedTo test p (x ∷ names)
    there found = record {
      name = found.name;
      listed = or_right (bytes_eq x found.name) _ found.listed;
      walked =
          found.walked;
      accepts = found.accepts;
    }

    by_walked : (b : Bool) → is_walked x ≡ b →
        list_any test (map (child p) (cond b (x ∷ filter is_walked names) (filter is_walked names))) ≡ true →
        (list_any test (children p names) ≡ true → WalkedTo test p names) → WalkedTo test p (x ∷ names)
    by_walked true good found rest = elim (or_cases (test (child p x)) _ found) [
      | inl here ↦ record { name = x; listed = or_left (bytes_eq x x) _ (same_refl x); walked = good; accepts = here }
      | inr later ↦ there (rest later)
    ]
    by_walked false good found rest = there (rest found)

-- the names that a walk follows
abbrev pub onward : Snapshot → List ℕ → List (List ℕ)
onward tree path = cond (nat_le (length path) longest_path) (names_listed (item_at tree path)) []

name_walked : (m : List ℕ) → is_element m ≡ true → is_excluded m ≡ false → is_walked m ≡ true
name_walked m good kept = and_from _ _ (and_parts (not (bytes_eq m [])) _ good).0 (ap not kept)

-- whether the name is reachable from one of the paths
abbrev pub descends_by : Snapshot → List (List ℕ) → List ℕ → Bool
descends_by tree paths name = list_any (λ path. descends_to tree path name) paths

pub descends_unfolds : (tree : Snapshot) (p q : List ℕ) → IsTree tree → descends_to tree p q
    ≡ (bytes_eq p q || descends_by tree (children p (onward tree p)) q)
descends_unfolds tree p q model = same_tests _ _ down up
  where
    down : descends_to tree p q ≡ true → (bytes_eq p q || descends_by tree (children p (onward tree p)) q) ≡ true
    down h = elim (descends_on_from tree p q model h) [
      | inl tied ↦ or_left (bytes_eq p q) _ tied
      | inr on ↦
          let good = listed_name tree p on.name model on.step.listed in
          or_right (bytes_eq p q) _
          (ap (λ b. descends_by tree (children p (cond b (names_listed (item_at tree p)) [])) q) on.step.short
          ∙ walked_member (λ path. descends_to tree path q) p on.name (names_listed (item_at tree p)) on.step.listed
          (name_walked on.name good on.step.kept) on.descends_on)
    ]

    by_short : (b : Bool) → nat_le (length p) longest_path ≡ b →
        descends_by tree (children p (cond b (names_listed (item_at tree p)) [])) q ≡ true → descends_to tree p q ≡ true
    by_short true short h =
        let found = walked_some (λ path. descends_to tree path q) p (names_listed (item_at tree p)) h in
        let walked = and_parts (not (bytes_eq found.name [])) (not (is_excluded found.name)) found.walked in
        descends_on_to tree p found.name q model (record { kept = not-true _ walked.1; short = short; listed = found.listed }) found.accepts
    by_short false short h = absurd (true≢false (sym h))

    up : (bytes_eq p q || descends_by tree (children p (onward tree p)) q) ≡ true → descends_to tree p q ≡ true
    up h = elim (or_cases (bytes_eq p q) _ h) [
      | inl tied ↦ subst (λ x. descends_to tree p x ≡ true) (same_means p q tied) (descends_refl tree p)
      | inr later ↦ by_short (nat_le (length p) longest_path) refl later
    ]
