-- What a walk finds is valid content, and the walked paths cover its names.
use Rattle.std.proofs.Common.{◌≡◌, ◌≢◌, ℕ, ◌+◌, ◌<◌, Bool, true, false, cond, not, eqb, leb, ◌&&◌, List, [], ◌∷◌, ◌++◌, length, drop, refl, sym, ap, subst, ◌∙◌, inl, inr, Option, Some, None, arith, length-append, append_assoc, IsUtf8, bytes_eq}
use Rattle.cs_tree.specs.Covering.{Covers, itself, below, root}
use Rattle.cs_history.proofs.Common.{child, lists, is_element, ListsElements, IsTree, last_element, Paths, IsString, true≢false, cases_Bool, and_parts, or_cases, or_parts, not-true, eqb-false, both_ways, drop_at, slash, bytes_decides, AllByRecursion, list_any, list_all, covers, is_covered, Snapshot, Item, folder, file, item_at, elements, longest_path, elements_under, descends, reaches, is_reachable, is_excluded, reachable_files, read_item, some_member, get-found, found_under, text_trigrams, IsContent, NoNul, none-some}
use Rattle.std.specs.FinMap as map
use Rattle.cs_tree.specs.PathSet as set
use Rattle.cs_tree.proofs.CoverLemmas.{covers_says}
use Rattle.cs_trigram.specs.declared.scan.Limits.{Limits}
use Rattle.cs_history.proofs.PathElementLemmas.{IsPart, part_appended, part_empty, text_from_parts}
use Rattle.cs_history.proofs.TextLemmas.{text_set}
use Rattle.std.proofs.lemmas.Bool.{true_from_ne_false}

-- ---- strings

pub string_part : (text : List ℕ) → IsString text → IsPart text
string_part text h = record { no_nul = h.1; utf8 = h.2 }

pub part_string : (text : List ℕ) → text ≢ [] → IsPart text → IsString text
part_string text filled h = (filled, h.no_nul, h.utf8)

-- ---- names that a folder lists

no_zero : (name : List ℕ) → list_any (λ b. eqb b 0) name ≡ false → NoNul name
no_zero [] h = tt
no_zero (b ∷ name) h =
    let parts = or_parts (eqb b 0) (list_any (λ c. eqb c 0) name) h in
    (let apart = eqb-false b 0 parts.0 in positive b apart, no_zero name parts.1)
  where
    positive : (b : ℕ) → (b ≡ 0 → ⊥) → 0 < b
    positive b h = omega (arith, h)

name_part : (name : List ℕ) → is_element name ≡ true → IsUtf8 name → IsPart name
name_part name h utf8 =
    let parts = and_parts (not (bytes_eq name [])) (not (list_any (λ b. eqb b slash) name) && not (list_any (λ b. eqb b 0) name)) h in
    let more = and_parts (not (list_any (λ b. eqb b slash) name)) (not (list_any (λ b. eqb b 0) name)) parts.1 in
    record { no_nul = no_zero name (not-true _ more.1); utf8 = utf8 }

listed_part : (names : List (List ℕ)) (name : List ℕ) → list_all is_element names ≡ true → AllByRecursion IsUtf8 names →
    list_any (λ listed. bytes_eq listed name) names ≡ true → IsPart name
listed_part [] name h utf8 there = absurd (true≢false (sym there))
listed_part (x ∷ names) name h utf8 there =
    let parts = and_parts (is_element x) (list_all is_element names) h in
    elim (or_cases (bytes_eq x name) (list_any (λ listed. bytes_eq listed name) names) there) [
      | inl here ↦ subst IsPart ((bytes_decides x name).0 here) (name_part x parts.0 utf8.0)
      | inr later ↦ listed_part names name parts.1 utf8.1 later
    ]

lists_part : (item : Item) (name : List ℕ) → ListsElements item → lists item name ≡ true → IsPart name
lists_part (folder names unnamed) name h there = listed_part names name (and_parts (list_all is_element names) _ h.0).0 h.1 there
lists_part _ name h there = absurd (true≢false (sym there))

-- ---- names that a walk reaches

leads_parts : (tree : Snapshot) (at : List ℕ) (names : List (List ℕ)) → IsTree tree → descends tree at names ≡ true →
    AllByRecursion IsPart names
leads_parts tree at [] is h = tt
leads_parts tree at (name ∷ names) is h =
    let a = and_parts (not (is_excluded name)) _ h in
    let b = and_parts (leb (length at) longest_path) _ a.1 in
    let c = and_parts (lists (item_at tree at) name) _ b.1 in
    (lists_part (item_at tree at) name (is at) c.0, leads_parts tree (child at name) names is c.1)

-- the part of a name after a path and a slash, and the part after the root
rest_part : (path name rest : List ℕ) (tree : Snapshot) → IsTree tree → descends tree path (elements_under path name)
    ≡ true → bytes_eq path name ≡ false → name ≡ path ++ slash ∷ rest → bytes_eq path (slash ∷ []) ≡ false → IsPart rest
rest_part path name rest tree is h apart e inner =
    let under : elements_under path name ≡ elements rest =
    ap (λ t. cond t [] (elements (drop (cond (bytes_eq path (slash ∷ [])) 1 (length path + 1)) name))) apart
    ∙ ap (λ t. elements (drop (cond t 1 (length path + 1)) name)) inner
    ∙ ap (λ n. elements (drop (length path + 1) n)) (e ∙ sym (append_assoc path (slash ∷ []) rest))
    ∙ ap elements (drop_at (path ++ slash ∷ []) rest (length path + 1) (length-append path (slash ∷ []))) in
    text_from_parts rest (leads_parts tree path (elements rest) is (subst (λ es. descends tree path es ≡ true) under h))

root_part : (path name rest : List ℕ) (tree : Snapshot) → IsTree tree → descends tree path (elements_under path name)
    ≡ true → bytes_eq path name ≡ false → name ≡ slash ∷ rest → bytes_eq path (slash ∷ []) ≡ true → IsPart rest
root_part path name rest tree is h apart e outer =
    let under : elements_under path name ≡ elements rest =
    ap (λ t. cond t [] (elements (drop (cond (bytes_eq path (slash ∷ [])) 1 (length path + 1)) name))) apart
    ∙ ap (λ t. elements (drop (cond t 1 (length path + 1)) name)) outer
    ∙ ap (λ n. elements (drop 1 n)) e in
    text_from_parts rest (leads_parts tree path (elements rest) is (subst (λ es. descends tree path es ≡ true) under h))

reached_string : (tree : Snapshot) (path name : List ℕ) → IsTree tree → IsString path → reaches tree path name ≡ true → IsString name
reached_string tree path name is text h =
    let a = and_parts (covers path name) _ h in
    let b = and_parts (not (is_excluded (last_element path))) (descends tree path (elements_under path name)) a.1 in
    elim (cases_Bool (bytes_eq path name)) [
      | inl here ↦ subst IsString ((bytes_decides path name).0 here) text
      | inr apart ↦ by_covers b.1 apart (covers_says path name a.0)
    ]
  where
    longer : (prefix rest : List ℕ) → prefix ++ slash ∷ rest ≢ []
    longer [] rest e = cc
    longer (x ∷ prefix) rest e = cc

    by_root : descends tree path (elements_under path name) ≡ true → bytes_eq path name ≡ false → (rest : List ℕ) →
        bytes_eq path (slash ∷ []) ≡ true → name ≡ slash ∷ rest → IsString name
    by_root h apart rest outer e = subst IsString (sym e)
        (part_string (slash ∷ rest) (longer [] rest)
        (part_appended [] rest part_empty (root_part path name rest tree is h apart e outer)))

    by_covers : descends tree path (elements_under path name) ≡ true → bytes_eq path name ≡ false → Covers path name → IsString name
    by_covers h apart (itself e) = absurd (both_ways (bytes_eq path name) apart ((bytes_decides path name).1 e))
    by_covers h apart (root rest e f) = by_root h apart rest ((bytes_decides path (slash ∷ [])).1 e) f
    by_covers h apart (below rest e) =
        elim (cases_Bool (bytes_eq path (slash ∷ []))) [
          | inl outer ↦ by_root h apart (slash ∷ rest) outer (e ∙ ap (λ p. p ++ slash ∷ rest) ((bytes_decides path (slash ∷ [])).0 outer))
          | inr inner ↦ subst IsString (sym e) (part_string (path ++ slash ∷ rest) (longer path rest)
              (part_appended path rest (string_part path text) (rest_part path name rest tree is h apart e inner)))
        ]

-- ---- files that a walk finds

-- a file at a reachable name
record IsFound {X : Type 0} (read : List ℕ → Option X) (tree : Snapshot) (paths : Paths) (name : List ℕ) (x : X) : Type 0 where
  reached : is_reachable tree paths name ≡ true
  reads : read_item read (item_at tree name) ≡ Some x

found_says : {X : Type 0} (read : List ℕ → Option X) (tree : Snapshot) (paths : Paths) (name : List ℕ) (x : X) →
    map.get (reachable_files read tree paths) name ≡ Some x → IsFound read tree paths name x
found_says read tree paths name x h =
    by_test (is_reachable tree paths name) (leb (length name) longest_path) refl (sym (get-found read tree paths name) ∙ h)
  where
    by_test : (r s : Bool) → is_reachable tree paths name ≡ r → cond (r && s) (read_item read (item_at tree name)) None
        ≡ Some x → IsFound read tree paths name x
    by_test true true e h = record { reached = e; reads = h }
    by_test true false e h = cc
    by_test false s e h = cc

read_file : {X : Type 0} (read : List ℕ → Option X) (item : Item) (x : X) → read_item read item ≡ Some x →
    (bytes : List ℕ) × (read bytes ≡ Some x)
read_file read (folder names unnamed) x h = cc
read_file read (file bytes) x h = (bytes, h)
read_file read _ x h = cc

-- each path of the set is a string
abbrev pub AreStrings : Paths → Type 0
AreStrings paths = (path : List ℕ) → set.contains paths path ≡ true → IsString path

pub found_string : {X : Type 0} (read : List ℕ → Option X) (tree : Snapshot) (paths : Paths) (name : List ℕ) (x : X) →
    IsTree tree → AreStrings paths → map.get (reachable_files read tree paths) name ≡ Some x → IsString name
found_string read tree paths name x is strings h =
    let member = some_member paths (λ p. reaches tree p name) (found_says read tree paths name x h).reached in
    reached_string tree member.path name is (strings member.path member.member) member.accepts

pub found_content : (most : Limits) (tree : Snapshot) (paths : Paths) → IsTree tree → AreStrings paths →
    IsContent paths (reachable_files (text_trigrams most) tree paths)
found_content most tree paths is strings = record {
  paths_are = strings;
  names_are = λ name trigrams h. found_string (text_trigrams most) tree paths name trigrams is strings h;
  sets_are = λ name trigrams h.
      let read = read_file (text_trigrams most) (item_at tree name) trigrams
      (found_says (text_trigrams most) tree paths name trigrams h).reads in
      text_set most read.0 trigrams read.1;
}

pub found_lies : {X : Type 0} (read : List ℕ → Option X) (tree : Snapshot) (paths : Paths) (name : List ℕ) (x : X) →
    map.get (reachable_files read tree paths) name ≡ Some x → is_covered paths name ≡ true
found_lies read tree paths name x h = true_from_ne_false (is_covered paths name)
    (λ outside. none-some x (sym (found_under read tree paths name outside) ∙ h))
