-- The first file of a walk is before all others.
use Rattle.std.specs.Prelude.{Option, Some, None}
use Rattle.std.specs.Path.{slash}
use Rattle.std.specs.List.{AllByRecursion}
use Rattle.std.specs.Ordering.{is_lt}
use Rattle.std.proofs.lemmas.Cmp.{nat_list_cmp_total, tied_itself}
use Rattle.cs_tree.specs.NameOrder.{bytes_cmp}
use Rattle.std.proofs.Common.{◌≡◌, refl, ℕ, Bool, true, false, ◌&&◌, List, [], ◌∷◌, ◌++◌, map, drop, reverse, sym, ap, subst, ◌∙◌, inl, inr, append_assoc}
use Rattle.std.proofs.lemmas.List.{reverse-append, reverse-reverse, append-nil}
use Rattle.std.proofs.lemmas.Bool.{true≢false, and_parts, and_from, or_cases}
use Rattle.cs_tree.specs.NamesAscending.{are_ascending}
use Rattle.cs_tree.specs.Elements.{is_among, is_element}
use Rattle.cs_tree.specs.Clean.{with_slashes}
use Rattle.cs_listing.specs.Listing.{Settings, TreeItems, has_more, is_listed, after}
use Rattle.cs_listing.specs.FolderReads.{key_of}
use Rattle.cs_listing.specs.Walk.{path_text, comes_after, is_to_come, TakesFirst, GivesInOrder, AreAround, keys_in, keys_of_all}
use Rattle.cs_listing.specs.declared.walk.Frame.{Frame}
use Rattle.cs_listing.proofs.KeyLemmas.{IsBefore, Follows, prefix_before, keys_before, first_before}
use Rattle.cs_listing.proofs.WalkLemmas.{reverse_cons, after_is, kept, taken}

-- ---- the text of a path

ws_append : (xs ys : List (List ℕ)) → with_slashes (xs ++ ys) ≡ with_slashes ys ++ with_slashes xs
ws_append [] ys = sym (append-nil (with_slashes ys))
ws_append (x ∷ xs) ys = ap (λ t. t ++ slash ∷ x) (ws_append xs ys) ∙ append_assoc (with_slashes ys) (with_slashes xs) (slash ∷ x)

pub text_below : (above rest : List (List ℕ)) → path_text (reverse above ++ rest) ≡ with_slashes above ++ path_text rest
text_below above rest =
    ap with_slashes (reverse-append (reverse above) rest ∙ ap (λ a. reverse rest ++ a) (reverse-reverse above))
    ∙ ws_append (reverse rest) above

text_first : (name : List ℕ) (path : List (List ℕ)) → path_text (name ∷ path) ≡ slash ∷ (name ++ path_text path)
text_first name path = ap with_slashes (reverse_cons name path) ∙ ws_append (reverse path) (name ∷ [])

text_follows : (path : List (List ℕ)) → Follows (has_more path) (path_text path)
text_follows [] = refl
text_follows (name ∷ path) = (name ++ path_text path, text_first name path)

-- the text of a file of a folder
pub file_text : (above : List (List ℕ)) (name : List ℕ) → path_text (reverse above ++ name ∷ []) ≡ with_slashes (name ∷ above)
file_text above name = text_below above (name ∷ [])

-- ---- what comes after a key

module _ (settings : Settings) (items : TreeItems) where
  in_folder : (above : List (List ℕ)) (f : Bool) (name rest : List ℕ) (keys path : List (List ℕ)) (left : Option (List (List ℕ))) →
      is_element name ≡ true → Follows f rest → are_ascending (key_of f name ∷ keys) ≡ true → after (reverse above) path ≡ left →
      comes_after settings items above keys left ≡ true → IsBefore (with_slashes above ++ slash ∷ (name ++ rest)) (path_text path)
  in_folder above f name rest keys path None good follows ascend is comes = absurd (true≢false (sym comes))
  in_folder above f name rest keys path (Some []) good follows ascend is comes = absurd (true≢false (sym comes))
  in_folder above f name rest keys path (Some (first ∷ more)) good follows ascend is comes =
      let parts = and_parts (is_element first) (is_among keys (key_of (has_more more) first) && is_listed settings items (first ∷ above) more) comes in
      let among = and_parts (is_among keys (key_of (has_more more) first)) (is_listed settings items (first ∷ above) more) parts.1 in
      let text = ap path_text (after_is (reverse above) path (first ∷ more) is) ∙ text_below above (first ∷ more)
      ∙ ap (λ t. with_slashes above ++ t) (text_first first more) in
      subst (IsBefore (with_slashes above ++ slash ∷ (name ++ rest))) (sym text)
      (prefix_before (with_slashes above) (slash ∷ (name ++ rest)) (slash ∷ (first ++ path_text more))
      (prefix_before (slash ∷ []) (name ++ rest) (first ++ path_text more)
      (keys_before f (has_more more) name first good parts.0
      (first_before (key_of f name) (key_of (has_more more) first) keys ascend among.0) rest (path_text more) follows (text_follows more))))

  around : (above : List (List ℕ)) (frames : List Frame) (rest : List ℕ) (path : List (List ℕ)) → AreAround items above frames →
      is_to_come settings items (drop 1 above) (keys_of_all frames) path ≡ true →
      IsBefore (with_slashes above ++ slash ∷ rest) (path_text path)
  around above [] rest path are comes = absurd (true≢false (sym comes))
  around [] (frame ∷ frames) rest path are comes = absurd are
  around (name ∷ above) (frame ∷ frames) rest path are comes =
      let text = sym (append_assoc (with_slashes above) (slash ∷ name) (slash ∷ rest)) in
      elim (or_cases (comes_after settings items above (keys_in frame) (after (reverse above) path))
      (is_to_come settings items (drop 1 above) (keys_of_all frames) path) comes) [
        | inl here ↦ subst (λ t. IsBefore t (path_text path)) text
            (in_folder above true name (slash ∷ rest) (keys_in frame) path (after (reverse above) path) are.0 (rest, refl)
            are.1.ascend refl here)
        | inr there ↦ subst (λ t. IsBefore t (path_text path)) text (around above frames (name ++ slash ∷ rest) path are.2 there)
      ]

  -- the next entry is a file
  pub takes_file : (above : List (List ℕ)) (name : List ℕ) (keys : List (List ℕ)) (frames : List Frame) → is_element name ≡ true →
      is_listed settings items (name ∷ above) [] ≡ true → are_ascending (name ∷ keys) ≡ true → AreAround items above frames →
      TakesFirst (is_to_come settings items above ((name ∷ keys) ∷ keys_of_all frames))
      (is_to_come settings items above (keys ∷ keys_of_all frames)) (reverse above ++ name ∷ [])
  takes_file above name keys frames good listed ascend are = record {
    taken = taken settings items above name keys good (keys_of_all frames) listed;
    kept = λ other apart. kept settings items above name keys good (keys_of_all frames) other apart;
    first = λ other comes.
        subst (λ t. IsBefore t (path_text other)) (sym (file_text above name))
        (elim (or_cases (comes_after settings items above keys (after (reverse above) other))
        (is_to_come settings items (drop 1 above) (keys_of_all frames) other) comes) [
          | inl here ↦ subst (λ n. IsBefore (with_slashes above ++ slash ∷ n) (path_text other)) (append-nil name)
              (in_folder above false name [] keys other (after (reverse above) other) good refl ascend refl here)
          | inr there ↦ around above frames name other are there
        ]);
  }

-- ---- whole walks

not_before_itself : (a : List ℕ) → IsBefore a a → ⊥
not_before_itself a before = true≢false (sym before ∙ ap is_lt (tied_itself nat_list_cmp_total a))

all_more : (left later : List (List ℕ) → Bool) (path : List (List ℕ)) (paths : List (List (List ℕ))) → TakesFirst left later path →
    AllByRecursion (λ p. later p ≡ true) paths → AllByRecursion (λ p. left p ≡ true) paths
all_more left later path [] takes all = tt
all_more left later path (next ∷ paths) takes all = (
  sym (takes.kept next (λ same. not_before_itself (path_text path)
      (subst (λ p. IsBefore (path_text path) (path_text p)) same (takes.first next all.0)))) ∙ all.0,
  all_more left later path paths takes all.1,
)

ascends_more : (left later : List (List ℕ) → Bool) (path : List (List ℕ)) (paths : List (List (List ℕ))) → TakesFirst left later path →
    AllByRecursion (λ p. later p ≡ true) paths → are_ascending (map path_text paths) ≡ true →
    are_ascending (path_text path ∷ map path_text paths) ≡ true
ascends_more left later path [] takes all up = refl
ascends_more left later path (next ∷ paths) takes all up = and_from (is_lt (bytes_cmp (path_text path) (path_text next))) _ (takes.first next all.0) up

pub gives_in_order : GivesInOrder
gives_in_order left [] none = (refl, tt, λ other all. none other)
gives_in_order left (path ∷ paths) gives =
    let rest = gives_in_order gives.0 paths gives.2 in (
      ascends_more left gives.0 path paths gives.1 rest.1 rest.0,
      (gives.1.taken, all_more left gives.0 path paths gives.1 rest.1),
      λ other all. sym (gives.1.kept other (λ same. all.0 (sym same))) ∙ rest.2 other all.1,
    )
