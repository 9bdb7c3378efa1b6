-- The model of a `Builder`, and one more name.
use Rattle.std.proofs.Common.{◌≡◌, ℕ, ◌+◌, ◌<◌, ◌≤◌, ◌^◌, true, List, [], ◌∷◌, ◌++◌, length, refl, sym, ap, subst, ◌∙◌, arith}
use Rattle.cs_tree.proofs.GatherLemmas.{all-append}
use Rattle.cs_tree.specs.NameOrder.{bytes_cmp}
use Rattle.cs_tree.specs.NamesAscending.{are_ascending}
use Rattle.cs_index.specs.AscendingIds.{AscendWithin, next_after}
use Rattle.cs_index.specs.PostingLists.{entries_of}
use Rattle.cs_trigram.specs.TrigramSets.{IsTrigramSet}
use Rattle.std.proofs.lemmas.Bool.{and_parts, and_from}
use Rattle.std.proofs.lemmas.List.{length_push}
use Rattle.std.specs.List.{AllByRecursion}
use Rattle.std.specs.Option.{option_map_or}
use Rattle.std.specs.Ordering.{is_lt}
use Rattle.cs_index.specs.Encoding.{Entry, PostingList, encoding_of, names_of, IsString}
use Rattle.cs_index.specs.Indexable.{IsIndexable}
use Rattle.cs_index.specs.Built.{Built, IsBuilt, with_entry, is_above}
use Rattle.cs_index.proofs.writer.StringsPush.{last_of, last_is}

pub names_entries : (first : ℕ) (names : List (List ℕ)) (ps : List PostingList) → names_of (entries_of first names ps) ≡ names
names_entries first [] ps = refl
names_entries first (n ∷ names) ps = ap (λ rest. n ∷ rest) (names_entries (first + 1) names ps)

-- ---- ascending names

-- ascending names with one more, greater than the last
ascends_last : (names : List (List ℕ)) (name : List ℕ) → are_ascending names ≡ true →
    option_map_or (λ last. is_lt (bytes_cmp last name)) (last_of names) true ≡ true → are_ascending (names ++ name ∷ [])
    ≡ true
ascends_last [] name up above = refl
ascends_last (one ∷ []) name up above = and_from (is_lt (bytes_cmp one name)) true above refl
ascends_last (one ∷ two ∷ names) name up above =
    let both = and_parts (is_lt (bytes_cmp one two)) (are_ascending (two ∷ names)) up in
    and_from (is_lt (bytes_cmp one two)) (are_ascending (two ∷ names ++ name ∷ [])) both.0 (ascends_last (two ∷ names) name both.1 above)

pub ascends_push : (names : List (List ℕ)) (name : List ℕ) → are_ascending names ≡ true → is_above names name ≡ true →
    are_ascending (names ++ name ∷ []) ≡ true
ascends_push names name up above = ascends_last names name up
    (ap (λ o. option_map_or (λ last. is_lt (bytes_cmp last name)) o true) (sym (last_is names)) ∙ above)

-- ---- one more name

pub all_push : {X : Type 0} (P : X → Type 0) (xs : List X) (x : X) → AllByRecursion P xs → P x → AllByRecursion P (xs ++ x ∷ [])
all_push P xs x all h = all-append P xs (x ∷ []) all (h, tt)

pub names_push : (es : List Entry) (entry : Entry) → names_of (es ++ entry ∷ []) ≡ names_of es ++ entry.0 ∷ []
names_push [] entry = refl
names_push (e ∷ es) entry = ap (λ rest. e.0 ∷ rest) (names_push es entry)

pub built_added : (built : Built) (name trigrams : List ℕ) → IsBuilt built → IsString name →
    is_above (names_of built.entries) name ≡ true → IsTrigramSet trigrams → length built.entries < 1073741824 →
    IsBuilt (with_entry built name trigrams)
built_added built name trigrams is text above set bound =
    let more : length (built.entries ++ (name, trigrams) ∷ []) ≡ length built.entries + 1 = length_push built.entries (name, trigrams) in
    record {
      paths = is.paths;
      each_path = is.each_path;
      each_name = subst (AllByRecursion IsString) (sym (names_push built.entries (name, trigrams)))
          (all_push IsString (names_of built.entries) name is.each_name text);
      ascend = ap are_ascending (names_push built.entries (name, trigrams)) ∙ ascends_push (names_of built.entries) name is.ascend above;
      sets = all_push (λ (entry : Entry). IsTrigramSet entry.1) built.entries (name, trigrams) is.sets set;
      bound = omega (arith, more, bound);
    }

-- ---- what is built can be encoded

sets_below : (es : List Entry) → AllByRecursion (λ (entry : Entry). IsTrigramSet entry.1) es →
    AllByRecursion (λ (entry : Entry). AllByRecursion (λ g. g < 16777215) entry.1) es
sets_below [] all = tt
sets_below (e ∷ es) all = (all.0.1, sets_below es all.1)

pub built_indexable : (built : Built) (bytes : List ℕ) → IsBuilt built → bytes ≡ encoding_of built.paths built.entries →
    length bytes < 2 ^ 32 → IsIndexable built.paths built.entries
built_indexable built bytes is written short = record {
  each_path = is.each_path;
  each_name = is.each_name;
  trigrams = sets_below built.entries is.sets;
  bound = omega (arith, is.bound);
  short = subst (λ (bs : List ℕ). length bs < 2 ^ 32) written short;
}

-- ---- the posting lists of one more name

pub rise_further : (name_count next : ℕ) (ids : List ℕ) → AscendWithin name_count next ids → AscendWithin (name_count + 1) next ids
rise_further name_count next [] up = tt
rise_further name_count next (id ∷ ids) up = (up.0, omega (arith, up.1), rise_further name_count (id + 1) ids up.2)

pub rise_next : (name_count next : ℕ) (ids : List ℕ) → AscendWithin name_count next ids → next ≤ name_count →
    next_after next ids ≤ name_count
rise_next name_count next [] up h = h
rise_next name_count next (id ∷ ids) up h = rise_next name_count (id + 1) ids up.2 (omega (arith, up.1))
