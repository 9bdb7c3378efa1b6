-- The encoding of ascending lists is that of their set and map.
use Rattle.std.proofs.Common.{◌≡◌, ℕ, Bool, true, false, List, [], ◌∷◌, refl, sym, ap, ◌∙◌}
use Rattle.cs_tree.specs.NameOrder.{bytes_cmp}
use Rattle.cs_tree.specs.NamesAscending.{are_ascending}
use Rattle.cs_tree.proofs.NameOrderLemmas.{before_trans}
use Rattle.std.specs.Prelude.{T}
use Rattle.std.proofs.lemmas.Bool.{true≢false, and_parts, and_from}
use Rattle.std.specs.List.{list_all}
use Rattle.std.specs.FinMap as map'
use Rattle.std.specs.FinMap.Entries.{below_all}
use Rattle.std.specs.Ordering.{is_lt}
use Rattle.cs_tree.specs.PathSet as set'
use Rattle.cs_tree.proofs.ReduceLemmas.{items-from_list, strictly_from}
use Rattle.cs_tree.proofs.PathSetLemmas.{entries_in_order}
use Rattle.cs_index.specs.Encoding.{Entry, encoding, encoding_of, names_of}
use Rattle.cs_index.specs.Built.{Built, IsBuilt, are_paths, are_reduced, is_storable, path_set, file_map}
use Rattle.cs_index.proofs.names.ReducedPaths.{reduced_up, tail_up}

pub true_T : (b : Bool) → b ≡ true → T b
true_T true h = tt
true_T false h = absurd (true≢false (sym h))

pub encoding_in_order : (paths : List (List ℕ)) (entries : List Entry) → are_paths paths ≡ true →
    map'.is_sorted bytes_cmp entries ≡ true → encoding_of paths entries ≡ encoding (set'.from_list paths)
    (map'.from_entries entries)
unfolding encoding
encoding_in_order paths entries h up =
    let reduced = (and_parts (list_all is_storable paths) (are_reduced paths) h).1 in
    ap (λ ps. encoding_of ps entries) (sym (items-from_list paths (strictly_from paths (reduced_up paths reduced))))
    ∙ ap (encoding_of (set'.items (set'.from_list paths))) (sym (entries_in_order entries (true_T _ up)))

-- ---- ascending entries are in the order of a map

below_more : (name next : List ℕ) (names : List (List ℕ)) → is_lt (bytes_cmp name next) ≡ true →
    are_ascending (next ∷ names) ≡ true → are_ascending (name ∷ names) ≡ true
below_more name next [] less up = refl
below_more name next (other ∷ names) less up =
    let both = and_parts (is_lt (bytes_cmp next other)) (are_ascending (other ∷ names)) up in
    and_from (is_lt (bytes_cmp name other)) (are_ascending (other ∷ names)) (before_trans name next other less both.0) both.1

below_named : (name : List ℕ) (es : List Entry) → are_ascending (name ∷ names_of es) ≡ true → below_all bytes_cmp name es ≡ true
below_named name [] up = refl
below_named name (e ∷ es) up =
    let both = and_parts (is_lt (bytes_cmp name e.0)) (are_ascending (e.0 ∷ names_of es)) up in
    and_from (is_lt (bytes_cmp name e.0)) (below_all bytes_cmp name es) both.0
    (below_named name es (below_more name e.0 (names_of es) both.0 both.1))

pub sorted_named : (es : List Entry) → are_ascending (names_of es) ≡ true → map'.is_sorted bytes_cmp es ≡ true
sorted_named [] up = refl
sorted_named (e ∷ es) up = and_from (below_all bytes_cmp e.0 es) (map'.is_sorted bytes_cmp es) (below_named e.0 es up)
    (sorted_named es (tail_up e.0 (names_of es) up))

pub encoding_built : (built : Built) → IsBuilt built → encoding_of built.paths built.entries ≡ encoding (path_set built) (file_map built)
encoding_built built is = encoding_in_order built.paths built.entries is.paths (sorted_named built.entries is.ascend)
