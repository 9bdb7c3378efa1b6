-- What is read from an index can be written again.
use Rattle.std.proofs.Common.{◌≡◌, ℕ, ◌+◌, ◌<◌, true, false, not, cond, eqb, ltb, List, [], ◌∷◌, length, map, take, drop, refl, sym, ap, ◌∙◌, inl, inr, arith, is_some, bytes_eq}
use Rattle.cs_merge.proofs.Common.{Paths, bytes_cmp, damage, read_ids, true≢false, and_parts, and_from, cases_Bool, ne_eqb, lt-ltb, below_all, is_sorted, AllByRecursion, list_all, is_lt, is_eq, Ordering, Less, covers, least, true_from_T, tied_same, ListEntry, three_bytes, IsString, are_paths, are_reduced, is_before, is_storable, Parts, ids_read}
use Rattle.std.specs.FinMap as map'
use Rattle.cs_tree.specs.PathSet as set
use Rattle.cs_tree.proofs.LeastLemmas.{IsLeast, least_says}
use Rattle.cs_merge.proofs.ContentLemmas.{all_paths, each_of_map}
use Rattle.cs_merge.proofs.DecodedContentLemmas.{from_list_all}

-- ---- trigram sets

pub none_read : (parts : Parts) (e : ListEntry) → e.count ≡ 0 → (ids_read parts e).ids ≡ []
none_read parts e h =
    elim (bytes_eq (take 3 (drop e.offset parts.postings)) (three_bytes e.trigram)) as
    (λ b. (cond b (read_ids (length parts.names) e.count 0 (drop (e.offset + 3) parts.postings)) damage).ids ≡ []) [
      | true ↦ ap (λ n. (read_ids (length parts.names) n 0 (drop (e.offset + 3) parts.postings)).ids) h
      | false ↦ refl
    ]

-- ---- names

pub all_above : (text : List ℕ) → AllByRecursion (λ b. 0 < b) text → list_all (λ b. ltb 0 b) text ≡ true
all_above [] all = refl
all_above (b ∷ text) all = and_from (ltb 0 b) (list_all (λ c. ltb 0 c) text) (lt-ltb 0 b all.0) (all_above text all.1)

pub storable : (text : List ℕ) → IsString text → is_storable text ≡ true
storable [] is = absurd (is.0 refl)
storable (b ∷ text) is =
    and_from (not (eqb (length (b ∷ text)) 0)) (list_all (λ c. ltb 0 c) (b ∷ text))
    (ap not (ne_eqb (length (b ∷ text)) 0 (λ e. absurd (omega (arith, e))))) (all_above (b ∷ text) is.1)

each_storable : (texts : List (List ℕ)) → AllByRecursion IsString texts → list_all is_storable texts ≡ true
each_storable [] all = refl
each_storable (text ∷ texts) all = and_from (is_storable text) (list_all is_storable texts) (storable text all.0)
    (each_storable texts all.1)

-- ---- paths

never_both : (o : Ordering) → is_lt o ≡ true → is_eq o ≡ true → ⊥
never_both Less h g = true≢false (sym g)
never_both _ h g = true≢false (sym h)

before_each : (paths : Paths) (path : List ℕ) (es : List (List ℕ × Unit {0})) → below_all bytes_cmp path es ≡ true →
    set.contains paths path ≡ true → AllByRecursion (λ (e : List ℕ × Unit {0}). IsLeast paths e.0) es →
    list_all (is_before path) (map (λ (e : List ℕ × Unit {0}). e.0) es) ≡ true
before_each paths path [] below member all = refl
before_each paths path (e ∷ es) below member all =
    let both = and_parts (is_lt (bytes_cmp path e.0)) (below_all bytes_cmp path es) below in
    let apart : not (covers path e.0) ≡ true = elim (cases_Bool (covers path e.0)) [
      | inl covering ↦ absurd (never_both (bytes_cmp path e.0) both.0
          (ap (λ p. is_eq (bytes_cmp path p)) (sym (all.0.alone path member covering)) ∙ tied_same path))
      | inr none ↦ ap not none
    ] in
    and_from (is_before path e.0) (list_all (is_before path) (map (λ (d : List ℕ × Unit {0}). d.0) es))
    (and_from (is_lt (bytes_cmp path e.0)) (not (covers path e.0)) both.0 apart)
    (before_each paths path es both.1 member all.1)

pub reduced_from : (paths : Paths) (es : List (List ℕ × Unit {0})) → is_sorted bytes_cmp es ≡ true →
    AllByRecursion (λ (e : List ℕ × Unit {0}). IsLeast paths e.0) es →
    are_reduced (map (λ (e : List ℕ × Unit {0}). e.0) es) ≡ true
reduced_from paths [] up all = refl
reduced_from paths (e ∷ es) up all =
    let both = and_parts (below_all bytes_cmp e.0 es) (is_sorted bytes_cmp es) up in
    and_from (list_all (is_before e.0) (map (λ (d : List ℕ × Unit {0}). d.0) es))
    (are_reduced (map (λ (d : List ℕ × Unit {0}). d.0) es)) (before_each paths e.0 es both.0 all.0.member all.1)
    (reduced_from paths es both.1 all.1)

least_listed : (paths : Paths) → ((path : List ℕ) → set.contains paths path ≡ true → IsString path) →
    are_paths (set.items (least paths)) ≡ true
least_listed paths are =
    and_from (list_all is_storable (set.items (least paths))) (are_reduced (set.items (least paths)))
    (each_storable (set.items (least paths)) (all_paths (least paths) (λ path h. are path (least_says paths path h).member)))
    (reduced_from paths (map'.entries (least paths)) (true_from_T _ (map'.entries_sorted (least paths)))
    (each_of_map (λ (path : List ℕ) (mark : Unit {0}). IsLeast paths path) (least paths)
    (λ path mark there. least_says paths path (ap is_some there))))

-- the paths that no other covers can be the paths of an index
pub least_stored : (paths : List (List ℕ)) → AllByRecursion IsString paths →
    are_paths (set.items (least (set.from_list paths))) ≡ true
least_stored paths all = least_listed (set.from_list paths) (from_list_all IsString paths all)
