-- The merge of valid contents is valid, and an encoding determines its content.
use Rattle.std.proofs.Common.{◌≡◌, ℕ, ◌+◌, ◌*◌, ◌<◌, ◌≤◌, ◌^◌, Bool, true, false, cond, ◌&&◌, List, [], ◌∷◌, length, map, refl, sym, ap, subst, ◌∙◌, inl, inr, None, Some, arith, T, is_some}
use Rattle.cs_merge.proofs.Common.{Paths, bytes_cmp, Ascends, IsTrigramSet, cases_Bool, length-map, AllByRecursion, list_any, eq_by_cmp, is_lt, is_eq, Ordering, Less, below_all, is_sorted, find, tied_is, tied_same, same_set, Files, Entry, encoding_of, names_of, postings_of, IsString, Parts, files_read, decoding_is_unique, merge_files, merge_paths, EachFile, IsContent, LieUnder, none-some}
use Rattle.std.specs.FinMap as map'
use Rattle.cs_tree.specs.PathSet as set
use Rattle.cs_index.specs.Encoding.{encoding}
use Rattle.cs_index.specs.Decoding.{DecodesAs}
use Rattle.cs_index.specs.Indexable.{IsIndexable}
use Rattle.cs_index.specs.Roundtrip.{parts_written}
use Rattle.cs_index.proofs.encoding.EncodingDecodes.{encoding_decodes}
use Rattle.cs_index.proofs.encoding.EncodingOpens.{encoding_has}
use Rattle.cs_merge.proofs.MergeLemmas.{merged_from, path_from, covered_left, covered_right}
use Rattle.cs_index.proofs.writer.WrittenSteps.{names_within}

-- ---- merging

pub content_merged : (p q : Paths) (f g : Files) → IsContent p f → IsContent q g → IsContent (merge_paths p q) (merge_files q f g)
content_merged p q f g a b = record {
  paths_are = λ path h. elim (path_from p q path h) [ inl here ↦ a.paths_are path here | inr there ↦ b.paths_are path there ];
  names_are = λ name trigrams h. elim (merged_from q f g name trigrams h)
      [ inl here ↦ b.names_are name trigrams here | inr there ↦ a.names_are name trigrams there ];
  sets_are = λ name trigrams h. elim (merged_from q f g name trigrams h)
      [ inl here ↦ b.sets_are name trigrams here | inr there ↦ a.sets_are name trigrams there ];
}

pub under_merged : (p q : Paths) (f g : Files) → LieUnder p f → LieUnder q g → LieUnder (merge_paths p q) (merge_files q f g)
under_merged p q f g a b name trigrams h =
    elim (merged_from q f g name trigrams h) [
      | inl here ↦ covered_right p q name (b name trigrams here)
      | inr there ↦ covered_left p q name (a name trigrams there)
    ]

-- ---- from each name of a map to each entry in order

both_hold : (a b : Bool) → T (a && b) → T a × T b
both_hold true b p = (tt, p)
both_hold false b p = absurd p

-- a name below all keys is not a key
pub below_lacks : {X : Type 0} (name : List ℕ) (es : List (List ℕ × X)) → T (below_all bytes_cmp name es) → find bytes_cmp name es ≡ None
below_lacks name [] h = refl
below_lacks name (e ∷ es) h =
    let parts = both_hold (is_lt (bytes_cmp name e.0)) (below_all bytes_cmp name es) h in
    ap (λ b. cond b (Some e.1) (find bytes_cmp name es)) (less_apart (bytes_cmp name e.0) parts.0) ∙ below_lacks name es parts.1
  where
    less_apart : (o : Ordering) → T (is_lt o) → is_eq o ≡ false
    less_apart Less p = refl
    less_apart _ p = absurd p

module _ {X : Type 0} (P : List ℕ → X → Type 0) where
  each_entry : (es : List (List ℕ × X)) → T (is_sorted bytes_cmp es) →
      ((name : List ℕ) (x : X) → find bytes_cmp name es ≡ Some x → P name x) →
      AllByRecursion (λ (e : List ℕ × X). P e.0 e.1) es
  each_entry [] up h = tt
  each_entry (e ∷ es) up h =
      let parts = both_hold (below_all bytes_cmp e.0 es) (is_sorted bytes_cmp es) up in (
        h e.0 e.1 (ap (λ b. cond b (Some e.1) (find bytes_cmp e.0 es)) (tied_same e.0)),
        each_entry es parts.1 (λ name x there. h name x (later name x parts.0 there)),
      )
    where
      later : (name : List ℕ) (x : X) → T (below_all bytes_cmp e.0 es) → find bytes_cmp name es ≡ Some x →
          find bytes_cmp name (e ∷ es) ≡ Some x
      later name x below there =
          elim (cases_Bool (eq_by_cmp bytes_cmp name e.0)) [
            | inl here ↦ absurd (none-some x (sym (below_lacks e.0 es below)
                ∙ ap (λ n. find bytes_cmp n es) (sym (tied_is name e.0 here)) ∙ there))
            | inr apart ↦ ap (λ b. cond b (Some e.1) (find bytes_cmp name es)) apart ∙ there
          ]

  pub each_of_map : (m : map'.FinMap bytes_cmp X) → ((name : List ℕ) (x : X) → map'.get m name ≡ Some x → P name x) →
      AllByRecursion (λ (e : List ℕ × X). P e.0 e.1) (map'.entries m)
  each_of_map m h = each_entry (map'.entries m) (map'.entries_sorted m) (λ name x there. h name x (map'.get-entries m name ∙ there))

pub all_keys : {X : Type 0} (P : List ℕ → Type 0) (es : List (List ℕ × X)) → AllByRecursion (λ (e : List ℕ × X). P e.0)
    es → AllByRecursion P (map (λ (e : List ℕ × X). e.0) es)
all_keys P [] all = tt
all_keys P (e ∷ es) all = (all.0, all_keys P es all.1)

all_firsts : (P Q : Entry → Type 0) (es : List Entry) → AllByRecursion (λ (e : Entry). P e × Q e) es → AllByRecursion P es
all_firsts P Q [] all = tt
all_firsts P Q (e ∷ es) all = (all.0.0, all_firsts P Q es all.1)

all_seconds : (P Q : Entry → Type 0) (es : List Entry) → AllByRecursion (λ (e : Entry). P e × Q e) es → AllByRecursion Q es
all_seconds P Q [] all = tt
all_seconds P Q (e ∷ es) all = (all.0.1, all_seconds P Q es all.1)

pub all_paths : (paths : Paths) → ((path : List ℕ) → set.contains paths path ≡ true → IsString path) →
    AllByRecursion IsString (set.items paths)
all_paths paths h = all_keys IsString (map'.entries paths)
    (each_of_map (λ path (mark : Unit {0}). IsString path) paths (λ path mark there. h path (ap is_some there)))

-- ---- an index of less than 2^32 bytes has less than 2^31 names

pub many_names : (paths : List (List ℕ)) (entries : List Entry) → 4 * length entries + 4 ≤ length (encoding_of paths entries)
many_names paths entries =
    let within = names_within paths (names_of entries) (postings_of entries) in
    let count : length (names_of entries) ≡ length entries = length-map entries (λ (entry : Entry). entry.0) in
    omega (arith, within, count)

names_bound : (paths : List (List ℕ)) (entries : List Entry) → length (encoding_of paths entries) < 2 ^ 32 → length entries < 2 ^ 31
names_bound paths entries short = let many = many_names paths entries in omega (arith, many, short)

-- ---- content and its encoding

indexable : (paths : List (List ℕ)) (entries : List Entry) → AllByRecursion IsString paths →
    AllByRecursion (λ (e : Entry). IsString e.0) entries → AllByRecursion (λ (e : Entry). IsTrigramSet e.1) entries →
    length (encoding_of paths entries) < 2 ^ 32 → IsIndexable paths entries
indexable paths entries a b c short = record {
  each_path = a;
  each_name = all_keys IsString entries b;
  trigrams = all_seconds (λ (e : Entry). Ascends e.1) (λ (e : Entry). AllByRecursion (λ g. g < 16777215) e.1) entries c;
  bound = names_bound paths entries short;
  short = short;
}

-- content whose encoding has less than 2^32 bytes can be written
pub content_indexable : (paths : Paths) (files : Files) → IsContent paths files →
    length (encoding_of (set.items paths) (map'.entries files)) < 2 ^ 32 →
    IsIndexable (set.items paths) (map'.entries files)
content_indexable paths files h short =
    indexable (set.items paths) (map'.entries files) (all_paths paths h.paths_are)
    (each_of_map (λ name (trigrams : List ℕ). IsString name) files h.names_are)
    (each_of_map (λ name (trigrams : List ℕ). IsTrigramSet trigrams) files h.sets_are)
    short

pub content_encoded : (paths : Paths) (files : Files) → IsContent paths files → length (encoding paths files) < 2 ^ 32 →
    DecodesAs (encoding paths files) (parts_written (set.items paths) (map'.entries files))
unfolding encoding
content_encoded paths files h short = encoding_decodes (set.items paths) (map'.entries files) (content_indexable paths files h short)

-- ---- equal encodings have equal contents

pub ascending_sets : (files : Files) → EachFile (λ name trigrams. IsTrigramSet trigrams) files →
    AllByRecursion (λ (e : Entry). Ascends e.1) (map'.entries files)
ascending_sets files h = all_firsts (λ (e : Entry). Ascends e.1) (λ (e : Entry). AllByRecursion (λ g. g < 16777215) e.1)
    (map'.entries files) (each_of_map (λ name (trigrams : List ℕ). IsTrigramSet trigrams) files h)

-- entries with equal encodings are equal
entries_once : (p q : List (List ℕ)) (d e : List Entry) → IsIndexable p d → IsIndexable q e →
    AllByRecursion (λ (x : Entry). Ascends x.1) d → AllByRecursion (λ (x : Entry). Ascends x.1) e → encoding_of p d
    ≡ encoding_of q e → (p ≡ q) × (d ≡ e)
entries_once p q d e g h a b same =
    let once = decoding_is_unique (encoding_of p d) (parts_written p d) (parts_written q e) (encoding_decodes p d g)
    (subst (λ bytes. DecodesAs bytes (parts_written q e)) (sym same) (encoding_decodes q e h)) in
    let one = encoding_has p d g in
    let other = encoding_has q e h in (
      sym one.has_paths ∙ ap (λ (parts : Parts). parts.paths) once ∙ other.has_paths,
      sym (one.has_files a)
          ∙ ap files_read once ∙ other.has_files b,
    )

pub same_paths : (p q : Paths) → set.items p ≡ set.items q → p ≡ q
same_paths p q e = same_set p q (λ path. map'.contains_key-keys p path ∙ ap (list_any (eq_by_cmp bytes_cmp path)) e
    ∙ sym (map'.contains_key-keys q path))

pub content_once : (p q : Paths) (f g : Files) → IsContent p f → IsContent q g → length (encoding p f) < 2 ^ 32 →
    encoding p f ≡ encoding q g → (p ≡ q) × (f ≡ g)
unfolding encoding
content_once p q f g a b short same =
    let once = entries_once (set.items p) (set.items q) (map'.entries f) (map'.entries g)
    (content_indexable p f a short) (content_indexable q g b (subst (λ bytes. length bytes < 2 ^ 32) same short))
    (ascending_sets f a.sets_are) (ascending_sets g b.sets_are) same in
    (same_paths p q once.0, map'.same_entries_map f g once.1)
