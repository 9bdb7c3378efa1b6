-- The settings of a user: files that include one another, and their paths.
use Rattle.std.specs.Prelude.{Option, Some, None, Result, Ok, Err, OnOk}
use Rattle.std.specs.Path.{slash}
use Rattle.std.specs.List.{suffix_len}
use Rattle.std.specs.Option.{MatchOption}
use Rattle.std.specs.Str.Pattern.{RFindsChar, SplitsAroundMatch}
use lib.Utf8.{encode}
use Rattle.std.proofs.Common.{◌≡◌, ◌≢◌, ◌⊎◌, inl, inr, ◌+◌, ◌-◌, ◌<◌, ◌≤◌, refl, ℕ, zero, suc, not, cond, eqb, List, [], ◌∷◌, ◌++◌, length, take, drop, get_or, ap, sym, subst, ◌∙◌, arith, append_assoc, length-append, Bor}
use Rattle.std.proofs.lemmas.Bool.{le-leb, lt-leb, ne_eqb}
use Rattle.std.proofs.lemmas.List.Sums.{suffix_len_is}
use Rattle.std.proofs.lemmas.Str.Pattern.{NoCharPasses-char}
use Rattle.std.proofs.Math.Seq.{take-append_seam}
use Rattle.cs_tree.specs.Folders.{last_element}
use Rattle.cs_tree.specs.Snapshot.{Snapshot, item_at}
use Rattle.cs_tree.proofs.SplitLemmas.{LastSlash, last_element-last, rsplit_says}
use Rattle.cs_listing.specs.Listing.{TreeItems, bytes_of_item}
use Rattle.cs_listing.specs.FolderReads.{InTree}
use Rattle.cs_listing.specs.Settings.{Directive, said_in}
use Rattle.cs_listing.specs.UserRules.{User, FoundSettings, stem_of_file, refused, with_file, after_directives, after_file}

-- ---- the folder of a file

stem_last : (path folder name : List ℕ) → LastSlash path folder name → folder ++ slash ∷ [] ≡ stem_of_file path
stem_last path folder name split =
    let same : path ≡ (folder ++ slash ∷ []) ++ name = split.whole ∙ sym (append_assoc folder (slash ∷ []) name) in
    let own : length (last_element path) ≡ length name = ap length (last_element-last path folder name split) in
    let long : length path ≡ length (folder ++ slash ∷ []) + length name = ap length same ∙ length-append (folder ++ slash ∷ []) name in
    let len : length path - length (last_element path) ≡ length (folder ++ slash ∷ []) = omega (arith, own, long) in
    sym (ap (λ n. take n path) len ∙ ap (take (length (folder ++ slash ∷ []))) same ∙ take-append_seam (folder ++ slash ∷ []) name)

stem_none : (path : List ℕ) → last_element path ≡ path → [] ≡ stem_of_file path
stem_none path is =
    let same : length (last_element path) ≡ length path = ap length is in
    let none : length path - length (last_element path) ≡ 0 = omega (arith, same) in
    sym (ap (λ n. take n path) none)

-- a path without a slash is its last element
whole_name : (path : List ℕ) → ((i : ℕ) → i < length path → get_or path i 0 ≢ slash) → last_element path ≡ path
whole_name path free =
    ap (λ n. drop n path) (whole (suffix_len_is (λ b. not (eqb b slash)) path 0 0 (omega arith)
    (λ k above below. ap not (ne_eqb (get_or path k 0) slash (free k below))) (λ some. absurd (omega (arith, some)))))
  where
    whole : suffix_len (λ b. not (eqb b slash)) path ≡ length path - 0 → length path - suffix_len (λ b. not (eqb b slash)) path ≡ 0
    whole e = omega (arith, e)

pub stem_says : (path : List ℕ) (result : Option (Bor (List ℕ) × Bor (List ℕ))) →
    MatchOption result (RFindsChar slash path None) (λ x. SplitsAroundMatch (RFindsChar slash) path x.0.now x.1.now) →
    MatchOption result ([] ≡ stem_of_file path) (λ parts. parts.0.now ++ slash ∷ [] ≡ stem_of_file path)
unfolding encode
stem_says path None h = stem_none path (whole_name path (λ i. NoCharPasses-char slash path i h (omega arith)))
stem_says path (Some parts) h = stem_last path parts.0.now parts.1.now (rsplit_says path (Some parts) h)

-- ---- files of settings

pub on_ok : {A E : Type 0} (result : Result A E) (P Q : Type 0) → (P → Q) → OnOk result P → OnOk result Q
on_ok (Ok x) P Q f p = f p
on_ok (Err fault) P Q f p = tt

pub in_all : (s : Option Snapshot) (P : TreeItems → Type 0) → ((items : TreeItems) → P items) → InTree s P
in_all None P f = tt
in_all (Some tree) P f = f (item_at tree)

pub follow_refused : (items : TreeItems) (user : User) (depth : ℕ) (path : List ℕ) (found : FoundSettings) → (depth ≡ 0) ⊎ (found.files ≤ 1) →
    refused path found ≡ after_file items user depth path found
unfolding after_file
follow_refused items user zero path found h = refl
follow_refused items user (suc depth) path found (inl none) = absurd (omega (arith, none))
follow_refused items user (suc depth) path found (inr few) =
    sym (ap (λ b. cond b (refused path found) (after_directives (after_file items user depth) user path
    (said_in (bytes_of_item (items path))).directives (with_file items path found))) (le-leb found.files 1 few))

-- a file is read, and its directives are to come
pub follow_read : (items : TreeItems) (user : User) (depth : ℕ) (path : List ℕ) (old new : FoundSettings) (directives : List Directive) →
    depth ≢ 0 → 1 < old.files → directives ≡ (said_in (bytes_of_item (items path))).directives → new ≡ with_file items path old →
    after_directives (after_file items user (depth - 1)) user path directives new ≡ after_file items user depth path old
unfolding after_file
follow_read items user zero path old new directives some many says is = absurd (some refl)
follow_read items user (suc depth) path old new directives some many says is =
    let less : suc depth - 1 ≡ depth = omega arith in
    ap (λ d. after_directives (after_file items user d) user path directives new) less
    ∙ ap (λ ds. after_directives (after_file items user depth) user path ds new) says
    ∙ ap (after_directives (after_file items user depth) user path (said_in (bytes_of_item (items path))).directives) is
    ∙ sym (ap (λ b. cond b (refused path old) (after_directives (after_file items user depth) user path
    (said_in (bytes_of_item (items path))).directives (with_file items path old))) (lt-leb old.files 1 many))
