-- The index of a state: what was built, and its merge with an old one.
use Rattle.std.proofs.Common.{◌≡◌, ◌∙◌, ℕ, ◌<◌, ◌≤◌, ◌^◌, Bool, true, List, [], ◌∷◌, length, map, refl, sym, ap, subst, arith, Some, T}
use Rattle.std.specs.FinMap as map'
use Rattle.std.specs.FinMap.Entries.{find}
use Rattle.std.specs.List.{AllByRecursion, list_all}
use Rattle.std.specs.Cmp.Lexicographic.{nat_list_cmp_total}
use Rattle.std.proofs.lemmas.Bool.{and_parts}
use Rattle.cs_tree.specs.Cover.{is_covered}
use Rattle.cs_tree.specs.NameOrder.{bytes_cmp}
use Rattle.cs_tree.specs.NamesAscending.{are_ascending}
use Rattle.cs_tree.specs.PathSet.{Paths}
use Rattle.cs_tree.proofs.PathSetLemmas.{entries_in_order}
use Rattle.cs_trigram.specs.TrigramSets.{IsTrigramSet}
use Rattle.cs_index.specs.Built.{Built, IsBuilt, file_map, path_set}
use Rattle.cs_index.specs.Decoding.{DecodesAs}
use Rattle.cs_index.specs.Encoding.{Entry, IsString, encoding, encoding_of, names_of}
use Rattle.cs_index.specs.OpenedParts.{Parts, are_covered, are_whole, files_in, paths_in}
use Rattle.cs_index.proofs.decoding.DecodingIsUnique.{decoding_is_unique}
use Rattle.cs_index.proofs.encoding.FileMapEncoding.{encoding_built, sorted_named}
use Rattle.cs_merge.specs.Content.{DecodesAsContent, IsContent}
use Rattle.cs_merge.specs.Merge.{merge_files, merge_paths}
use Rattle.cs_merge.specs.MergeResult.{IsMerged}
use Rattle.cs_merge.proofs.ContentLemmas.{content_merged}
use Rattle.cs_merge.proofs.DecodedContentLemmas.{content_decodes, decoded_content, decoded_names, find_all, from_list_all}

-- ---- the index of what was built

each_string : (entries : List Entry) → AllByRecursion IsString (names_of entries) → AllByRecursion (λ (e : Entry). IsString e.0) entries
each_string [] all = tt
each_string (e ∷ entries) all = (all.0, each_string entries all.1)

built_content : (built : Built) → IsBuilt built → IsContent (path_set built) (file_map built)
built_content built is =
    let read : (name trigrams : List ℕ) → map'.get (file_map built) name ≡ Some trigrams → find bytes_cmp name built.entries ≡ Some trigrams =
    λ name trigrams there. sym (map'.get-from_entries nat_list_cmp_total built.entries name) ∙ there in
    record {
      paths_are = from_list_all IsString built.paths is.each_path;
      names_are = λ name trigrams there. find_all (λ n (t : List ℕ). IsString n) built.entries name trigrams
          (each_string built.entries is.each_name) (read name trigrams there);
      sets_are = λ name trigrams there. find_all (λ (n : List ℕ) t. IsTrigramSet t) built.entries name trigrams is.sets
          (read name trigrams there);
    }

pub built_decodes : (built : Built) → IsBuilt built → length (encoding_of built.paths built.entries) < 2 ^ 32 →
    DecodesAsContent (encoding_of built.paths built.entries) (path_set built) (file_map built)
built_decodes built is short =
    let same = encoding_built built is in
    subst (λ b. DecodesAsContent b (path_set built) (file_map built)) (sym same)
    (content_decodes (path_set built) (file_map built) (built_content built is) (subst (λ (b : List ℕ). length b < 2 ^ 32) same short))

-- ---- the merged index

all_true : (test : List ℕ → Bool) (xs : List (List ℕ)) → list_all test xs ≡ true → AllByRecursion (λ x. test x ≡ true) xs
all_true test [] all = tt
all_true test (x ∷ xs) all = let both = and_parts (test x) (list_all test xs) all in (both.0, all_true test xs both.1)

covered_names : (parts : Parts) → are_covered parts ≡ true → AllByRecursion (λ name. is_covered (paths_in parts) name ≡ true) parts.names
unfolding are_covered
covered_names parts covered = all_true (is_covered (paths_in parts)) parts.names covered

-- The merged index of an old state and what was built.
pub record IsMergedIndex (built : Built) (old : Parts) (bytes : List ℕ) : Type 0 where
  pub all_paths : Paths
  pub decoding : DecodesAsContent bytes all_paths (merge_files (path_set built) (files_in old) (file_map built))
  pub covered : AllByRecursion (λ name. is_covered (path_set built) name ≡ true) (names_of built.entries)

pub merged_index : (built : Built) → IsBuilt built → (own old_index bytes : List ℕ) (parts newer old : Parts) →
    own ≡ encoding_of built.paths built.entries → length own ≤ 4294967295 → DecodesAs own newer →
    DecodesAs old_index parts → DecodesAs old_index old → are_ascending parts.names ≡ true →
    IsMerged parts newer 4294967295 bytes → IsMergedIndex built old bytes
merged_index built is own old_index bytes parts newer old written few read_own read_parts read_old ascend merged =
    let size = ap length written in
    let content = built_decodes built is (omega (arith, size, few)) in
    let one = decoding_is_unique own newer content.parts read_own (subst (λ b. DecodesAs b content.parts) (sym written) content.decodes) in
    let paths : paths_in newer ≡ path_set built = ap paths_in one ∙ content.has.paths_are in
    let files : files_in newer ≡ file_map built = ap files_in one ∙ content.has.files_are in
    let same = decoding_is_unique old_index parts old read_parts read_old in
    let whole = and_parts (are_whole parts) (are_whole newer) merged.mergeable.whole in
    let old_content = decoded_content old_index (paths_in parts) (files_in parts) (record {
      parts = parts;
      decodes = read_parts;
      has = record { paths_are = refl; files_are = refl; ascend = ascend; whole = whole.0 };
    }) in
    let all = merge_paths (paths_in parts) (path_set built) in
    let all_files = merge_files (path_set built) (files_in parts) (file_map built) in
    let encoded : bytes ≡ encoding all all_files = merged.index.are
    ∙ (λ i. encoding (merge_paths (paths_in parts) (paths i)) (merge_files (paths i) (files_in parts) (files i))) in
    let most = merged.index.short in
    let len = ap length encoded in
    let decodes = content_decodes all all_files (content_merged (paths_in parts) (path_set built) (files_in parts) (file_map built) old_content
    (built_content built is)) (omega (arith, most, len)) in
    let keys : names_of built.entries ≡ newer.names =
    sym (ap (map (λ (e : Entry). e.0)) (entries_in_order built.entries (subst T (sym (sorted_named built.entries is.ascend)) tt)))
    ∙ decoded_names (encoding_of built.paths built.entries) (path_set built) (file_map built) content ∙ sym (ap (λ (p : Parts). p.names) one) in
    record {
      all_paths = all;
      decoding = subst (λ p. DecodesAsContent bytes all (merge_files (path_set built) (files_in p) (file_map built))) same
          (subst (λ b. DecodesAsContent b all all_files) (sym encoded) decodes);
      covered = subst (AllByRecursion (λ name. is_covered (path_set built) name ≡ true)) (sym keys)
          (subst (λ p. AllByRecursion (λ name. is_covered p name ≡ true) newer.names) paths (covered_names newer merged.mergeable.tested.covered));
    }
