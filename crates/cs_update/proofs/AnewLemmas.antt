-- What a run learns was read anew.
use Rattle.std.proofs.Common.{◌≡◌, ◌∙◌, ℕ, Bool, true, false, List, [], ◌∷◌, map, refl, sym, ap, subst, Option, Some, None, cond, length, nat_eq, option_map, unwrap_or, if◌then◌else◌}
use Rattle.std.specs.Prelude.{IsSome}
use Rattle.std.specs.FinMap as map'
use Rattle.std.specs.FinMap.Entries.{find}
use Rattle.std.specs.List.{AllByRecursion, cons_option}
use Rattle.std.specs.Ordering.{eq_by_cmp}
use Rattle.std.specs.Cmp.Lexicographic.{nat_list_cmp_total}
use Rattle.std.proofs.lemmas.Bool.{true≢false, and_parts, eqb-true}
use Rattle.cs_tree.specs.NameOrder.{bytes_cmp}
use Rattle.cs_tree.specs.Reachability.{read_item}
use Rattle.cs_tree.specs.Snapshot.{Item, file}
use Rattle.cs_tree.specs.declared.tree.Stamp.{Stamp}
use Rattle.cs_tree.proofs.PathSetLemmas.{tied_is}
use Rattle.cs_trigram.specs.Text.{limits, text_trigrams}
use Rattle.cs_lines.specs.Shown.{is_binary}
use Rattle.cs_known.specs.Learned.{ReadsAs, Run}
use Rattle.cs_state.specs.Known.{HasNumbers, Known, is_old, is_same_stamp, apart, binary}
use Rattle.cs_state.specs.StampedNames.{IsLearnable, stamped}
use Rattle.cs_update.specs.Contents.{Content, content_of, is_still, item_content, seen_content, sized_content, text_content, unindexed}
use Rattle.cs_update.specs.Learning.{LearnedFile, Seen, all_learned, entry_in, is_learnable, is_read, known_in, learned_as}
use Rattle.cs_update.specs.Updates.{IsReadAnew}
use Rattle.cs_update.specs.Updating.{own_files}

-- ---- stamps

same_stamp : (a b : Stamp) → is_same_stamp a b ≡ true → a ≡ b
same_stamp a b h =
    let p = and_parts _ _ h in
    let q = and_parts _ _ p.0 in
    let r = and_parts _ _ q.0 in
    let t = and_parts _ _ r.0 in
    λ i. record {
      device = eqb-true a.device b.device t.0 i;
      inode = eqb-true a.inode b.inode t.1 i;
      size = eqb-true a.size b.size r.1 i;
      modified = eqb-true a.modified b.modified q.1 i;
      changed = eqb-true a.changed b.changed p.1 i;
    }

known_stamp : (known : Stamp) (now : Option Stamp) → is_still known now ≡ true → now ≡ Some known
known_stamp known None h = absurd (true≢false (sym h))
known_stamp known (Some now) h = ap (λ (s : Stamp). Some s) (sym (same_stamp known now h))

-- ---- contents

-- the item reads as what it is known as
abbrev Reads : Item → Content → Type 0
Reads item content = ReadsAs content.kept (Some content.trigrams) item

reads_content : (bytes : List ℕ) (item : Item) → item ≡ file bytes → Reads item (content_of bytes)
reads_content bytes item is = by_test (is_binary bytes) refl
  where
    by_set : (set : Option (List ℕ)) → text_trigrams limits bytes ≡ set → Reads item (text_content set)
    by_set (Some trigrams) e = (refl, ap (read_item (text_trigrams limits)) is ∙ e)
    by_set None e = tt

    by_test : (b : Bool) → is_binary bytes ≡ b → Reads item (if b then unindexed binary else text_content (text_trigrams limits bytes))
    by_test true e = (bytes, is, e)
    by_test false e = by_set (text_trigrams limits bytes) refl

sized_read : (size : ℕ) (item : Item) (content : Content) → read_item (λ bytes. Some (sized_content size bytes)) item ≡ Some content →
    Reads item content
sized_read size (file bytes) content is =
    subst (Reads (file bytes)) (ap (λ o. unwrap_or o content) is) (by_length (nat_eq (length bytes) size))
  where
    by_length : (b : Bool) → Reads (file bytes) (if b then content_of bytes else unindexed apart)
    by_length true = reads_content bytes (file bytes) refl
    by_length false = tt
sized_read size item content is = cc

-- what was seen of a file has its stamp, and reads as its content
seen_read : (seen : Stamp) (now : Option Stamp) (item : Item) (content : Content) → seen_content seen now item ≡ Some content →
    (now ≡ Some seen) × Reads item content
seen_read seen now item content is = by_stamp (is_still seen now) refl is
  where
    by_size : (b : Bool) → (if b then None else read_item (λ bytes. Some (sized_content seen.size bytes)) item) ≡ Some content → Reads item content
    by_size true e = cc
    by_size false e = sized_read seen.size item content e

    by_stamp : (b : Bool) → is_still seen now ≡ b → (if b then item_content seen.size item else None) ≡ Some content →
        (now ≡ Some seen) × Reads item content
    by_stamp true same e = (known_stamp seen now same, by_size (nat_eq seen.size 0) e)
    by_stamp false same e = cc

-- ---- files

module _ (run : Run) where
  -- what the run sees of a file that was seen with a stamp
  abbrev content_at : Seen → Option Content
  content_at one = seen_content one.1 (run.view.stamp one.0) (run.view.item one.0)

  -- the file was seen with this stamp, which was old, and has this content
  pub record IsSeen (one : LearnedFile) : Type 0 where
    pub old : is_old run.moment one.stamp ≡ true
    pub content : content_at (one.name, one.stamp) ≡ Some one.content

  pub all_seen : (seen : List Seen) → AllByRecursion IsSeen (all_learned run seen)
  all_seen [] = tt
  all_seen (one ∷ seen) = by_age (is_read run.moment one) (content_at one) refl refl (all_seen seen)
    where
      by_age : (b : Bool) (content : Option Content) → is_read run.moment one ≡ b → content_at one ≡ content →
          AllByRecursion IsSeen (all_learned run seen) →
          AllByRecursion IsSeen (cons_option (if b then option_map (learned_as one) content else None) (all_learned run seen))
      by_age true None e c more = more
      by_age true (Some content) e c more =
          (record { old = (and_parts (is_old run.moment one.1) (is_learnable one.0) e).0; content = c }, more)
      by_age false content e c more = more

  -- The first of the files that has the name.
  record IsFound (name : List ℕ) (files : List LearnedFile) : Type 0 where
    file : LearnedFile
    seen : IsSeen file
    learnable : IsLearnable file.name
    numbers : HasNumbers file.stamp
    named : stamped (known_in file) ≡ name
    found : find bytes_cmp name (map entry_in files) ≡ Some file.content.trigrams

  find_file : (files : List LearnedFile) → AllByRecursion IsSeen files → AllByRecursion (λ (one : LearnedFile). IsLearnable one.name) files →
      AllByRecursion (λ (one : LearnedFile). HasNumbers one.stamp) files → (name : List ℕ) →
      IsSome (find bytes_cmp name (map entry_in files)) → IsFound name files
  find_file [] seen names numbers name some = cc
  find_file (one ∷ files) seen names numbers name some =
      by_test (eq_by_cmp bytes_cmp name (stamped (known_in one))) refl some (find_file files seen.1 names.1 numbers.1 name)
    where
      by_test : (b : Bool) → eq_by_cmp bytes_cmp name (stamped (known_in one)) ≡ b →
          IsSome (cond b (Some one.content.trigrams) (find bytes_cmp name (map entry_in files))) →
          (IsSome (find bytes_cmp name (map entry_in files)) → IsFound name files) → IsFound name (one ∷ files)
      by_test true e there later = record {
        file = one;
        seen = seen.0;
        learnable = names.0;
        numbers = numbers.0;
        named = sym (tied_is name (stamped (known_in one)) e);
        found = ap (λ b. cond b (Some one.content.trigrams) (find bytes_cmp name (map entry_in files))) e;
      }
      by_test false e there later =
          let rest = later there in
          record {
            file = rest.file;
            seen = rest.seen;
            learnable = rest.learnable;
            numbers = rest.numbers;
            named = rest.named;
            found = ap (λ b. cond b (Some one.content.trigrams) (find bytes_cmp name (map entry_in files))) e ∙ rest.found;
          }

  -- each file whose stamped name is in the own index was read anew
  pub all_anew : ((a b : Known) → IsLearnable a.name → IsLearnable b.name → HasNumbers a.stamp → HasNumbers b.stamp →
      stamped a ≡ stamped b → a ≡ b) → (seen : List Seen) →
      AllByRecursion (λ (one : LearnedFile). IsLearnable one.name) (all_learned run seen) →
      AllByRecursion (λ (one : LearnedFile). HasNumbers one.stamp) (all_learned run seen) →
      (one : Known) → IsLearnable one.name → HasNumbers one.stamp → IsSome (map'.get (own_files run seen) (stamped one)) →
      IsReadAnew run (own_files run seen) one
  all_anew unique seen names numbers one learnable fits some =
      let files = all_learned run seen in
      let got = map'.get-from_entries nat_list_cmp_total (map entry_in files) (stamped one) in
      let is = find_file files (all_seen seen) names numbers (stamped one) (subst IsSome got some) in
      let same = unique (known_in is.file) one is.learnable learnable is.numbers fits is.named in
      let read = seen_read is.file.stamp (run.view.stamp is.file.name) (run.view.item is.file.name) is.file.content is.seen.content in
      subst (IsReadAnew run (own_files run seen)) same (record {
        stamp = read.0;
        old = is.seen.old;
        read = subst (λ (t : Option (List ℕ)). ReadsAs is.file.content.kept t (run.view.item is.file.name))
            (sym (ap (map'.get (own_files run seen)) is.named ∙ got ∙ is.found)) read.1;
      })
