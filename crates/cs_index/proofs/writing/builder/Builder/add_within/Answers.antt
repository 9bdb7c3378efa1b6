use Rattle.std.proofs.Common.{◌≡◌, ◌∙◌, ◌+◌, ◌<◌, ◌≤◌, ◌++◌, ◌∷◌, [], cond, ap, min, ◌-◌, ◌^◌, sym, subst, refl, length, List, ℕ, Vec, Global, arith}
use Rattle.std.proofs.lemmas.List.{length_push, with_items_is}
use Rattle.std.specs.Vec.{with_items}
use Rattle.std.specs.List.{AllByRecursion}
use Rattle.cs_trigram.specs.Trigram.{has, set_of_numbers, closing_trigram}
use Rattle.cs_trigram.specs.TrigramSets.{trigram_count, AreDistinct}
use Rattle.cs_trigram.proofs.SetLemmas.{all_from_set}
use Rattle.cs_trigram.specs.Scans.{AreDistinctTrigrams}
use Rattle.cs_index.specs.Gathering.{lists_below}
use Rattle.cs_index.specs.AscendingIds.{AscendWithin}
use Rattle.cs_index.specs.PostingLists.{entries_of}
use Rattle.cs_index.specs.Encoding.{Entry}
use Rattle.cs_index.specs.Buckets.{ids_in_buckets, bucket_postings, with_file, without_file, AreBuckets, BucketPostings, HaveBases, Posting}
use Rattle.cs_index.specs.declared.writing.builder.Builder.TheInside.{Inside}
use Rattle.cs_index.specs.BuilderInvariant.{bucket_lists, built_of}
use Rattle.cs_index.specs.Built.{Built, IsBuilt, with_entry}
use Rattle.cs_index.specs.LeastLength.{least_length}
use Rattle.cs_index.proofs.writer.LeastLength.{counted_more}
use Rattle.cs_index.proofs.common.ResultClauses.{of_err, of_ok}
use Rattle.cs_index.proofs.encoding.InvertedLists.{length-entries_of}
use Rattle.cs_index.proofs.writer.EntriesOfLists.{entries_added}
use Rattle.cs_index.proofs.writer.BuilderAdd.{built_added}
use Rattle.cs_index.proofs.writer.BucketPostings.{bases_later, file_given, file_ids, file_removed, file_rises, length_postings, none_past}
use Rattle.cs_index.proofs.writing.builder.Builder.add_within.Goals as goal

-- the number of names in the model
counted : (b : Inside) (now : Built) (id : ℕ) → built_of b ≡ now → id ≡ length now.entries → id ≡ length b.names
counted b now id is e = e ∙ sym (ap (λ (built : Built). length built.entries) is) ∙ length-entries_of 0 b.names (bucket_lists b)

-- the trigrams are below the one that closes the lists
below_closing : (gs : List ℕ) → AreDistinctTrigrams gs → AllByRecursion (λ g. g < closing_trigram) gs
below_closing gs once = all_from_set (λ g. g < closing_trigram) gs once.0.1

-- The names and buckets of a model.
record Hold (b : Inside) (now : Built) (names : List (List ℕ)) (buckets : List BucketPostings) : Type 0 where
  are : AreBuckets (length names) buckets
  is : ◌≡◌ {A = Built} (record {
    paths = b.paths;
    entries = entries_of 0 names (lists_below trigram_count (ids_in_buckets (bucket_postings buckets)));
  }) now

-- buckets with the same postings
same : (b : Inside) (now : Built) (names : List (List ℕ)) (buckets : List BucketPostings) → built_of b ≡ now →
    AreBuckets (length b.names) b.buckets.items → names ≡ b.names → length buckets ≡ 4096 →
    HaveBases (length b.names) buckets → bucket_postings buckets ≡ bucket_postings b.buckets.items → Hold b now names buckets
same b now names buckets is are named long bases kept = record {
  are = subst (λ (ns : List (List ℕ)). AreBuckets (length ns) buckets) (sym named) (record {
    long = long;
    bases = bases;
    rise = λ g. subst (λ (ps : List (List Posting)). AscendWithin (length b.names) 0 (ids_in_buckets ps g)) (sym kept)
        (are.rise g);
    below = λ g past. ap (λ (ps : List (List Posting)). ids_in_buckets ps g) kept ∙ are.below g past;
  });
  is = (λ i. record {
    paths = b.paths;
    entries = entries_of 0 (named i) (lists_below trigram_count (ids_in_buckets (kept i)));
  }) ∙ is;
}

-- one more name, with its postings
added : (b : Inside) (now : Built) (names : List (List ℕ)) (name gs : List ℕ) (id : ℕ) (buckets : List BucketPostings) →
    built_of b ≡ now → AreBuckets (length b.names) b.buckets.items → id ≡ length b.names → names ≡ b.names ++ name ∷ [] →
    length buckets ≡ 4096 → HaveBases id buckets →
    bucket_postings buckets ≡ with_file id (bucket_postings b.buckets.items) gs → AreDistinct gs →
    AllByRecursion (λ g. g < closing_trigram) gs → Hold b (with_entry now name (set_of_numbers gs)) names buckets
added b now names name gs id buckets is are at named long bases pushed once below =
    let n : ℕ = length b.names in
    let old : List (List Posting) = bucket_postings b.buckets.items in
    let f : ℕ → List ℕ = ids_in_buckets old in
    let more : ℕ → List ℕ = ids_in_buckets (bucket_postings buckets) in
    let many : length (b.names ++ name ∷ []) ≡ n + 1 = length_push b.names name in
    let given : (g : ℕ) → more g ≡ f g ++ cond (has gs g) (n ∷ []) [] = λ g.
    ap (λ (ps : List (List Posting)). ids_in_buckets ps g) pushed
    ∙ file_ids gs old id g below once (length_postings b.buckets.items ∙ are.long)
    ∙ ap (λ k. f g ++ cond (has gs g) (k ∷ []) []) at in
    let none : (g : ℕ) → closing_trigram ≤ g → more g ≡ [] = λ g past.
    given g ∙ (λ i. are.below g past i ++ cond (none_past gs g below past i) (n ∷ []) []) in
    record {
      are = subst (λ (ns : List (List ℕ)). AreBuckets (length ns) buckets) (sym named) (subst (λ m. AreBuckets m buckets)
          (sym many) (record {
            long = long;
            bases = bases_later id (n + 1) buckets (omega (arith, at)) bases;
            rise = λ g. subst (AscendWithin (n + 1) 0) (sym (given g)) (file_rises n (f g) (has gs g) (are.rise g));
            below = none;
          }));
      is = (λ i. record {
        paths = b.paths;
        entries = entries_of 0 (named i) (lists_below trigram_count more);
      })
          ∙ ap (λ (es : List Entry). let built : Built = record { paths = b.paths; entries = es } in built)
          (entries_added trigram_count b.names name f more gs (λ g past. are.below g (omega (arith, past)))
          (λ g past. none g (omega (arith, past))) (file_given f more n gs are.rise given))
          ∙ ap (λ (built : Built). with_entry built name (set_of_numbers gs)) is;
    }

-- the buckets of a Vec whose elements are replaced
replaced : (v : Vec BucketPostings Global) (buckets : List BucketPostings) → length v.items ≡ 4096 → length buckets ≡ 4096 →
    (with_items v buckets).items ≡ buckets
replaced v buckets long long' = with_items_is v buckets (let is = v.ok.0 in omega (arith, is, long, long'))

-- the postings of a name that was not added are removed
removed : (b : Inside) (now : Built) (names : List (List ℕ)) (gs : List ℕ) (id : ℕ)
    (old pushed held popped : List BucketPostings) →
    built_of b ≡ now → AreBuckets (length b.names) b.buckets.items → id ≡ length b.names → names ≡ b.names →
    old ≡ b.buckets.items →
    length pushed ≡ 4096 → HaveBases id pushed → bucket_postings pushed ≡ with_file id (bucket_postings old) gs →
    held ≡ (with_items b.buckets pushed).items → length popped ≡ 4096 → ((n : ℕ) → HaveBases n held → HaveBases n popped) →
    bucket_postings popped ≡ without_file (bucket_postings held) gs → AllByRecursion (λ g. g < closing_trigram) gs →
    Hold b now names (with_items (with_items b.buckets pushed) popped).items
removed b now names gs id old pushed held popped is are at named start long bases pushed_is holds long' bases' popped_is below =
    let items = replaced b.buckets pushed are.long long in
    let long_start : length (bucket_postings b.buckets.items) ≡ 4096 = length_postings b.buckets.items ∙ are.long in
    subst (Hold b now names) (sym (replaced (with_items b.buckets pushed) popped (ap length items ∙ long) long'))
    (same b now names popped is are named long'
    (bases' (length b.names) (subst (HaveBases (length b.names)) (sym (holds
    ∙ items)) (subst (λ n. HaveBases n pushed) at bases)))
    (popped_is
    ∙ ap (λ (ps : List (List Posting)). without_file ps gs) (ap bucket_postings (holds ∙ items) ∙ pushed_is
    ∙ ap (λ (bs : List BucketPostings). with_file id (bucket_postings bs) gs) start)
    ∙ file_removed gs (bucket_postings b.buckets.items) id below long_start))

pub push_file-requires-clause-bases : goal.push_file-requires-clause-bases
push_file-requires-clause-bases c =
    subst (λ n. HaveBases n c.deref_mut.result.now)
    (sym (counted c.self.inside c.args.self.now c.len-id.result c.self.view_is c.len-id.ensures))
    (subst (HaveBases (length c.self.inside.names)) (sym c.deref_mut.ensures.value) c.self.invariant.buckets.bases)

pub push_file-requires-clause-below : goal.push_file-requires-clause-below
push_file-requires-clause-below c = below_closing c.args.trigrams.now c.requires.once

pub invariant_of-self : goal.invariant_of-self
invariant_of-self c =
    let pushed = c.push_file.new.buckets in
    let at = counted c.self.inside c.args.self.now c.len-id.result c.self.view_is c.len-id.ensures in
    let kept = same c.self.inside c.args.self.now c.self.inside.names pushed c.self.view_is c.self.invariant.buckets refl
    c.push_file.ensures.long (subst (λ n. HaveBases n pushed) at c.push_file.ensures.bases)
    (c.in_err-push_file.ensures.err ∙ ap (λ (bs : List BucketPostings). bucket_postings bs) c.deref_mut.ensures.value) in
    let h = subst (Hold c.self.inside c.args.self.now c.self.inside.names)
    (sym (replaced c.self.inside.buckets pushed c.self.invariant.buckets.long c.push_file.ensures.long)) kept in
    record {
      buckets = h.are;
      built = subst IsBuilt (c.self.view_is ∙ sym h.is) c.self.invariant.built;
      counted = c.self.invariant.counted ∙ ap (λ (built : Built). min (least_length built.entries) (2 ^ 64 - 1)) (c.self.view_is ∙ sym h.is);
    }

pub pop_file-requires-clause-below : goal.pop_file-requires-clause-below
pop_file-requires-clause-below c = below_closing c.args.trigrams.now c.requires.once

-- the model without the name, whose postings are removed
undone : (c : goal.After-self-then-is_err-1) → Hold c.self.inside c.args.self.now c.push.new.self
    (with_items (with_items c.self.inside.buckets c.push_file.new.buckets) c.pop_file.new.buckets).items
undone c =
    removed c.self.inside c.args.self.now c.push.new.self c.args.trigrams.now c.len-id.result c.deref_mut.result.now
    c.push_file.new.buckets c.deref_mut-then-is_err.result.now c.pop_file.new.buckets c.self.view_is c.self.invariant.buckets
    (counted c.self.inside c.args.self.now c.len-id.result c.self.view_is c.len-id.ensures)
    (of_err c.push.result c.push.ensures.err (sym c.is_err.ensures.value ∙ c.if-is_err.true))
    c.deref_mut.ensures.value c.push_file.ensures.long c.push_file.ensures.bases c.in_ok-push_file.ensures.ok
    c.deref_mut-then-is_err.ensures.value c.pop_file.ensures.long c.pop_file.ensures.bases c.pop_file.ensures.without
    (below_closing c.args.trigrams.now c.requires.once)

pub invariant_of-self-then-is_err : goal.invariant_of-self-then-is_err
invariant_of-self-then-is_err c =
    let h = undone c in
    record {
      buckets = h.are;
      built = subst IsBuilt (c.self.view_is ∙ sym h.is) c.self.invariant.built;
      counted = c.self.invariant.counted ∙ ap (λ (built : Built). min (least_length built.entries) (2 ^ 64 - 1)) (c.self.view_is ∙ sym h.is);
    }

pub returns-then-is_err-clause-err : goal.returns-then-is_err-clause-err
returns-then-is_err-clause-err c = (undone c).is

-- the model with the name
more : (b : Inside) (now : Built) (names : List (List ℕ)) (name gs : List ℕ) (id : ℕ) (start pushed : List BucketPostings) →
    built_of b ≡ now → AreBuckets (length b.names) b.buckets.items → id ≡ length now.entries → names ≡ b.names ++ name ∷ [] →
    start ≡ b.buckets.items → length pushed ≡ 4096 → HaveBases id pushed →
    bucket_postings pushed ≡ with_file id (bucket_postings start) gs → AreDistinctTrigrams gs →
    Hold b (with_entry now name (set_of_numbers gs)) names (with_items b.buckets pushed).items
more b now names name gs id start pushed is are counts named from long bases given once =
    subst (Hold b (with_entry now name (set_of_numbers gs)) names) (sym (replaced b.buckets pushed are.long long))
    (added b now names name gs id pushed is are (counted b now id is counts) named long bases
    (given ∙ ap (λ (bs : List BucketPostings). with_file id (bucket_postings bs) gs) from) once.1 (below_closing gs once))

pub invariant_of-self-2 : goal.invariant_of-self-2
invariant_of-self-2 c =
    let h = more c.self.inside c.args.self.now c.push.new.self c.args.name.now c.args.trigrams.now c.len-id.result
    c.deref_mut.result.now c.push_file.new.buckets c.self.view_is c.self.invariant.buckets c.len-id.ensures
    (of_ok c.push.result c.push.ensures.ok (sym c.is_err.ensures.value ∙ c.if-is_err.false))
    c.deref_mut.ensures.value c.push_file.ensures.long c.push_file.ensures.bases c.in_ok-push_file.ensures.ok c.requires.once in
    record {
      buckets = h.are;
      built = subst IsBuilt (sym h.is) (built_added c.args.self.now c.args.name.now (set_of_numbers
          c.args.trigrams.now) (subst IsBuilt c.self.view_is c.self.invariant.built)
          (of_ok c.push.result c.push.ensures.each (sym c.is_err.ensures.value ∙ c.if-is_err.false))
          (sym c.names_are_below.ensures ∙ c.if-not-names_are_below.false) c.requires.once.0
          (omega (arith, c.if-id-limit.false, c.len-id.ensures, c.requires.bound)));
      counted = counted_more c.args.self.now c.args.name.now c.args.trigrams.now c.self.inside.least c.saturating_add.result
          c.saturating_add-2.result c.saturating_add-self-inside.result
          (c.self.invariant.counted ∙ ap (λ (built : Built). min (least_length built.entries) (2 ^ 64 - 1)) c.self.view_is)
          c.saturating_add.ensures c.saturating_add-2.ensures c.saturating_add-self-inside.ensures c.requires.once.1
          ∙ ap (λ (built : Built). min (least_length built.entries) (2 ^ 64 - 1)) (sym h.is);
    }

pub returns-clause-ok : goal.returns-clause-ok
returns-clause-ok c =
    (more c.self.inside c.args.self.now c.push.new.self c.args.name.now c.args.trigrams.now c.len-id.result
    c.deref_mut.result.now c.push_file.new.buckets c.self.view_is c.self.invariant.buckets c.len-id.ensures
    (of_ok c.push.result c.push.ensures.ok (sym c.is_err.ensures.value ∙ c.if-is_err.false))
    c.deref_mut.ensures.value c.push_file.ensures.long c.push_file.ensures.bases c.in_ok-push_file.ensures.ok c.requires.once).is
