use Rattle.std.proofs.Common.{◌≡◌, ◌∙◌, ◌++◌, ◌&&◌, ap, sym, List, ℕ, Vec, Global, arith}
use Rattle.std.proofs.lemmas.List.{take_all}
use Rattle.std.specs.Prelude.{filter}
use Rattle.cs_trigram.specs.Trigram.{has}
use Rattle.cs_trigram.proofs.SetLemmas.{has-filter}
use Rattle.cs_index.specs.Postings.{has_entry}
use Rattle.cs_index.specs.declared.reading.entries.Entry.{Entry}
use Rattle.cs_index.proofs.stored.StoredEntries.{all_found, found_items, none_found, still_ascend, still_listed}
use Rattle.cs_index.proofs.reading.candidates.listed_entries.Goals as goal
use Rattle.cs_index.proofs.reading.candidates.listed_entries.Goals.{in-Some+in_ok-push, in_default}

pub loop-trigram-preserved : goal.loop-trigram-preserved
loop-trigram-preserved g c =
    let i = c.loop-trigram.invariant in
    let listed : List Entry = c.loop-trigram.listed.items in
    let new : List Entry = c.match-branch-3.listed.items in
    let gs : List ℕ = c.deref-trigram-items.result.now in
    let k : ℕ = c.loop-trigram.trigram-index in
    let found = c.in_ok-entry.field-0 in
    let is : new ≡ listed ++ found_items found = elim c.match-branch-3.branch [
      | in-Some+in_ok-push w ↦ ap (λ (v : Vec Entry Global). v.items) w.listed-is ∙ w.in_ok-push.ensures.items
          ∙ ap (λ o. listed ++ found_items o) (sym w.in-Some.is)
      | in_default w ↦ ap (λ (v : Vec Entry Global). v.items) w.listed-is ∙ none_found listed found w.in_default.not-Some
    ] in
    record {
      each = λ bytes m es has. all_found es listed new found _ is
          (c.in_ok-entry.ensures.found bytes (i.keeps ∙ m) es has) c.in_ok-entry.ensures.same
          (i.each bytes m es has);
      all = λ bytes m es has. still_listed es listed new found gs k is
          (c.in_ok-entry.ensures.found bytes (i.keeps ∙ m) es has) c.in_ok-entry.ensures.same (omega arith)
          (i.all bytes m es has);
      ascend = still_ascend listed new found gs k is c.in_ok-entry.ensures.same (omega arith) i.ascend;
      keeps = c.find_entry.ensures.store.0 ∙ i.keeps;
      size = c.find_entry.ensures.store.1 ∙ i.size;
      failed = c.in_ok-entry.ensures.store.2 ∙ i.failed;
    }

pub returns-clause-listed : goal.returns-clause-listed
returns-clause-listed g c bytes m es has' =
    let i = c.loop-trigram.invariant in
    let gs : List ℕ = c.deref-trigram-items.result.now in
    let k : ℕ = c.loop-trigram.trigram-index in
    record {
      each = i.each bytes m es has';
      all = λ n.
          ap (λ (xs : List ℕ). has xs n) (i.all bytes m es has'
          ∙ ap (filter (has_entry es)) (take_all k gs (omega arith)))
          ∙ has-filter (has_entry es) gs n
          ∙ ap (λ b. b && has_entry es n)
          (ap (λ (xs : List ℕ). has xs n) c.deref-trigram-items.ensures.value ∙ c.in_ok-trigrams.ensures.mentioned n);
    }
