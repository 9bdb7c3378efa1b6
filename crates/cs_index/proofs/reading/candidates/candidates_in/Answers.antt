use Rattle.std.proofs.Common.{◌≡◌, ◌<◌, ◌∙◌, ◌&&◌, ◌++◌, ap, sym, subst, refl, ℕ, Bool, List, true, length, map, take, drop, arith}
use Rattle.std.proofs.lemmas.List.{length-map}
use Rattle.std.specs.Prelude.{filter}
use Rattle.std.specs.List.{AllByRecursion, range_with_len}
use Rattle.cs_index.specs.AscendingIds.{max_ids}
use Rattle.cs_trigram.specs.Trigram.{has, Ascends}
use Rattle.cs_index.specs.Answerable.{mentions}
use Rattle.cs_index.specs.CandidatePages.{AreOnPage}
use Rattle.cs_index.specs.Postings.{has_entry, read_for}
use Rattle.cs_index.specs.Form.{IsForm, IsNumberOf, number_matches}
use Rattle.cs_index.specs.Rows.{have_id, lists_are_whole}
use Rattle.cs_index.specs.StoredLists.{Holds, ListState, ids_left}
use Rattle.cs_index.specs.declared.reading.entries.Entry.{Entry}
use Rattle.cs_index.specs.Opening.{rises}
use Rattle.cs_index.specs.StoredEntries.{AreListed, trigrams_listed}
use Rattle.cs_index.proofs.candidates.MentionedLists.{all_left, ids_are, whole_answers}
use Rattle.cs_index.proofs.candidates.PageLemmas.{page_of}
use Rattle.cs_index.proofs.candidates.WindowRows.{all_held, taken_back, whole_alike}
use Rattle.cs_index.proofs.stored.ListSections.{list_read, listed_read, stored_entries}
use Rattle.cs_index.proofs.reading.candidates.candidates_in.Goals as goal
use Rattle.cs_index.proofs.reading.candidates.candidates_in.Goals.{then-branch, else-branch}

pub returns-clause-answers : goal.returns-clause-answers
returns-clause-answers g c bytes m parts paths stands =
    let name_count : ℕ = c.args.name_count in
    let there = stored_entries bytes _ parts stands in
    let up : rises parts.entries ≡ true = there.rise in
    let entries : List Entry = c.in_ok-listed.listed.items in
    let listed : AreListed c.args.query.now parts.entries entries = c.in_ok-listed.ensures.listed bytes m parts.entries there in
    let few : length parts.names < max_ids = let same = stands.names in omega (arith, same, c.requires.few) in
    let m1 = c.listed_entries.ensures.store.0 ∙ m in
    let trigrams : List ℕ = c.in_ok-trigrams.trigrams.items in
    let lists : List ListState = c.deref_mut.result.now in
    let after : List ListState = c.meet.new.lists in
    let are : (g : ℕ) → has trigrams g ≡ (mentions c.args.query.now g && has_entry parts.entries g) =
    λ g. ap (λ (xs : List ℕ). has xs g) (c.in_ok-trigrams.ensures ∙ ap trigrams_listed c.deref.ensures.value) ∙ listed.all g in
    let is : map (ids_left bytes) lists ≡ map (read_for parts) trigrams =
    ap (map (ids_left bytes)) c.deref_mut.ensures.value ∙ c.in_ok-lists.ensures.lists bytes m1
    ∙ ap (map (list_read bytes _ parts stands)) c.deref-3.ensures.value
    ∙ listed_read bytes _ parts stands entries listed.each
    ∙ ap (map (read_for parts)) (sym (c.in_ok-trigrams.ensures ∙ ap trigrams_listed c.deref.ensures.value)) in
    let held = subst (AllByRecursion (Holds bytes)) (sym c.deref_mut.ensures.value) (c.in_ok-lists.ensures.holds bytes m1) in
    let left = all_left bytes parts up c.args.query.now trigrams are lists is few held in
    let modelled = c.lists_of.ensures.store.0 ∙ m1 in
    let read = c.in_ok-ids.ensures.lists bytes modelled left in
    let kept : take c.in_ok-lists.lists.len (after ++ drop (length after) c.in_ok-lists.lists.items) ≡ after =
    taken_back c.in_ok-lists.lists.len after (drop (length after) c.in_ok-lists.lists.items)
    (sym (c.meet.auto.lists ∙ c.deref_mut.ensures.len)) in
    let whole : c.in_ok-finish_all.field-0 ≡ lists_are_whole bytes lists =
    c.in_ok-finish_all.ensures.whole bytes (c.meet.ensures.store.0 ∙ modelled)
    (subst (AllByRecursion (Holds bytes)) (sym kept) (all_held bytes name_count lists after read))
    ∙ ap (lists_are_whole bytes) kept ∙ whole_alike bytes name_count lists after read in
    elim c.if-branch.branch [
      | then-branch w ↦
          let all : lists_are_whole bytes lists ≡ true = sym whole ∙ w.if-branch.true in
          let nodes = c.in_ok-form.form.nodes.items in
          let test : ℕ → Bool = λ id. number_matches (have_id bytes lists id) nodes c.in_ok-form.form.root in
          let met = ids_are bytes parts up c.args.query.now trigrams are lists is nodes
          c.in_ok-form.form.root name_count (filter test (range_with_len 0 name_count)) stands.names
          (subst (λ (gs : List ℕ). IsNumberOf gs nodes c.args.query.now
          c.in_ok-form.form.root) c.deref-2.ensures.value c.in_ok-form.ensures.number) all refl in
          subst (AreOnPage c.args.page c.args.query.now parts) (sym w.answer-is) (
            page_of parts c.args.query.now test c.args.page c.min.result name_count c.in_ok-ids.ids.items met
                (omega (arith, c.min.ensures)) (omega (arith, c.min.ensures))
                (λ k low below. omega (arith, low, below, c.min.ensures)) (c.in_ok-ids.ensures.ids bytes modelled left),
            sym (whole_answers bytes parts up c.args.query.now trigrams are lists is) ∙ all,
          )
      | else-branch w ↦
          subst (AreOnPage c.args.page c.args.query.now parts) (sym w.answer-is)
          (refl, sym (whole_answers bytes parts up c.args.query.now trigrams are lists is) ∙ sym whole ∙ w.if-branch.false)
    ]

pub form_of-requires : goal.form_of-requires
form_of-requires g c = subst Ascends (sym (c.deref-2.ensures.value ∙ c.in_ok-trigrams.ensures ∙ ap trigrams_listed c.deref.ensures.value)) c.in_ok-listed.ensures.ascend

pub meet-requires-clause-form : goal.meet-requires-clause-form
meet-requires-clause-form g c =
    subst (λ n. IsForm n c.in_ok-form.form.nodes.items)
    (sym (ap length c.deref_mut.ensures.value ∙ c.in_ok-lists.ensures.count
    ∙ ap length c.deref-3.ensures.value
    ∙ sym (length-map c.in_ok-listed.listed.items (λ (e : Entry). e.trigram))
    ∙ sym (ap length (c.deref-2.ensures.value ∙ c.in_ok-trigrams.ensures ∙ ap trigrams_listed c.deref.ensures.value)))) c.in_ok-form.ensures.form
