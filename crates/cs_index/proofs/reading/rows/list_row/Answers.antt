use Rattle.std.proofs.Common.{rules, ◌≡◌, ◌-◌, ◌⊎◌, ◌++◌, take, drop, ◌∙◌, ap, sym, subst, ℕ, List, Bool, Vec, Global, length, length-set, get_or, set, true, false, arith, inl, inr, vec_len}
use Rattle.std.proofs.lemmas.Bool.{eqb-true, eq-eqb, true≢false}
use Rattle.cs_index.specs.PostingLists.{Ids}
use Rattle.cs_index.specs.StoredLists.{ids_left, GivesBelow}
use Rattle.cs_index.proofs.candidates.WindowRows.{row_begins, row_more, row_ends, skipped_to, taken_back, widened}
use Rattle.cs_index.specs.Rows.{RowSoFar}
use Rattle.cs_index.proofs.reading.rows.list_row.Goals as goal
use Rattle.cs_index.proofs.reading.rows.list_row.Goals.{then-is_empty+in_ok-resize, else-is_empty}

pub ids-init : goal.ids-init
ids-init g c = record {
  width = inl (ap length c.new-row.ensures.items);
  so_far = λ bytes is left.
      let skips = c.in_ok-skip_below.ensures.skips bytes is left.0 in (
        skips.0.0,
        row_begins c.args.window.start c.args.window.end (ids_left bytes c.args.list.now)
            (ids_left bytes c.skip_below.new.self) c.new-row.result.items c.requires.order c.new-row.ensures.items
            (skipped_to c.args.window.start (ids_left bytes c.args.list.now) (ids_left bytes c.skip_below.new.self)
            skips.0.1 skips.0.2 skips.0.3 left.1) skips.1,
      );
  keeps = c.skip_below.ensures.store.0;
  size = c.skip_below.ensures.store.1;
  failed = c.in_ok-skip_below.ensures.store.2;
}

pub ids-preserved : goal.ids-preserved
ids-preserved g c =
    let i = c.ids.invariant in
    let start : ℕ = c.args.window.start in
    let end : ℕ = c.args.window.end in
    let row : List Bool = c.ids.row.items in
    let wide : List Bool = c.if-is_empty.row.items in
    let len : vec_len c.ids.row ≡ length c.ids.row.items = search rules in
    let flags : (length wide ≡ end - start) × ((k : ℕ) → get_or wide k false ≡ get_or row k false) =
    elim c.if-is_empty.branch [
      | then-is_empty+in_ok-resize w ↦
          let none : length row ≡ 0 = sym len ∙ eqb-true (vec_len c.ids.row) 0 (sym w.if-is_empty.ensures) in
          widened (end - start) (end - start - vec_len c.ids.row) row wide none
          (ap (λ (v : Vec Bool Global). v.items) w.row-is ∙ w.in_ok-resize.ensures.items) (omega (arith, len, none))
      | else-is_empty w ↦
          let long : length wide ≡ end - start =
          elim i.width [
            | inl z ↦ absurd (true≢false (sym (eq-eqb (vec_len c.ids.row) 0 (len ∙ z)) ∙ sym w.if-is_empty.ensures))
            | inr wide ↦ ap (λ (v : Vec Bool Global). length v.items) w.row-is ∙ wide
          ] in
          (long, λ k. ap (λ (v : Vec Bool Global). get_or v.items k false) w.row-is)
    ] in
    let one : List Bool = set wide c.saturating_sub.result true in
    let marked : List Bool = c.mark_short.new.row in
    let back : take c.if-is_empty.row.len (marked ++ drop (length marked) one) ≡ marked =
    taken_back c.if-is_empty.row.len marked (drop (length marked) one)
    (sym (c.mark_short.ensures.width ∙ c.deref_mut.ensures.len)) in
    record {
      width = subst (λ (r : List Bool). (length r ≡ 0) ⊎ (length r ≡ end - start)) (sym back)
          (inr (c.mark_short.ensures.width ∙ ap length c.deref_mut.ensures.value ∙ length-set wide c.saturating_sub.result true ∙ flags.0));
      so_far = λ bytes is held.
          let list : Ids = ids_left bytes c.args.list.now in
          let before = i.so_far bytes is held in
          let given = subst (GivesBelow bytes end c.ids.list c.next_below.new.self) c.in-Some.is
          (c.in_ok-id.ensures.gives bytes (i.keeps ∙ is) before.0) in
          let first = subst (λ n. RowSoFar start end list (set wide n true) (ids_left bytes c.next_below.new.self))
          (sym c.saturating_sub.ensures)
          (row_more start end list row wide (ids_left bytes c.ids.list) (ids_left bytes c.next_below.new.self) c.in-Some.id before.1
          (ap (λ (ids : Ids). ids.ids) given.1) (sym (ap (λ (ids : Ids). ids.whole) given.1)) given.2 flags.0 flags.1) in
          let more = c.mark_short.ensures.row bytes list given.0
          (subst (λ (r : List Bool). RowSoFar start end list r (ids_left bytes c.next_below.new.self))
          (sym c.deref_mut.ensures.value) first) in (
            (c.mark_short.ensures.skips bytes given.0).0,
            subst (λ (r : List Bool). RowSoFar start end list r (ids_left bytes c.mark_short.new.self)) (sym back) more,
          );
      keeps = c.next_below.ensures.store.0 ∙ i.keeps;
      size = c.next_below.ensures.store.1 ∙ i.size;
      failed = c.in_ok-id.ensures.store.2 ∙ i.failed;
    }

pub returns-clause-row : goal.returns-clause-row
returns-clause-row g c bytes is held =
    let i = c.ids.invariant in
    let before = i.so_far bytes is held in
    let given = subst (GivesBelow bytes c.args.window.end c.ids.list c.next_below.new.self) c.in_default.is
    (c.in_ok-id.ensures.gives bytes (i.keeps ∙ is) before.0) in
    row_ends c.args.window.start c.args.window.end (ids_left bytes c.args.list.now) c.ids.row.items
    (ids_left bytes c.ids.list) before.1 given.2
