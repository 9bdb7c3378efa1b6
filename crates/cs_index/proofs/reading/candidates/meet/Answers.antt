use Rattle.std.proofs.Common.{◌≡◌, ◌≤◌, ◌+◌, ◌-◌, ◌∙◌, take, ap, sym, subst, ℕ, Bool, List, Option, Some, false, length, arith}
use Rattle.std.specs.Prelude.{filter, IfSome}
use Rattle.std.proofs.Math.Seq.{take-nil}
use Rattle.std.specs.List.{AllByRecursion, AllZip, range_with_len}
use Rattle.cs_index.specs.declared.reading.form.FormNode.{FormNode}
use Rattle.cs_index.specs.Form.{IsRequired, number_matches}
use Rattle.cs_index.specs.Rows.{have_id, IsLeft, IsReadOn, LacksId}
use Rattle.cs_index.specs.StoredLists.{ListState}
use Rattle.cs_index.proofs.candidates.WindowRows.{all_from, filter_false, have_alike, have_length, lacks_required, not_read, read_all_on, window_more, window_none}
use Rattle.cs_index.proofs.candidates.PageLemmas.{none_yet, page_full}
use Rattle.cs_index.proofs.candidates.FormValues.{nothing_matches}
use Rattle.cs_index.proofs.reading.candidates.meet.Goals as goal
use Rattle.cs_index.proofs.reading.candidates.meet.Goals.{then-windows-test+else-len-most, else-windows-test}

pub returns-then-form-eq-NOTHING-clause-ids : goal.returns-then-form-eq-NOTHING-clause-ids
returns-then-form-eq-NOTHING-clause-ids g c bytes m all =
    let nodes : List FormNode = c.args.form.now.nodes.items in
    let test : ℕ → Bool = λ id. number_matches (have_id bytes c.args.lists.now id) nodes c.args.form.now.root in
    c.new-ids.ensures.items ∙ sym (take-nil c.args.most)
    ∙ ap (take c.args.most) (sym (filter_false test c.args.all.start (c.args.all.end - c.args.all.start) (λ id from below. ap
    (number_matches (have_id bytes c.args.lists.now id) nodes) c.if-form-eq-NOTHING.true
    ∙ nothing_matches (have_id bytes c.args.lists.now id) nodes)))

pub returns-then-form-eq-NOTHING-clause-lists : goal.returns-then-form-eq-NOTHING-clause-lists
returns-then-form-eq-NOTHING-clause-lists g c bytes m all = not_read bytes c.args.all.end c.args.lists.now all

-- an id that the rarest list does not have is no candidate
passed : (bytes : List ℕ) (nodes : List FormNode) (root id : ℕ) (lists : List ListState) (rarest : Option ℕ) →
    IfSome rarest (IsRequired (length lists) nodes root) → LacksId (have_id bytes lists id) rarest →
    number_matches (have_id bytes lists id) nodes root ≡ false
passed bytes nodes root id lists rarest required lacks =
    lacks_required nodes root (have_id bytes lists id) rarest
    (subst (λ n. IfSome rarest (IsRequired n nodes root)) (sym (have_length bytes id lists)) required) lacks

pub windows-init : goal.windows-init
windows-init g c =
    let nodes : List FormNode = c.args.form.now.nodes.items in
    let root : ℕ = c.args.form.now.root in
    let lists : List ListState = c.args.lists.now in
    let from : ℕ = c.args.all.start in
    record {
      low = c.in_ok-start.ensures.from;
      high = c.in_ok-start.ensures.to;
      ids = λ bytes m all. window_none (λ id. number_matches (have_id bytes lists id) nodes root) from from c.in_ok-start.start
          c.new-ids.result.items (omega arith) c.in_ok-start.ensures.from (c.new-ids.ensures.items ∙ none_yet (λ id. number_matches (have_id bytes lists id) nodes root) from)
          (λ id from below. passed bytes nodes root id lists c.rarest_list-rarest.result c.rarest_list-rarest.ensures
          (c.in_ok-start.ensures.lacks bytes m all id from below));
      lists = λ bytes m all. c.in_ok-start.ensures.lists bytes m all;
      keeps = c.next_start.ensures.store.0;
      size = c.next_start.ensures.store.1;
      failed = c.in_ok-start.ensures.store.2;
    }

pub windows-preserved : goal.windows-preserved
windows-preserved g c =
    let i = c.windows.invariant in
    let old : List ListState = c.args.lists.now in
    let lists : List ListState = c.windows.lists in
    let after : List ListState = c.meet_window.new.lists in
    let nodes : List FormNode = c.args.form.now.nodes.items in
    let root : ℕ = c.args.form.now.root in
    let from : ℕ = c.args.all.start in
    let start : ℕ = c.windows.start in
    let end : ℕ = start + c.min.result in
    let next : ℕ = c.in_ok-start-2.start in
    let left : (bytes : List ℕ) → g.S.Store.model c.args.store.now ≡ Some bytes → AllByRecursion (IsLeft bytes) old →
    AllByRecursion (IsLeft bytes) lists =
    λ bytes m all. all_from bytes start old lists (i.lists bytes m all) in
    let read : (bytes : List ℕ) → g.S.Store.model c.args.store.now ≡ Some bytes → AllByRecursion (IsLeft bytes) old →
    AllZip (IsReadOn bytes end) old after =
    λ bytes m all. read_all_on bytes start end old lists after (omega arith) (i.lists bytes m all)
    (c.in_ok-meet_window.ensures.lists bytes (i.keeps ∙ m) (left bytes m all)) in
    record {
      low = omega (arith, i.low, c.in_ok-start-2.ensures.from);
      high = c.in_ok-start-2.ensures.to;
      ids = λ bytes m all. window_none (λ id. number_matches (have_id bytes old id) nodes root) from end next
          c.meet_window.new.ids.items (omega (arith, i.low)) c.in_ok-start-2.ensures.from
          (window_more (λ id. number_matches (have_id bytes old id) nodes root)
          (λ id. number_matches (have_id bytes lists id) nodes root)
          from start end c.windows.ids.items c.meet_window.new.ids.items i.low (omega arith) (i.ids bytes m all)
          (c.in_ok-meet_window.ensures.ids bytes (i.keeps ∙ m) (left bytes m all)) (λ k below.
          let later : start ≤ start + k = omega arith in
          ap (λ bits. number_matches bits nodes root) (have_alike bytes start (start + k) old lists later (i.lists bytes m all))))
          (λ id later below. passed bytes nodes root id old c.rarest_list-rarest.result c.rarest_list-rarest.ensures
          (subst (λ (bits : List Bool). LacksId bits c.rarest_list-rarest.result)
          (have_alike bytes end id old after later (read bytes m all))
          (c.in_ok-start-2.ensures.lacks bytes (c.meet_window.ensures.store.0 ∙ i.keeps ∙ m)
          (all_from bytes end old after (read bytes m all)) id later below)));
      lists = λ bytes m all. read_all_on bytes end next old after c.next_start-in-windows.new.lists
          c.in_ok-start-2.ensures.from (read bytes m all)
          (c.in_ok-start-2.ensures.lists bytes (c.meet_window.ensures.store.0 ∙ i.keeps ∙ m) (all_from bytes end old after (read bytes m all)));
      keeps = c.next_start-in-windows.ensures.store.0 ∙ c.meet_window.ensures.store.0 ∙ i.keeps;
      size = c.next_start-in-windows.ensures.store.1 ∙ c.meet_window.ensures.store.1 ∙ i.size;
      failed = c.in_ok-start-2.ensures.store.2 ∙ c.in_ok-meet_window.ensures.store.2 ∙ i.failed;
    }

-- a page is full, or the ids end
pub returns-clause-ids : goal.returns-clause-ids
returns-clause-ids g c bytes m all =
    let i = c.windows.invariant in
    let test : ℕ → Bool = λ id. number_matches (have_id bytes c.args.lists.now id) c.args.form.now.nodes.items c.args.form.now.root in
    let ids = i.ids bytes m all in
    c.truncate.ensures.items ∙ ap (take c.args.most) ids
    ∙ elim c.windows-test.branch [
      | then-windows-test+else-len-most w ↦ page_full test c.args.all.start c.windows.start c.args.all.end c.args.most i.low i.high
          (omega (arith, w.if-len-most, w.len-in-windows.ensures, ap (λ (xs : List ℕ). length xs) ids))
      | else-windows-test w ↦ ap (λ n. take c.args.most (filter test (range_with_len c.args.all.start (n - c.args.all.start))))
          (let z : c.windows.start ≡ c.args.all.end = omega (arith, i.high, w.windows-test) in z)
    ]

pub returns-clause-lists : goal.returns-clause-lists
returns-clause-lists g c bytes m all =
    let i = c.windows.invariant in
    let read = i.lists bytes m all in
    read_all_on bytes c.windows.start c.args.all.end c.args.lists.now c.windows.lists c.windows.lists i.high read
    (not_read bytes c.args.all.end c.windows.lists (all_from bytes c.windows.start c.args.lists.now c.windows.lists read))
