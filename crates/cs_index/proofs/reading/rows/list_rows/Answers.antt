use Rattle.std.proofs.Common.{◌≡◌, ◌<◌, ◌+◌, ◌-◌, ◌∙◌, ◌∷◌, ◌++◌, [], ap, sym, subst, ℕ, Bool, List, Vec, Global, true, false, take, drop, set, length, get_or, arith}
use Rattle.std.proofs.lemmas.List.{drop-drop, drop-set-lt, take_all, take_more, take_more_set}
use Rattle.std.proofs.lemmas.Slice.Zip.{all_zipped_more}
use Rattle.std.specs.List.{AllByRecursion, AllZip}
use Rattle.cs_index.specs.Rows.{column, have_id, HaveWidth, IsLeft, IsReadOn}
use Rattle.cs_index.specs.StoredLists.{ListState}
use Rattle.cs_index.proofs.candidates.WindowRows.{column-push, have-push, held_at, left_at, width-push}
use Rattle.cs_index.proofs.reading.rows.list_rows.Goals as goal

pub loop-at-preserved : goal.loop-at-preserved
loop-at-preserved g c =
    let i = c.loop-at.invariant in
    let old : List ListState = c.args.lists.now in
    let lists : List ListState = c.loop-at.lists in
    let at : ℕ = c.loop-at.at in
    let d : ListState = c.index-lists-at.result in
    let list : ListState = get_or lists at d in
    let new : ListState = c.list_row.new.list in
    let rows : List (Vec Bool Global) = c.loop-at.rows.items in
    let row : Vec Bool Global = c.in_ok-row.row in
    let start : ℕ = c.args.window.start in
    let end : ℕ = c.args.window.end in
    let is : list ≡ get_or old at d = left_at lists old at d i.left in
    let below : at < length old = omega (arith, c.loop-at-test.true) in
    let inside : at < length lists = omega (arith, c.loop-at-test.true, c.loop-at.auto.lists) in
    let before : take (at + 1) old ≡ take at old ++ list ∷ [] = take_more old at d below
    ∙ ap (λ (l : ListState). take at old ++ l ∷ []) (sym is) in
    let after : take (at + 1) (set lists at new) ≡ take at lists ++ new ∷ [] = take_more_set lists at new inside in
    let held : (bytes : List ℕ) → AllByRecursion (IsLeft bytes) old → IsLeft bytes list =
    λ bytes all. subst (IsLeft bytes) (sym is) (held_at bytes old at d below all) in
    let items = c.in_ok-push-3.ensures.items in
    record {
      width = subst (HaveWidth (end - start)) (sym items) (width-push (end - start) rows row i.width c.in_ok-row.ensures.width);
      rows = λ bytes m all k h.
          ap (column k) items ∙ column-push k rows row
          ∙ (λ j. i.rows bytes m all k h j ++ c.in_ok-row.ensures.row bytes (i.keeps ∙ m) (held bytes all) k h j ∷ [])
          ∙ sym (ap (λ (ls : List ListState). false ∷ true ∷ have_id bytes ls (start + k)) before
          ∙ ap (λ (t : List Bool). false ∷ true ∷ t) (have-push bytes (take at old) list (start + k)));
      read = λ bytes m all.
          subst (λ (ls : List ListState). AllZip (IsReadOn bytes end) ls (take (at + 1) (set lists at new))) (sym before)
          (subst (λ (ms : List ListState). AllZip (IsReadOn bytes end) (take at old ++ list ∷ []) ms) (sym after)
          (all_zipped_more (IsReadOn bytes end) (take at old) (take at lists) list new (i.read bytes m all)
          (c.in_ok-row.ensures.list bytes (i.keeps ∙ m) (held bytes all))));
      left = drop-set-lt (at + 1) lists at new (omega arith) ∙ sym (drop-drop 1 at lists) ∙ ap (drop 1) i.left ∙ drop-drop 1 at old;
      keeps = c.list_row.ensures.store.0 ∙ i.keeps;
      size = c.list_row.ensures.store.1 ∙ i.size;
      failed = c.in_ok-row.ensures.store.2 ∙ i.failed;
    }

pub returns-clause-rows : goal.returns-clause-rows
returns-clause-rows g c bytes m all k h =
    c.loop-at.invariant.rows bytes m all k h
    ∙ ap (λ (ls : List ListState). false ∷ true ∷ have_id bytes ls (c.args.window.start + k))
    (take_all c.loop-at.at c.args.lists.now (omega (arith, c.loop-at-test.false)))

pub returns-clause-lists : goal.returns-clause-lists
returns-clause-lists g c bytes m all =
    subst (λ (ls : List ListState). AllZip (IsReadOn bytes c.args.window.end) ls c.loop-at.lists)
    (take_all c.loop-at.at c.args.lists.now (omega (arith, c.loop-at-test.false)))
    (subst (λ (ms : List ListState). AllZip (IsReadOn bytes c.args.window.end) (take c.loop-at.at c.args.lists.now) ms)
    (take_all c.loop-at.at c.loop-at.lists (omega (arith, c.loop-at-test.false, c.loop-at.auto.lists)))
    (c.loop-at.invariant.read bytes m all))
