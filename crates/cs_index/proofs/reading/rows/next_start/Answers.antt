use Rattle.std.proofs.Common.{◌<◌, ◌∙◌, sym, subst, ℕ, List, Option, length, get_or, arith}
use Rattle.std.specs.Prelude.{IfSome}
use Rattle.cs_index.specs.Rows.{have_id, IsLeft, IsReadTo, LacksId}
use Rattle.cs_index.specs.StoredLists.{ListState, ids_left}
use Rattle.cs_index.proofs.candidates.WindowRows.{have_at, held_at, none_between, not_read, one_read, read_weaker, skipped_to}
use Rattle.cs_index.proofs.reading.rows.next_start.Goals as goal

pub returns-in_default-clause-lists : goal.returns-in_default-clause-lists
returns-in_default-clause-lists g c bytes m all = not_read bytes c.args.window.start c.args.lists.now all

pub returns-clause-lists : goal.returns-clause-lists
returns-clause-lists g c bytes m all =
    let old : List ListState = c.args.lists.now in
    let at : ℕ = c.in-Some.at in
    let d : ListState = c.index-lists-at.result in
    let list : ListState = get_or old at d in
    let new : ListState = c.skip_to.new.self in
    let below : at < length old = subst (λ (r : Option ℕ). IfSome r (λ k. k < length old)) c.in-Some.is c.requires.within in
    let left : IsLeft bytes list = held_at bytes old at d below all in
    let skips = c.in_ok-next.ensures.skips bytes m left.0 in
    let read : IsReadTo c.args.window.start (ids_left bytes list) (ids_left bytes new) =
    skipped_to c.args.window.start (ids_left bytes list) (ids_left bytes new) skips.0.1 skips.0.2 skips.0.3 left.1 in
    one_read bytes c.min.result old at d new all below (
      skips.0.0,
      read_weaker c.args.window.start c.min.result (ids_left bytes list) (ids_left bytes new)
          (omega (arith, c.max.ensures, c.min.ensures, c.requires.order)) read,
    )

pub returns-clause-lacks : goal.returns-clause-lacks
returns-clause-lacks g c bytes m all id from before =
    let old : List ListState = c.args.lists.now in
    let at : ℕ = c.in-Some.at in
    let d : ListState = c.index-lists-at.result in
    let list : ListState = get_or old at d in
    let new : ListState = c.skip_to.new.self in
    let below : at < length old = subst (λ (r : Option ℕ). IfSome r (λ k. k < length old)) c.in-Some.is c.requires.within in
    let left : IsLeft bytes list = held_at bytes old at d below all in
    let skips = c.in_ok-next.ensures.skips bytes m left.0 in
    let read : IsReadTo c.args.window.start (ids_left bytes list) (ids_left bytes new) =
    skipped_to c.args.window.start (ids_left bytes list) (ids_left bytes new) skips.0.1 skips.0.2 skips.0.3 left.1 in
    subst (LacksId (have_id bytes old id)) (sym c.in-Some.is)
    (have_at bytes id old at d below ∙ none_between c.args.window.start c.in_ok-next.next id (ids_left bytes list)
    (ids_left bytes new) read skips.1 from (omega (arith, from, before, c.max.ensures, c.min.ensures)))
