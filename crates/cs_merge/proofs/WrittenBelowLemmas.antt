-- Ids that are appended to the list that was begun last, up to a limit.
use Rattle.std.proofs.Common.{◌≡◌, ◌≢◌, ℕ, zero, suc, take, ◌+◌, ◌<◌, ◌≤◌, Bool, true, false, cond, ◌||◌, eqb, ltb, List, [], ◌∷◌, ◌++◌, length, refl, sym, ap, subst, ◌∙◌, inl, inr, Option, Some, None, arith, slice_get, append_assoc, length-append}
use Rattle.cs_merge.proofs.Common.{cases_Bool, eq-eqb, ltb-false, same_Some, append-nil, AllByRecursion, option_map_or, PostingList, has, ids_of, with_id, Written, AllBelow, last_ids, with_written_id, with_last_id, with_last_ids, next_after, AscendWithin, ids_onward, list_of, lower_of, without_number, BeginFrom, IsBelow, IsRunOf, IsMergedList, IsWrittenBelow}
use Rattle.cs_merge.proofs.IdMergeLemmas.{first_rises, given_older, has_both, next_after_push, rise_ends, with_more}
use Rattle.cs_merge.proofs.TrigramSetLemmas.{ids_of_more}
use Rattle.cs_index.proofs.postings.EncodedRuns.{onward_last}
use Rattle.cs_index.proofs.postings.StreamPush.{next_append}
use Rattle.cs_index.proofs.writer.ListsBelow.{rise_behind}
use Rattle.cs_tree.proofs.GatherLemmas.{all-append}

-- ---- the list that was begun last

ids_of_last : (g id : ℕ) (lists : List PostingList) → ids_of (with_id lists g id) g ≡ ids_of lists g ++ id ∷ []
ids_of_last g id [] = ap (λ b. cond b (id ∷ []) []) (eq-eqb g g refl)
ids_of_last g id (p ∷ lists) =
    elim (cases_Bool (eqb p.0 g)) [
      | inl is ↦
          ap (λ b. ids_of (cond b ((p.0, p.1 ++ id ∷ []) ∷ lists) (p ∷ with_id lists g id)) g) is
          ∙ ap (λ b. cond b (p.1 ++ id ∷ []) (ids_of lists g)) is
          ∙ sym (ap (λ b. cond b p.1 (ids_of lists g) ++ id ∷ []) is)
      | inr apart ↦
          ap (λ b. ids_of (cond b ((p.0, p.1 ++ id ∷ []) ∷ lists) (p ∷ with_id lists g id)) g) apart
          ∙ ap (λ b. cond b p.1 (ids_of (with_id lists g id) g)) apart
          ∙ ids_of_last g id lists
          ∙ sym (ap (λ b. cond b p.1 (ids_of lists g) ++ id ∷ []) apart)
    ]

pub one_more : (now : Written) (g id : ℕ) → now.last_trigram ≡ Some g → with_last_id now id ≡ with_written_id now g id
one_more now g id begun = ap (λ o. option_map_or (λ t. with_written_id now t id) o now) begun

pub last_push : (now : Written) (g id : ℕ) → now.last_trigram ≡ Some g →
    last_ids (with_last_id now id) ≡ last_ids now ++ id ∷ []
last_push now g id begun =
    ap last_ids (one_more now g id begun)
    ∙ ap (λ o. option_map_or (ids_of (with_id now.lists g id)) o []) begun
    ∙ ids_of_last g id now.lists
    ∙ sym (ap (λ o. option_map_or (ids_of now.lists) o [] ++ id ∷ []) begun)

-- What appended ids keep, and the ids of the list.
pub record AreAppended (g : ℕ) (before now : Written) (given : List ℕ) : Type 0 where
  pub names : now.names ≡ before.names
  pub begun : now.last_trigram ≡ Some g
  pub last : last_ids now ≡ last_ids before ++ given

pub appended : (g : ℕ) (before : Written) (given : List ℕ) → before.last_trigram ≡ Some g →
    AreAppended g before (with_last_ids before given) given
appended g before [] begun = record { names = refl; begun = begun; last = sym (append-nil (last_ids before)) }
appended g before (id ∷ given) begun =
    let one = one_more before g id begun in
    let rest = appended g (with_last_id before id) given (ap (λ (w : Written). w.last_trigram) one ∙ begun) in
    record {
      names = rest.names ∙ ap (λ (w : Written). w.names) one;
      begun = rest.begun;
      last = rest.last ∙ ap (λ ids. ids ++ given) (last_push before g id begun)
          ∙ append_assoc (last_ids before) (id ∷ []) given;
    }

with_both : (before : Written) (some more : List ℕ) → with_last_ids before (some ++ more)
    ≡ with_last_ids (with_last_ids before some) more
with_both before [] more = refl
with_both before (id ∷ some) more = with_both (with_last_id before id) some more

pub some_trigram : (o : Option ℕ) → o ≢ None → (g : ℕ) × (o ≡ Some g)
some_trigram None h = absurd (h refl)
some_trigram (Some g) h = (g, refl)

-- ---- ids below a limit

pub rise_taken : (count next some : ℕ) (ids : List ℕ) → AscendWithin count next ids → AscendWithin count next (take some ids)
rise_taken count next zero ids up = tt
rise_taken count next (suc some) [] up = tt
rise_taken count next (suc some) (id ∷ ids) up = (up.0, up.1, rise_taken count (id + 1) some ids up.2)

pub written_more : (limit : Option ℕ) (before middle now : Written) (ids left rest : List ℕ) →
    IsWrittenBelow limit before middle ids left → IsWrittenBelow limit middle now left rest →
    IsWrittenBelow limit before now ids rest
written_more limit before middle now ids left rest some more = record {
  given = some.given ++ more.given;
  ids_are = some.ids_are ∙ ap (λ l. some.given ++ l) more.ids_are ∙ sym (append_assoc some.given more.given rest);
  now_is = more.now_is ∙ ap (λ (w : Written). with_last_ids w more.given) some.now_is
      ∙ sym (with_both before some.given more.given);
  below = all-append (IsBelow limit) some.given more.given some.below more.below;
}

module _ (limit : Option ℕ) (before now : Written) (ids left : List ℕ) (begun : before.last_trigram ≢ None)
    (written : IsWrittenBelow limit before now ids left) where
  are : (g : ℕ) × AreAppended g before now written.given
  are =
      let g = some_trigram before.last_trigram begun in (
        g.0,
        subst (λ (w : Written). AreAppended g.0 before w written.given) (sym written.now_is)
            (appended g.0 before written.given g.1),
      )

  pub has_begun : now.last_trigram ≢ None
  has_begun e = none (are.0) (sym are.1.begun ∙ e)
    where
      none : (g : ℕ) → Some g ≡ None → ⊥
      none g f = cc

  pub rises_on : AscendWithin (length before.names) (next_after 0 (last_ids before)) ids →
      AscendWithin (length now.names) (next_after 0 (last_ids now)) left
  rises_on up =
      let next : next_after 0 (last_ids now) ≡ next_after (next_after 0 (last_ids before)) written.given =
      ap (next_after 0) are.1.last ∙ next_append 0 (last_ids before) written.given in
      subst (λ (names : List (List ℕ)). AscendWithin (length names) (next_after 0 (last_ids now)) left) (sym are.1.names)
      (subst (λ n. AscendWithin (length before.names) n left) (sym next)
      (rise_behind (length before.names) (next_after 0 (last_ids before)) written.given left
      (subst (AscendWithin (length before.names) (next_after 0 (last_ids before))) written.ids_are up)))

pub begun_on : (limit : Option ℕ) (before now : Written) (ids left : List ℕ) (g : ℕ) → before.last_trigram ≡ Some g →
    IsWrittenBelow limit before now ids left → now.last_trigram ≡ Some g
begun_on limit before now ids left g begun written =
    ap (λ (w : Written). w.last_trigram) written.now_is ∙ (appended g before written.given begun).begun

-- ---- the first id, and a run

pub left_first : (id : ℕ) (ids : List ℕ) → slice_get ids 0 ≡ Some id → ids ≡ id ∷ without_number id ids
left_first id [] there = cc
left_first id (other ∷ ids) there =
    let is : other ≡ id = same_Some other id there in
    ap (λ n. n ∷ ids) is ∙ ap (λ ns. id ∷ ns) (sym (ap (λ b. cond b ids (other ∷ ids)) (eq-eqb other id is)))

pub fewer_first : (id : ℕ) (ids : List ℕ) → slice_get ids 0 ≡ Some id → length (without_number id ids) < length ids
fewer_first id ids there =
    let long : length ids ≡ length (id ∷ without_number id ids) = ap length (left_first id ids there) in
    omega (arith, long)

module _ (limit : Option ℕ) (before one : Written) (ids : List ℕ) (id : ℕ) (there : slice_get ids 0 ≡ Some id)
    (within : IsBelow limit id) (begun : before.last_trigram ≢ None) (is : one ≡ with_last_id before id)
    (up : AscendWithin (length before.names) (next_after 0 (last_ids before)) ids) where
  pub one_written : IsWrittenBelow limit before one ids (without_number id ids)
  one_written = record { given = id ∷ []; ids_are = left_first id ids there; now_is = is; below = (within, tt) }

  first : AreAppended (some_trigram before.last_trigram begun).0 before one (id ∷ [])
  first =
      let g = some_trigram before.last_trigram begun in
      subst (λ (w : Written). AreAppended g.0 before w (id ∷ [])) (sym is) (appended g.0 before (id ∷ []) g.1)

  next : next_after 0 (last_ids one) ≡ id + 1
  next = ap (next_after 0) first.last ∙ next_after_push 0 id (last_ids before)

  pub some_written : last_ids one ≢ []
  some_written e = none (last_ids before) (sym first.last ∙ e)
    where
      none : (xs : List ℕ) → xs ++ id ∷ [] ≡ [] → ⊥
      none [] f = cc
      none (x ∷ xs) f = cc

  module _ (run rest : List ℕ) (are_run : IsRunOf id limit run ids rest) where
    up_on : AscendWithin (length before.names) (id + 1) (ids_onward (id + 1) run ++ without_number id rest)
    up_on =
        let all : AscendWithin (length before.names) (next_after 0 (last_ids before)) (id ∷ without_number id ids) =
        subst (AscendWithin (length before.names) (next_after 0 (last_ids before))) (left_first id ids there) up in
        subst (AscendWithin (length before.names) (id + 1)) are_run.ids_are all.2

    pub run_fits : next_after 0 (last_ids one) + next_after 0 run ≤ length one.names
    run_fits =
        let names = ap (λ (ns : List (List ℕ)). length ns) first.names in
        let bounds = first_rises (length before.names) (next_after 0 (last_ids before)) id ids up there in
        let ends = rise_ends (length before.names) (id + 1) (ids_onward (id + 1) run) (without_number id rest)
        (omega (arith, bounds.1)) up_on in
        let end : next_after (id + 1) (ids_onward (id + 1) run) ≡ id + 1 + next_after 0 run = onward_last (id + 1) run in
        omega (arith, next, names, ends, end)

    below_all : (xs : List ℕ) → ((most : ℕ) → limit ≡ Some most → AllByRecursion (λ other. id + 1 + other < most) xs) →
        AllByRecursion (IsBelow limit) (ids_onward (id + 1) xs)
    below_all [] h = tt
    below_all (x ∷ xs) h = (λ most e. (h most e).0, below_all xs (λ most e. (h most e).1))

    pub run_fewer : length (without_number id rest) < length ids
    run_fewer =
        let long : length ids ≡ length (id ∷ (ids_onward (id + 1) run ++ without_number id rest)) =
        ap length (left_first id ids there ∙ ap (λ l. id ∷ l) are_run.ids_are) in
        let both = length-append (ids_onward (id + 1) run) (without_number id rest) in
        omega (arith, long, both)

    pub run_written : (now : Written) → now ≡ with_last_ids one (ids_onward (next_after 0 (last_ids one)) run) →
        IsWrittenBelow limit before now ids (without_number id rest)
    run_written now e = record {
      given = id ∷ ids_onward (id + 1) run;
      ids_are = left_first id ids there ∙ ap (λ l. id ∷ l) are_run.ids_are;
      now_is = e ∙ (λ i. with_last_ids (is i) (ids_onward (next i) run));
      below = (within, below_all run are_run.below);
    }

-- the limit is reached
pub begin_from : (limit : Option ℕ) (ids : List ℕ) (id : ℕ) → slice_get ids 0 ≡ Some id → BeginFrom limit (id ∷ []) →
    BeginFrom limit ids
begin_from None ids id there h = absurd (some_id h)
  where
    some_id : id ∷ [] ≡ [] → ⊥
    some_id e = cc
begin_from (Some most) [] id there h = tt
begin_from (Some most) (one ∷ ids) id there h = let same = same_Some one id there in omega (arith, same, h)

-- the list ends
pub begin_end : (limit : Option ℕ) (ids : List ℕ) → ((id : ℕ) → slice_get ids 0 ≡ Some id → ⊥) → BeginFrom limit ids
begin_end None [] h = refl
begin_end (Some most) [] h = tt
begin_end limit (id ∷ ids) h = absurd (h id refl)

-- fewer ids are left
pub fewer_written : (limit : Option ℕ) (before now : Written) (ids left : List ℕ) →
    (written : IsWrittenBelow limit before now ids left) → length left ≤ length ids
fewer_written limit before now ids left written =
    let long = ap length written.ids_are in
    let both = length-append written.given left in
    omega (arith, long, both)

-- ---- the lists of a trigram

or_swap : (one other : Bool) → (one || other) ≡ (other || one)
or_swap true true = refl
or_swap true false = refl
or_swap false true = refl
or_swap false false = refl

swapped : (trigram : ℕ) (before now : Written) (older newer older_left newer_left : List ℕ) →
    IsMergedList trigram before now older newer older_left newer_left →
    IsMergedList trigram before now newer older newer_left older_left
swapped trigram before now older newer older_left newer_left state = record {
  given = state.given;
  paths = state.paths;
  names = state.names;
  lists = state.lists;
  sent = state.sent;
  each = λ n. ap (λ b. has state.given n || b) (or_swap (has newer_left n) (has older_left n)) ∙ state.each n
      ∙ or_swap (has older n) (has newer n);
  older_rise = state.newer_rise;
  newer_rise = state.older_rise;
}

next_within : (limit : Option ℕ) (most next : ℕ) (given : List ℕ) → limit ≡ Some most → next ≤ most →
    AllByRecursion (IsBelow limit) given → next_after next given ≤ most
next_within limit most next [] e from all = from
next_within limit most next (id ∷ given) e from all =
    let below = all.0 most e in next_within limit most (id + 1) given e (omega (arith, below)) all.1

module _ (trigram : ℕ) (before now : Written) (older newer older_left newer_left : List ℕ)
    (state : IsMergedList trigram before now older newer older_left newer_left) (below : AllBelow before.lists trigram)
    (begun : now.last_trigram ≡ Some trigram) where
  last : last_ids now ≡ state.given
  last = ap (λ o. option_map_or (ids_of now.lists) o []) begun ∙ ap (λ lists. ids_of lists trigram) state.lists
      ∙ ids_of_more trigram before.lists state.given below

  pub older_up : AscendWithin (length now.names) (next_after 0 (last_ids now)) older_left
  older_up = subst (λ (names : List (List ℕ)). AscendWithin (length names) (next_after 0 (last_ids now)) older_left)
      (sym state.names) (subst (λ ids. AscendWithin (length before.names) (next_after 0 ids) older_left) (sym last)
      state.older_rise)

  pub older_written : (after : Written) (rest : List ℕ) →
      IsWrittenBelow (slice_get newer_left 0) now after older_left rest →
      IsMergedList trigram before after older newer rest newer_left
  older_written after rest written = record {
    given = state.given ++ written.given;
    paths = ap (λ (w : Written). w.paths) all ∙ state.paths;
    names = ap (λ (w : Written). w.names) all ∙ state.names;
    lists = ap (λ (w : Written). w.lists) all;
    sent = ap (λ (w : Written). w.sent) all ∙ state.sent;
    each = λ n.
        ap (λ b. b || (has rest n || has newer_left n)) (has_both state.given written.given n)
        ∙ given_older (has state.given n) (has written.given n) (has rest n) (has newer_left n)
        ∙ ap (λ b. has state.given n || (b || has newer_left n)) (sym (has_both written.given rest n))
        ∙ ap (λ l. has state.given n || (has l n || has newer_left n)) (sym written.ids_are)
        ∙ state.each n;
    older_rise = subst (λ m. AscendWithin (length before.names) m rest) (sym ends)
        (rise_behind (length before.names) (next_after 0 state.given) written.given rest
        (subst (AscendWithin (length before.names) (next_after 0 state.given)) written.ids_are state.older_rise));
    newer_rise = behind newer_left state.newer_rise refl;
  }
    where
      all : after ≡ record {
        paths = now.paths;
        names = now.names;
        lists = before.lists ++ list_of trigram (state.given ++ written.given);
        last_trigram = now.last_trigram;
        sent = now.sent;
      }
      all = written.now_is ∙ with_more trigram now before.lists state.given written.given begun state.lists below

      ends : next_after 0 (state.given ++ written.given) ≡ next_after (next_after 0 state.given) written.given
      ends = next_append 0 state.given written.given

      behind : (others : List ℕ) → AscendWithin (length before.names) (next_after 0 state.given) others →
          others ≡ newer_left → AscendWithin (length before.names) (next_after 0 (state.given ++ written.given)) others
      behind [] up same = tt
      behind (other ∷ others) up same =
          let limit : slice_get newer_left 0 ≡ Some other = ap (λ l. slice_get l 0) (sym same) in
          let within = next_within (slice_get newer_left 0) other (next_after 0 state.given) written.given limit up.0
          written.below in
          (omega (arith, within, ends), up.1, up.2)

module _ (trigram : ℕ) (before now : Written) (older newer older_left newer_left : List ℕ)
    (state : IsMergedList trigram before now older newer older_left newer_left) (below : AllBelow before.lists trigram)
    (begun : now.last_trigram ≡ Some trigram) where
  pub newer_up : AscendWithin (length now.names) (next_after 0 (last_ids now)) newer_left
  newer_up = older_up trigram before now newer older newer_left older_left
      (swapped trigram before now older newer older_left newer_left state) below begun

  pub newer_written : (after : Written) (rest : List ℕ) →
      IsWrittenBelow (slice_get older_left 0) now after newer_left rest →
      IsMergedList trigram before after older newer older_left rest
  newer_written after rest written = swapped trigram before after newer older rest older_left
      (older_written trigram before now newer older newer_left older_left
      (swapped trigram before now older newer older_left newer_left state) below begun after rest written)

-- the first id of the newer list is the lowest, if no id of the older one is below it
pub lowest_is : (older newer : List ℕ) (id : ℕ) → BeginFrom (Some id) older → slice_get newer 0 ≡ Some id →
    lower_of (slice_get older 0) (slice_get newer 0) ≡ Some id
lowest_is [] newer id from there = there
lowest_is (one ∷ older) newer id from there =
    ap (lower_of (Some one)) there ∙ by_test
  where
    by_test : lower_of (Some one) (Some id) ≡ Some id
    by_test = elim (cases_Bool (ltb id one)) [
      | inl lower ↦ ap (λ b. cond b (Some id) (Some one)) lower
      | inr from' ↦
          let least = ltb-false id one from' in
          let same : one ≡ id = omega (arith, least, from) in
          ap (λ b. cond b (Some id) (Some one)) from' ∙ ap Some same
    ]
