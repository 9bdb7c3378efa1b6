-- Runs that a tree matches, and the words that every matching line contains.
use Rattle.std.proofs.Common.{◌≡◌, ℕ, suc, ◌+◌, ◌-◌, ◌<◌, ◌≤◌, inl, inr, Bool, true, false, ◌&&◌, nat_eq, List, [], ◌∷◌, ◌++◌, length, take, drop, get_or, refl, sym, ap, subst, ◌∙◌, arith, length-append, length-drop, get_or-take, get_or-drop, drop_of_length-le}
use Rattle.std.specs.Prelude.{Option, Some, None, Result, Ok, Err, IfOk, IfSome, max, not, slice_index, vec_len}
use Rattle.std.proofs.lemmas.Bool.{cases_lt, and_from, not_from_false, ne_eqb, false≢true}
use Rattle.std.proofs.lemmas.List.{drop-append-le, get_or_append_left, get_or-append-add, length-take-le}
use Rattle.std.proofs.Math.Seq.{get_or-append_seam}
use Rattle.cs_syntax.specs.ByteSet.{all_bytes}
use Rattle.cs_syntax.specs.Matching.{Tree, Trees, more, one_of, rep, MatchesSpan, MatchesSequence, is_word, member, word_before, is_at_word_boundary}
use Rattle.cs_syntax.proofs.ByteSetLemmas.{set_of_at}
use Rattle.cs_syntax.specs.declared.node.Node.{Node}
use Rattle.cs_prefilter.specs.declared.word.Word.{Word}
use Rattle.cs_prefilter.specs.declared.words.Words.{Words}
use Rattle.cs_prefilter.specs.declared.runs.Runs.{Runs}
use Rattle.cs_prefilter.specs.WordAt.{IsLine, with_newline, HasWord, AreSufficient, IsPrefilterOf}
use Rattle.cs_prefilter.specs.Words.{AreAll, HasWordOf, SetsEndAt, IsBehind, RunEndsAt}
use Rattle.cs_prefilter.specs.Runs.{sets_from, current_sets, EndsAt, RunEnds, MayBeginAnywhere, KeepsBest, IsSameRun, RunsFollow, IsFollowed}
use Rattle.cs_prefilter.proofs.EdgeLemmas.{one_more, byte_in, byte_end, small_bytes, before_is, after_is, other_after, other_before}
use Rattle.cs_prefilter.proofs.SpanLemmas.{within, first_round, last_round}

pub is_a_byte : (b : ℕ) → b < 256 → member all_bytes b ≡ true
unfolding all_bytes
is_a_byte b low = set_of_at (λ x. true) b low

-- words of a list, and of a list with more words
module _ (line : List ℕ) (xs ys : List Word) where
  pub one_before : HasWord xs line → HasWord (xs ++ ys) line
  one_before h =
      let a = h.1 in
      (h.0, (a.0, a.1, omega (arith, a.2, length-append xs ys), get_or_append_left xs ys a.1 a.0 a.2 ∙ a.3, a.4))

  pub one_after : HasWord ys line → HasWord (xs ++ ys) line
  one_after h =
      let a = h.1 in
      (h.0, (length xs + a.0, a.1, omega (arith, a.2, length-append xs ys), get_or-append-add xs ys a.0 a.1 ∙ a.3, a.4))

module _ (text : List ℕ) where
  -- a part of the run that ends at an offset
  pub part_occurs : (before : List Bool) (run : List (List Bool)) (j from n : ℕ) (word : Word) → RunEndsAt text before run j →
      from + n ≤ length run → word.sets.items ≡ take n (drop from run) → (from ≡ 0 → word.before ≡ before) →
      (0 < from → word.before ≡ all_bytes) → HasWord (word ∷ []) text
  part_occurs before run j from n word r within is first later =
      let e = r.ends in
      let long : length word.sets.items ≡ n = ap length is ∙ length-take-le n (drop from run) (omega (arith, length-drop from run)) in (
        e.start + from,
        (
          0,
          word,
          omega arith,
          refl,
          record {
            before = λ some. elim (cases_lt 0 from) [
              | inl inside ↦ ap (λ set. member set (slice_index text (e.start + from - 1))) (later inside)
                  ∙ is_a_byte (slice_index text (e.start + from - 1)) (r.bytes (e.start + from - 1))
              | inr here ↦
                  let none : from ≡ 0 = omega (arith, here) in
                  let there : e.start + from - 1 ≡ e.start - 1 = omega (arith, none) in
                  ap (λ set. member set (slice_index text (e.start + from - 1))) (first none)
                  ∙ ap (λ k. member before (slice_index text k)) there ∙ r.behind (omega (arith, some, none))
            ];
            within = omega (arith, e.within, e.long, long);
            each = λ i d low.
                let there : e.start + (from + i) ≡ e.start + from + i = omega arith in
                let low_n : i < n = omega (arith, long) in
                ap (λ p. member (get_or word.sets.items i d) (slice_index text p)) (sym there)
                ∙ ap (λ sets. member (get_or sets i d) (slice_index text (e.start + (from + i)))) is
                ∙ ap (λ s. member s (slice_index text (e.start + (from + i)))) (get_or-take n (drop from run) i d low_n
                ∙ get_or-drop from run i d)
                ∙ e.each (from + i) d (omega (arith, low_n));
          },
        ),
      )

  abbrev ends_empty : (i : ℕ) → i ≤ length text → SetsEndAt text [] i
  ends_empty i le = record { within = le; start = i; long = omega arith; each = λ k d lt. absurd (omega arith) }

  abbrev ends_more : (sets : List (List Bool)) (set : List Bool) (i j : ℕ) → SetsEndAt text sets i → i < length text →
      member set (slice_index text i) ≡ true → j ≡ suc i → SetsEndAt text (sets ++ set ∷ []) j
  ends_more sets set i j e lt is next =
      let long : length (sets ++ set ∷ []) ≡ suc (length sets) = omega (arith, length-append sets (set ∷ [])) in
      record {
        within = omega (arith, lt);
        start = e.start;
        long = omega (arith, e.long);
        each = λ k d low. elim (cases_lt k (length sets)) [
          | inl before ↦ ap (λ s. member s (slice_index text (e.start + k)))
              (get_or_append_left sets (set ∷ []) d k before) ∙ e.each k d before
          | inr after ↦
              let last : k ≡ length sets = omega arith in
              let at : e.start + k ≡ i = omega (arith, e.long) in
              ap (λ s. member s (slice_index text (e.start + k))) (ap (λ n. get_or (sets ++ set ∷ []) n d) last
              ∙ get_or-append_seam sets set [] d)
              ∙ ap (λ p. member set (slice_index text p)) at ∙ is
        ];
      }

  abbrev ends_same : (v w : List (List Bool)) (i j : ℕ) → v ≡ w → i ≡ j → SetsEndAt text v i → SetsEndAt text w j
  ends_same v w i j same to e =
      let size = ap length same in
      record {
        within = omega (arith, e.within, to);
        start = e.start;
        long = omega (arith, e.long, size, to);
        each = λ k d low. ap (λ (sets : List (List Bool)). member (get_or sets k d) (slice_index text (e.start + k))) (sym same)
            ∙ e.each k d (omega (arith, low, size));
      }

module _ (line : List ℕ) (runs : Runs) (j : ℕ) (e : RunEnds runs line j) where
  -- the current run in the line with its newline
  abbrev pub to_newline : RunEndsAt (with_newline line) runs.before (current_sets runs) j
  to_newline = record {
    bytes = small_bytes line e.is_line;
    ends = record {
      within = omega (arith, e.ends.within, one_more line);
      start = e.ends.start;
      long = e.ends.long;
      each = λ k d low. ap (member (get_or (current_sets runs) k d))
          (byte_in line (e.ends.start + k) (omega (arith, low, e.ends.long, e.ends.within))) ∙ e.ends.each k d low;
    };
    behind = λ some. ap (member runs.before) (byte_in line (e.ends.start - 1) (omega (arith, some, e.ends.long, e.ends.within)))
        ∙ e.before refl some;
  }

  -- the same with the set of the byte that follows
  pub to_next : (set : List Bool) → member set (slice_index (with_newline line) j) ≡ true →
      RunEndsAt (with_newline line) runs.before (current_sets runs ++ set ∷ []) (suc j)
  to_next set is = record {
    bytes = to_newline.bytes;
    ends = ends_more (with_newline line) (current_sets runs) set j (suc j) to_newline.ends
        (omega (arith, e.ends.within, one_more line)) is refl;
    behind = to_newline.behind;
  }

-- a run with the same sets
module _ (line : List ℕ) (old new : Runs) (from to i j : ℕ) (sets : sets_from from old ≡ sets_from to new) (still : i ≡ j)
    (e : EndsAt line old from i) where
  abbrev pub same_ends : (to ≡ new.start → IsBehind new.before line e.ends.start) →
      (to ≡ new.start → new.is_at_edge ≡ true → is_at_word_boundary line e.ends.start ≡ true) → EndsAt line new to j
  same_ends before edge = record {
    is_line = e.is_line;
    ends = ends_same line (sets_from from old) (sets_from to new) i j sets still e.ends;
    before = before;
    edge = edge;
  }

-- the current run
abbrev current_ends : (line : List ℕ) (runs : Runs) (from i : ℕ) → from ≡ runs.start → EndsAt line runs from i → RunEnds runs line i
current_ends line runs from i is e = same_ends line runs runs from runs.start i i (ap (λ n. sets_from n runs) is) refl e
    (λ at. e.before is) (λ at. e.edge is)

pub same_run_ends : (line : List ℕ) (old new : Runs) (i : ℕ) → IsSameRun old new → RunEnds old line i → RunEnds new line i
same_run_ends line old new i run e = same_ends line old new old.start new.start i i
    (ap (drop old.start) (sym run.sets) ∙ ap (λ n. sets_from n new) (sym run.start)) refl e
    (λ at. subst (λ set. IsBehind set line e.ends.start) (sym run.before) (e.before refl))
    (λ at is. e.edge refl (sym run.edge ∙ is))

pub all_behind : (line : List ℕ) (set : List Bool) (k : ℕ) → IsLine line → set ≡ all_bytes → IsBehind set line k
all_behind line set k is_line is some = ap (λ s. member s (slice_index line (k - 1))) is ∙ is_a_byte (slice_index line (k - 1)) (is_line (k - 1)).0

-- nothing is known of the byte before a run that begins next
pub begins_anywhere : (runs : Runs) → (vec_len runs.sets ≡ runs.start → (runs.before ≡ all_bytes) × (runs.is_at_edge ≡ false)) →
    MayBeginAnywhere runs
begins_anywhere runs unknown line i is_line le =
    let none : [] ≡ sets_from (vec_len runs.sets) runs =
    sym (drop_of_length-le runs.sets.items {i = vec_len runs.sets} (omega arith)) in
    record {
      is_line = is_line;
      ends = ends_same line [] (sets_from (vec_len runs.sets) runs) i i none refl (ends_empty line i le);
      before = λ at. all_behind line runs.before i is_line (unknown at).0;
      edge = λ at is. absurd (false≢true (sym (unknown at).1 ∙ is));
    }

-- a part that matches no byte, and leaves the sets as they are
pub follow_still : (T : List ℕ → ℕ → ℕ → Type 0) (old new : Runs) → ((line : List ℕ) (i j : ℕ) → T line i j → i ≡ j) →
    new.sets.items ≡ old.sets.items → new.start ≡ old.start →
    ((line : List ℕ) (i j : ℕ) → T line i j → (e : RunEnds old line i) → IsBehind new.before line e.ends.start) →
    ((line : List ℕ) (i j : ℕ) → T line i j → (e : RunEnds old line i) → new.is_at_edge ≡ true →
    is_at_word_boundary line e.ends.start ≡ true) →
    ((line : List ℕ) (i j : ℕ) → T line i j → RunEnds old line i → HasWordOf line old.best → HasWordOf line new.best) →
    RunsFollow T old new
follow_still T old new still sets start before edge best = record {
  rises = omega (arith, start);
  grows = omega (arith, ap length sets);
  ends = λ from low high line i j h e.
      let to : from ≡ max from new.start = omega (arith, start) in
      let here : max from new.start ≡ new.start → from ≡ old.start = λ at. to ∙ at ∙ start in
      same_ends line old new from (max from new.start) i j (ap (drop from) (sym sets) ∙ ap (λ n. sets_from n new) to) (still line i j h) e
      (λ at. before line i j h (current_ends line old from i (here at) e))
      (λ at. edge line i j h (current_ends line old from i (here at) e));
  best = best;
}

-- the same run, and better words
pub follow_same_run : (T : List ℕ → ℕ → ℕ → Type 0) (old new : Runs) → ((line : List ℕ) (i j : ℕ) → T line i j → i ≡ j) →
    IsSameRun old new →
    ((line : List ℕ) (i j : ℕ) → T line i j → RunEnds old line i → HasWordOf line old.best → HasWordOf line new.best) →
    RunsFollow T old new
follow_same_run T old new still run best = follow_still T old new still run.sets run.start
    (λ line i j h e. subst (λ set. IsBehind set line e.ends.start) (sym run.before) (e.before refl))
    (λ line i j h e is. e.edge refl (sym run.edge ∙ is)) best

pub follow_none : (T : List ℕ → ℕ → ℕ → Type 0) → ((line : List ℕ) (i j : ℕ) → T line i j → i ≡ j) → (runs : Runs) → RunsFollow T runs runs
follow_none T still runs = follow_same_run T runs runs still (record { sets = refl; start = refl; before = refl; edge = refl })
    (λ line i j h e has. has)

-- one more set, without the newline
pub follow_set : (set kept : List Bool) (old new : Runs) →
    ((b : ℕ) → b < 256 → member kept b ≡ (member set b && not (nat_eq b 10))) →
    new.sets.items ≡ old.sets.items ++ kept ∷ [] → new.start ≡ old.start → new.is_at_edge ≡ old.is_at_edge →
    new.best ≡ old.best →
    ((line : List ℕ) (i : ℕ) (e : RunEnds old line i) → i < length line → member set (slice_index line i) ≡ true →
    IsBehind new.before line e.ends.start) →
    RunsFollow (λ line i j. MatchesSpan line (one_of set) i j) old new
follow_set set kept old new without sets start edge best before = record {
  rises = omega (arith, start);
  grows = omega (arith, ap length sets, length-append old.sets.items (kept ∷ []));
  ends = λ from low high line i j h e.
      let to : from ≡ max from new.start = omega (arith, start) in
      let here : max from new.start ≡ new.start → from ≡ old.start = λ at. to ∙ at ∙ start in
      let b = slice_index line i in
      let in_kept : member kept b ≡ true = without b (e.is_line i).0
      ∙ and_from (member set b) (not (nat_eq b 10)) h.1 (not_from_false (nat_eq b 10) (ne_eqb b 10 (e.is_line i).1)) in
      let is : sets_from from old ++ kept ∷ [] ≡ sets_from (max from new.start) new =
      sym (drop-append-le from old.sets.items (kept ∷ []) high) ∙ ap (drop from) (sym sets) ∙ ap (λ n. sets_from n new) to in
      record {
        is_line = e.is_line;
        ends = ends_same line (sets_from from old ++ kept ∷ []) (sets_from (max from new.start) new) j j is refl
            (ends_more line (sets_from from old) kept i j e.ends h.0 in_kept h.2);
        before = λ at. before line i (current_ends line old from i (here at) e) h.0 h.1;
        edge = λ at on. e.edge (here at) (sym edge ∙ on);
      };
  best = λ line i j h e has. subst (HasWordOf line) (sym best) has;
}

-- the run ends, and nothing is known of the bytes that the part matches
pub follow_cut : (T : List ℕ → ℕ → ℕ → Type 0) (old new : Runs) → new.sets.items ≡ old.sets.items → new.start ≡ vec_len new.sets →
    MayBeginAnywhere new → ((line : List ℕ) (i j : ℕ) → T line i j → i ≤ length line → j ≤ length line) →
    ((line : List ℕ) (i j : ℕ) → RunEnds old line i → T line i j → HasWordOf line old.best → HasWordOf line new.best) →
    RunsFollow T old new
follow_cut T old new sets start anywhere inside best = record {
  rises = omega (arith, start, old.within, ap length sets);
  grows = omega (arith, ap length sets);
  ends = λ from low high line i j h e.
      let to : vec_len new.sets ≡ max from new.start = omega (arith, start, ap length sets) in
      subst (λ n. EndsAt line new n j) to (anywhere line j e.is_line (inside line i j h e.ends.within));
  best = λ line i j h e has. best line i j e h has;
}

-- the current run ends where the span of the part ends
pub run_ends : (T : List ℕ → ℕ → ℕ → Type 0) (old new : Runs) → RunsFollow T old new → (line : List ℕ) (i j : ℕ) →
    T line i j → RunEnds old line i → RunEnds new line j
run_ends T old new f line i j h e =
    let to : max old.start new.start ≡ new.start = omega (arith, f.rises) in
    subst (λ n. EndsAt line new n j) to (f.ends old.start (omega arith) (omega (arith, old.within)) line i j h e)

-- one part after another
pub follow_both : (S T U : List ℕ → ℕ → ℕ → Type 0) (first next last : Runs) → RunsFollow S first next → RunsFollow T next last →
    ((line : List ℕ) (i j : ℕ) → U line i j → (l : ℕ) × S line i l × T line l j) → RunsFollow U first last
follow_both S T U first next last f g split = record {
  rises = omega (arith, f.rises, g.rises);
  grows = omega (arith, f.grows, g.grows);
  ends = λ from low high line i j h e.
      let both = split line i j h in
      let to : max (max from next.start) last.start ≡ max from last.start = omega (arith, g.rises) in
      subst (λ n. EndsAt line last n j) to
      (g.ends (max from next.start) (omega arith) (omega (arith, f.grows, next.within)) line both.0 j both.2
      (f.ends from low high line i both.0 both.1 e));
  best = λ line i j h e has.
      let both = split line i j h in
      g.best line both.0 j both.2 (run_ends S first next f line i both.0 both.1 e) (f.best line i both.0 both.1 e has);
}

-- at least one iteration
pub follow_rounds : (x : Tree) (n at : ℕ) (m : Option ℕ) (first next last : Runs) → 0 < n → at ≡ vec_len first.sets →
    MayBeginAnywhere first → RunsFollow (λ line i j. MatchesSpan line x i j) first next →
    last.sets.items ≡ next.sets.items → last.start ≡ max next.start at →
    ((line : List ℕ) (j : ℕ) → EndsAt line next (max at next.start) j → RunEnds last line j) → KeepsBest next last →
    RunsFollow (λ line i j. MatchesSpan line (rep x n m) i j) first last
follow_rounds x n at m first next last some behind anywhere f sets start ends best = record {
  rises = omega (arith, f.rises, start);
  grows = omega (arith, f.grows, ap length sets);
  ends = λ from low high line i j h e.
      let to : last.start ≡ max from last.start = omega (arith, start, behind) in
      let round = last_round line x n m i j some h e.ends.within in
      let none_yet : EndsAt line first at round.0 = subst (λ k. EndsAt line first k round.0) (sym behind)
      (anywhere line round.0 e.is_line round.1) in
      subst (λ k. EndsAt line last k j) to
      (ends line j (f.ends at (omega (arith, behind, first.within)) (omega (arith, behind)) line round.0 j round.2 none_yet));
  best = λ line i j h e has.
      let round = first_round line x n m i j some h in
      best line round.0 (run_ends _ first next f line i round.0 round.1 e) (f.best line i round.0 round.1 e has);
}

-- the run goes on, or began anywhere
pub branch_ends : (line : List ℕ) (old new : Runs) (i : ℕ) → new.start ≡ 0 → new.sets.items ≡ drop old.start old.sets.items →
    new.before ≡ old.before → new.is_at_edge ≡ old.is_at_edge → RunEnds old line i → RunEnds new line i
branch_ends line old new i start sets before edge e = same_ends line old new old.start new.start i i
    (sym sets ∙ ap (λ n. sets_from n new) (sym start)) refl e
    (λ at. subst (λ set. IsBehind set line e.ends.start) (sym before) (e.before refl))
    (λ at is. e.edge refl (sym edge ∙ is))

pub begins_here : (line : List ℕ) (runs : Runs) (i : ℕ) → runs.start ≡ vec_len runs.sets → MayBeginAnywhere runs → IsLine line →
    i ≤ length line → RunEnds runs line i
begins_here line runs i start anywhere is here = subst (λ n. EndsAt line runs n i) (sym start) (anywhere line i is here)

-- fewer spans
pub follow_fewer : (T U : List ℕ → ℕ → ℕ → Type 0) (old new : Runs) → ((line : List ℕ) (i j : ℕ) → U line i j → T line i j) →
    RunsFollow T old new → RunsFollow U old new
follow_fewer T U old new fewer f = record {
  rises = f.rises;
  grows = f.grows;
  ends = λ from low high line i j h e. f.ends from low high line i j (fewer line i j h) e;
  best = λ line i j h e has. f.best line i j (fewer line i j h) e has;
}

-- the same for an equal tree, whatever follows it
pub follow_same : (t u : Tree) (after : List Node) (old new : Runs) → t ≡ u → RunsFollow (λ line i j. MatchesSpan line u i j) old new →
    RunsFollow (IsFollowed after (λ line i j. MatchesSpan line t i j)) old new
follow_same t u after old new e f = follow_fewer _ _ old new (λ line i j h. subst (λ (v : Tree). MatchesSpan line v i j) e h.0) f

-- where runs end, with words that the line contains, and trees that it matches from there on
pub record GoesOn (line : List ℕ) (runs : Runs) (ts : Trees) (j : ℕ) : Type 0 where
  pub at : ℕ
  pub run : RunEnds runs line at
  pub rest : MatchesSequence line ts at j
  pub has : HasWordOf line runs.best

pub goes_on : (t u : Tree) (ts : Trees) (old new : Runs) (line : List ℕ) (j : ℕ) → t ≡ u → RunsFollow (λ line i j. MatchesSpan line u i j) old new →
    GoesOn line old (more t ts) j → GoesOn line new ts j
goes_on t u ts old new line j e f g =
    let span = subst (λ (v : Tree). MatchesSpan line v g.at g.rest.0) e g.rest.1 in record {
      at = g.rest.0;
      run = run_ends _ old new f line g.at g.rest.0 span g.run;
      rest = g.rest.2;
      has = f.best line g.at g.rest.0 span g.run g.has;
    }

-- words that every span has to contain are required
pub required : (t : Tree) (words : Option Words) (prefilter : Option (List Word × Bool)) →
    ((line : List ℕ) (i j : ℕ) → IsLine line → i ≤ length line → MatchesSpan line t i j → HasWordOf line words) →
    ((line : List ℕ) → HasWordOf line words → IfSome prefilter (λ p. HasWord p.0 (with_newline line))) →
    IfSome prefilter (λ p. p.1 ≡ true → AreSufficient t p.0) → IfSome prefilter (IsPrefilterOf t)
required t words None has by all = tt
required t words (Some p) has by all = record {
  required = λ line is found. by line (has line found.0 found.1 is (omega (arith, found.2, found.3)) found.4);
  sufficient = all;
}

-- the same unless there is no memory
pub required_ok : {E : Type 0} (t : Tree) (words : Option Words) (result : Result (Option (List Word × Bool)) E) →
    ((line : List ℕ) (i j : ℕ) → IsLine line → i ≤ length line → MatchesSpan line t i j → HasWordOf line words) →
    IfOk result (λ prefilter. (line : List ℕ) → HasWordOf line words → IfSome prefilter (λ p. HasWord p.0 (with_newline line))) →
    IfOk result (λ prefilter. IfSome prefilter (λ p. p.1 ≡ true → AreSufficient t p.0)) →
    IfOk result (λ prefilter. IfSome prefilter (IsPrefilterOf t))
required_ok t words (Ok prefilter) has by all = required t words prefilter has by all
required_ok t words (Err e) has by all = tt

-- the last byte of a run whose last set has word bytes alone
pub last_is_word : (line : List ℕ) (runs : Runs) (i : ℕ) → RunEnds runs line i → runs.start < vec_len runs.sets →
    AreAll true (get_or runs.sets.items (vec_len runs.sets - 1) []) → (0 < i) × (is_word (slice_index line (i - 1)) ≡ true)
last_is_word line runs i e some all =
    let size = length-drop runs.start runs.sets.items in
    let last = vec_len runs.sets - 1 - runs.start in
    let there : e.ends.start + last ≡ i - 1 = omega (arith, e.ends.long, size, some) in
    let set : runs.start + last ≡ vec_len runs.sets - 1 = omega (arith, some) in (
      omega (arith, e.ends.long, size, some),
      all (slice_index line (i - 1)) (ap (λ k. member (get_or runs.sets.items (vec_len runs.sets - 1) []) (slice_index line k)) (sym there)
          ∙ ap (λ n. member (get_or runs.sets.items n []) (slice_index line (e.ends.start + last))) (sym set)
          ∙ ap (λ s. member s (slice_index line (e.ends.start + last))) (sym (get_or-drop runs.start runs.sets.items last []))
          ∙ e.ends.each last [] (omega (arith, size, some))),
    )

-- the run begins at the edge of a word, with a word byte
pub behind_edge : (line : List ℕ) (runs : Runs) (i : ℕ) (set other : List Bool) (e : RunEnds runs line i) →
    runs.start ≡ vec_len runs.sets → runs.is_at_edge ≡ true → AreAll true set →
    ((b : ℕ) → b < 256 → member other b ≡ not (is_word b)) → i < length line → member set (slice_index line i) ≡ true →
    IsBehind other line e.ends.start
behind_edge line runs i set other e empty edge all is low inside some =
    let at : e.ends.start ≡ i = omega (arith, e.ends.long, length-drop runs.start runs.sets.items, empty) in
    let edge_at : is_at_word_boundary line i ≡ true = subst (λ k. is_at_word_boundary line k ≡ true) at (e.edge refl edge) in
    let none : word_before line i ≡ false = other_before line i edge_at (after_is line i low ∙ all (slice_index line i) inside) in
    let byte : is_word (slice_index line (i - 1)) ≡ false = sym (before_is line i (omega (arith, some, at)) (omega (arith, low))) ∙ none in
    ap (λ k. member other (slice_index line (k - 1))) at ∙ is (slice_index line (i - 1)) (e.is_line (i - 1)).0 ∙ ap not byte

-- behind a word byte at an edge no word byte follows
pub next_edge : (line : List ℕ) (i : ℕ) (other : List Bool) → IsLine line → ((b : ℕ) → b < 256 → member other b ≡ not (is_word b)) →
    0 < i → i ≤ length line → is_word (slice_index line (i - 1)) ≡ true → is_at_word_boundary line i ≡ true →
    member other (slice_index (with_newline line) i) ≡ true
next_edge line i other is_line is some le word edge =
    is (slice_index (with_newline line) i) (small_bytes line is_line i) ∙ ap not (elim (cases_lt i (length line)) [
      | inl low ↦ ap is_word (byte_in line i low) ∙ sym (after_is line i low) ∙ other_after line i edge (before_is line i some le ∙ word)
      | inr past ↦
          let end : i ≡ length line = omega (arith, past, le) in
          ap is_word (byte_end line i end)
    ])
