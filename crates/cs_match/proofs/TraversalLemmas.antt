-- The two traversals of the parts: what a part needs of the position set and of the loop flags, and what one more
-- part adds.
use Rattle.std.proofs.Common.{◌≡◌, ℕ, zero, suc, ◌+◌, ◌-◌, ◌≤◌, ◌<◌, ◌++◌, ◌||◌, ◌&&◌, List, [], ◌∷◌, Bool, true, false, take, drop, set, length, get_or, refl, sym, ◌∙◌, ap, arith, append_assoc, length-append, length-drop}
use Rattle.std.proofs.Math.Bool.{and-false, and-true, or-false, or-true, or_assoc}
use Rattle.std.proofs.Math.ListN.{drop_of_length-le}
use Rattle.std.proofs.Math.Seq.{sets, sets-eq, set_comm, take-take, get_or-take}
use Rattle.std.proofs.lemmas.List.{append-nil, take-append-drop, drop-drop, drop-take, length-take, get_or-drop, take_at, drop_at}
use Rattle.cs_syntax.specs.Matching.{Tree, Trees, one_of, one_char, cat, alt, rep, none, more}
use Rattle.cs_match.specs.declared.state.LookAround.{LookAround}
use Rattle.cs_match.specs.Glushkov.{position_count, position_count_of, repeats, repeats_of, nullable, nullable_all, nullable_some, is_final, is_final_all, is_final_some, accepts, loop_ends, loop_ends_of}
use Rattle.cs_match.specs.Entered.{entered, entered_all, entered_each, AreShifted}
use Rattle.cs_match.specs.Parts.{run, optional_run, options, HaveSameShape}
use Rattle.cs_match.proofs.GlushkovLemmas.{cat_bools, alt_bools}
use Rattle.cs_match.proofs.EnteredLemmas.{length-entered}
use Rattle.cs_match.proofs.ShapeLemmas.{entered_run, is_final_run, position_count_run, repeats_run, loop_ends_run}

-- the elements with an index from p up to n
prefix_drop : (p n : ℕ) (ms : List Bool) → p ≤ n → drop p (take n ms) ≡ take (n - p) (drop p ms)
prefix_drop p n ms le =
    let m = n - p in
    let e : n ≡ p + m = omega arith in
    ap (λ k. drop p (take k ms)) e ∙ drop-take p m ms

-- a tree reads only its own positions
mutual
  is_final-take : (t : Tree) (n : ℕ) (ms : List Bool) (a : LookAround) → position_count t ≤ n → is_final t (take n ms) a ≡ is_final t ms a
  is_final-take (one_of set) n ms a le = get_or-take n ms 0 false (omega arith)
  is_final-take (one_char ranges) n ms a le = get_or-take n ms 1 false (omega arith)
  is_final-take (cat ts) n ms a le = is_final_all-take ts n ms a le
  is_final-take (alt ts) n ms a le = is_final_some-take ts n ms a le
  is_final-take (rep x k m) n ms a le = is_final-take x n ms a le
  is_final-take leaf n ms a le = refl

  is_final_all-take : (ts : Trees) (n : ℕ) (ms : List Bool) (a : LookAround) → position_count_of ts ≤ n →
      is_final_all ts (take n ms) a ≡ is_final_all ts ms a
  is_final_all-take none n ms a le = refl
  is_final_all-take (more t ts) n ms a le =
      rw (
        take-take (position_count t) n ms (omega arith),
        prefix_drop (position_count t) n ms (omega arith),
        is_final_all-take ts (n - position_count t) (drop (position_count t) ms) a (omega arith),
      ) refl

  is_final_some-take : (ts : Trees) (n : ℕ) (ms : List Bool) (a : LookAround) → position_count_of ts ≤ n →
      is_final_some ts (take n ms) a ≡ is_final_some ts ms a
  is_final_some-take none n ms a le = refl
  is_final_some-take (more t ts) n ms a le =
      rw (
        take-take (position_count t) n ms (omega arith),
        prefix_drop (position_count t) n ms (omega arith),
        is_final_some-take ts (n - position_count t) (drop (position_count t) ms) a (omega arith),
      ) refl

mutual
  entered-take : (t : Tree) (enter : Bool) (n : ℕ) (ms : List Bool) (a : LookAround) → position_count t ≤ n →
      entered t enter (take n ms) a ≡ entered t enter ms a
  entered-take (one_char ranges) enter n ms a le = rw (get_or-take n ms 0 false (omega arith)) refl
  entered-take (cat ts) enter n ms a le = entered_all-take ts enter n ms a le
  entered-take (alt ts) enter n ms a le = entered_each-take ts enter n ms a le
  entered-take (rep x k m) enter n ms a le = rw (is_final-take x n ms a le) (entered-take x (enter || is_final x ms a) n ms a le)
  entered-take leaf enter n ms a le = refl

  entered_all-take : (ts : Trees) (enter : Bool) (n : ℕ) (ms : List Bool) (a : LookAround) → position_count_of ts ≤ n →
      entered_all ts enter (take n ms) a ≡ entered_all ts enter ms a
  entered_all-take none enter n ms a le = refl
  entered_all-take (more t ts) enter n ms a le =
      rw (
        take-take (position_count t) n ms (omega arith),
        prefix_drop (position_count t) n ms (omega arith),
        entered_all-take ts (accepts t enter (take (position_count t) ms) a) (n - position_count t)
            (drop (position_count t) ms) a (omega arith),
      ) refl

  entered_each-take : (ts : Trees) (enter : Bool) (n : ℕ) (ms : List Bool) (a : LookAround) → position_count_of ts ≤ n →
      entered_each ts enter (take n ms) a ≡ entered_each ts enter ms a
  entered_each-take none enter n ms a le = refl
  entered_each-take (more t ts) enter n ms a le =
      rw (
        take-take (position_count t) n ms (omega arith),
        prefix_drop (position_count t) n ms (omega arith),
        entered_each-take ts enter (n - position_count t) (drop (position_count t) ms) a (omega arith),
      ) refl

is_final-prefix : (t : Tree) (ms : List Bool) (a : LookAround) → is_final t (take (position_count t) ms) a ≡ is_final t ms a
is_final-prefix t ms a = is_final-take t (position_count t) ms a (omega arith)

accepts-prefix : (t : Tree) (enter : Bool) (ms : List Bool) (a : LookAround) →
    accepts t enter (take (position_count t) ms) a ≡ accepts t enter ms a
accepts-prefix t enter ms a = ap (λ l. l || (enter && nullable t a)) (is_final-prefix t ms a)

entered-prefix : (t : Tree) (enter : Bool) (ms : List Bool) (a : LookAround) →
    entered t enter (take (position_count t) ms) a ≡ entered t enter ms a
entered-prefix t enter ms a = entered-take t enter (position_count t) ms a (omega arith)

-- a concatenation or an alternation is its first part and the others
accepts_cat : (t : Tree) (ts : Trees) (enter : Bool) (ms : List Bool) (a : LookAround) →
    accepts (cat (more t ts)) enter ms a ≡ accepts (cat ts) (accepts t enter ms a) (drop (position_count t) ms) a
accepts_cat t ts enter ms a =
    rw (is_final-prefix t ms a) (cat_bools (is_final t ms a) (nullable_all ts a)
    (is_final_all ts (drop (position_count t) ms) a) enter (nullable t a))

accepts_alt : (t : Tree) (ts : Trees) (enter : Bool) (ms : List Bool) (a : LookAround) →
    accepts (alt (more t ts)) enter ms a ≡ (accepts t enter ms a || accepts (alt ts) enter (drop (position_count t) ms) a)
accepts_alt t ts enter ms a =
    rw (is_final-prefix t ms a) (alt_bools (is_final t ms a) (is_final_some ts (drop (position_count t) ms) a) enter
    (nullable t a) (nullable_some ts a))

entered_cat : (t : Tree) (ts : Trees) (enter : Bool) (ms : List Bool) (a : LookAround) →
    entered_all (more t ts) enter ms a ≡ entered t enter ms a ++ entered_all ts (accepts t enter ms a) (drop (position_count t) ms) a
entered_cat t ts enter ms a = rw (entered-prefix t enter ms a, accepts-prefix t enter ms a) refl

entered_alt : (t : Tree) (ts : Trees) (enter : Bool) (ms : List Bool) (a : LookAround) →
    entered_each (more t ts) enter ms a ≡ entered t enter ms a ++ entered_each ts enter (drop (position_count t) ms) a
entered_alt t ts enter ms a = rw (entered-prefix t enter ms a) refl

mutual
  pub length-loop_ends : (t : Tree) (ms : List Bool) (a : LookAround) → length (loop_ends t ms a) ≡ repeats t
  length-loop_ends (cat ts) ms a = length-loop_ends_of ts ms a
  length-loop_ends (alt ts) ms a = length-loop_ends_of ts ms a
  length-loop_ends (rep x n m) ms a = ap suc (length-loop_ends x ms a)
  length-loop_ends leaf ms a = refl

  length-loop_ends_of : (ts : Trees) (ms : List Bool) (a : LookAround) → length (loop_ends_of ts ms a) ≡ repeats_of ts
  length-loop_ends_of none ms a = refl
  length-loop_ends_of (more t ts) ms a =
      omega (arith, length-loop_ends t ms a, length-loop_ends_of ts (drop (position_count t) ms) a, length-append {A = Bool})

-- ---- the first traversal: flags that are written

sets-append : (l : List Bool) (i : ℕ) (vs ws : List Bool) → sets l i (vs ++ ws) ≡ sets (sets l i vs) (i + length vs) ws
sets-append l i [] ws = let e : i ≡ i + 0 = omega arith in ap (λ k. sets l k ws) e
sets-append l i (v ∷ vs) ws =
    let e : suc i + length vs ≡ i + suc (length vs) = omega arith in
    sets-append (set l i v) (suc i) vs ws ∙ ap (λ k. sets (sets (set l i v) (suc i) vs) k ws) e

set-sets : (l : List Bool) (i j : ℕ) (b : Bool) (vs : List Bool) → i < j → set (sets l j vs) i b ≡ sets (set l i b) j vs
set-sets l i j b [] lt = refl
set-sets l i j b (v ∷ vs) lt =
    set-sets (set l j v) i (suc j) b vs (omega arith) ∙ ap (λ (k : List Bool). sets k (suc j) vs)
    (set_comm l j i v b (λ e. absurd (omega arith)))

-- a repeat is noted after the repeats in its body
pub rep_noted : (l new : List Bool) (i : ℕ) (b : Bool) (vs : List Bool) → new ≡ sets l (i + 1) vs → set new i b ≡ sets l i (b ∷ vs)
rep_noted l new i b vs is =
    let n : i + 1 ≡ suc i = omega arith in
    rw (is, n) (set-sets l i (suc i) b vs (omega arith))

pub more_noted : (l new : List Bool) (i j n : ℕ) (vs ws : List Bool) → length vs ≡ n → j ≡ i + n → new ≡ sets l i vs →
    sets new j ws ≡ sets l i (vs ++ ws)
more_noted l new i j n vs ws long e is =
    let far : j ≡ i + length vs = omega arith in
    rw is (ap (λ k. sets (sets l i vs) k ws) far ∙ sym (sets-append l i vs ws))

-- a list that is written as a whole
pub all_noted : (l new vs : List Bool) → length l ≡ length vs → new ≡ sets l 0 vs → new ≡ vs
all_noted l new vs long is = is ∙ sets-eq vs l 0 (omega arith) ∙ ap (λ k. vs ++ k) (drop_of_length-le l (omega arith)) ∙ append-nil vs

module _ (t : Tree) (ts : Trees) (ms : List Bool) (a : LookAround) (p next : ℕ) (is : next ≡ p + position_count t) where
  next_drop : drop next ms ≡ drop (position_count t) (drop p ms)
  next_drop = ap (λ k. drop k ms) is ∙ sym (drop-drop (position_count t) p ms)

  pub accepted_all : (accepting : Bool) (whole : Bool) → accepts (cat (more t ts)) accepting (drop p ms) a ≡ whole →
      accepts (cat ts) (accepts t accepting (drop p ms) a) (drop next ms) a ≡ whole
  accepted_all accepting whole h = rw next_drop (sym (accepts_cat t ts accepting (drop p ms) a) ∙ h)

  pub accepted_some : (accepting : Bool) (whole : Bool) → (accepting || is_final_some (more t ts) (drop p ms) a) ≡ whole →
      ((accepting || is_final t (drop p ms) a) || is_final_some ts (drop next ms) a) ≡ whole
  accepted_some accepting whole h =
      rw next_drop (or_assoc accepting (is_final t (drop p ms) a) _ ∙ rw (is_final-prefix t (drop p ms) a) at h)

  pub noted_more : (l new whole : List Bool) (i j : ℕ) → sets l i (loop_ends_of (more t ts) (drop p ms) a) ≡ whole →
      j ≡ i + repeats t → new ≡ sets l i (loop_ends t (drop p ms) a) →
      sets new j (loop_ends_of ts (drop next ms) a) ≡ whole
  noted_more l new whole i j h e n =
      rw next_drop (more_noted l new i j (repeats t) (loop_ends t (drop p ms) a)
      (loop_ends_of ts (drop (position_count t) (drop p ms)) a) (length-loop_ends t (drop p ms) a) e n ∙ h)

-- ---- the second traversal: entries that are written part by part

split_prefix : (n m : ℕ) (xs ys zs : List Bool) → length ys ≡ n → take (n + m) xs ≡ ys ++ zs → (take n xs ≡ ys) × (take m (drop n xs) ≡ zs)
split_prefix n m xs ys zs long is = (
  sym (take-take n (n + m) xs (omega arith)) ∙ ap (take n) is ∙ take_at ys zs n long,
  sym (drop-take n m xs) ∙ ap (drop n) is ∙ drop_at ys zs n long,
)

-- the number of repeats of the first part, and their flags
abbrev pub first_repeats : Trees → ℕ
first_repeats none = 0
first_repeats (more t ts) = repeats t

abbrev pub first_loop_ends : Trees → List Bool → LookAround → List Bool
first_loop_ends none ms a = []
first_loop_ends (more t ts) ms a = loop_ends t ms a

pub first_noted : (ts : Trees) (l ms : List Bool) (a : LookAround) → take (repeats_of ts) l ≡ loop_ends_of ts ms a →
    take (first_repeats ts) l ≡ first_loop_ends ts ms a
first_noted none l ms a h = refl
first_noted (more t ts) l ms a h =
    (split_prefix (repeats t) (repeats_of ts) l (loop_ends t ms a) (loop_ends_of ts (drop (position_count t) ms) a)
    (length-loop_ends t ms a) h).0

-- a part in the middle is replaced by one of the same length
module _ (p n : ℕ) (old new mid : List Bool) (long : length mid ≡ n) (room : p + n ≤ length old)
    (is : new ≡ take p old ++ (mid ++ drop (p + n) old)) where
  prefix_long : length (take p old ++ mid) ≡ p + n
  prefix_long = omega (arith, length-append {A = Bool}, length-take {A = Bool})

  regrouped : new ≡ (take p old ++ mid) ++ drop (p + n) old
  regrouped = is ∙ sym (append_assoc (take p old) mid (drop (p + n) old))

  pub mid_long : length new ≡ length old
  mid_long = ap length regrouped ∙ omega (arith, prefix_long, length-append {A = Bool}, length-drop {A = Bool})

  pub mid_prefix : take (p + n) new ≡ take p old ++ mid
  mid_prefix = ap (take (p + n)) regrouped ∙ take_at (take p old ++ mid) (drop (p + n) old) (p + n) prefix_long

  pub mid_rest : drop (p + n) new ≡ drop (p + n) old
  mid_rest = ap (drop (p + n)) regrouped ∙ drop_at (take p old ++ mid) (drop (p + n) old) (p + n) prefix_long

module _ (t : Tree) (ts : Trees) (ms : List Bool) (a : LookAround) (p next : ℕ) (is : next ≡ p + position_count t) where
  pub noted_others : (l : List Bool) (i j : ℕ) → take (repeats_of (more t ts)) (drop i l) ≡ loop_ends_of (more t ts) (drop p ms) a →
      j ≡ i + repeats t → take (repeats_of ts) (drop j l) ≡ loop_ends_of ts (drop next ms) a
  noted_others l i j h e =
      rw (next_drop t ts ms a p next is, e, ← drop-drop)
      (split_prefix (repeats t) (repeats_of ts) (drop i l) (loop_ends t (drop p ms) a)
      (loop_ends_of ts (drop (position_count t) (drop p ms)) a) (length-loop_ends t (drop p ms) a) h).1

  pub accepted_each : (enter so_far : Bool) (whole : Bool) → (so_far || accepts (alt (more t ts)) enter (drop p ms) a) ≡ whole →
      ((so_far || accepts t enter (drop p ms) a) || accepts (alt ts) enter (drop next ms) a) ≡ whole
  accepted_each enter so_far whole h =
      rw (next_drop t ts ms a p next is)
      (or_assoc so_far (accepts t enter (drop p ms) a) _ ∙ ap (λ b. so_far || b) (sym (accepts_alt t ts enter (drop p ms) a)) ∙ h)

-- `ms` is the position set, `first` has the entries before the traversal, `old` those before a part, `new` those after it
module _ (t : Tree) (ts : Trees) (ms first old new : List Bool) (a : LookAround) (p next : ℕ) (enter : Bool)
    (is : next ≡ p + position_count t)
    (room : p + position_count t ≤ length ms) (shifted : AreShifted p ms old) (ahead : drop p old ≡ drop p first)
    (moved : new ≡ take p old ++ (entered t enter (drop p ms) a ++ drop (p + position_count t) old)) where
  within : p + position_count t ≤ length old
  within = omega (arith, shifted.long, room)

  same_rest : drop next new ≡ drop next old
  same_rest = rw is (mid_rest p (position_count t) old new (entered t enter (drop p ms) a)
      (length-entered t enter (drop p ms) a) within moved)

  pub entered_ahead : drop next new ≡ drop next first
  entered_ahead =
      same_rest ∙ rw is (sym (drop-drop (position_count t) p old) ∙ ap (drop (position_count t)) ahead
      ∙ drop-drop (position_count t) p first)

  pub entered_shifted : AreShifted next ms new
  entered_shifted = record {
    long = mid_long p (position_count t) old new (entered t enter (drop p ms) a) (length-entered t enter (drop p ms) a)
        within moved ∙ shifted.long;
    same =
        let one : next + 1 ≡ suc next = omega arith in
        ap (λ k. drop k new) (sym one) ∙ sym (drop-drop 1 next new) ∙ ap (drop 1) same_rest ∙ drop-drop 1 next old
        ∙ ap (λ k. drop k old) one ∙ after_one;
  }
    where
      after_one : drop (suc next) old ≡ drop next ms
      after_one =
          let far : suc next ≡ suc p + position_count t = omega (arith, is) in
          ap (λ k. drop k old) far ∙ sym (drop-drop (position_count t) (suc p) old)
          ∙ ap (drop (position_count t)) shifted.same ∙ drop-drop (position_count t) p ms
          ∙ ap (λ k. drop k ms) (sym is)

  entered_before : take next new ≡ take p old ++ entered t enter (drop p ms) a
  entered_before = rw is (mid_prefix p (position_count t) old new (entered t enter (drop p ms) a)
      (length-entered t enter (drop p ms) a) within moved)

  entered_parts : (both others behind whole : List Bool) → both ≡ entered t enter (drop p ms) a ++ others →
      take p old ++ (both ++ behind) ≡ whole →
      take next new ++ (others ++ behind) ≡ whole
  entered_parts both others behind whole e h =
      let part = entered t enter (drop p ms) a in
      rw entered_before (append_assoc (take p old) part (others ++ behind)
      ∙ ap (λ k. take p old ++ k) (sym (append_assoc part others behind))
      ∙ ap (λ k. take p old ++ (k ++ behind)) (sym e) ∙ h)

  pub all_entered : (whole : List Bool) →
      take p old ++ (entered_all (more t ts) enter (drop p ms) a ++ drop (p + position_count_of (more t ts)) first) ≡ whole →
      take next new ++ (entered_all ts (accepts t enter (drop p ms) a) (drop next ms) a ++ drop (next + position_count_of ts) first) ≡ whole
  all_entered whole h =
      let far : next + position_count_of ts ≡ p + position_count_of (more t ts) = omega arith in
      rw (next_drop t ts ms a p next is, far)
      (entered_parts (entered_all (more t ts) enter (drop p ms) a) _ _ whole (entered_cat t ts enter (drop p ms) a) h)

  pub each_entered : (whole : List Bool) →
      take p old ++ (entered_each (more t ts) enter (drop p ms) a ++ drop (p + position_count_of (more t ts)) first) ≡ whole →
      take next new ++ (entered_each ts enter (drop next ms) a ++ drop (next + position_count_of ts) first) ≡ whole
  each_entered whole h =
      let far : next + position_count_of ts ≡ p + position_count_of (more t ts) = omega arith in
      rw (next_drop t ts ms a p next is, far)
      (entered_parts (entered_each (more t ts) enter (drop p ms) a) _ _ whole (entered_alt t ts enter (drop p ms) a) h)

-- a run is entered at its first position, and at each other one after the position before it
pub run_entered : (n p : ℕ) (enter : Bool) (ms old : List Bool) (a : LookAround) → 0 < n → p + n ≤ length ms → AreShifted p ms old →
    take p old ++ enter ∷ drop (p + 1) old ≡ take p old ++ (entered (run n) enter (drop p ms) a ++ drop (p + n) old)
run_entered zero p enter ms old a some room shifted = absurd (omega (arith, some))
run_entered (suc n) p enter ms old a some room shifted =
    let rest = drop p ms in
    let one : p + 1 ≡ suc p = omega arith in
    let far : p + suc n ≡ suc p + n = omega arith in
    ap (λ k. take p old ++ enter ∷ drop k old) one
    ∙ ap (λ xs. take p old ++ enter ∷ xs) (shifted.same ∙ sym (take-append-drop n rest)
    ∙ ap (λ xs. take n rest ++ xs) (ap (drop n) (sym shifted.same) ∙ drop-drop n (suc p) old))
    ∙ ap (λ xs. take p old ++ (xs ++ drop (suc p + n) old)) (sym (entered_run n enter rest a (omega (arith, length-drop p ms))))
    ∙ ap (λ k. take p old ++ (entered (run (suc n)) enter rest a ++ drop k old)) (sym far)

-- a run without positions
pub no_run_entered : (p : ℕ) (old : List Bool) → old ≡ take p old ++ drop (p + 0) old
no_run_entered p old =
    let e : p ≡ p + 0 = omega arith in
    sym (take-append-drop p old) ∙ ap (λ k. take p old ++ drop k old) e

-- a run ends with its last position
pub run_final : (n p : ℕ) (ms : List Bool) (a : LookAround) → 0 < n → get_or ms (p + n - 1) false ≡ is_final (run n) (drop p ms) a
run_final zero p ms a some = absurd (omega (arith, some))
run_final (suc n) p ms a some =
    let last : p + suc n - 1 ≡ p + n = omega arith in
    ap (λ k. get_or ms k false) last ∙ sym (get_or-drop p ms n false) ∙ sym (is_final_run n (drop p ms) a)

pub nullable_run : (n : ℕ) (a : LookAround) → 0 < n → false ≡ nullable (run n) a
nullable_run zero a some = absurd (omega (arith, some))
nullable_run (suc n) a some = refl

pub run_accepts : (n p : ℕ) (enter : Bool) (ms : List Bool) (a : LookAround) → 0 < n → get_or ms (p + n - 1) false
    ≡ accepts (run n) enter (drop p ms) a
run_accepts zero p enter ms a some = absurd (omega (arith, some))
run_accepts (suc n) p enter ms a some = run_final (suc n) p ms a some
    ∙ sym (rw (and-false enter) (or-false (is_final (run (suc n)) (drop p ms) a)))

-- a run, or nothing
pub position_count_optional : (n : ℕ) → position_count (optional_run n) ≡ n
position_count_optional n = omega (arith, position_count_run n)

pub repeats_optional : (n : ℕ) → repeats (optional_run n) ≡ 0
repeats_optional n = omega (arith, repeats_run n)

pub loop_ends_optional : (n : ℕ) (ms : List Bool) (a : LookAround) → loop_ends (optional_run n) ms a ≡ []
loop_ends_optional n ms a = rw (loop_ends_run n ms a) refl

pub nullable_optional : (n : ℕ) (a : LookAround) → nullable (optional_run n) a ≡ true
nullable_optional n a = or-true (nullable (run n) a)

pub is_final_optional : (n : ℕ) (ms : List Bool) (a : LookAround) → is_final (optional_run n) ms a ≡ is_final (run n) ms a
is_final_optional n ms a = or-false _ ∙ is_final-prefix (run n) ms a

pub accepts_optional : (n : ℕ) (enter : Bool) (ms : List Bool) (a : LookAround) → accepts (optional_run n) enter ms a
    ≡ (accepts (run n) enter ms a || enter)
accepts_optional n enter ms a = rw (is_final_optional n ms a, nullable_optional n a) (by (is_final (run n) ms a) enter (nullable (run n) a))
  where
    by : (f e n : Bool) → (f || (e && true)) ≡ ((f || (e && n)) || e)
    by true e n = refl
    by false true n = sym (or-true n)
    by false false n = refl

pub entered_optional : (n : ℕ) (enter : Bool) (ms : List Bool) (a : LookAround) → entered (optional_run n) enter ms a
    ≡ entered (run n) enter ms a
entered_optional n enter ms a = append-nil _ ∙ entered-prefix (run n) enter ms a

-- options one after another
pub repeats_options : (n count : ℕ) → repeats (options n count) ≡ 0
repeats_options n zero = refl
repeats_options n (suc count) = omega (arith, repeats_optional n, repeats_options n count)

pub loop_ends_options : (n count : ℕ) (ms : List Bool) (a : LookAround) → loop_ends (options n count) ms a ≡ []
loop_ends_options n zero ms a = refl
loop_ends_options n (suc count) ms a = rw (loop_ends_optional n ms a)
    (loop_ends_options n count (drop (position_count (optional_run n)) ms) a)

-- options with positions are not more than these
pub few_options : (n count : ℕ) → 0 < n → count ≤ position_count (options n count)
few_options n zero some = omega arith
few_options n (suc count) some = omega (arith, few_options n count some, position_count_optional n, some)

-- a concatenation of one part
pub only_one : (t : Tree) → HaveSameShape (cat (more t none)) t
only_one t = record {
  positions = omega arith;
  repeats = omega arith;
  nullable = λ a. and-true _;
  final = λ ms a. or-false _ ∙ and-true _ ∙ is_final-prefix t ms a;
  ends = λ ms a. append-nil _;
  entered = λ enter ms a. append-nil _ ∙ entered-prefix t enter ms a;
}

-- no part is left
pub accepts_some_none : (b enter : Bool) → (b || (enter && false)) ≡ b
accepts_some_none b enter = ap (λ n. b || n) (and-false enter) ∙ or-false b

pub all_passed : (p : ℕ) (es first whole : List Bool) → drop p es ≡ drop p first → take p es ++ drop (p + 0) first ≡ whole → es ≡ whole
all_passed p es first whole ahead h =
    let e : p ≡ p + 0 = omega arith in
    sym (take-append-drop p es) ∙ ap (λ xs. take p es ++ xs) (ahead ∙ ap (λ k. drop k first) e) ∙ h

-- a loop accepts, whose body can begin if the loop can or if the body has ended
pub accepts_loop : (ended enter bare skipped : Bool) →
    ((ended || ((enter || ended) && bare)) || (skipped && enter)) ≡ (ended || (enter && (skipped || bare)))
accepts_loop true enter bare skipped = refl
accepts_loop false false bare true = refl
accepts_loop false false bare false = refl
accepts_loop false true true true = refl
accepts_loop false true false true = refl
accepts_loop false true true false = refl
accepts_loop false true false false = refl

-- the flag of a loop, and those of the loops in it
pub loop_flag : (l : List Bool) (i n : ℕ) (b : Bool) (bs : List Bool) → take (suc n) (drop i l) ≡ b ∷ bs →
    (get_or l i false ≡ b) × (take n (drop (i + 1) l) ≡ bs)
loop_flag [] zero n b bs h = (cc, cc)
loop_flag [] (suc i) n b bs h = (cc, cc)
loop_flag (x ∷ l) zero n b bs h = (cc, cc)
loop_flag (x ∷ l) (suc i) n b bs h =
    let next : suc i + 1 ≡ suc (i + 1) = omega arith in
    rw next (loop_flag l i n b bs h)
