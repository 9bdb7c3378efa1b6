-- Trees of the same shape. The shape is that of each part, whatever the sets are, and a concatenation may be grouped
-- in any way.
use Rattle.std.proofs.Common.{◌≡◌, ℕ, zero, suc, ◌+◌, ◌≤◌, Bool, true, false, ◌&&◌, ◌||◌, List, [], ◌∷◌, ◌++◌, take, drop, length, get_or, refl, sym, ◌∙◌, ap, subst, arith, append_assoc}
use Rattle.std.proofs.Math.Bool.{and-false, and_assoc}
use Rattle.std.proofs.Math.Seq.{take-take}
use Rattle.std.proofs.lemmas.List.{drop-drop, drop-take}
use Rattle.cs_syntax.specs.Matching.{Tree, Trees, cat, alt, none, more}
use Rattle.cs_syntax.specs.TreeList.{append}
use Rattle.cs_match.specs.declared.state.LookAround.{LookAround}
use Rattle.cs_match.specs.Glushkov.{position_count, position_count_of, repeats, repeats_of, nullable, nullable_all, nullable_some, is_final, is_final_all, accepts, loop_ends, loop_ends_of}
use Rattle.cs_match.specs.Expansion.{copies}
use Rattle.cs_match.specs.Entered.{entered, entered_all}
use Rattle.cs_match.specs.Parts.{run, HaveSameShape}
use Rattle.cs_match.proofs.GlushkovLemmas.{cat_bools}

pub shape_refl : (t : Tree) → HaveSameShape t t
shape_refl t = record {
  positions = refl;
  repeats = refl;
  nullable = λ a. refl;
  final = λ ms a. refl;
  ends =
      λ ms a. refl;
  entered = λ enter ms a. refl;
}

pub shape_sym : (t s : Tree) → HaveSameShape t s → HaveSameShape s t
shape_sym t s h = record {
  positions = sym h.positions;
  repeats = sym h.repeats;
  nullable = λ a. sym (h.nullable a);
  final = λ ms a. sym (h.final ms a);
  ends = λ ms a. sym (h.ends ms a);
  entered = λ enter ms a. sym (h.entered enter ms a);
}

pub shape_trans : (t s u : Tree) → HaveSameShape t s → HaveSameShape s u → HaveSameShape t u
shape_trans t s u h k = record {
  positions = h.positions ∙ k.positions;
  repeats = h.repeats ∙ k.repeats;
  nullable = λ a. h.nullable a ∙ k.nullable a;
  final = λ ms a. h.final ms a ∙ k.final ms a;
  ends = λ ms a. h.ends ms a ∙ k.ends ms a;
  entered = λ enter ms a. h.entered enter ms a ∙ k.entered enter ms a;
}

same_accepts : (t s : Tree) → HaveSameShape t s → (enter : Bool) (ms : List Bool) (a : LookAround) →
    accepts t enter ms a ≡ accepts s enter ms a
same_accepts t s h enter ms a = rw (h.final ms a, h.nullable a) refl

-- a part of a concatenation, of an alternation or of a loop
pub cat_first : (t s : Tree) (ts : Trees) → HaveSameShape t s → HaveSameShape (cat (more t ts)) (cat (more s ts))
cat_first t s ts h = record {
  positions = ap (λ n. n + position_count_of ts) h.positions;
  repeats = ap (λ n. n + repeats_of ts) h.repeats;
  nullable = λ a. ap (λ x. x && nullable_all ts a) (h.nullable a);
  final = λ ms a. rw (h.positions, h.final (take (position_count s) ms) a) refl;
  ends = λ ms a. rw (h.positions, h.ends ms a) refl;
  entered = λ enter ms a. rw (
    h.positions,
    h.entered enter (take (position_count s) ms) a,
    same_accepts t s h enter
        (take (position_count s) ms) a,
  ) refl;
}

pub cat_rest : (t : Tree) (ts ss : Trees) → HaveSameShape (cat ts) (cat ss) → HaveSameShape (cat (more t ts)) (cat (more t ss))
cat_rest t ts ss h = record {
  positions = ap (λ n. position_count t + n) h.positions;
  repeats = ap (λ n. repeats t + n) h.repeats;
  nullable = λ a. ap (λ x. nullable t a && x) (h.nullable a);
  final = λ ms a. rw (h.nullable a, h.final (drop (position_count t) ms) a) refl;
  ends = λ ms a. ap (λ xs. loop_ends t ms a ++ xs) (h.ends (drop (position_count t) ms) a);
  entered = λ enter ms a. ap (λ xs. entered t enter (take (position_count t) ms) a ++ xs)
      (h.entered (accepts t enter (take (position_count t) ms) a) (drop (position_count t) ms) a);
}

pub alt_first : (t s : Tree) (ts : Trees) → HaveSameShape t s → HaveSameShape (alt (more t ts)) (alt (more s ts))
alt_first t s ts h = record {
  positions = ap (λ n. n + position_count_of ts) h.positions;
  repeats = ap (λ n. n + repeats_of ts) h.repeats;
  nullable = λ a. ap (λ x. x || nullable_some ts a) (h.nullable a);
  final = λ ms a. rw (h.positions, h.final (take (position_count s) ms) a) refl;
  ends = λ ms a. rw (h.positions, h.ends ms a) refl;
  entered = λ enter ms a. rw (h.positions, h.entered enter (take (position_count s) ms) a) refl;
}

alt_rest : (t : Tree) (ts ss : Trees) → HaveSameShape (alt ts) (alt ss) → HaveSameShape (alt (more t ts)) (alt (more t ss))
alt_rest t ts ss h = record {
  positions = ap (λ n. position_count t + n) h.positions;
  repeats = ap (λ n. repeats t + n) h.repeats;
  nullable = λ a. ap (λ x. nullable t a || x) (h.nullable a);
  final = λ ms a. ap (λ x. is_final t (take (position_count t) ms) a || x) (h.final (drop (position_count t) ms) a);
  ends = λ ms a. ap (λ xs. loop_ends t ms a ++ xs) (h.ends (drop (position_count t) ms) a);
  entered = λ enter ms a. ap (λ xs. entered t enter (take (position_count t) ms) a ++ xs) (h.entered enter (drop (position_count t) ms) a);
}

pub alt_more : (us : Trees) (t s : Tree) (ts : Trees) → HaveSameShape t s → HaveSameShape (alt (append us (more t ts)))
    (alt (append us (more s ts)))
alt_more none t s ts h = alt_first t s ts h
alt_more (more u us) t s ts h = alt_rest u _ _ (alt_more us t s ts h)

-- a concatenation may be grouped in any way
final_bools : (x n y m z : Bool) → (((x && n) || y) && m) || z ≡ (x && (n && m)) || ((y && m) || z)
final_bools true true y true z = refl
final_bools true true true false z = refl
final_bools true true false false z = refl
final_bools true false y m z = refl
final_bools false n y m z = refl

no_first : (ts : Trees) → HaveSameShape (cat (more (cat none) ts)) (cat ts)
no_first ts = record {
  positions = omega arith;
  repeats = omega arith;
  nullable = λ a. refl;
  final = λ ms a. refl;
  ends = λ ms a. refl;
  entered = λ enter ms a. by enter ms a;
}
  where
    by : (enter : Bool) (ms : List Bool) (a : LookAround) → entered_all ts (false || (enter && true)) (drop 0 ms) a
        ≡ entered_all ts enter ms a
    by true ms a = refl
    by false ms a = refl

two_first : (t : Tree) (us ts : Trees) → HaveSameShape (cat (more (cat (more t us)) ts)) (cat (more t (more (cat us) ts)))
two_first t us ts = record {
  positions = omega arith;
  repeats = omega arith;
  nullable = λ a. and_assoc (nullable t a) (nullable_all us a) (nullable_all ts a);
  final = λ ms a.
      rw (take-take p (p + q) ms (omega arith), drop-take p q ms, ← drop-drop q p ms)
      (final_bools (is_final t (take p ms) a) (nullable_all us a) (is_final_all us (take q (drop p ms)) a)
      (nullable_all ts a) (is_final_all ts (drop q (drop p ms)) a));
  ends = λ ms a. rw (← drop-drop q p ms) (append_assoc (loop_ends t ms a) (loop_ends_of us (drop p ms) a)
      (loop_ends_of ts (drop q (drop p ms)) a));
  entered = λ enter ms a.
      rw (
        take-take p (p + q) ms (omega arith),
        drop-take p q ms,
        ← drop-drop q p ms,
        cat_bools (is_final t (take p ms) a) (nullable_all us a) (is_final_all us (take q (drop p ms)) a) enter (nullable t a),
      )
      (append_assoc (entered t enter (take p ms) a)
      (entered_all us (accepts t enter (take p ms) a) (take q (drop p ms)) a)
      (entered_all ts (accepts (cat us) (accepts t enter (take p ms) a) (take q (drop p ms)) a) (drop q (drop p ms))
      a));
}
  where
    p : ℕ
    p = position_count t

    q : ℕ
    q = position_count_of us

pub grouped : (us ts : Trees) → HaveSameShape (cat (more (cat us) ts)) (cat (append us ts))
grouped none ts = no_first ts
grouped (more u us) ts = shape_trans _ _ _ (two_first u us ts) (cat_rest u _ _ (grouped us ts))

-- the parts before and after
pub before_same : (us ts ss : Trees) → HaveSameShape (cat ts) (cat ss) → HaveSameShape (cat (append us ts)) (cat (append us ss))
before_same none ts ss h = h
before_same (more u us) ts ss h = cat_rest u _ _ (before_same us ts ss h)

-- runs
pub position_count_run : (n : ℕ) → position_count (run n) ≡ n
position_count_run zero = refl
position_count_run (suc n) = omega (arith, position_count_run n)

pub repeats_run : (n : ℕ) → repeats (run n) ≡ 0
repeats_run zero = refl
repeats_run (suc n) = omega (arith, repeats_run n)

pub loop_ends_run : (n : ℕ) (ms : List Bool) (a : LookAround) → loop_ends (run n) ms a ≡ []
loop_ends_run zero ms a = refl
loop_ends_run (suc n) ms a = loop_ends_run n (drop 1 ms) a

get_or-past_one : (ms : List Bool) (k : ℕ) → get_or (drop 1 ms) k false ≡ get_or ms (suc k) false
get_or-past_one [] k = refl
get_or-past_one (m ∷ ms) k = refl

pub is_final_run : (n : ℕ) (ms : List Bool) (a : LookAround) → is_final (run (suc n)) ms a ≡ get_or ms n false
is_final_run zero [] a = refl
is_final_run zero (true ∷ ms) a = refl
is_final_run zero (false ∷ ms) a = refl
is_final_run (suc n) ms a = by (get_or (take 1 ms) 0 false) (is_final (run (suc n)) (drop 1 ms) a)
    ∙ is_final_run n (drop 1 ms) a ∙ get_or-past_one ms n
  where
    by : (x y : Bool) → ((x && false) || y) ≡ y
    by true y = refl
    by false y = refl

pub entered_run : (n : ℕ) (enter : Bool) (ms : List Bool) (a : LookAround) → n ≤ length ms →
    entered (run (suc n)) enter ms a ≡ enter ∷ take n ms
entered_run zero enter ms a h = refl
entered_run (suc n) enter [] a h = absurd (omega (arith, h))
entered_run (suc n) enter (m ∷ ms) a h =
    ap (λ xs. enter ∷ xs) (entered_run n (m || (enter && false)) ms a (omega (arith, h))
    ∙ ap (λ x. x ∷ take n ms) (by m enter))
  where
    by : (m enter : Bool) → (m || (enter && false)) ≡ m
    by true enter = refl
    by false enter = and-false enter

-- copies are continued by copies of the same tree
pub copies_more : (x : Tree) (m n : ℕ) (ts : Trees) →
    HaveSameShape (cat (more (cat (copies m x none)) (more (cat (copies n x none)) ts))) (cat (more (cat (copies (m + n) x none)) ts))
copies_more x m n ts =
    shape_trans _ _ _ (cat_rest (cat (copies m x none)) _ _ (grouped (copies n x none) ts))
    (shape_trans _ _ _ (grouped (copies m x none) _)
    (shape_trans _ _ _ (subst (λ ws. HaveSameShape (cat (append (copies m x none) (append (copies n x none) ts)))
    (cat ws)) (appended m) (shape_refl _))
    (shape_sym _ _ (grouped (copies (m + n) x none) ts))))
  where
    appended : (m : ℕ) → append (copies m x none) (append (copies n x none) ts) ≡ append (copies (m + n) x none) ts
    appended zero = let e : n ≡ 0 + n = omega arith in ap (λ (i : ℕ). append (copies i x none) ts) e
    appended (suc m) = let e : suc (m + n) ≡ suc m + n = omega arith in ap (more x) (appended m)
        ∙ ap (λ (i : ℕ). append (copies i x none) ts) e

-- the number of positions of parts in a concatenation
pub position_count_append : (us vs : Trees) → position_count_of (append us vs) ≡ position_count_of us + position_count_of vs
position_count_append none vs = omega arith
position_count_append (more u us) vs = omega (arith, position_count_append us vs)
