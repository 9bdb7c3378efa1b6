-- An alternation of sequences is entered at the first position of each, and left at the last.
use Rattle.std.proofs.Common.{◌≡◌, ℕ, zero, suc, ◌+◌, ◌-◌, ◌<◌, ◌≤◌, Bool, true, false, ◌||◌, List, [], ◌∷◌, ◌++◌, take, drop, length, replicate, get_or, refl, sym, ◌∙◌, ap, inl, inr, arith, drop-cons, length-append, length-take, length-drop, ext_get_or}
use Rattle.std.proofs.Math.Bool.{and-false, and-true, or-false}
use Rattle.std.proofs.Math.Seq.{get_or-take}
use Rattle.std.proofs.lemmas.Bool.{cases_lt, le-leb, lt-leb}
use Rattle.std.proofs.lemmas.List.{get_or_past, get_or_append_left, get_or-append_right, get_or-replicate, length-replicate, get_or-drop}
use Rattle.std.specs.Prelude.{if◌then◌else◌}
use Rattle.cs_syntax.specs.Matching.{alt}
use Rattle.cs_match.specs.declared.state.LookAround.{LookAround}
use Rattle.cs_match.specs.Glushkov.{position_count, position_count_of, repeats_of, nullable_some, is_final, is_final_some, accepts, loop_ends_of}
use Rattle.cs_match.specs.Entered.{entered, entered_each, AreShifted}
use Rattle.cs_match.specs.Parts.{run, runs}
use Rattle.cs_match.specs.PositionSet.{has_from, intersect}
use Rattle.cs_match.specs.Sequences.{firsts_of, lasts_of}
use Rattle.cs_match.proofs.EnteredLemmas.{length-entered_each}
use Rattle.cs_match.proofs.ShapeLemmas.{position_count_run, repeats_run, loop_ends_run, is_final_run, entered_run}

-- as many first positions, and flags of last ones, as positions
pub length-firsts : (ns : List ℕ) → length (firsts_of ns) ≡ position_count_of (runs ns)
length-firsts [] = refl
length-firsts (n ∷ ns) = omega (
  arith,
  length-append (replicate n false) (firsts_of ns),
  length-replicate n false,
  length-firsts ns,
  position_count_run (suc n),
)

pub length-lasts : (ns : List ℕ) → length (lasts_of ns) ≡ position_count_of (runs ns)
length-lasts [] = refl
length-lasts (n ∷ ns) = omega (
  arith,
  length-append (replicate n false) (true ∷ lasts_of ns),
  length-replicate n false,
  length-lasts ns,
  position_count_run (suc n),
)

pub repeats_runs : (ns : List ℕ) → repeats_of (runs ns) ≡ 0
repeats_runs [] = refl
repeats_runs (n ∷ ns) = omega (arith, repeats_run (suc n), repeats_runs ns)

pub loop_ends_runs : (ns : List ℕ) (ms : List Bool) (a : LookAround) → loop_ends_of (runs ns) ms a ≡ []
loop_ends_runs [] ms a = refl
loop_ends_runs (n ∷ ns) ms a = rw (loop_ends_run (suc n) ms a) (loop_ends_runs ns (drop (position_count (run (suc n))) ms) a)

pub nullable_runs : (ns : List ℕ) (a : LookAround) → nullable_some (runs ns) a ≡ false
nullable_runs [] a = refl
nullable_runs (n ∷ ns) a = nullable_runs ns a

-- a set that contains a last position
intersect_last : (n : ℕ) (ms rest : List Bool) → intersect ms (replicate n false ++ true ∷ rest) ≡ get_or ms n false
    || intersect (drop (suc n) ms) rest
intersect_last zero [] rest = refl
intersect_last zero (m ∷ ms) rest = ap (λ x. x || intersect ms rest) (and-true m)
intersect_last (suc n) [] rest = refl
intersect_last (suc n) (m ∷ ms) rest = ap (λ x. x || intersect ms (replicate n false ++ true ∷ rest)) (and-false m)
    ∙ intersect_last n ms rest

pub is_final_runs : (ns : List ℕ) (ms : List Bool) (a : LookAround) → is_final_some (runs ns) ms a ≡ intersect ms (lasts_of ns)
is_final_runs [] [] a = refl
is_final_runs [] (m ∷ ms) a = refl
is_final_runs (n ∷ ns) ms a =
    let p : position_count (run (suc n)) ≡ suc n = position_count_run (suc n) in
    ap (λ (k : ℕ). is_final (run (suc n)) (take k ms) a || is_final_some (runs ns) (drop k ms) a) p
    ∙ ap (λ x. x || is_final_some (runs ns) (drop (suc n) ms) a) (is_final_run n (take (suc n) ms) a
    ∙ get_or-take (suc n) ms n false (omega arith))
    ∙ ap (λ x. get_or ms n false || x) (is_final_runs ns (drop (suc n) ms) a)
    ∙ sym (intersect_last n ms (lasts_of ns))

pub accepts_runs : (ns : List ℕ) (enter : Bool) (ms : List Bool) (a : LookAround) → accepts (alt (runs ns)) enter ms a
    ≡ intersect ms (lasts_of ns)
accepts_runs ns enter ms a = rw (nullable_runs ns a, and-false enter) (or-false _ ∙ is_final_runs ns ms a)

-- a first position is entered if the alternation is, and each other one if the one before it is in the set
pub entered_at : (ns : List ℕ) (before enter : Bool) (ms : List Bool) (a : LookAround) (k : ℕ) →
    position_count_of (runs ns) ≤ length ms → k < position_count_of (runs ns) →
    get_or (entered_each (runs ns) enter ms a) k false ≡ (if get_or (firsts_of ns) k false then enter else get_or (before ∷ ms) k false)
entered_at [] before enter ms a k room h = absurd (omega (arith, h))
entered_at (n ∷ ns) before enter ms a k room h =
    split ∙ by k h (λ i lt. entered_at ns (get_or ms n false) enter (drop (suc n) ms) a i
    (omega (arith, length-drop (suc n) ms, room, p)) lt)
  where
    p : position_count (run (suc n)) ≡ suc n
    p = position_count_run (suc n)

    own : List Bool
    own = take n (take (suc n) ms)

    others : List Bool
    others = entered_each (runs ns) enter (drop (suc n) ms) a

    size : length own ≡ n
    size = omega (arith, length-take n (take (suc n) ms), length-take (suc n) ms, room, p)

    split : get_or (entered_each (runs (n ∷ ns)) enter ms a) k false ≡ get_or ((enter ∷ own) ++ others) k false
    split =
        ap (λ (i : ℕ). get_or (entered (run (suc n)) enter (take i ms) a ++ entered_each (runs ns) enter (drop i ms) a) k false) p
        ∙ ap (λ xs. get_or (xs ++ others) k false)
        (entered_run n enter (take (suc n) ms) a (omega (arith, length-take (suc n) ms, room, p)))

    by : (k : ℕ) → k < position_count_of (runs (n ∷ ns)) →
        ((i : ℕ) → i < position_count_of (runs ns) → get_or others i false
        ≡ (if get_or (firsts_of ns) i false then enter else get_or (get_or ms n false ∷ drop (suc n) ms) i false)) →
        get_or ((enter ∷ own) ++ others) k false ≡ (if get_or (firsts_of (n ∷ ns)) k false then enter else get_or (before ∷ ms) k false)
    by zero h next = refl
    by (suc j) h next = elim (cases_lt j n) [
      | inl lt ↦
          get_or_append_left own others false j (omega (arith, size, lt))
          ∙ get_or-take n (take (suc n) ms) j false lt ∙ get_or-take (suc n) ms j false (omega (arith, lt))
          ∙ sym (rw (
            get_or_append_left (replicate n false) (firsts_of ns) false j
                (omega (arith, length-replicate n false, lt)),
            get_or-replicate n j false false lt,
          ) refl)
      | inr ge ↦
          let first : get_or (replicate n false ++ firsts_of ns) j false ≡ get_or (firsts_of ns) (j - n) false =
          get_or-append_right (replicate n false) (firsts_of ns) n j false (length-replicate n false) ge in
          let index : n + (j - n) ≡ j = omega (arith, ge) in
          let there : get_or (get_or ms n false ∷ drop (suc n) ms) (j - n) false ≡ get_or ms j false =
          ap (λ xs. get_or xs (j - n) false) (sym (drop-cons ms n false (omega (arith, room, p))))
          ∙ get_or-drop n ms (j - n) false ∙ ap (λ (i : ℕ). get_or ms i false) index in
          get_or-append_right own others n j false size ge
          ∙ next (j - n) (omega (arith, h, ge, p))
          ∙ ap (λ x. if get_or (firsts_of ns) (j - n) false then enter else x) there
          ∙ ap (λ x. if x then enter else get_or ms j false) (sym first)
    ]

-- the entries after the first positions are put
pub runs_entered : (ns : List ℕ) (p : ℕ) (enter : Bool) (ms old new : List Bool) (a : LookAround) →
    p + position_count_of (runs ns) ≤ length ms → AreShifted p ms old →
    length new ≡ length old → ((k : ℕ) → k < length old → get_or new k false
    ≡ (if has_from (firsts_of ns) p k then enter else get_or old k false)) →
    new ≡ take p old ++ (entered_each (runs ns) enter (drop p ms) a ++ drop (p + position_count_of (runs ns)) old)
runs_entered ns p enter ms old new a room shifted size each = ext_get_or false new _ (size ∙ long)
    (λ k h. each k (omega (arith, h, size)) ∙ by k (omega (arith, h, size)))
  where
    n : ℕ
    n = position_count_of (runs ns)

    es : List Bool
    es = entered_each (runs ns) enter (drop p ms) a

    length-es : length es ≡ n
    length-es = length-entered_each (runs ns) enter (drop p ms) a

    length-first : length (take p old) ≡ p
    length-first = omega (arith, length-take p old, shifted.long, room)

    long : length old ≡ length (take p old ++ (es ++ drop (p + n) old))
    long = omega (
      arith,
      length-append (take p old) (es ++ drop (p + n) old),
      length-append es (drop (p + n) old),
      length-first,
      length-es,
      length-drop (p + n) old,
      shifted.long,
      room,
    )

    by : (k : ℕ) → k < length old → (if has_from (firsts_of ns) p k then enter else get_or old k false)
        ≡ get_or (take p old ++ (es ++ drop (p + n) old)) k false
    by k h = elim (cases_lt k p) [
      | inl low ↦
          rw (lt-leb p k low)
          (sym (get_or_append_left (take p old) (es ++ drop (p + n) old) false k (omega (arith, length-first, low))
          ∙ get_or-take p old k false low))
      | inr high ↦
          let rest : get_or (take p old ++ (es ++ drop (p + n) old)) k false ≡ get_or (es ++ drop (p + n) old) (k - p) false =
          get_or-append_right (take p old) (es ++ drop (p + n) old) p k false length-first high in
          let index : p + (k - p) ≡ k = omega (arith, high) in
          rw (le-leb p k high)
          (elim (cases_lt (k - p) n) [
            | inl within ↦
                let there : get_or (get_or old p false ∷ drop p ms) (k - p) false ≡ get_or old k false =
                ap (λ xs. get_or (get_or old p false ∷ xs) (k - p) false) (sym shifted.same)
                ∙ ap (λ xs. get_or xs (k - p) false) (sym
                (drop-cons old p false (omega (arith, shifted.long, room, within)))) ∙ get_or-drop p old (k - p) false
                ∙ ap (λ (i : ℕ). get_or old i false) index in
                ap (λ x. if get_or (firsts_of ns) (k - p) false then enter else x) (sym there)
                ∙ sym (entered_at ns (get_or old p false) enter (drop p ms) a (k - p) (omega (arith, length-drop p ms, room)) within)
                ∙ sym (rest ∙ get_or_append_left es (drop (p + n) old) false (k - p) (omega (arith, length-es, within)))
            | inr past ↦
                let end : p + n + (k - p - n) ≡ k = omega (arith, past, high) in
                ap (λ x. if x then enter else get_or old k false)
                (get_or_past (firsts_of ns) (k - p) false (omega (arith, length-firsts ns, past)))
                ∙ sym (rest ∙ get_or-append_right es (drop (p + n) old) n (k - p) false length-es past
                ∙ get_or-drop (p + n) old (k - p - n) false ∙ ap (λ (i : ℕ). get_or old i false) end)
          ])
    ]
