-- A step is its two parts: the entered positions, and then the same move for all positions.
use Rattle.std.proofs.Common.{◌≡◌, ℕ, zero, suc, ◌+◌, ◌<◌, Bool, true, false, ◌&&◌, ◌||◌, List, [], ◌∷◌, ◌++◌, take, drop, length, map, get_or, refl, sym, ◌∙◌, ap, arith, length-append, length-take, length-drop, ext_get_or}
use Rattle.std.proofs.Math.Bool.{and-false, or-false}
use Rattle.std.proofs.Math.Seq.{get_or-take}
use Rattle.cs_syntax.specs.Matching.{Tree, Trees, empty, one_of, one_char, cat, alt, rep, line_start, line_end, word_edge, not_word_edge, none, more}
use Rattle.cs_syntax.specs.CharSteps.{taken_after, begun_after}
use Rattle.cs_syntax.specs.declared.char_step.CharStep.{CharStep}
use Rattle.cs_syntax.specs.declared.char_step.CharStep.TheVariants.{Single, Begins, Inside, Completes, Nothing}
use Rattle.cs_match.specs.declared.position.Input.{Input}
use Rattle.cs_match.specs.declared.state.LookAround.{LookAround}
use Rattle.cs_match.specs.declared.position.Position.{Position}
use Rattle.cs_match.specs.Glushkov.{position_count, position_count_of, is_final, accepts, step, step_all, step_each}
use Rattle.cs_match.specs.PositionSet.{is_moved}
use Rattle.cs_match.specs.Entered.{position_list, position_list_of, entered, entered_all, entered_each, if_entered, if_previous, if_kept, moved}

-- one for each position
mutual
  pub length-position_list : (t : Tree) → length (position_list t) ≡ position_count t
  length-position_list (cat ts) = length-position_list_of ts
  length-position_list (alt ts) = length-position_list_of ts
  length-position_list (rep x n m) = length-position_list x
  length-position_list leaf = refl

  length-position_list_of : (ts : Trees) → length (position_list_of ts) ≡ position_count_of ts
  length-position_list_of none = refl
  length-position_list_of (more t ts) = omega (arith, length-position_list t, length-position_list_of ts, length-append {A = Position})

mutual
  pub length-entered : (t : Tree) (enter : Bool) (ms : List Bool) (a : LookAround) → length (entered t enter ms a) ≡ position_count t
  length-entered (cat ts) enter ms a = length-entered_all ts enter ms a
  length-entered (alt ts) enter ms a = length-entered_each ts enter ms a
  length-entered (rep x n m) enter ms a = length-entered x (enter || is_final x ms a) ms a
  length-entered leaf enter ms a = refl

  pub length-entered_all : (ts : Trees) (enter : Bool) (ms : List Bool) (a : LookAround) →
      length (entered_all ts enter ms a) ≡ position_count_of ts
  length-entered_all none enter ms a = refl
  length-entered_all (more t ts) enter ms a =
      let h = length-entered t enter (take (position_count t) ms) a in
      let k = length-entered_all ts (accepts t enter (take (position_count t) ms) a) (drop (position_count t) ms) a in
      omega (arith, h, k, length-append {A = Bool})

  pub length-entered_each : (ts : Trees) (enter : Bool) (ms : List Bool) (a : LookAround) →
      length (entered_each ts enter ms a) ≡ position_count_of ts
  length-entered_each none enter ms a = refl
  length-entered_each (more t ts) enter ms a =
      let h = length-entered t enter (take (position_count t) ms) a in
      let k = length-entered_each ts enter (drop (position_count t) ms) a in
      omega (arith, h, k, length-append {A = Bool})

-- whether the last of these positions was entered, or the one before them if there is none
abbrev last_entered : Bool → List Bool → Bool
last_entered previous [] = previous
last_entered previous (e ∷ es) = last_entered e es

-- positions move part by part
moved-append : (previous : Bool) (ps qs : List Position) (b : Input) (es fs ms : List Bool) → length es ≡ length ps →
    length ms ≡ length ps + length qs →
    moved previous (ps ++ qs) b (es ++ fs) ms ≡ moved previous ps b es (take (length ps) ms)
    ++ moved (last_entered previous es) qs b fs (drop (length ps) ms)
moved-append previous [] qs b [] fs ms e h = refl
moved-append previous [] qs b (x ∷ es) fs ms e h = absurd (omega arith)
moved-append previous (p ∷ ps) qs b [] fs ms e h = absurd (omega arith)
moved-append previous (p ∷ ps) qs b (x ∷ es) fs [] e h = absurd (omega arith)
moved-append previous (p ∷ ps) qs b (x ∷ es) fs (m ∷ ms) e h =
    ap (λ rest. (((x && if_entered b p) || (previous && if_previous b p)) || (m && if_kept b p)) ∷ rest)
    (moved-append x ps qs b es fs ms (omega (arith, e)) (omega (arith, h)))

-- the two positions of a set of characters
begun_bits : (char : CharStep) (enter begun previous : Bool) →
    ((enter && begun_after true false char) || (previous && false)) || (begun && begun_after false true char) ≡ begun_after enter begun char
begun_bits (Single b) true begun previous = rw (and-false previous, and-false begun) refl
begun_bits (Single b) false begun previous = rw (and-false previous, and-false begun) refl
begun_bits (Begins at) true begun previous = refl
begun_bits (Begins at) false begun previous = rw (and-false previous, and-false begun) refl
begun_bits (Inside at) enter true previous = rw (and-false enter, and-false previous) refl
begun_bits (Inside at) enter false previous = rw (and-false enter, and-false previous) refl
begun_bits (Completes low) enter begun previous = rw (and-false enter, and-false previous, and-false begun) refl
begun_bits Nothing enter begun previous = rw (and-false enter, and-false previous, and-false begun) refl

taken_bits : (ranges : List (ℕ × ℕ)) (char : CharStep) (enter begun taken : Bool) →
    ((begun && taken_after ranges false true char) || (enter && taken_after ranges true false char)) || (taken && false)
    ≡ taken_after ranges enter begun char
taken_bits ranges (Single b) enter begun taken = rw (and-false begun, and-false taken) (or-false _)
taken_bits ranges (Begins at) enter begun taken = rw (and-false begun, and-false enter, and-false taken) refl
taken_bits ranges (Inside at) enter begun taken = rw (and-false begun, and-false enter, and-false taken) refl
taken_bits ranges (Completes low) enter begun taken = rw (and-false enter, and-false taken) (or-false _ ∙ or-false _)
taken_bits ranges Nothing enter begun taken = rw (and-false begun, and-false enter, and-false taken) refl

module _ (b : Input) where
  joined : (t : Tree) (ts : Trees) (previous : Bool) (es fs ms : List Bool) → length es ≡ position_count t → length ms
      ≡ position_count t + position_count_of ts →
      moved previous (position_list t ++ position_list_of ts) b (es ++ fs) ms
      ≡ moved previous (position_list t) b es (take (position_count t) ms) ++ moved (last_entered previous es)
      (position_list_of ts) b fs (drop (position_count t) ms)
  joined t ts previous es fs ms e h =
      moved-append previous (position_list t) (position_list_of ts) b es fs ms (e ∙ sym (length-position_list t))
      (omega (arith, h, length-position_list t, length-position_list_of ts))
      ∙ ap (λ (n : ℕ). moved previous (position_list t) b es (take n ms) ++ moved (last_entered previous es)
      (position_list_of ts) b fs (drop n ms)) (length-position_list t)

  mutual
    pub step_moves : (t : Tree) (previous enter : Bool) (ms : List Bool) (a : LookAround) → length ms ≡ position_count t →
        step t enter ms a b ≡ moved previous (position_list t) b (entered t enter ms a) ms
    step_moves empty previous enter ms a h = refl
    step_moves (one_of set) previous enter ms a h =
        ap (λ x. x ∷ []) (sym (rw (and-false previous, and-false (get_or ms 0 false)) (or-false _ ∙ or-false _)))
    step_moves (one_char ranges) previous enter [] a h = absurd (omega arith)
    step_moves (one_char ranges) previous enter (begun ∷ ms) a h =
        ap (λ x. x ∷ taken_after ranges enter begun b.char ∷ []) (sym (begun_bits b.char enter begun previous))
        ∙ ap (λ x. (((enter && begun_after true false b.char) || (previous && false))
        || (begun && begun_after false true b.char)) ∷ x ∷ [])
        (sym (taken_bits ranges b.char enter begun (get_or ms 0 false)))
    step_moves (cat ts) previous enter ms a h = step_all_moves ts previous enter ms a h
    step_moves (alt ts) previous enter ms a h = step_each_moves ts previous enter ms a h
    step_moves (rep x n m) previous enter ms a h = step_moves x previous (enter || is_final x ms a) ms a h
    step_moves line_start previous enter ms a h = refl
    step_moves line_end previous enter ms a h = refl
    step_moves word_edge previous enter ms a h = refl
    step_moves not_word_edge previous enter ms a h = refl

    step_all_moves : (ts : Trees) (previous enter : Bool) (ms : List Bool) (a : LookAround) → length ms ≡ position_count_of ts →
        step_all ts enter ms a b ≡ moved previous (position_list_of ts) b (entered_all ts enter ms a) ms
    step_all_moves none previous enter ms a h = refl
    step_all_moves (more t ts) previous enter ms a h =
        let xs = take (position_count t) ms in
        let ys = drop (position_count t) ms in
        let es = entered t enter xs a in
        let fs = entered_all ts (accepts t enter xs a) ys a in
        rw (
          step_moves t previous enter xs a (omega (arith, h, length-take (position_count t) ms)),
          step_all_moves ts (last_entered previous es) (accepts t enter xs a) ys a (omega (arith, h, length-drop (position_count t) ms)),
        )
        (sym (joined t ts previous es fs ms (length-entered t enter xs a) h))

    step_each_moves : (ts : Trees) (previous enter : Bool) (ms : List Bool) (a : LookAround) → length ms ≡ position_count_of ts →
        step_each ts enter ms a b ≡ moved previous (position_list_of ts) b (entered_each ts enter ms a) ms
    step_each_moves none previous enter ms a h = refl
    step_each_moves (more t ts) previous enter ms a h =
        let xs = take (position_count t) ms in
        let ys = drop (position_count t) ms in
        let es = entered t enter xs a in
        let fs = entered_each ts enter ys a in
        rw (
          step_moves t previous enter xs a (omega (arith, h, length-take (position_count t) ms)),
          step_each_moves ts (last_entered previous es) enter ys a (omega (arith, h, length-drop (position_count t) ms)),
        )
        (sym (joined t ts previous es fs ms (length-entered t enter xs a) h))

-- the moved set, position by position
pub length-moved : (previous : Bool) (ps : List Position) (b : Input) (es ms : List Bool) → length (moved previous ps b es ms) ≡ length ps
length-moved previous [] b es ms = refl
length-moved previous (p ∷ ps) b es ms = ap suc (length-moved (get_or es 0 false) ps b (drop 1 es) (drop 1 ms))

get_or-rest : (xs : List Bool) (k : ℕ) → get_or (drop 1 xs) k false ≡ get_or xs (suc k) false
get_or-rest [] k = refl
get_or-rest (x ∷ xs) k = refl

get_or-moved : (previous : Bool) (ps : List Position) (b : Input) (es ms : List Bool) (k : ℕ) → k < length ps →
    get_or (moved previous ps b es ms) k false
    ≡ ((get_or es k false && get_or (map (if_entered b) ps) k false)
    || (get_or (previous ∷ es) k false && get_or (map (if_previous b) ps) k false))
    || (get_or ms k false && get_or (map (if_kept b) ps) k false)
get_or-moved previous [] b es ms k h = absurd (omega (arith, h))
get_or-moved previous (p ∷ ps) b es ms zero h = refl
get_or-moved previous (p ∷ ps) b [] ms (suc k) h =
    get_or-moved false ps b [] (drop 1 ms) k (omega (arith, h))
    ∙ ap (λ x. ((false && get_or (map (if_entered b) ps) k false)
    || (get_or (false ∷ []) k false && get_or (map (if_previous b) ps) k false))
    || (x && get_or (map (if_kept b) ps) k false)) (get_or-rest ms k)
    ∙ ap (λ x. (x && get_or (map (if_previous b) ps) k false)
    || (get_or ms (suc k) false && get_or (map (if_kept b) ps) k false)) (beyond k)
  where
    beyond : (k : ℕ) → get_or (false ∷ []) k false ≡ false
    beyond zero = refl
    beyond (suc k) = refl
get_or-moved previous (p ∷ ps) b (e ∷ es) ms (suc k) h =
    get_or-moved e ps b es (drop 1 ms) k (omega (arith, h))
    ∙ ap (λ x. ((get_or es k false && get_or (map (if_entered b) ps) k false)
    || (get_or (e ∷ es) k false && get_or (map (if_previous b) ps) k false))
    || (x && get_or (map (if_kept b) ps) k false)) (get_or-rest ms k)

-- a set that was moved over the input position by position is the next one
pub is_step : (t : Tree) (enter : Bool) (ms : List Bool) (a : LookAround) (b : Input)
    (es new ins befores keeps : List Bool) → length ms ≡ position_count t →
    take (position_count t) es ≡ entered t enter ms a → ins ≡ map (if_entered b) (position_list t) → befores
    ≡ map (if_previous b) (position_list t) → keeps ≡ map (if_kept b) (position_list t) →
    length new ≡ length ms → ((k : ℕ) → k < length ms → get_or new k false ≡ is_moved es ins befores keeps ms k) → new ≡ step t enter ms a b
is_step t enter ms a b es new ins befores keeps size entries e-in e-before e-kept long each =
    ext_get_or false new (moved false (position_list t) b (entered t enter ms a) ms)
    (long ∙ size ∙ sym (length-position_list t)
    ∙ sym (length-moved false (position_list t) b (entered t enter ms a) ms)) (λ k h.
    let within : k < position_count t = omega (arith, h, long, size) in
    rw (each k (omega (arith, within, size)), e-in, e-before, e-kept)
    (ap (λ x. ((x && get_or (map (if_entered b) (position_list t)) k false)
    || (get_or (false ∷ es) k false && get_or (map (if_previous b) (position_list t)) k false))
    || (get_or ms k false && get_or (map (if_kept b) (position_list t)) k false))
    (sym (get_or-take (position_count t) es k false within) ∙ ap (λ xs. get_or xs k false) entries)
    ∙ ap (λ x. ((get_or (entered t enter ms a) k false && get_or (map (if_entered b) (position_list t)) k false)
    || (x && get_or (map (if_previous b) (position_list t)) k false))
    || (get_or ms k false && get_or (map (if_kept b) (position_list t)) k false)) (before k within)
    ∙ sym (get_or-moved false (position_list t) b (entered t enter ms a) ms k (omega (arith, within, length-position_list t)))))
    ∙ sym (step_moves b t false enter ms a size)
  where
    before : (k : ℕ) → k < position_count t → get_or (false ∷ es) k false ≡ get_or (false ∷ entered t enter ms a) k false
    before zero h = refl
    before (suc k) h = sym (get_or-take (position_count t) es k false (omega (arith, h))) ∙ ap (λ xs. get_or xs k false) entries
