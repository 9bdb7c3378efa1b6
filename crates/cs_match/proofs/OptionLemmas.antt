-- A row of options is entered at the first position of each, where the row is, or after an option that ends.
use Rattle.std.proofs.Common.{◌≡◌, ℕ, zero, suc, ◌+◌, ◌-◌, ◌*◌, ◌/◌, ◌%◌, ◌<◌, ◌≤◌, ◌⊎◌, Bool, true, false, ◌&&◌, ◌||◌, eqb, leb, List, ◌∷◌, ◌++◌, take, drop, length, get_or, set, refl, sym, ◌∙◌, ap, ap₂, inl, inr, arith, length-append, length-take, length-drop, ext_get_or, length-set, get_or-set_same, get_or-set_other}
use Rattle.std.proofs.Math.Bool.{and-true, and-false, or-false, or-true}
use Rattle.std.proofs.Math.Seq.{take-take, get_or-take}
use Rattle.std.proofs.lemmas.Bool.{cases_lt, cases_eq, le-leb, lt-leb, eq-eqb, ne_eqb, eqb-true, and_parts}
use Rattle.std.proofs.lemmas.List.{get_or_append_left, get_or-append_right, get_or-drop, set_split}
use Rattle.std.specs.Prelude.{if◌then◌else◌}
use Rattle.std.specs.Int.{bit_at}
use Rattle.cs_syntax.specs.Matching.{none}
use Rattle.cs_match.specs.declared.state.LookAround.{LookAround}
use Rattle.cs_match.specs.Expansion.{copies}
use Rattle.cs_match.specs.Glushkov.{position_count, nullable, nullable_all, is_final, is_final_all, accepts}
use Rattle.cs_match.specs.Entered.{entered, entered_all, AreShifted}
use Rattle.cs_match.specs.Parts.{optional_run, options}
use Rattle.cs_match.specs.PositionSet.{is_selected}
use Rattle.cs_match.proofs.EnteredLemmas.{length-entered}
use Rattle.cs_match.proofs.ShapeLemmas.{is_final_run, entered_run}
use Rattle.cs_match.proofs.TraversalLemmas.{position_count_optional, nullable_optional, is_final_optional, entered_optional}
use Rattle.cs_match.proofs.RangeLemmas.{of-parts, none-before, none-after}

pub position_count_options : (n count : ℕ) → position_count (options n count) ≡ count * n
position_count_options n zero = omega arith
position_count_options n (suc count) = omega (arith, position_count_optional n, position_count_options n count)

pub nullable_options : (n count : ℕ) (a : LookAround) → nullable (options n count) a ≡ true
nullable_options n zero a = refl
nullable_options n (suc count) a = rw (nullable_optional n a) (nullable_options n count a)

-- one of so many options ends, of so many positions after the first of each
abbrev ended : ℕ → ℕ → List Bool → Bool
ended n zero ms = false
ended n (suc j) ms = get_or ms n false || ended n j (drop (suc n) ms)

ended-none : (n j : ℕ) (ms : List Bool) → ((i : ℕ) → i < j → get_or ms (i * suc n + n) false ≡ false) → ended n j ms ≡ false
ended-none n zero ms h = refl
ended-none n (suc j) ms h =
    let start : n ≡ 0 * suc n + n = omega arith in
    rw (ap (λ (k : ℕ). get_or ms k false) start ∙ h zero (omega arith)) (ended-none n j (drop (suc n) ms) (λ i lt.
    let index : suc n + (i * suc n + n) ≡ suc i * suc n + n = omega arith in
    get_or-drop (suc n) ms (i * suc n + n) false ∙ ap (λ (k : ℕ). get_or ms k false) index ∙ h (suc i) (omega (arith, lt))))

ended-some : (n j : ℕ) (ms : List Bool) (i : ℕ) → i < j → get_or ms (i * suc n + n) false ≡ true → ended n j ms ≡ true
ended-some n zero ms i lt h = absurd (omega (arith, lt))
ended-some n (suc j) ms zero lt h =
    let start : n ≡ 0 * suc n + n = omega arith in
    rw (ap (λ (k : ℕ). get_or ms k false) start ∙ h) refl
ended-some n (suc j) ms (suc i) lt h =
    let index : suc n + (i * suc n + n) ≡ suc i * suc n + n = omega arith in
    ap (λ x. get_or ms n false || x) (ended-some n j (drop (suc n) ms) i (omega (arith, lt))
    (get_or-drop (suc n) ms (i * suc n + n) false ∙ ap (λ (k : ℕ). get_or ms k false) index ∙ h))
    ∙ or-true _

last_of : (n : ℕ) (ms : List Bool) (a : LookAround) → is_final (optional_run (suc n)) (take (suc n) ms) a ≡ get_or ms n false
last_of n ms a = is_final_optional (suc n) (take (suc n) ms) a ∙ is_final_run n (take (suc n) ms) a
    ∙ get_or-take (suc n) ms n false (omega arith)

is_final_options : (n count : ℕ) (ms : List Bool) (a : LookAround) → is_final (options (suc n) count) ms a ≡ ended n count ms
is_final_options n zero ms a = refl
is_final_options n (suc count) ms a =
    let t = optional_run (suc n) in
    let ts = copies count t none in
    ap (λ (k : ℕ). (is_final t (take k ms) a && nullable_all ts a) || is_final_all ts (drop k ms) a) (position_count_optional (suc n))
    ∙ ap₂ (λ x y. x || y) (ap₂ (λ x y. x && y) (last_of n ms a) (nullable_options (suc n) count a) ∙ and-true _)
    (is_final_options n count (drop (suc n) ms) a)

accepts_options : (n count : ℕ) (enter : Bool) (ms : List Bool) (a : LookAround) → accepts (options (suc n) count) enter
    ms a ≡ (ended n count ms || enter)
accepts_options n count enter ms a = rw (is_final_options n count ms a, nullable_options (suc n) count a)
    (ap (λ x. ended n count ms || x) (and-true enter))

-- the entries of the first option, and of the others
entered_options : (n count : ℕ) (enter : Bool) (ms : List Bool) (a : LookAround) → suc n ≤ length ms →
    entered (options (suc n) (suc count)) enter ms a ≡ (enter ∷ take n ms) ++ entered (options (suc n) count)
    (get_or ms n false || enter) (drop (suc n) ms) a
entered_options n count enter ms a room =
    let t = optional_run (suc n) in
    let ts = copies count t none in
    let own : entered t enter (take (suc n) ms) a ≡ enter ∷ take n ms =
    entered_optional (suc n) enter (take (suc n) ms) a ∙ entered_run n enter (take (suc n) ms) a
    (omega (arith, room, length-take (suc n) ms))
    ∙ ap (λ xs. enter ∷ xs) (take-take n (suc n) ms (omega arith)) in
    let next : accepts t enter (take (suc n) ms) a ≡ (get_or ms n false || enter) =
    ap₂ (λ x y. x || (enter && y)) (last_of n ms a) (nullable_optional (suc n) a) ∙ ap (λ x. get_or ms n false || x) (and-true enter) in
    ap (λ (k : ℕ). entered t enter (take k ms) a ++ entered_all ts (accepts t enter (take k ms) a) (drop k ms) a)
    (position_count_optional (suc n))
    ∙ ap₂ (λ xs e. xs ++ entered_all ts e (drop (suc n) ms) a) own next

entered_first : (n count j : ℕ) (enter : Bool) (ms : List Bool) (a : LookAround) → j < count → count * suc n ≤ length ms →
    get_or (entered (options (suc n) count) enter ms a) (j * suc n) false ≡ (ended n j ms || enter)
entered_first n zero j enter ms a lt room = absurd (omega (arith, lt))
entered_first n (suc count) zero enter ms a lt room =
    let start : 0 * suc n ≡ 0 = omega arith in
    ap (λ (k : ℕ). get_or (entered (options (suc n) (suc count)) enter ms a) k false) start
    ∙ ap (λ xs. get_or xs 0 false) (entered_options n count enter ms a (omega (arith, room)))
entered_first n (suc count) (suc j) enter ms a lt room =
    let others = entered (options (suc n) count) (get_or ms n false || enter) (drop (suc n) ms) a in
    let size : length (enter ∷ take n ms) ≡ suc n = omega (arith, length-take n ms, room) in
    let index : suc j * suc n - suc n ≡ j * suc n = omega arith in
    ap (λ xs. get_or xs (suc j * suc n) false) (entered_options n count enter ms a (omega (arith, room)))
    ∙ get_or-append_right (enter ∷ take n ms) others (suc n) (suc j * suc n) false size (omega arith)
    ∙ ap (λ (k : ℕ). get_or others k false) index
    ∙ entered_first n count j (get_or ms n false || enter) (drop (suc n) ms) a (omega (arith, lt))
    (omega (arith, room, length-drop (suc n) ms))
    ∙ by (ended n j (drop (suc n) ms)) (get_or ms n false) enter
  where
    by : (x y e : Bool) → x || (y || e) ≡ (y || x) || e
    by true y e = sym (ap (λ z. z || e) (or-true y))
    by false y e = sym (ap (λ z. z || e) (or-false y))

entered_other : (n count j r : ℕ) (enter : Bool) (ms : List Bool) (a : LookAround) → r < n → j < count → count * suc n ≤ length ms →
    get_or (entered (options (suc n) count) enter ms a) (j * suc n + suc r) false ≡ get_or ms (j * suc n + r) false
entered_other n zero j r enter ms a low lt room = absurd (omega (arith, lt))
entered_other n (suc count) zero r enter ms a low lt room =
    let others = entered (options (suc n) count) (get_or ms n false || enter) (drop (suc n) ms) a in
    let start : 0 * suc n + suc r ≡ suc r = omega arith in
    let back : r ≡ 0 * suc n + r = omega arith in
    ap (λ (k : ℕ). get_or (entered (options (suc n) (suc count)) enter ms a) k false) start
    ∙ ap (λ xs. get_or xs (suc r) false) (entered_options n count enter ms a (omega (arith, room)))
    ∙ get_or_append_left (enter ∷ take n ms) others false (suc r) (omega (arith, length-take n ms, room, low))
    ∙ get_or-take n ms r false low
    ∙ ap (λ (k : ℕ). get_or ms k false) back
entered_other n (suc count) (suc j) r enter ms a low lt room =
    let others = entered (options (suc n) count) (get_or ms n false || enter) (drop (suc n) ms) a in
    let size : length (enter ∷ take n ms) ≡ suc n = omega (arith, length-take n ms, room) in
    let index : suc j * suc n + suc r - suc n ≡ j * suc n + suc r = omega arith in
    let back : suc n + (j * suc n + r) ≡ suc j * suc n + r = omega arith in
    ap (λ xs. get_or xs (suc j * suc n + suc r) false) (entered_options n count enter ms a (omega (arith, room)))
    ∙ get_or-append_right (enter ∷ take n ms) others (suc n) (suc j * suc n + suc r) false size (omega arith)
    ∙ ap (λ (k : ℕ). get_or others k false) index
    ∙ entered_other n count j r (get_or ms n false || enter) (drop (suc n) ms) a low (omega (arith, lt))
    (omega (arith, room, length-drop (suc n) ms))
    ∙ get_or-drop (suc n) ms (j * suc n + r) false ∙ ap (λ (k : ℕ). get_or ms k false) back

-- where the options of one or two positions are
last_offset : (m p i : ℕ) → m < 2 → (p + suc m - 1 + (p + (i * suc m + m))) % suc m ≡ 0
last_offset zero p i h = omega arith
last_offset (suc zero) p i h = omega arith
last_offset (suc (suc m)) p i h = absurd (omega (arith, h))

last_option : (m p k : ℕ) → m < 2 → p ≤ k → (p + suc m - 1 + k) % suc m ≡ 0 → p + ((k - p) / suc m * suc m + m) ≡ k
last_option zero p k h le e = omega (arith, le)
last_option (suc zero) p k h le e = omega (arith, le, e)
last_option (suc (suc m)) p k h le e = absurd (omega (arith, h))

first_offset : (m p j : ℕ) → m < 2 → (p + (p + j * suc m)) % suc m ≡ 0
first_offset zero p j h = omega arith
first_offset (suc zero) p j h = omega arith
first_offset (suc (suc m)) p j h = absurd (omega (arith, h))

other_offset : (m p j r : ℕ) → m < 2 → r < m → (p + (p + (j * suc m + suc r))) % suc m ≡ suc r
other_offset zero p j r h low = absurd (omega (arith, low))
other_offset (suc zero) p j r h low = omega (arith, low)
other_offset (suc (suc m)) p j r h low = absurd (omega (arith, h))

last_within : (m i count : ℕ) → m < 2 → i < count → i * suc m + m < count * suc m
last_within zero i count h lt = omega (arith, lt)
last_within (suc zero) i count h lt = omega (arith, lt)
last_within (suc (suc m)) i count h lt = absurd (omega (arith, h))

option_within : (m i count : ℕ) → m < 2 → i * suc m + m < count * suc m → i < count
option_within zero i count h lt = omega (arith, lt)
option_within (suc zero) i count h lt = omega (arith, lt)
option_within (suc (suc m)) i count h lt = absurd (omega (arith, h))

fewer : (m j count : ℕ) → m < 2 → j ≤ count → j * suc m ≤ count * suc m
fewer zero j count h le = omega (arith, le)
fewer (suc zero) j count h le = omega (arith, le)
fewer (suc (suc m)) j count h le = absurd (omega (arith, h))

-- a position of the row is the first of an option or another one
option_of : (m count x : ℕ) → m < 2 → x < count * suc m →
    ((j : ℕ) × (j < count) × (x ≡ j * suc m)) ⊎ ((j : ℕ) × (r : ℕ) × (j < count) × (r < m) × (x ≡ j * suc m + suc r))
option_of zero count x h lt = inl (x, omega (arith, lt), omega arith)
option_of (suc zero) count x h lt = elim (cases_eq (x % 2) 0) [
  | inl even ↦ inl (x / 2, omega (arith, lt), omega (arith, even))
  | inr odd ↦ inr (x / 2, 0, omega (arith, lt), omega arith, omega (arith, odd))
]
option_of (suc (suc m)) count x h lt = absurd (omega (arith, h))

-- `last` is the first of the last positions of options that is in the set, or the end of the row
module _ (m p count last lasts : ℕ) (ms : List Bool) (short : m < 2) (bits : (k : ℕ) → eqb (bit_at lasts (k % 64)) 1
    ≡ eqb ((p + suc m - 1 + k) % suc m) 0)
    (found : last < p + count * suc m → is_selected lasts p (p + count * suc m) last && get_or ms last false ≡ true)
    (first : (k : ℕ) → k < last → is_selected lasts p (p + count * suc m) k && get_or ms k false ≡ false) where
  is-last : (i : ℕ) → i < count → is_selected lasts p (p + count * suc m) (p + (i * suc m + m)) ≡ true
  is-last i lt =
      rw (
        le-leb p (p + (i * suc m + m)) (omega arith),
        le-leb (suc (p + (i * suc m + m))) (p + count * suc m) (omega (arith, last_within m i count short lt)),
      )
      (bits (p + (i * suc m + m)) ∙ eq-eqb _ 0 (last_offset m p i short))

  before-last : (i : ℕ) → i < count → p + (i * suc m + m) < last → get_or ms (p + (i * suc m + m)) false ≡ false
  before-last i lt low = ap (λ x. x && get_or ms (p + (i * suc m + m)) false) (sym (is-last i lt)) ∙ first (p + (i * suc m + m)) low

  ended-at : (j : ℕ) → j ≤ count → ended m j (drop p ms) ≡ leb (suc last) (p + j * suc m)
  ended-at j le = elim (cases_lt last (p + j * suc m)) [
    | inl lt ↦
        let there = and_parts _ _ (found (omega (arith, lt, fewer m j count short le))) in
        let parts = of-parts lasts p (p + count * suc m) last there.0 in
        let i : ℕ = (last - p) / suc m in
        let is : p + (i * suc m + m) ≡ last = last_option m p last short parts.0 (eqb-true _ 0 (sym (bits last) ∙ parts.2)) in
        ended-some m j (drop p ms) i (option_within m i j short (omega (arith, lt, is)))
        (get_or-drop p ms (i * suc m + m) false ∙ ap (λ (k : ℕ). get_or ms k false) is ∙ there.1)
        ∙ sym (le-leb (suc last) (p + j * suc m) (omega (arith, lt)))
    | inr ge ↦
        ended-none m j (drop p ms)
        (λ i lt. get_or-drop p ms (i * suc m + m) false
        ∙ before-last i (omega (arith, lt, le)) (omega (arith, ge, last_within m i j short lt)))
        ∙ sym (lt-leb (suc last) (p + j * suc m) (omega (arith, ge)))
  ]

  pub is_final_row : (a : LookAround) → leb (suc last) (p + count * suc m) ≡ is_final (options (suc m) count) (drop p ms) a
  is_final_row a = sym (is_final_options m count (drop p ms) a ∙ ended-at count (omega arith))

  pub accepts_row : (enter : Bool) (a : LookAround) → (leb (suc last) (p + count * suc m) || enter)
      ≡ accepts (options (suc m) count) enter (drop p ms) a
  accepts_row enter a = sym (accepts_options m count enter (drop p ms) a ∙ ap (λ x. x || enter) (ended-at count (omega arith)))

  -- the first positions of options are added from `from` on
  module _ (enter : Bool) (from firsts : ℕ) (old new put : List Bool) (some : 0 < count)
      (room : p + count * suc m ≤ length ms) (shifted : AreShifted p ms old)
      (at-once : enter ≡ true → from ≡ p) (after : enter ≡ false → from ≡ last + 1)
      (first-bits : (k : ℕ) → eqb (bit_at firsts (k % 64)) 1 ≡ eqb ((p + k) % suc m) 0)
      (is-put : put ≡ take p old ++ enter ∷ drop (p + 1) old) (size : length new ≡ length put)
      (each : (k : ℕ) → k < length put → get_or new k false
      ≡ (if is_selected firsts from (p + count * suc m) k then true else get_or put k false)) where
    abbrev end : ℕ
    end = p + count * suc m

    set-put : put ≡ set old p enter
    set-put =
        let one : p + 1 ≡ suc p = omega arith in
        is-put ∙ ap (λ (k : ℕ). take p old ++ enter ∷ drop k old) one ∙ sym (set_split old p enter (omega (arith, shifted.long, room)))

    long : length put ≡ length old
    long = ap length set-put ∙ length-set old p enter

    put-same : get_or put p false ≡ enter
    put-same = ap (λ xs. get_or xs p false) set-put ∙ get_or-set_same old p enter false (omega (arith, shifted.long, room))

    put-other : (k : ℕ) → (k ≡ p → ⊥) → get_or put k false ≡ get_or old k false
    put-other k other = ap (λ xs. get_or xs k false) set-put ∙ get_or-set_other old p k enter false other

    -- the position before
    put-later : (x : ℕ) → get_or put (p + suc x) false ≡ get_or ms (p + x) false
    put-later x =
        let index : p + suc x ≡ suc p + x = omega arith in
        put-other (p + suc x) (λ same. omega (arith, same)) ∙ ap (λ (k : ℕ). get_or old k false) index
        ∙ sym (get_or-drop (suc p) old x false) ∙ ap (λ xs. get_or xs x false) shifted.same ∙ get_or-drop p ms x false

    abbrev entry : ℕ → Bool
    entry k = if is_selected firsts from end k then true else get_or put k false

    no-later : (j : ℕ) → j < count → p + j * suc m ≤ last → enter ≡ false → get_or put (p + j * suc m) false ≡ false
    no-later zero lt le out =
        let same : p + zero * suc m ≡ p = omega arith in
        ap (λ (k : ℕ). get_or put k false) same ∙ put-same ∙ out
    no-later (suc j) lt le out =
        let index : p + suc j * suc m ≡ p + suc (j * suc m + m) = omega arith in
        ap (λ (k : ℕ). get_or put k false) index ∙ put-later (j * suc m + m) ∙ before-last j (omega (arith, lt)) (omega (arith, le, index))

    first-entry : (j : ℕ) → j < count → entry (p + j * suc m) ≡ (ended m j (drop p ms) || enter)
    first-entry j lt =
        rw (is, ended-at j (omega (arith, lt))) (by enter refl)
      where
        is : is_selected firsts from end (p + j * suc m) ≡ leb from (p + j * suc m)
        is =
            rw (
              le-leb (suc (p + j * suc m)) end (omega (arith, last_within m j count short lt)),
              first-bits (p + j * suc m) ∙ eq-eqb _ 0 (first_offset m p j short),
            )
            (and-true _ ∙ and-true _)

        by : (e : Bool) → enter ≡ e → (if leb from (p + j * suc m) then true else get_or put (p + j * suc m) false)
            ≡ (leb (suc last) (p + j * suc m) || e)
        by true e = rw (le-leb from (p + j * suc m) (omega (arith, at-once e))) (sym (or-true _))
        by false e =
            let start : from ≡ suc last = omega (arith, after e) in
            elim (cases_lt last (p + j * suc m)) [
              | inl above ↦ rw (
                le-leb from (p + j * suc m) (omega (arith, start, above)),
                le-leb (suc last) (p + j * suc m) (omega (arith, above)),
              ) refl
              | inr below ↦
                  rw (
                    lt-leb from (p + j * suc m) (omega (arith, start, below)),
                    lt-leb (suc last) (p + j * suc m)
                        (omega (arith, below)),
                  ) (no-later j lt below e)
            ]

    other-entry : (j r : ℕ) → j < count → r < m → entry (p + (j * suc m + suc r)) ≡ get_or ms (p + (j * suc m + r)) false
    other-entry j r lt low =
        let index : p + (j * suc m + suc r) ≡ p + suc (j * suc m + r) = omega arith in
        let other : eqb (bit_at firsts ((p + (j * suc m + suc r)) % 64)) 1 ≡ false =
        first-bits (p + (j * suc m + suc r)) ∙ ne_eqb _ 0 (λ e. omega (arith, e, other_offset m p j r short low)) in
        rw (other, and-false (leb from (p + (j * suc m + suc r)) && leb (suc (p + (j * suc m + suc r))) end))
        (ap (λ (k : ℕ). get_or put k false) index ∙ put-later (j * suc m + r))

    out-of-row : (k : ℕ) → is_selected firsts from end k ≡ false → (k ≡ p → ⊥) → entry k ≡ get_or old k false
    out-of-row k out other = rw out (put-other k other)

    not-before : p ≤ from
    not-before = by enter refl
      where
        by : (e : Bool) → enter ≡ e → p ≤ from
        by true e = omega (arith, at-once e)
        by false e = elim (cases_lt last end) [
          | inl lt ↦ omega (arith, after e, (of-parts lasts p end last (and_parts _ _ (found lt)).0).0)
          | inr ge ↦ omega (arith, after e, ge)
        ]

    pub entered_row : (a : LookAround) → new ≡ take p old
        ++ (entered (options (suc m) count) enter (drop p ms) a ++ drop (p + position_count (options (suc m) count)) old)
    entered_row a = ext_get_or false new _ (size ∙ long ∙ whole) (λ k h. each k (omega (arith, h, size))
        ∙ by k (omega (arith, h, size, long)))
      where
        n : ℕ
        n = position_count (options (suc m) count)

        es : List Bool
        es = entered (options (suc m) count) enter (drop p ms) a

        size-n : n ≡ count * suc m
        size-n = position_count_options (suc m) count

        length-es : length es ≡ n
        length-es = length-entered (options (suc m) count) enter (drop p ms) a

        length-first : length (take p old) ≡ p
        length-first = omega (arith, length-take p old, shifted.long, room)

        whole : length old ≡ length (take p old ++ (es ++ drop (p + n) old))
        whole = omega (
          arith,
          length-append (take p old) (es ++ drop (p + n) old),
          length-append es (drop (p + n) old),
          length-first,
          length-es,
          length-drop (p + n) old,
          shifted.long,
          room,
          size-n,
        )

        by : (k : ℕ) → k < length old → entry k ≡ get_or (take p old ++ (es ++ drop (p + n) old)) k false
        by k h = elim (cases_lt k p) [
          | inl low ↦
              out-of-row k (none-before firsts from end k (omega (arith, low, not-before))) (λ same. omega (arith, low, same))
              ∙ sym (get_or_append_left (take p old) (es ++ drop (p + n) old) false k (omega (arith, length-first, low))
              ∙ get_or-take p old k false low)
          | inr high ↦
              let rest : get_or (take p old ++ (es ++ drop (p + n) old)) k false ≡ get_or (es ++ drop (p + n) old) (k - p) false =
              get_or-append_right (take p old) (es ++ drop (p + n) old) p k false length-first high in
              elim (cases_lt (k - p) n) [
                | inl within ↦
                    let there = rest ∙ get_or_append_left es (drop (p + n) old) false (k - p) (omega (arith, length-es, within)) in
                    let space : count * suc m ≤ length (drop p ms) = omega (arith, length-drop p ms, room) in
                    elim (option_of m count (k - p) short (omega (arith, within, size-n))) [
                      | inl start ↦
                          let index : p + start.0 * suc m ≡ k = omega (arith, start.2, high) in
                          ap entry (sym index) ∙ first-entry start.0 start.1
                          ∙ sym (there ∙ ap (λ (i : ℕ). get_or es i false) start.2
                          ∙ entered_first m count start.0 enter (drop p ms) a start.1 space)
                      | inr other ↦
                          let index : p + (other.0 * suc m + suc other.1) ≡ k = omega (arith, other.4, high) in
                          ap entry (sym index) ∙ other-entry other.0 other.1 other.2 other.3
                          ∙ sym (get_or-drop p ms (other.0 * suc m + other.1) false)
                          ∙ sym (there ∙ ap (λ (i : ℕ). get_or es i false) other.4
                          ∙ entered_other m count other.0 other.1 enter (drop p ms) a other.3 other.2 space)
                    ]
                | inr past ↦
                    let far : p + n + (k - p - n) ≡ k = omega (arith, past, high) in
                    out-of-row k (none-after firsts from end k (omega (arith, past, size-n)))
                    (λ same. omega (arith, past, same, size-n, some, fewer m 1 count short some))
                    ∙ sym (rest ∙ get_or-append_right es (drop (p + n) old) n (k - p) false length-es past
                    ∙ get_or-drop (p + n) old (k - p - n) false ∙ ap (λ (i : ℕ). get_or old i false) far)
              ]
        ]

-- the same for options of one or two positions
pub is_final_many : (n p count last lasts : ℕ) (ms : List Bool) → 0 < n → n ≤ 2 →
    ((k : ℕ) → eqb (bit_at lasts (k % 64)) 1 ≡ eqb ((p + n - 1 + k) % n) 0) →
    (last < p + count * n → is_selected lasts p (p + count * n) last && get_or ms last false ≡ true) →
    ((k : ℕ) → k < last → is_selected lasts p (p + count * n) k && get_or ms k false ≡ false) → (a : LookAround) →
    leb (suc last) (p + count * n) ≡ is_final (options n count) (drop p ms) a
is_final_many zero p count last lasts ms some short bits found first a = absurd (omega (arith, some))
is_final_many (suc m) p count last lasts ms some short bits found first a = is_final_row m p count last lasts ms
    (omega (arith, short)) bits found first a

pub accepts_many : (n p count last lasts : ℕ) (ms : List Bool) → 0 < n → n ≤ 2 →
    ((k : ℕ) → eqb (bit_at lasts (k % 64)) 1 ≡ eqb ((p + n - 1 + k) % n) 0) →
    (last < p + count * n → is_selected lasts p (p + count * n) last && get_or ms last false ≡ true) →
    ((k : ℕ) → k < last → is_selected lasts p (p + count * n) k && get_or ms k false ≡ false) → (enter : Bool) (a : LookAround) →
    (leb (suc last) (p + count * n) || enter) ≡ accepts (options n count) enter (drop p ms) a
accepts_many zero p count last lasts ms some short bits found first enter a = absurd (omega (arith, some))
accepts_many (suc m) p count last lasts ms some short bits found first enter a = accepts_row m p count last lasts ms
    (omega (arith, short)) bits found first enter a

pub entered_many : (n p count last lasts : ℕ) (ms : List Bool) → 0 < n → n ≤ 2 →
    ((k : ℕ) → eqb (bit_at lasts (k % 64)) 1 ≡ eqb ((p + n - 1 + k) % n) 0) →
    (last < p + count * n → is_selected lasts p (p + count * n) last && get_or ms last false ≡ true) →
    ((k : ℕ) → k < last → is_selected lasts p (p + count * n) k && get_or ms k false ≡ false) →
    (enter : Bool) (from firsts : ℕ) (old new put : List Bool) →
    0 < count → p + count * n ≤ length ms → AreShifted p ms old → (enter ≡ true → from ≡ p) → (enter ≡ false → from ≡ last + 1) →
    ((k : ℕ) → eqb (bit_at firsts (k % 64)) 1 ≡ eqb ((p + k) % n) 0) → put ≡ take p old ++ enter ∷ drop (p + 1) old →
    length new ≡ length put →
    ((k : ℕ) → k < length put → get_or new k false
    ≡ (if is_selected firsts from (p + count * n) k then true else get_or put k false)) → (a : LookAround) →
    new ≡ take p old ++ (entered (options n count) enter (drop p ms) a ++ drop (p + position_count (options n count)) old)
entered_many zero p count last lasts ms some short = absurd (omega (arith, some))
entered_many (suc m) p count last lasts ms some short = entered_row m p count last lasts ms (omega (arith, short))
