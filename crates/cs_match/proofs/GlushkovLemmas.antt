-- Position sets are sound and complete for the spans that a tree matches.
use Rattle.std.proofs.Common.{◌≡◌, ℕ, zero, suc, ◌-◌, ◌<◌, ◌≤◌, inl, inr, Bool, true, false, ◌&&◌, ◌||◌, not, List, [], ◌∷◌, ◌++◌, take, drop, set, length, refl, sym, ◌∙◌, ap, subst, arith, length-append, length-take, length-drop}
use Rattle.std.specs.Prelude.{slice_index, nat_eq, Option, None, ◌↔◌}
use Rattle.std.proofs.lemmas.List.{take_at, drop_at, length-replicate, replicate-append-replicate}
use Rattle.std.proofs.lemmas.Bool.{and_parts, or_cases, and_from, or_left, or_right, eqb-true, eq-eqb, not-true}
use Rattle.cs_syntax.specs.Matching.{Tree, Trees, empty, one_of, one_char, cat, alt, rep, line_start, line_end, word_edge, not_word_edge, none, more, member, is_at_word_boundary, Chain, MatchesSpan, MatchesSequence, MatchesBranch, HasMatch}
use Rattle.std.specs.Prelude.{encode_utf8, slice_index_or}
use Rattle.std.proofs.lemmas.Bool.{cases_lt}
use Rattle.cs_syntax.specs.Characters.{MatchesChar}
use Rattle.cs_syntax.specs.Cuts.{Divide, char_ranges, all_char_ranges}
use Rattle.cs_syntax.specs.CharSteps.{unfinished, char_step_at, taken_at, begun_at}
use Rattle.cs_syntax.proofs.CutLemmas.{divide_append}
use Rattle.cs_syntax.proofs.CharStepLemmas.{taken_matches}
use Rattle.cs_syntax.proofs.EncodingLemmas.{one_byte, two_bytes, three_bytes, four_bytes}
use Rattle.cs_match.specs.declared.position.Input.{Input}
use Rattle.cs_match.specs.declared.state.LookAround.{LookAround}
use Rattle.cs_match.specs.Glushkov.{look_around, position_count, position_count_of, nullable, nullable_all, nullable_some, is_final, is_final_all, is_final_some, accepts, step, step_all, step_each, cuts_of, unfinished_before, input_at, positions, accepts_at, accepts_in, IsExpanded, AreExpanded}
use Rattle.cs_match.specs.LookBehind.{look_behind, look_behind_of}
use Rattle.cs_match.specs.declared.state.LookBehind.{LookBehind}

mutual
  pub length-step : (t : Tree) (enter : Bool) (ms : List Bool) (a : LookAround) (b : Input) →
      length (step t enter ms a b) ≡ position_count t
  length-step (cat ts) enter ms a b = length-step_all ts enter ms a b
  length-step (alt ts) enter ms a b = length-step_each ts enter ms a b
  length-step (rep x n m) enter ms a b = length-step x (enter || is_final x ms a) ms a b
  length-step leaf enter ms a b = refl

  pub length-step_all : (ts : Trees) (enter : Bool) (ms : List Bool) (a : LookAround) (b : Input) →
      length (step_all ts enter ms a b) ≡ position_count_of ts
  length-step_all none enter ms a b = refl
  length-step_all (more t ts) enter ms a b =
      let h = length-step t enter (take (position_count t) ms) a b in
      let k = length-step_all ts (accepts t enter (take (position_count t) ms) a) (drop (position_count t) ms) a b in
      omega (arith, h, k, length-append {A = Bool})

  pub length-step_each : (ts : Trees) (enter : Bool) (ms : List Bool) (a : LookAround) (b : Input) →
      length (step_each ts enter ms a b) ≡ position_count_of ts
  length-step_each none enter ms a b = refl
  length-step_each (more t ts) enter ms a b =
      let h = length-step t enter (take (position_count t) ms) a b in
      let k = length-step_each ts enter (drop (position_count t) ms) a b in
      omega (arith, h, k, length-append {A = Bool})

encoded_long : (c : ℕ) → 0 < length (encode_utf8 c)
encoded_long c =
    elim (cases_lt c 128) [
      | inl one ↦ omega (arith, ap length (one_byte c one))
      | inr from_two ↦
          elim (cases_lt c 2048) [
            | inl two ↦ omega (arith, ap length (two_bytes c from_two (omega arith)), length-append {A = ℕ})
            | inr from_three ↦
                elim (cases_lt c 65536) [
                  | inl three ↦ omega (arith, ap length (three_bytes c from_three (omega arith)), length-append {A = ℕ})
                  | inr from_four ↦ omega (arith, ap length (four_bytes c from_four), length-append {A = ℕ})
                ]
          ]
    ]

-- a character has a byte, and lies within the line
char_span : (s : List ℕ) (ranges : List (ℕ × ℕ)) (i j : ℕ) → MatchesChar s ranges i j → (i < j) × (j ≤ length s)
char_span s ranges i j h =
    let size = ap length h.2.1 in
    (omega (arith, h.2.0, encoded_long h.0), omega (arith, h.2.0, encoded_long h.0, size, length-take (j - i) (drop i s), length-drop i s))

module _ (a : ℕ → LookAround) (b : ℕ → Input) where
  pub length-positions : (t : Tree) (enter : ℕ → Bool) (i : ℕ) → length (positions a b t enter i) ≡ position_count t
  length-positions t enter zero = length-replicate (position_count t) false
  length-positions t enter (suc i) = length-step t (enter i) (positions a b t enter i) (a i) (b i)

  -- the positions of a concatenation: those of its first part, and those of the rest, which begins where the
  -- first part accepts
  pub positions_cat : (t : Tree) (ts : Trees) (enter : ℕ → Bool) (i : ℕ) →
      positions a b (cat (more t ts)) enter i ≡ positions a b t enter i ++ positions a b (cat ts) (accepts_at a b t enter) i
  positions_cat t ts enter zero = sym (replicate-append-replicate (position_count t) (position_count_of ts) false)
  positions_cat t ts enter (suc i) =
      let A = positions a b t enter i in
      let B = positions a b (cat ts) (accepts_at a b t enter) i in
      let h = length-positions t enter i in
      rw (positions_cat t ts enter i, take_at A B (position_count t) h, drop_at A B (position_count t) h) refl

  pub positions_alt : (t : Tree) (ts : Trees) (enter : ℕ → Bool) (i : ℕ) →
      positions a b (alt (more t ts)) enter i ≡ positions a b t enter i ++ positions a b (alt ts) enter i
  positions_alt t ts enter zero = sym (replicate-append-replicate (position_count t) (position_count_of ts) false)
  positions_alt t ts enter (suc i) =
      let A = positions a b t enter i in
      let B = positions a b (alt ts) enter i in
      let h = length-positions t enter i in
      rw (positions_alt t ts enter i, take_at A B (position_count t) h, drop_at A B (position_count t) h) refl

  -- the body of a repeat begins where the repeat begins, and where the body itself is final
  pub again : Tree → ℕ → Option ℕ → (ℕ → Bool) → ℕ → Bool
  again x n m enter j = enter j || is_final x (positions a b (rep x n m) enter j) (a j)

  pub positions_rep : (x : Tree) (n : ℕ) (m : Option ℕ) (enter : ℕ → Bool) (i : ℕ) →
      positions a b (rep x n m) enter i ≡ positions a b x (again x n m enter) i
  unfolding again
  positions_rep x n m enter zero = refl
  positions_rep x n m enter (suc i) = rw (positions_rep x n m enter i) refl

  pub is_final_cat : (t : Tree) (ts : Trees) (enter : ℕ → Bool) (i : ℕ) →
      is_final_all (more t ts) (positions a b (cat (more t ts)) enter i) (a i) ≡
      (is_final t (positions a b t enter i) (a i) && nullable_all ts (a i)) || is_final_all ts
      (positions a b (cat ts) (accepts_at a b t enter) i) (a i)
  is_final_cat t ts enter i =
      let A = positions a b t enter i in
      let B = positions a b (cat ts) (accepts_at a b t enter) i in
      let h = length-positions t enter i in
      rw (positions_cat t ts enter i, take_at A B (position_count t) h, drop_at A B (position_count t) h) refl

  pub is_final_alt : (t : Tree) (ts : Trees) (enter : ℕ → Bool) (i : ℕ) →
      is_final_some (more t ts) (positions a b (alt (more t ts)) enter i) (a i) ≡
      is_final t (positions a b t enter i) (a i) || is_final_some ts (positions a b (alt ts) enter i) (a i)
  is_final_alt t ts enter i =
      let A = positions a b t enter i in
      let B = positions a b (alt ts) enter i in
      let h = length-positions t enter i in
      rw (positions_alt t ts enter i, take_at A B (position_count t) h, drop_at A B (position_count t) h) refl

pub cat_bools : (l b r e k : Bool) → (((l && b) || r) || (e && (k && b))) ≡ (r || ((l || (e && k)) && b))
cat_bools true true true e k = refl
cat_bools true true false e k = refl
cat_bools true false true e k = refl
cat_bools true false false true true = refl
cat_bools true false false true false = refl
cat_bools true false false false k = refl
cat_bools false true true e k = refl
cat_bools false true false true k = refl
cat_bools false true false false k = refl
cat_bools false false true e k = refl
cat_bools false false false true k = refl
cat_bools false false false false k = refl

pub alt_bools : (l m e b c : Bool) → ((l || m) || (e && (b || c))) ≡ ((l || (e && b)) || (m || (e && c)))
alt_bools true m e b c = refl
alt_bools false m false b c = refl
alt_bools false true true true c = refl
alt_bools false false true true c = refl
alt_bools false m true false c = refl

module _ (s : List ℕ) (a : ℕ → LookAround) (b : ℕ → Input) where
  pub accepts_at_cat : (t : Tree) (ts : Trees) (enter : ℕ → Bool) (i : ℕ) →
      accepts_at a b (cat (more t ts)) enter i ≡ accepts_at a b (cat ts) (accepts_at a b t enter) i
  accepts_at_cat t ts enter i =
      rw (is_final_cat a b t ts enter i)
      (cat_bools (is_final t (positions a b t enter i) (a i)) (nullable_all ts (a i))
      (is_final_all ts (positions a b (cat ts) (accepts_at a b t enter) i) (a i)) (enter i) (nullable t (a i)))

  pub accepts_at_alt : (t : Tree) (ts : Trees) (enter : ℕ → Bool) (i : ℕ) →
      accepts_at a b (alt (more t ts)) enter i ≡ (accepts_at a b t enter i || accepts_at a b (alt ts) enter i)
  accepts_at_alt t ts enter i =
      rw (is_final_alt a b t ts enter i)
      (alt_bools (is_final t (positions a b t enter i) (a i)) (is_final_some ts (positions a b (alt ts) enter i) (a i))
      (enter i) (nullable t (a i)) (nullable_some ts (a i)))

  -- the tree is expanded, `a` says what its assertions ask, and `b` what its sets ask
  abbrev mutual
    pub Reads : Tree → Type 0
    Reads empty = Unit {0}
    Reads (one_of set) = (i : ℕ) → (b i).byte ≡ slice_index s i
    Reads (one_char ranges) = (cuts : List ℕ) × Divide cuts ranges × ((i : ℕ) → (b i).char ≡ char_step_at cuts s i)
    Reads (cat ts) = AllRead ts
    Reads (alt ts) = AllRead ts
    Reads (rep x n m) = (n ≤ 1) × (m ≡ None) × Reads x
    Reads line_start = (i : ℕ) → (a i).first ≡ nat_eq i 0
    Reads line_end = (i : ℕ) → (a i).last ≡ nat_eq i (length s)
    Reads word_edge = (i : ℕ) → (a i).edge ≡ is_at_word_boundary s i
    Reads not_word_edge = (i : ℕ) → (a i).edge ≡ is_at_word_boundary s i

    pub AllRead : Trees → Type 0
    AllRead none = Unit {0}
    AllRead (more t ts) = Reads t × AllRead ts

  mutual
    pub nullable_matches : (t : Tree) (i : ℕ) → Reads t → nullable t (a i) ≡ true → MatchesSpan s t i i
    nullable_matches empty i st h = refl
    nullable_matches (one_of set) i st h = (cc)
    nullable_matches (one_char ranges) i st h = (cc)
    nullable_matches (cat ts) i st h = nullable_matches_all ts i st h
    nullable_matches (alt ts) i st h = nullable_matches_some ts i st h
    nullable_matches (rep x n m) i st h =
        elim (or_cases (nat_eq n 0) (nullable x (a i)) h) [
          | inl zero_times ↦ let e = eqb-true n 0 zero_times in (0, omega arith, rw st.1 tt, refl)
          | inr one ↦ (1, st.0, rw st.1 tt, (i, nullable_matches x i st.2 one, refl))
        ]
    nullable_matches line_start i st h = let e = eqb-true i 0 (sym (st i) ∙ h) in (e, e)
    nullable_matches line_end i st h = let e = eqb-true i (length s) (sym (st i) ∙ h) in (e, e)
    nullable_matches word_edge i st h = (refl, sym (st i) ∙ h)
    nullable_matches not_word_edge i st h = (refl, sym (st i) ∙ not-true (a i).edge h)

    pub nullable_matches_all : (ts : Trees) (i : ℕ) → AllRead ts → nullable_all ts (a i) ≡ true → MatchesSequence s ts i i
    nullable_matches_all none i st h = refl
    nullable_matches_all (more t ts) i st h =
        let p = and_parts (nullable t (a i)) (nullable_all ts (a i)) h in
        (i, nullable_matches t i st.0 p.0, nullable_matches_all ts i st.1 p.1)

    pub nullable_matches_some : (ts : Trees) (i : ℕ) → AllRead ts → nullable_some ts (a i) ≡ true → MatchesBranch s ts i i
    nullable_matches_some none i st h = (cc)
    nullable_matches_some (more t ts) i st h =
        elim (or_cases (nullable t (a i)) (nullable_some ts (a i)) h) [
          | inl p ↦ inl (nullable_matches t i st.0 p)
          | inr p ↦ inr (nullable_matches_some ts i st.1 p)
        ]

  -- t began before i, at an offset from which it matches the span up to i
  abbrev pub Came : Tree → (ℕ → Bool) → ℕ → Type 0
  Came t enter i = (k : ℕ) × (k < i) × (enter k ≡ true) × MatchesSpan s t k i

  -- the same, except that t may also begin at i
  abbrev pub Comes : Tree → (ℕ → Bool) → ℕ → Type 0
  Comes t enter i = (k : ℕ) × (k ≤ i) × (enter k ≡ true) × MatchesSpan s t k i

  abbrev pub IsSound : Tree → Type 0
  IsSound t = (enter : ℕ → Bool) (i : ℕ) → i ≤ length s → is_final t (positions a b t enter i) (a i) ≡ true → Came t enter i

  pub accepts_at_sound : (t : Tree) → Reads t → IsSound t → (enter : ℕ → Bool) (i : ℕ) → i ≤ length s →
      accepts_at a b t enter i ≡ true → Comes t enter i
  accepts_at_sound t st sound enter i le h =
      elim (or_cases (is_final t (positions a b t enter i) (a i)) (enter i && nullable t (a i)) h) [
        | inl p ↦ let c = sound enter i le p in (c.0, omega (arith, c.1), c.2, c.3)
        | inr p ↦
            let q = and_parts (enter i) (nullable t (a i)) p in
            (i, omega arith, q.0, nullable_matches t i st q.1)
      ]

  pub Chain_more : (R : ℕ → ℕ → Type 0) (c i j l : ℕ) → Chain R c i j → R j l → Chain R (suc c) i l
  Chain_more R zero i j l e r = let P : ℕ → Type 0 = λ x. R x l in (l, subst P (sym e) r, refl)
  Chain_more R (suc c) i j l h r = (h.0, h.1, Chain_more R c h.0 j l h.2 r)

  -- if the body of a star can begin at i, the star began at or before i and has had some iterations
  pub star_sound : (x : Tree) (n : ℕ) (m : Option ℕ) → IsSound x → (enter : ℕ → Bool) (room i : ℕ) → i < room → i ≤ length s →
      again a b x n m enter i ≡ true → (k : ℕ) × (k ≤ i) × (enter k ≡ true) × (c : ℕ) × Chain (MatchesSpan s x) c k i
  unfolding again
  star_sound x n m sound enter zero i lt le h = absurd (omega arith)
  star_sound x n m sound enter (suc room) i lt le h =
      elim (or_cases (enter i) (is_final x (positions a b (rep x n m) enter i) (a i)) h) [
        | inl p ↦ (i, omega arith, p, 0, refl)
        | inr p ↦
            let c = sound (again a b x n m enter) i le (rw (positions_rep a b x n m enter i) at p) in
            let before = star_sound x n m sound enter room c.0 (omega (arith, c.1)) (omega (arith, c.1)) c.2 in (
              before.0,
              omega (arith, before.1, c.1),
              before.2,
              suc before.3,
              Chain_more (MatchesSpan s x) before.3
                  before.0 c.0 i before.4 c.3,
            )
      ]

  -- the two positions of a set of characters
  char_positions : (ranges : List (ℕ × ℕ)) (cuts : List ℕ) → ((i : ℕ) → (b i).char ≡ char_step_at cuts s i) → (enter : ℕ → Bool) (i : ℕ) →
      positions a b (one_char ranges) enter i ≡ begun_at cuts s enter i ∷ taken_at cuts s ranges enter i ∷ []
  char_positions ranges cuts steps enter zero = refl
  char_positions ranges cuts steps enter (suc i) = rw (char_positions ranges cuts steps enter i, steps i) refl

  mutual
    pub sound : (t : Tree) → Reads t → IsSound t
    sound empty st enter i le h = (cc)
    sound (one_of set) st enter zero le h = (cc)
    sound (one_of set) st enter (suc i) le h =
        let p = and_parts (enter i) (member set (b i).byte) h in
        (i, omega arith, p.0, (omega arith, ap (member set) (sym (st i)) ∙ p.1, refl))
    sound (one_char ranges) st enter i le h =
        let taken = ap (λ ms. slice_index_or ms 1 false) (sym (char_positions ranges st.0 st.2 enter i)) ∙ h in
        let found = (taken_matches st.0 s ranges st.1 enter i le).0 taken in
        (found.0, (char_span s ranges found.0 i found.2).0, found.1, found.2)
    sound (cat ts) st enter i le h = sound_all ts st enter i le h
    sound (alt ts) st enter i le h = sound_some ts st enter i le h
    sound (rep x n m) st enter i le h =
        let c = sound x st.2 (again a b x n m enter) i le (rw (positions_rep a b x n m enter i) at h) in
        let before = star_sound x n m (sound x st.2) enter (suc c.0) c.0 (omega arith) (omega (arith, c.1)) c.2 in (
          before.0,
          omega (arith, before.1, c.1),
          before.2,
          (
            suc before.3,
            omega (arith, st.0),
            rw st.1 tt,
            Chain_more (MatchesSpan s x) before.3 before.0 c.0 i before.4
                c.3,
          ),
        )
    sound line_start st enter i le h = (cc)
    sound line_end st enter i le h = (cc)
    sound word_edge st enter i le h = (cc)
    sound not_word_edge st enter i le h = (cc)

    pub sound_all : (ts : Trees) → AllRead ts → IsSound (cat ts)
    sound_all none st enter i le h = (cc)
    sound_all (more t ts) st enter i le h =
        elim (or_cases _ _ (rw (is_final_cat a b t ts enter i) at h)) [
          | inl p ↦
              let q = and_parts (is_final t (positions a b t enter i) (a i)) (nullable_all ts (a i)) p in
              let c = sound t st.0 enter i le q.0 in
              (c.0, c.1, c.2, (i, c.3, nullable_matches_all ts i st.1 q.1))
          | inr p ↦
              let c = sound_all ts st.1 (accepts_at a b t enter) i le p in
              let d = accepts_at_sound t st.0 (sound t st.0) enter c.0 (omega (arith, c.1)) c.2 in
              (d.0, omega (arith, d.1, c.1), d.2, (c.0, d.3, c.3))
        ]

    pub sound_some : (ts : Trees) → AllRead ts → IsSound (alt ts)
    sound_some none st enter i le h = (cc)
    sound_some (more t ts) st enter i le h =
        elim (or_cases _ _ (rw (is_final_alt a b t ts enter i) at h)) [
          | inl p ↦ let c = sound t st.0 enter i le p in (c.0, c.1, c.2, inl c.3)
          | inr p ↦ let c = sound_some ts st.1 enter i le p in (c.0, c.1, c.2, inr c.3)
        ]

  nullable_accepts : (t : Tree) (enter : ℕ → Bool) (k i : ℕ) → enter k ≡ true → k ≡ i → nullable t (a i) ≡ true →
      accepts_at a b t enter i ≡ true
  nullable_accepts t enter k i e same h =
      let P : ℕ → Type 0 = λ x. enter x ≡ true in
      or_right (is_final t (positions a b t enter i) (a i)) _ (and_from (enter i) (nullable t (a i)) (subst P same e) h)

  abbrev pub IsComplete : Tree → Type 0
  IsComplete t = (enter : ℕ → Bool) (k i : ℕ) → enter k ≡ true → MatchesSpan s t k i → accepts_at a b t enter i ≡ true

  again_round : (x : Tree) (n : ℕ) (m : Option ℕ) (enter : ℕ → Bool) (i : ℕ) → accepts_at a b x (again a b x n m enter)
      i ≡ true → again a b x n m enter i ≡ true
  unfolding again
  again_round x n m enter i h =
      elim (or_cases (is_final x (positions a b x (again a b x n m enter) i) (a i)) (again a b x n m enter i && nullable x (a i)) h) [
        | inl p ↦ or_right (enter i) _ (rw (positions_rep a b x n m enter i) p)
        | inr p ↦ (and_parts (again a b x n m enter i) (nullable x (a i)) p).0
      ]

  again_from : (x : Tree) (n : ℕ) (m : Option ℕ) (enter : ℕ → Bool) (k : ℕ) → enter k ≡ true → again a b x n m enter k ≡ true
  unfolding again
  again_from x n m enter k e = or_left (enter k) _ e

  -- if the body accepts, so does the loop
  round_accepts : (x : Tree) (n : ℕ) (m : Option ℕ) (enter : ℕ → Bool) (i : ℕ) →
      accepts_at a b x (again a b x n m enter) i ≡ true → accepts_at a b (rep x n m) enter i ≡ true
  unfolding again
  round_accepts x n m enter i h =
      let accepting = is_final x (positions a b (rep x n m) enter i) (a i) in
      elim (or_cases (is_final x (positions a b x (again a b x n m enter) i) (a i)) (again a b x n m enter i && nullable x (a i)) h) [
        | inl p ↦ or_left accepting _ (rw (positions_rep a b x n m enter i) p)
        | inr p ↦
            let q = and_parts (again a b x n m enter i) (nullable x (a i)) p in
            elim (or_cases (enter i) accepting q.0) [
              | inl e ↦ or_right accepting _ (and_from (enter i) _ e (or_right (nat_eq n 0) _ q.1))
              | inr l ↦ or_left accepting _ l
            ]
      ]

  rounds_accept : (x : Tree) (n : ℕ) (m : Option ℕ) → IsComplete x → (enter : ℕ → Bool) (c k i : ℕ) →
      again a b x n m enter k ≡ true → Chain (MatchesSpan s x) (suc c) k i → accepts_at a b (rep x n m) enter i ≡ true
  rounds_accept x n m complete enter zero k i e h =
      let P : ℕ → Type 0 = λ y. accepts_at a b (rep x n m) enter y ≡ true in
      subst P h.2 (round_accepts x n m enter h.0 (complete (again a b x n m enter) k h.0 e h.1))
  rounds_accept x n m complete enter (suc c) k i e h =
      rounds_accept x n m complete enter c h.0 i (again_round x n m enter h.0 (complete (again a b x n m enter) k h.0 e h.1)) h.2

  loop_accepts : (x : Tree) (n : ℕ) (m : Option ℕ) → IsComplete x → (enter : ℕ → Bool) (c k i : ℕ) →
      enter k ≡ true → n ≤ c → Chain (MatchesSpan s x) c k i → accepts_at a b (rep x n m) enter i ≡ true
  loop_accepts x n m complete enter zero k i e le h =
      nullable_accepts (rep x n m) enter k i e h (or_left (nat_eq n 0) _ (eq-eqb n 0 (omega arith)))
  loop_accepts x n m complete enter (suc c) k i e le h = rounds_accept x n m complete enter c k i (again_from x n m enter k e) h

  mutual
    pub complete : (t : Tree) → Reads t → IsComplete t
    complete empty st enter k i e h = nullable_accepts empty enter k i e h refl
    complete (one_of set) st enter k i e h =
        let P : ℕ → Type 0 = λ x. accepts_at a b (one_of set) enter x ≡ true in
        subst P (sym h.2) (or_left (enter k && member set (b k).byte) _ (and_from (enter k) _ e (ap (member set) (st k) ∙ h.1)))
    complete (one_char ranges) st enter k i e h =
        let taken = (taken_matches st.0 s ranges st.1 enter i (char_span s ranges k i h).1).1 (k, e, h) in
        or_left (slice_index_or (positions a b (one_char ranges) enter i) 1 false) _
        (ap (λ ms. slice_index_or ms 1 false) (char_positions ranges st.0 st.2 enter i) ∙ taken)
    complete (cat ts) st enter k i e h = complete_all ts st enter k i e h
    complete (alt ts) st enter k i e h = complete_some ts st enter k i e h
    complete (rep x n m) st enter k i e h =
        loop_accepts x n m (complete x st.2) enter h.0 k i e h.1 h.3
    complete line_start st enter k i e h = nullable_accepts line_start enter k i e (h.0 ∙ sym h.1) (st i ∙ eq-eqb i 0 h.1)
    complete line_end st enter k i e h = nullable_accepts line_end enter k i e (h.0 ∙ sym h.1) (st i ∙ eq-eqb i (length s) h.1)
    complete word_edge st enter k i e h =
        let P : ℕ → Type 0 = λ x. is_at_word_boundary s x ≡ true in
        nullable_accepts word_edge enter k i e h.0 (st i ∙ subst P h.0 h.1)
    complete not_word_edge st enter k i e h =
        let P : ℕ → Type 0 = λ x. is_at_word_boundary s x ≡ false in
        nullable_accepts not_word_edge enter k i e h.0 (ap not (st i ∙ subst P h.0 h.1))

    pub complete_all : (ts : Trees) → AllRead ts → IsComplete (cat ts)
    complete_all none st enter k i e h = nullable_accepts (cat none) enter k i e h refl
    complete_all (more t ts) st enter k i e h =
        rw (accepts_at_cat t ts enter i) (complete_all ts st.1 (accepts_at a b t enter) h.0 i (complete t st.0 enter k h.0 e h.1) h.2)

    pub complete_some : (ts : Trees) → AllRead ts → IsComplete (alt ts)
    complete_some none st enter k i e h = elim h [ ]
    complete_some (more t ts) st enter k i e h =
        rw (accepts_at_alt t ts enter i) (elim h [
          | inl p ↦ or_left (accepts_at a b t enter i) _ (complete t st.0 enter k i e p)
          | inr p ↦ or_right (accepts_at a b t enter i) _ (complete_some ts st.1 enter k i e p)
        ])

and-true : (b : Bool) → b && true ≡ b
and-true true = refl
and-true false = refl

-- the look-around of a tree says what the assertions of its subtrees ask
module _ (t : Tree) (s : List ℕ) where
  abbrev Asked : LookBehind → Type 0
  Asked bits = (bits.first ≡ true → (look_behind t).first ≡ true) × (bits.word ≡ true → (look_behind t).word ≡ true) ×
      (bits.char ≡ true → (look_behind t).char ≡ true)

  edge_reads : (look_behind t).word ≡ true → (i : ℕ) → (look_around t s i).edge ≡ is_at_word_boundary s i
  edge_reads w i = rw w (and-true (is_at_word_boundary s i))

  -- where the tree has a set of characters, its input has their steps
  unfinished_is : (look_behind t).char ≡ true → (i : ℕ) → unfinished_before t s i ≡ unfinished (cuts_of t) s i
  unfinished_is c zero = refl
  unfinished_is c (suc i) = rw (c, unfinished_is c i) refl

  steps : (look_behind t).char ≡ true → (i : ℕ) → (input_at t s i).char ≡ char_step_at (cuts_of t) s i
  steps c i = rw (c, unfinished_is c i) refl

  abbrev IsRead : Tree → Type 0
  IsRead u = IsExpanded u → Asked (look_behind u) → Divide (cuts_of t) (char_ranges u) → Reads s (look_around t s) (input_at t s) u

  mutual
    pub reads : (u : Tree) → IsRead u
    reads empty st asked divide = tt
    reads (one_of set) st asked divide = λ i. refl
    reads (one_char ranges) st asked divide = (cuts_of t, divide, steps (asked.2 refl))
    reads (cat ts) st asked divide = all_read ts st asked divide
    reads (alt ts) st asked divide = all_read ts st asked divide
    reads (rep x n m) st asked divide = (st.0, st.1, reads x st.2 asked divide)
    reads line_start st asked divide = λ i. rw (asked.0 refl) (and-true (nat_eq i 0))
    reads line_end st asked divide = λ i. refl
    reads word_edge st asked divide = edge_reads (asked.1 refl)
    reads not_word_edge st asked divide = edge_reads (asked.1 refl)

    all_read : (us : Trees) → AreExpanded us → Asked (look_behind_of us) → Divide (cuts_of t) (all_char_ranges us) →
        AllRead s (look_around t s) (input_at t s) us
    all_read none st asked divide = tt
    all_read (more u us) st asked divide =
        let both = (divide_append (cuts_of t) (char_ranges u) (all_char_ranges us)).0 divide in (
          reads u st.0 (λ e. asked.0 (or_left _ _ e), λ e. asked.1 (or_left _ _ e), λ e. asked.2 (or_left _ _ e)) both.0,
          all_read us st.1 (λ e. asked.0 (or_right _ _ e), λ e. asked.1 (or_right _ _ e), λ e. asked.2 (or_right _ _ e)) both.1,
        )

-- a tree that may begin anywhere accepts somewhere if and only if it matches a span of the line
pub match_where_accepted : (t : Tree) (s : List ℕ) → IsExpanded t → HasMatch t s ↔ ((i : ℕ) × (i ≤ length s) × (accepts_in s t i ≡ true))
match_where_accepted t s expanded =
    let a = look_around t s in
    let b = input_at t s in
    let st = reads t s t expanded (λ e. e, λ e. e, λ e. e) (λ k h. h) in (
      λ f. (f.1, f.3, complete s a b t st (λ _. true) f.0 f.1 refl f.4),
      λ e. let c = accepts_at_sound s a b t st (sound s a b t st) (λ _. true) e.0 e.1 e.2 in (c.0, e.0, c.1, e.1, c.3),
    )

pub no_positions : (ms : List Bool) → length ms ≡ 0 → ms ≡ []
no_positions [] h = refl
no_positions (m ∷ ms) h = absurd (omega arith)
