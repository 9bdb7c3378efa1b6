-- A scan of lines: what each byte more, and the rest of a line, say of the lines that match.
use Rattle.std.proofs.Common.{◌≡◌, ℕ, suc, ◌+◌, ◌-◌, ◌<◌, ◌≤◌, Bool, true, false, cond, nat_eq, List, [], ◌∷◌, ◌++◌, take, drop, length, get_or, refl, sym, ap, subst, ◌∙◌, arith, append-nil, append_assoc, drop-cons, add-one, length-append, zero, inl, inr}
use Rattle.std.proofs.Math.Seq.{take-append_seam, get_or-append_seam}
use Rattle.std.proofs.lemmas.Bool.{eqb-true, eq-eqb, cases_Bool, false_from_ne_true}
use Rattle.std.proofs.lemmas.List.{get_or_append_left}
use Rattle.cs_syntax.specs.Matching.{Tree, HasMatch}
use Rattle.cs_match.specs.declared.state.State.{State}
use Rattle.cs_match.specs.Deciding.{Decides}
use Rattle.cs_match.specs.Glushkov.{IsExpanded}
use Rattle.cs_match.specs.LastPart.{last_part}
use Rattle.cs_match.specs.Lines.{newline}
use Rattle.cs_match.specs.MatchingEnds.{is_matching_end, matching_ends}
use Rattle.cs_match.specs.NoNewline.{HasNoNewline}
use Rattle.cs_match.specs.Scanned.{NeverAccepted}
use Rattle.cs_match.specs.States.{start, next_state, state_through, state, successor, accepts_before, IsDead}
use Rattle.cs_match.proofs.DecidabilityLemmas.{found_at}
use Rattle.cs_match.proofs.DfaLineLemmas.{NeverAccepts, never_found, accepts_match}
use Rattle.cs_match.proofs.LinesLemmas.{last_part-append, last_part-line, last_part-part, HasNoNewline-last_part, HasNoNewline-append}
use Rattle.cs_match.proofs.MatchingEndLemmas.{slice-more, ends-more}
use Rattle.cs_match.proofs.StateLemmas.{state_through-append, accepts_at_end}
use Rattle.cs_match.proofs.WholeLineLemmas.{between_by}

-- parts of a line, such that the tree accepts before none of their bytes
module _ (t : Tree) where
  never_append : (n : State) (part more : List ℕ) → NeverAccepted t n part → NeverAccepted t (state_through t n part) more →
      NeverAccepted t n (part ++ more)
  never_append n [] more never behind = behind
  never_append n (b ∷ part) more never behind = (never.0, never_append (next_state t n b) part more never.1 behind)

  never_to_end : (n : State) (part : List ℕ) → NeverAccepted t n part → accepts_before t (state_through t n part) newline ≡ false →
      NeverAccepts t n part
  never_to_end n [] never here = here
  never_to_end n (b ∷ part) never here = (never.0, never_to_end (next_state t n b) part never.1 here)

  -- a dead state accepts before none, and stays dead
  never_dead : (n : State) (part : List ℕ) → IsDead t n → NeverAccepted t n part
  never_dead n [] dead = tt
  never_dead n (b ∷ part) dead = (dead [] b, never_dead (next_state t n b) part (λ bytes c. dead (b ∷ bytes) c))

  dead_through : (n : State) (part : List ℕ) → IsDead t n → IsDead t (state_through t n part)
  dead_through n [] dead = dead
  dead_through n (b ∷ part) dead = dead_through (next_state t n b) part (λ bytes c. dead (b ∷ bytes) c)

  module _ (expanded : IsExpanded t) where
    -- a line matches if the tree accepts before one of its bytes, or before its newline
    accepted_line : (part rest : List ℕ) (b : ℕ) → HasNoNewline (part ++ b ∷ rest) → accepts_before t (state t part) b ≡ true →
        HasMatch t (part ++ b ∷ rest)
    accepted_line part rest b line accepting =
        let n = length part in
        let whole = part ++ b ∷ rest in
        let size : n < length whole = omega (arith, length-append part (b ∷ rest)) in
        let byte : get_or (whole ++ newline ∷ []) n 0 ≡ b =
        get_or_append_left whole (newline ∷ []) 0 n size ∙ get_or-append_seam part b rest 0 in
        accepts_match t whole expanded line n (omega (arith, size))
        (ap (λ p. accepts_before t (state t p) (get_or (whole ++ newline ∷ []) n 0)) (take-append_seam part (b ∷ rest))
        ∙ ap (accepts_before t (state t part)) byte ∙ accepting)

    accepted_at_end : (part : List ℕ) → accepts_before t (state t part) newline ≡ true → HasMatch t part
    accepted_at_end part accepting =
        found_at t part expanded (length part) (omega arith) (sym (accepts_at_end t part) ∙ accepting)

-- the lines of a text that begin at an offset
module _ (t : Tree) (text : List ℕ) (from : ℕ) where
  -- the part of the last line up to an offset
  abbrev part : ℕ → List ℕ
  part to = last_part (take (to - from) (drop from text))

  abbrev Ends : (List ℕ → Bool) → ℕ → List ℕ
  Ends has_match to = matching_ends has_match text from to

  -- one byte more
  module _ (i : ℕ) (low : from ≤ i) (within : i < length text) where
    abbrev byte : ℕ
    byte = get_or text i 0

    abbrev seen : List ℕ
    seen = take (i - from) (drop from text)

    more : take (i + 1 - from) (drop from text) ≡ seen ++ byte ∷ []
    more = slice-more text from i low within

    pub part_restarts : byte ≡ newline → part (i + 1) ≡ []
    unfolding last_part
    part_restarts e =
        ap last_part more ∙ last_part-append seen (byte ∷ []) ∙ ap (λ b. last_part (last_part seen ++ b ∷ [])) e
        ∙ last_part-line (last_part seen) [] (HasNoNewline-last_part seen)

    part_grows : nat_eq byte newline ≡ false → part (i + 1) ≡ part i ++ byte ∷ []
    part_grows other =
        ap last_part more ∙ last_part-append seen (byte ∷ [])
        ∙ last_part-part (last_part seen ++ byte ∷ [])
        (HasNoNewline-append (last_part seen) (byte ∷ []) (HasNoNewline-last_part seen) (other, tt))

    pub state_on : successor t (state t (part i)) byte ≡ state t (part (i + 1))
    state_on =
        elim (cases_Bool (nat_eq byte newline)) [
          | inl e ↦ rw e (sym (ap (state t) (part_restarts (eqb-true byte newline e))))
          | inr e ↦ rw e (sym (ap (state t) (part_grows e) ∙ state_through-append t (start t) (part i) (byte ∷ [])))
        ]

    pub never_on : NeverAccepted t (start t) (part i) → accepts_before t (state t (part i)) byte ≡ false →
        NeverAccepted t (start t) (part (i + 1))
    never_on never stays =
        elim (cases_Bool (nat_eq byte newline)) [
          | inl e ↦ subst (NeverAccepted t (start t)) (sym (part_restarts (eqb-true byte newline e))) tt
          | inr e ↦ subst (NeverAccepted t (start t)) (sym (part_grows e))
              (never_append t (start t) (part i) (byte ∷ []) never (stays, tt))
        ]

    one_end : (has_match : List ℕ → Bool) (is : Bool) → is_matching_end has_match text from i ≡ is →
        Ends has_match (i + 1) ≡ Ends has_match i ++ cond is (i ∷ []) []
    one_end has_match is e = ends-more has_match text from i low ∙ ap (λ q. Ends has_match i ++ cond q (i ∷ []) []) e

    no_end : (has_match : List ℕ → Bool) → is_matching_end has_match text from i ≡ false → Ends has_match (i + 1) ≡ Ends has_match i
    no_end has_match e = one_end has_match false e ∙ append-nil (Ends has_match i)

    in_line : (has_match : List ℕ → Bool) → nat_eq byte newline ≡ false → Ends has_match (i + 1) ≡ Ends has_match i
    in_line has_match other = no_end has_match (rw other refl)

    module _ (expanded : IsExpanded t) (has_match : List ℕ → Bool) (decides : Decides has_match t) where
      -- no matching line ends where the tree never accepts
      pub ends_same : NeverAccepted t (start t) (part i) → accepts_before t (state t (part i)) byte ≡ false →
          Ends has_match (i + 1) ≡ Ends has_match i
      ends_same never stays =
          elim (cases_Bool (nat_eq byte newline)) [
            | inl e ↦
                let here : accepts_before t (state t (part i)) newline ≡ false =
                subst (λ b. accepts_before t (state t (part i)) b ≡ false) (eqb-true byte newline e) stays in
                let miss : has_match (part i) ≡ false = false_from_ne_true (has_match (part i)) (λ h.
                never_found t (part i) expanded (HasNoNewline-last_part seen) (never_to_end t (start t) (part i) never here)
                ((decides (part i)).0 h)) in
                no_end has_match (rw (e, miss) refl)
            | inr e ↦ in_line has_match e
          ]

      -- a matching line ends at a newline before which the tree accepts
      pub ends_here : byte ≡ newline → accepts_before t (state t (part i)) byte ≡ true →
          Ends has_match (i + 1) ≡ Ends has_match i ++ i ∷ []
      ends_here e accepting =
          let here : accepts_before t (state t (part i)) newline ≡ true = subst (λ b. accepts_before t (state t (part i)) b ≡ true) e accepting in
          let matches : has_match (part i) ≡ true = (decides (part i)).1 (accepted_at_end t expanded (part i) here) in
          one_end has_match true (rw (eq-eqb byte newline e, matches) refl)

  -- the rest of a line, and its newline
  part_to : (i end : ℕ) → from ≤ i → i ≤ end → HasNoNewline (take (end - i) (drop i text)) →
      part end ≡ part i ++ take (end - i) (drop i text)
  part_to i end low high rest =
      let seen = take (i - from) (drop from text) in
      ap last_part (between_by text from i end low high) ∙ last_part-append seen (take (end - i) (drop i text))
      ∙ last_part-part (last_part seen ++ take (end - i) (drop i text))
      (HasNoNewline-append (last_part seen) (take (end - i) (drop i text)) (HasNoNewline-last_part seen) rest)

  ends_to : (has_match : List ℕ → Bool) (n i end : ℕ) → i + n ≡ end → from ≤ i → end ≤ length text → HasNoNewline (take n (drop i text)) →
      Ends has_match end ≡ Ends has_match i
  ends_to has_match zero i end e low within rest = ap (Ends has_match) (sym e ∙ omega arith)
  ends_to has_match (suc n) i end e low within rest =
      let lt : i < length text = omega (arith, e, within) in
      let parts = subst (λ bytes. HasNoNewline (take (suc n) bytes)) (drop-cons text i 0 lt) rest in
      ends_to has_match n (i + 1) end (omega (arith, e)) (omega (arith, low)) within
      (subst (λ k. HasNoNewline (take n (drop k text))) (sym (add-one i)) parts.1)
      ∙ in_line i low lt has_match parts.0

  module _ (expanded : IsExpanded t) (i end : ℕ) (low : from ≤ i) (high : i < end) (within : end < length text)
      (other : nat_eq (get_or text i 0) newline ≡ false) (rest : HasNoNewline (take (end - (i + 1)) (drop (i + 1) text)))
      (here : get_or text end 0 ≡ newline) (has_match : List ℕ → Bool) (decides : Decides has_match t) where
    abbrev b : ℕ
    b = get_or text i 0

    abbrev bytes : List ℕ
    bytes = take (end - (i + 1)) (drop (i + 1) text)

    to_end : part end ≡ part i ++ b ∷ bytes
    to_end =
        part_to (i + 1) end (omega (arith, low)) (omega (arith, high)) rest
        ∙ ap (λ (p : List ℕ). p ++ bytes) (part_grows i low (omega (arith, high, within)) other) ∙ append_assoc (part i) (b ∷ []) bytes

    before_end : Ends has_match end ≡ Ends has_match i
    before_end =
        let size : i + 1 + (end - (i + 1)) ≡ end = omega (arith, high) in
        ends_to has_match (end - (i + 1)) (i + 1) end size (omega (arith, low)) (omega (arith, within)) rest
        ∙ in_line i low (omega (arith, high, within)) has_match other

    -- a line matches in which the tree accepts
    pub ends_later : accepts_before t (state t (part i)) b ≡ true → Ends has_match (end + 1) ≡ Ends has_match i ++ end ∷ []
    ends_later accepting =
        let line : HasNoNewline (part i ++ b ∷ bytes) =
        HasNoNewline-append (part i) (b ∷ bytes) (HasNoNewline-last_part (take (i - from) (drop from text))) (other, rest) in
        let matches : has_match (part end) ≡ true =
        (decides (part end)).1 (subst (HasMatch t) (sym to_end) (accepted_line t expanded (part i) bytes b line accepting)) in
        one_end end (omega (arith, low, high)) within has_match true (rw (eq-eqb (get_or text end 0) newline here, matches) refl)
        ∙ ap (λ (ends : List ℕ). ends ++ end ∷ []) before_end

    -- no line matches whose state is dead
    pub ends_dead : NeverAccepted t (start t) (part i) → accepts_before t (state t (part i)) b ≡ false →
        IsDead t (state t (part (i + 1))) → Ends has_match (end + 1) ≡ Ends has_match i
    ends_dead never stays dead =
        let lt : i < length text = omega (arith, high, within) in
        let rest_is : part end ≡ part (i + 1) ++ bytes = part_to (i + 1) end (omega (arith, low)) (omega (arith, high)) rest in
        let through : state t (part end) ≡ state_through t (state t (part (i + 1))) bytes =
        ap (state t) rest_is ∙ state_through-append t (start t) (part (i + 1)) bytes in
        let gone : IsDead t (state t (part end)) =
        subst (IsDead t) (sym through) (dead_through t (state t (part (i + 1))) bytes dead) in
        let all : NeverAccepted t (start t) (part end) = subst (NeverAccepted t (start t)) (sym rest_is)
        (never_append t (start t) (part (i + 1)) bytes (never_on i low lt never stays) (never_dead t (state t (part (i + 1))) bytes dead)) in
        ends_same end (omega (arith, low, high)) within expanded has_match decides all (gone [] (get_or text end 0)) ∙ before_end
