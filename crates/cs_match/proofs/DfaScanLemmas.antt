-- The lazy DFA moves over a byte, and over the rest of a line that is decided.
use Rattle.std.proofs.Common.{◌≡◌, ◌≢◌, ℕ, suc, ◌+◌, ◌-◌, ◌<◌, ◌≤◌, Bool, false, cond, nat_eq, List, [], ◌∷◌, ◌++◌, take, drop, length, get_or, refl, sym, ap, subst, ◌∙◌, arith, append-nil, drop-cons, length-drop, inl, inr}
use Rattle.std.proofs.lemmas.Bool.{eqb-true, ne_eqb, cases_Bool, cases_lt}
use Rattle.cs_syntax.specs.Matching.{Tree}
use Rattle.cs_match.specs.declared.dfa.Scan.{Scan}
use Rattle.cs_match.specs.declared.state.State.{State}
use Rattle.cs_match.specs.ConsistentDfa.{Dfa, IsConsistent, HasState, LeadsIn, count_in}
use Rattle.cs_match.specs.Deciding.{Decides}
use Rattle.cs_match.specs.LastPart.{last_part}
use Rattle.cs_match.specs.LazyDfa.{match_number, dead_number, start_number, accepted_number, accepting, next}
use Rattle.cs_match.specs.Lines.{newline}
use Rattle.cs_match.specs.MatchingEnds.{matching_ends}
use Rattle.cs_match.specs.NoNewline.{HasNoNewline}
use Rattle.cs_match.specs.Scanned.{NeverAccepted, scanned_part, HasScanned, PassesLines, ListsLine}
use Rattle.cs_match.specs.Skipping.{AreWholeLines}
use Rattle.cs_match.specs.States.{start, state, successor, accepts_before, IsDead}
use Rattle.cs_match.proofs.ScannedLemmas.{part_restarts, state_on, never_on, ends_same, ends_here, ends_later, ends_dead}
use Rattle.cs_match.proofs.TransitionLemmas.{some_classes, accepted_in_line, stands_first, stands_start, leads_to_found, leads_on, dead_state}
use Rattle.cs_match.proofs.WholeLineLemmas.{whole_from, whole_part}

nothing : (xs : List ℕ) → length xs ≤ 0 → xs ≡ []
nothing [] none = refl
nothing (x ∷ xs) none = absurd (omega arith)

-- a byte that is not the newline is not the last of whole lines
pub goes_on : (text : List ℕ) (from to : ℕ) → from ≤ to → to < length text → AreWholeLines (drop from text) → get_or text to 0 ≢ newline →
    to + 1 < length text
goes_on text from to low within whole other =
    elim (cases_lt (to + 1) (length text)) [
      | inl lt ↦ lt
      | inr past ↦
          let b = get_or text to 0 in
          let rest : drop to text ≡ b ∷ [] = drop-cons text to 0 within
          ∙ ap (λ (xs : List ℕ). b ∷ xs) (nothing (drop (suc to) text) (omega (arith, length-drop (suc to) text, past))) in
          absurd (whole_part b [] (subst AreWholeLines rest (whole_from text from to low whole)) (ne_eqb b newline other, tt))
    ]

-- a scan that moves on
module _ (t : Tree) (text : List ℕ) (old middle new : Scan) where
  pub passes_more : PassesLines t text old middle → PassesLines t text middle new → middle.to < new.to → PassesLines t text old new
  passes_more p q moves = record {
    from = q.from ∙ p.from;
    none = λ has_match decides. ap (λ f. matching_ends has_match text f new.to) (sym p.from) ∙ q.none has_match decides
        ∙ ap (λ f. matching_ends has_match text f middle.to) p.from ∙ p.none has_match decides;
    leaves = λ _. q.leaves moves;
  }

  pub passes_lists : PassesLines t text old middle → ListsLine t text middle new → old.to ≤ middle.to → ListsLine t text old new
  passes_lists p q low = record {
    from = q.from ∙ p.from;
    moves = omega (arith, q.moves, low);
    newline = q.newline;
    ends = λ has_match decides. ap (λ f. matching_ends has_match text f new.to) (sym p.from) ∙ q.ends has_match decides
        ∙ ap (λ (ends : List ℕ). ends ++ cond (nat_eq new.number 0) ((new.to - 1) ∷ []) [])
        (ap (λ f. matching_ends has_match text f middle.to) p.from ∙ p.none has_match decides);
  }

pub passes_none : (t : Tree) (text : List ℕ) (scan : Scan) → PassesLines t text scan scan
passes_none t text scan = record { from = refl; none = λ has_match decides. refl; leaves = λ low. absurd (omega (arith, low)) }

pub lists_none : (t : Tree) (text : List ℕ) (old new : Scan) → PassesLines t text old new → old.to < new.to → ListsLine t text old new
lists_none t text old new p moves =
    let other = p.leaves moves in
    record {
      from = p.from;
      moves = moves;
      newline = λ e. absurd (other e);
      ends = λ has_match decides. p.none has_match decides
          ∙ sym (ap (λ q. matching_ends has_match text old.from old.to ++ cond q ((new.to - 1) ∷ []) []) (ne_eqb new.number 0 other)
          ∙ append-nil (matching_ends has_match text old.from old.to));
    }

module _ (dfa : Dfa) (right : IsConsistent dfa.tree dfa.states) (text : List ℕ) (scan : Scan) (low : scan.from ≤ scan.to) (within : scan.to < length text)
    (never : NeverAccepted dfa.tree (start dfa.tree) (scanned_part text scan)) where
  abbrev t : Tree
  t = dfa.tree

  abbrev b : ℕ
  b = get_or text scan.to 0

  abbrev here : State
  here = state t (scanned_part text scan)

  abbrev on : ℕ → ℕ → Scan
  on to number = record { from = scan.from; to = to; number = number }

  some : 0 < count_in dfa
  some = some_classes t dfa.states.classes right.classes

  -- over a byte before which the state does not accept
  stays : (number : ℕ) → accepts_before t here b ≡ false → HasState dfa number (successor t here b) → HasScanned dfa text (on (scan.to + 1) number)
  stays number h stands = record {
    low = omega (arith, low);
    within = omega (arith, within);
    part = never_on t text scan.from scan.to low within never h;
    at = subst (λ (n : State). HasState dfa number n) (state_on t text scan.from scan.to low within) stands;
  }

  passes : (number : ℕ) → accepts_before t here b ≡ false → number ≢ 0 → PassesLines t text scan (on (scan.to + 1) number)
  passes number h other = record {
    from = refl;
    none = λ has_match decides. ends_same t text scan.from scan.to low within right.expanded has_match decides never h;
    leaves = λ _. other;
  }

  pub followed : (number : ℕ) → accepts_before t here b ≡ false → HasState dfa number (successor t here b) → number ≢ 0 →
      HasScanned dfa text (on (scan.to + 1) number) × PassesLines t text scan (on (scan.to + 1) number)
  followed number h stands other = (stays number h stands, passes number h other)

  -- at the end of a line, in a state that stands for the start state
  begins : (end number : ℕ) → scan.from ≤ end → end < length text → get_or text end 0 ≡ newline → HasState dfa number (start t) →
      HasScanned dfa text (on (end + 1) number)
  begins end number after last at_end stands =
      let none = part_restarts t text scan.from end after last at_end in
      record {
        low = omega (arith, after);
        within = omega (arith, last);
        part = subst (NeverAccepted t (start t)) (sym none) tt;
        at = subst (λ (p : List ℕ). HasState dfa number (state t p)) (sym none) stands;
      }

  lists : (end : ℕ) → scan.to ≤ end → get_or text end 0 ≡ newline →
      ((has_match : List ℕ → Bool) → Decides has_match t →
      matching_ends has_match text scan.from (end + 1) ≡ matching_ends has_match text scan.from scan.to ++ end ∷ []) →
      ListsLine t text scan (on (end + 1) 0)
  lists end after at_end ends =
      let back : end ≡ end + 1 - 1 = omega arith in
      record {
        from = refl;
        moves = omega (arith, after);
        newline = λ _. ap (λ k. get_or text k 0) (sym back) ∙ at_end;
        ends = λ has_match decides. ends has_match decides ∙ ap (λ k. matching_ends has_match text scan.from scan.to ++ k ∷ []) back;
      }

  -- over a byte, to another state than the match state
  pub stepped : (number : ℕ) → LeadsIn dfa here b number → number ≢ match_number (count_in dfa) →
      HasScanned dfa text (on (scan.to + 1) number) × ListsLine t text scan (on (scan.to + 1) number)
  stepped number (accepting is h) other =
      elim (cases_Bool (nat_eq b newline)) [
        | inl e ↦
            let at_end : b ≡ newline = eqb-true b newline e in
            let none : number ≡ 0 = is ∙ ap (accepted_number (count_in dfa)) at_end in
            subst (λ k. HasScanned dfa text (on (scan.to + 1) k) × ListsLine t text scan (on (scan.to + 1) k)) (sym none) (
              begins scan.to 0 low within at_end (stands_first t (count_in dfa) dfa.states.cached right.cached),
              lists scan.to (omega arith) at_end
                  (λ has_match decides. ends_here t text scan.from scan.to low within right.expanded has_match decides at_end h),
            )
        | inr e ↦ absurd (other (is ∙ rw e refl))
      ]
  stepped number (next h stands first line) other =
      (stays number h stands, lists_none t text scan (on (scan.to + 1) number) (passes number h first) (omega arith))

  -- the match state and the dead one are not reached over the newline
  pub in_line : (number : ℕ) → LeadsIn dfa here b number → number ≢ 0 → number ≢ start_number (count_in dfa) → b ≢ newline
  in_line number (accepting is h) first last e = first (is ∙ ap (accepted_number (count_in dfa)) e)
  in_line number (next h stands other line) first last e = last (line e)

  -- over a byte and the rest of the line
  module _ (number : ℕ) (leads : LeadsIn dfa here b number) (end : ℕ) (high : scan.to + 1 ≤ end) (last : end < length text)
      (part : HasNoNewline (take (end - (scan.to + 1)) (drop (scan.to + 1) text))) (line : drop end text ≡ newline ∷ drop (end + 1) text) where
    at_end : get_or text end 0 ≡ newline
    at_end =
        let cut = drop-cons text end 0 last in
        (cc)

    pub matched : number ≡ match_number (count_in dfa) → HasScanned dfa text (on (end + 1) 0) × ListsLine t text scan (on (end + 1) 0)
    matched is =
        let other = in_line number leads (λ e. omega (arith, e, is, some)) (λ e. omega (arith, e, is, some)) in
        let accepts = leads_to_found t (count_in dfa) dfa.states.cached.items b number here some leads
        (is ∙ sym (accepted_in_line (count_in dfa) b other)) in (
          begins end 0 (omega (arith, low, high)) last at_end (stands_first t (count_in dfa) dfa.states.cached right.cached),
          lists end (omega (arith, high)) at_end (λ has_match decides.
              ends_later t text scan.from right.expanded scan.to end low (omega (arith, high)) last (ne_eqb b newline other) part at_end has_match decides accepts),
        )

    pub died : number ≡ dead_number (count_in dfa) →
        HasScanned dfa text (on (end + 1) (start_number (count_in dfa))) × ListsLine t text scan (on (end + 1) (start_number (count_in dfa)))
    died is =
        let other = in_line number leads (λ e. omega (arith, e, is, some)) (λ e. omega (arith, e, is, some)) in
        let after = leads_on t (count_in dfa) dfa.states.cached.items b number here leads
        (λ e. omega (arith, e ∙ accepted_in_line (count_in dfa) b other, is, some)) in
        let gone = subst (IsDead t) (state_on t text scan.from scan.to low within)
        (dead_state t (count_in dfa) dfa.states.cached.items number (successor t here b) some after.1 is) in
        let passed : PassesLines t text scan (on (end + 1) (start_number (count_in dfa))) =
        record {
          from = refl;
          none = λ has_match decides. ends_dead t text scan.from right.expanded scan.to end low (omega (arith, high)) last
              (ne_eqb b newline other) part at_end has_match decides never after.0 gone;
          leaves = λ _ e. omega (arith, e, some);
        } in (
          begins end (start_number (count_in dfa)) (omega (arith, low, high)) last at_end
              (stands_start t (count_in dfa) dfa.states.cached right.cached),
          lists_none t text scan (on (end + 1) (start_number (count_in dfa))) passed (omega (arith, high)),
        )

-- nothing is scanned yet
pub scanned_none : (dfa : Dfa) (text : List ℕ) (from number : ℕ) → from ≤ length text → HasState dfa number (start dfa.tree) →
    HasScanned dfa text (record { from = from; to = from; number = number })
unfolding last_part
scanned_none dfa text from number within stands =
    let none : 0 ≡ from - from = omega arith in
    record {
      low = omega arith;
      within = within;
      part = subst (λ n. NeverAccepted dfa.tree (start dfa.tree) (last_part (take n (drop from text)))) none tt;
      at = subst (λ n. HasState dfa number (state dfa.tree (last_part (take n (drop from text))))) none stands;
    }

-- The DFA moves over a byte whose transition it may have filled: it has changed, and not its tree.
module _ (old dfa : Dfa) (same : dfa.tree ≡ old.tree) (right : IsConsistent dfa.tree dfa.states) (text : List ℕ) (before scan : Scan)
    (passed : PassesLines old.tree text before scan) (after : before.to ≤ scan.to) (scanned : HasScanned old text scan)
    (within : scan.to < length text) (number : ℕ) (leads : LeadsIn dfa (state old.tree (scanned_part text scan)) (get_or text scan.to 0) number) where
  abbrev On : Scan → Type 0
  On new = HasScanned dfa text new × ListsLine old.tree text before new

  never : NeverAccepted dfa.tree (start dfa.tree) (scanned_part text scan)
  never = subst (λ (t : Tree). NeverAccepted t (start t) (scanned_part text scan)) (sym same) scanned.part

  leads_now : LeadsIn dfa (state dfa.tree (scanned_part text scan)) (get_or text scan.to 0) number
  leads_now = subst (λ (t : Tree). LeadsIn dfa (state t (scanned_part text scan)) (get_or text scan.to 0) number) (sym same) leads

  all : (new : Scan) → HasScanned dfa text new × ListsLine dfa.tree text scan new → On new
  all new h = (h.0, passes_lists old.tree text before scan new passed (subst (λ (t : Tree). ListsLine t text scan new) same h.1) after)

  pub over_byte : number ≢ match_number (count_in dfa) → On (record { from = scan.from; to = scan.to + 1; number = number })
  over_byte other = all (record { from = scan.from; to = scan.to + 1; number = number })
      (stepped dfa right text scan scanned.low within never number leads_now other)

  -- the match state or the dead one is reached before the newline
  pub before_newline : AreWholeLines (drop before.from text) → number ≢ 0 → number ≢ start_number (count_in dfa) → scan.to + 1 < length text
  before_newline whole first last =
      goes_on text scan.from scan.to scanned.low within (subst (λ k. AreWholeLines (drop k text)) (sym passed.from) whole)
      (in_line dfa right text scan scanned.low within never number leads_now first last)

  module _ (end : ℕ) (high : scan.to + 1 ≤ end) (last : end < length text)
      (part : HasNoNewline (take (end - (scan.to + 1)) (drop (scan.to + 1) text))) (line : drop end text ≡ newline ∷ drop (end + 1) text) where
    pub over_match : number ≡ match_number (count_in dfa) → On (record { from = scan.from; to = end + 1; number = 0 })
    over_match is = all (record { from = scan.from; to = end + 1; number = 0 })
        (matched dfa right text scan scanned.low within never number leads_now end high last part line is)

    pub over_dead : number ≡ dead_number (count_in dfa) → On (record { from = scan.from; to = end + 1; number = start_number (count_in dfa) })
    over_dead is = all (record { from = scan.from; to = end + 1; number = start_number (count_in dfa) })
        (died dfa right text scan scanned.low within never number leads_now end high last part line is)
