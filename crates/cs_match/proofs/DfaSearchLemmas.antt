-- A search of a line by state numbers.
use Rattle.std.proofs.Common.{◌≡◌, ℕ, ◌+◌, ◌<◌, ◌≤◌, true, false, List, length, take, sym, ◌∙◌, ap, subst, eqb}
use Rattle.std.specs.Prelude.{slice_index, ◌≢◌}
use Rattle.std.proofs.lemmas.List.{take_all}
use Rattle.std.proofs.lemmas.Bool.{eq-eqb, ne_eqb}
use Rattle.cs_syntax.specs.Matching.{Tree}
use Rattle.cs_match.specs.declared.state.State.{State}
use Rattle.cs_match.specs.Glushkov.{accepts_in}
use Rattle.cs_match.specs.States.{state, successor, accepts_before}
use Rattle.cs_match.specs.LazyDfa.{match_number, accepted_number, StandsFor, Leads, accepting, next}
use Rattle.cs_match.proofs.TransitionLemmas.{accepted_in_line, leads_to_found, leads_on}
use Rattle.cs_match.proofs.StateLemmas.{beyond_more, accepts_in_line, accepts_at_end}

module _ (t u : Tree) (count : ℕ) (states : List State) (number : ℕ) (same : u ≡ t) (some : 0 < count) where
  module _ (s : List ℕ) (i b : ℕ) (leads : Leads u count states (state t (take i s)) b number) where
    accepts_here : i < length s → b ≡ slice_index s i → b ≢ 10 → accepts_before u (state t (take i s)) b ≡ accepts_in s t i
    accepts_here lt byte other =
        ap (λ x. accepts_before x (state t (take i s)) b) same ∙ ap (accepts_before t (state t (take i s))) byte
        ∙ accepts_in_line t s i lt (λ e. other (byte ∙ e))

    pub scan_found : i < length s → b ≡ slice_index s i → b ≢ 10 → number ≡ match_number count → accepts_in s t i ≡ true
    scan_found lt byte other e =
        sym (accepts_here lt byte other) ∙ leads_to_found u count states b number (state t (take i s)) some leads
        (e ∙ sym (accepted_in_line count b other))

    pub scan_stays : i < length s → b ≡ slice_index s i → b ≢ 10 → number ≢ match_number count → accepts_in s t i ≡ false
    scan_stays lt byte other e =
        sym (accepts_here lt byte other)
        ∙ (leads_on u count states b number (state t (take i s)) leads (λ f. e (f ∙ accepted_in_line count b other))).0

    pub scan_next : i < length s → b ≡ slice_index s i → b ≢ 10 → number ≢ match_number count →
        StandsFor u count states number (state t (take (i + 1) s))
    scan_next lt byte other e =
        subst (λ (x : State). StandsFor u count states number x)
        (ap (λ x. successor x (state t (take i s)) b) same ∙ ap (successor t (state t (take i s))) byte
        ∙ beyond_more t s i lt (λ f. other (byte ∙ f)))
        (leads_on u count states b number (state t (take i s)) leads (λ f. e (f ∙ accepted_in_line count b other))).1

-- at the end of a line the first row is that of a match
first_iff : (u : Tree) (count : ℕ) (states : List State) (n : State) (b number : ℕ) → b ≡ 10 → Leads u count states n b number →
    eqb number 0 ≡ accepts_before u n b
first_iff u count states n b number line (accepting is h) = eq-eqb number 0 (is ∙ ap (accepted_number count) line) ∙ sym h
first_iff u count states n b number line (next h stands other ends) = ne_eqb number 0 other ∙ sym h

pub scan_ends : (t u : Tree) (count : ℕ) (states : List State) (number : ℕ) → u ≡ t → (s : List ℕ) (i b : ℕ) →
    Leads u count states (state t (take i s)) b number → length s ≤ i → b ≡ 10 → eqb number 0 ≡ accepts_in s t (length s)
scan_ends t u count states number same s i b leads le byte =
    let n = state t (take i s) in
    first_iff u count states n b number byte leads ∙ ap (λ x. accepts_before x n b) same
    ∙ ap (λ x. accepts_before t x b) (ap (state t) (take_all i s le)) ∙ ap (accepts_before t (state t s)) byte ∙ accepts_at_end t s
