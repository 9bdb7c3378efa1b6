-- The states and the table stay correct if a transition is stored, a state is added, or the cache is cleared.
use Rattle.std.proofs.Common.{true, ◌≡◌, ℕ, zero, suc, ◌+◌, ◌-◌, ◌*◌, ◌/◌, ◌%◌, ◌<◌, ◌≤◌, inl, inr, false, List, [], ◌∷◌, ◌++◌, length, set, refl, sym, ◌∙◌, ap, subst, arith, get_or, get_or-set_same, get_or-set_other, length-append, take}
use Rattle.std.specs.Prelude.{◌≢◌, nat_eq, replicate, if◌then◌else◌}
use Rattle.std.proofs.Math.ListN.{length-set}
use Rattle.std.proofs.Math.Nat.{div-lt_iff_lt-mul, mod-add-div'}
use Rattle.std.proofs.lemmas.Bool.{cases_eq, cases_lt, cases_Bool, eq-eqb, eqb-true, ne_eqb}
use Rattle.std.proofs.lemmas.List.{length-replicate, get_or-replicate, get_or_past, get_or_append_left, get_or-append_right, get_or-take, length-take-le}
use Rattle.std.proofs.lemmas.Nat.{div-mul-add, mul-add-lt, mod_below}
use Rattle.cs_syntax.specs.Matching.{Tree}
use Rattle.cs_match.specs.declared.byte_classes.ByteClasses.{ByteClasses}
use Rattle.cs_match.specs.declared.state.State.{State}
use Rattle.cs_match.specs.Digits.{IsBlock}
use Rattle.cs_match.specs.Glushkov.{position_count, cuts_of}
use Rattle.cs_match.specs.ByteClasses.{AreAlike, AreClasses}
use Rattle.cs_match.specs.CachedStates.{StateList}
use Rattle.cs_match.specs.States.{start, successor, accepts_before, next_state, IsDead}
use Rattle.cs_match.proofs.PositionCountLemmas.{scaled}
use Rattle.cs_match.proofs.StateLemmas.{block_start}
use Rattle.cs_match.specs.LazyDfa.{unknown_number, match_number, dead_number, start_number, accepted_number, state_at, IsSlot, StandsFor, cached, dead, Leads, accepting, next, IsTransition, unknown, known, until_newline, AreSpecialRows, AreFirstRows, AreFirstStates, AreStates, IsTable}

-- rows do not overlap
pub same_transition : (count s r c d : ℕ) → c < count → d < count → s * count + c ≡ r * count + d → (s ≡ r) × (c ≡ d)
same_transition count s r c d low high e =
    let same : s ≡ r = sym (div-mul-add s count c low) ∙ ap (λ k. k / count) e ∙ div-mul-add r count d high in
    (same, omega (arith, e, ap (λ k. k * count) same))

pub same_row : (count s r : ℕ) → 0 < count → s * count ≡ r * count → s ≡ r
same_row count s r some e = (same_transition count s r 0 0 some some (omega (arith, e))).0

-- a transition of a row is in the table
pub in_rows : (count slot rows c : ℕ) → slot < rows → c < count → slot * count + c < rows * count
in_rows count slot rows c low within = omega (arith, mul-add-lt slot count c rows low within)

pub row_in : (count slot rows : ℕ) → slot < rows → slot * count + count ≤ rows * count
row_in count slot rows low = omega (arith, scaled (slot + 1) rows count (omega arith))

-- the number of the classes of a tree
pub some_classes : (t : Tree) (classes : ByteClasses) → AreClasses t classes → 0 < classes.count
some_classes t classes are = omega (arith, are.range 0 (omega arith))

-- the newline is alone in its class
pub newline_alone : (t : Tree) (classes : ByteClasses) → AreClasses t classes → (b : ℕ) → b < 256 →
    get_or classes.of b 0 ≡ get_or classes.of 10 0 → b ≡ 10
newline_alone t classes are b lt same =
    eqb-true b 10 (are.alike b 10 lt (omega arith) same (start t) (block_start t)).newline

-- the transition over a byte before which a state accepts
pub accepted_slot : (count b : ℕ) → (slot : ℕ) × (slot < 5) × (accepted_number count b ≡ slot * count) × ((slot ≡ 0 → b ≡ 10) × (slot ≢ 1))
accepted_slot count b =
    elim (cases_Bool (nat_eq b 10)) [
      | inl e ↦ (0, omega arith, rw e (omega arith), ((λ _. eqb-true b 10 e), (λ one. omega (arith, one))))
      | inr e ↦ (2, omega arith, rw e refl, ((λ none. absurd (omega (arith, none))), (λ one. omega (arith, one))))
    ]

pub accepted_low : (count b : ℕ) → accepted_number count b ≤ 2 * count
accepted_low count b = elim (cases_Bool (nat_eq b 10)) [ inl e ↦ rw e (omega arith) | inr e ↦ rw e (omega arith) ]

pub accepted_in_line : (count b : ℕ) → b ≢ 10 → accepted_number count b ≡ match_number count
accepted_in_line count b other = rw (ne_eqb b 10 other) refl

-- a correct transition over a byte is correct over the bytes of its class
pub leads_alike : (t : Tree) (count : ℕ) (states : List State) (state : State) (b c number : ℕ) → AreAlike t state b c →
    Leads t count states state b number → Leads t count states state c number
leads_alike t count states state b c number alike (accepting is h) =
    accepting (is ∙ ap (λ line. if line then 0 else match_number count) alike.newline) (sym alike.accepts ∙ h)
leads_alike t count states state b c number alike (next h stands other line) =
    next (sym alike.accepts ∙ h) (subst (λ (n : State). StandsFor t count states number n) alike.successor stands) other
    (λ e. line (eqb-true b 10 (alike.newline ∙ eq-eqb c 10 e)))

-- a known transition
pub known_leads : (t : Tree) (count : ℕ) (states : List State) (n : State) (b transition : ℕ) →
    IsTransition t count states n b transition → (transition ≡ unknown_number count → ⊥) → Leads t count states n b transition
known_leads t count states n b transition (unknown is) other = absurd (other is)
known_leads t count states n b transition (known leads) other = leads

-- the slot of a number
pub stands_slot : (t : Tree) (count : ℕ) (states : List State) (number : ℕ) (n : State) → 5 ≤ length states →
    StandsFor t count states number n → (slot : ℕ) × (slot < length states) × (number ≡ slot * count)
stands_slot t count states number n some (cached slot is at same) = (slot, at.within, is)
stands_slot t count states number n some (dead is gone) = (3, omega (arith, some), is)

pub leads_slot : (t : Tree) (count : ℕ) (states : List State) (n : State) (b number : ℕ) → 5 ≤ length states →
    Leads t count states n b number → (slot : ℕ) × (slot < length states) × (number ≡ slot * count)
leads_slot t count states n b number some (accepting is h) =
    let at = accepted_slot count b in
    (at.0, omega (arith, some, at.1), is ∙ at.2)
leads_slot t count states n b number some (next h stands other line) =
    stands_slot t count states number (successor t n b) some stands

-- no state has the number of the match state
pub stands_no_match : (t : Tree) (count : ℕ) (states : List State) (number : ℕ) (n : State) → 0 < count →
    StandsFor t count states number n → number ≢ match_number count
stands_no_match t count states number n some (cached slot is at same) e =
    let two : slot ≡ 2 = same_row count slot 2 some (sym is ∙ e) in
    elim at.ordinary [ inl zero_slot ↦ omega (arith, two, zero_slot) | inr high ↦ omega (arith, two, high) ]
stands_no_match t count states number n some (dead is gone) e = omega (arith, some, is, e)

-- a state accepts before the byte if and only if its correct transition says so
pub leads_to_found : (t : Tree) (count : ℕ) (states : List State) (b number : ℕ) (n : State) → 0 < count →
    Leads t count states n b number → number ≡ accepted_number count b → accepts_before t n b ≡ true
leads_to_found t count states b number n some (accepting is h) e = h
leads_to_found t count states b number n some (next h stands other line) e =
    elim (cases_Bool (nat_eq b 10)) [
      | inl at_end ↦ absurd (other (e ∙ rw at_end refl))
      | inr in_line ↦ absurd (stands_no_match t count states number (successor t n b) some stands (e ∙ rw in_line refl))
    ]

pub leads_on : (t : Tree) (count : ℕ) (states : List State) (b number : ℕ) (n : State) → Leads t count states n b number →
    (number ≡ accepted_number count b → ⊥) →
    (accepts_before t n b ≡ false) × StandsFor t count states number (successor t n b)
leads_on t count states b number n (accepting is h) e = absurd (e is)
leads_on t count states b number n (next h stands other line) e = (h, stands)

-- the state of the dead number is dead
pub dead_state : (t : Tree) (count : ℕ) (states : List State) (number : ℕ) (n : State) → 0 < count →
    StandsFor t count states number n → number ≡ dead_number count → IsDead t n
dead_state t count states number n some (cached slot is at same) e =
    let three : slot ≡ 3 = same_row count slot 3 some (sym is ∙ e) in
    elim at.ordinary [ inl zero_slot ↦ absurd (omega (arith, three, zero_slot)) | inr high ↦ absurd (omega (arith, three, high)) ]
dead_state t count states number n some (dead is gone) e = gone

-- a known transition leads to no unknown state, and to the first row over the newline alone
pub leads_known : (t : Tree) (count : ℕ) (states : List State) (n : State) (b number : ℕ) → 0 < count →
    Leads t count states n b number → number ≢ unknown_number count
leads_known t count states n b number some (accepting is h) e =
    let at = accepted_slot count b in
    at.3.1 (same_row count at.0 1 some (sym (is ∙ at.2) ∙ e ∙ omega arith))
leads_known t count states n b number some (next h (cached slot is at same) other line) e =
    let one : slot ≡ 1 = same_row count slot 1 some (sym is ∙ e ∙ omega arith) in
    elim at.ordinary [ inl zero_slot ↦ omega (arith, one, zero_slot) | inr high ↦ omega (arith, one, high) ]
leads_known t count states n b number some (next h (dead is gone) other line) e = omega (arith, some, is, e)

pub transition_ends : (t : Tree) (count : ℕ) (states : List State) (n : State) (b number : ℕ) → 0 < count →
    IsTransition t count states n b number → number ≡ 0 → b ≡ 10
transition_ends t count states n b number some (unknown is) e = absurd (omega (arith, some, is, e))
transition_ends t count states n b number some (known (accepting is h)) e =
    let at = accepted_slot count b in
    at.3.0 (same_row count at.0 0 some (sym (is ∙ at.2) ∙ e ∙ omega arith))
transition_ends t count states n b number some (known (next h stands other line)) e = absurd (other e)

-- the start state has its number
pub stands_start : (t : Tree) (count : ℕ) (states : StateList) → AreStates t count states →
    StandsFor t count states.items (start_number count) (start t)
stands_start t count states right =
    cached 4 refl (record { within = omega (arith, right.first); ordinary = inr (omega arith) }) right.begin

-- so has the first row
pub stands_first : (t : Tree) (count : ℕ) (states : StateList) → AreStates t count states → StandsFor t count states.items 0 (start t)
stands_first t count states right =
    cached 0 (omega arith) (record { within = omega (arith, right.first); ordinary = inl refl }) right.found

-- a correct transition to the start state
pub leads_start : (t : Tree) (count : ℕ) (states : StateList) (n : State) (b : ℕ) → 0 < count → AreStates t count states →
    b ≡ 10 → accepts_before t n b ≡ false → Leads t count states.items n b (start_number count)
leads_start t count states n b some right e stays =
    next stays (subst (λ (m : State). StandsFor t count states.items (start_number count) m) (sym (rw (eq-eqb b 10 e) refl))
    (stands_start t count states right)) (λ zero_count. omega (arith, some, zero_count)) (λ _. refl)

-- the rows of the special states stay if their transitions do
pub special_kept : (classes : ByteClasses) (old new : List ℕ) → ((k : ℕ) → classes.count ≤ k → k < 4 * classes.count → get_or new k 0 ≡ get_or old k 0) →
    AreSpecialRows classes old → AreSpecialRows classes new
special_kept classes old new same rows = record {
  at_unknown = λ c low. same (classes.count + c) (omega arith) (omega (arith, low)) ∙ rows.at_unknown c low;
  at_match = λ c low. same (2 * classes.count + c) (omega arith) (omega (arith, low)) ∙ rows.at_match c low;
  at_dead = λ c low. same (3 * classes.count + c) (omega arith) (omega (arith, low)) ∙ rows.at_dead c low;
}

-- a state that stays until the newline
pub stays_in_line : (classes : ByteClasses) (stays ends c : ℕ) → c ≢ get_or classes.of 10 0 → until_newline classes stays ends c ≡ stays
stays_in_line classes stays ends c other = rw (ne_eqb c (get_or classes.of 10 0) other) refl

pub leaves_at_end : (classes : ByteClasses) (stays ends c : ℕ) → c ≡ get_or classes.of 10 0 → until_newline classes stays ends c ≡ ends
leaves_at_end classes stays ends c e = rw (eq-eqb c (get_or classes.of 10 0) e) refl

-- the transitions of a correct table
module _ (t : Tree) (classes : ByteClasses) (states : StateList) (transitions : List ℕ) (are : AreClasses t classes)
    (right : AreStates t classes.count states) (table : IsTable t classes states.items transitions) where
  some : 0 < classes.count
  some = some_classes t classes are

  line : get_or classes.of 10 0 < classes.count
  line = are.range 10 (omega arith)

  dead_leads : (n : State) (b : ℕ) → IsDead t n → b < 256 →
      Leads t classes.count states.items n b (get_or transitions (3 * classes.count + get_or classes.of b 0) 0)
  dead_leads n b gone lt =
      let c = get_or classes.of b 0 in
      let transition = table.special.at_dead c (are.range b lt) in
      elim (cases_eq b 10) [
        | inl e ↦
            let is : get_or transitions (3 * classes.count + c) 0 ≡ 4 * classes.count =
            transition ∙ leaves_at_end classes (3 * classes.count) (4 * classes.count) c (ap (λ x. get_or classes.of x 0) e) in
            subst (λ number. Leads t classes.count states.items n b number) (sym is)
            (leads_start t classes.count states n b some right e (gone [] b))
        | inr other ↦
            let is : get_or transitions (3 * classes.count + c) 0 ≡ 3 * classes.count =
            transition ∙ stays_in_line classes (3 * classes.count) (4 * classes.count) c (λ e. other (newline_alone t classes are b lt e)) in
            let moved : successor t n b ≡ next_state t n b = rw (ne_eqb b 10 other) refl in
            let after : IsDead t (next_state t n b) = λ bytes c. gone (b ∷ bytes) c in
            next (gone [] b) (dead is (subst (IsDead t) (sym moved) after)) (λ zero_transition. omega (arith, some, is, zero_transition))
            (λ e. absurd (other e))
      ]

  -- the transition of a state and a byte
  pub transition : (number : ℕ) (n : State) (b : ℕ) → StandsFor t classes.count states.items number n → b < 256 →
      IsTransition t classes.count states.items n b (get_or transitions (number + get_or classes.of b 0) 0)
  transition number n b (cached slot is at same) lt =
      subst (λ k. IsTransition t classes.count states.items n b (get_or transitions (k + get_or classes.of b 0) 0)) (sym is)
      (subst (λ (m : State). IsTransition t classes.count states.items m b (get_or transitions (slot * classes.count + get_or classes.of b 0) 0))
      same (table.right slot b at lt))
  transition number n b (dead is gone) lt =
      subst (λ k. IsTransition t classes.count states.items n b (get_or transitions (k + get_or classes.of b 0) 0)) (sym is)
      (known (dead_leads n b gone lt))

  -- the slot of a state with an unknown transition
  pub unknown_slot : (number : ℕ) (n : State) (b : ℕ) → StandsFor t classes.count states.items number n → b < 256 →
      get_or transitions (number + get_or classes.of b 0) 0 ≡ classes.count →
      IsSlot states.items (number / classes.count) × (state_at t states.items (number / classes.count) ≡ n)
  unknown_slot number n b (cached slot is at same) lt e =
      let whole : slot * classes.count + 0 ≡ number = omega (arith, is) in
      let here : slot ≡ number / classes.count = sym (div-mul-add slot classes.count 0 some) ∙ ap (λ k. k / classes.count) whole in
      (subst (IsSlot states.items) here at, subst (λ k. state_at t states.items k ≡ n) here same)
  unknown_slot number n b (dead is gone) lt e =
      absurd (leads_known t classes.count states.items n b (get_or transitions (3 * classes.count + get_or classes.of b 0) 0) some
      (dead_leads n b gone lt) (ap (λ k. get_or transitions (k + get_or classes.of b 0) 0) (sym is) ∙ e))

  -- a transition to the first row is over the newline
  special_ends : (slot b : ℕ) → slot < 4 → slot ≢ 0 → b < 256 → get_or transitions (slot * classes.count + get_or classes.of b 0) 0 ≡ 0 → b ≡ 10
  special_ends (suc zero) b low other lt e =
      let c = get_or classes.of b 0 in
      let at : 1 * classes.count + c ≡ classes.count + c = omega arith in
      absurd (omega (arith, some, ap (λ k. get_or transitions k 0) at, e, table.special.at_unknown c (are.range b lt)))
  special_ends (suc (suc zero)) b low other lt e =
      let c = get_or classes.of b 0 in
      let transition = table.special.at_match c (are.range b lt) in
      elim (cases_eq c (get_or classes.of 10 0)) [
        | inl end ↦ newline_alone t classes are b lt end
        | inr in_line ↦ absurd (omega (arith, some, e, transition, stays_in_line classes (2 * classes.count) 0 c in_line))
      ]
  special_ends (suc (suc (suc zero))) b low other lt e =
      let c = get_or classes.of b 0 in
      let transition = table.special.at_dead c (are.range b lt) in
      elim (cases_eq c (get_or classes.of 10 0)) [
        | inl end ↦ newline_alone t classes are b lt end
        | inr in_line ↦ absurd (omega (arith, some, e, transition, stays_in_line classes (3 * classes.count) (4 * classes.count) c in_line))
      ]
  special_ends zero b low other lt e = absurd (other refl)
  special_ends (suc (suc (suc (suc slot)))) b low other lt e = absurd (omega (arith, low))

  pub ends_line : (slot b : ℕ) → slot < length states.items → b < 256 → get_or transitions (slot * classes.count + get_or classes.of b 0) 0 ≡ 0 → b ≡ 10
  ends_line slot b lt byte e =
      let row : IsSlot states.items slot → b ≡ 10 = λ at.
      transition_ends t classes.count states.items (state_at t states.items slot) b (get_or transitions (slot * classes.count + get_or classes.of b 0) 0)
      some (table.right slot b at byte) e in
      elim (cases_lt slot 4) [
        | inr high ↦ row (record { within = lt; ordinary = inr high })
        | inl low ↦ elim (cases_eq slot 0) [
          | inl none ↦ row (record { within = lt; ordinary = inl none })
          | inr other ↦ special_ends slot b low other byte e
        ]
      ]

  -- the transition of the state in a slot is stored for the bytes of a class
  module _ (slot byte number : ℕ) (at : IsSlot states.items slot) (low : byte < 256)
      (leads : Leads t classes.count states.items (state_at t states.items slot) byte number) where
    abbrev place : ℕ
    place = slot * classes.count + get_or classes.of byte 0

    pub transition_in : place < length transitions
    transition_in = omega (arith, table.rows, in_rows classes.count slot (length states.items) (get_or classes.of byte 0) at.within (are.range byte low))

    ordinary_transition : (k : ℕ) → unknown_number classes.count ≤ k → k < start_number classes.count → k ≢ place
    ordinary_transition k from to e =
        elim at.ordinary [
          | inl zero_slot ↦ omega (arith, from, e, are.range byte low, ap (λ s. s * classes.count) zero_slot)
          | inr high ↦ omega (arith, to, e, scaled 4 slot classes.count high)
        ]

    right_there : (r b : ℕ) → IsSlot states.items r → b < 256 →
        IsTransition t classes.count states.items (state_at t states.items r) b (get_or (set transitions place number) (r * classes.count + get_or classes.of b 0) 0)
    right_there r b there lt =
        elim (cases_eq (r * classes.count + get_or classes.of b 0) place) [
          | inl e ↦
              let same = same_transition classes.count r slot (get_or classes.of b 0) (get_or classes.of byte 0) (are.range b lt) (are.range byte low) e in
              let alike = are.alike byte b low lt (sym same.1) (state_at t states.items slot) (right.blocks slot) in
              let is : get_or (set transitions place number) (r * classes.count + get_or classes.of b 0) 0 ≡ number =
              ap (λ k. get_or (set transitions place number) k 0) e ∙ get_or-set_same transitions place number 0 transition_in in
              subst (λ x. IsTransition t classes.count states.items (state_at t states.items r) b x) (sym is)
              (subst (λ s. IsTransition t classes.count states.items (state_at t states.items s) b number) (sym same.0)
              (known (leads_alike t classes.count states.items (state_at t states.items slot) byte b number alike leads)))
          | inr other ↦
              subst (λ x. IsTransition t classes.count states.items (state_at t states.items r) b x)
              (sym (get_or-set_other transitions place (r * classes.count + get_or classes.of b 0) number 0 other)) (table.right r b there lt)
        ]

    pub put_transition : IsTable t classes states.items (set transitions place number)
    put_transition = record {
      rows = length-set transitions place number ∙ table.rows;
      numbers = λ k lt. elim (cases_eq k place) [
        | inl e ↦
            let of_leads = leads_slot t classes.count states.items (state_at t states.items slot) byte number right.first leads in
            (of_leads.0, of_leads.1, ap (λ i. get_or (set transitions place number) i 0) e ∙ get_or-set_same transitions place number 0 transition_in ∙ of_leads.2)
        | inr other ↦
            let before = table.numbers k (omega (arith, lt, length-set transitions place number)) in
            (before.0, before.1, get_or-set_other transitions place k number 0 other ∙ before.2)
      ];
      special = special_kept classes transitions (set transitions place number)
          (λ k from to. get_or-set_other transitions place k number 0 (ordinary_transition k from to)) table.special;
      right = right_there;
    }

  -- a state is added
  module _ (state : State) (more : List ℕ) (long : length more ≡ length transitions + classes.count)
      (same : (k : ℕ) → k < length transitions → get_or more k 0 ≡ get_or transitions k 0)
      (blank : (k : ℕ) → length transitions ≤ k → k < length more → get_or more k 0 ≡ classes.count) where
    abbrev more_states : List State
    more_states = states.items ++ state ∷ []

    length_more : length more_states ≡ length states.items + 1
    length_more = length-append states.items (state ∷ [])

    pub kept_state : (slot : ℕ) → slot < length states.items → state_at t more_states slot ≡ state_at t states.items slot
    kept_state slot lt = get_or_append_left states.items (state ∷ []) (start t) slot lt

    pub kept_slot : (slot : ℕ) → IsSlot states.items slot → IsSlot more_states slot
    kept_slot slot at = record { within = omega (arith, at.within, length_more); ordinary = at.ordinary }

    kept_stands : (number : ℕ) (n : State) → StandsFor t classes.count states.items number n → StandsFor t classes.count more_states number n
    kept_stands number n (cached slot is at there) = cached slot is (kept_slot slot at) (kept_state slot at.within ∙ there)
    kept_stands number n (dead is gone) = dead is gone

    kept_leads : (n : State) (b number : ℕ) → Leads t classes.count states.items n b number → Leads t classes.count more_states n b number
    kept_leads n b number (accepting is h) = accepting is h
    kept_leads n b number (next h stands other line) = next h (kept_stands number (successor t n b) stands) other line

    kept_transition : (n : State) (b transition : ℕ) → IsTransition t classes.count states.items n b transition →
        IsTransition t classes.count more_states n b transition
    kept_transition n b transition (unknown is) = unknown is
    kept_transition n b transition (known leads) = known (kept_leads n b transition leads)

    at_last : state_at t more_states (length states.items) ≡ state
    at_last = get_or-append_right states.items (state ∷ []) (length states.items) (length states.items) (start t) refl (omega arith)
        ∙ ap (λ k. get_or (state ∷ []) k (start t)) (let zero_left : length states.items - length states.items ≡ 0 = omega arith in zero_left)

    pub last_slot : IsSlot more_states (length states.items)
    last_slot = record { within = omega (arith, length_more); ordinary = inr (omega (arith, right.first)) }

    pub added_stands : StandsFor t classes.count more_states (length states.items * classes.count) state
    added_stands = cached (length states.items) refl last_slot at_last

    right_more : (slot b : ℕ) → IsSlot more_states slot → b < 256 →
        IsTransition t classes.count more_states (state_at t more_states slot) b (get_or more (slot * classes.count + get_or classes.of b 0) 0)
    right_more slot b at lt =
        let k = slot * classes.count + get_or classes.of b 0 in
        elim (cases_lt slot (length states.items)) [
          | inl old ↦
              let within : k < length transitions = omega (arith, table.rows, in_rows classes.count slot (length states.items) (get_or classes.of b 0) old (are.range b lt)) in
              let before = kept_transition (state_at t states.items slot) b (get_or transitions k 0)
              (table.right slot b (record { within = old; ordinary = at.ordinary }) lt) in
              subst (λ x. IsTransition t classes.count more_states (state_at t more_states slot) b x) (sym (same k within))
              (subst (λ (n : State). IsTransition t classes.count more_states n b (get_or transitions k 0)) (sym (kept_state slot old)) before)
          | inr new ↦
              let low : length transitions ≤ k = omega (arith, table.rows, scaled (length states.items) slot classes.count new) in
              let high : k < length more =
              omega (
                arith,
                long,
                table.rows,
                length_more,
                in_rows classes.count slot (length states.items + 1) (get_or classes.of b 0)
                    (omega (arith, at.within, length_more)) (are.range b lt),
              ) in
              unknown (blank k low high)
        ]

    pub added_table : IsTable t classes more_states more
    added_table = record {
      rows = omega (arith, long, table.rows, ap (λ n. n * classes.count) length_more);
      numbers = λ k lt. elim (cases_lt k (length transitions)) [
        | inl old ↦ let before = table.numbers k old in (before.0, omega (arith, before.1, length_more), same k old ∙ before.2)
        | inr new ↦ (1, omega (arith, right.first, length_more), blank k new lt ∙ omega arith)
      ];
      special = special_kept classes transitions more
          (λ k from to. same k (omega (arith, to, table.rows, scaled 5 (length states.items) classes.count right.first))) table.special;
      right = right_more;
    }

    pub added_states : length states.items < states.most → length state.positions ≡ position_count t → IsBlock (cuts_of t) state.behind.unfinished →
        AreStates t classes.count (record states { items = more_states })
    added_states room size block = record {
      first = omega (arith, right.first, length_more);
      bound = omega (arith, room, length_more);
      more = right.more;
      fits = right.fits;
      sized = right.sized;
      found = kept_state 0 (omega (arith, right.first)) ∙ right.found;
      begin = kept_state 4 (omega (arith, right.first)) ∙ right.begin;
      positions = λ slot. elim (cases_lt slot (length states.items)) [
        | inl old ↦ ap (λ (n : State). length n.positions) (kept_state slot old) ∙ right.positions slot
        | inr new ↦ elim (cases_eq slot (length states.items)) [
          | inl e ↦ ap (λ k. length (state_at t more_states k).positions) e ∙ ap (λ (n : State). length n.positions) at_last ∙ size
          | inr past ↦
              ap (λ (n : State). length n.positions) (get_or_past more_states slot (start t) (omega (arith, length_more, new, past)))
              ∙ length-replicate (position_count t) false
        ]
      ];
      blocks = λ slot. elim (cases_lt slot (length states.items)) [
        | inl old ↦ subst (λ (n : State). IsBlock (cuts_of t) n.behind.unfinished) (sym (kept_state slot old)) (right.blocks slot)
        | inr new ↦ elim (cases_eq slot (length states.items)) [
          | inl e ↦ subst (λ (n : State). IsBlock (cuts_of t) n.behind.unfinished)
              (sym (ap (λ k. state_at t more_states k) e ∙ at_last)) block
          | inr past ↦
              subst (λ (n : State). IsBlock (cuts_of t) n.behind.unfinished)
              (sym (get_or_past more_states slot (start t) (omega (arith, length_more, new, past)))) (block_start t)
        ]
      ];
    }

-- the table of the first rows
module _ (t : Tree) (classes : ByteClasses) (transitions : List ℕ) (are : AreClasses t classes) (rows : AreFirstRows classes transitions) where
  abbrev HasNumber : ℕ → Type 0
  HasNumber k = (slot : ℕ) × (slot < 5) × (get_or transitions k 0 ≡ slot * classes.count)

  until : (k stays ends c : ℕ) → stays < 5 → ends < 5 →
      get_or transitions k 0 ≡ until_newline classes (stays * classes.count) (ends * classes.count) c → HasNumber k
  until k stays ends c low high is =
      elim (cases_eq c (get_or classes.of 10 0)) [
        | inl e ↦ (ends, high, is ∙ leaves_at_end classes (stays * classes.count) (ends * classes.count) c e)
        | inr other ↦ (stays, low, is ∙ stays_in_line classes (stays * classes.count) (ends * classes.count) c other)
      ]

  -- the transition of a row
  number : (slot c : ℕ) → slot < 5 → c < classes.count → HasNumber (slot * classes.count + c)
  number zero c low lt =
      let at : 0 * classes.count + c ≡ c = omega arith in
      (1, omega arith, ap (λ k. get_or transitions k 0) at ∙ rows.at_found c lt ∙ omega arith)
  number (suc zero) c low lt =
      let at : 1 * classes.count + c ≡ classes.count + c = omega arith in
      (1, omega arith, ap (λ k. get_or transitions k 0) at ∙ rows.special.at_unknown c lt ∙ omega arith)
  number (suc (suc zero)) c low lt =
      let none : 0 ≡ 0 * classes.count = omega arith in
      until (2 * classes.count + c) 2 0 c (omega arith) (omega arith)
      (rows.special.at_match c lt ∙ ap (λ ends. until_newline classes (2 * classes.count) ends c) none)
  number (suc (suc (suc zero))) c low lt = until (3 * classes.count + c) 3 4 c (omega arith) (omega arith) (rows.special.at_dead c lt)
  number (suc (suc (suc (suc zero)))) c low lt = (1, omega arith, rows.at_start c lt ∙ omega arith)
  number (suc (suc (suc (suc (suc slot))))) c low lt = absurd (omega (arith, low))

  some_class : 0 < classes.count
  some_class = some_classes t classes are

  numbers : (k : ℕ) → k < length transitions → HasNumber k
  numbers k lt =
      let within : k < 5 * classes.count = omega (arith, lt, rows.all) in
      let low : k / classes.count < 5 = (div-lt_iff_lt-mul some_class).1 within in
      let at : k / classes.count * classes.count + k % classes.count ≡ k = omega (arith, mod-add-div' k classes.count) in
      subst HasNumber at (number (k / classes.count) (k % classes.count) low (mod_below k classes.count some_class))

  pub first_table : (states : List State) → length states ≡ 5 → IsTable t classes states transitions
  first_table states five = record {
    rows = omega (arith, rows.all, ap (λ n. n * classes.count) five);
    numbers = λ k lt. let at = numbers k lt in (at.0, omega (arith, at.1, five), at.2);
    special = rows.special;
    right = λ slot b at lt.
        let c = get_or classes.of b 0 in
        let within = are.range b lt in
        elim at.ordinary [
          | inl none ↦
              let first : slot * classes.count + c ≡ c = omega (arith, ap (λ s. s * classes.count) none) in
              unknown (ap (λ k. get_or transitions k 0) first ∙ rows.at_found c within)
          | inr high ↦
              let four : slot ≡ 4 = omega (arith, high, at.within, five) in
              unknown (ap (λ s. get_or transitions (s * classes.count + c) 0) four ∙ rows.at_start c within)
        ];
  }

-- all states but the first ones are forgotten
pub emptied_states : (t : Tree) (count : ℕ) (states : StateList) → AreStates t count states →
    AreStates t count (record states { items = take 5 states.items })
emptied_states t count states right =
    let five : length (take 5 states.items) ≡ 5 = length-take-le 5 states.items right.first in
    let kept : (slot : ℕ) → slot < 5 → state_at t (take 5 states.items) slot ≡ state_at t states.items slot =
    λ slot lt. get_or-take 5 states.items slot (start t) lt in
    let past : (slot : ℕ) → 5 ≤ slot → state_at t (take 5 states.items) slot ≡ start t =
    λ slot ge. get_or_past (take 5 states.items) slot (start t) (omega (arith, five, ge)) in
    record {
      first = omega (arith, five);
      bound = omega (arith, five, right.more);
      more = right.more;
      fits = right.fits;
      sized = right.sized;
      found = kept 0 (omega arith) ∙ right.found;
      begin = kept 4 (omega arith) ∙ right.begin;
      positions = λ slot. elim (cases_lt slot 5) [
        | inl lt ↦ ap (λ (n : State). length n.positions) (kept slot lt) ∙ right.positions slot
        | inr ge ↦ ap (λ (n : State). length n.positions) (past slot ge) ∙ length-replicate (position_count t) false
      ];
      blocks = λ slot. elim (cases_lt slot 5) [
        | inl lt ↦ subst (λ (n : State). IsBlock (cuts_of t) n.behind.unfinished) (sym (kept slot lt)) (right.blocks slot)
        | inr ge ↦ subst (λ (n : State). IsBlock (cuts_of t) n.behind.unfinished) (sym (past slot ge)) (block_start t)
      ];
    }

same_everywhere : (n k : ℕ) (x : State) → get_or (replicate n x) k x ≡ x
same_everywhere n k x =
    elim (cases_lt k n) [
      | inl lt ↦ get_or-replicate n k x x lt
      | inr ge ↦ get_or_past (replicate n x) k x (omega (arith, length-replicate n x))
    ]

-- at first all states are the start state
pub first_states : (t : Tree) (count : ℕ) (states : StateList) → AreFirstStates count (start t) states → AreStates t count states
first_states t count states are =
    let one : (k : ℕ) → state_at t states.items k ≡ start t = λ k. ap (λ xs. get_or xs k (start t)) are.all ∙ same_everywhere 5 k (start t) in
    let five : length states.items ≡ 5 = ap length are.all ∙ length-replicate 5 (start t) in
    record {
      first = omega (arith, five);
      bound = omega (arith, five, are.more);
      more = are.more;
      fits = are.fits;
      sized = are.sized ∙ length-replicate (position_count t) false;
      found = one 0;
      begin = one 4;
      positions = λ k. ap (λ (n : State). length n.positions) (one k) ∙ length-replicate (position_count t) false;
      blocks = λ k. subst (λ (n : State). IsBlock (cuts_of t) n.behind.unfinished) (sym (one k)) (block_start t);
    }
