-- Lines in which the automaton accepts, or never does.
use Rattle.std.proofs.Common.{◌≡◌, ℕ, zero, suc, ◌<◌, ◌≤◌, true, false, List, [], ◌∷◌, ◌++◌, take, length, sym, ap, subst, ◌∙◌, arith, inl, inr}
use Rattle.std.specs.Prelude.{slice_index, ◌≢◌}
use Rattle.std.proofs.lemmas.Bool.{both_ways, cases_lt, eqb-false}
use Rattle.cs_syntax.specs.Matching.{Tree, HasMatch}
use Rattle.cs_match.specs.declared.state.State.{State}
use Rattle.cs_match.specs.Lines.{newline}
use Rattle.cs_match.specs.NoNewline.{HasNoNewline}
use Rattle.cs_match.specs.Glushkov.{accepts_in, IsExpanded}
use Rattle.cs_match.specs.States.{start, next_state, state_through, accepts_before}
use Rattle.cs_match.proofs.StateLemmas.{accepts_in_line, accepts_at_end}
use Rattle.cs_match.proofs.GlushkovLemmas.{match_where_accepted}

-- the tree accepts before no byte of the line and not at its end
abbrev pub NeverAccepts : Tree → State → List ℕ → Type 0
NeverAccepts t n [] = accepts_before t n newline ≡ false
NeverAccepts t n (b ∷ line) = (accepts_before t n b ≡ false) × NeverAccepts t (next_state t n b) line

never_at : (t : Tree) (n : State) (line : List ℕ) → NeverAccepts t n line → (i : ℕ) → i < length line →
    accepts_before t (state_through t n (take i line)) (slice_index line i) ≡ false
never_at t n [] never i low = absurd (omega arith)
never_at t n (b ∷ line) never zero low = never.0
never_at t n (b ∷ line) never (suc i) low = never_at t (next_state t n b) line never.1 i (omega arith)

never_ends : (t : Tree) (n : State) (line : List ℕ) → NeverAccepts t n line → accepts_before t (state_through t n line) newline ≡ false
never_ends t n [] never = never
never_ends t n (b ∷ line) never = never_ends t (next_state t n b) line never.1

part_at : (line : List ℕ) → HasNoNewline line → (i : ℕ) → i < length line → slice_index line i ≢ newline
part_at [] part i low = absurd (omega arith)
part_at (b ∷ line) part zero low = eqb-false b newline part.0
part_at (b ∷ line) part (suc i) low = part_at line part.1 i (omega arith)

pub never_found : (t : Tree) (line : List ℕ) → IsExpanded t → HasNoNewline line → NeverAccepts t (start t) line → HasMatch t line → ⊥
never_found t line expanded part never found_it =
    let w = (match_where_accepted t line expanded).0 found_it in
    elim (cases_lt w.0 (length line)) [
      | inl low ↦ both_ways (accepts_in line t w.0) (sym (accepts_in_line t line w.0 low (part_at line part w.0 low))
          ∙ never_at t (start t) line never w.0 low) w.2
      | inr high ↦
          let e : length line ≡ w.0 = omega (arith, w.1) in
          both_ways (accepts_in line t (length line)) (sym (accepts_at_end t line) ∙ never_ends t (start t) line never)
          (ap (accepts_in line t) e ∙ w.2)
    ]

-- the tree accepts before the byte at this offset of a line and its newline
abbrev pub AcceptsAt : Tree → State → List ℕ → ℕ → Type 0
AcceptsAt t n line i = accepts_before t (state_through t n (take i line)) (slice_index (line ++ newline ∷ []) i) ≡ true

accepts_within : (t : Tree) (n : State) (line : List ℕ) (i : ℕ) → i < length line → AcceptsAt t n line i →
    accepts_before t (state_through t n (take i line)) (slice_index line i) ≡ true
accepts_within t n [] i low h = absurd (omega arith)
accepts_within t n (b ∷ line) zero low h = h
accepts_within t n (b ∷ line) (suc i) low h = accepts_within t (next_state t n b) line i (omega arith) h

accepts_last : (t : Tree) (n : State) (line : List ℕ) → AcceptsAt t n line (length line) →
    accepts_before t (state_through t n line) newline ≡ true
accepts_last t n [] h = h
accepts_last t n (b ∷ line) h = accepts_last t (next_state t n b) line h

pub accepts_match : (t : Tree) (line : List ℕ) → IsExpanded t → HasNoNewline line → (i : ℕ) → i ≤ length line →
    AcceptsAt t (start t) line i → HasMatch t line
accepts_match t line expanded part i high accepting =
    (match_where_accepted t line expanded).1 (i, high, accepts_there)
  where
    accepts_there : accepts_in line t i ≡ true
    accepts_there =
        elim (cases_lt i (length line)) [
          | inl low ↦ sym (accepts_in_line t line i low (part_at line part i low)) ∙ accepts_within t (start t) line i low accepting
          | inr past ↦
              let e : i ≡ length line = omega (arith, past, high) in
              ap (accepts_in line t) e ∙ sym (accepts_at_end t line)
              ∙ accepts_last t (start t) line (subst (AcceptsAt t (start t) line) e accepting)
        ]
