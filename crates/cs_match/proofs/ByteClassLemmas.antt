-- The bytes of a class are alike.
use Rattle.std.proofs.Common.{◌≡◌, ℕ, zero, suc, ◌+◌, ◌-◌, ◌^◌, ◌<◌, ◌≤◌, ◌⊎◌, inl, inr, Bool, true, false, ◌&&◌, ◌||◌, not, List, [], ◌∷◌, length, take, drop, get_or, refl, sym, ◌∙◌, ap, ap₂, subst, arith, set}
use Rattle.std.specs.Prelude.{nat_eq}
use Rattle.std.proofs.lemmas.Bool.{cases_lt, false_from_ne_true, lt-ltb, ne_eqb}
use Rattle.cs_syntax.specs.Matching.{Tree, Trees, one_of, one_char, cat, alt, rep, none, more, is_word, member}
use Rattle.cs_syntax.specs.Members.{IsOnly}
use Rattle.cs_syntax.specs.ByteSet.{set_of}
use Rattle.cs_syntax.proofs.ByteSetLemmas.{set_of_at}
use Rattle.cs_syntax.specs.Cuts.{AreCutsOf}
use Rattle.cs_syntax.specs.CharSteps.{char_step, is_split, unfinished_after}
use Rattle.cs_syntax.proofs.CutLemmas.{floor_members}
use Rattle.cs_syntax.proofs.CharStepLemmas.{char_step_members}
use Rattle.cs_syntax.specs.declared.char_step.CharStep.TheVariants.{Single}
use Rattle.cs_match.specs.declared.byte_classes.ByteClasses.{ByteClasses}
use Rattle.cs_match.specs.declared.position.Input.{Input}
use Rattle.cs_match.specs.declared.state.State.{State}
use Rattle.cs_match.specs.declared.state.LookAround.{LookAround}
use Rattle.cs_match.specs.declared.state.LookBehind.{LookBehind}
use Rattle.cs_match.specs.LookBehind.{look_behind}
use Rattle.cs_match.specs.ByteClasses.{AreAlike, AreTogether, AreClasses, AreNumbered, StepAlike, HaveBoth, AllHaveBoth, AddsMarks, begins_at}
use Rattle.cs_match.specs.Glushkov.{position_count, is_final, accepts, step, step_all, step_each, cuts_of}
use Rattle.cs_match.specs.Digits.{IsBlock}
use Rattle.cs_match.specs.States.{input}

-- the inputs do the same to the unfinished character, except that both may be characters themselves
abbrev SameStep : Input → Input → Type 0
SameStep b c = (b.char ≡ c.char) ⊎ ((b.char ≡ Single b.byte) × (c.char ≡ Single c.byte))

-- a step over a byte that is in the same sets
mutual
  step_both : (t : Tree) (b c : Input) → HaveBoth t b.byte c.byte → SameStep b c →
      (enter : Bool) (ms : List Bool) (a : LookAround) → step t enter ms a b ≡ step t enter ms a c
  step_both (one_of set) b c h e enter ms a = rw h refl
  step_both (one_char ranges) b c h e enter ms a =
      elim e [
        | inl same ↦ rw same refl
        | inr singles ↦ rw (singles.0, singles.1) (ap (λ member. false ∷ (enter && member) ∷ []) h)
      ]
  step_both (cat ts) b c h e enter ms a = step_all_both ts b c h e enter ms a
  step_both (alt ts) b c h e enter ms a = step_each_both ts b c h e enter ms a
  step_both (rep x n m) b c h e enter ms a = step_both x b c h e (enter || is_final x ms a) ms a
  step_both leaf b c h e enter ms a = refl

  step_all_both : (ts : Trees) (b c : Input) → AllHaveBoth ts b.byte c.byte → SameStep b c →
      (enter : Bool) (ms : List Bool) (a : LookAround) → step_all ts enter ms a b ≡ step_all ts enter ms a c
  step_all_both none b c h e enter ms a = refl
  step_all_both (more t ts) b c h e enter ms a =
      rw (
        step_both t b c h.0 e enter (take (position_count t) ms) a,
        step_all_both ts b c h.1 e
            (accepts t enter (take (position_count t) ms) a) (drop (position_count t) ms) a,
      ) refl

  step_each_both : (ts : Trees) (b c : Input) → AllHaveBoth ts b.byte c.byte → SameStep b c →
      (enter : Bool) (ms : List Bool) (a : LookAround) → step_each ts enter ms a b ≡ step_each ts enter ms a c
  step_each_both none b c h e enter ms a = refl
  step_each_both (more t ts) b c h e enter ms a =
      rw (step_both t b c h.0 e enter (take (position_count t) ms) a, step_each_both ts b c h.1 e enter (drop (position_count t) ms) a) refl

-- bytes that step alike; a byte below 128 is a character
same_step : (t : Tree) (state : State) (b c : ℕ) → b < c → IsBlock (cuts_of t) state.behind.unfinished →
    ((look_behind t).char ≡ true → StepAlike (cuts_of t) b c) → SameStep (input t state b) (input t state c)
same_step t state b c lt is step = by (look_behind t).char refl
  where
    alike : (look_behind t).char ≡ true → (c < 128) ⊎ (char_step (cuts_of t) state.behind.unfinished b ≡ char_step (cuts_of t) state.behind.unfinished c) →
        SameStep (input t state b) (input t state c)
    alike e (inr same) = inl (rw e same)
    alike e (inl low) = inr (rw (e, lt-ltb b 128 (omega arith)) refl, rw (e, lt-ltb c 128 low) refl)

    by : (x : Bool) → (look_behind t).char ≡ x → SameStep (input t state b) (input t state c)
    by true e = alike e (step e state.behind.unfinished is)
    by false e = inl (rw e refl)

same_unfinished : (b c : Input) → SameStep b c → unfinished_after b.char ≡ unfinished_after c.char
same_unfinished b c (inl same) = ap unfinished_after same
same_unfinished b c (inr singles) = ap unfinished_after singles.0 ∙ sym (ap unfinished_after singles.1)

-- neighbouring bytes of a class, before which no class begins
abbrev AreNeighbours : Tree → ℕ → ℕ → Type 0
AreNeighbours t b c = AreTogether t b c × ((look_behind t).char ≡ true → StepAlike (cuts_of t) b c)

-- they are alike
next_alike : (t : Tree) (state : State) (b : ℕ) → IsBlock (cuts_of t) state.behind.unfinished → AreNeighbours t b (suc b) → AreAlike t state b (suc b)
next_alike t state b is h =
    let both = h.0 in
    let same = same_step t state b (suc b) (omega arith) is h.1 in
    record {
      newline = both.newline;
      successor = rw (
        both.newline,
        both.word,
        step_both t (input t state b) (input t state (suc b)) both.sets same,
        same_unfinished (input t state b) (input t state (suc b)) same,
      ) refl;
      accepts = rw (both.newline, both.word) refl;
    }

pub alike_back : (t : Tree) (state : State) (b c : ℕ) → AreAlike t state b c → AreAlike t state c b
alike_back t state b c p = record { newline = sym p.newline; successor = sym p.successor; accepts = sym p.accepts }

-- from marks to classes
module _ (t : Tree) (begins : List ℕ) (classes : ByteClasses) (numbered : AreNumbered begins classes)
    (marked : (b : ℕ) → suc b < 256 → begins_at begins (suc b) ≡ false → AreNeighbours t b (suc b)) where
  module _ (state : State) (is : IsBlock (cuts_of t) state.behind.unfinished) where
    alike_up : (b n : ℕ) → b + n < 256 → ((k : ℕ) → b < k → k ≤ b + n → begins_at begins k ≡ false) → AreAlike t state b (b + n)
    alike_up b zero lt clear = subst (AreAlike t state b) (omega arith) (record { newline = refl; successor = refl; accepts = refl })
    alike_up b (suc n) lt clear =
        let next : suc (b + n) ≡ b + suc n = omega arith in
        let before = alike_up b n (omega arith) (λ k from to. clear k from (omega arith)) in
        let last = next_alike t state (b + n) is (marked (b + n) (omega arith) (clear (suc (b + n)) (omega arith) (omega arith))) in
        subst (AreAlike t state b) next
        (record {
          newline = before.newline ∙ last.newline;
          successor = before.successor ∙ last.successor;
          accepts = before.accepts ∙ last.accepts;
        })

    ordered_alike : (b c : ℕ) → b ≤ c → c < 256 → get_or classes.of b 0 ≡ get_or classes.of c 0 → AreAlike t state b c
    ordered_alike b c le lt same =
        let last : b + (c - b) ≡ c = omega arith in
        subst (AreAlike t state b) last
        (alike_up b (c - b) (omega arith) (λ k from to. numbered.none b c k from (omega arith) lt same))

  pub classes_are : AreClasses t classes
  classes_are = record {
    alike = λ b c bl cl same state is. elim (cases_lt b c) [
      | inl lt ↦ ordered_alike state is b c (omega arith) cl same
      | inr ge ↦ alike_back t state c b (ordered_alike state is c b ge bl (sym same))
    ];
    firsts = numbered.firsts;
    range = numbered.range;
    few = numbered.few;
  }

-- the marks of the set of a test
pub marks_of : (test : ℕ → Bool) (set : List Bool) (old new : List ℕ) → set ≡ set_of test →
    AddsMarks (λ b c. member set b ≡ member set c) old new → AddsMarks (λ b c. test b ≡ test c) old new
marks_of test set old new is marks =
    let at : (k : ℕ) → k < 256 → member set k ≡ test k = λ k low. ap (λ (s : List Bool). member s k) is ∙ set_of_at test k low in
    record { bytes = marks.bytes; kept = marks.kept; alike = λ b lt e. sym (at b (omega arith)) ∙ marks.alike b lt e ∙ at (suc b) lt }

-- the marks of the only member of a set, and of the byte after it
pub marks_one : (set : List Bool) (byte next : ℕ) (old some new : List ℕ) → IsOnly set byte → (byte + 1 < 256 → next ≡ byte + 1) →
    length new ≡ length old → ((b : ℕ) → begins_at new b ≡ false → begins_at some b ≡ false) →
    ((b : ℕ) → begins_at some b ≡ false → begins_at old b ≡ false) →
    (begins_at some byte ≡ false → ⊥) → (begins_at new next ≡ false → ⊥) → AddsMarks (λ b c. member set b ≡ member set c) old new
marks_one set byte next old some new only after bytes later kept first second = record {
  bytes = bytes;
  kept = λ b e. kept b (later b e);
  alike = λ b lt e.
      let before : member set b ≡ false = false_from_ne_true (member set b) (λ is.
      let at = only.1 b is in
      second (ap (begins_at new) (after (omega (arith, at, lt)) ∙ omega (arith, at)) ∙ e)) in
      let here : member set (suc b) ≡ false = false_from_ne_true (member set (suc b)) (λ is.
      first (ap (begins_at some) (sym (only.1 (suc b) is)) ∙ later (suc b) e)) in
      before ∙ sym here;
}

-- the newline is a class of its own
newlines : (new : List ℕ) (b : ℕ) → (begins_at new 10 ≡ false → ⊥) → (begins_at new 11 ≡ false → ⊥) →
    begins_at new (suc b) ≡ false → nat_eq b 10 ≡ nat_eq (suc b) 10
newlines new b ten eleven e =
    let here = λ (h : b ≡ 10). eleven (subst (λ k. begins_at new k ≡ false) (ap suc h) e) in
    let next = λ (h : suc b ≡ 10). ten (subst (λ k. begins_at new k ≡ false) h e) in
    ne_eqb b 10 here ∙ sym (ne_eqb (suc b) 10 next)

-- the cuts of a tree step as any list of them does
step_alike : (t : Tree) (cuts : List ℕ) → AreCutsOf t cuts → (b c : ℕ) → StepAlike cuts b c → StepAlike (cuts_of t) b c
step_alike t cuts are b c step at is =
    let floors = floor_members cuts (cuts_of t) are.members in
    let split : is_split cuts at.needed at.low ≡ is_split (cuts_of t) at.needed at.low =
    ap₂ (λ (m n : ℕ). not (nat_eq m n)) (floors at.low) (floors (at.low + (64 ^ at.needed - 1))) in
    let same = char_step_members cuts (cuts_of t) are.members at in
    elim (step at (record { multiple = λ e. is.multiple (sym split ∙ e) })) [
      | inl single ↦ inl single
      | inr steps ↦ inr (sym (same b) ∙ steps ∙ same c)
    ]

-- what a marked list says of its classes
pub classes_by : (t : Tree) (bits : LookBehind) (cuts first words sets new : List ℕ) (classes : ByteClasses) → bits ≡ look_behind t →
    AreCutsOf t cuts → (begins_at first 10 ≡ false → ⊥) → (begins_at first 11 ≡ false → ⊥) →
    AddsMarks (λ b c. (is_word b && bits.word) ≡ (is_word c && bits.word)) first words → AddsMarks (HaveBoth t) words sets →
    AddsMarks (λ b c. bits.char ≡ true → StepAlike cuts b c) sets new → AreNumbered new classes → AreClasses t classes
classes_by t bits cuts first words sets new classes is are ten eleven both marks steps numbered =
    classes_are t new classes numbered
    (λ b lt e.
    let at_sets = steps.kept (suc b) e in
    let at_words = marks.kept (suc b) at_sets in
    let words_alike = subst (λ (x : LookBehind). (is_word b && x.word) ≡ (is_word (suc b) && x.word)) is (both.alike b lt at_words) in (
      record { newline = newlines first b ten eleven (both.kept (suc b) at_words); word = words_alike; sets = marks.alike b lt at_sets },
      λ char. step_alike t cuts are b (suc b) (steps.alike b lt e (ap (λ (x : LookBehind). x.char) is ∙ char)),
    ))

-- one byte more is numbered
pub numbered_on : (begins old new : List ℕ) (byte last now : ℕ) → 1 ≤ byte → get_or old (byte - 1) 0 ≡ last →
    ((b : ℕ) → b < byte → get_or old b 0 ≤ last) →
    ((b c k : ℕ) → b < k → k ≤ c → c < byte → get_or old b 0 ≡ get_or old c 0 → begins_at begins k ≡ false) →
    ((b : ℕ) → b < byte → get_or new b 0 ≡ get_or old b 0) → get_or new byte 0 ≡ now →
    (now ≡ last → begins_at begins byte ≡ false) → last ≤ now →
    (b c k : ℕ) → b < k → k ≤ c → c < byte + 1 → get_or new b 0 ≡ get_or new c 0 → begins_at begins k ≡ false
numbered_on begins old new byte last now some top below clear kept is here rises b c k from to lt same =
    elim (cases_lt c byte) [
      | inl less ↦ clear b c k from to less (sym (kept b (omega (arith, from, to, less))) ∙ same ∙ kept c less)
      | inr ge ↦
          let last_is : c ≡ byte = omega (arith, ge, lt) in
          let first : get_or old b 0 ≡ now = sym (kept b (omega (arith, from, to, lt))) ∙ same ∙ ap (λ (i : ℕ). get_or new i 0) last_is ∙ is in
          let low = below b (omega (arith, from, to, lt)) in
          let stays : now ≡ last = omega (arith, first, low, rises) in
          elim (cases_lt k byte) [
            | inl inside ↦ clear b (byte - 1) k from (omega arith) (omega arith) (first ∙ stays ∙ sym top)
            | inr at ↦ subst (λ (i : ℕ). begins_at begins i ≡ false) (omega (arith, at, to, lt)) (here stays)
          ]
    ]
