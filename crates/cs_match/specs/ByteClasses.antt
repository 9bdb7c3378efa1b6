-- Byte classes (RE2's byte map): one partition of the bytes that no state of a tree tells apart.
use Rattle.std.specs.Prelude.{ℕ, suc, ◌≡◌, ◌<◌, ◌≤◌, ◌⊎◌, Bool, false, List, length, nat_eq, slice_index}
use Rattle.cs_syntax.specs.Matching.{Tree, Trees, one_of, one_char, cat, alt, rep, none, more, member}
use Rattle.cs_syntax.specs.Characters.{has_char}
use Rattle.cs_syntax.specs.CharSteps.{char_step}
use Rattle.cs_syntax.specs.declared.char_step.Unfinished.{Unfinished}
use Rattle.cs_match.specs.declared.byte_classes.ByteClasses.{ByteClasses}
use Rattle.cs_match.specs.declared.state.State.{State}
use Rattle.cs_match.specs.Digits.{IsBlock}
use Rattle.cs_match.specs.Glushkov.{cuts_of}
use Rattle.cs_match.specs.Lines.{newline}
use Rattle.cs_match.specs.States.{is_word_for, successor, accepts_before}

-- the bytes have the same successor from the state, the state accepts before both or before neither, and both or
-- neither are the newline
pub record AreAlike (t : Tree) (state : State) (b c : ℕ) : Type 0 where
  pub newline : nat_eq b newline ≡ nat_eq c newline
  pub successor : successor t state b ≡ successor t state c
  pub accepts : accepts_before t state b ≡ accepts_before t state c

-- each set of the tree has both bytes or neither
abbrev mutual
  pub HaveBoth : Tree → ℕ → ℕ → Type 0
  HaveBoth (one_of set) b c = member set b ≡ member set c
  HaveBoth (one_char ranges) b c = has_char ranges b ≡ has_char ranges c
  HaveBoth (cat ts) b c = AllHaveBoth ts b c
  HaveBoth (alt ts) b c = AllHaveBoth ts b c
  HaveBoth (rep x n m) b c = HaveBoth x b c
  HaveBoth leaf b c = Unit {0}

  pub AllHaveBoth : Trees → ℕ → ℕ → Type 0
  AllHaveBoth none b c = Unit {0}
  AllHaveBoth (more t ts) b c = HaveBoth t b c × AllHaveBoth ts b c

-- neither the sets of the tree, nor its assertions, nor the ends of lines tell the bytes apart
pub record AreTogether (t : Tree) (b c : ℕ) : Type 0 where
  pub newline : nat_eq b newline ≡ nat_eq c newline
  pub word : is_word_for t b ≡ is_word_for t c
  pub sets : HaveBoth t b c

-- a class begins at the byte
abbrev pub begins_at : List ℕ → ℕ → Bool
begins_at begins b = nat_eq (slice_index begins b) 1

-- the bytes do the same to each unfinished character, except that both may be characters themselves
abbrev pub StepAlike : List ℕ → ℕ → ℕ → Type 0
StepAlike cuts b c = (at : Unfinished) → IsBlock cuts at → (c < 128) ⊎ (char_step cuts at b ≡ char_step cuts at c)

-- marks are added, and then neighbouring bytes satisfy the relation, except where a class begins
pub record AddsMarks (Alike : ℕ → ℕ → Type 0) (old new : List ℕ) : Type 0 where
  pub bytes : length new ≡ length old
  pub kept : (b : ℕ) → begins_at new b ≡ false → begins_at old b ≡ false
  pub alike : (b : ℕ) → suc b < 256 → begins_at new (suc b) ≡ false → Alike b (suc b)

-- the first byte of the class of each byte is kept
pub record HaveFirsts (classes : ByteClasses) : Type 0 where
  pub first : (b : ℕ) → b < 256 → (slice_index classes.firsts b ≤ b)
      × (slice_index classes.of (slice_index classes.firsts b) ≡ slice_index classes.of b)

-- a class has no byte after its first at which one begins, and its number is below the count
pub record AreNumbered (begins : List ℕ) (classes : ByteClasses) : Type 0 where
  pub none : (b c k : ℕ) → b < k → k ≤ c → c < 256 → slice_index classes.of b ≡ slice_index classes.of c → begins_at begins k ≡ false
  pub firsts : HaveFirsts classes
  pub range : (b : ℕ) → b < 256 → slice_index classes.of b < classes.count
  pub few : classes.count ≤ 256

-- no state tells two bytes of a class apart, so no other byte is in the class of the newline
pub record AreClasses (t : Tree) (classes : ByteClasses) : Type 0 where
  pub alike : (b c : ℕ) → b < 256 → c < 256 → slice_index classes.of b ≡ slice_index classes.of c →
      (state : State) → IsBlock (cuts_of t) state.behind.unfinished → AreAlike t state b c
  pub firsts : HaveFirsts classes
  pub range : (b : ℕ) → b < 256 → slice_index classes.of b < classes.count
  pub few : classes.count ≤ 256
