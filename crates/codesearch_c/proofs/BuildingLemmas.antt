-- Texts, paths and slots of builders.
use Rattle.std.proofs.Common.{◌≡◌, ◌≢◌, ◌≤◌, ◌^◌, ◌⊎◌, inl, inr, ℕ, suc, ◌<◌, ℤ, true, false, nat_eq, List, [], ◌∷◌, ◌++◌, length, map, get_or, Option, Some, None, refl, sym, ap, subst, ◌∙◌, arith}
use Rattle.std.proofs.lemmas.Bool.{ne_eqb, eqb-true, false≢true}
use Rattle.std.specs.List.{onto_first}
use Rattle.cs_trigram.specs.declared.scan.Reason.{Reason}
use Rattle.cs_trigram.specs.Scans.{text, skipped_for, skipped_or}
use Rattle.cs_index.specs.Built.{Built, is_storable, IsOutOfOrder, IsFull}
use Rattle.cs_index.specs.MaxNames.{max_names}
use Rattle.cs_index.specs.Encoding.{encoding_of}
use Rattle.cs_index.specs.declared.fault.BuildFault.{BuildFault}
use Rattle.cs_index.specs.declared.fault.BuildFault.TheVariants as build
use Rattle.codesearch_c.specs.declared.slot.Held.{Held}
use Rattle.codesearch_c.specs.declared.slot.Held.TheVariants.{Builder, Bytes}
use Rattle.codesearch_c.specs.Codes.{done, memory, build_code}
use Rattle.codesearch_c.specs.Slots.{is_filled, OnBuilder, OnBytes}
use Rattle.codesearch_c.specs.Building.{nul_parts, IsAddition, rejected_name, no_memory, IsRefusedIndex, too_large, no_room, IsFinished}

none_some : {X : Type 0} (x : X) → None ≡ Some x → ⊥
none_some x e = cc

same_some : {X : Type 0} (x y : X) → Some x ≡ Some y → x ≡ y
same_some x y e = cc

-- a slot that is not filled is empty
pub empty_is_none : (slot : Option Held) → is_filled slot ≡ false → slot ≡ None
empty_is_none None empty = refl
empty_is_none (Some held) empty = absurd (false≢true (sym empty))

-- a part without a NUL
abbrev pub HasNoNul : List ℕ → Type 0
HasNoNul part = (i : ℕ) → i < length part → get_or part i 0 ≢ 0

later : (b : ℕ) (part : List ℕ) → HasNoNul (b ∷ part) → HasNoNul part
later b part none = λ i low. none (suc i) (omega arith)

pub parts_cut : (part more : List ℕ) → HasNoNul part → nul_parts (part ++ 0 ∷ more) ≡ part ∷ nul_parts more
parts_cut [] more none = refl
parts_cut (b ∷ part) more none = rw (ne_eqb b 0 (none 0 (omega arith)), parts_cut part more (later b part none)) refl

pub parts_last : (b : ℕ) (part : List ℕ) → HasNoNul (b ∷ part) → nul_parts (b ∷ part) ≡ (b ∷ part) ∷ []
parts_last b [] none = rw (ne_eqb b 0 (none 0 (omega arith))) refl
parts_last b (c ∷ part) none = rw (ne_eqb b 0 (none 0 (omega arith))) (ap (onto_first b) (parts_last c part (later b (c ∷ part) none)))

-- what is left after the last NUL
pub parts_none : (rest : List ℕ) → nat_eq (length rest) 0 ≡ true → nul_parts rest ≡ []
parts_none [] empty = refl
parts_none (b ∷ rest) empty = absurd (omega (arith, eqb-true (length (b ∷ rest)) 0 empty))

pub parts_rest : (rest : List ℕ) → nat_eq (length rest) 0 ≡ false → HasNoNul rest → nul_parts rest ≡ rest ∷ []
parts_rest [] some none = absurd (false≢true (sym some))
parts_rest (b ∷ rest) some none = parts_last b rest none

-- one more path
module _ {S : Type 0} (bytes_of : S → List ℕ) (s : S) where
  pushed : (paths : List S) (rest : List (List ℕ)) → map bytes_of (paths ++ s ∷ []) ++ rest ≡ map bytes_of paths ++ (bytes_of s ∷ rest)
  pushed [] rest = refl
  pushed (path ∷ paths) rest = ap (λ l. bytes_of path ∷ l) (pushed paths rest)

  pub one_more : (paths new : List S) (path rest : List ℕ) (more all : List (List ℕ)) → new ≡ paths ++ s ∷ [] →
      bytes_of s ≡ path → nul_parts rest ≡ path ∷ more → map bytes_of paths ++ nul_parts rest ≡ all →
      map bytes_of new ++ more ≡ all
  one_more paths new path rest more all e same cut before =
      ap (λ items. map bytes_of items ++ more) e ∙ pushed paths more ∙ ap (λ p. map bytes_of paths ++ (p ∷ more)) same
      ∙ ap (λ l. map bytes_of paths ++ l) (sym cut) ∙ before

-- why a name is not added
pub rejection : (name body : List ℕ) (old new : Built) (fault : BuildFault) (code : ℤ) → new ≡ old →
    code ≡ build_code fault → (fault ≡ build.BadName → is_storable name ≡ false) →
    (fault ≡ build.OutOfOrder → IsOutOfOrder old name) → (fault ≡ build.TooLarge → IsFull max_names old name) →
    fault ≢ build.BadPaths → IsAddition name body old new code
rejection name body old new build.BadName code same e bad order full paths = rejected_name build.BadName (bad refl) e same
rejection name body old new build.OutOfOrder code same e bad order full paths = rejected_name build.OutOfOrder (order refl) e same
rejection name body old new build.TooLarge code same e bad order full paths = rejected_name build.TooLarge (full refl) e same
rejection name body old new build.BadPaths code same e bad order full paths = absurd (paths refl)
rejection name body old new build.Memory code same e bad order full paths = no_memory e same

-- a text that a scan leaves out
pub left_out : (o : Option Reason) (reason : Reason) (trigrams : List ℕ) (n : ℕ) → skipped_for reason
    ≡ skipped_or o (text trigrams n) → o ≡ Some reason
left_out None reason trigrams n e = cc
left_out (Some other) reason trigrams n e = cc

-- a finished builder
pub taken : (slot left : Option Held) (result : Option Built) (builder : Built) (Other : Type 0)
    (Holds : Built → Type 0) → OnBuilder slot ((result ≡ None) × (left ≡ slot))
    (λ built. (result ≡ Some built) × (left ≡ None)) → result ≡ Some builder → Holds builder →
    OnBuilder slot Other (λ built. (left ≡ None) × Holds built)
taken (Some (Builder held)) left result builder Other Holds h e holds =
    (h.1, subst Holds (same_some builder held.builder (sym e ∙ h.0)) holds)
taken slot left result builder Other Holds h e holds = absurd (none_some builder (sym h.0 ∙ e))

pub filled : (built : Built) (bytes : List ℕ) (slot : Option Held) (code shown : ℤ) → bytes
    ≡ encoding_of built.paths built.entries → shown ≡ code → OnBytes slot ((slot ≡ None) × (code ≡ memory))
    (λ held. (held ≡ bytes) × (code ≡ done)) → IsFinished built slot shown
filled built bytes (Some (Bytes held)) code shown e s h = (h.0 ∙ e, s ∙ h.1)
filled built bytes slot code shown e s h = (h.0, no_room (s ∙ h.1))

pub not_finished : (built : Built) (slot : Option Held) (fault : BuildFault) (shown : ℤ) → slot ≡ None → shown
    ≡ build_code fault → (fault ≡ build.TooLarge → 2 ^ 32 ≤ length (encoding_of built.paths built.entries)) →
    (fault ≡ build.TooLarge) ⊎ (fault ≡ build.Memory) → IsFinished built slot shown
not_finished built slot fault shown empty e large either = subst (λ (s : Option Held). IsFinished built s shown)
    (sym empty) (refl, why either)
  where
    why : (fault ≡ build.TooLarge) ⊎ (fault ≡ build.Memory) → IsRefusedIndex built shown
    why (inl is) = too_large (large is) (e ∙ ap build_code is)
    why (inr is) = no_room (e ∙ ap build_code is)
