-- Worked examples: the buckets of bytes, tests of a letter, and eight bytes.
use Rattle.std.proofs.Common.{◌≡◌, ℕ, ◌-◌, ◌/◌, ◌%◌, List, [], ◌∷◌, ◌++◌, replicate, get_or, inl, inr, refl, ap, arith, bit_and}
use Rattle.std.proofs.lemmas.Bool.{cases_lt}
use Rattle.std.proofs.lemmas.Simd.{get_or-replicate}
use Rattle.std.specs.Int.{bit_at}
use Rattle.cs_prefilter.specs.declared.probe.ByteTest.{ByteTest}
use Rattle.cs_prefilter.specs.declared.probe.NibbleMasks.{NibbleMasks}
use Rattle.cs_prefilter.specs.Buckets.{buckets, SetIsInBucket}
use Rattle.std.specs.Prelude.{true, false, codes}
use Rattle.cs_prefilter.specs.Pairs.{PassesTest}
use Rattle.cs_prefilter.specs.WordBuckets.{IsInPart, StartsPart}
use Rattle.cs_prefilter.specs.Prefixes.{eight}
use Rattle.cs_prefilter.specs.declared.word.Word.{Word}
use Rattle.cs_prefilter.specs.WordAt.{WordAt}
use Rattle.cs_prefilter.specs.Listed.{EndsLineWithWord}
use Rattle.cs_prefilter.specs.OffsetWork.{list_work}

-- a table of sixteen entries, all 0 except one
entry : ℕ → ℕ → List ℕ
entry at bits = replicate at 0 ++ bits ∷ replicate (15 - at) 0

-- `a` is 97, so its nibbles are 1 and 6: its buckets are the bits that the entries 1 and 6 share
masks : NibbleMasks
masks = record { low = entry 1 7; high = entry 6 13 }

a_is_in_two_buckets : buckets masks 97 ≡ 5
unfolding buckets masks entry
a_is_in_two_buckets = refl

b_is_in_no_bucket : buckets masks 98 ≡ 0
unfolding buckets masks entry
b_is_in_no_bucket = refl

-- masks by which each byte is in bucket 2: they hold what may follow the end of a word
any_byte : NibbleMasks
any_byte = record { low = replicate 16 4; high = replicate 16 255 }

any_byte_is_in_bucket : (word : Word) (i : ℕ) → SetIsInBucket any_byte word i 2
unfolding buckets any_byte
any_byte_is_in_bucket word i b d small may =
    (λ j. bit_at (bit_and (get_or-replicate 16 (b % 16) 4 0 (omega arith) j) (get_or-replicate 16 (b / 16) 255 0 (omega (arith, small)) j)) 2)

-- a test of both cases of a letter: `a` and `A` pass, and `q` does not
letter : ByteTest
letter = record { mask = 32; byte = 97 }

both_cases_pass : PassesTest true letter 65 × PassesTest true letter 97 × (PassesTest true letter 113 → ⊥)
unfolding letter
both_cases_pass = (refl, refl, λ e. absurd (omega (arith, e)))

capital_needs_the_mask : PassesTest false letter 65 → ⊥
unfolding letter
capital_needs_the_mask e = absurd (omega (arith, e))

-- three words have the buckets 0, 2 and 5, and bucket 2 has the word 1 alone
three_words : IsInPart 3 0 0 × IsInPart 3 2 1 × IsInPart 3 5 2 × StartsPart 3 2 1 × StartsPart 3 3 2
three_words = (
  record { low = omega arith; high = omega arith },
  record { low = omega arith; high = omega arith },
  record { low = omega arith; high = omega arith },
  λ i. (λ low. omega (arith, low), λ low. omega (arith, low)),
  λ i. (λ low. omega (arith, low), λ low. omega (arith, low)),
)

-- the list of no bytes: two strides are probed; the list of ten bytes with one line: two more, and each byte decided
lists_of_lines : (list_work 0 0 ≡ 128) × (list_work 10 1 ≡ 21396)
lists_of_lines = (refl, refl)

-- two lines, which end at 3 and 6
lines : List ℕ
lines = codes "xab\ncd\n"

-- a word that begins at 1 begins in the first
first_line : (word : Word) → WordAt lines 1 word → EndsLineWithWord (word ∷ []) lines 3
unfolding lines
first_line word occurs = record {
  here = refl;
  at = 1;
  low = omega arith;
  in_line = λ k low high. elim (cases_lt k 2) [
    | inl before ↦
        let is : k ≡ 1 = omega (arith, low, before) in
        λ ends. absurd (omega (arith, ends, ap (λ n. get_or lines n 0) is))
    | inr after ↦
        let is : k ≡ 2 = omega (arith, high, after) in
        λ ends. absurd (omega (arith, ends, ap (λ n. get_or lines n 0) is))
  ];
  occurs = (0, word, omega arith, refl, occurs);
}

-- the eight bytes of `12345678`
digits : eight (codes "12345678") 0 ≡ 0x3837363534333231
digits = refl
