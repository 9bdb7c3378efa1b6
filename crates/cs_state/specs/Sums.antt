-- The sums of a state file: eight bytes for each piece of it, made with the key of a user and the moment of the state.
-- A piece is hashed with two secret multipliers, and its hash sealed by SipHash-1-3, which is keyed too.
-- docs/FORMAT.md, "The state of a project".
use Rattle.std.specs.Prelude.{◌≡◌, ℕ, zero, suc, ◌+◌, ◌*◌, ◌/◌, ◌%◌, ◌^◌, Bool, false, cond, List, [], ◌∷◌, ◌++◌, length, fold, map, take, drop, bit_or}
use Rattle.std.specs.Hash.{le_bytes}
use Rattle.std.specs.Hash.DefaultHasher as sip
use Rattle.std.specs.Int.{div_ceil, from_le_bytes, rotate_left, to_be_bytes, w64}
use Rattle.std.specs.Simd.{first_chunks}
use Rattle.cs_tree.specs.Store.{part_of}
use Rattle.cs_state.specs.declared.state_key.StateKey.{StateKey}
use Rattle.cs_state.specs.declared.state_key.StateSeal.{StateSeal}

-- ---- keys

-- The key of a secret: its first two words, each with the lowest bit set, and SipHash after the other bytes.
unfoldable pub key_of : List ℕ → StateKey
key_of secret = record {
  first = bit_or (from_le_bytes w64 (take 8 secret)) 1;
  second = bit_or (from_le_bytes w64 (take 8 (drop 8 secret))) 1;
  hasher = sip.write sip.initial (drop 8 (drop 8 secret));
}

abbrev pub seal_of : StateKey → ℕ → StateSeal
seal_of key moment = record { key = key; moment = moment }

-- ---- the sum of a piece

-- each eight bytes as a little-endian number; the last are padded with zeros
abbrev pub words_of : List ℕ → List ℕ
words_of bytes = map (from_le_bytes w64) (first_chunks 8 (div_ceil (length bytes) 8) bytes)

-- a word is added, and the sum multiplied, rotated and multiplied, modulo 2^64
abbrev pub with_word : StateKey → ℕ → ℕ → ℕ
with_word key hash word = (rotate_left w64 (((hash + word) % 2 ^ 64 * key.first) % 2 ^ 64) 32 * key.second) % 2 ^ 64

unfoldable pub hash_of : StateKey → List ℕ → ℕ
hash_of key piece = fold (with_word key) key.first (words_of piece)

-- the sum of a piece, by its number: SipHash of five numbers
unfoldable pub sum_of : StateSeal → ℕ → Bool → List ℕ → List ℕ
sum_of seal number is_last piece = to_be_bytes w64 (sip.finish (fold (λ hasher n. sip.write hasher (le_bytes 8 n)) seal.key.hasher
    (seal.moment ∷ number ∷ cond is_last 1 0 ∷ length piece ∷ hash_of seal.key piece ∷ [])))

-- ---- the sums of a state

-- the length of each piece except the last two
abbrev pub piece_len : ℕ
piece_len = 65536

-- the number of pieces of as many bytes
abbrev pub piece_count : ℕ → ℕ
piece_count len = (len + 65535) / piece_len

unfoldable pub piece_of : List ℕ → ℕ → List ℕ
piece_of bytes number = part_of bytes (piece_len * number) piece_len

-- the sums of the first pieces, one after another; none of them is the last piece of the state
abbrev pub sums_within : StateSeal → List ℕ → ℕ → List ℕ
sums_within seal bytes zero = []
sums_within seal bytes (suc count) = sums_within seal bytes count ++ sum_of seal count false (piece_of bytes count)

-- the sums of all pieces
unfoldable pub sums_of : StateSeal → List ℕ → List ℕ
sums_of seal bytes = sums_within seal bytes (piece_count (length bytes))

-- ---- the sums that are read

-- the piece with a number of the first `len` bytes, and its sum, which stands behind these
abbrev pub piece_at : List ℕ → ℕ → ℕ → List ℕ
piece_at bytes len number = piece_of (take len bytes) number

unfoldable pub sum_at : List ℕ → ℕ → ℕ → List ℕ
sum_at bytes len number = part_of bytes (len + 8 * number) 8

abbrev pub HasSum : StateSeal → List ℕ → ℕ → ℕ → Type 0
HasSum seal bytes len number = sum_at bytes len number ≡ sum_of seal number false (piece_at bytes len number)

-- this is the piece with that number, and has its sum
abbrev pub IsTested : StateSeal → List ℕ → ℕ → ℕ → List ℕ → Type 0
IsTested seal bytes len number piece = (piece ≡ piece_at bytes len number) × HasSum seal bytes len number
