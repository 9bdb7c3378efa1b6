-- Values of the definitions, from a program in Python.
use Rattle.std.proofs.Common.{◌≡◌, ℕ, List, false, true, refl, [], ◌∷◌, ◌++◌}
use Rattle.std.specs.Hash.{le_bytes}
use Rattle.std.specs.Hash.DefaultHasher.{finish, initial, round, write, write_byte, write_word}
use Rattle.std.specs.Prelude.{codes}
use Rattle.std.specs.declared.cmp.Ordering.TheVariants.{Less}
use Rattle.cs_tree.specs.Cover.{covers}
use Rattle.cs_tree.specs.NameOrder.{bytes_cmp}
use Rattle.cs_tree.specs.declared.tree.Stamp.{Stamp}
use Rattle.cs_state.specs.Known.{Known, binary}
use Rattle.cs_state.specs.StampedNames.{cover_of, number_text, number_within, stamped}
use Rattle.cs_state.specs.StateFile.{eight_bytes, sealed}
use Rattle.cs_state.specs.Sums.{hash_of, key_of, piece_of, seal_of, sum_of, sums_of}

-- a secret that is none
abbrev secret : List ℕ
secret =
    0 ∷ 1 ∷ 2 ∷ 3 ∷ 4 ∷ 5 ∷ 6 ∷ 7 ∷ 8 ∷ 9 ∷ 10 ∷ 11 ∷ 12 ∷ 13 ∷ 14 ∷ 15 ∷ 16 ∷ 17 ∷ 18 ∷ 19 ∷ 20 ∷ 21 ∷ 22 ∷ 23 ∷ 24 ∷ 25 ∷ 26 ∷ 27 ∷ 28
    ∷ 29 ∷ 30 ∷ 31 ∷ []

-- the first word of the secret, whose lowest bit was 0
hash_of_no_byte : hash_of (key_of secret) [] ≡ 506097522914230529
unfolding key_of hash_of
hash_of_no_byte = refl

-- a zero is not the same as no byte
hash_of_a_nul : hash_of (key_of secret) (0 ∷ []) ≡ 794943046015430818
unfolding key_of hash_of
hash_of_a_nul = refl

hash_of_a_word : hash_of (key_of secret) (codes "codesear") ≡ 9091306350168009973
unfolding key_of hash_of
hash_of_a_word = refl

-- a word and two bytes
hash_of_ten_bytes : hash_of (key_of secret) (codes "codesearch") ≡ 5593242439656021064
unfolding key_of hash_of
hash_of_ten_bytes = refl

sum_of_ten_bytes : sum_of (seal_of (key_of secret) 5) 0 false (codes "codesearch") ≡ 235 ∷ 143 ∷ 3 ∷ 175 ∷ 180 ∷ 11 ∷ 67 ∷ 228 ∷ []
unfolding key_of hash_of sum_of initial write write_byte write_word round finish le_bytes
sum_of_ten_bytes = refl

-- the last piece, without a byte
sum_of_no_byte : sum_of (seal_of (key_of secret) 5) 1 true [] ≡ 176 ∷ 255 ∷ 245 ∷ 162 ∷ 47 ∷ 210 ∷ 96 ∷ 0 ∷ []
unfolding key_of hash_of sum_of initial write write_byte write_word round finish le_bytes
sum_of_no_byte = refl

-- ---- numbers and names

number_of_zero : number_text 0 ≡ 33 ∷ []
unfolding number_text number_within
number_of_zero = refl

-- 15 · 64 + 40
number_of_a_thousand : number_text 1000 ≡ 88 ∷ 63 ∷ 33 ∷ []
unfolding number_text number_within
number_of_a_thousand = refl

-- ten digits of 63, and 15
number_of_64_bits : number_text 18446744073709551615 ≡
    111 ∷ 111 ∷ 111 ∷ 111 ∷ 111 ∷ 111 ∷ 111 ∷ 111 ∷ 111 ∷ 111 ∷ 63 ∷ 33 ∷ []
unfolding number_text number_within
number_of_64_bits = refl

abbrev stamp : Stamp
stamp = record { device = 0; inode = 2; size = 3; modified = 4; changed = 5 }

abbrev known : Known
known = record { name = codes "/a.c"; stamp = stamp; kept = binary }

-- the mark, the text of the stamp, and a `b`
name_of_a_binary : stamped known ≡ codes "/a.c" ++ 1 ∷ codes "/!2!3!4!5!b"
unfolding number_text number_within
name_of_a_binary = refl

-- the file itself is covered, and neither one whose name goes on nor one below it
cover_of_the_file : covers (cover_of (codes "/a.c")) (stamped known) ≡ true
unfolding number_text number_within
cover_of_the_file = refl

cover_of_a_shorter_name : covers (cover_of (codes "/a")) (stamped known) ≡ false
unfolding number_text number_within
cover_of_a_shorter_name = refl

-- a file of a folder stands after one whose name goes on with a lesser byte than the slash
order_of_a_folder : bytes_cmp (stamped known) (stamped (record known { name = codes "/a/b" })) ≡ Less
unfolding number_text number_within
order_of_a_folder = refl

-- ---- a state

-- an index of two bytes, which is none, and the moment 6
small_state : sealed (seal_of (key_of secret) 6) (7 ∷ 8 ∷ []) ≡
    (7 ∷ 8 ∷ 94 ∷ 131 ∷ 114 ∷ 73 ∷ 203 ∷ 127 ∷ 136 ∷ 113 ∷ 0 ∷ 0 ∷ 0 ∷ 0 ∷ 0 ∷ 0 ∷ 0 ∷ 2 ∷ 164 ∷ 24 ∷ 234 ∷ 171 ∷ 161 ∷ 189 ∷ 119 ∷ 181 ∷ 0 ∷ 0 ∷ 0 ∷ 0 ∷ 0 ∷ 0 ∷ 0 ∷ 6 ∷ []) ++ codes "codesearch state3"
unfolding key_of hash_of sum_of sums_of piece_of sealed eight_bytes initial write write_byte write_word round finish le_bytes
small_state = refl
