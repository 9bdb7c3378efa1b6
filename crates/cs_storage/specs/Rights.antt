-- The rights to an index file that replaces another one.
-- docs/DECISIONS.md, "The index file".
use Rattle.std.specs.Prelude.{◌≡◌, ℕ, ◌/◌, ◌%◌, bit_and}

-- A mode has three bits (to read, to write, to execute) for the owner, for the group and for all others. If the file has an
-- access list, those of the group are its mask.
abbrev pub owner_rights : ℕ → ℕ
owner_rights mode = mode / 64 % 8

abbrev pub group_rights : ℕ → ℕ
group_rights mode = mode / 8 % 8

abbrev pub other_rights : ℕ → ℕ
other_rights mode = mode % 8

-- the rights that everybody has: the owner, the group and all others
abbrev pub common_rights : ℕ → ℕ
common_rights mode = bit_and (bit_and (owner_rights mode) (group_rights mode)) (other_rights mode)

-- how the system sees somebody who asks for a file
pub data Role : Type 0 where
  as_owner : Role
  as_group : Role
  as_other : Role

abbrev pub rights_of : Role → ℕ → ℕ
rights_of as_owner mode = owner_rights mode
rights_of as_group mode = group_rights mode
rights_of as_other mode = other_rights mode

-- each of these rights is one of those
abbrev pub AreRightsOf : ℕ → ℕ → Type 0
AreRightsOf few many = bit_and few many ≡ few

-- the mode of a file that replaces one with this mode
pub record IsKeptMode (mode kept : ℕ) : Type 0 where
  pub owner : owner_rights kept ≡ owner_rights mode
  pub group : group_rights kept ≡ common_rights mode
  pub others : other_rights kept ≡ common_rights mode

-- Nobody is let in by a new file: whatever they were to the old one, they had all rights that they have to the new one. Only
-- the process that replaces the file may become its owner.
abbrev pub NobodyIsLetIn : Type 0
NobodyIsLetIn = (mode kept : ℕ) → IsKeptMode mode kept → (before after : Role) → (after ≡ as_owner → before ≡ as_owner)
    → AreRightsOf (rights_of after kept) (rights_of before mode)
