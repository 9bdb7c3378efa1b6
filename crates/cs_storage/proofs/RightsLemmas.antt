-- Rights that everybody has are among the rights of each.
use Rattle.std.proofs.Common.{ℕ, refl, sym, ap, subst, ◌∙◌}
use Rattle.std.specs.Prelude.{bit_and}
use Rattle.std.specs.Int.Bits.{and_self}
use Rattle.std.proofs.lemmas.Nat.{and_comm, and_assoc}
use Rattle.cs_storage.specs.Rights.{Role, as_owner, as_group, as_other, rights_of, owner_rights, group_rights, other_rights, common_rights, AreRightsOf, NobodyIsLetIn}

last_among : (a b : ℕ) → AreRightsOf (bit_and a b) b
last_among a b = and_assoc b a b ∙ ap (bit_and a) (and_self b)

first_among : (a b : ℕ) → AreRightsOf (bit_and a b) a
first_among a b = ap (λ x. bit_and x a) (and_comm a b) ∙ last_among b a ∙ and_comm b a

among : (a b c : ℕ) → AreRightsOf a b → AreRightsOf b c → AreRightsOf a c
among a b c first second = ap (λ x. bit_and x c) (sym first) ∙ and_assoc c a b ∙ ap (bit_and a) second ∙ first

common_among : (before : Role) (mode : ℕ) → AreRightsOf (common_rights mode) (rights_of before mode)
common_among as_owner mode = among (common_rights mode) (bit_and (owner_rights mode) (group_rights mode))
    (owner_rights mode) (first_among (bit_and (owner_rights mode) (group_rights mode)) (other_rights mode))
    (first_among (owner_rights mode) (group_rights mode))
common_among as_group mode = among (common_rights mode) (bit_and (owner_rights mode) (group_rights mode))
    (group_rights mode) (first_among (bit_and (owner_rights mode) (group_rights mode)) (other_rights mode))
    (last_among (owner_rights mode) (group_rights mode))
common_among as_other mode = last_among (bit_and (owner_rights mode) (group_rights mode)) (other_rights mode)

pub nobody_is_let_in : NobodyIsLetIn
nobody_is_let_in mode kept is before as_owner stays =
    subst (λ role. AreRightsOf (owner_rights kept) (rights_of role mode)) (sym (stays refl))
    (subst (λ rights. AreRightsOf rights (owner_rights mode)) (sym is.owner) (and_self (owner_rights mode)))
nobody_is_let_in mode kept is before as_group stays = subst (λ rights. AreRightsOf rights (rights_of before mode))
    (sym is.group) (common_among before mode)
nobody_is_let_in mode kept is before as_other stays = subst (λ rights. AreRightsOf rights (rights_of before mode))
    (sym is.others) (common_among before mode)
