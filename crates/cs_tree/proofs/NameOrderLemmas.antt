-- The order of names.
use Rattle.std.proofs.Common.{◌≡◌, ℕ, true, List, refl, sym, ap}
use Rattle.std.proofs.lemmas.Bool.{true≢false}
use Rattle.std.specs.Cmp.Lexicographic.{nat_list_cmp_total}
use Rattle.std.specs.Ordering.{is_lt}
use Rattle.std.specs.declared.cmp.Ordering.{Ordering}
use Rattle.std.specs.declared.cmp.Ordering.TheVariants.{Less, Equal, Greater}
use Rattle.cs_tree.specs.NameOrder.{bytes_cmp}

pub less_from : (o : Ordering) → is_lt o ≡ true → o ≡ Less
less_from Less h = refl
less_from Equal h = absurd (true≢false (sym h))
less_from Greater h = absurd (true≢false (sym h))

pub before_trans : (a b c : List ℕ) → is_lt (bytes_cmp a b) ≡ true → is_lt (bytes_cmp b c) ≡ true → is_lt (bytes_cmp a c) ≡ true
before_trans a b c h g = ap is_lt (nat_list_cmp_total.trans a b c (less_from _ h) (less_from _ g))
