-- The names of an index are those of its files.
use Rattle.std.proofs.Common.{◌≡◌, ◌∙◌, ℕ, zero, suc, Bool, true, false, List, [], ◌∷◌, map, refl, sym, ap, subst, arith, Some, cond}
use Rattle.std.specs.Prelude.{Contains, IsSome}
use Rattle.std.specs.FinMap as map'
use Rattle.std.specs.FinMap.Entries.{find}
use Rattle.std.specs.Ordering.{eq_by_cmp}
use Rattle.std.specs.Cmp.Lexicographic.{nat_list_cmp_total}
use Rattle.cs_tree.specs.NameOrder.{bytes_cmp}
use Rattle.cs_tree.proofs.PathSetLemmas.{tied_is, tied_same}
use Rattle.cs_index.specs.OpenedParts.{Parts, files_in, files_read, lists_in}
use Rattle.cs_index.proofs.writer.BuilderAdd.{names_entries}

module _ {X : Type 0} where
  abbrev names : List (List ℕ × X) → List (List ℕ)
  names list = map (λ (one : List ℕ × X). one.0) list

  name_found : (list : List (List ℕ × X)) (name : List ℕ) → Contains (names list) name → IsSome (find bytes_cmp name list)
  name_found [] name (k, low, is) = absurd (omega (arith, low))
  name_found (one ∷ list) name (zero, low, is) =
      subst (λ b. IsSome (cond b (Some one.1) (find bytes_cmp name list))) (sym (ap (eq_by_cmp bytes_cmp name) is ∙ tied_same name)) refl
  name_found (one ∷ list) name (suc k, low, is) =
      elim (eq_by_cmp bytes_cmp name one.0) as (λ b. IsSome (cond b (Some one.1) (find bytes_cmp name list)))
      [ true ↦ refl | false ↦ name_found list name (k, omega (arith, low), is) ]

  found_name : (list : List (List ℕ × X)) (name : List ℕ) → IsSome (find bytes_cmp name list) → Contains (names list) name
  found_name [] name some = cc
  found_name (one ∷ list) name some = by_test (eq_by_cmp bytes_cmp name one.0) refl some (found_name list name)
    where
      by_test : (b : Bool) → eq_by_cmp bytes_cmp name one.0 ≡ b → IsSome (cond b (Some one.1) (find bytes_cmp name list)) →
          (IsSome (find bytes_cmp name list) → Contains (names list) name) → Contains (names (one ∷ list)) name
      by_test true e there later = (0, omega arith, sym (tied_is name one.0 e))
      by_test false e there later = let at = later there in (suc at.0, omega (arith, at.1), at.2)

pub file_of_name : (parts : Parts) (name : List ℕ) → Contains parts.names name → IsSome (map'.get (files_in parts) name)
file_of_name parts name is =
    subst IsSome (sym (map'.get-from_entries nat_list_cmp_total (files_read parts) name))
    (name_found (files_read parts) name (subst (λ all. Contains all name) (sym (names_entries 0 parts.names (lists_in parts))) is))

pub name_of_file : (parts : Parts) (name : List ℕ) → IsSome (map'.get (files_in parts) name) → Contains parts.names name
name_of_file parts name some =
    subst (λ all. Contains all name) (names_entries 0 parts.names (lists_in parts))
    (found_name (files_read parts) name (subst IsSome (map'.get-from_entries nat_list_cmp_total (files_read parts) name) some))
