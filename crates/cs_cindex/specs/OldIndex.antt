-- The old index of a job, in a store.
-- docs/PROMISES.md, "Jobs of cindex".
use Rattle.std.specs.Prelude.{◌≡◌, ℕ, Bool, false, List, Option, Some, None, Result, Ok, Err, IsSomeAnd}
use Rattle.cs_tree.specs.Failures.{count_if}
use Rattle.cs_tree.specs.Transfers.{is_io_failure}
use Rattle.cs_tree.specs.declared.fault.IoFault.{IoFault}

module _ {S : Type 0} where
  -- the index in the store, if its bytes are known; without a store there is no index
  abbrev pub IsIndex : (S → Option (List ℕ)) → Option S → Option (List ℕ) → Type 0
  IsIndex model None index = index ≡ None
  IsIndex model (Some store) index = IsSomeAnd (model store) (λ bytes. index ≡ Some bytes)

  -- whether a read of the index failed, which its store counts
  abbrev pub IsUnreadable : (S → ℕ) → Option S → Option S → Bool → Type 0
  IsUnreadable failed None later unreadable = unreadable ≡ false
  IsUnreadable failed (Some store) None unreadable = ⊥
  IsUnreadable failed (Some store) (Some read) unreadable = failed read ≡ count_if unreadable (failed store)

-- the index could not be read
abbrev pub has_failed : {A : Type 0} → Result A IoFault → Bool
has_failed (Ok answer) = false
has_failed (Err fault) = is_io_failure fault
