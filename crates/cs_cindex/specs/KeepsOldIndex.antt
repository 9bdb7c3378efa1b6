-- What a job leaves of the store of its old index. docs/PROMISES.md, "Jobs of cindex".
use Rattle.std.specs.Prelude.{◌≡◌, ℕ, List, Option, option_map, Result}
use Rattle.cs_tree.specs.declared.fault.IoFault.{IoFault}
use Rattle.cs_cindex.specs.OldIndex.{IsUnreadable, has_failed}

-- The store, if there is one, keeps its bytes and its length, and counts a failed read.
abbrev pub KeepsOldIndex : {S A : Type 0} → (S → Option (List ℕ)) → (S → ℕ) → (S → ℕ) → Option S → Option S → Result A IoFault → Type 0
KeepsOldIndex model size failed old new result =
    (option_map model new ≡ option_map model old)
    × (option_map size new ≡ option_map size old)
    × IsUnreadable failed old new (has_failed result)
