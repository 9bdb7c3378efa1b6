-- What reading a whole file returns.
use Rattle.std.specs.Prelude.{ℕ, ◌≡◌, ◌≤◌, ◌<◌, length, Option, Some, None, IfSome, Result, IfErr, Vec}
use Rattle.cs_tree.specs.StreamModels.{SourceModel, ends, fails}
use Rattle.cs_tree.specs.declared.fault.IoFault.{IoFault}
use Rattle.cs_tree.specs.declared.fault.IoFault.TheVariants.{Failed}

-- the length of the longest file that is read whole; a longer one counts as empty
abbrev pub longest_rule_file : ℕ
longest_rule_file = 1048576

-- the most bytes that all rule files along a path take
abbrev pub most_rule_bytes : ℕ
most_rule_bytes = 1048576

-- all bytes of a source that ends, or none if they are more than the limit
abbrev pub ReadsUpTo : {A : Type 0} → ℕ → Option SourceModel → Option (Vec ℕ A) → Type 0
ReadsUpTo limit model None = IfSome model (λ source. limit < length source.bytes)
ReadsUpTo limit model (Some read) =
    IfSome model (λ source. (source.ending ≡ ends) × (read.items ≡ source.bytes) × (length source.bytes ≤ limit))

-- A read fails only after the bytes of a source that fails, if they are within the limit.
abbrev pub FailsWithin : {A : Type 0} → ℕ → Option SourceModel → Result A IoFault → Type 0
FailsWithin limit model result = IfErr result (λ fault. fault ≡ Failed →
    IfSome model (λ source. (source.ending ≡ fails) × (length source.bytes ≤ limit)))
