-- The model of a source. It is None for an unmodelled type, and the relations on models then hold trivially.
-- docs/PROMISES.md, "Sources and sinks".
use Rattle.std.specs.Prelude.{ℕ, List, Bool, if◌then◌else◌}

-- what follows the last byte: the end, or a failure of every further read
pub data Ending : Type 0 where
  ends : Ending
  fails : Ending

-- the bytes still to be read, and what follows them
pub record SourceModel : Type 0 where
  pub bytes : List ℕ
  pub ending : Ending

-- these bytes, and then the end, or a failure if they are cut
abbrev pub source_model : List ℕ → Bool → SourceModel
source_model bytes cut = record { bytes = bytes; ending = if cut then fails else ends }
