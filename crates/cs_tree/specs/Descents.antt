-- A descent in a sorted list of paths: they are compared with a path one byte after the other.
use Rattle.std.specs.Prelude.{ℕ, Bool, true, ◌==◌, nat_lt, List, [], ◌∷◌, map, drop, if◌then◌else◌}

-- what each path has from an offset on
abbrev pub tails : {X : Type 0} → (X → List ℕ) → ℕ → List X → List (List ℕ)
tails text at paths = map (λ path. drop at (text path)) paths

-- whether a text is empty or begins with a byte below the bound
abbrev pub begins_below : ℕ → List ℕ → Bool
begins_below bound [] = true
begins_below bound (b ∷ text) = nat_lt b bound

-- what follows the byte in each text that begins with it
abbrev pub after_byte : ℕ → List (List ℕ) → List (List ℕ)
after_byte byte [] = []
after_byte byte ([] ∷ texts) = after_byte byte texts
after_byte byte ((b ∷ text) ∷ texts) = if b == byte then text ∷ after_byte byte texts else after_byte byte texts
