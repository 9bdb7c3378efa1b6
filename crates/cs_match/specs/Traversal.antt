-- What a traversal of a tree does from a cursor on: the positions and repeats of the tree are those from the cursor on.
use Rattle.std.specs.Prelude.{ℕ, ◌≡◌, ◌≤◌, ◌+◌, Bool, List, ◌++◌, length, take, drop}
use Rattle.std.proofs.Math.Seq.{sets}
use Rattle.cs_syntax.specs.Matching.{Tree}
use Rattle.cs_match.specs.declared.glushkov.Configuration.{Configuration}
use Rattle.cs_match.specs.declared.glushkov.Cursor.{Cursor}
use Rattle.cs_match.specs.declared.glushkov.Ends.{Ends}
use Rattle.cs_match.specs.declared.state.LookAround.{LookAround}
use Rattle.cs_match.specs.Entered.{AreShifted, entered}
use Rattle.cs_match.specs.Glushkov.{position_count, repeats, nullable, is_final, accepts, loop_ends}

-- the position after those of the tree
abbrev pub position_past : Tree → Cursor → ℕ
position_past t cursor = cursor.position + position_count t

-- the repeat after those of the tree
abbrev pub repeat_past : Tree → Cursor → ℕ
repeat_past t cursor = cursor.repeat + repeats t

-- how the tree can end here, and the cursor past it
abbrev pub EndsFrom : Tree → Cursor → List Bool → LookAround → Ends → Cursor → Type 0
EndsFrom t cursor ms here ends next =
    (ends.accepting ≡ is_final t (drop cursor.position ms) here) × (ends.nullable ≡ nullable t here)
    × (next.position ≡ position_past t cursor) × (next.repeat ≡ repeat_past t cursor)

-- the flags of repeats after the traversal: those of the tree's repeats are replaced
abbrev pub loops_after : Tree → Cursor → List Bool → LookAround → List Bool → List Bool
loops_after t cursor ms here loops = sets loops cursor.repeat (loop_ends t (drop cursor.position ms) here)

-- the tree's positions are in the set, and the entries from there on are as before the traversal
abbrev pub HasRoomAt : Tree → Cursor → Configuration → List Bool → Type 0
HasRoomAt t cursor at es = (position_past t cursor ≤ length at.positions.now) × AreShifted cursor.position at.positions.now es

-- whether the tree accepts, which can begin here if `enter` is set, the entries with those of its positions, and the cursor
abbrev pub Enters : Tree → Bool → Cursor → Configuration → List Bool → Bool → List Bool → Cursor → Type 0
Enters t enter cursor at es accepting entries next =
    (accepting ≡ accepts t enter (drop cursor.position at.positions.now) at.here)
    × (entries ≡ take cursor.position es ++ (entered t enter (drop cursor.position at.positions.now) at.here ++ drop (position_past t cursor) es))
    × (next.position ≡ position_past t cursor) × (next.repeat ≡ repeat_past t cursor)

-- the flags of the tree's repeats are stored
abbrev pub IsNoted : Tree → Cursor → Configuration → Type 0
IsNoted t cursor at =
    take (repeats t) (drop cursor.repeat at.loops.now) ≡ loop_ends t (drop cursor.position at.positions.now) at.here
