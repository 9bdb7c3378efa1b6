use Rattle.std.proofs.Common.{◌≡◌, ◌≢◌, ◌+◌, ◌*◌, ℕ, List, get_or, refl, sym, ap, ◌∙◌}
use Rattle.cs_match.specs.declared.lanes.Table.{Table}
use Rattle.cs_match.specs.ConsistentDfa.{Dfa, IsConsistent, IsKnown, IsTableOf, table_in, count_in}
use Rattle.cs_match.specs.LazyDfa.{start_number}
use Rattle.cs_match.specs.Table as table
use Rattle.cs_match.specs.Table.{next_number, number_after}
use Rattle.cs_match.proofs.KnownScanLemmas.{number_after-same}
use Rattle.cs_match.proofs.TableLemmas.{has_rows, stands_row, stands_next, stands_unknown, tells_lines}
use Rattle.cs_match.proofs.dfa.LazyDfa.table.Goals as goal

same_next : (s : Dfa) (r : Table) → r.transitions.now ≡ s.states.transitions.items → r.of.now ≡ s.states.classes.of → (number b : ℕ) →
    next_number r number b ≡ next_number (table_in s) number b
same_next s r transitions of number b =
    ap (λ xs. get_or xs (number + get_or r.of.now b 0) 0) transitions ∙ ap (λ xs. get_or s.states.transitions.items (number + get_or xs b 0) 0) of

states_of : (s : Dfa) (r : Table) → IsConsistent s.tree s.states → r.transitions.now ≡ s.states.transitions.items → r.of.now ≡ s.states.classes.of →
    r.count ≡ s.states.classes.count → IsTableOf s r
states_of s r right transitions of count = record {
  count = count;
  same = same_next s r transitions of;
  row = stands_row s.tree s.states.classes s.states.cached s.states.transitions.items right.classes right.cached right.table r transitions of count;
  next = stands_next s.tree s.states.classes s.states.cached s.states.transitions.items right.classes right.cached right.table r transitions of count;
  slot = stands_unknown s.tree s.states.classes s.states.cached s.states.transitions.items right.classes right.cached right.table r transitions of count;
}

pub returns-clause-rows : goal.returns-clause-rows
returns-clause-rows c =
    let s = c.self.inside.states in
    let right = c.self.invariant in
    has_rows c.self.inside.program.now s.classes s.cached s.transitions.items right.classes right.cached right.table _ c.deref.ensures.value refl refl

pub returns-clause-tells : goal.returns-clause-tells
returns-clause-tells c =
    let s = c.self.inside.states in
    let right = c.self.invariant in
    rw (← c.self.view_is)
    (tells_lines c.self.inside.program.now s.classes s.cached s.transitions.items right.classes right.cached right.table _ c.deref.ensures.value refl refl right.expanded)

pub returns-clause-states : goal.returns-clause-states
returns-clause-states c =
    rw (← c.self.view_is) (states_of (record { tree = c.self.inside.program.now; states = c.self.inside.states }) _ c.self.invariant c.deref.ensures.value refl refl)

known_of : (s : Dfa) (r : Table) → r.transitions.now ≡ s.states.transitions.items → r.of.now ≡ s.states.classes.of →
    r.count ≡ s.states.classes.count → (lines : List ℕ) → number_after r (table.table_start r) lines ≢ table.unknown r →
    IsKnown s (start_number (count_in s)) lines
known_of s r transitions of count lines other e = other (ap (λ k. number_after r (4 * k) lines) count
    ∙ number_after-same r (table_in s) (same_next s r transitions of) (4 * count_in s) lines ∙ e ∙ sym count)

pub returns-clause-known : goal.returns-clause-known
returns-clause-known c =
    rw (← c.self.view_is) (known_of (record { tree = c.self.inside.program.now; states = c.self.inside.states }) _ c.deref.ensures.value refl refl)
