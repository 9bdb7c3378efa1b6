use Rattle.std.proofs.Common.{rules, of_calls, ◌≡◌, ◌<◌, ◌≤◌, ◌*◌, ◌/◌, ◌∙◌, [], ap, sym, subst, List, ℕ, Some, Ordering, Less, Equal, Greater, length, get_or, inl, inr, arith, tests}
use Rattle.std.proofs.lemmas.Bool.{cases_lt}
use Rattle.std.proofs.lemmas.Fn.{always_returns_same}
use Rattle.std.specs.Cmp.{ranks}
use Rattle.std.specs.Simd.{first_chunks}
use Rattle.std.specs.Ordering.{MatchOrdering, nat_cmp, ordering_index}
use Rattle.cs_index.specs.Encoding.{ListEntry}
use Rattle.cs_index.specs.Opening.{entry_at, trigram_at}
use Rattle.cs_index.proofs.decoding.EntryTables.{entry_found, entry_none, rise_to}
use Rattle.cs_index.proofs.stored.StoredEntries.{chunk_entry}
use Rattle.cs_index.proofs.reading.entries.entry_with.Goals as goal

-- what the order of two numbers says
ranked : (a b : ℕ) (o : Ordering) → nat_cmp a b ≡ o → MatchOrdering o (a < b) (a ≡ b) (b < a)
ranked a b o is = subst (λ o. MatchOrdering o (a < b) (a ≡ b) (b < a)) is (ranks a b)

higher : (a b g : ℕ) → a ≤ b → ordering_index (nat_cmp a g) ≤ ordering_index (nat_cmp b g)
higher a b g low = grind (arith, tests)

pub returns-in-Ok : goal.returns-in-Ok
returns-in-Ok c =
    let bytes : List ℕ = c.args.list_index.now in
    let position : ℕ = c.in-Ok.position in
    let found = c.in-Ok.ensures.position (λ entry. trigram_at entry 0) (always_returns_same _ _ _ (λ a r f k. search (rules, of_calls))) in
    let chunks : c.as_chunks.result.0.now ≡ first_chunks 11 (length bytes / 11) bytes = search rules in
    let count : length c.as_chunks.result.0.now ≡ length bytes / 11 = search rules in
    let within : position < length bytes / 11 = omega (arith, c.in-Ok.ensures.bound, count) in
    let is = ap (λ (es : List (List ℕ)). entry_at (get_or es position []) 0) chunks
    ∙ chunk_entry bytes (length bytes / 11) position [] within in
    ap Some (c.entry_in.ensures ∙ is)
    ∙ sym (entry_found bytes c.args.trigram position c.requires within
    (sym (ap (λ (e : ListEntry). e.trigram) is) ∙ ranked _ c.args.trigram Equal (found [])))

pub returns-in-Err : goal.returns-in-Err
returns-in-Err c =
    let bytes : List ℕ = c.args.list_index.now in
    let n : ℕ = length bytes / 11 in
    let chunks : List (List ℕ) = c.as_chunks.result.0.now in
    let number : ℕ → ℕ = λ k. trigram_at (get_or chunks k []) 0 in
    let are : chunks ≡ first_chunks 11 n bytes = search rules in
    let count : length chunks ≡ n = search rules in
    let trigram : (k : ℕ) (d : List ℕ) → k < n → trigram_at (get_or chunks k d) 0 ≡ trigram_at bytes (11 * k) =
    λ k d h. ap (λ (es : List (List ℕ)). trigram_at (get_or es k d) 0) are
    ∙ ap (λ (e : ListEntry). e.trigram) (chunk_entry bytes n k d h) in
    let rises : (i j : ℕ) (d : List ℕ) → i ≤ j → j < n → trigram_at (get_or chunks i d) 0 ≤ trigram_at (get_or chunks j d) 0 =
    λ i j d low high. elim (cases_lt i j) [
      | inl less ↦ let up = rise_to bytes c.requires i j less high in
          omega (arith, up, trigram i d (omega (arith, low, high)), trigram j d high)
      | inr same ↦ let is = ap (λ k. trigram_at (get_or chunks k d) 0) (let z : i ≡ j = omega (arith, low, same) in z) in omega (arith, is)
    ] in
    let none = c.in-Err.ensures.position (λ entry. trigram_at entry 0) (always_returns_same _ _ _ (λ a r f k. search (rules, of_calls)))
    (λ i j d low high. higher _ _ _ (rises i j d low (omega (arith, high, count)))) in
    sym (entry_none bytes c.args.trigram (λ k h e.
    let is = trigram k [] h in
    elim (cases_lt k c.in-Err.field-0) [
      | inl before ↦ let less = ranked (number k) c.args.trigram Less (none.0 k [] (omega arith) before) in omega (arith, is, e, less)
      | inr after ↦ let more = ranked (number k) c.args.trigram Greater (none.1 k [] (omega (arith, after)) (omega (arith, h, count))) in omega (arith, is, e, more)
    ]))
