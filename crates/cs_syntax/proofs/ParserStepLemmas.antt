-- A step of the parser keeps the parse of the whole text.
use Rattle.std.proofs.Common.{◌≡◌, ℕ, zero, suc, ◌+◌, ◌-◌, ◌<◌, List, [], ◌∷◌, Bool, true, false, map, length, take, drop, get_or, refl, sym, ◌∙◌, ap, subst, arith, inl, inr}
use Rattle.std.specs.Prelude.{Option, Result, Ok, Err, nat_eq}
use Rattle.std.proofs.lemmas.List.{length-map}
use Rattle.cs_syntax.specs.Matching.{Tree, Trees, rep, none, more}
use Rattle.cs_syntax.specs.PartialGroups.{with_last, PartialGroup, whole_parse, with_last_repeated, tree_so_far}
use Rattle.cs_syntax.specs.ItemViews.{item_view, token_view, IsTokenOf}
use Rattle.cs_syntax.specs.declared.items.Item as items
use Rattle.cs_syntax.specs.declared.items.ItemError.{ItemError}
use Rattle.cs_syntax.specs.Tokens.{Token, PatternItem, atom, repeat, bar, group_start, group_end, flags_from_here, item, fault}
use Rattle.cs_syntax.specs.Items.{next_token}
use Rattle.cs_syntax.specs.Parsing.{rejected, Group, SuffixParse, max_open_groups, parse_suffix, inside, with_repeat}
use Rattle.cs_syntax.specs.ParserState.{PendingGroup, ParserState, Step, group_of, parse_from_state, goes_on, stops, step_repeat, step_open, step_close, step, IsOperand, HasOperand, IsErrorAt, IsErrorOf}
use Rattle.cs_syntax.specs.declared.items.Before.{Before}
use Rattle.cs_syntax.specs.declared.items.Before.TheVariants.{Start, Operand, Repeated}
use Rattle.cs_syntax.specs.declared.items.Flags.{Flags}
use Rattle.cs_syntax.specs.declared.fault.PatternFault.{PatternFault}
use Rattle.cs_syntax.specs.declared.fault.PatternError.{PatternError}
use Rattle.cs_syntax.proofs.ListLemmas.{tail_is, lexeme_is}
use Rattle.cs_syntax.proofs.PartialGroupLemmas.{whole_parse_atom, whole_parse_repeat, whole_parse_bar, whole_parse_open, whole_parse_close}

-- the bytes of an item are skipped
suffix_skip : (skip offset : ℕ) (before : Before) (groups : List Group) (flags : Flags) (text : List ℕ) →
    parse_suffix skip offset before groups flags text ≡ parse_suffix 0 (offset + skip) before groups flags
    (drop skip text)
suffix_skip zero offset before groups flags text = let e : offset ≡ offset + zero = omega arith in
    ap (λ n. parse_suffix 0 n before groups flags text) e
suffix_skip (suc skip) offset before groups flags [] = refl
suffix_skip (suc skip) offset before groups flags (b ∷ text) =
    let e : (offset + 1) + skip ≡ offset + suc skip = omega arith in
    suffix_skip skip (offset + 1) before groups flags text ∙ ap (λ n. parse_suffix 0 n before groups flags (drop skip text)) e

pub parse_from_state-skip : (s : ParserState) (skip offset : ℕ) (text : List ℕ) → parse_from_state s skip offset text
    ≡ parse_from_state s 0 (offset + skip) (drop skip text)
unfolding parse_from_state
parse_from_state-skip s skip offset text = ap (λ r. whole_parse (map (λ w. w.so_far) s.enclosing) s.so_far r)
    (suffix_skip skip offset s.before (map group_of s.enclosing) s.flags text)

-- a list of trees that is not empty has a last tree, which is wrapped in the repeat
last_of : (n : ℕ) (m : Option ℕ) (u : Tree) (us : Trees) → (ts : Trees) × (t : Tree) × (more u us ≡ with_last ts t) ×
    (with_last_repeated n m (more u us) ≡ with_last ts (rep t n m))
last_of n m u none = (none, u, refl, refl)
last_of n m u (more v vs) = let r = last_of n m v vs in (more u r.0, r.1, ap (more u) r.2, ap (more u) r.3)

repeat_on : (hs : List PartialGroup) (bs us : Trees) (n : ℕ) (m : Option ℕ) (r : SuffixParse) → IsOperand Operand us →
    whole_parse hs (record { branches = bs; atoms = us }) (inside (with_repeat n m) r)
    ≡ whole_parse hs (record { branches = bs; atoms = with_last_repeated n m us }) r
repeat_on hs bs none n m r some = absurd some
repeat_on hs bs (more u us) n m r some =
    let l = last_of n m u us in
    let before : PartialGroup = record { branches = bs; atoms = l.0 } in
    let f = λ (x : Trees). (let h : PartialGroup = record { branches = bs; atoms = x } in h) in
    ap (λ (x : Trees). whole_parse hs (f x) (inside (with_repeat n m) r)) l.2
    ∙ whole_parse_repeat hs before l.1 n m r
    ∙ sym (ap (λ (x : Trees). whole_parse hs (f x) r) l.3)

on : List PendingGroup → PartialGroup → Before → Flags → ParserState
on ws h before flags = record { enclosing = ws; so_far = h; before = before; flags = flags }

last_is_some : (us : Trees) (t : Tree) → IsOperand Operand (with_last us t)
last_is_some none t = tt
last_is_some (more u us) t = tt

module _ (len offset b : ℕ) (text : List ℕ) where
  -- A step keeps the parse, and in the new state an operand is an atom; or it fails with the syntax error of the parse.
  abbrev pub StepKeeps : ParserState → Step → Type 0
  StepKeeps s (goes_on new) = (parse_from_state new len (offset + 1) text ≡ parse_from_state s 0 offset (b ∷ text)) × HasOperand new
  StepKeeps s (stops k) = parse_from_state s 0 offset (b ∷ text) ≡ rejected k offset

  on_repeat : (ws : List PendingGroup) (h : PartialGroup) (before : Before) (flags : Flags) (n : ℕ) (m : Option ℕ) →
      IsOperand before h.atoms → next_token flags b text ≡ item (repeat n m) len →
      StepKeeps (on ws h before flags) (step_repeat before n m (on ws h before flags))
  unfolding parse_from_state on
  on_repeat ws h Start flags n m some f = rw (parse_suffix, f) refl
  on_repeat ws h Repeated flags n m some f = rw (parse_suffix, f) refl
  on_repeat ws h Operand flags n m some f = (
    rw (parse_suffix, f) (sym (repeat_on (map (λ w. w.so_far) ws) h.branches h.atoms n m
        (parse_suffix len (offset + 1) Repeated (map group_of ws) flags text) some)),
    tt,
  )

  on_open : (ws : List PendingGroup) (h : PartialGroup) (before : Before) (flags inner : Flags) (full : Bool) →
      nat_eq (length ws) max_open_groups ≡ full → next_token flags b text ≡ item (group_start inner) len →
      StepKeeps (on ws h before flags) (step_open full inner offset (on ws h before flags))
  unfolding parse_from_state on
  on_open ws h before flags inner true deep f =
      let room : nat_eq (length (map group_of ws)) max_open_groups ≡ true = simp length-map deep in
      rw (parse_suffix, f, room) refl
  on_open ws h before flags inner false deep f =
      let room : nat_eq (length (map group_of ws)) max_open_groups ≡ false = simp length-map deep in
      let w : PendingGroup = record { offset = offset; flags = flags; so_far = h } in (
        rw (parse_suffix, f, room) (sym (whole_parse_open (map (λ x. x.so_far) ws) h
            (parse_suffix len (offset + 1) Start (group_of w ∷ map group_of ws) inner text))),
        tt,
      )

  on_close : (ws : List PendingGroup) (h : PartialGroup) (before : Before) (flags : Flags) → next_token flags b text
      ≡ item group_end len → StepKeeps (on ws h before flags) (step_close ws (on ws h before flags))
  unfolding parse_from_state on
  on_close [] h before flags f = rw (parse_suffix, f) refl
  on_close (w ∷ ws) h before flags f = (
    rw (parse_suffix, f) (sym (whole_parse_close (map (λ x. x.so_far) ws) w.so_far h
        (parse_suffix len (offset + 1) Operand (map group_of ws) w.flags text))),
    last_is_some w.so_far.atoms (tree_so_far h),
  )

  on_item : (x : PatternItem) (ws : List PendingGroup) (h : PartialGroup) (before : Before) (flags : Flags) →
      IsOperand before h.atoms → next_token flags b text ≡ item x len →
      StepKeeps (on ws h before flags) (step x offset (on ws h before flags))
  unfolding parse_from_state on
  on_item (atom t) ws h before flags some f = (
    rw (parse_suffix, f) (sym (whole_parse_atom (map (λ x. x.so_far) ws) h t
        (parse_suffix len (offset + 1) Operand (map group_of ws) flags text))),
    last_is_some h.atoms t,
  )
  on_item (repeat n m) ws h before flags some f = on_repeat ws h before flags n m some f
  on_item bar ws h before flags some f = (
    rw (parse_suffix, f) (sym (whole_parse_bar (map (λ x. x.so_far) ws) h
        (parse_suffix len (offset + 1) Start (map group_of ws) flags text))),
    tt,
  )
  on_item (group_start inner) ws h before flags some f = on_open ws h before flags inner (nat_eq (length ws) max_open_groups) refl f
  on_item group_end ws h before flags some f = on_close ws h before flags f
  on_item (flags_from_here inner) ws h before flags some f = (rw (parse_suffix, f) refl, tt)

  keeps : (x : PatternItem) (s : ParserState) → HasOperand s → next_token s.flags b text ≡ item x len → StepKeeps s (step x offset s)
  unfolding on
  keeps x s some f = on_item x s.enclosing s.so_far s.before s.flags some f

-- the step of the item that is read at the offset
pub step_keeps : (text : List ℕ) (offset len : ℕ) (s : ParserState) (x : items.Item) → offset < length text → HasOperand s →
    next_token s.flags (get_or text offset 0) (take (length text - (offset + 1)) (drop (offset + 1) text))
    ≡ item (item_view (take (suc len) (get_or text offset 0 ∷ take (length text - (offset + 1)) (drop (offset + 1) text))) x) len →
    StepKeeps len offset (get_or text offset 0) (drop (offset + 1) text) s
    (step (item_view (take (offset + 1 + len - offset) (drop offset text)) x) offset s)
step_keeps text offset len s x inside some found =
    let b = get_or text offset 0 in
    let tail = tail_is text (offset + 1) in
    keeps len offset b (drop (offset + 1) text) (item_view (take (offset + 1 + len - offset) (drop offset text)) x) s some
    (ap (next_token s.flags b) (sym tail) ∙ found
    ∙ ap (λ t. item (item_view (take (suc len) (b ∷ t)) x) len) tail
    ∙ ap (λ o. item (item_view o x) len) (sym (lexeme_is text offset len inside)))

-- an error in an item is the syntax error of the parse
pub fault-reads : (offset b distance : ℕ) (text : List ℕ) (s : ParserState) (k : PatternFault) →
    next_token s.flags b text ≡ fault k distance → parse_from_state s 0 offset (b ∷ text)
    ≡ rejected k (offset + distance)
unfolding parse_from_state
fault-reads offset b distance text s k f = rw (parse_suffix, f) refl

-- the error of a failed step is an error of the parse
pub stop_is_error : (s : ParserState) (step : Step) (offset b len : ℕ) (text : List ℕ) (e : PatternError) →
    StepKeeps len offset b text s step → IsErrorAt step offset e → IsErrorOf (parse_from_state s 0 offset (b ∷ text)) e
stop_is_error s step offset b len text e keeps (inl m) = inl m
stop_is_error s step offset b len text e keeps (inr k) = inr (subst (StepKeeps len offset b text s) k.0 keeps ∙ ap (rejected e.fault) (sym k.1))

-- a token that is read without allocating
pub token_is : (text : List ℕ) (r : Result (items.Item × ℕ) ItemError) (f : Token PatternItem) → token_view text r ≡ f → IsTokenOf text r f
token_is text (Ok x) f is = sym is
token_is text (Err m) f is = inr (sym is)
