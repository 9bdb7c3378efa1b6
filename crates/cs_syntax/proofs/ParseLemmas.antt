-- The parse of a text beside the parse of the text with another one after it: the levels and errors of a parse, and its
-- independence from the offset.
use Rattle.std.proofs.Common.{◌≡◌, ◌≢◌, ℕ, zero, suc, ◌+◌, ◌≤◌, Bool, true, false, List, [], ◌∷◌, ◌++◌, length, refl, ap, subst, ◌∙◌, arith, Option}
use Rattle.std.specs.Prelude.{nat_eq, if◌then◌else◌, map}
use Rattle.std.proofs.lemmas.List.{length-map, append-nil}
use Rattle.cs_syntax.specs.Matching.{Tree}
use Rattle.cs_syntax.specs.Tokens.{Token, PatternItem, atom, repeat, bar, group_start, group_end, flags_from_here, item, fault}
use Rattle.cs_syntax.specs.Items.{next_token}
use Rattle.cs_syntax.specs.Parsing.{Level, SuffixParse, Group, ParseResult, tree, rejected, levels, syntax_error, empty_level, inside, with_close, with_open, with_atom, with_repeat, with_bar, whole_group, max_open_groups, parse_suffix, at_end, answer, flags_at_start, HasSyntaxError, IsTextFault}
use Rattle.cs_syntax.specs.BarredPatterns.{final_flags}
use Rattle.cs_syntax.specs.Levels.{HasLevels}
use Rattle.cs_syntax.proofs.TokenLemmas.{FitsIn, token_fits}
use Rattle.cs_syntax.specs.declared.items.Flags.{Flags}
use Rattle.cs_syntax.specs.declared.items.Before.{Before}
use Rattle.cs_syntax.specs.declared.items.Before.TheVariants.{Start, Operand, Repeated}
use Rattle.cs_syntax.specs.declared.fault.PatternFault.{PatternFault}
use Rattle.cs_syntax.specs.declared.fault.PatternFault.TheVariants.{NoOperand, StackedRepeat, StrayClose, TooDeep}

abbrev pub IsItem : {A : Type 0} → Token A → Type 0
IsItem (item x len) = Unit {0}
IsItem (fault k distance) = ⊥

-- the flags before each open group
abbrev pub outer_of : List Group → List Flags
outer_of groups = map (λ (g : Group). g.flags) groups

abbrev Continuation : Type 0
Continuation = Before → List Group → Flags → SuffixParse

-- the parse of a suffix, from its first item and the parse after it
abbrev step : ℕ → Before → List Group → Flags → PatternItem → Continuation → SuffixParse
step offset before groups flags x r =
    elim x [
      | atom t ↦ inside (with_atom t) (r Operand groups flags)
      | repeat n m ↦ elim before [
        | Start ↦ syntax_error NoOperand offset
        | Repeated ↦ syntax_error StackedRepeat offset
        | Operand ↦ inside (with_repeat n m) (r Repeated groups flags)
      ]
      | bar ↦ inside with_bar (r Start groups flags)
      | group_start inner ↦ if nat_eq (length groups) max_open_groups then syntax_error TooDeep offset else
          with_open (r Start (record { offset = offset; flags = flags } ∷ groups) inner)
      | group_end ↦ elim groups [ [] ↦ syntax_error StrayClose offset | g ∷ gs ↦ with_close (r Operand gs g.flags) ]
      | flags_from_here new ↦ r Start groups new
    ]

-- the flags at the end of an item and its suffix
abbrev Ending : Type 0
Ending = List Flags → Flags → Flags

abbrev flags_step : List Flags → Flags → PatternItem → Ending → Flags
flags_step outer flags x ending =
    elim x [
      | group_start inner ↦ ending (flags ∷ outer) inner
      | group_end ↦ elim outer [ [] ↦ flags | f ∷ fs ↦ ending fs f ]
      | flags_from_here new ↦ ending outer new
      | _ ↦ ending outer flags
    ]

-- a function of the outermost of some levels
abbrev pub first_by : (Level → Level) → Level → List Level → Level
first_by f l [] = f l
first_by f l (m ∷ ls) = l

abbrev pub rest_by : (Level → Level) → List Level → List Level
rest_by f [] = []
rest_by f (m ∷ ls) = first_by f m ls ∷ rest_by f ls

abbrev pub joined : (Level → Level) → SuffixParse → SuffixParse
joined f (levels l ls) = levels (first_by f l ls) (rest_by f ls)
joined f (syntax_error k offset) = syntax_error k offset

-- A parse with n open groups has one level more, or an error of texts. On the condition, the other parse differs by the
-- function of the outermost level.
abbrev pub Goes : (Level → Level) → Type 0 → ℕ → SuffixParse → SuffixParse → Type 0
Goes f ok n (levels l ls) s = (length ls ≡ n) × (ok → s ≡ joined f (levels l ls))
Goes f ok n (syntax_error k offset) s = IsTextFault k

-- the other text, and the function of the outermost level
pub record Follows (f : Level → Level) (rest : List ℕ) (Names : List ℕ → Type 0) (Last : Flags → Type 0) : Type 0 where
  pub atoms : (u : Tree) (l : Level) → with_atom u (f l) ≡ f (with_atom u l)
  pub repeats : (n : ℕ) (m : Option ℕ) (l : Level) → with_repeat n m (f l) ≡ f (with_repeat n m l)
  pub bars : (l : Level) → with_bar (f l) ≡ f (with_bar l)
  pub names : (b : ℕ) (text : List ℕ) → Names (b ∷ text) → Names text
  pub tokens : (flags : Flags) (b : ℕ) (text : List ℕ) → Names (b ∷ text) → IsItem (next_token flags b text) →
      next_token flags b (text ++ rest) ≡ next_token flags b text
  pub ends : (offset : ℕ) (before : Before) (flags : Flags) → Last flags → parse_suffix 0 offset before [] flags rest
      ≡ levels (f empty_level) []

module _ (f : Level → Level) (rest : List ℕ) (Names : List ℕ → Type 0) (Last : Flags → Type 0) (follows : Follows f rest Names Last) where
  inside_goes : (ok : Type 0) (n : ℕ) (g : Level → Level) (r s : SuffixParse) → ((l : Level) → g (f l) ≡ f (g l)) →
      Goes f ok n r s → Goes f ok n (inside g r) (inside g s)
  inside_goes ok n g (levels l []) s same h = (h.0, λ k. ap (inside g) (h.1 k) ∙ ap (λ m. levels m []) (same l))
  inside_goes ok n g (levels l (m ∷ ls)) s same h = (h.0, λ k. ap (inside g) (h.1 k))
  inside_goes ok n g (syntax_error k offset) s same h = h

  open_goes : (ok : Type 0) (n : ℕ) (r s : SuffixParse) → Goes f ok (suc n) r s → Goes f ok n (with_open r) (with_open s)
  open_goes ok n (levels l []) s h = absurd (omega (arith, h.0))
  open_goes ok n (levels l (outer ∷ [])) s h =
      (omega (arith, h.0), λ k. ap with_open (h.1 k) ∙ ap (λ m. levels m []) (follows.atoms (whole_group l) outer))
  open_goes ok n (levels l (outer ∷ m ∷ ls)) s h = (omega (arith, h.0), λ k. ap with_open (h.1 k))
  open_goes ok n (syntax_error k offset) s h = h

  close_goes : (ok : Type 0) (n : ℕ) (r s : SuffixParse) → Goes f ok n r s → Goes f ok (suc n) (with_close r) (with_close s)
  close_goes ok n (levels l ls) s h = (ap suc h.0, λ k. ap with_close (h.1 k))
  close_goes ok n (syntax_error k offset) s h = h

  -- another condition, and an equal parse
  goes_as : (ok new : Type 0) (n : ℕ) (r s t : SuffixParse) → (new → ok) → (new → t ≡ s) → Goes f ok n r s → Goes f new n r t
  goes_as ok new n (levels l ls) s t to same h = (h.0, λ k. same k ∙ h.1 (to k))
  goes_as ok new n (syntax_error k offset) s t to same h = h

  module _ (offset by : ℕ) (before : Before) (flags : Flags) (common : Type 0) (r s : Continuation) (ending : Ending)
      (later : (before : Before) (gs hs : List Group) (flags : Flags) → outer_of gs ≡ outer_of hs →
      Goes f (common × Last (ending (outer_of gs) flags)) (length gs) (r before gs flags) (s before hs flags)) where
    item_goes : (x : PatternItem) (gs hs : List Group) → outer_of gs ≡ outer_of hs →
        Goes f (common × Last (flags_step (outer_of gs) flags x ending)) (length gs) (step offset before gs flags x r)
        (step by before hs flags x s)
    item_goes (atom u) gs hs alike = inside_goes _ (length gs) (with_atom u) (r Operand gs flags) (s Operand hs flags)
        (follows.atoms u) (later Operand gs hs flags alike)
    item_goes (repeat n m) gs hs alike = by_before before
      where
        by_before : (before : Before) → Goes f (common × Last (ending (outer_of gs) flags)) (length gs)
            (step offset before gs flags (repeat n m) r) (step by before hs flags (repeat n m) s)
        by_before Start = tt
        by_before Repeated = tt
        by_before Operand = inside_goes _ (length gs) (with_repeat n m) (r Repeated gs flags) (s Repeated hs flags)
            (follows.repeats n m) (later Repeated gs hs flags alike)
    item_goes bar gs hs alike = inside_goes _ (length gs) with_bar (r Start gs flags) (s Start hs flags) follows.bars
        (later Start gs hs flags alike)
    item_goes (group_start inner) gs hs alike = by_full (nat_eq (length gs) max_open_groups)
        (nat_eq (length hs) max_open_groups) (ap (λ n. nat_eq n max_open_groups) long)
      where
        long : length hs ≡ length gs
        long = omega (arith, ap length alike, length-map gs (λ (g : Group). g.flags), length-map hs (λ (g : Group). g.flags))

        new : List Group
        new = record { offset = offset; flags = flags } ∷ gs

        other : List Group
        other = record { offset = by; flags = flags } ∷ hs

        by_full : (full also : Bool) → also ≡ full →
            Goes f (common × Last (ending (flags ∷ outer_of gs) inner)) (length gs)
            (if full then syntax_error TooDeep offset else with_open (r Start new inner))
            (if also then syntax_error TooDeep by else with_open (s Start other inner))
        by_full true also e = tt
        by_full false true e = absurd (cc)
        by_full false false e = open_goes _ (length gs) (r Start new inner) (s Start other inner)
            (later Start new other inner (ap (λ fs. flags ∷ fs) alike))
    item_goes group_end [] hs alike = tt
    item_goes group_end (g ∷ gs) [] alike = absurd (cc)
    item_goes group_end (g ∷ gs) (h ∷ hs) alike =
        let same : g.flags ≡ h.flags = cc in
        let outer : outer_of gs ≡ outer_of hs = cc in
        close_goes _ (length gs) (r Operand gs g.flags) (s Operand hs h.flags)
        (subst (λ fs. Goes f (common × Last (ending (outer_of gs) g.flags)) (length gs) (r Operand gs g.flags)
        (s Operand hs fs)) same (later Operand gs hs g.flags outer))
    item_goes (flags_from_here new) gs hs alike = later Start gs hs new alike

  -- the conditions on a suffix, and on the flags after it
  abbrev Common : ℕ → List ℕ → Type 0
  Common skip text = (skip ≤ length text) × Names text

  goes_at_end : (skip by : ℕ) (before : Before) (gs hs : List Group) (flags : Flags) → outer_of gs ≡ outer_of hs →
      Goes f (Common skip [] × Last flags) (length gs) (at_end gs) (parse_suffix skip by before hs flags rest)
  goes_at_end zero by before [] [] flags alike = (refl, λ k. follows.ends by before flags k.1)
  goes_at_end (suc skip) by before [] [] flags alike = (refl, λ k. absurd (let le = k.0.0 in omega (arith, le)))
  goes_at_end skip by before [] (h ∷ hs) flags alike = absurd (cc)
  goes_at_end skip by before (g ∷ gs) hs flags alike = tt

  pub goes : (skip offset by : ℕ) (before : Before) (gs hs : List Group) (flags : Flags) (text : List ℕ) → outer_of gs ≡ outer_of hs →
      Goes f (Common skip text × Last (final_flags skip (outer_of gs) flags text)) (length gs)
      (parse_suffix skip offset before gs flags text) (parse_suffix skip by before hs flags (text ++ rest))
  goes skip offset by before gs hs flags [] alike = goes_at_end skip by before gs hs flags alike
  goes (suc skip) offset by before gs hs flags (b ∷ text) alike =
      goes_as _ _ (length gs) _ _ _ (λ k. ((let le = k.0.0 in omega (arith, le), follows.names b text k.0.1), k.1))
      (λ k. refl) (goes skip (offset + 1) (by + 1) before gs hs flags text alike)
  goes zero offset by before gs hs flags (b ∷ text) alike =
      by_token (next_token flags b text) (next_token flags b (text ++ rest)) (token_fits flags b text) (follows.tokens flags b text)
      (λ len before' gs' hs' flags' alike'. goes len (offset + 1) (by + 1) before' gs' hs' flags' text alike')
    where
      by_token : (f' g : Token PatternItem) → FitsIn (length text) f' → (Names (b ∷ text) → IsItem f' → g ≡ f') →
          ((len : ℕ) (before : Before) (gs hs : List Group) (flags : Flags) → outer_of gs ≡ outer_of hs →
          Goes f (Common len text × Last (final_flags len (outer_of gs) flags text)) (length gs)
          (parse_suffix len (offset + 1) before gs flags text)
          (parse_suffix len (by + 1) before hs flags (text ++ rest))) →
          Goes f (Common zero (b ∷ text) × Last (elim f' [
            | fault k distance ↦ flags
            | item x len ↦ flags_step (outer_of gs) flags x
                (λ outer fs. final_flags len outer fs text)
          ])) (length gs)
          (elim f' [
            | fault k distance ↦ syntax_error k (offset + distance)
            | item x len ↦ step offset before gs flags x
                (λ b gs fs. parse_suffix len (offset + 1) b gs fs text)
          ])
          (elim g [
            | fault k distance ↦ syntax_error k (by + distance)
            | item x len ↦ step by before hs flags x
                (λ b gs fs. parse_suffix len (by + 1) b gs fs (text ++ rest))
          ])
      by_token (fault k distance) g fits same later = fits
      by_token (item x len) g fits same later =
          goes_as _ _ (length gs) _ _ _ (λ k. ((fits, follows.names b text k.0.1), k.1))
          (λ k. ap (λ (f' : Token PatternItem). elim f' [
            | fault k distance ↦ syntax_error k (by + distance)
            | item x len ↦ step by before hs flags x
                (λ b gs fs. parse_suffix len (by + 1) b gs fs (text ++ rest))
          ]) (same k.0.1 tt))
          (item_goes offset by before flags (Common len text) (λ b gs fs. parse_suffix len (offset + 1) b gs fs text)
          (λ b gs fs. parse_suffix len (by + 1) b gs fs (text ++ rest)) (λ outer fs. final_flags len outer fs text)
          (later len) x gs hs alike)

-- ---- nothing after the text

nothing_follows : Follows (λ l. l) [] (λ text. Unit {0}) (λ flags. Unit {0})
nothing_follows = record {
  atoms = λ u l. refl;
  repeats = λ n m l. refl;
  bars = λ l. refl;
  names = λ b text k. tt;
  tokens = λ flags b text names is. ap (next_token flags b) (append-nil text);
  ends = λ offset before flags last. refl;
}

module _ (skip offset by : ℕ) (before : Before) (groups others : List Group) (flags : Flags) (text : List ℕ)
    (alike : outer_of groups ≡ outer_of others) where
  goes_on : Goes (λ l. l) (((skip ≤ length text) × Unit {0}) × Unit {0}) (length groups)
      (parse_suffix skip offset before groups flags text) (parse_suffix skip by before others flags text)
  goes_on =
      subst (λ whole. Goes (λ l. l) (((skip ≤ length text) × Unit {0}) × Unit {0}) (length groups)
      (parse_suffix skip offset before groups flags text) (parse_suffix skip by before others flags whole))
      (append-nil text)
      (goes (λ l. l) [] (λ text. Unit {0}) (λ flags. Unit {0}) nothing_follows skip offset by before groups others flags text alike)

goes_levels : (f : Level → Level) (ok : Type 0) (r s : SuffixParse) (groups : List Group) →
    Goes f ok (length groups) r s → HasLevels r groups
goes_levels f ok (levels l ls) s groups h = h.0
goes_levels f ok (syntax_error k offset) s groups h = tt

pub has_levels : (skip offset : ℕ) (before : Before) (groups : List Group) (flags : Flags) (text : List ℕ) →
    HasLevels (parse_suffix skip offset before groups flags text) groups
has_levels skip offset before groups flags text =
    goes_levels _ _ _ _ groups (goes_on skip offset offset before groups groups flags text refl)

pub never_without : (skip offset : ℕ) (before : Before) (group : Group) (groups : List Group) (flags : Flags)
    (text : List ℕ) (level : Level) → parse_suffix skip offset before (group ∷ groups) flags text ≢ levels level []
never_without skip offset before group groups flags text level e =
    let n : 0 ≡ suc (length groups) = subst (λ r. HasLevels r (group ∷ groups)) e
    (has_levels skip offset before (group ∷ groups) flags text) in
    absurd (omega (arith, n))

pub alone : (skip offset : ℕ) (before : Before) (flags : Flags) (text : List ℕ) (level : Level) (more : List Level) →
    parse_suffix skip offset before [] flags text ≡ levels level more → more ≡ []
alone skip offset before flags text level [] e = refl
alone skip offset before flags text level (outer ∷ more) e =
    let n : suc (length more) ≡ 0 = subst (λ r. HasLevels r []) e (has_levels skip offset before [] flags text) in
    absurd (omega (arith, n))

-- the offset of a text does not change its level
pub anywhere : (offset by : ℕ) (flags : Flags) (text : List ℕ) (level : Level) → parse_suffix 0 offset Start [] flags
    text ≡ levels level [] → parse_suffix 0 by Start [] flags text ≡ levels level []
anywhere offset by flags text level e =
    (subst (λ r. Goes (λ l. l) (((0 ≤ length text) × Unit {0}) × Unit {0}) 0 r (parse_suffix 0 by Start [] flags text))
    e (goes_on 0 offset by Start [] [] flags text refl)).1 ((omega arith, tt), tt)

abbrev OfResult : ParseResult → Type 0
OfResult (tree t) = Unit {0}
OfResult (rejected k offset) = IsTextFault k

goes_answer : (f : Level → Level) (ok : Type 0) (n : ℕ) (r s : SuffixParse) → Goes f ok n r s → OfResult (answer r)
goes_answer f ok n (levels l ls) s h = tt
goes_answer f ok n (syntax_error k offset) s h = h

-- `TooLarge` and `Memory` are not syntax errors of a text
pub text_fault : (text : List ℕ) (fold : Bool) (k : PatternFault) (offset : ℕ) → HasSyntaxError text fold k offset → IsTextFault k
text_fault text fold k offset e = subst OfResult e (goes_answer _ _ 0 _ _ (goes_on 0 0 0 Start [] [] (flags_at_start fold) text refl))
