-- A text that is read: where its reading ends, and its lines.
use Rattle.std.proofs.Common.{◌≡◌, ◌≤◌, ◌<◌, ◌+◌, ◌-◌, ℕ, zero, suc, Bool, true, false, nat_lt, if◌then◌else◌, List, [], ◌∷◌, ◌++◌, length, take, Option, None, Some, refl, sym, ap, subst, ◌∙◌, arith, append_assoc, append-nil, length-append}
use Rattle.std.specs.Prelude.{IfSome}
use Rattle.std.proofs.lemmas.Bool.{false≢true}
use Rattle.std.proofs.lemmas.Bool.Decides.{nat_tests}
use Rattle.std.proofs.lemmas.List.{take_all, take_at}
use Rattle.cs_match.specs.LastPart.{last_line, last_part}
use Rattle.cs_match.specs.Lines.{lines, terminated_lines}
use Rattle.cs_match.proofs.LinesLemmas.{last_part-append, lines-split, terminated_lines-append}
use Rattle.cs_tree.specs.StreamModels.{Ending, SourceModel, ends, fails}
use Rattle.cs_tree.specs.Transfers.{Consumes, IsAt}
use Rattle.cs_lines.specs.Reads.{GoesOn, IsRefused, ReadsAtMost}
use Rattle.cs_lines.specs.Streamed.{EndsBy, ReadsToEnd, ended_of, is_whole, read_lines}
use Rattle.cs_lines.specs.declared.buffer.FillFault.{FillFault}
use Rattle.cs_lines.specs.declared.buffer.FillFault.TheVariants.{Failed as A_failed, TooLong as A_too_long, Memory}
use Rattle.cs_lines.specs.declared.stream.Ended.{Ended}
use Rattle.cs_lines.specs.declared.stream.Ended.TheVariants.{Whole, Failed, TooLong}

pub nothing_read : (model : Option SourceModel) → Consumes model model []
nothing_read None = tt
nothing_read (Some source) = (refl, refl)

pub more_read : (model now later : Option SourceModel) (a b : List ℕ) → Consumes model now a → Consumes now later b → Consumes model later (a ++ b)
more_read None now later a b p q = tt
more_read (Some source) None later a b p q = absurd p
more_read (Some source) (Some was) None a b p q = absurd q
more_read (Some source) (Some was) (Some rest) a b p q =
    (p.0 ∙ ap (λ (r : List ℕ). a ++ r) q.0 ∙ sym (append_assoc a b rest.bytes), p.1 ∙ q.1)

-- what is said of a text and of where its reading ends, if the source has a model
abbrev pub IfRead : ℕ → Option SourceModel → (List ℕ → Ended → Type 0) → Type 0
IfRead left model P = IfSome model (λ source. P (take left source.bytes) (ended_of left source))

abbrev end_of : Ending → Ended
end_of ending = elim ending [ ends ↦ Whole | fails ↦ Failed ]

within : (left size : ℕ) (ending : Ending) → size ≤ left → (if nat_lt left size then TooLong else end_of ending) ≡ end_of ending
within left size ending low = by (nat_lt left size) refl
  where
    by : (b : Bool) → nat_lt left size ≡ b → (if b then TooLong else end_of ending) ≡ end_of ending
    by true e = let wrong : ⊥ = grind (arith, nat_tests, e, low) in absurd wrong
    by false e = refl

-- to the end of the source
pub read_to : (ending : Ending) (left : ℕ) (model later : Option SourceModel) (read : List ℕ) (P : List ℕ → Ended → Type 0) → Consumes model later read →
    IsAt ending later → length read ≤ left → P read (end_of ending) → IfRead left model P
read_to ending left None later read P consumed end low p = tt
read_to ending left (Some source) None read P consumed end low p = absurd consumed
read_to ending left (Some source) (Some rest) read P consumed end low p =
    let is : source.bytes ≡ read = consumed.0 ∙ ap (λ (r : List ℕ). read ++ r) end.0 ∙ append-nil read in
    let all : take left source.bytes ≡ read = ap (take left) is ∙ take_all left read low in
    let ended : ended_of left source ≡ end_of ending =
    ap (λ (e : Ending). if nat_lt left (length source.bytes) then TooLong else end_of e) (consumed.1 ∙ end.1)
    ∙ within left (length source.bytes) ending (omega (arith, ap (λ (l : List ℕ). length l) is, low)) in
    subst (λ (t : List ℕ). P t (ended_of left source)) (sym all) (subst (P read) (sym ended) p)

-- up to the limit
pub read_past : (left : ℕ) (model now later : Option SourceModel) (read : List ℕ) (P : List ℕ → Ended → Type 0) → Consumes model now read →
    GoesOn now later → length read ≡ left → P read TooLong → IfRead left model P
read_past left None now later read P consumed more size p = tt
read_past left (Some source) None later read P consumed more size p = absurd consumed
read_past left (Some source) (Some rest) None read P consumed more size p = absurd more.1
read_past left (Some source) (Some rest) (Some last) read P consumed more size p =
    let is : source.bytes ≡ read ++ rest.bytes = consumed.0 in
    let all : take left source.bytes ≡ read = ap (take left) is ∙ take_at read rest.bytes left size in
    let long : left < length source.bytes =
    omega (arith, ap (λ (l : List ℕ). length l) is, length-append read rest.bytes, ap (λ (l : List ℕ). length l) more.1.0, size) in
    let ended : ended_of left source ≡ TooLong = past (nat_lt left (length source.bytes)) refl long in
    subst (λ (t : List ℕ). P t (ended_of left source)) (sym all) (subst (P read) (sym ended) p)
  where
    past : (b : Bool) → nat_lt left (length source.bytes) ≡ b → left < length source.bytes → (if b then TooLong else end_of source.ending) ≡ TooLong
    past true e low = refl
    past false e low = let wrong : ⊥ = grind (arith, nat_tests, e, low) in absurd wrong

-- up to a read that was refused
pub read_cut : (fault : FillFault) (ended : Ended) (left rest : ℕ) (model now later : Option SourceModel) (read : List ℕ) (P : List ℕ → Ended → Type 0) →
    EndsBy fault ended → IsRefused rest now later fault → Consumes model now read → length read + rest ≡ left →
    ((e : Ended) → is_whole e ≡ false → ended ≡ e → P read e) → IfRead left model P
read_cut A_failed ended left rest model now later read P is refused consumed size p =
    read_to fails left model later read P
    (subst (Consumes model later) (append-nil read) (more_read model now later read [] consumed refused.0)) refused.1 (omega (arith, size)) (p Failed refl is)
read_cut A_too_long ended left rest model now later read P is refused consumed size p =
    read_past left model now later read P consumed refused.1 (omega (arith, size, refused.0)) (p TooLong refl is)
read_cut Memory ended left rest model now later read P is refused consumed size p = absurd is

-- not so far
pub read_part : (left : ℕ) (model now : Option SourceModel) (read : List ℕ) (P : List ℕ → Ended → Type 0) → Consumes model now read →
    length read ≤ left → ((more : List ℕ) (ended : Ended) → P (read ++ more) ended) → IfRead left model P
read_part left None now read P consumed low p = tt
read_part left (Some source) None read P consumed low p = absurd consumed
read_part left (Some source) (Some rest) read P consumed low p =
    let more = take (left - length read) rest.bytes in
    let split : left ≡ length read + (left - length read) = omega arith in
    let all : take left source.bytes ≡ read ++ more = ap (take left) consumed.0 ∙ ap (λ (n : ℕ). take n (read ++ rest.bytes)) split
    ∙ take_past (left - length read) read rest.bytes in
    subst (λ (t : List ℕ). P t (ended_of left source)) (sym all) (p more (ended_of left source))
  where
    take_past : (n : ℕ) (a b : List ℕ) → take (length a + n) (a ++ b) ≡ a ++ take n b
    take_past n [] b = let same : 0 + n ≡ n = omega arith in ap (λ (m : ℕ). take m b) same
    take_past n (x ∷ a) b = let next : suc (length a) + n ≡ suc (length a + n) = omega arith in ap (λ (m : ℕ). take m (x ∷ (a ++ b))) next ∙ ap (λ (l : List ℕ). x ∷ l) (take_past n a b)

-- what was read by a read that was refused: a byte at most
pub refused_read : (fault : FillFault) (rest : ℕ) (model later : Option SourceModel) → IsRefused rest model later fault →
    (bytes : List ℕ) × (length bytes ≤ 1) × Consumes model later bytes
refused_read A_failed rest model later is = ([], omega arith, is.0)
refused_read A_too_long rest model later is = (is.1.0 ∷ [], omega arith, is.1.1)
refused_read Memory rest model later is = ([], omega arith, is)

pub some_read : (n : ℕ) → (n ≡ 0 → ⊥) → 1 ≤ n
some_read zero h = absurd (h refl)
some_read (suc n) h = omega arith

pub read_within : (limit : ℕ) (model later : Option SourceModel) (first : List ℕ) → Consumes model later first → length first ≤ limit + 1 →
    ReadsAtMost limit model later first
read_within limit model later first read size = record {
  more = [];
  consumed = subst (Consumes model later) (sym (append-nil first)) read;
  size = omega (arith, size);
}

pub read_refused : (limit left : ℕ) (fault : FillFault) (model now later : Option SourceModel) (first new : List ℕ) → Consumes model now first →
    length first + left ≡ limit → new ≡ first → IsRefused left now later fault → ReadsAtMost limit model later new
read_refused limit left fault model now later first new read size is refused =
    let more = refused_read fault left now later refused in
    subst (ReadsAtMost limit model later) (sym is) (record {
      more = more.0;
      consumed = more_read model now later first more.0 read more.2;
      size = omega (arith, size, more.1);
    })

-- ---- all that can be read

pub read_whole : (model now : Option SourceModel) (read : List ℕ) (P : List ℕ → Type 0) → Consumes model now read → ((more : List ℕ) → P (read ++ more)) →
    IfSome model (λ source. P source.bytes)
read_whole None now read P consumed p = tt
read_whole (Some source) None read P consumed p = absurd consumed
read_whole (Some source) (Some rest) read P consumed p = subst P (sym consumed.0) (p rest.bytes)

pub read_all : (ending : Ending) (model later : Option SourceModel) (read : List ℕ) (P : List ℕ → Type 0) → Consumes model later read → IsAt ending later →
    P read → IfSome model (λ source. P source.bytes)
read_all ending None later read P consumed end p = tt
read_all ending (Some source) None read P consumed end p = absurd consumed
read_all ending (Some source) (Some rest) read P consumed end p =
    subst P (sym (consumed.0 ∙ ap (λ (r : List ℕ). read ++ r) end.0 ∙ append-nil read)) p

pub both_some : {A : Type 0} {P Q R : A → Type 0} (answer : Option A) → ((x : A) → P x → Q x → R x) → IfSome answer P → IfSome answer Q → IfSome answer R
both_some None f p q = tt
both_some (Some x) f p q = f x p q

pub any_some : {A : Type 0} {P : A → Type 0} (answer : Option A) → ((x : A) → P x) → IfSome answer P
any_some None f = tt
any_some (Some x) f = f x

pub some_map : {A : Type 0} {P Q : A → Type 0} (answer : Option A) → ((x : A) → P x → Q x) → IfSome answer P → IfSome answer Q
some_map None f p = tt
some_map (Some x) f p = f x p

-- what is said of the end of a text whose first bytes were read before
pub ends_before : (first : List ℕ) (rest left : ℕ) (ended : Ended) (model now : Option SourceModel) → Consumes model now first →
    length first + rest ≡ left → ReadsToEnd rest now ended → ReadsToEnd left model ended
ends_before first rest left ended None now read size whole = tt
ends_before first rest left ended (Some source) None read size whole = absurd read
ends_before first rest left ended (Some source) (Some more) read size whole = λ end low.
    whole (sym read.1 ∙ end) (omega (arith, ap (λ (l : List ℕ). length l) read.0, length-append first more.bytes, size, low))

-- ---- lines

-- the lines of a text, and of what follows it
pub lines_more : (a b : List ℕ) → lines (a ++ b) ≡ terminated_lines a ++ lines (last_part a ++ b)
lines_more a b =
    let rest = last_part a ++ b in
    lines-split (a ++ b)
    ∙ ap (λ (ls : List (List ℕ)). ls ++ last_line (last_part (a ++ b))) (terminated_lines-append a b)
    ∙ ap (λ (part : List ℕ). (terminated_lines a ++ terminated_lines rest) ++ last_line part) (last_part-append a b)
    ∙ append_assoc (terminated_lines a) (terminated_lines rest) (last_line (last_part rest))
    ∙ ap (λ (ls : List (List ℕ)). terminated_lines a ++ ls) (sym (lines-split rest))

-- the lines that are searched begin with those that have ended
pub read_more : (ended : Ended) (a b : List ℕ) → (rest : List (List ℕ)) × (read_lines ended (a ++ b) ≡ terminated_lines a ++ rest)
read_more Whole a b = (lines (last_part a ++ b), lines_more a b)
read_more Failed a b = (terminated_lines (last_part a ++ b), terminated_lines-append a b)
read_more TooLong a b = (terminated_lines (last_part a ++ b), terminated_lines-append a b)

pub read_ended : (ended : Ended) (text : List ℕ) → is_whole ended ≡ false → read_lines ended text ≡ terminated_lines text
read_ended Whole text e = absurd (false≢true (sym e))
read_ended Failed text e = refl
read_ended TooLong text e = refl
