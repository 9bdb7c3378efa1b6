-- Sums of steps.
use Rattle.std.proofs.Common.{◌≡◌, ◌≤◌, ℕ, ◌+◌, ◌*◌, ◌-◌, Bool, true, false, if◌then◌else◌, List, [], ◌++◌, Option, length, take, drop, refl, sym, ap, ◌∙◌, arith, length-append, length-drop, length-take}
use Rattle.cs_prefilter.specs.OffsetWork.{offset_work}
use Rattle.cs_tree.specs.ConsumesAtMost.{ConsumesAtMost}
use Rattle.cs_tree.specs.StreamModels.{SourceModel}
use Rattle.cs_tree.specs.Transfers.{Consumes}
use Rattle.cs_tree.proofs.ConsumesLemmas.{Consumes_few}
use Rattle.cs_match.specs.LastPart.{last_part}
use Rattle.cs_match.specs.NoNewline.{HasNoNewline}
use Rattle.cs_match.specs.Skipping.{AreWholeLines}
use Rattle.cs_match.proofs.WholeLineLemmas.{rest_is_last}
use Rattle.cs_match.specs.Automaton.{Automaton}
use Rattle.cs_match.specs.Work.{byte_work, WorksWithin}
use Rattle.cs_lines.specs.Findings.{KeepsSearch}
use Rattle.cs_lines.specs.Work.{Takes, TakesRead, ended_work, file_work, has_context, input_work, line_weight, line_work, list_work, part_work, search_work, searched_byte_work, searched_work, shown_work, walks}
use Rattle.cs_lines.specs.Reads.{ReadsAtMost}
use Rattle.cs_lines.proofs.ReadLemmas.{more_read}
use Rattle.cs_lines.specs.declared.form.ShowOptions.{ShowOptions}
use Rattle.cs_lines.specs.declared.search.LineSearch.{LineSearch}

mul_both : (k p t w : ℕ) → k ≤ t → p ≤ w → k * p ≤ t * w
mul_both k p t w h g = grind arith

add_both : (a b k : ℕ) → (a + b) * k ≡ a * k + b * k
add_both a b k = grind arith

times_more : (t a b : ℕ) → t * (a + b) ≡ t * a + t * b
times_more t a b = grind arith

one_more : (n k : ℕ) → n * k + n ≡ n * (k + 1)
one_more n k = grind arith

pub at_most : {a b : ℕ} → b ≡ a → a ≤ b
at_most is = omega (arith, is)

within_both : (x y n z : ℕ) → x + n ≡ y → y ≤ z → x ≤ z
within_both x y n z is low = omega (arith, is, low)

-- the steps of one call, and then of another
pub works_more : (a b : ℕ) (old mid new : Automaton) → WorksWithin a old mid → WorksWithin b mid new → WorksWithin (a + b) old new
works_more a b old mid new first next = (omega (arith, first.0, next.0), omega (arith, first.1, next.1))

pub works_fewer : (a b : ℕ) (old new : Automaton) → a ≤ b → WorksWithin a old new → WorksWithin b old new
works_fewer a b old new few works = (works.0, omega (arith, few, works.1))

-- any steps are enough for none
pub works_any : (n : ℕ) (matcher : Automaton) → WorksWithin n matcher matcher
works_any n matcher = (omega arith, omega arith)

pub works_still : (n : ℕ) (old new : Automaton) → WorksWithin n old new → WorksWithin (n + 0) old new
works_still n old new works = works_fewer n (n + 0) old new (omega arith) works

module _ (w : ℕ) where
  pub searched_more : (a b : ℕ) → searched_work w (a + b) ≡ searched_work w a + searched_work w b
  unfolding searched_work
  searched_more a b = let k = searched_byte_work w in add_both a b (k + 1)

  pub searched_fewer : (a b : ℕ) → a ≤ b → searched_work w a ≤ searched_work w b
  unfolding searched_work
  searched_fewer a b few =
      let k = searched_byte_work w in
      mul_both a (k + 1) b (k + 1) few (omega arith)

  -- a search for a line, whose bytes are counted
  pub one_search : (bytes : ℕ) → search_work w bytes + bytes ≡ searched_work w bytes
  unfolding searched_work
  one_search bytes = one_more bytes (searched_byte_work w)

  -- a search from one place on, and then from the next
  pub search_on : (a b : ℕ) → search_work w (a + b) ≡ search_work w a + search_work w b
  search_on a b = add_both a b (searched_byte_work w)

  pub search_few : (a b : ℕ) → a ≤ b → search_work w a ≤ search_work w b
  search_few a b few = let k = searched_byte_work w in mul_both a k b k few (omega arith)

  -- the lines of a text that have ended
  pub ended : (text : List ℕ) (stop : ℕ) → stop ≤ length text → AreWholeLines (take stop text) → HasNoNewline (drop stop text) →
      searched_work w (length (take stop text)) ≤ ended_work w text
  ended text stop within whole rest =
      searched_fewer _ _
      (omega (arith, within, length-take stop text, length-drop stop text, ap (λ (b : List ℕ). length b) (rest_is_last text stop whole rest)))

-- the weight is the same
pub same_weight : (old new : LineSearch) → KeepsSearch old new → line_weight new ≡ line_weight old
unfolding line_weight
same_weight old new same = ap byte_work same.0

pub search_then : (w v a b n : ℕ) (old mid new : Automaton) → v ≡ w → a + b ≡ n → WorksWithin (search_work w a) old mid →
    WorksWithin (search_work v b) mid new → WorksWithin (search_work w n) old new
search_then w v a b n old mid new same size first next =
    let total : search_work w n ≡ search_work w a + search_work v b =
    ap (search_work w) (sym size) ∙ search_on w a b ∙ ap (λ k. search_work w a + search_work k b) (sym same) in
    works_fewer _ _ old new (at_most total) (works_more _ _ old mid new first next)

-- the same by a matcher, whose step is stated by its tree
pub matched_then : (old mid : LineSearch) (new : Automaton) (a b n : ℕ) → KeepsSearch old mid → a + b ≡ n → Takes (search_work (line_weight old) a) old mid →
    WorksWithin (search_work (byte_work mid.matcher.tree) b) mid.matcher new → WorksWithin (search_work (line_weight old) n) old.matcher new
unfolding line_weight
matched_then old mid new a b n same size first next =
    search_then (line_weight old) (line_weight mid) a b n old.matcher mid.matcher new (same_weight old mid same) size first next

pub search_is_searched : (w a n : ℕ) (old new : Automaton) → a ≤ n → WorksWithin (search_work w a) old new → WorksWithin (searched_work w n) old new
search_is_searched w a n old new few works =
    works_fewer _ _ old new (within_both _ _ a _ (one_search w a) (searched_fewer w a n few)) works

-- the bytes are counted after the search
pub search_counted : (w n : ℕ) (old mid new : Automaton) → WorksWithin (search_work w n) old mid → WorksWithin n mid new →
    WorksWithin (searched_work w n) old new
search_counted w n old mid new first next = works_fewer _ _ old new (at_most (sym (one_search w n))) (works_more _ _ old mid new first next)

-- ---- a text that is read: `total` bytes were read or were there, `read` were read, and `pending` are left

module _ (w total read : ℕ) where
  -- the lines before the pending bytes were searched, and the end of a line was looked for in all but the last ones
  abbrev pub done_work : ℕ → ℕ → ℕ
  done_work pending scanned = searched_work w (total - pending) + (total - (pending - scanned)) + read

  abbrev pub all_work : ℕ → ℕ
  all_work pending = searched_work w (total - pending) + total + read

  -- and those that have ended among them
  pub block_done : (v : ℕ) (old mid new : Automaton) (pending pending' scanned : ℕ) → pending ≤ total → pending' ≤ pending → scanned ≤ pending → v ≡ w →
      WorksWithin (done_work pending scanned) old mid →
      WorksWithin (searched_work v (pending - pending') + (pending - scanned)) mid new → WorksWithin (all_work pending') old new
  block_done v old mid new pending pending' scanned low left within same first next =
      let size : total - pending' ≡ (total - pending) + (pending - pending') = omega (arith, low, left) in
      let sum : searched_work w (total - pending') ≡ searched_work w (total - pending) + searched_work v (pending - pending') =
      ap (searched_work w) size ∙ searched_more w (total - pending) (pending - pending')
      ∙ ap (λ k. searched_work w (total - pending) + searched_work k (pending - pending')) (sym same) in
      works_fewer _ _ old new (omega (arith, sum, low, within)) (works_more _ _ old mid new first next)

  -- a read of `n` bytes more, and what was done before it
  pub read_done : (old mid new : Automaton) (pending n : ℕ) → pending ≤ total → 1 ≤ n → WorksWithin (all_work pending) old mid → WorksWithin 1 mid new →
      WorksWithin (searched_work w (total + n - (pending + n)) + (total + n - (pending + n - pending)) + (read + n)) old new
  read_done old mid new pending n low some first next =
      let size : total + n - (pending + n) ≡ total - pending = omega (arith, low) in
      works_fewer _ _ old new (omega (arith, ap (searched_work w) size, some)) (works_more _ _ old mid new first next)

-- the work of all
pub input_done : (w : ℕ) (old new : Automaton) (text : List ℕ) (read pending rest : ℕ) → read ≤ length text → rest ≤ 1 + line_work w (length (last_part text)) →
    WorksWithin (all_work w (length text) read pending + rest) old new → WorksWithin (input_work w text) old new
input_done w old new text read pending rest low few works =
    works_fewer _ _ old new (omega (arith, searched_fewer w (length text - pending) (length text) (omega arith), low, few)) works

-- and of what was read besides, which was not searched
pub input_past : (w : ℕ) (old new : Automaton) (text more : List ℕ) (read pending rest : ℕ) → read ≤ length text → rest ≤ 1 →
    WorksWithin (all_work w (length text) read pending + rest) old new → WorksWithin (input_work w (text ++ more)) old new
input_past w old new text more read pending rest low few works =
    let size = length-append text more in
    works_fewer _ _ old new
    (omega (arith, searched_fewer w (length text - pending) (length (text ++ more)) (omega (arith, size)), low, few, size)) works

-- a text in memory: the end of its last line is looked for, and then its lines are searched
pub text_done : (w v : ℕ) (old mid done new : Automaton) (text : List ℕ) (end rest : ℕ) → v ≡ w → rest ≤ 1 + line_work w (length (last_part text)) →
    WorksWithin (length text) old mid → WorksWithin (searched_work v (length (take end text))) mid done → WorksWithin rest done new →
    WorksWithin (input_work w text) old new
text_done w v old mid done new text end rest same few first next last =
    let size : length (take end text) ≤ length text = omega (arith, length-take end text) in
    works_fewer _ _ old new
    (omega (arith, searched_fewer w (length (take end text)) (length text) size, ap (λ k. searched_work k (length (take end text))) same, few))
    (works_more _ _ old done new (works_more _ _ old mid done first next) last)

-- ---- lines that are passed to be shown

pub walks_on : (times from mid to : ℕ) (old between new : Automaton) → from ≤ mid → mid ≤ to → WorksWithin (times * (mid - from)) old between →
    WorksWithin (times * (to - mid)) between new → WorksWithin (times * (to - from)) old new
walks_on times from mid to old between new low high first next =
    let size : to - from ≡ (mid - from) + (to - mid) = omega (arith, low, high) in
    let sum : times * (to - from) ≡ times * (mid - from) + times * (to - mid) = ap (λ (n : ℕ). times * n) size ∙ times_more times (mid - from) (to - mid) in
    works_fewer _ _ old new (omega (arith, sum)) (works_more _ _ old between new first next)

pub walks_fewer : (times from a b : ℕ) (old new : Automaton) → a ≤ b → WorksWithin (times * (a - from)) old new → WorksWithin (times * (b - from)) old new
walks_fewer times from a b old new few works =
    works_fewer _ _ old new (mul_both times (a - from) times (b - from) (omega arith) (omega (arith, few))) works

-- the same after so many other steps
pub walks_more : (n times from mid to : ℕ) (old between new : Automaton) → from ≤ mid → mid ≤ to → WorksWithin (n + times * (mid - from)) old between →
    WorksWithin (times * (to - mid)) between new → WorksWithin (n + times * (to - from)) old new
walks_more n times from mid to old between new low high first next =
    let size : to - from ≡ (mid - from) + (to - mid) = omega (arith, low, high) in
    let sum : times * (to - from) ≡ times * (mid - from) + times * (to - mid) = ap (λ (n : ℕ). times * n) size ∙ times_more times (mid - from) (to - mid) in
    works_fewer _ _ old new (omega (arith, sum)) (works_more _ _ old between new first next)

pub walks_begun : (n times from : ℕ) (old new : Automaton) → WorksWithin n old new → WorksWithin (n + times * (from - from)) old new
walks_begun n times from old new works = works_more n _ old new new works (works_any (times * (from - from)) new)

pub walks_less : (n times from a b : ℕ) (old new : Automaton) → a ≤ b → WorksWithin (n + times * (a - from)) old new →
    WorksWithin (n + times * (b - from)) old new
walks_less n times from a b old new few works =
    works_fewer _ _ old new (omega (arith, mul_both times (a - from) times (b - from) (omega arith) (omega (arith, few)))) works

-- ---- the search of a block

module _ (times : ℕ) where
  times_on : (a b : ℕ) → a ≤ b → times * b ≡ times * a + times * (b - a)
  times_on a b low = let size : b ≡ a + (b - a) = omega (arith, low) in ap (λ (n : ℕ). times * n) size ∙ times_more times a (b - a)

  list_is : (w b : ℕ) → search_work w b ≡ list_work w b + b
  list_is w b = sym (one_more b (w + 2 * offset_work))

  -- a list of lines more, and the lines of it that are marked
  pub block_more : (w v a b c from to : ℕ) (old mid listed new : Automaton) → v ≡ w → a + b ≡ c → from ≤ to →
      WorksWithin (search_work w a + times * from) old mid → WorksWithin (list_work v b) mid listed →
      WorksWithin (b + times * (to - from)) listed new → WorksWithin (search_work w c + times * to) old new
  block_more w v a b c from to old mid listed new same size low done list marks =
      let searched : search_work w c ≡ search_work w a + (list_work v b + b) =
      ap (search_work w) (sym size) ∙ search_on w a b
      ∙ ap (λ k. search_work w a + search_work k b) (sym same) ∙ ap (λ n. search_work w a + n) (list_is v b) in
      works_fewer _ _ old new (add_up (search_work w c) (search_work w a) (list_work v b) b (times * to) (times * from) (times * (to - from))
      searched (times_on from to low)) (works_more _ _ old listed new (works_more _ _ old mid listed done list) marks)
    where
      add_up : (s s1 s2 b t t1 t2 : ℕ) → s ≡ s1 + (s2 + b) → t ≡ t1 + t2 → s1 + t1 + s2 + (b + t2) ≤ s + t
      add_up s s1 s2 b t t1 t2 p q = omega (arith, p, q)

  -- lines that are shown after it
  pub block_passed : (w a b from to : ℕ) (old mid new : Automaton) → 1 ≤ times → a ≤ b → from ≤ to →
      WorksWithin (search_work w a + times * from) old mid → WorksWithin (to - from) mid new →
      WorksWithin (search_work w b + times * to) old new
  block_passed w a b from to old mid new some few low done shown =
      let passed : to - from ≤ times * (to - from) = at_least (to - from) in
      works_fewer _ _ old new (add_up (search_work w a) (search_work w b) (to - from) (times * to) (times * from) (times * (to - from))
      (search_few w a b few) passed (times_on from to low)) (works_more _ _ old mid new done shown)
    where
      add_up : (a b n t t1 t2 : ℕ) → a ≤ b → n ≤ t2 → t ≡ t1 + t2 → a + t1 + n ≤ b + t
      add_up a b n t t1 t2 p q r = omega (arith, p, q, r)

      at_least : (n : ℕ) → n ≤ times * n
      at_least n = let k : 1 * n ≤ times * n = mul_both 1 n times n some (omega arith) in omega (arith, k)

  pub block_less : (w a b from to : ℕ) (old new : Automaton) → a ≤ b → from ≤ to → WorksWithin (search_work w a + times * from) old new →
      WorksWithin (search_work w b + times * to) old new
  block_less w a b from to old new few low done =
      works_fewer _ _ old new (add_up (search_work w a) (search_work w b) (times * to) (times * from) (times * (to - from))
      (search_few w a b few) (times_on from to low)) done
    where
      add_up : (a b t t1 t2 : ℕ) → a ≤ b → t ≡ t1 + t2 → a + t1 ≤ b + t
      add_up a b t t1 t2 p q = omega (arith, p, q)

-- ---- a text whose lines are printed

if_more : (b : Bool) (m n : ℕ) → (if b then m + n else 0) ≡ (if b then m else 0) + (if b then n else 0)
if_more true m n = refl
if_more false m n = refl

if_fewer : (b : Bool) (m n : ℕ) → m ≤ n → (if b then m else 0) ≤ (if b then n else 0)
if_fewer true m n low = low
if_fewer false m n low = omega arith

times_fewer : (t a b : ℕ) → a ≤ b → t * a ≤ t * b
times_fewer t a b few = mul_both t a t b (omega arith) few

all_three : (x x1 x2 y y1 y2 z z1 z2 : ℕ) → x ≡ x1 + x2 → y ≡ y1 + y2 → z ≡ z1 + z2 → x + y + z ≡ (x1 + y1 + z1) + (x2 + y2 + z2)
all_three x x1 x2 y y1 y2 z z1 z2 p q r = omega (arith, p, q, r)

three_fewer : (x1 x y1 y z1 z : ℕ) → x1 ≤ x → y1 ≤ y → z1 ≤ z → x1 + y1 + z1 ≤ x + y + z
three_fewer x1 x y1 y z1 z p q r = omega (arith, p, q, r)

module _ (options : ShowOptions) where
  abbrev held_work : ℕ → ℕ
  held_work n = if has_context options then n else 0

  module _ (w : ℕ) where
    pub part_more : (a b c d : ℕ) → part_work options w (a + b) (c + d) ≡ part_work options w a c + part_work options w b d
    part_more a b c d =
        let t = walks options in
        all_three (search_work w (a + b)) (search_work w a) (search_work w b) (held_work (a + b)) (held_work a) (held_work b) (t * (c + d)) (t * c) (t * d)
        (search_on w a b) (if_more (has_context options) a b) (times_more t c d)

    pub part_fewer : (a b c d : ℕ) → a ≤ b → c ≤ d → part_work options w a c ≤ part_work options w b d
    part_fewer a b c d few less =
        let t = walks options in
        three_fewer (search_work w a) (search_work w b) (held_work a) (held_work b) (t * c) (t * d)
        (search_few w a b few) (if_fewer (has_context options) a b few) (times_fewer t c d less)

    -- lines that were held are passed at the end
    pub part_walks : (a b c h d : ℕ) → a ≤ b → c + h ≤ d → part_work options w a c + walks options * h ≤ part_work options w b d
    part_walks a b c h d few less =
        let t = walks options in
        add_up (part_work options w a c) (part_work options w a d) (part_work options w b d) (search_work w a + held_work a) (t * c) (t * h) (t * (c + h)) (t * d)
        (part_fewer a b d d few (omega arith)) (times_more t c h) (times_fewer t (c + h) d less) refl refl
      where
        add_up : (p q r s tc th tch td : ℕ) → q ≤ r → tch ≡ tc + th → tch ≤ td → p ≡ s + tc → q ≡ s + td → p + th ≤ r
        add_up p q r s tc th tch td a b c d e = omega (arith, a, b, c, d, e)

    -- a text whose lines are not printed takes no more steps
    pub input_fewer : (text : List ℕ) → input_work w text ≤ shown_work options w text
    input_fewer text =
        let n = length text in
        let t = walks options in
        let once : 1 * n ≤ t * n = mul_both 1 n t n (omega arith) (omega arith) in
        add_up (searched_work w n) (search_work w n) n (held_work n) (t * n) (line_work w (length (last_part text))) (one_search w n) (omega (arith, once))
      where
        add_up : (s s1 n i t l : ℕ) → s1 + n ≡ s → n ≤ t → s + l + 2 * n + 1 ≤ s1 + i + t + l + 2 * n + 1
        add_up s s1 n i t l a b = omega (arith, a, b)

    -- and where each byte is passed once, and no lines around marked ones are shown, as many
    pub shown_is_input : (text : List ℕ) → walks options ≡ 1 → has_context options ≡ false → shown_work options w text ≡ input_work w text
    shown_is_input text once alone =
        let n = length text in
        add_up (searched_work w n) (search_work w n) n (held_work n) (walks options * n) (line_work w (length (last_part text))) (one_search w n)
        (ap (λ (b : Bool). if b then n else 0) alone) (ap (λ (t : ℕ). t * n) once)
      where
        add_up : (s s1 n i t l : ℕ) → s1 + n ≡ s → i ≡ 0 → t ≡ 1 * n → s1 + i + t + l + 2 * n + 1 ≡ s + l + 2 * n + 1
        add_up s s1 n i t l a b c = omega (arith, a, b, c)

-- ---- a text that is read, and whose lines are printed

module _ (options : ShowOptions) (w total read : ℕ) where
  -- where the first `held` pending bytes are held lines: the lines before the others were searched, those before the pending bytes
  -- were dropped, and the end of a line was looked for in all but the last ones
  abbrev pub shown_done : ℕ → ℕ → ℕ → ℕ
  shown_done pending held scanned = part_work options w (total - (pending - held)) (total - pending) + (total - (pending - scanned)) + read

  abbrev pub shown_all : ℕ → ℕ → ℕ
  shown_all pending held = part_work options w (total - (pending - held)) (total - pending) + total + read

  -- and so many bytes more were searched, and dropped
  pub part_done : (v : ℕ) (old mid new : Automaton) (pending held scanned pending' held' bytes dropped : ℕ) → pending ≤ total → scanned ≤ pending →
      pending' - held' + bytes ≡ pending - held → pending' + dropped ≡ pending → v ≡ w → WorksWithin (shown_done pending held scanned) old mid →
      WorksWithin (pending - scanned + part_work options v bytes dropped) mid new → WorksWithin (shown_all pending' held') old new
  part_done v old mid new pending held scanned pending' held' bytes dropped low within searched left same first next =
      let a = total - (pending - held) in
      let d = total - pending in
      let all : total - (pending' - held') ≡ a + bytes = omega (arith, low, searched) in
      let gone : total - pending' ≡ d + dropped = omega (arith, low, left) in
      let sum : part_work options w (total - (pending' - held')) (total - pending') ≡ part_work options w a d + part_work options v bytes dropped =
      ap (λ (n : ℕ). part_work options w n (total - pending')) all ∙ ap (λ (n : ℕ). part_work options w (a + bytes) n) gone
      ∙ part_more options w a bytes d dropped ∙ ap (λ (k : ℕ). part_work options w a d + part_work options k bytes dropped) (sym same) in
      works_fewer _ _ old new (add_up (part_work options w (total - (pending' - held')) (total - pending')) (part_work options w a d)
      (part_work options v bytes dropped) (pending - scanned) sum (omega (arith, low))) (works_more _ _ old mid new first next)
    where
      add_up : (p p1 p2 n : ℕ) → p ≡ p1 + p2 → n ≤ total → p1 + (total - n) + read + (n + p2) ≤ p + total + read
      add_up p p1 p2 n a b = omega (arith, a, b)

  -- a read of `n` bytes more, and what was done before it
  pub part_read : (old mid new : Automaton) (pending held n total' read' pending' scanned : ℕ) → pending ≤ total → held ≤ pending → 1 ≤ n →
      total' ≡ total + n → read' ≡ read + n → pending' ≡ pending + n → scanned ≡ pending → WorksWithin (shown_all pending held) old mid →
      WorksWithin 1 mid new →
      WorksWithin (part_work options w (total' - (pending' - held)) (total' - pending') + (total' - (pending' - scanned)) + read') old new
  part_read old mid new pending held n total' read' pending' scanned low within some is_total is_read is_pending is_scanned first next =
      let a : total' - (pending' - held) ≡ total - (pending - held) = omega (arith, low, within, is_total, is_pending) in
      let d : total' - pending' ≡ total - pending = omega (arith, low, is_total, is_pending) in
      let s : total' - (pending' - scanned) ≡ total = omega (arith, is_total, is_pending, is_scanned) in
      let same : part_work options w (total' - (pending' - held)) (total' - pending') ≡ part_work options w (total - (pending - held)) (total - pending) =
      ap (λ (m : ℕ). part_work options w m (total' - pending')) a ∙ ap (λ (m : ℕ). part_work options w (total - (pending - held)) m) d in
      works_fewer _ _ old new (add_up (part_work options w (total' - (pending' - held)) (total' - pending'))
      (part_work options w (total - (pending - held)) (total - pending)) n read' (total' - (pending' - scanned)) same s is_read some)
      (works_more _ _ old mid new first next)
    where
      add_up : (p p1 n read' t : ℕ) → p ≡ p1 → t ≡ total → read' ≡ read + n → 1 ≤ n → p1 + total + read + 1 ≤ p + t + read'
      add_up p p1 n read' t a b c d = omega (arith, a, b, c, d)

module _ (options : ShowOptions) (w : ℕ) (old new : Automaton) where
  -- the work of all, with the last line
  pub shown_end : (text : List ℕ) (read pending held rest : ℕ) → read ≤ length text → pending ≤ length text → held ≤ pending →
      rest ≤ 1 + line_work w (length (last_part text)) →
      WorksWithin (shown_all options w (length text) read pending held + (rest + walks options * held)) old new → WorksWithin (shown_work options w text) old new
  shown_end text read pending held rest low left within few works =
      let total = length text in
      works_fewer _ _ old new (add_up (part_work options w (total - (pending - held)) (total - pending)) (part_work options w total total) total read rest
      (walks options * held) (line_work w (length (last_part text)))
      (part_walks options w (total - (pending - held)) total (total - pending) held total (omega arith) (omega (arith, left, within))) low few) works
    where
      add_up : (p q n r rest t l : ℕ) → p + t ≤ q → r ≤ n → rest ≤ 1 + l → p + n + r + (rest + t) ≤ q + l + 2 * n + 1
      add_up p q n r rest t l a b c = omega (arith, a, b, c)

  -- and of what was read besides, which was not searched
  pub shown_cut : (text all : List ℕ) (read pending held rest : ℕ) → length text ≤ length all → read ≤ length text → rest ≤ 1 →
      WorksWithin (shown_all options w (length text) read pending held + rest) old new → WorksWithin (shown_work options w all) old new
  shown_cut text all read pending held rest more low few works =
      let total = length text in
      works_fewer _ _ old new (add_up (part_work options w (total - (pending - held)) (total - pending)) (part_work options w (length all) (length all)) total
      (length all) read rest (line_work w (length (last_part all)))
      (part_fewer options w (total - (pending - held)) (length all) (total - pending) (length all) (omega (arith, more)) (omega (arith, more))) more low few) works
    where
      add_up : (p q n m r rest l : ℕ) → p ≤ q → n ≤ m → r ≤ n → rest ≤ 1 → p + n + r + rest ≤ q + l + 2 * m + 1
      add_up p q n m r rest l a b c d = omega (arith, a, b, c, d)

  -- a text in memory: the end of its last line is looked for, then its lines are searched, and the last one
  pub shown_text : (v : ℕ) (mid done : Automaton) (text : List ℕ) (bytes passed held rest : ℕ) → v ≡ w → bytes ≤ length text → passed + held ≤ length text →
      rest ≤ line_work w (length (last_part text)) → WorksWithin (length text) old mid →
      WorksWithin (search_work v bytes + walks options * passed) mid done → WorksWithin (rest + walks options * held) done new →
      WorksWithin (shown_work options w text) old new
  shown_text v mid done text bytes passed held rest same few within low first next last =
      let total = length text in
      let t = walks options in
      works_fewer _ _ old new (add_up (search_work v bytes) (search_work w bytes) (search_work w total) total (held_work options total) (t * passed) (t * held)
      (t * (passed + held)) (t * total) rest (line_work w (length (last_part text))) (ap (λ (k : ℕ). search_work k bytes) same) (search_few w bytes total few)
      (times_more t passed held) (times_fewer t (passed + held) total within) low)
      (works_more _ _ old done new (works_more _ _ old mid done first next) last)
    where
      add_up : (v s1 s n i tp th tph tn rest l : ℕ) → v ≡ s1 → s1 ≤ s → tph ≡ tp + th → tph ≤ tn → rest ≤ l →
          n + (v + tp) + (rest + th) ≤ s + i + tn + l + 2 * n + 1
      add_up v s1 s n i tp th tph tn rest l a b c d e = omega (arith, a, b, c, d, e)

  -- a block of lines that have ended
  pub block_shown : (v : ℕ) (mid block : Automaton) (n m bytes' from more bytes dropped : ℕ) → n ≡ m → v ≡ w → bytes' ≡ bytes → from + more ≡ dropped →
      WorksWithin n old mid → WorksWithin (search_work v bytes' + walks options * from) mid block →
      WorksWithin (held_work options bytes + walks options * more) block new → WorksWithin (m + part_work options w bytes dropped) old new
  block_shown v mid block n m bytes' from more bytes dropped is same searched gone first next last =
      let t = walks options in
      works_fewer _ _ old new (add_up n m (search_work v bytes') (search_work w bytes) (held_work options bytes) (t * from) (t * more) (t * dropped) is
      (ap (λ (k : ℕ). search_work k bytes') same ∙ ap (λ (b : ℕ). search_work w b) searched)
      (sym (times_more t from more) ∙ ap (λ (k : ℕ). t * k) gone)) (works_more _ _ old block new (works_more _ _ old mid block first next) last)
    where
      add_up : (n m v s i tf tm td : ℕ) → n ≡ m → v ≡ s → tf + tm ≡ td → n + (v + tf) + (i + tm) ≤ m + (s + i + td)
      add_up n m v s i tf tm td a b c = omega (arith, a, b, c)

-- ---- a text that was read in part

module _ (work : List ℕ → ℕ) (first : List ℕ) (most : ℕ) (model later : Option SourceModel) (old new : LineSearch)
    (reads : TakesRead work first most model later old new) where
  pub reads_fewer : (more : List ℕ → ℕ) → ((text : List ℕ) → work text ≤ more text) → TakesRead more first most model later old new
  reads_fewer more few = record {
    text = reads.text;
    read = reads.read;
    size = reads.size;
    bound = works_fewer (work (first ++ reads.text)) (more (first ++ reads.text)) old.matcher new.matcher (few (first ++ reads.text)) reads.bound;
  }

  -- how much was read
  pub reads_lose : ConsumesAtMost (most + 1) model later
  reads_lose = Consumes_few model later reads.text (most + 1) reads.read reads.size

-- ---- a file, whose first bytes were read

module _ (options : ShowOptions) (s0 s1 : LineSearch) (first : List ℕ) (limit : ℕ) (model : Option SourceModel) (counted : Takes (length first + 1) s0 s1) where
  -- and no more
  pub file_left : (later : Option SourceModel) → ReadsAtMost limit model later first → TakesRead (file_work options (line_weight s0)) [] limit model later s0 s1
  file_left later reads = record {
    text = first ++ reads.more;
    read = reads.consumed;
    size = omega (arith, reads.size, length-append first reads.more);
    bound = works_fewer (length first + 1) (file_work options (line_weight s0) (first ++ reads.more)) s0.matcher s1.matcher
        (add_up (length first) (length (first ++ reads.more)) (shown_work options (line_weight s0) (first ++ reads.more)) (omega (arith, length-append first reads.more)))
        counted;
  }
    where
      add_up : (n m s : ℕ) → n ≤ m → n + 1 ≤ s + m + 1
      add_up n m s few = omega (arith, few)

  -- and then the rest
  pub file_read : (s2 : LineSearch) (left : ℕ) (mid later : Option SourceModel) → KeepsSearch s0 s1 → Consumes model mid first → length first + left ≡ limit →
      TakesRead (shown_work options (line_weight s1)) first left mid later s1 s2 → TakesRead (file_work options (line_weight s0)) [] limit model later s0 s2
  file_read s2 left mid later same read size reads =
      let all = first ++ reads.text in
      record {
        text = all;
        read = more_read model mid later first reads.text read reads.read;
        size = omega (arith, reads.size, size, length-append first reads.text);
        bound = works_fewer (length first + 1 + shown_work options (line_weight s1) all) (file_work options (line_weight s0) all) s0.matcher s2.matcher
            (add_up (length first) (length all) (shown_work options (line_weight s1) all) (shown_work options (line_weight s0) all)
            (ap (λ (k : ℕ). shown_work options k all) (same_weight s0 s1 same)) (omega (arith, length-append first reads.text)))
            (works_more (length first + 1) (shown_work options (line_weight s1) all) s0.matcher s1.matcher s2.matcher counted reads.bound);
      }
    where
      add_up : (n m s s' : ℕ) → s ≡ s' → n ≤ m → n + 1 + s ≤ s' + m + 1
      add_up n m s s' same few = omega (arith, same, few)
