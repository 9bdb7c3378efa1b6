-- The representation invariant of `Sections` after each operation.
use Rattle.std.proofs.Common.{◌≡◌, ◌≢◌, ◌||◌, ℕ, ◌+◌, ◌-◌, ◌^◌, ◌<◌, ◌≤◌, false, cond, eqb, List, [], ◌∷◌, ◌++◌, length, map, get_or, Option, None, Some, Vec, Global, refl, sym, ap, subst, ◌∙◌, inl, inr, arith, append_assoc, length-append}
use Rattle.cs_trigram.specs.Trigram.{has, Ascends}
use Rattle.cs_trigram.proofs.SetLemmas.{Above, ascends_tail, ascends_head}
use Rattle.std.proofs.lemmas.Bool.{cases_Bool, eqb-true, eq-eqb, ne_eqb, or_parts}
use Rattle.std.proofs.lemmas.List.{append-nil, length-map, length_push}
use Rattle.std.specs.List.{AllByRecursion, concat}
use Rattle.std.specs.Option.{option_map_or}
use Rattle.cs_index.specs.declared.writing.sections.Sections.TheInside.{Inside}
use Rattle.std.specs.Prelude.{flat_map}
use Rattle.cs_index.specs.Indexable.{IsIndexable}
use Rattle.cs_index.specs.Encoding.{PostingList, ListEntry, four_bytes, encoding_of, layout, list_entries, posting_list_bytes, sections_of, three_bytes, varint, deltas_from, stream_of}
use Rattle.cs_index.specs.IdStream.{ids_in, IsStream}
use Rattle.cs_index.specs.AscendingIds.{ids_onward, max_ids, next_after, IsPostingList, AscendWithin}
use Rattle.cs_index.specs.Gathering.{trigrams_in}
use Rattle.cs_index.specs.Written.{ids_of, with_id, Written, bytes_written, entries_written, last_ids, prefix_of, with_written_id, with_last_id, with_last_ids, AllBelow, IsSentEarly}
use Rattle.cs_index.specs.Sending.{Outgoing, all_sent, bytes_in, with_bytes}
use Rattle.cs_index.specs.WrittenLists.{AreFirstIds, IsWritten, with_posting}
use Rattle.cs_index.specs.SectionsInvariant.{ids_at, first_of, lists_at, IsFresh, IsOpen, IsSections, current_list, bytes_at_close, lists_of_fields, last_trigram_of, written_of}
use Rattle.cs_index.proofs.postings.StreamPush.{decoded-stream_of, stream_from, next_append, rise_length, rise_append}
use Rattle.cs_index.proofs.postings.EncodedRuns.{onward_from, onward_last, onward_stream}
use Rattle.cs_index.proofs.encoding.ListsReadBack.{lists_are}
use Rattle.cs_index.proofs.encoding.EncodingOpens.{lists_back}
use Rattle.cs_index.proofs.writer.WrittenSteps.{written_begun, written_given, written_encoding, written_indexable}
use Rattle.cs_index.proofs.decoding.DecodingIsUnique.{top_zero}
use Rattle.cs_index.proofs.writer.IdAdded.{gathered_new}
use Rattle.cs_index.proofs.writer.ListsBelow.{rise_wider}

-- ---- reading the written lists back

abbrev Rise : List PostingList → Type 0
Rise ps = AllByRecursion (λ (p : PostingList). AscendWithin max_ids 0 p.1) ps

read_back : (prefix rest : List ℕ) (ps : List PostingList) → Rise ps →
    lists_at (prefix ++ (concat (map posting_list_bytes ps) ++ rest)) (list_entries (length prefix) ps) ≡ ps
unfolding ids_at
read_back prefix rest ps up = lists_back (prefix ++ (concat (map posting_list_bytes ps) ++ rest)) max_ids (length prefix) ps
    (lists_are prefix rest ps max_ids (omega arith) up)

closed_at : (prefix bytes : List ℕ) (closed : List PostingList) (trigram : ℕ) (ids : List ℕ) →
    bytes ≡ prefix ++ (concat (map posting_list_bytes closed) ++ (three_bytes trigram ++ stream_of ids)) →
    bytes ++ 0 ∷ [] ≡ prefix ++ (concat (map posting_list_bytes closed) ++ posting_list_bytes (trigram, ids))
closed_at prefix bytes closed trigram ids is =
    ap (λ bs. bs ++ 0 ∷ []) is
    ∙ append_assoc prefix (concat (map posting_list_bytes closed) ++ (three_bytes trigram ++ stream_of ids)) (0 ∷ [])
    ∙ ap (λ bs. prefix ++ bs)
    (append_assoc (concat (map posting_list_bytes closed)) (three_bytes trigram ++ stream_of ids) (0 ∷ [])
    ∙ ap (λ bs. concat (map posting_list_bytes closed) ++ bs)
    (append_assoc (three_bytes trigram) (stream_of ids) (0 ∷ [])))

pub record Read (bytes : List ℕ) (entries : List ListEntry) (current : ListEntry) (closed : List PostingList)
    (ids : List ℕ) : Type 0 where
  pub closed_are : lists_at (bytes ++ 0 ∷ []) entries ≡ closed
  pub ids_are : ids_at (bytes ++ 0 ∷ []) current ≡ ids

pub read_open : (prefix bytes : List ℕ) (entries : List ListEntry) (current : ListEntry) (next : ℕ)
    (closed : List PostingList) (ids : List ℕ) → IsOpen prefix bytes entries current next closed ids → Rise closed →
    AscendWithin max_ids 0 ids → Read bytes entries current closed ids
read_open prefix bytes entries current next closed ids is up rise = record { closed_are = closed_are; ids_are = ids_are }
  where
    last : List ℕ
    last = posting_list_bytes (current.trigram, ids)

    output : List ℕ
    output = concat (map posting_list_bytes closed)

    whole : bytes ++ 0 ∷ [] ≡ prefix ++ (output ++ last)
    whole = closed_at prefix bytes closed current.trigram ids is.written

    closed_are : lists_at (bytes ++ 0 ∷ []) entries ≡ closed
    closed_are = (λ i. lists_at (whole i) (is.entries_are i)) ∙ read_back prefix last closed up

    position : ℕ
    position = length (prefix ++ output)

    starts : current.offset ≡ position
    starts = is.starts ∙ sym (length-append prefix output)

    entry : List ListEntry
    entry = list_entries position ((current.trigram, ids) ∷ [])

    behind : prefix ++ (output ++ last) ≡ (prefix ++ output) ++ (concat (map posting_list_bytes ((current.trigram, ids) ∷ [])) ++ [])
    behind = sym (append_assoc prefix output last)
        ∙ ap (λ bs. (prefix ++ output) ++ bs) (sym (append-nil (last ++ []) ∙ append-nil last))

    one : lists_at (bytes ++ 0 ∷ []) (current ∷ []) ≡ (current.trigram, ids) ∷ []
    one =
        (λ i. lists_at ((whole ∙ behind) i)
        (record { trigram = current.trigram; count = is.counted i; offset = starts i } ∷ []))
        ∙ read_back (prefix ++ output) [] ((current.trigram, ids) ∷ []) (rise, tt)

    ids_are : ids_at (bytes ++ 0 ∷ []) current ≡ ids
    ids_are = ap (λ (ps : List PostingList). (get_or ps 0 (0, [])).1) one

-- ---- ascending lists

-- ids are less than a bound of the next id
rise_within : (name_count limit next : ℕ) (ids : List ℕ) → next_after next ids ≤ name_count → AscendWithin limit next ids →
    AscendWithin name_count next ids
rise_within name_count limit next [] last up = tt
rise_within name_count limit next (id ∷ ids) last up = let long = rise_length limit (id + 1) ids up.2 in
    (up.0, omega (arith, long, last), rise_within name_count limit (id + 1) ids last up.2)

all_rise : (name_count : ℕ) (ps : List PostingList) → name_count ≤ 2 ^ 31 → AllByRecursion (IsPostingList name_count) ps → Rise ps
all_rise name_count [] bound all = tt
all_rise name_count (p ∷ ps) bound all = (rise_wider name_count max_ids 0 p.1 bound all.0.1, all_rise name_count ps bound all.1)

all_prefix : (P : PostingList → Type 0) (ps : List PostingList) (p : PostingList) → AllByRecursion P (ps ++ p ∷ []) →
    AllByRecursion P ps × P p
all_prefix P [] p all = (tt, all.0)
all_prefix P (q ∷ ps) p all = let rest = all_prefix P ps p all.1 in ((all.0, rest.0), rest.1)

-- the last trigram is not one of the earlier ones
last_apart : (ps : List PostingList) (p : PostingList) → Ascends (trigrams_in (ps ++ p ∷ [])) → has (trigrams_in ps) p.0 ≡ false
last_apart [] p up = refl
last_apart (q ∷ ps) p up =
    let rest = last_apart ps p (ascends_tail q.0 (trigrams_in (ps ++ p ∷ [])) up) in
    ap (λ b. b || has (trigrams_in ps) p.0)
    (ne_eqb q.0 p.0 (λ e. absurd
    (omega (
      arith,
      e,
      above_last q.0 ps (ascends_head q.0 (trigrams_in (ps ++ p ∷ [])) up)
          (ascends_tail q.0 (trigrams_in (ps ++ p ∷ [])) up),
    )))) ∙ rest
  where
    above_last : (n : ℕ) (ps : List PostingList) → Above n (trigrams_in (ps ++ p ∷ [])) → Ascends (trigrams_in (ps ++ p ∷ [])) → n < p.0
    above_last n [] h up = h
    above_last n (r ∷ ps) h up = let rest = above_last r.0 ps (ascends_head r.0 (trigrams_in (ps ++ p ∷ [])) up)
        (ascends_tail r.0 (trigrams_in (ps ++ p ∷ [])) up) in omega (arith, h, rest)

with_last : (ps : List PostingList) (g id : ℕ) (ids : List ℕ) → has (trigrams_in ps) g ≡ false →
    with_id (ps ++ (g, ids) ∷ []) g id ≡ ps ++ (g, ids ++ id ∷ []) ∷ []
with_last [] g id ids h = ap (λ b. cond b ((g, ids ++ id ∷ []) ∷ []) ((g, ids) ∷ (g, id ∷ []) ∷ [])) (eq-eqb g g refl)
with_last (p ∷ ps) g id ids h =
    ap (λ b. cond b ((p.0, p.1 ++ id ∷ []) ∷ (ps ++ (g, ids) ∷ [])) (p ∷ with_id (ps ++ (g, ids) ∷ []) g id))
    (or_parts _ _ h).0 ∙ ap (λ rest. p ∷ rest) (with_last ps g id ids (or_parts _ _ h).1)

of_last : (ps : List PostingList) (g : ℕ) (ids : List ℕ) → has (trigrams_in ps) g ≡ false → ids_of (ps ++ (g, ids) ∷ []) g ≡ ids
of_last [] g ids h = ap (λ b. cond b ids []) (eq-eqb g g refl)
of_last (p ∷ ps) g ids h = ap (λ b. cond b p.1 (ids_of (ps ++ (g, ids) ∷ []) g)) (or_parts _ _ h).0
    ∙ of_last ps g ids (or_parts _ _ h).1

-- ---- the fields

abbrev closed_of : Inside → List PostingList
closed_of s = lists_at (bytes_at_close s) s.entries.items

abbrev current_ids : Inside → List ℕ
current_ids s = ids_at (bytes_at_close s) (current_list s)

abbrev IsOpenAs : Inside → List PostingList → List ℕ → Type 0
IsOpenAs s closed ids = IsOpen (prefix_of s.paths s.names) (bytes_in s.out) s.entries.items (current_list s) s.next closed ids

pub some_lists : (s : Inside) → s.count ≢ 0 → lists_of_fields s ≡ closed_of s ++ (s.trigram, current_ids s) ∷ []
some_lists s some = ap (λ b. cond b [] (closed_of s ++ (s.trigram, current_ids s) ∷ [])) (ne_eqb s.count 0 some)

pub no_count : (s : Inside) → lists_of_fields s ≡ [] → s.count ≡ 0
no_count s none =
    elim (cases_Bool (eqb s.count 0)) [
      | inl zero ↦ eqb-true s.count 0 zero
      | inr some ↦ absurd (pushed (closed_of s) (s.trigram, current_ids s)
          (sym (ap (λ b. cond b [] (closed_of s ++ (s.trigram, current_ids s) ∷ [])) some) ∙ none))
    ]
  where
    pushed : (ps : List PostingList) (p : PostingList) → ps ++ p ∷ [] ≡ [] → ⊥
    pushed [] p e = cc
    pushed (q ∷ ps) p e = cc

-- the fields with an open list
pub record Stated (s : Inside) (closed : List PostingList) (ids : List ℕ) : Type 0 where
  pub lists : lists_of_fields s ≡ closed ++ (s.trigram, ids) ∷ []
  pub opened : IsOpenAs s (closed_of s) (current_ids s)

pub stated : (s : Inside) (closed : List PostingList) (ids : List ℕ) → s.count ≢ 0 → IsOpenAs s closed ids → Rise closed →
    AscendWithin max_ids 0 ids → Stated s closed ids
stated s closed ids some is up rise =
    let read = read_open (prefix_of s.paths s.names) (bytes_in s.out) s.entries.items (current_list s) s.next closed ids is up
    rise in
    record {
      lists = some_lists s some ∙ (λ i. read.closed_are i ++ (s.trigram, read.ids_are i) ∷ []);
      opened = subst (λ ps. IsOpenAs s ps (current_ids s)) (sym read.closed_are)
          (subst (IsOpenAs s closed) (sym read.ids_are) is);
    }

bytes_more : (buffer : Outgoing) (bytes : List ℕ) → bytes_in (with_bytes buffer bytes) ≡ bytes_in buffer ++ bytes
bytes_more buffer bytes = sym (append_assoc buffer.sent buffer.unsent bytes)

none_before : (xs ys : List ℕ) → xs ++ ys ≡ [] → xs ≡ []
none_before [] ys e = refl
none_before (x ∷ xs) ys e = absurd (not_none x (xs ++ ys) e)
  where
    not_none : (x : ℕ) (xs : List ℕ) → x ∷ xs ≡ [] → ⊥
    not_none x xs e = cc

-- nothing is sent before the first list
pub no_sent : (s : Inside) → IsSections s → s.count ≡ 0 → s.out.sent ≡ []
no_sent s is zero = none_before s.out.sent s.out.unsent (is.silent zero)

-- ---- the current list

-- the fields after several ids
abbrev pub after_ids : Inside → Outgoing → ℕ → ℕ → Inside
after_ids s out count next = record s { out = out; count = count; next = next }

no_list_below : (lists : List PostingList) (trigram : ℕ) → AllBelow lists trigram → ids_of lists trigram ≡ []
no_list_below [] trigram all = refl
no_list_below (p ∷ lists) trigram all =
    let below : p.0 < trigram = all.0 in
    ap (λ b. cond b p.1 (ids_of lists trigram)) (ne_eqb p.0 trigram (λ e. absurd (omega (arith, e, below))))
    ∙ no_list_below lists trigram all.1

-- the premises of appending ids to the current list
pub record AtLast (s : Inside) (now : Written) : Type 0 where
  pub none : s.pending ≡ None
  pub some : s.count ≢ 0
  pub begun : last_trigram_of s ≡ Some s.trigram
  pub apart : has (trigrams_in (closed_of s)) s.trigram ≡ false
  pub last : last_ids now ≡ current_ids s
  pub open_list : IsOpenAs s (closed_of s) (current_ids s)
  pub closed_rise : Rise (closed_of s)
  pub ids_rise : AscendWithin max_ids 0 (current_ids s)

-- a list that is not pending has an id
pub at_current : (s : Inside) (now : Written) → written_of s ≡ now → IsSections s → s.pending ≡ None →
    now.last_trigram ≢ None → AtLast s now
at_current s now view is none begun =
    record {
      none = none;
      some = some;
      begun = has_begun;
      apart = apart;
      last = ap last_ids (sym view) ∙ ap (λ o. option_map_or (ids_of (lists_of_fields s)) o []) has_begun
          ∙ ap (λ ps. ids_of ps s.trigram) (some_lists s some) ∙ of_last (closed_of s) s.trigram (current_ids s) apart;
      open_list = is.opened some;
      closed_rise = parts.0;
      ids_rise = parts.1;
    }
  where
    current : last_trigram_of s ≡ cond (eqb s.count 0) None (Some s.trigram)
    current = ap (λ o. option_map_or (λ trigram. Some trigram) o (cond (eqb s.count 0) None (Some s.trigram))) none

    some : s.count ≢ 0
    some zero = begun (ap (λ (l : Written). l.last_trigram) (sym view) ∙ current
        ∙ ap (λ b. cond b None (Some s.trigram)) (eq-eqb s.count 0 zero))

    has_begun : last_trigram_of s ≡ Some s.trigram
    has_begun = current ∙ ap (λ b. cond b None (Some s.trigram)) (ne_eqb s.count 0 some)

    parts : Rise (closed_of s) × AscendWithin max_ids 0 (current_ids s)
    parts = all_prefix (λ (p : PostingList). AscendWithin max_ids 0 p.1) (closed_of s) (s.trigram, current_ids s)
        (subst Rise (some_lists s some)
        (all_rise (length s.names) (lists_of_fields s) is.output.bound is.output.postings.each))

    apart : has (trigrams_in (closed_of s)) s.trigram ≡ false
    apart = last_apart (closed_of s) (s.trigram, current_ids s)
        (subst (λ ps. Ascends (trigrams_in ps)) (some_lists s some) is.output.postings.ascend)

-- a list that has ids is not pending
pub at_last : (s : Inside) (now : Written) → written_of s ≡ now → IsSections s → last_ids now ≢ [] → AtLast s now
at_last s now view is has_last =
    at_current s now view is (by_pending s.pending refl) (λ no. has_last (ap (λ o. option_map_or (ids_of now.lists) o []) no))
  where
    by_pending : (o : Option ℕ) → s.pending ≡ o → s.pending ≡ None
    by_pending None e = e
    by_pending (Some trigram) e =
        absurd (has_last
        (ap last_ids (sym view)
        ∙ ap (λ o. option_map_or (ids_of (lists_of_fields s))
        (option_map_or (λ g. Some g) o (cond (eqb s.count 0) None (Some s.trigram))) []) e
        ∙ no_list_below (lists_of_fields s) trigram (subst (IsFresh (lists_of_fields s)) e is.fresh)))

-- there are at most as many ids as names
pub count_all : (s : Inside) (now : Written) (more : List ℕ) → written_of s ≡ now → IsSections s → AtLast s now →
    next_after 0 (last_ids now) + next_after 0 more ≤ length now.names → AscendWithin max_ids 0 more →
    (s.count + length more ≤ 2 ^ 31) × (s.next + next_after 0 more ≤ 2 ^ 31)
count_all s now more view is known named rise =
    let at : length s.names ≡ length now.names = ap (λ (l : Written). length l.names) view in
    let here : next_after 0 (last_ids now) ≡ next_after 0 (current_ids s) = ap (next_after 0) known.last in
    let bound = rise_length max_ids 0 (current_ids s) known.ids_rise in
    let long = rise_length max_ids 0 more rise in (
      omega (arith, is.output.bound, named, at, here, bound, long, known.open_list.counted),
      omega (arith, is.output.bound, named, at, here, known.open_list.follows),
    )

-- the last list with several ids
with_all : (output : Written) (closed : List PostingList) (g : ℕ) (ids more : List ℕ) → output.last_trigram ≡ Some g →
    output.lists ≡ closed ++ (g, ids) ∷ [] → has (trigrams_in closed) g ≡ false → with_last_ids output more ≡ record {
      paths = output.paths;
      names = output.names;
      lists = closed ++ (g, ids ++ more) ∷ [];
      last_trigram = output.last_trigram;
      sent = output.sent;
    }
with_all output closed g ids [] begun lists apart = λ i. record {
  paths = output.paths;
  names = output.names;
  lists = (lists ∙ ap (λ is. closed ++ (g, is) ∷ []) (sym (append-nil ids))) i;
  last_trigram = output.last_trigram;
  sent = output.sent;
}
with_all output closed g ids (id ∷ more) begun lists apart =
    ap (λ (l : Written). with_last_ids l more) (ap (λ o. option_map_or (λ trigram. with_written_id output trigram id) o output) begun)
    ∙ with_all (with_written_id output g id) closed g (ids ++ id ∷ []) more begun
    (ap (λ ps. with_id ps g id) lists ∙ with_last closed g id ids apart) apart
    ∙ ap (λ is. let l : Written = record {
      paths = output.paths;
      names = output.names;
      lists = closed ++ (g, is) ∷ [];
      last_trigram = output.last_trigram;
      sent = output.sent;
    } in l)
    (append_assoc ids (id ∷ []) more)

written_all : (output : Written) (closed : List PostingList) (g : ℕ) (ids more : List ℕ) → IsWritten output → output.last_trigram ≡ Some g →
    output.lists ≡ closed ++ (g, ids) ∷ [] → has (trigrams_in closed) g ≡ false →
    AscendWithin (length output.names) (next_after 0 ids) more → IsWritten (with_last_ids output more)
written_all output closed g ids [] is begun lists apart up = is
written_all output closed g ids (id ∷ more) is begun lists apart up =
    let last : ids_of output.lists g ≡ ids = ap (λ ps. ids_of ps g) lists ∙ of_last closed g ids apart in
    let from : next_after 0 ids ≤ id = up.0 in
    let one = written_given output g id is begun (subst (λ is. next_after 0 is ≤ id) (sym last) from) up.1 in
    subst (λ (l : Written). IsWritten (with_last_ids l more))
    (sym (ap (λ o. option_map_or (λ trigram. with_written_id output trigram id) o output) begun))
    (written_all (with_written_id output g id) closed g (ids ++ id ∷ []) more one begun
    (ap (λ ps. with_id ps g id) lists ∙ with_last closed g id ids apart) apart
    (subst (λ n. AscendWithin (length output.names) n more) (sym (next_append 0 ids (id ∷ []))) up.2))

-- bytes, ids and bounds of appended ids
written_more : (next : ℕ) (ids more : List ℕ) →
    flat_map varint (deltas_from next (ids ++ ids_onward (next_after next ids) more))
    ≡ flat_map varint (deltas_from next ids) ++ stream_of more
written_more next [] more = onward_stream next more
written_more next (id ∷ ids) more = ap (λ rest. varint (id + 1 - next) ++ rest) (written_more (id + 1) ids more)
    ∙ sym (append_assoc (varint (id + 1 - next)) _ _)

next_more : (next : ℕ) (ids more : List ℕ) →
    next_after next (ids ++ ids_onward (next_after next ids) more) ≡ next_after next ids + next_after 0 more
next_more next [] more = onward_last next more
next_more next (id ∷ ids) more = next_more (id + 1) ids more

pub record GivenAll (s : Inside) (now : Written) (out : Outgoing) (count next : ℕ) (more : List ℕ) : Type 0 where
  pub are_sections : IsSections (after_ids s out count next)
  pub is : written_of (after_ids s out count next) ≡ with_last_ids now (ids_onward (next_after 0 (last_ids now)) more)

pub given_all : (s : Inside) (now : Written) (out : Outgoing) (count next : ℕ) (more : List ℕ) → written_of s ≡ now →
    IsSections s → AtLast s now → next_after 0 (last_ids now) + next_after 0 more ≤ length now.names →
    AscendWithin max_ids 0 more → out ≡ with_bytes s.out (stream_of more) → count ≡ s.count + length more →
    next ≡ s.next + next_after 0 more → GivenAll s now out count next more
given_all s now out count next more view is known named rise written counted follows =
    record {
      are_sections = record {
        output = subst IsWritten (sym same) (written_all (written_of s) (closed_of s) s.trigram ids new is.output known.begun
            (some_lists s known.some) known.apart new_rise);
        fresh = subst (IsFresh (lists_of_fields t)) (sym known.none) tt;
        unwritten = λ zero. absurd (some zero);
        silent = λ zero. absurd (some zero);
        opened = λ _. now_open.opened;
      };
      is = same ∙ ap (λ (l : Written). with_last_ids l new) view
          ∙ ap (λ n. with_last_ids now (ids_onward n more)) (ap (next_after 0) (sym known.last));
    }
  where
    t : Inside
    t = after_ids s out count next

    some : count ≢ 0
    some zero = known.some (omega (arith, zero, counted))

    ids : List ℕ
    ids = current_ids s

    new : List ℕ
    new = ids_onward (next_after 0 ids) more

    fits : next_after 0 ids + next_after 0 more ≤ length s.names
    fits =
        let at : length s.names ≡ length now.names = ap (λ (l : Written). length l.names) view in
        let here : next_after 0 (last_ids now) ≡ next_after 0 ids = ap (next_after 0) known.last in
        omega (arith, named, at, here)

    new_rise : AscendWithin (length s.names) (next_after 0 ids) new
    new_rise = onward_from max_ids (length s.names) (next_after 0 ids) more rise fits

    output : List ℕ
    output = concat (map posting_list_bytes (closed_of s))

    bytes : bytes_in out ≡ prefix_of s.paths s.names ++ (output ++ (three_bytes s.trigram ++ stream_of (ids ++ new)))
    bytes =
        ap bytes_in written ∙ bytes_more s.out (stream_of more)
        ∙ (λ i. known.open_list.written i ++ stream_of more)
        ∙ append_assoc (prefix_of s.paths s.names) (output ++ (three_bytes s.trigram ++ stream_of ids)) (stream_of more)
        ∙ ap (λ bs. prefix_of s.paths s.names ++ bs) (append_assoc output (three_bytes s.trigram ++ stream_of ids) (stream_of more)
        ∙ ap (λ bs. output ++ bs) (append_assoc (three_bytes s.trigram) (stream_of ids) (stream_of more)
        ∙ ap (λ bs. three_bytes s.trigram ++ bs) (sym (written_more 0 ids more))))

    now_open : Stated t (closed_of s) (ids ++ new)
    now_open = stated t (closed_of s) (ids ++ new) some (record {
      written = bytes;
      entries_are = known.open_list.entries_are;
      counted = (let long = length-append ids new in let same_long = length-map more (λ id. next_after 0 ids + id) in omega
          (arith, long, same_long, known.open_list.counted, counted));
      starts = known.open_list.starts;
      follows = follows ∙ ap (λ n. n + next_after 0 more) known.open_list.follows ∙ sym (next_more 0 ids more);
    }) known.closed_rise
        (rise_append max_ids 0 ids new known.ids_rise (rise_wider (length s.names) max_ids (next_after 0 ids) new is.output.bound new_rise))

    same : written_of t ≡ with_last_ids (written_of s) new
    same =
        (λ i. record {
          paths = s.paths;
          names = s.names;
          lists = now_open.lists i;
          last_trigram = (ap (λ b. option_map_or (λ trigram. Some trigram) s.pending (cond b None (Some s.trigram)))
              (ne_eqb count 0 some ∙ sym (ne_eqb s.count 0 known.some))) i;
          sent = (written i).sent;
        })
        ∙ sym (with_all (written_of s) (closed_of s) s.trigram ids new known.begun (some_lists s known.some) known.apart)

-- ---- several ids

-- Ids as they are relative to an id before them.
pub record AreRelative (from : ℕ) (ids more : List ℕ) : Type 0 where
  pub are : ids_onward from more ≡ ids
  pub rise : AscendWithin max_ids 0 more
  pub end : from + next_after 0 more ≡ next_after from ids
  pub long : length more ≡ length ids

abbrev pub relative : ℕ → List ℕ → List ℕ
relative from ids = map (λ id. id - from) ids

are_relative : (count from : ℕ) (ids : List ℕ) → count ≤ max_ids → AscendWithin count from ids →
    AreRelative from ids (relative from ids)
are_relative count from ids bound up = record {
  are = back from ids (omega arith) up;
  rise = subst (λ n. AscendWithin max_ids n (relative from ids)) (let none : from - from ≡ 0 = omega arith in none)
      (rises from ids (omega arith) up);
  end = sym (onward_last from (relative from ids)) ∙ ap (next_after from) (back from ids (omega arith) up);
  long = length-map ids (λ id. id - from);
}
  where
    back : (next : ℕ) (ids : List ℕ) → from ≤ next → AscendWithin count next ids → ids_onward from (relative from ids) ≡ ids
    back next [] h up = refl
    back next (id ∷ ids) h up =
        let one : from + (id - from) ≡ id = omega (arith, h, up.0) in
        let rest = back (id + 1) ids (omega (arith, h, up.0)) up.2 in
        λ i. one i ∷ rest i

    rises : (next : ℕ) (ids : List ℕ) → from ≤ next → AscendWithin count next ids →
        AscendWithin max_ids (next - from) (relative from ids)
    rises next [] h up = tt
    rises next (id ∷ ids) h up =
        let on : id + 1 - from ≡ id - from + 1 = omega (arith, h, up.0) in (
          omega (arith, up.0),
          omega (arith, bound, up.1),
          subst (λ n. AscendWithin max_ids n (relative from ids)) on (rises (id + 1) ids (omega (arith, h, up.0)) up.2),
        )

ends_within : (count next : ℕ) (ids : List ℕ) → next ≤ count → AscendWithin count next ids → next_after next ids ≤ count
ends_within count next [] h up = h
ends_within count next (id ∷ ids) h up = ends_within count (id + 1) ids (omega (arith, up.1)) up.2

pub record GivenIds (s : Inside) (now : Written) (out : Outgoing) (count next : ℕ) (ids : List ℕ) : Type 0 where
  pub are_sections : IsSections (after_ids s out count next)
  pub is : written_of (after_ids s out count next) ≡ with_last_ids now ids

module _ (s : Inside) (now : Written) (ids : List ℕ) (view : written_of s ≡ now) (sections : IsSections s)
    (some : last_ids now ≢ []) (up : AscendWithin (length now.names) (next_after 0 (last_ids now)) ids) where
  abbrev from : ℕ
  from = next_after 0 (last_ids now)

  known : AtLast s now
  known = at_last s now view sections some

  at : s.next ≡ from
  at = known.open_list.follows ∙ ap (next_after 0) (sym known.last)

  names : length s.names ≡ length now.names
  names = ap (λ (l : Written). length l.names) view

  few : length now.names ≤ max_ids
  few = let bound = sections.output.bound in omega (arith, bound, names)

  within : from ≤ length now.names
  within =
      let each = (all_prefix (IsPostingList (length s.names)) (closed_of s) (s.trigram, current_ids s)
      (subst (AllByRecursion (IsPostingList (length s.names))) (some_lists s known.some) sections.output.postings.each)).1 in
      let last = ends_within (length s.names) 0 (current_ids s) (omega arith) each.1 in
      let here : from ≡ next_after 0 (current_ids s) = ap (next_after 0) known.last in
      omega (arith, last, here, names)

  more : AreRelative from ids (relative from ids)
  more = are_relative (length now.names) from ids few up

  named : from + next_after 0 (relative from ids) ≤ length now.names
  named = let end = ends_within (length now.names) from ids within up in omega (arith, end, more.end)

  pub deltas_rise : AscendWithin max_ids s.next ids
  deltas_rise = subst (λ n. AscendWithin max_ids n ids) (sym at) (rise_wider (length now.names) max_ids from ids few up)

  pub ids_fit : s.count + length ids ≤ 2 ^ 31
  ids_fit = let bound = count_all s now (relative from ids) view sections known named more.rise in omega (arith, bound.0, more.long)

  pub given_ids : (out : Outgoing) (count next : ℕ) → out ≡ with_bytes s.out (flat_map varint (deltas_from s.next ids)) →
      count ≡ s.count + length ids → next ≡ next_after s.next ids → GivenIds s now out count next ids
  given_ids out count next written counted follows =
      let all = given_all s now out count next (relative from ids) view sections known named more.rise
      (written ∙ ap (with_bytes s.out)
      ((λ i. flat_map varint (deltas_from (at i) (sym more.are i))) ∙ onward_stream from (relative from ids)))
      (counted ∙ ap (λ n. s.count + n) (sym more.long))
      (follows ∙ (λ i. next_after (at i) ids) ∙ sym more.end ∙ ap (λ n. n + next_after 0 (relative from ids)) (sym at)) in
      record { are_sections = all.are_sections; is = all.is ∙ ap (with_last_ids now) more.are }

-- ---- one id

one_varint : (id : ℕ) → stream_of (id ∷ []) ≡ varint (id + 1)
one_varint id = append-nil (varint (id + 1 - 0)) ∙ ap varint (let same : id + 1 - 0 ≡ id + 1 = omega arith in same)

-- one more id fits
pub at_id : (s : Inside) (now : Written) (id : ℕ) → written_of s ≡ now → IsSections s → AtLast s now → next_after 0 (last_ids now) ≤ id →
    id < length now.names → (s.next ≤ id) × (s.count ≤ id) × (id < 2 ^ 31)
at_id s now id view is known above named =
    let at : length s.names ≡ length now.names = ap (λ (l : Written). length l.names) view in
    let last : next_after 0 (last_ids now) ≡ next_after 0 (current_ids s) = ap (next_after 0) known.last in
    let long = rise_length max_ids 0 (current_ids s) known.ids_rise in (
      omega (arith, last, above, known.open_list.follows),
      omega (arith, long, last, above, known.open_list.counted),
      omega (arith, is.output.bound, named, at),
    )

pub record Given (s : Inside) (now : Written) (out : Outgoing) (id : ℕ) : Type 0 where
  pub are_sections : IsSections (after_ids s out (s.count + 1) (id + 1))
  pub is : written_of (after_ids s out (s.count + 1) (id + 1)) ≡ with_last_id now id

pub given : (s : Inside) (now : Written) (out : Outgoing) (id : ℕ) → written_of s ≡ now → IsSections s → AtLast s now →
    next_after 0 (last_ids now) ≤ id → id < length now.names → out ≡ with_bytes s.out (varint (id + 1 - s.next)) → Given s now out id
given s now out id view is known above named written =
    let fits = at_id s now id view is known above named in
    let next : s.next ≡ next_after 0 (last_ids now) = known.open_list.follows ∙ ap (next_after 0) (sym known.last) in
    let delta : id + 1 - s.next ≡ id - s.next + 1 = omega (arith, fits.0) in
    let here : next_after 0 (last_ids now) + (id - s.next) ≡ id = omega (arith, fits.0, next) in
    let all = given_all s now out (s.count + 1) (id + 1) ((id - s.next) ∷ []) view is known (omega (arith, here, named))
    (omega arith, omega (arith, fits.2), tt) (written ∙ ap (with_bytes s.out) (ap varint delta ∙ sym (one_varint (id - s.next))))
    (omega arith) (omega (arith, fits.0)) in
    record { are_sections = all.are_sections; is = all.is ∙ ap (with_last_id now) here }

-- ---- one more list

concat_push : (ps : List PostingList) (p : PostingList) →
    concat (map posting_list_bytes (ps ++ p ∷ [])) ≡ concat (map posting_list_bytes ps) ++ posting_list_bytes p
concat_push [] p = append-nil (posting_list_bytes p)
concat_push (q ∷ ps) p = ap (λ bs. posting_list_bytes q ++ bs) (concat_push ps p)
    ∙ sym (append_assoc (posting_list_bytes q) (concat (map posting_list_bytes ps)) (posting_list_bytes p))

entries_push : (at : ℕ) (ps : List PostingList) (p : PostingList) →
    list_entries at (ps ++ p ∷ []) ≡ list_entries at ps ++ record
    { trigram = p.0; count = length p.1; offset = at + length (concat (map posting_list_bytes ps)) } ∷ []
entries_push at [] p = let here : at ≡ at + 0 = omega arith in λ i. record
    { trigram = p.0; count = length p.1; offset = here i } ∷ []
entries_push at (q ∷ ps) p =
    let long : length (posting_list_bytes q ++ concat (map posting_list_bytes ps)) ≡ length (posting_list_bytes q) + length
    (concat (map posting_list_bytes ps)) = length-append (posting_list_bytes q) (concat (map posting_list_bytes ps)) in
    let there : at + length (posting_list_bytes q) + length (concat (map posting_list_bytes ps)) ≡ at + length
    (posting_list_bytes q ++ concat (map posting_list_bytes ps)) = omega (arith, long) in
    ap (λ es. record { trigram = q.0; count = length q.1; offset = at } ∷ es)
    (entries_push (at + length (posting_list_bytes q)) ps p
    ∙ (λ i. list_entries (at + length (posting_list_bytes q)) ps ++ record
    { trigram = p.0; count = length p.1; offset = there i } ∷ []))

-- the fields after a list is begun
abbrev pub after_list : Inside → Outgoing → Vec ListEntry Global → ℕ → ℕ → ℕ → ℕ → Inside
after_list s out entries trigram count start next =
    record s { out = out; entries = entries; pending = None; trigram = trigram; count = count; start = start; next = next }

pub record Begun (s : Inside) (now : Written) (p : PostingList) : Type 0 where
  pub are_sections : IsSections s
  pub is : written_of s ≡ with_posting now p

begun : (s : Inside) (now : Written) (out : Outgoing) (entries : Vec ListEntry Global) (trigram count start next : ℕ)
    (bytes : List ℕ) (closed : List PostingList) → written_of s ≡ now → IsSections s → AllBelow now.lists trigram →
    AreFirstIds (length now.names) trigram count next bytes → lists_of_fields s ≡ closed →
    bytes_in out ≡ prefix_of s.paths s.names ++ (concat (map posting_list_bytes closed) ++ (three_bytes trigram ++ bytes)) →
    out.sent ≡ s.out.sent →
    entries.items ≡ list_entries (length (prefix_of s.paths s.names)) closed →
    start ≡ length (prefix_of s.paths s.names) + length (concat (map posting_list_bytes closed)) →
    Begun (after_list s out entries trigram count start next) now (trigram, ids_in bytes count)
begun s now out entries trigram count start next bytes closed view is above first known written sent output starts =
    record {
      are_sections = record {
        output = subst IsWritten (sym same)
            (written_begun (written_of s) (trigram, ids) is.output first.below
            (subst (λ (l : Written). AllBelow l.lists trigram) (sym view) above) posting);
        fresh = tt;
        unwritten = λ zero. absurd (first.some zero);
        silent = λ zero. absurd (first.some zero);
        opened = λ _. now_open_list.opened;
      };
      is = same ∙ ap (λ (l : Written). with_posting l (trigram, ids)) view;
    }
  where
    t : Inside
    t = after_list s out entries trigram count start next

    ids : List ℕ
    ids = ids_in bytes count

    open_list : IsOpenAs t closed ids
    open_list = record {
      written = written ∙ ap
          (λ bs. prefix_of s.paths s.names ++ (concat (map posting_list_bytes closed) ++ (three_bytes trigram ++ bs)))
          first.stream.written;
      entries_are = output;
      counted = first.stream.counted;
      starts = starts;
      follows = first.stream.follows;
    }

    now_open_list : Stated t closed ids
    now_open_list = stated t closed ids first.some open_list
        (subst Rise known (all_rise (length s.names) (lists_of_fields s) is.output.bound is.output.postings.each))
        first.stream.rise

    same : written_of t ≡ with_posting (written_of s) (trigram, ids)
    same = λ i. record {
      paths = s.paths;
      names = s.names;
      lists = (now_open_list.lists ∙ ap (λ ps. ps ++ (trigram, ids) ∷ []) (sym known)) i;
      last_trigram = ap (λ b. cond b None (Some trigram)) (ne_eqb count 0 first.some) i;
      sent = sent i;
    }

    posting : IsPostingList (length s.names) (trigram, ids)
    posting = (
      (λ none. first.some (first.stream.counted ∙ ap length none)),
      rise_within (length s.names) max_ids 0 ids
          (let at : length s.names ≡ length now.names = ap (λ (l : Written). length l.names) view in omega
          (arith, at, first.named, first.stream.follows)) first.stream.rise,
    )

pub begun_first : (s : Inside) (now : Written) (out : Outgoing) (trigram count start next : ℕ) (bytes : List ℕ) →
    written_of s ≡ now → IsSections s → now.lists ≡ [] → AreFirstIds (length now.names) trigram count next bytes →
    out ≡ record { sent = []; unsent = prefix_of s.paths s.names ++ (three_bytes trigram ++ bytes) } →
    start ≡ length (prefix_of s.paths s.names) →
    Begun (after_list s out s.entries trigram count start next) now (trigram, ids_in bytes count)
begun_first s now out trigram count start next bytes view is none first written starts =
    let known : lists_of_fields s ≡ [] = ap (λ (l : Written). l.lists) view ∙ none in
    begun s now out s.entries trigram count start next bytes [] view is
    (subst (λ ps. AllBelow ps trigram) (sym none) tt) first known (ap bytes_in written)
    (ap (λ (o : Outgoing). o.sent) written ∙ sym (no_sent s is (no_count s known))) (is.unwritten (no_count s known))
    (omega (arith, starts))

pub begun_next : (s : Inside) (now : Written) (out : Outgoing) (entries : Vec ListEntry Global)
    (trigram count start next : ℕ) (bytes : List ℕ) → written_of s ≡ now → IsSections s → now.lists ≢ [] →
    AllBelow now.lists trigram → AreFirstIds (length now.names) trigram count next bytes →
    out ≡ with_bytes s.out (four_bytes trigram ++ bytes) → entries.items ≡ s.entries.items ++ current_list s ∷ [] →
    start ≡ length (bytes_in s.out) + 1 →
    Begun (after_list s out entries trigram count start next) now (trigram, ids_in bytes count)
begun_next s now out entries trigram count start next bytes view is later above first written pushed starts =
    begun s now out entries trigram count start next bytes (closed_of s ++ last ∷ []) view is above first
    (some_lists s some) written_out (ap (λ (o : Outgoing). o.sent) written) all_entries all_long
  where
    some : s.count ≢ 0
    some zero = later (ap (λ (l : Written). l.lists) (sym view)
        ∙ ap (λ b. cond b [] (closed_of s ++ (s.trigram, current_ids s) ∷ [])) (eq-eqb s.count 0 zero))

    last : PostingList
    last = (s.trigram, current_ids s)

    prefix : List ℕ
    prefix = prefix_of s.paths s.names

    open_list : IsOpenAs s (closed_of s) (current_ids s)
    open_list = is.opened some

    closed : bytes_in s.out ++ 0 ∷ [] ≡ prefix ++ concat (map posting_list_bytes (closed_of s ++ last ∷ []))
    closed = closed_at prefix (bytes_in s.out) (closed_of s) s.trigram (current_ids s) open_list.written
        ∙ ap (λ bs. prefix ++ bs) (sym (concat_push (closed_of s) last))

    written_out : bytes_in out ≡ prefix
        ++ (concat (map posting_list_bytes (closed_of s ++ last ∷ [])) ++ (three_bytes trigram ++ bytes))
    written_out =
        ap bytes_in written ∙ bytes_more s.out (four_bytes trigram ++ bytes)
        ∙ ap (λ bs. bytes_in s.out ++ (bs ++ bytes)) (top_zero trigram (omega (arith, first.below)))
        ∙ sym (append_assoc (bytes_in s.out) (0 ∷ []) (three_bytes trigram ++ bytes))
        ∙ ap (λ bs. bs ++ (three_bytes trigram ++ bytes)) closed
        ∙ append_assoc prefix (concat (map posting_list_bytes (closed_of s ++ last ∷ []))) (three_bytes trigram ++ bytes)

    all_entries : entries.items ≡ list_entries (length prefix) (closed_of s ++ last ∷ [])
    all_entries =
        pushed
        ∙ (λ i. open_list.entries_are i ++ record
        { trigram = s.trigram; count = open_list.counted i; offset = open_list.starts i } ∷ [])
        ∙ sym (entries_push (length prefix) (closed_of s) last)

    all_long : start ≡ length prefix + length (concat (map posting_list_bytes (closed_of s ++ last ∷ [])))
    all_long = starts ∙ sym (length_push (bytes_in s.out) 0) ∙ ap length closed
        ∙ length-append prefix (concat (map posting_list_bytes (closed_of s ++ last ∷ [])))

-- ---- the end

pub record Ended (paths names : List (List ℕ)) (now : Written) (bytes : List ℕ) (entries : List ListEntry) : Type 0 where
  pub lists : bytes ≡ prefix_of paths names ++ concat (map posting_list_bytes (lists_at bytes entries))
  pub entries_are : entries ≡ list_entries (length (prefix_of paths names)) (lists_at bytes entries)
  pub encoding : layout (sections_of paths names (lists_at bytes entries)) ≡ encoding_of now.paths (entries_written now)

ended : (s : Inside) (now : Written) (bytes : List ℕ) (entries : List ListEntry) → written_of s ≡ now → IsSections s →
    lists_at bytes entries ≡ lists_of_fields s →
    bytes ≡ prefix_of s.paths s.names ++ concat (map posting_list_bytes (lists_of_fields s)) →
    entries ≡ list_entries (length (prefix_of s.paths s.names)) (lists_of_fields s) → Ended s.paths s.names now bytes entries
ended s now bytes entries view is read written output = record {
  lists = written ∙ ap (λ ps. prefix_of s.paths s.names ++ concat (map posting_list_bytes ps)) (sym read);
  entries_are = output ∙ ap (list_entries (length (prefix_of s.paths s.names))) (sym read);
  encoding = ap (λ ps. layout (sections_of s.paths s.names ps)) read ∙ written_encoding (written_of s) is.output
      ∙ ap (λ (l : Written). encoding_of l.paths (entries_written l)) view;
}

ended_none : (s : Inside) (now : Written) (bytes : List ℕ) → written_of s ≡ now → IsSections s → s.count ≡ 0 →
    bytes ≡ prefix_of s.paths s.names → Ended s.paths s.names now bytes []
ended_none s now bytes view is zero written =
    let none : lists_of_fields s ≡ [] = ap (λ b. cond b [] (closed_of s ++ (s.trigram, current_ids s) ∷ []))
    (eq-eqb s.count 0 zero) in
    ended s now bytes [] view is (sym none)
    (written ∙ sym (append-nil (prefix_of s.paths s.names))
    ∙ ap (λ ps. prefix_of s.paths s.names ++ concat (map posting_list_bytes ps)) (sym none))
    (ap (list_entries (length (prefix_of s.paths s.names))) (sym none))

lists_push : (bytes : List ℕ) (entries : List ListEntry) (e : ListEntry) →
    lists_at bytes (entries ++ e ∷ []) ≡ lists_at bytes entries ++ (e.trigram, ids_at bytes e) ∷ []
lists_push bytes [] e = refl
lists_push bytes (d ∷ entries) e = ap (λ ps. (d.trigram, ids_at bytes d) ∷ ps) (lists_push bytes entries e)

ended_some : (s : Inside) (now : Written) (bytes : List ℕ) (entries : List ListEntry) → written_of s ≡ now →
    IsSections s → s.count ≢ 0 → bytes ≡ bytes_in s.out ++ 0 ∷ [] → entries ≡ s.entries.items ++ current_list s ∷ [] →
    Ended s.paths s.names now bytes entries
ended_some s now bytes entries view is some written pushed =
    ended s now bytes entries view is
    ((λ i. lists_at (written i) (pushed i)) ∙ lists_push (bytes_at_close s) s.entries.items (current_list s)
    ∙ sym (some_lists s some))
    (written ∙ closed_at prefix (bytes_in s.out) (closed_of s) s.trigram (current_ids s) open_list.written
    ∙ ap (λ bs. prefix ++ bs) (sym (concat_push (closed_of s) last))
    ∙ ap (λ ps. prefix ++ concat (map posting_list_bytes ps)) (sym (some_lists s some)))
    (pushed ∙ (λ i. open_list.entries_are i ++ record
    { trigram = s.trigram; count = open_list.counted i; offset = open_list.starts i } ∷ [])
    ∙ sym (entries_push (length prefix) (closed_of s) last)
    ∙ ap (list_entries (length prefix)) (sym (some_lists s some)))
  where
    last : PostingList
    last = (s.trigram, current_ids s)

    prefix : List ℕ
    prefix = prefix_of s.paths s.names

    open_list : IsOpenAs s (closed_of s) (current_ids s)
    open_list = is.opened some

-- All lists are closed.
pub record Closed (s : Inside) (now : Written) (out : Outgoing) (entries : List ListEntry) : Type 0 where
  pub end : Ended s.paths s.names now (bytes_in out) entries
  pub sent : out.sent ≡ now.sent

pub closed_none : (s : Inside) (now : Written) (out : Outgoing) (entries : List ListEntry) → written_of s ≡ now →
    IsSections s → s.count ≡ 0 → out ≡ record { sent = []; unsent = prefix_of s.paths s.names } →
    entries ≡ s.entries.items → Closed s now out entries
closed_none s now out entries view is zero written same = record {
  end = subst (Ended s.paths s.names now (bytes_in out)) (sym (same ∙ is.unwritten zero))
      (ended_none s now (bytes_in out) view is zero (ap bytes_in written));
  sent = ap (λ (o : Outgoing). o.sent) written ∙ sym (no_sent s is zero) ∙ ap (λ (l : Written). l.sent) view;
}

pub closed_some : (s : Inside) (now : Written) (out : Outgoing) (entries : List ListEntry) → written_of s ≡ now →
    IsSections s → s.count ≢ 0 → out ≡ with_bytes s.out (0 ∷ []) → entries ≡ s.entries.items ++ current_list s ∷ [] →
    Closed s now out entries
closed_some s now out entries view is some written pushed = record {
  end = ended_some s now (bytes_in out) entries view is some (ap bytes_in written ∙ bytes_more s.out (0 ∷ [])) pushed;
  sent = ap (λ (o : Outgoing). o.sent) written ∙ ap (λ (l : Written). l.sent) view;
}

-- ---- the bytes of the lists

pub none_lists : (s : Inside) → s.count ≡ 0 → lists_of_fields s ≡ []
none_lists s zero = ap (λ b. cond b [] (closed_of s ++ (s.trigram, current_ids s) ∷ [])) (eq-eqb s.count 0 zero)

first_at : (at last : ℕ) (ps : List PostingList) → last ≡ at + length (concat (map posting_list_bytes ps)) →
    first_of (list_entries at ps) last ≡ at
first_at at last [] e = omega (arith, e)
first_at at last (p ∷ ps) e = refl

-- the bytes of the output, and the zero that closes the current list
written_long : (s : Inside) → IsSections s → s.count ≢ 0 → length (bytes_in s.out) + 1 ≡ length (bytes_written (written_of s))
written_long s is some =
    let open_list : IsOpenAs s (closed_of s) (current_ids s) = is.opened some in
    let prefix : List ℕ = prefix_of s.paths s.names in
    let pushed = length_push (bytes_in s.out) 0 in
    let written : bytes_in s.out ++ 0 ∷ [] ≡ bytes_written (written_of s) =
    closed_at prefix (bytes_in s.out) (closed_of s) s.trigram (current_ids s) open_list.written
    ∙ ap (λ bs. prefix ++ bs) (sym (concat_push (closed_of s) (s.trigram, current_ids s)))
    ∙ ap (λ ps. prefix ++ concat (map posting_list_bytes ps)) (sym (some_lists s some)) in
    let long = ap length written in
    omega (arith, pushed, long)

pub lists_long : (s : Inside) (first : ℕ) → IsSections s → s.count ≢ 0 → first ≡ first_of s.entries.items s.start →
    length (bytes_in s.out) + 1 ≡ first + length (concat (map posting_list_bytes (lists_of_fields s)))
lists_long s first is some e =
    let open_list : IsOpenAs s (closed_of s) (current_ids s) = is.opened some in
    let prefix : List ℕ = prefix_of s.paths s.names in
    let starts : first ≡ length prefix = e ∙ ap (λ es. first_of es s.start) open_list.entries_are
    ∙ first_at (length prefix) s.start (closed_of s) open_list.starts in
    let long = written_long s is some in
    let both = length-append prefix (concat (map posting_list_bytes (lists_of_fields s))) in
    omega (arith, starts, long, both)

-- ---- the bytes in memory

-- what was sent of the same bytes in two outputs
sent_early : (now : Written) (out : Outgoing) → (now.lists ≢ [] → length (bytes_in out) + 1 ≡ length (bytes_written now)) →
    length out.unsent < 65536 → now.sent ≡ out.sent → IsSentEarly now
sent_early now out long few same some =
    let all = long some in
    let both = length-append out.sent out.unsent in
    let sent = ap length same in
    omega (arith, all, both, sent, few)

written_as_long : (s : Inside) → IsSections s → lists_of_fields s ≢ [] → length (bytes_in s.out) + 1
    ≡ length (bytes_written (written_of s))
written_as_long s is some = written_long s is (λ zero. some (none_lists s zero))

-- few bytes are in memory
pub few_unsent : (s : Inside) (now : Written) → IsSections s → written_of s ≡ now → length s.out.unsent < 65536 → IsSentEarly now
few_unsent s now is view few =
    subst IsSentEarly view (sent_early (written_of s) s.out (written_as_long s is) few refl)

-- all bytes were sent
pub none_unsent : (s : Inside) (out : Outgoing) → IsSections s → out ≡ all_sent s.out → IsSentEarly (written_of (record s { out = out }))
none_unsent s out is all =
    subst (λ (o : Outgoing). IsSentEarly (written_of (record s { out = o }))) (sym all)
    (sent_early (written_of (record s { out = all_sent s.out })) (all_sent s.out)
    (subst IsLong (sym (append-nil (bytes_in s.out))) (written_as_long s is)) (omega arith) refl)
  where
    lists : List ℕ → List PostingList
    lists bytes = cond (eqb s.count 0) []
        (lists_at (bytes ++ 0 ∷ []) s.entries.items ++ (s.trigram, ids_at (bytes ++ 0 ∷ []) (current_list s)) ∷ [])

    IsLong : List ℕ → Type 0
    IsLong bytes = lists bytes ≢ [] → length bytes + 1
        ≡ length (prefix_of s.paths s.names ++ concat (map posting_list_bytes (lists bytes)))

-- the encoding of what is written is an index
pub short : (s : Inside) (now : Written) (bytes : List ℕ) (limit : ℕ) → written_of s ≡ now → IsSections s →
    limit < 2 ^ 32 → bytes ≡ encoding_of now.paths (entries_written now) → length bytes ≤ limit →
    IsIndexable now.paths (entries_written now)
short s now bytes limit view is bound encoding within = written_indexable now (subst IsWritten view is.output)
    (let long = ap length encoding in omega (arith, bound, within, long))

-- ---- the first id of a list

pub one_stream : (id : ℕ) (bytes : List ℕ) → id < 2 ^ 31 → bytes ≡ varint (id + 1) → IsStream bytes 1 (id + 1)
one_stream id bytes small is = subst (λ bs. IsStream bs 1 (id + 1)) (one_varint id ∙ sym is)
    (stream_from (id ∷ []) (omega arith, small, tt))

below_lacks : (lists : List PostingList) (trigram : ℕ) → AllBelow lists trigram → has (trigrams_in lists) trigram ≡ false
below_lacks [] trigram all = refl
below_lacks (p ∷ lists) trigram all = ap (λ b. b || has (trigrams_in lists) trigram)
    (ne_eqb p.0 trigram (λ e. absurd (omega (arith, e, all.0)))) ∙ below_lacks lists trigram all.1

pub one_posting : (now : Written) (trigram id : ℕ) (bytes : List ℕ) → now.last_trigram ≡ Some trigram →
    AllBelow now.lists trigram → id < 2 ^ 31 → bytes ≡ varint (id + 1) →
    with_posting now (trigram, ids_in bytes 1) ≡ with_last_id now id
one_posting now trigram id bytes begun above small is =
    ap (λ ids. with_posting now (trigram, ids))
    (ap (λ bs. ids_in bs 1) (is ∙ sym (one_varint id)) ∙ decoded-stream_of (id ∷ []) (omega arith, small, tt))
    ∙ (λ i. record {
      paths = now.paths;
      names = now.names;
      lists = sym
          (gathered_new now.lists trigram id (below_lacks now.lists trigram above)) i;
      last_trigram = sym begun i;
      sent = now.sent;
    })
    ∙ sym (ap (λ o. option_map_or (λ t. with_written_id now t id) o now) begun)

-- the premises of appending the first id of a list
pub record AtFirst (s : Inside) (now : Written) (trigram id : ℕ) : Type 0 where
  pub begun : now.last_trigram ≡ Some trigram
  pub above : AllBelow now.lists trigram
  pub small : id < 2 ^ 31

pub at_first : (s : Inside) (now : Written) (trigram id : ℕ) → written_of s ≡ now → IsSections s →
    s.pending ≡ Some trigram → id < length now.names → AtFirst s now trigram id
at_first s now trigram id view is pending named = record {
  begun = ap (λ (l : Written). l.last_trigram) (sym view)
      ∙ ap (λ o. option_map_or (λ t. Some t) o (cond (eqb s.count 0) None (Some s.trigram))) pending;
  above = subst (λ (l : Written). AllBelow l.lists trigram) view (subst (IsFresh (lists_of_fields s)) pending is.fresh);
  small = (let at : length s.names ≡ length now.names = ap (λ (l : Written). length l.names) view in omega
      (arith, is.output.bound, named, at));
}

-- ---- several lists

pub stream_is : (bytes : List ℕ) (count next : ℕ) (ids : List ℕ) → bytes ≡ stream_of ids → count ≡ length ids →
    next ≡ next_after 0 ids → AscendWithin max_ids 0 ids → IsStream bytes count next
stream_is bytes count next ids is counted follows up = subst (λ bs. IsStream bs count next) (sym is)
    (subst (λ n. IsStream (stream_of ids) n next) (sym counted)
    (subst (IsStream (stream_of ids) (length ids)) (sym follows) (stream_from ids up)))

pub stream_ids : (bytes : List ℕ) (count : ℕ) (ids : List ℕ) → bytes ≡ stream_of ids → count ≡ length ids →
    AscendWithin max_ids 0 ids → ids_in bytes count ≡ ids
stream_ids bytes count ids is counted up = (λ i. ids_in (is i) (counted i)) ∙ decoded-stream_of ids up
