-- What is learned, file by file.
use Rattle.std.proofs.Common.{◌≡◌, ◌∙◌, ◌+◌, ◌<◌, ◌++◌, ◌∷◌, [], ℕ, Bool, true, false, if◌then◌else◌, length, List, Option, Some, None, refl, sym, ap, map, get_or, take}
use Rattle.std.specs.Prelude.{filter, string_bytes}
use Rattle.std.specs.List.{cons_option, AllByRecursion}
use Rattle.std.specs.Option.{option_to_list}
use Rattle.std.proofs.lemmas.List.{map-append, take_more}
use Rattle.std.proofs.lemmas.List.Elements.{filter-append, filter_map-append}
use Rattle.cs_index.specs.Built.{Built}
use Rattle.cs_state.specs.Known.{HasNumbers}
use Rattle.cs_state.specs.StampedNames.{IsLearnable, cover_of, stamped}
use Rattle.cs_update.specs.Contents.{Content}
use Rattle.cs_update.specs.Learning.{HasLearned, LearnedFile, Seen, all_learned, entry_in, is_learnable, known_in, learned_as, learned_if_old, seen_of}
use Rattle.cs_update.specs.Updating.{covers_seen}
use Rattle.cs_known.specs.Learned.{Run}
use Rattle.cs_known.specs.declared.types.SeenFile.{SeenFile}

-- ---- one more file

all_more : {X : Type 0} (P : X → Type 0) (xs : List X) (x : X) → AllByRecursion P xs → P x → AllByRecursion P (xs ++ x ∷ [])
all_more P [] x all is = (is, tt)
all_more P (y ∷ xs) x all is = (all.0, all_more P xs x all.1 is)

pub file_learned : (seen : Seen) (content : Content) (files : List LearnedFile) (old new : Built) → HasLearned old files →
    IsLearnable seen.0 → HasNumbers seen.1 → (name set : List ℕ) → name ≡ stamped (known_in (learned_as seen content)) →
    set ≡ content.trigrams → new.entries ≡ old.entries ++ (name, set) ∷ [] → HasLearned new (files ++ learned_as seen content ∷ [])
file_learned seen content files old new has learnable fits name set named are grew =
    let one = learned_as seen content in
    record {
      entries = grew ∙ (λ i. has.entries i ++ (named i, are i) ∷ []) ∙ sym (map-append entry_in files (one ∷ []));
      names = all_more (λ (file : LearnedFile). IsLearnable file.name) files one has.names learnable;
      numbers = all_more (λ (file : LearnedFile). HasNumbers file.stamp) files one has.numbers fits;
    }

-- ---- the files of a list

next_seen : (files : List SeenFile) (at : ℕ) (file : SeenFile) → at < length files → file ≡ get_or files at file →
    map seen_of (take (at + 1) files) ≡ map seen_of (take at files) ++ seen_of file ∷ []
next_seen files at file low is =
    ap (map seen_of) (take_more files at file low ∙ ap (λ y. take at files ++ y ∷ []) (sym is)) ∙ map-append seen_of (take at files) (file ∷ [])

last_one : {Y : Type 0} (o : Option Y) → cons_option o [] ≡ option_to_list o
last_one None = refl
last_one (Some y) = refl

pub learned_next : (run : Run) (files : List SeenFile) (at : ℕ) (file : SeenFile) → at < length files → file ≡ get_or files at file →
    all_learned run (map seen_of (take at files)) ++ option_to_list (learned_if_old run (seen_of file))
    ≡ all_learned run (map seen_of (take (at + 1) files))
learned_next run files at file low is =
    let seen = map seen_of (take at files) in
    let learned = learned_if_old run in
    ap (λ l. all_learned run seen ++ l) (sym (last_one (learned (seen_of file))))
    ∙ sym (filter_map-append learned seen (seen_of file ∷ [])) ∙ sym (ap (all_learned run) (next_seen files at file low is))

-- ---- covers

covers_more : (seen : List Seen) (one : Seen) → covers_seen (seen ++ one ∷ [])
    ≡ covers_seen seen ++ map cover_of (filter is_learnable (one.0 ∷ []))
covers_more seen one =
    ap (λ names. map cover_of (filter is_learnable names)) (map-append (λ (x : Seen). x.0) seen (one ∷ []))
    ∙ ap (map cover_of) (filter-append is_learnable (map (λ (x : Seen). x.0) seen) (one.0 ∷ []))
    ∙ map-append cover_of (filter is_learnable (map (λ (x : Seen). x.0) seen)) (filter is_learnable (one.0 ∷ []))

-- what the test of one more name adds
abbrev pub added : Bool → List ℕ → List (List ℕ)
added test name = if test then cover_of name ∷ [] else []

pub covers_next : (files : List SeenFile) (at : ℕ) (file : SeenFile) (test : Bool) → at < length files → file ≡ get_or files at file →
    test ≡ is_learnable (string_bytes file.name) →
    covers_seen (map seen_of (take at files)) ++ added test (string_bytes file.name) ≡ covers_seen (map seen_of (take (at + 1) files))
covers_next files at file test low is tested =
    let seen = map seen_of (take at files) in
    ap (λ l. covers_seen seen ++ l) (ap (λ b. added b (string_bytes file.name)) tested ∙ by_test (is_learnable (string_bytes file.name)) refl)
    ∙ sym (covers_more seen (seen_of file)) ∙ sym (ap covers_seen (next_seen files at file low is))
  where
    by_test : (b : Bool) → is_learnable (string_bytes file.name) ≡ b →
        added b (string_bytes file.name) ≡ map cover_of (if b then string_bytes file.name ∷ [] else [])
    by_test true e = refl
    by_test false e = refl
