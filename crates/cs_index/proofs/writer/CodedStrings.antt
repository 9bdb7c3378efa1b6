-- Appending a string to strings in incremental encoding.
use Rattle.std.proofs.Common.{◌≡◌, ◌≢◌, Bool, true, false, not, ℕ, suc, ◌+◌, ◌-◌, ◌^◌, ◌<◌, ◌≤◌, List, [], ◌∷◌, ◌++◌, length, map, flat_map, take, drop, Some, refl, sym, ap, subst, ◌∙◌, arith, append_assoc, length-append, slice_get}
use Rattle.std.proofs.lemmas.List.{take_all, take-append-le, drop-append-le, take-append-drop, drop_all, length-take-le, length_push}
use Rattle.std.proofs.lemmas.Bool.{true≢false}
use Rattle.std.proofs.Math.Seq.{take-add}
use Rattle.std.specs.Cmp.Lexicographic.{pointwise, same_text}
use Rattle.std.specs.Prelude.{nat_eq}
use Rattle.std.specs.List.{concat}
use Rattle.cs_index.specs.declared.writing.strings.StringCode.{StringCode}
use Rattle.cs_index.specs.Encoding.{with_nul, four_bytes, starts_from}
use Rattle.cs_index.specs.StringCodes.{text_of, texts_from, last_text, AreCodes, IsCoded}
use Rattle.cs_index.proofs.writer.StringsPush.{joined_push, last_of, last_is}

-- one more code, and its bytes
pub record Pushed (last : List ℕ) (codes : List StringCode) (rests : List ℕ) (code : StringCode) (rest : List ℕ) : Type 0 where
  pub are : AreCodes last (codes ++ code ∷ []) (rests ++ rest)
  pub texts : texts_from last (codes ++ code ∷ []) (rests ++ rest)
      ≡ texts_from last codes rests ++ (take code.shared (last_text last codes rests) ++ rest) ∷ []
  pub last_is : last_text last (codes ++ code ∷ []) (rests ++ rest) ≡ take code.shared (last_text last codes rests) ++ rest

pub pushed : (last : List ℕ) (codes : List StringCode) (rests : List ℕ) (code : StringCode) (rest : List ℕ) →
    AreCodes last codes rests → code.rest ≡ length rest → code.shared ≤ length (last_text last codes rests) →
    Pushed last codes rests code rest
pushed last [] rests code rest are long within =
    let all : take code.rest rest ≡ rest = take_all code.rest rest (omega (arith, long)) in
    let text : text_of last code rest ≡ take code.shared last ++ rest = ap (λ r. take code.shared last ++ r) all in
    subst (λ rs. Pushed last [] rs code rest) (sym are) (record {
      are = (within, omega (arith, long), drop_all code.rest rest (omega (arith, long)));
      texts = ap (λ t. t ∷ []) text;
      last_is = text;
    })
pushed last (c ∷ codes) rests code rest are long within =
    let text : List ℕ = text_of last c rests in
    let text_is : text ≡ text_of last c (rests ++ rest) =
    ap (λ r. take c.shared last ++ r) (sym (take-append-le c.rest rests rest are.1)) in
    let rest_is : drop c.rest rests ++ rest ≡ drop c.rest (rests ++ rest) = sym (drop-append-le c.rest rests rest are.1) in
    let more = pushed text codes (drop c.rest rests) code rest are.2 long within in
    let whole = length-append rests rest in
    record {
      are = (
        are.0,
        omega (arith, are.1, whole),
        subst (λ t. AreCodes t (codes ++ code ∷ []) (drop c.rest (rests ++ rest))) text_is
            (subst (AreCodes text (codes ++ code ∷ [])) rest_is more.are),
      );
      texts = (λ i. sym text_is i ∷ texts_from (sym text_is i) (codes ++ code ∷ []) (sym rest_is i))
          ∙ ap (λ ts. text ∷ ts) more.texts;
      last_is = (λ i. last_text (sym text_is i) (codes ++ code ∷ []) (sym rest_is i)) ∙ more.last_is;
    }

-- one more string
pub record Grown (codes : List StringCode) (rests : List ℕ) (len : ℕ) (code : StringCode) (rest text : List ℕ) : Type 0 where
  pub is : IsCoded (codes ++ code ∷ []) (rests ++ rest) text (len + length text + 1)
  pub texts : texts_from [] (codes ++ code ∷ []) (rests ++ rest) ≡ texts_from [] codes rests ++ text ∷ []

pub grown : (codes : List StringCode) (rests last : List ℕ) (len shared : ℕ) (code : StringCode) (text : List ℕ) →
    IsCoded codes rests last len → code.shared ≡ shared → code.rest ≡ length (drop shared text) →
    shared ≤ length last → take shared last ≡ take shared text → len + length text < 2 ^ 60 →
    Grown codes rests len code (drop shared text) text
grown codes rests last len shared code text is at long within same bound =
    let before : last ≡ last_text [] codes rests = is.last_is in
    let more = pushed [] codes rests code (drop shared text) is.are long
    (subst (λ (l : List ℕ). code.shared ≤ length l) before (omega (arith, at, within))) in
    let text_is : take code.shared (last_text [] codes rests) ++ drop shared text ≡ text =
    (λ i. take (at i) (sym before i) ++ drop shared text) ∙ ap (λ t. t ++ drop shared text) same
    ∙ take-append-drop shared text in
    let texts : texts_from [] (codes ++ code ∷ []) (rests ++ drop shared text) ≡ texts_from [] codes rests ++ text ∷ [] =
    more.texts ∙ ap (λ t. texts_from [] codes rests ++ t ∷ []) text_is in
    let joined = ap length (ap (λ (ts : List (List ℕ)). concat (map with_nul ts)) texts ∙ joined_push (texts_from [] codes rests) text)
    ∙ length-append (concat (map with_nul (texts_from [] codes rests))) (with_nul text) in
    let nul = length_push text 0 in
    record {
      is = record {
        are = more.are;
        last_is = sym (more.last_is ∙ text_is);
        counted = omega (arith, joined, nul, is.counted);
        bound = omega (arith, bound);
      };
      texts = texts;
    }

pub count_texts : (last : List ℕ) (codes : List StringCode) (rests : List ℕ) → length codes ≡ length (texts_from last codes rests)
count_texts last [] rests = refl
count_texts last (c ∷ codes) rests = ap suc (count_texts (text_of last c rests) codes (drop c.rest rests))

-- the last string
pub last_there : (last : List ℕ) (c : StringCode) (codes : List StringCode) (rests : List ℕ) →
    last_of (texts_from last (c ∷ codes) rests) ≡ Some (last_text last (c ∷ codes) rests)
last_there last c [] rests = refl
last_there last c (d ∷ codes) rests = last_there (text_of last c rests) d codes (drop c.rest rests)

pub last_at : (codes : List StringCode) (rests : List ℕ) → length codes ≢ 0 →
    slice_get (texts_from [] codes rests) (length (texts_from [] codes rests) - 1) ≡ Some (last_text [] codes rests)
last_at [] rests some = absurd (some refl)
last_at (c ∷ codes) rests some = last_is (texts_from [] (c ∷ codes) rests) ∙ last_there [] c codes rests

-- the length of a string
pub text_long : (last : List ℕ) (code : StringCode) (rests : List ℕ) → code.shared ≤ length last → code.rest ≤ length rests →
    length (text_of last code rests) ≡ code.shared + code.rest
text_long last code rests shared rest =
    let first = length-take-le code.shared last shared in
    let second = length-take-le code.rest rests rest in
    let both = length-append (take code.shared last) (take code.rest rests) in
    omega (arith, first, second, both)

-- Numbers of strings so far are in an output, and those of the remaining strings follow.
pub record Remaining (start : ℕ) (codes : List StringCode) (output whole : List ℕ) (len : ℕ) : Type 0 where
  pub last : List ℕ
  pub rests : List ℕ
  pub are : AreCodes last codes rests
  pub follow : output ++ flat_map four_bytes (starts_from start (map with_nul (texts_from last codes rests))) ≡ whole
  pub ends : start + length (concat (map with_nul (texts_from last codes rests))) ≡ len

-- the next string
pub next_start : (start : ℕ) (code : StringCode) (codes : List StringCode) (output more whole : List ℕ) (len : ℕ) →
    Remaining start (code ∷ codes) output whole len → more ≡ output ++ four_bytes start →
    Remaining (start + code.shared + code.rest + 1) codes more whole len
next_start start code codes output more whole len now is =
    let text : List ℕ = text_of now.last code now.rests in
    let after : List (List ℕ) = texts_from text codes (drop code.rest now.rests) in
    let long = text_long now.last code now.rests now.are.0 now.are.1 in
    let nul = length_push text 0 in
    let at : start + length (with_nul text) ≡ start + code.shared + code.rest + 1 = omega (arith, long, nul) in
    let all = length-append (with_nul text) (concat (map with_nul after)) in
    record {
      last = text;
      rests = drop code.rest now.rests;
      are = now.are.2;
      follow = (λ i. is i ++ flat_map four_bytes (starts_from (sym at i) (map with_nul after)))
          ∙ append_assoc output (four_bytes start) (flat_map four_bytes (starts_from (start + length (with_nul text)) (map with_nul after)))
          ∙ now.follow;
      ends = omega (arith, at, all, now.ends);
    }

-- texts that begin alike and go on alike
pub same_more : (len : ℕ) (xs ys : List ℕ) (other : Bool) → take len xs ≡ take len ys →
    other ≡ not (pointwise nat_eq (take (len + 16 - len) (drop len xs)) (take (len + 16 - len) (drop len ys))) → other ≡ false →
    take (len + 16) xs ≡ take (len + 16) ys
same_more len xs ys other same test is =
    let count : len + 16 - len ≡ 16 = omega arith in
    let next : take (len + 16 - len) (drop len xs) ≡ take (len + 16 - len) (drop len ys) =
    same_text (take (len + 16 - len) (drop len xs)) (take (len + 16 - len) (drop len ys)) (negated _ (sym test ∙ is)) in
    take-add len 16 xs ∙ (λ i. same i ++ (sym (ap (λ n. take n (drop len xs)) count) ∙ next ∙ ap (λ n. take n (drop len ys)) count) i)
    ∙ sym (take-add len 16 ys)
  where
    negated : (b : Bool) → not b ≡ false → true ≡ b
    negated true e = refl
    negated false e = absurd (true≢false e)
