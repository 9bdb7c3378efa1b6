-- The text of git's settings: values as texts, and pieces one after another.
use Rattle.std.specs.Prelude.{Option, Some, None, IfSome, unwrap_or, Vec}
use Rattle.std.specs.Option.{option_to_list}
use Rattle.std.specs.Str.{is_utf8, IsUtf8}
use Rattle.std.proofs.Common.{◌≡◌, ◌<◌, ◌≤◌, refl, ℕ, zero, suc, Bool, true, false, cond, List, [], ◌∷◌, ◌++◌, length, map, ap, sym, subst, ◌∙◌, arith}
use Rattle.std.proofs.lemmas.Str.{is_utf8-from_IsUtf8, IsUtf8-from_is_utf8}
use Rattle.std.specs.declared.alloc.Global.{Global}
use Rattle.std.proofs.lemmas.List.{map-append}
use Rattle.cs_listing.specs.Settings.{Directive, Piece, Said, piece_in, said_from, text_of}
use Rattle.cs_listing.specs.SettingReads.{bytes_if, directive_read, directive_if, piece_read, piece_if}
use Rattle.cs_listing.specs.declared.settings_text.Directive.{Directive as OwnDirective}
use Rattle.cs_listing.specs.declared.settings_text.Piece.{Piece as OwnPiece}

-- ---- values as texts

is_no_text : (bytes : List ℕ) (b : Bool) → is_utf8 bytes ≡ b → ¬ (IsUtf8 bytes) → is_utf8 bytes ≡ false
is_no_text bytes true e broken = absurd (broken (IsUtf8-from_is_utf8 bytes e))
is_no_text bytes false e broken = e

pub is_text : (bytes : List ℕ) → IsUtf8 bytes → text_of bytes ≡ Some bytes
is_text bytes utf8 = ap (λ b. cond b (Some bytes) None) (is_utf8-from_IsUtf8 bytes utf8)

pub no_text : (bytes : List ℕ) → ¬ (IsUtf8 bytes) → text_of bytes ≡ None
no_text bytes broken = ap (λ b. cond b (Some bytes) None) (is_no_text bytes (is_utf8 bytes) refl broken)

-- ---- pieces

-- the rest of a text is still to be read, and the whole says this
pub record Reads (whole : Said) (before : List Directive) (section text : List ℕ) : Type 0 where
  pub most : ℕ
  pub enough : length text ≤ most
  pub says : said_from most before section text ≡ whole

module _ (whole : Said) (before : List Directive) (section : List ℕ) where
  pub reads_piece : (text : List ℕ) (piece : Piece) → Reads whole before section text → piece_in section text ≡ Some piece →
      length piece.rest < length text →
      Reads whole (before ++ option_to_list piece.directive) (unwrap_or piece.section section) piece.rest
  reads_piece [] piece reads is shorter = absurd (omega (arith, shorter))
  reads_piece (b ∷ text) piece reads is shorter = by_most reads.most reads.enough reads.says
    where
      after : ℕ → Option Piece → Said
      after n found = unwrap_or (elim found as (λ _. Option Said) [
        | Some p ↦ Some (said_from n (before ++ option_to_list p.directive) (unwrap_or p.section section) p.rest)
        | None ↦ None
      ]) (record { directives = before; is_bad = true })

      by_most : (n : ℕ) → length (b ∷ text) ≤ n → said_from n before section (b ∷ text) ≡ whole →
          Reads whole (before ++ option_to_list piece.directive) (unwrap_or piece.section section) piece.rest
      by_most zero enough says = absurd (omega (arith, enough))
      by_most (suc n) enough says = record { most = n; enough = omega (arith, enough, shorter); says = ap (after n) (sym is) ∙ says }

  pub reads_bad : (text : List ℕ) → Reads whole before section text → piece_in section text ≡ None → 0 < length text →
      whole ≡ record { directives = before; is_bad = true }
  reads_bad [] reads is more = absurd (omega (arith, more))
  reads_bad (b ∷ text) reads is more = by_most reads.most reads.enough reads.says
    where
      after : ℕ → Option Piece → Said
      after n found = unwrap_or (elim found as (λ _. Option Said) [
        | Some p ↦ Some (said_from n (before ++ option_to_list p.directive) (unwrap_or p.section section) p.rest)
        | None ↦ None
      ]) (record { directives = before; is_bad = true })

      by_most : (n : ℕ) → length (b ∷ text) ≤ n → said_from n before section (b ∷ text) ≡ whole →
          whole ≡ record { directives = before; is_bad = true }
      by_most zero enough says = absurd (omega (arith, enough))
      by_most (suc n) enough says = sym says ∙ ap (after n) is

  pub reads_end : (text : List ℕ) → Reads whole before section text → length text ≡ 0 →
      whole ≡ record { directives = before; is_bad = false }
  reads_end [] reads none = by_most reads.most reads.says
    where
      by_most : (n : ℕ) → said_from n before section [] ≡ whole → whole ≡ record { directives = before; is_bad = false }
      by_most zero says = sym says
      by_most (suc n) says = sym says
  reads_end (b ∷ text) reads none = absurd (omega (arith, none))

-- the piece that the code read

directives_more : (before : List OwnDirective) (directive : Option OwnDirective) →
    map directive_read (before ++ option_to_list directive) ≡ map directive_read before ++ option_to_list (directive_if directive)
directives_more before None = map-append directive_read before []
directives_more before (Some directive) = map-append directive_read before (directive ∷ [])

section_after : (begun : Option (Vec ℕ Global)) (section : Vec ℕ Global) →
    unwrap_or (bytes_if begun) section.items ≡ (unwrap_or begun section).items
section_after None section = refl
section_after (Some begun) section = refl

pub next_piece : (whole : Said) (before after : List OwnDirective) (section begun : Vec ℕ Global) (text name : List ℕ)
    (found : Option OwnPiece) (piece : OwnPiece) → Reads whole (map directive_read before) section.items text → name ≡ section.items →
    piece_if found ≡ piece_in name text → IfSome found (λ (p : OwnPiece). length p.rest.now < length text) → found ≡ Some piece →
    after ≡ before ++ option_to_list piece.directive → begun ≡ unwrap_or piece.section section →
    Reads whole (map directive_read after) begun.items piece.rest.now
next_piece whole before after section begun text name found piece reads named says shorter is pushed kept =
    let read : piece_in section.items text ≡ Some (piece_read piece) =
    ap (λ (n : List ℕ). piece_in n text) (sym named) ∙ sym says ∙ ap piece_if is in
    let less : length piece.rest.now < length text =
    subst (λ (f : Option OwnPiece). IfSome f (λ (p : OwnPiece). length p.rest.now < length text)) is shorter in
    let next = reads_piece whole (map directive_read before) section.items text (piece_read piece) reads read less in
    subst (λ (ds : List Directive). Reads whole ds begun.items piece.rest.now)
    (sym (directives_more before piece.directive) ∙ ap (map directive_read) (sym pushed))
    (subst (λ (s : List ℕ). Reads whole (map directive_read before ++ option_to_list (directive_if piece.directive)) s piece.rest.now)
    (section_after piece.section section ∙ ap (λ (v : Vec ℕ Global). v.items) (sym kept)) next)
