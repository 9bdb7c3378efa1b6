-- What functions that read settings promise each other.
use Rattle.std.specs.Prelude.{ℕ, ◌≡◌, Bool, true, false, List, map, Option, Some, None, option_map, String, string_bytes, Vec}
use Rattle.std.specs.declared.alloc.Global.{Global}
use Rattle.cs_tree.specs.Snapshot.{Snapshot}
use Rattle.cs_listing.specs.Listing.{TreeItems}
use Rattle.cs_listing.specs.FolderReads.{InTree}
use Rattle.cs_listing.specs.ReportsAll.{paths_noted}
use Rattle.cs_listing.specs.Settings.{ReadPart, Value, Setting, Directive, excludes, includes, Piece, Said}
use Rattle.cs_listing.specs.UserRules.{User, FoundSettings, after_directive, after_included}
use Rattle.cs_listing.specs.declared.user_settings.FoundSettings.{FoundSettings as OwnFound}
use Rattle.cs_listing.specs.declared.settings_text.ReadPart.{ReadPart as OwnPart}
use Rattle.cs_listing.specs.declared.settings_text.Value.{Value as OwnValue}
use Rattle.cs_listing.specs.declared.settings_text.Setting.{Setting as OwnSetting}
use Rattle.cs_listing.specs.declared.settings_text.Directive.{Directive as OwnDirective}
use Rattle.cs_listing.specs.declared.settings_text.Directive.TheVariants.{Excludes, Includes}
use Rattle.cs_listing.specs.declared.settings_text.Piece.{Piece as OwnPiece}
use Rattle.cs_listing.specs.declared.settings_text.Said.{Said as OwnSaid}

-- ---- what the values of the code stand for

abbrev pub bytes_if : Option (Vec ℕ Global) → Option (List ℕ)
bytes_if bytes = option_map (λ (bytes : Vec ℕ Global). bytes.items) bytes

abbrev pub text_if : Option (String Global) → Option (List ℕ)
text_if text = option_map string_bytes text

abbrev pub part_of : OwnPart → ReadPart
part_of part = record { bytes = part.bytes.items; rest = part.rest.now }

abbrev pub part_if : Option OwnPart → Option ReadPart
part_if part = option_map part_of part

abbrev pub value_of : OwnValue → Value
value_of value = record { bytes = value.bytes.items; spaces = value.spaces.items; is_quoted = value.is_quoted; is_escaped = value.is_escaped }

abbrev pub setting_read : OwnSetting → Setting
setting_read setting = record { name = setting.name.items; value = bytes_if setting.value; rest = setting.rest.now }

abbrev pub setting_if : Option OwnSetting → Option Setting
setting_if setting = option_map setting_read setting

abbrev pub directive_read : OwnDirective → Directive
directive_read (Excludes path) = excludes (string_bytes path)
directive_read (Includes condition path) = includes (text_if condition) (string_bytes path)

abbrev pub directive_if : Option OwnDirective → Option Directive
directive_if directive = option_map directive_read directive

abbrev pub piece_read : OwnPiece → Piece
piece_read piece = record { directive = directive_if piece.directive; section = bytes_if piece.section; rest = piece.rest.now }

abbrev pub piece_if : Option OwnPiece → Option Piece
piece_if piece = option_map piece_read piece

abbrev pub said_read : OwnSaid → Said
said_read said = record { directives = map directive_read said.directives.items; is_bad = said.is_bad }

-- ---- values

-- a byte is read, or git does not know the escape
abbrev pub ReadsByte : Option Value → OwnValue → Bool → Type 0
ReadsByte after new true = after ≡ Some (value_of new)
ReadsByte after new false = after ≡ None

-- ---- files of settings

abbrev pub found_in : OwnFound → FoundSettings
found_in found = record { value = text_if found.value; files = found.files; unread = paths_noted found.reader }

-- what is found in a modelled tree
abbrev pub Finds : Option Snapshot → OwnFound → (TreeItems → FoundSettings) → Type 0
Finds snapshot found known = InTree snapshot (λ items. found_in found ≡ known items)

-- A directive of a file is read, and a file that it includes is still to be read.
abbrev pub ReadsDirective : User → List ℕ → Directive → FoundSettings → FoundSettings → Option (List ℕ) → Type 0
ReadsDirective user file directive old new path =
    (follow : List ℕ → FoundSettings → FoundSettings) → after_directive follow user file directive old ≡ after_included follow path new
