-- Bad fields: RFC 9113, sections 8.2.1 and 8.2.2.
use Rattle.std.specs.Prelude.{ℕ, Bool, false, not, ◌&&◌, ◌||◌, ◌==◌, ◌-◌, nat_le, List, length, drop, slice_get, codes}
use Rattle.std.specs.List.{list_any}
use Rattle.std.specs.Option.{option_map_or}
use Rattle.std.specs.Str.{bytes_eq}
use Rattle.hpack_blocks.specs.declared.fields.Field.{Field}

abbrev pub is_named : List ℕ → Field → Bool
is_named name f = bytes_eq f.name name

-- a control, the blank, an upper-case letter, DEL or no ASCII
abbrev pub is_bad_in_name : ℕ → Bool
is_bad_in_name b = nat_le b 0x20 || (nat_le 0x41 b && nat_le b 0x5A) || nat_le 0x7F b

-- 58 is the colon, with which alone a name may begin
abbrev pub is_bad_name : List ℕ → Bool
is_bad_name name = length name == 0 || list_any is_bad_in_name name || list_any (λ b. b == 58) (drop 1 name)

-- NUL, LF or CR
abbrev pub is_bad_in_value : ℕ → Bool
is_bad_in_value b = b == 0 || b == 0x0A || b == 0x0D

-- the blank or the tab
abbrev pub is_blank : ℕ → Bool
is_blank b = b == 0x20 || b == 0x09

abbrev pub is_blank_at : List ℕ → ℕ → Bool
is_blank_at value place = option_map_or is_blank (slice_get value place) false

abbrev pub is_bad_value : List ℕ → Bool
is_bad_value value = list_any is_bad_in_value value || is_blank_at value 0 || is_blank_at value (length value - 1)

-- fields of a connection of HTTP/1.1
abbrev pub is_connection_name : List ℕ → Bool
is_connection_name name =
    bytes_eq name (codes "connection") || bytes_eq name (codes "proxy-connection") || bytes_eq name (codes "keep-alive") || bytes_eq name (codes "transfer-encoding") || bytes_eq name (codes "upgrade")

-- `te` may say `trailers` alone
abbrev pub is_bad_te : Field → Bool
is_bad_te f = is_named (codes "te") f && not (bytes_eq f.value (codes "trailers"))

unfoldable pub is_bad : Field → Bool
is_bad f = is_bad_name f.name || is_bad_value f.value || is_connection_name f.name || is_bad_te f

-- a pseudo-field: its name begins with a colon
unfoldable pub is_pseudo : Field → Bool
is_pseudo f = option_map_or (λ b. b == 58) (slice_get f.name 0) false

-- what has no place in trailers
abbrev pub is_misplaced : Field → Bool
is_misplaced f = is_bad f || is_pseudo f

-- the trailers of a client
abbrev pub is_good_trailer : List Field → Bool
is_good_trailer fields = not (list_any is_misplaced fields)
