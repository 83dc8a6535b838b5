-- What a flow-control window may be (RFC 9113 section 6.9.1).
use Rattle.std.specs.Prelude.{ℤ, pos, ◌-ℤ◌, ◌≤ℤ◌, ◌^◌, ◌-◌}

-- the greatest window, 2,147,483,647 bytes
abbrev pub greatest : ℤ
greatest = pos (2 ^ 31 - 1)

-- the least window; a window may be negative, since SETTINGS can lower the size that streams began with
abbrev pub least : ℤ
least = pos 0 -ℤ pos (2 ^ 31)

pub record IsWindow (value : ℤ) : Type 0 where
  pub low : least ≤ℤ value
  pub high : value ≤ℤ greatest
