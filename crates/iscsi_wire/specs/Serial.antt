-- Serial numbers of 32 bits (RFC 1982), against numbers without bound. The session's first number stands
-- 2 ^ 32 above its CmdSN, so that no number that is nearest to one of the session is below 0.
use Rattle.std.specs.Prelude.{ℕ, ◌+◌, ◌-◌, ◌%◌, ◌^◌}

-- what the wire shows of a number
abbrev pub wire : ℕ → ℕ
wire n = n % 2 ^ 32

-- the number nearest to e that the wire shows as w: from e - 2 ^ 31 on, and below e + 2 ^ 31
abbrev pub lift : ℕ → ℕ → ℕ
lift e w = (e - 2 ^ 31) + (w + (2 ^ 32 - wire (e - 2 ^ 31))) % 2 ^ 32

-- the number of a session's first CmdSN
abbrev pub number_of_first : ℕ → ℕ
number_of_first first = 2 ^ 32 + first
