-- The bytes of RFC 4180 that part fields and records. Assumes nothing.
use Rattle.std.specs.Prelude.{ℕ}

-- COMMA = %x2C
abbrev pub COMMA : ℕ
COMMA = 0x2C

-- CR = %x0D
abbrev pub CR : ℕ
CR = 0x0D

-- DQUOTE = %x22
abbrev pub DQUOTE : ℕ
DQUOTE = 0x22

-- LF = %x0A
abbrev pub LF : ℕ
LF = 0x0A
