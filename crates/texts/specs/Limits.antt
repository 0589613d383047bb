-- The limits of the texts: those of refusals 2 and 4. The limits of 8 and 9 are the traces'.
use Rattle.std.specs.Prelude.{ℕ}

-- the most bytes of a plan text
abbrev pub max_bytes : ℕ
max_bytes = 65_536

-- the most joins open together
abbrev pub max_joins : ℕ
max_joins = 8

-- the most parts of one join
abbrev pub max_parts : ℕ
max_parts = 16

-- the longest seg
abbrev pub max_seg : ℕ
max_seg = 1_048_576

-- the largest extent
abbrev pub max_extent : ℕ
max_extent = 4_294_967_295
