-- What BLOCKS adds before the floor, so that every begun block counts: one less than a block has.
-- Assumes nothing.
use Prim.Native.Nat.{ℕ, ◌-◌, ◌^◌}

abbrev pub up_to_next : ℕ → ℕ
up_to_next m = 2 ^ m - 1
