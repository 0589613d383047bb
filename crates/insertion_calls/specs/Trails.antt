-- One stack for a trace with a read of x put in and without it: what tells the one from the other.
use Rattle.std.specs.Prelude.{◌≡◌, ℕ, suc, ◌+◌, Bool, true, false, cond, ◌&&◌, leb, ℤ, pos, ◌-ℤ◌, length}
use mathlib.Core.List.{List, ◌∷◌, ◌++◌, foldl}
use Rattle.reuse.specs.Lists.{mem, remove, before, distinct}
use Rattle.reuse.specs.Lru.{touch}
use Rattle.insertion_calls.specs.Misses.{misses_from}

-- the misses of a read of an extent at depth d, or of one that was not read before
abbrev pub miss_at : Bool → ℕ → ℕ → ℕ
miss_at known d c = cond (known && leb d c) 0 1

-- after reads of other extents than x from the stack `here` on: the extents read since stand above the others, and with the read of
-- x put in x stands between. Told are how many were read since, at what depth x stands without its read (or would stand, where it
-- was not read), and how many reads miss at size c with it only
pub record Trail (here : List ℕ) (x c : ℕ) (reads : List ℕ) (since depth spoiled : ℕ) : Type 0 where
  pub newer : List ℕ
  pub older : List ℕ
  pub plain : foldl touch here reads ≡ newer ++ older
  pub moved : foldl touch (touch here x) reads ≡ newer ++ (x ∷ remove x older)
  pub newer-once : distinct newer ≡ true
  pub older-once : distinct older ≡ true
  pub apart : (z : ℕ) → mem z newer ≡ true → mem z older ≡ false
  pub unread : mem x newer ≡ false
  pub known : mem x older ≡ mem x here
  pub since-is : since ≡ length newer
  pub depth_is : depth ≡ suc (length newer + length (before x older))
  pub spoiled-is : misses_from c (touch here x) reads ≡ misses_from c here reads + spoiled

-- the change at size c: a miss of the read put in, of an extent that stood at depth `own` if it was known; the reads spoiled; and
-- where the extent is read again, the misses of that read with the read put in, less those without it
abbrev pub change_by : Bool → Bool → ℕ → ℕ → ℕ → ℕ → ℕ → ℤ
change_by known again own since depth spoiled c =
    pos (miss_at known own c + spoiled + cond again (miss_at true (suc since) c) 0) -ℤ pos (cond again (miss_at known depth c) 0)
