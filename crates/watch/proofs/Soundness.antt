-- What the test of a watch says.
use mathlib.Core.Path.{◌≡◌}
use Prim.Native.Nat.{◌+◌, ◌≤◌}
use mathlib.Core.Bool.{true}
use lib.Dec.{leb}
use borrow.Author.Tests.{leb-true, le-leb}
use Rattle.reuse.specs.Limits.{max_reads}
use Rattle.reuse.proofs.Lists.{both}
use Rattle.watch.specs.declared.Watch.{Watch}
use Rattle.watch.specs.Watching.{sound_of}

-- a sound watch
pub record Sound (w : Watch) : Type 0 where
  pub fits : w.cold + w.hits ≤ w.reads
  pub short : w.reads ≤ max_reads

-- the test passes only on a sound watch
pub sound-watch : (w : Watch) → sound_of w ≡ true → Sound w
unfolding sound_of
sound-watch w h =
    let p = both (leb (w.cold + w.hits) w.reads) (leb w.reads max_reads) h in
    record { fits = leb-true (w.cold + w.hits) w.reads p.0; short = leb-true w.reads max_reads p.1 }

-- and on every sound watch
pub watch-sound : (w : Watch) → Sound w → sound_of w ≡ true
unfolding sound_of
watch-sound w s = simp (le-leb (w.cold + w.hits) w.reads s.fits, le-leb w.reads max_reads s.short)
