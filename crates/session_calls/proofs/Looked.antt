-- The search among a session's slots: what it finds, and the slots that it looks at.
use Prim.Native.Nat.{ℕ, ◌-◌}
use mathlib.Core.Path.{◌≡◌, sym, ◌∙◌}
use mathlib.Core.List.{reverse}
use mathlib.Core.Bool.{true, false}
use lib.ListN.{length}
use Rattle.reuse.specs.Lists.{mem, from}
use Rattle.session_calls.specs.Sessions.{FullSession, marks, stack_of}
use Rattle.session_calls.specs.Reads.{slot_of, looked_at}
use Rattle.session_marks.specs.Marks.{Searched}
use Rattle.session_marks.proofs.Marks.{row-tidy}
use Rattle.session_marks.proofs.Looked.{looked-known, count-known, looked-new, count-new}
use Rattle.session_calls.proofs.Sound.{Kept, kept-wide}
use Rattle.session_calls.proofs.Taken.{stack-mem}

module _ (s : FullSession) (k : Kept s) where
  -- what it relies on
  pub searched : Searched s.slots (marks s) s.next
  searched = record {
    slots-wide = (kept-wide s k).slots-wide;
    marks-wide = k.rows.wide;
    low = k.rows.low;
    free = k.rows.free;
    neat = row-tidy k.rows.row;
    apart = k.rows.apart;
  }

  module _ (x : ℕ) where
    module _ (old : mem x (stack_of s) ≡ true) where
      -- of a known extent it looks at the slots from the newest down to the extent's own
      pub looked-old : looked_at s x ≡ reverse (from (slot_of s x) (s.next - slot_of s x))
      unfolding slot_of looked_at
      looked-old = looked-known s.slots (marks s) s.next x searched (sym (stack-mem s k x) ∙ old)

      -- as many as next less its slot
      pub count-old : length (looked_at s x) ≡ s.next - slot_of s x
      unfolding slot_of looked_at
      count-old = count-known s.slots (marks s) s.next x searched (sym (stack-mem s k x) ∙ old)

    module _ (absent : mem x (stack_of s) ≡ false) where
      -- of any other at all below next
      pub looked-absent : looked_at s x ≡ reverse (from 0 s.next)
      unfolding looked_at
      looked-absent = looked-new s.slots (marks s) s.next x searched (sym (stack-mem s k x) ∙ absent)

      -- as many as next
      pub count-absent : length (looked_at s x) ≡ s.next
      unfolding looked_at
      count-absent = count-new s.slots (marks s) s.next x searched (sym (stack-mem s k x) ∙ absent)
