-- A trace taken from an empty stack through the engine: how many extents are held.
use Prim.Native.Nat.{ℕ, suc, ◌≤◌, ◌<◌, min}
use mathlib.Core.Path.{◌≡◌, sym, ◌∙◌}
use mathlib.Core.List.{List, foldl}
use native.Mathlib.Omega.{arith}
use lib.ListN.{length, take, get_or}
use Rattle.reuse.specs.Limits.{max_extents}
use Rattle.reuse.specs.Lists.{firsts}
use Rattle.reuse.specs.Lru.{touch, stack as lru_stack}
use Rattle.reuse.proofs.Stack.{length-stack}
use Rattle.reuse_engine.specs.declared.Place.{Place}
use Rattle.reuse_engine.specs.declared.Place.TheVariants.{Full}
use Rattle.reuse_engine.specs.Engine.{place_of}
use Rattle.reuse_engine.proofs.Runs.{Running, run_end, run-full, held_fits}

-- a trace taken from an empty stack through the engine
module _ (stack trace row : List ℕ) (held i : ℕ) (h : Running stack 0 trace row held i) (wide : length stack ≡ max_extents) where
  -- the stack after all reads has each extent once
  all_held : length (foldl touch (take 0 stack) trace) ≡ length (firsts trace)
  all_held = unfold lru_stack in length-stack trace

  -- all are taken: what is held is the count
  pub held-count : length trace ≤ i → held ≡ min (length (firsts trace)) (suc max_extents)
  held-count l = omega (arith, run_end stack 0 trace row held i h l, all_held, held_fits stack 0 trace row held i h, h.long)

  -- there is no room for a new extent: the count is over the limit
  pub full-count : i < length trace → (r : Place) → r ≡ place_of row held (get_or trace i 0) → r ≡ Full
      → suc max_extents ≡ min (length (firsts trace)) (suc max_extents)
  full-count l r p e = omega (arith, run-full stack 0 trace row held i h l (sym p ∙ e), all_held)
