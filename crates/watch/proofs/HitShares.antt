-- The share of any watch, whether or not a log has it.
use Rattle.reuse.specs.declared.refusals.Refusal.TheVariants.{Unsound}
use Rattle.std.specs.Prelude.{Ok}
use mathlib.Core.Path.{◌≡◌}
use native.Mathlib.Omega.{arith}
use mathlib.Core.Bool.{true}
use Rattle.summary_calls.specs.Calls.{share_of}
use Rattle.summary_calls.specs.HitShares.{NoneOf, Between}
use Rattle.summary_calls.proofs.HitShares.{share-none, share-between, given-share}
use Rattle.watch.specs.declared.Watch.{Watch}
use Rattle.watch.specs.Watching.{sound_of, servable_of, share_call}
use Rattle.watch.proofs.Soundness.{sound-watch}

-- the share of a sound watch is 'no reads' exactly where each of its reads is cold
pub watch-none : (w : Watch) → sound_of w ≡ true → NoneOf (servable_of w) (share_call w)
unfolding share_call
watch-none w ok = simp ok (share-none w.hits (servable_of w))

-- the share of any watch is between 0 and 1
pub watch-between : (w : Watch) → Between (share_call w)
unfolding share_call
watch-between w x e =
    let q = given-share (sound_of w) (Ok (share_of w.hits (servable_of w))) Unsound x e in
    share-between w.hits (servable_of w) (omega (arith, (sound-watch w q.0).fits)) x q.1
