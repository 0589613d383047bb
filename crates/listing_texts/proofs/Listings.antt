-- What a listing says: of the text of a trace the misses of the cache of every size, of any other text the refusal's number.
use mathlib.Core.Path.{◌≡◌, sym, ap, ◌∙◌}
use Prim.Native.Nat.{ℕ}
use mathlib.Core.List.{List, []}
use lib.ListN.{length}
use Rattle.reuse.specs.Lists.{firsts}
use Rattle.reuse.specs.Lru.{reuses, misses_at}
use Rattle.reuse.specs.Cache.{cache_misses}
use Rattle.reuse.proofs.Misses.{cache-misses}
use Rattle.texts.specs.Lines.{got, refused}
use Rattle.texts.specs.Logs.{log_text, log_of, Within}
use Rattle.texts.proofs.LogRuns.{round_trip}
use Rattle.listing_texts.specs.Listings.{listed, refused_text, sizes_of, output_of, listing_of}
use Rattle.listing_texts.proofs.Refining.{listed_same}

-- a text that is read as a trace gives the trace's listing
pub listing-read : (text t : List ℕ) → log_of text ≡ got t → listing_of text ≡ sizes_of t
unfolding listing_of
listing-read text t e = ap output_of e

-- a text that is refused gives the refusal's number
pub listing-refused : (text : List ℕ) (k n : ℕ) → log_of text ≡ refused k n → listing_of text ≡ refused_text n
unfolding listing_of
listing-refused text k n e = ap output_of e

-- the text of a trace within the limits gives the trace's listing
pub listing-trace : (t : List ℕ) → Within t → listing_of (log_text t) ≡ sizes_of t
listing-trace t w = listing-read (log_text t) t (round_trip t w)

-- the misses in a trace's listing are those of the cache of each size
pub sizes-cache : (t : List ℕ) → sizes_of t ≡ listed (length t) (length (firsts t)) (λ c. cache_misses c t)
unfolding sizes_of
sizes-cache t =
    listed_same (length t) (length (firsts t)) (λ c. misses_at c (reuses [] t)) (λ c. cache_misses c t) (λ c. sym (cache-misses c t))

-- so the text of a trace gives the misses of the cache of each size
pub listing-cache : (t : List ℕ) → Within t → listing_of (log_text t) ≡ listed (length t) (length (firsts t)) (λ c. cache_misses c t)
listing-cache t w = listing-trace t w ∙ sizes-cache t
