-- A log text taken by tallies goes as one taken by traces goes, byte by byte, in whatever pieces, and prints its listing.
use mathlib.Core.Path.{◌≡◌, refl}
use Prim.Native.Nat.{ℕ, zero, suc}
use mathlib.Core.List.{List, [], ◌∷◌, ◌++◌}
use mathlib.Core.Bool.{Bool, true, false}
use mathlib.Core.Option.{Option, none, some}
use lib.Dec.{eqb}
use lib.ListN.{length}
use Rattle.reuse.specs.Lists.{firsts}
use Rattle.reuse.specs.Lru.{reuses, misses_at}
use Rattle.reuse.specs.Summary.{histogram}
use Rattle.reuse.proofs.Lists.{by-test}
use Rattle.reuse.proofs.Words.{length-histogram}
use Rattle.texts.specs.Words.{after}
use Rattle.texts.specs.Lines.{Answer, to, no, Fed, at, stopped, got, unless, line_done, byte, feed_by, finish_by}
use Rattle.texts.specs.Logs.{trace_word, Row, row, bad_row, row_of, Logged, empty, inside, whole, over_read, read, row_by, head_by, log_row, log_step, log_room, log_feed, start, feed, finish, log_of, step_by}
use Rattle.texts.proofs.Feeding.{feed-append}
use Rattle.listing_texts.specs.Tallies.{tallied, misses_by, tally_of}
use Rattle.listing_texts.specs.Listings.{at_rows, listed, sizes_of, output_of, listing_of}
use Rattle.listing_texts.specs.Feeding.{Taken, take_row, take_head, take_line, State, take_piece, printed_by, printed_at, verdict_by, verdict_at}
use Rattle.listing_texts.proofs.Tallies.{tally-none, tally-more, over-same, misses-same}

-- an answer's state, by a map
abbrev pub answer_map : {S T : Type 0} → (S → T) → Answer S → Answer T
answer_map f (to s) = to (f s)
answer_map f (no n) = no n

-- a text's state, by a map
abbrev pub state_map : {S T : Type 0} → (S → T) → Fed S → Fed T
state_map f (at k held s) = at k held (f s)
state_map f (stopped k n) = stopped k n

-- a limit's number goes through a map
unless-map : {S T : Type 0} (f : S → T) (n : ℕ) (a : Answer S) → unless n (answer_map f a) ≡ answer_map f (unless n a)
unfolding unless
unless-map f zero a = refl
unless-map f (suc n) (to s) = refl
unless-map f (suc n) (no m) = refl

-- so does a line's end
done-map : {S T : Type 0} (f : S → T) (k : ℕ) (a : Answer S) → line_done k (answer_map f a) ≡ state_map f (line_done k a)
unfolding line_done
done-map f k (to s) = refl
done-map f k (no n) = refl

-- two readers, and a map of the states of one to those of the other that every line keeps
module _ {S T : Type 0} (step : S → List ℕ → Answer S) (step' : T → List ℕ → Answer T) (room : ℕ → Bool) (f : S → T)
    (same : (s : S) (line : List ℕ) → step' (f s) line ≡ answer_map f (step s line)) where
  -- every byte keeps it
  byte-map : (s : Fed S) (x : ℕ) → byte step' room (state_map f s) x ≡ state_map f (byte step room s x)
  unfolding byte
  byte-map (at k held s) x =
      by-test (eqb x 10)
      (λ e. rw (e, same s held) (done-map f k (step s held)))
      (λ e. by-test (room (length held)) (λ r. rw (e, r)) (λ r. rw (e, r)))
  byte-map (stopped k n) x = refl

  -- so do bytes one after the other
  pub feed-map : (l : List ℕ) (s : Fed S) → feed_by step' room (state_map f s) l ≡ state_map f (feed_by step room s l)
  unfolding feed_by
  feed-map [] s = refl
  feed-map (x ∷ l) s = rw (byte-map s x) (feed-map l (byte step room s x))

-- what the tallies hold of what the traces hold
abbrev pub taken_of : Logged (List ℕ) → Taken
taken_of empty = empty
taken_of (inside t) = inside (tally_of t)
taken_of (whole t) = whole (tally_of t)

-- the same of a text taken so far
abbrev pub fed_map : Fed (Logged (List ℕ)) → State
fed_map f = state_map taken_of f

-- the reads with one more, ended or not
taken_more : (ends : Bool) (t : List ℕ) (x : ℕ) → to (read ends (tallied (tally_of t) x)) ≡ answer_map taken_of (to (read ends (t ++ (x ∷ []))))
taken_more true t x = rw (tally-more t x)
taken_more false t x = rw (tally-more t x)

-- a read's line does the same to both
row-refines : (t : List ℕ) (r : Row) → take_row (tally_of t) r ≡ answer_map taken_of (log_row true t r)
unfolding row_by
row-refines t bad_row = refl
row-refines t (row x ends) =
    rw (over-same t x, taken_more ends t x) (unless-map taken_of (over_read t x) (to (read ends (t ++ (x ∷ [])))))

-- so does the first line
head-refines : (o : Option (List ℕ)) → take_head o ≡ answer_map taken_of (head_by [] o)
unfolding head_by
head-refines none = refl
head-refines (some []) = rw tally-none
head-refines (some (x ∷ [])) = by-test (eqb x 41) (λ e. rw (e, tally-none)) (λ e. rw e)
head-refines (some (x ∷ y ∷ l)) = refl

-- so does every line
pub line-refines : (s : Logged (List ℕ)) (line : List ℕ) → take_line (taken_of s) line ≡ answer_map taken_of (log_step true s line)
unfolding step_by
line-refines empty line = head-refines (after trace_word line)
line-refines (inside t) line = row-refines t (row_of line)
line-refines (whole t) line = refl

-- so does every piece of a text
pub piece-refines : (f : Fed (Logged (List ℕ))) (l : List ℕ) → take_piece (fed_map f) l ≡ fed_map (feed f l)
unfolding take_piece feed log_feed
piece-refines f l = feed-map (log_step true) take_line log_room taken_of line-refines l f

-- pieces end to end are taken one after the other
pub pieces-join : (s : State) (a b : List ℕ) → take_piece s (a ++ b) ≡ take_piece (take_piece s a) b
unfolding take_piece
pieces-join s a b = feed-append take_line log_room s a b

-- rows depend on the misses alone, size by size
pub rows_same : (f g : ℕ → ℕ) → ((c : ℕ) → f c ≡ g c) → (n c : ℕ) → at_rows f c n ≡ at_rows g c n
unfolding at_rows
rows_same f g h zero c = refl
rows_same f g h (suc zero) c = rw (h c)
rows_same f g h (suc (suc n)) c = rw (h c, rows_same f g h (suc n) (suc c))

-- so do listings
pub listed_same : (reads cold : ℕ) (f g : ℕ → ℕ) → ((c : ℕ) → f c ≡ g c) → listed reads cold f ≡ listed reads cold g
unfolding listed
listed_same reads cold f g h = rw (rows_same f g h cold 1)

-- the tally of a trace prints the trace's listing
pub tally-prints : (t : List ℕ) → printed_by (got (tally_of t)) ≡ sizes_of t
unfolding tally_of sizes_of
tally-prints t =
    rw (length-histogram t)
    (listed_same (length t) (length (firsts t)) (misses_by (histogram t)) (λ c. misses_at c (reuses [] t)) (misses-same t))

-- the end prints the same for both
pub print-refines : (f : Fed (Logged (List ℕ))) → printed_at (fed_map f) ≡ output_of (finish f)
unfolding printed_at finish finish_by
print-refines (at k [] empty) = refl
print-refines (at k [] (inside t)) = refl
print-refines (at k [] (whole t)) = tally-prints t
print-refines (at k (x ∷ held) s) = refl
print-refines (stopped k n) = refl

-- a whole text, taken by tallies, prints its listing
pub listing-whole : (text : List ℕ) → printed_at (take_piece (at 0 [] empty) text) ≡ listing_of text
unfolding listing_of log_of
listing-whole text = rw (piece-refines start text) (print-refines (feed start text))

-- the end gives the same verdict for both
pub verdict-refines : (f : Fed (Logged (List ℕ))) → verdict_at (fed_map f) ≡ verdict_by (finish f)
unfolding verdict_at finish finish_by
verdict-refines (at k [] empty) = refl
verdict-refines (at k [] (inside t)) = refl
verdict-refines (at k [] (whole t)) = refl
verdict-refines (at k (x ∷ held) s) = refl
verdict-refines (stopped k n) = refl

-- a whole text, taken by tallies, is listed or refused as it is read
pub verdict-text : (text : List ℕ) → verdict_at (take_piece (at 0 [] empty) text) ≡ verdict_by (log_of text)
unfolding log_of
verdict-text text = rw (piece-refines start text) (verdict-refines (feed start text))
