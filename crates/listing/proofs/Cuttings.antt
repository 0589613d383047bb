-- Whatever way a text is cut into pieces, what comes out is the listing of all of them end to end, and the verdict on it.
use mathlib.Core.Path.{◌≡◌, sym, ap, ◌∙◌}
use Prim.Native.Nat.{ℕ}
use mathlib.Core.List.{List, [], ◌∷◌}
use mathlib.Core.Bool.{true}
use Rattle.texts.specs.Lines.{at}
use Rattle.texts.specs.Logs.{log_of, empty}
use Rattle.listing_texts.specs.Pieces.{end_to_end}
use Rattle.listing_texts.specs.Listings.{listing_of}
use Rattle.listing_texts.specs.Feeding.{State, take_piece, unnumbered, printed_at, verdict_by, verdict_at}
use Rattle.listing_texts.proofs.Refining.{pieces-join, listing-whole, verdict-text}
use Rattle.listing_texts.proofs.Unnumbered.{take_none, uncounted, printed-uncounted, verdict-uncounted}
use Rattle.listing.specs.Listers.{sound_lister, state_of, empty_lister, fed_of}
use Rattle.listing.specs.Runs.{fed_all}
use Rattle.listing.specs.declared.Lister.{Lister}
use Rattle.listing.proofs.Listers.{Wide, new-sound, new-state, new-wide, fed-state, fed-sound, fed-wide}

-- pieces fed one by one are all of them fed at once
fed-joins : (l : Lister) (pieces : List (List ℕ)) → Wide l → unnumbered (state_of (fed_all l pieces)) ≡ unnumbered (take_piece (state_of l) (end_to_end pieces))
unfolding end_to_end fed_all
fed-joins l [] w = ap unnumbered (sym (take_none (state_of l)))
fed-joins l (bytes ∷ pieces) w =
    fed-joins (fed_of l bytes) pieces (fed-wide l bytes w)
    ∙ ap (λ (s : State). unnumbered (take_piece s (end_to_end pieces))) (fed-state l bytes w)
    ∙ uncounted (take_piece (state_of l) bytes) (end_to_end pieces)
    ∙ ap unnumbered (sym (pieces-join (state_of l) bytes (end_to_end pieces)))

-- a sound lister stays sound
all_sound : (l : Lister) (pieces : List (List ℕ)) → Wide l → sound_lister l ≡ true → sound_lister (fed_all l pieces) ≡ true
unfolding fed_all
all_sound l [] w h = h
all_sound l (bytes ∷ pieces) w h = all_sound (fed_of l bytes) pieces (fed-wide l bytes w) (fed-sound l bytes w h)

-- a new lister, fed a text in any pieces
module _ (pieces : List (List ℕ)) where
  -- is sound
  pub pieces-sound : sound_lister (fed_all empty_lister pieces) ≡ true
  pieces-sound = all_sound empty_lister pieces new-wide new-sound

  -- stands where the whole text ends
  fed-whole : unnumbered (state_of (fed_all empty_lister pieces)) ≡ unnumbered (take_piece (at 0 [] empty) (end_to_end pieces))
  fed-whole = fed-joins empty_lister pieces new-wide ∙ ap (λ (s : State). unnumbered (take_piece s (end_to_end pieces))) new-state

  -- gives the listing of the whole text
  pub listing-pieces : printed_at (state_of (fed_all empty_lister pieces)) ≡ listing_of (end_to_end pieces)
  listing-pieces =
      sym (printed-uncounted (state_of (fed_all empty_lister pieces)))
      ∙ ap printed_at fed-whole
      ∙ printed-uncounted (take_piece (at 0 [] empty) (end_to_end pieces))
      ∙ listing-whole (end_to_end pieces)

  -- and the verdict on it
  pub verdict-pieces : verdict_at (state_of (fed_all empty_lister pieces)) ≡ verdict_by (log_of (end_to_end pieces))
  verdict-pieces =
      sym (verdict-uncounted (state_of (fed_all empty_lister pieces)))
      ∙ ap verdict_at fed-whole
      ∙ verdict-uncounted (take_piece (at 0 [] empty) (end_to_end pieces))
      ∙ verdict-text (end_to_end pieces)

-- a new lister, fed a text in one piece
module _ (text : List ℕ) where
  -- stands where the text ends
  fed-text : state_of (fed_of empty_lister text) ≡ unnumbered (take_piece (at 0 [] empty) text)
  fed-text = fed-state empty_lister text new-wide ∙ ap (λ (s : State). unnumbered (take_piece s text)) new-state

  -- gives the listing of the text
  pub printed-whole : printed_at (state_of (fed_of empty_lister text)) ≡ listing_of text
  printed-whole = ap printed_at fed-text ∙ printed-uncounted (take_piece (at 0 [] empty) text) ∙ listing-whole text

  -- and the verdict on it
  pub verdict-whole : verdict_at (state_of (fed_of empty_lister text)) ≡ verdict_by (log_of text)
  verdict-whole = ap verdict_at fed-text ∙ verdict-uncounted (take_piece (at 0 [] empty) text) ∙ verdict-text text
