-- A text listed in memory: by the verdict on it.
use Rattle.std.specs.Prelude.{Ok, Err}
use Rattle.reuse.specs.declared.refusals.Refusal.{Refusal}
use Rattle.reuse.specs.Refusals.{refusal_with}
use Rattle.reuse.specs.declared.refusals.Refusal.TheVariants.{NoRoom}
use mathlib.Core.Path.{◌≡◌, refl, sym, ap, ◌∙◌}
use Prim.Native.Nat.{ℕ, ◌≤◌, ◌<◌}
use native.Mathlib.Omega.{arith}
use mathlib.Core.List.{List}
use lib.ListN.{length, take}
use lib.Seq.{length-take-le}
use Rattle.reuse_rows.specs.Rows.{put_at}
use Rattle.summary_calls.specs.Calls.{wrote, refused}
use Rattle.summary_calls.proofs.Calls.{wrote-short, wrote-all}
use Rattle.texts.specs.Lines.{Read, got, refused as faulty}
use Rattle.texts.specs.Logs.{log_of}
use Rattle.listing_texts.specs.Feeding.{verdict_by}
use Rattle.listing_texts.specs.Listings.{listing_of}
use Rattle.listing_memory.specs.Calls.{list_by, list_call}

module _ (buffer : List ℕ) where
  -- by an answer that is a refusal
  by-refused : (r : Read (List ℕ)) (why : Refusal) → verdict_by r ≡ Err why → list_by r buffer ≡ refused why buffer
  by-refused (got t) why e = absurd (cc)
  by-refused (faulty line m) why e = let q : refusal_with m ≡ why = cc in ap (λ (r : Refusal). refused r buffer) q

  module _ (text : List ℕ) where
    -- a text that is refused
    pub list-refused : (why : Refusal) → verdict_by (log_of text) ≡ Err why → list_call text buffer ≡ refused why buffer
    unfolding list_call
    list-refused why e = by-refused (log_of text) why e

    -- by an answer that is a trace
    by-listed : verdict_by (log_of text) ≡ Ok tt → list_call text buffer ≡ wrote (listing_of text) buffer
    unfolding list_call listing_of
    by-listed = listed-as (log_of text)
      where
        listed-as : (r : Read (List ℕ)) → verdict_by r ≡ Ok tt → list_by r buffer ≡ wrote (Rattle.listing_texts.specs.Listings.output_of r) buffer
        listed-as (got t) e = refl
        listed-as (faulty line n) e = absurd (cc)

    -- a page that holds the listing of a text that is listed
    module _ (page : List ℕ) (n : ℕ) (e : verdict_by (log_of text) ≡ Ok tt) (fits : n ≤ length page) (same : take n page ≡ listing_of text) where
      -- the bytes of the listing
      pub page-length : length (listing_of text) ≡ n
      page-length = sym (ap (length {A = ℕ}) same) ∙ length-take-le n page fits

      -- a buffer that is too short for it
      pub list-short : length buffer < n → list_call text buffer ≡ refused NoRoom buffer
      list-short l = by-listed e ∙ wrote-short (listing_of text) buffer (omega (arith, page-length))

      -- one that is not
      pub list_all : n ≤ length buffer → list_call text buffer ≡ record { answer = Ok n; buffer = put_at buffer 0 (listing_of text) }
      list_all l = by-listed e ∙ wrote-all (listing_of text) buffer n page-length l
