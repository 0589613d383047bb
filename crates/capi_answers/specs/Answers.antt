-- Answers as one signed number: what was asked for, or the negative of the refusal's number.
use Rattle.allowance_calls.specs.declared.SmallestCache.{SmallestCache}
use Rattle.summary_calls.specs.declared.HitShare.{HitShare}
use Rattle.std.specs.Prelude.{ℕ, ◌≤◌, min, ℤ, pos, neg_ℤ, Float, Result, Ok, Err}
use Rattle.reuse.specs.declared.refusals.Refusal.{Refusal}
use Rattle.reuse.specs.Refusals.{refusal_number}
use Rattle.reuse.specs.Lru.{cold, at}
use Rattle.reuse.specs.Written.{word_of}
use Rattle.summary_calls.specs.declared.HitShare.TheVariants.{Share, NoReads}
use Rattle.session_calls.specs.declared.Answer.{Answer}
use Rattle.session_calls.specs.declared.Answer.TheVariants.{Cold, Distance}

-- a refusal: the negative of its number
abbrev pub negative : ℕ → ℤ
negative n = neg_ℤ (pos n)

-- how many, as words or misses, or the refusal
abbrev pub counted : Result ℕ Refusal → ℤ
counted (Ok n) = pos n
counted (Err r) = negative (refusal_number r)

-- 1 for a share, 0 for 'no reads', or the refusal
abbrev pub shared : Result HitShare Refusal → ℤ
shared (Ok (Share x)) = pos 1
shared (Ok NoReads) = pos 0
shared (Err r) = negative (refusal_number r)

-- what stands in the share's place: the share, or what stood there
abbrev pub share_left : Result HitShare Refusal → Float → Float
share_left (Ok (Share x)) was = x
share_left (Ok NoReads) was = was
share_left (Err r) was = was

-- a read's answer as the buffer of distances writes it, or the refusal
abbrev pub told : Result Answer Refusal → ℤ
told (Ok (Cold n k)) = pos (word_of (cold n))
told (Ok (Distance d n k)) = pos (word_of (at d))
told (Err r) = negative (refusal_number r)

-- what stands in the place of the sums read: their number, 0 for a cold read; a refusal leaves what stood there
abbrev pub sums_left : Result Answer Refusal → ℕ → ℕ
sums_left (Ok (Cold n k)) was = 0
sums_left (Ok (Distance d n k)) was = n
sums_left (Err r) was = was

-- what stands in the place of the slots looked at: their number, of a cold read too; a refusal leaves what stood there
abbrev pub slots_left : Result Answer Refusal → ℕ → ℕ
slots_left (Ok (Cold n k)) was = k
slots_left (Ok (Distance d n k)) was = k
slots_left (Err r) was = was

-- 0 for a change of the misses, which may be negative itself, or the refusal
abbrev pub changed : Result ℤ Refusal → ℤ
changed (Ok d) = pos 0
changed (Err r) = negative (refusal_number r)

-- what stands in the change's place: the change, or what stood there
abbrev pub change_left : Result ℤ Refusal → ℤ → ℤ
change_left (Ok d) was = d
change_left (Err r) was = was

-- the smallest size, or the refusal
abbrev pub sized : Result SmallestCache Refusal → ℤ
sized (Ok c) = pos c.size
sized (Err r) = negative (refusal_number r)

-- what stands in the place of the words of H read: their number; a refusal leaves what stood there
abbrev pub words_left : Result SmallestCache Refusal → ℕ → ℕ
words_left (Ok c) was = c.words_read
words_left (Err r) was = was

-- 0 for what was done, or the refusal
abbrev pub done : Result Unit Refusal → ℤ
done (Ok tt) = pos 0
done (Err r) = negative (refusal_number r)

-- the largest signed number
abbrev pub most_signed : ℕ
most_signed = 9_223_372_036_854_775_807

-- how many words were written, counted to at most the largest signed number, or the refusal
abbrev pub counted_most : Result ℕ Refusal → ℤ
counted_most (Ok n) = pos (min n most_signed)
counted_most (Err r) = negative (refusal_number r)

-- a count of words that a signed number holds
abbrev pub Small : Result ℕ Refusal → Type 0
Small (Ok n) = n ≤ most_signed
Small (Err r) = Unit
