-- The LRU stack after a trace, and the answers to two traces end to end.
use mathlib.Core.Path.{◌≡◌, refl, sym, ap, ◌∙◌}
use Prim.Native.Nat.{ℕ, suc}
use mathlib.Core.List.{List, [], ◌∷◌, ◌++◌, reverse, foldl, append-nil, append_assoc, reverse-cons, foldl-append}
use mathlib.Core.Bool.{true, false}
use lib.ListN.{length, length-reverse}
use Rattle.reuse.specs.Lists.{mem, remove, cleanup, firsts, distinct, outside}
use Rattle.reuse.specs.Lru.{Reuse, depth, touch, stack, reuses}
use Rattle.reuse.proofs.Lists.{by-test, eqb_same, mem-remove, mem-cleanup, mem-reverse, outside-same, outside-none, outside-remove, remove_absent}
use Rattle.reuse.proofs.Distinct.{distinct_cons, distinct_remove, distinct-cleanup, cleanup-distinct, length-remove, length-cleanup}

-- the answers to two traces end to end: those to the first, then those to the second from the stack after the first
pub reuses-append : (s a b : List ℕ) → reuses s (a ++ b) ≡ reuses s a ++ reuses (foldl touch s a) b
unfolding reuses
reuses-append s [] b = refl
reuses-append s (x ∷ a) b = ap (λ (r : List Reuse). depth s x ∷ r) (reuses-append (touch s x) a b)

-- one answer for each read
pub length-reuses : (s t : List ℕ) → length (reuses s t) ≡ length t
unfolding reuses
length-reuses s [] = refl
length-reuses s (x ∷ t) = ap suc (length-reuses (touch s x) t)

-- one more answer
pub reuses-snoc : (t : List ℕ) (x : ℕ) → reuses [] (t ++ (x ∷ [])) ≡ reuses [] t ++ (depth (stack t) x ∷ [])
unfolding reuses stack
reuses-snoc t x = reuses-append [] t (x ∷ [])

-- the stack from s on: the reads by last read, latest first, then what is left of s
pub stack-from : (s t : List ℕ) → foldl touch s t ≡ reverse (cleanup t) ++ outside t s
unfolding touch cleanup outside
stack-from s [] = sym (outside-none s)
stack-from s (x ∷ t) =
    stack-from (touch s x) t
    ∙ by-test (mem x t)
    (λ e. simp (e, outside-remove))
    (λ e. simp (e, outside-remove, reverse-cons, append_assoc))

-- the stack after a trace is its cleanup turned round
pub stack-law : (t : List ℕ) → stack t ≡ reverse (cleanup t)
unfolding stack outside
stack-law t = simp (stack-from, append-nil)

-- a sequence and its cleanup act alike on every stack (001, theorem 4)
pub cleanup-acts : (s t : List ℕ) → foldl touch s (cleanup t) ≡ foldl touch s t
cleanup-acts s t =
    stack-from s (cleanup t)
    ∙ rw (cleanup-distinct (cleanup t) (distinct-cleanup t), outside-same (cleanup t) t s (λ z. mem-cleanup z t)) (sym (stack-from s t))

-- the stack from s on, by the stack of the trace alone
pub stack-over : (s t : List ℕ) → foldl touch s t ≡ stack t ++ outside t s
stack-over s t = stack-from s t ∙ simp stack-law

-- the stack has the members of the trace
pub mem-stack : (x : ℕ) (t : List ℕ) → mem x (stack t) ≡ mem x t
mem-stack x t = simp (stack-law, mem-reverse, mem-cleanup)

-- the stack is as long as there are different extents
pub length-stack : (t : List ℕ) → length (stack t) ≡ length (firsts t)
length-stack t = simp (stack-law, length-reverse, length-cleanup)

-- a touch makes no repeats
pub distinct-touch : (s : List ℕ) (x : ℕ) → distinct s ≡ true → distinct (touch s x) ≡ true
unfolding touch
distinct-touch s x h = distinct_cons x (remove x s) (simp (mem-remove, eqb_same)) (distinct_remove x s h)

-- a read of what the stack holds leaves its length
pub length-known : (s : List ℕ) (x : ℕ) → distinct s ≡ true → mem x s ≡ true → length (touch s x) ≡ length s
unfolding touch
length-known s x d m = length-remove x s d m

-- a read of anything else makes it one longer
pub length-new : (s : List ℕ) (x : ℕ) → mem x s ≡ false → length (touch s x) ≡ suc (length s)
unfolding touch
length-new s x m = ap (λ (r : List ℕ). suc (length r)) (remove_absent x s m)

-- no trace makes repeats
pub distinct_from : (s t : List ℕ) → distinct s ≡ true → distinct (foldl touch s t) ≡ true
distinct_from s [] h = h
distinct_from s (x ∷ t) h = distinct_from (touch s x) t (distinct-touch s x h)

-- no stack of a trace holds an extent twice
pub distinct_stack : (t : List ℕ) → distinct (stack t) ≡ true
unfolding stack distinct
distinct_stack t = distinct_from [] t refl

-- the stack of two traces end to end
pub stack-append : (a b : List ℕ) → stack (a ++ b) ≡ stack b ++ outside b (stack a)
unfolding stack
stack-append a b = foldl-append touch [] a b ∙ stack-over (stack a) b

-- the stack after one more read
pub stack_snoc : (a : List ℕ) (x : ℕ) → stack (a ++ (x ∷ [])) ≡ touch (stack a) x
unfolding stack
stack_snoc a x = foldl-append touch [] a (x ∷ [])

-- the first read of a trace lies undermost, unless it comes again
pub stack-cons : (x : ℕ) (t : List ℕ) → stack (x ∷ t) ≡ stack t ++ outside t (x ∷ [])
unfolding stack touch remove
stack-cons x t = stack-append (x ∷ []) t

-- the last reads of two traces end to end, latest first: those of the second, then those of the first not in it
pub recent-append : (a b : List ℕ)
    → reverse (cleanup (a ++ b)) ≡ reverse (cleanup b) ++ outside (reverse (cleanup b)) (reverse (cleanup a))
recent-append a b =
    sym (stack-law (a ++ b)) ∙ stack-append a b ∙ simp stack-law
    (ap (λ (r : List ℕ). reverse (cleanup b) ++ r)
    (outside-same b (reverse (cleanup b)) (reverse (cleanup a)) (λ x. simp (mem-reverse, mem-cleanup))))
