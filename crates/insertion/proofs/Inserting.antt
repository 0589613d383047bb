-- The passes of the call on one more read: the reads before the place, those up to the next one of its extent, and the others.
use Rattle.std.specs.Prelude.{Ok, Err}
use Rattle.reuse.specs.declared.refusals.Refusal.TheVariants.{TooManyExtents}
use mathlib.Core.Path.{◌≡◌, refl, sym, ap, ◌∙◌}
use Prim.Native.Nat.{ℕ, suc, ◌+◌, ◌-◌, ◌≤◌, ◌<◌}
use native.Mathlib.Omega.{arith}
use mathlib.Core.List.{List, [], ◌∷◌, ◌++◌, foldl, foldl-append}
use mathlib.Core.Bool.{Bool, true, false, cond, ◌||◌, or-true}
use lib.Dec.{ltb}
use lib.ListN.{length, take, drop, get_or, length-append, length-drop, length-take, take-append-drop}
use lib.Seq.{take_all, drop-cons, drop-drop, length-take-le}
use borrow.Author.Tests.{ltb-true, ltb-false}
use Rattle.reuse.specs.Limits.{max_reads, max_extents}
use Rattle.reuse.specs.Lists.{mem, before, distinct, firsts}
use Rattle.reuse.specs.Lru.{touch, stack}
use Rattle.reuse.proofs.Lists.{by-test, eqb_same, mem-append}
use Rattle.reuse.proofs.Stack.{length-stack, mem-stack, distinct_stack, distinct_from}
use Rattle.reuse.proofs.Newcomers.{stack-grows}
use Rattle.insertion_calls.specs.Insertion.{put, change_of}
use Rattle.insertion_calls.specs.Trails.{Trail, change_by}
use Rattle.insertion_calls.specs.Calls.{insertion_call}
use Rattle.insertion_calls.proofs.Puts.{length-put, extents-put, mem-cut}
use Rattle.insertion_calls.proofs.Told.{told-end, told-again}
use Rattle.insertion_calls.proofs.Calls.{call-extents, call-change}
use Rattle.insertion.specs.Passes.{Ready, Held, Ahead, Taken, Followed}
use Rattle.std.proofs.Common.{Option, None, Some}
use Rattle.std.specs.Option.{unwrap_or}
use Rattle.insertion.specs.declared.passes.Traced.{Traced}

-- a row before the first read
ready-blank : (row reads : List ℕ) → length row ≡ max_extents → length reads ≤ max_reads → Ready row 0 reads
unfolding distinct
ready-blank row reads w s = record { wide = w; held = omega arith; once = refl; short = s }

-- a trace and a place in it
module _ (t : List ℕ) (p : ℕ) (placed : p ≤ length t) (short : length t ≤ max_reads) where
  -- the stack at the place
  abbrev here : List ℕ
  here = stack (take p t)

  -- the reads from the place on, as the code has them
  from_all : take (length t - p) (drop p t) ≡ drop p t
  from_all = take_all (length t - p) (drop p t) (omega (arith, length-drop p t))

  -- the reads before the place are ready to be taken from a row of words
  pub front-ready : (blank : List ℕ) → length blank ≡ max_extents → Ready blank 0 (take p t)
  front-ready blank w = ready-blank blank (take p t) w (omega (arith, length-take-le p t placed))

  -- the stack after the whole trace, from the place on
  plain-stack : stack t ≡ foldl touch here (drop p t)
  unfolding stack
  plain-stack = ap (foldl touch []) (sym (take-append-drop p t)) ∙ foldl-append touch [] (take p t) (drop p t)

  -- a read put in, where there is room for one more
  module _ (x c : ℕ) (room : length t < max_reads) where
    -- the trace has too many extents by itself
    plain_over : max_extents < length (stack t) → Err TooManyExtents ≡ insertion_call t p x c
    plain_over m = sym (call-extents t p x c placed room (omega (arith, extents-put p x t, length-stack t)))

    -- after the reads before the place
    module _ (blank row : List ℕ) (told : Option ℕ) (first : Held blank 0 (take p t) row told) where
      -- too many extents
      pub first-over : told ≡ None → Err TooManyExtents ≡ insertion_call t p x c
      unfolding stack
      first-over o = plain_over (omega (arith, first.over o, ap length plain-stack, stack-grows here (drop p t) (distinct_stack (take p t))))

      -- not too many
      module _ (held : ℕ) (is : told ≡ Some held) where
        -- the stack stands in the row
        at_here : take held row ≡ here
        unfolding stack
        at_here = first.front held is

        -- the extents above x, by its place in the stack
        pub above-found : (place : Option ℕ) → unwrap_or place (length (take held row)) ≡ length (before x (take held row))
            → unwrap_or place held ≡ length (before x (take held row))
        above-found place e =
            let q : length (take held row) ≡ held = length-take-le held row (omega (arith, first.wide, first.few held is)) in
            sym (ap (unwrap_or place) q) ∙ e

        -- the extents above x, and whether x was read before
        module _ (ahead : ℕ) (found : ahead ≡ length (before x (take held row))) (known : Bool) (seen : known ≡ mem x (take held row)) where
          above-is : ahead ≡ length (before x here)
          above-is = rw at_here at found

          known_is : known ≡ mem x here
          known_is = rw at_here at seen

          -- the reads from the place on are ready to be followed
          pub follow-ready : Ahead row held (take (length t - p) (drop p t)) x ahead
          follow-ready = record {
            ready = record {
              wide = first.wide;
              held = omega (arith, first.wide, first.few held is);
              once = rw at_here (distinct_stack (take p t));
              short = rw from_all (omega (arith, length-drop p t));
            };
            above = rw at_here above-is;
          }

          -- after the reads up to the next one of x
          module _ (row₁ : List ℕ) (told₁ : Option Traced) (second : Followed row held (take (length t - p) (drop p t)) x c row₁ told₁) where
            -- too many extents
            pub second-over : told₁ ≡ None → Err TooManyExtents ≡ insertion_call t p x c
            second-over o = plain_over (rw plain-stack (rw (at_here, from_all) at (second.over o)))

            -- not too many extents
            module _ (r : Traced) (is₁ : told₁ ≡ Some r) where
              taken : Taken row held (take (length t - p) (drop p t)) x c row₁ r
              taken = second.some r is₁

              -- the next read of x is at most one past the trace's last
              pub next-within : p + r.taken ≤ length t
              next-within = omega (arith, rw from_all at taken.some, length-drop p t)

              -- the reads up to it, and the others
              abbrev near : List ℕ
              near = take r.taken (drop p t)

              abbrev far : List ℕ
              far = drop r.taken (drop p t)

              -- the others, as the code has them
              far-all : take (length t - (p + r.taken)) (drop (p + r.taken) t) ≡ far
              far-all =
                  take_all (length t - (p + r.taken)) (drop (p + r.taken) t) (omega (arith, length-drop (p + r.taken) t))
                  ∙ sym (drop-drop r.taken p t)

              -- x is not among the first
              near-unread : mem x near ≡ false
              near-unread = rw from_all at taken.unread

              -- the stack after them stands in the row
              at-near : take r.held row₁ ≡ foldl touch here near
              at-near = rw (at_here, from_all) at taken.front

              -- the others are ready to be taken after it
              pub far-ready : Ready row₁ r.held (take (length t - (p + r.taken)) (drop (p + r.taken) t))
              far-ready = record {
                wide = taken.wide;
                held = omega (arith, taken.wide, taken.few);
                once = rw at-near (distinct_from here near (distinct_stack (take p t)));
                short = rw far-all (omega (arith, length-drop r.taken (drop p t), length-drop p t));
              }

              -- the trail up to the next read of x
              near-trail : Trail here x c near r.marks.since r.marks.depth r.marks.spoiled
              near-trail = rw (at_here, from_all) at taken.trail

              -- no more were read since than are held
              pub since-small : r.marks.since ≤ max_extents
              since-small =
                  let e : take r.held row₁ ≡ near-trail.newer ++ near-trail.older = at-near ∙ near-trail.plain in
                  omega (arith, near-trail.since-is, ap length e, length-append near-trail.newer near-trail.older, length-take r.held row₁, taken.few)

              -- x is read again, as the code has it
              abbrev again : Bool
              again = ltb (p + r.taken) (length t)

              -- the reads from there on, where it is
              cut : again ≡ true → drop p t ≡ near ++ (x ∷ drop (suc r.taken) (drop p t))
              cut e =
                  let l : r.taken < length (drop p t) = omega (arith, ltb-true (p + r.taken) (length t) e, length-drop p t) in
                  let y : get_or (drop p t) r.taken 0 ≡ x = rw from_all at (taken.again (rw from_all l)) in
                  sym (take-append-drop r.taken (drop p t)) ∙ ap (λ (w : List ℕ). near ++ w) (drop-cons (drop p t) r.taken 0 l ∙ rw y)

              -- and where it is not, these are all
              no_cut : again ≡ false → near ≡ drop p t
              no_cut e = take_all r.taken (drop p t) (omega (arith, ltb-false (p + r.taken) (length t) e, length-drop p t))

              -- x is among the reads from the place on exactly if it is read again
              again-is : mem x (drop p t) ≡ again
              unfolding mem
              again-is =
                  by-test again
                  (λ e. ap (mem x) (cut e) ∙ mem-append x near (x ∷ drop (suc r.taken) (drop p t)) ∙ rw e (simp (eqb_same, or-true)))
                  (λ e. ap (mem x) (sym (no_cut e)) ∙ near-unread ∙ sym e)

              -- x is one of the trace's extents
              mem_is : mem x t ≡ (known || again)
              mem_is = sym (mem-cut x p t) ∙ rw (known_is, again-is, mem-stack x (take p t))

              -- the change
              change-is : change_of c p x t ≡ change_by known again (ahead + 1) r.marks.since r.marks.depth r.marks.spoiled c
              change-is =
                  let own : ahead + 1 ≡ suc (length (before x here)) = omega (arith, above-is) in
                  rw (known_is, own)
                  (by-test again
                  (λ e. rw e (told-again c p x t near (drop (suc r.taken) (drop p t)) (cut e) r.marks.since r.marks.depth r.marks.spoiled near-trail))
                  (λ e. rw e (told-end c p x t r.marks.since r.marks.depth r.marks.spoiled (rw (no_cut e) at near-trail))))

              -- after the others
              module _ (row₂ : List ℕ) (told₂ : Option ℕ) (third : Held row₁ r.held (take (length t - (p + r.taken)) (drop (p + r.taken) t)) row₂ told₂) where
                -- the stack after the others
                all-stack : stack t ≡ foldl touch (foldl touch here near) far
                all-stack = plain-stack ∙ ap (foldl touch here) (sym (take-append-drop r.taken (drop p t))) ∙ foldl-append touch here near far

                -- too many extents
                pub third-over : told₂ ≡ None → Err TooManyExtents ≡ insertion_call t p x c
                third-over o = plain_over (rw all-stack (rw (at-near, far-all) at (third.over o)))

                -- not too many
                module _ (held₂ : ℕ) (is₂ : told₂ ≡ Some held₂) where
                  -- the extents of the trace
                  all_held : held₂ ≡ length (firsts t)
                  all_held =
                      let e : take held₂ row₂ ≡ stack t = (rw (at-near, far-all) at (third.front held₂ is₂)) ∙ sym all-stack in
                      omega (arith, ap length e, length-stack t, length-take-le held₂ row₂ (omega (arith, third.wide, third.few held₂ is₂)))

                  -- those of the longer trace
                  longer-is : length (firsts (put p x t)) ≡ cond (known || again) 0 1 + length (firsts t)
                  longer-is = rw mem_is at (extents-put p x t)

                  -- too many with the read put in
                  pub longer-over : max_extents < cond (known || again) 0 1 + held₂ → Err TooManyExtents ≡ insertion_call t p x c
                  longer-over o = sym (call-extents t p x c placed room (omega (arith, longer-is, all_held)))

                  -- not too many: the change
                  pub change-told : cond (known || again) 0 1 + held₂ ≤ max_extents
                      → Ok (change_by known again (ahead + 1) r.marks.since r.marks.depth r.marks.spoiled c) ≡ insertion_call t p x c
                  change-told few₂ =
                      ap Ok (sym change-is)
                      ∙ sym (call-change t p x c placed (record { reads = omega (arith, length-put p x t); extents = omega (arith, longer-is, all_held) }))
