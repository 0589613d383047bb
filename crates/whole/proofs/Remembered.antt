-- Laws of what is remembered: reads alone, returns, and the refusals there are.
use Rattle.std.specs.Prelude.{Ok, Err}
use Rattle.reuse.specs.declared.refusals.Refusal.TheVariants.{OutOfRange, NoRoom}
use mathlib.Core.Path.{◌≡◌, refl, sym, ap, ◌∙◌}
use Prim.Native.Nat.{ℕ, ◌≤◌}
use mathlib.Core.List.{List, [], ◌∷◌, ◌++◌, map, append-nil}
use mathlib.Core.Bool.{Bool, true, false, cond, not}
use lib.Dec.{eqb, ltb}
use lib.ListN.{length}
use borrow.Author.Tests.{not-true}
use Rattle.reuse.specs.Limits.{max_reads, max_extents}
use Rattle.reuse.specs.Lists.{mem, all_in, firsts}
use Rattle.reuse.specs.Lru.{distance}
use Rattle.reuse.proofs.Lists.{both, eqb_same}
use Rattle.session.specs.declared.Session.{Session}
use Rattle.session.specs.Reads.{read_of}
use Rattle.session_traces.proofs.Stands.{Stands}
use Rattle.moments.specs.Names.{names_length, is_name, lies}
use Rattle.moments.proofs.Places.{names-lie}
use Rattle.whole.specs.Runs.{gives, refused, accepted}
use Rattle.whole.specs.Owed.{read_owed, grown, owed}
use Rattle.whole.specs.Moments.{Call, read, name, return_to, reading, moment, refusal_of}
use Rattle.whole.specs.Remembered.{Moment, none, log, Memory, moment_owed, noted, owed_for, then, remember, owed_by, spares, owed_refusals}
use Rattle.whole.proofs.Calls.{read-grown, read_kept}

module _ (lent : ℕ) where
  -- calls one after the other
  pub remember-append : (a b : List Call) (m : Memory) → remember lent m (a ++ b) ≡ remember lent (remember lent m a) b
  unfolding remember
  remember-append [] b m = refl
  remember-append (c ∷ a) b m = remember-append a b (then lent m c)

  -- with what they are owed
  pub owed_by-append : (a b : List Call) (m : Memory) → owed_by lent m (a ++ b) ≡ owed_by lent m a ++ owed_by lent (remember lent m a) b
  unfolding owed_by remember
  owed_by-append [] b m = refl
  owed_by-append (c ∷ a) b m = rw (owed_by-append a b (then lent m c))

  -- reads alone: the log now grows by those accepted, and the names keep theirs
  pub reads-remember : (reads : List ℕ) (s : Session) (t : List ℕ) (under : ℕ → Moment) → Stands s t
      → remember lent (record { now = t; under = under }) (map read reads) ≡ record { now = t ++ accepted s reads; under = under }
  unfolding remember accepted
  reads-remember [] s t under g = rw append-nil
  reads-remember (x ∷ xs) s t under g =
      reads-remember xs (read_of s x).session (grown (read_owed t x) t x) under (read-grown s t g x)
      ∙ ap (λ (l : List ℕ). record { now = l; under = under }) (sym (read_kept s t g x (accepted (read_of s x).session xs)))

  -- the log now grows by reads whatever the names remember
  pub reads_now : (reads : List ℕ) (m n : Memory) → m.now ≡ n.now → (remember lent m (map read reads)).now ≡ (remember lent n (map read reads)).now
  unfolding remember
  reads_now [] m n e = e
  reads_now (x ∷ xs) m n e = reads_now xs (then lent m (read x)) (then lent n (read x)) (ap (λ (t : List ℕ). grown (read_owed t x) t x) e)

  -- they are owed what read calls are
  pub reads_owed : (reads : List ℕ) (m : Memory) → owed_by lent m (map read reads) ≡ map reading (owed m.now reads)
  unfolding owed_by owed
  reads_owed [] m = refl
  reads_owed (x ∷ xs) m = rw (reads_owed xs (then lent m (read x)))

  -- calls that do not name k leave what it remembers
  spared : (calls : List Call) (k : ℕ) (m : Memory) → spares k calls ≡ true → (remember lent m calls).under k ≡ m.under k
  unfolding spares remember
  spared [] k m h = refl
  spared (read x ∷ cs) k m h = spared cs k (then lent m (read x)) h
  spared (name j ∷ cs) k m h =
      let p = both (not (eqb k j)) (spares k cs) h in
      spared cs k (then lent m (name j)) p.1 ∙ by (is_name j) (lies lent j) (not-true (eqb k j) p.0)
    where
      -- by the answer of the naming
      by : (b c : Bool) → eqb k j ≡ false → noted (cond b (cond c (Ok tt) (Err NoRoom)) (Err OutOfRange)) m j k ≡ m.under k
      by true true q = rw q
      by true false q = refl
      by false c q = refl
  spared (return_to j ∷ cs) k m h = spared cs k (then lent m (return_to j)) h

  -- a name set, and calls that do not name it again
  module _ (m : Memory) (k : ℕ) (is : is_name k ≡ true) (fits : lies lent k ≡ true) (calls : List Call) (h : spares k calls ≡ true) where
    -- it still remembers the log as it stood at naming
    still : (remember lent m (name k ∷ calls)).under k ≡ log m.now
    unfolding remember
    still = spared calls k (then lent m (name k)) h ∙ rw (is, fits, eqb_same k)

    -- a return to it is done
    pub back-owed : owed_for lent (remember lent m (name k ∷ calls)) (return_to k) ≡ moment (Ok tt)
    back-owed = rw (is, still)

    -- the log is then the one at naming
    pub back-now : (then lent (remember lent m (name k ∷ calls)) (return_to k)).now ≡ m.now
    back-now = rw (is, still)

  -- a read is refused with 8 or 9 alone
  read-refusal : (t : List ℕ) (x : ℕ) → mem (refusal_of (reading (read_owed t x))) owed_refusals ≡ true
  unfolding mem read_owed
  read-refusal t x = by (ltb max_reads (length (t ++ (x ∷ [])))) (ltb max_extents (length (firsts (t ++ (x ∷ [])))))
    where
      -- by the two conditions
      by : (c d : Bool) → mem (refusal_of (reading (cond c (refused 8) (cond d (refused 9) (gives (distance t x)))))) owed_refusals ≡ true
      by true d = refl
      by false true = refl
      by false false = refl

  -- a naming with 2 or 6 alone
  name-refusal : (b c : Bool) → mem (refusal_of (moment (cond b (cond c (Ok tt) (Err NoRoom)) (Err OutOfRange)))) owed_refusals ≡ true
  unfolding mem
  name-refusal true true = refl
  name-refusal true false = refl
  name-refusal false c = refl

  -- a return with 2 or 11 alone
  return-refusal : (b : Bool) (o : Moment) → mem (refusal_of (moment (cond b (moment_owed o) (Err OutOfRange)))) owed_refusals ≡ true
  unfolding mem
  return-refusal true none = refl
  return-refusal true (log t) = refl
  return-refusal false o = refl

  -- a call with one of these alone
  owed-refusal : (m : Memory) (c : Call) → mem (refusal_of (owed_for lent m c)) owed_refusals ≡ true
  owed-refusal m (read x) = read-refusal m.now x
  owed-refusal m (name k) = name-refusal (is_name k) (lies lent k)
  owed-refusal m (return_to k) = return-refusal (is_name k) (m.under k)

  -- so each of a list of calls
  pub owed-refusals : (calls : List Call) (m : Memory) → all_in (map refusal_of (owed_by lent m calls)) owed_refusals ≡ true
  unfolding owed_by all_in
  owed-refusals [] m = refl
  owed-refusals (c ∷ cs) m = rw (owed-refusal m c, owed-refusals cs (then lent m c))

  -- where the words suffice for all names no call is refused with 6
  module _ (room : names_length ≤ lent) where
    -- no read is
    read-not-six : (t : List ℕ) (x : ℕ) → eqb 6 (refusal_of (reading (read_owed t x))) ≡ false
    unfolding read_owed
    read-not-six t x = by (ltb max_reads (length (t ++ (x ∷ [])))) (ltb max_extents (length (firsts (t ++ (x ∷ [])))))
      where
        -- by the two conditions
        by : (c d : Bool) → eqb 6 (refusal_of (reading (cond c (refused 8) (cond d (refused 9) (gives (distance t x)))))) ≡ false
        by true d = refl
        by false true = refl
        by false false = refl

    -- no naming
    name-not-six : (k : ℕ) (b : Bool) → is_name k ≡ b → eqb 6 (refusal_of (moment (cond b (cond (lies lent k) (Ok tt) (Err NoRoom)) (Err OutOfRange)))) ≡ false
    name-not-six k true e = rw (names-lie lent room k e)
    name-not-six k false e = refl

    -- no return
    return-not-six : (b : Bool) (o : Moment) → eqb 6 (refusal_of (moment (cond b (moment_owed o) (Err OutOfRange)))) ≡ false
    return-not-six true none = refl
    return-not-six true (log t) = refl
    return-not-six false o = refl

    -- no call
    not-six : (m : Memory) (c : Call) → eqb 6 (refusal_of (owed_for lent m c)) ≡ false
    not-six m (read x) = read-not-six m.now x
    not-six m (name k) = name-not-six k (is_name k) refl
    not-six m (return_to k) = return-not-six (is_name k) (m.under k)

    pub never-six : (calls : List Call) (m : Memory) → mem 6 (map refusal_of (owed_by lent m calls)) ≡ false
    unfolding owed_by mem
    never-six [] m = refl
    never-six (c ∷ cs) m = rw (not-six m c, never-six cs (then lent m c))
