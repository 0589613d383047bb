-- The limits of the product, in one place. `limits` of the code is shown equal to these.
use Rattle.std.specs.Prelude.{ℕ}

-- the most reads of a trace
abbrev pub max_reads : ℕ
max_reads = 1_048_576

-- the most different extents of a trace
abbrev pub max_extents : ℕ
max_extents = 1_024

-- the slots of a session
abbrev pub slot_count : ℕ
slot_count = 2_048

-- the sums of a full binary tree over the slots, one for each slot and each branching point
abbrev pub sum_count : ℕ
sum_count = 4_095

-- the right-hand sums of a session: one for each branching point of that tree
abbrev pub right_count : ℕ
right_count = 2_047

-- the levels of that tree above its leaves, as many as a slot's number has binary digits
abbrev pub levels : ℕ
levels = 11

-- the largest store that is split among customers
abbrev pub max_store : ℕ
max_store = 1_024

-- the most customers of one store
abbrev pub max_customers : ℕ
max_customers = 8

-- the names for moments are the numbers from 1 to this
abbrev pub max_names : ℕ
max_names = 8
