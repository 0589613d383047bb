-- `session_layout::session_in` meets its contract.
use Rattle.std.specs.Prelude.{Some}
use mathlib.Core.Path.{sym, ◌∙◌}
use native.Mathlib.Omega.{arith}
use lib.ListN.{get_or}
use Rattle.reuse.specs.Limits.{max_extents, slot_count, right_count}
use Rattle.session_layout.specs.Layout.{first_place, hist_place, slots_place, count_place, rights_place, next_place, part, session_in}
use Rattle.session_layout.proofs.Laid.{placed-whole, padded-whole, part_length}
use Rattle.session_layout.proofs.Enough.{kept-short, kept-all}
use Rattle.session_layout.proofs.session_in.Goals as goal

pub returns-then-words-lt-SESSION : goal.returns-then-words-lt-SESSION
returns-then-words-lt-SESSION c = sym (kept-short _ c.if-words-lt-SESSION.true)

pub returns : goal.returns
unfolding session_in part
returns c =
    let w = c.args.words.now in
    let l = c.if-words-lt-SESSION.false in
    (λ i. Some (record {
      reads = get_or w 0 0;
      first = (c.padded-first.ensures ∙ padded-whole _ (part_length w first_place max_extents (omega (arith, l)))) i;
      hist = (c.padded-hist.ensures ∙ padded-whole _ (part_length w hist_place max_extents (omega (arith, l)))) i;
      slots = (c.put.ensures ∙ placed-whole _ _ (part_length w slots_place slot_count (omega (arith, l)))) i;
      count = get_or w count_place 0;
      rights = (c.put-2.ensures ∙ placed-whole _ _ (part_length w rights_place right_count (omega (arith, l)))) i;
      next = get_or w next_place 0;
    })) ∙ sym (kept-all w l)
