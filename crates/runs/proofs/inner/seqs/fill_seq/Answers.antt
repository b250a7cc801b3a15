-- The gap and the view's bytes are one run from the byte of the length to that of the last character, and all else stays. Assumes nothing.
use mathlib.Core.Path.{◌≡◌, refl, sym, ap, ◌∙◌}
use Prim.Native.Nat.{ℕ, ◌+◌, ◌*◌, ◌/◌, ◌^◌, ◌≤◌, ◌<◌}
use native.Mathlib.Nat.{le_refl, le_of_lt, le_of_eq, mul-le-mul_right}
use native.Mathlib.Omega.{arith}
use lib.ListN.{length, get_or}
use Rattle.codes.specs.Codes.{IsWidth, per, up}
use Rattle.codes.specs.Made.{Made}
use Rattle.codes.proofs.MadeLaws.{made_none, made_as, made-to}
use Rattle.codes.proofs.WidthLaws.{up-mono}
use Rattle.runs.specs.Bytes.{anew, Placed, placed_chars, placed_stop}
use Rattle.runs.specs.declared.inner.seqs.Place.{Place}
use Rattle.runs.proofs.FreshLaws.{made-splice, made-three}
use Rattle.runs.proofs.RoomLaws.{room_chars, div-up}
use Rattle.runs.proofs.SeqLaws.{start-hi, gap_fresh}
use Rattle.runs.proofs.inner.seqs.fill_seq.Given.{Over}
use Rattle.runs.proofs.inner.seqs.fill_seq.Goals.{After-count-last, After-fill_gap}
use Rattle.runs.proofs.inner.seqs.fill_seq.Goals as goal

-- what is known once the bytes are
module _ (g : Over) (c : After-count-last g) where
  abbrev w : ℕ
  w = g.W.Width.BITS

  abbrev p : Place
  p = c.args.p

  abbrev end : ℕ
  end = p.start + p.count

  abbrev W : IsWidth w
  W = g.W.Width.divides

  placed : Placed w p.len p.start p.offset p.count (length c.args.view.now)
  placed = c.requires.placed

  bytes : (j : ℕ) → get_or c.args.buffer.now j 0 < 256
  bytes j = (c.slice_known-1.given j).fits

  small : length c.args.buffer.now ≤ 2 ^ 28
  small = c.requires.buffer_len_bound.0

  room : up w end ≤ length c.args.buffer.now
  room = c.requires.buffer_len_bound.1

  first_is : c.count-first.result ≡ up w p.len
  first_is = c.count-first.ensures ∙ c.bytes_as.ensures ∙ ap (up w) c.new.ensures

  last_is : c.count-last.result ≡ up w end
  last_is = c.count-last.ensures ∙ c.bytes_as-2.ensures ∙ ap (up w) c.new-2.ensures

  ordered : up w p.len ≤ up w end
  ordered = up-mono W p.len end (omega (arith, placed.starts, start-hi W p.len c.args.view.now p.offset p.count))

-- the gap's run
module _ (g : Over) (c : After-fill_gap g) where
  gap_run : Made (anew (w g (goal.at.After-fill_gap g c).After-count-last) c.args.buffer.now (p g (goal.at.After-fill_gap g c).After-count-last).len
      (placed_chars (w g (goal.at.After-fill_gap g c).After-count-last) (p g (goal.at.After-fill_gap g c).After-count-last) c.args.view.now)
      (placed_stop (w g (goal.at.After-fill_gap g c).After-count-last) (p g (goal.at.After-fill_gap g c).After-count-last)))
      ((p g (goal.at.After-fill_gap g c).After-count-last).len / per (w g (goal.at.After-fill_gap g c).After-count-last)) c.count-first.result
      c.args.buffer.now c.fill_gap.new.buffer
  gap_run =
      let q = first_is g (goal.at.After-fill_gap g c).After-count-last in
      made_as (made-to c.fill_gap.ensures (sym q))
      (λ j a b. gap_fresh (W g (goal.at.After-fill_gap g c).After-count-last) (p g (goal.at.After-fill_gap g c).After-count-last).len c.args.view.now
      (p g (goal.at.After-fill_gap g c).After-count-last).offset (p g (goal.at.After-fill_gap g c).After-count-last).count _ _ _
      (placed g (goal.at.After-fill_gap g c).After-count-last).starts q (last_is g (goal.at.After-fill_gap g c).After-count-last) _ j (omega arith))

pub overflow_add-p : goal.overflow_add-p
overflow_add-p g c =
    let a = c.args in
    omega (arith, room_chars g.W.Width.divides (a.p.start + a.p.count) (length a.buffer.now) c.requires.buffer_len_bound.1 c.requires.buffer_len_bound.0)

pub fill_gap-requires : goal.fill_gap-requires
fill_gap-requires g c = omega (arith, ordered g (goal.at.fill_gap-requires g c).After-count-last, room g (goal.at.fill_gap-requires g c).After-count-last)

pub fill_view-requires : goal.fill_view-requires
fill_view-requires g c =
    let e = c.fill_gap.ensures.long in record {
      placed = placed g (goal.at.fill_view-requires g c).After-count-last;
      first_value = (first_is g (goal.at.fill_view-requires g c).After-count-last, last_is g (goal.at.fill_view-requires g c).After-count-last, c.if-first-last.true);
      buffer_len_bound = (
        omega (arith, small g (goal.at.fill_view-requires g c).After-count-last),
        omega (arith, last_is g (goal.at.fill_view-requires g c).After-count-last, room g (goal.at.fill_view-requires g c).After-count-last),
      );
    }

pub returns-then-first-last : goal.returns-then-first-last
returns-then-first-last g c =
    made-three (W g (goal.at.returns-then-first-last g c).After-count-last) _ _ _ _ (bytes g (goal.at.returns-then-first-last g c).After-count-last)
    (gap_run g (goal.at.returns-then-first-last g c).After-fill_gap) c.fill_view.ensures (made_none (le_refl c.count-last.result)) refl
    (omega (
      arith,
      first_is g (goal.at.returns-then-first-last g c).After-count-last,
      div-up (W g (goal.at.returns-then-first-last g c).After-count-last) (p g (goal.at.returns-then-first-last g c).After-count-last).len
          (p g (goal.at.returns-then-first-last g c).After-count-last).len (le_refl (p g (goal.at.returns-then-first-last g c).After-count-last).len),
    ))
    (le_of_lt c.if-first-last.true) (le_refl c.count-last.result)
    (le_of_eq (ap (λ (x : ℕ). x * per (w g (goal.at.returns-then-first-last g c).After-count-last)) (sym (last_is g (goal.at.returns-then-first-last g c).After-count-last))))

pub returns-else-first-last : goal.returns-else-first-last
returns-else-first-last g c =
    made-splice (W g (goal.at.returns-else-first-last g c).After-count-last) _ _ _ _ (bytes g (goal.at.returns-else-first-last g c).After-count-last)
    (gap_run g (goal.at.returns-else-first-last g c).After-fill_gap) refl
    (mul-le-mul_right (per (w g (goal.at.returns-else-first-last g c).After-count-last)) (omega (arith, last_is g (goal.at.returns-else-first-last g c).After-count-last)))
