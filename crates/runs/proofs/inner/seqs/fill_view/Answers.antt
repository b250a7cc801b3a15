-- The view's bytes copied, with the gap below the first of them and zeros above the last. Assumes nothing.
use mathlib.Core.Path.{◌≡◌, sym, ap, ◌∙◌, subst}
use Prim.Native.Nat.{ℕ, ◌+◌, ◌-◌, ◌*◌, ◌/◌, ◌%◌, ◌^◌, ◌≤◌, ◌<◌}
use native.Mathlib.Nat.{le_of_lt, mod-lt, suc-mul}
use native.Mathlib.Omega.{arith}
use lib.ListN.{length}
use Rattle.codes.specs.Codes.{IsWidth, per, up}
use Rattle.codes.proofs.WidthLaws.{per_pos, up-hi, up-below}
use Rattle.runs.specs.Bytes.{Placed}
use Rattle.runs.specs.declared.inner.seqs.Place.{Place}
use Rattle.runs.proofs.RoomLaws.{room_chars}
use Rattle.runs.proofs.SeqLaws.{copy_room, made-view}
use Rattle.runs.proofs.inner.seqs.fill_view.Given.{Over}
use Rattle.runs.proofs.inner.seqs.fill_view.Goals.{After-count, After-count-2, After-gap_byte, Start}
use Rattle.runs.proofs.inner.seqs.fill_view.Goals as goal

-- what is asked
module _ (g : Over) (s : Start g) where
  abbrev w : ℕ
  w = g.W.Width.BITS

  abbrev p : Place
  p = s.args.p

  abbrev end : ℕ
  end = p.start + p.count

  abbrev W : IsWidth w
  W = g.W.Width.divides

  placed : Placed w p.len p.start p.offset p.count (length s.args.view.now)
  placed = s.requires.placed

  first_is : s.args.first ≡ up w p.len
  first_is = s.requires.first_value.0

  last_is : s.args.last ≡ up w end
  last_is = s.requires.first_value.1

  some : s.args.first < s.args.last
  some = s.requires.first_value.2

  small : length s.args.buffer.now ≤ 2 ^ 28
  small = s.requires.buffer_len_bound.0

  room : s.args.last ≤ length s.args.buffer.now
  room = s.requires.buffer_len_bound.1

  -- the last byte starts below the end, which is at most a byte further
  before_end : (s.args.last - 1) * per w < end
  before_end = up-below W end (s.args.last - 1) (omega (arith, some, last_is))

  behind_end : end ≤ (s.args.last - 1) * per w + per w
  behind_end =
      subst (λ (x : ℕ). end ≤ x) (ap (λ (x : ℕ). x * per w) (sym last_is ∙ omega (arith, some)) ∙ suc-mul (s.args.last - 1) (per w)) (up-hi W end)

-- where the view's first byte is
module _ (g : Over) (c : After-count g) where
  lead_is : c.count.result ≡ (p g (goal.at.After-count g c).Start).offset / per (w g (goal.at.After-count g c).Start)
  lead_is = c.count.ensures ∙ c.byte_of.ensures ∙ ap (λ (x : ℕ). x / per (w g (goal.at.After-count g c).Start)) c.new-offset.ensures

-- how many characters of it are the gap's
module _ (g : Over) (c : After-gap_byte g) where
  k_is : c.count-k.result ≡ (p g (goal.at.After-gap_byte g c).Start).offset % per (w g (goal.at.After-gap_byte g c).Start)
  k_is =
      c.count-k.ensures ∙ c.within_byte.ensures ∙ ap (λ (x : ℕ). x % per (w g (goal.at.After-gap_byte g c).Start)) c.new-offset.ensures

-- and where the last byte starts
module _ (g : Over) (c : After-count-2 g) where
  abbrev t : Start g
  t = (goal.at.After-count-2 g c).Start

  starts_is : c.count-2.result ≡ (t.args.last - 1) * per (w g t)
  starts_is = c.count-2.ensures ∙ c.chars_in.ensures ∙ ap (λ (x : ℕ). x * per (w g t)) c.new.ensures

  long : length c.join_below.new.buffer ≡ length t.args.buffer.now
  long = c.join_below.ensures.long ∙ c.copy_run.ensures.long

pub copy_run-requires : goal.copy_run-requires
copy_run-requires g c =
    let fits = copy_room (W g (goal.at.copy_run-requires g c).Start) (p g (goal.at.copy_run-requires g c).Start).len c.args.view.now _ _ _ _ _
    (placed g (goal.at.copy_run-requires g c).Start).starts (first_is g (goal.at.copy_run-requires g c).Start) (last_is g (goal.at.copy_run-requires g c).Start) (lead_is g c) _
    (placed g (goal.at.copy_run-requires g c).Start).inside in
    record { from_le_to = (le_of_lt (some g (goal.at.copy_run-requires g c).Start), room g (goal.at.copy_run-requires g c).Start); from_in_bounds = fits }

pub join_below-requires : goal.join_below-requires
join_below-requires g c = (
  omega (arith, some g (goal.at.join_below-requires g c).Start, room g (goal.at.join_below-requires g c).Start, c.copy_run.ensures.long),
  omega (arith, k_is g c, mod-lt (p g (goal.at.join_below-requires g c).Start).offset (per_pos (W g (goal.at.join_below-requires g c).Start))),
)

pub overflow_add-rest : goal.overflow_add-rest
overflow_add-rest g c =
    omega (
      arith,
      room_chars (W g (goal.at.overflow_add-rest g c).Start) (end g (goal.at.overflow_add-rest g c).Start) (length c.args.buffer.now)
          (omega (arith, last_is g (goal.at.overflow_add-rest g c).Start, room g (goal.at.overflow_add-rest g c).Start)) (small g (goal.at.overflow_add-rest g c).Start),
    )

pub chars_in-requires : goal.chars_in-requires
chars_in-requires g c =
    omega (arith, c.new.ensures, room g (goal.at.chars_in-requires g c).Start, small g (goal.at.chars_in-requires g c).Start)

pub overflow_sub-rest : goal.overflow_sub-rest
overflow_sub-rest g c = omega (arith, starts_is g c, before_end g (t g c))

pub overflow_sub-last-2 : goal.overflow_sub-last-2
overflow_sub-last-2 g c = omega (arith, some g (t g (goal.at.overflow_sub-last-2 g c).After-count-2))

pub join_above-requires : goal.join_above-requires
join_above-requires g c = (
  omega (
    arith,
    some g (t g (goal.at.join_above-requires g c).After-count-2),
    room g (t g (goal.at.join_above-requires g c).After-count-2),
    long g (goal.at.join_above-requires g c).After-count-2,
  ),
  omega (arith, starts_is g (goal.at.join_above-requires g c).After-count-2, behind_end g (t g (goal.at.join_above-requires g c).After-count-2)),
)

pub returns : goal.returns
returns g c =
    let u = t g (goal.at.returns g c).After-count-2 in
    made-view (W g u) (p g u).len u.args.view.now (p g u).offset (p g u).count _ _ _ (placed g u).starts (first_is g u) (last_is g u) (some g u)
    (lead_is g (goal.at.returns g c).After-count) (k_is g (goal.at.returns g c).After-gap_byte) c.gap_byte.ensures (ap (λ (x : ℕ). end g u - x) (starts_is g (goal.at.returns g c).After-count-2))
    c.copy_run.ensures c.join_below.ensures c.join_above.ensures (λ i. (c.slice_known-4-1.given i).fits)
