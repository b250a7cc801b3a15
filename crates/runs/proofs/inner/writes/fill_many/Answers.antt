-- The byte of `at`, the whole bytes and the byte of the end are one run, and all else stays. Assumes nothing.
use mathlib.Core.List.{List, map}
use mathlib.Core.Path.{◌≡◌, sym, ap, ◌∙◌, subst}
use Prim.Native.Nat.{ℕ, ◌+◌, ◌-◌, ◌*◌, ◌/◌, ◌%◌, ◌≤◌, ◌<◌}
use native.Mathlib.Nat.{le_refl, mod-lt, suc-mul, mul-le-mul_right, div-mul-le_self}
use native.Mathlib.Omega.{arith}
use lib.ListN.{length, get_or}
use Rattle.codes.specs.Codes.{IsWidth, per, up, code}
use Rattle.codes.specs.Made.{Made}
use Rattle.codes.proofs.MadeLaws.{made_none}
use Rattle.codes.proofs.WidthLaws.{per_pos, per-le}
use Rattle.runs.specs.Bytes.{anew}
use Rattle.runs.proofs.FreshLaws.{made-three, made-whole}
use Rattle.runs.proofs.LetterLaws.{made-first, made-last, first_next, first_behind}
use Rattle.runs.proofs.RoomLaws.{div-up, up-part, up-full}
use Rattle.runs.proofs.inner.writes.fill_many.Given.{Over}
use Rattle.runs.proofs.inner.writes.fill_many.Goals.{After-count, After-count-r, After-whole_run, Start}
use Rattle.runs.proofs.inner.writes.fill_many.Goals as goal

-- what is known once the bytes are
module _ (g : Over) (c : After-count-r g) where
  abbrev s : Start g
  s = (goal.at.After-count-r g c).Start

  abbrev w : ℕ
  w = g.W.Width.BITS

  abbrev W : IsWidth w
  W = g.W.Width.divides

  abbrev end : ℕ
  end = s.args.at + length s.args.letters.now

  abbrev b : ℕ
  b = c.count-b.result

  abbrev to : ℕ
  to = c.count-to.result

  eight : 8 ≤ length s.args.letters.now
  eight = s.requires.letters_len_bound

  bytes : (j : ℕ) → get_or s.args.buffer.now j 0 < 256
  bytes j = (c.slice_known-1.given j).fits

  b_is : b ≡ s.args.at / per w
  b_is = c.count-b.ensures ∙ c.byte_of.ensures ∙ ap (λ (x : ℕ). x / per w) c.new-start.ensures

  k_is : c.count-k.result ≡ s.args.at % per w
  k_is = c.count-k.ensures ∙ c.within_byte.ensures ∙ ap (λ (x : ℕ). x % per w) c.new-start.ensures

  to_is : to ≡ end / per w
  to_is = c.count-to.ensures ∙ c.byte_of-2.ensures ∙ ap (λ (x : ℕ). x / per w) c.new-end.ensures

  r_is : c.count-r.result ≡ end % per w
  r_is = c.count-r.ensures ∙ c.within_byte-2.ensures ∙ ap (λ (x : ℕ). x % per w) c.new-end.ensures

  few : c.count-k.result ≤ per w
  few = omega (arith, k_is, mod-lt s.args.at (per_pos W))

  room : up w end ≤ length s.args.buffer.now
  room = s.requires.letters_in_bounds

  stops : end ≤ s.args.stop
  stops = s.requires.letters_bound.0

  next : b + 1 ≤ to
  next = omega (arith, b_is, to_is, first_next W s.args.at (length s.args.letters.now) eight)

  behind : s.args.at ≤ (b + 1) * per w
  behind = subst (λ (x : ℕ). s.args.at ≤ (x + 1) * per w) (sym b_is) (first_behind W s.args.at)

  next_to : (b + 1) * per w ≤ to * per w
  next_to = mul-le-mul_right (per w) next

  to_end : to * per w ≤ end
  to_end = subst (λ (x : ℕ). x * per w ≤ end) (sym to_is) (div-mul-le_self end (per w))

  to_last : to ≤ up w end
  to_last = omega (arith, to_is, div-up W end end (le_refl end))

  -- where letters stand in the byte of the end
  last_is : 0 < c.count-r.result → up w end ≡ to + 1
  last_is h = up-part W end (omega (arith, r_is)) ∙ ap (λ (x : ℕ). x + 1) (sym to_is)

  stop_next : 0 < c.count-r.result → s.args.stop ≤ (to + 1) * per w
  stop_next h = subst (λ (x : ℕ). s.args.stop ≤ x * per w) (last_is h) s.requires.letters_bound.1

  -- where none do
  stop_full : c.count-r.result ≡ 0 → s.args.stop ≤ to * per w
  stop_full h = subst (λ (x : ℕ). s.args.stop ≤ x * per w) (up-full W end (sym r_is ∙ h) ∙ sym to_is) s.requires.letters_bound.1

-- the first byte's run
module _ (g : Over) (c : After-whole_run g) where
  abbrev o : After-count-r g
  o = (goal.at.After-whole_run g c).After-count-r

  first_run : Made (anew (w g o) (s g o).args.buffer.now (s g o).args.at (map (code (w g o)) (s g o).args.letters.now) (s g o).args.stop) (b g o) (b g o + 1)
      (s g o).args.buffer.now c.join_above.new.buffer
  first_run =
      made-first (W g o) (s g o).args.at (s g o).args.letters.now (s g o).args.stop (eight g o) (k_is g o) c.first_letters.ensures (b_is g o)
      (omega (arith, suc-mul (b g o) (per (w g o)), next_to g o, to_end g o, stops g o)) (λ i. (c.slice_known-2-1.given i).fits) c.join_above.ensures

  abbrev d : List ℕ
  d = c.join_above.new.buffer

  whole_run : Made (anew (w g o) d (s g o).args.at (map (code (w g o)) (s g o).args.letters.now) (s g o).args.stop) (b g o + 1) (to g o) d c.whole_run.new.buffer
  whole_run = made-whole (w g o) (s g o).args.letters.now (behind g o) (to_end g o) c.whole_run.ensures (omega (arith, to_end g o, stops g o))

  long : length c.whole_run.new.buffer ≡ length (s g o).args.buffer.now
  long = c.whole_run.ensures.long ∙ c.join_above.ensures.long

-- where the last byte starts
starts_is : (g : Over) (c : After-count g) → c.count.result ≡ to g (o g (goal.at.After-count g c).After-whole_run) * per (w g (o g (goal.at.After-count g c).After-whole_run))
starts_is g c =
    c.count.ensures ∙ c.chars_in.ensures ∙ ap (λ (x : ℕ). x * per (w g (o g (goal.at.After-count g c).After-whole_run))) c.new.ensures

pub first_letters-requires : goal.first_letters-requires
first_letters-requires g c = (
  (s g (goal.at.first_letters-requires g c).After-count-r).requires.width_bound,
  omega (arith, eight g (goal.at.first_letters-requires g c).After-count-r, per-le (W g (goal.at.first_letters-requires g c).After-count-r)),
  few g (goal.at.first_letters-requires g c).After-count-r,
)

pub join_above-requires : goal.join_above-requires
join_above-requires g c = (
  omega (
    arith,
    next g (goal.at.join_above-requires g c).After-count-r,
    to_last g (goal.at.join_above-requires g c).After-count-r,
    room g (goal.at.join_above-requires g c).After-count-r,
  ),
  few g (goal.at.join_above-requires g c).After-count-r,
)

pub overflow_add-b : goal.overflow_add-b
overflow_add-b g c =
    omega (arith, next g (goal.at.overflow_add-b g c).After-count-r)

pub whole_run-requires : goal.whole_run-requires
whole_run-requires g c =
    let e = c.join_above.ensures.long in record {
      width_bound = (s g (goal.at.whole_run-requires g c).After-count-r).requires.width_bound;
      from_le_to = (
        next g (goal.at.whole_run-requires g c).After-count-r,
        omega (arith, to_last g (goal.at.whole_run-requires g c).After-count-r, room g (goal.at.whole_run-requires g c).After-count-r),
        omega (arith, (s g (goal.at.whole_run-requires g c).After-count-r).requires.buffer_len_bound),
      );
      at_bound = (behind g (goal.at.whole_run-requires g c).After-count-r, to_end g (goal.at.whole_run-requires g c).After-count-r);
    }

pub chars_in-requires : goal.chars_in-requires
chars_in-requires g c =
    let k = o g (goal.at.chars_in-requires g c).After-whole_run in omega (arith, c.new.ensures, to_last g k, room g k, (s g k).requires.buffer_len_bound)

pub overflow_sub-rest : goal.overflow_sub-rest
overflow_sub-rest g c = let k = o g (goal.at.overflow_sub-rest g c).After-whole_run in omega (arith, starts_is g c, to_end g k, stops g k)

pub last_letters-requires : goal.last_letters-requires
last_letters-requires g c =
    let k = o g (goal.at.last_letters-requires g c).After-whole_run in
    ((s g k).requires.width_bound, omega (arith, eight g k, per-le (W g k)), omega (arith, r_is g k, mod-lt (end g k) (per_pos (W g k))))

pub join_below-requires : goal.join_below-requires
join_below-requires g c =
    let k = o g (goal.at.join_below-requires g c).After-whole_run in
    let some = c.if-r-gt0.true in (
      omega (arith, last_is g k some, room g k, long g (goal.at.join_below-requires g c).After-whole_run),
      omega (arith, starts_is g (goal.at.join_below-requires g c).After-count, stop_next g k some, suc-mul (to g k) (per (w g k))),
    )

pub returns-then-r-gt0 : goal.returns-then-r-gt0
returns-then-r-gt0 g c =
    let k = o g (goal.at.returns-then-r-gt0 g c).After-whole_run in
    let some = c.if-r-gt0.true in
    let last =
    made-last (W g k) (s g k).args.at (s g k).args.letters.now (s g k).args.stop (eight g k) (r_is g k) some
    c.last_letters.ensures (to_is g k) (omega (arith, behind g k, next_to g k)) (stops g k) (ap (λ (x : ℕ). (s g k).args.stop - x) (starts_is g (goal.at.returns-then-r-gt0 g c).After-count))
    (λ i. (c.slice_known-then-r-gt0-1.given i).fits) c.join_below.ensures in
    made-three (W g k) _ _ _ _ (bytes g k) (first_run g (goal.at.returns-then-r-gt0 g c).After-whole_run) (whole_run g (goal.at.returns-then-r-gt0 g c).After-whole_run) last (b_is g k)
    (omega arith) (next g k) (omega arith) (stop_next g k some)

pub returns-else-r-gt0 : goal.returns-else-r-gt0
returns-else-r-gt0 g c =
    let k = o g (goal.at.returns-else-r-gt0 g c).After-whole_run in
    made-three (W g k) _ _ _ _ (bytes g k) (first_run g (goal.at.returns-else-r-gt0 g c).After-whole_run) (whole_run g (goal.at.returns-else-r-gt0 g c).After-whole_run)
    (made_none (le_refl (to g k))) (b_is g k) (omega arith) (next g k) (le_refl (to g k)) (stop_full g k (omega (arith, c.if-r-gt0.false)))
