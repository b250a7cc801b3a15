-- The zeros behind what was filled make it whole. Assumes nothing.
use mathlib.Core.List.{List, map}
use mathlib.Core.Path.{◌≡◌, sym, ap, ◌∙◌}
use Prim.Native.Nat.{ℕ, ◌+◌, ◌*◌, ◌^◌, ◌≤◌}
use native.Mathlib.Nat.{le_of_eq}
use native.Mathlib.Omega.{arith}
use lib.ListN.{length, length-map}
use Rattle.codes.specs.Codes.{IsWidth, per, up, trailing, code}
use Rattle.codes.proofs.MadeLaws.{made_at}
use Rattle.codes.proofs.WidthLaws.{up-hi}
use Rattle.runs.specs.Runs.{spliced}
use Rattle.runs.proofs.RoomLaws.{room_chars}
use Rattle.runs.proofs.WrittenLaws.{made-written}
use Rattle.runs.proofs.inner.writes.write_letters.Given.{Over}
use Rattle.runs.proofs.inner.writes.write_letters.Goals.{After-count-last, After-count-stop}
use Rattle.runs.proofs.inner.writes.write_letters.Goals as goal

-- what is known once the end is
module _ (g : Over) (c : After-count-last g) where
  abbrev W : IsWidth g.W.Width.BITS
  W = g.W.Width.divides

  abbrev end : ℕ
  end = c.args.at + length c.args.letters.now

  small : length c.args.buffer.now ≤ 2 ^ 28
  small = c.requires.buffer_len_bound

  room : up g.W.Width.BITS end + trailing ≤ length c.args.buffer.now
  room = c.requires.trailing_in_bounds

  used-is : c.bytes_as-used.result.0 ≡ up g.W.Width.BITS end
  used-is = c.bytes_as-used.ensures ∙ ap (up g.W.Width.BITS) c.new.ensures

  last_is : c.count-last.result ≡ up g.W.Width.BITS end
  last_is = c.count-last.ensures ∙ used-is

pub overflow_add-end : goal.overflow_add-end
overflow_add-end g c =
    let a = c.args in
    omega (arith, room_chars g.W.Width.divides (a.at + length a.letters.now) (length a.buffer.now) (omega arith) c.requires.buffer_len_bound)

pub chars_in-requires : goal.chars_in-requires
chars_in-requires g c = omega (arith, used-is g c, room g c, small g c)

-- where the zeros of the last byte stop
stop_is : (g : Over) (c : After-count-stop g) → c.count-stop.result ≡ up g.W.Width.BITS (end g (goal.at.After-count-stop g c).After-count-last) * per g.W.Width.BITS
stop_is g c = c.count-stop.ensures ∙ c.chars_in.ensures ∙ ap (λ (x : ℕ). x * per g.W.Width.BITS) (used-is g (goal.at.After-count-stop g c).After-count-last)

pub fill_letters-requires : goal.fill_letters-requires
fill_letters-requires g c =
    let e = stop_is g (goal.at.fill_letters-requires g c).After-count-stop in
    record { buffer_len_bound = small g (goal.at.fill_letters-requires g c).After-count-last; letters_in_bounds = omega (arith, room g (goal.at.fill_letters-requires g c).After-count-last); letters_bound = (omega (arith, e, up-hi (W g (goal.at.fill_letters-requires g c).After-count-last) (end g (goal.at.fill_letters-requires g c).After-count-last)), le_of_eq e) }

pub overflow_add-last : goal.overflow_add-last
overflow_add-last g c = omega (arith, last_is g (goal.at.overflow_add-last g c).After-count-last, room g (goal.at.overflow_add-last g c).After-count-last, small g (goal.at.overflow_add-last g c).After-count-last)

pub zero_run-requires : goal.zero_run-requires
zero_run-requires g c = (omega arith, omega (arith, last_is g (goal.at.zero_run-requires g c).After-count-last, room g (goal.at.zero_run-requires g c).After-count-last, c.fill_letters.auto.buffer))

pub returns : goal.returns
returns g c =
    let a = c.args in
    let cs : List ℕ = map (code g.W.Width.BITS) a.letters.now in
    let u : up g.W.Width.BITS (end g (goal.at.returns g c).After-count-last) ≡ up g.W.Width.BITS (a.at + length cs) = ap (λ (x : ℕ). up g.W.Width.BITS (a.at + x)) (sym (length-map a.letters.now (code g.W.Width.BITS))) in
    made-written (W g (goal.at.returns g c).After-count-last) a.buffer.now a.at cs (made_at trailing c.zero_run.ensures (last_is g (goal.at.returns g c).After-count-last ∙ u))
    (c.fill_letters.ensures ∙ ap (spliced g.W.Width.BITS a.buffer.now a.at cs) (stop_is g (goal.at.returns g c).After-count-stop ∙ ap (λ (x : ℕ). x * per g.W.Width.BITS) u))
