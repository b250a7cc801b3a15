-- The view's tests and then the room's, in the definition's order. Assumes nothing.
use Rattle.std.specs.Prelude.{Ok}
use mathlib.Core.List.{List, [], ◌∷◌}
use mathlib.Core.Path.{◌≡◌, refl, sym, ap, ap₂, ◌∙◌, subst}
use Prim.Native.Nat.{ℕ, ◌+◌, ◌*◌, ◌/◌, ◌^◌, ◌<◌}
use native.Mathlib.Omega.{arith}
use lib.ListN.{length}
use Rattle.codes.specs.Codes.{up, trailing}
use Rattle.codes.specs.Refusals.{Test, first, no_room, view_tests}
use Rattle.writes.specs.Writes.{flip_outcome, flipped_over}
use Rattle.codes.proofs.OutcomeLaws.{first_done, gives_refused, passes, room_short, room_right}
use Rattle.fields.proofs.LoadLaws.{view_bits}
use Rattle.writes.proofs.ReverseLaws.{bytes-of_bits}
use Rattle.writes.proofs.calls.to_revcomp.Given.{Over}
use Rattle.writes.proofs.calls.to_revcomp.Goals.{After-BITS, In_ok-view_outcome, Start}
use Rattle.writes.proofs.calls.to_revcomp.Goals as goal

-- the tests, of the view and of the room
module _ (g : Over) (s : Start g) where
  abbrev tests : List Test
  tests = view_tests g.W.Width.BITS (length s.args.bytes.now) s.args.offset.0 s.args.len.0

  abbrev size : ℕ
  size = length s.args.out.now

  abbrev needed : ℕ
  needed = up g.W.Width.BITS s.args.len.0 + trailing

  abbrev room : List Test
  room = no_room size needed ∷ []

-- the view is not refused
module _ (g : Over) (c : In_ok-view_outcome g) where
  done : first (tests g (goal.at.In_ok-view_outcome g c).Start) ≡ Ok tt
  done = sym c.in_ok-view_outcome.ensures

-- its bits, and the bytes that they take
module _ (g : Over) (c : After-BITS g) where
  bits : c.BITS.result * c.count-n.result < 2 ^ 32
  bits =
      let a = c.args in
      let h = view_bits g.W.Width.divides (length a.bytes.now) a.offset.0 a.len.0 (done g (goal.at.After-BITS g c).In_ok-view_outcome) in
      rw c.BITS.ensures (subst (λ (n : ℕ). g.W.Width.BITS * n < 2 ^ 32) (sym c.count-n.ensures) (omega (arith, h.room, h.few)))

  used : (c.BITS.result * c.count-n.result + 7) / 8 ≡ up g.W.Width.BITS c.count-n.result
  used = rw c.BITS.ensures (bytes-of_bits g.W.Width.divides c.count-n.result)

pub overflow_mul-used : goal.overflow_mul-used
overflow_mul-used g c = record { fits = omega (arith, bits g c) }

pub overflow_add-used : goal.overflow_add-used
overflow_add-used g c = record { fits = omega (arith, bits g c) }

pub overflow_add-used-2 : goal.overflow_add-used-2
overflow_add-used-2 g c = record { fits = omega (arith, bits g c) }

pub returns-then-out-used : goal.returns-then-out-used
unfolding flip_outcome
returns-then-out-used g c =
    record {
      outcome = room_short (size g (goal.at.returns-then-out-used g c).Start) (needed g (goal.at.returns-then-out-used g c).Start)
          (omega (arith, used g (goal.at.returns-then-out-used g c).After-BITS, ap (up g.W.Width.BITS) c.count-n.ensures))
          ∙ sym (first_done (tests g (goal.at.returns-then-out-used g c).Start) (room g (goal.at.returns-then-out-used g c).Start) (done g (goal.at.returns-then-out-used g c).In_ok-view_outcome));
      bytes = refl;
    }

pub write_flipped-requires : goal.write_flipped-requires
write_flipped-requires g c =
    let e = ap₂ (λ (o l : ℕ). first (view_tests g.W.Width.BITS (length c.args.bytes.now) o l)) c.count.ensures c.count-n.ensures ∙ done g (goal.at.write_flipped-requires g c).In_ok-view_outcome in
    record { len_value = e; used_value = (used g (goal.at.write_flipped-requires g c).After-BITS, omega arith) }

pub returns-in_err-view_outcome : goal.returns-in_err-view_outcome
unfolding flip_outcome
returns-in_err-view_outcome g c =
    let s = (goal.at.returns-in_err-view_outcome g c).Start in
    let p = passes (tests g s) (room g s) _ _ c.in_err-view_outcome.ensures c.from_residual.ensures.1 in
    record { outcome = p.0 ∙ sym p.1; bytes = gives_refused _ _ _ _ p.0 }

pub returns : goal.returns
unfolding flip_outcome
returns g c =
    let a = c.args in record {
      outcome = room_right (size g (goal.at.returns g c).Start) (needed g (goal.at.returns g c).Start)
          (omega (arith, used g (goal.at.returns g c).After-BITS, ap (up g.W.Width.BITS) c.count-n.ensures))
          ∙ sym (first_done (tests g (goal.at.returns g c).Start) (room g (goal.at.returns g c).Start) (done g (goal.at.returns g c).In_ok-view_outcome));
      bytes = c.write_flipped.ensures ∙ ap₂ (λ (o n : ℕ). flipped_over g.W.Width.BITS a.bytes.now o n a.out.now) c.count.ensures c.count-n.ensures;
    }
