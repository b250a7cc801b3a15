-- The tests of the view come first, then that of the room. Assumes nothing.
use Rattle.std.specs.Prelude.{Ok}
use mathlib.Core.List.{List, [], ◌∷◌, ◌++◌, map}
use mathlib.Core.Path.{◌≡◌, refl, sym, ap₂, ◌∙◌}
use Prim.Native.Nat.{ℕ}
use native.Mathlib.Omega.{arith}
use lib.ListN.{length, drop}
use Rattle.codes.specs.Codes.{letter, chars}
use Rattle.codes.specs.Refusals.{Test, first, no_room, view_tests}
use Rattle.writes.specs.Writes.{unpack_outcome, unpacked_over}
use Rattle.writes.proofs.LetterLaws.{letters_all}
use Rattle.codes.proofs.OutcomeLaws.{first_done, gives_refused, passes, room_short, room_right}
use Rattle.fields.proofs.ViewLaws.{view_accepted}
use Rattle.writes.proofs.calls.unpack.Goals.{In_ok-view_outcome, Start}
use Rattle.writes.proofs.calls.unpack.Goals as goal

-- the tests, of the view and of the room
module _ (s : Start) where
  abbrev tests : List Test
  tests = view_tests 2 (length s.args.bytes.now) s.args.offset.0 s.args.len.0

  abbrev size : ℕ
  size = length s.args.out.now

  abbrev needed : ℕ
  needed = s.args.len.0

  abbrev room : List Test
  room = no_room size needed ∷ []

-- the view is not refused
module _ (c : In_ok-view_outcome) where
  done : first (tests (goal.at.In_ok-view_outcome c).Start) ≡ Ok tt
  done = sym c.in_ok-view_outcome.ensures

pub returns-then-out-n : goal.returns-then-out-n
unfolding unpack_outcome
returns-then-out-n c = record {
  outcome = room_short (size (goal.at.returns-then-out-n c).Start) (needed (goal.at.returns-then-out-n c).Start) (omega arith)
      ∙ sym (first_done (tests (goal.at.returns-then-out-n c).Start) (room (goal.at.returns-then-out-n c).Start) (done (goal.at.returns-then-out-n c).In_ok-view_outcome));
  bytes = refl;
}

pub write_letters-requires : goal.write_letters-requires
write_letters-requires c =
    let a = c.args in
    let r = view_accepted 2 (length a.bytes.now) a.offset.0 a.len.0 (done (goal.at.write_letters-requires c).In_ok-view_outcome) in
    (omega arith, omega (arith, r.fits), r.small)

pub returns-in_err-view_outcome : goal.returns-in_err-view_outcome
unfolding unpack_outcome
returns-in_err-view_outcome c =
    let s = (goal.at.returns-in_err-view_outcome c).Start in
    let p = passes (tests s) (room s) _ _ c.in_err-view_outcome.ensures c.from_residual.ensures.1 in
    record { outcome = p.0 ∙ sym p.1; bytes = gives_refused _ _ _ _ p.0 }

pub returns : goal.returns
unfolding unpack_outcome unpacked_over
returns c =
    let a = c.args in record {
      outcome = room_right (size (goal.at.returns c).Start) (needed (goal.at.returns c).Start) (omega arith)
          ∙ sym (first_done (tests (goal.at.returns c).Start) (room (goal.at.returns c).Start) (done (goal.at.returns c).In_ok-view_outcome));
      bytes = letters_all a.bytes.now _ c.write_letters.ensures (omega arith)
          ∙ ap₂ (λ (o n : ℕ). map letter (chars 2 a.bytes.now o n) ++ drop n a.out.now) c.count.ensures c.count-n.ensures;
    }
