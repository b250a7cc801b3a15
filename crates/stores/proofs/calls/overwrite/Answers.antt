-- Refused, nothing is written; done, the tests give the room that the writing asks for. Assumes nothing.
use Rattle.std.proofs.Common.{rules}
use mathlib.Core.List.{List, map}
use mathlib.Core.Path.{◌≡◌, refl, sym, ap₂, ◌∙◌}
use Prim.Native.Nat.{ℕ, ◌+◌, ◌^◌, ◌≤◌}
use native.Mathlib.Nat.{le_refl}
use native.Mathlib.Omega.{arith}
use borrow.Author.Tests.{ltb-false}
use lib.ListN.{length, length-map}
use Rattle.codes.specs.Codes.{up, trailing, char_at, code}
use Rattle.codes.specs.Words.{pack}
use Rattle.codes.proofs.WidthLaws.{up-hi, up-mono}
use Rattle.stores.specs.Stores.{tests, outcome, overwrite}
use Rattle.runs.specs.Runs.{overwritten, splice}
use Rattle.stores.proofs.CallLaws.{Passed, Judged, judged_passed, refused, done_says, done_after, was_refused, was_done}
use Rattle.runs.proofs.RoomLaws.{room_chars}
use Rattle.stores.proofs.calls.overwrite.Given.{Over}
use Rattle.stores.proofs.calls.overwrite.Goals.{After-end_outcome, In_ok-map_err}
use Rattle.stores.proofs.calls.overwrite.Goals as goal

judged : (g : Over) (c : After-end_outcome g)
    → let a = c.args in Judged g.W.Width.BITS a.buffer.now a.len.0 (overwrite a.start.0 a.letters.now) c.end_outcome.result
unfolding outcome
judged g c = record { is = c.end_outcome.ensures }

-- what is known where it is done
module _ (g : Over) (c : In_ok-map_err g) where
  abbrev size : ℕ
  size = length c.args.buffer.now

  abbrev passed : Passed (tests g.W.Width.BITS size c.args.len.0 (overwrite c.args.start.0 c.args.letters.now))
  passed = judged_passed (judged g (goal.at.In_ok-map_err g c).After-end_outcome) (was_done c.end_outcome.result _ c.in_ok-map_err.ensures.cases)

  small : size ≤ 2 ^ 28
  small = ltb-false _ _ passed.0

  sound : up g.W.Width.BITS c.args.len.0 + trailing ≤ size
  sound = ltb-false _ _ passed.1.0

  within : c.args.start.0 + length c.args.letters.now ≤ c.args.len.0
  within = ltb-false _ _ passed.1.1.0

pub overflow_add-at : goal.overflow_add-at
overflow_add-at g c =
    omega (
      arith,
      c.count-at.ensures,
      within g (goal.at.overflow_add-at g c).In_ok-map_err,
      room_chars g.W.Width.divides c.args.len.0 (size g (goal.at.overflow_add-at g c).In_ok-map_err) (omega (arith, sound g (goal.at.overflow_add-at g c).In_ok-map_err)) (small g (goal.at.overflow_add-at g c).In_ok-map_err),
    )

pub fill_letters-requires : goal.fill_letters-requires
fill_letters-requires g c =
    let W = g.W.Width.divides in
    let e = c.count-at.result + length c.args.letters.now in
    let l = up-mono W e c.args.len.0 (omega (arith, within g (goal.at.fill_letters-requires g c).In_ok-map_err, c.count-at.ensures)) in
    record { buffer_len_bound = small g (goal.at.fill_letters-requires g c).In_ok-map_err; letters_in_bounds = omega (arith, sound g (goal.at.fill_letters-requires g c).In_ok-map_err, l); letters_bound = (le_refl e, up-hi W e) }

pub returns-in_err-map_err : goal.returns-in_err-map_err
returns-in_err-map_err g c =
    let u = c.in_err-map_err.field-0.0 in
    let q = was_refused c.end_outcome.result u c.in_err-map_err.ensures.cases in
    let e : u ≡ record { refusal = q.0; len = c.args.len } = search rules in
    let p = refused (judged g (goal.at.returns-in_err-map_err g c).After-end_outcome) q.1 _ u _ _ e refl c.from_residual.ensures.1 in
    record { says = p.0; bytes = p.1 }

pub returns : goal.returns
unfolding overwritten
returns g c =
    let a = c.args in
    let cs : List ℕ = map (code g.W.Width.BITS) a.letters.now in
    let at = c.count-at.ensures in
    let h = judged g (goal.at.returns g c).After-end_outcome in
    let q = was_done c.end_outcome.result _ c.in_ok-map_err.ensures.cases in record {
      says = done_says h q;
      bytes = c.fill_letters.ensures
          ∙ ap₂ (λ (x n : ℕ). pack g.W.Width.BITS (size g (goal.at.returns g c).In_ok-map_err) (splice (char_at g.W.Width.BITS a.buffer.now) x cs (x + n))) at (sym (length-map a.letters.now (code g.W.Width.BITS)))
          ∙ done_after h q;
    }
