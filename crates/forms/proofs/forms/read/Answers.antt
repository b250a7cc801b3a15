-- Where no test holds, each buffer takes its part of the form; else both stay. Assumes nothing.
use Rattle.std.specs.Prelude.{Err}
use Rattle.codes.specs.Refusals.{Outcome}
use mathlib.Core.List.{List}
use mathlib.Core.Path.{◌≡◌, sym, ap, ◌∙◌}
use Prim.Native.Nat.{ℕ, ◌+◌}
use native.Mathlib.Omega.{arith}
use lib.ListN.{length, length-drop}
use Rattle.codes.specs.Codes.{up}
use Rattle.codes.proofs.RefusalLaws.{answer-outcome}
use Rattle.codes.proofs.OutcomeLaws.{answer_done, answer_passed, gives_done, gives_refused}
use Rattle.forms.specs.Reading.{read_outcome, read_answer, bases_after, flags_after, filled_with, base_bytes, flag_bytes, form_length}
use Rattle.forms.proofs.ReadLaws.{Readable, readable, length_part, rest_is, base_lent, flag-lent}
use Rattle.forms.proofs.forms.read.Goals.{After-count, In_ok-checked, Start}
use Rattle.forms.proofs.forms.read.Goals as goal

abbrev outcome : Start → Outcome
outcome s = read_outcome s.args.form.now s.args.bases.now s.args.flags.now

-- the form can be read
good : (c : In_ok-checked)
    → (let a = c.args in Readable a.form.now (length a.bases.now) (length a.flags.now) c.in_ok-checked.checked.len.0 c.in_ok-checked.checked.body)
good c = readable _ _ _ _ _ c.in_ok-checked.ensures

-- the bytes of its bases
bases : (c : After-count) → c.count.result ≡ up 2 c.in_ok-checked.checked.len.0
bases c = c.count.ensures ∙ c.bytes_as.ensures

pub overflow_add-middle : goal.overflow_add-middle
overflow_add-middle c = let h = good (goal.at.overflow_add-middle c).In_ok-checked in omega (arith, bases (goal.at.overflow_add-middle c).After-count, h.small, h.whole)

pub slice_bounds-fill-end : goal.slice_bounds-fill-end
slice_bounds-fill-end c = let h = good (goal.at.slice_bounds-fill-end c).In_ok-checked in omega (arith, bases (goal.at.slice_bounds-fill-end c).After-count, h.whole)

pub fill-requires : goal.fill-requires
fill-requires c =
    let h = good (goal.at.fill-requires c).In_ok-checked in
    let a = c.args in
    omega (arith, h.base_room, bases (goal.at.fill-requires c).After-count, length_part c.in_ok-checked.checked.body c.count.result a.form.now (omega (arith, bases (goal.at.fill-requires c).After-count, h.whole)))

pub slice_bounds-fill-count-2 : goal.slice_bounds-fill-count-2
slice_bounds-fill-count-2 c = let h = good (goal.at.slice_bounds-fill-count-2 c).In_ok-checked in omega (arith, bases (goal.at.slice_bounds-fill-count-2 c).After-count, h.whole)

pub slice_bounds-fill-start-2 : goal.slice_bounds-fill-start-2
slice_bounds-fill-start-2 c = let h = good (goal.at.slice_bounds-fill-start-2 c).In_ok-checked in omega (arith, bases (goal.at.slice_bounds-fill-start-2 c).After-count, h.whole)

pub fill-requires-2 : goal.fill-requires-2
fill-requires-2 c =
    let h = good (goal.at.fill-requires-2 c).In_ok-checked in
    let a = c.args in
    let b = c.in_ok-checked.checked.body + c.count.result in
    omega (arith, h.flag-room, h.whole, bases (goal.at.fill-requires-2 c).After-count, ap length (rest_is b a.form.now), length-drop b a.form.now)

pub returns-in_err-checked : goal.returns-in_err-checked
unfolding read_outcome read_answer bases_after flags_after
returns-in_err-checked c =
    let o = outcome (goal.at.returns-in_err-checked c).Start in
    let e = answer-outcome (Err _) o (0, 0) _ (0, 0) (0, 0) c.in_err-checked.ensures in
    let p = sym e in
    record { answer = answer_passed _ _ _ _ _ _ e c.from_residual.ensures.1; base_bytes = gives_refused o _ _ _ p; flag_bytes = gives_refused o _ _ _ p }

pub returns : goal.returns
unfolding read_outcome read_answer bases_after flags_after
returns c =
    let a = c.args in
    let h = good (goal.at.returns c).In_ok-checked in
    let f = a.form.now in record {
      answer = answer_done (outcome (goal.at.returns c).Start) _ (form_length f) 0 h.done h.len_is;
      base_bytes = c.fill.ensures
          ∙ ap (λ (t : List ℕ). filled_with t a.bases.now) (base_lent f c.in_ok-checked.checked.len.0 c.in_ok-checked.checked.body c.count.result (bases (goal.at.returns c).After-count) h.len_is h.body_is)
          ∙ gives_done (outcome (goal.at.returns c).Start) (filled_with (base_bytes f) a.bases.now) a.bases.now h.done;
      flag_bytes = c.fill-2.ensures
          ∙ ap (λ (t : List ℕ). filled_with t a.flags.now) (flag-lent f c.in_ok-checked.checked.len.0 c.in_ok-checked.checked.body c.count.result (bases (goal.at.returns c).After-count) h.len_is h.body_is)
          ∙ gives_done (outcome (goal.at.returns c).Start) (filled_with (flag_bytes f) a.flags.now) a.flags.now h.done;
    }
