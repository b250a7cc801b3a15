-- The tests are the definition's, in its order, on the parts of the form. Assumes nothing.
use mathlib.Core.Path.{◌≡◌, sym, ap, ◌∙◌}
use Prim.Native.Nat.{ℕ, ◌+◌, ◌-◌}
use native.Mathlib.Nat.{le_of_eq}
use native.Mathlib.Omega.{arith}
use lib.ListN.{length, take, drop, length-drop}
use lib.Seq.{take_all}
use Rattle.codes.specs.Codes.{up}
use Rattle.forms.specs.Reading.{spare_clear}
use Rattle.forms.proofs.FormLaws.{tracks_end, tracks_base, tracks_flag}
use Rattle.forms.proofs.inner.reading.right_tracks.Goals.{After-count-2, After-spare_clear, Else-form-end}
use Rattle.forms.proofs.inner.reading.right_tracks.Goals as goal

-- the two counts, and the whole length
bases : (c : After-count-2) → c.count.result ≡ up 2 c.args.n
bases c = c.count.ensures ∙ c.bytes_as.ensures ∙ ap (up 2) c.new.ensures

flags : (c : After-count-2) → c.count-2.result ≡ up 1 c.args.n
flags c = c.count-2.ensures ∙ c.bytes_as-2.ensures ∙ ap (up 1) c.new-2.ensures

pub returns-then-form-end : goal.returns-then-form-end
returns-then-form-end c =
    tracks_end c.args.form.now c.args.n c.args.body (λ e. c.if-form-end.true (e
    ∙ omega (arith, bases (goal.at.returns-then-form-end c).After-count-2, flags (goal.at.returns-then-form-end c).After-count-2)))

all : (c : Else-form-end) → (let a = c.args in length a.form.now ≡ a.body + (up 2 a.n + up 1 a.n))
all c = c.if-form-end.false ∙ omega (arith, bases (goal.at.Else-form-end c).After-count-2, flags (goal.at.Else-form-end c).After-count-2)

-- the base bytes
module _ (c : After-spare_clear) where
  part : c.spare_clear.result ≡ spare_clear 2 c.args.n (take (up 2 c.args.n) (drop c.args.body c.args.form.now))
  part =
      let k : c.args.body + c.count.result - c.args.body ≡ up 2 c.args.n = omega (arith, bases (goal.at.After-spare_clear c).After-count-2) in
      c.spare_clear.ensures ∙ ap (λ (m : ℕ). spare_clear 2 c.args.n (take m (drop c.args.body c.args.form.now))) k

pub returns-then-not-spare_clear : goal.returns-then-not-spare_clear
returns-then-not-spare_clear c =
    let a = c.args in
    tracks_base a.form.now a.n a.body (all (goal.at.returns-then-not-spare_clear c).Else-form-end) (sym (part (goal.at.returns-then-not-spare_clear c).After-spare_clear) ∙ c.if-not-spare_clear.true)

pub returns : goal.returns
returns c =
    let a = c.args in
    let f = a.form.now in
    let m = a.body + c.count.result in
    let k : m ≡ a.body + up 2 a.n = omega (arith, bases (goal.at.returns c).After-count-2) in
    c.spare_clear-2.ensures
    ∙ ap (spare_clear 1 a.n) (take_all _ (drop m f) (le_of_eq (length-drop _ f)) ∙ ap (λ (i : ℕ). drop i f) k)
    ∙ tracks_flag f a.n a.body (all (goal.at.returns c).Else-form-end) (sym (part (goal.at.returns c).After-spare_clear) ∙ c.if-not-spare_clear.false)
