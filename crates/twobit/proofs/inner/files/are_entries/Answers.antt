use mathlib.Core.Path.{◌≡◌, sym, ap, ◌∙◌}
use Prim.Native.Nat.{ℕ, ◌+◌, ◌-◌}
use native.Mathlib.Nat.{sub-zero}
use native.Mathlib.Omega.{arith}
use Rattle.twobit.specs.Inner.{behind_says}
use Rattle.twobit.specs.Reading.{are_entries}
use Rattle.twobit.proofs.EntryLaws.{entries_none, entries_bad, entries_next, record_sound}
use Rattle.twobit.proofs.inner.files.are_entries.Goals as goal

pub loop-init : goal.loop-init
loop-init c = (rw sub-zero, λ h. absurd (omega arith))

pub returns-in_default : goal.returns-in_default
returns-in_default c =
    let a = c.args in
    sym (c.loop.invariant.0 ∙ entries_bad a.big a.k a.file.now c.loop.at (a.n - c.loop.counter) (omega arith)
    (sym c.sound_entry.ensures ∙ ap behind_says c.in_default.is))

pub loop-preserved : goal.loop-preserved
loop-preserved c =
    let a = c.args in
    let l = c.loop in
    let e = sym c.sound_entry.ensures ∙ ap behind_says c.in-Some.is in
    let m : a.n - l.counter - 1 ≡ a.n - (l.counter + 1) = omega arith in (
      l.invariant.0
          ∙ entries_next a.big a.k a.file.now l.at c.in-Some.behind.end c.in-Some.behind.offset e (a.n - l.counter) (omega arith)
          ∙ ap (λ (n : ℕ). are_entries a.big a.file.now a.k n c.in-Some.behind.end) m,
      λ h. record_sound a.big a.k a.file.now l.at c.in-Some.behind.end c.in-Some.behind.offset e,
    )

pub returns : goal.returns
returns c =
    let a = c.args in
    let e : a.n - c.loop.counter ≡ 0 = omega arith in
    sym (c.loop.invariant.0 ∙ ap (λ (n : ℕ). are_entries a.big a.file.now a.k n c.loop.at) e ∙ entries_none a.big a.k a.file.now c.loop.at)
