-- The copy, then the zeros behind it. Assumes nothing.
use mathlib.Core.List.{List}
use mathlib.Core.Path.{sym, subst}
use Prim.Native.Nat.{ℕ, ◌+◌, ◌≤◌}
use native.Mathlib.Omega.{arith}
use lib.ListN.{length, length-append, length-drop}
use Rattle.codes.specs.Codes.{trailing}
use Rattle.forms.proofs.WriteLaws.{zeros_on}
use Rattle.forms.proofs.inner.tracks.fill.Goals as goal

pub returns : goal.returns
returns c =
    let t = c.args.track.now in
    let s = c.args.buffer.now in
    let copied = c.copy.ensures in
    zeros_on t s trailing copied c.zero_run.ensures
    (subst (λ (l : List ℕ). length t + trailing ≤ length l) (sym copied) (simp (length-append, length-drop) (omega arith)))
