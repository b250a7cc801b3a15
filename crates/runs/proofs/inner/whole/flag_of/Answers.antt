-- The rule of all 256 bytes, at x. Assumes nothing.
use mathlib.Core.Path.{refl}
use native.Mathlib.Omega.{arith}
use Rattle.codes.specs.Codes.{tab, strict, flag, code}
use Rattle.runs.proofs.FlagLaws.{flag-clear, flag-set}
use Rattle.runs.proofs.inner.whole.flag_of.Goals as goal

pub returns-then-f-eq0 : goal.returns-then-f-eq0
unfolding tab code flag strict
returns-then-f-eq0 c = flag-clear _ c.args.x c.if-f-eq0.true refl (omega arith)

pub returns-else-f-eq0 : goal.returns-else-f-eq0
unfolding tab code flag strict
returns-else-f-eq0 c = flag-set _ c.args.x c.if-f-eq0.false refl (omega arith)
