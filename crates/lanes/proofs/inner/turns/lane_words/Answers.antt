use Prim.Native.Nat.{ℕ, ◌+◌, ◌*◌}
use native.Mathlib.Omega.{arith}
use borrow.Author.Rules.{rules}
use Rattle.codes.specs.Codes.{chars}
use Rattle.codes.proofs.MadeLaws.{each_more}
use Rattle.lanes.specs.Turns.{Holds}
use Rattle.lanes.proofs.inner.turns.lane_words.Goals as goal

pub loop-l-preserved : goal.loop-l-preserved
loop-l-preserved g c =
    let l = c.loop-l in
    let a = c.args in
    let holds : ℕ → ℕ → Type 0 = λ m x. Holds g.W.Width.BITS (chars g.W.Width.BITS a.bytes.now a.offset a.len) (m * a.n + a.i) x in
    each_more holds 0 l.l c.lane_word.result l.word-items (search rules) l.invariant c.lane_word.ensures

pub returns : goal.returns
returns g c = λ l h. c.loop-l.invariant l (omega arith) (omega arith)
