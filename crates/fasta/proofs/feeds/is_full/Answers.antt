-- What is left behind the first `filled` bytes, by its length. Assumes nothing.
use Rattle.std.proofs.Common.{ℕ, ltb, length, drop, sym, ap, arith, length-drop, lt-ltb}
use Rattle.fasta.proofs.feeds.is_full.Goals as goal

pub returns-then-text-filled : goal.returns-then-text-filled
returns-then-text-filled c =
    let a = c.args in
    sym (lt-ltb (length (drop a.filled a.text.now)) 96 (omega (arith, length-drop a.filled a.text.now, c.if-text-filled.true)))

pub returns : goal.returns
returns c = ap (λ (n : ℕ). ltb n 96) (sym (length-drop c.args.filled c.args.text.now))
