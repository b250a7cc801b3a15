-- Two letters: each is a word of one. Assumes nothing.
use mathlib.Core.Path.{sym, ◌∙◌}
use Prim.Native.Nat.{◌+◌}
use Rattle.codes.specs.Codes.{code}
use Rattle.runs.proofs.WholeLaws.{letters_one, letters_two}
use Rattle.runs.proofs.inner.whole.bases2.Goals as goal

pub returns : goal.returns
unfolding code
returns c =
    let ls = c.args.letters.now in
    let i = c.args.i in
    letters_two 2 ls 1 i _ _ (c.pack_char_lossy.ensures ∙ sym (letters_one 2 ls i)) (c.pack_char_lossy-2.ensures ∙ sym (letters_one 2 ls (i + 1)))
