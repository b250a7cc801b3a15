-- The part from `at` on is lent and comes back. Assumes nothing.
use mathlib.Core.List.{append_assoc}
use mathlib.Core.Path.{sym, ◌∙◌}
use Prim.Native.Nat.{◌+◌}
use borrow.Author.Rules.{rules}
use lib.ListN.{length, take, drop}
use lib.Seq.{sets-eq}
use Rattle.codes.proofs.Turns.{lent-on}
use Rattle.rows.proofs.inner.puts.put_text.Goals as goal

pub returns : goal.returns
returns c =
    let at = c.args.at in
    let text = c.args.text.now in
    let out = c.args.out.now in
    record {
      behind = search rules;
      bytes =
          lent-on at (length text) text out c.copy.new.to c.copy.ensures
          ∙ sym (sets-eq text out at c.requires ∙ append_assoc (take at out) text (drop (at + length text) out));
    }
