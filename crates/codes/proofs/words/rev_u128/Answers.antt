-- A length that is not refused is one that the flip asks for. Assumes nothing.
use Rattle.std.specs.Prelude.{Ok}
use mathlib.Core.Path.{◌≡◌, sym, ap, ◌∙◌}
use Prim.Native.Nat.{ℕ, ◌+◌, ◌*◌, ◌/◌, ◌^◌}
use Rattle.codes.specs.Codes.{complement}
use Rattle.codes.specs.Refusals.{answer, bad_word}
use Rattle.codes.specs.Words.{flip}
use Rattle.codes.proofs.FlipLaws.{low_in}
use Rattle.codes.proofs.Pairs.{halves_are}
use borrow.Author.Rules.{rules}
use Rattle.codes.proofs.words.rev_u128.Given.{Over}
use Rattle.codes.proofs.words.rev_u128.Goals.{After-bad_word}
use Rattle.codes.proofs.words.rev_u128.Goals as goal

-- what the test says
tested : (g : Over) (c : After-bad_word g) → c.bad_word.result ≡ (bad_word 1 (128 / g.W.Width.BITS) c.args.len.0).0
tested g c = rw c.over_width.ensures at c.bad_word.ensures

pub returns-then-bad_word : goal.returns-then-bad_word
returns-then-bad_word g c = rw (sym (tested g (goal.at.returns-then-bad_word g c).After-bad_word) ∙ c.if-bad_word.true)

pub flip_low_pair-requires : goal.flip_low_pair-requires
flip_low_pair-requires g c =
    low_in g.W.Width.divides 16 (sym (tested g (goal.at.flip_low_pair-requires g c).After-bad_word) ∙ c.if-bad_word.false) c.count.ensures

pub returns : goal.returns
returns g c =
    let a = c.args in
    let r = c.flip_low_pair.result in
    rw (sym (tested g (goal.at.returns g c).After-bad_word) ∙ c.if-bad_word.false)
    (ap (λ (p : ℕ × ℕ). answer (Ok tt) p (0, 0))
    (halves_are _ r.low r.high (search rules)
    (c.flip_low_pair.ensures ∙ ap (λ (k : ℕ). flip g.W.Width.BITS (complement g.W.Width.BITS) k (a.high * 2 ^ 64 + a.low)) c.count.ensures)))
