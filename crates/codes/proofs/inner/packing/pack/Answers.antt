use Rattle.std.proofs.Common.{List, [], ◌∷◌, ◌++◌, ◌≡◌, ◌<◌, ◌+◌, ◌*◌, ◌^◌, length, ℕ, sym, ap, refl, ◌∙◌, arith}
use mathlib.Core.List.{append-nil, append_assoc}
use lib.ListN.{length-append}
use Rattle.codes.specs.Codes.{lossy}
use Rattle.codes.specs.Words.{word}
use Rattle.codes.proofs.CodeLaws.{lossy-lt}
use Rattle.codes.proofs.WordLaws.{word_fits}
use Rattle.codes.proofs.inner.packing.pack.Goals.{In-Some}
use Rattle.codes.proofs.inner.packing.pack.Goals as goal

-- the letters with the next one before those that were taken
split : (c : In-Some) → c.args.letters.now ≡ c.next.new.self.iter.rest.now ++ c.in-Some.letter.now ∷ c.loop-letter.invariant.0
split c =
    let done = c.loop-letter.invariant.0 in
    c.loop-letter.invariant.1 ∙ ap (λ (l : List ℕ). l ++ done) c.in-Some.ensures.steps ∙ append_assoc c.next.new.self.iter.rest.now (c.in-Some.letter.now ∷ []) done

-- there is room for one more letter
room : (c : In-Some) → c.loop-letter.out * 4 + lossy c.in-Some.letter.now < 2 ^ 64
unfolding word
room c =
    let l = c.in-Some.letter.now ∷ c.loop-letter.invariant.0 in
    rw c.loop-letter.invariant.2 (word_fits 2 lossy lossy-lt 32 l (omega (arith, c.requires, ap length (split c), length-append c.next.new.self.iter.rest.now l)))

pub loop-letter-init : goal.loop-letter-init
unfolding word
loop-letter-init c = (
  [],
  rw (c.into_iter-letter-iterator.ensures.into_iter_gives, c.rev-letter-items.ensures.source, c.iter.ensures.rest) (sym (append-nil c.args.letters.now)),
  refl,
)

pub overflow_mul-out : goal.overflow_mul-out
overflow_mul-out c = omega (arith, room c)

pub overflow_add-out : goal.overflow_add-out
overflow_add-out c = rw c.wide.ensures (record { fits = room (goal.at.overflow_add-out c).In-Some })

pub loop-letter-preserved : goal.loop-letter-preserved
unfolding word
loop-letter-preserved c = (
  c.in-Some.letter.now ∷ c.loop-letter.invariant.0,
  split (goal.at.loop-letter-preserved c).In-Some,
  rw (c.wide.ensures, c.loop-letter.invariant.2) refl,
)
