-- The tests are the definition's. Assumes nothing.
use mathlib.Core.Bool.{Bool, true, false, ◌||◌}
use mathlib.Core.Path.{◌≡◌, sym, ap, ◌∙◌}
use Prim.Native.Nat.{ℕ}
use borrow.Author.Tests.{eq-eqb, ne_eqb}
use lib.Dec.{eqb}
use Rattle.codes.proofs.OutcomeLaws.{or_true}
use Rattle.dna.specs.Numbers.{number_at}
use Rattle.twobit.specs.Files.{signature}
use Rattle.twobit.specs.Reading.{signed, is_big}
use Rattle.twobit.proofs.EntryLaws.{header_short, header_unsigned, header_other, header_good}
use Rattle.twobit.proofs.inner.files.header_of.Goals.{After-number_at-2, After-number_at-big, Joined-not-big, then-not-big+else-number_at-ne-SIGNATURE, else-not-big}
use Rattle.twobit.proofs.inner.files.header_of.Goals as goal

pub returns-then-file-lt-HEADER : goal.returns-then-file-lt-HEADER
returns-then-file-lt-HEADER c = header_short c.args.file.now c.if-file-lt-HEADER.true

-- whether the signature stands with its highest byte first
big_is : (c : After-number_at-big) → is_big c.args.file.now ≡ eqb c.number_at-big.result signature
big_is c = ap (λ (n : ℕ). eqb n signature) (sym c.number_at-big.ensures)

-- behind the first tests, it stands in one order
signed_is : (c : Joined-not-big) → let f = c.args.file.now in (signed false f || signed true f) ≡ true
signed_is c =
    let f = c.args.file.now in
    elim c.if-not-big.branch [
      | then-not-big+else-number_at-ne-SIGNATURE w ↦ ap (λ (t : Bool). t || signed true f)
          (ap (λ (n : ℕ). eqb n signature) (sym w.number_at.ensures) ∙ eq-eqb _ _ w.if-number_at-ne-SIGNATURE.false)
      | else-not-big w ↦ ap (λ (t : Bool). signed false f || t) (big_is (goal.at.Joined-not-big c).After-number_at-big ∙ eq-eqb _ _ w.if-not-big.false)
          ∙ or_true (signed false f)
    ]

pub returns-then-number_at-ne-SIGNATURE : goal.returns-then-number_at-ne-SIGNATURE
returns-then-number_at-ne-SIGNATURE c =
    let f = c.args.file.now in
    header_unsigned f (ap (λ (n : ℕ). eqb n signature) (sym c.number_at.ensures) ∙ ne_eqb _ _ c.if-number_at-ne-SIGNATURE.true)
    (big_is (goal.at.returns-then-number_at-ne-SIGNATURE c).After-number_at-big ∙ ne_eqb _ _ c.if-not-big.true)

-- the version
version : (c : After-number_at-2) → let f = c.args.file.now in number_at (is_big f) 4 f 4 ≡ c.number_at-2.result
version c =
    let f = c.args.file.now in
    ap (λ (b : Bool). number_at b 4 f 4) (big_is (goal.at.After-number_at-2 c).After-number_at-big) ∙ sym c.number_at-2.ensures

pub returns-then-number_at-ne-VERSION : goal.returns-then-number_at-ne-VERSION
returns-then-number_at-ne-VERSION c =
    header_other c.args.file.now (ap (λ (n : ℕ). eqb n 0) (version (goal.at.returns-then-number_at-ne-VERSION c).After-number_at-2) ∙ ne_eqb _ _ c.if-number_at-ne-VERSION.true)

pub returns : goal.returns
returns c =
    let f = c.args.file.now in
    let b = big_is (goal.at.returns c).After-number_at-big in
    header_good f (eqb c.number_at-big.result signature) c.number_at-3.result c.if-file-lt-HEADER.false (signed_is (goal.at.returns c).Joined-not-big)
    (ap (λ (n : ℕ). eqb n 0) (version (goal.at.returns c).After-number_at-2) ∙ eq-eqb _ _ c.if-number_at-ne-VERSION.false) (sym b) (c.number_at-3.ensures
    ∙ ap (λ (t : Bool). number_at t 4 f 8) (sym b))
