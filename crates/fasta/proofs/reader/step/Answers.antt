-- Each state's own function. Assumes nothing.
use Rattle.std.proofs.Common.{◌≡◌, ℕ, List, refl, ap, arith}
use Rattle.fasta.specs.Steps.{seen, in_header, in_line}
use Rattle.fasta.specs.Buffers.{onto, track_after, other_after}
use Rattle.fasta.specs.declared.reader.Reader.{Reader}
use Rattle.fasta.specs.declared.reader.Stepped.{Stepped}
use Rattle.fasta.proofs.BoundLaws.{seen-empty, seen_none}
use Rattle.fasta.proofs.CaseLaws.{Moving, Seeing, in_state, idle, held_writes}
use Rattle.fasta.proofs.reader.step.Goals.{Else-out-lt-OUT}
use Rattle.fasta.proofs.reader.step.Goals as goal

pub returns-then-part-eq0 : goal.returns-then-part-eq0
returns-then-part-eq0 c =
    let a = c.args in
    let q = idle a.reader a.part.now a.bases.now a.flags.now a.other.now a.out.now (seen-empty a.part.now a.out.now c.if-part-eq0.true) in
    record { says = q.0; bases = q.1.0; flags = q.1.1.0; other = q.1.1.1.0; out = q.1.1.1.1 }

pub returns-then-out-lt-OUT : goal.returns-then-out-lt-OUT
returns-then-out-lt-OUT c =
    let a = c.args in
    let q = idle a.reader a.part.now a.bases.now a.flags.now a.other.now a.out.now (seen_none a.part.now a.out.now c.if-out-lt-OUT.true) in
    record { says = q.0; bases = q.1.0; flags = q.1.1.0; other = q.1.1.1.0; out = q.1.1.1.1 }

-- with bytes to read and room to write, it is what is done in its state
state : (e : Else-out-lt-OUT) (x : Reader)
    → let a = e.args in
    a.reader ≡ x
    → (r : Stepped) (bases flags other out : List ℕ)
    → Moving a.part.now a.bases.now a.flags.now a.other.now a.out.now r bases flags other out x
    → Seeing a.part.now a.bases.now a.flags.now a.other.now a.out.now r bases flags other out a.reader (seen a.part.now a.out.now)
state e x q r bases flags other out m =
    let a = e.args in
    in_state a.part.now a.bases.now a.flags.now a.other.now a.out.now r bases flags other out a.reader x q (omega arith) e.if-out-lt-OUT.false m

pub returns-in-Start : goal.returns-in-Start
unfolding track_after other_after
returns-in-Start c =
    let q = state (goal.at.returns-in-Start c).Else-out-lt-OUT Reader.Start c.in-Start.is _ _ _ _ _ (c.begin.ensures.says, (refl, (refl, (refl, c.begin.ensures.out)))) in
    record { says = q.0; bases = q.1.0; flags = q.1.1.0; other = q.1.1.1.0; out = q.1.1.1.1 }

pub returns-in-StartHeld : goal.returns-in-StartHeld
unfolding track_after other_after
returns-in-StartHeld c =
    let q = state (goal.at.returns-in-StartHeld c).Else-out-lt-OUT Reader.StartHeld c.in-StartHeld.is _ _ _ _ _ (c.begin_held.ensures.says, (refl, (refl, (refl, c.begin_held.ensures.out)))) in
    record { says = q.0; bases = q.1.0; flags = q.1.1.0; other = q.1.1.1.0; out = q.1.1.1.1 }

pub returns-in-Header : goal.returns-in-Header
unfolding track_after other_after in_header
returns-in-Header c =
    let q = state (goal.at.returns-in-Header c).Else-out-lt-OUT (Reader.Header _) c.in-Header.is _ _ _ _ _ (c.in_header.ensures, (refl, (refl, (refl, refl)))) in
    record { says = q.0; bases = q.1.0; flags = q.1.1.0; other = q.1.1.1.0; out = q.1.1.1.1 }

pub returns-in-Fresh : goal.returns-in-Fresh
returns-in-Fresh c =
    let p = c.at_line.ensures in
    let q = state (goal.at.returns-in-Fresh c).Else-out-lt-OUT (Reader.Fresh _) c.in-Fresh.is _ _ _ _ _ (p.says, (p.bases, (p.flags, (p.other, p.out)))) in
    record { says = q.0; bases = q.1.0; flags = q.1.1.0; other = q.1.1.1.0; out = q.1.1.1.1 }

pub returns-in-Within : goal.returns-in-Within
unfolding track_after other_after in_line
returns-in-Within c =
    let q = state (goal.at.returns-in-Within c).Else-out-lt-OUT (Reader.Within _) c.in-Within.is _ _ _ _ _ (
      c.in_line.ensures.says,
      (c.in_line.ensures.bases, (c.in_line.ensures.flags, (refl, refl))),
    ) in
    record { says = q.0; bases = q.1.0; flags = q.1.1.0; other = q.1.1.1.0; out = q.1.1.1.1 }

pub returns-in-WithinHeld : goal.returns-in-WithinHeld
unfolding track_after other_after
returns-in-WithinHeld c =
    let a = c.args in
    let p = c.in_line_held.ensures in
    let q = state (goal.at.returns-in-WithinHeld c).Else-out-lt-OUT (Reader.WithinHeld _) c.in-WithinHeld.is _ _ _ _ _
    (p.says, (p.bases, (p.flags, (refl, ap (λ (written : List ℕ). onto written a.out.now) (held_writes _ a.part.now))))) in
    record { says = q.0; bases = q.1.0; flags = q.1.1.0; other = q.1.1.1.0; out = q.1.1.1.1 }

pub returns-in-Ended : goal.returns-in-Ended
unfolding track_after other_after
returns-in-Ended c =
    let q = state (goal.at.returns-in-Ended c).Else-out-lt-OUT Reader.Ended c.in-Ended.is _ _ _ _ _ (refl, (refl, (refl, (refl, refl)))) in
    record { says = q.0; bases = q.1.0; flags = q.1.1.0; other = q.1.1.1.0; out = q.1.1.1.1 }
