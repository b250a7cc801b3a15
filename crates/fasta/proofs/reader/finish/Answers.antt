-- Each state's own lines. Assumes nothing.
use Rattle.std.proofs.Common.{◌≡◌, ℕ, List, refl, ⊎_elim, arith}
use Rattle.fasta.specs.declared.reader.Reader.{Reader}
use Rattle.fasta.proofs.CaseLaws.{Closing, Ending, ends_in, ends_none}
use Rattle.fasta.proofs.RowLaws.{total_length}
use Rattle.fasta.proofs.FrontLaws.{put_place, put_onto}
use Rattle.fasta.proofs.reader.finish.Goals.{Else-out-lt-OUT}
use Rattle.fasta.proofs.reader.finish.Goals as goal

pub returns-then-out-lt-OUT : goal.returns-then-out-lt-OUT
returns-then-out-lt-OUT c =
    let a = c.args in
    let q = ends_none a.reader a.bases.now a.flags.now a.other.now a.out.now c.if-out-lt-OUT.true in
    record { says = q.0; other = q.1.0; out = q.1.1 }

-- with room to write, it is what is written in its state
state : (e : Else-out-lt-OUT) (x : Reader)
    → let a = e.args in
    a.reader ≡ x
    → (r : ℕ) (other out : List ℕ)
    → Closing a.bases.now a.flags.now a.other.now a.out.now r other out x
    → Ending a.bases.now a.flags.now a.other.now a.out.now r other out a.reader
state e x q r other out m =
    let a = e.args in
    ends_in a.bases.now a.flags.now a.other.now a.out.now r other out a.reader x q e.if-out-lt-OUT.false m

pub returns-in-Start : goal.returns-in-Start
returns-in-Start c =
    let k = (goal.at.returns-in-Start c).Else-out-lt-OUT in
    let a = c.args in
    let p = c.put_total.ensures in
    let m : Closing a.bases.now a.flags.now a.other.now a.out.now c.put_total.result a.other.now c.put_total.new.out Reader.Start =
    (put_place p, (refl, put_onto p (omega (arith, total_length 0)))) in
    let q : Ending a.bases.now a.flags.now a.other.now a.out.now c.put_total.result a.other.now c.put_total.new.out a.reader =
    ⊎_elim (λ e. state k Reader.Start e _ _ _ m) (λ e. state k Reader.StartHeld e _ _ _ m) c.in-Start.is in
    record { says = q.0; other = q.1.0; out = q.1.1 }

pub returns-in-Header : goal.returns-in-Header
returns-in-Header c =
    let p = c.close.ensures in
    let q = state (goal.at.returns-in-Header c).Else-out-lt-OUT (Reader.Header _) c.in-Header.is _ _ _ (p.says, (p.other, p.out)) in
    record { says = q.0; other = q.1.0; out = q.1.1 }

pub returns-in-Ended : goal.returns-in-Ended
returns-in-Ended c =
    let q = state (goal.at.returns-in-Ended c).Else-out-lt-OUT Reader.Ended c.in-Ended.is _ _ _ (refl, (refl, refl)) in
    record { says = q.0; other = q.1.0; out = q.1.1 }

pub returns-in-Fresh : goal.returns-in-Fresh
returns-in-Fresh c =
    let k = (goal.at.returns-in-Fresh c).Else-out-lt-OUT in
    let a = c.args in
    let p = c.close-in-Fresh.ensures in
    let m : Closing a.bases.now a.flags.now a.other.now a.out.now c.close-in-Fresh.result c.close-in-Fresh.new.other c.close-in-Fresh.new.out (Reader.Fresh c.in-Fresh.kept) =
    (p.says, (p.other, p.out)) in
    let q : Ending a.bases.now a.flags.now a.other.now a.out.now c.close-in-Fresh.result c.close-in-Fresh.new.other c.close-in-Fresh.new.out a.reader =
    ⊎_elim (λ e. state k (Reader.Fresh _) e _ _ _ m) (⊎_elim (λ e. state k (Reader.Within _) e _ _ _ m) (λ e. state k (Reader.WithinHeld _) e _ _ _ m)) c.in-Fresh.is in
    record { says = q.0; other = q.1.0; out = q.1.1 }
