-- What the calls do is what the theorems speak of, by their contracts as the checker reads them from the source: whatever satisfies the contract of `step`
-- or `finish` is one of the `Calls` of `chunked`, of `feed` or `feed_end` one of the `Feeds` of `collected`, and what follows on a `start` is the report.
-- Assumes nothing.
use Rattle.std.proofs.Common.{◌≡◌, ℕ, ◌+◌, ◌^◌, ◌<◌, ◌≤◌, List, [], ◌++◌, length, take, drop, sym, subst}
use Rattle.codes.proofs.Permitted.{Called}
use Rattle.fasta.specs.Report.{report}
use Rattle.fasta.specs.Steps.{stepped, started}
use Rattle.fasta.specs.Buffers.{onto}
use Rattle.fasta.specs.declared.reader.Stepped.{Stepped}
use Rattle.fasta.proofs.Meaning.{Sized}
use Rattle.fasta.proofs.Chunked.{Calls, chunked}
use Rattle.fasta.proofs.Chunked as Chunked
use Rattle.fasta.proofs.Collected.{Feeds, collected}
use Rattle.fasta.proofs.Collected as Collected
use Rattle.fasta.proofs.reader.start.Kinds as start·kinds
use Rattle.fasta.proofs.reader.start.Reads as start
use Rattle.fasta.proofs.reader.step.Kinds as step·kinds
use Rattle.fasta.proofs.reader.step.Reads as step
use Rattle.fasta.proofs.reader.finish.Kinds as finish·kinds
use Rattle.fasta.proofs.reader.finish.Reads as finish
use Rattle.fasta.proofs.feeds.feed.Kinds as feed·kinds
use Rattle.fasta.proofs.feeds.feed.Reads as feed
use Rattle.fasta.proofs.feeds.feed_end.Kinds as feed-end·kinds
use Rattle.fasta.proofs.feeds.feed_end.Reads as feed-end

-- calls that go on from what a start answers and leaves, by steps or by feeds, give the report
abbrev Starts : List ℕ → Stepped → List ℕ → Type 0
Starts out x out' =
    96 ≤ length out → (bases flags input : List ℕ) → Sized bases flags → length input + 1 < 2 ^ 64
    → ((written : List ℕ) → Calls x.reader bases flags input written → take x.wrote out' ++ written ≡ report input)
    × ((output : List ℕ) → Feeds x.reader bases flags out' x.wrote input output → output ≡ report input)

starts : (out : List ℕ) → Starts out (stepped (started out)) (onto (started out).written out)
starts out m bases flags input size h =
    (λ written cs. chunked out bases flags input written m size cs h, λ output fs. collected out bases flags input output m size fs h)

-- a start
pub start_called : Called 1 start·kinds.ps start·kinds.r start.Post (λ κs a x s. Starts a.0.now x s.0.now)
start_called κs a x s p = subst (λ (z : Stepped × List ℕ). Starts a.0.now z.0 z.1) (λ i. (sym p.0 i, sym p.1 i)) (starts a.0.now)

-- a step, whatever comes after it
pub step_called : Called 5 step·kinds.ps step·kinds.r step.Post (λ κs a x s. (more written : List ℕ)
    → Calls x.reader s.1.1.0.now s.1.1.1.0.now (drop x.used a.1.0.now ++ more) written
    → Calls a.0 a.1.1.0.now a.1.1.1.0.now (a.1.0.now ++ more) (take x.wrote s.1.1.1.1.1.0.now ++ written))
step_called κs a x s p more written =
    subst
    (λ (z : Stepped × (List ℕ × (List ℕ × List ℕ))). Calls z.0.reader z.1.0 z.1.1.0 (drop z.0.used a.1.0.now ++ more) written
    → Calls a.0 a.1.1.0.now a.1.1.1.0.now (a.1.0.now ++ more) (take z.0.wrote z.1.1.1 ++ written))
    (λ i. (sym p.0 i, (sym p.1.0 i, (sym p.1.1.0 i, sym p.1.1.1.1 i)))) (Chunked.step a.1.0.now more a.1.1.1.1.1.0.now)

-- the finish, where there is room for it
pub finish_called : Called 4 finish·kinds.ps finish·kinds.r finish.Post (λ κs a x s. 96 ≤ length a.1.1.1.1.0.now
    → Calls a.0 a.1.0.now a.1.1.0.now [] (take x s.1.1.1.1.0.now))
finish_called κs a x s p m =
    subst (λ (z : ℕ × List ℕ). Calls a.0 a.1.0.now a.1.1.0.now [] (take z.0 z.1)) (λ i. (sym p.0 i, sym p.1.1 i))
    (Chunked.finish a.1.1.1.1.0.now m)

-- a feed, whatever comes after it
pub feed_called : Called 5 feed·kinds.ps feed·kinds.r feed.Post (λ κs a x s. (more output : List ℕ)
    → Feeds x.reader s.1.1.0.now s.1.1.1.0.now s.1.1.1.1.1.0.now x.filled (drop x.used a.1.0.now ++ more) output
    → Feeds a.0 a.1.1.0.now a.1.1.1.0.now a.1.1.1.1.1.0.now a.1.1.1.1.1.1.0 (a.1.0.now ++ more) output)
feed_called κs a x s p more output = Collected.feed a.1.0.now more a.1.1.1.1.0.now p

-- and the end
pub feed_end_called : Called 4 feed-end·kinds.ps feed-end·kinds.r feed-end.Post (λ κs a x s. (output : List ℕ)
    → Feeds x.reader a.1.0.now a.1.1.0.now s.1.1.1.1.0.now x.filled [] output
    → Feeds a.0 a.1.0.now a.1.1.0.now a.1.1.1.1.0.now a.1.1.1.1.1.0 [] output)
feed_end_called κs a x s p output = Collected.end p.0 p.1.1
