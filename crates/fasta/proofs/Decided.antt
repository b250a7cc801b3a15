-- For each public call: any two permitted outcomes coincide, in the answer and in all that is lent to be written.
-- Assumes nothing.
use Rattle.std.proofs.Common.{sym, ◌∙◌}
use Rattle.codes.proofs.Permitted.{Once, skip}
use Rattle.fasta.proofs.reader.start.Kinds as start·kinds
use Rattle.fasta.proofs.reader.start.Reads as start
use Rattle.fasta.proofs.reader.step.Kinds as step·kinds
use Rattle.fasta.proofs.reader.step.Reads as step
use Rattle.fasta.proofs.reader.finish.Kinds as finish·kinds
use Rattle.fasta.proofs.reader.finish.Reads as finish
use Rattle.fasta.proofs.feeds.feed.Kinds as feed·kinds
use Rattle.fasta.proofs.feeds.feed.Reads as feed
use Rattle.fasta.proofs.feeds.feed_end.Kinds as feed-end·kinds
use Rattle.fasta.proofs.feeds.feed_end.Reads as feed-end

pub start_decided : Once 1 start·kinds.ps start·kinds.r start.Post
start_decided κs a x y v w p q =
    let says = p.0 ∙ sym q.0 in
    let out = p.1 ∙ sym q.1 in
    λ i. (says i, (out i, tt))

pub step_decided : Once 5 step·kinds.ps step·kinds.r step.Post
step_decided κs a x y v w p q =
    let says = p.0 ∙ sym q.0 in
    let bases = p.1.0 ∙ sym q.1.0 in
    let flags = p.1.1.0 ∙ sym q.1.1.0 in
    let other = p.1.1.1.0 ∙ sym q.1.1.1.0 in
    let out = p.1.1.1.1 ∙ sym q.1.1.1.1 in
    λ i. (says i, skip 2 (bases i, (flags i, (other i, (out i, tt)))))

pub finish_decided : Once 4 finish·kinds.ps finish·kinds.r finish.Post
finish_decided κs a x y v w p q =
    let says = p.0 ∙ sym q.0 in
    let other = p.1.0 ∙ sym q.1.0 in
    let out = p.1.1 ∙ sym q.1.1 in
    λ i. (says i, skip 3 (other i, (out i, tt)))

pub feed_decided : Once 5 feed·kinds.ps feed·kinds.r feed.Post
feed_decided κs a x y v w p q =
    let says = p.says ∙ sym q.says in
    let bases = p.bases ∙ sym q.bases in
    let flags = p.flags ∙ sym q.flags in
    let other = p.other ∙ sym q.other in
    let text = p.text ∙ sym q.text in
    λ i. (says i, skip 2 (bases i, (flags i, (other i, (text i, skip 1 tt)))))

pub feed_end_decided : Once 4 feed-end·kinds.ps feed-end·kinds.r feed-end.Post
feed_end_decided κs a x y v w p q =
    let says = p.0 ∙ sym q.0 in
    let other = p.1.0 ∙ sym q.1.0 in
    let text = p.1.1 ∙ sym q.1.1 in
    λ i. (says i, skip 3 (other i, (text i, skip 1 tt)))
