-- The line ends in this part, or the part ends in a CR, or it does not. Assumes nothing.
use Rattle.std.proofs.Common.{◌≡◌, ℕ, ◌+◌, List, length, take, sym, ap, ◌∙◌, ap₂, arith, length-take-le}
use Rattle.stores.specs.Stores.{push_ascii, after}
use Rattle.fasta.specs.Report.{content}
use Rattle.fasta.specs.Records.{lengthened}
use Rattle.fasta.specs.Steps.{line_end, line_letters, in_line}
use Rattle.fasta.specs.Buffers.{line_track}
use Rattle.fasta.specs.declared.reader.Record.{Record}
use Rattle.fasta.specs.declared.reader.Reader.TheVariants as Reader
use Rattle.fasta.specs.declared.reader.Stepped.{Stepped}
use Rattle.fasta.proofs.LineLaws.{line_end_lem, line_open, line_closed, letters_fit, letters_are, letters_length, letters_held, letters_all}
use Rattle.fasta.proofs.states.in_line.Goals.{After-add_letters-longer, After-content_length-letters}
use Rattle.fasta.proofs.states.in_line.Goals as goal

module _ (c : After-content_length-letters) where
  abbrev part : List ℕ
  part = c.args.part.now

  end : c.line_end-end.result ≡ line_end part
  end = c.line_end-end.ensures

  count : c.content_length-letters.result ≡ length (content (take c.line_end-end.result part))
  count = c.content_length-letters.ensures

module _ (c : After-add_letters-longer) where
  abbrev n : After-content_length-letters
  n = (goal.at.After-add_letters-longer c).After-content_length-letters

  longer : c.add_letters-longer.result ≡ lengthened c.args.kept (length (line_letters (part n)))
  longer = c.add_letters-longer.ensures.says ∙ ap (lengthened c.args.kept) (letters_length (part n) _ (end n) _ (count n))

  letters : take c.content_length-letters.result (part n) ≡ line_letters (part n)
  letters = letters_are (part n) _ (end n) _ (count n)

  bases : c.add_letters-longer.new.bases ≡ line_track 2 c.args.kept c.args.part.now c.args.bases.now
  unfolding line_track
  bases = c.add_letters-longer.ensures.bases ∙ ap (λ (ls : List ℕ). after 2 c.args.bases.now c.args.kept.count (push_ascii ls)) letters

  flags : c.add_letters-longer.new.flags ≡ line_track 1 c.args.kept c.args.part.now c.args.flags.now
  unfolding line_track
  flags = c.add_letters-longer.ensures.flags ∙ ap (λ (ls : List ℕ). after 1 c.args.flags.now c.args.kept.count (push_ascii ls)) letters

pub slice_bounds-content_length-end : goal.slice_bounds-content_length-end
slice_bounds-content_length-end c =
    let p = c.args.part.now in
    sym (length-take-le c.line_end-end.result p (omega (arith, c.line_end-end.ensures, (line_end_lem p).inside)))

pub slice_bounds-add_letters-end : goal.slice_bounds-add_letters-end
slice_bounds-add_letters-end c = sym (length-take-le c.content_length-letters.result (part c) (letters_fit (part c) _ (end c) _ (count c)))

pub returns-then-end-part : goal.returns-then-end-part
unfolding in_line
returns-then-end-part c =
    let k = (goal.at.returns-then-end-part c).After-add_letters-longer in
    let e = ap₂ {C = Stepped} (λ (r : Record) (m : ℕ). record { reader = Reader.Fresh r; used = m + 1; wrote = 0 }) (longer k) (end (n k)) in
    record { says = rw (line_closed (part (n k)) _ (end (n k)) c.if-end-part.true) e; bases = bases k; flags = flags k }

pub returns-then-letters-end : goal.returns-then-letters-end
unfolding in_line
returns-then-letters-end c =
    let k = (goal.at.returns-then-letters-end c).After-add_letters-longer in
    let e = ap₂ {C = Stepped} (λ (r : Record) (m : ℕ). record { reader = Reader.WithinHeld r; used = m; wrote = 0 }) (longer k) (end (n k)) in
    record { says = rw (line_open (part (n k)) _ (end (n k)) c.if-end-part.false, letters_held (part (n k)) _ (end (n k)) _ (count (n k)) c.if-letters-end.true) e; bases = bases k; flags = flags k }

pub returns : goal.returns
unfolding in_line
returns c =
    let k = (goal.at.returns c).After-add_letters-longer in
    let e = ap₂ {C = Stepped} (λ (r : Record) (m : ℕ). record { reader = Reader.Within r; used = m; wrote = 0 }) (longer k) (end (n k)) in
    record { says = rw (line_open (part (n k)) _ (end (n k)) c.if-end-part.false, letters_all (part (n k)) _ (end (n k)) _ (count (n k)) c.if-letters-end.false) e; bases = bases k; flags = flags k }
