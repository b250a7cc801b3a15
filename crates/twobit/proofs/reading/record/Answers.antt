-- Where no test holds, the flags are filled, then the bases under them; else both stay. Assumes nothing.
use Rattle.std.specs.Prelude.{Err}
use Rattle.codes.specs.Refusals.{Outcome}
use mathlib.Core.List.{List}
use mathlib.Core.Path.{sym, ap, ◌∙◌}
use Prim.Native.Nat.{ℕ, ◌+◌}
use native.Mathlib.Omega.{arith}
use lib.ListN.{length}
use Rattle.codes.specs.Words.{packed}
use Rattle.codes.proofs.OutcomeLaws.{answer_done, answer_passed, gives_done, gives_refused}
use Rattle.codes.proofs.RefusalLaws.{answer-outcome}
use Rattle.forms.specs.Reading.{filled_with}
use Rattle.twobit.specs.Inner.{Held, held, none_held, held_at}
use Rattle.twobit.specs.Reading.{is_big, flags_of, bases_of, record_outcome, record_answer, bases_after, flags_after}
use Rattle.twobit.proofs.ReadyLaws.{Readable, readable, flags_read_lem, bases_read}
use Rattle.twobit.proofs.RecordLaws.{blocks-front}
use Rattle.twobit.proofs.reading.record.Goals.{In_ok-ready, Start}
use Rattle.twobit.proofs.reading.record.Goals as goal

abbrev outcome : Start → Outcome
outcome s = record_outcome s.args.file.now s.args.offset s.args.bases.now s.args.flags.now

good : (c : In_ok-ready) → let a = c.args in Readable a.file.now a.offset (length a.bases.now) (length a.flags.now) (held c.in_ok-ready.ready)
good c = readable _ _ _ _ _ c.in_ok-ready.ensures

pub overflow_add-offset : goal.overflow_add-offset
overflow_add-offset c =
    let a = c.args in
    record { fits = omega (arith, (good (goal.at.overflow_add-offset c).In_ok-ready).within, blocks-front c.in_ok-ready.ready.big a.file.now (a.offset + 4), c.well_formed) }

pub fill_flags-requires : goal.fill_flags-requires
fill_flags-requires c = let h = good (goal.at.fill_flags-requires c).In_ok-ready in record { n_value = (h.count, h.within); p_value = h.inside; trailing_in_bounds = h.flag-room }

pub read_dna-requires : goal.read_dna-requires
read_dna-requires c = let h = good (goal.at.read_dna-requires c).In_ok-ready in record { n_in_bounds = h.bases_in; trailing_in_bounds = (h.base_room, omega (arith, h.flag-room), h.few) }

pub returns-in_err-ready : goal.returns-in_err-ready
unfolding record_outcome record_answer bases_after flags_after
returns-in_err-ready c =
    let o = outcome (goal.at.returns-in_err-ready c).Start in
    let e = answer-outcome (Err _) o none_held _ none_held none_held c.in_err-ready.ensures in
    let p = sym e in
    record { answer = answer_passed _ _ _ _ _ _ e c.from_residual.ensures.1; base_bytes = gives_refused o _ _ _ p; flag_bytes = gives_refused o _ _ _ p }

pub returns : goal.returns
unfolding record_outcome record_answer bases_after flags_after
returns c =
    let f = c.fill_flags.ensures in
    let d = c.read_dna.ensures in
    let a = c.args in
    let file = a.file.now in
    let old = a.flags.now in
    let m = length a.bases.now in
    let n = length a.flags.now in
    let x = held c.in_ok-ready.ready in
    let h = good (goal.at.returns c).In_ok-ready in record {
      answer = answer_done (outcome (goal.at.returns c).Start) _ ((held_at file a.offset).1.0, (held_at file a.offset).1.1.1.0) (0, 0) h.done
          (ap (λ (i : ℕ). (i, x.1.1.1.0)) c.new.ensures ∙ ap (λ (y : Held). (y.1.0, y.1.1.1.0)) h.whole);
      base_bytes = d
          ∙ ap (λ (t : List ℕ). filled_with (packed 2 t) a.bases.now) (bases_read file a.offset m n x h old _ f)
          ∙ gives_done (outcome (goal.at.returns c).Start) (filled_with (packed 2 (bases_of (is_big file) file a.offset)) a.bases.now) a.bases.now h.done;
      flag_bytes = f
          ∙ ap (λ (t : List ℕ). filled_with (packed 1 t) old) (flags_read_lem file a.offset m n x h)
          ∙ gives_done (outcome (goal.at.returns c).Start) (filled_with (packed 1 (flags_of (is_big file) file a.offset)) old) old h.done;
    }
