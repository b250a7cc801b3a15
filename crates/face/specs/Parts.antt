-- Parts of a lent buffer that are handed back: the first byte and the count of bytes within the buffer, the offset and the length.
-- Assumes nothing.
use Rattle.std.specs.Prelude.{Result, Bool, true, false, List, ℕ, ◌+◌, ◌-◌, ◌/◌, ◌%◌, length}
use Rattle.codes.specs.Answers.{says_by}
use Rattle.codes.specs.Codes.{per, up, trailing, pick}
use Rattle.codes.specs.Refusals.{Answer, answer, first, view_tests}
use Rattle.codes.specs.declared.refusals.Refusal.{Refusal}
use Rattle.fields.specs.Fields.{slice_tests}
use Rattle.order.specs.Order.{pair_outcome, pair_order, is_second}
use Rattle.given.specs.Face.{Part, no_part}
use Rattle.given.specs.Parts.{part_numbers}
use Rattle.given.specs.declared.inner.parts.Part as Given

-- the normalised part of a view: from byte offset / C8 to byte ceil((offset + length) / C8) + 48, with offset mod C8
abbrev pub part_of : ℕ → ℕ → ℕ → Part
part_of w o len = (o / per w, up w (o + len) + trailing - o / per w, o % per w, len)

-- a view is made over all its bytes
unfoldable pub made_part : ℕ → List ℕ → ℕ → ℕ → Answer Part
made_part w bs o len = answer (first (view_tests w (length bs) o len)) (0, length bs, o, len) no_part

-- slicing keeps the buffer
unfoldable pub sliced_part : ℕ → List ℕ → ℕ → ℕ → ℕ → ℕ → Answer Part
sliced_part w bs o len start end =
    answer (first (slice_tests w (length bs) o len start end)) (0, length bs, o + start, end - start) no_part

unfoldable pub normalised_part : ℕ → List ℕ → ℕ → ℕ → Answer Part
normalised_part w bs o len = answer (first (view_tests w (length bs) o len)) (part_of w o len) no_part

-- whether the second view comes first, and the normalised part of the one that does
unfoldable pub least_part : ℕ → List ℕ → ℕ → ℕ → List ℕ → ℕ → ℕ → Answer (Bool × Part)
least_part w xs ao al bs bo bl =
    answer (pair_outcome w xs ao al bs bo bl)
    (pick (is_second (pair_order w xs ao al bs bo bl)) (true, part_of w bo bl) (false, part_of w ao al)) (false, no_part)

-- what such a choice says
abbrev pub least_says : Result (Bool × Given.Part) Refusal → Answer (Bool × Part)
least_says r = says_by (λ x. (x.0, part_numbers x.1)) (false, no_part) r
