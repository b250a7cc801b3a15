-- What a call that is done may change: a run of bytes, and the characters that it overwrites.
-- Assumes nothing.
use Rattle.std.specs.Prelude.{[], ◌∷◌, ℕ, ◌+◌, ◌/◌, ◌≤◌, ◌<◌, length}
use Rattle.codes.specs.Codes.{per, up, trailing}
use Rattle.stores.specs.Stores.{Call, clear, push_ascii, push_seq, overwrite, cut}
use Rattle.runs.specs.Runs.{seq_start}

-- the first byte of a call's run
abbrev pub run_start : ℕ → ℕ → Call → ℕ
run_start w len clear = 0
run_start w len (push_ascii letters) = len / per w
run_start w len (push_seq bs o n) = len / per w
run_start w len (overwrite start letters) = start / per w
run_start w len (cut n) = n / per w

-- the byte before which the run stops; where there are no letters there is none
abbrev pub run_end : ℕ → ℕ → Call → ℕ
run_end w len clear = trailing
run_end w len (push_ascii []) = 0
run_end w len (push_ascii (l ∷ ls)) = up w (len + length (l ∷ ls)) + trailing
run_end w len (push_seq bs o n) = up w (seq_start w len o + n) + trailing
run_end w len (overwrite start []) = 0
run_end w len (overwrite start (l ∷ ls)) = up w (start + length (l ∷ ls))
run_end w len (cut n) = up w n + trailing

-- character i is one that the call overwrites
abbrev pub Overwrites : Call → ℕ → Type 0
Overwrites clear i = ⊥
Overwrites (push_ascii letters) i = ⊥
Overwrites (push_seq bs o n) i = ⊥
Overwrites (overwrite start letters) i = (start ≤ i) × (i < start + length letters)
Overwrites (cut n) i = ⊥
